-- A packet is answered by going up or down, or with a message, exactly where its rule says.
use Rattle.std.proofs.Common.{◌≡◌, ap, subst, ◌⊎◌, inl, inr}
use Rattle.linx_base.specs.declared.frame.Message.{Message}
use Rattle.ethcm_headers.specs.declared.packets.Packet.{Packet}
use Rattle.fragmenter.specs.declared.joiner.Joined.TheVariants.{Whole, Broken}
use Rattle.ethcm_end.specs.declared.answers.Input.{Input}
use Rattle.ethcm_end.specs.declared.answers.Input.TheVariants.{Nothing, WentUp, WentDown, Got}
use Rattle.ethcm_end.specs.States.{EndState, Reaction}
use Rattle.ethcm_end.specs.Rules.{input_of}
use Rattle.ethcm_end.specs.Answers.{BringsUp, InputAnswersExactly, IsGreater, IsReset, TakesTo}
use Rattle.ethcm_end.proofs.ByRule.{by_rules}
use Rattle.ethcm_end.proofs.Following.{input_rows}

-- an answer that isn't Nothing has its cause
abbrev Caused : EndState → Packet → Input → Type 0
Caused s p Nothing = Unit {0}
Caused s p WentUp = BringsUp s p
Caused s p WentDown = IsGreater s p ⊎ (IsReset s p ⊎ TakesTo s p Broken)
Caused s p (Got m) = TakesTo s p (Whole m)

caused : (s : EndState) (p : Packet) → Caused s p (input_of s p).answer
caused s p =
    by_rules (λ r. Caused s p r.answer) s p (record {
      connecting_connect = λ e k. tt;
      connecting_connect_ack = λ e k d. record { connecting = e; to = d; answers = inl k };
      connecting_ack = λ e k d. record { connecting = e; to = d; answers = inr k };
      connecting_other = λ e a b c. tt;
      up_lower = λ peer e h. tt;
      up_greater = λ peer e h. inl (record { peer = peer; up = e; greater = h });
      up_connect = λ e k. tt;
      up_not_mine = λ e k d. tt;
      up_reset = λ b k. inr (inl (record { between = b; reset = k }));
      up_connect_ack = λ b k. tt;
      up_ack = λ b k. tt;
      frames_acked = λ next b k. tt;
      frames_missed = λ next count b k. tt;
      old = λ next seq frame b k h. tt;
      early_again = λ next seq frame b k h a. tt;
      early = λ next seq frame b k h a. tt;
      taken = λ next frame b k m. tt;
      taken_whole = λ next frame m b k w.
          record { between = b; next = next; frame = frame; piece = k; makes = w };
      taken_broken = λ next frame b k w.
          inr (inr (record { between = b; next = next; frame = frame; piece = k; makes = w }));
    })

module _ (s : EndState) (p : Packet) where
  cause_of : (answer : Input) → (input_of s p).answer ≡ answer → Caused s p answer
  cause_of answer e = subst (Caused s p) e (caused s p)

  answer_is : (r : Reaction Input) → input_of s p ≡ r → (input_of s p).answer ≡ r.answer
  answer_is r e = ap (λ (q : Reaction Input). q.answer) e

  goes_up : BringsUp s p → (input_of s p).answer ≡ WentUp
  goes_up h =
      elim h.answers [
        | inl k ↦ answer_is _ ((input_rows s p).connecting_connect_ack h.connecting k h.to)
        | inr k ↦ answer_is _ ((input_rows s p).connecting_ack h.connecting k h.to)
      ]

  goes_down : IsGreater s p ⊎ (IsReset s p ⊎ TakesTo s p Broken)
      → (input_of s p).answer ≡ WentDown
  goes_down (inl h) = answer_is _ ((input_rows s p).up_greater h.peer h.up h.greater)
  goes_down (inr (inl h)) = answer_is _ ((input_rows s p).up_reset h.between h.reset)
  goes_down (inr (inr h)) =
      answer_is _ ((input_rows s p).taken_broken h.next h.frame h.between h.piece h.makes)

  hands_up : (m : Message) → TakesTo s p (Whole m) → (input_of s p).answer ≡ Got m
  hands_up m h =
      answer_is _ ((input_rows s p).taken_whole h.next h.frame m h.between h.piece h.makes)

pub answers_exactly : InputAnswersExactly
answers_exactly s p =
    record {
      up = (cause_of s p WentUp, goes_up s p);
      down = (cause_of s p WentDown, goes_down s p);
      got = λ m. (cause_of s p (Got m), hands_up s p m);
    }
