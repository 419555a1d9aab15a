-- What a side says may go over its link.
use Rattle.std.proofs.Common.{◌≡◌, ◌≤◌, ◌*◌, ◌++◌, ℕ, suc, List, [], ◌∷◌, length, arith, refl, sym}
use Rattle.std.proofs.Common.{◌∙◌, ap, subst, ◌≢◌, Option, Some, None, true, false, map, IsSome}
use Rattle.std.proofs.Common.{is_some}
use Rattle.std.specs.List.{AllByRecursion}
use Rattle.linx_base.specs.Frames.{IsMessage}
use Rattle.linx_base.specs.declared.frame.Message.{Message}
use Rattle.linx_base.specs.declared.identity.Side.{Side}
use Rattle.linx_base.specs.declared.identity.Side.TheVariants.{First, Second}
use Rattle.linx_base.specs.declared.identity.Inc.{Inc}
use Rattle.linx_base.specs.declared.identity.Session.{Session}
use Rattle.ethcm_window.specs.Sending.{left_of}
use Rattle.ethcm_end.specs.States.{peer_of}
use Rattle.carrier.specs.Events.{half_of}
use Rattle.rlnh_end.specs.Words.{Word}
use Rattle.rlnh_end.specs.Calls.{Saying, with_words}
use Rattle.rlnh_end.specs.States.{RlnhTables, addr_met}
use Rattle.trunk.specs.Events.{TrunkSide, TrunkState, side_of, HasNumbersLeft, kept_of, near_said}
use Rattle.trunk.specs.Events.{seen_from}
use Rattle.trunk.specs.Keeping.{KeepsTrunk, messages_of}
use Rattle.trunk.specs.Laws.{IsOffered}
use Rattle.trunk.specs.Parts.{side_says, with_side, sends_at}
use Rattle.trunk.proofs.Messages.Offers.{out_words}
use Rattle.trunk.proofs.EachEvent.Trunks.{agree}
use Rattle.trunk_record.specs.Sayings.{heard_as, is_live}

-- ---- what a side has to say may go over its link

-- a side is up, and what it has to say are messages, for whose pieces there are numbers
pub record IsReady (side : Side) (t : TrunkState) : Type 0 where
  pub up : IsSome (peer_of (half_of side t.link).end)
  pub messages : AllByRecursion IsMessage (side_of side t).end.out
  pub left : length (side_of side t).end.out * 1024 ≤ left_of (half_of side t.link).end.tx

few_messages : (ws : List Word) → length (messages_of ws) ≡ length ws
few_messages [] = refl
few_messages (w ∷ ws) = ap (λ n. suc n) (few_messages ws)

module _ (old out : List Message) (ws : List Word) (none : old ≡ [])
    (is : out ≡ with_words old ws) where
  out_is : out ≡ messages_of ws
  out_is = is ∙ out_words old ws ∙ ap (λ o. o ++ messages_of ws) none

  all_messages : AllByRecursion IsMessage (messages_of ws) → AllByRecursion IsMessage out
  all_messages all = subst (λ ms. AllByRecursion IsMessage ms) (sym out_is) all

  few_numbers : (n : ℕ) → length ws ≤ 4 → 4096 ≤ n → length out * 1024 ≤ n
  few_numbers n few left = omega (arith, ap length out_is, few_messages ws, few, left)

-- where it had nothing to say before
pub ready : (side : Side) (t : TrunkState) (s : TrunkSide) (ws : List Word)
    → (side_of side t).end.out ≡ [] → s.end.out ≡ with_words (side_of side t).end.out ws
    → IsSome (peer_of (half_of side t.link).end) → AllByRecursion IsMessage (messages_of ws)
    → length ws ≤ 4 → HasNumbersLeft side t
    → IsReady side (with_side side t s)
ready First t s ws none is up all few left =
    record {
      up = up;
      messages = all_messages t.first.end.out s.end.out ws none is all;
      left = few_numbers t.first.end.out s.end.out ws none is (left_of t.link.first.end.tx) few
          left;
    }
ready Second t s ws none is up all few left =
    record {
      up = up;
      messages = all_messages t.second.end.out s.end.out ws none is all;
      left = few_numbers t.second.end.out s.end.out ws none is (left_of t.link.second.end.tx) few
          left;
    }

-- ---- a side that has met a peer is up

-- nobody is met while a side isn't
pub meets_peer : (side : Side) (t : TrunkState) → KeepsTrunk t → (to : Inc)
    → is_live to (map heard_as (kept_of side t).now.given) ≡ true
    → (kept_of side t).now.peer ≢ None
meets_peer side t k to lives none =
    let a = agree side t k in
    let met : false ≡ true =
    subst (λ (s : RlnhTables). is_some (addr_met s.met to) ≡ true) (a.down none)
    (a.met to ∙ lives) in
    absurd cc

some_peer : (o : Option Session) → o ≢ None → IsSome o
some_peer None up = absurd (up refl)
some_peer (Some y) up = refl

pub meets_up : (side : Side) (t : TrunkState) → KeepsTrunk t → (to : Inc)
    → is_live to (map heard_as (kept_of side t).now.given) ≡ true
    → IsSome (peer_of (half_of side t.link).end)
meets_up side t k to lives =
    subst IsSome (sym (agree side t k).peer)
    (some_peer (kept_of side t).now.peer (meets_peer side t k to lives))

said_up : (side : Side) (t : TrunkState) (s : TrunkSide)
    → IsSome (peer_of (half_of side t.link).end)
    → IsSome (peer_of (half_of side (with_side side t s).link).end)
said_up First t s up = up
said_up Second t s up = up

-- it is still up once it has said something
pub stays_up : (side : Side) (t u : TrunkState) (s : TrunkSide) → u ≡ with_side side t s
    → IsSome (peer_of (half_of side t.link).end) → IsSome (peer_of (half_of side u.link).end)
stays_up side t u s e up =
    subst (λ (x : TrunkState). IsSome (peer_of (half_of side x.link).end)) (sym e)
    (said_up side t s up)

-- and what it says goes over its link
sends_said : (side : Side) (t : TrunkState) (made : Saying)
    → IsSome (peer_of (half_of side t.link).end)
    → sends_at side (with_side side t (side_says (side_of side t) made))
    ≡ seen_from side (near_said (seen_from side t) made)
sends_said First t made up =
    let is : is_some (peer_of t.link.first.end) ≡ true = up in rw is refl
sends_said Second t made up =
    let is : is_some (peer_of t.link.second.end) ≡ true = up in rw is refl

pub sends_up : (side : Side) (t u v : TrunkState) (made : Saying)
    → IsSome (peer_of (half_of side t.link).end)
    → u ≡ with_side side t (side_says (side_of side t) made) → v ≡ sends_at side u
    → v ≡ seen_from side (near_said (seen_from side t) made)
sends_up side t u v made up said sent =
    sent ∙ ap (sends_at side) said ∙ sends_said side t made up

-- ---- a call

said_messages : (side : Side) (t : TrunkState) → KeepsTrunk t → (made : Saying)
    → AllByRecursion IsMessage (messages_of made.says)
    → AllByRecursion IsMessage
    (side_of side (with_side side t (side_says (side_of side t) made))).end.out
said_messages First t k made all =
    all_messages t.first.end.out (with_words t.first.end.out made.says) made.says
    (agree First t k).out refl all
said_messages Second t k made all =
    all_messages t.second.end.out (with_words t.second.end.out made.says) made.says
    (agree Second t k).out refl all

-- what a side says in a call are messages
pub call_messages : (side : Side) (t : TrunkState) → KeepsTrunk t → (made : Saying) (count : ℕ)
    → IsOffered made count → (u : TrunkState)
    → u ≡ with_side side t (side_says (side_of side t) made)
    → AllByRecursion IsMessage (side_of side u).end.out
call_messages side t k made count offered u e =
    subst (λ (x : TrunkState). AllByRecursion IsMessage (side_of side x).end.out) (sym e)
    (said_messages side t k made offered.messages)
