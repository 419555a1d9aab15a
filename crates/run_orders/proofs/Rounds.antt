-- Rounds leave no choice, and a run that stopped in one went as far as another.
use Rattle.std.proofs.Common.{◌≡◌, ℕ, zero, suc, ◌<◌, ◌≤◌, ◌⊎◌, Bool, false, refl, sym, ap, subst}
use Rattle.std.proofs.Common.{inl, inr, arith, ◌&&◌}
use Rattle.std.proofs.lemmas.Bool.{cases_order}
use Rattle.journal.specs.Shapes.{Shape}
use Rattle.link_laws.specs.Ends.{HasTwoEnds}
use Rattle.run_trunks.specs.States.{trunks_of}
use Rattle.script_lang.specs.Parts.{ScriptParts}
use Rattle.fabric.specs.Machine.{all_have_ended}
use Rattle.fabric.specs.Run.{Layout}
use Rattle.stage.specs.Turns.{AreRounds, AreTurns, IsRound, IsStoppedRound, IsTurnOf, is_over}
use Rattle.stage.specs.Turns.{makers, shape_of}
use Rattle.stage.proofs.Plans.SameTrunks.{still_alike}
use Rattle.run_orders.proofs.States.{AreAlike, GoesOn, Grows, alike-as, alike-turned, by-alike}
use Rattle.run_orders.proofs.States.{goes-grows, grows-on}
use Rattle.run_orders.proofs.Turns.{stop-stop, stop-turn, stopped-grows, turn-alike, turn-grows}

-- ---- how turns and rounds go on

turns-grow : (script : ScriptParts) (n : ℕ) (old new : Layout) → AreTurns script n old new
    → Grows old new
turns-grow script zero old new made = inl made
turns-grow script (suc n) old new made =
    grows-on old made.0 new (turns-grow script n old made.0 made.1.0)
    (turn-grows script made.0 new (suc n) made.1.1)

-- so many turns of more, and the next one
record HasTurn (script : ScriptParts) (n : ℕ) (old new : Layout) : Type 0 where
  pub mid : Layout
  pub made : AreTurns script n old mid
  pub next : Layout
  pub turn : IsTurnOf script (suc n) mid next
  pub after : Grows next new

turns-split : (script : ScriptParts) (n m : ℕ) (old new : Layout) → n < m
    → AreTurns script m old new → HasTurn script n old new
turns-split script n zero old new less made = absurd (omega (arith, less))
turns-split script n (suc m) old new less made =
    go (cases_order n m) (λ fewer. turns-split script n m old made.0 fewer made.1.0)
  where
    go : (n ≡ m) ⊎ ((n < m) ⊎ (m < n)) → (n < m → HasTurn script n old made.0)
        → HasTurn script n old new
    go (inl same) before = record {
      mid = made.0;
      made = subst (λ (k : ℕ). AreTurns script k old made.0) (sym same) made.1.0;
      next = new;
      turn = subst (λ (k : ℕ). IsTurnOf script (suc k) made.0 new) (sym same) made.1.1;
      after = inl refl;
    }
    go (inr (inl fewer)) before =
        let was : HasTurn script n old made.0 = before fewer in
        record {
          mid = was.mid;
          made = was.made;
          next = was.next;
          turn = was.turn;
          after = grows-on was.next made.0 new was.after
              (turn-grows script made.0 new (suc m) made.1.1);
        }
    go (inr (inr more)) before = absurd (omega (arith, less, more))

-- so many rounds of more, and the next one
pub record HasRound (script : ScriptParts) (n : ℕ) (start new : Layout) : Type 0 where
  pub mid : Layout
  pub made : AreRounds script n start mid
  pub running : is_over mid ≡ false
  pub next : Layout
  pub round : IsRound script mid next
  pub after : Grows next new

pub rounds-split : (script : ScriptParts) (n m : ℕ) (start new : Layout) → n < m
    → AreRounds script m start new → HasRound script n start new
rounds-split script n zero start new less made = absurd (omega (arith, less))
rounds-split script n (suc m) start new less made =
    go (cases_order n m) (λ fewer. rounds-split script n m start made.0 fewer made.1.0)
  where
    go : (n ≡ m) ⊎ ((n < m) ⊎ (m < n)) → (n < m → HasRound script n start made.0)
        → HasRound script n start new
    go (inl same) before = record {
      mid = made.0;
      made = subst (λ (k : ℕ). AreRounds script k start made.0) (sym same) made.1.0;
      running = made.1.1.0;
      next = new;
      round = made.1.1.1;
      after = inl refl;
    }
    go (inr (inl fewer)) before =
        let was : HasRound script n start made.0 = before fewer in
        record {
          mid = was.mid;
          made = was.made;
          running = was.running;
          next = was.next;
          round = was.round;
          after = grows-on was.next made.0 new was.after
              (turns-grow script (makers script) made.0 new made.1.1.1);
        }
    go (inr (inr more)) before = absurd (omega (arith, less, more))

-- ---- from states that are alike

module _ (script : ScriptParts) (ends : HasTwoEnds (shape_of script)) where
  abbrev shape : Shape
  shape = shape_of script

  -- all is over in both or in none
  pub over-alike : (one two : Layout) → AreAlike shape one two → is_over one ≡ is_over two
  over-alike =
      by-alike shape (λ (f g : Layout). is_over f ≡ is_over g)
      (λ log first second same.
      ap (λ (still : Bool). all_have_ended shape log.steps && still)
      (still_alike shape log.steps (trunks_of first) (trunks_of second) same))

  -- so many turns, and so many rounds
  turns-alike : (n : ℕ) → n ≤ makers script → (one two new_one new_two : Layout)
      → AreAlike shape one two → AreTurns script n one new_one → AreTurns script n two new_two
      → AreAlike shape new_one new_two
  turns-alike zero within one two new_one new_two alike made_one made_two =
      alike-as shape one two new_one new_two alike made_one made_two
  turns-alike (suc n) within one two new_one new_two alike made_one made_two =
      turn-alike script ends made_one.0 made_two.0
      (turns-alike n (omega (arith, within)) one two made_one.0 made_two.0 alike made_one.1.0
      made_two.1.0) new_one new_two (suc n) within made_one.1.1 made_two.1.1

  pub rounds-alike : (n : ℕ) (one two new_one new_two : Layout) → AreAlike shape one two
      → AreRounds script n one new_one → AreRounds script n two new_two
      → AreAlike shape new_one new_two
  rounds-alike zero one two new_one new_two alike made_one made_two =
      alike-as shape one two new_one new_two alike made_one made_two
  rounds-alike (suc n) one two new_one new_two alike made_one made_two =
      turns-alike (makers script) (omega arith) made_one.0 made_two.0 new_one new_two
      (rounds-alike n one two made_one.0 made_two.0 alike made_one.1.0 made_two.1.0)
      made_one.1.1.1 made_two.1.1.1

  -- A ROUND THAT STOPPED, and one with more turns: it goes on from where the other one stopped
  pub stop-turns : (n m : ℕ) → n < m → n < makers script → (one two new_one new_two : Layout)
      → AreAlike shape one two → IsStoppedRound script n one new_one
      → AreTurns script m two new_two → GoesOn shape new_one new_two
  stop-turns n m less few one two new_one new_two alike stopped made =
      let was : HasTurn script n two new_two = turns-split script n m two new_two less made in
      let between : AreAlike shape stopped.0 was.mid =
      turns-alike n (omega (arith, few)) one two stopped.0 was.mid alike stopped.1.0 was.made in
      goes-grows shape new_one was.next new_two
      (stop-turn script ends stopped.0 was.mid between new_one was.next (suc n) stopped.1.1
      was.turn) was.after

  -- of two rounds that stopped one goes on from where the other one stopped
  pub stop-stops : (n m : ℕ) → n < makers script → m < makers script
      → (one two new_one new_two : Layout) → AreAlike shape one two
      → IsStoppedRound script n one new_one → IsStoppedRound script m two new_two
      → GoesOn shape new_one new_two ⊎ GoesOn shape new_two new_one
  stop-stops n m few_one few_two one two new_one new_two alike first second =
      go (cases_order n m)
    where
      go : (n ≡ m) ⊎ ((n < m) ⊎ (m < n))
          → GoesOn (shape_of script) new_one new_two ⊎ GoesOn (shape_of script) new_two new_one
      go (inl same) =
          let other : IsStoppedRound script n two new_two =
          subst (λ (k : ℕ). IsStoppedRound script k two new_two) (sym same) second in
          stop-stop script ends first.0 other.0
          (turns-alike n (omega (arith, few_one)) one two first.0 other.0 alike first.1.0
          other.1.0) new_one new_two (suc n) first.1.1 other.1.1
      go (inr (inl less)) =
          inl (goes-grows (shape_of script) new_one second.0 new_two
          (stop-turns n m less few_one one two new_one second.0 alike first second.1.0)
          (stopped-grows script second.0 new_two (suc m) second.1.1))
      go (inr (inr more)) =
          inr (goes-grows (shape_of script) new_two first.0 new_one
          (stop-turns m n more few_two two one new_two first.0
          (alike-turned (shape_of script) one two alike) second first.1.0)
          (stopped-grows script first.0 new_one (suc n) first.1.1))

-- a round that stopped adds steps, or changes nothing
pub stopped-grow : (script : ScriptParts) (n : ℕ) (old new : Layout)
    → IsStoppedRound script n old new → Grows old new
stopped-grow script n old new stopped =
    grows-on old stopped.0 new (turns-grow script n old stopped.0 stopped.1.0)
    (stopped-grows script stopped.0 new (suc n) stopped.1.1)
