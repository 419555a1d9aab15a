-- The turns of a run that has more of them.
use Rattle.std.proofs.Common.{ℕ, zero, suc, ◌<◌, refl, sym, ap, subst, inl, inr, arith}
use Rattle.std.proofs.lemmas.Bool.{cases_order}
use Rattle.script_lang.specs.Parts.{ScriptParts}
use Rattle.run_orders.proofs.States.{Grows, grows-on}
use Rattle.run_orders.proofs.Turns.{turn-grows}
use Rattle.orders.specs.Runs.{AreNextTurns, IsNextTurn, Standing, next_in}

pub next-grows : (script : ScriptParts) (n : ℕ) (start now : Standing) → AreNextTurns script n start now
    → Grows start.run now.run
next-grows script zero start now made = inl (ap (λ (s : Standing). s.run) made)
next-grows script (suc n) start now made =
    grows-on start.run made.0.run now.run (next-grows script n start made.0 made.1.0)
    (turn-grows script made.0.run now.run (next_in script made.0).maker made.1.1.turn)

-- so many turns of more, the next one, and what came behind it
pub record HasNext (script : ScriptParts) (n : ℕ) (start now : Standing) : Type 0 where
  pub mid : Standing
  pub made : AreNextTurns script n start mid
  pub next : Standing
  pub turn : IsNextTurn script mid next
  pub after : Grows next.run now.run

pub next-split : (script : ScriptParts) (n m : ℕ) (start now : Standing) → n < m
    → AreNextTurns script m start now → HasNext script n start now
next-split script n zero start now less made = absurd (omega (arith, less))
next-split script n (suc m) start now less made =
    elim (cases_order n m) [
      | inl same ↦ record {
        mid = made.0;
        made = subst (λ (k : ℕ). AreNextTurns script k start made.0) (sym same) made.1.0;
        next = now;
        turn = made.1.1;
        after = inl refl;
      }
      | inr (inl fewer) ↦
          let was : HasNext script n start made.0 =
          next-split script n m start made.0 fewer made.1.0 in
          record {
            mid = was.mid;
            made = was.made;
            next = was.next;
            turn = was.turn;
            after = grows-on was.next.run made.0.run now.run was.after
                (turn-grows script made.0.run now.run (next_in script made.0).maker made.1.1.turn);
          }
      | inr (inr more) ↦ absurd (omega (arith, less, more))
    ]
