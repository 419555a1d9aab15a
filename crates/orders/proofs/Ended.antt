-- Two whole runs in one order have one journal.
use Rattle.std.proofs.Common.{◌≡◌, ℕ, ◌<◌, true, sym, ◌∙◌, subst, inl, inr, true≢false}
use Rattle.std.proofs.lemmas.Bool.{cases_order}
use Rattle.script_lang.specs.Fits.{IsScript}
use Rattle.script_lang.specs.Parts.{ScriptParts}
use Rattle.fabric.specs.Run.{Layout}
use Rattle.stage.specs.Turns.{is_over}
use Rattle.run_orders.proofs.Rounds.{over-alike}
use Rattle.order_rules.specs.Orders.{Order}
use Rattle.orders.specs.Runs.{AreNextTurns, IsInOrder, Standing}
use Rattle.orders.proofs.Both.{AreBoth, ends, many-both, start, start-both}
use Rattle.orders.proofs.Splits.{HasNext, next-split}

module _ (script : ScriptParts) (is : IsScript script) (order : Order) where
  -- after the turn that ends all there is no further one
  pub no-more : (n m : ℕ) (one two : Standing) → AreNextTurns script n (start script is order) one
      → is_over one.run ≡ true → AreNextTurns script m (start script is order) two → n < m → ⊥
  no-more n m one two first over second less =
      let was : HasNext script n (start script is order) two =
      next-split script n m (start script is order) two less second in
      let both : AreBoth script is one was.mid =
      many-both script is n (start script is order) one was.mid (start-both script is order) first
      was.made in
      true≢false (sym over
      ∙ over-alike script (ends script is) one.run was.mid.run both.run ∙ was.turn.running)

  pub decided : (one two : Layout) → IsInOrder script order one → IsInOrder script order two
      → one.log ≡ two.log
  decided one two first second =
      let end_one : Standing = record { order = first.last; run = one } in
      let end_two : Standing = record { order = second.last; run = two } in
      elim (cases_order first.turns second.turns) [
        | inl same ↦
            (many-both script is second.turns (start script is order) end_one end_two
            (start-both script is order)
            (subst (λ (n : ℕ). AreNextTurns script n (start script is order) end_one) same
            first.made) second.made).run.log
        | inr (inl less) ↦
            absurd (no-more first.turns second.turns end_one end_two first.made first.over
            second.made less)
        | inr (inr more) ↦
            absurd (no-more second.turns first.turns end_two end_one second.made second.over
            first.made more)
      ]
