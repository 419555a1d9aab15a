-- Two runs in one order that a full journal stopped have one journal, and none of them is beside one
-- that came to its end.
use Rattle.std.proofs.Common.{◌≡◌, ℕ, ◌<◌, ◌⊎◌, Bool, true, false, length, sym, ◌∙◌, subst, inl}
use Rattle.std.proofs.Common.{inr, nat_le, true≢false}
use Rattle.std.proofs.lemmas.Bool.{cases_order}
use Rattle.journal.specs.Logs.{is_full}
use Rattle.script_lang.specs.Fits.{IsScript}
use Rattle.script_lang.specs.Parts.{ScriptParts}
use Rattle.fabric.specs.Run.{Layout}
use Rattle.stage.specs.Plays.{IsSoFar}
use Rattle.stage.specs.Turns.{IsStoppedBy, IsStoppedOf, IsTurnOf, shape_of}
use Rattle.run_orders.proofs.Rounds.{over-alike}
use Rattle.run_orders.proofs.States.{AreAlike, GoesOn, full-stays, goes-grows}
use Rattle.run_orders.proofs.Turns.{stop-stop, stop-turn, stopped-grows}
use Rattle.order_rules.specs.Orders.{Named, Order}
use Rattle.orders.specs.Runs.{AreNextTurns, IsInOrder, IsStoppedAt, IsStoppedInOrder, Standing}
use Rattle.orders.specs.Runs.{next_in}
use Rattle.orders.specs.Laws.{IsFilledInOrder}
use Rattle.orders.proofs.Both.{AreBoth, ends, many-both, named-same, start, start-both}
use Rattle.orders.proofs.Ended.{no-more}
use Rattle.orders.proofs.Splits.{HasNext, next-split}

-- a turn of which nothing is done has stopped
stop-none : (script : ScriptParts) (n : ℕ) (old new : Layout) → new ≡ old
    → IsStoppedOf script n old new
stop-none script n old new same = go (nat_le n (length script.actors))
  where
    go : (b : Bool) → IsStoppedBy b script n old new
    go true = inl same
    go false = same

pub stop-of : (script : ScriptParts) (old : Standing) (new : Layout) → IsStoppedAt script old new
    → IsStoppedOf script (next_in script old).maker old.run new
stop-of script old new stopped =
    elim stopped.stopped [
      | inl same ↦ stop-none script (next_in script old).maker old.run new same
      | inr half ↦ half
    ]

module _ (script : ScriptParts) (is : IsScript script) (order : Order) where
  -- one with more turns goes on from where the other one stopped
  stop-next : (n m : ℕ) (old_one two : Standing) (one : Layout)
      → AreNextTurns script n (start script is order) old_one → IsStoppedAt script old_one one
      → AreNextTurns script m (start script is order) two → n < m
      → GoesOn (shape_of script) one two.run
  stop-next n m old_one two one made_one stopped_one made_two less =
      let was : HasNext script n (start script is order) two =
      next-split script n m (start script is order) two less made_two in
      let both : AreBoth script is old_one was.mid =
      many-both script is n (start script is order) old_one was.mid (start-both script is order)
      made_one was.made in
      let turn : IsTurnOf script (next_in script old_one).maker was.mid.run was.next.run =
      subst (λ (x : Named). IsTurnOf script x.maker was.mid.run was.next.run)
      (sym (named-same script is old_one was.mid both)) was.turn.turn in
      goes-grows (shape_of script) one was.next.run two.run
      (stop-turn script (ends script is) old_one.run was.mid.run both.run one was.next.run
      (next_in script old_one).maker (stop-of script old_one one stopped_one) turn)
      was.after

  stop-on : (n m : ℕ) (old_one old_two : Standing) (one two : Layout)
      → AreNextTurns script n (start script is order) old_one → IsStoppedAt script old_one one
      → AreNextTurns script m (start script is order) old_two → IsStoppedAt script old_two two
      → n < m → GoesOn (shape_of script) one two
  stop-on n m old_one old_two one two made_one stopped_one made_two stopped_two less =
      goes-grows (shape_of script) one old_two.run two
      (stop-next n m old_one old_two one made_one stopped_one made_two less)
      (stopped-grows script old_two.run two (next_in script old_two).maker
      (stop-of script old_two two stopped_two))

  -- of two with as many turns one goes on from the other
  stop-same : (n : ℕ) (old_one old_two : Standing) (one two : Layout)
      → AreNextTurns script n (start script is order) old_one → IsStoppedAt script old_one one
      → AreNextTurns script n (start script is order) old_two → IsStoppedAt script old_two two
      → GoesOn (shape_of script) one two ⊎ GoesOn (shape_of script) two one
  stop-same n old_one old_two one two made_one stopped_one made_two stopped_two =
      let both : AreBoth script is old_one old_two =
      many-both script is n (start script is order) old_one old_two (start-both script is order)
      made_one made_two in
      let other : IsStoppedOf script (next_in script old_one).maker old_two.run two =
      subst (λ (x : Named). IsStoppedOf script x.maker old_two.run two)
      (sym (named-same script is old_one old_two both)) (stop-of script old_two two stopped_two) in
      stop-stop script (ends script is) old_one.run old_two.run both.run one two
      (next_in script old_one).maker (stop-of script old_one one stopped_one) other

  no-step : (one two : Layout) → is_full one.log.steps ≡ true → IsSoFar script two
      → GoesOn (shape_of script) one two → AreAlike (shape_of script) one two
  no-step one two full so_far on = full-stays script one two full so_far.run on

  goes-same : (one two : Layout) → IsFilledInOrder script order one
      → IsFilledInOrder script order two
      → GoesOn (shape_of script) one two ⊎ GoesOn (shape_of script) two one → one.log ≡ two.log
  goes-same one two first second (inl on) = (no-step one two first.full second.so_far on).log
  goes-same one two first second (inr on) = sym (no-step two one second.full first.so_far on).log

  filled-in : (one two : Layout) → IsFilledInOrder script order one
      → IsFilledInOrder script order two → one.log ≡ two.log
  filled-in one two first second =
      let a = first.stopped in
      let b = second.stopped in
      goes-same one two first second
      (elim (cases_order a.turns b.turns) [
        | inl same ↦
            stop-same b.turns a.before b.before one two
            (subst (λ (n : ℕ). AreNextTurns script n (start script is order) a.before) same a.made)
            a.stopped b.made b.stopped
        | inr (inl less) ↦
            inl (stop-on a.turns b.turns a.before b.before one two a.made a.stopped b.made
            b.stopped less)
        | inr (inr more) ↦
            inr (stop-on b.turns a.turns b.before a.before two one b.made b.stopped a.made
            a.stopped more)
      ])

  -- NO RUN COMES TO ITS END beside one that a full journal stopped
  apart-in : (one two : Layout) → IsSoFar script one → IsInOrder script order one
      → IsFilledInOrder script order two → ⊥
  apart-in one two so_far whole filled =
      let at : IsStoppedInOrder script order two = filled.stopped in
      let end : Standing = record { order = whole.last; run = one } in
      elim (cases_order whole.turns at.turns) [
        | inl same ↦
            let both : AreBoth script is end at.before =
            many-both script is at.turns (start script is order) end at.before
            (start-both script is order)
            (subst (λ (n : ℕ). AreNextTurns script n (start script is order) end) same whole.made)
            at.made in
            true≢false (sym whole.over
            ∙ over-alike script (ends script is) one at.before.run both.run ∙ at.stopped.running)
        | inr (inl less) ↦
            no-more script is order whole.turns at.turns end at.before whole.made whole.over at.made
            less
        | inr (inr more) ↦
            let alike : AreAlike (shape_of script) two one =
            no-step two one filled.full so_far
            (stop-next at.turns whole.turns at.before end two at.made at.stopped whole.made more) in
            true≢false (sym whole.over
            ∙ sym (over-alike script (ends script is) two one alike) ∙ filled.due)
      ]

pub filled : (script : ScriptParts) (order : Order) (one two : Layout)
    → IsFilledInOrder script order one → IsFilledInOrder script order two → one.log ≡ two.log
filled script order one two first second =
    filled-in script first.so_far.declared order one two first second

pub apart : (script : ScriptParts) (order : Order) (one two : Layout) → IsSoFar script one
    → IsInOrder script order one → IsFilledInOrder script order two → ⊥
apart script order one two so_far whole filled =
    apart-in script so_far.declared order one two so_far whole filled
