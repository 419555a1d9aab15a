-- A SCRIPT HAS ONE RUN in the fixed order: it comes to its end, or a full journal stops it.
use Rattle.std.proofs.Common.{◌≡◌, ℕ, ◌<◌, ◌⊎◌, true, length, refl, sym, ◌∙◌, inl, inr, subst}
use Rattle.std.proofs.Common.{true≢false}
use Rattle.std.proofs.lemmas.Bool.{cases_order}
use Rattle.journal.specs.Shapes.{Shape}
use Rattle.journal.specs.Logs.{is_full}
use Rattle.link_laws.specs.Ends.{HasTwoEnds}
use Rattle.script_lang.specs.Fits.{IsScript}
use Rattle.script_lang.specs.Parts.{ScriptParts}
use Rattle.fabric.specs.Run.{Layout}
use Rattle.fabric.proofs.Methods.Runs.{two-ends}
use Rattle.stage.specs.Plays.{IsSoFar}
use Rattle.stage.specs.Turns.{AreRounds, IsStoppedRun, IsWhole, first_layout, is_over, makers}
use Rattle.stage.specs.Turns.{shape_of}
use Rattle.stage.proofs.Rounds.LayingOut.{laid_out}
use Rattle.run_orders.specs.Laws.{IsEnded, IsFilled}
use Rattle.run_orders.proofs.Rounds.{HasRound, over-alike, rounds-alike, rounds-split, stop-stops}
use Rattle.run_orders.proofs.Rounds.{stop-turns, stopped-grow}
use Rattle.run_orders.proofs.States.{AreAlike, GoesOn, alike-same, full-stays, goes-grows}

-- the links of a script are between two nodes each
script-ends : (script : ScriptParts) → IsScript script → HasTwoEnds (shape_of script)
script-ends script is =
    two-ends (length script.names.nodes) (shape_of script) (laid_out script is)

module _ (script : ScriptParts) (is : IsScript script) where
  abbrev shape : Shape
  shape = shape_of script

  abbrev start : Layout
  start = first_layout script

  -- so many rounds make one state
  same-rounds : (n : ℕ) (one two : Layout) → AreRounds script n start one
      → AreRounds script n start two → AreAlike shape one two
  same-rounds n one two first second =
      rounds-alike script (script-ends script is) n start start one two
      (alike-same shape start refl) first second

  -- after the round that ends all there is no further one
  no-more : (n m : ℕ) (one two : Layout) → AreRounds script n start one → is_over one ≡ true
      → AreRounds script m start two → n < m → ⊥
  no-more n m one two first over second less =
      let was : HasRound script n start two = rounds-split script n m start two less second in
      true≢false (sym over
      ∙ over-alike script (script-ends script is) one was.mid
      (same-rounds n one was.mid first was.made) ∙ was.running)

  -- TWO WHOLE RUNS are alike
  whole-same : (one two : Layout) → IsWhole script one → IsWhole script two
      → AreAlike shape one two
  whole-same one two first second = go (cases_order first.rounds second.rounds)
    where
      go : (first.rounds ≡ second.rounds) ⊎ ((first.rounds < second.rounds)
          ⊎ (second.rounds < first.rounds))
          → AreAlike (shape_of script) one two
      go (inl same) =
          same-rounds second.rounds one two
          (subst (λ (n : ℕ). AreRounds script n start one) same first.made) second.made
      go (inr (inl less)) =
          absurd (no-more first.rounds second.rounds one two first.made first.over second.made less)
      go (inr (inr more)) =
          absurd (no-more second.rounds first.rounds two one second.made second.over first.made
          more)

  pub ended-same : (one two : Layout) → IsEnded script one → IsEnded script two
      → one.log ≡ two.log
  ended-same one two first second = (whole-same one two first.whole second.whole).log

  -- ---- runs that stopped

  -- one with more rounds goes on from where the other one stopped
  stop-rounds : (m : ℕ) (one two : Layout) (stopped : IsStoppedRun script start one)
      → AreRounds script m start two → stopped.rounds < m → GoesOn shape one two
  stop-rounds m one two stopped made less =
      let was : HasRound script stopped.rounds start two =
      rounds-split script stopped.rounds m start two less made in
      goes-grows shape one was.next two
      (stop-turns script (script-ends script is) stopped.turns (makers script) stopped.few
      stopped.few stopped.before was.mid one was.next
      (same-rounds stopped.rounds stopped.before was.mid stopped.made was.made) stopped.stopped
      was.round) was.after

  -- of two that stopped one goes on from where the other one stopped
  stops-on : (one two : Layout) → IsStoppedRun script start one → IsStoppedRun script start two
      → GoesOn shape one two ⊎ GoesOn shape two one
  stops-on one two first second = go (cases_order first.rounds second.rounds)
    where
      go : (first.rounds ≡ second.rounds) ⊎ ((first.rounds < second.rounds)
          ⊎ (second.rounds < first.rounds))
          → GoesOn (shape_of script) one two ⊎ GoesOn (shape_of script) two one
      go (inl same) =
          stop-stops script (script-ends script is) first.turns second.turns first.few second.few
          first.before second.before one two
          (same-rounds second.rounds first.before second.before
          (subst (λ (n : ℕ). AreRounds script n start first.before) same first.made) second.made)
          first.stopped second.stopped
      go (inr (inl less)) =
          inl (goes-grows (shape_of script) one second.before two
          (stop-rounds second.rounds one second.before first second.made less)
          (stopped-grow script second.turns second.before two second.stopped))
      go (inr (inr more)) =
          inr (goes-grows (shape_of script) two first.before one
          (stop-rounds first.rounds two first.before second first.made more)
          (stopped-grow script first.turns first.before one first.stopped))

  -- where the first one is full nothing more was made
  no-step : (one two : Layout) → is_full one.log.steps ≡ true → IsSoFar script two
      → GoesOn shape one two → AreAlike shape one two
  no-step one two full so_far on =
      full-stays script one two full so_far.run on

  -- SO TWO that a full journal stopped have one log
  pub filled-same : (one two : Layout) → IsFilled script one → IsFilled script two
      → one.log ≡ two.log
  filled-same one two first second =
      elim (stops-on one two first.stopped second.stopped) [
        | inl on ↦ (no-step one two first.full second.so_far on).log
        | inr on ↦ sym (no-step two one second.full first.so_far on).log
      ]

  -- AND NO RUN comes to its end beside one that a full journal stopped
  pub none-both : (one two : Layout) → IsEnded script one → IsFilled script two → ⊥
  none-both one two ended filled = go (cases_order ended.whole.rounds filled.stopped.rounds)
    where
      go : (ended.whole.rounds ≡ filled.stopped.rounds)
          ⊎ ((ended.whole.rounds < filled.stopped.rounds)
          ⊎ (filled.stopped.rounds < ended.whole.rounds)) → ⊥
      go (inl same) =
          true≢false (sym ended.whole.over
          ∙ over-alike script (script-ends script is) one filled.stopped.before
          (same-rounds filled.stopped.rounds one filled.stopped.before
          (subst (λ (n : ℕ). AreRounds script n start one) same ended.whole.made)
          filled.stopped.made) ∙ filled.stopped.running)
      go (inr (inl less)) =
          no-more ended.whole.rounds filled.stopped.rounds one filled.stopped.before
          ended.whole.made ended.whole.over filled.stopped.made less
      go (inr (inr more)) =
          let alike : AreAlike (shape_of script) two one =
          no-step two one filled.full ended.so_far
          (stop-rounds ended.whole.rounds two one filled.stopped ended.whole.made more) in
          true≢false (sym ended.whole.over
          ∙ sym (over-alike script (script-ends script is) two one alike) ∙ filled.due)
