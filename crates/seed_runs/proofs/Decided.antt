-- That a seed decides a run, by the law of orders.
use Rattle.std.proofs.Common.{◌≡◌, ◌∙◌, ℕ, List, subst, sym, true, Result, Ok}
use Rattle.journal.specs.Logs.{Log, is_full}
use Rattle.fabric.specs.declared.stop.StopCause.TheVariants.{JournalFull}
use Rattle.script_words.specs.declared.fault.Fault.{Fault}
use Rattle.order_lines.specs.Fronts.{OrderedParts, ordered_of}
use Rattle.orders.specs.Laws.{IsFilledInOrder, OrderDecides}
use Rattle.seed_runs.specs.Laws.{SeedsDecide}
use Rattle.seed_runs.specs.Runs.{IsRunOf, IsSeedRun, IsStoppedRunOf, IsStoppedSeedRun, seeded_order}

-- bytes spell one script
one-script : (spells : Result OrderedParts (ℕ × Fault)) (first second : OrderedParts)
    → spells ≡ Ok first → spells ≡ Ok second → first ≡ second
one-script spells first second is also = cc

filled : (ordered : OrderedParts) (seed : ℕ) (log : Log)
    (is : IsStoppedSeedRun ordered seed JournalFull log)
    → IsFilledInOrder ordered.script (seeded_order ordered seed) is.run
filled ordered seed log is = record {
  so_far = is.so_far;
  stopped = is.stopped;
  full = is.why;
  due = is.due;
}

-- ---- of one script

whole-alike : OrderDecides → (ordered : OrderedParts) (seed : ℕ) (first second : Log)
    → IsSeedRun ordered seed first → IsSeedRun ordered seed second → first ≡ second
whole-alike law ordered seed first second one two =
    sym one.logged
    ∙ law.one ordered.script one.so_far.declared (seeded_order ordered seed) one.run two.run one.whole two.whole
    ∙ two.logged

full-alike : OrderDecides → (ordered : OrderedParts) (seed : ℕ) (first second : Log)
    → IsStoppedSeedRun ordered seed JournalFull first
    → IsStoppedSeedRun ordered seed JournalFull second → first ≡ second
full-alike law ordered seed first second one two =
    sym one.logged
    ∙ law.filled ordered.script (seeded_order ordered seed) one.run two.run (filled ordered seed first one)
    (filled ordered seed second two)
    ∙ two.logged

none-of-each : OrderDecides → (ordered : OrderedParts) (seed : ℕ) (first second : Log)
    → IsSeedRun ordered seed first → IsStoppedSeedRun ordered seed JournalFull second → ⊥
none-of-each law ordered seed first second one two =
    law.apart ordered.script (seeded_order ordered seed) one.run two.run one.so_far one.whole
    (filled ordered seed second two)

-- ---- of the script that bytes spell

-- by the law of whoever chooses whose turn is next
pub seeds_decide : OrderDecides → SeedsDecide
seeds_decide law = record {
  one = λ bytes seed first second one two. whole-alike law one.ordered seed first second one.run
      (subst (λ (o : OrderedParts). IsSeedRun o seed second)
      (one-script (ordered_of bytes) two.ordered one.ordered two.spelled one.spelled) two.run);
  full = λ bytes seed first second one two. full-alike law one.ordered seed first second one.run
      (subst (λ (o : OrderedParts). IsStoppedSeedRun o seed JournalFull second)
      (one-script (ordered_of bytes) two.ordered one.ordered two.spelled one.spelled) two.run);
  apart = λ bytes seed first second one two. none-of-each law one.ordered seed first second one.run
      (subst (λ (o : OrderedParts). IsStoppedSeedRun o seed JournalFull second)
      (one-script (ordered_of bytes) two.ordered one.ordered two.spelled one.spelled) two.run);
}
