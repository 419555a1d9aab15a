use Rattle.std.proofs.Common.{◌≡◌, true, drop, map}
use Rattle.std.specs.List.{list_all}
use Rattle.linx_base.specs.Verdicts.{fits_verdict}
use Rattle.script_words.specs.Verdicts.{verdicts_of}
use Rattle.script_words.proofs.Fronts.{with_front}
use Rattle.script_words.proofs.verdicts.verdicts.Given as goal

-- the verdicts so far and those of the rest are those of all, and they are in range
abbrev pub invariant-loop-word : goal.invariant-loop-word
invariant-loop-word l = record {
  all :
      with_front l.verdicts (verdicts_of (map (λ w. w.now) (drop l.word-index l.words)))
      ≡ verdicts_of (map (λ w. w.now) l.words);
  fit : list_all fits_verdict l.verdicts ≡ true;
}
