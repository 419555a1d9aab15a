use Rattle.std.proofs.Common.{arith}
use Rattle.std.proofs.lemmas.Grind.{common_steps}
use Rattle.journal_text.proofs.Openings.{last_opened_append}
use Rattle.journal_text.proofs.owners.note_openings.Goals as goal

pub loop-effect-preserved : goal.loop-effect-preserved
loop-effect-preserved c =
    λ q. grind (
      arith,
      common_steps,
      last_opened_append,
      c.loop-effect.invariant q,
      c.in_ok-note_opening.ensures q,
    )
