-- What is kept of all logs while a journal is read in order.
use Rattle.std.specs.Prelude.{◌≡◌, ℕ, nat_eq, List, []}
use Rattle.std.specs.HashMap.{get}
use Rattle.linx_base.specs.declared.name.Names.{Names}
use Rattle.journal.specs.declared.effect.Effect.{Effect}
use Rattle.journal.specs.declared.effect.Effect.TheVariants.{Opened}
use Rattle.journal.specs.declared.effect.Step.{Step}
use Rattle.journal.specs.Logs.{Log}
use Rattle.journal_text.specs.declared.collecting.Logs.{Logs}
use Rattle.journal_text.specs.Texts.{kept}
use Rattle.journal.specs.History.{opening_name}
use Rattle.journal_text.specs.Values.{Digest}
use Rattle.journal_text.specs.Known.{digest_by}
use Rattle.journal_text.specs.Blocks.{log_lines, log_text}

-- the logs are those after the steps P of a journal with these names and steps, printed by their
-- digest: of each incarnation the lines so far, and the name that it was opened with
pub record Collects (names : Names) (steps P : List Step) (logs : Logs) : Type 0 where
  pub lines : (n : ℕ) → kept logs.lines n ≡ log_lines (digest_by logs.by) names steps P (record { 0 = n })
  pub opened : (n : ℕ) → get nat_eq logs.opened n ≡ opening_name P (record { 0 = n })

-- the logs are all those of a journal, printed by this digest
pub record AreLogs (digest : Digest) (log : Log) (logs : Logs) : Type 0 where
  pub collected : Collects log.names log.steps log.steps logs
  pub by : digest_by logs.by ≡ digest

-- the log of the incarnation that an effect opens
abbrev pub opened_log : Digest → Log → Effect → List ℕ
opened_log digest log (Opened i) = log_text digest log i
opened_log digest log _ = []
