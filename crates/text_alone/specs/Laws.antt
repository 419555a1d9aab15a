-- The text of a run, read by itself.
use Rattle.std.specs.Prelude.{◌≡◌, ◌≤◌, IsSomeAnd, length, map}
use Rattle.std.specs.Result.{result_ok}
use Rattle.linx_base.specs.declared.name.Names.{Names}
use Rattle.journal.specs.Logs.{Log}
use Rattle.journal_text.specs.Text.{text_of}
use Rattle.reading_laws.specs.Forms.{AreNames}
use Rattle.text_names.specs.Numbering.{names_in}
use Rattle.journal_read.specs.Printed.{AllFit, read_step}
use Rattle.journal_read.specs.Reading.{read_in}
use Rattle.journal_read.specs.Spelled.{bytes_of, lines_of_steps}

-- no more nodes and links than those whose names are taken from a text
pub record AreFew (names : Names) : Type 0 where
  pub nodes : length names.nodes ≤ 64
  pub links : length names.links ≤ 64

-- THE TEXT OF A RUN IS READ BY ITSELF, as the steps that are read of it with the names of its
-- script, but for numbers: they are printed as the same lines
abbrev pub RunsAreReadAlone : Type 0
RunsAreReadAlone =
    (log : Log) → AreNames log.names → AreFew log.names → AllFit log.names log.steps
    → IsSomeAnd (result_ok (read_in (names_in (text_of log)) (text_of log))) (λ Q.
    map (bytes_of (names_in (text_of log))) (lines_of_steps Q)
    ≡ map (bytes_of log.names) (lines_of_steps (map read_step log.steps)))
