-- The text of a run spells what its steps are read as.
use Rattle.std.proofs.Common.{◌≡◌, ℕ, suc, List, [], ◌∷◌, ◌++◌, length, map, refl, sym, ◌∙◌, ap}
use Rattle.std.proofs.Common.{Ok, subst, arith, append_assoc, codes, flat_map}
use Rattle.std.specs.List.{AllByRecursion}
use Rattle.std.proofs.lemmas.List.{length-map, map-append}
use Rattle.sha2.specs.Sha256.{sha256}
use Rattle.linx_base.specs.declared.name.Names.{Names}
use Rattle.journal.specs.declared.effect.Effect.{Effect}
use Rattle.journal.specs.declared.effect.Step.{Step}
use Rattle.journal.specs.Logs.{Log}
use Rattle.journal_text.specs.Blocks.{logs_text}
use Rattle.journal_text.specs.Steps.{effect_line, step_text}
use Rattle.journal_text.specs.Values.{Digest}
use Rattle.journal_text.specs.Text.{count_text, steps_text, text_if_steps, text_of}
use Rattle.journal_words.specs.declared.lines.Line.{Line}
use Rattle.journal_words.specs.declared.lines.Line.TheVariants.{Made, Happened}
use Rattle.reading_laws.specs.Fits.{FitsEffect}
use Rattle.reading_laws.specs.Forms.{AreNames}
use Rattle.reading_laws.specs.Images.{image_of_effect}
use Rattle.reading_laws.specs.Spelled.{line_of, line_words}
use Rattle.reading_laws.proofs.FitLaws.{line-is}
use Rattle.reading_laws.proofs.ImageLaws.{line_alike}
use Rattle.reading_laws.proofs.PrintedLaws.{effect_line_printed, step_printed}
use Rattle.journal_read.specs.Reading.{read_in}
use Rattle.journal_read.specs.Spelled.{step_lines, lines_of_steps, bytes_of, AreLines}
use Rattle.journal_read.specs.Spelled.{text_of_lines, heading_line, SpellsLines}
use Rattle.journal_read.specs.Printed.{read_step, AllFit, printed_line, printed_lines}
use Rattle.journal_read.proofs.StepLaws.{lines-append}
use Rattle.journal_read.proofs.TextLaws.{text_again, some_ok, nothing_again}
use Rattle.journal_read.proofs.LogLaws.{logs_are_logs, text_of_lines-append}

-- ---- what is read is shown whole

effects_whole : (names : Names) (es : List Effect) → AllByRecursion (FitsEffect names) es
    → AreLines names (map Happened (map image_of_effect es))
effects_whole names [] fit = tt
effects_whole names (e ∷ es) fit =
    (line-is names (Happened e) fit.0, effects_whole names es fit.1)

read_whole : (names : Names) (P : List Step) → AllFit names P
    → AreLines names (lines_of_steps (map read_step P))
read_whole names [] fit = tt
read_whole names (s ∷ P) fit =
    let position = suc (length (map read_step P)) in
    let here = fit.1.placed in
    let head =
    line-is names (Made position s.by s.head)
    (omega (arith, here, length-map P read_step), fit.1.maker, fit.1.head)
    in
    lines-append names (lines_of_steps (map read_step P)) (step_lines position (read_step s))
    (read_whole names P fit.0) (head, effects_whole names s.effects fit.1.effects)

-- ---- and printed as the steps are

effects_alike : (names : Names) (es : List Effect)
    → map (bytes_of names) (map Happened (map image_of_effect es))
    ≡ map (printed_line names) (map Happened es)
effects_alike names [] = refl
effects_alike names (e ∷ es) =
    let rest = map (bytes_of names) (map Happened (map image_of_effect es)) in
    ap (λ (line : List ℕ). line ∷ rest) (ap line_of (line_alike names (Happened e)))
    ∙ ap (λ (lines : List (List ℕ)). printed_line names (Happened e) ∷ lines)
    (effects_alike names es)

step_alike : (names : Names) (position : ℕ) (s : Step)
    → map (bytes_of names) (step_lines position (read_step s))
    ≡ map (printed_line names) (step_lines position s)
step_alike names position s =
    let rest = map (bytes_of names) (map Happened (map image_of_effect s.effects)) in
    let first = Made position s.by s.head in
    ap (λ (line : List ℕ). line ∷ rest) (ap line_of (line_alike names first))
    ∙ ap (λ (lines : List (List ℕ)). printed_line names first ∷ lines)
    (effects_alike names s.effects)

lines_alike : (names : Names) (P : List Step)
    → map (bytes_of names) (lines_of_steps (map read_step P)) ≡ printed_lines names P
lines_alike names [] = refl
lines_alike names (s ∷ P) =
    let front = lines_of_steps (map read_step P) in
    let size : length (map read_step P) ≡ length P = length-map P read_step in
    let last = map (printed_line names) (step_lines (suc (length P)) s) in
    map-append (bytes_of names) front
    (step_lines (suc (length (map read_step P))) (read_step s))
    ∙ ap (λ (lines : List (List ℕ)). map (bytes_of names) front ++ lines)
    (ap (λ (n : ℕ). map (bytes_of names) (step_lines (suc n) (read_step s))) size
    ∙ step_alike names (suc (length P)) s)
    ∙ ap (λ (lines : List (List ℕ)). lines ++ last) (lines_alike names P)
    ∙ sym (map-append (printed_line names) (lines_of_steps P) (step_lines (suc (length P)) s))

-- ---- the text of steps is that of their lines

-- the bytes of a line that is printed with this digest
abbrev pub line_by : Digest → Names → Line → List ℕ
line_by digest names line = line_of (line_words digest names line)

effects_text : (digest : Digest) (names : Names) (es : List Effect)
    → flat_map (effect_line digest names) es
    ≡ text_of_lines (map (line_by digest names) (map Happened es))
effects_text digest names [] = refl
effects_text digest names (e ∷ es) =
    let line = line_by digest names (Happened e) in
    let rest = flat_map (effect_line digest names) es in
    ap (λ (t : List ℕ). t ++ rest) (sym (effect_line_printed digest names e))
    ∙ append_assoc line (codes "\n") rest
    ∙ ap (λ (t : List ℕ). line ++ 10 ∷ t) (effects_text digest names es)

one_step_text : (digest : Digest) (names : Names) (position : ℕ) (s : Step)
    → step_text digest names position s
    ≡ text_of_lines (map (line_by digest names) (step_lines position s))
unfolding step_text
one_step_text digest names position s =
    let line = line_by digest names (Made position s.by s.head) in
    let rest = flat_map (effect_line digest names) s.effects in
    ap (λ (t : List ℕ). (t ++ codes "\n") ++ rest)
    (sym (step_printed digest names position s.by s.head))
    ∙ append_assoc line (codes "\n") rest
    ∙ ap (λ (t : List ℕ). line ++ 10 ∷ t) (effects_text digest names s.effects)

pub text_of_steps : (digest : Digest) (names : Names) (P : List Step)
    → steps_text digest names P ≡ text_of_lines (map (line_by digest names) (lines_of_steps P))
unfolding steps_text
text_of_steps digest names [] = refl
text_of_steps digest names (s ∷ P) =
    let position = suc (length P) in
    let front = map (line_by digest names) (lines_of_steps P) in
    let last = map (line_by digest names) (step_lines position s) in
    ap (λ (t : List ℕ). t ++ step_text digest names position s) (text_of_steps digest names P)
    ∙ ap (λ (t : List ℕ). text_of_lines front ++ t) (one_step_text digest names position s)
    ∙ sym (text_of_lines-append front last)
    ∙ ap text_of_lines
    (sym (map-append (line_by digest names) (lines_of_steps P) (step_lines position s)))

-- ---- the whole text

-- logs, the line that announces steps, and their lines
pub whole_text : (logs steps : List (List ℕ)) (first last : List ℕ) (count : ℕ)
    → first ≡ text_of_lines logs → last ≡ text_of_lines steps
    → first ++ count_text count ++ last ≡ text_of_lines (logs ++ heading_line count ∷ steps)
unfolding count_text
whole_text logs steps first last count before behind =
    let line = heading_line count in
    append_assoc first (line ++ codes "\n") last
    ∙ ap (λ (t : List ℕ). first ++ t) (append_assoc line (codes "\n") last)
    ∙ ap (λ (t : List ℕ). t ++ (line ++ 10 ∷ last)) before
    ∙ ap (λ (t : List ℕ). text_of_lines logs ++ (line ++ 10 ∷ t)) behind
    ∙ sym (text_of_lines-append logs (line ∷ steps))

spelled : (log : Log) (s : Step) (P : List Step) → AreNames log.names
    → AllFit log.names log.steps → log.steps ≡ s ∷ P
    → SpellsLines log.names (map read_step log.steps) (text_if_steps sha256 log (s ∷ P))
spelled log s P are fit same =
    let logs = logs_are_logs sha256 log are fit in
    let size : length log.steps ≡ length (map read_step log.steps) =
    sym (length-map log.steps read_step)
    in
    record {
      logs = logs.lines;
      are_logs = logs.are;
      whole = read_whole log.names log.steps fit;
      spelled =
          whole_text logs.lines (printed_lines log.names log.steps) (logs_text sha256 log)
          (steps_text sha256 log.names log.steps) (length log.steps) logs.is
          (text_of_steps sha256 log.names log.steps)
          ∙ ap (λ (n : ℕ). text_of_lines
          (logs.lines ++ heading_line n ∷ printed_lines log.names log.steps)) size
          ∙ ap (λ (lines : List (List ℕ)). text_of_lines
          (logs.lines ++ heading_line (length (map read_step log.steps)) ∷ lines))
          (sym (lines_alike log.names log.steps));
    }

text_read : (log : Log) (P : List Step) → AreNames log.names → AllFit log.names log.steps
    → log.steps ≡ P → read_in log.names (text_if_steps sha256 log P) ≡ Ok (map read_step P)
text_read log [] are fit same =
    some_ok (read_in log.names []) [] (nothing_again log.names)
text_read log (s ∷ P) are fit same =
    let is = spelled log s P are fit same in
    let text = text_if_steps sha256 log (s ∷ P) in
    some_ok (read_in log.names text) (map read_step (s ∷ P))
    (text_again log.names (map read_step (s ∷ P)) text are
    (subst (λ (R : List Step). SpellsLines log.names (map read_step R) text) same is))

pub printed_is_read : (log : Log) → AreNames log.names → AllFit log.names log.steps
    → read_in log.names (text_of log) ≡ Ok (map read_step log.steps)
printed_is_read log are fit = text_read log log.steps are fit refl
