-- The logs of a run's text are found.
use Rattle.std.proofs.Common.{◌≡◌, ℕ, List, [], ◌∷◌, ◌++◌, length, map, refl, sym, ◌∙◌, ap, arith}
use Rattle.std.proofs.Common.{Some, None, nat_lt, codes, decimal, append_assoc}
use Rattle.std.proofs.lemmas.Bool.{cond-false, le-ltb}
use Rattle.sha2.specs.Sha256.{sha256}
use Rattle.journal.specs.declared.effect.Step.{Step}
use Rattle.journal.specs.Logs.{Log}
use Rattle.journal_text.specs.Blocks.{logs_text}
use Rattle.journal_text.specs.Text.{count_text, steps_text, text_if_steps, text_of}
use Rattle.journal_text.specs.Values.{first_bytes}
use Rattle.journal_read.specs.Printed.{read_step}
use Rattle.text_logs.specs.First.{alike, first_other, front_if_steps, front_of, line_at}
use Rattle.text_logs.proofs.Alike.{alike_whole}
use Rattle.log_laws.specs.Laws.{image_of}
use Rattle.log_laws.proofs.ImageLogs.{logs_alike}

begins_so : (text front more : List ℕ) → text ≡ front ++ more → first_other text front ≡ None
begins_so text front more is =
    let whole = alike_whole front more in
    let text_is = front ++ more in
    ap (λ (t : List ℕ). first_other t front) is
    ∙ cond-false (nat_lt (alike text_is front) (length front))
    (Some (line_at text_is (alike text_is front))) None
    (le-ltb (alike text_is front) (length front) (omega (arith, whole)))

parted : (logs word number feed steps : List ℕ)
    → (logs ++ ((word ++ number) ++ feed)) ++ steps ≡ (logs ++ word) ++ ((number ++ feed) ++ steps)
parted logs word number feed steps = simp append_assoc

run_begins : (log : Log) (steps : List ℕ) (count : ℕ)
    → (logs_text sha256 log ++ count_text count) ++ steps
    ≡ (logs_text first_bytes (image_of log) ++ codes "journal ")
    ++ ((decimal count ++ codes "\n") ++ steps)
unfolding count_text
run_begins log steps count =
    parted (logs_text sha256 log) (codes "journal ") (decimal count) (codes "\n") steps
    ∙ ap (λ (t : List ℕ). (t ++ codes "journal ") ++ ((decimal count ++ codes "\n") ++ steps))
    (sym (logs_alike log))

pub logs_found : (log : Log) → first_other (text_of log) (front_of (image_of log)) ≡ None
logs_found log = go log.steps
  where
    go : (P : List Step)
        → first_other (text_if_steps sha256 log P) (front_if_steps (image_of log) (map read_step P))
        ≡ None
    go [] = refl
    go (s ∷ P) =
        let steps = steps_text sha256 log.names log.steps in
        let count = length log.steps in
        begins_so ((logs_text sha256 log ++ count_text count) ++ steps)
        (logs_text first_bytes (image_of log) ++ codes "journal ")
        ((decimal count ++ codes "\n") ++ steps) (run_begins log steps count)
