-- Two readings of one text are printed as the same lines.
use Rattle.std.proofs.Common.{subst, inl, inr, ◌⊎◌, ◌≡◌, ℕ, List, [], ◌∷◌, ◌++◌, map, sym}
use Rattle.std.proofs.Common.{ap, ◌∙◌, Some, None, Ok, decimal}
use Rattle.linx_base.specs.declared.name.Names.{Names}
use Rattle.journal.specs.declared.effect.Step.{Step}
use Rattle.text_words.specs.Words.{after, lines_of, parts_at, rest_of}
use Rattle.journal_read.specs.Reading.{SoFar, unread, heading, ended, read_in}
use Rattle.journal_read.specs.Spelled.{AreLogLines, IsLogLine, bytes_of, heading_line}
use Rattle.journal_read.specs.Spelled.{lines_of_steps}
use Rattle.journal_read.proofs.StepLaws.{steps_exact_found}
use Rattle.journal_read.proofs.TextLaws.{after_again, before_last, front_found, nothing_ended}
use Rattle.journal_read.proofs.TextLaws.{one_parts, read_found, steps_ended, steps_taken}

-- the lines are those of logs, the one that announces steps, and those of the steps
record HasSteps (names : Names) (lines : List (List ℕ)) (P : List Step) : Type 0 where
  logs : List (List ℕ)
  count : ℕ
  back : List (List ℕ)
  are_logs : AreLogLines logs
  are : lines ≡ logs ++ heading_line count ∷ back
  spelled : back ≡ map (bytes_of names) (lines_of_steps P)

-- what the lines of a text that is read are: those of logs alone, or with steps behind them
abbrev Reading : Names → List (List ℕ) → List Step → Type 0
Reading names lines P = (AreLogLines lines × (P ≡ [])) ⊎ HasSteps names lines P

reading_of : (names : Names) (text : List ℕ) (P : List Step) → read_in names text ≡ Ok P
    → Reading names (lines_of text) P
reading_of names text P h =
    let lines = lines_of text in
    let whole = read_found (unread names) 1 lines (rest_of text) P h in
    let one = before_last (parts_at 10 text) (one_parts text) in
    elim (front_found names lines whole.last one whole.took) [
      | inl all ↦
          let ends =
          nothing_ended names whole.next P
          (subst (λ (x : SoFar). ended x whole.next ≡ Ok P) all.1 whole.ends)
          in
          inl (all.0, sym ends.1)
      | inr has ↦
          let took = steps_taken names has.count [] has.back whole.last has.took in
          let ends =
          steps_ended names has.count took.0 whole.next P
          (subst (λ (x : SoFar). ended x whole.next ≡ Ok P) took.2 whole.ends)
          in
          let steps = steps_exact_found names took.0 has.back took.1 in
          inr (record {
            logs = has.logs;
            count = has.count;
            back = has.back;
            are_logs = has.are_logs;
            are = has.are;
            spelled =
                steps.spelled
                ∙ ap (λ (R : List Step). map (bytes_of names) (lines_of_steps R)) ends.1;
          })
    ]

-- the line that announces steps is none of a log
is_no_log : {A : Type 0} (count : ℕ) (line : List ℕ) → heading_line count ≡ line → IsLogLine line
    → A
is_no_log count line same is =
    let some : after heading line ≡ Some (decimal count) =
    subst (λ (l : List ℕ). after heading l ≡ Some (decimal count)) same
    (after_again (decimal count))
    in
    let none : after heading line ≡ None = is.no_heading in
    cc

no_steps : {A : Type 0} (lines logs back : List (List ℕ)) (count : ℕ) → AreLogLines lines
    → lines ≡ logs ++ heading_line count ∷ back → A
no_steps [] [] back count are e = cc
no_steps [] (log ∷ logs) back count are e = cc
no_steps (line ∷ lines) [] back count are e =
    let same : heading_line count ≡ line = cc in
    is_no_log count line same are.0
no_steps (line ∷ lines) (log ∷ logs) back count are e =
    let same : lines ≡ logs ++ heading_line count ∷ back = cc in
    no_steps lines logs back count are.1 same

-- behind logs, the first line that announces steps is where they begin
same_back : (logs others : List (List ℕ)) (n m : ℕ) (back behind : List (List ℕ))
    → AreLogLines logs → AreLogLines others
    → logs ++ heading_line n ∷ back ≡ others ++ heading_line m ∷ behind → back ≡ behind
same_back [] [] n m back behind are aren e = cc
same_back [] (other ∷ others) n m back behind are aren e =
    let same : heading_line n ≡ other = cc in
    is_no_log n other same aren.0
same_back (log ∷ logs) [] n m back behind are aren e =
    let same : heading_line m ≡ log = cc in
    is_no_log m log same are.0
same_back (log ∷ logs) (other ∷ others) n m back behind are aren e =
    let same : logs ++ heading_line n ∷ back ≡ others ++ heading_line m ∷ behind = cc in
    same_back logs others n m back behind are.1 aren.1 same

-- no steps have no lines
no_lines_of : (names : Names) (P : List Step) → P ≡ []
    → map (bytes_of names) (lines_of_steps P) ≡ []
no_lines_of names P none =
    ap (λ (R : List Step). map (bytes_of names) (lines_of_steps R)) none

agree : (names others : Names) (lines : List (List ℕ)) (P Q : List Step)
    → Reading names lines P → Reading others lines Q
    → map (bytes_of names) (lines_of_steps P) ≡ map (bytes_of others) (lines_of_steps Q)
agree names others lines P Q (inl all) (inl none) =
    no_lines_of names P all.1 ∙ sym (no_lines_of others Q none.1)
agree names others lines P Q (inl all) (inr has) =
    no_steps lines has.logs has.back has.count all.0 has.are
agree names others lines P Q (inr has) (inl all) =
    no_steps lines has.logs has.back has.count all.0 has.are
agree names others lines P Q (inr has) (inr other) =
    sym has.spelled
    ∙ same_back has.logs other.logs has.count other.count has.back other.back has.are_logs
    other.are_logs (sym has.are ∙ other.are)
    ∙ other.spelled

pub readings_agree : (names others : Names) (text : List ℕ) (P Q : List Step)
    → read_in names text ≡ Ok P → read_in others text ≡ Ok Q
    → map (bytes_of names) (lines_of_steps P) ≡ map (bytes_of others) (lines_of_steps Q)
readings_agree names others text P Q first second =
    agree names others (lines_of text) P Q (reading_of names text P first)
    (reading_of others text Q second)
