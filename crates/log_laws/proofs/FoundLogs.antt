-- A text whose logs are found is what was read of it, printed again.
use Rattle.std.proofs.Common.{◌≡◌, ℕ, suc, ◌+◌, ◌≤◌, ◌<◌, Bool, true, false, cond, List, [], ◌∷◌}
use Rattle.std.proofs.Common.{◌++◌, length, map, drop, refl, sym, ◌∙◌, ap, subst, arith, Option, Some}
use Rattle.std.proofs.Common.{None, Ok, nat_lt, codes, decimal, append_assoc, ◌==◌, not}
use Rattle.std.specs.Result.{result_ok}
use Rattle.std.proofs.lemmas.Bool.{cond-false, le-ltb, ltb-false, and_parts}
use Rattle.linx_base.specs.declared.name.Names.{Names}
use Rattle.journal.specs.declared.effect.Step.{Step}
use Rattle.journal.specs.Logs.{Log}
use Rattle.journal_text.specs.Blocks.{logs_text}
use Rattle.journal_text.specs.Text.{count_text, steps_text, text_by, text_if_steps, text_of}
use Rattle.journal_text.specs.Values.{first_bytes}
use Rattle.text_words.specs.Words.{after, cut_at}
use Rattle.reading_laws.specs.Forms.{AreNames}
use Rattle.reading_laws.proofs.Cuts.{cut_again, lacks}
use Rattle.journal_read.specs.Reading.{heading, read_in}
use Rattle.journal_read.specs.Spelled.{AreLogLines, SpellsLines, SpellsText, bytes_of, heading_line}
use Rattle.journal_read.specs.Spelled.{lines_of_steps, text_of_lines}
use Rattle.journal_read.proofs.LogLaws.{IsLogs, logs_are_logs, text_of_lines-append}
use Rattle.journal_read.proofs.PrintedLaws.{text_of_steps, whole_text}
use Rattle.journal_read.proofs.TextLaws.{text_found}
use Rattle.text_logs.specs.First.{alike, first_other, front_if_steps, front_of, line_at}
use Rattle.text_logs.proofs.Alike.{alike_whole, front_found}
use Rattle.text_logs.proofs.Expected.{alike_within}
use Rattle.log_laws.proofs.Fitted.{all_fit}

-- ---- the front of a text

-- what stands before a cut, and what behind it
abbrev before : Option (List ℕ × List ℕ) → List ℕ
before None = []
before (Some both) = both.0

abbrev behind : Option (List ℕ × List ℕ) → List ℕ
behind None = []
behind (Some both) = both.1

-- a line and what follows it
first_line : (l m a b : List ℕ) → lacks 10 l ≡ true → lacks 10 m ≡ true
    → l ++ 10 ∷ a ≡ m ++ 10 ∷ b → (l ≡ m) × (a ≡ b)
first_line l m a b first second is =
    let both : Some (l, a) ≡ Some (m, b) =
    sym (cut_again 10 l a first) ∙ ap (cut_at 10) is ∙ cut_again 10 m b second
    in (ap before both, ap behind both)

-- a line that begins the text which this word begins, and which has no line feed, begins so
begins_as : (word line a b : List ℕ) → lacks 10 word ≡ true → word ++ a ≡ line ++ 10 ∷ b
    → (more : List ℕ) × (line ≡ word ++ more)
begins_as [] line a b none is = (line, refl)
begins_as (c ∷ word) [] a b none is =
    let same : c ≡ 10 = cc in
    let parts = and_parts (not (c == 10)) (lacks 10 word) none in
    let bad : not (10 == 10) ≡ true = subst (λ (n : ℕ). not (n == 10) ≡ true) same parts.0 in
    cc
begins_as (c ∷ word) (x ∷ line) a b none is =
    let first : c ≡ x = cc in
    let rest : word ++ a ≡ line ++ 10 ∷ b = cc in
    let parts = and_parts (not (c == 10)) (lacks 10 word) none in
    let more = begins_as word line a b parts.1 rest in
    (more.0, ap (λ (n : ℕ). n ∷ line) (sym first) ∙ ap (λ (t : List ℕ). c ∷ t) more.1)

-- no line of a log begins as the line that announces steps
no_heading : (line a b : List ℕ) → after heading line ≡ None → heading ++ a ≡ line ++ 10 ∷ b → ⊥
no_heading line a b none is =
    let begins = begins_as heading line a b refl is in
    let found : after heading (heading ++ begins.0) ≡ Some begins.0 = refl in
    let bad : Some begins.0 ≡ None = sym found ∙ ap (after heading) (sym begins.1) ∙ none in
    cc

-- so the lines before that one are the logs, whichever way they are seen
same_front : (xs ys : List (List ℕ)) (a b : List ℕ) → AreLogLines xs → AreLogLines ys
    → text_of_lines xs ++ (heading ++ a) ≡ text_of_lines ys ++ (heading ++ b) → xs ≡ ys
same_front [] [] a b first second is = refl
same_front [] (y ∷ ys) a b first second is =
    absurd (no_heading y a (text_of_lines ys ++ (heading ++ b)) second.0.no_heading
    (is ∙ append_assoc y (10 ∷ text_of_lines ys) (heading ++ b)))
same_front (x ∷ xs) [] a b first second is =
    absurd (no_heading x b (text_of_lines xs ++ (heading ++ a)) first.0.no_heading
    (sym is ∙ append_assoc x (10 ∷ text_of_lines xs) (heading ++ a)))
same_front (x ∷ xs) (y ∷ ys) a b first second is =
    let both =
    first_line x y (text_of_lines xs ++ (heading ++ a)) (text_of_lines ys ++ (heading ++ b))
    first.0.one_line second.0.one_line
    (sym (append_assoc x (10 ∷ text_of_lines xs) (heading ++ a)) ∙ is
    ∙ append_assoc y (10 ∷ text_of_lines ys) (heading ++ b))
    in
    ap (λ (l : List ℕ). l ∷ xs) both.0
    ∙ ap (λ (ls : List (List ℕ)). y ∷ ls) (same_front xs ys a b first.1 second.1 both.1)

-- ---- a text whose logs are found

-- what is found of a text is its front
is_front : (text front : List ℕ) → first_other text front ≡ None
    → text ≡ front ++ drop (length front) text
is_front text front none = go (nat_lt (alike text front) (length front)) refl none
  where
    go : (e : Bool) → nat_lt (alike text front) (length front) ≡ e
        → cond e (Some (line_at text (alike text front))) None ≡ None
        → text ≡ front ++ drop (length front) text
    go true is none = cc
    go false is none =
        let least = ltb-false (alike text front) (length front) is in
        let most = alike_within text front in
        front_found text front (omega (arith, least, most))

again_by : (names : Names) (s : Step) (Q : List Step) (text : List ℕ) → AreNames names
    → SpellsLines names (s ∷ Q) text
    → first_other text (front_of (record { names = names; steps = s ∷ Q })) ≡ None
    → text ≡ text_by first_bytes (record { names = names; steps = s ∷ Q })
again_by names s Q text are is none =
    let log : Log = record { names = names; steps = s ∷ Q } in
    let count = length (s ∷ Q) in
    let steps = map (bytes_of names) (lines_of_steps (s ∷ Q)) in
    let number = decimal count ++ 10 ∷ text_of_lines steps in
    let more = drop (length (front_of log)) text in
    let logs : IsLogs (logs_text first_bytes log) =
    logs_are_logs first_bytes log are (all_fit names (s ∷ Q) is.whole) in
    let spelled : text ≡ text_of_lines is.logs ++ (heading ++ number) =
    is.spelled ∙ text_of_lines-append is.logs (heading_line count ∷ steps)
    ∙ ap (λ (t : List ℕ). text_of_lines is.logs ++ t)
    (append_assoc heading (decimal count) (10 ∷ text_of_lines steps))
    in
    let found : text ≡ text_of_lines logs.lines ++ (heading ++ more) =
    is_front text (front_of log) none
    ∙ append_assoc (logs_text first_bytes log) heading more
    ∙ ap (λ (t : List ℕ). t ++ (heading ++ more)) logs.is
    in
    let same : is.logs ≡ logs.lines =
    same_front is.logs logs.lines number more is.are_logs logs.are (sym spelled ∙ found)
    in
    is.spelled
    ∙ sym (whole_text is.logs steps (logs_text first_bytes log)
    (steps_text first_bytes names (s ∷ Q)) count
    (logs.is ∙ ap text_of_lines (sym same)) (text_of_steps first_bytes names (s ∷ Q)))

pub printed_again : (names : Names) (text : List ℕ) (P : List Step) → AreNames names
    → read_in names text ≡ Ok P
    → first_other text (front_of (record { names = names; steps = P })) ≡ None
    → text ≡ text_by first_bytes (record { names = names; steps = P })
printed_again names text P are read none =
    go P (text_found names P text (ap result_ok read)) none
  where
    go : (P : List Step) → SpellsText names P text
        → first_other text (front_of (record { names = names; steps = P })) ≡ None
        → text ≡ text_by first_bytes (record { names = names; steps = P })
    go [] is none = is
    go (s ∷ Q) is none = again_by names s Q text are is none
