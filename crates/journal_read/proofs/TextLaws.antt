-- A text is read from its lines, and steps from the texts that spell them.
use Rattle.std.proofs.Common.{subst, inl, inr, ◌⊎◌, ◌≡◌, ℕ, suc, ◌+◌, ◌≤◌, ◌<◌, Bool, true, false}
use Rattle.std.proofs.Common.{not, cond, List, [], ◌∷◌, ◌++◌, length, map, take, drop, refl, sym}
use Rattle.std.proofs.Common.{ap, ◌∙◌, Option, Some, None, Result, Ok, Err, arith, ◌==◌, nat_le}
use Rattle.std.proofs.Common.{nat_lt, decimal, bytes_eq, eqb-true, eq-eqb, le-leb, lt-ltb}
use Rattle.std.proofs.Common.{ltb-true, take-append-drop}
use Rattle.std.specs.List.{join_with_byte, onto_first}
use Rattle.std.specs.Result.{result_ok}
use Rattle.std.proofs.lemmas.Bool.{cases_Bool, cond-true, and_from, not_from_false}
use Rattle.std.proofs.lemmas.List.Splits.{join_with_byte-slice_split, length-slice_split}
use Rattle.std.proofs.lemmas.List.Splits.{slice_split-cons_no, slice_split-cons_yes}
use Rattle.linx_base.specs.declared.name.Names.{Names}
use Rattle.journal.specs.declared.effect.Step.{Step}
use Rattle.journal_words.specs.declared.lines.Line.{Line}
use Rattle.journal_words.specs.declared.lines.Line.TheVariants.{Made, Happened}
use Rattle.journal_words.specs.Lines.{line_in}
use Rattle.text_words.specs.Gives.{◌>>=◌}
use Rattle.text_words.specs.Numbers.{u64_in, whole_limit}
use Rattle.text_words.specs.Words.{after, but_last, last_of, lines_of, parts_at, rest_of}
use Rattle.text_words.proofs.Ends.{but_last_parts, last_of_parts, parts_end}
use Rattle.reading_laws.specs.Forms.{AreNames}
use Rattle.reading_laws.proofs.Tools.{bind_some, if_some_yes, same_text}
use Rattle.reading_laws.proofs.Cuts.{lacks, lacks-append, split_part}
use Rattle.reading_laws.proofs.NameLaws.{bytes_lack, bytes_of_decimal}
use Rattle.reading_laws.proofs.PeerLaws.{u64_again, u64_found}
use Rattle.reading_laws.proofs.LineLaws.{line_of_line_feeds}
use Rattle.journal_read.specs.Reading.{put_line, put_bytes, steps_in, SoFar, unread, heading}
use Rattle.journal_read.specs.Reading.{announce, take_front, take_steps, take_line, ended}
use Rattle.journal_read.specs.Reading.{ended_behind, or_bad, read_lines, read_in}
use Rattle.journal_read.specs.Spelled.{step_lines, lines_of_steps, bytes_of, AreLines}
use Rattle.journal_read.specs.Spelled.{text_of_lines, heading_line, IsLogLine, AreLogLines}
use Rattle.journal_read.specs.Spelled.{SpellsLines, SpellsText}
use Rattle.journal_read.proofs.StepLaws.{steps_again, back_lines, steps_exact_found}

-- ---- the lines of a text

-- no line has a line feed
abbrev pub OneLines : List (List ℕ) → Type 0
OneLines [] = Unit {0}
OneLines (line ∷ lines) = (lacks 10 line ≡ true) × OneLines lines

one_lines-append : (xs ys : List (List ℕ)) → OneLines xs → OneLines ys → OneLines (xs ++ ys)
one_lines-append [] ys first last = last
one_lines-append (x ∷ xs) ys first last = (first.0, one_lines-append xs ys first.1 last)

-- lines with their line feeds are the parts of their text, and nothing stands behind them
parts_again : (lines : List (List ℕ)) → OneLines lines
    → parts_at 10 (text_of_lines lines) ≡ lines ++ [] ∷ []
parts_again [] are = refl
parts_again (line ∷ lines) are =
    split_part 10 line (text_of_lines lines) are.0 refl
    ∙ ap (λ (ls : List (List ℕ)). line ∷ ls) (parts_again lines are.1)

pub lines_again : (lines : List (List ℕ)) → OneLines lines
    → lines_of (text_of_lines lines) ≡ lines
lines_again lines are = ap but_last (parts_again lines are) ∙ but_last_parts lines []

rest_again : (lines : List (List ℕ)) → OneLines lines → rest_of (text_of_lines lines) ≡ []
rest_again lines are = ap last_of (parts_again lines are) ∙ last_of_parts lines []

lines_joined : (lines : List (List ℕ)) → join_with_byte 10 (lines ++ [] ∷ []) ≡ text_of_lines lines
lines_joined [] = refl
lines_joined (line ∷ []) = refl
lines_joined (line ∷ next ∷ lines) =
    ap (λ (t : List ℕ). line ++ 10 ∷ t) (lines_joined (next ∷ lines))

-- a text behind whose last line feed nothing stands is that of its lines
text_is : (text : List ℕ) → rest_of text ≡ [] → text ≡ text_of_lines (lines_of text)
text_is text none =
    let size = length-slice_split (λ b. b == 10) text in
    sym (join_with_byte-slice_split 10 text)
    ∙ ap (join_with_byte 10) (parts_end (parts_at 10 text) (omega (arith, size)))
    ∙ ap (λ (rest : List ℕ). join_with_byte 10 (lines_of text ++ rest ∷ [])) none
    ∙ lines_joined (lines_of text)

onto_one_lines : (b : ℕ) (lines : List (List ℕ)) → not (b == 10) ≡ true → OneLines lines
    → OneLines (onto_first b lines)
onto_one_lines b [] other are = (and_from _ _ other refl, tt)
onto_one_lines b (line ∷ lines) other are = (and_from _ _ other are.0, are.1)

pub one_parts : (text : List ℕ) → OneLines (parts_at 10 text)
one_parts [] = (refl, tt)
one_parts (b ∷ text) =
    elim (cases_Bool (b == 10)) [
      | inl holds ↦
          subst OneLines (sym (slice_split-cons_yes (λ c. c == 10) b text holds))
          (refl, one_parts text)
      | inr fails ↦
          subst OneLines (sym (slice_split-cons_no (λ c. c == 10) b text fails))
          (onto_one_lines b (parts_at 10 text) (not_from_false _ fails) (one_parts text))
    ]

pub before_last : (parts : List (List ℕ)) → OneLines parts → OneLines (but_last parts)
unfolding but_last
before_last [] are = tt
before_last (part ∷ []) are = tt
before_last (part ∷ next ∷ parts) are = (are.0, before_last (next ∷ parts) are.1)

-- ---- lines read one behind the other

-- what lines make of what was read before
abbrev pub taken : SoFar → List (List ℕ) → Option SoFar
taken r [] = Some r
taken r (bytes ∷ lines) = take_line r bytes >>= λ q. taken q lines

read_taken : (r q : SoFar) (number last : ℕ) (lines : List (List ℕ)) (rest : List ℕ)
    → taken r lines ≡ Some q → last ≡ number + length lines
    → read_lines r number lines rest ≡ ended_behind rest q last
read_taken r q number last [] rest h e =
    let same : r ≡ q = cc in
    let here : number ≡ last = omega (arith, e) in
    ap (λ (x : SoFar). ended_behind rest x number) same
    ∙ ap (λ (n : ℕ). ended_behind rest q n) here
read_taken r q number last (bytes ∷ lines) rest h e =
    let put = bind_some (take_line r bytes) (λ x. taken x lines) q h in
    ap (λ (o : Option SoFar). or_bad number o (λ x. read_lines x (suc number) lines rest)) put.1
    ∙ read_taken put.0 q (suc number) last lines rest put.2 (omega (arith, e))

or_bad_ok : (number : ℕ) (o : Option SoFar) (f : SoFar → Result (List Step) ℕ) (P : List Step)
    → or_bad number o f ≡ Ok P → (q : SoFar) × (o ≡ Some q) × (f q ≡ Ok P)
or_bad_ok number (Some q) f P h = (q, refl, h)
or_bad_ok number None f P h = cc

-- what was read of lines, behind which nothing stands
pub record IsWhole (r : SoFar) (number : ℕ) (lines : List (List ℕ)) (rest : List ℕ) (P : List Step)
    : Type 0 where
  pub none : rest ≡ []
  pub last : SoFar
  pub next : ℕ
  pub took : taken r lines ≡ Some last
  pub count : next ≡ number + length lines
  pub ends : ended last next ≡ Ok P

pub read_found : (r : SoFar) (number : ℕ) (lines : List (List ℕ)) (rest : List ℕ) (P : List Step)
    → read_lines r number lines rest ≡ Ok P → IsWhole r number lines rest P
read_found r number [] [] P h = record {
  none = refl;
  last = r;
  next = number;
  took = refl;
  count = omega arith;
  ends = h;
}
read_found r number [] (b ∷ rest) P h = cc
read_found r number (bytes ∷ lines) rest P h =
    let first =
    or_bad_ok number (take_line r bytes) (λ q. read_lines q (suc number) lines rest) P h
    in
    let others = read_found first.0 (suc number) lines rest P first.2 in
    record {
      none = others.none;
      last = others.last;
      next = others.next;
      took = ap (λ (o : Option SoFar). o >>= λ q. taken q lines) first.1 ∙ others.took;
      count = omega (arith, others.count);
      ends = others.ends;
    }

-- ---- the lines of logs

take_log : (names : Names) (line : List ℕ) → after heading line ≡ None
    → take_line (unread names) line ≡ Some (unread names)
unfolding take_line
take_log names line none = ap (take_front (unread names)) none

taken_logs : (names : Names) (logs lines : List (List ℕ)) → AreLogLines logs
    → taken (unread names) (logs ++ lines) ≡ taken (unread names) lines
taken_logs names [] lines are = refl
taken_logs names (log ∷ logs) lines are =
    ap (λ (o : Option SoFar). o >>= λ q. taken q (logs ++ lines))
    (take_log names log are.0.no_heading)
    ∙ taken_logs names logs lines are.1

logs_one_lines : (logs : List (List ℕ)) → AreLogLines logs → OneLines logs
logs_one_lines [] are = tt
logs_one_lines (log ∷ logs) are = (are.0.one_line, logs_one_lines logs are.1)

-- ---- the line that announces steps

-- so many steps are announced, and these were read
abbrev pub begun : Names → ℕ → List Step → SoFar
begun names count P = record { names = names; announced = Some count; steps = P }

pub after_again : (digits : List ℕ) → after heading (heading ++ digits) ≡ Some digits
after_again digits = refl

after_found : (text word rest : List ℕ) → after text word ≡ Some rest → word ≡ text ++ rest
after_found text word rest h =
    let size = length text in
    let chosen = if_some_yes (bytes_eq (take size word) text) (Some (drop size word)) rest h in
    let front = same_text (take size word) text chosen.0 in
    let back : drop size word ≡ rest = cc in
    sym (take-append-drop size word) ∙ ap (λ (t : List ℕ). t ++ drop size word) front
    ∙ ap (λ (t : List ℕ). text ++ t) back

announced_again : (names : Names) (count : ℕ) → 1 ≤ count → count ≤ whole_limit
    → take_line (unread names) (heading_line count) ≡ Some (begun names count [])
unfolding take_line
announced_again names count least most =
    ap (take_front (unread names)) (after_again (decimal count))
    ∙ ap (λ (o : Option ℕ). o >>= announce (unread names)) (u64_again count most)
    ∙ cond-true (nat_lt 0 count) (Some (begun names count [])) None (lt-ltb 0 count least)

heading_one_line : (count : ℕ) → count ≤ whole_limit → lacks 10 (heading_line count) ≡ true
heading_one_line count most =
    lacks-append 10 heading (decimal count) refl
    (bytes_lack 10 (decimal count) refl (bytes_of_decimal count most))

-- ---- the lines of steps

line_grows : (P : List Step) (line : Line) (Q : List Step) → put_line P line ≡ Some Q
    → length P ≤ length Q
line_grows P (Made position by head) Q h =
    let s : Step = record { by = by; head = head; effects = [] } in
    let chosen = if_some_yes (position == suc (length P)) (Some (s ∷ P)) Q h in
    let same : s ∷ P ≡ Q = cc in
    let size : length (s ∷ P) ≡ length Q = ap length same in
    omega (arith, size)
line_grows [] (Happened effect) Q h = cc
line_grows (s ∷ P) (Happened effect) Q h =
    let t : Step = record s { effects = s.effects ++ effect ∷ [] } in
    let same : t ∷ P ≡ Q = cc in
    let size : length (t ∷ P) ≡ length Q = ap length same in
    omega (arith, size)

bytes_grow : (names : Names) (P : List Step) (bytes : List ℕ) (Q : List Step)
    → put_bytes names P bytes ≡ Some Q → length P ≤ length Q
unfolding put_bytes
bytes_grow names P bytes Q h =
    let line = bind_some (line_in names bytes) (put_line P) Q h in
    line_grows P line.0 Q line.2

steps_grow : (names : Names) (P : List Step) (lines : List (List ℕ)) (Q : List Step)
    → steps_in names P lines ≡ Some Q → length P ≤ length Q
steps_grow names P [] Q h =
    let same : P ≡ Q = cc in
    let size : length P ≡ length Q = ap length same in
    omega (arith, size)
steps_grow names P (bytes ∷ lines) Q h =
    let put = bind_some (put_bytes names P bytes) (λ x. steps_in names x lines) Q h in
    let first = bytes_grow names P bytes put.0 put.1 in
    let rest = steps_grow names put.0 lines Q put.2 in
    omega (arith, first, rest)

take_step : (names : Names) (count : ℕ) (P : List Step) (bytes : List ℕ) (Q : List Step)
    → put_bytes names P bytes ≡ Some Q → length Q ≤ count
    → take_line (begun names count P) bytes ≡ Some (begun names count Q)
unfolding take_line
take_step names count P bytes Q put few =
    ap (λ (o : Option (List Step)). o >>= take_steps (begun names count P) count) put
    ∙ cond-true (nat_le (length Q) count) (Some (begun names count Q)) None (le-leb _ _ few)

taken_steps : (names : Names) (count : ℕ) (P : List Step) (lines : List (List ℕ)) (Q : List Step)
    → steps_in names P lines ≡ Some Q → length Q ≤ count
    → taken (begun names count P) lines ≡ Some (begun names count Q)
taken_steps names count P [] Q h few =
    let same : P ≡ Q = cc in
    ap (λ (x : List Step). Some (begun names count x)) same
taken_steps names count P (bytes ∷ lines) Q h few =
    let put = bind_some (put_bytes names P bytes) (λ x. steps_in names x lines) Q h in
    let grown = steps_grow names put.0 lines Q put.2 in
    ap (λ (o : Option SoFar). o >>= λ q. taken q lines)
    (take_step names count P bytes put.0 put.1 (omega (arith, grown, few)))
    ∙ taken_steps names count put.0 lines Q put.2 few

lines_one_lines : (names : Names) (lines : List Line) → AreNames names → AreLines names lines
    → OneLines (map (bytes_of names) lines)
lines_one_lines names [] are whole = tt
lines_one_lines names (line ∷ lines) are whole =
    (line_of_line_feeds names line are whole.0, lines_one_lines names lines are whole.1)

-- ---- what is spelled is read

ended_again : (names : Names) (P : List Step) (next : ℕ)
    → ended (begun names (length P) P) next ≡ Ok P
unfolding ended
ended_again names P next =
    cond-true (length P == length P) (Ok P) (Err next) (eq-eqb (length P) (length P) refl)

pub nothing_again : (names : Names) → result_ok (read_in names []) ≡ Some []
unfolding ended but_last last_of
nothing_again names = refl

-- the position of the newest step is a number of 64 bits
newest_fits : (names : Names) (s : Step) (P : List Step) → AreLines names (lines_of_steps (s ∷ P))
    → length (s ∷ P) ≤ whole_limit
newest_fits names s P whole =
    let last =
    back_lines names (lines_of_steps P) (step_lines (suc (length P)) s) whole
    in
    last.0.0

taken_again : (names : Names) (s : Step) (P : List Step) (logs : List (List ℕ)) → AreNames names
    → AreLogLines logs → AreLines names (lines_of_steps (s ∷ P))
    → taken (unread names)
    (logs ++ heading_line (length (s ∷ P)) ∷ map (bytes_of names) (lines_of_steps (s ∷ P)))
    ≡ Some (begun names (length (s ∷ P)) (s ∷ P))
taken_again names s P logs are log_lines whole =
    let count = length (s ∷ P) in
    let lines = map (bytes_of names) (lines_of_steps (s ∷ P)) in
    let most = newest_fits names s P whole in
    taken_logs names logs (heading_line count ∷ lines) log_lines
    ∙ ap (λ (o : Option SoFar). o >>= λ q. taken q lines)
    (announced_again names count (omega arith) most)
    ∙ taken_steps names count [] lines (s ∷ P) (steps_again names (s ∷ P) are whole) (omega arith)

pub text_again : (names : Names) (P : List Step) (text : List ℕ) → AreNames names
    → SpellsText names P text → result_ok (read_in names text) ≡ Some P
text_again names [] text are is =
    ap (λ (t : List ℕ). result_ok (read_in names t)) is ∙ nothing_again names
text_again names (s ∷ P) text are is =
    let count = length (s ∷ P) in
    let steps = map (bytes_of names) (lines_of_steps (s ∷ P)) in
    let all = is.logs ++ heading_line count ∷ steps in
    let most = newest_fits names s P is.whole in
    let one_lines : OneLines all =
    one_lines-append is.logs (heading_line count ∷ steps) (logs_one_lines is.logs is.are_logs)
    (heading_one_line count most, lines_one_lines names (lines_of_steps (s ∷ P)) are is.whole)
    in
    let took = taken_again names s P is.logs are is.are_logs is.whole in
    ap (λ (t : List ℕ). result_ok (read_in names t)) is.spelled
    ∙ ap (λ (ls : List (List ℕ)). result_ok (read_lines (unread names) 1 ls
    (rest_of (text_of_lines all)))) (lines_again all one_lines)
    ∙ ap (λ (rest : List ℕ). result_ok (read_lines (unread names) 1 all rest))
    (rest_again all one_lines)
    ∙ ap result_ok
    (read_taken (unread names) (begun names count (s ∷ P)) 1 (1 + length all) all [] took refl
    ∙ ended_again names (s ∷ P) (1 + length all))

-- the parts of a text that spells steps: its lines, and nothing behind the last
pub spelled_parts : (names : Names) (s : Step) (P : List Step) (text : List ℕ) → AreNames names
    → (is : SpellsLines names (s ∷ P) text)
    → parts_at 10 text
    ≡ (is.logs ++ heading_line (length (s ∷ P)) ∷ map (bytes_of names) (lines_of_steps (s ∷ P)))
    ++ [] ∷ []
spelled_parts names s P text are is =
    let count = length (s ∷ P) in
    let steps = map (bytes_of names) (lines_of_steps (s ∷ P)) in
    let all = is.logs ++ heading_line count ∷ steps in
    let most = newest_fits names s P is.whole in
    let one_lines : OneLines all =
    one_lines-append is.logs (heading_line count ∷ steps) (logs_one_lines is.logs is.are_logs)
    (heading_one_line count most, lines_one_lines names (lines_of_steps (s ∷ P)) are is.whole)
    in
    ap (parts_at 10) is.spelled ∙ parts_again all one_lines

-- ---- what is read is spelled so

-- the lines are those of logs, then one that announces steps, and then these
pub record HasHeading (names : Names) (lines : List (List ℕ)) (q : SoFar) : Type 0 where
  pub logs : List (List ℕ)
  pub count : ℕ
  pub back : List (List ℕ)
  pub are_logs : AreLogLines logs
  pub least : 1 ≤ count
  pub are : lines ≡ logs ++ heading_line count ∷ back
  pub took : taken (begun names count []) back ≡ Some q

-- the lines of a text: those of logs alone, or with steps behind them
abbrev pub Front : Names → List (List ℕ) → SoFar → Type 0
Front names lines q = (AreLogLines lines × (q ≡ unread names)) ⊎ HasHeading names lines q

heading_found : (names : Names) (line : List ℕ) (lines : List (List ℕ)) (q : SoFar)
    (digits : List ℕ) → after heading line ≡ Some digits
    → ((u64_in digits >>= announce (unread names)) >>= λ r. taken r lines) ≡ Some q
    → HasHeading names (line ∷ lines) q
heading_found names line lines q digits at h =
    let first = bind_some (u64_in digits >>= announce (unread names)) (λ r. taken r lines) q h in
    let count = bind_some (u64_in digits) (announce (unread names)) first.0 first.1 in
    let chosen =
    if_some_yes (nat_lt 0 count.0) (Some (begun names count.0 [])) first.0 count.2
    in
    let number = u64_found count.0 digits count.1 in
    let same : begun names count.0 [] ≡ first.0 = cc in
    let least : 0 < count.0 = ltb-true 0 count.0 chosen.0 in
    record {
      logs = [];
      count = count.0;
      back = lines;
      are_logs = tt;
      least = least;
      are =
          ap (λ (l : List ℕ). l ∷ lines)
          (after_found heading line digits at ∙ ap (λ (d : List ℕ). heading ++ d) number.0);
      took = subst (λ (r : SoFar). taken r lines ≡ Some q) (sym same) first.2;
    }

log_before : (names : Names) (line : List ℕ) (lines : List (List ℕ)) (q : SoFar) → IsLogLine line
    → Front names lines q → Front names (line ∷ lines) q
log_before names line lines q is (inl all) = inl ((is, all.0), all.1)
log_before names line lines q is (inr some) =
    inr (record {
      logs = line ∷ some.logs;
      count = some.count;
      back = some.back;
      are_logs = (is, some.are_logs);
      least = some.least;
      are = ap (λ (ls : List (List ℕ)). line ∷ ls) some.are;
      took = some.took;
    })

front_by : (names : Names) (line : List ℕ) (lines : List (List ℕ)) (q : SoFar)
    (digits : Option (List ℕ)) → lacks 10 line ≡ true → after heading line ≡ digits
    → (taken (unread names) lines ≡ Some q → Front names lines q)
    → (take_front (unread names) digits >>= λ r. taken r lines) ≡ Some q
    → Front names (line ∷ lines) q
front_by names line lines q None one at rest h =
    log_before names line lines q (record { one_line = one; no_heading = at }) (rest h)
front_by names line lines q (Some digits) one at rest h =
    inr (heading_found names line lines q digits at h)

pub front_found : (names : Names) (lines : List (List ℕ)) (q : SoFar) → OneLines lines
    → taken (unread names) lines ≡ Some q → Front names lines q
unfolding take_line
front_found names [] q one h = inl (tt, cc)
front_found names (line ∷ lines) q one h =
    front_by names line lines q (after heading line) one.0 refl
    (λ e. front_found names lines q one.1 e) h

-- what lines behind the heading made: steps
pub steps_taken : (names : Names) (count : ℕ) (P : List Step) (lines : List (List ℕ)) (q : SoFar)
    → taken (begun names count P) lines ≡ Some q
    → (Q : List Step) × (steps_in names P lines ≡ Some Q) × (q ≡ begun names count Q)
unfolding take_line
steps_taken names count P [] q h = (P, refl, cc)
steps_taken names count P (bytes ∷ lines) q h =
    let r = begun names count P in
    let first =
    bind_some (put_bytes names P bytes >>= take_steps r count) (λ x. taken x lines) q h
    in
    let put = bind_some (put_bytes names P bytes) (take_steps r count) first.0 first.1 in
    let chosen =
    if_some_yes (nat_le (length put.0) count) (Some (begun names count put.0)) first.0 put.2
    in
    let same : begun names count put.0 ≡ first.0 = cc in
    let rest =
    steps_taken names count put.0 lines q
    (subst (λ (x : SoFar). taken x lines ≡ Some q) (sym same) first.2)
    in (
      rest.0,
      ap (λ (o : Option (List Step)). o >>= λ x. steps_in names x lines) put.1 ∙ rest.1,
      rest.2,
    )

-- a text ends where it may
ok_yes : (b : Bool) (Q : List Step) (number : ℕ) (P : List Step)
    → cond b (Ok Q) (Err number) ≡ Ok P → (b ≡ true) × (Q ≡ P)
ok_yes true Q number P h = (refl, cc)
ok_yes false Q number P h = cc

pub nothing_ended : (names : Names) (next : ℕ) (P : List Step) → ended (unread names) next ≡ Ok P
    → (next ≡ 1) × ([] ≡ P)
unfolding ended
nothing_ended names next P h =
    let is = ok_yes (next == 1) [] next P h in
    (eqb-true next 1 is.0, is.1)

pub steps_ended : (names : Names) (count : ℕ) (Q : List Step) (next : ℕ) (P : List Step)
    → ended (begun names count Q) next ≡ Ok P → (length Q ≡ count) × (Q ≡ P)
unfolding ended
steps_ended names count Q next P h =
    let is = ok_yes (length Q == count) Q next P h in
    (eqb-true (length Q) count is.0, is.1)

no_lines : (lines : List (List ℕ)) → length lines ≡ 0 → text_of_lines lines ≡ []
no_lines [] none = refl
no_lines (line ∷ lines) none = absurd (omega (arith, none))

-- a text that spells steps, at least one
spells_text : (names : Names) (P : List Step) (text : List ℕ) → 1 ≤ length P
    → SpellsLines names P text → SpellsText names P text
spells_text names [] text least is = absurd (omega (arith, least))
spells_text names (s ∷ P) text least is = is

nothing_found : (names : Names) (lines : List (List ℕ)) (next : ℕ) (P : List Step) (text : List ℕ)
    → text ≡ text_of_lines lines → next ≡ 1 + length lines
    → ended (unread names) next ≡ Ok P → SpellsText names P text
nothing_found names lines next P text is count h =
    let ends = nothing_ended names next P h in
    let none : length lines ≡ 0 = omega (arith, ends.0, count) in
    subst (λ (Q : List Step). SpellsText names Q text) ends.1 (is ∙ no_lines lines none)

some_found : (names : Names) (lines : List (List ℕ)) (q : SoFar) (next : ℕ) (P : List Step)
    (text : List ℕ) → text ≡ text_of_lines lines → HasHeading names lines q → ended q next ≡ Ok P
    → SpellsText names P text
some_found names lines q next P text is has h =
    let took = steps_taken names has.count [] has.back q has.took in
    let Q = took.0 in
    let ends =
    steps_ended names has.count Q next P (subst (λ (x : SoFar). ended x next ≡ Ok P) took.2 h)
    in
    let steps = steps_exact_found names Q has.back took.1 in
    let spelled : SpellsLines names Q text = record {
      logs = has.logs;
      are_logs = has.are_logs;
      whole = steps.whole;
      spelled =
          is ∙ ap text_of_lines has.are
          ∙ ap (λ (n : ℕ). text_of_lines (has.logs ++ heading_line n ∷ has.back)) (sym ends.0)
          ∙ ap (λ (ls : List (List ℕ)). text_of_lines
          (has.logs ++ heading_line (length Q) ∷ ls)) steps.spelled;
    } in
    let least = has.least in
    let size = ends.0 in
    subst (λ (R : List Step). SpellsText names R text) ends.1
    (spells_text names Q text (omega (arith, least, size)) spelled)

pub some_ok : (o : Result (List Step) ℕ) (P : List Step) → result_ok o ≡ Some P → o ≡ Ok P
some_ok (Ok Q) P h = cc
some_ok (Err number) P h = cc

pub text_found : (names : Names) (P : List Step) (text : List ℕ)
    → result_ok (read_in names text) ≡ Some P → SpellsText names P text
text_found names P text h =
    let lines = lines_of text in
    let whole =
    read_found (unread names) 1 lines (rest_of text) P (some_ok (read_in names text) P h)
    in
    let is = text_is text whole.none in
    let one = before_last (parts_at 10 text) (one_parts text) in
    elim (front_found names lines whole.last one whole.took) [
      | inl all ↦
          nothing_found names lines whole.next P text is whole.count
          (subst (λ (x : SoFar). ended x whole.next ≡ Ok P) all.1 whole.ends)
      | inr some ↦ some_found names lines whole.last whole.next P text is some whole.ends
    ]
