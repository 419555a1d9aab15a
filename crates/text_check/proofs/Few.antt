-- A text spells no more steps than it has bytes.
use Rattle.std.proofs.Common.{if◌then◌else◌, true, false, ◌≡◌, ◌==◌, ℕ, suc, ◌+◌, ◌≤◌, ◌<◌, List, [], ◌∷◌, ◌++◌, length, refl}
use Rattle.std.proofs.Common.{sym, ap, Option, Some, None, Ok, Err, arith, nat_le, nat_lt}
use Rattle.std.proofs.lemmas.List.Splits.{length-slice_split}
use Rattle.std.proofs.lemmas.List.Sums.{count_by-le-length}
use Rattle.linx_base.specs.declared.name.Names.{Names}
use Rattle.journal.specs.declared.effect.Step.{Step}
use Rattle.journal_words.specs.declared.lines.Line.{Line}
use Rattle.journal_words.specs.declared.lines.Line.TheVariants.{Made, Happened}
use Rattle.journal_words.specs.Lines.{line_in}
use Rattle.text_words.specs.Numbers.{u64_in}
use Rattle.text_words.specs.Words.{after, but_last, lines_of, parts_at, rest_of}
use Rattle.reading_laws.proofs.Tools.{bind_some, if_some_yes}
use Rattle.journal_read.specs.Reading.{put_line, put_bytes, SoFar, unread, heading, announce}
use Rattle.journal_read.specs.Reading.{take_front, take_steps, take_by, take_line}
use Rattle.journal_read.specs.Reading.{is_whole, ended, ended_behind, or_bad, read_lines, read_in}

-- ---- a line makes one step at most

put_most : (P : List Step) (line : Line) (Q : List Step) → put_line P line ≡ Some Q
    → length Q ≤ suc (length P)
put_most P (Made position by head) Q h =
    let s : Step = record { by = by; head = head; effects = [] } in
    let chosen = if_some_yes (position == suc (length P)) (Some (s ∷ P)) Q h in
    let same : s ∷ P ≡ Q = cc in
    let size : length (s ∷ P) ≡ length Q = ap length same in
    omega (arith, size)
put_most [] (Happened effect) Q h = cc
put_most (s ∷ P) (Happened effect) Q h =
    let t : Step = record s { effects = s.effects ++ effect ∷ [] } in
    let same : t ∷ P ≡ Q = cc in
    let size : length (t ∷ P) ≡ length Q = ap length same in
    omega (arith, size)

bytes_most : (names : Names) (P : List Step) (bytes : List ℕ) (Q : List Step)
    → put_bytes names P bytes ≡ Some Q → length Q ≤ suc (length P)
unfolding put_bytes
bytes_most names P bytes Q h =
    let line = bind_some (line_in names bytes) (put_line P) Q h in
    put_most P line.0 Q line.2

announced_same : (r : SoFar) (n : ℕ) (q : SoFar) → announce r n ≡ Some q
    → length q.steps ≡ length r.steps
announced_same r n q h =
    let chosen = if_some_yes (nat_lt 0 n) (Some (record r { announced = Some n })) q h in
    let same : record r { announced = Some n } ≡ q = cc in
    ap (λ (x : SoFar). length x.steps) (sym same)

front_same : (r : SoFar) (digits : Option (List ℕ)) (q : SoFar) → take_front r digits ≡ Some q
    → length q.steps ≡ length r.steps
front_same r None q h =
    let same : r ≡ q = cc in
    ap (λ (x : SoFar). length x.steps) (sym same)
front_same r (Some digits) q h =
    let n = bind_some (u64_in digits) (announce r) q h in
    announced_same r n.0 q n.2

taken_same : (r : SoFar) (n : ℕ) (P : List Step) (q : SoFar) → take_steps r n P ≡ Some q
    → length q.steps ≡ length P
taken_same r n P q h =
    let chosen = if_some_yes (nat_le (length P) n) (Some (record r { steps = P })) q h in
    let same : record r { steps = P } ≡ q = cc in
    ap (λ (x : SoFar). length x.steps) (sym same)

by_most : (r : SoFar) (o : Option ℕ) (bytes : List ℕ) (q : SoFar) → take_by r o bytes ≡ Some q
    → length q.steps ≤ suc (length r.steps)
by_most r None bytes q h =
    let same = front_same r (after heading bytes) q h in omega (arith, same)
by_most r (Some n) bytes q h =
    let put = bind_some (put_bytes r.names r.steps bytes) (take_steps r n) q h in
    let more = bytes_most r.names r.steps bytes put.0 put.1 in
    let same = taken_same r n put.0 q put.2 in
    omega (arith, more, same)

line_most : (r : SoFar) (bytes : List ℕ) (q : SoFar) → take_line r bytes ≡ Some q
    → length q.steps ≤ suc (length r.steps)
unfolding take_line
line_most r bytes q h = by_most r r.announced bytes q h

-- ---- so the lines make as many at most

ended_most : (rest : List ℕ) (r : SoFar) (line : ℕ) (P : List Step)
    → ended_behind rest r line ≡ Ok P → length P ≤ length r.steps
unfolding ended
ended_most [] r line P h =
    ended_by (is_whole r.announced r.steps line) h
  where
    ended_by : (whole : _) → (if whole then Ok r.steps else Err line) ≡ Ok P
        → length P ≤ length r.steps
    ended_by true is = let same : r.steps ≡ P = cc in omega (arith, ap length same)
    ended_by false is = cc
ended_most (b ∷ bytes) r line P h = cc

lines_most : (r : SoFar) (line : ℕ) (lines : List (List ℕ)) (rest : List ℕ) (P : List Step)
    → read_lines r line lines rest ≡ Ok P → length P ≤ length r.steps + length lines
lines_most r line [] rest P h =
    let few = ended_most rest r line P h in omega (arith, few)
lines_most r line (bytes ∷ lines) rest P h =
    next (take_line r bytes) refl (λ q is. lines_most q (suc line) lines rest P is) h
  where
    next : (o : Option SoFar) → take_line r bytes ≡ o
        → ((q : SoFar) → read_lines q (suc line) lines rest ≡ Ok P
        → length P ≤ length q.steps + length lines)
        → or_bad line o (λ q. read_lines q (suc line) lines rest) ≡ Ok P
        → length P ≤ length r.steps + length (bytes ∷ lines)
    next (Some q) at behind is =
        let one = line_most r bytes q at in
        let more = behind q is in
        omega (arith, one, more)
    next None at behind is = cc

-- ---- and no more lines than bytes

but_last_one : (parts : List (List ℕ)) → 0 < length parts
    → length (but_last parts) + 1 ≤ length parts
unfolding but_last
but_last_one [] some = omega (arith, some)
but_last_one (part ∷ []) some = omega arith
but_last_one (part ∷ next ∷ parts) some =
    let rest = but_last_one (next ∷ parts) (omega arith) in omega (arith, rest)

lines_few : (text : List ℕ) → length (lines_of text) ≤ length text
lines_few text =
    let parts = length-slice_split (λ (b : ℕ). b == 10) text in
    let feeds = count_by-le-length (λ (b : ℕ). b == 10) text in
    let lines = but_last_one (parts_at 10 text) (omega (arith, parts)) in
    omega (arith, parts, feeds, lines)

-- the steps of a text
pub steps_few : (names : Names) (text : List ℕ) (P : List Step) → read_in names text ≡ Ok P
    → length P ≤ length text
steps_few names text P h =
    let most = lines_most (unread names) 1 (lines_of text) (rest_of text) P h in
    let few = lines_few text in
    omega (arith, most, few)
