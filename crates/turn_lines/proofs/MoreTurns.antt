-- One turn more behind rows of turns.
use Rattle.std.proofs.Common.{◌≡◌, ◌∙◌, ℕ, ◌+◌, ◌≤◌, ◌++◌, Bool, true, false, cond, List, []}
use Rattle.std.proofs.Common.{◌∷◌, length, refl, sym, ap, arith, length-append, eqb-true}
use Rattle.journal.specs.declared.by.By.{By}
use Rattle.journal.specs.declared.by.By.TheVariants.{Actor, Pump}
use Rattle.journal.specs.declared.effect.Step.{Step}
use Rattle.turn_lines.specs.Rows.{before_rows, behind_row, behind_rows, is_same, longer, one_turn}
use Rattle.turn_lines.specs.Rows.{rows_of, turns_in, with_step, with_turn}
use Rattle.turn_lines.specs.Turns.{begins_turn, turn_makers}
use Rattle.turn_lines.specs.declared.rows.Row.{Row}

-- ---- makers that are the same

link_of : ℕ → By
link_of n = Pump (record { 0 = n })

pub same_maker : (a b : By) → is_same a b ≡ true → a ≡ b
unfolding link_of
same_maker (Actor k) (Actor m) is = ap Actor (eqb-true k m is)
same_maker (Actor k) (Pump m) is = cc
same_maker (Pump l) (Actor m) is = cc
same_maker (Pump l) (Pump m) is = ap link_of (eqb-true l.0 m.0 is)

-- ---- from one end and from the other

-- a turn before rows, by whether the first row is its maker's
abbrev before_by : Bool → By → Row → List Row → List Row
before_by same a row rows = cond same (longer row ∷ rows) (one_turn a ∷ row ∷ rows)

-- a turn behind a row, by the same
abbrev behind_by : Bool → Row → By → List Row
behind_by same row m = cond same (longer row ∷ []) (row ∷ one_turn m ∷ [])

two_turns : By → List Row
two_turns a = record { maker = a; times = 1 + 1 } ∷ []

two_alone : (same : Bool) (a m : By) → is_same a m ≡ same
    → behind_by same (one_turn a) m ≡ before_by same a (one_turn m) []
unfolding two_turns
two_alone true a m is = ap two_turns (same_maker a m is)
two_alone false a m is = refl

by_one : (first last : Bool) (a m : By) (row : Row) → is_same a row.maker ≡ first
    → is_same row.maker m ≡ last
    → with_turn (before_by first a row []) m ≡ before_rows a (behind_by last row m)
by_one true true a m row is_first is_last = rw (is_first, is_last) refl
by_one true false a m row is_first is_last = rw (is_first, is_last) refl
by_one false true a m row is_first is_last = rw (is_first, is_last) refl
by_one false false a m row is_first is_last = rw (is_first, is_last) refl

by_more : (first : Bool) (a m : By) (row next : Row) (rows : List Row)
    → with_turn (before_by first a row (next ∷ rows)) m
    ≡ before_by first a row (behind_rows next rows m)
by_more true a m row next rows = refl
by_more false a m row next rows = refl

-- a turn before and a turn behind
both_ends : (a m : By) (rows : List Row)
    → with_turn (before_rows a rows) m ≡ before_rows a (with_turn rows m)
both_ends a m [] = two_alone (is_same a m) a m refl
both_ends a m (row ∷ []) = by_one (is_same a row.maker) (is_same row.maker m) a m row refl refl
both_ends a m (row ∷ next ∷ rows) = by_more (is_same a row.maker) a m row next rows

-- the rows with one maker more
rows_more : (makers : List By) (m : By) → with_turn (rows_of makers) m ≡ rows_of (makers ++ m ∷ [])
rows_more [] m = refl
rows_more (a ∷ makers) m =
    both_ends a m (rows_of makers) ∙ ap (before_rows a) (rows_more makers m)

-- ---- the last row

behind_last : (first : Row) (before : List Row) (row : Row) (m : By)
    → behind_rows first (before ++ row ∷ []) m ≡ first ∷ (before ++ behind_row row m)
behind_last first [] row m = refl
behind_last first (next ∷ before) row m =
    ap (λ (rows : List Row). first ∷ rows) (behind_last next before row m)

last_alone : (before : List Row) (row : Row) (m : By)
    → with_turn (before ++ row ∷ []) m ≡ before ++ behind_row row m
last_alone [] row m = refl
last_alone (first ∷ before) row m = behind_last first before row m

-- a turn behind rows is one behind the last of them
pub with_last : (rows before : List Row) (row : Row) (m : By) → rows ≡ before ++ row ∷ []
    → with_turn rows m ≡ before ++ behind_row row m
with_last rows before row m is =
    ap (λ (r : List Row). with_turn r m) is ∙ last_alone before row m

few_in_last : (before : List Row) (row : Row) → row.times ≤ turns_in (before ++ row ∷ [])
few_in_last [] row = omega arith
few_in_last (first ∷ before) row = omega (arith, few_in_last before row)

-- a row has no more turns than all
pub last_few : (rows before : List Row) (row : Row) → rows ≡ before ++ row ∷ []
    → row.times ≤ turns_in rows
last_few rows before row is = omega (arith, few_in_last before row, ap turns_in is)

-- ---- the rows of a journal

step_by : (begins : Bool) (s : Step) (P : List Step)
    → cond begins (with_turn (rows_of (turn_makers P)) s.by) (rows_of (turn_makers P))
    ≡ rows_of (cond begins (turn_makers P ++ s.by ∷ []) (turn_makers P))
step_by true s P = rows_more (turn_makers P) s.by
step_by false s P = refl

-- one step more
pub rows_next : (P Q : List Step) (s : Step) (before after : List Row) → Q ≡ s ∷ P
    → before ≡ rows_of (turn_makers P) → after ≡ with_step before s
    → after ≡ rows_of (turn_makers Q)
rows_next P Q s before after grown so_far now =
    now ∙ ap (λ (rows : List Row). with_step rows s) so_far
    ∙ step_by (begins_turn s.by s.head) s P
    ∙ ap (λ (R : List Step). rows_of (turn_makers R)) (sym grown)

before_turns : (same : Bool) (a : By) (row : Row) (rows : List Row)
    → turns_in (before_by same a row rows) ≡ 1 + turns_in (row ∷ rows)
before_turns true a row rows = omega arith
before_turns false a row rows = omega arith

one_more : (a : By) (rows : List Row) → turns_in (before_rows a rows) ≡ 1 + turns_in rows
one_more a [] = omega arith
one_more a (row ∷ rows) = before_turns (is_same a row.maker) a row rows

-- the turns in rows are those of the makers
pub turns_of_rows : (makers : List By) → turns_in (rows_of makers) ≡ length makers
turns_of_rows [] = refl
turns_of_rows (a ∷ makers) = omega (arith, one_more a (rows_of makers), turns_of_rows makers)

few_by : (begins : Bool) (s : Step) (P : List Step) → length (turn_makers P) ≤ length P
    → length (cond begins (turn_makers P ++ s.by ∷ []) (turn_makers P)) ≤ length (s ∷ P)
few_by true s P few = omega (arith, few, length-append (turn_makers P) (s.by ∷ []))
few_by false s P few = omega (arith, few)

few_makers : (P : List Step) → length (turn_makers P) ≤ length P
few_makers [] = omega arith
few_makers (s ∷ P) = few_by (begins_turn s.by s.head) s P (few_makers P)

-- there are no more turns than steps
pub few_turns : (P : List Step) (rows : List Row) → rows ≡ rows_of (turn_makers P)
    → turns_in rows ≤ length P
few_turns P rows is =
    omega (arith, ap turns_in is, turns_of_rows (turn_makers P), few_makers P)
