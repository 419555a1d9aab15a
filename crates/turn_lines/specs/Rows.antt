-- TURNS IN ROWS: those of one maker behind one another.
use Rattle.std.specs.Prelude.{ℕ, ◌+◌, ◌==◌, Bool, false, List, [], ◌∷◌, if◌then◌else◌}
use Rattle.journal.specs.declared.by.By.{By}
use Rattle.journal.specs.declared.by.By.TheVariants.{Actor, Pump}
use Rattle.journal.specs.declared.effect.Step.{Step}
use Rattle.turn_lines.specs.Turns.{begins_turn}
use Rattle.turn_lines.specs.declared.rows.Row.{Row}

-- two makers are one
abbrev pub is_same : By → By → Bool
is_same (Actor k) (Actor m) = k == m
is_same (Pump l) (Pump m) = l.0 == m.0
is_same _ _ = false

-- the row of one turn of a maker
abbrev pub one_turn : By → Row
one_turn maker = record { maker = maker; times = 1 }

-- one turn more in a row
abbrev pub longer : Row → Row
longer row = record { maker = row.maker; times = row.times + 1 }

-- a turn before rows: it is one of the first row, if that is its maker's, or else a row of its own
abbrev pub before_rows : By → List Row → List Row
before_rows maker [] = one_turn maker ∷ []
before_rows maker (row ∷ rows) =
    if is_same maker row.maker then longer row ∷ rows else one_turn maker ∷ row ∷ rows

-- THE ROWS of the turns of these makers
abbrev pub rows_of : List By → List Row
rows_of [] = []
rows_of (maker ∷ makers) = before_rows maker (rows_of makers)

-- the number of turns in rows
abbrev pub turns_in : List Row → ℕ
turns_in [] = 0
turns_in (row ∷ rows) = row.times + turns_in rows

-- ---- the same from the other end

-- a row, and behind it a turn, in the row where it is its maker's
abbrev pub behind_row : Row → By → List Row
behind_row row maker =
    if is_same row.maker maker then longer row ∷ [] else row ∷ one_turn maker ∷ []

-- a row and those that follow, and behind them a turn
abbrev pub behind_rows : Row → List Row → By → List Row
behind_rows row [] maker = behind_row row maker
behind_rows row (next ∷ rows) maker = row ∷ behind_rows next rows maker

-- rows with a turn behind them
abbrev pub with_turn : List Row → By → List Row
with_turn [] maker = one_turn maker ∷ []
with_turn (row ∷ rows) maker = behind_rows row rows maker

-- the turn that a step begins behind rows
abbrev pub with_step : List Row → Step → List Row
with_step rows s = if begins_turn s.by s.head then with_turn rows s.by else rows
