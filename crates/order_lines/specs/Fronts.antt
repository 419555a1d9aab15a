-- THE MAKERS THAT THE ORDERS OF A TEXT LIST, and the script beside them.
use Rattle.std.specs.Prelude.{ℕ, ◌+◌, Result, Ok, Err, List, [], ◌∷◌, ◌++◌, drop, length, nat_le}
use Rattle.std.specs.Prelude.{if◌then◌else◌}
use Rattle.script_lang.specs.Parts.{ScriptParts}
use Rattle.script_lang.specs.Reading.{script_of}
use Rattle.script_words.specs.Faults.{bad}
use Rattle.script_words.specs.Gives.{◌>>=◌}
use Rattle.script_words.specs.Lines.{lines_of, words_in}
use Rattle.script_words.specs.declared.bad_kind.BadKind.TheVariants.{OverLimit}
use Rattle.script_words.specs.declared.fault.Fault.{Fault}
use Rattle.order_lines.specs.Lines.{is_order_line, without_orders}
use Rattle.order_lines.specs.Turns.{turn_limit, turns_spelled, written_out}
use Rattle.order_lines.specs.declared.turns.Makers.{Makers}
use Rattle.order_lines.specs.declared.turns.Turns.{Turns}

-- ---- each line

-- the turns of a word behind those of the words before, where they are no more than a front has
abbrev pub with_turns : List ℕ → List ℕ → Turns → Result (List ℕ) Fault
with_turns front word turns =
    if nat_le (length front + turns.times) turn_limit
    then Ok (front ++ written_out turns)
    else Err (bad OverLimit word)

-- the turns of these words behind those before
abbrev pub with_words : Makers → List ℕ → List (List ℕ) → Result (List ℕ) Fault
with_words makers front [] = Ok front
with_words makers front (word ∷ words) = do
  turns ← turns_spelled makers word
  longer ← with_turns front word turns
  with_words makers longer words

-- the turns of a line behind those before: of the words behind `order`
abbrev pub with_line : Makers → List ℕ → List ℕ → Result (List ℕ) Fault
with_line makers front line =
    if is_order_line line
    then words_in line >>= (λ words. with_words makers front (drop 1 words))
    else Ok front

-- ---- the whole

-- goes on behind a good line, or stays at the bad one
abbrev pub behind : {X Y : Type 0} → Result X Fault → ℕ → (X → Result Y (ℕ × Fault))
    → Result Y (ℕ × Fault)
behind (Ok x) line next = next x
behind (Err fault) line next = Err (line, fault)

-- the turns of the lines that follow, behind those before and so many lines
unfoldable pub front_from : Makers → List ℕ → ℕ → List (List ℕ) → Result (List ℕ) (ℕ × Fault)
front_from makers front line [] = Ok front
front_from makers front line (next ∷ rest) =
    behind (with_line makers front next) (line + 1)
    (λ longer. front_from makers longer (line + 1) rest)

-- THE MAKERS THAT THE ORDERS OF A TEXT LIST, or the first bad one of its lines
abbrev pub front_of : Makers → List ℕ → Result (List ℕ) (ℕ × Fault)
front_of makers bytes = front_from makers [] 0 (lines_of bytes)

-- the makers of a script
abbrev pub makers_of : ScriptParts → Makers
makers_of script = record { actors = length script.actors; links = length script.links }

-- a script, and the makers whose turns come first
pub record OrderedParts : Type 0 where
  pub script : ScriptParts
  pub front : List ℕ

-- a script and a front that was read
abbrev pub with_front : ScriptParts → Result (List ℕ) (ℕ × Fault)
    → Result OrderedParts (ℕ × Fault)
with_front script (Ok front) = Ok (record { script = script; front = front })
with_front script (Err bad) = Err bad

-- a script that was read, and the orders beside it
abbrev pub beside : List ℕ → Result ScriptParts (ℕ × Fault) → Result OrderedParts (ℕ × Fault)
beside bytes (Err bad) = Err bad
beside bytes (Ok script) = with_front script (front_of (makers_of script) bytes)

-- A SCRIPT WITH ITS ORDERS, as bytes spell both: the script of the text in which orders are comments,
-- and what they list; or the first bad line of the script, or else of the orders
abbrev pub ordered_of : List ℕ → Result OrderedParts (ℕ × Fault)
ordered_of bytes = beside bytes (script_of (without_orders bytes))
