-- How a function that may be refused memory follows a reading of words.
use Rattle.std.specs.Prelude.{◌≡◌, Result, Ok, Err}
use Rattle.script_words.specs.declared.fault.Fault.{Fault}
use Rattle.script_words.specs.declared.line_error.LineError.{LineError}
use Rattle.script_words.specs.declared.line_error.LineError.TheVariants.{Bad, NoMemory}

-- goes on with the value, or stays at the fault
infixl 10 ◌>>=◌
-- what is read of a value that was read before; a fault before it stays
abbrev pub ◌>>=◌ : {A B : Type 0} → Result A Fault → (A → Result B Fault) → Result B Fault
(Ok x) >>= f = f x
(Err fault) >>= f = Err fault

-- what is made of the value
abbrev pub made : {A B : Type 0} → (A → B) → Result A Fault → Result B Fault
made f (Ok x) = Ok (f x)
made f (Err fault) = Err fault

-- the fault is that of the reading, unless memory ran out
abbrev pub Fails : {Y : Type 0} → LineError → Result Y Fault → Type 0
Fails (Bad fault) reading = reading ≡ Err fault
Fails NoMemory reading = Unit {0}

-- what a function returned, seen by view, is what the reading gives, unless memory ran out
abbrev pub Gives : {X Y : Type 0} → (X → Y) → Result X LineError → Result Y Fault → Type 0
Gives view (Ok x) reading = reading ≡ Ok (view x)
Gives view (Err error) reading = Fails error reading
