-- How a function that may be refused memory follows a reading of words.
use Rattle.std.specs.Prelude.{◌≡◌, Result, Ok, Err, Option, Some, None}
use Rattle.text_words.specs.declared.read_error.ReadError.{ReadError}
use Rattle.text_words.specs.declared.read_error.ReadError.TheVariants.{Bad, NoMemory}

-- goes on with the value, where there is one
infixl 10 ◌>>=◌
-- what is read of a value that was read before; nothing where there was none
abbrev pub ◌>>=◌ : {A B : Type 0} → Option A → (A → Option B) → Option B
(Some x) >>= f = f x
None >>= f = None

-- what is made of the value
abbrev pub made : {A B : Type 0} → (A → B) → Option A → Option B
made f (Some x) = Some (f x)
made f None = None

-- there is no value, unless memory ran out
abbrev pub Fails : {Y : Type 0} → ReadError → Option Y → Type 0
Fails Bad reading = reading ≡ None
Fails NoMemory reading = Unit {0}

-- what a function returned, seen by view, is what the reading gives, unless memory ran out
abbrev pub Gives : {X Y : Type 0} → (X → Y) → Result X ReadError → Option Y → Type 0
Gives view (Ok x) reading = reading ≡ Some (view x)
Gives view (Err error) reading = Fails error reading
