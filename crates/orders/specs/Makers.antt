-- THE MAKERS THAT ARE READY, by number.
use Rattle.std.specs.Prelude.{ℕ, zero, suc, ◌<◌, ◌≤◌, ◌≡◌, true, List, [], ◌∷◌, ◌++◌, if◌then◌else◌}
use Rattle.script_lang.specs.Parts.{ScriptParts}
use Rattle.fabric.specs.Run.{Layout}
use Rattle.stage.specs.Ready.{is_ready}
use Rattle.stage.specs.Turns.{makers}

-- a maker of the script is ready
pub record IsReadyMaker (script : ScriptParts) (f : Layout) (m : ℕ) : Type 0 where
  pub above : 0 < m
  pub within : m ≤ makers script
  pub is : is_ready script f m ≡ true

-- the makers that are ready, of the first so many
abbrev pub ready_among : ScriptParts → Layout → ℕ → List ℕ
ready_among script f zero = []
ready_among script f (suc n) =
    if is_ready script f (suc n)
    then ready_among script f n ++ suc n ∷ []
    else ready_among script f n

-- THE MAKERS THAT ARE READY
abbrev pub ready : ScriptParts → Layout → List ℕ
ready script f = ready_among script f (makers script)
