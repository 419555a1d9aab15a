use Rattle.std.specs.Prelude.{ℕ, zero, suc, ◌+◌, Bool, ◌||◌, ◌==◌, nat_le, List, [], ◌∷◌, length}
use Rattle.std.specs.Prelude.{Option, Some, None, if◌then◌else◌, slice_get, sum_by}
use Rattle.linx_base.specs.Content.{size_of}
use Rattle.linx_base.specs.declared.identity.ItemAt.{ItemAt}
use Rattle.linx_base.specs.declared.name.Names.{Names}
use Rattle.journal.specs.declared.head.Head.{Head}
use Rattle.journal.specs.declared.head.Head.TheVariants.{Send, Hunt, Attach}
use Rattle.journal.specs.declared.effect.Effect.{Effect}
use Rattle.journal.specs.declared.effect.Effect.TheVariants.{Arrived, Found, Notified}
use Rattle.journal.specs.declared.effect.Step.{Step}

-- what a journal says: the names of nodes and links, and the steps, the newest first
pub record Log : Type 0 where
  pub names : Names
  pub steps : List Step

-- what a journal is seen as: its log, and the steps that it has room for
pub record Book : Type 0 where
  pub log : Log
  pub spare : ℕ

-- the step at a position, from 1
abbrev pub step_at : List Step → ℕ → Option Step
step_at [] k = None
step_at (s ∷ P) k = if k == suc (length P) then Some s else step_at P k

-- the effect at a place of a step, from 1
abbrev pub nth_effect : ℕ → Option Step → Option Effect
nth_effect place None = None
nth_effect zero (Some s) = None
nth_effect (suc k) (Some s) = slice_get s.effects k

-- the effect at the position of an item
abbrev pub effect_at : List Step → ItemAt → Option Effect
effect_at P at = nth_effect at.place (step_at P at.step)

-- the size of the signal that a head notes
abbrev pub head_bytes : Head → ℕ
head_bytes (Send peer note answer) = size_of note
head_bytes (Hunt path note) = size_of note
head_bytes (Attach peer note) = size_of note
head_bytes _ = 0

-- the size of the signal that an effect notes
abbrev pub effect_bytes : Effect → ℕ
effect_bytes (Arrived at from note) = size_of note
effect_bytes (Found at from note number) = size_of note
effect_bytes (Notified at from note reference reason) = size_of note
effect_bytes _ = 0

-- the sizes of the signals that a step notes
abbrev pub step_bytes : Step → ℕ
step_bytes s = head_bytes s.head + sum_by effect_bytes s.effects

-- the sizes of all noted signals
abbrev pub signal_bytes_of : List Step → ℕ
signal_bytes_of [] = 0
signal_bytes_of (s ∷ P) = signal_bytes_of P + step_bytes s

-- the steps that fill a journal
abbrev pub step_limit : ℕ
step_limit = 200000

-- the bytes of noted signals that fill a journal
abbrev pub byte_limit : ℕ
byte_limit = 67108864

-- the journal takes no further step
abbrev pub is_full : List Step → Bool
is_full P = nat_le step_limit (length P) || nat_le byte_limit (signal_bytes_of P)
