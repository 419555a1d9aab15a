-- What follows from the spelling alone.
use Rattle.std.specs.Prelude.{◌≡◌, List, ℕ}
use Rattle.rlnh_messages.specs.declared.rlnh.Rlnh.{Rlnh}
use Rattle.linx_base.specs.SigNotes.{SigNote}
use Rattle.rlnh_messages.specs.Messages.{IsRlnh, Spells, spelling_of}
use Rattle.rlnh_messages.specs.Signals.{IsSignal, IsSignalBody, SpellsSignal, signal_body}

-- every message has a spelling
abbrev pub EachIsSpelled : Type 0
EachIsSpelled = (message : Rlnh) → IsRlnh message → Spells message (spelling_of message)

-- no message has two spellings
abbrev pub HasOneSpelling : Type 0
HasOneSpelling =
    (message : Rlnh) (bytes others : List ℕ) → Spells message bytes → Spells message others
    → bytes ≡ others

-- no bytes spell two messages
abbrev pub SpellsOneMessage : Type 0
SpellsOneMessage =
    (message other : Rlnh) (bytes : List ℕ) → Spells message bytes → Spells other bytes
    → message ≡ other

-- every signal goes by a body, and each body by which one goes has as many bytes as a body of a
-- signal may have
pub record EachSignalGoes : Type 0 where
  pub spelled : (signal : SigNote) → IsSignal signal → SpellsSignal signal (signal_body signal)
  pub bodied : (signal : SigNote) (body : List ℕ) → SpellsSignal signal body → IsSignalBody body
