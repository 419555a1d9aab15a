-- The bodies by which signals go over a link.
use Rattle.std.specs.Prelude.{◌≡◌, ℕ, ◌^◌, ◌<◌, ◌≤◌, List, ◌++◌, length}
use Rattle.byteorder.specs.Endian.{big_bytes}
use Rattle.linx_base.specs.Content.{data_limit}
use Rattle.linx_base.specs.Frames.{body_limit}
use Rattle.linx_base.specs.SigNotes.{SigNote}

-- the body by which a signal goes: its number in four bytes, and its data
abbrev pub signal_body : SigNote → List ℕ
signal_body signal = big_bytes 4 signal.number ++ signal.bytes

-- a signal: its number fits four bytes, and its data are no more than 65,532
pub record IsSignal (signal : SigNote) : Type 0 where
  pub number_fits : signal.number < 2 ^ 32
  pub data_fit : length signal.bytes ≤ data_limit

-- the body is the one by which this signal goes
pub record SpellsSignal (signal : SigNote) (body : List ℕ) : Type 0 where
  pub is_signal : IsSignal signal
  pub spelled : body ≡ signal_body signal

-- as many bytes as a body of a signal may have: it has a number, and fits a message
abbrev pub IsSignalBody : List ℕ → Type 0
IsSignalBody body = (4 ≤ length body) × (length body ≤ body_limit)
