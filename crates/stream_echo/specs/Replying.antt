-- The echo as a server over a stream: its requests are frames.
use Rattle.std.specs.Prelude.{◌≡◌, ℕ, Bool, false, List, [], ◌++◌, ⊤}
use Rattle.rlnh_end.specs.BadList.{IsBad}
use Rattle.rlnh_end.specs.Calls.{begin_of}
use Rattle.rlnh_end.specs.States.{RlnhTables, RlnhState, no_tables}
use Rattle.tcpcm_frames.specs.declared.frame.StreamFrame.{StreamFrame}
use Rattle.tcpcm_frames.specs.declared.frame.StreamFrame.TheVariants.{Conn}
use Rattle.tcpcm_frames.specs.Frames.{IsFrame, Spells, spelling_of}
use Rattle.linx_base.specs.Both.{Both, still}
use Rattle.tcpcm_end.specs.declared.stream_end.StreamIn.{StreamIn}
use Rattle.tcpcm_end.specs.declared.stream_end.StreamIn.TheVariants.{Reply, WentUp, Got, Nothing}
use Rattle.tcpcm_end.specs.declared.stream_end.StreamIn.TheVariants.{Broken}
use Rattle.tcpcm_end.specs.Table.{input_of, is_up_after}
use Rattle.stream_echo.specs.Echoing.{IsAnswered, said_in}

-- an echo: whether its connection is up, and its tables
pub record EchoState : Type 0 where
  pub up : Bool
  pub tables : RlnhTables

-- an echo without a connection
abbrev pub new_echo : EchoState
new_echo = record { up = false; tables = no_tables }

-- what is said to a frame that means this, and what it makes of the tables
abbrev pub Says : RlnhTables → StreamIn → RlnhTables → List ℕ → Type 0
Says t WentUp new reply =
    (new ≡ begin_of.tables) × (reply ≡ spelling_of Conn ++ said_in begin_of)
Says t (Got m) new reply = IsAnswered t m new reply
Says t (Reply frame) new reply = (new ≡ t) × (reply ≡ spelling_of frame)
Says t Nothing new reply = (new ≡ t) × (reply ≡ [])
Says t Broken new reply = ⊥

-- an echo replies to a frame: what it says to it, and how it stands then
pub record Echoes (old : EchoState) (request : List ℕ) (new : EchoState) (reply : List ℕ) : Type 0 where
  pub frame : StreamFrame
  pub spells : Spells frame request
  pub up : new.up ≡ is_up_after old.up frame
  pub says : Says old.tables (input_of old.up frame) new.tables reply

-- a frame that means this is refused: it breaks the rules of the stream, or its message those of RLNH
abbrev pub IsRefused : RlnhTables → StreamIn → Type 0
IsRefused t Broken = ⊤
IsRefused t (Got m) = IsBad t m
IsRefused t _ = ⊥

-- the bytes are a frame that is refused
pub record Refuses (s : EchoState) (request : List ℕ) : Type 0 where
  pub frame : StreamFrame
  pub spells : Spells frame request
  pub refused : IsRefused s.tables (input_of s.up frame)

-- what is said of its own accord is a frame
abbrev pub IsSayable : StreamIn → Type 0
IsSayable (Reply frame) = IsFrame frame
IsSayable _ = ⊤

-- an end that has said all, and whose event stays
abbrev pub IsSettled : Both RlnhState → Type 0
IsSettled s = (s ≡ still s.is) × (s.is.out ≡ [])
