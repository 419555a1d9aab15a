-- When an end goes up or down, and when it hands up a message.
use Rattle.std.specs.Prelude.{◌≡◌, ◌↔◌, ℕ, ◌<◌, ◌⊎◌, None, Some}
use Rattle.linx_base.specs.declared.identity.Session.{Session}
use Rattle.linx_base.specs.declared.frame.ConnKind.TheVariants as kinds
use Rattle.linx_base.specs.declared.frame.Frame.{Frame}
use Rattle.linx_base.specs.declared.frame.Message.{Message}
use Rattle.ethcm_headers.specs.declared.packets.Packet.{Packet}
use Rattle.ethcm_headers.specs.declared.packets.Part.TheVariants.{Conn, Piece}
use Rattle.fragmenter.specs.declared.joiner.Joined.{Joined}
use Rattle.fragmenter.specs.declared.joiner.Joined.TheVariants.{Whole, Broken}
use Rattle.ethcm_end.specs.declared.answers.Input.TheVariants.{WentUp, WentDown, Got}
use Rattle.ethcm_end.specs.States.{EndState, peer_of}
use Rattle.ethcm_end.specs.Rules.{input_of, take_frames}
use Rattle.ethcm_end.specs.Rows.{IsBetween}

-- a CONNECT_ACK or an ACK of the session to an end that is connecting
pub record BringsUp (s : EndState) (p : Packet) : Type 0 where
  pub connecting : peer_of s ≡ None
  pub to : p.dst ≡ s.talk.mine.0
  pub answers : (p.part ≡ Conn kinds.ConnectAck) ⊎ (p.part ≡ Conn kinds.Ack)

-- a packet of a greater session than the peer's
pub record IsGreater (s : EndState) (p : Packet) : Type 0 where
  pub peer : Session
  pub up : peer_of s ≡ Some peer
  pub greater : peer.0 < p.src.0

-- a RESET from the peer's session to this one
pub record IsReset (s : EndState) (p : Packet) : Type 0 where
  pub between : IsBetween s p
  pub reset : p.part ≡ Conn kinds.Reset

-- a piece from the peer's session to this one lets frames be taken, the last of which makes this
pub record TakesTo (s : EndState) (p : Packet) (made : Joined) : Type 0 where
  pub between : IsBetween s p
  pub next : ℕ
  pub frame : Frame
  pub piece : p.part ≡ Piece next s.rx.expected frame
  pub makes : (take_frames s frame).made ≡ made

-- what a packet is answered with at an end, and exactly when
pub record AnswersExactly (s : EndState) (p : Packet) : Type 0 where
  pub up : ((input_of s p).answer ≡ WentUp) ↔ BringsUp s p
  pub down :
      ((input_of s p).answer ≡ WentDown)
      ↔ (IsGreater s p ⊎ (IsReset s p ⊎ TakesTo s p Broken))
  pub got : (m : Message) → ((input_of s p).answer ≡ Got m) ↔ TakesTo s p (Whole m)

-- every packet is answered so at every end, and exactly then
abbrev pub InputAnswersExactly : Type 0
InputAnswersExactly = (s : EndState) (p : Packet) → AnswersExactly s p
