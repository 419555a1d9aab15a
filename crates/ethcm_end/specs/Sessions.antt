-- How the session of an end goes with what happens to it.
use Rattle.std.specs.Prelude.{◌≡◌, ◌↔◌, ℕ, ◌<◌, ◌≤◌, ◌⊎◌, true, false, None, Some}
use Rattle.linx_base.specs.declared.identity.Session.{Session}
use Rattle.linx_base.specs.Numbers.{boot_of, next_session}
use Rattle.linx_base.specs.declared.frame.ConnKind.TheVariants as kinds
use Rattle.linx_base.specs.declared.frame.Message.{Message}
use Rattle.ethcm_headers.specs.declared.packets.Packet.{Packet}
use Rattle.ethcm_headers.specs.declared.packets.Part.TheVariants.{Conn}
use Rattle.ethcm_session.specs.Table.{is_confirmed_in}
use Rattle.ethcm_window.specs.Sending.{empty_sender}
use Rattle.ethcm_window.specs.Receiving.{empty_receiver}
use Rattle.ethcm_end.specs.declared.answers.Input.{Input}
use Rattle.ethcm_end.specs.declared.answers.Input.TheVariants.{Nothing, WentUp, WentDown, Got}
use Rattle.ethcm_end.specs.declared.answers.Ticked.{Ticked}
use Rattle.ethcm_end.specs.declared.answers.Ticked.TheVariants as ticks
use Rattle.ethcm_end.specs.States.{EndState, peer_of}
use Rattle.ethcm_end.specs.Rules.{input_of, kind_in, offer_of, restart_of, tick_of}

-- all begins anew: nothing is to be sent, nothing is kept, and no message has begun
pub record IsAnew (s : EndState) : Type 0 where
  pub sends : s.tx ≡ empty_sender s.tx.window
  pub receives : s.rx ≡ empty_receiver
  pub outside : s.held ≡ None
  pub ticks : s.ticks ≡ 0
  pub not_asked : s.asked ≡ false

-- the size of the window and that of the pieces stay as they are
pub record KeepsSizes (old new : EndState) : Type 0 where
  pub window : new.tx.window ≡ old.tx.window
  pub piece : new.piece ≡ old.piece

-- the session goes on with its peer
pub record GoesOn (old new : EndState) : Type 0 where
  pub session : new.talk.mine ≡ old.talk.mine
  pub peer : peer_of new ≡ peer_of old
  pub expected : old.rx.expected ≤ new.rx.expected

-- the session, which had no peer, gets this one, and all begins anew
pub record GoesUp (old new : EndState) (other : Session) : Type 0 where
  pub session : new.talk.mine ≡ old.talk.mine
  pub was_connecting : peer_of old ≡ None
  pub peer : peer_of new ≡ Some other
  pub anew : IsAnew new

-- the session, which had a peer, is over, the next one is connecting, and all begins anew
pub record GoesDown (old new : EndState) : Type 0 where
  pub was_up : (peer : Session) × (peer_of old ≡ Some peer)
  pub session : new.talk.mine ≡ next_session old.talk.mine
  pub connecting : peer_of new ≡ None
  pub anew : IsAnew new

-- what a packet from this session is answered says where the session goes
abbrev pub GoesBy : EndState → EndState → Session → Input → Type 0
GoesBy old new src Nothing = GoesOn old new
GoesBy old new src WentUp = GoesUp old new src
GoesBy old new src WentDown = GoesDown old new
GoesBy old new src (Got m) = GoesOn old new × ((peer_of old ≡ Some src) × (new.ticks ≡ 0))

-- what a tick is answered says where the session goes: it goes on, or is over
abbrev pub GoesByTick : EndState → EndState → Ticked → Type 0
GoesByTick old new ticks.Stays = GoesOn old new
GoesByTick old new ticks.WentDown = GoesDown old new

-- the number of the session never falls, and rises exactly where the end goes down
pub record Rises (down : Type 0) (old new : EndState) : Type 0 where
  pub never_falls : old.talk.mine.0 ≤ new.talk.mine.0
  pub rises : (old.talk.mine.0 < new.talk.mine.0) ↔ down

-- what each event makes of the session
pub record SessionsRise : Type 0 where
  pub input :
      (s : EndState) (p : Packet)
      → Rises ((input_of s p).answer ≡ WentDown) s (input_of s p).state
  pub tick : (s : EndState) → Rises ((tick_of s).answer ≡ ticks.WentDown) s (tick_of s).state
  -- a later boot begins with a greater session
  pub restart :
      (s : EndState) (boot : ℕ) → boot_of s.talk.mine < boot
      → s.talk.mine.0 < (restart_of s boot).talk.mine.0
  -- what is answered says where the session goes
  pub input_goes :
      (s : EndState) (p : Packet) → GoesBy s (input_of s p).state p.src (input_of s p).answer
  pub tick_goes : (s : EndState) → GoesByTick s (tick_of s).state (tick_of s).answer
  pub offer_goes : (s : EndState) (m : Message) → GoesOn s (offer_of s m)
  pub restart_anew : (s : EndState) (boot : ℕ) → IsAnew (restart_of s boot)
  -- no event changes the sizes
  pub input_sizes : (s : EndState) (p : Packet) → KeepsSizes s (input_of s p).state
  pub tick_sizes : (s : EndState) → KeepsSizes s (tick_of s).state
  pub offer_sizes : (s : EndState) (m : Message) → KeepsSizes s (offer_of s m)
  pub restart_sizes : (s : EndState) (boot : ℕ) → KeepsSizes s (restart_of s boot)

-- the packet shows that its sender has this session as its peer: it is to this session, and it is
-- an ACK of the session, data, or an ACK or a NACK of frames
pub record Confirms (old : EndState) (p : Packet) (new : EndState) : Type 0 where
  pub to : p.dst ≡ old.talk.mine.0
  pub from : peer_of new ≡ Some p.src
  pub part : (p.part ≡ Conn kinds.Ack) ⊎ (kind_in p.part ≡ None)

-- an end that is confirmed after an event was so before it, or the packet confirms it
pub record PeersConfirm : Type 0 where
  pub input :
      (s : EndState) (p : Packet) → is_confirmed_in (input_of s p).state.talk.standing ≡ true
      → ((input_of s p).state.talk ≡ s.talk) ⊎ Confirms s p (input_of s p).state
  pub tick :
      (s : EndState) → is_confirmed_in (tick_of s).state.talk.standing ≡ true
      → (tick_of s).state.talk ≡ s.talk
  pub offer : (s : EndState) (m : Message) → (offer_of s m).talk ≡ s.talk
