-- What an actor asks for next.
use Rattle.std.specs.Prelude.{ℕ, ◌≡◌, ◌≤◌, Bool, true, false, ◌&&◌, List, length, slice_get, Option}
use Rattle.std.specs.Prelude.{Some, None, if◌then◌else◌}
use Rattle.linx_base.specs.Content.{data_limit}
use Rattle.linx_base.specs.declared.identity.AttRef.{AttRef}
use Rattle.linx_base.specs.declared.identity.Inc.{Inc}
use Rattle.linx_base.specs.declared.identity.Peer.{Peer}
use Rattle.linx_base.specs.SigNotes.{SigNote}
use Rattle.journal.specs.declared.event.Event.{Event}
use Rattle.journal.specs.declared.event.Event.TheVariants as asks
use Rattle.journal.specs.declared.head.Refusal.TheVariants.{NoPeer, NoSignal, NoRef}
use Rattle.journal.specs.Living.{here}
use Rattle.script_words.specs.declared.command.Command.{Command}
use Rattle.script_words.specs.declared.command.Command.TheVariants.{Open, Close, Send, Forward}
use Rattle.script_words.specs.declared.command.Command.TheVariants.{Recv, Hunt, Attach, Detach}
use Rattle.script_words.specs.declared.command.Command.TheVariants.{Keep, Cut, Mend, Restart}
use Rattle.script_words.specs.declared.command.Command.TheVariants.{Settle}
use Rattle.script_words.specs.declared.target.Target.{Target}
use Rattle.script_words.specs.declared.target.Target.TheVariants.{Me, Last, Kept}
use Rattle.script_words.specs.Filling.{data_of, fits_data}
use Rattle.node_kernel.specs.Answers.{refused}
use Rattle.node_kernel.specs.declared.ask.Ask.{Ask}
use Rattle.actor_run.specs.Bindings.{lookup}
use Rattle.actor_run.specs.Knowing.{Knows}

-- the peer that a target names, for an actor that opened this endpoint last
abbrev pub peer_named : Knows → Option Inc → Target → Option Peer
peer_named k me Me = here me
peer_named k me Last = k.last
peer_named k me (Kept name) = lookup k.kept name

-- the signal of a number with these data
abbrev pub signal_of : ℕ → List ℕ → SigNote
signal_of number bytes = record { number = number; bytes = bytes }

-- an event with nothing in hand
abbrev pub bare : Event → Ask
bare event = record { event = event; hand = None }

-- an event with this signal in hand
abbrev pub with_hand : Event → SigNote → Ask
with_hand event signal = record { event = event; hand = Some signal }

-- what a command asks for that sends this signal: a send where its peer is there, else a refusal
abbrev pub ask_send : Option Peer → SigNote → Ask
ask_send None signal = refused NoPeer
ask_send (Some peer) signal = with_hand (asks.Send peer) signal

-- what a forward asks for: a send of the buffer where there is one and its peer is there, else a
-- refusal
abbrev pub ask_forward : Option SigNote → Option Peer → Ask
ask_forward None peer = refused NoSignal
ask_forward (Some signal) peer = ask_send peer signal

-- what an attach asks for: the attach where its peer is there, else a refusal
abbrev pub ask_attach : Option Peer → SigNote → Ask
ask_attach None signal = refused NoPeer
ask_attach (Some peer) signal = with_hand (asks.Attach peer) signal

-- what a detach asks for: the detach where its reference is there, else a refusal
abbrev pub ask_detach : Option AttRef → Ask
ask_detach None = refused NoRef
ask_detach (Some r) = bare (asks.Detach r)

-- What a command asks for; after the last one comes the end. A keep that comes to its turn has no
-- item that was taken before it
abbrev pub ask_of : Knows → Option Inc → Option Command → Ask
ask_of k me None = bare asks.End
ask_of k me (Some (Open name)) = bare (asks.Open name)
ask_of k me (Some Close) = bare asks.Close
ask_of k me (Some (Send to number bytes)) =
    ask_send (peer_named k me to) (signal_of number (data_of bytes))
ask_of k me (Some (Forward to)) = ask_forward k.held (peer_named k me to)
ask_of k me (Some (Recv filter)) = bare (asks.Look filter)
ask_of k me (Some (Hunt path number bytes)) =
    with_hand (asks.Hunt path) (signal_of number (data_of bytes))
ask_of k me (Some (Attach to r number bytes)) =
    ask_attach (peer_named k me to) (signal_of number (data_of bytes))
ask_of k me (Some (Detach r)) = ask_detach (lookup k.refs r)
ask_of k me (Some (Keep name)) = refused NoPeer
ask_of k me (Some (Cut link)) = bare (asks.Cut link)
ask_of k me (Some (Mend link)) = bare (asks.Mend link)
ask_of k me (Some (Restart node)) = bare (asks.Restart node)
ask_of k me (Some (Settle link)) = bare (asks.Settle link)

-- what an actor asks for next, where it opened this endpoint last
abbrev pub asked_by : List Command → Knows → Option Inc → Ask
asked_by commands k me = ask_of k me (slice_get commands k.place)

-- the command is a forward
abbrev pub is_forward : Option Command → Bool
is_forward (Some (Forward to)) = true
is_forward _ = false

-- the command is a keep
abbrev pub is_keep : Option Command → Bool
is_keep (Some (Keep name)) = true
is_keep _ = false

-- the event is a send
abbrev pub is_sending : Event → Bool
is_sending (asks.Send peer) = true
is_sending _ = false

-- what it asks for next hands over the buffer that it holds
abbrev pub lends : List Command → Knows → Option Inc → Bool
lends commands k me =
    is_sending (asked_by commands k me).event && is_forward (slice_get commands k.place)

-- what an actor knows once it has asked: a forward lends the buffer
abbrev pub handed : List Command → Knows → Option Inc → Knows
handed commands k me =
    if lends commands k me then record k { held = None; lent = true } else k

-- the data of the command's signal, if it has one, are not too many for a signal
abbrev pub fits_signal : Option Command → Bool
fits_signal (Some (Send to number bytes)) = fits_data data_limit bytes
fits_signal (Some (Hunt path number bytes)) = fits_data data_limit bytes
fits_signal (Some (Attach to r number bytes)) = fits_data data_limit bytes
fits_signal _ = true

-- commands that an actor can run: at most 20,000, and the data of each signal fit
pub record AreRunnable (commands : List Command) : Type 0 where
  pub few : length commands ≤ 20000
  pub fits : (place : ℕ) → fits_signal (slice_get commands place) ≡ true
