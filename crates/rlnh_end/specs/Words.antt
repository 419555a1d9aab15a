-- What an end says. A word holds what its message has, and also who is meant: the incarnation of an
-- address that is unpublished, and those of a signal's sender and receiver.
use Rattle.std.specs.Prelude.{ℕ, List}
use Rattle.linx_base.specs.declared.identity.Inc.{Inc}
use Rattle.linx_base.specs.declared.frame.Message.{Message}
use Rattle.linx_base.specs.SigNotes.{SigNote}
use Rattle.rlnh_messages.specs.Messages.{spelling_of}
use Rattle.rlnh_messages.specs.Signals.{signal_body}
use Rattle.rlnh_messages.specs.declared.rlnh.Rlnh.{Rlnh}
use Rattle.rlnh_messages.specs.declared.rlnh.Rlnh.TheVariants.{Init, InitReply, QueryName}
use Rattle.rlnh_messages.specs.declared.rlnh.Rlnh.TheVariants.{Publish, Unpublish, UnpublishAck}

-- WHAT ONE END OF RLNH SAYS TO THE OTHER, as a word
pub data Word : Type 0 where
  -- INIT, and its reply
  hello : Word
  hello_back : Word
  -- QUERY_NAME of a name
  question : List ℕ → Word
  -- PUBLISH: an address of the own side is given to an incarnation of a name
  announce : ℕ → Inc → List ℕ → Word
  -- a signal: the sender's address and the sender, the receiver's address and the receiver
  tell : ℕ → Inc → ℕ → Inc → SigNote → Word
  -- UNPUBLISH: the incarnation that had an address of the own side is closed
  withdraw : ℕ → Inc → Word
  -- UNPUBLISH_ACK of an address of the other side
  confirm : ℕ → Word

-- a message of RLNH has no addresses
abbrev pub control_message : Rlnh → Message
control_message message = record { from = 0; to = 0; body = spelling_of message }

-- the message by which a word goes
abbrev pub message_of : Word → Message
message_of hello = control_message Init
message_of hello_back = control_message InitReply
message_of (question name) = control_message (QueryName name)
message_of (announce addr inc name) = control_message (Publish addr inc name)
message_of (tell from sender to receiver signal) =
    record { from = from; to = to; body = signal_body signal }
message_of (withdraw addr inc) = control_message (Unpublish addr)
message_of (confirm addr) = control_message (UnpublishAck addr)
