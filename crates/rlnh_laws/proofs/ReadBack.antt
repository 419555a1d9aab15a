-- The message of a word is read as the word.
use Rattle.std.proofs.Common.{refl}
use Rattle.rlnh_messages.specs.Messages.{IsRlnh}
use Rattle.rlnh_messages.specs.declared.rlnh.Rlnh.{Rlnh}
use Rattle.rlnh_messages.specs.declared.rlnh.Rlnh.TheVariants.{Init, InitReply, QueryName}
use Rattle.rlnh_messages.specs.declared.rlnh.Rlnh.TheVariants.{Publish, Unpublish, UnpublishAck}
use Rattle.rlnh_end.specs.Words.{Word, hello, hello_back, question, announce, tell, withdraw}
use Rattle.rlnh_end.specs.Words.{confirm, control_message, message_of}
use Rattle.rlnh_end.specs.Hearing.{IsControl, IsRead}
use Rattle.rlnh_laws.specs.Meanings.{FitsHeard, heard_of}

reads_control : (message : Rlnh) → IsRlnh message → IsControl (control_message message) message
reads_control message is = record {
  from = refl;
  to = refl;
  spelled = record { is_message = is; spelled = refl };
}

pub reads_word : (w : Word) → FitsHeard (heard_of w) → IsRead (message_of w) (heard_of w)
reads_word hello fits = reads_control Init fits
reads_word hello_back fits = reads_control InitReply fits
reads_word (question name) fits = reads_control (QueryName name) fits
reads_word (announce addr inc name) fits = reads_control (Publish addr inc name) fits
reads_word (withdraw addr inc) fits = reads_control (Unpublish addr) fits
reads_word (confirm addr) fits = reads_control (UnpublishAck addr) fits
reads_word (tell from sender to receiver note) fits = record {
  addressed = record { from = fits.0; to = fits.1 };
  from_is = refl;
  to_is = refl;
  spelled = record { is_signal = fits.2; spelled = refl };
}
