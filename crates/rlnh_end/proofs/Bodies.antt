-- What an end says has bodies of 1 to 65,536 bytes.
use Rattle.std.proofs.Common.{◌≡◌, ℕ, ◌≤◌, Bool, true, false, ◌&&◌, List, [], ◌∷◌, ◌++◌, length}
use Rattle.std.proofs.Common.{drop, refl, arith, IsTrue, nat_le, leb-true}
use Rattle.std.specs.List.{list_all}
use Rattle.linx_base.specs.Frames.{IsMessage}
use Rattle.linx_base.specs.NameText.{is_name, is_name_byte}
use Rattle.linx_base.specs.declared.frame.Message.{Message}
use Rattle.linx_base.specs.SigNotes.{SigNote}
use Rattle.rlnh_messages.specs.Messages.{IsRlnh, spelling_of}
use Rattle.rlnh_messages.specs.Signals.{IsSignal, IsSignalBody, signal_body}
use Rattle.rlnh_messages.specs.declared.rlnh.Rlnh.{Rlnh}
use Rattle.rlnh_messages.specs.declared.rlnh.Rlnh.TheVariants.{Init, InitReply, QueryName}
use Rattle.rlnh_messages.specs.declared.rlnh.Rlnh.TheVariants.{Publish, Unpublish, UnpublishAck}
use Rattle.rlnh_messages.proofs.Bodies.{is_body}
use Rattle.rlnh_end.specs.Outgoing.{AreMessages}
use Rattle.rlnh_end.proofs.Entries.{all_push}

-- a name has at most 32 bytes
name_short : (name : List ℕ) → IsTrue (is_name name) → length name ≤ 32
name_short name is = by (nat_le 1 (length name)) (nat_le (length name) 32) refl is
  where
    by : (a b : Bool) → nat_le (length name) 32 ≡ b
        → IsTrue (a && b && list_all is_name_byte name) → length name ≤ 32
    by true true small is = leb-true (length name) 32 small
    by true false small is = absurd cc
    by false b small is = absurd cc

pub control_fits : (message : Rlnh) → IsRlnh message
    → (1 ≤ length (spelling_of message)) × (length (spelling_of message) ≤ 65536)
unfolding spelling_of
control_fits Init is = (omega arith, omega arith)
control_fits InitReply is = (omega arith, omega arith)
control_fits (QueryName name) is =
    let short = name_short name is.fits_fields in (omega arith, omega (arith, short))
control_fits (Publish addr inc name) is =
    let short = name_short name is.fits_fields.2 in
    (omega arith, omega (arith, short))
control_fits (Unpublish addr) is = (omega arith, omega arith)
control_fits (UnpublishAck addr) is = (omega arith, omega arith)

pub signal_fits : (signal : SigNote) → IsSignal signal
    → (1 ≤ length (signal_body signal)) × (length (signal_body signal) ≤ 65536)
signal_fits signal is =
    let body : IsSignalBody (signal_body signal) =
    is_body signal (signal_body signal) (record { is_signal = is; spelled = refl }) in
    (omega (arith, body.0), body.1)

pub more_messages : (out : List Message) (m : Message) → AreMessages out → IsMessage m
    → AreMessages (out ++ m ∷ [])
more_messages out m all is = all_push IsMessage out m all is

pub rest_messages : (out : List Message) → AreMessages out → AreMessages (drop 1 out)
rest_messages [] all = tt
rest_messages (m ∷ out) all = all.1
