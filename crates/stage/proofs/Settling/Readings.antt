-- What is handed up is read as one thing, which its bytes tell.
use Rattle.std.proofs.Common.{◌≡◌, ◌≢◌, ◌<◌, ◌++◌, ℕ, true, false, List, [], drop, refl, sym, ◌∙◌}
use Rattle.std.proofs.Common.{ap, subst, arith, ◌==◌, if◌then◌else◌, slice_index, eq-eqb, ne_eqb}
use Rattle.byteorder.specs.Endian.{big_bytes, big_number}
use Rattle.byteorder.specs.Numbers.{big_number-reads_back}
use Rattle.linx_base.specs.Sides.{other_of}
use Rattle.linx_base.specs.declared.frame.Message.{Message}
use Rattle.linx_base.specs.declared.identity.Side.{Side}
use Rattle.linx_base.specs.SigNotes.{SigNote}
use Rattle.rlnh_messages.specs.Messages.{Spells, spelling_of}
use Rattle.rlnh_messages.specs.declared.rlnh.Rlnh.{Rlnh}
use Rattle.rlnh_messages.specs.declared.rlnh.Rlnh.TheVariants.{Init, InitReply, QueryName, Publish}
use Rattle.rlnh_messages.specs.declared.rlnh.Rlnh.TheVariants.{Unpublish, UnpublishAck}
use Rattle.rlnh_end.specs.Hearing.{IsRead, hears}
use Rattle.rlnh_end.specs.States.{RlnhTables}
use Rattle.rlnh_end.specs.declared.heard.Heard.{Heard}
use Rattle.rlnh_end.specs.declared.heard.Heard.TheVariants.{Control, Garbage, Signal}
use Rattle.rlnh_end.specs.declared.up.Up.{Up}
use Rattle.rlnh_end.specs.declared.up.Up.TheVariants.{Bad}
use Rattle.carrier.specs.Events.{handed_by}
use Rattle.carrier.specs.declared.handed.Handed.{Handed}
use Rattle.carrier.specs.declared.handed.Handed.TheVariants as handed
use Rattle.trunk.specs.Events.{IsReading, TrunkState, side_of}
use Rattle.trunk.specs.Keeping.{KeepsTrunk}
use Rattle.trunk.proofs.EachEvent.Trunks.{understood}

-- ---- a message

-- the message of RLNH of this type, with these fields
control_of : ℕ → List ℕ → Heard
control_of type rest =
    (if type == 1 then Control Init
    else if type == 2 then Control InitReply
    else if type == 3 then Control (QueryName rest)
    else if type == 4 then Control
    (Publish (big_number 4 rest) (record { 0 = big_number 8 (drop 4 rest) }) (drop 12 rest))
    else if type == 5 then Control (Unpublish (big_number 4 rest))
    else Control (UnpublishAck (big_number 4 rest)))

-- what a message is read as, if it is any
heard_in : Message → Heard
heard_in m =
    if m.from == 0
    then control_of (slice_index m.body 0) (drop 4 m.body)
    else Signal m.from m.to (record { number = big_number 4 m.body; bytes = drop 4 m.body })

control_again : (message : Rlnh) (body : List ℕ) → Spells message body
    → control_of (slice_index body 0) (drop 4 body) ≡ Control message
unfolding control_of spelling_of
control_again Init body s = rw s.spelled refl
control_again InitReply body s = rw s.spelled refl
control_again (QueryName name) body s = rw s.spelled refl
control_again (Publish addr inc name) body s =
    rw (
      s.spelled,
      big_number-reads_back 4 addr (big_bytes 8 inc.0 ++ name) s.is_message.fits_fields.0,
      big_number-reads_back 8 inc.0 name s.is_message.fits_fields.1,
    )
    refl
control_again (Unpublish addr) body s =
    rw (s.spelled, big_number-reads_back 4 addr [] s.is_message.fits_fields) refl
control_again (UnpublishAck addr) body s =
    rw (s.spelled, big_number-reads_back 4 addr [] s.is_message.fits_fields) refl

above_zero : (n : ℕ) → 0 < n → (n == 0) ≡ false
above_zero n above = ne_eqb n 0 (λ is. omega arith)

heard_again : (m : Message) (heard : Heard) → heard ≢ Garbage → IsRead m heard
    → heard_in m ≡ heard
unfolding heard_in
heard_again m (Control message) some read =
    rw (eq-eqb m.from 0 read.from) (control_again message m.body read.spelled)
heard_again m (Signal from to note) some read =
    let number : big_number 4 m.body ≡ note.number =
    ap (big_number 4) read.spelled.spelled
    ∙ big_number-reads_back 4 note.number note.bytes read.spelled.is_signal.number_fits in
    let bytes : drop 4 m.body ≡ note.bytes = ap (drop 4) read.spelled.spelled in
    rw (above_zero m.from read.addressed.from, read.from_is, read.to_is, number, bytes) refl
heard_again m Garbage some read = absurd (some refl)

-- ---- what is handed up

garbage_bad : (t : RlnhTables) (heard : Heard) → (hears t heard).up ≢ Bad → heard ≢ Garbage
unfolding hears
garbage_bad t heard fine is = fine (ap (λ (h : Heard). (hears t h).up) is)

-- of what the link hands up
pub heard_for : Handed → Heard
heard_for handed.Nothing = Garbage
heard_for (handed.WentUp session peer) = Garbage
heard_for (handed.WentDown session) = Garbage
heard_for (handed.Got m) = heard_in m

-- THE READING of it
pub reading_for : (from : Side) (t : TrunkState) → KeepsTrunk t → (told : Handed)
    → handed_by from 0 t.link ≡ told → IsReading told (heard_for told)
unfolding heard_for
reading_for from t kept handed.Nothing is = tt
reading_for from t kept (handed.WentUp session peer) is = tt
reading_for from t kept (handed.WentDown session) is = tt
reading_for from t kept (handed.Got m) is =
    let known = understood from 0 m t kept is in
    let fine = garbage_bad (side_of (other_of from) t).end.tables known.heard known.not_bad in
    subst (λ (h : Heard). IsRead m h) (sym (heard_again m known.heard fine known.read)) known.read
