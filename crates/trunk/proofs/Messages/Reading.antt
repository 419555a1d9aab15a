-- The message of a word, what it is read as, and what is given for it.
use Rattle.std.proofs.Common.{◌≡◌, ◌≢◌, ◌<◌, ◌≤◌, ◌||◌, ℕ, true, false, List, [], ◌∷◌, length}
use Rattle.std.proofs.Common.{Option, Some, None, arith, refl, sym, ◌∙◌, ap, subst, ◌&&◌}
use Rattle.std.proofs.Common.{if◌then◌else◌, is_some, IsTrue, nat_le}
use Rattle.std.proofs.lemmas.Bool.{and_parts}
use Rattle.std.proofs.lemmas.Bool.Decides.{nat_tests}
use Rattle.std.specs.List.{AllByRecursion, list_all}
use Rattle.linx_base.specs.Frames.{IsMessage}
use Rattle.linx_base.specs.NameText.{is_name, is_name_byte}
use Rattle.linx_base.specs.declared.frame.Message.{Message}
use Rattle.linx_base.specs.declared.identity.Inc.{Inc}
use Rattle.linx_base.specs.SigNotes.{SigNote}
use Rattle.link_addresses.specs.declared.meaning.Meaning.{Meaning}
use Rattle.link_addresses.specs.declared.meaning.Meaning.TheVariants.{Free, Live, Closing}
use Rattle.link_addresses.specs.Meanings.{meaning_of}
use Rattle.rlnh_messages.specs.Messages.{FitsFields, spelling_of}
use Rattle.rlnh_messages.specs.Signals.{SpellsSignal}
use Rattle.rlnh_messages.specs.declared.rlnh.Rlnh.{Rlnh}
use Rattle.rlnh_messages.specs.declared.rlnh.Rlnh.TheVariants.{Init, InitReply, QueryName, Publish}
use Rattle.rlnh_messages.specs.declared.rlnh.Rlnh.TheVariants.{Unpublish, UnpublishAck}
use Rattle.rlnh_messages.proofs.Types.{unique}
use Rattle.rlnh_messages.proofs.Bodies.{is_body, one_signal}
use Rattle.rlnh_end.specs.declared.heard.Heard.{Heard}
use Rattle.rlnh_end.specs.declared.heard.Heard.TheVariants.{Control, Garbage, Signal}
use Rattle.rlnh_end.specs.declared.up.Up.{Up}
use Rattle.rlnh_end.specs.declared.up.Up.TheVariants.{Nothing, Arrived, Met, Gone}
use Rattle.rlnh_end.specs.declared.up.Up.TheVariants.{Asked, Bad}
use Rattle.rlnh_end.specs.States.{RlnhTables, addr_met, inc_met, with_met}
use Rattle.rlnh_end.specs.Words.{Word, hello, hello_back, question, announce, tell, withdraw}
use Rattle.rlnh_end.specs.Words.{confirm, message_of}
use Rattle.rlnh_end.specs.Hearing.{IsControl, IsGarbage, IsRead, IsSignalFrom, from_alone}
use Rattle.rlnh_end.specs.Hearing.{heard_ack, heard_signal, heard_unpublish, hears, no_message}
use Rattle.rlnh_end.specs.Hearing.{no_signal, only, to_alone}
use Rattle.rlnh_laws.specs.Meanings.{Understands, given_for, heard_of, saids}
use Rattle.rlnh_laws.proofs.ReadBack.{reads_word}
use Rattle.trunk.specs.Events.{given_up}
use Rattle.trunk.specs.Keeping.{messages_of}
use Rattle.trunk.specs.Talks.{FitsWord}

-- ---- the message of a word that fits

-- a name has at most 32 bytes
name_size : (v : List ℕ) → IsTrue (is_name v) → length v ≤ 32
name_size v is =
    let short : nat_le (length v) 32 ≡ true =
    (and_parts (nat_le 1 (length v)) (nat_le (length v) 32)
    (and_parts (nat_le 1 (length v) && nat_le (length v) 32) (list_all is_name_byte v) is).0).1 in
    grind (arith, nat_tests)

-- the body of a message of RLNH
body_sized : (message : Rlnh) → FitsFields message → (1 ≤ length (spelling_of message))
    × (length (spelling_of message) ≤ 65536)
unfolding spelling_of
body_sized (QueryName name) fits = let short = name_size name fits in (omega arith, omega arith)
body_sized (Publish addr inc name) fits =
    let short = name_size name fits.2 in
    (omega arith, omega arith)
body_sized _ fits = (omega arith, omega arith)

pub message_fits : (w : Word) → FitsWord w → IsMessage (message_of w)
message_fits hello fits = body_sized Init fits.fits_fields
message_fits hello_back fits = body_sized InitReply fits.fits_fields
message_fits (question v) fits = body_sized (QueryName v) fits.fits_fields
message_fits (announce a i v) fits = body_sized (Publish a i v) fits.fits_fields
message_fits (tell a i b j note) fits =
    let spelled : SpellsSignal note (message_of (tell a i b j note)).body =
    record { is_signal = fits.2; spelled = refl } in
    let sized = is_body note (message_of (tell a i b j note)).body spelled in
    let low = sized.0 in
    (omega arith, sized.1)
message_fits (withdraw a i) fits = body_sized (Unpublish a) fits.fits_fields
message_fits (confirm a) fits = body_sized (UnpublishAck a) fits.fits_fields

pub messages_fit : (ws : List Word) → AllByRecursion FitsWord ws
    → AllByRecursion IsMessage (messages_of ws)
messages_fit [] fits = tt
messages_fit (w ∷ ws) fits = (message_fits w fits.0, messages_fit ws fits.1)

-- ---- a message has one reading

no_zero : (n : ℕ) → n ≡ 0 → 0 < n → ⊥
no_zero n zero above = absurd (omega arith)

control_garbage : (m : Message) (message : Rlnh) → IsControl m message → IsGarbage m → ⊥
control_garbage m message c (from_alone above zero) = no_zero m.from c.from above
control_garbage m message c (to_alone zero above) = no_zero m.to c.to above
control_garbage m message c (no_message f t none) = none message c.spelled
control_garbage m message c (no_signal has none) = no_zero m.from c.from has.from

signal_garbage : (m : Message) (a b : ℕ) (note : SigNote) → IsSignalFrom m a b note
    → IsGarbage m → ⊥
signal_garbage m a b note s (from_alone above zero) = no_zero m.to zero s.addressed.to
signal_garbage m a b note s (to_alone zero above) = no_zero m.from zero s.addressed.from
signal_garbage m a b note s (no_message f t none) = no_zero m.from f s.addressed.from
signal_garbage m a b note s (no_signal has none) = none (is_body note m.body s.spelled)

one_note : (m : Message) (a b c d : ℕ) (n o : SigNote) → IsSignalFrom m a b n
    → IsSignalFrom m c d o → Signal a b n ≡ Signal c d o
one_note m a b c d n o s t =
    ap (λ (k : ℕ). Signal k b n) (sym s.from_is ∙ t.from_is)
    ∙ ap (λ (k : ℕ). Signal c k n) (sym s.to_is ∙ t.to_is)
    ∙ ap (λ (k : SigNote). Signal c d k) (one_signal n o m.body s.spelled t.spelled)

pub reads_once : (m : Message) (h g : Heard) → IsRead m h → IsRead m g → h ≡ g
reads_once m (Control x) (Control y) r q = ap Control (unique x y m.body r.spelled q.spelled)
reads_once m (Control x) (Signal c d n) r q = absurd (no_zero m.from r.from q.addressed.from)
reads_once m (Control x) Garbage r q = absurd (control_garbage m x r q)
reads_once m (Signal a b n) (Control y) r q = absurd (no_zero m.from q.from r.addressed.from)
reads_once m (Signal a b n) (Signal c d o) r q = one_note m a b c d n o r q
reads_once m (Signal a b n) Garbage r q = absurd (signal_garbage m a b n r q)
reads_once m Garbage (Control y) r q = absurd (control_garbage m y q r)
reads_once m Garbage (Signal c d o) r q = absurd (signal_garbage m c d o q r)
reads_once m Garbage Garbage r q = refl

-- so the message of a word is read as the word alone
pub read_word : (w : Word) (m : Message) (h : Heard) → FitsWord w → message_of w ≡ m
    → IsRead m h → h ≡ heard_of w
read_word w m h fits is read =
    reads_once m h (heard_of w) read (subst (λ k. IsRead k (heard_of w)) is (reads_word w fits))

-- ---- what is given for a word that is understood is given for what is handed up

pub given_word : (w : Word) (u : Up) → Understands w u → given_for w u ≡ given_up u
given_word (tell a i b j note) Nothing is = absurd cc
given_word (tell a i b j note) (Met x v) is = absurd cc
given_word (tell a i b j note) (Gone x) is = absurd cc
given_word (tell a i b j note) (Asked v) is = absurd cc
given_word (tell a i b j note) Bad is = absurd cc
given_word _ _ is = ap given_up (sym is)

-- ---- what is replied says nothing of the record

pub reply_silent : (t : RlnhTables) (h : Heard) → saids (hears t h).made.says ≡ []
unfolding hears
reply_silent t (Control (Publish a i v)) =
    elim (is_some (inc_met t.met a) || is_some (addr_met t.met i))
    as (λ k. saids (if k then only t Bad
    else only (record t { met = with_met t.met a i }) (Met i v)).made.says ≡ [])
    [ true ↦ refl | false ↦ refl ]
reply_silent t (Control (Unpublish a)) = by_met (inc_met t.met a)
  where
    by_met : (o : Option Inc) → saids (heard_unpublish t a o).made.says ≡ []
    by_met None = refl
    by_met (Some i) = refl
reply_silent t (Control (UnpublishAck a)) = by_meaning (meaning_of t.own a)
  where
    by_meaning : (m : Meaning) → saids (heard_ack t a m).made.says ≡ []
    by_meaning Free = refl
    by_meaning (Live i) = refl
    by_meaning (Closing i) = refl
reply_silent t (Signal a b note) = by_both (inc_met t.met a) (meaning_of t.own b)
  where
    by_both : (o : Option Inc) (m : Meaning) → saids (heard_signal t note o m).made.says ≡ []
    by_both None m = refl
    by_both (Some i) Free = refl
    by_both (Some i) (Live j) = refl
    by_both (Some i) (Closing j) = refl
reply_silent t _ = refl

-- ---- and it is one word at most

pub reply_few : (t : RlnhTables) (h : Heard) → length (hears t h).made.says ≤ 1
unfolding hears
reply_few t (Control (Publish a i v)) =
    elim (is_some (inc_met t.met a) || is_some (addr_met t.met i))
    as (λ k. length (if k then only t Bad
    else only (record t { met = with_met t.met a i }) (Met i v)).made.says ≤ 1)
    [ true ↦ omega arith | false ↦ omega arith ]
reply_few t (Control (Unpublish a)) = by_met (inc_met t.met a)
  where
    by_met : (o : Option Inc) → length (heard_unpublish t a o).made.says ≤ 1
    by_met None = omega arith
    by_met (Some i) = omega arith
reply_few t (Control (UnpublishAck a)) = by_meaning (meaning_of t.own a)
  where
    by_meaning : (m : Meaning) → length (heard_ack t a m).made.says ≤ 1
    by_meaning Free = omega arith
    by_meaning (Live i) = omega arith
    by_meaning (Closing i) = omega arith
reply_few t (Signal a b note) = by_both (inc_met t.met a) (meaning_of t.own b)
  where
    by_both : (o : Option Inc) (m : Meaning) → length (heard_signal t note o m).made.says ≤ 1
    by_both None m = omega arith
    by_both (Some i) Free = omega arith
    by_both (Some i) (Live j) = omega arith
    by_both (Some i) (Closing j) = omega arith
reply_few t _ = omega arith

-- ---- what is understood isn't Bad

pub not_bad : (w : Word) (u : Up) → Understands w u → u ≢ Bad
not_bad hello u k e = let f : Bad ≡ Nothing = sym e ∙ k in absurd cc
not_bad hello_back u k e = let f : Bad ≡ Nothing = sym e ∙ k in absurd cc
not_bad (question v) u k e = let f : Bad ≡ Asked v = sym e ∙ k in absurd cc
not_bad (announce a i v) u k e = let f : Bad ≡ Met i v = sym e ∙ k in absurd cc
not_bad (tell a i b j note) u k e =
    let f : Bad ≡ Arrived i j note = subst (λ x. Understands (tell a i b j note) x) e k in
    absurd cc
not_bad (withdraw a i) u k e = let f : Bad ≡ Gone i = sym e ∙ k in absurd cc
not_bad (confirm a) u k e = let f : Bad ≡ Nothing = sym e ∙ k in absurd cc
