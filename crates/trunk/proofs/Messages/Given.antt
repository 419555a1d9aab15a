-- What is recorded of a word that came to a side, and what is handed up of it.
use Rattle.std.proofs.Common.{◌≡◌, ℕ, Bool, true, false, ◌||◌, List, Option, Some, None, refl, sym}
use Rattle.std.proofs.Common.{subst, if◌then◌else◌, is_some}
use Rattle.std.proofs.lemmas.Bool.{or_left}
use Rattle.std.specs.List.{list_any}
use Rattle.linx_base.specs.Peers.{same_inc}
use Rattle.linx_base.specs.declared.identity.Inc.{Inc}
use Rattle.linx_base.specs.SigNotes.{SigNote}
use Rattle.link_addresses.specs.declared.meaning.Meaning.{Meaning}
use Rattle.link_addresses.specs.declared.meaning.Meaning.TheVariants.{Free, Live, Closing}
use Rattle.link_addresses.specs.Meanings.{meaning_of}
use Rattle.trunk_record.specs.Records.{SideRecord}
use Rattle.trunk_record.specs.Sayings.{Given, arrived, asked_for, freed, frees, gone, is_live, met}
use Rattle.trunk_record.specs.Changes.{giving}
use Rattle.trunk_record.specs.Trunks.{FitsReceiver, IsHalf, IsHeardFrom, heard, nothing_heard}
use Rattle.trunk_record.proofs.Sayings.{same_inc-itself}
use Rattle.rlnh_end.specs.declared.up.Up.{Up}
use Rattle.rlnh_end.specs.declared.up.Up.TheVariants.{Nothing, Arrived, Freed, Met}
use Rattle.rlnh_end.specs.declared.up.Up.TheVariants.{Bad}
use Rattle.rlnh_end.specs.States.{RlnhTables, addr_met, inc_met, with_met}
use Rattle.rlnh_end.specs.Words.{Word, hello, hello_back, question, announce, tell, withdraw}
use Rattle.rlnh_end.specs.Words.{confirm}
use Rattle.rlnh_end.specs.Hearing.{heard_ack, heard_signal, heard_unpublish, hears, only}
use Rattle.rlnh_laws.specs.Meanings.{Understands, given_for, heard_of}
use Rattle.trunk.specs.Events.{giving_all, told_up}
use Rattle.trunk.specs.Tells.{IsGiven, TellsNotes, TellsSide, frees as quietly_frees, stays}

-- ---- one thing more was given

given_told : (A C B : SideRecord) (g : Given) → C ≡ giving g A → IsHalf C B → FitsReceiver A g
    → IsGiven A C B g
given_told A C B g is half fits =
    by_heard (subst (λ r. IsHalf r B) is half).hears.0
  where
    by_heard : IsHeardFrom B (giving g A).now → IsGiven A C B g
    by_heard (nothing_heard none) = absurd cc
    by_heard (heard y pair back later said) =
        record {
          kept = is;
          fits = fits;
          peer = y;
          pair = pair;
          back = back;
          later = later;
          said = said;
        }

-- a signal that is freed has a receiver that was unpublished
freed_fits : (A C B : SideRecord) (a b : Inc) (note : SigNote) → C ≡ giving (freed a b note) A
    → IsHalf C B → FitsReceiver A (freed a b note)
freed_fits A C B a b note is half =
    (subst (λ r. IsHalf r B) is half).frees_closed.0 b
    (or_left (same_inc b b) (list_any (frees b) A.now.given) (same_inc-itself b))

-- nothing was
quiet_told : (A C B : SideRecord) (u : Up) → u ≡ Nothing → C ≡ A → TellsSide A C B (told_up u)
quiet_told A C B u is same = subst (λ x. TellsSide A C B (told_up x)) (sym is) (stays same)

-- a word came that is understood
pub word_told : (A C B : SideRecord) (w : Word) (u : Up) → Understands w u
    → C ≡ giving_all (given_for w u) A → IsHalf C B
    → ((x y : Inc) (note : SigNote) → u ≡ Arrived x y note → is_live y A.now.said ≡ true)
    → TellsSide A C B (told_up u)
word_told A C B hello u k is half lives = quiet_told A C B u k is
word_told A C B hello_back u k is half lives = quiet_told A C B u k is
word_told A C B (question v) u k is half lives =
    subst (λ x. TellsSide A C B (told_up x)) (sym k)
    (given_told A C B (asked_for v) is half tt)
word_told A C B (announce a i v) u k is half lives =
    subst (λ x. TellsSide A C B (told_up x)) (sym k) (given_told A C B (met i v) is half tt)
word_told A C B (tell a i b j note) (Freed x y n) k is half lives =
    quietly_frees i j note (given_told A C B (freed i j note) is half
    (freed_fits A C B i j note is half))
word_told A C B (tell a i b j note) (Arrived x y n) k is half lives =
    subst (λ z. TellsSide A C B (told_up z)) (sym k)
    (given_told A C B (arrived i j note) is half (lives i j note k))
word_told A C B (withdraw a i) u k is half lives =
    subst (λ x. TellsSide A C B (told_up x)) (sym k) (given_told A C B (gone i) is half tt)
word_told A C B (confirm a) u k is half lives = quiet_told A C B u k is
word_told A C B (tell a i b j note) _ k is half lives = absurd cc

-- ---- the names that were asked for

notes_publish : (t : RlnhTables) (a : ℕ) (i : Inc) (v : List ℕ) (taken : Bool)
    → TellsNotes t.noted
    (if taken then only t Bad
    else only (record t { met = with_met t.met a i }) (Met i v)).made.tables.noted
    (told_up (if taken then only t Bad
    else only (record t { met = with_met t.met a i }) (Met i v)).up)
notes_publish t a i v true = refl
notes_publish t a i v false = refl

notes_unpublish : (t : RlnhTables) (a : ℕ) (o : Option Inc)
    → TellsNotes t.noted (heard_unpublish t a o).made.tables.noted
    (told_up (heard_unpublish t a o).up)
notes_unpublish t a None = refl
notes_unpublish t a (Some i) = refl

notes_ack : (t : RlnhTables) (a : ℕ) (m : Meaning)
    → TellsNotes t.noted (heard_ack t a m).made.tables.noted (told_up (heard_ack t a m).up)
notes_ack t a Free = refl
notes_ack t a (Live i) = refl
notes_ack t a (Closing i) = refl

notes_signal : (t : RlnhTables) (note : SigNote) (o : Option Inc) (m : Meaning)
    → TellsNotes t.noted (heard_signal t note o m).made.tables.noted
    (told_up (heard_signal t note o m).up)
notes_signal t note None m = refl
notes_signal t note (Some i) Free = refl
notes_signal t note (Some i) (Live j) = refl
notes_signal t note (Some i) (Closing j) = refl

pub notes_told : (t : RlnhTables) (w : Word)
    → TellsNotes t.noted (hears t (heard_of w)).made.tables.noted
    (told_up (hears t (heard_of w)).up)
unfolding hears
notes_told t hello = refl
notes_told t hello_back = refl
notes_told t (question v) = refl
notes_told t (announce a i v) =
    notes_publish t a i v (is_some (inc_met t.met a) || is_some (addr_met t.met i))
notes_told t (tell a i b j note) = notes_signal t note (inc_met t.met a) (meaning_of t.own b)
notes_told t (withdraw a i) = notes_unpublish t a (inc_met t.met a)
notes_told t (confirm a) = notes_ack t a (meaning_of t.own a)
