-- A message that is answered asks, and its answer doesn't; to any other nothing is said.
use Rattle.std.proofs.Common.{◌≡◌, ℕ, Bool, true, false, List, [], Option, Some, None, refl}
use Rattle.std.proofs.Common.{if◌then◌else◌, is_some, ◌||◌}
use Rattle.std.specs.List.{AllByRecursion}
use Rattle.linx_base.specs.declared.frame.Message.{Message}
use Rattle.linx_base.specs.declared.identity.Inc.{Inc}
use Rattle.linx_base.specs.declared.identity.LinkNo.{LinkNo}
use Rattle.linx_base.specs.declared.identity.Side.{Side}
use Rattle.linx_base.specs.SigNotes.{SigNote}
use Rattle.journal.specs.declared.effect.Step.{Step}
use Rattle.link_addresses.specs.declared.meaning.Meaning.{Meaning}
use Rattle.link_addresses.specs.declared.meaning.Meaning.TheVariants.{Free, Live, Closing}
use Rattle.link_addresses.specs.Meanings.{meaning_of}
use Rattle.rlnh_messages.specs.Messages.{spelling_of}
use Rattle.rlnh_messages.specs.declared.rlnh.Rlnh.{Rlnh}
use Rattle.rlnh_messages.specs.declared.rlnh.Rlnh.TheVariants.{Init, InitReply, QueryName}
use Rattle.rlnh_messages.specs.declared.rlnh.Rlnh.TheVariants.{Publish, Unpublish, UnpublishAck}
use Rattle.rlnh_end.specs.declared.heard.Heard.{Heard}
use Rattle.rlnh_end.specs.declared.heard.Heard.TheVariants.{Control, Signal, Garbage}
use Rattle.rlnh_end.specs.States.{RlnhTables, addr_met, inc_met, with_met}
use Rattle.rlnh_end.specs.declared.up.Up.TheVariants.{Bad, Met}
use Rattle.rlnh_end.specs.Hearing.{Hearing, IsControl, IsRead, heard_ack, only}
use Rattle.rlnh_end.specs.Hearing.{heard_signal, heard_unpublish, hears, hears_control}
use Rattle.trunk.specs.Events.{TrunkState, told_up}
use Rattle.trunk.specs.Keeping.{messages_of}
use Rattle.trunk_moves.specs.Packets.{answered}
use Rattle.run_settling.specs.Asking.{asks}
use Rattle.run_settling.proofs.Adding.{IsSilent}

pub data Replies (m : Message) (h : Hearing) : Type 0 where
  -- it asks, and the answer doesn't
  replied : asks m ≡ 1 → AllByRecursion IsSilent (messages_of h.made.says) → Replies m h
  -- nothing is said, and the node says nothing either
  silent : h.made.says ≡ []
      → ((P : List Step) (n : ℕ) (l : LinkNo) (at : Side) (t : TrunkState)
      → answered P n l at (told_up h.up) t ≡ t) → Replies m h

module _ (m : Message) (t : RlnhTables) where
  control_asks : (message : Rlnh) → IsControl m message
      → asks m ≡ asks (record { from = 0; to = 0; body = spelling_of message })
  control_asks message c = rw (c.from, c.spelled.spelled) refl

  by_publish : (met : Bool) (addr : ℕ) (inc : Inc) (name : List ℕ)
      → Replies m (if met then only t Bad
      else only (record t { met = with_met t.met addr inc }) (Met inc name))
  by_publish true addr inc name = silent refl (λ P n l at u. refl)
  by_publish false addr inc name = silent refl (λ P n l at u. refl)

  by_unpublish : (addr : ℕ) (inc : Option Inc) → asks m ≡ 1
      → Replies m (heard_unpublish t addr inc)
  unfolding spelling_of
  by_unpublish addr None one = silent refl (λ P n l at u. refl)
  by_unpublish addr (Some inc) one = replied one (refl, tt)

  by_ack : (addr : ℕ) (means : Meaning) → Replies m (heard_ack t addr means)
  by_ack addr Free = silent refl (λ P n l at u. refl)
  by_ack addr (Live inc) = silent refl (λ P n l at u. refl)
  by_ack addr (Closing inc) = silent refl (λ P n l at u. refl)

  by_signal : (note : SigNote) (from : Option Inc) (means : Meaning)
      → Replies m (heard_signal t note from means)
  by_signal note None means = silent refl (λ P n l at u. refl)
  by_signal note (Some from) Free = silent refl (λ P n l at u. refl)
  by_signal note (Some from) (Live to) = silent refl (λ P n l at u. refl)
  by_signal note (Some from) (Closing to) = silent refl (λ P n l at u. refl)

  control_replies : (message : Rlnh) → IsControl m message
      → Replies m (hears_control t message)
  unfolding spelling_of
  control_replies Init c = replied (control_asks Init c) (refl, tt)
  control_replies InitReply c = silent refl (λ P n l at u. refl)
  control_replies (QueryName name) c = replied (control_asks (QueryName name) c) tt
  control_replies (Publish addr inc name) c =
      by_publish (is_some (inc_met t.met addr) || is_some (addr_met t.met inc)) addr inc name
  control_replies (Unpublish addr) c =
      by_unpublish addr (inc_met t.met addr) (control_asks (Unpublish addr) c)
  control_replies (UnpublishAck addr) c = by_ack addr (meaning_of t.own addr)

  pub replies : (heard : Heard) → IsRead m heard → Replies m (hears t heard)
  unfolding hears
  replies (Control message) read = control_replies message read
  replies (Signal from to note) read = by_signal note (inc_met t.met from) (meaning_of t.own to)
  replies Garbage read = silent refl (λ P n l at u. refl)
