-- A message is bad exactly where it is in the list of bad messages.
use Rattle.std.proofs.Common.{◌≡◌, ◌≢◌, ℕ, cond, ◌||◌, List, refl, ap, sym, subst, ◌∙◌, ◌⊎◌, inl}
use Rattle.std.proofs.Common.{inr, arith, Option, Some, None, is_some, IsSome}
use Rattle.linx_base.specs.declared.identity.Inc.{Inc}
use Rattle.linx_base.specs.declared.frame.Message.{Message}
use Rattle.linx_base.specs.SigNotes.{SigNote}
use Rattle.link_addresses.specs.declared.meaning.Meaning.{Meaning}
use Rattle.link_addresses.specs.declared.meaning.Meaning.TheVariants.{Free, Live, Closing}
use Rattle.link_addresses.specs.Meanings.{meaning_of}
use Rattle.rlnh_messages.specs.declared.rlnh.Rlnh.{Rlnh}
use Rattle.rlnh_messages.specs.declared.rlnh.Rlnh.TheVariants.{Init, InitReply, QueryName}
use Rattle.rlnh_messages.specs.declared.rlnh.Rlnh.TheVariants.{Publish, Unpublish, UnpublishAck}
use Rattle.rlnh_end.specs.declared.heard.Heard.{Heard}
use Rattle.rlnh_end.specs.declared.heard.Heard.TheVariants.{Control, Signal, Garbage}
use Rattle.rlnh_end.specs.declared.up.Up.TheVariants.{Met, Bad}
use Rattle.rlnh_end.specs.States.{RlnhTables, inc_met, addr_met, with_met}
use Rattle.rlnh_end.specs.Hearing.{HasAddresses, IsControl, IsRead, IsSignalFrom, only, hears}
use Rattle.rlnh_end.specs.Hearing.{heard_publish, heard_unpublish, heard_ack, heard_signal}
use Rattle.rlnh_end.specs.BadList.{IsBad, no_meaning, met_address, met_incarnation, unmet_address}
use Rattle.rlnh_end.specs.BadList.{not_closing, unmet_sender, free_receiver}

module _ (t : RlnhTables) (m : Message) where
  -- ---- what is bad is in the list
  publish_listed : (addr : ℕ) (inc : Inc) (name : List ℕ) → IsControl m (Publish addr inc name)
      → (heard_publish t addr inc name).up ≡ Bad → IsBad t m
  publish_listed addr inc name read is =
      by (inc_met t.met addr) (addr_met t.met inc) refl refl is
    where
      by : (at : Option Inc) (of : Option ℕ) → inc_met t.met addr ≡ at → addr_met t.met inc ≡ of
          → (cond (is_some at || is_some of) (only t Bad)
          (only (record t { met = with_met t.met addr inc }) (Met inc name))).up ≡ Bad → IsBad t m
      by (Some i) of here there bad =
          met_address addr inc name read (subst IsSome (sym here) refl)
      by None (Some a) here there bad =
          met_incarnation addr inc name read (subst IsSome (sym there) refl)
      by None None here there bad = cc

  unpublish_listed : (addr : ℕ) → IsControl m (Unpublish addr) → (met : Option Inc)
      → inc_met t.met addr ≡ met → (heard_unpublish t addr met).up ≡ Bad → IsBad t m
  unpublish_listed addr read None is bad = unmet_address addr read is
  unpublish_listed addr read (Some inc) is bad = cc

  ack_listed : (addr : ℕ) → IsControl m (UnpublishAck addr) → (means : Meaning)
      → meaning_of t.own addr ≡ means → (heard_ack t addr means).up ≡ Bad → IsBad t m
  ack_listed addr read Free is bad = not_closing addr read (λ inc closing. cc)
  ack_listed addr read (Live i) is bad = not_closing addr read (λ inc closing. cc)
  ack_listed addr read (Closing i) is bad = cc

  signal_listed : (from to : ℕ) (note : SigNote) → IsSignalFrom m from to note → (met : Option Inc)
      → (means : Meaning) → inc_met t.met from ≡ met → meaning_of t.own to ≡ means
      → (heard_signal t note met means).up ≡ Bad → IsBad t m
  signal_listed from to note read None means is are bad =
      unmet_sender read.addressed (ap (inc_met t.met) read.from_is ∙ is)
  signal_listed from to note read (Some i) Free is are bad =
      free_receiver read.addressed (ap (meaning_of t.own) read.to_is ∙ are)
  signal_listed from to note read (Some i) (Live j) is are bad = cc
  signal_listed from to note read (Some i) (Closing j) is are bad = cc

  pub bad_listed : (heard : Heard) → IsRead m heard → (hears t heard).up ≡ Bad → IsBad t m
  unfolding hears
  bad_listed (Control Init) read is = cc
  bad_listed (Control InitReply) read is = cc
  bad_listed (Control (QueryName name)) read is = cc
  bad_listed (Control (Publish addr inc name)) read is = publish_listed addr inc name read is
  bad_listed (Control (Unpublish addr)) read is =
      unpublish_listed addr read (inc_met t.met addr) refl is
  bad_listed (Control (UnpublishAck addr)) read is =
      ack_listed addr read (meaning_of t.own addr) refl is
  bad_listed (Signal from to note) read is =
      signal_listed from to note read (inc_met t.met from) (meaning_of t.own to) refl refl is
  bad_listed Garbage read is = no_meaning read

  -- ---- what is in the list is bad
  publish_bad : (addr : ℕ) (inc : Inc) (name : List ℕ) → (at : Option Inc) (of : Option ℕ)
      → inc_met t.met addr ≡ at → addr_met t.met inc ≡ of → IsSome at ⊎ IsSome of
      → (heard_publish t addr inc name).up ≡ Bad
  publish_bad addr inc name (Some i) of here there some = rw here refl
  publish_bad addr inc name None (Some a) here there some = rw (here, there) refl
  publish_bad addr inc name None None here there (inl some) = cc
  publish_bad addr inc name None None here there (inr some) = cc

  ack_bad : (addr : ℕ) (means : Meaning) → ((inc : Inc) → means ≢ Closing inc)
      → (heard_ack t addr means).up ≡ Bad
  ack_bad addr Free apart = refl
  ack_bad addr (Live i) apart = refl
  ack_bad addr (Closing i) apart = absurd (apart i refl)

  free_bad : (note : SigNote) (met : Option Inc) → (heard_signal t note met Free).up ≡ Bad
  free_bad note None = refl
  free_bad note (Some i) = refl

  garbage_bad : (hears t Garbage).up ≡ Bad
  unfolding hears
  garbage_bad = refl

  -- a message with addresses is bad where its signal would be
  told_bad : (heard : Heard) → IsRead m heard → HasAddresses m
      → ((note : SigNote) → (hears t (Signal m.from m.to note)).up ≡ Bad)
      → (hears t heard).up ≡ Bad
  told_bad (Control message) read has bad = absurd (omega (arith, has.from, read.from))
  told_bad (Signal from to note) read has bad =
      let here : m.from ≡ from = read.from_is in
      let there : m.to ≡ to = read.to_is in
      subst (λ a. (hears t (Signal a to note)).up ≡ Bad) here
      (subst (λ b. (hears t (Signal m.from b note)).up ≡ Bad) there (bad note))
  told_bad Garbage read has bad = garbage_bad

  control_bad : (heard : Heard) (message : Rlnh) → IsControl m message
      → ((other : Heard) → IsRead m other → heard ≡ other)
      → (hears t (Control message)).up ≡ Bad → (hears t heard).up ≡ Bad
  control_bad heard message read one bad =
      ap (λ h. (hears t h).up) (one (Control message) read) ∙ bad

  pub listed_bad : (heard : Heard) → IsRead m heard
      → ((other : Heard) → IsRead m other → heard ≡ other) → IsBad t m
      → (hears t heard).up ≡ Bad
  unfolding hears
  listed_bad heard read one (no_meaning garbage) =
      ap (λ h. (hears t h).up) (one Garbage garbage)
  listed_bad heard read one (met_address addr inc name is some) =
      control_bad heard (Publish addr inc name) is one
      (publish_bad addr inc name _ _ refl refl (inl some))
  listed_bad heard read one (met_incarnation addr inc name is some) =
      control_bad heard (Publish addr inc name) is one
      (publish_bad addr inc name _ _ refl refl (inr some))
  listed_bad heard read one (unmet_address addr is none) =
      control_bad heard (Unpublish addr) is one (rw none refl)
  listed_bad heard read one (not_closing addr is apart) =
      control_bad heard (UnpublishAck addr) is one (ack_bad addr (meaning_of t.own addr) apart)
  listed_bad heard read one (unmet_sender has none) =
      told_bad heard read has (λ note. rw none refl)
  listed_bad heard read one (free_receiver has free) =
      told_bad heard read has (λ note. rw free (free_bad note (inc_met t.met m.from)))
