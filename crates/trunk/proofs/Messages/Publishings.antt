-- When a side may publish an endpoint: what its newest unpublished one tells.
use Rattle.std.proofs.Common.{◌≡◌, ℕ, ◌<◌, ◌^◌, true, false, List, [], ◌∷◌, refl, IsTrue, ap, arith}
use Rattle.std.proofs.lemmas.Bool.{false_from_ne_true}
use Rattle.linx_base.specs.NameText.{is_name}
use Rattle.linx_base.specs.Peers.{same_inc}
use Rattle.linx_base.specs.declared.identity.Inc.{Inc}
use Rattle.linx_base.specs.declared.identity.Side.{Side}
use Rattle.linx_base.specs.declared.identity.Side.TheVariants.{First, Second}
use Rattle.trunk_record.specs.Records.{SideRecord}
use Rattle.trunk_record.specs.Sayings.{IsProper, Said, asked, is_live, published, signaled}
use Rattle.trunk_record.specs.Sayings.{unpublished, was_unpublished}
use Rattle.trunk_record.proofs.Sayings.{live-not_unpublished, same_inc-is}
use Rattle.trunk.specs.Events.{TrunkState, kept_of, side_of, tables_of}
use Rattle.trunk.specs.Keeping.{KeepsTrunk}
use Rattle.trunk.specs.Laws.{MayPublish}
use Rattle.trunk.specs.Notes.{noted}
use Rattle.trunk.specs.Publishing.{newest_noted, newest_unpublished}
use Rattle.trunk.specs.declared.note.Note.{Note}
use Rattle.trunk.specs.declared.note.Note.TheVariants.{Began}
use Rattle.trunk.proofs.EachEvent.Trunks.{trunk_record}
use Rattle.link_addresses.specs.Meanings.{HasAddressLeft}

-- the newest one once a note is taken
pub newest_more : (A : SideRecord) (note : Note)
    → newest_unpublished (noted A note).now.said
    ≡ newest_noted (newest_unpublished A.now.said) note
newest_more A (Began session) = refl
newest_more A _ = refl

-- one that is newer than each that was unpublished wasn't
pub newer_goes_on : (inc : Inc) (said : List Said) → newest_unpublished said < inc.0
    → was_unpublished inc said ≡ false
newer_goes_on inc [] newer = refl
newer_goes_on inc (published j name ∷ before) newer = newer_goes_on inc before newer
newer_goes_on inc (asked name ∷ before) newer = newer_goes_on inc before newer
newer_goes_on inc (signaled a b note ∷ before) newer = newer_goes_on inc before newer
newer_goes_on inc (unpublished j ∷ before) newer =
    let other : same_inc inc j ≡ false = false_from_ne_true (same_inc inc j) (λ is.
    let e : inc.0 ≡ j.0 = ap (λ (i : Inc). i.0) (same_inc-is inc j is) in
    absurd (omega arith)) in
    let below : newest_unpublished before < inc.0 = omega arith in
    rw other (newer_goes_on inc before below)

-- what a side says is proper
said_properly : (side : Side) (t : TrunkState) → KeepsTrunk t
    → IsProper (kept_of side t).now.said
said_properly First t k = (trunk_record t k).near.proper.0
said_properly Second t k = (trunk_record t k).far.proper.0

-- so an incarnation may be published that is live, or newer than each that was unpublished
pub publishes_again : (side : Side) (inc : Inc) (name : List ℕ) (t : TrunkState) → KeepsTrunk t
    → inc.0 < 2 ^ 64 → IsTrue (is_name name) → HasAddressLeft (tables_of side t).own
    → is_live inc (kept_of side t).now.said ≡ true → MayPublish (side_of side t) inc name
publishes_again side inc name t k numbered named room live =
    record {
      has_address = room;
      numbered = numbered;
      named = named;
      goes_on = live-not_unpublished inc (kept_of side t).now.said (said_properly side t k) live;
    }

pub publishes_new : (side : Side) (inc : Inc) (name : List ℕ) (t : TrunkState)
    → inc.0 < 2 ^ 64 → IsTrue (is_name name) → HasAddressLeft (tables_of side t).own
    → newest_unpublished (kept_of side t).now.said < inc.0 → MayPublish (side_of side t) inc name
publishes_new side inc name t numbered named room newer =
    record {
      has_address = room;
      numbered = numbered;
      named = named;
      goes_on = newer_goes_on inc (kept_of side t).now.said newer;
    }
