-- A side that has just gone up has said nothing.
use Rattle.std.proofs.Common.{◌≡◌, Bool, [], ap, subst, ◌∙◌}
use Rattle.linx_base.specs.Sides.{other_of}
use Rattle.linx_base.specs.declared.identity.Session.{Session}
use Rattle.linx_base.specs.declared.identity.Side.{Side}
use Rattle.linx_base.specs.declared.identity.Side.TheVariants.{First, Second}
use Rattle.trunk_record.specs.Records.{SideRecord}
use Rattle.trunk_record.specs.Trunks.{IsHalf, IsTrunk}
use Rattle.carrier.specs.Events.{handed_by}
use Rattle.rlnh_end.specs.declared.heard.Heard.{Heard}
use Rattle.trunk.specs.Events.{IsReading, TrunkState, delivered, kept_of, told_by}
use Rattle.trunk.specs.Keeping.{KeepsTrunk}
use Rattle.trunk.specs.Tells.{IsUp, TellsSide}
use Rattle.trunk.specs.declared.up.TrunkUp.{TrunkUp}
use Rattle.trunk.specs.declared.up.TrunkUp.TheVariants.{WentUp}
use Rattle.trunk.proofs.EachEvent.Trunks.{events_tell}

half-of : (side : Side) (t : TrunkState) → IsTrunk t.first.kept t.second.kept
    → IsHalf (kept_of side t) (kept_of (other_of side) t)
half-of First t whole = whole.near
half-of Second t whole = whole.far

pub up-silent : (from : Side) (keep : Bool) (heard : Heard) (t : TrunkState)
    (session peer : Session)
    → KeepsTrunk t → IsTrunk t.first.kept t.second.kept
    → IsReading (handed_by from 0 t.link) heard → told_by from 0 heard t ≡ WentUp session peer
    → (kept_of (other_of from) (delivered from 0 keep heard t)).now.said ≡ []
up-silent from keep heard t session peer keeps whole reading told =
    let A : SideRecord = kept_of (other_of from) t in
    let C : SideRecord = kept_of (other_of from) (delivered from 0 keep heard t) in
    let B : SideRecord = kept_of from t in
    let up : IsUp A C B session peer = subst (λ (u : TrunkUp). TellsSide A C B u) told
    (events_tell.packets.side from 0 keep heard t keeps reading) in
    let half : IsHalf A (kept_of (other_of (other_of from)) t) = half-of (other_of from) t whole in
    ap (λ (r : SideRecord). r.now.said) up.kept ∙ (half.empty.0 up.was_down).0
