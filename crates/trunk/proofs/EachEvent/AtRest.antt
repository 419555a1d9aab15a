-- A trunk in which an event begins: no packet was lost or exchanged in it yet.
use Rattle.std.proofs.Common.{◌≡◌, refl, sym, subst}
use Rattle.linx_base.specs.Both.{Both, still}
use Rattle.linx_base.specs.declared.identity.Side.{Side}
use Rattle.carrier.proofs.Resting.{at_rest}
use Rattle.trunk.specs.Events.{TrunkState}
use Rattle.trunk.specs.Parts.{HasOnlyGrownAt}

pub rests : (from : Side) (t : TrunkState) (trunk : Both TrunkState) → trunk ≡ still t
    → HasOnlyGrownAt from trunk
rests from t trunk e =
    subst (λ (b : Both TrunkState). HasOnlyGrownAt from b) (sym e)
    (at_rest from t.link (still t.link) refl)
