-- A link in which an event begins: no packet was lost or exchanged in it yet.
use Rattle.std.proofs.Common.{◌≡◌, length, sym, subst, arith, take_all}
use Rattle.linx_base.specs.declared.identity.Side.{Side}
use Rattle.linx_base.specs.Both.{Both, still}
use Rattle.carrier.specs.Events.{LinkState, flight_from}
use Rattle.carrier.specs.Spelling.{HasOnlyGrownFrom}

pub at_rest : (from : Side) (v : LinkState) (link : Both LinkState) → link ≡ still v
    → HasOnlyGrownFrom from link
at_rest from v link e =
    subst (λ (b : Both LinkState). HasOnlyGrownFrom from b) (sym e)
    (take_all (length (flight_from from v)) (flight_from from v) (omega arith))
