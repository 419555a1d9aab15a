-- The sessions of a node that are up, by its trunks.
use Rattle.std.specs.Prelude.{ℕ, zero, suc, List, [], ◌++◌, is_some, Option, Some, None}
use Rattle.std.specs.Prelude.{if◌then◌else◌}
use Rattle.linx_base.specs.declared.frame.LinkDecl.{LinkDecl}
use Rattle.linx_base.specs.declared.identity.Session.{Session}
use Rattle.linx_base.specs.declared.identity.Side.{Side}
use Rattle.journal.specs.declared.effect.Effect.{Effect}
use Rattle.link_laws.specs.Laws.{down_if}
use Rattle.run_trunks.specs.States.{over, trunks_of}
use Rattle.trunk.specs.Events.{TrunkState, kept_of}
use Rattle.trunk_moves.specs.Trunks.{side_on}

-- the session of a side, if it is up
abbrev pub session_at : Side → TrunkState → Option Session
session_at side t =
    if is_some (kept_of side t).now.peer then Some (kept_of side t).now.session else None

-- the session of a side that is up, if there is that side
abbrev pub session_at_if : Option Side → TrunkState → Option Session
session_at_if None t = None
session_at_if (Some side) t = session_at side t

-- the ends of the sessions of node n that are up, over the first so many links, by number
abbrev pub downs_on : List LinkDecl → ℕ → List TrunkState → ℕ → List Effect
downs_on links n ts zero = []
downs_on links n ts (suc k) =
    downs_on links n ts k
    ++ down_if n (suc k) (session_at_if (side_on (over links) n (record { 0 = suc k }))
    (trunks_of ts (suc k)))
