-- What a packet and a tick bring, read from their effects, and whether it may come.
use Rattle.std.specs.Prelude.{ℕ, ◌≡◌, ◌≤◌, Bool, true, false, List, [], Some, IsSomeAnd}
use Rattle.linx_base.specs.Sides.{other_of}
use Rattle.linx_base.specs.declared.identity.LinkNo.{LinkNo}
use Rattle.linx_base.specs.declared.identity.Session.{Session}
use Rattle.linx_base.specs.declared.identity.Side.{Side}
use Rattle.journal.specs.Sessions.{up_session}
use Rattle.journal.specs.Shapes.{Shape}
use Rattle.journal.specs.declared.effect.Effect.{Effect}
use Rattle.journal.specs.declared.effect.Step.{Step}
use Rattle.journal.specs.declared.head.Head.{Head}
use Rattle.journal.specs.declared.head.Head.TheVariants.{Tick, Wire}
use Rattle.link_laws.specs.Brought.{Brought, MayBring, brought_at, goes_down, nothing}
use Rattle.link_laws.specs.Ends.{node_at}
use Rattle.link_laws.specs.Laws.{delivers}
use Rattle.link_laws.specs.Sessions.{silent_ticks}
use Rattle.link_check.specs.Reading.{brought_by}

-- PACKETS. What a packet brings to node n from node m may come
abbrev pub MayCome : List Step → (n m : ℕ) → LinkNo → List Effect → Type 0
MayCome P n m l es = IsSomeAnd (brought_by es) (MayBring P n m l)

-- one that isn't handed over brings nothing
abbrev pub MayComeIf : Bool → List Step → (n m : ℕ) → LinkNo → List Effect → Type 0
MayComeIf true P n m l es = MayCome P n m l es
MayComeIf false P n m l es = es ≡ []

-- a step's packet that is handed over brings what may come, and one that isn't brings nothing
abbrev pub MayPass : Shape → List Step → Head → List Effect → Type 0
MayPass shape P (Wire l from verdict) es =
    MayComeIf (delivers verdict) P (node_at shape l (other_of from)) (node_at shape l from) l es
MayPass shape P _ es = Unit {0}

-- TICKS. The session that is up may be lost, of a side that was silent for two ticks or more
pub record IsLosing (P : List Step) (n : ℕ) (l : LinkNo) (side : Side) (x : Session) : Type 0 where
  pub up : up_session P n l.0 ≡ Some x
  pub silent : 2 ≤ silent_ticks P n l.0 side

-- a tick brings nothing, or such a loss
abbrev pub MayLose : List Step → ℕ → LinkNo → Side → Brought → Type 0
MayLose P n l side nothing = Unit {0}
MayLose P n l side (goes_down x) = IsLosing P n l side x
MayLose P n l side _ = ⊥

-- what the tick of a step brings may come
abbrev pub MayTick : Shape → List Step → Head → List Effect → Type 0
MayTick shape P (Tick l side) es =
    IsSomeAnd (brought_by es) (MayLose P (node_at shape l side) l side)
MayTick shape P _ es = Unit {0}

-- EFFECTS. They are exactly those of what they tell
abbrev pub AreExact : List Step → ℕ → LinkNo → List Effect → Type 0
AreExact P n l es = IsSomeAnd (brought_by es) (λ what. es ≡ brought_at P n l what)

-- the effects of a step's packet or tick are exactly those of what they tell
abbrev pub HasExact : Shape → List Step → Head → List Effect → Type 0
HasExact shape P (Wire l from verdict) es = AreExact P (node_at shape l (other_of from)) l es
HasExact shape P (Tick l side) es = AreExact P (node_at shape l side) l es
HasExact shape P _ es = Unit {0}
