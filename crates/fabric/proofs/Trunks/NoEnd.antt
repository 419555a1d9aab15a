-- A node has no session over a link that it is no end of.
use Rattle.std.proofs.Common.{◌≡◌, ◌≢◌, ℕ, Bool, true, false, cond, ◌&&◌, List, [], ◌∷◌, ◌++◌}
use Rattle.std.proofs.Common.{length, filter, Option, None, refl, sym, ◌∙◌, ap, subst, ◌==◌}
use Rattle.std.proofs.Common.{eqb-true}
use Rattle.std.specs.List.{AllByRecursion}
use Rattle.linx_base.specs.Peers.{same_peer}
use Rattle.linx_base.specs.Sides.{other_of}
use Rattle.linx_base.specs.declared.identity.LinkNo.{LinkNo}
use Rattle.linx_base.specs.declared.identity.Peer.TheVariants.{There}
use Rattle.linx_base.specs.declared.identity.Session.{Session}
use Rattle.linx_base.specs.declared.identity.Side.{Side}
use Rattle.linx_base.specs.declared.name.Path.TheVariants.{Over}
use Rattle.linx_base.specs.declared.pending.PendingAttach.{PendingAttach}
use Rattle.linx_base.specs.declared.signal.Reason.TheVariants as reasons
use Rattle.journal.specs.declared.by.By.{By}
use Rattle.journal.specs.declared.effect.Effect.{Effect}
use Rattle.journal.specs.declared.effect.Effect.TheVariants.{Down}
use Rattle.journal.specs.declared.effect.Step.{Step}
use Rattle.journal.specs.declared.head.Head.{Head}
use Rattle.journal.specs.declared.head.Head.TheVariants.{Restart, Tick, Wire}
use Rattle.journal.specs.Effects.{closings, hunts_for, losing, notices}
use Rattle.journal.specs.History.{endpoint_by, open_endpoints}
use Rattle.linx_base.specs.Pending.{is_of_session}
use Rattle.journal.specs.Pending.{hunting, owed}
use Rattle.journal.specs.Sessions.{session_past, up_session}
use Rattle.journal.specs.Shapes.{Shape, node_by}
use Rattle.link_laws.specs.Brought.{Brought, arrives, brought_at, goes_down, goes_up, meets}
use Rattle.link_laws.specs.Brought.{nothing, parts}
use Rattle.link_laws.specs.Ends.{node_at}
use Rattle.link_laws.specs.Laws.{HasEffects, IsHandedOver, IsLegal, IsTick, KeepsPackets}
use Rattle.link_laws.specs.Laws.{KeepsTicks, delivers, downs_of, loses, stays as ticks_on}
use Rattle.fabric.proofs.AfterStep.LinkSteps.{IsDown}
use Rattle.fabric.proofs.Trunks.LivingPeers.{KeepsPeers, downs-are_downs, keeps-head}
use Rattle.fabric.proofs.Trunks.LivingPeers.{keeps_closings, keeps_founds, keeps_notices}

module _ (shape : Shape) (n l : ℕ)
    (off : (side : Side) → node_at shape (record { 0 = l }) side ≢ n) where
  -- where no session is up, such effects leave none
  abbrev StaysDown : List Effect → Type 0
  StaysDown es = session_past n l None es ≡ None

  -- a side of a link is not this node's side of this link
  not_this : (k : LinkNo) (side : Side) → (node_at shape k side == n && k.0 == l) ≡ false
  not_this k side = by_tests (node_at shape k side == n) (k.0 == l) refl refl
    where
      by_tests : (here there : Bool) → (node_at shape k side == n) ≡ here → (k.0 == l) ≡ there
          → (here && there) ≡ false
      by_tests true true here there =
          absurd (off side
          (ap (λ (m : ℕ). node_at shape (record { 0 = m }) side) (sym (eqb-true k.0 l there))
          ∙ eqb-true (node_at shape k side) n here))
      by_tests true false here there = refl
      by_tests false there here is = refl

  -- as effects that keep sessions do
  keeps_down : {es : List Effect} → KeepsPeers n es → StaysDown es
  keeps_down keeps = keeps.sessions l None

  -- one that is lost is down
  lost_down : (P : List Step) (m : ℕ) (k : LinkNo) (x : Session)
      → StaysDown (losing (record { 0 = m }) k x (owed P m))
  lost_down P m k x = by_test (m == n && k.0 == l)
    where
      told : StaysDown (notices reasons.Lost (is_of_session k x) (owed P m))
      told = keeps_down (keeps_notices n reasons.Lost (filter (λ (a : PendingAttach).
          is_of_session k x a.peer) (owed P m)))

      by_test : (b : Bool)
          → session_past n l (cond b None None)
          (notices reasons.Lost (is_of_session k x) (owed P m)) ≡ None
      by_test true = told
      by_test false = told

  brought_down : (P : List Step) (k : LinkNo) (side : Side) (what : Brought)
      → StaysDown (brought_at P (node_at shape k side) k what)
  brought_down P k side nothing = refl
  brought_down P k side (goes_up x y) = rw (not_this k side) refl
  brought_down P k side (goes_down x) = lost_down P (node_at shape k side) k x
  brought_down P k side (arrives x a b note) = refl
  brought_down P k side (meets x a name) =
      keeps_down (keeps_founds n (There k x a)
      (hunts_for (Over k name) (hunting P (node_at shape k side))))
  brought_down P k side (parts x a) =
      keeps_down (keeps_notices n reasons.Closed (filter (λ (b : PendingAttach).
      same_peer (There k x a) b.peer) (owed P (node_at shape k side))))

  handed_down : (handed : Bool) (P : List Step) (k : LinkNo) (side : Side) (m : ℕ)
      (es : List Effect) → IsHandedOver handed P (node_at shape k side) m k es → StaysDown es
  handed_down true P k side m es packet =
      subst StaysDown (sym packet.effects) (brought_down P k side packet.what)
  handed_down false P k side m es none = subst StaysDown (sym none) refl

  tick_down : (P : List Step) (m : ℕ) (k : LinkNo) (side : Side) (es : List Effect)
      → IsTick P m k side es → StaysDown es
  tick_down P m k side es (ticks_on none) = subst StaysDown (sym none) refl
  tick_down P m k side es (loses x up silent same) =
      subst StaysDown (sym same) (lost_down P m k x)

  -- a restart only ends sessions
  downs_down : (ds : List Effect) → AllByRecursion IsDown ds → (rest : List Effect)
      → StaysDown rest → StaysDown (ds ++ rest)
  downs_down [] all rest down = down
  downs_down (Down m k x ∷ ds) all rest down =
      by_test (m.0 == n && k.0 == l) (downs_down ds all.1 rest down)
    where
      by_test : (b : Bool) → StaysDown (ds ++ rest)
          → session_past n l (cond b None None) (ds ++ rest) ≡ None
      by_test true is = is
      by_test false is = is
  downs_down (_ ∷ ds) all rest down = absurd all.0

  step_down : (P : List Step) (by : By) (head : Head) (es : List Effect)
      → HasEffects shape P (node_by shape by) (endpoint_by P by) head es
      → KeepsPackets shape P head es → KeepsTicks shape P head es → StaysDown es
  step_down P by (Restart k) es has packets ticks =
      subst StaysDown (sym has)
      (downs_down (downs_of P k.0 (length shape.links))
      (downs-are_downs P k.0 (length shape.links)) (closings (open_endpoints P k.0))
      (keeps_down (keeps_closings n (open_endpoints P k.0))))
  step_down P by (Wire k from verdict) es has packets ticks =
      handed_down (delivers verdict) P k (other_of from) (node_at shape k from) es packets
  step_down P by (Tick k side) es has packets ticks =
      tick_down P (node_at shape k side) k side es ticks
  step_down P by head es has packets ticks =
      subst StaysDown (sym has)
      (keeps_down (keeps-head n P (node_by shape by) (endpoint_by P by) head))

  -- IN A LEGAL RUN it has none
  pub none-off : (P : List Step) → IsLegal shape P → up_session P n l ≡ None
  none-off [] legal = refl
  none-off (s ∷ P) legal =
      ap (λ (up : Option Session). session_past n l up s.effects) (none-off P legal.0)
      ∙ step_down P s.by s.head s.effects legal.1.nodes.effects legal.1.packets legal.1.ticks
