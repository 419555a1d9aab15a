-- Whom a node reaches over links: each living peer of it is over a link of the shape that it is an
-- end of.
use Rattle.std.proofs.Common.{◌≡◌, ℕ, Bool, true, false, inl, inr, List, [], ◌∷◌, Option, refl, sym}
use Rattle.std.proofs.Common.{◌∙◌, ap, subst, true≢false}
use Rattle.std.specs.List.{list_any, AllByRecursion}
use Rattle.std.proofs.lemmas.Bool.{or_cases}
use Rattle.linx_base.specs.Peers.{same_peer}
use Rattle.linx_base.specs.Sides.{other_of}
use Rattle.linx_base.specs.declared.identity.Inc.{Inc}
use Rattle.linx_base.specs.declared.identity.LinkNo.{LinkNo}
use Rattle.linx_base.specs.declared.identity.Peer.{Peer}
use Rattle.linx_base.specs.declared.identity.Peer.TheVariants.{Here, There}
use Rattle.linx_base.specs.declared.identity.Session.{Session}
use Rattle.linx_base.specs.declared.identity.Side.{Side}
use Rattle.linx_base.specs.declared.name.Path.TheVariants.{Over}
use Rattle.linx_base.specs.declared.pending.MetPeer.{MetPeer}
use Rattle.journal.specs.History.{endpoint_by}
use Rattle.linx_base.specs.Pending.{is_of_session}
use Rattle.journal.specs.Living.{is_alive, living}
use Rattle.journal.specs.Pending.{hunting, owed}
use Rattle.journal.specs.Shapes.{Shape, node_by}
use Rattle.journal.specs.declared.effect.Effect.{Effect}
use Rattle.journal.specs.declared.effect.Step.{Step}
use Rattle.journal.specs.declared.head.Head.{Head}
use Rattle.journal.specs.declared.head.Head.TheVariants.{Restart, Tick, Wire}
use Rattle.link_laws.specs.Brought.{Brought, arrives, brought_at, goes_down, goes_up, meets}
use Rattle.link_laws.specs.Brought.{nothing, parts}
use Rattle.link_laws.specs.Ends.{IsLinkOf, node_at}
use Rattle.link_laws.specs.Laws.{HasEffects, IsHandedOver, IsLegal, IsLegalStep, KeepsLinks}
use Rattle.link_laws.specs.Laws.{KeepsPackets, KeepsTicks, delivers}
use Rattle.link_laws.proofs.Sides.Untouched.{same_peer-is}
use Rattle.link_laws.proofs.Peers.Meetings.{effects-meet_none, is_meeting, restarting-meets_none}
use Rattle.link_laws.proofs.Peers.Meetings.{tick-meets_none}
use Rattle.link_laws.proofs.Peers.FactsOfMet.{MeetsKnown, items-known, living-known}
use Rattle.link_laws.proofs.Peers.FactsOfMet.{meets_none-known}
use Rattle.link_laws.proofs.AllLinks.OthersStay.{founds-items, notices-items}
use Rattle.linx_base.specs.declared.signal.Reason.TheVariants as reasons

-- ENDS. The node is an end of this link of the shape
abbrev pub IsEndOf : Shape → ℕ → LinkNo → Type 0
IsEndOf shape n l = IsLinkOf shape l × ((side : Side) × (node_at shape l side ≡ n))

-- a peer over a link is over one that the node is an end of
abbrev pub IsReached : Shape → ℕ → Peer → Type 0
IsReached shape n (Here i) = Unit {0}
IsReached shape n (There l x a) = IsEndOf shape n l

abbrev AreReached : Shape → ℕ → MetPeer → Type 0
AreReached shape n m = IsReached shape n m.peer

module _ (shape : Shape) where
  -- whom a packet of a link meets is over that link
  brought-reached : (P : List Step) (n : ℕ) (l : LinkNo) (what : Brought) → IsEndOf shape n l
      → AllByRecursion (MeetsKnown (AreReached shape)) (brought_at P n l what)
  brought-reached P n l nothing end = tt
  brought-reached P n l (goes_up x y) end = (tt, tt)
  brought-reached P n l (goes_down x) end = (
    tt,
    items-known (AreReached shape) _ (notices-items reasons.Lost (is_of_session l x) (owed P n)),
  )
  brought-reached P n l (arrives x a b note) end = (tt, tt)
  brought-reached P n l (meets x a name) end = (
    end,
    items-known (AreReached shape) _ (founds-items (Over l name) (There l x a) (hunting P n)),
  )
  brought-reached P n l (parts x a) end = (
    tt,
    items-known (AreReached shape) _
        (notices-items reasons.Closed (same_peer (There l x a)) (owed P n)),
  )

  handed-reached : (t : Bool) (P : List Step) (n m : ℕ) (l : LinkNo) (es : List Effect)
      → IsEndOf shape n l → IsHandedOver t P n m l es
      → AllByRecursion (MeetsKnown (AreReached shape)) es
  handed-reached true P n m l es end packet =
      subst (AllByRecursion (MeetsKnown (AreReached shape))) (sym packet.effects)
      (brought-reached P n l packet.what end)
  handed-reached false P n m l es end none =
      subst (AllByRecursion (MeetsKnown (AreReached shape))) (sym none) tt

  -- and no other step meets anybody
  head-reached : (P : List Step) (node : ℕ) (me : Option Inc) (head : Head) (es : List Effect)
      → HasEffects shape P node me head es → KeepsPackets shape P head es
      → KeepsTicks shape P head es → KeepsLinks shape head
      → AllByRecursion (MeetsKnown (AreReached shape)) es
  head-reached P node me (Restart n) es has packets ticks of_shape =
      meets_none-known (AreReached shape) es
      (ap (list_any is_meeting) has ∙ restarting-meets_none P shape n.0)
  head-reached P node me (Wire l from verdict) es has packets ticks of_shape =
      handed-reached (delivers verdict) P (node_at shape l (other_of from)) (node_at shape l from) l
      es (of_shape, (other_of from, refl)) packets
  head-reached P node me (Tick l side) es has packets ticks of_shape =
      meets_none-known (AreReached shape) es
      (tick-meets_none P (node_at shape l side) l side es ticks)
  head-reached P node me head es has packets ticks of_shape =
      meets_none-known (AreReached shape) es
      (ap (list_any is_meeting) has ∙ effects-meet_none P node me head)

  step-reached : (P : List Step) (s : Step) → IsLegalStep shape P s
      → AllByRecursion (MeetsKnown (AreReached shape)) s.effects
  step-reached P s legal =
      head-reached P (node_by shape s.by) (endpoint_by P s.by) s.head s.effects
      legal.nodes.effects legal.packets legal.ticks legal.nodes.links

  all-reached : (P : List Step) → IsLegal shape P → (n : ℕ)
      → AllByRecursion (AreReached shape n) (living P n)
  all-reached [] legal n = tt
  all-reached (s ∷ P) legal n =
      living-known (AreReached shape) n (living P n) s.effects (all-reached P legal.0 n)
      (step-reached P s legal.1)

  among-reached : (n : ℕ) (l : LinkNo) (x : Session) (b : Inc) (table : List MetPeer)
      → AllByRecursion (AreReached shape n) table
      → list_any (λ m. same_peer (There l x b) m.peer) table ≡ true → IsEndOf shape n l
  among-reached n l x b [] all is = absurd (true≢false (sym is))
  among-reached n l x b (m ∷ table) all is =
      elim (or_cases (same_peer (There l x b) m.peer)
      (list_any (λ k. same_peer (There l x b) k.peer) table) is) [
        | inl same ↦ subst (IsReached shape n) (same_peer-is l x b m.peer same) all.0
        | inr later ↦ among-reached n l x b table all.1 later
      ]

  -- a living peer over a link is over one that its node is an end of
  pub living-reached : (P : List Step) → IsLegal shape P → (n : ℕ) (l : LinkNo) (x : Session)
      (b : Inc) → is_alive P n (There l x b) ≡ true → IsEndOf shape n l
  living-reached P legal n l x b lives =
      among-reached n l x b (living P n) (all-reached P legal n) lives
