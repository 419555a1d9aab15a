-- What each step of a run makes of the trunks of its links, kind by kind, and runs of such steps.
use Rattle.std.specs.Prelude.{ℕ, ◌+◌, ◌≡◌, ◌≤◌, ◌<◌, true, false, List, [], ◌∷◌, length}
use Rattle.std.specs.Prelude.{Option, Some, None}
use Rattle.linx_base.specs.Sides.{other_of}
use Rattle.linx_base.specs.declared.frame.Verdict.{Verdict}
use Rattle.linx_base.specs.declared.identity.Inc.{Inc}
use Rattle.linx_base.specs.declared.identity.LinkNo.{LinkNo}
use Rattle.linx_base.specs.declared.identity.Peer.{Peer}
use Rattle.linx_base.specs.declared.identity.Peer.TheVariants.{There}
use Rattle.linx_base.specs.declared.identity.Side.{Side}
use Rattle.linx_base.specs.declared.name.Path.{Path}
use Rattle.linx_base.specs.declared.name.Path.TheVariants.{Over}
use Rattle.linx_base.specs.SigNotes.{SigNote}
use Rattle.rlnh_messages.specs.Signals.{IsSignal}
use Rattle.carrier.specs.Events.{flight_from, is_quiet}
use Rattle.journal.specs.History.{endpoint_by, name_of, next_inc, opened_on}
use Rattle.journal.specs.Living.{find}
use Rattle.journal.specs.Logs.{step_limit}
use Rattle.journal.specs.Shapes.{Shape, node_by}
use Rattle.journal.specs.declared.effect.Effect.{Effect}
use Rattle.journal.specs.declared.effect.Step.{Step}
use Rattle.journal.specs.declared.head.Head.{Head}
use Rattle.journal.specs.declared.head.Head.TheVariants.{Close, Ended, Hunt, Open, Restart, Send}
use Rattle.journal.specs.declared.head.Head.TheVariants.{TakeNone, Tick, Wire}
use Rattle.journal.specs.declared.head.SentTo.{SentTo}
use Rattle.journal.specs.declared.head.SentTo.TheVariants.{Link}
use Rattle.link_laws.specs.Ends.{HasTwoEnds, IsLinkOf, node_at}
use Rattle.link_laws.specs.Laws.{KeepsNodeLaws}
use Rattle.link_laws.specs.Sessions.{LosesIfCut, boots, is_cut}
use Rattle.trunk.specs.Events.{TrunkState, asked_at, closed_at, opened_at, restarted_at, sent_at}
use Rattle.trunk_moves.specs.Packets.{IsBeat, Meets}
use Rattle.trunk_moves.specs.Trunks.{AllNew, Become, NodesFit, RunTrunks, all_do, with_trunk}

-- AN OPENING: each side of the node hears of it
abbrev pub trunks_opening : Shape → ℕ → Inc → List ℕ → RunTrunks → RunTrunks
trunks_opening shape n i name before = all_do shape n (λ side. opened_at side i name) before

-- A CLOSE, and an end, of an open endpoint, which each side of the node hears of
abbrev pub trunks_ending : Shape → ℕ → Option Inc → RunTrunks → RunTrunks
trunks_ending shape n None before = before
trunks_ending shape n (Some j) before = all_do shape n (λ side. closed_at side j) before

-- A RESTART: each side of the node boots again
abbrev pub trunks_restarting : Shape → List Step → ℕ → RunTrunks → RunTrunks
trunks_restarting shape P n before =
    all_do shape n (λ side. restarted_at side (2 + boots P n)) before

-- A SEND OVER A LINK of the node, of a signal whose number and data fit: the node's side sends it
pub record SendsThere (shape : Shape) (P : List Step) (before after : RunTrunks) (n : ℕ) (j : Inc)
    (l : LinkNo) (b : Inc) (note : SigNote) : Type 0 where
  pub at : Side
  pub of_shape : IsLinkOf shape l
  pub node : node_at shape l at ≡ n
  pub is_signal : IsSignal note
  pub makes : Become shape after
      (with_trunk before l.0 (sent_at at j (name_of P j) b note (before l.0)))

-- what a send makes of the trunks: one over a link is sent by the node's side, any other leaves
-- them all
abbrev pub SendMakes : Shape → List Step → RunTrunks → RunTrunks → ℕ → Option Inc → Peer → SigNote
    → SentTo → Type 0
SendMakes shape P before after n (Some j) (There l x b) note Link =
    SendsThere shape P before after n j l b note
SendMakes shape P before after n me q note answer = Become shape after before

-- A HUNT OVER A LINK of the node, for a name, that finds nothing: the node's side asks for the name
pub record AsksThere (shape : Shape) (before after : RunTrunks) (n : ℕ) (l : LinkNo) (v : List ℕ)
    : Type 0 where
  pub at : Side
  pub of_shape : IsLinkOf shape l
  pub node : node_at shape l at ≡ n
  pub makes : Become shape after (with_trunk before l.0 (asked_at at v (before l.0)))

-- what a hunt makes of the trunks: one over a link that finds nothing is asked by the node's side,
-- any other leaves them all
abbrev pub HuntMakes : Shape → RunTrunks → RunTrunks → ℕ → Path → Option Peer → Type 0
HuntMakes shape before after n (Over l v) None = AsksThere shape before after n l v
HuntMakes shape before after n path found = Become shape after before

-- A PACKET that is in flight meets a verdict, which is to lose it while the link is cut
pub record PacketMakes (shape : Shape) (P : List Step) (before after : RunTrunks) (l : LinkNo)
    (from : Side) (verdict : Verdict) (es : List Effect) : Type 0 where
  pub of_shape : IsLinkOf shape l
  pub flies : 0 < length (flight_from from (before l.0).link)
  pub cuts : LosesIfCut P l verdict
  pub trunk : TrunkState
  pub meets : Meets P (node_at shape l (other_of from)) l from verdict es (before l.0) trunk
  pub makes : Become shape after (with_trunk before l.0 trunk)

-- A TICK of a side of a link leaves the trunks of the other links
pub record TickMakes (shape : Shape) (P : List Step) (before after : RunTrunks) (l : LinkNo)
    (side : Side) (es : List Effect) : Type 0 where
  pub of_shape : IsLinkOf shape l
  pub trunk : TrunkState
  pub beat : IsBeat P (node_at shape l side) l side es (before l.0) trunk
  pub makes : Become shape after (with_trunk before l.0 trunk)

-- A LINK RESTS: it is cut and neither side is up, or it is whole and quiet
pub data Rests (P : List Step) (l : LinkNo) (t : TrunkState) : Type 0 where
  cut : is_cut P l.0 ≡ true → t.first.kept.now.peer ≡ None → t.second.kept.now.peer ≡ None
      → Rests P l t
  quiet : is_cut P l.0 ≡ false → is_quiet t.link ≡ true → Rests P l t

-- A RECEIVE that finds none, while all links rest, leaves all trunks
pub record NoneMakes (shape : Shape) (P : List Step) (before after : RunTrunks) : Type 0 where
  pub resting : (l : LinkNo) → IsLinkOf shape l → Rests P l (before l.0)
  pub makes : Become shape after before

-- WHAT A STEP MAKES OF THE TRUNKS, by the node and the endpoint of its maker, its head and its
-- effects
abbrev pub Makes : Shape → List Step → RunTrunks → RunTrunks → ℕ → Option Inc → Head → List Effect
    → Type 0
Makes shape P before after n me (Open name) es =
    Become shape after (trunks_opening shape n (next_inc n (opened_on P n)) name before)
Makes shape P before after n me Close es = Become shape after (trunks_ending shape n me before)
Makes shape P before after n me (Send q note answer) es =
    SendMakes shape P before after n me q note answer
Makes shape P before after n me (TakeNone filter) es = NoneMakes shape P before after
Makes shape P before after n me (Hunt path note) es =
    HuntMakes shape before after n path (find P n path)
Makes shape P before after n me (Restart k) es =
    Become shape after (trunks_restarting shape P k.0 before)
Makes shape P before after n me (Wire l from verdict) es =
    PacketMakes shape P before after l from verdict es
Makes shape P before after n me (Tick l side) es = TickMakes shape P before after l side es
Makes shape P before after n me Ended es = Become shape after (trunks_ending shape n me before)
Makes shape P before after n me head es = Become shape after before

-- A STEP, after the steps P, from the trunks before it to the trunks after it
pub record IsTrunkStep (shape : Shape) (P : List Step) (before : RunTrunks) (s : Step)
    (after : RunTrunks) : Type 0 where
  pub laws : KeepsNodeLaws shape P s
  pub makes :
      Makes shape P before after (node_by shape s.by) (endpoint_by P s.by) s.head s.effects

-- A RUN: from new trunks on, each step makes of them what its kind makes of them
abbrev pub IsTrunkRun : Shape → List Step → RunTrunks → Type 0
IsTrunkRun shape [] trunks = AllNew shape trunks
IsTrunkRun shape (s ∷ P) after =
    (before : RunTrunks) × (IsTrunkRun shape P before × IsTrunkStep shape P before s after)

-- a run on links between two nodes each, with no more steps than a journal takes
pub record IsBoundedTrunkRun (shape : Shape) (P : List Step) (trunks : RunTrunks) : Type 0 where
  pub two_ends : HasTwoEnds shape
  pub nodes : NodesFit shape
  pub fits : length P ≤ step_limit
  pub run : IsTrunkRun shape P trunks
