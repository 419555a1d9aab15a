-- Signals over links: which send each arrival is of.
use Rattle.std.specs.Prelude.{ℕ, suc, ◌+◌, ◌==◌, ◌&&◌, Bool, false, List, [], ◌∷◌, ◌++◌, length}
use Rattle.std.specs.Prelude.{map, find, position, remove, slice_get, Option, Some, None}
use Rattle.linx_base.specs.Numbers.{node_of}
use Rattle.linx_base.specs.declared.identity.Inc.{Inc}
use Rattle.linx_base.specs.declared.identity.ItemAt.{ItemAt}
use Rattle.linx_base.specs.declared.identity.LinkNo.{LinkNo}
use Rattle.linx_base.specs.declared.identity.NodeNo.{NodeNo}
use Rattle.linx_base.specs.declared.identity.Peer.{Peer}
use Rattle.linx_base.specs.declared.identity.Peer.TheVariants.{Here, There}
use Rattle.linx_base.specs.declared.identity.Session.{Session}
use Rattle.journal.specs.declared.by.By.{By}
use Rattle.journal.specs.declared.by.By.TheVariants.{Actor, Pump}
use Rattle.journal.specs.declared.head.Head.{Head}
use Rattle.journal.specs.declared.head.Head.TheVariants.{Send}
use Rattle.journal.specs.declared.head.SentTo.{SentTo}
use Rattle.journal.specs.declared.head.SentTo.TheVariants.{Link}
use Rattle.journal.specs.declared.effect.Effect.{Effect}
use Rattle.journal.specs.declared.effect.Effect.TheVariants.{Arrived, Up}
use Rattle.journal.specs.declared.effect.Step.{Step}
use Rattle.chart.specs.declared.flight.Flight.{Flight}
use Rattle.chart.specs.declared.flight.Pairing.{Pairing}
use Rattle.chart.specs.declared.tie.Tie.{Tie}
use Rattle.chart.specs.declared.tie.TieKind.TheVariants.{Carried, Lost}
use Rattle.chart.specs.Columns.{opener}
use Rattle.chart.specs.Marks.{line_at}
use Rattle.chart.specs.Ties.{tie}

-- two makers are one
abbrev pub same_maker : By → By → Bool
same_maker (Actor a) (Actor b) = a == b
same_maker (Pump l) (Pump m) = l.0 == m.0
same_maker _ _ = false

-- what steps did over links: the sessions that came up, each with that of the other side; the
-- signals that are on their way, in the order of their sends; and the ties of those that arrived
pub record OverLinks : Type 0 where
  pub pairings : List Pairing
  pub flights : List Flight
  pub ties : List Tie

-- before the first step: no session came up, and no signal was sent
abbrev pub nothing_sent : OverLinks
nothing_sent = record { pairings = []; flights = []; ties = [] }

-- the pairing is that of a node's session on a link
abbrev pub is_pairing : NodeNo → LinkNo → Session → Pairing → Bool
is_pairing node link own p = p.node.0 == node.0 && p.link.0 == link.0 && p.own.0 == own.0

-- the signal is this maker's, in this session of its side of a link, to this endpoint
abbrev pub is_flight : By → LinkNo → Session → Inc → Flight → Bool
is_flight by link session to f =
    same_maker f.by by && f.link.0 == link.0 && f.session.0 == session.0 && f.to.0 == to.0

-- the first pairing that is of this session of a node on a link
abbrev pub pairing_in : List Pairing → NodeNo → LinkNo → Session → Option Pairing
pairing_in pairings node link own = find (is_pairing node link own) pairings

-- the place of the first signal on its way that is this maker's, in this session of its side, to
-- this endpoint
abbrev pub flight_in : List Flight → By → LinkNo → Session → Inc → Option ℕ
flight_in flights by link session to = position (is_flight by link session to) flights

-- a signal is sent over a link
abbrev pub with_send : ItemAt → By → Peer → SentTo → OverLinks → OverLinks
with_send line by (There link session i) Link o = record o {
  flights = o.flights
      ++ record { by = by; link = link; session = session; to = i; line = line } ∷ [];
}
with_send line by peer answer o = o

-- what a step's head does over links: a send may put a signal on its way, and nothing else does
abbrev pub with_head : ItemAt → By → Head → OverLinks → OverLinks
with_head line by (Send peer note answer) o = with_send line by peer answer o
with_head line by _ o = o

-- the signal at this place is on its way no more, and tied to the line of its arrival
abbrev pub landed_at : ItemAt → ℕ → Option Flight → OverLinks → OverLinks
landed_at line k None o = o
landed_at line k (Some f) o = record o {
  flights = remove o.flights k;
  ties = o.ties ++ tie Carried f.line line ∷ [];
}

-- the signal at this place, if there is one, is on its way no more, and tied to the line of its
-- arrival
abbrev pub landed : ItemAt → Option ℕ → OverLinks → OverLinks
landed line None o = o
landed line (Some k) o = landed_at line k (slice_get o.flights k) o

-- the place of a signal from this maker to this endpoint, in the session of the other side
abbrev pub place_in : List Flight → Option By → Option Pairing → Inc → Option ℕ
place_in flights (Some by) (Some p) to = flight_in flights by p.link p.other to
place_in flights by p to = None

-- AN ARRIVAL OVER A LINK IS OF THE FIRST SIGNAL ON ITS WAY that the peer's actor sent to this
-- endpoint in the session that is paired with this one
abbrev pub arrived : List Step → ItemAt → Inc → Peer → OverLinks → OverLinks
arrived S line to (Here i) o = o
arrived S line to (There link session i) o =
    landed line
    (place_in o.flights (opener S i)
    (pairing_in o.pairings (record { 0 = node_of to }) link session) to) o

-- what an effect does over links: a session that comes up is paired with that of the other side,
-- and a signal that arrives is on its way no more
abbrev pub with_effect : List Step → ItemAt → Effect → OverLinks → OverLinks
with_effect S line (Up node link own other) o = record o {
  pairings = o.pairings
      ++ record { node = node; link = link; own = own; other = other } ∷ [];
}
with_effect S line (Arrived to peer note) o = arrived S line to peer o
with_effect S line _ o = o

-- a step's effects, from this place on
abbrev pub with_effects : List Step → ℕ → ℕ → List Effect → OverLinks → OverLinks
with_effects S position place [] o = o
with_effects S position place (e ∷ es) o =
    with_effects S position (place + 1) es (with_effect S (line_at position place) e o)

-- what steps did over links, with a further one
abbrev pub with_step : Step → List Step → OverLinks → OverLinks
with_step s P o =
    with_effects (s ∷ P) (suc (length P)) 1 s.effects
    (with_head (line_at (suc (length P)) 0) s.by s.head o)

-- what all steps did over links
abbrev pub over_links : List Step → OverLinks
over_links [] = nothing_sent
over_links (s ∷ P) = with_step s P (over_links P)

-- a signal that never arrived is tied to nothing but its send
abbrev pub lost_ties : List Flight → List Tie
lost_ties flights = map (λ (f : Flight). tie Lost f.line f.line) flights
