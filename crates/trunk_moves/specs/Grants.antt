-- What the next step of a run may hand to the side of a link.
use Rattle.std.specs.Prelude.{ℕ, ◌+◌, ◌≡◌, ◌<◌, Bool, true, IsTrue, List, length, Some}
use Rattle.std.specs.List.{AllByRecursion}
use Rattle.linx_base.specs.NameText.{is_name}
use Rattle.linx_base.specs.Numbers.{boot_of}
use Rattle.linx_base.specs.Sides.{other_of}
use Rattle.linx_base.specs.declared.identity.Inc.{Inc}
use Rattle.linx_base.specs.declared.identity.LinkNo.{LinkNo}
use Rattle.linx_base.specs.declared.identity.Peer.TheVariants.{Here, There}
use Rattle.linx_base.specs.declared.identity.Session.{Session}
use Rattle.linx_base.specs.declared.identity.Side.{Side}
use Rattle.linx_base.specs.SigNotes.{SigNote}
use Rattle.rlnh_messages.specs.Signals.{IsSignal}
use Rattle.rlnh_end.specs.declared.heard.Heard.{Heard}
use Rattle.carrier.specs.Events.{half_of, handed_by}
use Rattle.journal.specs.History.{name_of, next_inc, opened_on}
use Rattle.journal.specs.Living.{is_alive, holder_of}
use Rattle.journal.specs.Logs.{step_limit}
use Rattle.journal.specs.Shapes.{Shape}
use Rattle.journal.specs.declared.effect.Step.{Step}
use Rattle.link_laws.specs.Ends.{IsLinkOf, node_at}
use Rattle.link_laws.specs.Sessions.{boots}
use Rattle.trunk.specs.declared.up.TrunkUp.TheVariants.{Asked}
use Rattle.trunk.specs.Events.{IsReading, TrunkState, delivered, side_of, told_by}
use Rattle.trunk.specs.Laws.{MayPublish, MaySend}
use Rattle.trunk_moves.specs.Packets.{names_hunted}
use Rattle.trunk_moves.specs.Steps.{IsBoundedTrunkRun}
use Rattle.trunk_moves.specs.Trunks.{RunTrunks}

-- all of these are names
abbrev pub AreNames : List (List ℕ) → Type 0
AreNames names = AllByRecursion (λ v. IsTrue (is_name v)) names

-- what a run grants to a side of node n, whatever its node asks of it next
pub record GrantsSide (P : List Step) (n : ℕ) (l : LinkNo) (at : Side) (t : TrunkState) : Type 0
  where
    -- the endpoint that opens next, by its name
    pub opens :
        (name : List ℕ) → IsTrue (is_name name)
        → MayPublish (side_of at t) (next_inc n (opened_on P n)) name
    -- an open endpoint, by its name
    pub publishes :
        (i : Inc) → is_alive P n (Here i) ≡ true → MayPublish (side_of at t) i (name_of P i)
    -- a signal from an open endpoint to a living peer
    pub sends :
        (i : Inc) (x : Session) (b : Inc) (signal : SigNote) → is_alive P n (Here i) ≡ true
        → is_alive P n (There l x b) ≡ true → IsSignal signal
        → MaySend (side_of at t) i (name_of P i) b signal
    -- the next boot of its node
    pub boots : boot_of (half_of at t.link).end.talk.mine < 2 + boots P n
    -- the names of the hunts that are pending over the link
    pub asks : AreNames (names_hunted P n l)

-- what a run grants to a side of node n that has just been asked for a name by a packet: the
-- endpoint that answers may be published
pub record GrantsAnswer (P : List Step) (n : ℕ) (from : Side) (t : TrunkState) : Type 0 where
  pub answers :
      (keep : Bool) (heard : Heard) → IsReading (handed_by from 0 t.link) heard
      → (name : List ℕ) → told_by from 0 heard t ≡ Asked name → (i : Inc)
      → holder_of P n name ≡ Some i
      → MayPublish (side_of (other_of from) (delivered from 0 keep heard t)) i name

-- EVERY RUN THAT HAS ROOM FOR A STEP grants what its sides ask for, on each side of each link
abbrev pub TrunkRunsGrant : Type 0
TrunkRunsGrant = (shape : Shape) (P : List Step) (trunks : RunTrunks)
    → IsBoundedTrunkRun shape P trunks → length P < step_limit → (l : LinkNo) → IsLinkOf shape l
    → (from : Side) → GrantsSide P (node_at shape l from) l from (trunks l.0)
    × GrantsAnswer P (node_at shape l (other_of from)) from (trunks l.0)
