-- The two sides of a trunk in words: what each session of a side said and heard, and what holds of
-- them whatever happened.
use Rattle.std.specs.Prelude.{◌≡◌, ◌<◌, ℕ, Bool, true, ◌&&◌, if◌then◌else◌, List, [], ◌∷◌, map}
use Rattle.std.specs.Prelude.{Some, None}
use Rattle.std.specs.List.{AllByRecursion}
use Rattle.linx_base.specs.declared.identity.Inc.{Inc}
use Rattle.linx_base.specs.declared.identity.Session.{Session}
use Rattle.link_addresses.specs.declared.meaning.Meaning.TheVariants.{Live}
use Rattle.link_addresses.specs.Meanings.{meaning_of}
use Rattle.rlnh_messages.specs.Messages.{IsAddress}
use Rattle.carrier.specs.Records.{names}
use Rattle.trunk_record.specs.Records.{SessionRecord, SideRecord}
use Rattle.trunk_record.specs.Sayings.{AreInTurn, Said, is_live}
use Rattle.rlnh_end.specs.declared.met_at.MetAt.{MetAt}
use Rattle.rlnh_end.specs.States.{RlnhTables, inc_met, no_tables}
use Rattle.rlnh_end.specs.Words.{Word}
use Rattle.rlnh_laws.specs.Meanings.{FitsHeard, heard_of, saids}
use Rattle.rlnh_laws.specs.Ties.{Alone, Pair, Talk}

-- ---- the sessions of a side

-- a side in words: its present session, and the earlier ones, the newest first
pub record Talks : Type 0 where
  pub now : Talk
  pub earlier : List Talk

-- all sessions of a side, the newest first
abbrev pub all_talks : Talks → List Talk
all_talks A = A.now ∷ A.earlier

-- what is recorded of a session: who was meant by its words, and no address
abbrev pub record_of : Talk → SessionRecord
record_of e =
    record { session = e.number; peer = e.peer; said = saids e.words; given = e.given }

-- what is recorded of a side
abbrev pub side_record : Talks → SideRecord
side_record A = record { now = record_of A.now; earlier = map record_of A.earlier }

-- a session in which nothing happened as yet
abbrev pub fresh_talk : Session → Talk
fresh_talk x =
    record { number = x; peer = None; words = []; heard = []; given = []; end = no_tables }

-- ---- two sides

-- two sessions have each other as their peer
abbrev pub is_peer : Talk → Talk → Bool
is_peer e f = names f.number.0 e.peer && names e.number.0 f.peer

-- the session of the other side that is this one's peer and has it as its own; one in which nothing
-- happened where there is none
abbrev pub partner : Talk → List Talk → Talk
partner e [] = fresh_talk (record { 0 = 0 })
partner e (f ∷ fs) = if is_peer e f then f else partner e fs

-- a session that never went up has nothing in it
pub record IsBlank (e : Talk) : Type 0 where
  pub words : e.words ≡ []
  pub heard : e.heard ≡ []
  pub given : e.given ≡ []
  pub end : e.end ≡ no_tables

-- what holds of one session of a side against all sessions of the other side
pub record Holds (others : List Talk) (e : Talk) : Type 0 where
  pub alone : Alone e
  pub pair : Pair e (partner e others)
  pub blank : e.peer ≡ None → IsBlank e

-- each of these sessions holds against all sessions of the other side
abbrev pub HoldAll : List Talk → List Talk → Type 0
HoldAll others [] = Unit {0}
HoldAll others (e ∷ es) = Holds others e × HoldAll others es

-- the numbers of these sessions, newest first, fall from below n on
abbrev pub FallBelow : ℕ → List Talk → Type 0
FallBelow n [] = Unit {0}
FallBelow n (e ∷ es) = (e.number.0 < n) × FallBelow e.number.0 es

-- what holds of one side, whose sessions rise, against the other
pub record KeepsTalks (A B : Talks) : Type 0 where
  pub falls : FallBelow A.now.number.0 A.earlier
  pub holds : HoldAll (all_talks B) (all_talks A)

-- ---- what holds of a session, whatever the other side does

-- the addresses that an end may use in a message fit their fields
pub record FitsTables (t : RlnhTables) : Type 0 where
  pub own : (a : ℕ) (i : Inc) → meaning_of t.own a ≡ Live i → IsAddress a
  pub met : (a : ℕ) (i : Inc) → inc_met t.met a ≡ Some i → IsAddress a

-- the peers that an end has met are those that are live by what it has heard
pub record MeetsLive (met : List MetAt) (heard : List Said) : Type 0 where
  pub lives : (a : ℕ) (i : Inc) → inc_met met a ≡ Some i → is_live i heard ≡ true
  pub found : (i : Inc) → is_live i heard ≡ true → (a : ℕ) × (inc_met met a ≡ Some i)

-- the numbers of a word fit their fields, and its name is a name
abbrev pub FitsWord : Word → Type 0
FitsWord w = FitsHeard (heard_of w)

-- what was said fits, the tables fit what was heard, and what was given came in turn
pub record IsSoundSession (e : Talk) : Type 0 where
  pub words : AllByRecursion FitsWord e.words
  pub tables : FitsTables e.end
  pub meets : MeetsLive e.end.met (saids e.heard)
  pub in_turn : AreInTurn e.given
