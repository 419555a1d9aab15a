-- What the events of a trunk tell, in the words of what is recorded of its sides.
use Rattle.std.specs.Prelude.{◌≡◌, ◌≢◌, ◌+◌, ◌≤◌, ◌<◌, ℕ, Bool, true, if◌then◌else◌, List, [], ◌∷◌}
use Rattle.std.specs.Prelude.{◌++◌, map, Some, None}
use Rattle.std.specs.List.{AllByRecursion, list_any}
use Rattle.linx_base.specs.Numbers.{boot_of, first_session, next_session}
use Rattle.linx_base.specs.Sides.{other_of}
use Rattle.linx_base.specs.declared.identity.Inc.{Inc}
use Rattle.linx_base.specs.declared.identity.Session.{Session}
use Rattle.linx_base.specs.declared.identity.Side.{Side}
use Rattle.linx_base.specs.SigNotes.{SigNote}
use Rattle.carrier.specs.Events.{half_of, handed_by, link_told_by}
use Rattle.carrier.specs.declared.handed.TickedSide.{TickedSide}
use Rattle.carrier.specs.declared.handed.TickedSide.TheVariants as ticked
use Rattle.trunk_record.specs.Records.{SideRecord, all, has_session, peer_in, said_in}
use Rattle.trunk_record.specs.Sayings.{Given, Said, arrived, asked, asked_for, freed, gone}
use Rattle.trunk_record.specs.Sayings.{heard_as, is_live, met, published, unpublished}
use Rattle.trunk_record.specs.Changes.{beginning, giving, going_up, saying, says_sending}
use Rattle.trunk_record.specs.Trunks.{FitsReceiver, IsBelow}
use Rattle.rlnh_end.specs.declared.heard.Heard.{Heard}
use Rattle.rlnh_end.specs.Calls.{Saying}
use Rattle.rlnh_end.specs.States.{RlnhTables, is_noted, with_note, without_note}
use Rattle.trunk.specs.Events.{IsReading, TrunkState, asked_at, closed_at, delivered, kept_of}
use Rattle.trunk.specs.Events.{lost_from, opened_at, published_at, restarted_at, said_at, sent_at}
use Rattle.trunk.specs.Events.{side_of, swapped_from, tables_of, ticked_at, told_by}
use Rattle.trunk.specs.Keeping.{KeepsTrunk}
use Rattle.trunk.specs.Promises.{PeersUpTo}
use Rattle.trunk.specs.declared.up.TrunkUp.{TrunkUp}
use Rattle.trunk.specs.declared.up.TrunkUp.TheVariants.{Nothing, WentUp, WentDown, Arrived, Met}
use Rattle.trunk.specs.declared.up.TrunkUp.TheVariants.{Gone, Asked}

-- ---- what a packet or a tick makes of a side, whose record was A and is C; the other side's is B

-- a side was given one thing more: the meaning of what the session that is its peer, and has it as
-- its own, said next
pub record IsGiven (A C B : SideRecord) (g : Given) : Type 0 where
  pub kept : C ≡ giving g A
  -- a signal arrives at a receiver that is live, and is freed where that was unpublished
  pub fits : FitsReceiver A g
  pub peer : Session
  pub pair : A.now.peer ≡ Some peer
  pub back : peer_in B peer ≡ Some A.now.session
  pub later : List Said
  pub said : said_in B peer ≡ later ++ heard_as g ∷ map heard_as A.now.given

-- a side was given nothing that is shown to its node: nothing, or a signal that is freed
pub data IsQuietly (A C B : SideRecord) : Type 0 where
  stays : C ≡ A → IsQuietly A C B
  frees : (a b : Inc) (note : SigNote) → IsGiven A C B (freed a b note) → IsQuietly A C B

-- a side went up, with a session that the other side has or had, and none of its peers was later
pub record IsUp (A C B : SideRecord) (session peer : Session) : Type 0 where
  pub own : session ≡ A.now.session
  pub was_down : A.now.peer ≡ None
  pub kept : C ≡ going_up peer A
  pub held : list_any (has_session peer) (all B) ≡ true
  pub upto : PeersUpTo peer (all A)

-- the session of a side, which was up, is over, and the next one, above all before, has begun
pub record IsDown (A C : SideRecord) (session : Session) : Type 0 where
  pub own : session ≡ A.now.session
  pub was_up : A.now.peer ≢ None
  pub kept : C ≡ beginning (next_session session) A
  pub above : AllByRecursion (IsBelow (next_session session)) (all A)

-- what a trunk hands up at a side says what became of the side's record
abbrev pub TellsSide : SideRecord → SideRecord → SideRecord → TrunkUp → Type 0
TellsSide A C B Nothing = IsQuietly A C B
TellsSide A C B (WentUp session peer) = IsUp A C B session peer
TellsSide A C B (WentDown session) = IsDown A C session
TellsSide A C B (Arrived from to signal) = IsGiven A C B (arrived from to signal)
TellsSide A C B (Met inc name) = IsGiven A C B (met inc name)
TellsSide A C B (Gone inc) = IsGiven A C B (gone inc)
TellsSide A C B (Asked name) = IsGiven A C B (asked_for name)

-- what a trunk hands up at a side says what becomes of the names that the other side asked for and
-- that nobody has yet
abbrev pub TellsNotes : List (List ℕ) → List (List ℕ) → TrunkUp → Type 0
TellsNotes old new Nothing = new ≡ old
TellsNotes old new (WentUp session peer) = new ≡ []
TellsNotes old new (WentDown session) = new ≡ []
TellsNotes old new (Arrived from to signal) = new ≡ old
TellsNotes old new (Met inc name) = new ≡ old
TellsNotes old new (Gone inc) = new ≡ old
TellsNotes old new (Asked name) = new ≡ with_note old name

-- a packet takes a side down only where the other side has a later session than its peer
abbrev pub DownForLater : SideRecord → SideRecord → TrunkUp → Type 0
DownForLater A B (WentDown session) =
    (peer : Session) × (A.now.peer ≡ Some peer) × (peer.0 < B.now.session.0)
DownForLater A B up = Unit {0}

-- what a tick hands up, as if a packet had
abbrev pub up_of_tick : TickedSide → TrunkUp
up_of_tick ticked.Stays = Nothing
up_of_tick (ticked.WentDown session) = WentDown session

-- ---- what a call says

-- an incarnation is published unless it is live
abbrev pub publishing : Inc → List ℕ → SideRecord → List Said
publishing inc name A = if is_live inc A.now.said then [] else published inc name ∷ []

-- what a side says of an endpoint that opened: it is published where its name is noted, unless it
-- is live
abbrev pub says_opening : Inc → List ℕ → List (List ℕ) → SideRecord → List Said
says_opening inc name noted A = if is_noted noted name then publishing inc name A else []

-- what a side says of an endpoint that closes: it is unpublished where it is live
abbrev pub says_closing : Inc → SideRecord → List Said
says_closing inc A = if is_live inc A.now.said then unpublished inc ∷ [] else []

-- the noted names once the sender was published before its first signal
abbrev pub notes_sending : Inc → List ℕ → SideRecord → List (List ℕ) → List (List ℕ)
notes_sending inc name A noted =
    if is_live inc A.now.said then noted else without_note noted name

-- the noted names once an endpoint that opened was published where its name was noted
abbrev pub notes_opening : List ℕ → List (List ℕ) → List (List ℕ)
notes_opening name noted = if is_noted noted name then without_note noted name else noted

-- the names that a side has noted
abbrev pub noted_of : Side → TrunkState → List (List ℕ)
noted_of side t = (tables_of side t).noted

-- a side says this to a call, and its noted names are these afterwards
pub record SideSays (side : Side) (t u : TrunkState) (said : List Said) (noted : List (List ℕ))
    : Type 0 where
  pub kept : kept_of side u ≡ saying said (kept_of side t)
  pub notes : noted_of side u ≡ noted

-- ---- what the events tell

-- how a packet from a side changes the other one's record and noted names; its sender stays
pub record PacketsTell : Type 0 where
  -- how the record of the side that it comes to grows, and what becomes of its notes
  pub side :
      (from : Side) (k : ℕ) (keep : Bool) (heard : Heard) (t : TrunkState) → KeepsTrunk t
      → IsReading (handed_by from k t.link) heard
      → TellsSide (kept_of (other_of from) t)
      (kept_of (other_of from) (delivered from k keep heard t)) (kept_of from t)
      (told_by from k heard t)
  pub notes :
      (from : Side) (k : ℕ) (keep : Bool) (heard : Heard) (t : TrunkState) → KeepsTrunk t
      → IsReading (handed_by from k t.link) heard
      → TellsNotes (noted_of (other_of from) t)
      (noted_of (other_of from) (delivered from k keep heard t)) (told_by from k heard t)
  pub down :
      (from : Side) (k : ℕ) (heard : Heard) (t : TrunkState) → KeepsTrunk t
      → DownForLater (kept_of (other_of from) t) (kept_of from t) (told_by from k heard t)
  pub sender :
      (from : Side) (k : ℕ) (keep : Bool) (heard : Heard) (t : TrunkState)
      → side_of from (delivered from k keep heard t) ≡ side_of from t
  -- one that is lost, and two that are exchanged, leave both sides as they are
  pub lost :
      (from at : Side) (k : ℕ) (t : TrunkState) → side_of at (lost_from from k t) ≡ side_of at t
  pub swapped :
      (from at : Side) (k n : ℕ) (t : TrunkState)
      → side_of at (swapped_from from k n t) ≡ side_of at t

-- how a tick and a restart of a side change its record and its noted names; the other side stays
pub record TurnsTell : Type 0 where
  pub tick :
      (side : Side) (t : TrunkState) → KeepsTrunk t
      → TellsSide (kept_of side t) (kept_of side (ticked_at side t)) (kept_of (other_of side) t)
      (up_of_tick (link_told_by side t.link))
  pub tick_notes :
      (side : Side) (t : TrunkState)
      → TellsNotes (noted_of side t) (noted_of side (ticked_at side t))
      (up_of_tick (link_told_by side t.link))
  pub tick_other :
      (side : Side) (t : TrunkState)
      → side_of (other_of side) (ticked_at side t) ≡ side_of (other_of side) t
  pub restart :
      (side : Side) (boot : ℕ) (t : TrunkState)
      → kept_of side (restarted_at side boot t) ≡ beginning (first_session boot) (kept_of side t)
  pub restart_above :
      (side : Side) (boot : ℕ) (t : TrunkState) → KeepsTrunk t
      → boot_of (half_of side t.link).end.talk.mine < boot
      → AllByRecursion (IsBelow (first_session boot)) (all (kept_of side t))
  pub restart_notes :
      (side : Side) (boot : ℕ) (t : TrunkState) → noted_of side (restarted_at side boot t) ≡ []
  pub restart_other :
      (side : Side) (boot : ℕ) (t : TrunkState)
      → side_of (other_of side) (restarted_at side boot t) ≡ side_of (other_of side) t

-- how a call changes the record and the noted names of a side that is up; the other side stays
pub record CallsTell : Type 0 where
  -- one that isn't up says nothing, and the other side stays
  pub down :
      (side : Side) (call : RlnhTables → Saying) (t : TrunkState) → KeepsTrunk t
      → (kept_of side t).now.peer ≡ None → said_at side call t ≡ t
  pub other :
      (side : Side) (call : RlnhTables → Saying) (t : TrunkState)
      → side_of (other_of side) (said_at side call t) ≡ side_of (other_of side) t
  pub published :
      (side : Side) (inc : Inc) (name : List ℕ) (t : TrunkState) → KeepsTrunk t
      → (kept_of side t).now.peer ≢ None
      → SideSays side t (published_at side inc name t) (publishing inc name (kept_of side t))
      (without_note (noted_of side t) name)
  pub opened :
      (side : Side) (inc : Inc) (name : List ℕ) (t : TrunkState) → KeepsTrunk t
      → (kept_of side t).now.peer ≢ None
      → SideSays side t (opened_at side inc name t)
      (says_opening inc name (noted_of side t) (kept_of side t))
      (notes_opening name (noted_of side t))
  pub closed :
      (side : Side) (inc : Inc) (t : TrunkState) → KeepsTrunk t
      → (kept_of side t).now.peer ≢ None
      → SideSays side t (closed_at side inc t) (says_closing inc (kept_of side t)) (noted_of side t)
  pub asked :
      (side : Side) (name : List ℕ) (t : TrunkState) → KeepsTrunk t
      → (kept_of side t).now.peer ≢ None
      → SideSays side t (asked_at side name t) (asked name ∷ []) (noted_of side t)
  pub sent :
      (side : Side) (from : Inc) (name : List ℕ) (to : Inc) (signal : SigNote) (t : TrunkState)
      → KeepsTrunk t → (kept_of side t).now.peer ≢ None
      → is_live to (map heard_as (kept_of side t).now.given) ≡ true
      → SideSays side t (sent_at side from name to signal t)
      (says_sending from name to signal (kept_of side t))
      (notes_sending from name (kept_of side t) (noted_of side t))

-- the ticks of a side since it heard its peer
abbrev pub silent_of : Side → TrunkState → ℕ
silent_of side t = (half_of side t.link).end.ticks

-- a side to which a packet shows something has heard its peer now
abbrev pub HeardNow : ℕ → TrunkUp → Type 0
HeardNow silent Nothing = Unit {0}
HeardNow silent (WentUp session peer) = silent ≡ 0
HeardNow silent (WentDown session) = Unit {0}
HeardNow silent (Arrived from to signal) = silent ≡ 0
HeardNow silent (Met inc name) = silent ≡ 0
HeardNow silent (Gone inc) = silent ≡ 0
HeardNow silent (Asked name) = silent ≡ 0

-- how long a side has heard nothing, after each event
pub record SilenceTells : Type 0 where
  pub packet :
      (from : Side) (k : ℕ) (keep : Bool) (heard : Heard) (t : TrunkState)
      → silent_of (other_of from) (delivered from k keep heard t) ≤ silent_of (other_of from) t
  pub shown :
      (from : Side) (k : ℕ) (keep : Bool) (heard : Heard) (t : TrunkState) → KeepsTrunk t
      → HeardNow (silent_of (other_of from) (delivered from k keep heard t))
      (told_by from k heard t)
  pub packet_sender :
      (from : Side) (k : ℕ) (keep : Bool) (heard : Heard) (t : TrunkState)
      → silent_of from (delivered from k keep heard t) ≡ silent_of from t
  pub lost :
      (from at : Side) (k : ℕ) (t : TrunkState)
      → silent_of at (lost_from from k t) ≡ silent_of at t
  pub swapped :
      (from at : Side) (k n : ℕ) (t : TrunkState)
      → silent_of at (swapped_from from k n t) ≡ silent_of at t
  pub tick :
      (side : Side) (t : TrunkState) → silent_of side (ticked_at side t) ≤ silent_of side t + 1
  -- it goes down by the third tick
  pub tick_down :
      (side : Side) (t : TrunkState) (session : Session)
      → link_told_by side t.link ≡ ticked.WentDown session → 2 ≤ silent_of side t
  pub tick_other :
      (side : Side) (t : TrunkState)
      → silent_of (other_of side) (ticked_at side t) ≡ silent_of (other_of side) t
  pub restart :
      (side : Side) (boot : ℕ) (t : TrunkState)
      → silent_of side (restarted_at side boot t) ≡ 0
  pub restart_other :
      (side : Side) (boot : ℕ) (t : TrunkState)
      → silent_of (other_of side) (restarted_at side boot t) ≡ silent_of (other_of side) t
  pub call :
      (side at : Side) (call : RlnhTables → Saying) (t : TrunkState)
      → silent_of at (said_at side call t) ≡ silent_of at t

-- how each event changes the records, the noted names and the silence of both sides of a trunk
pub record EventsTell : Type 0 where
  pub packets : PacketsTell
  pub turns : TurnsTell
  pub calls : CallsTell
  pub silence : SilenceTells
