-- What is called at a side: what it makes of a trunk, what it asks for, and what the side says.
use Rattle.std.specs.Prelude.{ℕ, ◌≡◌, ◌≢◌, ◌<◌, List, [], ◌∷◌, None, IsSome, IsTrue}
use Rattle.linx_base.specs.NameText.{is_name}
use Rattle.linx_base.specs.Numbers.{boot_of, first_session}
use Rattle.linx_base.specs.declared.identity.Side.{Side}
use Rattle.link_addresses.specs.Meanings.{HasAddressLeft}
use Rattle.ethcm_end.specs.States.{peer_of}
use Rattle.carrier.specs.Events.{half_of}
use Rattle.trunk_record.specs.Changes.{beginning, says_sending}
use Rattle.trunk_record.specs.Sayings.{Said, asked}
use Rattle.rlnh_end.specs.Calls.{Saying, close_of, end_saying, opened_of, publish_of, query_of}
use Rattle.rlnh_end.specs.Calls.{send_of}
use Rattle.rlnh_end.specs.States.{RlnhTables, addr_met, without_note}
use Rattle.trunk.specs.Events.{HasNumbersLeft, TrunkState, asked_at, closed_at, kept_of}
use Rattle.trunk.specs.Events.{opened_at, published_at, restarted_at, sent_at, side_of}
use Rattle.trunk.specs.Laws.{MayPublish, MaySend}
use Rattle.trunk.specs.Tells.{SideSays, noted_of, notes_opening, notes_sending, publishing}
use Rattle.trunk.specs.Tells.{says_closing, says_opening}
use Rattle.trunk.specs.declared.call.SideCall.{SideCall}
use Rattle.trunk.specs.declared.call.SideCall.TheVariants.{Asked, Closed, Opened, Published}
use Rattle.trunk.specs.declared.call.SideCall.TheVariants.{Restarted, Sent}

-- what a call at a side makes of its trunk
abbrev pub makes : SideCall → Side → TrunkState → TrunkState
makes (Opened inc name) side t = opened_at side inc name.now t
makes (Closed inc) side t = closed_at side inc t
makes (Restarted boot) side t = restarted_at side boot t
makes (Published inc name) side t = published_at side inc name.now t
makes (Asked name) side t = asked_at side name.now t
makes (Sent from name to signal) side t = sent_at side from name.now to signal.now t

-- ---- what a call asks for

-- what a call asks of its side: a boot is later than the side's own, and a name or a signal is one
-- that the side may say
abbrev pub MayCall : SideCall → Side → TrunkState → Type 0
MayCall (Opened inc name) side t = MayPublish (side_of side t) inc name.now
MayCall (Closed inc) side t = Unit {0}
MayCall (Restarted boot) side t = boot_of (half_of side t.link).end.talk.mine < boot
MayCall (Published inc name) side t = MayPublish (side_of side t) inc name.now
MayCall (Asked name) side t = Unit {0}
MayCall (Sent from name to signal) side t = MaySend (side_of side t) from name.now to signal.now

-- a side has the numbers of frames that a call asks for: those of what it says; a side that boots
-- again says nothing
abbrev pub HasNumbersFor : SideCall → Side → TrunkState → Type 0
HasNumbersFor (Opened inc name) side t = HasNumbersLeft side t
HasNumbersFor (Closed inc) side t = HasNumbersLeft side t
HasNumbersFor (Restarted boot) side t = Unit {0}
HasNumbersFor (Published inc name) side t = HasNumbersLeft side t
HasNumbersFor (Asked name) side t = HasNumbersLeft side t
HasNumbersFor (Sent from name to signal) side t = HasNumbersLeft side t

-- the call makes the side say nothing, since its end of the link has no peer; to boot again or to
-- send is no such call
abbrev pub SaysNothing : SideCall → Side → TrunkState → Type 0
SaysNothing (Opened inc name) side t = peer_of (half_of side t.link).end ≡ None
SaysNothing (Closed inc) side t = peer_of (half_of side t.link).end ≡ None
SaysNothing (Published inc name) side t = peer_of (half_of side t.link).end ≡ None
SaysNothing (Asked name) side t = peer_of (half_of side t.link).end ≡ None
SaysNothing _ side t = ⊥

-- ---- what a call tells

-- trunk t became u: a side that is up says this to a call, and its noted names are these
-- afterwards; for one that isn't up the trunk stays as it is
pub record SaysIfUp (side : Side) (t u : TrunkState) (said : List Said) (noted : List (List ℕ))
    : Type 0 where
  pub says : (kept_of side t).now.peer ≢ None → SideSays side t u said noted
  pub down : (kept_of side t).now.peer ≡ None → u ≡ t

-- trunk t became u: what the side said to a call, and what became of the names that it has noted; a
-- boot's first session is recorded, and who sends is up
abbrev pub TellsCall : SideCall → Side → TrunkState → TrunkState → Type 0
TellsCall (Opened inc name) side t u =
    SaysIfUp side t u (says_opening inc name.now (noted_of side t) (kept_of side t))
    (notes_opening name.now (noted_of side t))
TellsCall (Closed inc) side t u =
    SaysIfUp side t u (says_closing inc (kept_of side t)) (noted_of side t)
TellsCall (Restarted boot) side t u =
    kept_of side u ≡ beginning (first_session boot) (kept_of side t)
TellsCall (Published inc name) side t u =
    SaysIfUp side t u (publishing inc name.now (kept_of side t))
    (without_note (noted_of side t) name.now)
TellsCall (Asked name) side t u = SaysIfUp side t u (asked name.now ∷ []) (noted_of side t)
TellsCall (Sent from name to signal) side t u =
    SideSays side t u (says_sending from name.now to signal.now (kept_of side t))
    (notes_sending from name.now (kept_of side t) (noted_of side t))

-- ---- the parts of a call

-- what an RLNH end says to a call, and its tables then; one whose side boots again says nothing
abbrev pub saying_of : SideCall → RlnhTables → Saying
saying_of (Opened inc name) s = opened_of s inc name.now
saying_of (Closed inc) s = close_of s inc
saying_of (Restarted boot) s = end_saying s []
saying_of (Published inc name) s = publish_of s inc name.now
saying_of (Asked name) s = query_of s name.now
saying_of (Sent from name to signal) s = send_of s from name.now to signal.now

-- the tables of an RLNH end have what a call asks of them: an address for who is published, and the
-- peer that is sent to
abbrev pub MaySay : SideCall → RlnhTables → Type 0
MaySay (Opened inc name) s = HasAddressLeft s.own
MaySay (Published inc name) s = HasAddressLeft s.own
MaySay (Sent from name to signal) s = IsSome (addr_met s.met to) × HasAddressLeft s.own
MaySay _ s = Unit {0}

-- the name that a call asks for is one
abbrev pub IsNamed : SideCall → Type 0
IsNamed (Asked name) = IsTrue (is_name name.now)
IsNamed _ = Unit {0}
