-- WHAT A STEP OF A RUN IS: it keeps the laws of nodes, and makes of the sides of the links what its
-- kind makes of them, in words of their records. Each kind of step stands by itself.
use Rattle.std.specs.Prelude.{ℕ, suc, ◌+◌, ◌≡◌, ◌≤◌, ◌<◌, ◌==◌, Bool, true, false, ◌&&◌, List, []}
use Rattle.std.specs.Prelude.{◌∷◌, ◌++◌, map, is_some, Option, Some, None, if◌then◌else◌}
use Rattle.std.specs.List.{list_any, AllByRecursion}
use Rattle.std.specs.Str.{bytes_eq}
use Rattle.linx_base.specs.Numbers.{first_session, next_session}
use Rattle.linx_base.specs.Sides.{other_of}
use Rattle.linx_base.specs.declared.frame.Verdict.{Verdict}
use Rattle.linx_base.specs.declared.identity.Inc.{Inc}
use Rattle.linx_base.specs.declared.identity.LinkNo.{LinkNo}
use Rattle.linx_base.specs.declared.identity.Peer.{Peer}
use Rattle.linx_base.specs.declared.identity.Peer.TheVariants.{Here, There}
use Rattle.linx_base.specs.declared.identity.Session.{Session}
use Rattle.linx_base.specs.declared.identity.Side.{Side}
use Rattle.linx_base.specs.declared.identity.Side.TheVariants.{First, Second}
use Rattle.linx_base.specs.declared.name.Path.{Path}
use Rattle.linx_base.specs.declared.name.Path.TheVariants.{Over}
use Rattle.linx_base.specs.SigNotes.{SigNote}
use Rattle.trunk_record.specs.Changes.{beginning, giving, going_up, saying, says_sending}
use Rattle.trunk_record.specs.Records.{SessionRecord, SideRecord, all, has_session, peer_in}
use Rattle.trunk_record.specs.Records.{said_in}
use Rattle.trunk_record.specs.Sayings.{Given, Said, arrived, asked, asked_for, freed, gone}
use Rattle.trunk_record.specs.Sayings.{heard_as, is_live, met, published, unpublished}
use Rattle.trunk_record.specs.Trunks.{FitsReceiver, IsQuiet}
use Rattle.journal.specs.Effects.{losing}
use Rattle.journal.specs.History.{endpoint_by, name_of, next_inc, opened_on}
use Rattle.journal.specs.Living.{find, is_alive}
use Rattle.journal.specs.Pending.{owed}
use Rattle.journal.specs.Shapes.{Shape, node_by}
use Rattle.journal.specs.declared.effect.Effect.{Effect}
use Rattle.journal.specs.declared.effect.Step.{Step}
use Rattle.journal.specs.declared.head.Head.{Head}
use Rattle.journal.specs.declared.head.Head.TheVariants.{Close, Ended, Hunt, Open, Restart, Send}
use Rattle.journal.specs.declared.head.Head.TheVariants.{TakeNone, Tick, Wire}
use Rattle.journal.specs.declared.head.SentTo.{SentTo}
use Rattle.journal.specs.declared.head.SentTo.TheVariants.{Link}
use Rattle.link_laws.specs.Brought.{Brought, arrives, brought_at, goes_down, goes_up, meets}
use Rattle.link_laws.specs.Brought.{nothing, parts}
use Rattle.link_laws.specs.Ends.{IsLinkOf, node_at}
use Rattle.link_laws.specs.Sides.{Links, SideState}
use Rattle.link_laws.specs.Laws.{KeepsNodeLaws, delivers}
use Rattle.link_laws.specs.Linked.{HasNone, is_hunted}
use Rattle.link_laws.specs.Promises.{IsNotAbove}
use Rattle.link_laws.specs.Sessions.{LosesIfCut, boots, is_cut, same_side}

-- A SIDE IS LEFT as it was, and was heard no longer ago
pub record IsLeft (before after : SideState) : Type 0 where
  pub side : after.side ≡ before.side
  pub noted : after.noted ≡ before.noted
  pub silent : after.silent ≤ before.silent

-- every side of every link is left
abbrev pub AllLeft : Shape → Links → Links → Type 0
AllLeft shape before after = (l : LinkNo) → IsLinkOf shape l → (side : Side)
    → IsLeft (before l.0 side) (after l.0 side)

-- a side of a link is this one
abbrev pub is_side : LinkNo → Side → LinkNo → Side → Bool
is_side l at h side = h.0 == l.0 && same_side at side

-- every side but this one is left
abbrev pub OthersLeft : Shape → Links → Links → LinkNo → Side → Type 0
OthersLeft shape before after l at = (h : LinkNo) → IsLinkOf shape h → (side : Side)
    → is_side l at h side ≡ false → IsLeft (before h.0 side) (after h.0 side)

-- every noted name stays but this one, which may be forgotten
abbrev pub KeepsNotes : List ℕ → SideState → SideState → Type 0
KeepsNotes name before after = (w : List ℕ) → bytes_eq w name ≡ false
    → list_any (bytes_eq w) before.noted ≡ true → list_any (bytes_eq w) after.noted ≡ true

-- every noted name stays, and this one is noted
abbrev pub NotesName : List ℕ → SideState → SideState → Type 0
NotesName name before after = (w : List ℕ)
    → list_any (bytes_eq w) (name ∷ before.noted) ≡ true
    → list_any (bytes_eq w) after.noted ≡ true

-- the session of a side is up
abbrev pub is_up : SideRecord → Bool
is_up A = is_some A.now.peer

-- AN OPENING. The endpoint is published where its name is wanted
abbrev pub opening_side : Bool → Inc → List ℕ → SideRecord → SideRecord
opening_side wanted i name A = saying (if wanted then published i name ∷ [] else []) A

-- a name is wanted at a side that is up and has noted it
abbrev pub is_wanted : List ℕ → SideState → Bool
is_wanted name C = is_up C.side && list_any (bytes_eq name) C.noted

-- what an opening makes of a side of its node
pub record PublishesOpened (i : Inc) (name : List ℕ) (before after : SideState) : Type 0 where
  pub side : after.side ≡ opening_side (is_wanted name before) i name before.side
  pub noted : KeepsNotes name before after
  pub silent : after.silent ≤ before.silent

-- what an opening makes of a side: on its node the endpoint is published where its name is wanted,
-- and any other side is left
abbrev pub OpensAt : Bool → Inc → List ℕ → SideState → SideState → Type 0
OpensAt true i name before after = PublishesOpened i name before after
OpensAt false i name before after = IsLeft before after

-- what an opening on node n makes of all sides of all links
abbrev pub Opens : Shape → Links → Links → ℕ → Inc → List ℕ → Type 0
Opens shape before after n i name = (l : LinkNo) → IsLinkOf shape l → (side : Side)
    → OpensAt (node_at shape l side == n) i name (before l.0 side) (after l.0 side)

-- A CLOSE. On a side of the node where the endpoint closes it is unpublished, if it is live
abbrev pub closing_side : ℕ → ℕ → Inc → SideRecord → SideRecord
closing_side n k j A =
    if k == n && is_live j A.now.said then saying (unpublished j ∷ []) A else A

-- what a close on node n makes of a side of node k
pub record ClosesAt (n k : ℕ) (j : Inc) (before after : SideState) : Type 0 where
  pub side : after.side ≡ closing_side n k j before.side
  pub noted : after.noted ≡ before.noted
  pub silent : after.silent ≤ before.silent

-- what a close on node n makes of all sides of all links
abbrev pub Closes : Shape → Links → Links → ℕ → Inc → Type 0
Closes shape before after n j = (l : LinkNo) → IsLinkOf shape l → (side : Side)
    → ClosesAt n (node_at shape l side) j (before l.0 side) (after l.0 side)

-- the close of the endpoint of a maker, if it has one
abbrev pub Ends : Shape → Links → Links → ℕ → Option Inc → Type 0
Ends shape before after n None = AllLeft shape before after
Ends shape before after n (Some j) = Closes shape before after n j

-- A SEND over a link. The node's side says it, and publishes the sender first unless the sender is
-- live; the sender's name may be forgotten where it was noted
pub record SendsOver (shape : Shape) (P : List Step) (before after : Links) (n : ℕ) (j : Inc)
    (l : LinkNo) (b : Inc) (note : SigNote) : Type 0 where
  pub at : Side
  pub of_shape : IsLinkOf shape l
  pub node : node_at shape l at ≡ n
  pub side : (after l.0 at).side
      ≡ saying (says_sending j (name_of P j) b note (before l.0 at).side) (before l.0 at).side
  pub noted : KeepsNotes (name_of P j) (before l.0 at) (after l.0 at)
  pub silent : (after l.0 at).silent ≤ (before l.0 at).silent
  pub others : OthersLeft shape before after l at

-- what a send makes of the sides: one over a link is said by the node's side, any other leaves them
-- all
abbrev pub Sends : Shape → List Step → Links → Links → ℕ → Option Inc → Peer → SigNote → SentTo
    → Type 0
Sends shape P before after n (Some j) (There l x b) note Link =
    SendsOver shape P before after n j l b note
Sends shape P before after n me q note answer = AllLeft shape before after

-- A HUNT OVER A LINK that finds nothing. Where the side of the node is up, it asks for the name
pub record AsksOver (shape : Shape) (before after : Links) (n : ℕ) (l : LinkNo) (v : List ℕ)
    : Type 0 where
  pub at : Side
  pub of_shape : IsLinkOf shape l
  pub node : node_at shape l at ≡ n
  pub side : (after l.0 at).side
      ≡ saying (if is_up (before l.0 at).side then asked v ∷ [] else []) (before l.0 at).side
  pub noted : (after l.0 at).noted ≡ (before l.0 at).noted
  pub silent : (after l.0 at).silent ≤ (before l.0 at).silent
  pub others : OthersLeft shape before after l at

-- what a hunt makes of the sides: one over a link that finds nothing is asked by the node's side,
-- any other leaves them all
abbrev pub Hunts : Shape → Links → Links → ℕ → Path → Option Peer → Type 0
Hunts shape before after n (Over l v) None = AsksOver shape before after n l v
Hunts shape before after n path found = AllLeft shape before after

-- A SIDE BEGINS a session
pub record Begins (x : Session) (before after : SideState) : Type 0 where
  pub side : after.side ≡ beginning x before.side
  pub silent : after.silent ≤ before.silent

-- what a restart makes of a side: one of the node that restarts begins this session, any other is
-- left
abbrev pub RestartsAt : Bool → Session → SideState → SideState → Type 0
RestartsAt true x before after = Begins x before after
RestartsAt false x before after = IsLeft before after

-- A RESTART. Each side of the node begins the first session of the next boot
abbrev pub Restarts : Shape → List Step → Links → Links → ℕ → Type 0
Restarts shape P before after n = (l : LinkNo) → IsLinkOf shape l → (side : Side)
    → RestartsAt (node_at shape l side == n) (first_session (2 + boots P n)) (before l.0 side)
    (after l.0 side)

-- WHAT IS GIVEN FOR THE NEXT WORD that the other side said: the pair of the session, which has it
-- as pair, and what was said until then
pub record IsTold (A B : SideRecord) (g : Given) : Type 0 where
  pub y : Session
  pub pair : A.now.peer ≡ Some y
  pub back : peer_in B y ≡ Some A.now.session
  pub later : List Said
  pub said : said_in B y ≡ later ++ heard_as g ∷ map heard_as A.now.given

-- what a side was given, as a packet brings it; a question and a freed signal bring nothing
abbrev pub brought_of : SideRecord → Given → Brought
brought_of A (met a name) = meets A.now.session a name
brought_of A (asked_for name) = nothing
brought_of A (arrived a b note) = arrives A.now.session a b note
brought_of A (freed a b note) = nothing
brought_of A (gone a) = parts A.now.session a

-- A QUESTION is noted where nobody has the name, and else an open endpoint of that name is
-- published, unless it is live
pub data IsQuestionAnswered (P : List Step) (n : ℕ) (v : List ℕ) (before after : SideState)
    : Type 0 where
  notes : HasNone P n v → after.side ≡ giving (asked_for v) before.side
      → NotesName v before after → IsQuestionAnswered P n v before after
  publishes : (i : Inc) → is_alive P n (Here i) ≡ true → name_of P i ≡ v
      → after.side ≡ saying (if is_live i before.side.now.said then [] else published i v ∷ [])
      (giving (asked_for v) before.side) → KeepsNotes v before after
      → IsQuestionAnswered P n v before after

-- anything else that is given changes the record alone
pub record IsRecorded (g : Given) (before after : SideState) : Type 0 where
  pub side : after.side ≡ giving g before.side
  pub noted : after.noted ≡ before.noted

-- what a side makes of what it is given
abbrev pub Receives : List Step → ℕ → Given → SideState → SideState → Type 0
Receives P n (asked_for v) before after = IsQuestionAnswered P n v before after
Receives P n g before after = IsRecorded g before after

-- a packet gives something to node n
pub record PacketGives (P : List Step) (n : ℕ) (l : LinkNo) (before after far : SideState)
    (es : List Effect) : Type 0 where
  pub g : Given
  pub told : IsTold before.side far.side g
  pub fits : FitsReceiver before.side g
  pub effects : es ≡ brought_at P n l (brought_of before.side g)
  pub receives : Receives P n g before after
  pub silent : after.silent ≡ 0

-- no earlier peer of an entry is above this session
abbrev pub IsAfter : Session → SessionRecord → Type 0
IsAfter y e = IsNotAbove y e.peer

-- questions for these names, in order
abbrev pub questions : List (List ℕ) → List Said
questions names = map asked names

-- A SIDE GOES UP with a session of the other side, no lower than its earlier peers, and asks for
-- the name of each hunt that is pending over the link
pub record GoesUp (P : List Step) (n : ℕ) (l : LinkNo) (before after far : SideState)
    (es : List Effect) : Type 0 where
  pub y : Session
  pub down : before.side.now.peer ≡ None
  pub other_has : list_any (has_session y) (all far.side) ≡ true
  pub forward : AllByRecursion (IsAfter y) (all before.side)
  pub effects : es ≡ brought_at P n l (goes_up before.side.now.session y)
  pub names : List (List ℕ)
  pub asks_all : (v : List ℕ) → is_hunted P n l v ≡ true → list_any (bytes_eq v) names ≡ true
  pub side : after.side ≡ saying (questions names) (going_up y before.side)
  pub noted : after.noted ≡ []
  pub silent : after.silent ≡ 0

-- A SIDE GOES DOWN where the other side has a greater session than its pair
pub record GoesDown (P : List Step) (n : ℕ) (l : LinkNo) (before after far : SideState)
    (es : List Effect) : Type 0 where
  pub y : Session
  pub pair : before.side.now.peer ≡ Some y
  pub passed : y.0 < far.side.now.session.0
  pub effects : es ≡ brought_at P n l (goes_down before.side.now.session)
  pub begins : Begins (next_session before.side.now.session) before after

-- A PACKET THAT IS HANDED OVER to node n: nothing of this, or one of these
pub data Delivers (P : List Step) (n : ℕ) (l : LinkNo) (before after far : SideState)
    (es : List Effect) : Type 0 where
  brings_nothing : es ≡ [] → IsLeft before after → Delivers P n l before after far es
  brings_up : GoesUp P n l before after far es → Delivers P n l before after far es
  brings_down : GoesDown P n l before after far es → Delivers P n l before after far es
  gives : PacketGives P n l before after far es → Delivers P n l before after far es

-- a packet that is handed over brings something to one side and leaves the others; one that isn't
-- does nothing
abbrev pub HandsOver : Bool → Shape → List Step → Links → Links → LinkNo → Side → List Effect
    → Type 0
HandsOver true shape P before after l from es =
    Delivers P (node_at shape l (other_of from)) l (before l.0 (other_of from))
    (after l.0 (other_of from)) (before l.0 from) es
    × OthersLeft shape before after l (other_of from)
HandsOver false shape P before after l from es = (es ≡ []) × AllLeft shape before after

-- A PACKET meets a verdict, which is to lose it while the link is cut
pub record Passes (shape : Shape) (P : List Step) (before after : Links) (l : LinkNo) (from : Side)
    (verdict : Verdict) (es : List Effect) : Type 0 where
  pub of_shape : IsLinkOf shape l
  pub cuts : LosesIfCut P l verdict
  pub handed : HandsOver (delivers verdict) shape P before after l from es

-- A SIDE IS LOST at its third tick in silence, or a later one
pub record IsLost (P : List Step) (n : ℕ) (l : LinkNo) (before after : SideState)
    (es : List Effect) : Type 0 where
  pub y : Session
  pub pair : before.side.now.peer ≡ Some y
  pub silence : 2 ≤ before.silent
  pub effects : es ≡ losing (record { 0 = n }) l before.side.now.session (owed P n)
  pub begins : Begins (next_session before.side.now.session) before after

-- a side stays at a tick, and was heard one tick longer ago at most
pub record IsTicked (before after : SideState) (es : List Effect) : Type 0 where
  pub effects : es ≡ []
  pub side : after.side ≡ before.side
  pub noted : after.noted ≡ before.noted
  pub silent : after.silent ≤ suc before.silent

-- what a tick makes of its side: it stays, or is lost
pub data TicksAt (P : List Step) (n : ℕ) (l : LinkNo) (before after : SideState)
    (es : List Effect) : Type 0 where
  ticks_on : IsTicked before after es → TicksAt P n l before after es
  loses_it : IsLost P n l before after es → TicksAt P n l before after es

-- A TICK of a side of a link leaves the others
pub record TicksOver (shape : Shape) (P : List Step) (before after : Links) (l : LinkNo)
    (side : Side) (es : List Effect) : Type 0 where
  pub of_shape : IsLinkOf shape l
  pub ticked : TicksAt P (node_at shape l side) l (before l.0 side) (after l.0 side) es
  pub others : OthersLeft shape before after l side

-- A LINK RESTS: it is cut and neither side is up, or it is whole, and its trunk is quiet
pub data IsResting (P : List Step) (l : LinkNo) (first second : SideState) : Type 0 where
  cut : is_cut P l.0 ≡ true → first.side.now.peer ≡ None → second.side.now.peer ≡ None
      → IsResting P l first second
  quiet : is_cut P l.0 ≡ false → IsQuiet first.side second.side → IsResting P l first second

-- all links rest
abbrev pub AllResting : Shape → List Step → Links → Type 0
AllResting shape P links = (l : LinkNo) → IsLinkOf shape l
    → IsResting P l (links l.0 First) (links l.0 Second)

-- a receive finds none only where all links rest, and leaves all sides
pub record FindsNone (shape : Shape) (P : List Step) (before after : Links) : Type 0 where
  pub resting : AllResting shape P before
  pub left : AllLeft shape before after

-- WHAT A STEP MAKES OF THE SIDES, by the node and the endpoint of its maker, its head and its
-- effects
abbrev pub Moves : Shape → List Step → Links → Links → ℕ → Option Inc → Head → List Effect → Type 0
Moves shape P before after n me (Open name) es =
    Opens shape before after n (next_inc n (opened_on P n)) name
Moves shape P before after n me Close es = Ends shape before after n me
Moves shape P before after n me (Send q note answer) es =
    Sends shape P before after n me q note answer
Moves shape P before after n me (TakeNone filter) es = FindsNone shape P before after
Moves shape P before after n me (Hunt path note) es =
    Hunts shape before after n path (find P n path)
Moves shape P before after n me (Restart k) es = Restarts shape P before after k.0
Moves shape P before after n me (Wire l from verdict) es =
    Passes shape P before after l from verdict es
Moves shape P before after n me (Tick l side) es = TicksOver shape P before after l side es
Moves shape P before after n me Ended es = Ends shape before after n me
Moves shape P before after n me head es = AllLeft shape before after

-- A MOVE: a step, after the steps P, from the links before it to the links after it
pub record IsMove (shape : Shape) (P : List Step) (before : Links) (s : Step) (after : Links)
    : Type 0 where
  pub laws : KeepsNodeLaws shape P s
  pub moves :
      Moves shape P before after (node_by shape s.by) (endpoint_by P s.by) s.head s.effects
