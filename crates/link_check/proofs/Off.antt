-- A STEP OF ANOTHER LINK, or of none, leaves what is kept of a link.
use Rattle.std.proofs.Common.{◌≡◌, ℕ, Bool, true, false, ◌&&◌, ◌==◌, List, [], ◌∷◌, map, filter}
use Rattle.std.proofs.Common.{Option, refl, sym, subst, if◌then◌else◌, true≢false}
use Rattle.std.specs.List.{list_any, AllByRecursion}
use Rattle.linx_base.specs.Peers.{same_peer}
use Rattle.linx_base.specs.Sides.{other_of}
use Rattle.linx_base.specs.Pending.{is_of_session}
use Rattle.linx_base.specs.declared.frame.LinkDecl.{LinkDecl}
use Rattle.linx_base.specs.declared.identity.LinkNo.{LinkNo}
use Rattle.linx_base.specs.declared.identity.Peer.{Peer}
use Rattle.linx_base.specs.declared.identity.Peer.TheVariants.{Here, There}
use Rattle.linx_base.specs.declared.identity.Session.{Session}
use Rattle.linx_base.specs.declared.identity.Side.{Side}
use Rattle.linx_base.specs.declared.identity.Side.TheVariants.{First, Second}
use Rattle.linx_base.specs.declared.name.Path.TheVariants.{Over}
use Rattle.linx_base.specs.declared.pending.PendingAttach.{PendingAttach}
use Rattle.linx_base.specs.declared.pending.PendingHunt.{PendingHunt}
use Rattle.linx_base.specs.declared.signal.Reason.{Reason}
use Rattle.linx_base.specs.declared.signal.Reason.TheVariants as reasons
use Rattle.journal.specs.declared.by.By.{By}
use Rattle.journal.specs.declared.effect.Effect.{Effect}
use Rattle.journal.specs.declared.effect.Effect.TheVariants.{Arrived, Down, Gone, Met, Up}
use Rattle.journal.specs.declared.effect.Step.{Step}
use Rattle.journal.specs.declared.head.Head.{Head}
use Rattle.journal.specs.declared.head.Head.TheVariants as heads
use Rattle.journal.specs.Effects.{found, hunts_for, losing, notice}
use Rattle.journal.specs.History.{endpoint_by}
use Rattle.journal.specs.Laws.{effects_by}
use Rattle.journal.specs.Pending.{hunting, owed}
use Rattle.journal.specs.Sessions.{session_past, up_session}
use Rattle.journal.specs.Shapes.{Shape, node_by}
use Rattle.link_laws.specs.Brought.{Brought, arrives, brought_at, goes_down, goes_up, meets}
use Rattle.link_laws.specs.Brought.{nothing, parts}
use Rattle.link_laws.specs.Ends.{node_at}
use Rattle.link_laws.specs.Laws.{HasEffects, IsHandedOver, IsLegalStep, IsTick, KeepsPackets}
use Rattle.link_laws.specs.Laws.{KeepsTicks, delivers, loses, stays}
use Rattle.link_laws.specs.Sessions.{cut_after, ends_session, is_cut, restarts, tells_heard, ticks}
use Rattle.link_tables.specs.Sides.{pair_past, side_left, up_pair}
use Rattle.link_check.specs.Lines.{line_after, line_left, line_past, touches}
use Rattle.link_check.specs.Rest.{stirred_left}
use Rattle.link_check.proofs.Heads.{AreHere, here-founds, here-head, here-notices}

module _ (link : ℕ) where
  -- an effect is off the link
  abbrev pub IsOff : Effect → Type 0
  IsOff (Up n l x y) = (l.0 == link) ≡ false
  IsOff (Down n l x) = (l.0 == link) ≡ false
  IsOff (Met n (There l x i) name) = (l.0 == link) ≡ false
  IsOff (Gone n (There l x i)) = (l.0 == link) ≡ false
  IsOff (Arrived b (There l x i) note) = (l.0 == link) ≡ false
  IsOff _ = Unit {0}

  abbrev pub AreOff : List Effect → Type 0
  AreOff es = AllByRecursion IsOff es

  -- what speaks of no link is
  pub off-here : (es : List Effect) → AreHere es → AreOff es
  off-here [] here = tt
  off-here (Arrived b (There l x a) note ∷ es) here = absurd here.0
  off-here (Arrived b (Here i) note ∷ es) here = (tt, off-here es here.1)
  off-here (Met n q name ∷ es) here = absurd here.0
  off-here (Gone n q ∷ es) here = absurd here.0
  off-here (Up n l x y ∷ es) here = absurd here.0
  off-here (Down n l x ∷ es) here = absurd here.0
  off-here (_ ∷ es) here = (tt, off-here es here.1)

  off-founds : (q : Peer) (hunts : List PendingHunt) → AreOff (map (found q) hunts)
  off-founds q hunts = off-here (map (found q) hunts) (here-founds q hunts)

  off-notices : (reason : Reason) (attaches : List PendingAttach)
      → AreOff (map (notice reason) attaches)
  off-notices reason attaches = off-here (map (notice reason) attaches) (here-notices reason attaches)

  module _ (P : List Step) (node : ℕ) where
    -- those of a packet and a tick of another link
    module _ (l : LinkNo) (other : (l.0 == link) ≡ false) where
      off-losing : (x : Session) → AreOff (losing (record { 0 = node }) l x (owed P node))
      off-losing x = (
        other,
        off-notices reasons.Lost (filter (λ (a : PendingAttach). is_of_session l x a.peer)
            (owed P node)),
      )

      off-brought : (what : Brought) → AreOff (brought_at P node l what)
      off-brought nothing = tt
      off-brought (goes_up x y) = (other, tt)
      off-brought (goes_down x) = off-losing x
      off-brought (arrives x a b note) = (other, tt)
      off-brought (meets x a name) =
          (other, off-founds (There l x a) (hunts_for (Over l name) (hunting P node)))
      off-brought (parts x a) = (
        other,
        off-notices reasons.Closed (filter (λ (b : PendingAttach). same_peer (There l x a) b.peer)
            (owed P node)),
      )

      off-packet : (handed : Bool) (m : ℕ) (es : List Effect)
          → IsHandedOver handed P node m l es → AreOff es
      off-packet true m es packet = subst AreOff (sym packet.effects) (off-brought packet.what)
      off-packet false m es none = subst AreOff (sym none) tt

      off-tick : (side : Side) (es : List Effect) → IsTick P node l side es → AreOff es
      off-tick side es (stays none) = subst AreOff (sym none) tt
      off-tick side es (loses x up silent same) = subst AreOff (sym same) (off-losing x)

  module _ (shape : Shape) (P : List Step) where
    by-head : (by : By) (head : Head) (es : List Effect) → touches link head ≡ false
        → HasEffects shape P (node_by shape by) (endpoint_by P by) head es
        → KeepsPackets shape P head es → KeepsTicks shape P head es → AreOff es
    by-head by (heads.Restart k) es off has packets ticks = absurd (true≢false off)
    by-head by (heads.Wire l from verdict) es off has packets ticks =
        off-packet P (node_at shape l (other_of from)) l off (delivers verdict)
        (node_at shape l from) es packets
    by-head by (heads.Tick l side) es off has packets ticks =
        off-tick P (node_at shape l side) l off side es ticks
    by-head by head es off has packets ticks =
        subst AreOff (sym has)
        (off-here (effects_by P (node_by shape by) (endpoint_by P by) head)
        (here-head P (node_by shape by) (endpoint_by P by) head))

    pub step-off : (s : Step) → IsLegalStep shape P s → touches link s.head ≡ false
        → AreOff s.effects
    step-off s legal off =
        by-head s.by s.head s.effects off legal.nodes.effects legal.packets legal.ticks

  -- WHAT IS OFF THE LINK leaves its sides
  pub and-false : (a b : Bool) → b ≡ false → (a && b) ≡ false
  and-false true b is = is
  and-false false b is = refl

  module _ (node : ℕ) where
    pub off-session : (es : List Effect) → AreOff es → (up : Option Session)
        → session_past node link up es ≡ up
    off-session [] off up = refl
    off-session (Up n l x y ∷ es) off up =
        rw (and-false (n.0 == node) (l.0 == link) off.0) (off-session es off.1 up)
    off-session (Down n l x ∷ es) off up =
        rw (and-false (n.0 == node) (l.0 == link) off.0) (off-session es off.1 up)
    off-session (_ ∷ es) off up = off-session es off.1 up

    off-pair : (es : List Effect) → AreOff es → (pair : Option Session)
        → pair_past node link pair es ≡ pair
    off-pair [] off pair = refl
    off-pair (Up n l x y ∷ es) off pair =
        rw (and-false (n.0 == node) (l.0 == link) off.0) (off-pair es off.1 pair)
    off-pair (Down n l x ∷ es) off pair =
        rw (and-false (n.0 == node) (l.0 == link) off.0) (off-pair es off.1 pair)
    off-pair (_ ∷ es) off pair = off-pair es off.1 pair

    off-ends : (es : List Effect) → AreOff es → list_any (ends_session node link) es ≡ false
    off-ends [] off = refl
    off-ends (Down n l x ∷ es) off =
        rw (and-false (n.0 == node) (l.0 == link) off.0) (off-ends es off.1)
    off-ends (_ ∷ es) off = off-ends es off.1

    off-heard : (es : List Effect) → AreOff es → list_any (tells_heard node link) es ≡ false
    off-heard [] off = refl
    off-heard (Up n l x y ∷ es) off =
        rw (and-false (n.0 == node) (l.0 == link) off.0) (off-heard es off.1)
    off-heard (Met n (There l x i) name ∷ es) off =
        rw (and-false (n.0 == node) (l.0 == link) off.0) (off-heard es off.1)
    off-heard (Gone n (There l x i) ∷ es) off =
        rw (and-false (n.0 == node) (l.0 == link) off.0) (off-heard es off.1)
    off-heard (Arrived b (There l x i) note ∷ es) off =
        rw (and-false _ (l.0 == link) off.0) (off-heard es off.1)
    off-heard (Met n (Here i) name ∷ es) off = off-heard es off.1
    off-heard (Gone n (Here i) ∷ es) off = off-heard es off.1
    off-heard (Arrived b (Here i) note ∷ es) off = off-heard es off.1
    off-heard (_ ∷ es) off = off-heard es off.1

  no-restart : (node : ℕ) (head : Head) → touches link head ≡ false → restarts node head ≡ false
  no-restart node (heads.Restart n) off = absurd (true≢false off)
  no-restart node _ off = refl

  no-tick : (side : Side) (head : Head) → touches link head ≡ false → ticks link side head ≡ false
  no-tick side (heads.Tick l at) off = rw off refl
  no-tick side _ off = refl

  no-cut : (before : Bool) (head : Head) → touches link head ≡ false
      → cut_after link before head ≡ before
  no-cut before (heads.Cut l) off = rw off refl
  no-cut before (heads.Mend l) off = rw off refl
  no-cut before _ off = refl

  module _ (s : Step) (P : List Step) (off : touches link s.head ≡ false) (all : AreOff s.effects) where
    side-stays : (node : ℕ) (side : Side)
        → side_left (s ∷ P) node link side ≡ side_left P node link side
    side-stays node side =
        rw (
          no-restart node s.head off,
          off-ends node s.effects all,
          off-session node s.effects all (up_session P node link),
          off-pair node s.effects all (up_pair P node link),
          off-heard node s.effects all,
          no-tick side s.head off,
        ) refl

    line-stays : (ends : LinkDecl) → line_left (s ∷ P) link ends
        ≡ record (line_left P link ends) { stirred = stirred_left (s ∷ P) link ends }
    line-stays ends = λ i. record {
      first = side-stays ends.first.0 First i;
      second = side-stays ends.second.0 Second i;
      cut = no-cut (is_cut P link) s.head off i;
      stirred = stirred_left (s ∷ P) link ends;
    }

  -- A LEGAL STEP, of the link or not, makes of it what is kept
  pub line-follows : (shape : Shape) (s : Step) (P : List Step) → IsLegalStep shape P s
      → (ends : LinkDecl)
      → line_left (s ∷ P) link ends ≡ line_after link ends (endpoint_by P s.by) s (line_left P link ends)
  line-follows shape s P legal ends = go (touches link s.head) refl
    where
      go : (b : Bool) → touches link s.head ≡ b
          → line_left (s ∷ P) link ends
          ≡ record (if b then line_past link ends s (line_left P link ends)
          else line_left P link ends) { stirred = stirred_left (s ∷ P) link ends }
      go true off = refl
      go false off = line-stays s P off (step-off shape P s legal off) ends
