-- What a packet makes of the side that it comes to, with what its node does when it is told, is
-- what a packet of a run of moves makes of it; and so for a tick.
use Rattle.std.proofs.Common.{◌≡◌, ◌≢◌, ◌≤◌, ℕ, Bool, true, false, cond, ◌||◌, ◌⊎◌, inl, inr, List}
use Rattle.std.proofs.Common.{[], ◌∷◌, ◌++◌, Option, Some, None, refl, sym, ◌∙◌, ap, subst, arith}
use Rattle.std.proofs.Common.{◌==◌, is_some, slice_get, IsTrue, filter_map, bytes_eq, eq-eqb}
use Rattle.std.proofs.Common.{eqb-true}
use Rattle.std.specs.List.{list_any}
use Rattle.std.specs.Option.{ForSome}
use Rattle.std.proofs.lemmas.Bool.{or_cases, or_left, or_right}
use Rattle.std.proofs.lemmas.List.Folds.{list_any-append}
use Rattle.linx_base.specs.FirstMatch.{first_match}
use Rattle.linx_base.specs.NameText.{is_name}
use Rattle.linx_base.specs.Numbers.{next_session}
use Rattle.linx_base.specs.Peers.{same_inc, same_path}
use Rattle.linx_base.specs.Sides.{other_of}
use Rattle.linx_base.specs.declared.frame.Message.{Message}
use Rattle.linx_base.specs.declared.identity.Inc.{Inc}
use Rattle.linx_base.specs.declared.identity.LinkNo.{LinkNo}
use Rattle.linx_base.specs.declared.identity.Session.{Session}
use Rattle.linx_base.specs.declared.identity.Side.{Side}
use Rattle.linx_base.specs.declared.identity.Side.TheVariants.{First, Second}
use Rattle.linx_base.specs.declared.name.Path.{Path}
use Rattle.linx_base.specs.declared.name.Path.TheVariants.{Local, Over}
use Rattle.linx_base.specs.declared.pending.PendingHunt.{PendingHunt}
use Rattle.rlnh_end.specs.Calls.{publish_of, query_of}
use Rattle.rlnh_end.specs.States.{is_noted, with_note, without_note}
use Rattle.rlnh_end.specs.Reactions.{rlnh_input_of}
use Rattle.rlnh_end.specs.Hearing.{hears}
use Rattle.rlnh_end.specs.declared.heard.Heard.{Heard}
use Rattle.rlnh_end.specs.declared.up.Up.{Up}
use Rattle.rlnh_end.specs.declared.up.Up.TheVariants as ups
use Rattle.trunk_record.specs.Changes.{beginning, going_up, saying}
use Rattle.trunk_record.specs.Records.{SessionRecord, SideRecord, all}
use Rattle.trunk_record.specs.Sayings.{Given, arrived, asked, asked_for, freed, gone, met}
use Rattle.trunk_record.proofs.Lists.{all-impl}
use Rattle.trunk_record.proofs.Sayings.{same_inc-itself}
use Rattle.journal.specs.Effects.{losing}
use Rattle.journal.specs.History.{name_of, open_endpoints}
use Rattle.journal.specs.Living.{holder_of}
use Rattle.journal.specs.Pending.{hunting, owed}
use Rattle.journal.specs.declared.effect.Effect.{Effect}
use Rattle.journal.specs.declared.effect.Step.{Step}
use Rattle.journal.proofs.Openings.{same_inc-true}
use Rattle.carrier.specs.Events.{LinkState, handed_by, link_told_by, near_handed}
use Rattle.carrier.specs.Events as links
use Rattle.carrier.specs.Laws.{TellsRightly}
use Rattle.carrier.specs.declared.handed.Handed.{Handed}
use Rattle.carrier.specs.declared.handed.Handed.TheVariants as handed
use Rattle.carrier.specs.declared.handed.TickedSide.{TickedSide}
use Rattle.carrier.specs.declared.handed.TickedSide.TheVariants as ticked
use Rattle.link_laws.specs.Brought.{brought_at, goes_down, goes_up}
use Rattle.link_laws.specs.Moves.{Delivers, IsAfter, IsQuestionAnswered, NotesName, Receives}
use Rattle.link_laws.specs.Moves.{TicksAt, brings_down, brings_nothing, brings_up, brought_of}
use Rattle.link_laws.specs.Moves.{gives, is_up, loses_it, questions, ticks_on}
use Rattle.link_laws.specs.Promises.{IsNotAbove}
use Rattle.link_laws.proofs.Endpoints.Names.{bytes_eq-is}
use Rattle.link_laws.proofs.Endpoints.OpenAfterStep.{both_true}
use Rattle.trunk.specs.declared.up.TrunkUp.{TrunkUp}
use Rattle.trunk.specs.declared.up.TrunkUp.TheVariants.{WentUp, WentDown}
use Rattle.trunk.specs.Events.{IsReading, TrunkSide, TrunkState, asked_at, delivered, kept_of}
use Rattle.trunk.specs.Events.{near_beat, near_delivered, near_took, side_of, tables_of, ticked_at}
use Rattle.trunk.specs.Events.{told_by, told_of, told_up, turned, with_link}
use Rattle.trunk.specs.Keeping.{KeepsTrunk}
use Rattle.trunk.specs.Tells.{DownForLater, HeardNow, IsDown, IsGiven, IsQuietly, IsUp, TellsNotes}
use Rattle.trunk.specs.Tells.{TellsSide, frees, noted_of, publishing, silent_of, stays, up_of_tick}
use Rattle.trunk.proofs.EachEvent.BothSides.{events_keep, near_tells, turned_keeps}
use Rattle.trunk.proofs.Sessions.Silence.{offers_ticks}
use Rattle.trunk.proofs.EachEvent.Trunks.{events_tell}
use Rattle.trunk_moves.specs.Grants.{AreNames}
use Rattle.linx_base.specs.Pending.{is_for, name_over}
use Rattle.trunk_moves.specs.Packets.{answered, asks_for, names_hunted, publishes_if, told_at}
use Rattle.trunk_moves.specs.Trunks.{state_of}
use Rattle.trunk_moves.proofs.Beats.{lost_silent}
use Rattle.trunk_moves.proofs.Calls.{left_of, others_stay, side_asked}

-- ---- lists

-- names put before others, one after the other
pub onto : List (List ℕ) → List (List ℕ) → List (List ℕ)
onto [] before = before
onto (v ∷ names) before = onto names (v ∷ before)

onto_among : (p : List ℕ → Bool) (names before : List (List ℕ))
    → (list_any p names ≡ true) ⊎ (list_any p before ≡ true)
    → list_any p (onto names before) ≡ true
unfolding onto
onto_among p [] before (inl is) = absurd cc
onto_among p [] before (inr is) = is
onto_among p (v ∷ names) before (inr is) =
    onto_among p names (v ∷ before) (inr (or_right (p v) (list_any p before) is))
onto_among p (v ∷ names) before (inl is) =
    onto_among p names (v ∷ before) (elim (or_cases (p v) (list_any p names) is) [
      | inl first ↦ inr (or_left (p v) (list_any p before) first)
      | inr later ↦ inl later
    ])

-- a name before others, if there is one
abbrev pub with_name : Option (List ℕ) → List (List ℕ) → List (List ℕ)
with_name None names = names
with_name (Some w) names = w ∷ names

-- what has a name has it among those
one_among : (v : List ℕ) (name : Option (List ℕ)) (here any : Bool) (names : List (List ℕ))
    → (here ≡ true → (w : List ℕ) × (name ≡ Some w) × (bytes_eq v w ≡ true))
    → (any ≡ true → list_any (bytes_eq v) names ≡ true) → (here || any) ≡ true
    → list_any (bytes_eq v) (with_name name names) ≡ true
one_among v None here any names first later is =
    elim (or_cases here any is) [
      | inl one ↦ let w = first one in absurd cc
      | inr more ↦ later more
    ]
one_among v (Some x) here any names first later is =
    elim (or_cases here any is) [
      | inl one ↦
          let w = first one in
          let same : x ≡ w.0 = cc in
          or_left (bytes_eq v x) (list_any (bytes_eq v) names) (ap (bytes_eq v) same ∙ w.2)
      | inr more ↦ or_right (bytes_eq v x) (list_any (bytes_eq v) names) (later more)
    ]

-- a hunt for the name over the link has it
names_it : (l : LinkNo) (v : List ℕ) (path : Path) → same_path (Over l v) path ≡ true
    → (w : List ℕ) × (name_over l path ≡ Some w) × (bytes_eq v w ≡ true)
names_it l v (Local w) is = absurd cc
names_it l v (Over m w) is =
    let both = both_true (l.0 == m.0) (bytes_eq v w) is in
    let link : (m.0 == l.0) ≡ true = eq-eqb m.0 l.0 (sym (eqb-true l.0 m.0 both.0)) in
    (w, ap (λ (t : Bool). cond t (Some w) None) link, both.1)

-- the name of each pending hunt over the link is among those that are asked for
hunted_among : (l : LinkNo) (v : List ℕ) (hunts : List PendingHunt)
    → list_any (is_for (Over l v)) hunts ≡ true
    → list_any (bytes_eq v) (filter_map (λ (h : PendingHunt). name_over l h.path) hunts) ≡ true
hunted_among l v [] is = absurd cc
hunted_among l v (h ∷ hunts) is =
    one_among v (name_over l h.path) (is_for (Over l v) h) (list_any (is_for (Over l v)) hunts)
    (filter_map (λ (k : PendingHunt). name_over l k.path) hunts) (names_it l v h.path)
    (hunted_among l v hunts) is

-- who is found first, is there and passes; where nobody is, nobody that is there passes
pub found_there : (p : Inc → Bool) (i : Inc) (incs : List Inc) → first_match p incs ≡ Some i
    → (list_any (same_inc i) incs ≡ true) × (p i ≡ true)
found_there p i [] is = absurd cc
found_there p i (j ∷ incs) is = by_test (p j) refl is (found_there p i incs)
  where
    by_test : (t : Bool) → p j ≡ t → cond t (Some j) (first_match p incs) ≡ Some i
        → (first_match p incs ≡ Some i → (list_any (same_inc i) incs ≡ true) × (p i ≡ true))
        → (list_any (same_inc i) (j ∷ incs) ≡ true) × (p i ≡ true)
    by_test true passes found rest =
        let same : j ≡ i = cc in (
          or_left (same_inc i j) (list_any (same_inc i) incs)
              (subst (λ (k : Inc). same_inc i k ≡ true) (sym same) (same_inc-itself i)),
          ap p (sym same) ∙ passes,
        )
    by_test false fails found rest =
        let there = rest found in
        (or_right (same_inc i j) (list_any (same_inc i) incs) there.0, there.1)

none_there : (p : Inc → Bool) (i : Inc) (incs : List Inc) → first_match p incs ≡ None
    → list_any (same_inc i) incs ≡ true → p i ≡ false
none_there p i [] none there = absurd cc
none_there p i (j ∷ incs) none there = by_test (p j) refl none (none_there p i incs)
  where
    by_test : (t : Bool) → p j ≡ t → cond t (Some j) (first_match p incs) ≡ None
        → (first_match p incs ≡ None → list_any (same_inc i) incs ≡ true → p i ≡ false)
        → p i ≡ false
    by_test true passes found rest = absurd cc
    by_test false fails found rest =
        elim (or_cases (same_inc i j) (list_any (same_inc i) incs) there) [
          | inl here ↦ ap p (same_inc-true i j here) ∙ fails
          | inr later ↦ rest found later
        ]

-- ---- notes

-- a name that is asked for is noted, and the others stay
noted_then : (v w : List ℕ) (notes : List (List ℕ))
    → list_any (bytes_eq w) (v ∷ notes) ≡ true → list_any (bytes_eq w) (with_note notes v) ≡ true
noted_then v w notes is = by_noted (is_noted notes v) refl
  where
    by_noted : (t : Bool) → is_noted notes v ≡ t
        → list_any (bytes_eq w) (cond t notes (notes ++ v ∷ [])) ≡ true
    by_noted true already =
        elim (or_cases (bytes_eq w v) (list_any (bytes_eq w) notes) is) [
          | inl same ↦ subst (λ (x : List ℕ). list_any (bytes_eq x) notes ≡ true)
              (sym (bytes_eq-is w v same)) already
          | inr among ↦ among
        ]
    by_noted false new =
        list_any-append (bytes_eq w) notes (v ∷ [])
        ∙ elim (or_cases (bytes_eq w v) (list_any (bytes_eq w) notes) is) [
          | inl same ↦ or_right (list_any (bytes_eq w) notes) (bytes_eq w v || false)
              (or_left (bytes_eq w v) false same)
          | inr among ↦ or_left (list_any (bytes_eq w) notes) (bytes_eq w v || false)
              among
        ]

-- ---- a side that went up asks for names

-- what it makes of a side whose record was A
pub record HasAsked (at : Side) (A : SideRecord) (names : List (List ℕ)) (t : TrunkState)
    : Type 0 where
  pub kept : KeepsTrunk t
  pub side : kept_of at t ≡ saying (questions names) A
  pub notes : noted_of at t ≡ []
  pub silent : silent_of at t ≡ 0

pub asks_once : (at : Side) (A : SideRecord) (y : Session) → A.now.peer ≡ Some y
    → (before : List (List ℕ)) (t : TrunkState) → HasAsked at A before t → (v : List ℕ)
    → IsTrue (is_name v) → HasAsked at A (v ∷ before) (asked_at at v t)
asks_once at A y up before t has v named =
    let asks = side_asked at t has.kept v in
    record {
      kept = events_keep.asked at v t named has.kept;
      side = asks.side
          ∙ ap (λ (D : SideRecord). saying (cond (is_up D) (asked v ∷ []) []) D) has.side
          ∙ ap (λ p. saying (cond (is_some p) (asked v ∷ []) []) (saying (questions before) A)) up;
      notes = asks.notes ∙ has.notes;
      silent = events_tell.silence.call at at (λ s. query_of s v) t ∙ has.silent;
    }

pub asks_all : (at : Side) (A : SideRecord) (y : Session) → A.now.peer ≡ Some y
    → (names before : List (List ℕ)) (t : TrunkState) → AreNames names → HasAsked at A before t
    → HasAsked at A (onto names before) (asks_for at names t)
unfolding onto
asks_all at A y up [] before t named has = has
asks_all at A y up (v ∷ names) before t named has =
    asks_all at A y up names (v ∷ before) (asked_at at v t) named.1
    (asks_once at A y up before t has v named.0)

-- ---- what is handed up by the link

-- where nothing is, the side stays
nothing_same : (from : Side) (k : ℕ) (keep : Bool) (reading : Heard) (t : TrunkState)
    → handed_by from k t.link ≡ handed.Nothing
    → side_of (other_of from) (delivered from k keep reading t) ≡ side_of (other_of from) t
nothing_same First k keep reading t none =
    ap (λ h. (near_took (with_link (turned t) (links.near_delivered (turned t).link k keep)) reading
    h).first) none
nothing_same Second k keep reading t none =
    ap (λ h. (near_took (with_link t (links.near_delivered t.link k keep)) reading h).first) none

-- where a message is, the side has heard its peer now
near_got : (t : TrunkState) → KeepsTrunk t → (k : ℕ) (keep : Bool) (reading : Heard) (m : Message)
    → near_handed t.link (slice_get t.link.back k) ≡ handed.Got m
    → (near_delivered t k keep reading).link.first.end.ticks ≡ 0
near_got t kept k keep reading m got =
    let v : LinkState = links.near_delivered t.link k keep in
    ap (λ h. (near_took (with_link t v) reading h).link.first.end.ticks) got
    ∙ offers_ticks v (rlnh_input_of t.first.end reading).state.out
    ∙ (subst (TellsRightly t.link.first v.first t.link.second) got
    (near_tells t.link kept.link k keep)).heard

got_silent : (from : Side) (k : ℕ) (keep : Bool) (reading : Heard) (t : TrunkState) → KeepsTrunk t
    → (m : Message) → handed_by from k t.link ≡ handed.Got m
    → silent_of (other_of from) (delivered from k keep reading t) ≡ 0
got_silent First k keep reading t kept m got =
    near_got (turned t) (turned_keeps t kept) k keep reading m got
got_silent Second k keep reading t kept m got = near_got t kept k keep reading m got

-- ---- sides

some_of : (p : Option Session) → p ≢ None → (y : Session) × (p ≡ Some y)
some_of None up = absurd (up refl)
some_of (Some y) up = (y, refl)

not_above : (y : Session) (e : SessionRecord) → ForSome e.peer (λ z. z.0 ≤ y.0) → IsAfter y e
not_above y e upto = by_peer e.peer upto
  where
    by_peer : (p : Option Session) → ForSome p (λ z. z.0 ≤ y.0) → IsNotAbove y p
    by_peer None is = tt
    by_peer (Some z) is = is z refl

-- ---- a packet

module _ (P : List Step) (n : ℕ) (l : LinkNo) (from : Side) (keep : Bool) (reading : Heard)
    (t : TrunkState) (kept : KeepsTrunk t) (read : IsReading (handed_by from 0 t.link) reading)
    (es : List Effect) where
  abbrev to : Side
  to = other_of from

  abbrev v : TrunkState
  v = delivered from 0 keep reading t

  abbrev A : SideRecord
  A = kept_of to t

  abbrev C : SideRecord
  C = kept_of to v

  abbrev B : SideRecord
  B = kept_of from t

  pub v_kept : KeepsTrunk v
  v_kept = events_keep.delivered from 0 keep reading t read kept

  -- what is shown of the side, where its trunk is then this
  abbrev DeliversTo : TrunkState → Type 0
  DeliversTo u = Delivers P n l (state_of to t) (state_of to u) (state_of from t) es

  abbrev HasTold : TrunkUp → Type 0
  HasTold up = es ≡ told_at P n l to t up

  -- it was given something
  given : (g : Given) → IsGiven A C B g → es ≡ brought_at P n l (brought_of A g) → (u : TrunkState)
      → Receives P n g (state_of to t) (state_of to u) → silent_of to u ≡ 0 → DeliversTo u
  given g is effects u receives silent = gives (record {
    g = g;
    told = record { y = is.peer; pair = is.pair; back = is.back; later = is.later; said = is.said };
    fits = is.fits;
    effects = effects;
    receives = receives;
    silent = silent;
  })

  -- a question: what is published, or noted
  module _ (name : List ℕ) (is : IsGiven A C B (asked_for name))
      (notes : noted_of to v ≡ with_note (noted_of to t) name) where
    noted_name : NotesName name (state_of to t) (state_of to v)
    noted_name w among =
        ap (list_any (bytes_eq w)) notes ∙ noted_then name w (noted_of to t) among

    answers : (holder : Option Inc) → holder_of P n name ≡ holder
        → IsQuestionAnswered P n name (state_of to t) (state_of to (publishes_if to name holder v))
    answers None none =
        IsQuestionAnswered.notes (λ i alive.
        none_there (λ j. bytes_eq name (name_of P j)) i (open_endpoints P n) none
        alive) is.kept noted_name
    answers (Some i) found =
        let there = found_there (λ j. bytes_eq name (name_of P j)) i (open_endpoints P n) found in
        let up = ap (λ (D : SideRecord). D.now.peer) is.kept ∙ is.pair in
        let says = events_tell.calls.published to i name v v_kept (λ none. absurd cc) in
        IsQuestionAnswered.publishes i there.0 (sym (bytes_eq-is name (name_of P i) there.1))
        (says.kept ∙ ap (λ (D : SideRecord). saying (publishing i name D) D) is.kept)
        (λ w apart was.
        ap (list_any (bytes_eq w)) (says.notes ∙ ap (λ ns. without_note ns name) notes)
        ∙ others_stay name w (with_note (noted_of to t) name) apart
        (noted_then name w (noted_of to t) (or_right (bytes_eq w name)
        (list_any (bytes_eq w) (noted_of to t)) was)))

    answered_silent : silent_of to v ≡ 0 → (holder : Option Inc)
        → silent_of to (publishes_if to name holder v) ≡ 0
    answered_silent zero None = zero
    answered_silent zero (Some i) =
        events_tell.silence.call to to (λ s. publish_of s i name) v ∙ zero

  -- a message came
  module _ (zero : silent_of to v ≡ 0) where
    nothing_given : IsQuietly A C B → noted_of to v ≡ noted_of to t → es ≡ [] → DeliversTo v
    nothing_given (stays same) notes effects =
        brings_nothing effects (record { side = same; noted = notes; silent = omega (arith, zero) })
    nothing_given (frees a b note is) notes effects =
        given (freed a b note) is effects v (record { side = is.kept; noted = notes }) zero

    by_up : (u : Up) → TellsSide A C B (told_up u)
        → TellsNotes (noted_of to t) (noted_of to v) (told_up u) → HasTold (told_up u)
        → DeliversTo (answered P n l to (told_up u) v)
    by_up ups.Nothing tells notes effects = nothing_given tells notes effects
    by_up (ups.Arrived a b note) tells notes effects =
        given (arrived a b note) tells effects v (record { side = tells.kept; noted = notes }) zero
    by_up (ups.Freed a b note) tells notes effects = nothing_given tells notes effects
    by_up (ups.Met i name) tells notes effects =
        given (met i name) tells effects v (record { side = tells.kept; noted = notes }) zero
    by_up (ups.Gone i) tells notes effects =
        given (gone i) tells effects v (record { side = tells.kept; noted = notes }) zero
    by_up (ups.Asked name) tells notes effects =
        given (asked_for name) tells effects (publishes_if to name (holder_of P n name) v)
        (answers name tells notes (holder_of P n name) refl)
        (answered_silent name tells notes zero (holder_of P n name))
    by_up ups.Bad tells notes effects = nothing_given tells notes effects

  -- it went up
  goes_up_to : (session y : Session) → IsUp A C B session y → noted_of to v ≡ []
      → silent_of to v ≡ 0 → AreNames (names_hunted P n l) → HasTold (WentUp session y)
      → DeliversTo (answered P n l to (WentUp session y) v)
  goes_up_to session y is notes zero named effects =
      let first : HasAsked to (going_up y A) [] v =
      record { kept = v_kept; side = is.kept; notes = notes; silent = zero } in
      let asked_then = asks_all to (going_up y A) y refl (names_hunted P n l) [] v named first in
      brings_up (record {
        y = y;
        down = is.was_down;
        other_has = is.held;
        forward = all-impl (λ e. ForSome e.peer (λ z. z.0 ≤ y.0)) (IsAfter y) (not_above y) (all A)
            is.upto;
        effects = effects ∙ ap (λ x. brought_at P n l (goes_up x y)) is.own;
        names = onto (names_hunted P n l) [];
        asks_all = λ w hunted.
            onto_among (bytes_eq w) (names_hunted P n l) []
            (inl (hunted_among l w (hunting P n) hunted));
        side = asked_then.side;
        noted = asked_then.notes;
        silent = asked_then.silent;
      })

  -- it went down
  goes_down_to : (session : Session) → IsDown A C session → DownForLater A B (WentDown session)
      → HasTold (WentDown session) → DeliversTo v
  goes_down_to session is down effects =
      brings_down (record {
        y = down.0;
        pair = down.1;
        passed = down.2;
        effects = effects ∙ ap (λ x. brought_at P n l (goes_down x)) is.own;
        begins = record {
          side = is.kept ∙ ap (λ x. beginning (next_session x) A) is.own;
          silent = events_tell.silence.packet from 0 keep reading t;
        };
      })

  -- what the events of a trunk tell of it
  record IsTelling (up : TrunkUp) : Type 0 where
    side : TellsSide A C B up
    notes : TellsNotes (noted_of to t) (noted_of to v) up
    down : DownForLater A B up
    shown : HeardNow (silent_of to v) up

  by_handed : AreNames (names_hunted P n l) → (h : Handed) → handed_by from 0 t.link ≡ h
      → IsTelling (told_of (tables_of to t) reading h)
      → HasTold (told_of (tables_of to t) reading h)
      → DeliversTo (answered P n l to (told_of (tables_of to t) reading h) v)
  by_handed named handed.Nothing is tells effects =
      brings_nothing effects (left_of to t v (nothing_same from 0 keep reading t is)
      (events_tell.silence.packet from 0 keep reading t))
  by_handed named (handed.WentUp session y) is tells effects =
      goes_up_to session y tells.side tells.notes tells.shown named effects
  by_handed named (handed.WentDown session) is tells effects =
      goes_down_to session tells.side tells.down effects
  by_handed named (handed.Got m) is tells effects =
      by_up (got_silent from 0 keep reading t kept m is) (hears (tables_of to t) reading).up
      tells.side tells.notes effects

  -- A PACKET is what a packet of a run of moves is
  pub packet_delivers : AreNames (names_hunted P n l) → HasTold (told_by from 0 reading t)
      → DeliversTo (answered P n l to (told_by from 0 reading t) v)
  packet_delivers named effects = by_handed named (handed_by from 0 t.link) refl (record {
    side = events_tell.packets.side from 0 keep reading t kept read;
    notes = events_tell.packets.notes from 0 keep reading t kept read;
    down = events_tell.packets.down from 0 reading t kept;
    shown = events_tell.silence.shown from 0 keep reading t kept;
  }) effects

-- ---- a tick

-- one that isn't lost leaves the record
stays_same : (at : Side) (t : TrunkState) → link_told_by at t.link ≡ ticked.Stays
    → side_of at (ticked_at at t) ≡ side_of at t
stays_same First t is =
    ap (λ told. (near_beat (with_link t (links.near_ticked t.link)) told).first) is
stays_same Second t is =
    ap (λ told.
    (near_beat (with_link (turned t) (links.near_ticked (turned t).link)) told).first) is

module _ (P : List Step) (n : ℕ) (l : LinkNo) (at : Side) (t : TrunkState) (kept : KeepsTrunk t)
    (es : List Effect) where
  abbrev TicksTo : Type 0
  TicksTo = TicksAt P n l (state_of at t) (state_of at (ticked_at at t)) es

  by_ticked : (told : TickedSide) → link_told_by at t.link ≡ told
      → TellsSide (kept_of at t) (kept_of at (ticked_at at t)) (kept_of (other_of at) t)
      (up_of_tick told)
      → es ≡ told_at P n l at t (up_of_tick told) → TicksTo
  by_ticked ticked.Stays is tells effects =
      let same = stays_same at t is in
      ticks_on (record {
        effects = effects;
        side = ap (λ (s : TrunkSide). s.kept) same;
        noted = ap (λ (s : TrunkSide). s.end.tables.noted) same;
        silent = omega (arith, events_tell.silence.tick at t);
      })
  by_ticked (ticked.WentDown session) is tells effects =
      let some = some_of (kept_of at t).now.peer tells.was_up in
      let silence = events_tell.silence.tick_down at t session is in
      loses_it (record {
        y = some.0;
        pair = some.1;
        silence = silence;
        effects = effects ∙ ap (λ x. losing (record { 0 = n }) l x (owed P n)) tells.own;
        begins = record {
          side = tells.kept ∙ ap (λ x. beginning (next_session x) (kept_of at t)) tells.own;
          silent = omega (arith, lost_silent at t session is);
        };
      })

  -- A TICK is what a tick of a run of moves is
  pub tick_ticks : es ≡ told_at P n l at t (up_of_tick (link_told_by at t.link)) → TicksTo
  tick_ticks effects =
      by_ticked (link_told_by at t.link) refl (events_tell.turns.tick at t kept) effects
