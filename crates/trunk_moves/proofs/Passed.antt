-- Packets and ticks are moves, and keep every trunk.
use Rattle.std.proofs.Common.{◌≡◌, ◌<◌, ℕ, suc, Bool, true, false, cond, List, [], ◌∷◌, Option}
use Rattle.std.proofs.Common.{Some, None, length, refl, sym, ◌∙◌, ap, subst, arith, ◌-◌, ◌==◌}
use Rattle.std.proofs.Common.{nat_lt, IsTrue, bytes_eq, eq-eqb}
use Rattle.std.proofs.lemmas.Bool.Decides.{nat_tests}
use Rattle.linx_base.specs.NameText.{is_name}
use Rattle.linx_base.specs.Sides.{other_of}
use Rattle.linx_base.specs.declared.frame.Verdict.{Verdict}
use Rattle.linx_base.specs.declared.frame.Verdict.TheVariants.{Deliver, Lose, Repeat, Swap}
use Rattle.linx_base.specs.declared.identity.Inc.{Inc}
use Rattle.linx_base.specs.declared.identity.LinkNo.{LinkNo}
use Rattle.linx_base.specs.declared.identity.Side.{Side}
use Rattle.linx_base.specs.declared.identity.Side.TheVariants.{First, Second}
use Rattle.rlnh_end.specs.Calls.{publish_of, query_of}
use Rattle.rlnh_end.specs.declared.heard.Heard.{Heard}
use Rattle.trunk_record.specs.Records.{SideRecord}
use Rattle.trunk_record.specs.Sayings.{asked_for, was_unpublished}
use Rattle.carrier.specs.Events.{flight_from, handed_by}
use Rattle.journal.specs.History.{name_of, open_endpoints}
use Rattle.journal.specs.Living.{holder_of}
use Rattle.journal.specs.Shapes.{Shape}
use Rattle.journal.specs.declared.effect.Effect.{Effect}
use Rattle.journal.specs.declared.effect.Step.{Step}
use Rattle.journal.specs.declared.head.Head.TheVariants.{TakeNone, Tick, Wire}
use Rattle.sigsel.specs.declared.sigsel.Sigsel.{Sigsel}
use Rattle.link_laws.specs.Ends.{IsLinkOf, node_at}
use Rattle.link_laws.specs.Moves.{Delivers, IsLeft, IsResting}
use Rattle.link_laws.specs.Laws.{delivers}
use Rattle.link_laws.specs.Moves as moves
use Rattle.link_laws.specs.Sessions.{LosesIfCut}
use Rattle.link_laws.proofs.Endpoints.Names.{bytes_eq-is}
use Rattle.trunk.specs.declared.up.TrunkUp.{TrunkUp}
use Rattle.trunk.specs.declared.up.TrunkUp.TheVariants.{WentUp}
use Rattle.trunk.specs.declared.up.TrunkUp.TheVariants.{Asked}
use Rattle.trunk.specs.Events.{IsReading, TrunkState, asked_at, delivered, kept_of, lost_from}
use Rattle.trunk.specs.Events.{side_of, swapped_from, ticked_at, told_by}
use Rattle.trunk.specs.Keeping.{KeepsTrunk}
use Rattle.trunk.specs.Laws.{MayPublish}
use Rattle.trunk.specs.Tells.{IsGiven, TellsSide}
use Rattle.trunk.proofs.EachEvent.BothSides.{events_keep}
use Rattle.trunk.proofs.EachEvent.Quiet.{quiet}
use Rattle.trunk.proofs.EachEvent.Trunks.{events_tell}
use Rattle.trunk_moves.specs.Grants.{AreNames}
use Rattle.trunk_moves.specs.Packets.{Comes, IsBeat, IsLostThere, IsSwapped, Meets, answered}
use Rattle.trunk_moves.specs.Packets.{asks_for, names_hunted, place_of, publishes_if}
use Rattle.trunk_moves.specs.Steps.{NoneMakes, PacketMakes, Rests, TickMakes}
use Rattle.trunk_moves.specs.Trunks.{Become, RunTrunks, UsesUpTo, links_of, state_of, with_trunk}
use Rattle.trunk_moves.proofs.Calls.{left_itself, left_of, other_left}
use Rattle.trunk_moves.proofs.Facts.{IsKnown, hunted_named, open_may}
use Rattle.trunk_moves.proofs.Moved.{IsMoved, KeepsAt, Uses, stay_kept, stay_used, uses_before}
use Rattle.trunk_moves.proofs.Sides.{all_left, both_left, is_trunk, one_trunk, others_left}
use Rattle.trunk_moves.proofs.Told.{found_there, packet_delivers, tick_ticks}
use Rattle.trunk_moves.proofs.Used.{asked_uses, delivered_uses, published_uses, ticked_uses}
use Rattle.trunk_moves.proofs.Used.{up_to_more, uses_same}

-- ---- what a node does when it is told, across the link

left_then : (side : Side) (t u v : TrunkState) → IsLeft (state_of side t) (state_of side u)
    → IsLeft (state_of side u) (state_of side v) → IsLeft (state_of side t) (state_of side v)
left_then side t u v first second = record {
  side = second.side ∙ first.side;
  noted = second.noted ∙ first.noted;
  silent = omega (arith, first.silent, second.silent);
}

asks_left : (at : Side) (names : List (List ℕ)) (t : TrunkState)
    → IsLeft (state_of (other_of at) t) (state_of (other_of at) (asks_for at names t))
asks_left at [] t = left_itself (other_of at) t
asks_left at (v ∷ names) t =
    left_then (other_of at) t (asked_at at v t) (asks_for at names (asked_at at v t))
    (other_left at (λ s. query_of s v) t) (asks_left at names (asked_at at v t))

publishes_left : (at : Side) (name : List ℕ) (holder : Option Inc) (t : TrunkState)
    → IsLeft (state_of (other_of at) t) (state_of (other_of at) (publishes_if at name holder t))
publishes_left at name None t = left_itself (other_of at) t
publishes_left at name (Some i) t = other_left at (λ s. publish_of s i name) t

module _ (P : List Step) (n : ℕ) (l : LinkNo) (at : Side) where
  answered_left : (up : TrunkUp) (t : TrunkState)
      → IsLeft (state_of (other_of at) t) (state_of (other_of at) (answered P n l at up t))
  answered_left (WentUp session peer) t = asks_left at (names_hunted P n l) t
  answered_left (Asked name) t = publishes_left at name (holder_of P n name) t
  answered_left _ t = left_itself (other_of at) t

-- ---- what it keeps

asks_keep : (at : Side) (names : List (List ℕ)) → AreNames names → (t : TrunkState) → KeepsTrunk t
    → KeepsTrunk (asks_for at names t)
asks_keep at [] named t kept = kept
asks_keep at (v ∷ names) named t kept =
    asks_keep at names named.1 (asked_at at v t) (events_keep.asked at v t named.0 kept)

asks_use : (at : Side) (names : List (List ℕ)) (t : TrunkState) (k : ℕ) → UsesUpTo k t
    → UsesUpTo k (asks_for at names t)
asks_use at [] t k was = was
asks_use at (v ∷ names) t k was =
    asks_use at names (asked_at at v t) k (asked_uses at v t k was)

-- ---- a swap

-- where a packet flies, the place is that of one
place_in : (k count : ℕ) → 0 < count → place_of k count < count
place_in k count flies = by_test (nat_lt k count) refl
  where
    by_test : (t : Bool) → nat_lt k count ≡ t → cond t k (count - 1) < count
    by_test true is = grind (arith, nat_tests)
    by_test false is = omega arith

-- ---- a packet that comes

module _ (shape : Shape) (P : List Step) (before : RunTrunks) (known : IsKnown shape P before)
    (l : LinkNo) (of_shape : IsLinkOf shape l) (from : Side) (keep : Bool) (reading : Heard)
    (read : IsReading (handed_by from 0 (before l.0).link) reading) where
  abbrev to : Side
  to = other_of from

  abbrev n : ℕ
  n = node_at shape l (other_of from)

  abbrev t : TrunkState
  t = before l.0

  abbrev v : TrunkState
  v = delivered from 0 keep reading (before l.0)

  on : (node_at shape l to == n) ≡ true
  on = eq-eqb (node_at shape l to) n refl

  kept : KeepsTrunk t
  kept = known.kept l of_shape

  v_kept : KeepsTrunk v
  v_kept = events_keep.delivered from 0 keep reading t read kept

  v_used : UsesUpTo (length P) v
  v_used = delivered_uses from 0 keep reading t (length P) (known.used l of_shape)

  -- an open endpoint of the name that is asked for may be published
  pub may_answer : (name : List ℕ) → IsGiven (kept_of to t) (kept_of to v) (kept_of from t)
      (asked_for name) → (i : Inc) → holder_of P n name ≡ Some i → MayPublish (side_of to v) i name
  may_answer name given i found =
      let there = found_there (λ j. bytes_eq name (name_of P j)) i (open_endpoints P n) found in
      let may = open_may shape P before known l of_shape to n on i there.0 in
      record {
        has_address =
            let used = v_used to in
            let room = known.room in
            omega arith;
        numbered = may.numbered;
        named = subst (λ w. IsTrue (is_name w)) (sym (bytes_eq-is name (name_of P i) there.1))
            may.named;
        goes_on = ap (λ (D : SideRecord). was_unpublished i D.now.said) given.kept ∙ may.goes_on;
      }

  publishes_keep : (name : List ℕ) → IsGiven (kept_of to t) (kept_of to v) (kept_of from t)
      (asked_for name) → (holder : Option Inc) → holder_of P n name ≡ holder
      → KeepsTrunk (publishes_if to name holder v)
  publishes_keep name given None none = v_kept
  publishes_keep name given (Some i) found =
      events_keep.published to i name v (may_answer name given i found) v_kept

  publishes_use : (name : List ℕ) (holder : Option Inc)
      → UsesUpTo (suc (length P)) (publishes_if to name holder v)
  publishes_use name None = up_to_more (length P) v v_used
  publishes_use name (Some i) = published_uses to i name v (length P) v_used

  answered_keeps : (up : TrunkUp)
      → TellsSide (kept_of to t) (kept_of to v) (kept_of from t) up
      → KeepsTrunk (answered P n l to up v)
  answered_keeps (WentUp session peer) tells =
      asks_keep to (names_hunted P n l) (hunted_named shape P known.sound.legal n l) v v_kept
  answered_keeps (Asked name) tells =
      publishes_keep name tells (holder_of P n name) refl
  answered_keeps _ tells = v_kept

  answered_uses : (up : TrunkUp) → UsesUpTo (suc (length P)) (answered P n l to up v)
  answered_uses (WentUp session peer) =
      up_to_more (length P) (asks_for to (names_hunted P n l) v)
      (asks_use to (names_hunted P n l) v (length P) v_used)
  answered_uses (Asked name) = publishes_use name (holder_of P n name)
  answered_uses _ = up_to_more (length P) v v_used

  abbrev u : TrunkState
  u = answered P n l (other_of from) (told_by from 0 reading (before l.0)) v

  pub u_kept : KeepsTrunk u
  u_kept = answered_keeps (told_by from 0 reading t)
      (events_tell.packets.side from 0 keep reading t kept read)

  pub u_used : UsesUpTo (suc (length P)) u
  u_used = answered_uses (told_by from 0 reading t)

-- the side that it came from is left
from_left : (P : List Step) (n : ℕ) (l : LinkNo) (from : Side) (keep : Bool) (reading : Heard)
    (up : TrunkUp) (t : TrunkState)
    → IsLeft (state_of (other_of (other_of from)) t)
    (state_of (other_of (other_of from))
    (answered P n l (other_of from) up (delivered from 0 keep reading t)))
from_left P n l First keep reading up t =
    left_then First t (delivered First 0 keep reading t)
    (answered P n l Second up (delivered First 0 keep reading t))
    (left_of First t (delivered First 0 keep reading t)
    (events_tell.packets.sender First 0 keep reading t)
    (omega (arith, events_tell.silence.packet_sender First 0 keep reading t)))
    (answered_left P n l Second up (delivered First 0 keep reading t))
from_left P n l Second keep reading up t =
    left_then Second t (delivered Second 0 keep reading t)
    (answered P n l First up (delivered Second 0 keep reading t))
    (left_of Second t (delivered Second 0 keep reading t)
    (events_tell.packets.sender Second 0 keep reading t)
    (omega (arith, events_tell.silence.packet_sender Second 0 keep reading t)))
    (answered_left P n l First up (delivered Second 0 keep reading t))

module _ (shape : Shape) (P : List Step) (before after : RunTrunks) (known : IsKnown shape P before)
    (l : LinkNo) (of_shape : IsLinkOf shape l) (trunk : TrunkState)
    (made : Become shape after (with_trunk before l.0 trunk)) where
  -- one trunk that is kept, and uses no more, among others that stay
  one_kept : KeepsTrunk trunk → (h : LinkNo) → IsLinkOf shape h → KeepsTrunk (after h.0)
  one_kept is = one_trunk shape before after l of_shape trunk made KeepsAt is known.kept

  one_used : UsesUpTo (suc (length P)) trunk → (h : LinkNo) → IsLinkOf shape h
      → UsesUpTo (suc (length P)) (after h.0)
  one_used is = one_trunk shape before after l of_shape trunk made (Uses P) is
      (uses_before shape P before after known)

  -- ---- a packet

  -- what is shown of a packet that is handed over or isn't
  record IsPassed (handed : Bool) (from : Side) (es : List Effect) : Type 0 where
    handed_over : moves.HandsOver handed shape P (links_of before) (links_of after) l from es
    kept : KeepsTrunk trunk
    used : UsesUpTo (suc (length P)) trunk

  comes_passed : (from : Side) (keep : Bool) (es : List Effect)
      → Comes P (node_at shape l (other_of from)) l from keep es (before l.0) trunk
      → IsPassed true from es
  comes_passed from keep es comes =
      let n : ℕ = node_at shape l (other_of from) in
      let t : TrunkState = before l.0 in
      let up : TrunkUp = told_by from 0 comes.heard (before l.0) in
      let u : TrunkState = answered P n l (other_of from) up
      (delivered from 0 keep comes.heard t) in
      let is_u : after l.0 ≡ u = is_trunk shape before after l of_shape trunk made ∙ comes.makes in
      record {
        handed_over = (
          subst (λ (w : TrunkState). Delivers P n l (state_of (other_of from) t)
              (state_of (other_of from) w) (state_of from t) es) (sym is_u)
              (packet_delivers P n l from keep comes.heard t (known.kept l of_shape)
              comes.reading es
              (hunted_named shape P known.sound.legal n l) comes.effects),
          others_left shape before after l of_shape trunk made (other_of from)
              (subst (λ (w : TrunkState). IsLeft (state_of (other_of (other_of from)) t)
              (state_of (other_of (other_of from)) w)) (sym comes.makes)
              (from_left P n l from keep comes.heard up t)),
        );
        kept = subst KeepsTrunk (sym comes.makes)
            (u_kept shape P before known l of_shape from keep comes.heard comes.reading);
        used = subst (UsesUpTo (suc (length P))) (sym comes.makes)
            (u_used shape P before known l of_shape from keep comes.heard comes.reading);
      }

  lost_passed : (from : Side) (es : List Effect) → IsLostThere from es (before l.0) trunk
      → IsPassed false from es
  lost_passed from es lost =
      let t : TrunkState = before l.0 in
      let u : TrunkState = lost_from from 0 (before l.0) in
      record {
        handed_over = (
          lost.effects,
          both_left shape before after l of_shape trunk made (λ side.
              subst (λ (w : TrunkState). IsLeft (state_of side t) (state_of side w))
              (sym lost.makes)
              (left_of side t u (events_tell.packets.lost from side 0 t)
              (omega (arith, events_tell.silence.lost from side 0 t)))),
        );
        kept = subst KeepsTrunk (sym lost.makes)
            (events_keep.lost from 0 t (known.kept l of_shape));
        used = subst (UsesUpTo (suc (length P))) (sym lost.makes)
            (up_to_more (length P) u (λ side. omega (
              arith,
              known.used l of_shape side,
              uses_same side t u (events_tell.packets.lost from side 0 t),
            )));
      }

  swapped_passed : (from : Side) (k : ℕ) (es : List Effect)
      → 0 < length (flight_from from (before l.0).link) → IsSwapped from k es (before l.0) trunk
      → IsPassed false from es
  swapped_passed from k es flies swaps =
      let place : ℕ = place_of k (length (flight_from from (before l.0).link)) in
      let t : TrunkState = before l.0 in
      let u : TrunkState = swapped_from from 0 place (before l.0) in
      record {
        handed_over = (
          swaps.effects,
          both_left shape before after l of_shape trunk made (λ side.
              subst (λ (w : TrunkState). IsLeft (state_of side t) (state_of side w))
              (sym swaps.makes)
              (left_of side t u (events_tell.packets.swapped from side 0 place t)
              (omega (arith, events_tell.silence.swapped from side 0 place t)))),
        );
        kept = subst KeepsTrunk (sym swaps.makes)
            (events_keep.swapped from 0 place t flies
            (place_in k (length (flight_from from (before l.0).link)) flies)
            (known.kept l of_shape));
        used = subst (UsesUpTo (suc (length P))) (sym swaps.makes)
            (up_to_more (length P) u (λ side. omega (
              arith,
              known.used l of_shape side,
              uses_same side t u (events_tell.packets.swapped from side 0 place t),
            )));
      }

  -- ---- a tick

  record IsTicking (side : Side) (es : List Effect) : Type 0 where
    ticks : moves.TicksOver shape P (links_of before) (links_of after) l side es
    kept : KeepsTrunk trunk
    used : UsesUpTo (suc (length P)) trunk

  beat_ticks : (side : Side) (es : List Effect)
      → IsBeat P (node_at shape l side) l side es (before l.0) trunk → IsTicking side es
  beat_ticks side es beat =
      let t : TrunkState = before l.0 in
      let u : TrunkState = ticked_at side (before l.0) in
      let is_u : after l.0 ≡ u = is_trunk shape before after l of_shape trunk made ∙ beat.makes in
      record {
        ticks = record {
          of_shape = of_shape;
          ticked = subst (λ (w : TrunkState). moves.TicksAt P (node_at shape l side) l
              (state_of side t) (state_of side w) es) (sym is_u)
              (tick_ticks P (node_at shape l side) l side t (known.kept l of_shape) es
              beat.effects);
          others = others_left shape before after l of_shape trunk made side
              (subst (λ (w : TrunkState). IsLeft (state_of (other_of side) t)
              (state_of (other_of side) w)) (sym beat.makes)
              (left_of (other_of side) t u (events_tell.turns.tick_other side t)
              (omega (arith, events_tell.silence.tick_other side t))));
        };
        kept = subst KeepsTrunk (sym beat.makes)
            (events_keep.ticked side t (known.kept l of_shape));
        used = subst (UsesUpTo (suc (length P))) (sym beat.makes)
            (up_to_more (length P) u (ticked_uses side t (length P) (known.used l of_shape)));
      }

module _ (shape : Shape) (P : List Step) (before after : RunTrunks) (known : IsKnown shape P before)
    (n : ℕ) (me : Option Inc) where
  pub passing_moved : (l : LinkNo) (from : Side) (verdict : Verdict) (es : List Effect)
      → PacketMakes shape P before after l from verdict es
      → IsMoved shape P before after n me (Wire l from verdict) es
  passing_moved l from verdict es passes = by_verdict verdict passes.cuts passes.meets
    where
      moved : (sort : Verdict) → LosesIfCut P l sort
          → IsPassed shape P before after known l passes.of_shape passes.trunk passes.makes
          (delivers sort) from es → IsMoved shape P before after n me (Wire l from sort) es
      moved sort cuts it = record {
        moves = record {
          of_shape = passes.of_shape;
          cuts = cuts;
          handed = it.handed_over;
        };
        kept = one_kept shape P before after known l passes.of_shape passes.trunk passes.makes
            it.kept;
        used = one_used shape P before after known l passes.of_shape passes.trunk passes.makes
            it.used;
      }

      by_verdict : (sort : Verdict) → LosesIfCut P l sort
          → Meets P (node_at shape l (other_of from)) l from sort es (before l.0) passes.trunk
          → IsMoved shape P before after n me (Wire l from sort) es
      by_verdict Deliver cuts meets =
          moved Deliver cuts (comes_passed shape P before after known l passes.of_shape passes.trunk
          passes.makes from false es meets)
      by_verdict Repeat cuts meets =
          moved Repeat cuts (comes_passed shape P before after known l passes.of_shape passes.trunk
          passes.makes from true es meets)
      by_verdict Lose cuts meets =
          moved Lose cuts (lost_passed shape P before after known l passes.of_shape passes.trunk
          passes.makes from es meets)
      by_verdict (Swap k) cuts meets =
          moved (Swap k) cuts (swapped_passed shape P before after known l passes.of_shape
          passes.trunk passes.makes from k es passes.flies meets)

  pub ticking_moved : (l : LinkNo) (side : Side) (es : List Effect)
      → TickMakes shape P before after l side es → IsMoved shape P before after n me (Tick l side) es
  ticking_moved l side es made =
      let it = beat_ticks shape P before after known l made.of_shape made.trunk made.makes side es
      made.beat in
      record {
        moves = it.ticks;
        kept = one_kept shape P before after known l made.of_shape made.trunk made.makes it.kept;
        used = one_used shape P before after known l made.of_shape made.trunk made.makes it.used;
      }

  -- ---- a receive that finds none

  rests : (l : LinkNo) → IsLinkOf shape l → Rests P l (before l.0)
      → IsResting P l (links_of before l.0 First) (links_of before l.0 Second)
  rests l of_shape (Rests.cut is first second) = IsResting.cut is first second
  rests l of_shape (Rests.quiet is still) =
      IsResting.quiet is (quiet (before l.0) (known.kept l of_shape) still)

  pub finding_moved : (filter : Sigsel) (es : List Effect) → NoneMakes shape P before after
      → IsMoved shape P before after n me (TakeNone filter) es
  finding_moved filter es finds = record {
    moves = record {
      resting = λ l of_shape. rests l of_shape (finds.resting l of_shape);
      left = all_left shape before after finds.makes;
    };
    kept = stay_kept shape P before after known finds.makes;
    used = stay_used shape P before after known finds.makes;
  }
