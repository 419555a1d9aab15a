-- A side goes up or down by a packet, or is lost at a tick.
use Rattle.std.proofs.Common.{◌≡◌, ℕ, ◌<◌, ◌≤◌, true, false, ◌||◌, ◌&&◌, List, [], ◌∷◌, ◌++◌, Some}
use Rattle.std.proofs.Common.{None, refl, sym, ◌∙◌, ap, subst, arith, ◌==◌, bytes_eq}
use Rattle.std.specs.List.{list_any, AllByRecursion}
use Rattle.linx_base.specs.Numbers.{next_session}
use Rattle.linx_base.specs.Sides.{other_of}
use Rattle.linx_base.specs.declared.frame.Verdict.{Verdict}
use Rattle.linx_base.specs.declared.identity.LinkNo.{LinkNo}
use Rattle.linx_base.specs.declared.identity.Session.{Session}
use Rattle.linx_base.specs.declared.identity.Side.{Side}
use Rattle.linx_base.specs.declared.signal.Reason.TheVariants as reasons
use Rattle.trunk_record.specs.Changes.{beginning, going_up, saying}
use Rattle.trunk_record.specs.Records.{SessionRecord, SideRecord, all, has_session}
use Rattle.trunk_record.specs.Sayings.{IsProper, Said}
use Rattle.trunk_record.specs.Trunks.{AllFall, IsBelow, IsHalf}
use Rattle.trunk_record.proofs.Changes.{half_beginning, half_of_beginning, half_of_saying}
use Rattle.trunk_record.proofs.Changes.{half_of_up, half_saying, half_up}
use Rattle.journal.specs.Effects.{notices}
use Rattle.journal.specs.Laws.{KeepsMakers}
use Rattle.linx_base.specs.Pending.{is_of_session}
use Rattle.journal.specs.Pending.{owed}
use Rattle.journal.specs.Shapes.{Shape}
use Rattle.journal.specs.declared.by.By.{By}
use Rattle.journal.specs.declared.effect.Effect.{Effect}
use Rattle.journal.specs.declared.effect.Effect.TheVariants.{Down, Up}
use Rattle.journal.specs.declared.effect.Step.{Step}
use Rattle.journal.specs.declared.head.Head.TheVariants.{Tick, Wire}
use Rattle.journal.proofs.Lists.{all-impl}
use Rattle.link_laws.specs.Brought.{brought_at, goes_down, goes_up}
use Rattle.link_laws.specs.Ends.{IsLinkOf, node_at}
use Rattle.link_laws.specs.Sides.{AllLinked, Links, records_of}
use Rattle.link_laws.specs.Laws.{IsLegalStep, delivers}
use Rattle.link_laws.specs.Linked.{IsLinked, is_hunted}
use Rattle.link_laws.specs.Moves.{Begins, GoesDown, GoesUp, IsAfter, IsLost, OthersLeft, questions}
use Rattle.link_laws.specs.Sessions.{is_cut, silent_ticks, tells_heard}
use Rattle.link_laws.proofs.AllLinks.Answers.{asks_linked, asks_opened}
use Rattle.link_laws.proofs.Sides.Untouched.{touches}
use Rattle.link_laws.proofs.AllLinks.Turns.{whole_down, whole_up}
use Rattle.link_laws.proofs.Sides.WordsAfterStep.{IsDone, any-done, opened-items}
use Rattle.link_laws.proofs.Moves.Shown.{IsGood, IsKnown, step_of}
use Rattle.link_laws.proofs.Hunts.EachStep.{hunted_beginning}
use Rattle.link_laws.proofs.Hunts.ManySides.{back_half, none-some}
use Rattle.link_laws.proofs.Hunts.OneSide.{hunted_up}
use Rattle.link_laws.proofs.Legal.{lost_step}
use Rattle.link_laws.proofs.Moves.Givings.{zero_under}
use Rattle.link_laws.proofs.AllLinks.OneSideKept.{one_hunted, one_kept, raises-none, silence-side}
use Rattle.link_laws.proofs.AllLinks.OneSideKept.{tells-items, tells-none}
use Rattle.link_laws.proofs.Promises.OfPackets.{promised_down, promised_up}
use Rattle.link_laws.proofs.AllLinks.Publishings.{opened_beginning, opened_up}
use Rattle.link_laws.proofs.AllLinks.QuietSteps.{lost_legal, whole_lost}
use Rattle.link_laws.proofs.AllLinks.OthersStay.{IsElsewhere, notices-items, with_side}

-- the next session is above all of a side
pub next-above : (A : SideRecord) → AllFall (all A)
    → AllByRecursion (IsBelow (next_session A.now.session)) (all A)
next-above A rising = (
  omega arith,
  all-impl (IsBelow A.now.session) (IsBelow (next_session A.now.session)) (λ e under. more e under)
      A.earlier rising.0,
)
  where
    more : (e : SessionRecord) → IsBelow A.now.session e → IsBelow (next_session A.now.session) e
    more e under = omega arith

-- questions are proper
questions-proper : (names : List (List ℕ)) (said : List Said) → IsProper said
    → IsProper (questions names ++ said)
questions-proper [] said proper = proper
questions-proper (v ∷ names) said proper = questions-proper names said proper

module _ (shape : Shape) (P : List Step) (before after : Links) (known : IsKnown shape P before)
    (by : By) (l : LinkNo) (from : Side) (verdict : Verdict) (of_shape : IsLinkOf shape l)
    (uncut : is_cut P l.0 ≡ false) (hands : delivers verdict ≡ true)
    (maker : KeepsMakers shape P by (Wire l from verdict))
    (others : OthersLeft shape before after l (other_of from)) where
  abbrev n : ℕ
  n = node_at shape l (other_of from)

  abbrev m : ℕ
  m = node_at shape l from

  abbrev A : SideRecord
  A = (before l.0 (other_of from)).side

  abbrev B : SideRecord
  B = (before l.0 from).side

  abbrev E : SideRecord
  E = (before l.0 (other_of (other_of from))).side

  half : IsHalf A E
  half = known.kept.trunks l of_shape (other_of from)

  back : IsHalf E A
  back = back_half shape (records_of before) known.kept.trunks l of_shape (other_of from)

  near : IsLinked P n l A
  near = known.kept.linked l of_shape (other_of from)

  far : IsLinked P m l B
  far = known.kept.linked l of_shape from

  -- effects that are this side's tell no other side that it heard
  heard_elsewhere : (s : Step) (e : Effect) (items : List Effect) → IsDone s (e ∷ []) items
      → ((k h : ℕ) → touches k h e ≡ ((n == k) && (l.0 == h))) → (h : LinkNo) (side : Side)
      → IsElsewhere shape l (other_of from) h side
      → list_any (tells_heard (node_at shape h side) h.0) s.effects ≡ false
  heard_elsewhere s e items done its h side apart =
      tells-none s (e ∷ []) items done (node_at shape h side) h.0
      (ap (λ t. t || false) (its (node_at shape h side) h.0 ∙ apart))

  -- A SIDE GOES UP and asks for names
  module _ (y : Session) (names : List (List ℕ)) where
    abbrev up_step : Step
    up_step = step_of by (Wire l from verdict) (brought_at P n l (goes_up A.now.session y))

    abbrev asking : SideRecord
    asking = saying (questions names) (going_up y A)

    goes_up_good : A.now.peer ≡ None → list_any (has_session y) (all B) ≡ true
        → AllByRecursion (IsAfter y) (all A)
        → ((v : List ℕ) → is_hunted P n l v ≡ true → list_any (bytes_eq v) names ≡ true)
        → (after l.0 (other_of from)).side ≡ saying (questions names) (going_up y A)
        → (after l.0 (other_of from)).noted ≡ [] → (after l.0 (other_of from)).silent ≡ 0
        → IsGood shape P up_step after
    goes_up_good down has forward asks_all made noted heard = record {
      legal = up.0;
      kept = one_kept shape P up_step before after l (other_of from) known.two of_shape others
          known.kept asking (record {
            made = made;
            near = half_saying (going_up y A) E (questions names) (half_up A E y half down)
                (questions-proper names A.now.said half.proper.0)
                (λ none. none-some (sym none));
            far = half_of_saying (going_up y A) E (questions names) (half_of_up A E y back down);
            linked = asks_linked shape (up_step ∷ P) (records_of before) l (other_of from) of_shape
                (going_up y A) names up.1;
            opened = asks_opened shape (up_step ∷ P) (records_of before) l (other_of from) of_shape
                (going_up y A) names (opened_up shape P (records_of before) up_step
                known.kept.opened l (other_of from) known.two of_shape y refl
                (half.empty.0 down).0 half.rising.0);
            hunted = one_hunted shape P up_step before after l (other_of from) known.two of_shape
                others known.kept
                (hunted_up shape P before up_step
                (record { begins_none = λ k h w. refl; opens_none = refl }) known.kept.hunted l
                (other_of from) of_shape (after l.0 (other_of from)) y names asks_all down
                (half.empty.0 down).0 (half.empty.0 down).1 back (half_up A E y half down)
                (half_of_up A E y back down) made noted);
            silent = zero_under (after l.0 (other_of from)).silent
                (silent_ticks (up_step ∷ P) n l.0 (other_of from)) heard;
            quiet = heard_elsewhere up_step (Up (record { 0 = n }) l A.now.session y) []
                (record { effects = refl; items_only = tt }) (λ k h. refl);
          });
      promised = promised_up P n m l A B near far y forward;
    }
      where
        up : IsLegalStep shape P up_step × AllLinked shape (up_step ∷ P)
            (with_side (records_of before) l.0 (other_of from) (going_up y A))
        up = whole_up shape P (records_of before) by l from verdict known.two of_shape
            known.kept.linked maker hands uncut y down (half.empty.0 down).1 has

  pub up_good : (es : List Effect) → GoesUp P n l (before l.0 (other_of from))
      (after l.0 (other_of from)) (before l.0 from) es
      → IsGood shape P (step_of by (Wire l from verdict) es) after
  up_good es up =
      subst (λ (fs : List Effect). IsGood shape P (step_of by (Wire l from verdict) fs) after)
      (sym up.effects)
      (goes_up_good up.y up.names up.down up.other_has up.forward up.asks_all up.side up.noted
      up.silent)

  -- A SIDE GOES DOWN
  abbrev down_step : Step
  down_step = step_of by (Wire l from verdict) (brought_at P n l (goes_down A.now.session))

  abbrev told_lost : List Effect
  told_lost = notices reasons.Lost (is_of_session l A.now.session) (owed P n)

  down_done : IsDone down_step (Down (record { 0 = n }) l A.now.session ∷ []) told_lost
  down_done = record {
    effects = refl;
    items_only = notices-items reasons.Lost (is_of_session l A.now.session) (owed P n);
  }

  goes_down_good : (y : Session) → A.now.peer ≡ Some y → y.0 < B.now.session.0
      → Begins (next_session A.now.session) (before l.0 (other_of from))
      (after l.0 (other_of from)) → IsGood shape P down_step after
  goes_down_good y pair passed begins = record {
    legal = down.0;
    kept = one_kept shape P down_step before after l (other_of from) known.two of_shape others
        known.kept (beginning (next_session A.now.session) A) (record {
          made = begins.side;
          near = half_beginning A E (next_session A.now.session) half above;
          far = half_of_beginning A E (next_session A.now.session) back above;
          linked = down.1;
          opened = opened_beginning shape P (records_of before) down_step known.kept.opened l
              (other_of from) known.two of_shape (next_session A.now.session)
              (raises-none down_step (Down (record { 0 = n }) l A.now.session ∷ []) told_lost
              down_done (λ k h x. refl));
          hunted = one_hunted shape P down_step before after l (other_of from) known.two of_shape
              others known.kept
              (hunted_beginning shape P before down_step (record {
                begins_none = λ k h w. refl;
                opens_none = opened-items told_lost down_done.items_only;
              }) known.kept.hunted l (other_of from) of_shape (after l.0 (other_of from))
              (next_session A.now.session) begins.side);
          silent = silence-side P down_step n l.0 (other_of from)
              (before l.0 (other_of from)).silent (after l.0 (other_of from)).silent
              (known.kept.silent l of_shape (other_of from)) begins.silent
              (any-done (tells_heard n l.0) (tells-items n l.0) down_step
              (Down (record { 0 = n }) l A.now.session ∷ []) told_lost down_done);
          quiet = heard_elsewhere down_step (Down (record { 0 = n }) l A.now.session) told_lost
              down_done (λ k h. refl);
        });
    promised = promised_down P n m l A B near far A.now.session;
  }
    where
      above : AllByRecursion (IsBelow (next_session A.now.session)) (all A)
      above = next-above A half.rising

      down : IsLegalStep shape P down_step × AllLinked shape (down_step ∷ P)
          (with_side (records_of before) l.0 (other_of from)
          (beginning (next_session A.now.session) A))
      down = whole_down shape P (records_of before) by l from verdict known.two of_shape
          known.kept.linked maker hands uncut y pair passed above

  pub down_good : (es : List Effect) → GoesDown P n l (before l.0 (other_of from))
      (after l.0 (other_of from)) (before l.0 from) es
      → IsGood shape P (step_of by (Wire l from verdict) es) after
  down_good es down =
      subst (λ (fs : List Effect). IsGood shape P (step_of by (Wire l from verdict) fs) after)
      (sym down.effects) (goes_down_good down.y down.pair down.passed down.begins)

-- A SIDE IS LOST at its third tick in silence
module _ (shape : Shape) (P : List Step) (before after : Links) (known : IsKnown shape P before)
    (by : By) (l : LinkNo) (side : Side) (of_shape : IsLinkOf shape l)
    (maker : KeepsMakers shape P by (Tick l side)) (others : OthersLeft shape before after l side)
  where
    abbrev k : ℕ
    k = node_at shape l side

    abbrev X : SideRecord
    X = (before l.0 side).side

    abbrev Y : SideRecord
    Y = (before l.0 (other_of side)).side

    abbrev lost : Step
    lost = lost_step shape P by l side X.now.session

    abbrev lost_items : List Effect
    lost_items = notices reasons.Lost (is_of_session l X.now.session) (owed P k)

    lost_done : IsDone lost (Down (record { 0 = k }) l X.now.session ∷ []) lost_items
    lost_done = record {
      effects = refl;
      items_only = notices-items reasons.Lost (is_of_session l X.now.session) (owed P k);
    }

    lost_good : (y : Session) → X.now.peer ≡ Some y → 2 ≤ (before l.0 side).silent
        → Begins (next_session X.now.session) (before l.0 side) (after l.0 side)
        → IsGood shape P lost after
    lost_good y pair silence begins = record {
      legal = lost_legal shape P (records_of before) by l side known.two of_shape
          known.kept.linked y maker pair
          (let under = known.kept.silent l of_shape side in omega arith);
      kept = one_kept shape P lost before after l side known.two of_shape others known.kept
          (beginning (next_session X.now.session) X) (record {
            made = begins.side;
            near = half_beginning X Y (next_session X.now.session) half above;
            far = half_of_beginning X Y (next_session X.now.session)
                (back_half shape (records_of before) known.kept.trunks l of_shape side) above;
            linked = whole_lost shape P (records_of before) by l side known.two of_shape
                known.kept.linked y pair above;
            opened = opened_beginning shape P (records_of before) lost known.kept.opened l side
                known.two of_shape (next_session X.now.session)
                (raises-none lost (Down (record { 0 = k }) l X.now.session ∷ []) lost_items
                lost_done (λ n h x. refl));
            hunted = one_hunted shape P lost before after l side known.two of_shape others
                known.kept (hunted_beginning shape P before lost (record {
                  begins_none = λ n h w. refl;
                  opens_none = opened-items lost_items lost_done.items_only;
                }) known.kept.hunted l side of_shape (after l.0 side) (next_session X.now.session)
                begins.side);
            silent = silence-side P lost k l.0 side (before l.0 side).silent (after l.0 side).silent
                (known.kept.silent l of_shape side) begins.silent
                (any-done (tells_heard k l.0) (tells-items k l.0) lost
                (Down (record { 0 = k }) l X.now.session ∷ []) lost_items lost_done);
            quiet = λ h at apart. tells-none lost (Down (record { 0 = k }) l X.now.session ∷ [])
                lost_items lost_done (node_at shape h at) h.0 (ap (λ t. t || false) apart);
          });
      promised = tt;
    }
      where
        half : IsHalf X Y
        half = known.kept.trunks l of_shape side

        above : AllByRecursion (IsBelow (next_session X.now.session)) (all X)
        above = next-above X half.rising

    pub losing_good : (es : List Effect) → IsLost P k l (before l.0 side) (after l.0 side) es
        → IsGood shape P (step_of by (Tick l side) es) after
    losing_good es it =
        subst (λ (fs : List Effect). IsGood shape P (step_of by (Tick l side) fs) after)
        (sym it.effects) (lost_good it.y it.pair it.silence it.begins)
