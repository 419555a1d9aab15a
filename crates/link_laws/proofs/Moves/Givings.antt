-- A packet that gives a side something: a meeting, an arrival, a freed signal, a parting, or a
-- question, which is noted or answered.
use Rattle.std.proofs.Common.{◌≡◌, ℕ, ◌≤◌, Bool, true, false, cond, ◌&&◌, inl, inr, List, [], ◌∷◌}
use Rattle.std.proofs.Common.{map, refl, sym, ◌∙◌, ap, subst, arith, bytes_eq, eq-eqb, true≢false}
use Rattle.std.specs.List.{list_any}
use Rattle.std.proofs.lemmas.Bool.{false_from_ne_true, or_left}
use Rattle.linx_base.specs.Peers.{same_inc}
use Rattle.linx_base.specs.Sides.{other_of}
use Rattle.linx_base.specs.declared.frame.Verdict.{Verdict}
use Rattle.linx_base.specs.declared.identity.Inc.{Inc}
use Rattle.linx_base.specs.declared.identity.LinkNo.{LinkNo}
use Rattle.linx_base.specs.declared.identity.Peer.TheVariants.{Here, There}
use Rattle.linx_base.specs.declared.identity.Side.{Side}
use Rattle.trunk_record.specs.Changes.{giving, saying}
use Rattle.trunk_record.specs.Records.{SideRecord, given_in, session_if}
use Rattle.trunk_record.specs.Sayings.{Given, Said, arrived, asked_for, freed, gone, heard_as}
use Rattle.trunk_record.specs.Sayings.{is_live, met, published, was_published}
use Rattle.trunk_record.specs.Trunks.{FitsReceiver, IsHalf}
use Rattle.trunk_record.proofs.Changes.{half_giving, half_of_giving, half_of_saying}
use Rattle.trunk_record.proofs.Lookups.{given-now}
use Rattle.trunk_record.proofs.Sayings.{published-live, same_inc-itself}
use Rattle.journal.specs.History.{name_in, name_of, name_or_none, opening_name}
use Rattle.journal.specs.Laws.{KeepsMakers}
use Rattle.journal.specs.Living.{is_alive}
use Rattle.journal.specs.Shapes.{Shape}
use Rattle.journal.specs.declared.by.By.{By}
use Rattle.journal.specs.declared.effect.Effect.{Effect}
use Rattle.journal.specs.declared.effect.Step.{Step}
use Rattle.journal.specs.declared.head.Head.TheVariants.{Wire}
use Rattle.link_laws.specs.Brought.{brought_at}
use Rattle.link_laws.specs.Ends.{IsLinkOf, node_at}
use Rattle.link_laws.specs.Sides.{AllHunted, AllLinked, AllPublishedOpen, Links, SideState}
use Rattle.link_laws.specs.Sides.{records_of}
use Rattle.link_laws.specs.Laws.{IsLegalStep, delivers}
use Rattle.link_laws.specs.Linked.{HasNone, IsLinked, asks, is_session, offers}
use Rattle.link_laws.specs.Moves.{IsRecorded, IsTold, KeepsNotes, NotesName, OthersLeft}
use Rattle.link_laws.specs.Moves.{PacketGives, Receives, brought_of, notes, publishes}
use Rattle.link_laws.specs.Promises.{ups}
use Rattle.link_laws.specs.Sessions.{LosesIfCut, is_cut, silent_ticks, tells_heard}
use Rattle.link_laws.proofs.AllLinks.Answers.{offers_linked, offers_opened}
use Rattle.link_laws.proofs.Sides.Brings.{legal_meeting}
use Rattle.link_laws.proofs.Endpoints.Closings.{open-unclosed}
use Rattle.link_laws.proofs.Sides.WordsAfterStep.{IsDone}
use Rattle.link_laws.proofs.Endpoints.Fresh.{brought-opens_none}
use Rattle.link_laws.proofs.Moves.Shown.{IsGood, IsKnown, opens-nothing, short_after, step_of}
use Rattle.link_laws.proofs.Moves.Shown.{unfound_before}
use Rattle.link_laws.proofs.Hunts.EachStep.{IsCalm, hunted_giving}
use Rattle.link_laws.proofs.Hunts.ManySides.{back_half, none-some}
use Rattle.link_laws.proofs.Hunts.OneSide.{hunted_meeting, hunted_noting, hunted_offering}
use Rattle.link_laws.proofs.Peers.Living.{open-not_unpublished}
use Rattle.link_laws.proofs.Moves.OneSideSays.{SaysWell, says_half}
use Rattle.link_laws.proofs.AllLinks.OneSideKept.{one_hunted, one_kept, raises-none, tells-none}
use Rattle.link_laws.proofs.Endpoints.OpenAfterStep.{open-more, opened-any}
use Rattle.link_laws.proofs.AllLinks.Packets.{IsGiven, given-done, given_at, given_here}
use Rattle.link_laws.proofs.AllLinks.Packets.{kept_giving, legal_giving, quiet_given}
use Rattle.link_laws.proofs.Promises.OfPackets.{promised_giving}
use Rattle.link_laws.proofs.AllLinks.Publishings.{RaisesNone, opened_giving}
use Rattle.link_laws.proofs.AllLinks.OthersStay.{IsElsewhere, other_twice, shown-away, with_side}
use Rattle.link_laws.proofs.AllLinks.OthersStay.{with_state, shown_by}
use Rattle.link_laws.proofs.Hunts.UnfoundPeers.{unfound}

-- while its link is cut no packet is handed over
pub whole_link : (P : List Step) (l : LinkNo) (verdict : Verdict)
    → LosesIfCut P l verdict → delivers verdict ≡ true → is_cut P l.0 ≡ false
whole_link P l verdict cuts hands = false_from_ne_true (is_cut P l.0) (λ cut.
    true≢false (sym hands ∙ ap delivers (cuts cut)))

pub zero_under : (now most : ℕ) → now ≡ 0 → now ≤ most
zero_under now most is = omega arith

module _ (shape : Shape) (P : List Step) (before after : Links) (known : IsKnown shape P before)
    (by : By) (l : LinkNo) (from : Side) (verdict : Verdict) (of_shape : IsLinkOf shape l)
    (uncut : is_cut P l.0 ≡ false) (hands : delivers verdict ≡ true)
    (maker : KeepsMakers shape P by (Wire l from verdict))
    (others : OthersLeft shape before after l (other_of from)) where
  abbrev n : ℕ
  n = node_at shape l (other_of from)

  abbrev m : ℕ
  m = node_at shape l from

  abbrev C : SideState
  C = before l.0 (other_of from)

  abbrev A : SideRecord
  A = (before l.0 (other_of from)).side

  abbrev B : SideRecord
  B = (before l.0 from).side

  half : IsHalf A B
  half = back_half shape (records_of before) known.kept.trunks l of_shape from

  back : IsHalf B A
  back = known.kept.trunks l of_shape from

  near : IsLinked P n l A
  near = known.kept.linked l of_shape (other_of from)

  far : IsLinked P m l B
  far = known.kept.linked l of_shape from

  -- the side across the receiving one is the sender's
  across : (Holds : SideRecord → Type 0) → Holds B
      → Holds (before l.0 (other_of (other_of from))).side
  across Holds it = subst (λ (a : Side). Holds (before l.0 a).side) (sym (other_twice from)) it

  -- WHAT IS GIVEN, as the trunk tells it
  module _ (g : Given) (told : IsTold A B g) (fits : FitsReceiver A g) where
    abbrev es : List Effect
    es = brought_at P n l (brought_of A g)

    abbrev s : Step
    s = step_of by (Wire l from verdict) es

    given : IsGiven A B g
    given = record {
      fits = fits;
      near = half_giving A B g told.y told.later half told.pair told.back told.said fits;
      far = half_of_giving A B g back;
    }

    given_legal : IsLegalStep shape P s
    given_legal = legal_giving shape P (records_of before) by l from verdict g known.two of_shape
        known.kept.linked maker hands uncut given

    given_linked : AllLinked shape (s ∷ P)
        (with_side (records_of before) l.0 (other_of from) (giving g A))
    given_linked = kept_giving shape P (records_of before) by l from verdict g known.two of_shape
        known.kept.linked maker hands uncut given

    raises : RaisesNone s
    raises =
        let done = given-done P n l A g s refl in
        raises-none s (shown_by (record { 0 = n }) l A.now.session g) done.0 done.1
        (λ k h x. quiet_given (ups k h x) (λ i q name. refl) (λ b q note. refl)
        (λ i q. refl) (record { 0 = n }) l A.now.session g)

    given_opened : AllPublishedOpen shape (s ∷ P)
        (with_side (records_of before) l.0 (other_of from) (giving g A))
    given_opened = opened_giving shape P (records_of before) s known.kept.opened l (other_of from)
        known.two of_shape g raises

    calm : IsCalm P s
    calm = record {
      begins_none = λ k h w. refl;
      opens_none = brought-opens_none P n l (brought_of A g);
    }

    heard_elsewhere : (h : LinkNo) (side : Side) → IsElsewhere shape l (other_of from) h side
        → list_any (tells_heard (node_at shape h side) h.0) s.effects ≡ false
    heard_elsewhere h side apart =
        let done = given-done P n l A g s refl in
        tells-none s (shown_by (record { 0 = n }) l A.now.session g) done.0 done.1
        (node_at shape h side) h.0
        (shown-away n (node_at shape h side) l h A.now.session g
        (given_at shape P (records_of before) by l from verdict g known.two of_shape
        known.kept.linked maker hands uncut given g fits) apart)

    -- what the side is afterwards, by what it says in answer
    good : (A' : SideRecord) → (after l.0 (other_of from)).side ≡ A' → IsHalf A' B → IsHalf B A'
        → AllLinked shape (s ∷ P) (with_side (records_of before) l.0 (other_of from) A')
        → AllPublishedOpen shape (s ∷ P) (with_side (records_of before) l.0 (other_of from) A')
        → AllHunted shape (s ∷ P)
        (with_state before l.0 (other_of from) (after l.0 (other_of from)))
        → (after l.0 (other_of from)).silent ≡ 0 → IsGood shape P s after
    good A' made near_half far_half linked opened hunted heard = record {
      legal = given_legal;
      kept = one_kept shape P s before after l (other_of from) known.two of_shape others known.kept
          A' (record {
            made = made;
            near = across (λ (E : SideRecord). IsHalf A' E) near_half;
            far = across (λ (E : SideRecord). IsHalf E A') far_half;
            linked = linked;
            opened = opened;
            hunted = one_hunted shape P s before after l (other_of from) known.two of_shape others
                known.kept hunted;
            silent = zero_under (after l.0 (other_of from)).silent
                (silent_ticks (s ∷ P) n l.0 (other_of from)) heard;
            quiet = heard_elsewhere;
          });
      promised = promised_giving P n m l A B near far g given.near
          (known.kept.opened l of_shape from);
    }

    -- ANYTHING BUT A QUESTION changes the record alone
    abbrev Hunted : Type 0
    Hunted = AllHunted shape (s ∷ P)
        (with_state before l.0 (other_of from) (after l.0 (other_of from)))

    recorded : IsRecorded g C (after l.0 (other_of from)) → Hunted
        → (after l.0 (other_of from)).silent ≡ 0 → IsGood shape P s after
    recorded it hunted heard = good (giving g A) it.side given.near given.far given_linked
        given_opened hunted heard

    hunts_same : ((w : List ℕ) → offers w (heard_as g) ≡ false)
        → ((w : List ℕ) → asks w (heard_as g) ≡ false)
        → IsRecorded g C (after l.0 (other_of from)) → Hunted
    hunts_same offers_none asks_none it =
        hunted_giving shape P before s calm known.kept.hunted l (other_of from) of_shape
        (after l.0 (other_of from)) g offers_none asks_none it.side it.noted

  -- A MEETING: hunts for the name are answered, since else one would be pending for a living peer
  meeting_good : (a : Inc) (name : List ℕ) (told : IsTold A B (met a name))
      → IsRecorded (met a name) C (after l.0 (other_of from))
      → (after l.0 (other_of from)).silent ≡ 0
      → IsGood shape P (s (met a name) told tt) after
  meeting_good a name told it heard =
      recorded (met a name) told tt it
      (hunted_meeting shape P before (s (met a name) told tt) (calm (met a name) told tt)
      known.kept.hunted l (other_of from) of_shape (after l.0 (other_of from)) a name
      (λ w is. sym (ap (bytes_eq w) named) ∙ unfound shape (s (met a name) told tt ∷ P)
      (known.legal, given_legal (met a name) told tt)
      (short_after shape P before (s (met a name) told tt) known) n l w is A.now.session a alive)
      it.side it.noted) heard
    where
      here : IsLinked (s (met a name) told tt ∷ P) n l (giving (met a name) A)
      here = given_here shape P (records_of before) by l from verdict (met a name) known.two
          of_shape known.kept.linked maker hands uncut (given (met a name) told tt)

      alive : is_alive (s (met a name) told tt ∷ P) n (There l A.now.session a) ≡ true
      alive =
          here.living A.now.session a
          ∙ ap (λ p. is_session A.now.session (session_if p A.now.session) && is_live a
          (map heard_as (given_in (giving (met a name) A) A.now.session))) told.pair
          ∙ ap (λ t. t && is_live a (map heard_as (given_in (giving (met a name) A)
          A.now.session))) (eq-eqb A.now.session.0 A.now.session.0 refl)
          ∙ ap (λ gs. is_live a (map heard_as gs)) (given-now (giving (met a name) A))
          ∙ or_left (same_inc a a) (is_live a (map heard_as A.now.given)) (same_inc-itself a)

      named : name_of (s (met a name) told tt ∷ P) a ≡ name
      named =
          let not_opened = sym (opened-any a (es (met a name) told tt))
          ∙ ap (list_any (same_inc a)) (brought-opens_none P n l (brought_of A (met a name))) in
          ap (λ t. name_or_none (cond t (name_in (Wire l from verdict)) (opening_name P a)))
          not_opened
          ∙ (legal_meeting P n m l A B (met a name) near far (given (met a name) told tt).near
          (given (met a name) told tt).far a name refl).named

  -- A QUESTION brings nothing that is shown
  module _ (v : List ℕ) (told : IsTold A B (asked_for v)) where
    abbrev q : Step
    q = step_of by (Wire l from verdict) []

    noting_good : HasNone P n v → (after l.0 (other_of from)).side ≡ giving (asked_for v) A
        → NotesName v C (after l.0 (other_of from)) → (after l.0 (other_of from)).silent ≡ 0
        → IsGood shape P q after
    noting_good none made noted heard =
        good (asked_for v) told tt (giving (asked_for v) A) made (given (asked_for v) told tt).near
        (given (asked_for v) told tt).far (given_linked (asked_for v) told tt)
        (given_opened (asked_for v) told tt)
        (hunted_noting shape P before q (calm (asked_for v) told tt) known.kept.hunted l
        (other_of from) of_shape (after l.0 (other_of from)) v none made noted) heard

    offering_good : (i : Inc) → is_alive P n (Here i) ≡ true → name_of P i ≡ v
        → (after l.0 (other_of from)).side
        ≡ saying (cond (is_live i A.now.said) [] (published i v ∷ [])) (giving (asked_for v) A)
        → KeepsNotes v C (after l.0 (other_of from)) → (after l.0 (other_of from)).silent ≡ 0
        → IsGood shape P q after
    offering_good i open_ named made noted heard =
        good (asked_for v) told tt (saying ws (giving (asked_for v) A)) made
        (says_half (giving (asked_for v) A) B ws (well (is_live i A.now.said) refl)
        (given (asked_for v) told tt).near)
        (half_of_saying (giving (asked_for v) A) B ws (given (asked_for v) told tt).far)
        (offers_linked shape (q ∷ P) (records_of before) l (other_of from) of_shape
        (giving (asked_for v) A) i v (is_live i A.now.said) open_after_ named_after
        (given_linked (asked_for v) told tt))
        (offers_opened shape (q ∷ P) (records_of before) l (other_of from) of_shape
        (giving (asked_for v) A) i v (is_live i A.now.said)
        (open-unclosed shape (q ∷ P) (known.legal, given_legal (asked_for v) told tt)
        (short_after shape P before q known) n i open_after_)
        (given_opened (asked_for v) told tt))
        (hunted_offering shape P before q (calm (asked_for v) told tt) known.kept.hunted l
        (other_of from) of_shape (after l.0 (other_of from)) v i open_ named near
        (known.kept.linked l of_shape (other_of (other_of from)))
        (λ w is. unfound_before shape P before known (node_at shape l (other_of (other_of from))) l
        w is)
        (known.kept.trunks l of_shape (other_of from))
        (back_half shape (records_of before) known.kept.trunks l of_shape (other_of from))
        (across (λ (E : SideRecord). IsHalf (giving (asked_for v) A) E)
        (given (asked_for v) told tt).near)
        (across (λ (E : SideRecord). IsHalf E (giving (asked_for v) A))
        (given (asked_for v) told tt).far) made noted) heard
      where
        ws : List Said
        ws = cond (is_live i A.now.said) [] (published i v ∷ [])

        done : IsDone (step_of by (Wire l from verdict) []) [] []
        done = record { effects = refl; items_only = tt }

        open_after_ : is_alive (step_of by (Wire l from verdict) [] ∷ P) n (Here i) ≡ true
        open_after_ = open-more P (step_of by (Wire l from verdict) []) [] [] done n
            (opens-nothing P [] refl) i open_ refl

        named_after : name_of (step_of by (Wire l from verdict) [] ∷ P) i ≡ v
        named_after = named

        well : (t : Bool) → is_live i A.now.said ≡ t
            → SaysWell (giving (asked_for v) A) (cond t [] (published i v ∷ []))
        well true e = inl refl
        well false e = inr (
          (λ down. none-some (sym down ∙ told.pair)),
          (
            false_from_ne_true (was_published i A.now.said) (λ was.
                true≢false (sym (published-live i A.now.said was
                (open-not_unpublished P n l A near i open_)) ∙ e)),
            half.proper.0,
          ),
        )

  -- ANYTHING GIVEN, with the effects that it brings
  by_given : (g : Given) (told : IsTold A B g) (fits : FitsReceiver A g)
      → Receives P n g C (after l.0 (other_of from)) → (after l.0 (other_of from)).silent ≡ 0
      → IsGood shape P (s g told fits) after
  by_given (met a name) told fits it heard = meeting_good a name told it heard
  by_given (asked_for v) told fits (notes none made noted) heard =
      noting_good v told none made noted heard
  by_given (asked_for v) told fits (publishes i open_ named made noted) heard =
      offering_good v told i open_ named made noted heard
  by_given (arrived a b note) told fits it heard =
      recorded (arrived a b note) told fits it
      (hunts_same (arrived a b note) told fits (λ w. refl) (λ w. refl) it) heard
  by_given (freed a b note) told fits it heard =
      recorded (freed a b note) told fits it
      (hunts_same (freed a b note) told fits (λ w. refl) (λ w. refl) it) heard
  by_given (gone a) told fits it heard =
      recorded (gone a) told fits it (hunts_same (gone a) told fits (λ w. refl) (λ w. refl) it)
      heard

  pub giving_good : (brought : List Effect) → PacketGives P n l C (after l.0 (other_of from))
      (before l.0 from) brought
      → IsGood shape P (step_of by (Wire l from verdict) brought) after
  giving_good brought gives =
      subst (λ (fs : List Effect). IsGood shape P (step_of by (Wire l from verdict) fs) after)
      (sym gives.effects) (by_given gives.g gives.told gives.fits gives.receives gives.silent)
