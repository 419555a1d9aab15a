-- A session that goes up or down by a packet, over all links of a run.
use Rattle.std.proofs.Common.{◌≡◌, ℕ, ◌<◌, true, false, ◌||◌, ◌&&◌, List, [], ◌∷◌, Some, None, refl}
use Rattle.std.proofs.Common.{ap, ◌==◌}
use Rattle.std.specs.List.{list_any, AllByRecursion}
use Rattle.linx_base.specs.Numbers.{next_session}
use Rattle.linx_base.specs.Sides.{other_of}
use Rattle.linx_base.specs.declared.frame.Verdict.{Verdict}
use Rattle.linx_base.specs.declared.identity.Inc.{Inc}
use Rattle.linx_base.specs.declared.identity.LinkNo.{LinkNo}
use Rattle.linx_base.specs.declared.identity.Session.{Session}
use Rattle.linx_base.specs.declared.identity.Side.{Side}
use Rattle.trunk_record.specs.Changes.{going_up, beginning}
use Rattle.trunk_record.specs.Records.{SideRecord, all, has_session}
use Rattle.trunk_record.specs.Trunks.{IsBelow}
use Rattle.journal.specs.Effects.{notices}
use Rattle.journal.specs.History.{endpoint_by, closes, opens}
use Rattle.journal.specs.Laws.{KeepsMakers}
use Rattle.linx_base.specs.Pending.{is_of_session}
use Rattle.journal.specs.Pending.{owed}
use Rattle.journal.specs.Shapes.{Shape}
use Rattle.journal.specs.declared.by.By.{By}
use Rattle.journal.specs.declared.effect.Effect.{Effect}
use Rattle.journal.specs.declared.effect.Effect.TheVariants.{Up, Down}
use Rattle.journal.specs.declared.effect.Step.{Step}
use Rattle.journal.specs.declared.head.Head.TheVariants.{Wire}
use Rattle.link_laws.specs.Brought.{Brought, brought_at, goes_up, goes_down}
use Rattle.link_laws.specs.Ends.{node_at, IsLinkOf, HasTwoEnds}
use Rattle.link_laws.specs.Sides.{Trunks, AllLinked}
use Rattle.link_laws.specs.Laws.{delivers, IsLegalStep}
use Rattle.link_laws.specs.Linked.{IsLinked}
use Rattle.link_laws.specs.Sessions.{is_cut}
use Rattle.link_laws.proofs.Sides.Acts.{keeps_quiet}
use Rattle.link_laws.proofs.Sides.Untouched.{touches}
use Rattle.link_laws.proofs.Sides.Brings.{legal_going_up, legal_going_down}
use Rattle.link_laws.proofs.Sides.WordsAfterStep.{IsDone}
use Rattle.link_laws.proofs.Legal.{legal_wire}
use Rattle.link_laws.proofs.AllLinks.OthersStay.{notices-items, no_signal, one_side, with_side}
use Rattle.link_laws.proofs.Sides.Turns.{keeps_up, keeps_beginning, keeps_down}
use Rattle.linx_base.specs.declared.signal.Reason.TheVariants as reasons

module _ (shape : Shape) (P : List Step) (trunks : Trunks) (by : By) (l : LinkNo) (from : Side)
    (verdict : Verdict) (two : HasTwoEnds shape) (of_shape : IsLinkOf shape l)
    (linked : AllLinked shape P trunks) (maker : KeepsMakers shape P by (Wire l from verdict))
    (hands : delivers verdict ≡ true) (whole : is_cut P l.0 ≡ false) where
  abbrev n : ℕ
  n = node_at shape l (other_of from)

  abbrev m : ℕ
  m = node_at shape l from

  abbrev A : SideRecord
  A = trunks l.0 (other_of from)

  abbrev B : SideRecord
  B = trunks l.0 from

  abbrev step_of : Brought → Step
  step_of what = record { by = by; head = Wire l from verdict; effects = brought_at P n l what }

  near : IsLinked P n l A
  near = linked l of_shape (other_of from)

  far : IsLinked P m l B
  far = linked l of_shape from

  -- other sides, where the step's first effect is this one, and it neither opens nor closes
  elsewhere : (what : Brought) (e : Effect) (items : List Effect)
      → IsDone (step_of what) (e ∷ []) items → ((k h : ℕ) → ((n == k) && (l.0 == h)) ≡ false
      → touches k h e ≡ false) → ((i : Inc) → opens i e ≡ false) → ((i : Inc) → closes i e ≡ false)
      → (h : LinkNo) (side : Side) → IsLinkOf shape h
      → ((n == node_at shape h side) && (l.0 == h.0)) ≡ false
      → IsLinked (step_of what ∷ P) (node_at shape h side) h (trunks h.0 side)
  elsewhere what e items done away opens_none closes_none h side of_h apart =
      keeps_quiet P (step_of what) (e ∷ []) items done (node_at shape h side) h (trunks h.0 side)
      (linked h of_h side)
      (ap (λ t. t || false) (away (node_at shape h side) h.0 apart)) refl
      (λ i was. ap (λ t. t || false) (opens_none i))
      (λ x. no_signal (node_at shape h side) h.0 x (endpoint_by P by) (Wire l from verdict)
      (λ j. refl)) (λ i live. ap (λ t. t || false) (closes_none i))

  -- GOING UP: the trunk promises that the side was down with nothing in its session, and that the
  -- other side has or had the session
  pub whole_up : (y : Session) → A.now.peer ≡ None → A.now.given ≡ []
      → list_any (has_session y) (all B) ≡ true → IsLegalStep shape P
      (step_of (goes_up A.now.session y)) × AllLinked shape (step_of (goes_up A.now.session y) ∷ P)
      (with_side trunks l.0 (other_of from) (going_up y A))
  whole_up y down none has =
      let what = goes_up A.now.session y in
      let done : IsDone (step_of what) (Up (record { 0 = n }) l A.now.session y ∷ []) [] =
      record { effects = refl; items_only = tt } in (
        legal_wire shape P by l from verdict what maker of_shape hands whole
            (legal_going_up P n m l A B y near far down has),
        one_side shape (step_of what ∷ P) trunks l (other_of from) (going_up y A) two of_shape
            (keeps_up P (step_of what) n l A y [] done near down none refl
            (λ x. no_signal n l.0 x (endpoint_by P by) (Wire l from verdict) (λ j. refl)))
            (elsewhere what (Up (record { 0 = n }) l A.now.session y) [] done (λ k h e. e)
            (λ i. refl)
            (λ i. refl)),
      )

  -- GOING DOWN: the trunk promises that the other side has a greater session than the pair, and
  -- that the next session is above all of the side's
  pub whole_down : (y : Session) → A.now.peer ≡ Some y → y.0 < B.now.session.0
      → AllByRecursion (IsBelow (next_session A.now.session)) (all A)
      → IsLegalStep shape P (step_of (goes_down A.now.session))
      × AllLinked shape (step_of (goes_down A.now.session) ∷ P)
      (with_side trunks l.0 (other_of from) (beginning (next_session A.now.session) A))
  whole_down y was greater below =
      let what = goes_down A.now.session in
      let items : List Effect = notices reasons.Lost (is_of_session l A.now.session) (owed P n) in
      let done : IsDone (step_of what) (Down (record { 0 = n }) l A.now.session ∷ []) items =
      record {
        effects = refl;
        items_only = notices-items reasons.Lost
            (is_of_session l A.now.session) (owed P n);
      } in (
        legal_wire shape P by l from verdict what maker of_shape hands whole
            (legal_going_down P n m l A B y near far was greater),
        one_side shape (step_of what ∷ P) trunks l (other_of from)
            (beginning (next_session A.now.session) A) two of_shape
            (keeps_beginning P (step_of what) n l A (next_session A.now.session) near
            (keeps_down P (step_of what) n l A y items done near was refl
            (λ x. no_signal n l.0 x (endpoint_by P by) (Wire l from verdict) (λ j. refl))) below)
            (elsewhere what (Down (record { 0 = n }) l A.now.session) items done (λ k h e. e)
            (λ i. refl) (λ i. refl)),
      )
