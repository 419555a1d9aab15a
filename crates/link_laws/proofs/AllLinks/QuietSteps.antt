-- Steps that say and touch nothing, an opening, and a side that is lost at a tick, over all links.
use Rattle.std.proofs.Common.{◌≡◌, ℕ, ◌≤◌, Bool, true, false, cond, ◌||◌, ◌&&◌, List, [], ◌∷◌, ◌++◌}
use Rattle.std.proofs.Common.{Some, refl, sym, ◌∙◌, ap, subst, inl, inr, ◌==◌, eqb-true}
use Rattle.std.specs.List.{list_any, AllByRecursion}
use Rattle.std.proofs.lemmas.Bool.{or_cases, or_left, or_right}
use Rattle.std.proofs.lemmas.List.Folds.{list_any-append}
use Rattle.linx_base.specs.Numbers.{is_on, next_session}
use Rattle.linx_base.specs.Peers.{same_inc}
use Rattle.linx_base.specs.declared.identity.Inc.{Inc}
use Rattle.linx_base.specs.declared.identity.LinkNo.{LinkNo}
use Rattle.linx_base.specs.declared.identity.Peer.TheVariants.{Here}
use Rattle.linx_base.specs.declared.identity.Session.{Session}
use Rattle.linx_base.specs.declared.identity.Side.{Side}
use Rattle.linx_base.specs.declared.name.Path.TheVariants.{Local}
use Rattle.trunk_record.specs.Changes.{beginning}
use Rattle.trunk_record.specs.Records.{SideRecord, all, has_session, session_if}
use Rattle.trunk_record.specs.Sayings.{is_live, published}
use Rattle.trunk_record.specs.Trunks.{IsBelow}
use Rattle.journal.specs.Effects.{founds, notices, opening}
use Rattle.journal.specs.History.{endpoint_by, name_of, openings, name_or_none, opening_name}
use Rattle.journal.specs.Laws.{KeepsMakers}
use Rattle.linx_base.specs.Pending.{is_of_session}
use Rattle.journal.specs.Living.{is_alive}
use Rattle.journal.specs.Pending.{hunting, owed}
use Rattle.journal.specs.Shapes.{Shape}
use Rattle.journal.specs.declared.by.By.{By}
use Rattle.journal.specs.declared.effect.Effect.{Effect}
use Rattle.journal.specs.declared.effect.Effect.TheVariants.{Opened, Down}
use Rattle.journal.specs.declared.effect.Step.{Step}
use Rattle.journal.specs.declared.head.Head.TheVariants.{Open, Tick}
use Rattle.link_laws.specs.Brought.{was_opened}
use Rattle.link_laws.specs.Came.{signal_over}
use Rattle.link_laws.specs.Ends.{node_at, IsLinkOf, HasTwoEnds}
use Rattle.link_laws.specs.Sides.{Trunks, AllLinked}
use Rattle.link_laws.specs.Laws.{IsLegalStep}
use Rattle.link_laws.specs.Linked.{IsLinked}
use Rattle.link_laws.specs.Moves.{opening_side}
use Rattle.link_laws.specs.Sessions.{restarts, silent_ticks}
use Rattle.trunk_record.proofs.Sayings.{same_inc-is, same_inc-itself}
use Rattle.link_laws.proofs.Sides.Acts.{cond-nil, keeps_quiet}
use Rattle.link_laws.proofs.Sides.WordsAfterStep.{AreItems, IsDone, openings-done, name-done}
use Rattle.link_laws.proofs.Sides.Keeps.{keeps_saying}
use Rattle.link_laws.proofs.Legal.{legal_lost, lost_step}
use Rattle.link_laws.proofs.Endpoints.OpenAfterStep.{OpensNew, both_true, open-more, open-new}
use Rattle.link_laws.proofs.AllLinks.OthersStay.{founds-items, notices-items, no_signal, one_side}
use Rattle.link_laws.proofs.AllLinks.OthersStay.{with_side}
use Rattle.link_laws.proofs.Sides.Turns.{keeps_beginning, keeps_down}
use Rattle.linx_base.specs.declared.signal.Reason.TheVariants as reasons

-- A STEP WITHOUT EFFECTS, or with items alone, that neither sends over a link nor restarts: a take,
-- a wait, a detach, a hunt, an attach, a cut, a mend, a settling, a refusal, a tick, a lost packet
pub whole_quiet : (shape : Shape) (P : List Step) (trunks : Trunks) (s : Step)
    → AllLinked shape P trunks → AreItems s.effects → ((n : ℕ) → restarts n s.head ≡ false)
    → ((n h : ℕ) (x : Session) → signal_over n h x (endpoint_by P s.by) s.head ≡ [])
    → AllLinked shape (s ∷ P) trunks
whole_quiet shape P trunks s linked items stays says h of_h side =
    keeps_quiet P s [] s.effects (record { effects = refl; items_only = items })
    (node_at shape h side) h (trunks h.0 side) (linked h of_h side) refl
    (stays (node_at shape h side)) (λ i was. refl) (says (node_at shape h side) h.0)
    (λ i live. refl)

-- AN OPENING. On each side of the node whose other side has asked for the name it is published
abbrev pub is_wanted_at : Shape → ℕ → (ℕ → Side → Bool) → ℕ → Side → Bool
is_wanted_at shape n wanted k at = node_at shape (record { 0 = k }) at == n && wanted k at

abbrev pub opened_to : Shape → Trunks → ℕ → (ℕ → Side → Bool) → Inc → List ℕ → Trunks
opened_to shape trunks n wanted i name k at =
    opening_side (is_wanted_at shape n wanted k at) i name (trunks k at)

module _ (shape : Shape) (P : List Step) (trunks : Trunks) (by : By) (n : ℕ) (i : Inc)
    (name : List ℕ) (wanted : ℕ → Side → Bool) (linked : AllLinked shape P trunks) (on : is_on n i
    ≡ true) (new : OpensNew P (Opened i ∷ [])) where
  abbrev s : Step
  s = record { by = by; head = Open name; effects = opening i name (hunting P n) }

  abbrev items : List Effect
  items = founds (Local name) (Here i) (hunting P n)

  done : IsDone s (Opened i ∷ []) items
  done = record { effects = refl; items_only = founds-items (Local name) (Here i) (hunting P n) }

  itself : (same_inc i i || false) ≡ true
  itself = or_left (same_inc i i) false (same_inc-itself i)

  opened : (k : ℕ) → k ≡ n → was_opened (s ∷ P) k i ≡ true
  opened k same =
      ap (λ l. is_on k i && list_any (same_inc i) l) (openings-done P s (Opened i ∷ []) items done)
      ∙ ap (λ m. is_on m i && list_any (same_inc i) (openings P ++ i ∷ [])) same
      ∙ ap (λ w. w && list_any (same_inc i) (openings P ++ i ∷ [])) on
      ∙ list_any-append (same_inc i) (openings P) (i ∷ [])
      ∙ or_right (list_any (same_inc i) (openings P)) (same_inc i i || false) itself

  named : name_of (s ∷ P) i ≡ name
  named = ap name_or_none (name-done P s (Opened i ∷ []) items done i
      ∙ ap (λ w. cond w (Some name) (opening_name P i)) itself)

  lives : (k : ℕ) → k ≡ n → is_alive (s ∷ P) k (Here i) ≡ true
  lives k same = open-new P s (Opened i ∷ []) items done k i (ap (λ m. is_on m i) same
      ∙ on) itself refl

  -- a side where it is published, and one where it isn't
  on_side : (h : LinkNo) (side : Side) → IsLinkOf shape h → (t : Bool)
      → is_wanted_at shape n wanted h.0 side ≡ t → IsLinked (s ∷ P) (node_at shape h side) h
      (opening_side t i name (trunks h.0 side))
  on_side h side of_h false e =
      keeps_saying P s (Opened i ∷ []) items done (node_at shape h side) h (trunks h.0 side) []
      (linked h of_h side) refl refl new
      (λ x. no_signal (node_at shape h side) h.0 x (endpoint_by P by) (Open name) (λ j. refl)
      ∙ cond-nil (has_session x (trunks h.0 side).now)) tt
      (λ j live. open-more P s (Opened i ∷ []) items done (node_at shape h side) new j
      ((linked h of_h side).live j live) refl)
  on_side h side of_h true e =
      let here : node_at shape h side ≡ n = eqb-true (node_at shape h side) n
      (both_true (node_at shape h side == n) (wanted h.0 side) e).0 in
      keeps_saying P s (Opened i ∷ []) items done (node_at shape h side) h (trunks h.0 side)
      (published i name ∷ []) (linked h of_h side) refl refl new
      (λ x. no_signal (node_at shape h side) h.0 x (endpoint_by P by) (Open name) (λ j. refl)
      ∙ cond-nil (has_session x (trunks h.0 side).now))
      ((opened (node_at shape h side) here, named), tt)
      (λ j live. elim (or_cases (same_inc j i) (is_live j (trunks h.0 side).now.said) live) [
        | inl same ↦ subst (λ (k : Inc). is_alive (s ∷ P) (node_at shape h side) (Here k) ≡ true)
            (sym (same_inc-is j i same)) (lives (node_at shape h side) here)
        | inr was ↦ open-more P s (Opened i ∷ []) items done (node_at shape h side) new j
            ((linked h of_h side).live j was) refl
      ])

  pub whole_open : AllLinked shape (s ∷ P) (opened_to shape trunks n wanted i name)
  whole_open h of_h side = on_side h side of_h (is_wanted_at shape n wanted h.0 side) refl

-- A SIDE THAT IS LOST AT A TICK: the trunk promises that it was silent for two ticks before
module _ (shape : Shape) (P : List Step) (trunks : Trunks) (by : By) (l : LinkNo) (side : Side)
    (two : HasTwoEnds shape) (of_shape : IsLinkOf shape l) (linked : AllLinked shape P trunks) where
  abbrev m : ℕ
  m = node_at shape l side

  abbrev A : SideRecord
  A = trunks l.0 side

  abbrev lost : Step
  lost = lost_step shape P by l side A.now.session

  abbrev notified : List Effect
  notified = notices reasons.Lost (is_of_session l A.now.session) (owed P m)

  is_lost : IsDone lost (Down (record { 0 = m }) l A.now.session ∷ []) notified
  is_lost = record {
    effects = refl;
    items_only =
        notices-items reasons.Lost (is_of_session l A.now.session) (owed P m);
  }

  pub lost_legal : (y : Session) → KeepsMakers shape P by (Tick l side) → A.now.peer ≡ Some y
      → 2 ≤ silent_ticks P m l.0 side → IsLegalStep shape P lost
  lost_legal y maker was silent =
      legal_lost shape P by l side A.now.session maker of_shape ((linked l of_shape side).up
      ∙ ap (λ p. session_if p A.now.session) was) silent

  pub whole_lost : (y : Session) → A.now.peer ≡ Some y
      → AllByRecursion (IsBelow (next_session A.now.session)) (all A)
      → AllLinked shape (lost ∷ P) (with_side trunks l.0 side
      (beginning (next_session A.now.session) A))
  whole_lost y was below =
      one_side shape (lost ∷ P) trunks l side (beginning (next_session A.now.session) A) two
      of_shape
      (keeps_beginning P lost m l A (next_session A.now.session) (linked l of_shape side)
      (keeps_down P lost m l A y notified is_lost (linked l of_shape side) was refl
      (λ x. no_signal m l.0 x (endpoint_by P by) (Tick l side) (λ j. refl))) below)
      (λ h at of_h apart.
      keeps_quiet P lost (Down (record { 0 = m }) l A.now.session ∷ []) notified is_lost
      (node_at shape h at) h (trunks h.0 at) (linked h of_h at) (ap (λ t. t || false) apart)
      refl (λ i was_. refl) (λ x. no_signal (node_at shape h at) h.0 x (endpoint_by P by)
      (Tick l side) (λ j. refl)) (λ i live. refl))
