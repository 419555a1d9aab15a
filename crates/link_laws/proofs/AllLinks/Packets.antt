-- A packet that is handed over, over all links of a run: what it brings is legal, and each side of
-- each link is kept.
use Rattle.std.proofs.Common.{◌≡◌, ℕ, Bool, true, false, ◌||◌, ◌&&◌, List, [], ◌∷◌, refl, ap, ◌==◌}
use Rattle.std.specs.List.{list_any}
use Rattle.linx_base.specs.Peers.{same_peer}
use Rattle.linx_base.specs.Sides.{other_of}
use Rattle.linx_base.specs.declared.frame.Verdict.{Verdict}
use Rattle.linx_base.specs.declared.identity.Inc.{Inc}
use Rattle.linx_base.specs.declared.identity.LinkNo.{LinkNo}
use Rattle.linx_base.specs.declared.identity.NodeNo.{NodeNo}
use Rattle.linx_base.specs.declared.identity.Peer.{Peer}
use Rattle.linx_base.specs.declared.identity.Peer.TheVariants.{There}
use Rattle.linx_base.specs.declared.identity.Session.{Session}
use Rattle.linx_base.specs.declared.identity.Side.{Side}
use Rattle.linx_base.specs.declared.name.Path.TheVariants.{Over}
use Rattle.linx_base.specs.SigNotes.{SigNote}
use Rattle.trunk_record.specs.Changes.{giving}
use Rattle.trunk_record.specs.Records.{SideRecord}
use Rattle.trunk_record.specs.Sayings.{Given, met, asked_for, arrived, freed, gone}
use Rattle.trunk_record.specs.Trunks.{IsHalf, FitsReceiver}
use Rattle.journal.specs.Effects.{founds, notices}
use Rattle.journal.specs.History.{endpoint_by, closes, opens}
use Rattle.journal.specs.Laws.{KeepsMakers}
use Rattle.journal.specs.Pending.{hunting, owed}
use Rattle.journal.specs.Shapes.{Shape}
use Rattle.journal.specs.declared.by.By.{By}
use Rattle.journal.specs.declared.effect.Effect.{Effect}
use Rattle.journal.specs.declared.effect.Effect.TheVariants.{Met, Gone, Arrived}
use Rattle.journal.specs.declared.effect.Step.{Step}
use Rattle.journal.specs.declared.head.Head.TheVariants.{Wire}
use Rattle.link_laws.specs.Brought.{MayBring, brought_at}
use Rattle.link_laws.specs.Ends.{node_at, IsLinkOf, HasTwoEnds}
use Rattle.link_laws.specs.Sides.{Trunks, AllLinked}
use Rattle.link_laws.specs.Laws.{delivers, IsLegalStep}
use Rattle.link_laws.specs.Linked.{IsLinked}
use Rattle.link_laws.specs.Moves.{brought_of}
use Rattle.link_laws.specs.Sessions.{is_cut}
use Rattle.link_laws.proofs.Sides.Acts.{keeps_quiet}
use Rattle.link_laws.proofs.Sides.Brings.{told, legal_arrival, legal_meeting, legal_parting}
use Rattle.link_laws.proofs.Sides.WordsAfterStep.{IsDone}
use Rattle.link_laws.proofs.Sides.Keeps.{keeps_giving}
use Rattle.link_laws.proofs.Legal.{legal_wire}
use Rattle.link_laws.proofs.Endpoints.OpenAfterStep.{open-on}
use Rattle.link_laws.proofs.AllLinks.OthersStay.{shown-away, founds-items, notices-items, no_signal}
use Rattle.link_laws.proofs.AllLinks.OthersStay.{one_side, IsAt, shown_by, with_side}
use Rattle.linx_base.specs.declared.signal.Reason.TheVariants as reasons

-- its effects are what shows it, and then items
pub given-done : (P : List Step) (n : ℕ) (l : LinkNo) (A : SideRecord) (g : Given) (s : Step)
    → s.effects ≡ brought_at P n l (brought_of A g) → (items : List Effect)
    × IsDone s (shown_by (record { 0 = n }) l A.now.session g) items
given-done P n l A (met a name) s is = (
  founds (Over l name) (There l A.now.session a)
      (hunting P n),
  record {
    effects = is;
    items_only =
        founds-items (Over l name) (There l A.now.session a) (hunting P n);
  },
)
given-done P n l A (asked_for name) s is = ([], record { effects = is; items_only = tt })
given-done P n l A (arrived a b note) s is = ([], record { effects = is; items_only = tt })
given-done P n l A (freed a b note) s is = ([], record { effects = is; items_only = tt })
given-done P n l A (gone a) s is = (
  notices reasons.Closed (same_peer (There l A.now.session a))
      (owed P n),
  record {
    effects = is;
    items_only =
        notices-items reasons.Closed (same_peer (There l A.now.session a)) (owed P n);
  },
)

-- WHAT A TRUNK PROMISES of a thing given
pub record IsGiven (A B : SideRecord) (g : Given) : Type 0 where
  pub fits : FitsReceiver A g
  pub near : IsHalf (giving g A) B
  pub far : IsHalf B (giving g A)

pub quiet_given : (p : Effect → Bool) → ((n : NodeNo) (q : Peer) (name : List ℕ)
    → p (Met n q name) ≡ false) → ((b : Inc) (q : Peer) (note : SigNote)
    → p (Arrived b q note) ≡ false) → ((n : NodeNo) (q : Peer) → p (Gone n q) ≡ false)
    → (n : NodeNo) (l : LinkNo) (x : Session) (g : Given) → list_any p (shown_by n l x g) ≡ false
quiet_given p m r o n l x (met a name) = ap (λ t. t || false) (m n (There l x a) name)
quiet_given p m r o n l x (asked_for name) = refl
quiet_given p m r o n l x (arrived a b note) = ap (λ t. t || false) (r b (There l x a) note)
quiet_given p m r o n l x (freed a b note) = refl
quiet_given p m r o n l x (gone a) = ap (λ t. t || false) (o n (There l x a))

-- A WIRE STEP THAT GIVES SOMETHING is legal, and keeps every side of every link
module _ (shape : Shape) (P : List Step) (trunks : Trunks) (by : By) (l : LinkNo) (from : Side)
    (verdict : Verdict) (g : Given) (two : HasTwoEnds shape) (of_shape : IsLinkOf shape l)
    (linked : AllLinked shape P trunks) (maker : KeepsMakers shape P by (Wire l from verdict))
    (hands : delivers verdict ≡ true) (whole : is_cut P l.0 ≡ false)
    (given : IsGiven (trunks l.0 (other_of from)) (trunks l.0 from) g) where
  abbrev n : ℕ
  n = node_at shape l (other_of from)

  abbrev m : ℕ
  m = node_at shape l from

  abbrev A : SideRecord
  A = trunks l.0 (other_of from)

  abbrev B : SideRecord
  B = trunks l.0 from

  abbrev s : Step
  s = record { by = by; head = Wire l from verdict; effects = brought_at P n l (brought_of A g) }

  near : IsLinked P n l A
  near = linked l of_shape (other_of from)

  far : IsLinked P m l B
  far = linked l of_shape from

  may : (h : Given) → IsGiven A B h → MayBring P n m l (brought_of A h)
  may (met a name) it = legal_meeting P n m l A B (met a name) near far it.near it.far a name refl
  may (asked_for name) it = tt
  may (arrived a b note) it = legal_arrival P n m l A B (arrived a b note) near far it.near it.far a
      b note refl it.near.proper.0 it.fits
  may (freed a b note) it = tt
  may (gone a) it = legal_parting P n m l A B (gone a) near far it.near it.far a refl near.truly.0

  pub legal_giving : IsLegalStep shape P s
  legal_giving = legal_wire shape P by l from verdict (brought_of A g) maker of_shape hands whole
      (may g given)

  pub given_at : (h : Given) → FitsReceiver A h → IsAt n h
  given_at (arrived a b note) live = open-on P n b (near.live b live)
  given_at _ live = tt

  elsewhere : (h : LinkNo) (side : Side) → IsLinkOf shape h
      → ((n == node_at shape h side) && (l.0 == h.0)) ≡ false
      → IsLinked (s ∷ P) (node_at shape h side) h (trunks h.0 side)
  elsewhere h side of_h away =
      let done = given-done P n l A g s refl in
      keeps_quiet P s (shown_by (record { 0 = n }) l A.now.session g) done.0 done.1
      (node_at shape h side) h (trunks h.0 side) (linked h of_h side)
      (shown-away n (node_at shape h side) l h A.now.session g (given_at g given.fits) away) refl
      (λ i was. quiet_given (opens i) (λ k q name. refl) (λ b q note. refl) (λ k q. refl)
      (record { 0 = n }) l A.now.session g)
      (λ x. no_signal (node_at shape h side) h.0 x (endpoint_by P by) (Wire l from verdict)
      (λ j. refl))
      (λ i live. quiet_given (closes i) (λ k q name. refl) (λ b q note. refl) (λ k q. refl)
      (record { 0 = n }) l A.now.session g)

  pub given_here : IsLinked (s ∷ P) n l (giving g A)
  given_here =
      let done = given-done P n l A g s refl in
      let tell = told A B g given.near.hears.0 in
      keeps_giving P s n l A g tell.y done.0 done.1 near tell.pair (given_at g given.fits) refl
      (λ x. no_signal n l.0 x (endpoint_by P by) (Wire l from verdict) (λ j. refl))

  pub kept_giving : AllLinked shape (s ∷ P) (with_side trunks l.0 (other_of from) (giving g A))
  kept_giving = one_side shape (s ∷ P) trunks l (other_of from) (giving g A) two of_shape given_here
      (λ h side of_h apart. elsewhere h side of_h apart)
