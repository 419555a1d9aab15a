-- What a node and its sides ask of each other is granted.
use Rattle.std.proofs.Common.{◌≡◌, ℕ, false, List, ◌∷◌, map, refl, sym, ◌∙◌, subst, true≢false}
use Rattle.std.proofs.lemmas.Bool.{false_from_ne_true}
use Rattle.linx_base.specs.Sides.{other_of}
use Rattle.linx_base.specs.declared.identity.Inc.{Inc}
use Rattle.linx_base.specs.declared.identity.LinkNo.{LinkNo}
use Rattle.linx_base.specs.declared.identity.Peer.TheVariants.{There}
use Rattle.trunk_record.specs.Changes.{giving}
use Rattle.trunk_record.specs.Records.{SideRecord, all}
use Rattle.trunk_record.specs.Sayings.{Given, IsProper, arrived, asked_for, freed, gone, heard_as}
use Rattle.trunk_record.specs.Sayings.{met, published}
use Rattle.trunk_record.specs.Trunks.{FitsReceiver, IsHalf}
use Rattle.trunk_record.proofs.Changes.{half_giving, half_of_giving}
use Rattle.trunk_record.proofs.Lookups.{said-all}
use Rattle.trunk_record.proofs.Sayings.{live-published, proper-before}
use Rattle.journal.specs.Living.{is_alive}
use Rattle.journal.specs.declared.effect.Step.{Step}
use Rattle.link_laws.specs.Ends.{node_at}
use Rattle.link_laws.specs.Sides.{records_of}
use Rattle.link_laws.specs.Fits.{FitsBoth, FitsNext, FitsSide, RunsFit}
use Rattle.link_laws.specs.Linked.{IsLinked}
use Rattle.link_laws.specs.Moves.{IsTold}
use Rattle.link_laws.proofs.Sides.Brings.{legal_arrival, legal_parting, unpublished-closed}
use Rattle.link_laws.proofs.Hunts.ManySides.{back_half}
use Rattle.link_laws.proofs.Peers.Living.{alive-known, open-not_unpublished}
use Rattle.link_laws.proofs.Runs.{runs_are_legal}

module _ (P : List Step) (n m : ℕ) (l : LinkNo) (A B : SideRecord) (near : IsLinked P n l A)
    (far : IsLinked P m l B) (half : IsHalf A B) (back : IsHalf B A) where
  fits_side : FitsSide P n l A
  fits_side = record {
    sends = alive-known P n l A near;
    says = open-not_unpublished P n l A near;
  }

  -- who is published anew isn't live in what was heard
  not_met : (a : Inc) (name : List ℕ) → IsTold A B (met a name)
      → is_alive P n (There l A.now.session a) ≡ false
  not_met a name told = false_from_ne_true (is_alive P n (There l A.now.session a)) (λ alive.
      let known = (alive-known P n l A near A.now.session a alive).known in
      let proper : IsProper (published a name ∷ map heard_as A.now.given) =
      proper-before told.later (published a name ∷ map heard_as A.now.given)
      (subst IsProper told.said (said-all IsProper tt told.y (all B) back.proper)) in
      true≢false (sym (live-published a (map heard_as A.now.given) known) ∙ proper.0))

  -- the two sides once it is given
  near_given : (g : Given) → IsTold A B g → FitsReceiver A g → IsHalf (giving g A) B
  near_given g told fits = half_giving A B g told.y told.later half told.pair told.back told.said
      fits

  far_given : (g : Given) → IsHalf B (giving g A)
  far_given g = half_of_giving A B g back

  fits_node : FitsNext P n l A B
  fits_node (met a name) told fits = not_met a name told
  fits_node (asked_for name) told fits = tt
  fits_node (arrived a b note) told fits =
      let law = legal_arrival P n m l A B (arrived a b note) near far
      (near_given (arrived a b note) told fits) (far_given (arrived a b note)) a b note refl
      half.proper.0 fits in
      (law.receiver, law.alive)
  fits_node (freed a b note) told fits =
      (unpublished-closed P n b A.now.said near.truly.0 fits).dead
  fits_node (gone a) told fits =
      (legal_parting P n m l A B (gone a) near far (near_given (gone a) told fits)
      (far_given (gone a)) a refl near.truly.0).alive

  pub fits_both : FitsBoth P n l A B
  fits_both = record { side = fits_side; node = fits_node }

pub runs_fit : RunsFit
runs_fit shape P links whole l of_shape side =
    let kept = (runs_are_legal shape P links whole).linked in
    fits_both P (node_at shape l side) (node_at shape l (other_of side)) l (links l.0 side).side
    (links l.0 (other_of side)).side (kept.linked l of_shape side)
    (kept.linked l of_shape (other_of side)) (kept.trunks l of_shape side)
    (back_half shape (records_of links) kept.trunks l of_shape side)
