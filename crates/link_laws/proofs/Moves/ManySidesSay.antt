-- Several sides that say more in one step.
use Rattle.std.proofs.Common.{◌≡◌, List, ◌∷◌, sym, subst}
use Rattle.std.specs.List.{AllByRecursion}
use Rattle.linx_base.specs.Sides.{other_of}
use Rattle.linx_base.specs.declared.identity.LinkNo.{LinkNo}
use Rattle.linx_base.specs.declared.identity.Side.{Side}
use Rattle.trunk_record.specs.Changes.{saying}
use Rattle.trunk_record.specs.Records.{SideRecord}
use Rattle.trunk_record.specs.Sayings.{Said}
use Rattle.trunk_record.specs.Trunks.{IsHalf}
use Rattle.trunk_record.proofs.Changes.{half_of_saying}
use Rattle.journal.specs.Shapes.{Shape}
use Rattle.journal.specs.declared.effect.Step.{Step}
use Rattle.link_laws.specs.Ends.{IsLinkOf, node_at}
use Rattle.link_laws.specs.Sides.{AllPublishedOpen, AllTrunks, Trunks}
use Rattle.link_laws.specs.Promises.{ArePublishedOpen}
use Rattle.link_laws.proofs.Moves.OneSideSays.{SaysWell, says_half}
use Rattle.link_laws.proofs.Promises.FromRecords.{IsOpenNow, published-saying}
use Rattle.link_laws.proofs.AllLinks.Publishings.{RaisesNone, opened_step}

module _ (shape : Shape) (trunks others : Trunks) (ws : LinkNo → Side → List Said)
    (said : (l : LinkNo) → IsLinkOf shape l → (side : Side)
    → others l.0 side ≡ saying (ws l side) (trunks l.0 side)) where
  -- where each side says nothing or is up and says what is proper, the trunks are kept
  pub trunks-say : ((l : LinkNo) → IsLinkOf shape l → (side : Side)
      → SaysWell (trunks l.0 side) (ws l side)) → AllTrunks shape trunks → AllTrunks shape others
  trunks-say well halves l of_shape side =
      let A : SideRecord = trunks l.0 side in
      let B : SideRecord = trunks l.0 (other_of side) in
      subst (λ (X : SideRecord). IsHalf X (others l.0 (other_of side)))
      (sym (said l of_shape side))
      (subst (λ (X : SideRecord). IsHalf (saying (ws l side) A) X)
      (sym (said l of_shape (other_of side)))
      (half_of_saying B (saying (ws l side) A) (ws l (other_of side))
      (says_half A B (ws l side) (well l of_shape side) (halves l of_shape side))))

  -- and what is published is open
  pub opened-say : (P : List Step) (s : Step) → RaisesNone s
      → ((l : LinkNo) → IsLinkOf shape l → (side : Side)
      → AllByRecursion (IsOpenNow (s ∷ P)) (ws l side))
      → AllPublishedOpen shape P trunks → AllPublishedOpen shape (s ∷ P) others
  opened-say P s raises open_now kept l of_shape side =
      subst (λ (X : SideRecord). ArePublishedOpen (s ∷ P) (node_at shape l side) l X)
      (sym (said l of_shape side))
      (published-saying (s ∷ P) (node_at shape l side) l (trunks l.0 side) (ws l side)
      (open_now l of_shape side) (opened_step shape P trunks s kept raises l of_shape side))
