-- What a filter selects of a line.
use Rattle.std.proofs.Common.{true≢false, ◌≡◌, ℕ, true, false, not, ◌==◌, List, [], ◌∷◌, ◌∙◌}
use Rattle.std.proofs.Common.{length, refl, ap, ne_eqb, arith, None, is_some}
use Rattle.linx_base.specs.FirstMatch.{first_match}
use Rattle.linx_base.specs.declared.identity.AttRef.{AttRef}
use Rattle.linx_base.specs.declared.item.Item.{Item}
use Rattle.linx_base.specs.declared.item.Kind.{Kind}
use Rattle.linx_base.specs.declared.item.Kind.TheVariants.{Plain, Found, Notice}
use Rattle.sigsel.specs.declared.sigsel.Sigsel.{Sigsel}
use Rattle.sigsel.specs.Selects.{selects}
use Rattle.sigsel.specs.Selection.{first_selected, is_notice_kind, is_notice_of, is_selected}
use Rattle.sigsel.specs.Selection.{without_first}
use Rattle.endpoint_queue.specs.Keys.{attach_key}
use Rattle.endpoint_queue.specs.Line.{IsLine}

-- no notice is among them
not_notice : (r : AttRef) (kind : Kind) → attach_key kind ≡ None → is_notice_kind r kind ≡ false
not_notice r Plain none = refl
not_notice r (Found hunt) none = refl
not_notice r (Notice attach) none = absurd (true≢false (ap is_some none))

pub no_notice : (number : ℕ) (items : List Item) → IsLine number items → (r : AttRef)
    → first_match (is_notice_of r) items ≡ None
no_notice number [] line r = refl
no_notice number (item ∷ items) line r =
    let miss : is_notice_of r item ≡ false = not_notice r item.kind line.0.1 in
    rw miss (no_notice number items line.1 r)

module _ (sel : Sigsel) (number : ℕ) where
  -- a filter that doesn't select the number
  pub none_of_line : (items : List Item) → IsLine number items → selects sel number ≡ false
      → (first_selected sel items ≡ None) × (without_first sel items ≡ items)
  none_of_line [] line miss = (refl, refl)
  none_of_line (item ∷ items) line miss =
      let other : is_selected sel item ≡ false = ap (selects sel) line.0.0 ∙ miss in
      let rest = none_of_line items line.1 miss in
      (rw other rest.0, rw other (ap (λ l. item ∷ l) rest.1))

  -- and one that does
  pub any_of_line : (items : List Item) → IsLine number items → selects sel number ≡ true
      → not (length items == 0) ≡ is_some (first_selected sel items)
  any_of_line [] line hit = refl
  any_of_line (item ∷ items) line hit =
      let own : is_selected sel item ≡ true = ap (selects sel) line.0.0 ∙ hit in
      let some : (length (item ∷ items) == 0) ≡ false =
      ne_eqb (length (item ∷ items)) 0 (omega arith) in
      rw own (ap not some)
