-- THE LAWS OF LINKS AND OF CUTS, as the tests tell them.
use Rattle.std.proofs.Common.{◌≡◌, ℕ, Bool, true, false, not, ◌||◌, List, length, nat_le, nat_lt}
use Rattle.std.proofs.Common.{refl, sym, ◌∙◌, ap, le-leb, leb-true, lt-ltb, ltb-true, true≢false}
use Rattle.std.proofs.lemmas.Bool.{and_parts}
use Rattle.linx_base.specs.declared.frame.Verdict.{Verdict}
use Rattle.linx_base.specs.declared.frame.Verdict.TheVariants.{Deliver, Lose, Repeat, Swap}
use Rattle.linx_base.specs.declared.identity.LinkNo.{LinkNo}
use Rattle.journal.specs.declared.effect.Step.{Step}
use Rattle.journal.specs.declared.head.Head.{Head}
use Rattle.journal.specs.declared.head.Head.TheVariants as heads
use Rattle.journal.specs.Shapes.{Shape}
use Rattle.link_laws.specs.Ends.{IsLinkOf}
use Rattle.link_laws.specs.Laws.{KeepsLinks}
use Rattle.link_laws.specs.Sessions.{LosesIfCut, is_cut}
use Rattle.link_check.specs.Cuts.{loses, loses_if_cut}
use Rattle.link_check.specs.Links.{is_link, is_of_link}
use Rattle.link_check.proofs.Tests.{both}

-- LINKS
module _ (shape : Shape) where
  abbrev links : ℕ
  links = length shape.links

  link-told : (l : LinkNo) → is_link links l ≡ true → IsLinkOf shape l
  link-told l is =
      let parts = and_parts (nat_lt 0 l.0) (nat_le l.0 links) is in
      (ltb-true 0 l.0 parts.0, leb-true l.0 links parts.1)

  told-link : (l : LinkNo) → IsLinkOf shape l → is_link links l ≡ true
  told-link l of_shape =
      both (nat_lt 0 l.0) (nat_le l.0 links) (lt-ltb 0 l.0 of_shape.0)
      (le-leb l.0 links of_shape.1)

  pub links-kept : (head : Head) → is_of_link links head ≡ true → KeepsLinks shape head
  links-kept (heads.Wire l from verdict) is = link-told l is
  links-kept (heads.Tick l side) is = link-told l is
  links-kept (heads.Cut l) is = link-told l is
  links-kept (heads.Mend l) is = link-told l is
  links-kept (heads.Settle l) is = link-told l is
  links-kept _ is = tt

  pub kept-links : (head : Head) → KeepsLinks shape head → is_of_link links head ≡ true
  kept-links (heads.Wire l from verdict) kept = told-link l kept
  kept-links (heads.Tick l side) kept = told-link l kept
  kept-links (heads.Cut l) kept = told-link l kept
  kept-links (heads.Mend l) kept = told-link l kept
  kept-links (heads.Settle l) kept = told-link l kept
  kept-links _ kept = refl

-- CUTS
lose-is : (verdict : Verdict) → loses verdict ≡ true → verdict ≡ Lose
lose-is Deliver is = absurd (true≢false (sym is))
lose-is Lose is = refl
lose-is Repeat is = absurd (true≢false (sym is))
lose-is (Swap k) is = absurd (true≢false (sym is))

module _ (P : List Step) (l : LinkNo) (verdict : Verdict) where
  pub cuts-kept : loses_if_cut (is_cut P l.0) verdict ≡ true → LosesIfCut P l verdict
  cuts-kept is cut =
      lose-is verdict (ap (λ (b : Bool). not b || loses verdict) (sym cut) ∙ is)

  pub kept-cuts : LosesIfCut P l verdict → loses_if_cut (is_cut P l.0) verdict ≡ true
  kept-cuts kept = go (is_cut P l.0) refl
    where
      go : (b : Bool) → is_cut P l.0 ≡ b → (not b || loses verdict) ≡ true
      go true cut = ap loses (kept cut)
      go false cut = refl
