-- WHAT IS READ OF A BOOK at a link that there is.
use Rattle.std.proofs.Common.{◌≡◌, ℕ, zero, suc, ◌-◌, ◌<◌, ◌≤◌, true, List, [], ◌∷◌, length, Some}
use Rattle.std.proofs.Common.{nat_le, nat_lt, slice_get, refl, sym, ◌∙◌, ap, subst, arith, leb-true}
use Rattle.std.proofs.Common.{ltb-true}
use Rattle.std.specs.List.{AllByRecursion}
use Rattle.std.specs.Option.{unwrap_or}
use Rattle.std.proofs.lemmas.Bool.{and_parts}
use Rattle.linx_base.specs.Sides.{other_of}
use Rattle.linx_base.specs.declared.frame.LinkDecl.{LinkDecl}
use Rattle.linx_base.specs.declared.identity.LinkNo.{LinkNo}
use Rattle.linx_base.specs.declared.identity.NodeNo.{NodeNo}
use Rattle.linx_base.specs.declared.identity.Side.{Side}
use Rattle.linx_base.specs.declared.identity.Side.TheVariants.{First, Second}
use Rattle.node_kernel.specs.Nodes.{NodeState}
use Rattle.link_tables.specs.Sides.{HasRoom}
use Rattle.link_check.specs.Books.{BookSoFar, TakesStep, end_no}
use Rattle.link_check.specs.Deliveries.{Known}
use Rattle.link_check.specs.Lines.{fresh_line, side_in}
use Rattle.link_check.specs.Links.{is_link}
use Rattle.link_check.specs.Told.{IsBetween, IsReady, IsThere, ends_in, known_at, line_in, nowhere}

-- a link that passes the test is there
pub there-of : (book : BookSoFar) (l : LinkNo) → is_link (length book.links) l ≡ true
    → IsThere book l
there-of book l is =
    let parts = and_parts (nat_lt 0 l.0) (nat_le l.0 (length book.links)) is in
    record { above = ltb-true 0 l.0 parts.0; within = leb-true l.0 (length book.links) parts.1 }

-- what is within a list stands there
pub at-place : {X : Type 0} (xs : List X) (k : ℕ) (d : X) → k < length xs
    → slice_get xs k ≡ Some (unwrap_or (slice_get xs k) d)
at-place [] k d less = absurd (omega arith)
at-place (x ∷ xs) zero d less = refl
at-place (x ∷ xs) (suc k) d less = at-place xs k d (omega arith)

-- what holds of each of a list holds of the one at a place
pub all-at : {X : Type 0} (Q : X → Type 0) (xs : List X) (k : ℕ) (x : X) → AllByRecursion Q xs
    → slice_get xs k ≡ Some x → Q x
all-at Q [] k x all is = cc is
all-at Q (y ∷ xs) zero x all is = let same : y ≡ x = cc is in subst Q same all.0
all-at Q (y ∷ xs) (suc k) x all is = all-at Q xs k x all.1 is

-- the counts of its sides fit
pub side-room : (book : BookSoFar) → TakesStep book → (l : LinkNo) → IsThere book l → (side : Side)
    → HasRoom (side_in (line_in book l) side)
side-room book takes l there side = by_side side
  where
    less : l.0 - 1 < length book.lines
    less =
        let above : 0 < l.0 = there.above in
        let under : l.0 ≤ length book.links = there.within in
        let same : length book.lines ≡ length book.links = takes.counted in
        omega arith

    both : HasRoom (line_in book l).first × HasRoom (line_in book l).second
    both =
        takes.room (l.0 - 1) (line_in book l)
        (at-place book.lines (l.0 - 1) fresh_line less)

    by_side : (side : Side) → HasRoom (side_in (line_in book l) side)
    by_side First = both.0
    by_side Second = both.1

-- the same, of what is known where a packet comes to a side
module _ (book : BookSoFar) (kernels : List NodeState) (ready : IsReady book kernels) (l : LinkNo)
    (there : IsThere book l) where
  pub room-here : (to : Side) (d : Known) → d ≡ known_at book kernels l to → HasRoom d.here
  room-here to d is =
      subst (λ (e : Known). HasRoom e.here) (sym is) (side-room book ready.takes l there to)

  pub room-there : (to : Side) (d : Known) → d ≡ known_at book kernels l to → HasRoom d.there
  room-there to d is =
      subst (λ (e : Known). HasRoom e.there) (sym is)
      (side-room book ready.takes l there (other_of to))

  -- and its node is one of those
  ends-within : l.0 - 1 < length book.links
  ends-within =
      let above : 0 < l.0 = there.above in
      let under : l.0 ≤ length book.links = there.within in
      omega arith

  between : IsBetween (length kernels) (ends_in book l)
  between =
      all-at (IsBetween (length kernels)) book.links (l.0 - 1) (ends_in book l) ready.between
      (at-place book.links (l.0 - 1) nowhere ends-within)

  abbrev IsOne : NodeNo → Type 0
  IsOne n = (0 < n.0) × (n.0 ≤ length kernels)

  at-end : (to : Side) → IsOne (end_no (ends_in book l) to)
  at-end First = (between.first_above, between.first_within)
  at-end Second = (between.second_above, between.second_within)

  pub home-is : (to : Side) (ends : LinkDecl) (at : NodeNo) → ends ≡ ends_in book l
      → at ≡ end_no ends to → (0 < at.0) × (at.0 ≤ length kernels)
  home-is to ends at ends_are at_is =
      subst IsOne (sym (at_is ∙ ap (λ (e : LinkDecl). end_no e to) ends_are)) (at-end to)
