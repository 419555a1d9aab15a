-- WHAT A BOOK AND THE KERNELS TELL of a step is whether it keeps the laws.
use Rattle.std.proofs.Common.{◌≡◌, ℕ, zero, suc, ◌<◌, ◌≤◌, ◌==◌, Bool, true, false, List, length}
use Rattle.std.proofs.Common.{refl, sym, ◌∙◌, ap, subst, arith, true≢false, eq-eqb}
use Rattle.std.proofs.lemmas.Bool.{and_parts}
use Rattle.linx_base.specs.declared.frame.LinkDecl.{LinkDecl}
use Rattle.linx_base.specs.declared.identity.LinkNo.{LinkNo}
use Rattle.journal.specs.Shapes.{Shape}
use Rattle.journal.specs.declared.effect.Effect.{Effect}
use Rattle.journal.specs.declared.effect.Step.{Step}
use Rattle.journal.specs.declared.head.Head.{Head}
use Rattle.journal.specs.declared.head.Head.TheVariants.{TakeNone, Tick, Wire}
use Rattle.link_laws.specs.Laws.{KeepsCuts, KeepsLinks, KeepsRest, delivers}
use Rattle.link_laws.specs.Still.{AllStill}
use Rattle.node_kernel.specs.Nodes.{NodeState}
use Rattle.link_check.specs.Books.{BookSoFar}
use Rattle.link_check.specs.Coming.{MayPass, MayTick}
use Rattle.link_check.specs.Cuts.{loses_if_cut}
use Rattle.link_check.specs.Judging.{BooksTellLaws, TellLinkLaws}
use Rattle.link_check.specs.Links.{is_of_link}
use Rattle.link_check.specs.Told.{AreLeft, IsReady, all_still, is_still_at, keeps_cuts}
use Rattle.link_check.specs.Told.{keeps_rest, may_pass, may_tick}
use Rattle.link_check.proofs.AtLinks.{there-of}
use Rattle.link_check.proofs.Steps.{cuts-kept, kept-cuts, kept-links, links-kept}
use Rattle.link_check.proofs.Tests.{both, link-is}
use Rattle.link_check.proofs.Told.{cut-is, pass-told, rest-told, tick-told, told-pass, told-rest}
use Rattle.link_check.proofs.Told.{told-tick}

module _ (shape : Shape) (P : List Step) (book : BookSoFar) (kernels : List NodeState)
    (left : AreLeft shape P book kernels) (ready : IsReady book kernels) where
  many : length book.links ≡ length shape.links
  many = ap (λ (links : List LinkDecl). length links) left.tables.links

  -- LINKS
  links-told : (head : Head) → is_of_link (length book.links) head ≡ true → KeepsLinks shape head
  links-told head is =
      links-kept shape head (ap (λ (k : ℕ). is_of_link k head) (sym many) ∙ is)

  told-links : (head : Head) → KeepsLinks shape head → is_of_link (length book.links) head ≡ true
  told-links head keeps = ap (λ (k : ℕ). is_of_link k head) many ∙ kept-links shape head keeps

  -- REST
  number-is : (l : LinkNo) (k : ℕ) → (l.0 == k) ≡ true → l ≡ record { 0 = k }
  number-is l k is = link-is l (record { 0 = k }) is

  each-still : (k : ℕ) → all_still book kernels k ≡ true → (l : LinkNo) → 0 < l.0 → l.0 ≤ k
      → is_still_at book kernels l ≡ true
  each-still zero is l above within = absurd (omega arith)
  each-still (suc k) is l above within =
      let parts = and_parts (all_still book kernels k)
      (is_still_at book kernels (record { 0 = suc k })) is in
      go parts.1 (λ less. each-still k parts.0 l above less) (l.0 == suc k) refl
    where
      lower : (l.0 ≡ suc k → ⊥) → l.0 ≤ k
      lower differs = omega (arith, differs)

      go : is_still_at book kernels (record { 0 = suc k }) ≡ true
          → (l.0 ≤ k → is_still_at book kernels l ≡ true) → (b : Bool)
          → (l.0 == suc k) ≡ b → is_still_at book kernels l ≡ true
      go last before true same =
          subst (λ (h : LinkNo). is_still_at book kernels h ≡ true)
          (sym (number-is l (suc k) same)) last
      go last before false other =
          before (lower (λ same. true≢false (sym (eq-eqb l.0 (suc k) same) ∙ other)))

  rest-kept : (head : Head) → keeps_rest book kernels head ≡ true → KeepsRest shape P head
  rest-kept (TakeNone filter) is =
      λ l of_shape. (
      let above : 0 < l.0 = of_shape.0 in
      let within : l.0 ≤ length book.links = subst (λ (k : ℕ). l.0 ≤ k) (sym many) of_shape.1 in
      rest-told shape P book kernels left ready l (record { above = above; within = within })
      (each-still (length book.links) is l above within))
  rest-kept _ is = tt

  all-are : AllStill shape P → (k : ℕ) → k ≤ length book.links → all_still book kernels k ≡ true
  all-are still zero within = refl
  all-are still (suc k) within =
      let l : LinkNo = record { 0 = suc k } in
      let above : 0 < suc k = omega arith in
      let under : suc k ≤ length shape.links =
      subst (λ (n : ℕ). suc k ≤ n) many within in
      both (all_still book kernels k) (is_still_at book kernels l)
      (all-are still k (omega arith))
      (told-rest shape P book kernels left ready l (record { above = above; within = within })
      (still l (above, under)))

  kept-rest : (head : Head) → KeepsRest shape P head → keeps_rest book kernels head ≡ true
  kept-rest (TakeNone filter) still = all-are still (length book.links) (omega arith)
  kept-rest _ still = refl

  -- PACKETS, CUTS AND TICKS of a link that there is
  packets-kept : (head : Head) (es : List Effect) → is_of_link (length book.links) head ≡ true
      → may_pass book kernels head es ≡ true → MayPass shape P head es
  packets-kept (Wire l from verdict) es links is =
      pass-told shape P book kernels left ready l (there-of book l links) (delivers verdict) from es is
  packets-kept _ es links is = tt

  kept-packets : (head : Head) (es : List Effect) → is_of_link (length book.links) head ≡ true
      → MayPass shape P head es → may_pass book kernels head es ≡ true
  kept-packets (Wire l from verdict) es links may =
      told-pass shape P book kernels left ready l (there-of book l links) (delivers verdict) from es may
  kept-packets _ es links may = refl

  cuts-are : (head : Head) → is_of_link (length book.links) head ≡ true
      → keeps_cuts book head ≡ true → KeepsCuts P head
  cuts-are (Wire l from verdict) links is =
      cuts-kept P l verdict
      (ap (λ (b : Bool). loses_if_cut b verdict)
      (sym (cut-is shape P book kernels left ready l (there-of book l links))) ∙ is)
  cuts-are _ links is = tt

  are-cuts : (head : Head) → is_of_link (length book.links) head ≡ true → KeepsCuts P head
      → keeps_cuts book head ≡ true
  are-cuts (Wire l from verdict) links keeps =
      ap (λ (b : Bool). loses_if_cut b verdict)
      (cut-is shape P book kernels left ready l (there-of book l links)) ∙ kept-cuts P l verdict keeps
  are-cuts _ links keeps = refl

  ticks-kept : (head : Head) (es : List Effect) → is_of_link (length book.links) head ≡ true
      → may_tick book head es ≡ true → MayTick shape P head es
  ticks-kept (Tick l side) es links is =
      tick-told shape P book kernels left ready l (there-of book l links) side es is
  ticks-kept _ es links is = tt

  kept-ticks : (head : Head) (es : List Effect) → is_of_link (length book.links) head ≡ true
      → MayTick shape P head es → may_tick book head es ≡ true
  kept-ticks (Tick l side) es links may =
      told-tick shape P book kernels left ready l (there-of book l links) side es may
  kept-ticks _ es links may = refl

  -- EACH LAW, of a step whose link is there
  pub tells : (s : Step) → TellLinkLaws shape P book kernels s
  tells s = record {
    links = (links-told s.head, told-links s.head);
    rest = (rest-kept s.head, kept-rest s.head);
    packets = λ links. (
      packets-kept s.head s.effects links,
      kept-packets s.head s.effects links,
    );
    cuts = λ links. (cuts-are s.head links, are-cuts s.head links);
    ticks = λ links. (ticks-kept s.head s.effects links, kept-ticks s.head s.effects links);
  }

pub books-tell : BooksTellLaws
books-tell shape P book kernels left ready s = tells shape P book kernels left ready s
