-- THE TABLES ARE READY for the next step: each kernel takes one more opening.
use Rattle.std.proofs.Common.{◌≡◌, ℕ, suc, ◌+◌, ◌<◌, ◌≤◌, List, [], ◌∷◌, length, map, Some, refl}
use Rattle.std.proofs.Common.{sym, ◌∙◌, ap, subst, arith, add-one, get_or, replicate, Option}
use Rattle.std.proofs.Common.{slice_get}
use Rattle.linx_base.specs.declared.frame.LinkDecl.{LinkDecl}
use Rattle.linx_base.specs.declared.identity.Inc.{Inc}
use Rattle.journal.specs.declared.effect.Step.{Step}
use Rattle.journal.specs.History.{open_endpoints, opened_on}
use Rattle.journal.specs.declared.by.By.TheVariants.{Actor}
use Rattle.journal.specs.Shapes.{Shape, node_by}
use Rattle.journal.proofs.Openings.{IsShort}
use Rattle.link_laws.proofs.Endpoints.Places.{open-few, opened_on-few}
use Rattle.node_kernel.specs.Nodes.{NodeState}
use Rattle.link_check.specs.Books.{BookSoFar, IsBookLeft}
use Rattle.fabric.specs.Remains.{endpoint_left, node_left, AreNodesLeft, IsLaidOut}
use Rattle.fabric.specs.Standings.{empty_nodes}
use Rattle.journal_check.specs.Tables.{AreLeft, HasRoom, IsReady, Known, kernel_of, kernel_of_maker}
use Rattle.journal_check.specs.Tables.{kernel_or_empty}
use Rattle.journal_check.specs.Standings.{AreStandingsLeft, fresh}
use Rattle.journal_check.specs.declared.standing.Standing.{Standing}
use Rattle.fabric.proofs.Standings.Counting.{length-empty_nodes, nodes-left}
use Rattle.journal_check.proofs.Books.{book-ready}
use Rattle.journal_check.proofs.First.{length-standings, standings-left}
use Rattle.journal_check.proofs.Lists.{is-get, within-list}

length-left : (P : List Step) (incs : List Inc) → length (map (endpoint_left P) incs) ≡ length incs
length-left P [] = refl
length-left P (i ∷ incs) = ap suc (length-left P incs)

module _ (P : List Step) (t : Known) (left : AreLeft P t) (few : length P < 4294967294) where
  short : IsShort P
  short = omega arith

  node-room : (n : ℕ) → HasRoom (node_left P (record { 0 = n }))
  node-room n =
      let opened : opened_on P n ≤ length P = opened_on-few t.shape P left.legal n in
      let some : length (open_endpoints P n) ≤ length t.shape.actors =
      open-few t.shape P left.legal short n in
      let all : length (map (endpoint_left P) (open_endpoints P n))
      ≡ length (open_endpoints P n) = length-left P (open_endpoints P n) in
      let actors : length t.shape.actors ≤ 64 = left.laid_out.few in
      record { openings = omega arith; endpoints = omega arith }

  pub ready : IsReady t
  ready = record {
    laid_out = left.laid_out;
    counted = left.counted;
    room = λ n kernel is.
        let there : (let o : Option NodeState = Some kernel in o)
        ≡ Some (node_left P (record { 0 = suc n })) =
        sym is ∙ left.kernels n (within-list t.kernels n kernel is) in
        let same : kernel ≡ node_left P (record { 0 = suc n }) = cc in
        subst HasRoom (sym same) (node-room (suc n));
    book = book-ready P t left few;
  }

-- a book of some links is one of its own
pub own-links : {links : List LinkDecl} {book : BookSoFar} → IsBookLeft [] links book
    → IsBookLeft [] book.links book
own-links {links} {book} left =
    subst (λ (own : List LinkDecl). IsBookLeft [] own book) (sym left.links) left

-- THE FIRST TABLES are those that no step left
pub first-left : (t : Known) (nodes : ℕ) (shape : Shape) → IsLaidOut nodes shape
    → t.shape ≡ shape → t.kernels ≡ empty_nodes nodes
    → t.standings ≡ replicate (length shape.actors) fresh → IsBookLeft [] t.shape.links t.book
    → AreLeft [] t
first-left t nodes shape laid shape_is kernels_are standings_are book_left =
    let count : length t.kernels ≡ nodes =
    ap (λ (xs : List NodeState). length xs) kernels_are ∙ length-empty_nodes nodes in
    record {
      laid_out =
          subst (λ (n : ℕ). IsLaidOut n t.shape) (sym count)
          (subst (IsLaidOut nodes) (sym shape_is) laid);
      counted =
          ap (λ (xs : List Standing). length xs) standings_are
          ∙ length-standings (length shape.actors)
          ∙ ap (λ (x : Shape). length x.actors) (sym shape_is);
      kernels = subst (AreNodesLeft []) (sym kernels_are) (nodes-left nodes);
      standings = subst (AreStandingsLeft []) (sym standings_are)
          (standings-left (length shape.actors));
      book = book_left;
      legal = tt;
    }

-- the kernel at the place of an actor's node is that of its node
pub maker-at : (t : Known) (a home : ℕ) (n : NodeState) → home + 1 ≡ node_by t.shape (Actor a)
    → slice_get t.kernels home ≡ Some n → kernel_of_maker t (Actor a) ≡ n
maker-at t a home n place there =
    ap (λ (x : ℕ). kernel_or_empty (kernel_of t.kernels x)) (sym place ∙ add-one home)
    ∙ ap kernel_or_empty there

-- what is read at a place of the kernels is there
pub kernel-read : (t : Known) (kernels : List NodeState) (home : ℕ) (n : NodeState)
    → kernels ≡ t.kernels → home < length t.kernels → n ≡ get_or kernels home n
    → slice_get t.kernels home ≡ Some n
kernel-read t kernels home n same within is =
    subst (λ (xs : List NodeState). slice_get xs home ≡ Some n) same
    (is-get kernels home n (subst (λ (xs : List NodeState). home < length xs) (sym same) within) is)
