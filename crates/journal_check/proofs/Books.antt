-- THE BOOK AND THE KERNELS of a checker are those that a legal history leaves, and ready for one more
-- step.
use Rattle.std.proofs.Common.{◌≡◌, ℕ, suc, ◌-◌, ◌<◌, ◌≤◌, List, [], ◌∷◌, length, map, Option, Some}
use Rattle.std.proofs.Common.{refl, sym, ◌∙◌, ap, subst, arith}
use Rattle.std.specs.List.{AllByRecursion}
use Rattle.std.specs.Option.{unwrap_or}
use Rattle.linx_base.specs.declared.frame.LinkDecl.{LinkDecl}
use Rattle.linx_base.specs.declared.identity.Inc.{Inc}
use Rattle.linx_base.specs.declared.identity.LinkNo.{LinkNo}
use Rattle.linx_base.specs.declared.identity.NodeNo.{NodeNo}
use Rattle.linx_base.specs.declared.identity.Side.{Side}
use Rattle.journal.specs.History.{name_of, open_endpoints}
use Rattle.journal.specs.declared.effect.Step.{Step}
use Rattle.link_laws.specs.Ends.{node_at}
use Rattle.node_kernel.specs.Nodes.{NodeState, OpenEndpoint, empty_node}
use Rattle.link_check.specs.Orderly.{IsNodeTold}
use Rattle.link_check.specs.Told.{AreLeft as AreBothLeft, IsBetween, IsReady as IsBookReady}
use Rattle.link_check.specs.Told.{IsThere, ends_in}
use Rattle.link_check.proofs.AtLinks.{home-is}
use Rattle.link_check.proofs.Books.{takes-step}
use Rattle.link_check.proofs.Told.{node-is}
use Rattle.fabric.specs.Remains.{IsLink, endpoint_left, node_left}
use Rattle.journal_check.specs.Tables.{AreLeft, Known, kernel_there, node_there}
use Rattle.journal_check.proofs.Lists.{within-list}

-- WHAT A HISTORY LEAVES OF A NODE tells it
pub incs-left : (P : List Step) (incs : List Inc)
    → map (λ (e : OpenEndpoint). e.inc) (map (endpoint_left P) incs) ≡ incs
incs-left P [] = refl
incs-left P (i ∷ incs) = ap (λ l. i ∷ l) (incs-left P incs)

names-left : (P : List Step) (incs : List Inc)
    → AllByRecursion (λ (e : OpenEndpoint). e.name ≡ name_of P e.inc) (map (endpoint_left P) incs)
names-left P [] = tt
names-left P (i ∷ incs) = (refl, names-left P incs)

node-told : (P : List Step) (n : ℕ) → IsNodeTold P n (node_left P (record { 0 = n }))
node-told P n = record {
  open_there = incs-left P (open_endpoints P n);
  names = names-left P (open_endpoints P n);
  hunts = refl;
  met = refl;
}

-- a link of the layout is between two of the nodes
are-between : (nodes : ℕ) (links : List LinkDecl) → AllByRecursion (IsLink nodes) links
    → AllByRecursion (IsBetween nodes) links
are-between nodes [] all = tt
are-between nodes (l ∷ links) all = (
  record {
    first_above = all.0.first.0;
    first_within = all.0.first.1;
    second_above = all.0.second.0;
    second_within = all.0.second.1;
  },
  are-between nodes links all.1,
)

module _ (P : List Step) (t : Known) (left : AreLeft P t) (few : length P < 4294967294) where
  few-links : length t.shape.links < 4294967295
  few-links = let some : length t.shape.links ≤ 32 = left.laid_out.few_links in omega arith

  short : length P < 4294967295
  short = omega arith

  pub book-ready : IsBookReady t.book t.kernels
  book-ready = record {
    takes = takes-step P t.shape.links t.book left.book few-links short;
    between =
        subst (AllByRecursion (IsBetween (length t.kernels))) (sym left.book.links)
        (are-between (length t.kernels) t.shape.links left.laid_out.linked);
  }

  told-by : (n : ℕ) (node : NodeState)
      → (let o : Option NodeState = Some node in o) ≡ Some (node_left P (record { 0 = suc n }))
      → IsNodeTold P (suc n) node
  told-by n node there =
      let same : node ≡ node_left P (record { 0 = suc n }) = cc there in
      subst (IsNodeTold P (suc n)) (sym same) (node-told P (suc n))

  pub both-left : AreBothLeft t.shape P t.book t.kernels
  both-left = record {
    legal = left.legal;
    short = few;
    tables = left.book;
    nodes = λ n node is.
        told-by n node (sym is ∙ left.kernels n (within-list t.kernels n node is));
  }

  -- AT A SIDE of a link that there is
  module _ (l : LinkNo) (there : IsThere t.book l) (side : Side) where
    abbrev home : NodeNo
    home = node_there t l side

    pub home-at : node_at t.shape l side ≡ home.0
    home-at = node-is t.shape P t.book t.kernels both-left book-ready l there side

    pub home-within : (0 < home.0) × (home.0 ≤ length t.kernels)
    home-within = home-is t.book t.kernels book-ready l there side (ends_in t.book l) home refl refl

    -- the kernel is what the history leaves of its node
    pub kernel-at : kernel_there t l side ≡ node_left P home
    kernel-at =
        let above : 0 < home.0 = home-within.0 in
        let within : home.0 ≤ length t.kernels = home-within.1 in
        let back : suc (home.0 - 1) ≡ home.0 = omega arith in
        ap (λ (o : Option NodeState). unwrap_or o (empty_node home))
        (left.kernels (home.0 - 1) (omega arith))
        ∙ ap (λ (k : ℕ). node_left P (record { 0 = k })) back
