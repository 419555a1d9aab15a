-- The trunks by the numbers of their links.
use Rattle.std.proofs.Common.{ℕ, zero, suc, ◌≡◌, ◌≢◌, ◌<◌, ◌≤◌, ◌-◌, Bool, true, false, List, []}
use Rattle.std.proofs.Common.{◌∷◌, length, get_or, set, refl, sym, ◌∙◌, ap, subst, arith, ◌==◌}
use Rattle.std.proofs.Common.{Option, Some, if◌then◌else◌, slice_get, eq-eqb, eqb-true, true≢false}
use Rattle.std.proofs.Common.{get_or-set_other, get_or-set_same}
use Rattle.linx_base.specs.declared.frame.LinkDecl.{LinkDecl}
use Rattle.linx_base.specs.declared.identity.LinkNo.{LinkNo}
use Rattle.linx_base.specs.declared.identity.Side.{Side}
use Rattle.linx_base.specs.declared.identity.Side.TheVariants.{First, Second}
use Rattle.journal.specs.Shapes.{Shape}
use Rattle.link_laws.specs.Ends.{IsLinkOf, end_of, end_or_0, link_at, node_at}
use Rattle.trunk.specs.Events.{TrunkState}
use Rattle.trunk_moves.specs.Trunks.{AllNew, Become, IsNew, all_do, does, side_if, side_on}
use Rattle.trunk_moves.specs.Trunks.{with_trunk}
use Rattle.run_trunks.specs.Changes.{at_link, each_does, side_with}
use Rattle.run_trunks.specs.Laws.{AreTrunksOf}
use Rattle.run_trunks.specs.States.{AllFit, no_trunk, new_trunks, trunks_of}
use Rattle.run_trunks.proofs.Lists.{get_or-each}

-- THE LINK at a place
slice_get-within : {X : Type 0} (xs : List X) (k : ℕ) (d : X) → k < length xs
    → slice_get xs k ≡ Some (get_or xs k d)
slice_get-within [] k d within = absurd (omega arith)
slice_get-within (x ∷ xs) zero d within = refl
slice_get-within (x ∷ xs) (suc k) d within = slice_get-within xs k d (omega arith)

link_at-place : (shape : Shape) (k : ℕ) (d : LinkDecl) → 0 < k → k ≤ length shape.links
    → link_at shape k ≡ Some (get_or shape.links (k - 1) d)
link_at-place shape zero d above within = absurd (omega arith)
link_at-place shape (suc k) d above within =
    let back : k ≡ suc k - 1 = omega arith in
    slice_get-within shape.links k d (omega arith)
    ∙ ap (λ (j : ℕ). Some (get_or shape.links j d)) back

-- the node at a side of it
pub node_at-place : (shape : Shape) (l : LinkNo) (side : Side) (d : LinkDecl) → IsLinkOf shape l
    → node_at shape l side ≡ end_of (get_or shape.links (l.0 - 1) d) side
node_at-place shape l side d of =
    ap (λ (link : Option LinkDecl). end_or_0 link side) (link_at-place shape l.0 d of.0 of.1)

-- and the side that is on a node
pub side_on-place : (shape : Shape) (n : ℕ) (l : LinkNo) (d : LinkDecl) → IsLinkOf shape l
    → side_on shape n l ≡ side_with n (get_or shape.links (l.0 - 1) d)
side_on-place shape n l d of =
    ap (λ (first : ℕ). side_if (first == n) (node_at shape l Second == n))
    (node_at-place shape l First d of)
    ∙ ap (λ (second : ℕ). side_if (end_of (get_or shape.links (l.0 - 1) d) First == n)
    (second == n)) (node_at-place shape l Second d of)

-- a side that is found on a node has it
pub with-node : (n : ℕ) (link : LinkDecl) (side : Side) → side_with n link ≡ Some side
    → end_of link side ≡ n
with-node n link side = go (end_of link First == n) (end_of link Second == n) refl refl
  where
    go : (first second : Bool) → (end_of link First == n) ≡ first
        → (end_of link Second == n) ≡ second → side_if first second ≡ Some side
        → end_of link side ≡ n
    go true second is_first is_second found =
        let at : First ≡ side = cc in
        subst (λ (s : Side). end_of link s ≡ n) at (eqb-true (end_of link First) n is_first)
    go false true is_first is_second found =
        let at : Second ≡ side = cc in
        subst (λ (s : Side). end_of link s ≡ n) at (eqb-true (end_of link Second) n is_second)
    go false false is_first is_second found = absurd cc

-- WHAT THE SIDES OF A NODE DO
pub all-do : (shape : Shape) (n : ℕ) (act : Side → TrunkState → TrunkState)
    (ts : List TrunkState) → AreTrunksOf shape ts
    → Become shape (trunks_of (each_does shape.links n act ts)) (all_do shape n act (trunks_of ts))
all-do shape n act ts count l of =
    let d : LinkDecl = record {
      first = record { 0 = 0 };
      second = record { 0 = 0 };
      window = 0;
      piece = 0;
    } in
    get_or-each (λ (link : LinkDecl) (t : TrunkState). does (side_with n link) act t) shape.links
    ts (l.0 - 1) d no_trunk (omega (arith, of.0, of.1)) (omega (arith, of.0, of.1, count))
    ∙ ap (λ (side : Option Side). does side act (trunks_of ts l.0))
    (sym (side_on-place shape n l d of))

-- A CHANGE OF ONE TRUNK
pub one-changes : (shape : Shape) (l : LinkNo) (change : TrunkState → TrunkState)
    (ts : List TrunkState) → AreTrunksOf shape ts → IsLinkOf shape l
    → Become shape (trunks_of (at_link l change ts))
    (with_trunk (trunks_of ts) l.0 (change (trunks_of ts l.0)))
one-changes shape l change ts count of m there = go (m.0 == l.0) refl
  where
    go : (b : Bool) → (m.0 == l.0) ≡ b
        → trunks_of (set ts (l.0 - 1) (change (trunks_of ts l.0))) m.0
        ≡ (if m.0 == l.0 then change (trunks_of ts l.0) else trunks_of ts m.0)
    go true e =
        let same : m.0 ≡ l.0 = eqb-true m.0 l.0 e in
        rw e (ap (λ (k : ℕ). trunks_of (set ts (l.0 - 1) (change (trunks_of ts l.0))) k) same
        ∙ get_or-set_same ts (l.0 - 1) (change (trunks_of ts l.0)) no_trunk
        (omega (arith, of.0, of.1, count)))
    go false e =
        let other : m.0 ≢ l.0 = λ same. true≢false (sym (eq-eqb m.0 l.0 same) ∙ e) in
        rw e (get_or-set_other ts (l.0 - 1) (m.0 - 1) (change (trunks_of ts l.0)) no_trunk
        (λ same. other (omega (arith, of.0, there.0, same))))

-- NEW TRUNKS
new-place : (links : List LinkDecl) (k : ℕ) → k < length links → AllFit links
    → IsNew (get_or (new_trunks links) k no_trunk)
new-place [] k within fit = absurd (omega arith)
new-place (link ∷ links) zero within fit = record {
  window = link.window;
  piece = link.piece;
  has_window = fit.0.window;
  has_piece = fit.0.piece.0;
  made = refl;
}
new-place (link ∷ links) (suc k) within fit = new-place links k (omega arith) fit.1

pub all-new : (shape : Shape) → AllFit shape.links
    → AllNew shape (trunks_of (new_trunks shape.links))
all-new shape fit l of = new-place shape.links (l.0 - 1) (omega (arith, of.0, of.1)) fit
