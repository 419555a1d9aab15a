-- THE SESSIONS THAT A RESTART ENDS, by the book: they are those of the history.
use Rattle.std.proofs.Common.{◌≡◌, ◌≢◌, ℕ, zero, suc, ◌<◌, ◌≤◌, Bool, true, false, List, ◌++◌, length}
use Rattle.std.proofs.Common.{Option, None, refl, sym, ◌∙◌, ap, arith, ◌==◌, eq-eqb, eqb-true}
use Rattle.std.proofs.Common.{true≢false, if◌then◌else◌}
use Rattle.linx_base.specs.declared.frame.LinkDecl.{LinkDecl}
use Rattle.linx_base.specs.declared.identity.LinkNo.{LinkNo}
use Rattle.linx_base.specs.declared.identity.Session.{Session}
use Rattle.linx_base.specs.declared.identity.Side.{Side}
use Rattle.linx_base.specs.declared.identity.Side.TheVariants.{First, Second}
use Rattle.journal.specs.Sessions.{up_session}
use Rattle.journal.specs.declared.effect.Effect.{Effect}
use Rattle.journal.specs.declared.effect.Step.{Step}
use Rattle.journal.proofs.Openings.{IsShort}
use Rattle.link_laws.specs.Ends.{node_at}
use Rattle.link_laws.specs.Laws.{down_if, downs_of, restarting}
use Rattle.link_tables.specs.Sides.{SideSoFar}
use Rattle.link_check.specs.Downs.{downs_in, session_on}
use Rattle.link_check.specs.Lines.{side_in}
use Rattle.link_check.specs.Told.{IsThere, line_in}
use Rattle.link_check.proofs.Told.{side-is}
use Rattle.fabric.proofs.Trunks.NoEnd.{none-off}
use Rattle.journal_check.specs.Tables.{AreLeft, Known, kernel_of, node_there, restart_closings}
use Rattle.journal_check.specs.Tables.{restart_effects}
use Rattle.journal_check.proofs.Books.{book-ready, both-left, home-at}
use Rattle.journal_check.proofs.Nodes.{closings-same}

module _ (P : List Step) (t : Known) (left : AreLeft P t) (few : length P < 4294967294) (n : ℕ)
  where
    module _ (k : ℕ) (within : k < length t.book.links) where
      abbrev l : LinkNo
      l = record { 0 = suc k }

      there : IsThere t.book l
      there = record { above = omega arith; within = omega arith }

      abbrev end_at : Side → ℕ
      end_at side = (node_there t l side).0

      up_at : (side : Side) → (end_at side == n) ≡ true
          → (side_in (line_in t.book l) side).up ≡ up_session P n (suc k)
      up_at side is =
          ap (λ (x : SideSoFar). x.up)
          (side-is t.shape P t.book t.kernels (both-left P t left few) (book-ready P t left few) l there
          side)
          ∙ ap (λ (m : ℕ). up_session P m (suc k)) (eqb-true (end_at side) n is)

      off_at : (side : Side) → (end_at side == n) ≡ false → node_at t.shape l side ≢ n
      off_at side is same =
          true≢false (sym (eq-eqb (end_at side) n (sym (home-at P t left few l there side) ∙ same))
          ∙ is)

      by_tests : (first second : Bool) → (end_at First == n) ≡ first → (end_at Second == n) ≡ second
          → (if first then (side_in (line_in t.book l) First).up
          else (if second then (side_in (line_in t.book l) Second).up else None))
          ≡ up_session P n (suc k)
      by_tests true second is_first is_second = up_at First is_first
      by_tests false true is_first is_second = up_at Second is_second
      by_tests false false is_first is_second =
          sym (none-off t.shape n (suc k) off P left.legal)
        where
          off : (side : Side) → node_at t.shape l side ≢ n
          off First = off_at First is_first
          off Second = off_at Second is_second

      session-same : session_on t.book l n ≡ up_session P n (suc k)
      session-same = by_tests (end_at First == n) (end_at Second == n) refl refl

    downs-first : (k : ℕ) → k ≤ length t.book.links → downs_in t.book n k ≡ downs_of P n k
    downs-first zero within = refl
    downs-first (suc k) within =
        ap (λ (es : List Effect). es
        ++ down_if n (suc k) (session_on t.book (record { 0 = suc k }) n))
        (downs-first k (omega arith))
        ∙ ap (λ (x : Option Session). downs_of P n k ++ down_if n (suc k) x)
        (session-same k (omega arith))

    downs-same : downs_in t.book n (length t.book.links) ≡ downs_of P n (length t.shape.links)
    downs-same =
        downs-first (length t.book.links) (omega arith)
        ∙ ap (λ (links : List LinkDecl). downs_of P n (length links)) left.book.links

    -- THE EFFECTS OF A RESTART by the tables
    pub restart-same : IsShort P → restart_effects t n ≡ restarting t.shape P n
    restart-same short =
        ap (λ (es : List Effect). es ++ restart_closings (kernel_of t.kernels n)) downs-same
        ∙ ap (λ (es : List Effect). downs_of P n (length t.shape.links) ++ es)
        (closings-same P t left short n)
