-- The sessions that a restart ends, by the trunks of its node: they are those of the history.
use Rattle.std.proofs.Common.{◌≡◌, ◌≢◌, ℕ, zero, suc, ◌≤◌, Bool, true, false, cond, List, [], ◌∷◌}
use Rattle.std.proofs.Common.{◌++◌, length, is_some, Option, Some, None, refl, sym, ◌∙◌, ap, arith}
use Rattle.std.proofs.Common.{◌==◌, eq-eqb, eqb-true, true≢false}
use Rattle.std.specs.List.{AllByRecursion, list_any}
use Rattle.linx_base.specs.declared.identity.Inc.{Inc}
use Rattle.linx_base.specs.declared.identity.LinkNo.{LinkNo}
use Rattle.linx_base.specs.declared.identity.Session.{Session}
use Rattle.linx_base.specs.declared.identity.Side.{Side}
use Rattle.linx_base.specs.declared.identity.Side.TheVariants.{First, Second}
use Rattle.journal.specs.declared.effect.Effect.{Effect}
use Rattle.journal.specs.declared.effect.Effect.TheVariants.{Down}
use Rattle.journal.specs.Effects.{closings}
use Rattle.journal.specs.History.{closes, last_opened}
use Rattle.journal.specs.Sessions.{up_session}
use Rattle.link_laws.specs.Ends.{IsLinkOf, node_at}
use Rattle.link_laws.specs.Laws.{down_if, downs_of}
use Rattle.run_trunks.specs.States.{over, trunks_of}
use Rattle.trunk.specs.Events.{kept_of}
use Rattle.trunk_record.specs.Records.{session_if}
use Rattle.trunk_moves.specs.Trunks.{RunTrunks, side_if, side_on}
use Rattle.trunk_moves.proofs.Peers.{up-of_side}
use Rattle.fabric.specs.Downs.{downs_on, session_at_if}
use Rattle.fabric.specs.Remains.{IsKept, Parts}
use Rattle.fabric.specs.Run.{Layout}
use Rattle.fabric.specs.Standings.{past_effects}
use Rattle.fabric.specs.declared.standing.Standing.{Standing}
use Rattle.fabric.proofs.AfterStep.LinkSteps.{IsDown}
use Rattle.fabric.proofs.Methods.Runs.{legal-kept, whole-run}
use Rattle.fabric.proofs.Trunks.ToldOfCalls.{side-over}
use Rattle.fabric.proofs.Trunks.NoEnd.{none-off}

-- a session where a peer is
session-is : (peer : Option Session) (x : Session)
    → cond (is_some peer) (Some x) None ≡ session_if peer x
session-is None x = refl
session-is (Some y) x = refl

module _ {f : Layout} {parts : Parts} (kept : IsKept f parts) (n : ℕ) where
  open f use {shape, log.{steps as P}}

  abbrev trunks : RunTrunks
  trunks = trunks_of f.trunks

  module _ (l : LinkNo) (of_shape : IsLinkOf shape l) where
    -- the session of a side on the node
    up_at : (side : Side) → (node_at shape l side == n) ≡ true
        → session_at_if (Some side) (trunks l.0) ≡ up_session P n l.0
    up_at side is =
        session-is (kept_of side (trunks l.0)).now.peer (kept_of side (trunks l.0)).now.session
        ∙ sym (up-of_side shape P trunks (whole-run f parts kept) l of_shape side)
        ∙ ap (λ (m : ℕ). up_session P m l.0) (eqb-true (node_at shape l side) n is)

    by_sides : (first second : Bool) → (node_at shape l First == n) ≡ first
        → (node_at shape l Second == n) ≡ second
        → session_at_if (side_if first second) (trunks l.0) ≡ up_session P n l.0
    by_sides true second is_first is_second = up_at First is_first
    by_sides false true is_first is_second = up_at Second is_second
    by_sides false false is_first is_second =
        sym (none-off shape n l.0 off P (legal-kept f parts kept))
      where
        not_on : (side : Side) → (node_at shape l side == n) ≡ false → node_at shape l side ≢ n
        not_on side is = λ same. true≢false (sym (eq-eqb (node_at shape l side) n same) ∙ is)

        off : (side : Side) → node_at shape l side ≢ n
        off First = not_on First is_first
        off Second = not_on Second is_second

    -- is the one that is up at it
    pub session-there : session_at_if (side_on (over shape.links) n l) (trunks l.0)
        ≡ up_session P n l.0
    session-there =
        ap (λ (o : Option Side). session_at_if o (trunks l.0)) (side-over shape n l)
        ∙ by_sides (node_at shape l First == n) (node_at shape l Second == n) refl refl

  -- THE ENDS of those that are up
  downs-first : (k : ℕ) → k ≤ length shape.links
      → downs_on shape.links n f.trunks k ≡ downs_of P n k
  downs-first zero within = refl
  downs-first (suc k) within =
      ap (λ (es : List Effect). es ++ down_if n (suc k)
      (session_at_if (side_on (over shape.links) n (record { 0 = suc k })) (trunks (suc k))))
      (downs-first k (omega arith))
      ∙ ap (λ (x : Option Session). downs_of P n k ++ down_if n (suc k) x)
      (session-there (record { 0 = suc k }) (omega arith, within))

  pub downs-are : downs_on shape.links n f.trunks (length shape.links)
      ≡ downs_of P n (length shape.links)
  downs-are = downs-first (length shape.links) (omega arith)

-- THEY OPEN AND CLOSE NONE
pub closings-open_none : (e : Option Inc) (incs : List Inc) → last_opened e (closings incs) ≡ e
closings-open_none e [] = refl
closings-open_none e (i ∷ incs) = closings-open_none e incs

pub downs-open_none : (e : Option Inc) (ds : List Effect) → AllByRecursion IsDown ds
    → (rest : List Effect) → last_opened e (ds ++ rest) ≡ last_opened e rest
downs-open_none e [] all rest = refl
downs-open_none e (Down n l x ∷ ds) all rest = downs-open_none e ds all.1 rest
downs-open_none e (_ ∷ ds) all rest = absurd all.0

closes-past : (i : Inc) (ds : List Effect) → AllByRecursion IsDown ds → (rest : List Effect)
    → list_any (closes i) (ds ++ rest) ≡ list_any (closes i) rest
closes-past i [] all rest = refl
closes-past i (Down n l x ∷ ds) all rest = closes-past i ds all.1 rest
closes-past i (_ ∷ ds) all rest = absurd all.0

-- so what is past them is past what follows them
pub past-downs : (k : ℕ) (ds : List Effect) → AllByRecursion IsDown ds → (rest : List Effect)
    (standing : Standing) → past_effects k (ds ++ rest) standing ≡ past_effects k rest standing
past-downs k ds all rest standing = by_endpoint standing.endpoint refl
  where
    by_endpoint : (e : Option Inc) → standing.endpoint ≡ e
        → past_effects k (ds ++ rest) standing ≡ past_effects k rest standing
    by_endpoint None is = rw is refl
    by_endpoint (Some i) is = rw (is, closes-past i ds all rest) refl
