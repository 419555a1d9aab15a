-- Jobs are made of passes and players one by one, and what came back is taken apart one by one.
use Rattle.std.proofs.Common.{◌≡◌, List, [], ◌∷◌, ◌++◌, Option, Some, None, refl, sym, ◌∙◌, ap}
use Rattle.std.proofs.Common.{append_assoc, length, arith, option_to_list}
use Rattle.journal.specs.declared.effect.Step.{Step}
use Rattle.turn_lock.specs.Passes.{PassView}
use Rattle.linx_api.specs.Telling.{PlanParts}
use Rattle.stage.specs.declared.player.Player.{Player}
use Rattle.workers.specs.declared.worker.Job.{Job}
use Rattle.workers.specs.declared.worker.Worked.{Worked}
use Rattle.workers.specs.Running.{jobs_with, passes_in, players_in}

-- a list without elements
pub none_of : {X : Type 0} (xs : List X) → length xs ≡ 0 → xs ≡ []
none_of [] none = refl
none_of (x ∷ xs) none = absurd (omega arith)

-- ONE MORE JOB, and those of what is left
pub jobs_more : (done : List Job) (p : PassView Step PlanParts)
    (passes : List (PassView Step PlanParts)) (o : Option Player) (old new : List Player)
    → old ≡ option_to_list o ++ new → (o ≡ None → new ≡ [])
    → (done ++ (let j : Job = record { pass = p; player = o } in j) ∷ []) ++ jobs_with passes new
    ≡ done ++ jobs_with (p ∷ passes) old
jobs_more done p passes (Some q) old new is end =
    append_assoc done _ (jobs_with passes new)
    ∙ ap (λ (l : List Player). done ++ jobs_with (p ∷ passes) l) (sym is)
jobs_more done p passes None old new is end =
    append_assoc done _ (jobs_with passes new)
    ∙ (rw (is, end refl) refl)

-- ONE PASS MORE is back, and those of the rest
pub passes_more : (back : List (PassView Step PlanParts)) (w : Worked) (rest : List Worked)
    → (back ++ w.pass ∷ []) ++ passes_in rest ≡ back ++ passes_in (w ∷ rest)
passes_more back w rest = append_assoc back (w.pass ∷ []) (passes_in rest)

-- and its player, where it has one
pub players_more : (back : List Player) (w : Worked) (player : Player) (rest : List Worked)
    → w.player ≡ Some player
    → (back ++ player ∷ []) ++ players_in rest ≡ back ++ players_in (w ∷ rest)
players_more back w player rest is =
    append_assoc back (player ∷ []) (players_in rest) ∙ (rw is refl)

pub players_still : (w : Worked) (rest : List Worked) → w.player ≡ None
    → players_in (w ∷ rest) ≡ players_in rest
players_still w rest is = rw is refl
