-- WHAT IS DEALT comes back: the jobs of a new lock are ready, and a stage can go on from what their
-- workers leave.
use Rattle.std.proofs.Common.{◌≡◌, ℕ, zero, suc, ◌<◌, ◌≤◌, ◌+◌, List, [], ◌∷◌, length, All, Option}
use Rattle.std.proofs.Common.{Some, None, true, refl, sym, ◌∙◌, ap, subst, arith, slice_get}
use Rattle.std.proofs.lemmas.List.{length-map}
use Rattle.std.proofs.lemmas.List.Elements.{All-nil}
use Rattle.std.proofs.lemmas.Option.{get_or_from_slice_get}
use Rattle.journal.specs.declared.effect.Step.{Step}
use Rattle.script_lang.specs.Fits.{IsScript}
use Rattle.script_lang.specs.Parts.{ScriptParts}
use Rattle.turn_lock.specs.Passes.{AreDealt, IsLeastMissing, IsPassOf, LockView, PassView}
use Rattle.turn_lock.specs.Passes.{new_pass, own_steps}
use Rattle.turn_lock.specs.Stories.{AllMadeUpTo, RestsFor, made_by}
use Rattle.turn_lock.proofs.Back.{AreBack, back_fixed, back_of_lock, dealt_at, none_missing}
use Rattle.fabric.specs.Run.{IsReachedBy, Layout}
use Rattle.linx_api.specs.Telling.{PlanParts, plan_of, story_of}
use Rattle.stage.specs.declared.player.Player.{Player}
use Rattle.stage.specs.Seats.{IsStaged, unstarted}
use Rattle.stage.specs.Turns.{first_layout, is_over, makers, shape_of}
use Rattle.stage.proofs.Rounds.Seats.{seat_of, staged-first, unstarted-seated}
use Rattle.workers.specs.declared.worker.Job.{Job}
use Rattle.workers.specs.declared.worker.Worked.{Worked}
use Rattle.workers.specs.Running.{AreFinished, AreShares, jobs_with, passes_in, players_in}
use Rattle.workers.specs.Working.{AreWorkedJobs, IsPlayedBy, IsReadyJob, IsWorking, plan_for}
use Rattle.workers.proofs.Closing.{back-in, closed-over, closed-shares, closed-staged, jobs-back}
use Rattle.workers.proofs.Closing.{passes_of, within-of}

-- ---- what is dealt

-- the passes of the jobs are those that were dealt
jobs-passes : (passes : List (PassView Step PlanParts)) (players : List Player)
    → passes_of (jobs_with passes players) ≡ passes
jobs-passes [] players = refl
jobs-passes (p ∷ rest) [] = ap (λ l. p ∷ l) (jobs-passes rest [])
jobs-passes (p ∷ rest) (q ∷ others) = ap (λ l. p ∷ l) (jobs-passes rest others)

-- no player stands in an empty list
none-there : (i : ℕ) → (let l : List Player = [] in slice_get l (suc i) ≡ slice_get l i)
none-there zero = refl
none-there (suc i) = refl

-- at a place are the pass and the player of that place
job-at : (passes : List (PassView Step PlanParts)) (players : List Player) (i : ℕ) (job : Job)
    → slice_get (jobs_with passes players) i ≡ Some job
    → (slice_get passes i ≡ Some job.pass) × (slice_get players i ≡ job.player)
job-at [] players zero job is = cc
job-at [] players (suc i) job is = cc
job-at (p ∷ rest) [] zero job is =
    let it : (let j : Job = record { pass = p; player = None } in j) ≡ job = cc in
    (ap (λ (j : Job). Some j.pass) it, ap (λ (j : Job). j.player) it)
job-at (p ∷ rest) [] (suc i) job is =
    let at = job-at rest [] i job is in
    (at.0, none-there i ∙ at.1)
job-at (p ∷ rest) (q ∷ others) zero job is =
    let it : (let j : Job = record { pass = p; player = Some q } in j) ≡ job = cc in
    (ap (λ (j : Job). Some j.pass) it, ap (λ (j : Job). j.player) it)
job-at (p ∷ rest) (q ∷ others) (suc i) job is = job-at rest others i job is

-- where nothing stands is behind the end
behind-of : {X : Type 0} (xs : List X) (i : ℕ) → slice_get xs i ≡ None → length xs ≤ i
behind-of [] i none = omega arith
behind-of (x ∷ xs) zero none = cc
behind-of (x ∷ xs) (suc i) none = let less = behind-of xs i none in omega arith

module _ (script : ScriptParts) where
  -- a player before its first turn is between two turns
  fresh-played : (i : ℕ) (o : Option Player) → slice_get (unstarted script.actors) i ≡ o
      → IsPlayedBy script [] (suc i) o
  fresh-played i None is =
      let behind : length (unstarted script.actors) ≤ i =
      behind-of (unstarted script.actors) i is in
      let many : length (unstarted script.actors) ≡ length script.actors =
      length-map script.actors _ in
      omega arith
  fresh-played i (Some player) is =
      let within : i < length (unstarted script.actors) =
      within-of (unstarted script.actors) i player is in
      let many : length (unstarted script.actors) ≡ length script.actors =
      length-map script.actors _ in
      (omega arith, unstarted-seated script i player is)

-- how many makers a fabric without steps has
pub makers_of : (script : ScriptParts) (f : Layout) → f ≡ first_layout script
    → (length f.shape.actors + length f.shape.links ≡ makers script)
    × (length f.shape.links ≡ length script.links)
makers_of script f is =
    let actors : length f.shape.actors ≡ length script.actors =
    ap (λ (g : Layout). length g.shape.actors) is ∙ length-map script.actors _ in
    let links : length f.shape.links ≡ length script.links =
    ap (λ (g : Layout). length g.shape.links) is in
    (omega arith, links)

-- a stage can start on it
pub first_staged : (script : ScriptParts) (f : Layout) (players : List Player)
    → IsScript script → f ≡ first_layout script → players ≡ unstarted script.actors
    → IsStaged script f players
first_staged = staged-first

-- where there is no maker, all is over, and there is no share
pub none_over : (script : ScriptParts) (f : Layout) → f ≡ first_layout script
    → makers script ≡ 0 → is_over f ≡ true
none_over script f is none =
    let actors : length (shape_of script).actors ≡ 0 =
    let count : length (shape_of script).actors ≡ length script.actors =
    length-map script.actors _ in omega arith in
    let links : length script.links ≡ 0 = omega arith in
    subst (λ (g : Layout). is_over g ≡ true) (sym is) (rw (actors, links) refl)

pub none_shares : (script : ScriptParts) (f : Layout) (passes : List (PassView Step PlanParts))
    → f ≡ first_layout script → makers script ≡ 0 → passes ≡ [] → AreShares script f passes
none_shares script f passes is none empty =
    subst (AreShares script f) (sym empty)
    (subst (λ (g : Layout). AreShares script g []) (sym is) (record {
      many = sym none;
      each = λ k p at. cc;
      makers_only = All-nil _;
    }))

module _ (script : ScriptParts) (shared : Layout) (bare : shared ≡ first_layout script)
    (lock : LockView) (seats : lock.seats ≡ makers script) (passes : List (PassView Step PlanParts))
    (fresh : AreDealt lock (plan_of shared) passes) (players : List Player)
    (started : players ≡ unstarted script.actors) (jobs : List Job)
    (given : jobs ≡ jobs_with passes players) where
  dealt : AreDealt lock (plan_for script) passes
  dealt = subst (λ (f : Layout). AreDealt lock (plan_of f) passes) bare fresh

  dealt-passes : passes_of jobs ≡ passes
  dealt-passes = ap (λ (l : List Job). passes_of l) given ∙ jobs-passes passes players

  jobs-many : length jobs ≡ makers script
  jobs-many =
      sym (length-map jobs (λ (j : Job). j.pass))
      ∙ ap (λ (l : List (PassView Step PlanParts)). length l) dealt-passes ∙ dealt.0 ∙ seats

  ready-at : (i : ℕ) (job : Job) → slice_get jobs i ≡ Some job → IsReadyJob lock script job
  ready-at i job is =
      let new : PassView Step PlanParts = new_pass lock.id (plan_for script) (i + 1) in
      let within : i < length jobs = within-of jobs i job is in
      let many : length jobs ≡ lock.seats = jobs-many ∙ sym seats in
      let at = job-at passes players i job
      (subst (λ (l : List Job). slice_get l i ≡ Some job) given is) in
      let first : job.pass ≡ new =
      sym (get_or_from_slice_get passes i job.pass new at.0)
      ∙ dealt_at lock (plan_for script) passes passes dealt i new (omega arith) in
      let played : IsPlayedBy script [] (suc i) job.player =
      fresh-played script i job.player
      (subst (λ (l : List Player). slice_get l i ≡ job.player) started at.1) in
      let next : suc i ≡ i + 1 = omega arith in
      let working : IsWorking script new job.player = record {
        fixed = refl;
        above = omega arith;
        within = omega arith;
        played = subst (λ (n : ℕ). IsPlayedBy script [] n job.player) next played;
        planned = tt;
      } in
      record {
        of_lock = ap (λ (p : PassView Step PlanParts). p.lock) first;
        working = subst (λ (p : PassView Step PlanParts). IsWorking script p job.player)
            (sym first) working;
        fresh = ap (λ (p : PassView Step PlanParts). p.front) first;
      }

  -- THE JOBS OF A NEW LOCK ARE READY
  pub jobs_ready : All (IsReadyJob lock script) jobs
  jobs_ready i default within =
      let there = seat_of jobs i within in
      subst (IsReadyJob lock script)
      (sym (get_or_from_slice_get jobs i there.0 default there.1)) (ready-at i there.0 there.1)

  -- ---- what comes back

  module _ (all : List Worked) (worked : AreWorkedJobs script jobs all)
      (back : List (PassView Step PlanParts)) (kept : back ≡ passes_in all) where
    jobs-dealt : AreDealt lock (plan_for script) (passes_of jobs)
    jobs-dealt = subst (AreDealt lock (plan_for script)) (sym dealt-passes) dealt

    all-back : AreBack (passes_of jobs) back
    all-back = subst (AreBack (passes_of jobs)) (sym kept) (jobs-back script jobs all worked)

    -- the passes are of the lock
    pub came_of_lock : All (IsPassOf lock) back
    came_of_lock = back_of_lock lock (plan_for script) (passes_of jobs) back jobs-dealt all-back

    -- and none is missing
    pub came_all : (n : ℕ) → IsLeastMissing lock back n → ⊥
    came_all = none_missing lock (plan_for script) (passes_of jobs) back jobs-dealt all-back

    came-many : length all ≡ makers script
    came-many = worked.many ∙ jobs-many

    -- what they know of is the plan of the script
    came-plan : (f : Layout) → 0 < makers script
        → All (λ (p : PassView Step PlanParts). plan_of f ≡ p.fixed) back
        → plan_of f ≡ plan_for script
    came-plan f some fixed =
        let many = came-many in
        let long : length back ≡ length all =
        ap (λ (l : List (PassView Step PlanParts)). length l) kept
        ∙ length-map all (λ (w : Worked). w.pass) in
        let any : PassView Step PlanParts = new_pass lock.id (plan_for script) 1 in
        fixed 0 any (omega arith)
        ∙ back_fixed lock (plan_for script) (passes_of jobs) back jobs-dealt all-back 0
        any (omega arith)

    -- where all are finished, all is over
    pub came_over : 0 < makers script → (f : Layout)
        → All (λ (p : PassView Step PlanParts). plan_of f ≡ p.fixed) back
        → All (λ (p : PassView Step PlanParts). RestsFor p.number (story_of f) p.front) back
        → (left : Layout) → left ≡ f → IsReachedBy left → AreFinished all → is_over left ≡ true
    came_over some f fixed rests left same reached finished =
        subst (λ (g : Layout). is_over g ≡ true) (sym same)
        (closed-over script all came-many
        (back-in script jobs all worked lock (plan_for script) jobs-dealt) f
        (subst (λ (l : List (PassView Step PlanParts)).
        All (λ (p : PassView Step PlanParts). RestsFor p.number (story_of f) p.front) l)
        kept rests)
        (came-plan f some fixed) finished (subst IsReachedBy same reached))

    -- each maker has its share
    pub came_shares : 0 < makers script → (f : Layout)
        → All (λ (p : PassView Step PlanParts). plan_of f ≡ p.fixed) back
        → All (λ (p : PassView Step PlanParts). RestsFor p.number (story_of f) p.front) back
        → All (λ (p : PassView Step PlanParts). made_by p.number (story_of f) ≡ own_steps p) back
        → AllMadeUpTo lock.seats (story_of f)
        → (left : Layout) → left ≡ f → AreShares script left back
    came_shares some f fixed rests own made left same =
        subst (λ (g : Layout). AreShares script g back) (sym same)
        (subst (AreShares script f) (sym kept)
        (closed-shares script all came-many
        (back-in script jobs all worked lock (plan_for script) jobs-dealt) f
        (subst (λ (l : List (PassView Step PlanParts)).
        All (λ (p : PassView Step PlanParts). RestsFor p.number (story_of f) p.front) l)
        kept rests)
        (came-plan f some fixed)
        (subst (λ (l : List (PassView Step PlanParts)).
        All (λ (p : PassView Step PlanParts). made_by p.number (story_of f) ≡ own_steps p) l)
        kept own)
        (subst (λ (n : ℕ). AllMadeUpTo n (story_of f)) seats made)))

    -- SO A STAGE CAN GO ON
    pub came_staged : IsScript script → 0 < makers script → (f : Layout)
        → All (λ (p : PassView Step PlanParts). plan_of f ≡ p.fixed) back
        → All (λ (p : PassView Step PlanParts). RestsFor p.number (story_of f) p.front) back
        → AllMadeUpTo lock.seats (story_of f)
        → (left : Layout) → left ≡ f
        → IsReachedBy left → (others : List Player) → others ≡ players_in all
        → IsStaged script left others
    came_staged declared some f fixed rests made left same reached others are =
        subst (λ (l : List Player). IsStaged script left l) (sym are)
        (subst (λ (g : Layout). IsStaged script g (players_in all)) (sym same)
        (closed-staged script all came-many
        (back-in script jobs all worked lock (plan_for script) jobs-dealt) f
        (subst (λ (l : List (PassView Step PlanParts)).
        All (λ (p : PassView Step PlanParts). RestsFor p.number (story_of f) p.front) l)
        kept rests)
        (came-plan f some fixed) declared
        (subst (λ (n : ℕ). AllMadeUpTo n (story_of f)) seats made)
        (subst IsReachedBy same reached)))
