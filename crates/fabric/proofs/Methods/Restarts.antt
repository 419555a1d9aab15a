-- A restart as the fabric's method makes it: its node may be another than its maker's.
use Rattle.std.proofs.Common.{◌≡◌, ◌≢◌, ℕ, zero, suc, ◌+◌, ◌<◌, ◌≤◌, Bool, true, false, List, []}
use Rattle.std.proofs.Common.{◌∷◌, ◌++◌, cond, length, map, Option, Some, None, get_or, refl, sym}
use Rattle.std.proofs.Common.{◌∙◌, ap, subst, add-one, arith, ◌==◌, ◌-◌, slice_get, slice_set}
use Rattle.std.proofs.Common.{eq-eqb, eqb-true, ne_eqb, true≢false}
use Rattle.std.specs.List.{AllByRecursion}
use Rattle.linx_base.specs.declared.identity.Inc.{Inc}
use Rattle.linx_base.specs.declared.identity.NodeNo.{NodeNo}
use Rattle.linx_base.specs.declared.identity.Side.{Side}
use Rattle.journal.specs.declared.by.By.TheVariants.{Actor}
use Rattle.journal.specs.declared.effect.Effect.{Effect}
use Rattle.journal.specs.declared.effect.Step.{Step}
use Rattle.journal.specs.declared.event.Event.TheVariants as asks
use Rattle.journal.specs.declared.head.Head.TheVariants as heads
use Rattle.journal.specs.Effects.{closings}
use Rattle.journal.specs.History.{endpoint_of, is_by, open_endpoints, unless_closed}
use Rattle.journal.specs.Logs.{Log}
use Rattle.link_laws.specs.Laws.{downs_of}
use Rattle.link_laws.specs.Sessions.{boots, restarts}
use Rattle.node_kernel.specs.declared.answers.StepAnswer.TheVariants as answers
use Rattle.node_kernel.specs.Calls.{after_restart}
use Rattle.node_kernel.specs.Nodes.{NodeState, OpenEndpoint}
use Rattle.run_trunks.specs.Changes.{each_does}
use Rattle.run_trunks.specs.Laws.{AreTrunksOf}
use Rattle.run_trunks.specs.States.{trunks_of}
use Rattle.run_trunks.proofs.Lists.{length-each}
use Rattle.run_trunks.proofs.Numbered.{all-do}
use Rattle.trunk.specs.Events.{TrunkState, restarted_at}
use Rattle.trunk_moves.specs.Steps.{IsTrunkStep}
use Rattle.fabric.specs.declared.standing.Standing.{Standing}
use Rattle.fabric.specs.Actings.{HasMade}
use Rattle.fabric.specs.Downs.{downs_on}
use Rattle.fabric.specs.Links.{line_left}
use Rattle.fabric.specs.Machine.{signal_in}
use Rattle.fabric.specs.Remains.{AreBootsLeft, AreStandingsLeft, IsKept, Parts, endpoint_left}
use Rattle.fabric.specs.Remains.{node_left, standing_left}
use Rattle.fabric.specs.Run.{Layout}
use Rattle.fabric.specs.Standings.{past_effects}
use Rattle.fabric.proofs.AfterStep.LinkSteps.{IsDown}
use Rattle.fabric.proofs.AfterStep.NodeAtALink.{node-restart}
use Rattle.fabric.proofs.Trunks.Downs.{closings-open_none, downs-are, downs-open_none, past-downs}
use Rattle.fabric.proofs.Methods.Keeps.{get-set, get-set-other, kept-next, length-set, same-left}
use Rattle.fabric.proofs.Methods.Keeps.{set-left}
use Rattle.fabric.proofs.Methods.Legal.{IsLawful, granted-lawful, granted-plain, made_by}
use Rattle.fabric.proofs.Trunks.Lines.{line-apart}
use Rattle.fabric.proofs.Trunks.LivingPeers.{downs-are_downs}
use Rattle.fabric.proofs.Methods.StepsOnLinks.{kernels-set, laid}
use Rattle.fabric.proofs.Standings.KernelAndStanding.{Acts, before, get-is, length-mapped}
use Rattle.fabric.proofs.Methods.Runs.{legal-kept}
use Rattle.fabric.proofs.Standings.AfterStep.{standing_past}

incs-left : (P : List Step) (incs : List Inc)
    → map (λ (e : OpenEndpoint). e.inc) (map (endpoint_left P) incs) ≡ incs
incs-left P [] = refl
incs-left P (i ∷ incs) = ap (λ l. i ∷ l) (incs-left P incs)

get-map : {X Y : Type 0} (f : X → Y) (xs : List X) (k : ℕ) (x : X) → slice_get xs k ≡ Some x
    → slice_get (map f xs) k ≡ Some (f x)
get-map f [] k x is = cc
get-map f (y ∷ xs) zero x is = let same : y ≡ x = cc in ap (λ z. Some (f z)) same
get-map f (y ∷ xs) (suc k) x is = get-map f xs k x is

-- a node boots at most as often as there are steps
boots-few : (P : List Step) (n : ℕ) → boots P n ≤ length P
boots-few [] n = omega arith
boots-few (s ∷ P) n = by_test (restarts n s.head) (boots-few P n)
  where
    by_test : (b : Bool) → boots P n ≤ length P
        → cond b (suc (boots P n)) (boots P n) ≤ suc (length P)
    by_test true few = omega arith
    by_test false few = omega arith

-- A NODE of a kept fabric
module _ {f : Layout} {parts : Parts} (kept : IsKept f parts) (n : NodeNo) (above : 0 < n.0)
    (below : n.0 ≤ length f.log.names.nodes) where
  back : suc (n.0 - 1) ≡ n.0
  back = omega arith

  pub node-there : n.0 - 1 < length parts.kernels
  node-there = omega (arith, above, below, kept.counted.kernels)

  pub boot-there : n.0 - 1 < length parts.booted
  boot-there = omega (arith, above, below, kept.counted.booted)

  pub kernel-of : (kernel : NodeState) → kernel ≡ get_or parts.kernels (n.0 - 1) kernel
      → kernel ≡ node_left f.log.steps n
  kernel-of kernel is =
      is ∙ get-is parts.kernels (n.0 - 1) kernel
      (node_left f.log.steps (record { 0 = suc (n.0 - 1) }))
      (kept.left.kernels (n.0 - 1) node-there)
      ∙ ap (λ (k : ℕ). node_left f.log.steps (record { 0 = k })) back

  pub boot-of : (d : ℕ) → get_or parts.booted (n.0 - 1) d ≡ 1 + boots f.log.steps n.0
  boot-of d =
      get-is parts.booted (n.0 - 1) d (1 + boots f.log.steps (suc (n.0 - 1)))
      (kept.left.booted (n.0 - 1) boot-there)
      ∙ ap (λ (k : ℕ). 1 + boots f.log.steps k) back

  -- one more boot of it fits
  pub boot-fits : (d : ℕ) → get_or parts.booted (n.0 - 1) d + 1 < 4294967296
  boot-fits d = omega (arith, boot-of d, boots-few f.log.steps n.0, kept.short)

-- THE RESTART of a node
module _ {f : Layout} {parts : Parts} {actor place own_home : ℕ}
    (acts : Acts f parts actor place own_home) (n : NodeNo) (above : 0 < n.0)
    (below : n.0 ≤ length f.log.names.nodes) where
  open f use {shape, log.{steps as P}}
  open acts use {at, at.{kept}}
  open before acts use {now}

  -- what it closes
  abbrev closed : List Effect
  closed = closings (open_endpoints P n.0)

  -- after the sessions that it ends
  abbrev ended : List Effect
  ended = downs_of P n.0 (length shape.links)

  are_downs : AllByRecursion IsDown ended
  are_downs = downs-are_downs P n.0 (length shape.links)

  abbrev restarted : Step
  restarted = made_by (length f.log.names.nodes) shape P (trunks_of f.trunks) actor acts.maker acts.room
      (heads.Restart n)

  lawful : IsLawful (length f.log.names.nodes) shape P (trunks_of f.trunks) restarted
  lawful =
      granted-lawful (length f.log.names.nodes) shape P (trunks_of f.trunks) actor acts.maker acts.room
      (asks.Restart n)
      (signal_in None) (granted-plain (endpoint_of P actor) (asks.Restart n) refl refl) tt
      (omega arith) (above, below)

  -- its sides boot again
  abbrev becomes : ℕ → List TrunkState
  becomes boot = each_does shape.links n.0 (λ (side : Side). restarted_at side boot) f.trunks

  run-step : IsTrunkStep shape P (trunks_of f.trunks) restarted
      (trunks_of (becomes (2 + boots P n.0)))
  run-step = record {
    laws = lawful.laws;
    makes = all-do shape n.0 (λ (side : Side). restarted_at side (2 + boots P n.0)) f.trunks
        kept.counted.trunks;
  }

  -- the boots
  boots-after : (boot : ℕ) → boot ≡ 2 + boots P n.0
      → AreBootsLeft (restarted ∷ P) (slice_set parts.booted (n.0 - 1) boot)
  boots-after boot is =
      let more : 2 + boots P n.0 ≡ 1 + suc (boots P n.0) = omega arith in
      set-left (λ k. 1 + boots P k) (λ k. 1 + boots (restarted ∷ P) k) parts.booted
      kept.left.booted (n.0 - 1)
      (λ k other. ap (λ (b : Bool). 1 + cond b (suc (boots P (suc k))) (boots P (suc k)))
      (ne_eqb n.0 (suc k) (λ same. other (omega (arith, same)))))
      boot (boot-there kept n above below)
      (is ∙ more ∙ sym (ap (λ (b : Bool). 1 + cond b (suc (boots P n.0)) (boots P n.0))
      (eq-eqb n.0 n.0 refl))
      ∙ ap (λ (k : ℕ). 1 + boots (restarted ∷ P) k) (sym (back kept n above below)))

  -- the standings
  abbrev past : Standing → Standing
  past = past_effects now closed

  standings-after : (then : Standing)
      → then ≡ record (past (standing_left P actor)) { waits = None }
      → AreStandingsLeft (restarted ∷ P) (slice_set (map past parts.standings) place then)
  standings-after then then_is m under = go (place == m) refl
    where
      within : m < length parts.standings
      within = omega (
        arith,
        under,
        length-set (map past parts.standings) place then,
        length-mapped past parts.standings,
      )

      own_is : then ≡ standing_left (restarted ∷ P) actor
      own_is =
          then_is
          ∙ ap (λ (s : Standing). let t : Standing = record s { waits = None } in t)
          (sym (past-downs now ended are_downs closed (standing_left P actor)))
          ∙ ap (λ (e : Option Inc). let s : Standing = record
          (past_effects now (ended ++ closed) (standing_left P actor))
          { endpoint = unless_closed (ended ++ closed) e; waits = None } in s)
          (sym (downs-open_none (endpoint_of P actor) ended are_downs closed
          ∙ closings-open_none (endpoint_of P actor) (open_endpoints P n.0)))
          ∙ ap (λ (b : Bool). standing_past b now (heads.Restart n) (ended ++ closed)
          (standing_left P actor)) (sym (eq-eqb actor actor refl))

      go : (b : Bool) → (place == m) ≡ b
          → slice_get (slice_set (map past parts.standings) place then) m
          ≡ Some (standing_left (restarted ∷ P) (suc m))
      go true e =
          let same : place ≡ m = eqb-true place m e in
          subst (λ (x : ℕ). slice_get (slice_set (map past parts.standings) place then) x
          ≡ Some (standing_left (restarted ∷ P) (suc x))) same
          (get-set (map past parts.standings) place then
          (omega (arith, at.inside, length-mapped past parts.standings))
          ∙ ap (λ (s : Standing). Some s) (own_is ∙ ap (standing_left (restarted ∷ P)) at.own))
      go false e =
          let other : place ≢ m = λ same. true≢false (sym (eq-eqb place m same) ∙ e) in
          let apart : is_by (Actor actor) (suc m) ≡ false = ap (λ (a : ℕ). a == suc m) at.own
          ∙ ne_eqb (suc place) (suc m) (λ same. other (omega arith)) in
          get-set-other (map past parts.standings) place m then other
          ∙ get-map past parts.standings m (standing_left P (suc m))
          (kept.left.standings m within)
          ∙ ap (λ (s : Standing). Some s)
          (sym (past-downs now ended are_downs closed (standing_left P (suc m))))
          ∙ ap (λ (b : Bool). Some (standing_past b now (heads.Restart n) (ended ++ closed)
          (standing_left P (suc m)))) (sym apart)

  -- WHAT IT MAKES
  pub made-restart : (kernel next : NodeState)
      → kernel ≡ get_or parts.kernels (n.0 - 1) kernel → next ≡ after_restart kernel
      → (d boot : ℕ) → boot ≡ get_or parts.booted (n.0 - 1) d + 1
      → (downs : List Effect)
      → downs ≡ downs_on shape.links n.0 f.trunks (length shape.links)
      → (lost : List Standing)
      → lost ≡ map (past_effects (length P + 1)
      (closings (map (λ (e : OpenEndpoint). e.inc) kernel.endpoints))) parts.standings
      → (standing then : Standing) → standing ≡ get_or lost place standing
      → then ≡ record standing { waits = None }
      → (new : Log) → new ≡ record f.log {
        steps = record {
          by = Actor actor;
          head = heads.Restart n;
          effects = downs
              ++ closings (map (λ (e : OpenEndpoint). e.inc) kernel.endpoints);
        } ∷ P;
      }
      → (after : List TrunkState)
      → after ≡ each_does shape.links n.0 (λ (side : Side). restarted_at side boot) f.trunks
      → IsKept (laid f new after) (record parts {
        kernels = slice_set parts.kernels (n.0 - 1) next;
        booted = slice_set parts.booted (n.0 - 1) boot;
        standings = slice_set lost place then;
      })
      × HasMade f (laid f new after) actor (record { event = asks.Restart n; hand = None })
      answers.Done
  made-restart kernel next is next_eq d boot boot_eq downs downs_eq lost lost_eq standing then
      stands then_eq new new_eq after after_eq =
      let kernel_is : kernel ≡ node_left P n = kernel-of kept n above below kernel is in
      let closed_is : closings (map (λ (e : OpenEndpoint). e.inc) kernel.endpoints) ≡ closed =
      ap (λ (k : NodeState). closings (map (λ (e : OpenEndpoint). e.inc) k.endpoints)) kernel_is
      ∙ ap closings (incs-left P (open_endpoints P n.0)) in
      let boot_is : boot ≡ 2 + boots P n.0 =
      let was : get_or parts.booted (n.0 - 1) d ≡ 1 + boots P n.0 = boot-of kept n above below d in
      omega arith in
      let lost_is : lost ≡ map past parts.standings =
      lost_eq ∙ ap (λ (k : ℕ). map (past_effects k
      (closings (map (λ (e : OpenEndpoint). e.inc) kernel.endpoints))) parts.standings)
      (add-one (length P))
      ∙ ap (λ (es : List Effect). map (past_effects now es) parts.standings) closed_is in
      let was : standing ≡ past (standing_left P actor) =
      stands ∙ ap (λ (xs : List Standing). get_or xs place standing) lost_is
      ∙ get-is (map past parts.standings) place standing (past (standing_left P (suc place)))
      (get-map past parts.standings place (standing_left P (suc place))
      (kept.left.standings place at.inside))
      ∙ ap (λ (a : ℕ). past (standing_left P a)) (sym at.own) in
      let then_is : then ≡ record (past (standing_left P actor)) { waits = None } =
      then_eq ∙ ap (λ (s : Standing). let t : Standing = record s { waits = None } in t) was in
      let logged : new ≡ record f.log { steps = restarted ∷ P } =
      new_eq ∙ ap (λ (ds : List Effect). let l : Log = record f.log {
        steps = record {
          by = Actor actor;
          head = heads.Restart n;
          effects = ds ++ closings (map (λ (e : OpenEndpoint). e.inc) kernel.endpoints);
        } ∷ P;
      } in l) (downs_eq ∙ downs-are kept n.0)
      ∙ ap (λ (cs : List Effect). let l : Log = record f.log {
        steps = record { by = Actor actor; head = heads.Restart n; effects = ended ++ cs } ∷ P;
      } in l) closed_is in
      let left : next ≡ node_left (restarted ∷ P) (record { 0 = suc (n.0 - 1) }) =
      next_eq ∙ ap after_restart kernel_is
      ∙ sym (node-restart shape P (legal-kept f parts kept) at.short (Actor actor) n above)
      ∙ ap (λ (k : ℕ). node_left (restarted ∷ P) (record { 0 = k })) (sym (back kept n above below))
      in
      let trunks_are : after ≡ becomes (2 + boots P n.0) = after_eq ∙ ap becomes boot_is in
      let step : IsTrunkStep shape P (trunks_of f.trunks) restarted (trunks_of after) =
      subst (λ (ts : List TrunkState). IsTrunkStep shape P (trunks_of f.trunks) restarted
      (trunks_of ts)) (sym trunks_are) run-step in
      let count : AreTrunksOf shape after =
      ap (λ (ts : List TrunkState). length ts) after_eq
      ∙ length-each _ shape.links f.trunks ∙ kept.counted.trunks in (
        subst (λ (l : Log). IsKept (laid f l after) (record parts {
          kernels = slice_set parts.kernels (n.0 - 1) next;
          booted = slice_set parts.booted (n.0 - 1) boot;
          standings = slice_set lost place then;
        })) (sym logged)
            (subst (λ (xs : List Standing). IsKept
            (laid f (record f.log { steps = restarted ∷ P }) after) (record parts {
              kernels = slice_set parts.kernels (n.0 - 1) next;
              booted = slice_set parts.booted (n.0 - 1) boot;
              standings = slice_set xs place then;
            })) (sym lost_is)
            (kept-next f parts restarted after _ kept acts.short step lawful.made
            (record {
              kernels = length-set parts.kernels (n.0 - 1) next ∙ kept.counted.kernels;
              booted = length-set parts.booted (n.0 - 1) boot ∙ kept.counted.booted;
              standings = length-set (map past parts.standings) place then
                  ∙ length-mapped past parts.standings ∙ kept.counted.standings;
              lines = kept.counted.lines;
              trunks = count;
            })
            (record {
              kernels = kernels-set kept acts.short restarted after step (n.0 - 1)
                  (sym (back kept n above below)) (node-there kept n above below) next left;
              booted = boots-after boot boot_is;
              standings = standings-after then then_is;
              lines = same-left (line_left P) (line_left (restarted ∷ P)) parts.lines
                  kept.left.lines
                  (λ k. line-apart P (Actor actor) restarted.effects (suc k) (heads.Restart n) tt);
            }))),
        record {
          effects = restarted.effects;
          steps = ap (λ (l : Log). l.steps) logged;
          makes = step;
          answered = refl;
        },
      )
