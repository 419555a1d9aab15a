-- Where the kernel and the standing of an actor stand, and what stands there.
use Rattle.std.proofs.Common.{◌≡◌, ℕ, zero, suc, ◌+◌, ◌<◌, ◌≤◌, Bool, true, false, List, [], ◌∷◌}
use Rattle.std.proofs.Common.{length, map, Option, Some, None, get_or, refl, sym, ◌∙◌, ap, subst}
use Rattle.std.proofs.Common.{add-one, arith, is_none, ◌-◌, slice_get, IfSome, IsTrue}
use Rattle.std.specs.List.{AllByRecursion}
use Rattle.linx_base.specs.declared.identity.Inc.{Inc}
use Rattle.linx_base.specs.declared.identity.NodeNo.{NodeNo}
use Rattle.linx_base.specs.declared.item.Item.{Item}
use Rattle.sigsel.specs.Selection.{first_selected}
use Rattle.sigsel.specs.declared.sigsel.Sigsel.{Sigsel}
use Rattle.journal.specs.declared.by.By.{By}
use Rattle.journal.specs.declared.by.By.TheVariants.{Actor}
use Rattle.journal.specs.declared.effect.Step.{Step}
use Rattle.journal.specs.declared.head.Head.{Head}
use Rattle.journal.proofs.Openings.{IsShort}
use Rattle.linx_base.specs.Numbers.{inc_of}
use Rattle.journal.specs.History.{endpoint_of, next_inc, open_endpoints, opened_on}
use Rattle.journal.specs.Laws.{IsMaker}
use Rattle.journal.specs.Logs.{is_full, step_limit}
use Rattle.journal.specs.Rest.{is_idle, waits_in_vain, waits_with}
use Rattle.journal.specs.Shapes.{node_by, number_or_0}
use Rattle.link_laws.proofs.Endpoints.Places.{open-few, opened_on-few}
use Rattle.node_kernel.specs.declared.answers.StepAnswer.{StepAnswer}
use Rattle.node_kernel.specs.declared.ask.Ask.{Ask}
use Rattle.node_kernel.specs.Nodes.{NodeState, endpoint_limit, is_open, items_at}
use Rattle.fabric.specs.declared.standing.Standing.{Standing}
use Rattle.fabric.specs.Actings.{HasMade, IsHomeOf, MayMake}
use Rattle.fabric.specs.Links.{no_link_stirs}
use Rattle.fabric.specs.Remains.{IsKept, IsNode, Parts, actor_limit, endpoint_left, node_left}
use Rattle.fabric.specs.Remains.{standing_left}
use Rattle.fabric.specs.Run.{Layout}
use Rattle.fabric.specs.Standings.{vain_with}
use Rattle.fabric.proofs.AfterStep.NodeOffTheLinks.{own-is_open, own-items}
use Rattle.link_laws.specs.Laws.{IsLegal}
use Rattle.link_laws.specs.Runs.{KeepsThroughout}
use Rattle.run_trunks.specs.States.{trunks_of}
use Rattle.trunk_moves.specs.Trunks.{RunTrunks, links_of}
use Rattle.fabric.proofs.Methods.Legal.{made_by}
use Rattle.fabric.proofs.Methods.Runs.{keeps-all, legal-kept}

-- a list read at a place
pub get-is : {X : Type 0} (xs : List X) (k : ℕ) (d v : X) → slice_get xs k ≡ Some v
    → get_or xs k d ≡ v
get-is [] k d v is = cc
get-is (x ∷ xs) zero d v is = cc
get-is (x ∷ xs) (suc k) d v is = get-is xs k d v is

pub length-mapped : {X Y : Type 0} (f : X → Y) (xs : List X) → length (map f xs) ≡ length xs
length-mapped f [] = refl
length-mapped f (x ∷ xs) = ap suc (length-mapped f xs)

-- a fabric that is kept, one of its actors, and the places of its standing and of its node's kernel
pub record IsAt (f : Layout) (parts : Parts)
    (actor place home : ℕ) : Type 0 where
  pub kept : IsKept f parts
  pub short : length f.log.steps < 4294967295
  pub own : actor ≡ suc place
  pub inside : place < length parts.standings
  pub home_is : node_by f.shape (Actor actor) ≡ suc home
  pub there : home < length parts.kernels

-- an actor of a fabric that is kept, with the place of its node's kernel
pub actor-at : (f : Layout) (parts : Parts)
    → IsKept f parts
    → length f.log.steps < 4294967295 → (actor home : ℕ) → 0 < actor → actor ≤ length f.shape.actors
    → home + 1 ≡ node_by f.shape (Actor actor) → home < length f.log.names.nodes
    → IsAt f parts actor (actor - 1) home
actor-at f parts kept short actor home above within home_is there = record {
  kept = kept;
  short = short;
  own = omega arith;
  inside = omega (arith, kept.counted.standings);
  home_is = sym home_is ∙ add-one home;
  there = omega (arith, kept.counted.kernels);
}

placed-node : (nodes : ℕ) (actors : List NodeNo) (k : ℕ) → AllByRecursion (IsNode nodes) actors
    → k < length actors
    → (let h : ℕ = number_or_0 (slice_get actors k) - 1 in h + 1 ≡ number_or_0 (slice_get actors k))
    × (number_or_0 (slice_get actors k) - 1 < nodes)
placed-node nodes [] k all within = absurd (omega arith)
placed-node nodes (n ∷ actors) zero all within = let above : 0 < n.0 = all.0.0
    in let below : n.0 ≤ nodes = all.0.1 in (omega arith, omega arith)
placed-node nodes (n ∷ actors) (suc k) all within = placed-node nodes actors k all.1 (omega arith)

-- the same where no kernel is looked up
pub actor-home : (f : Layout) (parts : Parts)
    → IsKept f parts
    → length f.log.steps < 4294967295 → (actor : ℕ) → 0 < actor → actor ≤ length f.shape.actors
    → IsAt f parts actor (actor - 1) (node_by f.shape (Actor actor) - 1)
actor-home f parts kept short zero above within = absurd (omega arith)
actor-home f parts kept short (suc k) above within =
    let placed = placed-node (length f.log.names.nodes) f.shape.actors k kept.laid_out.placed
    (omega arith) in
    actor-at f parts kept short (suc k)
    (node_by f.shape (Actor (suc k)) - 1) above within placed.0 placed.1

-- what stands at these places
module _ {f : Layout} {parts : Parts}
    {actor place home : ℕ} (at : IsAt f parts actor place home) where
  pub kernel-is : (kernel : NodeState) → kernel ≡ get_or parts.kernels home kernel
      → kernel ≡ node_left f.log.steps (record { 0 = suc home })
  kernel-is kernel is =
      is ∙ get-is parts.kernels home kernel (node_left f.log.steps (record { 0 = suc home }))
      (at.kept.left.kernels home at.there)

  pub standing-is : (standing : Standing) → standing ≡ get_or parts.standings place standing
      → standing ≡ standing_left f.log.steps actor
  standing-is standing is =
      is ∙ get-is parts.standings place standing (standing_left f.log.steps (suc place))
      (at.kept.left.standings place at.inside)
      ∙ ap (standing_left f.log.steps) (sym at.own)

  -- the actor's endpoint is open at its kernel
  pub own_open : (kernel : NodeState) → kernel ≡ get_or parts.kernels home kernel → (j : Inc)
      → endpoint_of f.log.steps actor ≡ Some j → is_open kernel.endpoints j ≡ true
  own_open kernel is j mine =
      ap (λ (k : NodeState). is_open k.endpoints j) (kernel-is kernel is)
      ∙ own-is_open f.shape f.log.steps (legal-kept f parts at.kept) at.short actor
      (record { 0 = suc home }) at.home_is j mine

  -- it is the kernel of the actor's node
  pub own_kernel-is : (kernel : NodeState) → kernel ≡ get_or parts.kernels home kernel
      → kernel ≡ node_left f.log.steps (record { 0 = node_by f.shape (Actor actor) })
  own_kernel-is kernel is =
      kernel-is kernel is
      ∙ ap (λ (n : ℕ). node_left f.log.steps (record { 0 = n })) (sym at.home_is)

  pub node-is : (kernel : NodeState) → kernel ≡ get_or parts.kernels home kernel
      → kernel.node ≡ record { 0 = node_by f.shape (Actor actor) }
  node-is kernel is = ap (λ (k : NodeState). k.node) (own_kernel-is kernel is)

  -- what it opens next
  pub openings-at : (kernel : NodeState) → kernel ≡ get_or parts.kernels home kernel
      → inc_of (node_by f.shape (Actor actor)) (kernel.openings + 1)
      ≡ next_inc (node_by f.shape (Actor actor))
      (opened_on f.log.steps (node_by f.shape (Actor actor)))
  openings-at kernel is =
      ap (λ (k : NodeState). inc_of (node_by f.shape (Actor actor)) (k.openings + 1))
      (own_kernel-is kernel is)

  pub next-at : (kernel : NodeState) → kernel ≡ get_or parts.kernels home kernel → {i : Inc}
      → i ≡ next_inc (node_by f.shape (Actor actor))
      (opened_on f.log.steps (node_by f.shape (Actor actor)))
      → i ≡ next_inc (node_by f.shape (Actor actor)) kernel.openings
  next-at kernel is i_is = i_is ∙ sym (openings-at kernel is)

  -- what an opening requires of the kernel
  pub openings_fit : (kernel : NodeState) → kernel ≡ get_or parts.kernels home kernel
      → kernel.openings < 4294967295
  openings_fit kernel is =
      let few : kernel.openings ≤ length f.log.steps =
      subst (λ (k : NodeState). k.openings ≤ length f.log.steps) (sym (kernel-is kernel is))
      (opened_on-few f.shape f.log.steps (legal-kept f parts at.kept) (suc home))
      in
      let short : length f.log.steps < 4294967295 = at.short in
      omega arith

  pub endpoints_fit : (kernel : NodeState) → kernel ≡ get_or parts.kernels home kernel
      → length kernel.endpoints < endpoint_limit
  endpoints_fit kernel is =
      let few : length (open_endpoints f.log.steps (suc home)) ≤ length f.shape.actors =
      open-few f.shape f.log.steps (legal-kept f parts at.kept) at.short (suc home)
      in
      let actors : length f.shape.actors ≤ actor_limit = at.kept.laid_out.few in
      let all : length kernel.endpoints ≡ length (open_endpoints f.log.steps (suc home)) =
      ap (λ (k : NodeState). length k.endpoints) (kernel-is kernel is)
      ∙ length-mapped (endpoint_left f.log.steps) (open_endpoints f.log.steps (suc home))
      in
      omega (arith, few, actors, all)

-- who makes a step, on a journal that takes one
pub record Acts (f : Layout) (parts : Parts)
    (actor place home : ℕ) : Type 0 where
  pub at : IsAt f parts actor place home
  pub maker : IsMaker f.shape f.log.steps (Actor actor)
  pub room : is_full f.log.steps ≡ false
  pub short : length f.log.steps < 200000

-- WHAT IT FINDS: the trunks, what is left of its node and of itself, and the step by its next head
abbrev pub before : {f : Layout} {parts : Parts} {actor place home : ℕ}
    → Acts f parts actor place home → record {
      trunks : RunTrunks;
      calm_links : Bool;
      node : NodeNo;
      now : ℕ;
      old : NodeState;
      stood : Standing;
      me : Option Inc;
      step_by : Head → Step;
      legal_log : IsLegal f.shape f.log.steps;
      fits : IsShort f.log.steps;
    }
before {f = f} {parts = parts} {actor = actor} {home = home} acts = record {
  trunks = trunks_of f.trunks;
  calm_links = no_link_stirs f.shape f.log.steps (trunks_of f.trunks);
  node = record { 0 = suc home };
  now = suc (length f.log.steps);
  old = node_left f.log.steps (record { 0 = suc home });
  stood = standing_left f.log.steps actor;
  me = endpoint_of f.log.steps actor;
  step_by = λ head.
      made_by (length f.log.names.nodes) f.shape f.log.steps (trunks_of f.trunks) actor acts.maker acts.room
      head;
  legal_log = legal-kept f parts acts.at.kept;
  fits = acts.at.short;
}

-- A FABRIC AS ITS METHODS SEE IT: the parts, which keep what they have to, and their value
pub record IsSeen (f : Layout) (parts : Parts)
    (value : Layout) : Type 0 where
  pub well : IsKept f parts
  pub view : f ≡ value

module _ {f : Layout} {parts : Parts}
    {value : Layout} where
  pub sees : IsKept f parts
      → f ≡ value
      → IsSeen f parts value
  sees well view = record { well = well; view = view }

  -- the value keeps it too
  pub at-value : IsKept f parts → f ≡ value → IsKept value parts
  at-value well view = subst (λ (l : Layout). IsKept l parts) view well

  module _ (seen : IsSeen f parts value) where
    pub back : (F : Layout → Type 0) → F value → F f
    back F x = subst F (sym seen.view) x

    pub makes-seen : (new : Layout) (k : ℕ) (ask : Ask) (answer : StepAnswer)
        → HasMade f new k ask answer → HasMade value new k ask answer
    makes-seen new k ask answer made =
        subst (λ (l : Layout). HasMade l new k ask answer) seen.view made

    pub may-seen : {by : By} {ask : Ask} → MayMake value by ask → MayMake f by ask
    may-seen {by = by} {ask = ask} may = back (λ l. MayMake l by ask) may

    -- what holds of the journal
    pub legal-seen : IsLegal value.shape value.log.steps
    legal-seen = subst (λ (l : Layout). IsLegal l.shape l.log.steps) seen.view
        (legal-kept f parts seen.well)

    pub promises-seen : KeepsThroughout value.shape value.log.steps
        (links_of (trunks_of value.trunks))
    promises-seen = subst (λ (l : Layout). KeepsThroughout l.shape l.log.steps
        (links_of (trunks_of l.trunks))) seen.view (keeps-all f parts seen.well).promises

    pub endpoint-seen : (k : ℕ) (e : Option Inc) → endpoint_of value.log.steps k ≡ e
        → endpoint_of f.log.steps k ≡ e
    endpoint-seen k e is = back (λ l. endpoint_of l.log.steps k ≡ e) is

    pub node-seen : (home : ℕ) → home < length value.log.names.nodes
        → home < length f.log.names.nodes
    node-seen home there = back (λ l. home < length l.log.names.nodes) there

    -- an actor, by the place of its node's kernel
    pub stands : {actor home : ℕ} → 0 < actor → actor ≤ length value.shape.actors
        → IsHomeOf value actor home → IsAt f parts actor (actor - 1) home
    stands {actor = actor} {home = home} above within at =
        actor-at f parts seen.well
        (let few : length f.log.steps ≤ step_limit = seen.well.short in omega arith)
        actor home above (back (λ l. actor ≤ length l.shape.actors) within)
        (back (λ l. home + 1 ≡ node_by l.shape (Actor actor)) at.home) (node-seen home at.there)

    -- one that makes a step
    pub acting : {actor home : ℕ} {ask : Ask} → MayMake value (Actor actor) ask
        → IsHomeOf value actor home
        → Acts f parts actor (actor - 1) home
    acting {actor = actor} {home = home} may at = record {
      at = stands may.may.maker.0 may.may.maker.1 at;
      maker = back (λ l. IsMaker l.shape l.log.steps (Actor actor)) may.may.maker;
      room = back (λ l. is_full l.log.steps ≡ false) may.room;
      short = back (λ l. length l.log.steps < step_limit) may.short;
    }

    -- the same where no kernel is looked up
    pub acting-home : (actor : ℕ) → IsMaker value.shape value.log.steps (Actor actor)
        → is_full value.log.steps ≡ false → length value.log.steps < 200000
        → Acts f parts actor (actor - 1) (node_by f.shape (Actor actor) - 1)
    acting-home actor maker room short =
        let is_maker : IsMaker f.shape f.log.steps (Actor actor) = back
        (λ l. IsMaker l.shape l.log.steps (Actor actor)) maker in
        let few : length f.log.steps < 200000 = back (λ l. length l.log.steps < 200000) short in
        record {
          at = actor-home f parts seen.well
              (omega arith) actor is_maker.0 is_maker.1;
          maker = is_maker;
          room = back (λ l. is_full l.log.steps ≡ false) room;
          short = few;
        }

-- AN ACTOR THAT WAITS: its endpoint is open at its kernel, whose queue tells whether in vain
module _ {f : Layout} {parts : Parts}
    {actor place home : ℕ} (at : IsAt f parts actor place home)
    (kernel : NodeState) (kernel_is : kernel ≡ get_or parts.kernels home kernel)
    (standing : Standing) (standing_is : standing ≡ get_or parts.standings place standing) where
  open-if : (e : Option Inc) → endpoint_of f.log.steps actor ≡ e
      → IfSome e (λ j. IsTrue (is_open kernel.endpoints j))
  open-if None is = tt
  open-if (Some j) is = own_open at kernel kernel_is j is

  pub idle-open : IfSome standing.endpoint (λ j. IsTrue (is_open kernel.endpoints j))
  idle-open =
      subst (λ (e : Option Inc). IfSome e (λ j. IsTrue (is_open kernel.endpoints j)))
      (sym (ap (λ (s : Standing). s.endpoint) (standing-is at standing standing_is)))
      (open-if (endpoint_of f.log.steps actor) refl)

  vain-if : (w : Option Sigsel) (e : Option Inc) → endpoint_of f.log.steps actor ≡ e
      → vain_with kernel w e ≡ waits_in_vain f.log.steps w e
  vain-if (Some filter) (Some j) is =
      ap (λ (items : List Item). is_none (first_selected filter items))
      (ap (λ (k : NodeState). items_at k.endpoints j) (kernel-is at kernel kernel_is)
      ∙ own-items f.shape f.log.steps (legal-kept f parts at.kept) at.short actor
      (record { 0 = suc home }) at.home_is j is)
  vain-if (Some filter) None is = refl
  vain-if None e is = refl

  pub idle-is : vain_with kernel standing.waits standing.endpoint ≡ is_idle f.log.steps actor
  idle-is =
      ap (λ (s : Standing). vain_with kernel s.waits s.endpoint)
      (standing-is at standing standing_is)
      ∙ vain-if (waits_with f.log.steps actor) (endpoint_of f.log.steps actor) refl
