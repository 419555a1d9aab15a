-- What one more step leaves of a node: its tables after the step are a function of those before it.
use Rattle.std.proofs.Common.{◌≡◌, ℕ, suc, Bool, true, false, cond, if◌then◌else◌, ◌+◌, not, List}
use Rattle.std.proofs.Common.{[], ◌∷◌, ◌++◌, length, map, filter, Option, refl, sym, ◌∙◌, ap, arith}
use Rattle.std.proofs.Common.{fold, filter_map}
use Rattle.std.proofs.lemmas.Bool.Decides.{nat_tests}
use Rattle.std.specs.List.{list_any, AllByRecursion}
use Rattle.std.proofs.lemmas.Bool.{or_left, or_right}
use Rattle.std.proofs.lemmas.List.{map-append}
use Rattle.linx_base.specs.declared.identity.Inc.{Inc}
use Rattle.linx_base.specs.declared.identity.NodeNo.{NodeNo}
use Rattle.journal.specs.declared.head.Head.{Head}
use Rattle.journal.specs.declared.effect.Effect.{Effect}
use Rattle.journal.specs.declared.effect.Effect.TheVariants.{Opened, Closed, Arrived, Found}
use Rattle.journal.specs.declared.effect.Effect.TheVariants.{Notified, Met, Gone, Up, Down}
use Rattle.journal.specs.declared.effect.Step.{Step}
use Rattle.journal.specs.History.{closes, endpoint_by, name_in, open_endpoints, opened_by}
use Rattle.journal.specs.History.{opened_in, opening_name, opens, name_or_none}
use Rattle.journal.specs.Living.{living_after}
use Rattle.journal.specs.Pending.{hunts_past, owed_past}
use Rattle.journal.specs.Queues.{items_in, left_by, queued}
use Rattle.journal.specs.Traffic.{is_endpoint}
use Rattle.journal.proofs.Lists.{all-filter}
use Rattle.node_kernel.specs.Nodes.{NodeState, OpenEndpoint}
use Rattle.fabric.specs.Remains.{endpoint_left, node_left}

-- an endpoint that a step opens
abbrev pub new_endpoint : ℕ → Option Inc → Head → List Effect → Inc → OpenEndpoint
new_endpoint k me head es i = record {
  inc = i;
  name = name_or_none (name_in head);
  items = left_by (is_endpoint i me) head [] ++ items_in i k 1 es;
}

-- an open endpoint after step k
abbrev pub endpoint_past : ℕ → Option Inc → Head → List Effect → OpenEndpoint → OpenEndpoint
endpoint_past k me head es e =
    if list_any (opens e.inc) es
    then new_endpoint k me head es e.inc
    else record e { items = left_by (is_endpoint e.inc me) head e.items ++ items_in e.inc k 1 es }

-- the endpoint isn't closed by the effects
abbrev pub stays : List Effect → OpenEndpoint → Bool
stays es e = not (list_any (closes e.inc) es)

-- the open endpoints of a node after step k
abbrev pub endpoints_past : ℕ → ℕ → Option Inc → Head → List Effect → List OpenEndpoint
    → List OpenEndpoint
endpoints_past node k me head es before =
    filter (stays es)
    (map (endpoint_past k me head es) before
    ++ map (new_endpoint k me head es) (opened_by node es))

-- A NODE AFTER STEP k, made by an endpoint or none
abbrev pub after_step : ℕ → Option Inc → Head → List Effect → NodeState → NodeState
after_step k me head es old = record {
  node = old.node;
  openings = old.openings + length (opened_by old.node.0 es);
  endpoints = endpoints_past old.node.0 k me head es old.endpoints;
  hunts = hunts_past old.node.0 k me head es old.hunts;
  attaches = owed_past old.node.0 k me head es old.attaches;
  met = fold (living_after old.node.0) old.met es;
}

-- a test of incarnations may come before or after what is left of them
filter-map : (f : Inc → OpenEndpoint) → ((i : Inc) → (f i).inc ≡ i) → (p : Inc → Bool)
    → (is : List Inc) → map f (filter p is) ≡ filter (λ e. p e.inc) (map f is)
filter-map f same p [] = refl
filter-map f same p (i ∷ is) =
    let go : (b : Bool) → map f (cond b (i ∷ filter p is) (filter p is))
    ≡ cond b (f i ∷ filter (λ e. p e.inc) (map f is)) (filter (λ e. p e.inc) (map f is)) = λ b.
    elim b as (λ c. map f (cond c (i ∷ filter p is) (filter p is))
    ≡ cond c (f i ∷ filter (λ e. p e.inc) (map f is)) (filter (λ e. p e.inc) (map f is))) [
      | true ↦ ap (λ l. f i ∷ l) (filter-map f same p is)
      | false ↦ filter-map f same p is
    ]
    in
    go (p i) ∙ ap (λ (x : Inc). cond (p x) (f i ∷ filter (λ e. p e.inc) (map f is)) (filter
    (λ e. p e.inc) (map f is))) (sym (same i))

map-map : (g : OpenEndpoint → OpenEndpoint) (f h : Inc → OpenEndpoint)
    → ((i : Inc) → h i ≡ g (f i)) → (is : List Inc) → map h is ≡ map g (map f is)
map-map g f h same [] = refl
map-map g f h same (i ∷ is) = rw (same i) (ap (λ l. g (f i) ∷ l) (map-map g f h same is))

map-where : (f g : Inc → OpenEndpoint) (p : Inc → Type 0) → ((i : Inc) → p i → f i ≡ g i)
    → (is : List Inc) → AllByRecursion p is → map f is ≡ map g is
map-where f g p same [] all = refl
map-where f g p same (i ∷ is) all =
    rw (same i all.0) (ap (λ l. g i ∷ l) (map-where f g p same is all.1))

opens-itself : (i : Inc) → opens i (Opened i) ≡ true
opens-itself i = grind (arith, nat_tests)

-- what effects open, one of them opens
opened-wider : (e : Effect) (es : List Effect) (is : List Inc)
    → AllByRecursion (λ i. list_any (opens i) es ≡ true) is
    → AllByRecursion (λ i. list_any (opens i) (e ∷ es) ≡ true) is
opened-wider e es [] all = tt
opened-wider e es (i ∷ is) all =
    (or_right (opens i e) (list_any (opens i) es) all.0, opened-wider e es is all.1)

pub opened-opens : (es : List Effect)
    → AllByRecursion (λ i. list_any (opens i) es ≡ true) (filter_map opened_in es)
opened-opens [] = tt
opened-opens (Opened i ∷ es) = (
  or_left (opens i (Opened i)) (list_any (opens i) es) (opens-itself i),
  opened-wider (Opened i) es (filter_map opened_in es) (opened-opens es),
)
opened-opens (Closed i ∷ es) = opened-wider (Closed i) es (filter_map opened_in es)
    (opened-opens es)
opened-opens (Arrived i q note ∷ es) = opened-wider (Arrived i q note) es
    (filter_map opened_in es) (opened-opens es)
opened-opens (Found i q note h ∷ es) = opened-wider (Found i q note h) es
    (filter_map opened_in es) (opened-opens es)
opened-opens (Notified i q note r reason ∷ es) =
    opened-wider (Notified i q note r reason) es (filter_map opened_in es) (opened-opens es)
opened-opens (Met n q name ∷ es) = opened-wider (Met n q name) es (filter_map opened_in es)
    (opened-opens es)
opened-opens (Gone n q ∷ es) = opened-wider (Gone n q) es (filter_map opened_in es)
    (opened-opens es)
opened-opens (Up n l x y ∷ es) = opened-wider (Up n l x y) es (filter_map opened_in es)
    (opened-opens es)
opened-opens (Down n l x ∷ es) = opened-wider (Down n l x) es (filter_map opened_in es)
    (opened-opens es)

module _ (P : List Step) (s : Step) where
  abbrev k : ℕ
  k = suc (length P)

  abbrev me : Option Inc
  me = endpoint_by P s.by

  endpoint_left-new : (i : Inc) → list_any (opens i) s.effects ≡ true
      → endpoint_left (s ∷ P) i ≡ new_endpoint k me s.head s.effects i
  endpoint_left-new i is = rw is refl

  endpoint_left-step : (i : Inc)
      → endpoint_left (s ∷ P) i ≡ endpoint_past k me s.head s.effects (endpoint_left P i)
  endpoint_left-step i = go (list_any (opens i) s.effects)
    where
      go : (b : Bool)
          → (let e : OpenEndpoint = record {
            inc = i;
            name = name_or_none (cond b (name_in s.head) (opening_name P i));
            items = left_by (is_endpoint i me) s.head (cond b []
                (queued P i)) ++ items_in i k 1 s.effects;
          } in e) ≡ cond b (new_endpoint k me s.head s.effects i)
          (record (endpoint_left P i) {
            items =
                left_by (is_endpoint i me) s.head (queued P i) ++ items_in i k 1 s.effects;
          })
      go true = refl
      go false = refl

  endpoints_left-step : (node : ℕ)
      → map (endpoint_left (s ∷ P)) (open_endpoints (s ∷ P) node)
      ≡ endpoints_past node k me s.head s.effects (map (endpoint_left P) (open_endpoints P node))
  endpoints_left-step node =
      let old : List Inc = open_endpoints P node in
      let new : List Inc = opened_by node s.effects in
      let kept : map (endpoint_left (s ∷ P)) old
      ≡ map (endpoint_past k me s.head s.effects) (map (endpoint_left P) old)
      = map-map (endpoint_past k me s.head s.effects) (endpoint_left P) (endpoint_left
      (s ∷ P)) endpoint_left-step old in
      let added : map (endpoint_left (s ∷ P)) new ≡ map (new_endpoint k me s.head s.effects) new
      = map-where (endpoint_left (s ∷ P)) (new_endpoint k me s.head s.effects) (λ i. list_any
      (opens i) s.effects ≡ true) endpoint_left-new new
      (all-filter (λ i. list_any (opens i) s.effects
      ≡ true) _ (filter_map opened_in s.effects) (opened-opens s.effects)) in
      filter-map (endpoint_left (s ∷ P)) (λ i. refl) (λ i. not (list_any (closes i) s.effects))
      (old ++ new)
      ∙ ap (filter (stays s.effects)) (map-append (endpoint_left (s ∷ P)) old new
      ∙ ap (λ l. l ++ map (endpoint_left (s ∷ P)) new) kept
      ∙ ap (λ l. map (endpoint_past k me s.head s.effects) (map (endpoint_left P) old) ++ l) added)

  -- THE NODE AFTER A STEP
  pub node_left-step : (node : NodeNo)
      → node_left (s ∷ P) node ≡ after_step k me s.head s.effects (node_left P node)
  node_left-step node =
      ap (λ (es : List OpenEndpoint). (let n : NodeState =
      record (node_left (s ∷ P) node) { endpoints = es } in n)) (endpoints_left-step node.0)
