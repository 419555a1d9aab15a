-- What a step that opens and closes no endpoint leaves of a node.
use Rattle.std.proofs.Common.{◌≡◌, ℕ, ◌+◌, Bool, true, false, not, List, [], ◌∷◌, ◌++◌, length, map}
use Rattle.std.proofs.Common.{filter, Option, refl, ◌∙◌, ap, arith, append-nil}
use Rattle.linx_base.specs.Numbers.{is_on}
use Rattle.linx_base.specs.declared.identity.Inc.{Inc}
use Rattle.linx_base.specs.declared.identity.NodeNo.{NodeNo}
use Rattle.linx_base.specs.declared.item.Item.{Item}
use Rattle.linx_base.specs.declared.pending.MetPeer.{MetPeer}
use Rattle.linx_base.specs.declared.pending.PendingAttach.{PendingAttach}
use Rattle.linx_base.specs.declared.pending.PendingHunt.{PendingHunt}
use Rattle.journal.specs.declared.head.Head.{Head}
use Rattle.journal.specs.declared.effect.Effect.{Effect}
use Rattle.journal.specs.History.{opened_by}
use Rattle.journal.specs.Pending.{attach_in, detaches, ends_hunt, hunt_in, hunts_past, owed_past}
use Rattle.journal.specs.Pending.{ends_attach}
use Rattle.journal.specs.Queues.{items_in, left_by, removes}
use Rattle.journal.specs.Traffic.{is_endpoint}
use Rattle.journal.proofs.Lists.{filter-every}
use Rattle.node_kernel.specs.Nodes.{NodeState, OpenEndpoint, put_all, put_into}
use Rattle.fabric.proofs.AfterStep.Effects.{AnswersNone, LeavesOpen, NotifiesNone}
use Rattle.fabric.proofs.AfterStep.Tables.{endpoint_past, endpoints_past, new_endpoint, stays}

-- a node by its parts
pub state_by_parts : (node : NodeNo) (n m : ℕ) (es fs : List OpenEndpoint)
    (hs is : List PendingHunt)
    (xs ys : List PendingAttach) (ps qs : List MetPeer)
    → n ≡ m → es ≡ fs → hs ≡ is → xs ≡ ys → ps ≡ qs
    → (let k : NodeState = record {
      node = node;
      openings = n;
      endpoints = es;
      hunts =
          hs;
      attaches = xs;
      met = ps;
    } in k)
    ≡ record { node = node; openings = m; endpoints = fs; hunts = is; attaches = ys; met = qs }
state_by_parts node n m es fs hs is xs ys ps qs a b c d e = rw (a, b, c, d, e) refl

-- a head takes nothing out of a queue
abbrev pub TakesNone : Head → Type 0
TakesNone head = (x : Item) → removes head x ≡ false

-- an endpoint after such a step: its own step may take an item out
abbrev pub put_past : ℕ → Option Inc → Head → List Effect → OpenEndpoint → OpenEndpoint
put_past k me head es e =
    record e { items = left_by (is_endpoint e.inc me) head e.items ++ items_in e.inc k 1 es }

map-each : {X Y : Type 0} (f g : X → Y) → ((x : X) → f x ≡ g x) → (xs : List X)
    → map f xs ≡ map g xs
map-each f g same [] = refl
map-each f g same (x ∷ xs) = rw (same x) (ap (λ l. g x ∷ l) (map-each f g same xs))

pub left_by-none : (mine : Bool) (head : Head) (items : List Item) → TakesNone head
    → left_by mine head items ≡ items
left_by-none true head items none = filter-every (λ x. not (removes head x)) (λ x. ap not
    (none x)) items
left_by-none false head items none = refl

-- no effect puts nothing
pub put-none : (k : ℕ) (endpoints : List OpenEndpoint) → put_all k [] endpoints ≡ endpoints
put-none k [] = refl
put-none k (e ∷ es) = rw (append-nil e.items, put-none k es) refl

module _ (node k : ℕ) (me : Option Inc) (head : Head) (es : List Effect)
    (leaves : LeavesOpen es) where
  past-put : (e : OpenEndpoint) → endpoint_past k me head es e ≡ put_past k me head es e
  past-put e = rw (leaves.opens_none e.inc) refl

  pub endpoints-kept : (before : List OpenEndpoint)
      → endpoints_past node k me head es before ≡ map (put_past k me head es) before
  endpoints-kept before =
      let new : opened_by node es ≡ [] = ap (filter (is_on node)) leaves.opened in
      ap (λ l. filter (stays es) (map (endpoint_past k me head es) before ++ map
      (new_endpoint k me head es) l)) new
      ∙ ap (filter (stays es)) (append-nil (map (endpoint_past k me head es) before))
      ∙ filter-every (stays es) (λ e. ap not (leaves.closes_none e.inc)) (map
      (endpoint_past k me head es) before)
      ∙ map-each (endpoint_past k me head es) (put_past k me head es) past-put before

  pub endpoints-put : (before : List OpenEndpoint) → TakesNone head
      → endpoints_past node k me head es before ≡ put_all k es before
  endpoints-put before none =
      endpoints-kept before
      ∙ map-each (put_past k me head es) (put_into k es)
      (λ e. ap (λ (l : List Item). (let x : OpenEndpoint = record e {
        items =
            l ++ items_in e.inc k 1 es;
      } in x))
      (left_by-none (is_endpoint e.inc me) head e.items none)) before

  pub openings-kept : (n : ℕ) → n + length (opened_by node es) ≡ n
  openings-kept n = rw (ap (filter (is_on node)) leaves.opened) (omega arith)

  -- no hunt is begun or answered
  pub hunts-kept : (hs : List PendingHunt) → AnswersNone es → hunt_in node k me head ≡ []
      → hunts_past node k me head es hs ≡ hs
  hunts-kept hs none begins =
      ap (λ l. filter (λ h. not (ends_hunt es h)) (hs ++ l)) begins
      ∙ ap (filter (λ h. not (ends_hunt es h))) (append-nil hs)
      ∙ filter-every (λ h. not (ends_hunt es h)) (λ h. rw (none h, leaves.closes_none h.at) refl) hs

  -- no attach is begun, cancelled or notified
  pub owed-kept : (xs : List PendingAttach) → NotifiesNone es → ((a : PendingAttach)
      → detaches me head a ≡ false)
      → attach_in node k me head ≡ [] → owed_past node k me head es xs ≡ xs
  owed-kept xs none cancels_none begins =
      ap (λ l. filter (λ a. not (ends_attach me head es a)) (xs ++ l)) begins
      ∙ ap (filter (λ a. not (ends_attach me head es a))) (append-nil xs)
      ∙ filter-every (λ a. not (ends_attach me head es a)) (λ a. rw
      (none a, cancels_none a, leaves.closes_none a.at) refl) xs
