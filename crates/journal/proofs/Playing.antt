-- The words of worked runs of nodes, and tests that compute of the laws of a step.
use Rattle.std.proofs.Common.{◌≡◌, ◌≢◌, ℕ, zero, suc, ◌<◌, ◌≤◌, nat_lt, nat_le, ◌==◌, Bool, true}
use Rattle.std.proofs.Common.{false, not, ◌&&◌, ◌||◌, List, [], ◌∷◌, length, Option, is_none}
use Rattle.std.proofs.Common.{is_some, inl, inr, refl, sym, ap, ◌∙◌, arith, eqb-true, leb-true}
use Rattle.std.proofs.Common.{ltb-true, true≢false}
use Rattle.std.proofs.lemmas.Bool.{and_parts, cases_eq, or_cases, not-true}
use Rattle.linx_base.specs.Numbers.{inc_of}
use Rattle.linx_base.specs.declared.identity.AttRef.{AttRef}
use Rattle.linx_base.specs.declared.identity.Inc.{Inc}
use Rattle.linx_base.specs.declared.identity.ItemAt.{ItemAt}
use Rattle.linx_base.specs.declared.identity.NodeNo.{NodeNo}
use Rattle.linx_base.specs.declared.identity.Peer.TheVariants.{Here}
use Rattle.linx_base.specs.declared.item.Item.{Item}
use Rattle.linx_base.specs.declared.item.Kind.{Kind}
use Rattle.linx_base.specs.SigNotes.{SigNote}
use Rattle.sigsel.specs.declared.sigsel.Sigsel.{Sigsel}
use Rattle.journal.specs.declared.by.By.TheVariants.{Actor}
use Rattle.journal.specs.declared.effect.Effect.TheVariants.{Opened, Closed, Arrived}
use Rattle.journal.specs.declared.effect.Effect.{Effect}
use Rattle.journal.specs.declared.effect.Step.{Step}
use Rattle.journal.specs.declared.head.Head.TheVariants.{Open, Close, Send, Take, Ended}
use Rattle.journal.specs.declared.head.Head.{Head}
use Rattle.journal.specs.declared.head.SentTo.TheVariants.{Queued}
use Rattle.journal.specs.History.{has_ended}
use Rattle.journal.specs.Shapes.{Shape}
use Rattle.journal.specs.Rest.{IsAtRest, leaves_at_rest}
use Rattle.journal.specs.Laws.{KeepsMakers, KeepsEndpoints, is_opening, is_endpoints}

-- the test of an actor as a maker: it is one of the shape, and hasn't ended
abbrev pub is_actor : Shape → List Step → ℕ → Bool
is_actor shape P k = nat_lt 0 k && (nat_le k (length shape.actors) && not (has_ended P k))

pub made_by : {shape : Shape} {P : List Step} {k : ℕ} {head : Head} → is_actor shape P k ≡ true
    → KeepsMakers shape P (Actor k) head
made_by {shape} {P} {k} {head} is =
    let parts = and_parts (nat_lt 0 k) (nat_le k (length shape.actors) && not (has_ended P k)) is in
    let others = and_parts (nat_le k (length shape.actors)) (not (has_ended P k)) parts.1 in
    record {
      maker = (
        ltb-true 0 k parts.0,
        leb-true k (length shape.actors) others.0,
        not-true (has_ended P k) others.1,
      );
      may = refl;
    }

-- the second test is true where the first is
abbrev implies : Bool → Bool → Bool
implies true b = b
implies false b = true

implied : (a b : Bool) → implies a b ≡ true → a ≡ true → b ≡ true
implied true b follows is = follows
implied false b follows is = absurd (true≢false (sym is))

-- the test of a head for a maker with this endpoint
abbrev pub has_endpoint : Option Inc → Head → Bool
has_endpoint me head =
    implies (is_opening head) (is_none me) && implies (is_endpoints head) (is_some me)

pub endpoint_kept : {me : Option Inc} {head : Head} → has_endpoint me head ≡ true
    → KeepsEndpoints me head
endpoint_kept {me} {head} is =
    let parts = and_parts (implies (is_opening head) (is_none me))
    (implies (is_endpoints head) (is_some me)) is in
    record {
      opens = implied (is_opening head) (is_none me) parts.0;
      needs = implied (is_endpoints head) (is_some me) parts.1;
    }

-- the test of the first actors, so many, that they leave actor k at rest
abbrev all_leave : List Step → ℕ → ℕ → Bool
all_leave P k zero = true
all_leave P k (suc n) = ((suc n == k) || leaves_at_rest P k (suc n)) && all_leave P k n

each_leaves : (P : List Step) (k n : ℕ) → all_leave P k n ≡ true → (other : ℕ) → 0 < other
    → other ≤ n → other ≢ k → leaves_at_rest P k other ≡ true
each_leaves P k zero all other low high differs = absurd (omega arith)
each_leaves P k (suc n) all other low high differs =
    let parts = and_parts ((suc n == k) || leaves_at_rest P k (suc n)) (all_leave P k n) all in
    elim (cases_eq other (suc n)) [
      | inl same ↦
          let last : leaves_at_rest P k (suc n) ≡ true =
          elim (or_cases (suc n == k) (leaves_at_rest P k (suc n)) parts.0) [
            | inl own ↦ absurd (differs (same ∙ eqb-true (suc n) k own))
            | inr leaves ↦ leaves
          ]
          in
          ap (leaves_at_rest P k) same ∙ last
      | inr differ ↦ each_leaves P k n parts.1 other low (omega arith) differs
    ]

-- an actor is at rest where this computes
pub at_rest : {shape : Shape} {P : List Step} {k : ℕ}
    → all_leave P k (length shape.actors) ≡ true → IsAtRest shape P k
at_rest {shape} {P} {k} all = record { others = each_leaves P k (length shape.actors) all }

-- one, two and three actors on node 1, and no link
abbrev pub on_node : List NodeNo → Shape
on_node actors = record { links = []; actors = actors }

abbrev pub one_actor : Shape
one_actor = on_node (record { 0 = 1 } ∷ [])

abbrev pub two_actors : Shape
two_actors = on_node (record { 0 = 1 } ∷ record { 0 = 1 } ∷ [])

abbrev pub three_actors : Shape
three_actors = on_node (record { 0 = 1 } ∷ record { 0 = 1 } ∷ record { 0 = 1 } ∷ [])

-- the first incarnations of node 1
abbrev pub first : Inc
first = inc_of 1 1

abbrev pub second : Inc
second = inc_of 1 2

abbrev pub third : Inc
third = inc_of 1 3

-- a step of an actor, and the words of steps
abbrev pub made : ℕ → Head → List Effect → Step
made k head effects = record { by = Actor k; head = head; effects = effects }

abbrev pub note : ℕ → List ℕ → SigNote
note number bytes = record { number = number; bytes = bytes }

abbrev pub at : ℕ → ℕ → ItemAt
at step place = record { step = step; place = place }

abbrev pub ref : ℕ → AttRef
ref step = record { 0 = step }

abbrev pub opens : ℕ → List ℕ → Inc → Step
opens k name i = made k (Open name) (Opened i ∷ [])

abbrev pub closes : ℕ → Inc → Step
closes k i = made k Close (Closed i ∷ [])

abbrev pub sends : ℕ → Inc → Inc → SigNote → Step
sends k from to signal =
    made k (Send (Here to) signal Queued) (Arrived to (Here from) signal ∷ [])

abbrev pub takes : ℕ → Sigsel → ItemAt → Step
takes k selection position = made k (Take selection position) []

abbrev pub ends : ℕ → List Effect → Step
ends k effects = made k Ended effects

-- an item that a signal left, from an endpoint of the node
abbrev pub item : SigNote → Inc → Kind → ItemAt → Item
item signal from kind position =
    record { signal = signal; from = Here from; kind = kind; pos = position }
