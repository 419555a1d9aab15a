-- How many signals arrived over links, for each endpoint and peer.
use Rattle.std.specs.Prelude.{ℕ, suc, List, [], ◌∷◌, Option, Some, None, if◌then◌else◌}
use Rattle.std.specs.Map.{lookup}
use Rattle.std.specs.Option.{unwrap_or}
use Rattle.journal.specs.declared.effect.Effect.{Effect}
use Rattle.journal.specs.declared.effect.Effect.TheVariants.{Arrived}
use Rattle.journal.specs.declared.effect.Step.{Step}
use Rattle.link_tables.specs.Sent.{flow_to, same_flow}
use Rattle.link_tables.specs.declared.sent.Flow.{Flow}

-- how many arrived of a flow, by these counts
abbrev pub count_in : List (Flow × ℕ) → Flow → ℕ
count_in counts flow = unwrap_or (lookup (same_flow flow) counts) 0

-- nothing arrived
abbrev pub no_arrivals : Flow → ℕ
no_arrivals flow = 0

-- the flow of what an effect brings over a link: to an endpoint, from a peer of its node's session
abbrev pub arrived_in : Effect → Option Flow
arrived_in (Arrived at peer note) = flow_to at peer
arrived_in _ = None

-- one more of a flow
abbrev pub with_arrival : (Flow → ℕ) → Flow → Flow → ℕ
with_arrival counts came flow = if same_flow flow came then suc (counts flow) else counts flow

-- the counts after an effect
abbrev pub counts_if : Option Flow → (Flow → ℕ) → Flow → ℕ
counts_if None counts = counts
counts_if (Some came) counts = with_arrival counts came

-- the counts after effects, in order: each signal that they bring over a link is one more
abbrev pub counts_past : List Effect → (Flow → ℕ) → Flow → ℕ
counts_past [] counts = counts
counts_past (e ∷ es) counts = counts_past es (counts_if (arrived_in e) counts)

-- HOW MANY ARRIVED so far
abbrev pub counts_left : List Step → Flow → ℕ
counts_left [] = no_arrivals
counts_left (s ∷ P) = counts_past s.effects (counts_left P)
