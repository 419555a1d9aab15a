-- In which column the mark of a line stands.
use Rattle.std.specs.Prelude.{List, [], ◌∷◌, Option, Some, None, if◌then◌else◌}
use Rattle.std.specs.List.{list_any}
use Rattle.linx_base.specs.declared.identity.Inc.{Inc}
use Rattle.linx_base.specs.declared.identity.NodeNo.{NodeNo}
use Rattle.linx_base.specs.declared.identity.Peer.{Peer}
use Rattle.linx_base.specs.declared.identity.Peer.TheVariants.{Here, There}
use Rattle.journal.specs.declared.by.By.{By}
use Rattle.journal.specs.declared.by.By.TheVariants.{Actor, Pump}
use Rattle.journal.specs.declared.head.Head.{Head}
use Rattle.journal.specs.declared.head.Head.TheVariants.{Wire, Tick, Send}
use Rattle.journal.specs.declared.effect.Effect.{Effect}
use Rattle.journal.specs.declared.effect.Effect.TheVariants.{Opened, Closed, Arrived, Found}
use Rattle.journal.specs.declared.effect.Effect.TheVariants.{Notified, Met, Gone, Up, Down}
use Rattle.journal.specs.declared.effect.Step.{Step}
use Rattle.journal.specs.History.{opens}
use Rattle.chart.specs.declared.column.Column.{Column}
use Rattle.chart.specs.declared.column.Column.TheVariants.{Life, Lane, Rail, Nowhere}

-- who opened an incarnation: the maker of the last step that did
abbrev pub opener : List Step → Inc → Option By
opener [] i = None
opener (s ∷ P) i = if list_any (opens i) s.effects then Some s.by else opener P i

-- an actor has a column of its own
abbrev pub column_by : By → Column
column_by (Actor k) = Life k
column_by (Pump link) = Nowhere

-- the column of an opener; nowhere where nobody opened
abbrev pub column_if : Option By → Column
column_if None = Nowhere
column_if (Some by) = column_by by

-- the rail of a peer's link at a node
abbrev pub rail_of : NodeNo → Peer → Column
rail_of node (Here i) = Nowhere
rail_of node (There link session i) = Rail link node

-- THE COLUMN OF A STEP: the lane of its link where it is a packet or a tick, whoever made it; else
-- that of its maker
abbrev pub head_column : By → Head → Column
head_column by (Wire link side verdict) = Lane link side
head_column by (Tick link side) = Lane link side
head_column by _ = column_by by

-- the endpoint that a peer is
abbrev pub inc_in : Peer → Inc
inc_in (Here i) = i
inc_in (There link session i) = i

-- the column of the endpoint that a send is to, after these steps; no other step is to one
abbrev pub receiver : List Step → Head → Column
receiver P (Send peer note answer) = column_if (opener P (inc_in peer))
receiver P _ = Nowhere

-- THE COLUMN OF AN EFFECT, after these steps: that of the actor who opened the endpoint that it
-- concerns, or the rail of the link at the node that it concerns
abbrev pub effect_column : List Step → Effect → Column
effect_column P (Opened i) = column_if (opener P i)
effect_column P (Closed i) = column_if (opener P i)
effect_column P (Arrived i peer note) = column_if (opener P i)
effect_column P (Found i peer note hunt) = column_if (opener P i)
effect_column P (Notified i peer note reference reason) = column_if (opener P i)
effect_column P (Met node peer name) = rail_of node peer
effect_column P (Gone node peer) = rail_of node peer
effect_column P (Up node link session other) = Rail link node
effect_column P (Down node link session) = Rail link node
