-- The packets in flight, and what an event does to them.
use Rattle.std.specs.Prelude.{◌≡◌, ◌<◌, List, length, take}
use Rattle.std.specs.List.{remove, swap}
use Rattle.linx_base.specs.Both.{Both}
use Rattle.lossy_wire.specs.declared.wire.Change.{Change}
use Rattle.lossy_wire.specs.declared.wire.Change.TheVariants.{Nothing, Lost, Exchanged}

-- since the event began packets were put alone, and none was lost or exchanged
abbrev pub HasOnlyGrown : {X : Type 0} → Both (List X) → Type 0
HasOnlyGrown wire = take (length wire.was) wire.is ≡ wire.was

-- the packets in flight after one was lost, or two were exchanged
abbrev pub changed : {X : Type 0} → Change → List X → List X
changed Nothing packets = packets
changed (Lost k) packets = remove packets k
changed (Exchanged k n) packets = swap packets k n

-- the places that a change names are places of packets
abbrev pub IsWithin : {X : Type 0} → Change → List X → Type 0
IsWithin Nothing packets = Unit {0}
IsWithin (Lost k) packets = k < length packets
IsWithin (Exchanged k n) packets = (k < length packets) × (n < length packets)
