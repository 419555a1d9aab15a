-- By what the entries of a kernel's tables are found.
use Rattle.std.specs.Prelude.{ℕ, List, [], ◌∷◌}
use Rattle.linx_base.specs.declared.identity.Peer.{Peer}
use Rattle.linx_base.specs.declared.identity.Peer.TheVariants.{Here, There}
use Rattle.linx_base.specs.declared.pending.MetPeer.{MetPeer}
use Rattle.node_kernel.specs.declared.met.MetKey.{MetKey}
use Rattle.node_kernel.specs.declared.met.MetKey.TheVariants as met_by

-- the key of a peer by itself
abbrev pub met_key : Peer → MetKey
met_key (Here i) = met_by.Here i
met_key (There link session i) = met_by.There link session i

-- the keys of a peer over a link by its session, and by its link and name; a peer on the node has
-- none
abbrev pub over_keys : Peer → List ℕ → List MetKey
over_keys (Here i) name = []
over_keys (There link session i) name = met_by.Session link session ∷ met_by.Named link name ∷ []

-- by what a peer that was met is found: by itself, by its session, and by its link and name
abbrev pub met_keys : MetPeer → List MetKey
met_keys m = met_key m.peer ∷ over_keys m.peer m.name
