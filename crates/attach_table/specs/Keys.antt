-- By what an attach is found.
use Rattle.std.specs.Prelude.{List, ◌∷◌, Option, Some, None}
use Rattle.std.specs.Option.{option_to_list}
use Rattle.linx_base.specs.declared.identity.Peer.{Peer}
use Rattle.linx_base.specs.declared.identity.Peer.TheVariants.{Here, There}
use Rattle.linx_base.specs.declared.pending.PendingAttach.{PendingAttach}
use Rattle.attach_table.specs.declared.attach_key.AttachKey.{AttachKey}
use Rattle.attach_table.specs.declared.attach_key.AttachKey.TheVariants.{Here as HereKey}
use Rattle.attach_table.specs.declared.attach_key.AttachKey.TheVariants.{There as ThereKey, Within}
use Rattle.attach_table.specs.declared.attach_key.AttachKey.TheVariants.{Holder, Reference}

-- the key of the attaches to a peer
abbrev pub peer_key : Peer → AttachKey
peer_key (Here inc) = HereKey inc
peer_key (There link session inc) = ThereKey link session inc

-- the key of the attaches to the peers of a peer's session, if it is of one
abbrev pub session_key : Peer → Option AttachKey
session_key (Here inc) = None
session_key (There link session inc) = Some (Within link session)

-- the keys of an attach
abbrev pub keys_of : PendingAttach → List AttachKey
keys_of attach = peer_key attach.peer ∷ Holder attach.at ∷ Reference attach.at attach.reference
    ∷ option_to_list (session_key attach.peer)
