-- The messages that break the rules.
use Rattle.std.specs.Prelude.{◌≡◌, ◌≢◌, ℕ, List, None, IsSome}
use Rattle.linx_base.specs.declared.identity.Inc.{Inc}
use Rattle.linx_base.specs.declared.frame.Message.{Message}
use Rattle.link_addresses.specs.declared.meaning.Meaning.TheVariants.{Free, Closing}
use Rattle.link_addresses.specs.Meanings.{meaning_of}
use Rattle.rlnh_messages.specs.declared.rlnh.Rlnh.TheVariants.{Publish, Unpublish, UnpublishAck}
use Rattle.rlnh_end.specs.States.{RlnhTables, inc_met, addr_met}
use Rattle.rlnh_end.specs.Hearing.{HasAddresses, IsControl, IsGarbage}

-- the message is bad where the tables are these
pub data IsBad (t : RlnhTables) (m : Message) : Type 0 where
  -- exactly one of its addresses is 0; or both are, and its body is no message of RLNH; or neither
  -- is, and its body has fewer than 4 bytes, or more than a message has
  no_meaning : IsGarbage m → IsBad t m
  -- PUBLISH names an address that is met, or an incarnation that is met
  met_address :
      (addr : ℕ) (inc : Inc) (name : List ℕ) → IsControl m (Publish addr inc name)
      → IsSome (inc_met t.met addr) → IsBad t m
  met_incarnation :
      (addr : ℕ) (inc : Inc) (name : List ℕ) → IsControl m (Publish addr inc name)
      → IsSome (addr_met t.met inc) → IsBad t m
  -- UNPUBLISH names an address that isn't met
  unmet_address :
      (addr : ℕ) → IsControl m (Unpublish addr) → inc_met t.met addr ≡ None → IsBad t m
  -- UNPUBLISH_ACK names an address that isn't closing
  not_closing :
      (addr : ℕ) → IsControl m (UnpublishAck addr)
      → ((inc : Inc) → meaning_of t.own addr ≢ Closing inc) → IsBad t m
  -- a signal is from an address that isn't met, or to one that is free
  unmet_sender : HasAddresses m → inc_met t.met m.from ≡ None → IsBad t m
  free_receiver : HasAddresses m → meaning_of t.own m.to ≡ Free → IsBad t m
