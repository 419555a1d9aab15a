-- Which messages there are, and the bytes that spell each. Numbers stand with their highest byte
-- first.
use Rattle.std.specs.Prelude.{◌≡◌, ℕ, ◌^◌, ◌<◌, List, ◌∷◌, ◌++◌, IsTrue}
use Rattle.byteorder.specs.Endian.{big_bytes}
use Rattle.linx_base.specs.NameText.{is_name}
use Rattle.rlnh_messages.specs.declared.rlnh.Rlnh.{Rlnh}
use Rattle.rlnh_messages.specs.declared.rlnh.Rlnh.TheVariants.{Init, InitReply, QueryName, Publish}
use Rattle.rlnh_messages.specs.declared.rlnh.Rlnh.TheVariants.{Unpublish, UnpublishAck}

-- a message begins with its type and three zeros
abbrev pub typed : ℕ → List ℕ → List ℕ
typed type rest = type ∷ 0 ∷ 0 ∷ 0 ∷ rest

-- the bytes that spell a message: INIT and its reply have the version, which is 1
unfoldable pub spelling_of : Rlnh → List ℕ
spelling_of Init = typed 1 (big_bytes 4 1)
spelling_of InitReply = typed 2 (big_bytes 4 1)
spelling_of (QueryName name) = typed 3 name
spelling_of (Publish addr inc name) = typed 4 (big_bytes 4 addr ++ (big_bytes 8 inc.0 ++ name))
spelling_of (Unpublish addr) = typed 5 (big_bytes 4 addr)
spelling_of (UnpublishAck addr) = typed 6 (big_bytes 4 addr)

-- an address: a number of four bytes that isn't 0
abbrev pub IsAddress : ℕ → Type 0
IsAddress addr = (0 < addr) × (addr < 2 ^ 32)

-- no address of a message is 0
abbrev pub HasAddress : Rlnh → Type 0
HasAddress Init = Unit {0}
HasAddress InitReply = Unit {0}
HasAddress (QueryName name) = Unit {0}
HasAddress (Publish addr inc name) = 0 < addr
HasAddress (Unpublish addr) = 0 < addr
HasAddress (UnpublishAck addr) = 0 < addr

-- the numbers of a message fit their fields, and its name is a name
abbrev pub FitsFields : Rlnh → Type 0
FitsFields Init = Unit {0}
FitsFields InitReply = Unit {0}
FitsFields (QueryName name) = IsTrue (is_name name)
FitsFields (Publish addr inc name) = (addr < 2 ^ 32) × (inc.0 < 2 ^ 64) × IsTrue (is_name name)
FitsFields (Unpublish addr) = addr < 2 ^ 32
FitsFields (UnpublishAck addr) = addr < 2 ^ 32

-- a message of RLNH: no address of it is 0, its numbers fit their fields, and its name is a name
pub record IsRlnh (message : Rlnh) : Type 0 where
  pub has_address : HasAddress message
  pub fits_fields : FitsFields message

-- the bytes are those of this message
pub record Spells (message : Rlnh) (bytes : List ℕ) : Type 0 where
  pub is_message : IsRlnh message
  pub spelled : bytes ≡ spelling_of message
