-- The bytes of each header. Numbers stand with their highest byte first.
use Rattle.std.specs.Prelude.{ℕ, Bool, List, [], ◌∷◌, ◌++◌, if◌then◌else◌}
use Rattle.byteorder.specs.Endian.{big_bytes}
use Rattle.linx_base.specs.declared.frame.ConnKind.{ConnKind}
use Rattle.linx_base.specs.declared.frame.ConnKind.TheVariants.{Connect, ConnectAck, Ack, Reset}

-- MAIN: the version, the next header's type, the packet's length, and the sessions of sender and
-- receiver
unfoldable pub main_header : ℕ → ℕ → ℕ → ℕ → List ℕ
main_header next length src dst =
    2 ∷ next ∷ (big_bytes 2 length ++ (big_bytes 8 src ++ big_bytes 8 dst))

-- the number of a kind in CONN
abbrev pub kind_number : ConnKind → ℕ
kind_number Connect = 1
kind_number ConnectAck = 2
kind_number Ack = 3
kind_number Reset = 4

-- CONN: the kind of a packet that makes or ends a session
unfoldable pub conn_header : ConnKind → List ℕ
conn_header kind = 0 ∷ kind_number kind ∷ 0 ∷ 0 ∷ []

-- ACK: the next header's type, and the lowest frame number that isn't taken yet
unfoldable pub ack_header : ℕ → ℕ → List ℕ
ack_header following next = following ∷ 0 ∷ 0 ∷ 0 ∷ big_bytes 4 next

-- NACK: how many frames are asked for, and the lowest frame number that isn't taken yet
unfoldable pub nack_header : ℕ → ℕ → List ℕ
nack_header next count = 0 ∷ 0 ∷ (big_bytes 2 count ++ big_bytes 4 next)

-- the byte that says whether more pieces follow
abbrev pub more_byte : Bool → ℕ
more_byte more = (if more then 1 else 0)

-- UDATA: a message's first piece has the link addresses and the size of the whole body
unfoldable pub udata_header : Bool → ℕ → ℕ → ℕ → ℕ → List ℕ
udata_header more seq from to size =
    0 ∷ more_byte more ∷ 0 ∷ 0
    ∷ (big_bytes 4 seq ++ (big_bytes 4 from ++ (big_bytes 4 to ++ big_bytes 4 size)))

-- FRAG: a further piece
unfoldable pub frag_header : Bool → ℕ → List ℕ
frag_header more seq = 0 ∷ more_byte more ∷ 0 ∷ 0 ∷ big_bytes 4 seq
