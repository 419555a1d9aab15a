-- The shortest frame that bytes begin.
use Rattle.std.specs.Prelude.{ℕ, zero, suc, ◌+◌, Bool, ◌==◌, ◌&&◌, ◌||◌, nat_lt, nat_le}
use Rattle.std.specs.Prelude.{if◌then◌else◌, List, [], ◌∷◌, drop, slice_index, Option, Some, None}
use Rattle.byteorder.specs.Endian.{big_number}
use Rattle.linx_base.specs.Frames.{body_limit}

-- the first n bytes, and 0 for each that hasn't come
unfoldable pub filled : ℕ → List ℕ → List ℕ
filled zero bytes = []
filled (suc n) [] = 0 ∷ filled n []
filled (suc n) (byte ∷ bytes) = byte ∷ filled n bytes

-- the header that bytes begin, where what hasn't come is 0
abbrev pub header_in : List ℕ → List ℕ
header_in bytes = filled 16 bytes

-- the number in four bytes of a header
abbrev pub field_at : ℕ → List ℕ → ℕ
field_at place header = big_number 4 (drop place header)

-- the least size that a message may have whose size is this as far as it has come
abbrev pub least_size : ℕ → ℕ → ℕ
least_size known size = if size == 0 && nat_lt known 16 then 1 else size

-- how many bytes the frame of a message of this size has
abbrev pub with_message : ℕ → Option ℕ
with_message size = if nat_lt 0 size && nat_le size body_limit then Some (16 + size) else None

-- the type is that of a frame that carries nothing, or hasn't come
abbrev pub is_bare_type : ℕ → ℕ → Bool
is_bare_type type known = type == 1 || type == 3 || type == 4 || nat_lt known 2

-- a frame that carries nothing may have this header
abbrev pub is_bare : List ℕ → ℕ → Bool
is_bare header known =
    is_bare_type (slice_index header 1) known && field_at 4 header == 0 && field_at 8 header == 0
    && field_at 12 header == 0

-- the version and two zeros are in their places
abbrev pub is_begun : List ℕ → Bool
is_begun header = slice_index header 0 == 1 && slice_index header 2 == 0 && slice_index header 3 == 0

-- how many bytes the shortest frame has that has this header, so many bytes of which have come
unfoldable pub shortest_of : List ℕ → ℕ → Option ℕ
shortest_of header known =
    if is_begun header then
    (if slice_index header 1 == 2 then with_message (least_size known (field_at 12 header))
    else if is_bare header known then Some 16
    else None)
    else None
