-- What may stand at each place of a request.
use Rattle.std.specs.Prelude.{ℕ, ◌%◌, Bool, true, false, ◌&&◌, ◌||◌, ◌==◌, nat_le, nat_lt}
use Rattle.std.specs.Prelude.{if◌then◌else◌, List, [], ◌∷◌, length, max}
use Rattle.std.specs.List.{list_all}
use Rattle.byteorder.specs.Endian.{big_number}
use Rattle.linx_base.specs.NameText.{is_name_byte}

-- the length that the bytes begin with, or the least that they may become: a length is at least 4
abbrev pub least_length : List ℕ → ℕ
least_length bytes =
    if nat_lt (length bytes) 4 then max 4 (big_number 4 bytes) else big_number 4 bytes

-- whether the body of a request of this type may have so many bytes
abbrev pub fits_size : ℕ → ℕ → Bool
fits_size type size =
    if type == 1 || type == 5 then nat_le 1 size && nat_le size 32
    else if type == 2 then size == 0
    else if type == 3 then nat_le 12 size && nat_le size 65544
    else if type == 4 then nat_le 4 size && (nat_le size 260 && (size % 4 == 0))
    else if type == 8 then nat_le 8 size && nat_le size 65540
    else if type == 10 then size == 12
    else if type == 6 || (type == 7 || (type == 9 || type == 11)) then size == 8
    else false

-- whether a request of this type may be this client's
abbrev pub is_asker : ℕ → ℕ → ℕ → Bool
is_asker clients type client =
    if type == 11 then client == 0 else nat_lt 0 client && nat_le client clients

-- whether a body of this type may begin with these bytes, which are no more than it has
abbrev pub may_be_body : ℕ → List ℕ → Bool
may_be_body type part = if type == 1 || type == 5 then list_all is_name_byte part else true

-- whether these bytes, which are no more than it has, may stand behind the length of a request
-- whose body has so many bytes
abbrev pub may_follow : ℕ → ℕ → List ℕ → Bool
may_follow clients size [] = true
may_follow clients size (type ∷ []) = fits_size type size
may_follow clients size (type ∷ client ∷ []) =
    fits_size type size && is_asker clients type client
may_follow clients size (type ∷ client ∷ next ∷ []) =
    fits_size type size && (is_asker clients type client && (next == 0))
may_follow clients size (type ∷ client ∷ next ∷ last ∷ body) =
    fits_size type size && (is_asker clients type client && (next == 0 && (last == 0
    && may_be_body type body)))
