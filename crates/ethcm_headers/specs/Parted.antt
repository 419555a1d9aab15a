-- Bytes of which those of the headers stand apart.
use Rattle.std.specs.Prelude.{◌≡◌, ℕ, List, [], ◌++◌, length, Option, Some, None}
use Rattle.ethcm_headers.specs.declared.chains.Headers.{Headers}
use Rattle.ethcm_headers.specs.Chains.{headers_at, length_of}

-- the bytes of a payload, where there is one
abbrev pub bytes_in : Option (List ℕ) → List ℕ
bytes_in None = []
bytes_in (Some payload) = payload

-- where these bytes begin with headers, those are the front, and the payload is behind it
abbrev pub StandApart : List ℕ → List ℕ → Type 0
StandApart front behind =
    (headers : Headers) → headers_at (front ++ behind) ≡ Some headers
    → length front ≡ length_of headers.chain
