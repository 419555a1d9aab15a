-- What bytes begin with, as the loop over a stream says it.
use Rattle.std.proofs.Common.{ℕ, ◌<◌, List, length, take, arith, length-take-le}
use Rattle.request_stream.specs.Fronts.{BeginsWith, GoesOn, BeginsNone}
use Rattle.gateway_msgs.specs.Fronts.{IsRequest, BeginsWith as IsBegun, GoesOn as IsPart}
use Rattle.gateway_msgs.specs.Fronts.{BeginsNone as IsNone}
use Rattle.gateway_msgs.proofs.Spelled.{long}

-- a request is never empty
pub whole : (clients room : ℕ) (bytes : List ℕ) (size : ℕ) → IsBegun clients room bytes size
    → BeginsWith (IsRequest clients) room bytes size
whole clients room bytes size begun =
    let least = long clients (take size bytes) begun.is_request in
    let size_is = length-take-le size bytes begun.within in
    record {
      some = omega (arith, least, size_is);
      within = begun.within;
      fits = begun.fits;
      is_request = begun.is_request;
    }

pub part : (clients room : ℕ) (bytes : List ℕ) → IsPart clients room bytes
    → GoesOn (IsRequest clients) room bytes
part clients room bytes goes = record {
  behind = goes.missing;
  some = goes.some;
  fits = goes.fits;
  is_request = goes.is_request;
}

pub none : (clients room : ℕ) (bytes : List ℕ) → 0 < length bytes → IsNone clients room bytes
    → BeginsNone (IsRequest clients) room bytes
none clients room bytes some bad = record {
  some = some;
  no_whole = λ size begun. bad.no_whole size (record {
    within = begun.within;
    fits = begun.fits;
    is_request = begun.is_request;
  });
  no_more = λ goes. bad.no_more (record {
    missing = goes.behind;
    some = goes.some;
    fits = goes.fits;
    is_request = goes.is_request;
  });
}
