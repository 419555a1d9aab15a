-- What bytes begin with, by their shortest frame.
use Rattle.std.proofs.Common.{◌≡◌, ℕ, ◌<◌, ◌≤◌, inl, inr, List, ◌++◌, length, take, drop}
use Rattle.std.proofs.Common.{slice_index, Option, Some, sym, ap, ◌∙◌, arith, None, take_all}
use Rattle.std.proofs.Common.{take-append-drop, length-drop, length-take-le}
use Rattle.request_stream.specs.Fronts.{BeginsWith, BeginsNone, GoesOn}
use Rattle.tcpcm_frames.specs.Frames.{IsSpelled, spelling_of}
use Rattle.tcpcm_framing.specs.Shortest.{header_in, shortest_of}
use Rattle.tcpcm_framing.proofs.Begun.{begins}
use Rattle.tcpcm_framing.proofs.Agreeing.{HasShortest, has_shortest, length_least}

shortest : List ℕ → Option ℕ
shortest bytes = shortest_of (header_in bytes) (length bytes)

-- a frame that bytes begin with, or go on to, is no shorter
with_frame : (room : ℕ) (bytes : List ℕ) (n : ℕ) → 0 < length bytes → BeginsWith IsSpelled room bytes n
    → HasShortest bytes n
with_frame room bytes n some b =
    let g = b.is_request in
    let is : bytes ≡ spelling_of g.0 ++ drop n bytes =
    sym (take-append-drop n bytes) ∙ ap (λ l. l ++ drop n bytes) g.1.spelled
    in
    let has = has_shortest bytes (drop n bytes) g.0 g.1.is_frame some (inr is) in
    record {
      n = has.n;
      is = has.is;
      no_longer =
          omega (arith, has.no_longer, ap length g.1.spelled, length-take-le n bytes b.within);
    }

to_frame : (room : ℕ) (bytes : List ℕ) → 0 < length bytes → (on : GoesOn IsSpelled room bytes)
    → HasShortest bytes (length (bytes ++ on.behind))
to_frame room bytes some on =
    let g = on.is_request in
    let has = has_shortest bytes on.behind g.0 g.1.is_frame some (inl g.1.spelled) in
    record {
      n = has.n;
      is = has.is;
      no_longer = omega (arith, has.no_longer, ap length g.1.spelled);
    }

no_some : {n : ℕ} {found : Option ℕ} → found ≡ Some n → found ≡ None → ⊥
no_some e f = absurd (cc)

same_some : {n m : ℕ} {found : Option ℕ} → found ≡ Some n → found ≡ Some m → n ≡ m
same_some e f = cc

-- no frame has this header
pub none_begins : (bytes : List ℕ) (room : ℕ) → 0 < length bytes
    → shortest_of (header_in bytes) (length bytes) ≡ None → BeginsNone IsSpelled room bytes
none_begins bytes room some e =
    record {
      some = some;
      no_whole = λ n b. no_some (with_frame room bytes n some b).is e;
      no_more = λ on. no_some (to_frame room bytes some on).is e;
    }

-- the shortest frame has no room
pub none_fits : (bytes : List ℕ) (room n : ℕ) → 0 < length bytes
    → shortest_of (header_in bytes) (length bytes) ≡ Some n → room < n
    → BeginsNone IsSpelled room bytes
none_fits bytes room n some e less =
    record {
      some = some;
      no_whole = λ k b.
          let has = with_frame room bytes k some b in
          absurd (omega (arith, same_some has.is e, has.no_longer, b.fits));
      no_more = λ on.
          let has = to_frame room bytes some on in
          absurd (omega (arith, same_some has.is e, has.no_longer, on.fits));
    }

-- the shortest frame isn't whole
pub goes_on : (bytes : List ℕ) (room n : ℕ) → ((k : ℕ) → slice_index bytes k < 256)
    → shortest_of (header_in bytes) (length bytes) ≡ Some n → n ≤ room → length bytes < n
    → GoesOn IsSpelled room bytes
goes_on bytes room n small e fits less =
    let begun = begins bytes n small e in
    let behind = drop (length bytes) (spelling_of begun.frame) in
    let front : bytes ≡ take (length bytes) (spelling_of begun.frame) =
    sym (begun.agrees ∙ take_all n bytes (omega arith))
    in
    let is : bytes ++ behind ≡ spelling_of begun.frame =
    ap (λ l. l ++ behind) front ∙ take-append-drop (length bytes) (spelling_of begun.frame)
    in
    record {
      behind = behind;
      some = omega (arith, begun.long, length-drop (length bytes) (spelling_of begun.frame));
      fits = omega (arith, ap length is, begun.long);
      is_request = (begun.frame, record { is_frame = begun.is_frame; spelled = is });
    }

-- the shortest frame is whole
pub begins_with : (bytes : List ℕ) (room n : ℕ) → ((k : ℕ) → slice_index bytes k < 256)
    → shortest_of (header_in bytes) (length bytes) ≡ Some n → n ≤ room → n ≤ length bytes
    → BeginsWith IsSpelled room bytes n
begins_with bytes room n small e fits within =
    let begun = begins bytes n small e in
    let is : take n bytes ≡ spelling_of begun.frame =
    sym begun.agrees ∙ take_all (length bytes) (spelling_of begun.frame) (omega (arith, begun.long))
    in
    record {
      some = omega (arith, begun.long, length_least begun.frame);
      within = within;
      fits = fits;
      is_request = (begun.frame, record { is_frame = begun.is_frame; spelled = is });
    }
