-- A session that its bytes ended gives the answers to them.
use Rattle.std.proofs.Common.{◌≡◌, ℕ, ◌+◌, ◌-◌, ◌<◌, ◌≤◌, ◌⊎◌, List, [], ◌++◌, length, take, Option}
use Rattle.std.proofs.Common.{Some, inl, inr, refl, sym, ap, ◌∙◌, subst, append_assoc, arith}
use Rattle.std.proofs.Common.{length-append, length-take, None, Result, Ok, Err, IfSome, append-nil}
use Rattle.std.specs.Io.KnownBytes.{Consumes, IsAtEnd}
use Rattle.std.proofs.lemmas.Bool.{cases_lt}
use Rattle.std.proofs.lemmas.List.{take-append-le}
use Rattle.std.proofs.Math.Seq.{take-append-add}
use Rattle.request_stream.specs.declared.stop.ServeStop.{ServeStop}
use Rattle.request_stream.specs.declared.stop.ServeStop.TheVariants.{Torn, BadStream}
use Rattle.request_stream.specs.Answers.{Answered, EndsBy, EndsItself}
use Rattle.request_stream.specs.Ending.{Done, IsTorn, Next, Stopped, first, room_at, stream_limit}
use Rattle.request_stream.specs.Fronts.{BeginsWith, BeginsNone, GoesOn}
use Rattle.request_stream.specs.Serving.{Moment, Serves, asked, server_after}

-- the bytes of a source are those that came, and those that it has left
record Left (bytes came : List ℕ) (left : Option (List ℕ)) : Type 0 where
  rest : List ℕ
  is : left ≡ Some rest
  whole : bytes ≡ came ++ rest

left_of : (bytes came : List ℕ) (left : Option (List ℕ)) → Consumes (Some bytes) left came
    → Left bytes came left
left_of bytes came None h = absurd h
left_of bytes came (Some rest) h = record { rest = rest; is = refl; whole = h }

none_left : (left : Option (List ℕ)) (rest : List ℕ) → left ≡ Some rest → IsAtEnd left → rest ≡ []
none_left left rest e h = subst IsAtEnd e h

-- ---- what begins no request doesn't begin one with more behind it

module _ (asks : List ℕ → Type 0) (room : ℕ) (bytes more : List ℕ) where
  still_whole : (n : ℕ) → n ≤ length bytes → BeginsWith asks room (bytes ++ more) n
      → BeginsWith asks room bytes n
  still_whole n h b =
      record {
        some = b.some;
        within = h;
        fits = b.fits;
        is_request = subst asks (take-append-le n bytes more h) b.is_request;
      }

  then_whole : (n : ℕ) → length bytes < n → BeginsWith asks room (bytes ++ more) n
      → GoesOn asks room bytes
  then_whole n h b =
      let k = n - length bytes in
      let size : n ≡ length bytes + k = omega arith in
      let is : take n (bytes ++ more) ≡ bytes ++ take k more =
      ap (λ (i : ℕ). take i (bytes ++ more)) size ∙ take-append-add bytes more k
      in
      let within : n ≤ length bytes + length more = omega (arith, b.within, length-append bytes more) in
      record {
        behind = take k more;
        some = omega (arith, length-take k more);
        fits = omega (arith, b.fits, length-append bytes (take k more), length-take k more);
        is_request = subst asks is b.is_request;
      }

  goes_further : GoesOn asks room (bytes ++ more) → GoesOn asks room bytes
  goes_further on =
      let is : (bytes ++ more) ++ on.behind ≡ bytes ++ (more ++ on.behind) =
      append_assoc bytes more on.behind
      in
      record {
        behind = more ++ on.behind;
        some = omega (arith, on.some, length-append more on.behind);
        fits = omega (arith, on.fits, ap length is);
        is_request = subst asks is on.is_request;
      }

  still_none : BeginsNone asks room bytes → BeginsNone asks room (bytes ++ more)
  still_none none =
      record {
        some = omega (arith, none.some, length-append bytes more);
        no_whole = λ n b.
            elim (cases_lt (length bytes) n) [
              | inl h ↦ none.no_more (then_whole n h b)
              | inr h ↦ none.no_whole n (still_whole n h b)
            ];
        no_more = λ on. none.no_more (goes_further on);
      }

  still_next : (holds : List ℕ → Type 0) → Next asks room bytes holds
      → Next asks room (bytes ++ more) holds
  still_next holds next =
      let same : take next.size (bytes ++ more) ≡ take next.size bytes =
      take-append-le next.size bytes more next.begins.within
      in
      record {
        size = next.size;
        begins = record {
          some = next.begins.some;
          within = omega (arith, next.begins.within, length-append bytes more);
          fits = next.begins.fits;
          is_request = subst asks (sym same) next.begins.is_request;
        };
        does = subst holds (sym same) next.does;
      }

-- ---- sessions

module _ {Server : Type 0} (asks : Server → List ℕ → Type 0)
    (replies : Server → List ℕ → Server → List ℕ → Type 0) (refuses : Server → List ℕ → Type 0)
  where
    -- the answers up to a moment, and what ends them behind it
    answers_at : (s : Server) (bytes more : List ℕ) (held : Option (List ℕ)) (last : Moment Server)
        (result : Result (Unit {0}) ServeStop)
        (serves : Serves asks replies (first s (Some bytes) held) last)
        → bytes ≡ serves.came ++ more → last.at ≤ stream_limit
        → EndsBy asks refuses last.server last.at (last.rest ++ more) result
        → Answered asks replies refuses s bytes result held last.held
    answers_at s bytes more held last result serves whole within ends =
        let cut : bytes ≡ asked serves.exchanges ++ (last.rest ++ more) =
        whole ∙ ap (λ (l : List ℕ). l ++ more) serves.taken
        ∙ append_assoc (asked serves.exchanges) last.rest more
        in
        record {
          exchanges = serves.exchanges;
          are = record {
            rest = last.rest ++ more;
            cut = cut;
            served = serves.served;
            within = omega (arith, within, serves.counted);
            ends =
                subst
                (λ (n : ℕ). EndsBy asks refuses (server_after s serves.exchanges) n (last.rest ++ more) result)
                serves.counted
                (subst (λ (t : Server). EndsBy asks refuses t last.at (last.rest ++ more) result)
                serves.leaves ends);
          };
          replied = serves.replied;
        }

    pub answered_done : (s after : Server) (bytes : List ℕ) (left held new : Option (List ℕ))
        → Done asks replies (first s (Some bytes) held) after left new
        → Answered asks replies refuses s bytes (Ok tt) held new
    answered_done s after bytes left held new done =
        let rest = left_of bytes done.serves.came left done.serves.read in
        answers_at s bytes rest.rest held
        (record { server = after; at = done.at; rest = []; left = left; held = new }) (Ok tt)
        done.serves rest.whole done.within (none_left left rest.rest rest.is done.at_end)

    torn_ends : (m : Moment Server) (at : ℕ) (more : List ℕ) → more ≡ [] → IsTorn asks m at
        → EndsBy asks refuses m.server m.at (m.rest ++ more) (Err (Torn at))
    torn_ends m at more e torn =
        subst (λ (l : List ℕ). EndsBy asks refuses m.server m.at l (Err (Torn at)))
        (sym (append-nil m.rest) ∙ ap (λ (l : List ℕ). m.rest ++ l) (sym e))
        (torn.place, (λ none. absurd (omega (arith, torn.some, ap length none))), torn.goes_on)

    bad_ends : (m : Moment Server) (at : ℕ) (more : List ℕ)
        → BeginsNone (asks m.server) (room_at m.at) m.rest
        ⊎ Next (asks m.server) (room_at m.at) m.rest (refuses m.server) → at ≡ m.at
        → EndsBy asks refuses m.server m.at (m.rest ++ more) (Err (BadStream at))
    bad_ends m at more (inl none) e =
        (e, inl (still_none (asks m.server) (room_at m.at) m.rest more none))
    bad_ends m at more (inr next) e =
        (e, inr (still_next (asks m.server) (room_at m.at) m.rest more (refuses m.server) next))

    pub answered_stopped : (is_full : Server → List ℕ → Type 0)
        (leaves : Server → List ℕ → Server → Type 0) (s : Server) (stop : ServeStop) (after : Server)
        (bytes : List ℕ) (left held new : Option (List ℕ))
        → Stopped asks replies refuses is_full leaves (first s (Some bytes) held) stop after left new
        → EndsItself (Err stop) → Answered asks replies refuses s bytes (Err stop) held new
    answered_stopped is_full leaves s (Torn at) after bytes left held new stopped itself =
        let last = stopped.last in
        let rest = left_of bytes stopped.serves.came last.left stopped.serves.read in
        let torn = stopped.stops.0 in
        subst (λ (h : Option (List ℕ)). Answered asks replies refuses s bytes (Err (Torn at)) held h)
        (sym stopped.stops.2)
        (answers_at s bytes rest.rest held last (Err (Torn at)) stopped.serves rest.whole stopped.within
        (torn_ends last at rest.rest (none_left last.left rest.rest rest.is torn.at_end) torn))
    answered_stopped is_full leaves s (BadStream at) after bytes left held new stopped itself =
        let last = stopped.last in
        let rest = left_of bytes stopped.serves.came last.left stopped.serves.read in
        let bad = stopped.stops.0 in
        subst (λ (h : Option (List ℕ)). Answered asks replies refuses s bytes (Err (BadStream at)) held h)
        (sym stopped.stops.2)
        (answers_at s bytes rest.rest held last (Err (BadStream at)) stopped.serves rest.whole
        stopped.within (bad_ends last at rest.rest bad.is_bad bad.place))
    answered_stopped is_full leaves s _ after bytes left held new stopped itself = absurd itself

    -- the same of a source that may tell its bytes
    pub told_done : (s after : Server) (old left held new : Option (List ℕ))
        → Done asks replies (first s old held) after left new
        → IfSome old (λ bytes. EndsItself (Ok tt) → Answered asks replies refuses s bytes (Ok tt) held new)
    told_done s after None left held new done = tt
    told_done s after (Some bytes) left held new done =
        λ itself. answered_done s after bytes left held new done

    pub told_stopped : (is_full : Server → List ℕ → Type 0)
        (leaves : Server → List ℕ → Server → Type 0) (s : Server) (stop : ServeStop) (after : Server)
        (old left held new : Option (List ℕ))
        → Stopped asks replies refuses is_full leaves (first s old held) stop after left new
        → IfSome old
        (λ bytes. EndsItself (Err stop) → Answered asks replies refuses s bytes (Err stop) held new)
    told_stopped is_full leaves s stop after None left held new stopped = tt
    told_stopped is_full leaves s stop after (Some bytes) left held new stopped =
        answered_stopped is_full leaves s stop after bytes left held new stopped
