-- The bytes of a stream have one end and one list of answers.
use Rattle.std.proofs.Common.{◌≡◌, ℕ, ◌+◌, ◌<◌, ◌≤◌, ◌⊎◌, List, [], ◌∷◌, ◌++◌, length, take, inl}
use Rattle.std.proofs.Common.{inr, refl, sym, ap, ◌∙◌, subst, append_assoc, arith, length-append}
use Rattle.std.proofs.Common.{Result, Ok, Err, take_at}
use Rattle.std.proofs.lemmas.List.{append_cancel_left}
use Rattle.request_stream.specs.declared.stop.ServeStop.{ServeStop}
use Rattle.request_stream.specs.declared.stop.ServeStop.TheVariants.{Torn, BadStream, Full}
use Rattle.request_stream.specs.declared.stop.ServeStop.TheVariants.{ReadFault, WriteFault}
use Rattle.request_stream.specs.declared.stop.ServeStop.TheVariants.{NoMemory}
use Rattle.request_stream.specs.Ending.{Next, room_at, stream_limit}
use Rattle.request_stream.specs.Fronts.{BeginsWith, BeginsNone, GoesOn}
use Rattle.request_stream.specs.Serving.{Exchange, AreServed, asked, server_after}
use Rattle.request_stream.specs.Answers.{AreAnswers, EndsBy, HasOneAnswer, IsDecided}
use Rattle.request_stream.proofs.Fronts.{no_both, one_length, not_less}

no_bytes : (bytes : List ℕ) → 0 < length bytes → bytes ≡ [] → ⊥
no_bytes bytes some e = omega (arith, ap length e)

same_exchange : {Server : Type 0} (x y : Exchange Server) → x.request ≡ y.request
    → x.reply ≡ y.reply → x.server ≡ y.server → x ≡ y
same_exchange {Server} x y request reply server =
    let with_request : List ℕ → Exchange Server =
    λ l. record { request = l; reply = x.reply; server = x.server } in
    let with_reply : List ℕ → Exchange Server =
    λ l. record { request = y.request; reply = l; server = x.server } in
    let with_server : Server → Exchange Server =
    λ s. record { request = y.request; reply = y.reply; server = s } in
    ap with_request request ∙ ap with_reply reply ∙ ap with_server server

-- the answers from a place on, with what is behind them
record Rests {Server : Type 0} (asks : Server → List ℕ → Type 0)
    (replies : Server → List ℕ → Server → List ℕ → Type 0) (refuses : Server → List ℕ → Type 0)
    (at : ℕ) (s : Server) (exchanges : List (Exchange Server)) (rest : List ℕ)
    (result : Result (Unit {0}) ServeStop) : Type 0 where
  served : AreServed asks replies s exchanges
  within : at + length (asked exchanges) ≤ stream_limit
  ends : EndsBy asks refuses (server_after s exchanges) (at + length (asked exchanges)) rest result

module _ {Server : Type 0} (asks : Server → List ℕ → Type 0)
    (replies : Server → List ℕ → Server → List ℕ → Type 0) (refuses : Server → List ℕ → Type 0)
    (d : IsDecided asks replies refuses) where
  some_request : (s : Server) (request : List ℕ) → asks s request → 0 < length request
  some_request s [] is = absurd (d.some s is)
  some_request s (b ∷ request) is = omega arith

  -- a request that stands first is one that the bytes begin with
  first_begins : (s : Server) (room : ℕ) (request rest : List ℕ) → asks s request
      → length request ≤ room → BeginsWith (asks s) room (request ++ rest) (length request)
  first_begins s room request rest is fits =
      record {
        some = some_request s request is;
        within = omega (arith, length-append request rest);
        fits = fits;
        is_request = subst (asks s) (sym (take_at request rest (length request) refl)) is;
      }

  one_size : (s : Server) (room : ℕ) (bytes : List ℕ) (n k : ℕ) → BeginsWith (asks s) room bytes n
      → BeginsWith (asks s) room bytes k → k ≡ n
  one_size s room bytes n k a b =
      one_length n k
      (λ h. not_less (asks s) (d.alone s) bytes n k h b.within a.is_request b.is_request)
      (λ h. not_less (asks s) (d.alone s) bytes k n h a.within b.is_request a.is_request)

  some_bad : (s : Server) (at : ℕ) (rest : List ℕ)
      → BeginsNone (asks s) (room_at at) rest ⊎ Next (asks s) (room_at at) rest (refuses s)
      → 0 < length rest
  some_bad s at rest (inl none) = none.some
  some_bad s at rest (inr next) = omega (arith, next.begins.some, next.begins.within)

  torn_bad : (s : Server) (at : ℕ) (rest : List ℕ) → GoesOn (asks s) (room_at at) rest
      → BeginsNone (asks s) (room_at at) rest ⊎ Next (asks s) (room_at at) rest (refuses s) → ⊥
  torn_bad s at rest on (inl none) = none.no_more on
  torn_bad s at rest on (inr next) =
      no_both (asks s) (d.alone s) (room_at at) rest next.size next.begins on

  -- what is left ends the session in one way
  same_end : (s : Server) (at : ℕ) (rest : List ℕ) (a b : Result (Unit {0}) ServeStop)
      → EndsBy asks refuses s at rest a → EndsBy asks refuses s at rest b → a ≡ b
  same_end s at rest (Err Full) b h k = absurd h
  same_end s at rest (Err ReadFault) b h k = absurd h
  same_end s at rest (Err WriteFault) b h k = absurd h
  same_end s at rest (Err NoMemory) b h k = absurd h
  same_end s at rest (Ok x) (Ok y) h k = refl
  same_end s at rest (Ok x) (Err (Torn q)) h k = absurd (k.1 h)
  same_end s at rest (Ok x) (Err (BadStream q)) h k =
      absurd (no_bytes rest (some_bad s at rest k.1) h)
  same_end s at rest (Err (Torn p)) (Ok y) h k = absurd (h.1 k)
  same_end s at rest (Err (Torn p)) (Err (Torn q)) h k = ap (λ (n : ℕ). Err (Torn n)) (h.0 ∙ sym k.0)
  same_end s at rest (Err (Torn p)) (Err (BadStream q)) h k = absurd (torn_bad s at rest h.2 k.1)
  same_end s at rest (Err (BadStream p)) (Ok y) h k =
      absurd (no_bytes rest (some_bad s at rest h.1) k)
  same_end s at rest (Err (BadStream p)) (Err (Torn q)) h k = absurd (torn_bad s at rest k.2 h.1)
  same_end s at rest (Err (BadStream p)) (Err (BadStream q)) h k =
      ap (λ (n : ℕ). Err (BadStream n)) (h.0 ∙ sym k.0)
  same_end s at rest _ _ h k = absurd k

  no_bad : (s t : Server) (at : ℕ) (request rest reply : List ℕ) → asks s request
      → replies s request t reply → at + length request ≤ stream_limit
      → BeginsNone (asks s) (room_at at) (request ++ rest)
      ⊎ Next (asks s) (room_at at) (request ++ rest) (refuses s) → ⊥
  no_bad s t at request rest reply is does fits (inl none) =
      none.no_whole (length request) (first_begins s (room_at at) request rest is (omega arith))
  no_bad s t at request rest reply is does fits (inr next) =
      let size : next.size ≡ length request =
      one_size s (room_at at) (request ++ rest) (length request) next.size
      (first_begins s (room_at at) request rest is (omega arith)) next.begins
      in
      let same : take next.size (request ++ rest) ≡ request =
      ap (λ (n : ℕ). take n (request ++ rest)) size ∙ take_at request rest (length request) refl
      in
      d.apart s t request reply does (subst (refuses s) same next.does)

  -- where a request that is replied to stands first, nothing ends the session
  no_end : (s t : Server) (at : ℕ) (request rest reply : List ℕ) (a : Result (Unit {0}) ServeStop)
      → asks s request → replies s request t reply → at + length request ≤ stream_limit
      → EndsBy asks refuses s at (request ++ rest) a → ⊥
  no_end s t at request rest reply (Ok x) is does fits h =
      no_bytes (request ++ rest)
      (omega (arith, some_request s request is, length-append request rest)) h
  no_end s t at request rest reply (Err (Torn p)) is does fits h =
      no_both (asks s) (d.alone s) (room_at at) (request ++ rest) (length request)
      (first_begins s (room_at at) request rest is (omega arith)) h.2
  no_end s t at request rest reply (Err (BadStream p)) is does fits h =
      no_bad s t at request rest reply is does fits h.1
  no_end s t at request rest reply _ is does fits h = h

  -- the same, of what stands first in a list
  no_more : (at : ℕ) (s : Server) (x : Exchange Server) (xs : List (Exchange Server))
      (r q : List ℕ) (a b : Result (Unit {0}) ServeStop) → r ≡ asked (x ∷ xs) ++ q
      → Rests asks replies refuses at s [] r a → Rests asks replies refuses at s (x ∷ xs) q b → ⊥
  no_more at s x xs r q a b e h k =
      let whole : r ≡ x.request ++ (asked xs ++ q) = e ∙ append_assoc x.request (asked xs) q in
      no_end s x.server (at + 0) x.request (asked xs ++ q) x.reply a k.served.0 k.served.1
      (omega (arith, k.within, length-append x.request (asked xs)))
      (subst (λ (l : List ℕ). EndsBy asks refuses s (at + 0) l a) whole h.ends)

  -- requests that stand first in the same bytes are one
  same_first : (s : Server) (at : ℕ) (x y X Y : List ℕ) → x ++ X ≡ y ++ Y → asks s x → asks s y
      → at + length x ≤ stream_limit → at + length y ≤ stream_limit → x ≡ y
  same_first s at x y X Y e is also fits fit =
      let a = first_begins s (room_at at) x X is (omega arith) in
      let b = first_begins s (room_at at) y Y also (omega arith) in
      let size : length y ≡ length x =
      one_size s (room_at at) (x ++ X) (length x) (length y) a
      (subst (λ (l : List ℕ). BeginsWith (asks s) (room_at at) l (length y)) (sym e) b)
      in
      sym (take_at x X (length x) refl) ∙ ap (take (length x)) e
      ∙ ap (λ (n : ℕ). take n (y ++ Y)) (sym size) ∙ take_at y Y (length y) refl

  -- what is behind the first of a list
  behind : (at : ℕ) (s t : Server) (x : Exchange Server) (xs : List (Exchange Server)) (n : ℕ)
      (r : List ℕ) (a : Result (Unit {0}) ServeStop) → t ≡ x.server → n ≡ length x.request
      → Rests asks replies refuses at s (x ∷ xs) r a → Rests asks replies refuses (at + n) t xs r a
  behind at s t x xs n r a server size h =
      let count : at + length (asked (x ∷ xs)) ≡ at + n + length (asked xs) =
      omega (arith, size, length-append x.request (asked xs))
      in
      record {
        served = subst (λ (u : Server). AreServed asks replies u xs) (sym server) h.served.2;
        within = omega (arith, h.within, count);
        ends =
            subst
            (λ (u : Server). EndsBy asks refuses (server_after u xs) (at + n + length (asked xs)) r a)
            (sym server)
            (subst (λ (k : ℕ). EndsBy asks refuses (server_after x.server xs) k r a) count h.ends);
      }

  same : (at : ℕ) (s : Server) (xs ys : List (Exchange Server)) (r q : List ℕ)
      (a b : Result (Unit {0}) ServeStop) → asked xs ++ r ≡ asked ys ++ q
      → Rests asks replies refuses at s xs r a → Rests asks replies refuses at s ys q b
      → (a ≡ b) × (xs ≡ ys)
  same at s [] [] r q a b e h k = (
    same_end s (at + 0) r a b h.ends
        (subst (λ (l : List ℕ). EndsBy asks refuses s (at + 0) l b) (sym e) k.ends),
    refl,
  )
  same at s [] (y ∷ ys) r q a b e h k = absurd (no_more at s y ys r q a b e h k)
  same at s (x ∷ xs) [] r q a b e h k = absurd (no_more at s x xs q r b a (sym e) k h)
  same at s (x ∷ xs) (y ∷ ys) r q a b e h k =
      let both : x.request ++ (asked xs ++ r) ≡ y.request ++ (asked ys ++ q) =
      sym (append_assoc x.request (asked xs) r) ∙ e ∙ append_assoc y.request (asked ys) q
      in
      let request : x.request ≡ y.request =
      same_first s at x.request y.request (asked xs ++ r) (asked ys ++ q) both h.served.0 k.served.0
      (omega (arith, h.within, length-append x.request (asked xs)))
      (omega (arith, k.within, length-append y.request (asked ys)))
      in
      let also = subst (λ (l : List ℕ). replies s l y.server y.reply) (sym request) k.served.1 in
      let server : x.server ≡ y.server =
      d.one_server s x.server y.server x.request x.reply y.reply h.served.1 also
      in
      let reply : x.reply ≡ y.reply =
      d.one_reply s x.server y.server x.request x.reply y.reply h.served.1 also
      in
      let rest : asked xs ++ r ≡ asked ys ++ q =
      append_cancel_left y.request (asked xs ++ r) (asked ys ++ q)
      (ap (λ (l : List ℕ). l ++ (asked xs ++ r)) (sym request) ∙ both)
      in
      let later =
      same (at + length x.request) x.server xs ys r q a b rest
      (behind at s x.server x xs (length x.request) r a refl refl h)
      (behind at s x.server y ys (length x.request) q b server (ap length request) k)
      in (
        later.0,
        ap (λ (z : Exchange Server). z ∷ xs) (same_exchange x y request reply server)
            ∙ ap (λ (zs : List (Exchange Server)). y ∷ zs) later.1,
      )

  rests : (s : Server) (bytes : List ℕ) (a : Result (Unit {0}) ServeStop)
      (xs : List (Exchange Server)) (h : AreAnswers asks replies refuses 0 s bytes a xs)
      → Rests asks replies refuses 0 s xs h.rest a
  rests s bytes a xs h = record { served = h.served; within = h.within; ends = h.ends }

  pub one_answer : (s : Server) (bytes : List ℕ) → HasOneAnswer asks replies refuses s bytes
  one_answer s bytes =
      record {
        one_end = λ a b xs ys h k.
            (same 0 s xs ys h.rest k.rest a b (sym h.cut ∙ k.cut) (rests s bytes a xs h)
            (rests s bytes b ys k)).0;
        one_list = λ a b xs ys h k.
            (same 0 s xs ys h.rest k.rest a b (sym h.cut ∙ k.cut) (rests s bytes a xs h)
            (rests s bytes b ys k)).1;
      }
