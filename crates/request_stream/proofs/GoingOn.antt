-- Sessions that go on from one moment to the next.
use Rattle.std.proofs.Common.{◌≡◌, ◌≢◌, ℕ, ◌+◌, ◌<◌, ◌≤◌, List, [], ◌∷◌, ◌++◌, length, take, drop}
use Rattle.std.proofs.Common.{Option, Some, inl, inr, refl, sym, ap, ◌∙◌, append_assoc, arith}
use Rattle.std.proofs.Common.{length-append, length-take, subst, None, Err, append-nil}
use Rattle.std.proofs.Common.{take-append-drop}
use Rattle.std.proofs.lemmas.List.{drop-append-le}
use Rattle.std.specs.Io.KnownBytes.{Appends, Consumes, Keeps}
use Rattle.std.proofs.KnownBytes.{Appends-trans, Consumes-trans, Consumes-kept}
use Rattle.request_stream.specs.Backlogs.{Come, Comes}
use Rattle.request_stream.specs.Ending.{CountsReads, CountsWrites, HasReplied, Stopped, moment}
use Rattle.request_stream.specs.Ending.{room_at, stream_limit}
use Rattle.request_stream.specs.Fronts.{GoesOn}
use Rattle.request_stream.specs.declared.stop.ServeStop.{ServeStop}
use Rattle.request_stream.specs.declared.stop.ServeStop.TheVariants.{ReadFault}
use Rattle.request_stream.specs.Serving.{Exchange, Moment, Serves, AreServed, asked, said}
use Rattle.request_stream.specs.Serving.{server_after}

pub drop_front : (n : ℕ) (xs ys : List ℕ) → n ≤ length xs → drop n (xs ++ ys) ≡ drop n xs ++ ys
drop_front n xs ys h = drop-append-le n xs ys h

-- ---- lists of exchanges

asked_both : {Server : Type 0} (xs ys : List (Exchange Server)) → asked (xs ++ ys) ≡ asked xs ++ asked ys
asked_both [] ys = refl
asked_both (x ∷ xs) ys =
    ap (λ l. x.request ++ l) (asked_both xs ys) ∙ sym (append_assoc x.request (asked xs) (asked ys))

said_both : {Server : Type 0} (xs ys : List (Exchange Server)) → said (xs ++ ys) ≡ said xs ++ said ys
said_both [] ys = refl
said_both (x ∷ xs) ys =
    ap (λ l. x.reply ++ l) (said_both xs ys) ∙ sym (append_assoc x.reply (said xs) (said ys))

after_both : {Server : Type 0} (s : Server) (xs ys : List (Exchange Server))
    → server_after s (xs ++ ys) ≡ server_after (server_after s xs) ys
after_both s [] ys = refl
after_both s (x ∷ xs) ys = after_both x.server xs ys

served_both : {Server : Type 0} (asks : Server → List ℕ → Type 0)
    (replies : Server → List ℕ → Server → List ℕ → Type 0) (s : Server)
    (xs ys : List (Exchange Server)) → AreServed asks replies s xs
    → AreServed asks replies (server_after s xs) ys → AreServed asks replies s (xs ++ ys)
served_both asks replies s [] ys h k = k
served_both asks replies s (x ∷ xs) ys h k =
    (h.0, h.1, served_both asks replies x.server xs ys h.2 k)

-- ---- nothing known comes or goes

consumes_none : (a : Option (List ℕ)) → Consumes a a []
consumes_none None = tt
consumes_none (Some xs) = refl

appends_none : (a : Option (List ℕ)) → Appends a a []
appends_none None = tt
appends_none (Some xs) = sym (append-nil xs)

-- ---- moments

-- nothing happens
pub serves_none : {Server : Type 0} (asks : Server → List ℕ → Type 0)
    (replies : Server → List ℕ → Server → List ℕ → Type 0) (m : Moment Server)
    → Serves asks replies m m
serves_none asks replies m =
    record {
      came = [];
      exchanges = [];
      read = consumes_none m.left;
      taken = append-nil m.rest;
      served = tt;
      leaves = refl;
      replied = appends_none m.held;
      counted = omega arith;
    }

joined : (a x b y c z : List ℕ) → a ++ x ≡ b ++ y → y ++ z ≡ c → a ++ (x ++ z) ≡ b ++ c
joined a x b y c z e f =
    sym (append_assoc a x z) ∙ ap (λ l. l ++ z) e ∙ append_assoc b y z ∙ ap (λ l. b ++ l) f

-- one session, and then another
pub serves_on : {Server : Type 0} (asks : Server → List ℕ → Type 0)
    (replies : Server → List ℕ → Server → List ℕ → Type 0) (a b c : Moment Server)
    → Serves asks replies a b → Serves asks replies b c → Serves asks replies a c
serves_on asks replies a b c h k =
    let all = h.exchanges ++ k.exchanges in
    let here : asked all ≡ asked h.exchanges ++ asked k.exchanges = asked_both h.exchanges k.exchanges in
    record {
      came = h.came ++ k.came;
      exchanges = h.exchanges ++ k.exchanges;
      read = Consumes-trans a.left b.left c.left h.came k.came h.read k.read;
      taken =
          joined a.rest h.came (asked h.exchanges) b.rest (asked k.exchanges ++ c.rest) k.came h.taken
          k.taken
          ∙ sym (append_assoc (asked h.exchanges) (asked k.exchanges) c.rest)
          ∙ ap (λ l. l ++ c.rest) (sym here);
      served =
          served_both asks replies a.server h.exchanges k.exchanges h.served
          (subst (λ s. AreServed asks replies s k.exchanges) h.leaves k.served);
      leaves =
          k.leaves ∙ ap (λ s. server_after s k.exchanges) h.leaves
          ∙ sym (after_both a.server h.exchanges k.exchanges);
      replied =
          subst (Appends a.held c.held) (sym (said_both h.exchanges k.exchanges))
          (Appends-trans a.held b.held c.held _ _ h.replied k.replied);
      counted =
          k.counted ∙ ap (λ n. n + length (asked k.exchanges)) h.counted
          ∙ omega (arith, ap length here, length-append (asked h.exchanges) (asked k.exchanges));
    }

-- one request is served
pub serves_one : {Server : Type 0} (asks : Server → List ℕ → Type 0)
    (replies : Server → List ℕ → Server → List ℕ → Type 0) (s t : Server) (at : ℕ)
    (request rest reply whole : List ℕ) (left held more : Option (List ℕ)) → whole ≡ request ++ rest
    → asks s request → replies s request t reply → Appends held more reply
    → Serves asks replies
    (record { server = s; at = at; rest = whole; left = left; held = held })
    (record { server = t; at = at + length request; rest = rest; left = left; held = more })
serves_one {Server} asks replies s t at request rest reply whole left held more e is does grown =
    let one : Exchange Server = record { request = request; reply = reply; server = t } in
    record {
      came = [];
      exchanges = one ∷ [];
      read = consumes_none left;
      taken = append-nil whole ∙ e ∙ ap (λ l. l ++ rest) (sym (append-nil request));
      served = (is, does, tt);
      leaves = refl;
      replied = subst (Appends held more) (sym (append-nil reply)) grown;
      counted = ap (λ l. at + length l) (sym (append-nil request));
    }

-- a piece comes
pub serves_piece : {Server : Type 0} (asks : Server → List ℕ → Type 0)
    (replies : Server → List ℕ → Server → List ℕ → Type 0) (s : Server) (at : ℕ)
    (rest piece : List ℕ) (left less held : Option (List ℕ)) → Consumes left less piece
    → Serves asks replies
    (record { server = s; at = at; rest = rest; left = left; held = held })
    (record { server = s; at = at; rest = rest ++ piece; left = less; held = held })
serves_piece asks replies s at rest piece left less held lost =
    record {
      came = piece;
      exchanges = [];
      read = lost;
      taken = refl;
      served = tt;
      leaves = refl;
      replied = appends_none held;
      counted = omega arith;
    }

-- the request that stands first is served
pub serves_next : {Server : Type 0} (asks : Server → List ℕ → Type 0)
    (replies : Server → List ℕ → Server → List ℕ → Type 0) (s t : Server) (come after : Come)
    (size : ℕ) (reply : List ℕ) (left held more : Option (List ℕ)) → size ≤ length come.rest
    → after ≡ record { at = come.at + size; rest = drop size come.rest }
    → asks s (take size come.rest) → replies s (take size come.rest) t reply → Appends held more reply
    → Serves asks replies (moment s come left held) (moment t after left more)
serves_next asks replies s t come after size reply left held more within is_after is does grown =
    let counted : come.at + length (take size come.rest) ≡ come.at + size =
    omega (arith, length-take size come.rest)
    in
    let goal : after ≡ record { at = come.at + length (take size come.rest); rest = drop size come.rest } =
    is_after ∙ ap (λ (n : ℕ). record { at = n; rest = drop size come.rest }) (sym counted)
    in
    subst (λ (a : Come). Serves asks replies (moment s come left held) (moment t a left more)) (sym goal)
    (serves_one asks replies s t come.at (take size come.rest) (drop size come.rest) reply come.rest left
    held more (sym (take-append-drop size come.rest)) is does grown)

-- a piece comes
pub serves_come : {Server : Type 0} (asks : Server → List ℕ → Type 0)
    (replies : Server → List ℕ → Server → List ℕ → Type 0) (s : Server) (old new : Come)
    (left less held : Option (List ℕ)) → Comes old new left less
    → Serves asks replies (moment s old left held) (moment s new less held)
serves_come asks replies s old new left less held comes =
    subst (λ (c : Come). Serves asks replies (moment s old left held) (moment s c less held))
    (sym comes.behind)
    (serves_piece asks replies s old.at old.rest comes.piece left less held comes.lost)

-- the source is another one, which has the same left
pub serves_kept : {Server : Type 0} (asks : Server → List ℕ → Type 0)
    (replies : Server → List ℕ → Server → List ℕ → Type 0) (s : Server) (come : Come)
    (left less held : Option (List ℕ)) → Keeps left less
    → Serves asks replies (moment s come left held) (moment s come less held)
serves_kept {Server} asks replies s come left less held keeps =
    record {
      came = [];
      exchanges = [];
      read = Consumes-kept left left less [] (consumes_none left) keeps;
      taken = append-nil come.rest;
      served = tt;
      leaves = refl;
      replied = appends_none held;
      counted = omega arith;
    }

-- a session goes on behind the first moment, and stops
pub stops_later : {Server : Type 0} (asks : Server → List ℕ → Type 0)
    (replies : Server → List ℕ → Server → List ℕ → Type 0) (refuses is_full : Server → List ℕ → Type 0)
    (leaves : Server → List ℕ → Server → Type 0) (a b : Moment Server) (stop : ServeStop) (after : Server) (left held : Option (List ℕ))
    → Serves asks replies a b → Stopped asks replies refuses is_full leaves b stop after left held
    → Stopped asks replies refuses is_full leaves a stop after left held
stops_later asks replies refuses is_full leaves a b stop after left held before stopped =
    record {
      last = stopped.last;
      serves = serves_on asks replies a b stopped.last before stopped.serves;
      within = stopped.within;
      few = stopped.few;
      source = stopped.source;
      stops = stopped.stops;
    }

-- what has come is within the limit where each request was replied to
pub replied_within : {Server : Type 0} (asks : Server → List ℕ → Type 0) (m : Moment Server)
    → m.at ≤ stream_limit → HasReplied asks m → m.at + length m.rest ≤ stream_limit
replied_within asks m within (inl e) = omega (arith, ap length e)
replied_within asks m within (inr on) =
    omega (arith, on.some, on.fits, length-append m.rest on.behind)

-- what stands behind the last request goes on where there is something
pub replied_goes_on : {Server : Type 0} (asks : Server → List ℕ → Type 0) (m : Moment Server)
    → 0 < length m.rest → HasReplied asks m → GoesOn (asks m.server) (room_at m.at) m.rest
replied_goes_on asks m some (inl e) = absurd (omega (arith, ap length e))
replied_goes_on asks m some (inr on) = on

pub is_empty_list : (xs : List ℕ) → length xs ≡ 0 → xs ≡ []
is_empty_list [] h = refl
is_empty_list (x ∷ xs) h = absurd (omega (arith, h))

-- ---- counts of faults

-- a stop that isn't at a read
pub reads_none : (last : Option ℕ) (stop : ServeStop) (old new : ℕ) → stop ≢ ReadFault → new ≡ old
    → CountsReads last (Err stop) old new
reads_none last ReadFault old new other same = absurd (other refl)
reads_none last _ old new other same = same

-- what counted nothing, and then a stop
pub writes_later : (last : Option ℕ) (stop : ServeStop) (old mid new : ℕ) → mid ≡ old
    → CountsWrites last (Err stop) mid new → CountsWrites last (Err stop) old new
writes_later last stop old mid new same counts =
    subst (λ (n : ℕ). CountsWrites last (Err stop) n new) same counts
