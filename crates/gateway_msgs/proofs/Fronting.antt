-- What bytes begin with.
use Rattle.std.proofs.Common.{◌≡◌, ℕ, suc, ◌+◌, ◌-◌, ◌/◌, ◌%◌, ◌^◌, ◌<◌, ◌≤◌, true, false, List, []}
use Rattle.std.proofs.Common.{◌∷◌, ◌++◌, length, take, drop, get_or, refl, ap, sym, subst, ◌∙◌}
use Rattle.std.proofs.Common.{arith, inl, inr, ◌==◌, ◌&&◌, ◌||◌, nat_lt, min, flat_map, slice_range}
use Rattle.std.proofs.Common.{le-ltb, true≢false, append_assoc, length-append, length-drop}
use Rattle.std.proofs.Common.{length-take, take-append-drop, take_all, append-nil}
use Rattle.std.specs.List.{list_all}
use Rattle.std.proofs.lemmas.List.Folds.{list_all-append}
use Rattle.linx_base.specs.NameText.{is_name, is_name_byte}
use Rattle.std.proofs.lemmas.Bool.{cases_Bool, cases_lt, and_from, and_parts}
use Rattle.std.proofs.lemmas.Bool.Decides.{nat_tests}
use Rattle.std.proofs.lemmas.List.{drop-append-le}
use Rattle.byteorder.specs.Endian.{big_bytes, big_number}
use Rattle.byteorder.specs.Numbers.{big_from-append, big_number-reads_back}
use Rattle.gateway_msgs.specs.declared.request.Request.{Request}
use Rattle.gateway_msgs.specs.declared.request.Request.TheVariants as asks
use Rattle.gateway_msgs.specs.declared.front.Front.{Front}
use Rattle.gateway_msgs.specs.declared.front.Front.TheVariants.{Whole, More, Bad}
use Rattle.gateway_msgs.specs.Requests.{type_of, body_of, signal_bytes, typed, request_spelling}
use Rattle.gateway_msgs.specs.Requests.{FitsFields, Spells}
use Rattle.gateway_msgs.specs.Fronts.{IsRequest, BeginsWith, GoesOn, BeginsNone, IsFront}
use Rattle.gateway_msgs.specs.Positions.{fits_size, is_asker, least_length, may_be_body, may_follow}
use Rattle.gateway_msgs.proofs.Numbers.{AreBytes, drop_bytes, take_bytes, spelled_4, length_words}
use Rattle.gateway_msgs.proofs.Bodies.{sized, named, asked_by, name_parts, one_body}
use Rattle.gateway_msgs.proofs.Completing.{IsRest, Completes, goes, length_goes, is_request}

-- ---- the parts of a request

four_long : (n : ℕ) → length (big_bytes 4 n) ≡ 4
four_long n = refl

eight_long : (n : ℕ) → length (big_bytes 8 n) ≡ 8
eight_long n = refl

name_few : (name : List ℕ) → is_name name ≡ true → length name ≤ 65544
name_few name is =
    let size = (name_parts name is).0 in
    let short : length name ≤ 32 = grind (arith, nat_tests) in
    omega arith

few : (request : Request) → FitsFields request → length (body_of request) ≤ 65544
few (asks.Open name) fits = name_few name fits
few (asks.Send to signal) fits =
    omega (
      arith,
      fits.1.1,
      length-append (big_bytes 8 to.0) (signal_bytes signal),
      length-append (big_bytes 4 signal.number) signal.bytes,
      eight_long to.0,
      four_long signal.number,
    )
few (asks.Receive count numbers) fits =
    omega (
      arith,
      fits.1,
      length_words numbers,
      length-append (big_bytes 4 count) (flat_map (big_bytes 4) numbers),
      four_long count,
    )
few (asks.Hunt name) fits = name_few name fits
few (asks.Timer delay signal) fits =
    omega (
      arith,
      fits.1.1,
      length-append (big_bytes 4 delay) (signal_bytes signal),
      length-append (big_bytes 4 signal.number) signal.bytes,
      four_long delay,
      four_long signal.number,
    )
few _ fits = omega arith

-- a request has a body of so many bytes
pub record Parts (clients : ℕ) (bytes : List ℕ) : Type 0 where
  pub size : ℕ
  pub rest : List ℕ
  pub spelled : bytes ≡ big_bytes 4 (size + 4) ++ rest
  pub few : size ≤ 65544
  pub long : length rest ≡ size + 4
  pub follows : may_follow clients size rest ≡ true

pub parts_of : (clients : ℕ) (bytes : List ℕ) → IsRequest clients bytes → Parts clients bytes
parts_of clients bytes is =
    let request = is.request in
    let type = type_of request in
    let body = body_of request in
    record {
      size = length body;
      rest = typed type is.client body;
      spelled = is.spells.spelled;
      few = few request is.spells.fits;
      long = omega arith;
      follows =
          and_from (fits_size type (length body))
          (is_asker clients type is.client && may_be_body type body)
          (sized request is.spells.fits)
          (and_from (is_asker clients type is.client) (may_be_body type body)
          (asked_by clients is.client request is.spells.asker)
          (named request is.spells.fits));
    }

length_whole : (clients : ℕ) (bytes : List ℕ) (p : Parts clients bytes)
    → length bytes ≡ p.size + 8
length_whole clients bytes p =
    omega (
      arith,
      ap length p.spelled,
      length-append (big_bytes 4 (p.size + 4)) p.rest,
      p.long,
      four_long (p.size + 4),
    )

-- ---- lengths

-- the length that four bytes or more begin with
read_length : (bytes missing rest : List ℕ) (n : ℕ) → bytes ++ missing ≡ big_bytes 4 n ++ rest
    → n < 2 ^ 32 → 4 ≤ length bytes → least_length bytes ≡ n
read_length bytes missing rest n is fits long =
    let whole : nat_lt (length bytes) 4 ≡ false = le-ltb (length bytes) 4 long in
    rw whole (sym (big_from-append 4 bytes missing long) ∙ ap (big_number 4) is
    ∙ big_number-reads_back 4 n rest fits)

-- the least that fewer bytes may become is no more than what they become
least_of : (bytes missing rest : List ℕ) (n : ℕ) → bytes ++ missing ≡ big_bytes 4 n ++ rest
    → 4 ≤ n → n < 2 ^ 32 → least_length bytes ≤ n
least_of [] missing rest n is least fits = omega arith
least_of (a ∷ []) missing rest n is least fits =
    let first : a ≡ n / 16777216 % 256 = ap (λ l. get_or l 0 0) is in
    omega arith
least_of (a ∷ b ∷ []) missing rest n is least fits =
    let first : a ≡ n / 16777216 % 256 = ap (λ l. get_or l 0 0) is in
    let second : b ≡ n / 65536 % 256 = ap (λ l. get_or l 1 0) is in
    omega arith
least_of (a ∷ b ∷ c ∷ []) missing rest n is least fits =
    let first : a ≡ n / 16777216 % 256 = ap (λ l. get_or l 0 0) is in
    let second : b ≡ n / 65536 % 256 = ap (λ l. get_or l 1 0) is in
    let third : c ≡ n / 256 % 256 = ap (λ l. get_or l 2 0) is in
    omega arith
least_of (a ∷ b ∷ c ∷ d ∷ bytes) missing rest n is least fits =
    omega (arith, read_length (a ∷ b ∷ c ∷ d ∷ bytes) missing rest n is fits (omega arith))

-- and they become it
becomes_least : (bytes : List ℕ) → AreBytes bytes → length bytes < 4 → least_length bytes ≤ 65548
    → bytes ++ drop (length bytes) (big_bytes 4 (least_length bytes))
    ≡ big_bytes 4 (least_length bytes)
becomes_least [] are short most = refl
becomes_least (a ∷ []) are short most =
    let n = least_length (a ∷ []) in
    let first : a ≡ n / 16777216 % 256 = omega arith in
    ap (λ (k : ℕ). k ∷ drop 1 (big_bytes 4 n)) first
becomes_least (a ∷ b ∷ []) are short most =
    let n = least_length (a ∷ b ∷ []) in
    let low = are 1 in
    let first : a ≡ n / 16777216 % 256 = omega arith in
    let second : b ≡ n / 65536 % 256 = omega arith in
    ap (λ (k : ℕ). k ∷ b ∷ drop 2 (big_bytes 4 n)) first
    ∙ ap (λ (k : ℕ). n / 16777216 % 256 ∷ k ∷ drop 2 (big_bytes 4 n)) second
becomes_least (a ∷ b ∷ c ∷ []) are short most =
    let n = least_length (a ∷ b ∷ c ∷ []) in
    let low = are 1 in
    let lower = are 2 in
    let first : a ≡ n / 16777216 % 256 = omega arith in
    let second : b ≡ n / 65536 % 256 = omega arith in
    let third : c ≡ n / 256 % 256 = omega arith in
    ap (λ (k : ℕ). k ∷ b ∷ c ∷ drop 3 (big_bytes 4 n)) first
    ∙ ap (λ (k : ℕ). n / 16777216 % 256 ∷ k ∷ c ∷ drop 3 (big_bytes 4 n)) second
    ∙ ap (λ (k : ℕ). n / 16777216 % 256 ∷ n / 65536 % 256 ∷ k ∷ drop 3 (big_bytes 4 n)) third
becomes_least (a ∷ b ∷ c ∷ d ∷ bytes) are short most = absurd (omega arith)

least_is : (bytes : List ℕ) → length bytes < 4 → 4 ≤ least_length bytes
least_is (a ∷ b ∷ c ∷ d ∷ bytes) short = absurd (omega arith)
least_is _ short = omega arith

-- ---- what may follow may also come in part

body_part : (type : ℕ) (part missing : List ℕ) → may_be_body type (part ++ missing) ≡ true
    → may_be_body type part ≡ true
body_part type part missing may = elim (cases_Bool (type == 1 || type == 5)) [
  | inl is ↦
      let all : list_all is_name_byte (part ++ missing) ≡ true = rw is at may in
      rw is (and_parts (list_all is_name_byte part) (list_all is_name_byte missing)
      (sym (list_all-append is_name_byte part missing) ∙ all)).0
  | inr not ↦ rw not refl
]

follows_part : (clients size : ℕ) (part missing : List ℕ)
    → may_follow clients size (part ++ missing) ≡ true → may_follow clients size part ≡ true
follows_part clients size [] missing may = refl
follows_part clients size (t ∷ []) [] may = may
follows_part clients size (t ∷ []) (c ∷ []) may =
    (and_parts (fits_size t size) (is_asker clients t c) may).0
follows_part clients size (t ∷ []) (c ∷ z ∷ []) may =
    (and_parts (fits_size t size) (is_asker clients t c && (z == 0)) may).0
follows_part clients size (t ∷ []) (c ∷ z ∷ w ∷ body) may =
    (and_parts (fits_size t size) (is_asker clients t c && (z == 0 && (w == 0
    && may_be_body t body))) may).0
follows_part clients size (t ∷ c ∷ []) [] may = may
follows_part clients size (t ∷ c ∷ []) (z ∷ []) may =
    let fits = and_parts (fits_size t size) (is_asker clients t c && (z == 0)) may in
    and_from (fits_size t size) (is_asker clients t c) fits.0
    (and_parts (is_asker clients t c) (z == 0) fits.1).0
follows_part clients size (t ∷ c ∷ []) (z ∷ w ∷ body) may =
    let fits = and_parts (fits_size t size) (is_asker clients t c && (z == 0 && (w == 0
    && may_be_body t body))) may in
    and_from (fits_size t size) (is_asker clients t c) fits.0
    (and_parts (is_asker clients t c) (z == 0 && (w == 0 && may_be_body t body)) fits.1).0
follows_part clients size (t ∷ c ∷ z ∷ []) [] may = may
follows_part clients size (t ∷ c ∷ z ∷ []) (w ∷ body) may =
    let fits = and_parts (fits_size t size) (is_asker clients t c && (z == 0 && (w == 0
    && may_be_body t body))) may in
    let asker = and_parts (is_asker clients t c) (z == 0 && (w == 0 && may_be_body t body)) fits.1 in
    and_from (fits_size t size) (is_asker clients t c && (z == 0)) fits.0
    (and_from (is_asker clients t c) (z == 0) asker.0
    (and_parts (z == 0) (w == 0 && may_be_body t body) asker.1).0)
follows_part clients size (t ∷ c ∷ z ∷ w ∷ body) missing may =
    let fits = and_parts (fits_size t size) (is_asker clients t c && (z == 0 && (w == 0
    && may_be_body t (body ++ missing)))) may in
    let asker = and_parts (is_asker clients t c)
    (z == 0 && (w == 0 && may_be_body t (body ++ missing))) fits.1 in
    let first = and_parts (z == 0) (w == 0 && may_be_body t (body ++ missing)) asker.1 in
    let second = and_parts (w == 0) (may_be_body t (body ++ missing)) first.1 in
    and_from (fits_size t size) (is_asker clients t c && (z == 0 && (w == 0
    && may_be_body t body))) fits.0
    (and_from (is_asker clients t c) (z == 0 && (w == 0 && may_be_body t body)) asker.0
    (and_from (z == 0) (w == 0 && may_be_body t body) first.0
    (and_from (w == 0) (may_be_body t body) second.0 (body_part t body missing second.1))))

is_nil : (xs : List ℕ) → length xs ≡ 0 → xs ≡ []
is_nil [] none = refl
is_nil (x ∷ xs) none = absurd (omega arith)

take_behind : (n k : ℕ) (rest : List ℕ)
    → take (suc (suc (suc (suc k)))) (big_bytes 4 n ++ rest) ≡ big_bytes 4 n ++ take k rest
take_behind n k rest = refl

rest_long : (clients size : ℕ) (rest : List ℕ) → IsRest clients size rest → length rest ≡ size + 4
rest_long clients size rest is = omega (arith, ap length is.parts, is.sized)

-- ---- a request that bytes begin with, and one that they are a part of

-- a length and how many bytes follow it
pub record Found (clients room : ℕ) (bytes : List ℕ) (whole : ℕ) : Type 0 where
  pub size : ℕ
  pub is_whole : whole ≡ size + 8
  pub long : size + 8 ≤ length bytes
  pub fits : size + 8 ≤ room
  pub few : size ≤ 65544
  pub least : least_length bytes ≡ size + 4
  pub follows : may_follow clients size (take (size + 4) (drop 4 bytes)) ≡ true

-- what stands behind the length of the first so many bytes
rest_is : (bytes rest : List ℕ) (n : ℕ) → take (n + 8) bytes ≡ big_bytes 4 (n + 4) ++ rest
    → n + 8 ≤ length bytes → take (n + 4) (drop 4 bytes) ≡ rest
rest_is (a ∷ b ∷ c ∷ d ∷ bytes) rest n is long =
    let more : n + 8 ≡ suc (suc (suc (suc (n + 4)))) = omega arith in
    let four : take (suc (suc (suc (suc (n + 4))))) (a ∷ b ∷ c ∷ d ∷ bytes) ≡ big_bytes 4 (n + 4) ++ rest =
    subst (λ (k : ℕ). take k (a ∷ b ∷ c ∷ d ∷ bytes) ≡ big_bytes 4 (n + 4) ++ rest) more is in
    ap (drop 4) four
rest_is _ rest n is long = absurd (omega arith)

module _ (clients room : ℕ) (bytes : List ℕ) where
  pub found : (whole : ℕ) → BeginsWith clients room bytes whole → Found clients room bytes whole
  found whole begins =
      let p = parts_of clients (take whole bytes) begins.is_request in
      let size = length_whole clients (take whole bytes) p in
      let is_whole : whole ≡ p.size + 8 =
      omega (arith, size, length-take whole bytes, begins.within) in
      let long : p.size + 8 ≤ length bytes = omega (arith, is_whole, begins.within) in
      let spelled : take (p.size + 8) bytes ≡ big_bytes 4 (p.size + 4) ++ p.rest =
      ap (λ (n : ℕ). take n bytes) (sym is_whole) ∙ p.spelled in
      let small = p.few in
      record {
        size = p.size;
        is_whole = is_whole;
        long = long;
        fits = omega (arith, is_whole, begins.fits);
        few = p.few;
        least =
            read_length bytes [] (p.rest ++ drop (p.size + 8) bytes) (p.size + 4)
            (append-nil bytes ∙ sym (take-append-drop (p.size + 8) bytes)
            ∙ ap (λ l. l ++ drop (p.size + 8) bytes) spelled
            ∙ append_assoc (big_bytes 4 (p.size + 4)) p.rest (drop (p.size + 8) bytes))
            (omega arith) (omega arith);
        follows =
            subst (λ l. may_follow clients p.size l ≡ true)
            (sym (rest_is bytes p.rest p.size spelled long)) p.follows;
      }

  -- more has to come
  pub record Comes : Type 0 where
    pub size : ℕ
    pub short : length bytes < size + 8
    pub fits : size + 8 ≤ room
    pub few : size ≤ 65544
    pub least : least_length bytes ≤ size + 4
    pub is_least : 4 ≤ least_length bytes
    pub length_is : 4 ≤ length bytes → least_length bytes ≡ size + 4
    pub follows : 4 ≤ length bytes → may_follow clients size (drop 4 bytes) ≡ true

  pub comes : GoesOn clients room bytes → Comes
  comes on =
      let p = parts_of clients (bytes ++ on.missing) on.is_request in
      let size = length_whole clients (bytes ++ on.missing) p in
      let both = length-append bytes on.missing in
      let small = p.few in
      let some = on.some in
      let room_fits = on.fits in
      let length_is = read_length bytes on.missing p.rest (p.size + 4) p.spelled (omega arith) in
      record {
        size = p.size;
        short = omega arith;
        fits = omega arith;
        few = p.few;
        least = least_of bytes on.missing p.rest (p.size + 4) p.spelled (omega arith) (omega arith);
        is_least = elim (cases_lt (length bytes) 4) [
          | inl few_come ↦ least_is bytes few_come
          | inr come ↦ omega (arith, length_is come)
        ];
        length_is = length_is;
        follows = λ come.
            let behind : drop 4 bytes ++ on.missing ≡ p.rest =
            sym (drop-append-le 4 bytes on.missing come) ∙ ap (drop 4) p.spelled in
            follows_part clients p.size (drop 4 bytes) on.missing
            (subst (λ l. may_follow clients p.size l ≡ true) (sym behind) p.follows);
      }

  -- ---- what is answered

  -- a length that no request has, or that has no room
  pub none_by_length : (4 ≤ least_length bytes → least_length bytes ≤ 65548
      → least_length bytes + 4 ≤ room → ⊥) → BeginsNone clients room bytes
  none_by_length bad = record {
    no_whole = λ whole begins.
        let f = found whole begins in
        let small = f.few in
        let fits = f.fits in
        bad (omega (arith, f.least)) (omega (arith, f.least)) (omega (arith, f.least));
    no_more = λ on.
        let c = comes on in
        let small = c.few in
        let fits = c.fits in
        let least = c.least in
        bad c.is_least (omega arith) (omega arith);
  }

  module _ (len : ℕ) (is_len : len ≡ least_length bytes) (some : 0 < clients) (are : AreBytes bytes)
      (least : 4 ≤ len) (most : len ≤ 65548) (room_fits : len + 4 ≤ room) where
    abbrev n : ℕ
    n = len - 4

    n_is : n + 4 ≡ least_length bytes
    n_is = omega (arith, is_len)

    small : n ≤ 65544
    small = omega arith

    -- a length in part
    pub more_of_length : length bytes < 4 → GoesOn clients room bytes
    more_of_length short =
        let front = drop (length bytes) (big_bytes 4 (least_length bytes)) in
        let rest = length_goes clients n some small in
        let low : least_length bytes ≤ 65548 = omega (arith, is_len) in
        let whole : bytes ++ (front ++ rest.missing) ≡ big_bytes 4 (n + 4) ++ rest.missing =
        sym (append_assoc bytes front rest.missing)
        ∙ ap (λ l. l ++ rest.missing) (becomes_least bytes are short low)
        ∙ ap (λ (k : ℕ). big_bytes 4 k ++ rest.missing) (sym n_is) in
        let request = is_request clients n rest.missing rest.is_rest in
        let long = rest_long clients n rest.missing rest.is_rest in
        let both = length-append bytes (front ++ rest.missing) in
        let all = ap length whole ∙ length-append (big_bytes 4 (n + 4)) rest.missing in
        let four = four_long (n + 4) in
        record {
          missing = front ++ rest.missing;
          some = omega arith;
          fits = omega arith;
          is_request = subst (IsRequest clients) (sym whole) request;
        }

    -- what came behind the length, up to the end of the request
    module _ (long : 4 ≤ length bytes) (come : List ℕ) (is : come ≡ take (n + 4) (drop 4 bytes))
      where
        come_bytes : AreBytes come
        come_bytes = subst AreBytes (sym is) (take_bytes (n + 4) (drop 4 bytes)
            (drop_bytes 4 bytes are))

        come_short : length come ≤ n + 4
        come_short = omega (arith, ap length is, length-take (n + 4) (drop 4 bytes))

        -- with the length in front
        spelled : bytes ≡ big_bytes 4 (n + 4) ++ drop 4 bytes
        spelled =
            let whole : nat_lt (length bytes) 4 ≡ false = le-ltb (length bytes) 4 long in
            let read : least_length bytes ≡ big_number 4 bytes = rw whole refl in
            spelled_4 bytes are long
            ∙ ap (λ (k : ℕ). big_bytes 4 k ++ drop 4 bytes) (sym (n_is ∙ read))

        -- it may not follow
        pub none_follows : may_follow clients n come ≡ false → BeginsNone clients room bytes
        none_follows bad = record {
          no_whole = λ whole begins.
              let f = found whole begins in
              let same : f.size ≡ n = omega (arith, f.least, n_is) in
              let may : may_follow clients n come ≡ true =
              subst (λ l. may_follow clients n l ≡ true) (sym is)
              (subst (λ (k : ℕ). may_follow clients k (take (k + 4) (drop 4 bytes)) ≡ true) same
              f.follows) in
              true≢false (sym may ∙ bad);
          no_more = λ on.
              let c = comes on in
              let same : c.size ≡ n = omega (arith, c.length_is long, n_is) in
              let short = c.short in
              let rest = length-drop 4 bytes in
              let all : take (n + 4) (drop 4 bytes) ≡ drop 4 bytes =
              take_all (n + 4) (drop 4 bytes) (omega (arith, same)) in
              let may : may_follow clients n come ≡ true =
              subst (λ l. may_follow clients n l ≡ true) (sym (is ∙ all))
              (subst (λ (k : ℕ). may_follow clients k (drop 4 bytes) ≡ true) same
              (c.follows long)) in
              true≢false (sym may ∙ bad);
        }

        module _ (may : may_follow clients n come ≡ true) where
          on : Completes clients n come
          on = goes clients n come some small may come_bytes come_short

          -- it is a part
          pub more_follows : length bytes < len + 4 → GoesOn clients room bytes
          more_follows short =
              let rest = length-drop 4 bytes in
              let all : come ≡ drop 4 bytes =
              is ∙ take_all (n + 4) (drop 4 bytes) (omega arith) in
              let whole : bytes ++ on.missing ≡ big_bytes 4 (n + 4) ++ (come ++ on.missing) =
              ap (λ l. l ++ on.missing) spelled
              ∙ append_assoc (big_bytes 4 (n + 4)) (drop 4 bytes) on.missing
              ∙ ap (λ l. big_bytes 4 (n + 4) ++ (l ++ on.missing)) (sym all) in
              let request = is_request clients n (come ++ on.missing) on.is_rest in
              let size = rest_long clients n (come ++ on.missing) on.is_rest in
              let parts = length-append come on.missing in
              let come_size = ap length all in
              let both = length-append bytes on.missing in
              record {
                missing = on.missing;
                some = omega arith;
                fits = omega arith;
                is_request = subst (IsRequest clients) (sym whole) request;
              }

          -- it is all
          pub whole_follows : len + 4 ≤ length bytes → BeginsWith clients room bytes (len + 4)
          whole_follows enough =
              let rest = length-drop 4 bytes in
              let come_size : length come ≡ n + 4 =
              omega (arith, ap length is, length-take (n + 4) (drop 4 bytes)) in
              let size = rest_long clients n (come ++ on.missing) on.is_rest in
              let parts = length-append come on.missing in
              let none : on.missing ≡ [] = is_nil on.missing (omega arith) in
              let request : IsRequest clients (big_bytes 4 (n + 4) ++ come) =
              is_request clients n come (subst (IsRest clients n) (ap (λ l. come ++ l) none
              ∙ append-nil come) on.is_rest) in
              let same : len + 4 ≡ suc (suc (suc (suc (n + 4)))) = omega arith in
              let front : take (len + 4) bytes ≡ big_bytes 4 (n + 4) ++ come =
              ap (λ (k : ℕ). take k bytes) same ∙ ap (take (suc (suc (suc (suc (n + 4)))))) spelled
              ∙ take_behind (n + 4) (n + 4) (drop 4 bytes)
              ∙ ap (λ l. big_bytes 4 (n + 4) ++ l) (sym is) in
              record {
                within = enough;
                fits = room_fits;
                is_request = subst (IsRequest clients) (sym front) request;
              }

-- what has come behind a length, up to the end of the request
pub cut : (bytes : List ℕ) (len stop : ℕ) → stop ≡ min (length bytes) (len + 4)
    → 4 ≤ length bytes → 4 ≤ len
    → slice_range bytes 4 stop ≡ take (len - 4 + 4) (drop 4 bytes)
cut bytes len stop ends long least =
    let rest = length-drop 4 bytes in
    elim (cases_lt (length bytes) (len + 4)) [
      | inl part ↦
          let here : stop ≡ length bytes = omega arith in
          ap (slice_range bytes 4) here
          ∙ take_all (length bytes - 4) (drop 4 bytes) (omega arith)
          ∙ sym (take_all (len - 4 + 4) (drop 4 bytes) (omega arith))
      | inr all ↦
          let here : stop - 4 ≡ len - 4 + 4 = omega arith in
          ap (λ (k : ℕ). take k (drop 4 bytes)) here
    ]

-- ---- laws

-- no request is a proper front of another
pub none_goes : (clients : ℕ) (bytes more : List ℕ) → IsRequest clients bytes
    → IsRequest clients (bytes ++ more) → more ≡ []
none_goes clients bytes more one other =
    let p = parts_of clients bytes one in
    let q = parts_of clients (bytes ++ more) other in
    let size = length_whole clients bytes p in
    let also = length_whole clients (bytes ++ more) q in
    let small = p.few in
    let little = q.few in
    let first = read_length bytes [] p.rest (p.size + 4) (append-nil bytes ∙ p.spelled)
    (omega arith) (omega arith) in
    let second = read_length bytes more q.rest (q.size + 4) q.spelled (omega arith) (omega arith) in
    is_nil more (omega (arith, length-append bytes more, first, second))

not_both : (clients room : ℕ) (bytes : List ℕ) (whole : ℕ) → BeginsWith clients room bytes whole
    → GoesOn clients room bytes → ⊥
not_both clients room bytes whole one other =
    let f = found clients room bytes whole one in
    let c = comes clients room bytes other in
    let long = f.long in
    let short = c.short in
    omega (arith, f.least, c.length_is (omega arith))

-- bytes begin with one thing only
pub one_front : (clients room : ℕ) (bytes : List ℕ) (a b : Front) → IsFront clients room bytes a
    → IsFront clients room bytes b → a ≡ b
one_front clients room bytes (Whole m) (Whole k) one other =
    let f = found clients room bytes m one in
    let g = found clients room bytes k other in
    ap Whole (omega (arith, f.least, g.least, f.is_whole, g.is_whole))
one_front clients room bytes (Whole m) More one other = absurd (not_both clients room bytes m one other)
one_front clients room bytes (Whole m) Bad one other = absurd (other.no_whole m one)
one_front clients room bytes More (Whole k) one other = absurd (not_both clients room bytes k other one)
one_front clients room bytes More More one other = refl
one_front clients room bytes More Bad one other = absurd (other.no_more one)
one_front clients room bytes Bad (Whole k) one other = absurd (one.no_whole k other)
one_front clients room bytes Bad More one other = absurd (one.no_more other)
one_front clients room bytes Bad Bad one other = refl

-- no bytes spell two requests, nor one of two clients
pub one_spelled : (clients one other : ℕ) (a b : Request) (bytes : List ℕ)
    → Spells clients one a bytes → Spells clients other b bytes → a ≡ b
one_spelled clients one other a b bytes s t =
    let same : request_spelling one a ≡ request_spelling other b = sym s.spelled ∙ t.spelled in
    one_body a b s.fits t.fits (ap (λ l. get_or l 4 0) same) (ap (drop 8) same)

pub one_client : (clients one other : ℕ) (a b : Request) (bytes : List ℕ)
    → Spells clients one a bytes → Spells clients other b bytes → one ≡ other
one_client clients one other a b bytes s t =
    let same : request_spelling one a ≡ request_spelling other b = sym s.spelled ∙ t.spelled in
    ap (λ l. get_or l 5 0) same
