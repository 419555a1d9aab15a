-- The bodies of requests.
use Rattle.std.proofs.Common.{◌≡◌, ◌≢◌, ℕ, ◌%◌, ◌^◌, ◌<◌, ◌≤◌, true, false, List, [], ◌∷◌, ◌++◌}
use Rattle.std.proofs.Common.{length, drop, refl, ap, sym, subst, ◌∙◌, arith, inl, inr, ◌==◌, ◌&&◌}
use Rattle.std.proofs.Common.{nat_le, if◌then◌else◌, Option, Some, None, flat_map, ne_eqb, eq-eqb}
use Rattle.std.proofs.Common.{eqb-true, length-append, length-drop}
use Rattle.std.specs.List.{list_all, AllByRecursion}
use Rattle.std.proofs.lemmas.Bool.{cases_eq, and_from, and_parts}
use Rattle.std.proofs.lemmas.Bool.Decides.{nat_tests}
use Rattle.std.proofs.lemmas.Option.{same_Some}
use Rattle.byteorder.specs.Endian.{big_bytes, big_number}
use Rattle.byteorder.specs.Numbers.{big_number-reads_back}
use Rattle.linx_base.specs.NameText.{is_name, is_name_byte}
use Rattle.linx_base.specs.SigNotes.{SigNote}
use Rattle.gateway_msgs.specs.declared.request.Request.{Request}
use Rattle.gateway_msgs.specs.declared.request.Request.TheVariants as asks
use Rattle.gateway_msgs.specs.Requests.{type_of, body_of, FitsFields, IsAsker, IsBodyOf, IsSignal}
use Rattle.gateway_msgs.specs.Requests.{signal_bytes}
use Rattle.gateway_msgs.specs.Positions.{fits_size, is_asker, may_be_body}
use Rattle.gateway_msgs.proofs.Numbers.{AreBytes, drop_bytes, spelled_4, spelled_8, whole_8}
use Rattle.gateway_msgs.proofs.Numbers.{fits_4, fits_8, words, words_again, length_words, words_of}

-- ---- what a request's body is

pub name_parts : (name : List ℕ) → is_name name ≡ true
    → ((nat_le 1 (length name) && nat_le (length name) 32) ≡ true)
    × (list_all is_name_byte name ≡ true)
name_parts name is = and_parts (nat_le 1 (length name) && nat_le (length name) 32)
    (list_all is_name_byte name) is

-- its size is one of its type
pub sized : (request : Request) → FitsFields request
    → fits_size (type_of request) (length (body_of request)) ≡ true
sized (asks.Open name) fits = (name_parts name fits).0
sized (asks.Send to signal) fits =
    let held = fits.1.1 in
    let size = length-append (big_bytes 8 to.0) (signal_bytes signal) in
    let signal_size = length-append (big_bytes 4 signal.number) signal.bytes in
    grind (arith, nat_tests)
sized (asks.Receive count numbers) fits =
    let few = fits.1 in
    let size = length-append (big_bytes 4 count) (flat_map (big_bytes 4) numbers) in
    let words_size = length_words numbers in
    grind (arith, nat_tests)
sized (asks.Hunt name) fits = (name_parts name fits).0
sized (asks.Timer delay signal) fits =
    let held = fits.1.1 in
    let size = length-append (big_bytes 4 delay) (signal_bytes signal) in
    let signal_size = length-append (big_bytes 4 signal.number) signal.bytes in
    grind (arith, nat_tests)
sized _ fits = refl

-- and where it is a name's its bytes are
pub named : (request : Request) → FitsFields request
    → may_be_body (type_of request) (body_of request) ≡ true
named (asks.Open name) fits = (name_parts name fits).1
named (asks.Hunt name) fits = (name_parts name fits).1
named _ fits = refl

-- who asks
client_test : (clients client : ℕ) → (0 < client) × (client ≤ clients)
    → is_asker clients 2 client ≡ true
client_test clients client is =
    let from = is.0 in let to = is.1 in grind (arith, nat_tests)

pub asked_by : (clients client : ℕ) (request : Request) → IsAsker clients client request
    → is_asker clients (type_of request) client ≡ true
asked_by clients client (asks.Clock moment) is = eq-eqb client 0 is
asked_by clients client _ is = client_test clients client is

client_of : (clients client : ℕ) → is_asker clients 2 client ≡ true
    → (0 < client) × (client ≤ clients)
client_of clients client is = (grind (arith, nat_tests), grind (arith, nat_tests))

pub asks_for : (clients client : ℕ) (request : Request)
    → is_asker clients (type_of request) client ≡ true → IsAsker clients client request
asks_for clients client (asks.Clock moment) is = grind (arith, nat_tests)
asks_for clients client _ is = client_of clients client is

-- ---- the request of a body

pub record HasRequest (type : ℕ) (body : List ℕ) : Type 0 where
  pub request : Request
  pub is : IsBodyOf type body request

-- what may be a body of a type, by its size and its bytes
pub record IsBody (type : ℕ) (body : List ℕ) : Type 0 where
  pub fits : fits_size type (length body) ≡ true
  pub named : may_be_body type body ≡ true
  pub bytes : AreBytes body

name_whole : (name : List ℕ) → (nat_le 1 (length name) && nat_le (length name) 32) ≡ true
    → list_all is_name_byte name ≡ true → is_name name ≡ true
name_whole name size bytes = and_from (nat_le 1 (length name) && nat_le (length name) 32)
    (list_all is_name_byte name) size bytes

-- a signal to the end
pub signal_of : List ℕ → SigNote
signal_of bytes = record { number = big_number 4 bytes; bytes = drop 4 bytes }

signal_whole : (bytes : List ℕ) → AreBytes bytes → 4 ≤ length bytes → length bytes ≤ 65536
    → (bytes ≡ signal_bytes (signal_of bytes)) × IsSignal (signal_of bytes)
unfolding signal_of
signal_whole bytes are long short =
    (spelled_4 bytes are long, (fits_4 bytes are, omega (arith, length-drop 4 bytes)))

made_open : (body : List ℕ) → IsBody 1 body → HasRequest 1 body
made_open body is = record {
  request = asks.Open body;
  is = record { of_type = refl; spelled = refl; fits = name_whole body is.fits is.named };
}

made_close : (body : List ℕ) → IsBody 2 body → HasRequest 2 body
made_close [] is = record {
  request = asks.Close;
  is = record { of_type = refl; spelled = refl; fits = tt };
}
made_close (b ∷ body) is = let fits = is.fits in absurd (grind (arith, nat_tests))

made_send : (body : List ℕ) → IsBody 3 body → HasRequest 3 body
unfolding signal_of
made_send body is =
    let fits = is.fits in
    let long : 12 ≤ length body = grind (arith, nat_tests) in
    let short : length body ≤ 65544 = grind (arith, nat_tests) in
    let rest_long = length-drop 8 body in
    let signal = signal_whole (drop 8 body) (drop_bytes 8 body is.bytes) (omega arith)
    (omega arith) in
    record {
      request = asks.Send (record { 0 = big_number 8 body }) (signal_of (drop 8 body));
      is = record {
        of_type = refl;
        spelled = spelled_8 body is.bytes (omega arith)
            ∙ ap (λ l. big_bytes 8 (big_number 8 body) ++ l) signal.0;
        fits = (fits_8 body is.bytes, signal.1);
      };
    }

pub received : (body rest : List ℕ) (count : ℕ) (numbers : List ℕ)
    → body ≡ big_bytes 4 count ++ rest → count < 2 ^ 32 → rest ≡ flat_map (big_bytes 4) numbers
    → AllByRecursion (λ n. n < 2 ^ 32) numbers → length body ≤ 260
    → IsBodyOf 4 body (asks.Receive count numbers)
received body rest count numbers first count_fits others fit short =
    let many = length_words numbers in
    let size = ap length others in
    let whole = ap length first ∙ length-append (big_bytes 4 count) rest in
    record {
      of_type = refl;
      spelled = first ∙ ap (λ l. big_bytes 4 count ++ l) others;
      fits = (count_fits, omega arith, fit);
    }

made_receive : (body : List ℕ) → IsBody 4 body → HasRequest 4 body
made_receive body is =
    let fits = is.fits in
    let long : 4 ≤ length body = grind (arith, nat_tests) in
    let short : length body ≤ 260 = grind (arith, nat_tests) in
    let even : length body % 4 ≡ 0 = grind (arith, nat_tests) in
    let rest_long = length-drop 4 body in
    let found = words_of (drop 4 body) (drop_bytes 4 body is.bytes) (omega arith) in
    record {
      request = asks.Receive (big_number 4 body) found.numbers;
      is =
          received body (drop 4 body) (big_number 4 body) found.numbers
          (spelled_4 body is.bytes long) (fits_4 body is.bytes) found.spelled found.fit short;
    }

made_hunt : (body : List ℕ) → IsBody 5 body → HasRequest 5 body
made_hunt body is = record {
  request = asks.Hunt body;
  is = record { of_type = refl; spelled = refl; fits = name_whole body is.fits is.named };
}

-- a number of eight bytes alone
made_number : (type : ℕ) (body : List ℕ) (make : ℕ → Request)
    → ((n : ℕ) → (type_of (make n) ≡ type) × (big_bytes 8 n ≡ body_of (make n)))
    → ((n : ℕ) → n < 2 ^ 64 → FitsFields (make n)) → (length body == 8) ≡ true → AreBytes body
    → HasRequest type body
made_number type body make is fits long bytes =
    let n = big_number 8 body in
    record {
      request = make n;
      is =
          record {
            of_type = (is n).0;
            spelled = whole_8 body bytes (eqb-true (length body) 8 long) ∙ (is n).1;
            fits = fits n (fits_8 body bytes);
          };
    }

made_attach : (body : List ℕ) → IsBody 6 body → HasRequest 6 body
made_attach body is =
    made_number 6 body (λ n. asks.Attach (record { 0 = n })) (λ n. (refl, refl)) (λ n fits. fits)
    is.fits is.bytes

made_detach : (body : List ℕ) → IsBody 7 body → HasRequest 7 body
made_detach body is =
    made_number 7 body (λ n. asks.Detach (record { 0 = n })) (λ n. (refl, refl)) (λ n fits. fits)
    is.fits is.bytes

made_timer : (body : List ℕ) → IsBody 8 body → HasRequest 8 body
unfolding signal_of
made_timer body is =
    let fits = is.fits in
    let long : 8 ≤ length body = grind (arith, nat_tests) in
    let short : length body ≤ 65540 = grind (arith, nat_tests) in
    let rest_long = length-drop 4 body in
    let signal = signal_whole (drop 4 body) (drop_bytes 4 body is.bytes) (omega arith)
    (omega arith) in
    record {
      request = asks.Timer (big_number 4 body) (signal_of (drop 4 body));
      is = record {
        of_type = refl;
        spelled = spelled_4 body is.bytes (omega arith)
            ∙ ap (λ l. big_bytes 4 (big_number 4 body) ++ l) signal.0;
        fits = (fits_4 body is.bytes, signal.1);
      };
    }

made_cancel : (body : List ℕ) → IsBody 9 body → HasRequest 9 body
made_cancel body is =
    made_number 9 body (λ n. asks.Cancel n) (λ n. (refl, refl)) (λ n fits. fits) is.fits is.bytes

whole_4 : (bytes : List ℕ) → AreBytes bytes → length bytes ≡ 4
    → bytes ≡ big_bytes 4 (big_number 4 bytes)
whole_4 (a ∷ b ∷ c ∷ d ∷ []) are long = spelled_4 (a ∷ b ∷ c ∷ d ∷ []) are (omega arith)
whole_4 _ are long = absurd (omega arith)

made_modify : (body : List ℕ) → IsBody 10 body → HasRequest 10 body
made_modify body is =
    let fits = is.fits in
    let long : length body ≡ 12 = grind (arith, nat_tests) in
    let rest_long = length-drop 8 body in
    record {
      request = asks.Modify (big_number 8 body) (big_number 4 (drop 8 body));
      is = record {
        of_type = refl;
        spelled = spelled_8 body is.bytes (omega arith)
            ∙ ap (λ l. big_bytes 8 (big_number 8 body) ++ l)
            (whole_4 (drop 8 body) (drop_bytes 8 body is.bytes) (omega arith));
        fits = (fits_8 body is.bytes, fits_4 (drop 8 body) (drop_bytes 8 body is.bytes));
      };
    }

made_clock : (body : List ℕ) → IsBody 11 body → HasRequest 11 body
made_clock body is =
    made_number 11 body (λ n. asks.Clock n) (λ n. (refl, refl)) (λ n fits. fits) is.fits is.bytes

-- no type is another
no_type : (t size : ℕ) → t ≢ 1 → t ≢ 2 → t ≢ 3 → t ≢ 4 → t ≢ 5 → t ≢ 6 → t ≢ 7 → t ≢ 8 → t ≢ 9
    → t ≢ 10 → t ≢ 11 → fits_size t size ≡ false
no_type t size n1 n2 n3 n4 n5 n6 n7 n8 n9 n10 n11 =
    rw (
      ne_eqb t 1 n1,
      ne_eqb t 2 n2,
      ne_eqb t 3 n3,
      ne_eqb t 4 n4,
      ne_eqb t 5 n5,
      ne_eqb t 6 n6,
      ne_eqb t 7 n7,
      ne_eqb t 8 n8,
      ne_eqb t 9 n9,
      ne_eqb t 10 n10,
      ne_eqb t 11 n11,
    )
    refl

module _ (t : ℕ) (body : List ℕ) (is : IsBody t body) where
  -- a request of this type
  by_type : (k : ℕ) → (IsBody k body → HasRequest k body) → t ≡ k → HasRequest t body
  by_type k made same = subst (λ (n : ℕ). HasRequest n body) (sym same)
      (made (subst (λ (n : ℕ). IsBody n body) same is))

  -- each body has one
  pub made : HasRequest t body
  made = elim (cases_eq t 1) [
    | inl e ↦ by_type 1 (made_open body) e
    | inr n1 ↦
        elim (cases_eq t 2) [
          | inl e ↦ by_type 2 (made_close body) e
          | inr n2 ↦
              elim (cases_eq t 3) [
                | inl e ↦ by_type 3 (made_send body) e
                | inr n3 ↦
                    elim (cases_eq t 4) [
                      | inl e ↦ by_type 4 (made_receive body) e
                      | inr n4 ↦
                          elim (cases_eq t 5) [
                            | inl e ↦ by_type 5 (made_hunt body) e
                            | inr n5 ↦
                                elim (cases_eq t 6) [
                                  | inl e ↦ by_type 6 (made_attach body) e
                                  | inr n6 ↦
                                      elim (cases_eq t 7) [
                                        | inl e ↦ by_type 7 (made_detach body) e
                                        | inr n7 ↦
                                            elim (cases_eq t 8) [
                                              | inl e ↦ by_type 8 (made_timer body) e
                                              | inr n8 ↦
                                                  elim (cases_eq t 9) [
                                                    | inl e ↦ by_type 9 (made_cancel body) e
                                                    | inr n9 ↦
                                                        elim (cases_eq t 10) [
                                                          | inl e ↦ by_type 10 (made_modify body) e
                                                          | inr n10 ↦
                                                              elim (cases_eq t 11) [
                                                                | inl e ↦ by_type 11 (made_clock body) e
                                                                | inr n11 ↦
                                                                    let none = no_type t (length body) n1 n2 n3 n4 n5 n6 n7 n8 n9 n10 n11 in
                                                                    let some = is.fits in
                                                                    absurd cc
                                                              ]
                                                        ]
                                                  ]
                                            ]
                                      ]
                                ]
                          ]
                    ]
              ]
        ]
  ]

-- ---- no body is that of two requests of a type

-- the request that the fields at their places make
request_of : ℕ → List ℕ → Option Request
request_of type body =
    (if type == 1 then Some (asks.Open body)
    else if type == 2 then Some asks.Close
    else if type == 3 then Some
    (asks.Send (record { 0 = big_number 8 body }) (signal_of (drop 8 body)))
    else if type == 4 then Some (asks.Receive (big_number 4 body) (words (drop 4 body)))
    else if type == 5 then Some (asks.Hunt body)
    else if type == 6 then Some (asks.Attach (record { 0 = big_number 8 body }))
    else if type == 7 then Some (asks.Detach (record { 0 = big_number 8 body }))
    else if type == 8 then Some (asks.Timer (big_number 4 body) (signal_of (drop 4 body)))
    else if type == 9 then Some (asks.Cancel (big_number 8 body))
    else if type == 10 then Some (asks.Modify (big_number 8 body) (big_number 4 (drop 8 body)))
    else if type == 11 then Some (asks.Clock (big_number 8 body))
    else None)

-- is the one that was spelled
request_again : (request : Request) → FitsFields request
    → request_of (type_of request) (body_of request) ≡ Some request
unfolding request_of signal_of
request_again (asks.Open name) fits = refl
request_again asks.Close fits = refl
request_again (asks.Send to signal) fits =
    rw (
      big_number-reads_back 8 to.0 (signal_bytes signal) fits.0,
      big_number-reads_back 4 signal.number signal.bytes fits.1.0,
    )
    refl
request_again (asks.Receive count numbers) fits =
    rw (
      big_number-reads_back 4 count (flat_map (big_bytes 4) numbers) fits.0,
      words_again numbers fits.2,
    )
    refl
request_again (asks.Hunt name) fits = refl
request_again (asks.Attach peer) fits = rw (big_number-reads_back 8 peer.0 [] fits) refl
request_again (asks.Detach attach) fits = rw (big_number-reads_back 8 attach.0 [] fits) refl
request_again (asks.Timer delay signal) fits =
    rw (
      big_number-reads_back 4 delay (signal_bytes signal) fits.0,
      big_number-reads_back 4 signal.number signal.bytes fits.1.0,
    )
    refl
request_again (asks.Cancel reference) fits = rw (big_number-reads_back 8 reference [] fits) refl
request_again (asks.Modify reference delay) fits =
    rw (
      big_number-reads_back 8 reference (big_bytes 4 delay) fits.0,
      big_number-reads_back 4 delay [] fits.1,
    )
    refl
request_again (asks.Clock moment) fits = rw (big_number-reads_back 8 moment [] fits) refl

pub one_body : (a b : Request) → FitsFields a → FitsFields b → type_of a ≡ type_of b
    → body_of a ≡ body_of b → a ≡ b
one_body a b fits also type body =
    same_Some a b (sym (request_again a fits) ∙ ap (λ t. request_of t (body_of a)) type
    ∙ ap (request_of (type_of b)) body ∙ request_again b also)
