-- How bytes go on to a request.
use Rattle.std.proofs.Common.{◌≡◌, ℕ, zero, suc, ◌+◌, ◌-◌, ◌<◌, ◌≤◌, true, List, [], ◌∷◌, ◌++◌}
use Rattle.std.proofs.Common.{length, refl, ap, sym, subst, ◌∙◌, arith, inl, inr, ◌==◌, ◌&&◌, ◌||◌}
use Rattle.std.proofs.Common.{replicate, if◌then◌else◌, eqb-true, length-append}
use Rattle.std.specs.List.{list_all}
use Rattle.std.proofs.lemmas.Bool.{cases_Bool, cases_eq, cases_lt, and_from, and_parts}
use Rattle.std.proofs.lemmas.Bool.Decides.{nat_tests}
use Rattle.std.proofs.lemmas.List.{length-replicate}
use Rattle.byteorder.specs.Endian.{big_bytes}
use Rattle.linx_base.specs.NameText.{is_name_byte}
use Rattle.gateway_msgs.specs.Requests.{body_of, typed}
use Rattle.gateway_msgs.specs.Fronts.{IsRequest}
use Rattle.gateway_msgs.specs.Positions.{fits_size, is_asker, may_be_body, may_follow}
use Rattle.gateway_msgs.proofs.Numbers.{AreBytes, append_bytes, letters_bytes}
use Rattle.gateway_msgs.proofs.Bodies.{IsBody, asks_for, made}

-- what stands behind the length of a request whose body has so many bytes
pub record IsRest (clients size : ℕ) (rest : List ℕ) : Type 0 where
  pub type : ℕ
  pub client : ℕ
  pub body : List ℕ
  pub parts : rest ≡ typed type client body
  pub sized : length body ≡ size
  pub asker : is_asker clients type client ≡ true
  pub is_body : IsBody type body

-- how bytes go on to that
pub record Completes (clients size : ℕ) (come : List ℕ) : Type 0 where
  pub missing : List ℕ
  pub is_rest : IsRest clients size (come ++ missing)

list_letters : (part : List ℕ) (n : ℕ) → list_all is_name_byte part ≡ true
    → list_all is_name_byte (part ++ replicate n 97) ≡ true
list_letters [] zero all = refl
list_letters [] (suc n) all = list_letters [] n all
list_letters (b ∷ part) n all =
    let both = and_parts (is_name_byte b) (list_all is_name_byte part) all in
    and_from (is_name_byte b) (list_all is_name_byte (part ++ replicate n 97)) both.0
    (list_letters part n both.1)

may_be_letters : (type : ℕ) (part : List ℕ) (n : ℕ) → may_be_body type part ≡ true
    → may_be_body type (part ++ replicate n 97) ≡ true
may_be_letters type part n may = elim (cases_Bool (type == 1 || type == 5)) [
  | inl is ↦
      let all : list_all is_name_byte part ≡ true = rw is at may in
      rw is (list_letters part n all)
  | inr not ↦ rw not refl
]

module _ (clients size type client : ℕ) (fits : fits_size type size ≡ true)
    (asker : is_asker clients type client ≡ true) where
  -- a body goes on with letters
  body_goes : (part : List ℕ) → may_be_body type part ≡ true → AreBytes part → length part ≤ size
      → Completes clients size (typed type client part)
  body_goes part may bytes short =
      let added : List ℕ = replicate (size - length part) 97 in
      let long : length (part ++ added) ≡ size =
      length-append part added ∙ ap (λ n. length part + n) (length-replicate (size - length part) 97)
      ∙ (omega arith)
      in
      record {
        missing = added;
        is_rest =
            record {
              type = type;
              client = client;
              body = part ++ added;
              parts = refl;
              sized = long;
              asker = asker;
              is_body =
                  record {
                    fits = subst (λ n. fits_size type n ≡ true) (sym long) fits;
                    named = may_be_letters type part (size - length part) may;
                    bytes = append_bytes part added bytes (letters_bytes (size - length part));
                  };
            };
      }

  nothing_may : may_be_body type [] ≡ true
  nothing_may = elim (cases_Bool (type == 1 || type == 5)) [
    | inl is ↦ rw is refl
    | inr not ↦ rw not refl
  ]

  no_bytes : AreBytes []
  no_bytes k = omega arith

  client_goes : Completes clients size (type ∷ client ∷ [])
  client_goes =
      let rest = body_goes [] nothing_may no_bytes (omega arith) in
      record { missing = 0 ∷ 0 ∷ rest.missing; is_rest = rest.is_rest }

  zero_goes : Completes clients size (type ∷ client ∷ 0 ∷ [])
  zero_goes =
      let rest = body_goes [] nothing_may no_bytes (omega arith) in
      record { missing = 0 ∷ rest.missing; is_rest = rest.is_rest }

-- who may ask for what is of a type
asker_of : ℕ → ℕ
asker_of type = if type == 11 then 0 else 1

asker_is : (clients type : ℕ) → 0 < clients → is_asker clients type (asker_of type) ≡ true
unfolding asker_of
asker_is clients type some = elim (cases_Bool (type == 11)) [
  | inl is ↦ rw is refl
  | inr not ↦ rw not (grind (arith, nat_tests))
]

type_goes : (clients size type : ℕ) → 0 < clients → fits_size type size ≡ true
    → Completes clients size (type ∷ [])
type_goes clients size type some fits =
    let rest = client_goes clients size type (asker_of type) fits (asker_is clients type some) in
    record { missing = asker_of type ∷ rest.missing; is_rest = rest.is_rest }

any_goes : (clients size type : ℕ) → 0 < clients → fits_size type size ≡ true
    → Completes clients size []
any_goes clients size type some fits =
    let rest = type_goes clients size type some fits in
    record { missing = type ∷ rest.missing; is_rest = rest.is_rest }

-- each size is one of a type
pub length_goes : (clients size : ℕ) → 0 < clients → size ≤ 65544 → Completes clients size []
length_goes clients size some few =
    elim (cases_eq size 0) [
      | inl none ↦ any_goes clients size 2 some (grind (arith, nat_tests))
      | inr any ↦ elim (cases_lt size 32) [
        | inl name ↦ any_goes clients size 1 some (grind (arith, nat_tests))
        | inr more ↦ any_goes clients size 3 some (grind (arith, nat_tests))
      ]
    ]

-- what may stand behind a length goes on to a request
pub goes : (clients size : ℕ) (come : List ℕ) → 0 < clients → size ≤ 65544
    → may_follow clients size come ≡ true → AreBytes come → length come ≤ size + 4
    → Completes clients size come
goes clients size [] some few may bytes short = length_goes clients size some few
goes clients size (type ∷ []) some few may bytes short = type_goes clients size type some may
goes clients size (type ∷ client ∷ []) some few may bytes short =
    let both = and_parts (fits_size type size) (is_asker clients type client) may in
    client_goes clients size type client both.0 both.1
goes clients size (type ∷ client ∷ z ∷ []) some few may bytes short =
    let fits = and_parts (fits_size type size) (is_asker clients type client && (z == 0)) may in
    let asker = and_parts (is_asker clients type client) (z == 0) fits.1 in
    let is : z ≡ 0 = eqb-true z 0 asker.1 in
    subst (λ (n : ℕ). Completes clients size (type ∷ client ∷ n ∷ [])) (sym is)
    (zero_goes clients size type client fits.0 asker.0)
goes clients size (type ∷ client ∷ z ∷ w ∷ body) some few may bytes short =
    let fits = and_parts (fits_size type size) (is_asker clients type client
    && (z == 0 && (w == 0 && may_be_body type body))) may in
    let asker = and_parts (is_asker clients type client)
    (z == 0 && (w == 0 && may_be_body type body)) fits.1 in
    let first = and_parts (z == 0) (w == 0 && may_be_body type body) asker.1 in
    let second = and_parts (w == 0) (may_be_body type body) first.1 in
    let is : z ≡ 0 = eqb-true z 0 first.0 in
    let also : w ≡ 0 = eqb-true w 0 second.0 in
    subst (λ (n : ℕ). Completes clients size (type ∷ client ∷ n ∷ w ∷ body)) (sym is)
    (subst (λ (n : ℕ). Completes clients size (type ∷ client ∷ 0 ∷ n ∷ body)) (sym also)
    (body_goes clients size type client fits.0 asker.0 body second.1 (λ k. bytes (suc (suc (suc (suc k)))))
    (omega arith)))

-- with its length in front it is one
pub is_request : (clients size : ℕ) (rest : List ℕ) → IsRest clients size rest
    → IsRequest clients (big_bytes 4 (size + 4) ++ rest)
is_request clients size rest is =
    let found = made is.type is.body is.is_body in
    record {
      client = is.client;
      request = found.request;
      spells =
          record {
            asker =
                asks_for clients is.client found.request
                (subst (λ (t : ℕ). is_asker clients t is.client ≡ true) (sym found.is.of_type)
                is.asker);
            fits = found.is.fits;
            spelled =
                ap (λ l. big_bytes 4 (size + 4) ++ l) is.parts
                ∙ ap (λ (n : ℕ). big_bytes 4 (n + 4) ++ typed is.type is.client is.body)
                (sym is.sized)
                ∙ ap (λ (l : List ℕ). big_bytes 4 (length l + 4) ++ typed is.type is.client l)
                found.is.spelled
                ∙ ap (λ (t : ℕ). big_bytes 4 (length (body_of found.request) + 4)
                ++ typed t is.client (body_of found.request)) (sym found.is.of_type);
          };
    }
