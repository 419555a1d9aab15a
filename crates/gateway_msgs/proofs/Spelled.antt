-- The request that bytes spell.
use Rattle.std.proofs.Common.{◌≡◌, ℕ, ◌≤◌, true, List, length, drop, get_or, ap, sym}
use Rattle.std.proofs.Common.{subst, ◌∙◌, arith}
use Rattle.gateway_msgs.specs.declared.request.Request.{Request}
use Rattle.gateway_msgs.specs.Requests.{type_of, body_of, request_spelling, IsBodyOf, Spells}
use Rattle.gateway_msgs.specs.Fronts.{IsRequest}
use Rattle.gateway_msgs.specs.Positions.{fits_size}
use Rattle.gateway_msgs.proofs.Bodies.{sized, one_body}

module _ (clients : ℕ) (bytes : List ℕ) (is : IsRequest clients bytes) where
  spelled : bytes ≡ request_spelling is.client is.request
  spelled = is.spells.spelled

  pub long : 8 ≤ length bytes
  long = omega (arith, ap length spelled)

  type_there : get_or bytes 4 0 ≡ type_of is.request
  type_there = ap (λ l. get_or l 4 0) spelled

  body_there : drop 8 bytes ≡ body_of is.request
  body_there = ap (drop 8) spelled

  pub fits_there : fits_size (get_or bytes 4 0) (length (drop 8 bytes)) ≡ true
  fits_there =
      subst (λ (t : ℕ). fits_size t (length (drop 8 bytes)) ≡ true) (sym type_there)
      (subst (λ (l : List ℕ). fits_size (type_of is.request) (length l) ≡ true) (sym body_there)
      (sized is.request is.spells.fits))

  pub spells_there : (request : Request) → IsBodyOf (get_or bytes 4 0) (drop 8 bytes) request
      → Spells clients (get_or bytes 5 0) request bytes
  spells_there request made =
      let same : request ≡ is.request =
      one_body request is.request made.fits is.spells.fits (made.of_type ∙ type_there)
      (sym made.spelled ∙ body_there) in
      let client : get_or bytes 5 0 ≡ is.client = ap (λ l. get_or l 5 0) spelled in
      subst (λ (c : ℕ). Spells clients c request bytes) (sym client)
      (subst (λ (r : Request). Spells clients is.client r bytes) (sym same) is.spells)
