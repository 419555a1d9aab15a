-- What follows from the spelling alone.
use Rattle.std.specs.Prelude.{◌≡◌, ℕ, List, [], ◌++◌}
use Rattle.gateway_msgs.specs.declared.request.Request.{Request}
use Rattle.gateway_msgs.specs.declared.front.Front.{Front}
use Rattle.gateway_msgs.specs.Requests.{Spells}
use Rattle.gateway_msgs.specs.Fronts.{IsRequest, IsFront}

-- no bytes spell two requests, nor one of two clients
pub record SpellsOneRequest : Type 0 where
  pub client : (clients one other : ℕ) (a b : Request) (bytes : List ℕ) → Spells clients one a bytes
      → Spells clients other b bytes → one ≡ other
  pub request : (clients one other : ℕ) (a b : Request) (bytes : List ℕ)
      → Spells clients one a bytes → Spells clients other b bytes → a ≡ b

-- no request is a proper front of another
abbrev pub NoneGoesOn : Type 0
NoneGoesOn = (clients : ℕ) (bytes more : List ℕ) → IsRequest clients bytes
    → IsRequest clients (bytes ++ more) → more ≡ []

-- bytes begin with one thing only
abbrev pub HasOneFront : Type 0
HasOneFront = (clients room : ℕ) (bytes : List ℕ) (a b : Front) → IsFront clients room bytes a
    → IsFront clients room bytes b → a ≡ b
