-- What a side has to say goes over its link, one message after the other.
use Rattle.std.proofs.Common.{◌≡◌, ◌≤◌, ◌<◌, ◌*◌, ◌+◌, ℕ, List, [], ◌∷◌, Some, None, length, drop}
use Rattle.std.proofs.Common.{arith, refl, sym, ◌∙◌, ap, subst, slice_get}
use Rattle.std.specs.List.{AllByRecursion}
use Rattle.linx_base.specs.Frames.{IsMessage}
use Rattle.linx_base.specs.declared.frame.Message.{Message}
use Rattle.linx_base.specs.declared.identity.Side.{Side}
use Rattle.linx_base.specs.declared.identity.Side.TheVariants.{First, Second}
use Rattle.carrier.specs.Events.{LinkState, offered_to}
use Rattle.rlnh_end.specs.States.{after_out}
use Rattle.trunk.specs.Events.{TrunkSide, taken_out}
use Rattle.trunk.specs.Parts.{offers_to}

offers_step : (at : Side) (m : Message) (ms : List Message) (v : LinkState)
    → offers_to at ms (offered_to at m v) ≡ offers_to at (m ∷ ms) v
offers_step First m ms v = refl
offers_step Second m ms v = refl

offers_none : (at : Side) (v : LinkState) → v ≡ offers_to at [] v
offers_none First v = refl
offers_none Second v = refl

first_of : (out : List Message) (m : Message) → slice_get out 0 ≡ Some m → out ≡ m ∷ drop 1 out
first_of [] m is = absurd (grind (arith, is))
first_of (n ∷ ms) m is = ap (λ (x : Message). x ∷ ms) (grind (arith, is))

none_of : (out : List Message) → slice_get out 0 ≡ None → out ≡ []
none_of [] is = refl
none_of (n ∷ ms) is = absurd (grind (arith, is))

-- the next message
module _ (at : Side) (v w : LinkState) (s t : TrunkSide) (m : Message)
    (next : slice_get s.end.out 0 ≡ Some m)
    (half : t ≡ record s { end = after_out s.end }) where
  rest_is : t.end.out ≡ drop 1 s.end.out
  rest_is = ap (λ (r : TrunkSide). r.end.out) half

  split : s.end.out ≡ m ∷ t.end.out
  split = first_of s.end.out m next ∙ ap (λ ms. m ∷ ms) (sym rest_is)

  pub goes_on : w ≡ offered_to at m v
      → offers_to at t.end.out w ≡ offers_to at s.end.out v
  goes_on link =
      ap (λ (x : LinkState). offers_to at t.end.out x) link ∙ offers_step at m t.end.out v
      ∙ ap (λ ms. offers_to at ms v) (sym split)

  pub same_side : record t { end = taken_out t.end } ≡ record s { end = taken_out s.end }
  same_side = ap (λ (r : TrunkSide). record r { end = taken_out r.end }) half

  all_of : AllByRecursion IsMessage s.end.out → AllByRecursion IsMessage (m ∷ t.end.out)
  all_of all = subst (λ ms. AllByRecursion IsMessage ms) split all

  pub messages_left : AllByRecursion IsMessage s.end.out → AllByRecursion IsMessage t.end.out
  messages_left all = (all_of all).1

  pub numbers_left : (n left : ℕ) → length s.end.out * 1024 ≤ n → n ≤ left + 1024
      → length t.end.out * 1024 ≤ left
  numbers_left n left few taken = omega (arith, ap length split, few, taken)

  pub shorter : length t.end.out < length s.end.out
  shorter = omega (arith, ap length split)

-- no message is left
module _ (at : Side) (v : LinkState) (s : TrunkSide) (next : slice_get s.end.out 0 ≡ None) where
  pub all_went : v ≡ offers_to at s.end.out v
  all_went = offers_none at v ∙ ap (λ ms. offers_to at ms v) (sym (none_of s.end.out next))

  pub none_left : s ≡ record s { end = taken_out s.end }
  none_left =
      ap (λ ms. record s { end = record s.end { out = ms } }) (none_of s.end.out next)
