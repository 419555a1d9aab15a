-- Small steps: through an option, a choice and a test.
use Rattle.std.proofs.Common.{◌≡◌, ℕ, Bool, true, false, not, cond, List, [], ◌∷◌, ◌++◌, refl, sym}
use Rattle.std.proofs.Common.{ap, ◌∙◌, Option, Some, None, arith, ◌==◌, ◌&&◌, nat_le, bytes_eq}
use Rattle.std.proofs.Common.{eqb-true}
use Rattle.std.specs.List.{list_all}
use Rattle.std.proofs.lemmas.Bool.{and_parts, and_from, not_from_false, false_from_ne_true}
use Rattle.std.proofs.lemmas.Bool.{iff_false}
use Rattle.std.proofs.lemmas.Slice.Eq.{bytes_eq-Decides}
use Rattle.text_words.specs.Gives.{◌>>=◌, made}

-- a step that gave a value went on from one
pub bind_some : {A B : Type 0} (o : Option A) (f : A → Option B) (y : B) → (o >>= f) ≡ Some y
    → (x : A) × (o ≡ Some x) × (f x ≡ Some y)
bind_some (Some x) f y h = (x, refl, h)
bind_some None f y h = cc

pub made_some : {A B : Type 0} (f : A → B) (o : Option A) (y : B) → made f o ≡ Some y
    → (x : A) × (o ≡ Some x) × (y ≡ f x)
made_some f (Some x) y h = (x, refl, cc)
made_some f None y h = cc

-- a choice that gave a value
pub if_some_yes : {A : Type 0} (b : Bool) (x : Option A) (y : A) → cond b x None ≡ Some y
    → (b ≡ true) × (x ≡ Some y)
if_some_yes true x y h = (refl, h)
if_some_yes false x y h = cc

-- equal texts
pub same_text : (xs ys : List ℕ) → bytes_eq xs ys ≡ true → xs ≡ ys
same_text xs ys h = (bytes_eq-Decides xs ys).0 h

pub text_itself : (xs : List ℕ) → bytes_eq xs xs ≡ true
text_itself xs = (bytes_eq-Decides xs xs).1 refl

-- a choice between two readings that gave a value
pub choice : {A P : Type 0} (b : Bool) (x y : Option A) (v : A) → cond b x y ≡ Some v
    → (b ≡ true → x ≡ Some v → P) → (b ≡ false → y ≡ Some v → P) → P
choice true x y v h first other = first refl h
choice false x y v h first other = other refl h
