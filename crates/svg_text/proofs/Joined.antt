-- LISTS JOINED IN ANY GROUPS ARE JOINED FROM THE RIGHT.
use Rattle.std.proofs.Common.{◌≡◌, ℕ, List, ◌++◌, refl, ap, ◌∙◌, append_assoc}

-- lists, and how they are grouped
infixl 65 ◌⊕◌
pub data Joined : Type 0 where
  one : List ℕ → Joined
  ◌⊕◌ : Joined → Joined → Joined

-- them, joined in their groups
abbrev pub joined : Joined → List ℕ
joined (one l) = l
joined (a ⊕ b) = joined a ++ joined b

-- them, each put before the others
abbrev pub onto : Joined → List ℕ → List ℕ
onto (one l) rest = l ++ rest
onto (a ⊕ b) rest = onto a (onto b rest)

-- both ways are one
pub from_right : (t : Joined) (rest : List ℕ) → joined t ++ rest ≡ onto t rest
from_right (one l) rest = refl
from_right (a ⊕ b) rest =
    append_assoc (joined a) (joined b) rest
    ∙ ap (λ (l : List ℕ). joined a ++ l) (from_right b rest)
    ∙ from_right a (onto b rest)

-- three, and seven, behind others
pub three_behind : (old a b c : List ℕ) → old ++ a ++ b ++ c ≡ old ++ (a ++ b ++ c)
three_behind old a b c = simp append_assoc

pub seven_behind : (old a b c d e f g : List ℕ)
    → old ++ a ++ b ++ c ++ d ++ e ++ f ++ g ≡ old ++ (a ++ b ++ c ++ d ++ e ++ f ++ g)
seven_behind old a b c d e f g = simp append_assoc
