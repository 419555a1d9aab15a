-- Lists whose elements are changed at one place, or each by what stands at its place.
use Rattle.std.proofs.Common.{ℕ, zero, suc, ◌≡◌, ◌<◌, ◌≤◌, ◌+◌, List, [], ◌∷◌, length, get_or, set}
use Rattle.std.proofs.Common.{take, map, refl, sym, ◌∙◌, ap, add-one, arith}
use Rattle.run_trunks.specs.Changes.{each_by}

-- EACH BY WHAT STANDS AT ITS PLACE
module _ {A X : Type 0} (f : A → X → X) where
  pub length-each : (bs : List A) (xs : List X) → length (each_by f bs xs) ≡ length xs
  length-each [] xs = refl
  length-each (b ∷ bs) [] = refl
  length-each (b ∷ bs) (x ∷ xs) = ap suc (length-each bs xs)

  -- what stands behind the first so many is as it was
  pub each-later : (bs : List A) (xs : List X) (k : ℕ) (d : X)
      → get_or (each_by f (take k bs) xs) k d ≡ get_or xs k d
  each-later bs xs zero d = refl
  each-later [] xs (suc k) d = refl
  each-later (b ∷ bs) [] (suc k) d = refl
  each-later (b ∷ bs) (x ∷ xs) (suc k) d = each-later bs xs k d

  -- one more
  pub each-more : (bs : List A) (xs : List X) (k : ℕ) (e : A) (d : X) → k < length bs
      → set (each_by f (take k bs) xs) k (f (get_or bs k e) (get_or xs k d))
      ≡ each_by f (take (suc k) bs) xs
  each-more [] xs k e d within = absurd (omega arith)
  each-more (b ∷ bs) [] zero e d within = refl
  each-more (b ∷ bs) [] (suc k) e d within = refl
  each-more (b ∷ bs) (x ∷ xs) zero e d within = refl
  each-more (b ∷ bs) (x ∷ xs) (suc k) e d within =
      ap (λ l. f b x ∷ l) (each-more bs xs k e d (omega arith))

  -- at a place
  pub get_or-each : (bs : List A) (xs : List X) (k : ℕ) (e : A) (d : X) → k < length bs
      → k < length xs → get_or (each_by f bs xs) k d ≡ f (get_or bs k e) (get_or xs k d)
  get_or-each [] xs k e d within there = absurd (omega arith)
  get_or-each (b ∷ bs) [] k e d within there = absurd (omega arith)
  get_or-each (b ∷ bs) (x ∷ xs) zero e d within there = refl
  get_or-each (b ∷ bs) (x ∷ xs) (suc k) e d within there =
      get_or-each bs xs k e d (omega arith) (omega arith)

-- ONE PLACE
-- the images stay where what is put there has the image of what stood there
pub map-stays : {X Y : Type 0} (g : X → Y) (xs : List X) (k : ℕ) (d z : X)
    → g z ≡ g (get_or xs k d) → map g (set xs k z) ≡ map g xs
map-stays g [] k d z is = refl
map-stays g (x ∷ xs) zero d z is = ap (λ y. y ∷ map g xs) is
map-stays g (x ∷ xs) (suc k) d z is = ap (λ l. g x ∷ l) (map-stays g xs k d z is)

-- EACH BY ITSELF
module _ {X : Type 0} (g : X → X) where
  -- one more, of what stands there
  pub turned-more : (xs : List X) (k : ℕ) (d z : X) → k < length xs
      → z ≡ g (get_or (each_by (λ (b : X) (y : X). g b) (take k xs) xs) k d)
      → set (each_by (λ (b : X) (y : X). g b) (take k xs) xs) k z
      ≡ each_by (λ (b : X) (y : X). g b) (take (k + 1) xs) xs
  turned-more xs k d z within is =
      let f : X → X → X = λ b y. g b in
      ap (λ (y : X). set (each_by f (take k xs) xs) k y) (is ∙ ap g (each-later f xs xs k d))
      ∙ each-more f xs xs k d d within
      ∙ ap (λ (n : ℕ). each_by f (take n xs) xs) (sym (add-one k))

  -- all
  pub turned-all : (xs : List X) (k : ℕ) → length xs ≤ k
      → each_by (λ (b : X) (y : X). g b) (take k xs) xs ≡ map g xs
  turned-all [] zero past = refl
  turned-all [] (suc k) past = refl
  turned-all (x ∷ xs) zero past = absurd (omega arith)
  turned-all (x ∷ xs) (suc k) past = ap (λ l. g x ∷ l) (turned-all xs k (omega arith))

-- the images of images
pub map-images : {X Y Z : Type 0} (f : Y → Z) (g : X → Y) (h : X → Z) (xs : List X)
    → ((x : X) → f (g x) ≡ h x) → map f (map g xs) ≡ map h xs
map-images f g h [] is = refl
map-images f g h (x ∷ xs) is = ap (λ y. y ∷ map f (map g xs)) (is x)
    ∙ ap (λ l. h x ∷ l) (map-images f g h xs is)
