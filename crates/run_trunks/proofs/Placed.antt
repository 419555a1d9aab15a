-- What a change of the trunk at a place makes of what all were, and of what all are.
use Rattle.std.proofs.Common.{ℕ, ◌≡◌, ◌<◌, ◌+◌, ◌-◌, List, length, get_or, set, take, map, refl, ap}
use Rattle.std.proofs.Common.{sym, ◌∙◌, subst, add-one, arith, Option, Some}
use Rattle.std.proofs.lemmas.List.{get_or-map, map-set}
use Rattle.linx_base.specs.Both.{Both, still}
use Rattle.linx_base.specs.declared.frame.LinkDecl.{LinkDecl}
use Rattle.linx_base.specs.declared.identity.LinkNo.{LinkNo}
use Rattle.linx_base.specs.declared.identity.Side.{Side}
use Rattle.link_laws.specs.Ends.{IsLinkOf, end_of, node_at}
use Rattle.trunk.specs.Events.{TrunkState, new_trunk}
use Rattle.trunk_moves.specs.Trunks.{does}
use Rattle.run_trunks.specs.Changes.{AllGrant, at_place, each_does, side_with}
use Rattle.run_trunks.specs.States.{TrunksState, is_of, new_trunks, no_trunk, over, resting}
use Rattle.run_trunks.specs.States.{trunk_at, trunks_of, was_of}
use Rattle.run_trunks.proofs.Lists.{each-later, each-more, map-images, map-stays}
use Rattle.run_trunks.proofs.Numbered.{node_at-place, with-node}

module _ (xs : List (Both TrunkState)) (k : ℕ) (d : Both TrunkState) where
  -- what is read at the place
  pub is_read : k < length xs → trunk_at (is_of xs) k ≡ (get_or xs k d).is
  is_read within = get_or-map (λ (t : Both TrunkState). t.is) xs k d no_trunk within

  pub was_read : k < length xs → trunk_at (was_of xs) k ≡ (get_or xs k d).was
  was_read within = get_or-map (λ (t : Both TrunkState). t.was) xs k d no_trunk within

  -- what is put there
  pub is_put : (z : Both TrunkState) (y : TrunkState) → z.is ≡ y
      → is_of (set xs k z) ≡ set (is_of xs) k y
  is_put z y is = map-set (λ (t : Both TrunkState). t.is) xs k z ∙ ap (set (is_of xs) k) is

  pub was_put : (z : Both TrunkState) (y : TrunkState) → z.was ≡ y
      → was_of (set xs k z) ≡ set (was_of xs) k y
  was_put z y is = map-set (λ (t : Both TrunkState). t.was) xs k z ∙ ap (set (was_of xs) k) is

  pub is_stays : (z : Both TrunkState) → z.is ≡ (get_or xs k d).is
      → is_of (set xs k z) ≡ is_of xs
  is_stays z is = map-stays (λ (t : Both TrunkState). t.is) xs k d z is

  pub was_stays : (z : Both TrunkState) → z.was ≡ (get_or xs k d).was
      → was_of (set xs k z) ≡ was_of xs
  was_stays z is = map-stays (λ (t : Both TrunkState). t.was) xs k d z is

  -- a change of what it is
  pub is_changed : (change : TrunkState → TrunkState) (z : Both TrunkState) → k < length xs
      → z.is ≡ change (get_or xs k d).is
      → is_of (set xs k z) ≡ at_place k change (is_of xs)
  is_changed change z within is =
      is_put z (change (trunk_at (is_of xs) k)) (is ∙ ap change (sym (is_read within)))

-- ALL OF THEM keep, or undo
pub kept-is : (xs : List (Both TrunkState))
    → is_of (map (λ (t : Both TrunkState). still t.is) xs) ≡ is_of xs
kept-is xs = map-images (λ (t : Both TrunkState). t.is) (λ (t : Both TrunkState). still t.is)
    (λ (t : Both TrunkState). t.is) xs (λ t. refl)

pub kept-was : (xs : List (Both TrunkState))
    → was_of (map (λ (t : Both TrunkState). still t.is) xs) ≡ is_of xs
kept-was xs = map-images (λ (t : Both TrunkState). t.was) (λ (t : Both TrunkState). still t.is)
    (λ (t : Both TrunkState). t.is) xs (λ t. refl)

pub undone-is : (xs : List (Both TrunkState))
    → is_of (map (λ (t : Both TrunkState). still t.was) xs) ≡ was_of xs
undone-is xs = map-images (λ (t : Both TrunkState). t.is) (λ (t : Both TrunkState). still t.was)
    (λ (t : Both TrunkState). t.was) xs (λ t. refl)

pub undone-was : (xs : List (Both TrunkState))
    → was_of (map (λ (t : Both TrunkState). still t.was) xs) ≡ was_of xs
undone-was xs = map-images (λ (t : Both TrunkState). t.was)
    (λ (t : Both TrunkState). still t.was) (λ (t : Both TrunkState). t.was) xs (λ t. refl)

-- THE SIDES OF A NODE: one more is called
pub calls-more : (links : List LinkDecl) (n : ℕ) (act : Side → TrunkState → TrunkState)
    (ts : List TrunkState) (xs : List (Both TrunkState)) (k : ℕ) (x z : Both TrunkState)
    (d : LinkDecl) (side : Option Side)
    → is_of xs ≡ each_does (take k links) n act ts → k < length links → k < length xs
    → side ≡ side_with n (get_or links k d) → z.is ≡ does side act (get_or xs k x).is
    → is_of (set xs k z) ≡ each_does (take (k + 1) links) n act ts
calls-more links n act ts xs k x z d side before within there on is =
    let f : LinkDecl → TrunkState → TrunkState = λ link t. does (side_with n link) act t in
    let was : (get_or xs k x).is ≡ trunk_at ts k =
    sym (is_read xs k x there)
    ∙ ap (λ (ys : List TrunkState). trunk_at ys k) before ∙ each-later f links ts k no_trunk in
    is_put xs k x z (does side act (trunk_at ts k)) (is ∙ ap (does side act) was)
    ∙ ap (λ (ys : List TrunkState). set ys k (does side act (trunk_at ts k))) before
    ∙ ap (λ (s : Option Side).
    set (each_does (take k links) n act ts) k (does s act (trunk_at ts k))) on
    ∙ each-more f links ts k d no_trunk within
    ∙ ap (λ (j : ℕ). each_does (take j links) n act ts) (sym (add-one k))

-- and what it asks for was granted
pub granted-there : (links : List LinkDecl) (n : ℕ) (act : Side → TrunkState → TrunkState)
    (ts : List TrunkState) (xs : List (Both TrunkState)) (k : ℕ) (x : Both TrunkState)
    (d : LinkDecl) (Grants : Side → TrunkState → Type 0)
    → is_of xs ≡ each_does (take k links) n act ts → k < length links → k < length xs
    → AllGrant links n ts Grants → (side : Side) → side_with n (get_or links k d) ≡ Some side
    → Grants side (get_or xs k x).is
granted-there links n act ts xs k x d Grants before within there grants side on =
    let f : LinkDecl → TrunkState → TrunkState = λ link t. does (side_with n link) act t in
    let l : LinkNo = record { 0 = k + 1 } in
    let back : k + 1 - 1 ≡ k = omega arith in
    let of : IsLinkOf (over links) l = (omega arith, omega arith) in
    let was : trunks_of ts l.0 ≡ (get_or xs k x).is =
    ap (λ (j : ℕ). trunk_at ts j) back
    ∙ sym (each-later f links ts k no_trunk)
    ∙ sym (ap (λ (ys : List TrunkState). trunk_at ys k) before)
    ∙ is_read xs k x there in
    let here : node_at (over links) l side ≡ n =
    node_at-place (over links) l side d of
    ∙ ap (λ (j : ℕ). end_of (get_or links j d) side) back
    ∙ with-node n (get_or links k d) side on in
    subst (λ (t : TrunkState). Grants side t) was (grants l of side here)

-- NEW TRUNKS, as they are seen
pub new-seen : (links ls : List LinkDecl) (xs : List (Both TrunkState)) → ls ≡ links
    → xs ≡ map (λ (link : LinkDecl). still (new_trunk link.window link.piece)) links
    → record { links = ls; was = was_of xs; is = is_of xs } ≡ resting links (new_trunks links)
new-seen links ls xs same made =
    let seen : List LinkDecl → List TrunkState → List TrunkState → TrunksState = λ l w i.
    record { links = l; was = w; is = i } in
    let one : LinkDecl → TrunkState = λ link. new_trunk link.window link.piece in
    let new : LinkDecl → Both TrunkState = λ link. still (one link) in
    let was : was_of xs ≡ new_trunks links =
    ap was_of made ∙ map-images (λ (t : Both TrunkState). t.was) new one links (λ link. refl) in
    let is : is_of xs ≡ new_trunks links =
    ap is_of made ∙ map-images (λ (t : Both TrunkState). t.is) new one links (λ link. refl) in
    ap (λ (l : List LinkDecl). seen l (was_of xs) (is_of xs)) same
    ∙ ap (λ (ts : List TrunkState). seen links ts (is_of xs)) was
    ∙ ap (λ (ts : List TrunkState). seen links (new_trunks links) ts) is
