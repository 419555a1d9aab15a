-- Where pending hunts stand on every side of every link, after a step that changes several sides,
-- as a close, a restart and an opening, and after a new hunt over a link.
use Rattle.std.proofs.Common.{◌≡◌, ℕ, Bool, true, false, cond, ◌&&◌, ◌⊎◌, List, [], ◌∷◌, Option}
use Rattle.std.proofs.Common.{Some, None, refl, sym, ◌∙◌, ap, subst, ◌==◌, is_some, filter}
use Rattle.std.proofs.Common.{filter_map, bytes_eq, eq-eqb, eqb-true, true≢false}
use Rattle.std.specs.List.{list_any}
use Rattle.std.proofs.lemmas.Bool.{false_from_ne_true}
use Rattle.linx_base.specs.Numbers.{is_on}
use Rattle.linx_base.specs.Sides.{other_of}
use Rattle.linx_base.specs.declared.identity.Inc.{Inc}
use Rattle.linx_base.specs.declared.identity.LinkNo.{LinkNo}
use Rattle.linx_base.specs.declared.identity.Session.{Session}
use Rattle.linx_base.specs.declared.identity.Side.{Side}
use Rattle.trunk_record.specs.Changes.{beginning, saying}
use Rattle.trunk_record.specs.Records.{SideRecord}
use Rattle.trunk_record.specs.Sayings.{Said, asked, published}
use Rattle.trunk_record.specs.Trunks.{IsHalf}
use Rattle.journal.specs.History.{opened_by, opened_in}
use Rattle.journal.specs.Shapes.{Shape}
use Rattle.journal.specs.declared.effect.Step.{Step}
use Rattle.link_laws.specs.Ends.{HasTwoEnds, IsLinkOf, node_at}
use Rattle.link_laws.specs.Sides.{AllHunted, AllTrunks, Links, SideState, Trunks, records_of}
use Rattle.link_laws.specs.Linked.{AreHunted, HasNone, IsTalking, is_hunted}
use Rattle.link_laws.specs.Moves.{AsksOver, IsLeft, Opens, OpensAt}
use Rattle.link_laws.specs.Moves.{PublishesOpened, RestartsAt, is_up, is_wanted, opening_side}
use Rattle.link_laws.proofs.AllLinks.SameSides.{hunted-alike, one-same}
use Rattle.link_laws.proofs.Hunts.EachStep.{BeginsNone, IsCalm, IsHuntedAt, calm_here, hunts_stay}
use Rattle.link_laws.proofs.Hunts.EachStep.{one_link, same_here}
use Rattle.link_laws.proofs.Hunts.Questions.{IsSameHere}
use Rattle.link_laws.proofs.Hunts.OtherSteps.{hunts_down_far, hunts_down_near, hunts_more}
use Rattle.link_laws.proofs.Hunts.OtherSteps.{hunts_new, hunts_opened, talks}
use Rattle.link_laws.proofs.AllLinks.OthersStay.{other_twice, with_state}

-- what a trunk keeps of the other side
pub back_half : (shape : Shape) (trunks : Trunks) → AllTrunks shape trunks → (l : LinkNo)
    → IsLinkOf shape l → (side : Side)
    → IsHalf (trunks l.0 (other_of side)) (trunks l.0 side)
back_half shape trunks halves l of_shape side =
    subst (λ (a : Side). IsHalf (trunks l.0 (other_of side)) (trunks l.0 a)) (other_twice side)
    (halves l of_shape (other_of side))

-- hunts seen with equal records and notes
pub hunts-equal : (Q : List Step) (n m : ℕ) (l : LinkNo) (A A' B B' : SideRecord)
    (k k' : List (List ℕ)) → A' ≡ A → B' ≡ B → k' ≡ k → AreHunted Q n m l A B k
    → AreHunted Q n m l A' B' k'
hunts-equal Q n m l A A' B B' k k' near far noted hunts =
    subst (λ (X : SideRecord). AreHunted Q n m l X B' k') (sym near)
    (subst (λ (X : SideRecord). AreHunted Q n m l A X k') (sym far)
    (subst (λ (X : List (List ℕ)). AreHunted Q n m l A B X) (sym noted) hunts))

pub none-some : {x : Session} → (let none : Option Session = None in none) ≡ Some x → ⊥
none-some e = cc

-- the opening step begins no hunt, and opens one endpoint, on one node, of this name
pub record OpensOne (P : List Step) (s : Step) (k : ℕ) (v : List ℕ) : Type 0 where
  pub begins_none : (n : ℕ) (l : LinkNo) → BeginsNone P s n l
  pub elsewhere : (m : ℕ) → (m == k) ≡ false → opened_by m s.effects ≡ []
  pub names : (w : List ℕ) → bytes_eq w v ≡ false → HasNone P k w → HasNone (s ∷ P) k w

-- the hunting step begins a hunt of one node over one link, for this name, and opens nothing
pub record BeginsOne (P : List Step) (s : Step) (k : ℕ) (l : LinkNo) (v : List ℕ) : Type 0 where
  pub elsewhere : (n : ℕ) (h : LinkNo) → ((n == k) && (h.0 == l.0)) ≡ false → BeginsNone P s n h
  pub new : (w : List ℕ) → is_hunted (s ∷ P) k l w ≡ true
      → (bytes_eq w v ≡ true) ⊎ (is_hunted P k l w ≡ true)
  pub opens_none : filter_map opened_in s.effects ≡ []

module _ (shape : Shape) (P : List Step) (links after : Links) (s : Step)
    (halves : AllTrunks shape (records_of links)) (hunted : AllHunted shape P links) where
  abbrev Q : List Step
  Q = s ∷ P

  -- the two sides of a link talk, where they are up with each other
  talking : (l : LinkNo) → IsLinkOf shape l → (side : Side)
      → (links l.0 side).side.now.peer ≡ Some (links l.0 (other_of side)).side.now.session
      → (links l.0 (other_of side)).side.now.peer ≡ Some (links l.0 side).side.now.session
      → IsTalking (links l.0 side).side (links l.0 (other_of side)).side
  talking l of_shape side = talks (links l.0 side).side (links l.0 (other_of side)).side
      (halves l of_shape side) (back_half shape (records_of links) halves l of_shape side)

  abbrev HuntsAfter : LinkNo → Side → Type 0
  HuntsAfter l side = IsHuntedAt shape Q l side (after l.0 side) (after l.0 (other_of side))

  -- ALL SIDES MAY SAY MORE, of which nothing answers the step
  pub hunted_sayings : IsCalm P s → (ws : LinkNo → Side → List Said)
      → ((l : LinkNo) → IsLinkOf shape l → (side : Side)
      → (after l.0 side).side ≡ saying (ws l side) (links l.0 side).side)
      → ((l : LinkNo) → IsLinkOf shape l → (side : Side)
      → (after l.0 side).noted ≡ (links l.0 side).noted)
      → AllHunted shape Q after
  hunted_sayings calm ws said noted l of_shape side =
      let n : ℕ = node_at shape l side in
      let m : ℕ = node_at shape l (other_of side) in
      let C : SideState = links l.0 side in
      let D : SideState = links l.0 (other_of side) in
      hunts-equal Q n m l (saying (ws l side) C.side) (after l.0 side).side
      (saying (ws l (other_of side)) D.side) (after l.0 (other_of side)).side D.noted
      (after l.0 (other_of side)).noted (said l of_shape side) (said l of_shape (other_of side))
      (noted l of_shape (other_of side))
      (hunts_more P Q n m l C.side D.side D.noted (ws l side) (ws l (other_of side))
      (calm_here P s calm n m l) (hunted l of_shape side) (talking l of_shape side))

  -- THE SIDES OF A NODE BEGIN ANEW
  pub hunted_restarting : IsCalm P s → (k : ℕ) (x : Session)
      → ((l : LinkNo) → IsLinkOf shape l → (side : Side)
      → RestartsAt (node_at shape l side == k) x (links l.0 side) (after l.0 side))
      → AllHunted shape Q after
  hunted_restarting calm k x restarts l of_shape side =
      by_near (node_at shape l side == k) (restarts l of_shape side)
    where
      by_far : IsLeft (links l.0 side) (after l.0 side) → (u : Bool)
          → RestartsAt u x (links l.0 (other_of side)) (after l.0 (other_of side))
          → HuntsAfter l side
      by_far left true begins =
          hunts-equal Q (node_at shape l side) (node_at shape l (other_of side)) l
          (links l.0 side).side (after l.0 side).side
          (beginning x (links l.0 (other_of side)).side) (after l.0 (other_of side)).side
          (after l.0 (other_of side)).noted (after l.0 (other_of side)).noted left.side begins.side
          refl
          (hunts_down_far P Q (node_at shape l side) (node_at shape l (other_of side)) l
          (links l.0 side).side (links l.0 (other_of side)).side (links l.0 (other_of side)).noted
          (after l.0 (other_of side)).noted x
          (calm_here P s calm (node_at shape l side) (node_at shape l (other_of side)) l)
          (hunted l of_shape side))
      by_far left false stays =
          hunts-equal Q (node_at shape l side) (node_at shape l (other_of side)) l
          (links l.0 side).side (after l.0 side).side
          (links l.0 (other_of side)).side (after l.0 (other_of side)).side
          (links l.0 (other_of side)).noted (after l.0 (other_of side)).noted left.side stays.side
          stays.noted
          (hunts_stay P Q (node_at shape l side) (node_at shape l (other_of side)) l
          (links l.0 side).side (links l.0 (other_of side)).side (links l.0 (other_of side)).noted
          (calm_here P s calm (node_at shape l side) (node_at shape l (other_of side)) l)
          (hunted l of_shape side))

      by_near : (t : Bool) → RestartsAt t x (links l.0 side) (after l.0 side) → HuntsAfter l side
      by_near true begins =
          subst (λ (A : SideRecord). AreHunted Q (node_at shape l side)
          (node_at shape l (other_of side)) l A (after l.0 (other_of side)).side
          (after l.0 (other_of side)).noted) (sym begins.side)
          (hunts_down_near Q (node_at shape l side) (node_at shape l (other_of side)) l
          (links l.0 side).side (after l.0 (other_of side)).side (after l.0 (other_of side)).noted
          x)
      by_near false left =
          by_far left (node_at shape l (other_of side) == k) (restarts l of_shape (other_of side))

  -- AN ENDPOINT OPENS, and is published on each side of its node where its name was noted
  pub hunted_opening : HasTwoEnds shape → (k : ℕ) (i : Inc) (v : List ℕ) → OpensOne P s k v
      → Opens shape links after k i v → AllHunted shape Q after
  hunted_opening two k i v one opens l of_shape side =
      by_near (node_at shape l side == k) refl (opens l of_shape side)
    where
      same : (n m : ℕ) → (m == k) ≡ false → IsSameHere P Q n m l
      same n m off = same_here P s n m l (one.begins_none n l) (one.elsewhere m off)

      -- the other end is at another node
      far_off : (node_at shape l side == k) ≡ true → (node_at shape l (other_of side) == k) ≡ false
      far_off near = false_from_ne_true (node_at shape l (other_of side) == k) (λ far.
          true≢false (sym (eq-eqb (node_at shape l side) (node_at shape l (other_of side))
          (eqb-true (node_at shape l side) k near
          ∙ sym (eqb-true (node_at shape l (other_of side)) k far))) ∙ two l of_shape side))

      far_left : (u : Bool) → u ≡ false
          → OpensAt u i v (links l.0 (other_of side)) (after l.0 (other_of side))
          → IsLeft (links l.0 (other_of side)) (after l.0 (other_of side))
      far_left true e opened = absurd (true≢false e)
      far_left false e left = left

      near_publishes : (node_at shape l side == k) ≡ true
          → PublishesOpened i v (links l.0 side) (after l.0 side) → HuntsAfter l side
      near_publishes e published_there =
          let ws : List Said = cond (is_wanted v (links l.0 side)) (published i v ∷ []) [] in
          let left = far_left (node_at shape l (other_of side) == k) (far_off e)
          (opens l of_shape (other_of side)) in
          hunts-equal Q (node_at shape l side) (node_at shape l (other_of side)) l
          (saying ws (links l.0 side).side) (after l.0 side).side
          (links l.0 (other_of side)).side (after l.0 (other_of side)).side
          (links l.0 (other_of side)).noted (after l.0 (other_of side)).noted
          published_there.side left.side left.noted
          (hunts_more P Q (node_at shape l side) (node_at shape l (other_of side)) l
          (links l.0 side).side (links l.0 (other_of side)).side (links l.0 (other_of side)).noted
          ws [] (same (node_at shape l side) (node_at shape l (other_of side)) (far_off e))
          (hunted l of_shape side) (talking l of_shape side))

      -- the far side publishes it where it is up and has noted the name
      answers : (node_at shape l side == k) ≡ false
          → (node_at shape l (other_of side) == k) ≡ true → (notes : List (List ℕ))
          → ((w : List ℕ) → bytes_eq w v ≡ false
          → list_any (bytes_eq w) (links l.0 (other_of side)).noted ≡ true
          → list_any (bytes_eq w) notes ≡ true)
          → (p : Option Session) → (links l.0 (other_of side)).side.now.peer ≡ p
          → AreHunted Q (node_at shape l side) (node_at shape l (other_of side)) l
          (links l.0 side).side (opening_side (is_some p && list_any (bytes_eq v)
          (links l.0 (other_of side)).noted) i v (links l.0 (other_of side)).side) notes
      answers off on notes kept None down = record {
        asked_all = λ w up is. (hunted l of_shape side).asked_all w up
            ((same (node_at shape l side) (node_at shape l side) off).hunts w is);
        stand = λ talk w is. absurd (none-some (sym down ∙ talk.back));
      }
      answers off on notes kept (Some y) up =
          let far : k ≡ node_at shape l (other_of side) =
          sym (eqb-true (node_at shape l (other_of side)) k on) in
          hunts_opened P Q (node_at shape l side) (node_at shape l (other_of side)) l
          (links l.0 side).side (links l.0 (other_of side)).side (links l.0 (other_of side)).noted
          notes i v
          (λ w is. (same (node_at shape l side) (node_at shape l side) off).hunts w is)
          (λ w apart none. subst (λ (z : ℕ). HasNone P z w → HasNone Q z w) far
          (one.names w apart) none)
          kept (hunted l of_shape side) (talking l of_shape side)

      by_far : (node_at shape l side == k) ≡ false → IsLeft (links l.0 side) (after l.0 side)
          → (u : Bool) → (node_at shape l (other_of side) == k) ≡ u
          → OpensAt u i v (links l.0 (other_of side)) (after l.0 (other_of side))
          → HuntsAfter l side
      by_far off left true on opened =
          hunts-equal Q (node_at shape l side) (node_at shape l (other_of side)) l
          (links l.0 side).side (after l.0 side).side
          (opening_side (is_wanted v (links l.0 (other_of side))) i v
          (links l.0 (other_of side)).side) (after l.0 (other_of side)).side
          (after l.0 (other_of side)).noted (after l.0 (other_of side)).noted
          left.side opened.side refl
          (answers off on (after l.0 (other_of side)).noted opened.noted
          (links l.0 (other_of side)).side.now.peer refl)
      by_far off left false far_off_too stays =
          hunts-equal Q (node_at shape l side) (node_at shape l (other_of side)) l
          (links l.0 side).side (after l.0 side).side
          (links l.0 (other_of side)).side (after l.0 (other_of side)).side
          (links l.0 (other_of side)).noted (after l.0 (other_of side)).noted
          left.side stays.side stays.noted
          (hunts_stay P Q (node_at shape l side) (node_at shape l (other_of side)) l
          (links l.0 side).side (links l.0 (other_of side)).side (links l.0 (other_of side)).noted
          (same (node_at shape l side) (node_at shape l (other_of side)) far_off_too)
          (hunted l of_shape side))

      by_near : (t : Bool) → (node_at shape l side == k) ≡ t
          → OpensAt t i v (links l.0 side) (after l.0 side) → HuntsAfter l side
      by_near true e opened = near_publishes e opened
      by_near false e left = by_far e left (node_at shape l (other_of side) == k) refl
          (opens l of_shape (other_of side))

  -- A HUNT OVER A LINK BEGINS, and its name is asked for where the side is up
  pub hunted_asking : HasTwoEnds shape → (k : ℕ) (l : LinkNo) (v : List ℕ) → BeginsOne P s k l v
      → AsksOver shape links after k l v → AllHunted shape Q after
  hunted_asking two k l v one asks_it =
      hunted-alike shape Q (with_state links l.0 at (after l.0 at)) after
      (one-same shape links after l at asks_it.others)
      (one_link shape Q links l at (after l.0 at) here turned elsewhere)
    where
      at : Side
      at = asks_it.at

      on : (node_at shape l asks_it.at == k) ≡ true
      on = eq-eqb (node_at shape l asks_it.at) k asks_it.node

      off : (node_at shape l (other_of asks_it.at) == k) ≡ false
      off = false_from_ne_true (node_at shape l (other_of asks_it.at) == k) (λ is.
          true≢false (sym (eq-eqb (node_at shape l asks_it.at)
          (node_at shape l (other_of asks_it.at)) (asks_it.node
          ∙ sym (eqb-true (node_at shape l (other_of asks_it.at)) k is)))
          ∙ two l asks_it.of_shape asks_it.at))

      -- on another node, or over another link, nothing is new
      same : (i j : ℕ) (h : LinkNo) → ((i == k) && (h.0 == l.0)) ≡ false → IsSameHere P Q i j h
      same i j h apart = same_here P s i j h (one.elsewhere i h apart)
          (ap (filter (is_on j)) one.opens_none)

      off_there : ((node_at shape l (other_of asks_it.at) == k) && (l.0 == l.0)) ≡ false
      off_there = ap (λ t. t && (l.0 == l.0)) off

      asks_if : (p : Option Session) → (links l.0 asks_it.at).side.now.peer ≡ p
          → AreHunted Q (node_at shape l asks_it.at) (node_at shape l (other_of asks_it.at)) l
          (saying (cond (is_some p) (asked v ∷ []) []) (links l.0 asks_it.at).side)
          (links l.0 (other_of asks_it.at)).side (links l.0 (other_of asks_it.at)).noted
      asks_if None down = record {
        asked_all = λ w up is. absurd (up down);
        stand = λ talk w is. absurd (none-some (sym down ∙ talk.pair));
      }
      asks_if (Some y) up =
          hunts_new P Q (node_at shape l asks_it.at) (node_at shape l (other_of asks_it.at)) l
          (links l.0 asks_it.at).side (links l.0 (other_of asks_it.at)).side
          (links l.0 (other_of asks_it.at)).noted v
          (λ w is. subst (λ (z : ℕ). is_hunted Q z l w ≡ true
          → (bytes_eq w v ≡ true) ⊎ (is_hunted P z l w ≡ true)) (sym asks_it.node) (one.new w) is)
          (λ w none. (same (node_at shape l (other_of asks_it.at))
          (node_at shape l (other_of asks_it.at)) l off_there).none w none)
          (hunted l asks_it.of_shape asks_it.at) (talking l asks_it.of_shape asks_it.at)

      here : IsHuntedAt shape Q l asks_it.at (after l.0 asks_it.at)
          (links l.0 (other_of asks_it.at))
      here = subst (λ (A : SideRecord). AreHunted Q (node_at shape l asks_it.at)
          (node_at shape l (other_of asks_it.at)) l A (links l.0 (other_of asks_it.at)).side
          (links l.0 (other_of asks_it.at)).noted) (sym asks_it.side)
          (asks_if (links l.0 asks_it.at).side.now.peer refl)

      far_was : AreHunted P (node_at shape l (other_of asks_it.at)) (node_at shape l asks_it.at) l
          (links l.0 (other_of asks_it.at)).side (links l.0 asks_it.at).side
          (links l.0 asks_it.at).noted
      far_was = subst (λ (a : Side). AreHunted P (node_at shape l (other_of asks_it.at))
          (node_at shape l a) l (links l.0 (other_of asks_it.at)).side (links l.0 a).side
          (links l.0 a).noted) (other_twice asks_it.at)
          (hunted l asks_it.of_shape (other_of asks_it.at))

      there : AreHunted Q (node_at shape l (other_of asks_it.at)) (node_at shape l asks_it.at) l
          (links l.0 (other_of asks_it.at)).side (after l.0 asks_it.at).side
          (after l.0 asks_it.at).noted
      there =
          let ws : List Said = cond (is_up (links l.0 asks_it.at).side) (asked v ∷ []) [] in
          let B : SideRecord = (links l.0 asks_it.at).side in
          let A : SideRecord = (links l.0 (other_of asks_it.at)).side in
          hunts-equal Q (node_at shape l (other_of asks_it.at)) (node_at shape l asks_it.at) l A A
          (saying ws B) (after l.0 asks_it.at).side (links l.0 asks_it.at).noted
          (after l.0 asks_it.at).noted refl asks_it.side asks_it.noted
          (hunts_more P Q (node_at shape l (other_of asks_it.at)) (node_at shape l asks_it.at) l A B
          (links l.0 asks_it.at).noted [] ws
          (same (node_at shape l (other_of asks_it.at)) (node_at shape l asks_it.at) l off_there)
          far_was
          (talks A B (back_half shape (records_of links) halves l asks_it.of_shape asks_it.at)
          (halves l asks_it.of_shape asks_it.at)))

      turned : IsHuntedAt shape Q l (other_of asks_it.at) (links l.0 (other_of asks_it.at))
          (after l.0 asks_it.at)
      turned = subst (λ (a : Side). AreHunted Q (node_at shape l (other_of asks_it.at))
          (node_at shape l a) l (links l.0 (other_of asks_it.at)).side (after l.0 asks_it.at).side
          (after l.0 asks_it.at).noted) (sym (other_twice asks_it.at)) there

      elsewhere : (h : LinkNo) (side : Side) → IsLinkOf shape h → (h.0 == l.0) ≡ false
          → IsHuntedAt shape Q h side (links h.0 side) (links h.0 (other_of side))
      elsewhere h side of_h apart =
          hunts_stay P Q (node_at shape h side) (node_at shape h (other_of side)) h
          (links h.0 side).side (links h.0 (other_of side)).side (links h.0 (other_of side)).noted
          (same (node_at shape h side) (node_at shape h (other_of side)) h
          (no_link (node_at shape h side == k) (h.0 == l.0) apart)) (hunted h of_h side)
        where
          no_link : (t u : Bool) → u ≡ false → (t && u) ≡ false
          no_link true u f = f
          no_link false u f = refl
