-- THE NAME THAT THE MARKS TELL is the one that an incarnation was opened with.
use Rattle.std.proofs.Common.{◌≡◌, Bool, true, false, ◌||◌, ℕ, List, [], ◌∷◌, ◌++◌, Option, Some}
use Rattle.std.proofs.Common.{None, filter, drop, slice_get, refl, sym, ◌∙◌, ap, fold}
use Rattle.std.proofs.Common.{if◌then◌else◌}
use Rattle.std.specs.List.{list_any}
use Rattle.std.proofs.lemmas.List.Sums.{fold-append}
use Rattle.linx_base.specs.Peers.{same_inc}
use Rattle.linx_base.specs.declared.identity.Inc.{Inc}
use Rattle.linx_base.specs.declared.identity.Peer.TheVariants.{Here, There}
use Rattle.journal.specs.History.{name_in, opening_name, opens}
use Rattle.journal.specs.declared.effect.Effect.{Effect}
use Rattle.journal.specs.declared.effect.Effect.TheVariants as effects
use Rattle.journal.specs.declared.effect.Step.{Step}
use Rattle.journal.specs.declared.head.Head.{Head}
use Rattle.link_tables.specs.Marks.{is_opening_of, marks_in, marks_left, name_after, opened_as}
use Rattle.link_tables.specs.declared.marks.Mark.{Mark}
use Rattle.link_tables.specs.declared.marks.Mark.TheVariants.{Opened, Closed, Met}

abbrev Name : Type 0
Name = Option (List ℕ)

module _ (i : Inc) where
  abbrev from : Name → List Mark → Name
  from before marks = fold (name_after i) before marks

  -- A STEP gives its name to what it opens
  one-opened : (b rest : Bool) (name before : Name)
      → (if rest then name else (if b then name else before))
      ≡ (if b || rest then name else before)
  one-opened true true name before = refl
  one-opened true false name before = refl
  one-opened false rest name before = refl

  in-step : (h : Head) (es : List Effect) (before : Name)
      → from before (marks_in h es)
      ≡ (if list_any (opens i) es then name_in h else before)
  in-step h [] before = refl
  in-step h (effects.Opened j ∷ es) before =
      in-step h es (if same_inc i j then name_in h else before)
      ∙ one-opened (same_inc i j) (list_any (opens i) es) (name_in h) before
  in-step h (effects.Met n (Here j) name ∷ es) before = in-step h es before
  in-step h (effects.Met n (There l x j) name ∷ es) before = in-step h es before
  in-step h (_ ∷ es) before = in-step h es before

  pub name-told : (P : List Step) → opened_as i (marks_left P) ≡ opening_name P i
  name-told [] = refl
  name-told (s ∷ P) =
      fold-append (name_after i) None (marks_left P) (marks_in s.head s.effects)
      ∙ ap (λ (before : Name). from before (marks_in s.head s.effects)) (name-told P)
      ∙ in-step s.head s.effects (opening_name P i)

  -- OF THE MARKS of its openings alone the name is the same
  pub among-openings : (marks : List Mark) (before : Name)
      → from before (filter (is_opening_of i) marks) ≡ from before marks
  among-openings [] before = refl
  among-openings (Opened j name ∷ marks) before =
      go (same_inc i j) refl (among-openings marks name) (among-openings marks before)
    where
      go : (b : Bool) → same_inc i j ≡ b
          → from name (filter (is_opening_of i) marks) ≡ from name marks
          → from before (filter (is_opening_of i) marks) ≡ from before marks
          → from before (filter (is_opening_of i) (Opened j name ∷ marks))
          ≡ from before (Opened j name ∷ marks)
      go true is named rest =
          rw is (ap (λ (b : Bool). from (if b then name else before)
          (filter (is_opening_of i) marks)) is ∙ named)
      go false is named rest = rw is rest
  among-openings (Closed j ∷ marks) before = among-openings marks before
  among-openings (Met n l x j ∷ marks) before = among-openings marks before

  -- A WALK over marks: with those that are left the name is what it is with all
  pub named-more : (left rest : List Mark) (mark : Mark) (before now whole : Name)
      → Some mark ≡ slice_get left 0 → rest ≡ drop 1 left → now ≡ name_after i before mark
      → from before left ≡ whole → from now rest ≡ whole
  named-more [] rest mark before now whole is next named so_far = cc is
  named-more (m ∷ left) rest mark before now whole is next named so_far =
      let same : mark ≡ m = cc is in
      ap (from now) next
      ∙ ap (λ (name : Name). from name left) (named ∙ ap (name_after i before) same) ∙ so_far

  pub named-all : (left : List Mark) (now whole : Name) → None ≡ slice_get left 0
      → from now left ≡ whole → now ≡ whole
  named-all [] now whole none so_far = so_far
  named-all (m ∷ left) now whole none so_far = cc none
