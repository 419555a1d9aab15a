-- WHAT THE MARKS TELL is what the history tells: who was opened and closed, and whom a node has met.
use Rattle.std.proofs.Common.{◌≡◌, ℕ, Bool, true, false, ◌&&◌, ◌||◌, ◌==◌, List, [], ◌∷◌, ◌++◌}
use Rattle.std.proofs.Common.{refl, sym, ◌∙◌, ap, append_assoc}
use Rattle.std.specs.List.{filter_map, list_any}
use Rattle.std.proofs.lemmas.List.Elements.{filter_map-append}
use Rattle.std.proofs.lemmas.List.Folds.{list_any-append}
use Rattle.linx_base.specs.Peers.{same_inc, same_peer}
use Rattle.linx_base.specs.declared.identity.Inc.{Inc}
use Rattle.linx_base.specs.declared.identity.LinkNo.{LinkNo}
use Rattle.linx_base.specs.declared.identity.Peer.TheVariants.{Here, There}
use Rattle.linx_base.specs.declared.identity.Session.{Session}
use Rattle.journal.specs.History.{closes, effects_of, is_closed, name_in, opened_in, openings}
use Rattle.journal.specs.declared.effect.Effect.{Effect}
use Rattle.journal.specs.declared.effect.Effect.TheVariants as effects
use Rattle.journal.specs.declared.effect.Step.{Step}
use Rattle.journal.specs.declared.head.Head.{Head}
use Rattle.link_laws.specs.Brought.{meets_peer, was_met}
use Rattle.link_tables.specs.Marks.{is_closing_of, is_meeting_of, is_opening_of, marks_in}
use Rattle.link_tables.specs.Marks.{mark_of, marks_left, with_mark}
use Rattle.link_tables.specs.declared.marks.Mark.{Mark}
use Rattle.link_tables.specs.declared.marks.Mark.TheVariants.{Opened, Closed, Met}

-- OF TWO LISTS that each step makes longer, tests that agree on what a step adds agree on all
abbrev Adds : (Mark → Bool) → (Effect → Bool) → Type 0
Adds p q = (h : Head) (es : List Effect) → list_any p (marks_in h es) ≡ list_any q es

all-steps : (p : Mark → Bool) (q : Effect → Bool) → Adds p q → (P : List Step)
    → list_any p (marks_left P) ≡ list_any q (effects_of P)
all-steps p q adds [] = refl
all-steps p q adds (s ∷ P) =
    list_any-append p (marks_left P) (marks_in s.head s.effects)
    ∙ ap (λ (t : Bool). t || list_any p (marks_in s.head s.effects)) (all-steps p q adds P)
    ∙ ap (λ (t : Bool). list_any q (effects_of P) || t) (adds s.head s.effects)
    ∙ sym (list_any-append q (effects_of P) s.effects)

-- OPENINGS
module _ (i : Inc) where
  abbrev opens_it : Effect → Bool
  opens_it (effects.Opened j) = same_inc i j
  opens_it _ = false

  opening-adds : Adds (is_opening_of i) opens_it
  opening-adds h [] = refl
  opening-adds h (effects.Opened j ∷ es) = ap (λ (t : Bool). same_inc i j || t) (opening-adds h es)
  opening-adds h (effects.Met n (Here j) name ∷ es) = opening-adds h es
  opening-adds h (effects.Met n (There l x j) name ∷ es) = opening-adds h es
  opening-adds h (_ ∷ es) = opening-adds h es

  opened-any : (es : List Effect)
      → list_any opens_it es ≡ list_any (same_inc i) (filter_map opened_in es)
  opened-any [] = refl
  opened-any (effects.Opened j ∷ es) = ap (λ (t : Bool). same_inc i j || t) (opened-any es)
  opened-any (_ ∷ es) = opened-any es

  pub opened-told : (P : List Step)
      → list_any (is_opening_of i) (marks_left P) ≡ list_any (same_inc i) (openings P)
  opened-told P = all-steps (is_opening_of i) opens_it opening-adds P ∙ opened-any (effects_of P)

  -- CLOSINGS
  closing-adds : Adds (is_closing_of i) (closes i)
  closing-adds h [] = refl
  closing-adds h (effects.Closed j ∷ es) = ap (λ (t : Bool). same_inc i j || t) (closing-adds h es)
  closing-adds h (effects.Met n (Here j) name ∷ es) = closing-adds h es
  closing-adds h (effects.Met n (There l x j) name ∷ es) = closing-adds h es
  closing-adds h (_ ∷ es) = closing-adds h es

  pub closed-told : (P : List Step)
      → list_any (is_closing_of i) (marks_left P) ≡ is_closed P i
  closed-told P = all-steps (is_closing_of i) (closes i) closing-adds P

-- MEETINGS
module _ (n : ℕ) (l : LinkNo) (x : Session) (a : Inc) where
  never : (b : Bool) → (b && false) ≡ false
  never true = refl
  never false = refl

  meeting-adds : Adds (is_meeting_of n (There l x a)) (meets_peer n (There l x a))
  meeting-adds h [] = refl
  meeting-adds h (effects.Met m (Here j) name ∷ es) =
      meeting-adds h es
      ∙ ap (λ (t : Bool). t || list_any (meets_peer n (There l x a)) es) (sym (never (m.0 == n)))
  meeting-adds h (effects.Met m (There k y j) name ∷ es) =
      ap (λ (t : Bool). (m.0 == n && same_peer (There l x a) (There k y j)) || t)
      (meeting-adds h es)
  meeting-adds h (_ ∷ es) = meeting-adds h es

  pub met-told : (P : List Step)
      → list_any (is_meeting_of n (There l x a)) (marks_left P) ≡ was_met P n (There l x a)
  met-told P =
      all-steps (is_meeting_of n (There l x a)) (meets_peer n (There l x a)) meeting-adds P

-- ONE EFFECT MORE: its mark, and then those of the rest
pub one_marked : (marks : List Mark) (h : Head) (e : Effect) (es : List Effect)
    → with_mark marks (mark_of h e) ++ marks_in h es ≡ marks ++ marks_in h (e ∷ es)
one_marked marks h (effects.Opened i) es =
    append_assoc marks (Opened i (name_in h) ∷ []) (marks_in h es)
one_marked marks h (effects.Closed i) es =
    append_assoc marks (Closed i ∷ []) (marks_in h es)
one_marked marks h (effects.Met n (Here i) name) es = refl
one_marked marks h (effects.Met n (There l x i) name) es =
    append_assoc marks (Met n l x i ∷ []) (marks_in h es)
one_marked marks h _ es = refl
