-- What is pending: hunts, and attaches that are owed a notification.
use Rattle.std.proofs.Common.{◌≡◌, ℕ, suc, Bool, true, false, cond, not, List, [], ◌∷◌, ◌++◌, map}
use Rattle.std.proofs.Common.{length, Option, Some, None, refl, sym, ap, ◌∙◌, filter}
use Rattle.std.proofs.lemmas.List.{map-append}
use Rattle.linx_base.specs.Numbers.{is_on}
use Rattle.linx_base.specs.declared.identity.Inc.{Inc}
use Rattle.linx_base.specs.declared.pending.PendingAttach.{PendingAttach}
use Rattle.linx_base.specs.declared.pending.PendingHunt.{PendingHunt}
use Rattle.journal.specs.declared.head.Head.{Head}
use Rattle.journal.specs.declared.head.Head.TheVariants.{Attach, Detach, Hunt}
use Rattle.journal.specs.declared.effect.Effect.{Effect}
use Rattle.journal.specs.declared.effect.Step.{Step}
use Rattle.journal.specs.History.{endpoint_by}
use Rattle.journal.specs.Pending.{answers_hunt, attach_in, detaches, ends_hunt, hunt_in, hunting}
use Rattle.journal.specs.Pending.{hunts_past, notifies, owed, owed_past, ends_attach}
use Rattle.image_laws.specs.Images.{attach_by, effect_by, head_by, hunt_by, journal_by}
use Rattle.image_laws.proofs.Blind.{answers_hunt-by, closed-by, notifies-by}
use Rattle.image_laws.proofs.Endpoints.{endpoint_by-by, steps-by}
use Rattle.image_laws.proofs.Lists.{filter-by, list_any-by}

-- one element, or none
pub one-by : {X Y : Type 0} (h : X → Y) (b : Bool) (x : X)
    → cond b (h x ∷ []) [] ≡ map h (cond b (x ∷ []) [])
one-by h true x = refl
one-by h false x = refl

module _ (f : List ℕ → List ℕ) where
  ends_hunt-by : (es : List Effect) (h : PendingHunt)
      → ends_hunt (map (effect_by f) es) (hunt_by f h) ≡ ends_hunt es h
  ends_hunt-by es h =
      rw (
        list_any-by (effect_by f) (answers_hunt (hunt_by f h)) (answers_hunt h)
            (answers_hunt-by f h) es,
        closed-by f h.at es,
      ) refl

  hunt_in-by : (node k : ℕ) (me : Option Inc) (head : Head)
      → hunt_in node k me (head_by f head) ≡ map (hunt_by f) (hunt_in node k me head)
  hunt_in-by node k None (Hunt path note) = refl
  hunt_in-by node k (Some j) (Hunt path note) =
      one-by (hunt_by f) (is_on node j)
      (record { at = j; path = path; signal = note; number = k })
  hunt_in-by node k me _ = refl

  hunts_past-by : (node k : ℕ) (me : Option Inc) (head : Head) (es : List Effect)
      (before : List PendingHunt)
      → hunts_past node k me (head_by f head) (map (effect_by f) es) (map (hunt_by f) before)
      ≡ map (hunt_by f) (hunts_past node k me head es before)
  hunts_past-by node k me head es before =
      rw (hunt_in-by node k me head)
      (ap (filter (λ h. not (ends_hunt (map (effect_by f) es) h)))
      (sym (map-append (hunt_by f) before (hunt_in node k me head)))
      ∙ filter-by (hunt_by f) (λ h. not (ends_hunt (map (effect_by f) es) h))
      (λ h. not (ends_hunt es h)) (λ h. ap not (ends_hunt-by es h))
      (before ++ hunt_in node k me head))

  pub hunting-by : (P : List Step) (node : ℕ)
      → hunting (journal_by f P) node ≡ map (hunt_by f) (hunting P node)
  hunting-by [] node = refl
  hunting-by (s ∷ P) node =
      rw (steps-by f P, endpoint_by-by f P s.by, hunting-by P node)
      (hunts_past-by node (suc (length P)) (endpoint_by P s.by) s.head s.effects (hunting P node))

  detaches-by : (me : Option Inc) (head : Head) (a : PendingAttach)
      → detaches me (head_by f head) (attach_by f a) ≡ detaches me head a
  detaches-by None (Detach r answer) a = refl
  detaches-by (Some j) (Detach r answer) a = refl
  detaches-by me _ a = refl

  ends_attach-by : (me : Option Inc) (head : Head) (es : List Effect) (a : PendingAttach)
      → ends_attach me (head_by f head) (map (effect_by f) es) (attach_by f a) ≡ ends_attach me head es a
  ends_attach-by me head es a =
      rw (
        list_any-by (effect_by f) (notifies (attach_by f a)) (notifies a) (notifies-by f a) es,
        detaches-by me head a,
        closed-by f a.at es,
      ) refl

  attach_in-by : (node k : ℕ) (me : Option Inc) (head : Head)
      → attach_in node k me (head_by f head) ≡ map (attach_by f) (attach_in node k me head)
  attach_in-by node k None (Attach q note) = refl
  attach_in-by node k (Some j) (Attach q note) =
      one-by (attach_by f) (is_on node j)
      (record { at = j; peer = q; signal = note; reference = record { 0 = k } })
  attach_in-by node k me _ = refl

  owed_past-by : (node k : ℕ) (me : Option Inc) (head : Head) (es : List Effect)
      (before : List PendingAttach)
      → owed_past node k me (head_by f head) (map (effect_by f) es) (map (attach_by f) before)
      ≡ map (attach_by f) (owed_past node k me head es before)
  owed_past-by node k me head es before =
      rw (attach_in-by node k me head)
      (ap (filter (λ a. not (ends_attach me (head_by f head) (map (effect_by f) es) a)))
      (sym (map-append (attach_by f) before (attach_in node k me head)))
      ∙ filter-by (attach_by f) (λ a. not (ends_attach me (head_by f head) (map (effect_by f) es) a))
      (λ a. not (ends_attach me head es a)) (λ a. ap not (ends_attach-by me head es a))
      (before ++ attach_in node k me head))

  pub owed-by : (P : List Step) (node : ℕ)
      → owed (journal_by f P) node ≡ map (attach_by f) (owed P node)
  owed-by [] node = refl
  owed-by (s ∷ P) node =
      rw (steps-by f P, endpoint_by-by f P s.by, owed-by P node)
      (owed_past-by node (suc (length P)) (endpoint_by P s.by) s.head s.effects (owed P node))
