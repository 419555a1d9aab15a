-- What is read of a legal journal, with what its attaches tell, is the map of it.
use Rattle.std.proofs.Common.{◌≡◌, ℕ, suc, ◌+◌, ◌<◌, ◌≤◌, Bool, true, false, cond, ◌||◌, List, []}
use Rattle.std.proofs.Common.{◌∷◌, map, length, Option, Some, None, ◌⊎◌, inl, inr, refl, sym, ap}
use Rattle.std.proofs.Common.{◌∙◌, subst, arith, ◌==◌, nat_lt, bytes_eq, lt-ltb, length-append}
use Rattle.std.proofs.lemmas.Bool.{cases_lt, cond-true, or_right}
use Rattle.std.proofs.lemmas.List.{length-map}
use Rattle.linx_base.specs.Content.{reason_byte, with_reason}
use Rattle.linx_base.specs.declared.signal.Reason.{Reason}
use Rattle.linx_base.specs.SigNotes.{SigNote}
use Rattle.journal.specs.Logs.{step_at}
use Rattle.journal.specs.Shapes.{Shape}
use Rattle.journal.specs.declared.head.Head.{Head}
use Rattle.journal.specs.declared.head.Head.TheVariants.{Attach}
use Rattle.journal.specs.declared.effect.Effect.{Effect}
use Rattle.journal.specs.declared.effect.Effect.TheVariants.{Arrived, Notified}
use Rattle.journal.specs.declared.effect.Step.{Step}
use Rattle.link_laws.specs.Laws.{IsLegal}
use Rattle.link_laws.proofs.Endpoints.Names.{bytes_eq-itself}
use Rattle.image_laws.specs.Images.{effect_by, head_by, journal_by, note_by, step_by, told_data}
use Rattle.image_laws.specs.Told.{IsImage, attach_in_head, attach_in_step, attached_at, can_tell}
use Rattle.image_laws.specs.Told.{image_of, image_of_effect, image_of_step, shown_most, told_effect}
use Rattle.image_laws.specs.Told.{told_note, told_of}
use Rattle.image_laws.proofs.Attaches.{itself}
use Rattle.image_laws.proofs.Effects.{reason-by}
use Rattle.image_laws.proofs.Legal.{legal-by}
use Rattle.image_laws.proofs.Lists.{if_some}
use Rattle.image_laws.proofs.Telling.{AllTold, IsTold, legal-told}

module _ (f : List ℕ → List ℕ) where
  step_at-image : (P : List Step) (k : ℕ)
      → step_at (image_of f P) k ≡ if_some (image_of_step f) (step_at P k)
  step_at-image [] k = refl
  step_at-image (s ∷ P) k =
      rw (length-map P (image_of_step f), step_at-image P k) (at (k == suc (length P)))
    where
      at : (b : Bool)
          → cond b (Some (image_of_step f s)) (if_some (image_of_step f) (step_at P k))
          ≡ if_some (image_of_step f) (cond b (Some s) (step_at P k))
      at true = refl
      at false = refl

  attach_in_head-image : (head : Head)
      → attach_in_head (head_by f head) ≡ if_some (note_by f) (attach_in_head head)
  attach_in_head-image (Attach q note) = refl
  attach_in_head-image _ = refl

  attach_in_step-image : (o : Option Step)
      → attach_in_step (if_some (image_of_step f) o) ≡ if_some (note_by f) (attach_in_step o)
  attach_in_step-image None = refl
  attach_in_step-image (Some s) = attach_in_head-image s.head

  attached_at-image : (P : List Step) (k : ℕ)
      → attached_at (image_of f P) k ≡ if_some (note_by f) (attached_at P k)
  attached_at-image P k =
      ap attach_in_step (step_at-image P k) ∙ attach_in_step-image (step_at P k)

module _ (f : List ℕ → List ℕ) (image : IsImage f) where
  -- long data are taken for those of the attach, and short ones are
  known-image : (reason : Reason) (a : SigNote) → (32 < length a.bytes) ⊎ (length a.bytes ≤ 32)
      → (nat_lt shown_most (length (f a.bytes))
      || bytes_eq (f (with_reason reason a).bytes) (f (with_reason reason (note_by f a)).bytes))
      ≡ true
  known-image reason a (inl long) =
      let same : nat_lt 32 (length (f a.bytes)) ≡ true =
      lt-ltb 32 (length (f a.bytes)) (omega (arith, image.sizes a.bytes, long)) in
      rw same refl
  known-image reason a (inr few) =
      rw (image.short a.bytes few)
      (or_right (nat_lt 32 (length a.bytes))
      (bytes_eq (f (with_reason reason a).bytes) (f (with_reason reason a).bytes))
      (bytes_eq-itself (f (with_reason reason a).bytes)))

  -- what is read of data and a byte can be told of what is read of the data
  can_tell-image : (reason : Reason) (a : SigNote)
      → can_tell f reason (note_by f a) (f (with_reason reason a).bytes) ≡ true
  can_tell-image reason a = rw (one_more, known-image reason a (cases_lt 32 (length a.bytes))) refl
    where
      one_more : (length (f (with_reason reason a).bytes) == length (f a.bytes) + 1) ≡ true
      one_more =
          let size : length (f (with_reason reason a).bytes) ≡ length (f a.bytes) + 1 =
          omega (
            arith,
            image.sizes (with_reason reason a).bytes,
            length-append a.bytes (reason_byte reason ∷ []),
            image.sizes a.bytes,
          )
          in
          ap (λ (n : ℕ). n == length (f a.bytes) + 1) size ∙ itself (length (f a.bytes) + 1)

  told_note-image : (reason : Reason) (a : SigNote)
      → told_note f reason (Some (note_by f a)) (note_by f (with_reason reason a))
      ≡ note_by (told_data f) (with_reason reason a)
  told_note-image reason a =
      cond-true (can_tell f reason (note_by f a) (f (with_reason reason a).bytes))
      (with_reason reason (note_by f a)) (note_by f (with_reason reason a))
      (can_tell-image reason a)
      ∙ reason-by f reason a

  told_effect-image : (H : List Step) (e : Effect) → IsTold H e
      → told_effect f (image_of f H) (image_of_effect f e) ≡ effect_by f e
  told_effect-image H (Notified i q note r reason) is =
      ap (λ (n : SigNote). Notified i q n r reason)
      (ap (λ (o : Option SigNote). told_note f reason o (note_by f note))
      (attached_at-image f H r.0 ∙ ap (if_some (note_by f)) is.1.0)
      ∙ ap (λ (n : SigNote). told_note f reason (Some (note_by f is.0)) (note_by f n)) is.1.1
      ∙ told_note-image reason is.0
      ∙ ap (note_by (told_data f)) (sym is.1.1))
  told_effect-image H (Arrived i q note) is = refl
  told_effect-image H _ is = refl

  told_effects-image : (H : List Step) (es : List Effect) → AllTold H es
      → map (told_effect f (image_of f H)) (map (image_of_effect f) es) ≡ map (effect_by f) es
  told_effects-image H [] all = refl
  told_effects-image H (e ∷ es) all =
      rw (told_effect-image H e all.0, told_effects-image H es all.1) refl

  pub read-image : (shape : Shape) (P : List Step) → IsLegal shape P
      → told_of f (image_of f P) ≡ journal_by f P
  read-image shape [] legal = refl
  read-image shape (s ∷ P) legal =
      ap (λ (es : List Effect). let t : Step = record {
        by = s.by;
        head = head_by f s.head;
        effects = es;
      } in
      t ∷ told_of f (image_of f P))
      (told_effects-image (s ∷ P) s.effects (legal-told shape P s legal.1))
      ∙ ap (λ (R : List Step). step_by f s ∷ R) (read-image shape P legal.0)

  pub legal-image : (shape : Shape) (P : List Step) → IsLegal shape P
      → IsLegal shape (told_of f (image_of f P))
  legal-image shape P legal =
      subst (IsLegal shape) (sym (read-image shape P legal)) (legal-by f image.sizes shape P legal)
