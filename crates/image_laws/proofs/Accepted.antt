-- What is told of a legal journal is the journal; and where what is told is legal, each notification
-- is that of its attach.
use Rattle.std.proofs.Common.{◌≡◌, ℕ, suc, ◌+◌, Bool, true, false, cond, ◌||◌, inl, inr, List, []}
use Rattle.std.proofs.Common.{◌∷◌, map, length, Option, Some, refl, sym, ap, ◌∙◌, ◌==◌, nat_lt}
use Rattle.std.proofs.Common.{bytes_eq, eqb-true, ltb-true}
use Rattle.std.specs.List.{AllByRecursion}
use Rattle.std.proofs.lemmas.Bool.{or_cases}
use Rattle.linx_base.specs.Content.{with_reason}
use Rattle.linx_base.specs.declared.signal.Reason.{Reason}
use Rattle.linx_base.specs.SigNotes.{SigNote}
use Rattle.journal.specs.Logs.{step_at}
use Rattle.journal.specs.Shapes.{Shape}
use Rattle.journal.specs.declared.effect.Effect.{Effect}
use Rattle.journal.specs.declared.effect.Effect.TheVariants.{Arrived, Notified}
use Rattle.journal.specs.declared.effect.Step.{Step}
use Rattle.link_laws.specs.Laws.{IsLegal}
use Rattle.link_laws.proofs.Endpoints.Names.{bytes_eq-is}
use Rattle.link_laws.proofs.Endpoints.OpenAfterStep.{both_true}
use Rattle.image_laws.specs.Told.{AllNoticed, IsNotice, IsNoticed, attach_in_step, attached_at}
use Rattle.image_laws.specs.Told.{can_tell, hidden, read, shown_most, told_effect, told_note}
use Rattle.image_laws.specs.Told.{told_of, whole}
use Rattle.image_laws.proofs.Telling.{AllTold, IsTold, legal-told}

module _ (f : List ℕ → List ℕ) where
  -- a legal journal
  told_note-same : (reason : Reason) (a : SigNote)
      → told_note f reason (Some a) (with_reason reason a) ≡ with_reason reason a
  told_note-same reason a = either (can_tell f reason a (with_reason reason a).bytes)
    where
      either : (b : Bool)
          → cond b (with_reason reason a) (with_reason reason a) ≡ with_reason reason a
      either true = refl
      either false = refl

  told_effect-same : (H : List Step) (e : Effect) → IsTold H e → told_effect f H e ≡ e
  told_effect-same H (Notified i q note r reason) is =
      ap (λ (n : SigNote). Notified i q n r reason)
      (ap (λ (o : Option SigNote). told_note f reason o note) is.1.0
      ∙ ap (told_note f reason (Some is.0)) is.1.1
      ∙ told_note-same reason is.0
      ∙ sym is.1.1)
  told_effect-same H (Arrived i q note) is = refl
  told_effect-same H _ is = refl

  told_effects-same : (H : List Step) (es : List Effect) → AllTold H es
      → map (told_effect f H) es ≡ es
  told_effects-same H [] all = refl
  told_effects-same H (e ∷ es) all =
      rw (told_effect-same H e all.0, told_effects-same H es all.1) refl

  pub legal-stands : (shape : Shape) (P : List Step) → IsLegal shape P → told_of f P ≡ P
  legal-stands shape [] legal = refl
  legal-stands shape (s ∷ P) legal =
      ap (λ (es : List Effect). let t : Step = record {
        by = s.by;
        head = s.head;
        effects = es;
      } in
      t ∷ told_of f P)
      (told_effects-same (s ∷ P) s.effects (legal-told shape P s legal.1))
      ∙ ap (λ (R : List Step). s ∷ R) (legal-stands shape P legal.0)

  -- a journal of which what is told is legal
  told_of-length : (R : List Step) → length (told_of f R) ≡ length R
  told_of-length [] = refl
  told_of-length (s ∷ R) = ap suc (told_of-length R)

  attached_at-told : (R : List Step) (k : ℕ) → attached_at (told_of f R) k ≡ attached_at R k
  attached_at-told [] k = refl
  attached_at-told (s ∷ R) k = rw (told_of-length R) (at (k == suc (length R)) (attached_at-told R k))
    where
      s_told : Step
      s_told = record {
        by = s.by;
        head = s.head;
        effects = map (told_effect f (s ∷ R)) s.effects;
      }

      at : (b : Bool) → attached_at (told_of f R) k ≡ attached_at R k
          → attach_in_step (cond b (Some s_told) (step_at (told_of f R) k))
          ≡ attach_in_step (cond b (Some s) (step_at R k))
      at true before = refl
      at false before = before

  -- what passes the test of data
  seen : (reason : Reason) (attach note : SigNote) → note.number ≡ attach.number
      → can_tell f reason attach note.bytes ≡ true → IsNotice f reason attach note
  seen reason attach note number can =
      elim (or_cases longer same both.1) [
        | inl is ↦ hidden number size (ltb-true 32 (length attach.bytes) is)
        | inr is ↦ read number size (bytes_eq-is note.bytes (f (with_reason reason attach).bytes) is)
      ]
    where
      sized : Bool
      sized = length note.bytes == length attach.bytes + 1

      longer : Bool
      longer = nat_lt shown_most (length attach.bytes)

      same : Bool
      same = bytes_eq note.bytes (f (with_reason reason attach).bytes)

      both : (sized ≡ true) × ((longer || same) ≡ true)
      both = both_true sized (longer || same) can

      size : length note.bytes ≡ length attach.bytes + 1
      size = eqb-true (length note.bytes) (length attach.bytes + 1) both.0

  notice : (reason : Reason) (attach note : SigNote)
      → told_note f reason (Some attach) note ≡ with_reason reason attach
      → IsNotice f reason attach note
  notice reason attach note is = by_test (can_tell f reason attach note.bytes) refl is
    where
      by_test : (b : Bool) → can_tell f reason attach note.bytes ≡ b
          → cond b (record note { bytes = (with_reason reason attach).bytes }) note
          ≡ with_reason reason attach
          → IsNotice f reason attach note
      by_test true can e = seen reason attach note (ap (λ (n : SigNote). n.number) e) can
      by_test false can e = whole e

  noticed : (R : List Step) (e : Effect) → IsTold (told_of f R) (told_effect f R e)
      → IsNoticed f R e
  noticed R (Notified i q note r reason) is =
      let at : attached_at R r.0 ≡ Some is.0 = sym (attached_at-told R r.0) ∙ is.1.0 in (
        is.0,
        (
          at,
          notice reason is.0 note
              (ap (λ (o : Option SigNote). told_note f reason o note) (sym at) ∙ is.1.1),
        ),
      )
  noticed R (Arrived i q note) is = tt
  noticed R _ is = tt

  each-noticed : (R : List Step) (es : List Effect)
      → AllTold (told_of f R) (map (told_effect f R) es) → AllByRecursion (IsNoticed f R) es
  each-noticed R [] all = tt
  each-noticed R (e ∷ es) all = (noticed R e all.0, each-noticed R es all.1)

  pub all-noticed : (shape : Shape) (R : List Step) → IsLegal shape (told_of f R) → AllNoticed f R
  all-noticed shape [] legal = tt
  all-noticed shape (s ∷ R) legal = (
    all-noticed shape R legal.0,
    each-noticed (s ∷ R) s.effects (legal-told shape (told_of f R) _ legal.1),
  )
