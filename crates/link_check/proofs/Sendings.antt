-- One of the flows of what was sent is found among all.
use Rattle.std.proofs.Common.{◌≡◌, ℕ, Bool, true, false, ◌&&◌, ◌||◌, List, [], ◌∷◌, filter, Some, inl}
use Rattle.std.proofs.Common.{inr, refl, sym, ◌∙◌, ap, subst, slice_get, true≢false}
use Rattle.std.specs.List.{list_any, AllByRecursion}
use Rattle.std.proofs.lemmas.Bool.{or_cases, or_left, or_right}
use Rattle.linx_base.specs.Peers.{same_inc}
use Rattle.linx_base.specs.SigNotes.{SigNote}
use Rattle.linx_base.specs.declared.identity.Inc.{Inc}
use Rattle.link_tables.specs.Sent.{flows_of, notes_of, same_flow}
use Rattle.link_tables.specs.declared.sent.Flow.{Flow}
use Rattle.link_tables.specs.declared.sent.SentOver.{SentOver}
use Rattle.link_tables.proofs.Flows.{flow-is}
use Rattle.link_tables.proofs.FlowsOf.{any-flow}
use Rattle.link_check.proofs.Ones.{any-both}
use Rattle.link_check.proofs.Tests.{inc-is, inc-same}

-- What holds of all holds of one that is among them
pub among : (P : Inc → Type 0) (i : Inc) (incs : List Inc) → AllByRecursion P incs
    → list_any (same_inc i) incs ≡ true → P i
among P i [] all is = absurd (true≢false (sym is))
among P i (j ∷ incs) all is =
    elim (or_cases (same_inc i j) (list_any (same_inc i) incs) is) [
      | inl e ↦ subst P (sym (inc-is i j e)) all.0
      | inr e ↦ among P i incs all.1 e
    ]

-- and what holds of each that is among them holds of all
pub each-all : (P : Inc → Type 0) (incs : List Inc)
    → ((i : Inc) → list_any (same_inc i) incs ≡ true → P i) → AllByRecursion P incs
each-all P [] each = tt
each-all P (j ∷ incs) each = (
  each j (or_left (same_inc j j) (list_any (same_inc j) incs) (inc-same j)),
  each-all P incs (λ i is. each i (or_right (same_inc i j) (list_any (same_inc i) incs) is)),
)

-- WHERE A FLOW HAS A NOTE and passes two tests, one of the flows that pass the one passes the other
module _ (f : Flow) (p q : Flow → Bool) (passes : (q f && p f) ≡ true) where
  noted : (k : ℕ) (note : SigNote) (sent : List SentOver) → slice_get (notes_of f sent) k ≡ Some note
      → list_any (λ (s : SentOver). q s.flow && p s.flow) sent ≡ true
  noted k note [] is = cc is
  noted k note (s ∷ sent) is =
      go (same_flow f s.flow) refl (λ fewer. noted k note sent fewer)
    where
      go : (b : Bool) → same_flow f s.flow ≡ b
          → (slice_get (notes_of f sent) k ≡ Some note
          → list_any (λ (t : SentOver). q t.flow && p t.flow) sent ≡ true)
          → ((q s.flow && p s.flow)
          || list_any (λ (t : SentOver). q t.flow && p t.flow) sent) ≡ true
      go true e more =
          or_left (q s.flow && p s.flow) (list_any (λ (t : SentOver). q t.flow && p t.flow) sent)
          (ap (λ (g : Flow). q g && p g) (sym (flow-is f s.flow e)) ∙ passes)
      go false e more =
          let fewer : notes_of f (s ∷ sent) ≡ notes_of f sent = rw e refl in
          or_right (q s.flow && p s.flow)
          (list_any (λ (t : SentOver). q t.flow && p t.flow) sent)
          (more (ap (λ (notes : List SigNote). slice_get notes k) (sym fewer) ∙ is))

  pub noted-flow : (k : ℕ) (note : SigNote) (sent : List SentOver)
      → slice_get (notes_of f sent) k ≡ Some note → list_any p (filter q (flows_of sent)) ≡ true
  noted-flow k note sent is =
      any-both p q (flows_of sent)
      (any-flow (λ (g : Flow). q g && p g) sent ∙ noted k note sent is)
