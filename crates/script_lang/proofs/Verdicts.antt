-- one verdict more in a plan
use Rattle.std.proofs.Common.{◌≡◌, ℕ, suc, zero, ◌+◌, ◌-◌, ◌<◌, true, nat_le, slice_set}
use Rattle.std.proofs.Common.{slice_index_or, List, [], ◌∷◌, ◌++◌, length, take, get_or, refl, sym}
use Rattle.std.proofs.Common.{◌∙◌, ap, subst, arith, length-append, append_assoc, slice_get, le-leb}
use Rattle.std.proofs.Common.{append-nil}
use Rattle.std.specs.List.{list_all}
use Rattle.std.proofs.lemmas.Bool.{and_parts, and_from}
use Rattle.std.proofs.lemmas.List.{take_more}
use Rattle.linx_base.specs.Verdicts.{fits_verdict}
use Rattle.linx_base.specs.declared.identity.LinkNo.{LinkNo}
use Rattle.linx_base.specs.declared.identity.Side.{Side}
use Rattle.linx_base.specs.declared.identity.Side.TheVariants.{First, Second}
use Rattle.linx_base.specs.declared.frame.Verdict.{Verdict}
use Rattle.script_lang.specs.Limits.{verdict_limit}
use Rattle.script_words.proofs.Lists.{list_all_push}
use Rattle.script_lang.specs.declared.plans.Plans.{Plans}
use Rattle.script_lang.specs.Parts.{ScriptParts, side_of, plan_in, planned_verdicts, planned}
use Rattle.script_lang.specs.Parts.{planned_at, with_verdict, with_verdicts}
use Rattle.script_lang.specs.Fits.{fits_plan, fits_plans}

module _ (from : Side) (verdicts : List Verdict) where
  -- no link more
  pub length-planned_at : (plans : List Plans) (place : ℕ)
      → length (planned_at plans place from verdicts) ≡ length plans
  length-planned_at [] place = refl
  length-planned_at (p ∷ plans) zero = refl
  length-planned_at (p ∷ plans) (suc place) = ap suc (length-planned_at plans place)

plan_fits : (verdict : Verdict) (verdicts : List Verdict) → fits_plan verdicts ≡ true
    → length verdicts < verdict_limit → fits_verdict verdict ≡ true
    → fits_plan (verdicts ++ verdict ∷ []) ≡ true
plan_fits verdict verdicts h room fits =
    let few = nat_le (length verdicts) verdict_limit in
    let parts = and_parts few (list_all fits_verdict verdicts) h in
    let longer = length-append verdicts (verdict ∷ []) in
    and_from _ _
    (le-leb (length (verdicts ++ verdict ∷ [])) verdict_limit (omega (arith, longer)))
    (list_all_push fits_verdict verdicts verdict parts.1 fits)

planned_fits : (plans : Plans) (from : Side) (verdict : Verdict) → fits_plans plans ≡ true
    → length (side_of plans from) < verdict_limit → fits_verdict verdict ≡ true
    → fits_plans (planned plans from (verdict ∷ [])) ≡ true
planned_fits plans First verdict h room fits =
    let parts = and_parts (fits_plan plans.from_first) (fits_plan plans.from_second) h in
    and_from _ _ (plan_fits verdict plans.from_first parts.0 room fits) parts.1
planned_fits plans Second verdict h room fits =
    let parts = and_parts (fits_plan plans.from_first) (fits_plan plans.from_second) h in
    and_from _ _ parts.0 (plan_fits verdict plans.from_second parts.1 room fits)

pub planned_at_fits : (plans : List Plans) (place : ℕ) (from : Side) (verdict : Verdict)
    → list_all fits_plans plans ≡ true
    → length (plan_in (slice_get plans place) from) < verdict_limit
    → fits_verdict verdict ≡ true
    → list_all fits_plans (planned_at plans place from (verdict ∷ [])) ≡ true
planned_at_fits [] place from verdict h room fits = refl
planned_at_fits (p ∷ plans) zero from verdict h room fits =
    let parts = and_parts (fits_plans p) (list_all fits_plans plans) h in
    and_from _ _ (planned_fits p from verdict parts.0 room fits) parts.1
planned_at_fits (p ∷ plans) (suc place) from verdict h room fits =
    let parts = and_parts (fits_plans p) (list_all fits_plans plans) h in
    and_from _ _ parts.0 (planned_at_fits plans place from verdict parts.1 room fits)

-- the plans of all links, with the plans in this place changed
planned_at_is : (plans : List Plans) (place : ℕ) (from : Side) (verdict : Verdict) (other : Plans)
    → place < length plans
    → slice_set plans place (planned (slice_index_or plans place other) from (verdict ∷ []))
    ≡ planned_at plans place from (verdict ∷ [])
planned_at_is [] place from verdict other h = refl
planned_at_is (p ∷ plans) zero from verdict other h = refl
planned_at_is (p ∷ plans) (suc place) from verdict other h =
    ap (λ rest. p ∷ rest) (planned_at_is plans place from verdict other (omega arith))

-- the same, where the plans in this place are known
pub planned_at_of : (plans : List Plans) (place : ℕ) (from : Side) (verdict : Verdict)
    (here : Plans) → place < length plans → slice_index_or plans place here ≡ here
    → slice_set plans place (planned here from (verdict ∷ []))
    ≡ planned_at plans place from (verdict ∷ [])
planned_at_of plans place from verdict here h e =
    subst (λ (p : Plans). slice_set plans place (planned p from (verdict ∷ []))
    ≡ planned_at plans place from (verdict ∷ [])) e (planned_at_is plans place from verdict here h)

planned_longer : (plans : List Plans) (place : ℕ) (from : Side) (verdict : Verdict)
    → place < length plans
    → length (plan_in (slice_get (planned_at plans place from (verdict ∷ [])) place) from)
    ≡ length (plan_in (slice_get plans place) from) + 1
planned_longer [] place from verdict h = absurd (omega arith)
planned_longer (p ∷ plans) zero First verdict h = length-append p.from_first (verdict ∷ [])
planned_longer (p ∷ plans) zero Second verdict h = length-append p.from_second (verdict ∷ [])
planned_longer (p ∷ plans) (suc place) from verdict h =
    planned_longer plans place from verdict (omega arith)

module _ (s : ScriptParts) (link : LinkNo) (from : Side) (verdict : Verdict) where
  -- a plan with one verdict more
  pub plan_longer : link.0 - 1 < length s.plans
      → length (planned_verdicts (with_verdict s link from verdict) link from)
      ≡ length (planned_verdicts s link from) + 1
  plan_longer h = planned_longer s.plans (link.0 - 1) from verdict h

  -- a link keeps its place
  pub plans_stay : link.0 - 1 < length s.plans
      → link.0 - 1 < length (with_verdict s link from verdict).plans
  plans_stay h = rw (length-planned_at from (verdict ∷ []) s.plans (link.0 - 1)) h

  -- one verdict more than so many
  pub room_more : (n i : ℕ) → link.0 - 1 < length s.plans
      → length (planned_verdicts s link from) ≡ n + i
      → length (planned_verdicts (with_verdict s link from verdict) link from) ≡ n + (i + 1)
  room_more n i within so_far =
      let more : n + i + 1 ≡ n + (i + 1) = omega arith in
      plan_longer within ∙ ap (λ k. k + 1) so_far ∙ more

-- ---- no verdict more, and verdicts behind verdicts

planned_none : (plans : Plans) (from : Side) → planned plans from [] ≡ plans
planned_none plans First = ap (λ v. record plans { from_first = v }) (append-nil plans.from_first)
planned_none plans Second =
    ap (λ v. record plans { from_second = v }) (append-nil plans.from_second)

planned_at_none : (plans : List Plans) (place : ℕ) (from : Side)
    → planned_at plans place from [] ≡ plans
planned_at_none [] place from = refl
planned_at_none (p ∷ plans) zero from = ap (λ (q : Plans). q ∷ plans) (planned_none p from)
planned_at_none (p ∷ plans) (suc place) from =
    ap (λ (rest : List Plans). p ∷ rest) (planned_at_none plans place from)

planned_twice : (plans : Plans) (from : Side) (xs ys : List Verdict)
    → planned (planned plans from xs) from ys ≡ planned plans from (xs ++ ys)
planned_twice plans First xs ys =
    ap (λ v. record plans { from_first = v }) (append_assoc plans.from_first xs ys)
planned_twice plans Second xs ys =
    ap (λ v. record plans { from_second = v }) (append_assoc plans.from_second xs ys)

planned_at_twice : (plans : List Plans) (place : ℕ) (from : Side) (xs ys : List Verdict)
    → planned_at (planned_at plans place from xs) place from ys
    ≡ planned_at plans place from (xs ++ ys)
planned_at_twice [] place from xs ys = refl
planned_at_twice (p ∷ plans) zero from xs ys =
    ap (λ (q : Plans). q ∷ plans) (planned_twice p from xs ys)
planned_at_twice (p ∷ plans) (suc place) from xs ys =
    ap (λ (rest : List Plans). p ∷ rest) (planned_at_twice plans place from xs ys)

-- no verdict as yet
pub verdicts_none : (s : ScriptParts) (link : LinkNo) (from : Side)
    → s ≡ with_verdicts s link from []
verdicts_none s link from =
    ap (λ (plans : List Plans). record s { plans = plans })
    (sym (planned_at_none s.plans (link.0 - 1) from))

-- one verdict more behind those so far
pub verdicts_more : (s t u : ScriptParts) (link : LinkNo) (from : Side) (verdicts : List Verdict)
    (i : ℕ) (verdict : Verdict) → i < length verdicts
    → t ≡ with_verdicts s link from (take i verdicts)
    → u ≡ with_verdict t link from (get_or verdicts i verdict)
    → u ≡ with_verdicts s link from (take (i + 1) verdicts)
verdicts_more s t u link from verdicts i verdict within so_far one =
    let next : Verdict = get_or verdicts i verdict in
    one ∙ ap (λ (v : ScriptParts). with_verdict v link from next) so_far
    ∙ ap (λ (plans : List Plans). record s { plans = plans })
    (planned_at_twice s.plans (link.0 - 1) from (take i verdicts) (next ∷ []))
    ∙ ap (λ (vs : List Verdict). with_verdicts s link from vs)
    (sym (take_more verdicts i verdict within))
