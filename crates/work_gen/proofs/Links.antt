-- one more link, with its plans
use Rattle.std.proofs.Common.{◌≡◌, ℕ, suc, zero, ◌+◌, ◌-◌, ◌*◌, ◌%◌, ◌<◌, true, false, List, []}
use Rattle.std.proofs.Common.{◌∷◌, ◌++◌, length, map, refl, sym, ◌∙◌, ap, arith, get_or, ◌==◌, Some}
use Rattle.std.proofs.Common.{slice_get}
use Rattle.std.specs.Fmt.{digits}
use Rattle.std.proofs.lemmas.Bool.{cond_both}
use Rattle.std.proofs.lemmas.List.FromFn.{map-range_with_len_more, length-map-range_with_len}
use Rattle.std.proofs.lemmas.List.FromFn.{get_or-map-range_with_len}
use Rattle.linx_base.specs.Verdicts.{fits_verdict}
use Rattle.linx_base.specs.declared.identity.Side.{Side}
use Rattle.linx_base.specs.declared.identity.Side.TheVariants.{First, Second}
use Rattle.linx_base.specs.declared.frame.LinkDecl.{LinkDecl}
use Rattle.linx_base.specs.declared.frame.Verdict.{Verdict}
use Rattle.linx_base.specs.declared.frame.Verdict.TheVariants.{Deliver, Lose, Repeat, Swap}
use Rattle.linx_base.specs.declared.name.Names.{Names}
use Rattle.script_lang.specs.declared.plans.Plans.{Plans}
use Rattle.script_lang.specs.Limits.{link_limit}
use Rattle.script_lang.specs.Parts.{ScriptParts, parts_of, planned, planned_at, with_link}
use Rattle.script_lang.specs.Parts.{plan_in, with_verdicts, side_of}
use Rattle.script_lang.specs.Fits.{is_among, fits_link}
use Rattle.script_lang.proofs.Verdicts.{length-planned_at}
use Rattle.work_gen.specs.Generated.{up_to, node_name, link_name, joined, verdict_by, plan_of}
use Rattle.work_gen.specs.Generated.{plans_of, nth_verdict, shift, built}
use Rattle.work_gen.specs.Building.{IsUnplanned}

-- each verdict of a plan is in range
verdict_fits : (digit : ℕ) → fits_verdict (verdict_by digit) ≡ true
verdict_fits digit =
    let Fits = λ (v : Verdict). fits_verdict v ≡ true in
    cond_both (digit == 0) Lose _ Fits (λ e. refl)
    (λ e. cond_both (digit == 3) Repeat _ Fits (λ e. refl)
    (λ e. cond_both (digit == 6) (Swap 2) Deliver Fits (λ e. refl) (λ e. refl)))

pub nth_fits : (n k : ℕ) (from : Side) (j : ℕ) → fits_verdict (nth_verdict n k from j) ≡ true
nth_fits n k from j = verdict_fits ((n + 3 * j + k + shift from) % 10)

-- ---- the plans of the last link

planned_last : (ps : List Plans) (p : Plans) (from : Side) (verdicts : List Verdict)
    → planned_at (ps ++ p ∷ []) (length ps) from verdicts ≡ ps ++ planned p from verdicts ∷ []
planned_last [] p from verdicts = refl
planned_last (q ∷ ps) p from verdicts = ap (λ rest. q ∷ rest) (planned_last ps p from verdicts)

-- a script whose last link is the one of this number
module _ (names : Names) (links : List LinkDecl) (ps : List Plans) (k : ℕ)
    (last : k - 1 ≡ length ps) where
  with_last : Plans → ScriptParts
  with_last p = parts_of names links (ps ++ p ∷ []) []

  filled : (p : Plans) (from : Side) (verdicts : List Verdict)
      → with_verdicts (with_last p) (record { 0 = k }) from verdicts
      ≡ with_last (planned p from verdicts)
  unfolding with_last
  filled p from verdicts =
      let one : planned_at (ps ++ p ∷ []) (k - 1) from verdicts
      ≡ ps ++ planned p from verdicts ∷ [] =
      rw last (planned_last ps p from verdicts)
      in
      ap (λ (plans : List Plans). parts_of names links plans []) one

-- ---- the next link

-- the first direction's plan leaves the second one as it is
other_plan : (plans : List Plans) (place : ℕ) (verdicts : List Verdict)
    → plan_in (slice_get (planned_at plans place First verdicts) place) Second
    ≡ plan_in (slice_get plans place) Second
other_plan [] place verdicts = refl
other_plan (p ∷ plans) zero verdicts = refl
other_plan (p ∷ plans) (suc place) verdicts = other_plan plans place verdicts

other_plans : (s : ScriptParts) (k : ℕ) (verdicts : List Verdict) → IsUnplanned s k Second
    → IsUnplanned (with_verdicts s (record { 0 = k }) First verdicts) k Second
other_plans s k verdicts h = record {
  link = h.link;
  place = rw (length-planned_at First verdicts s.plans (k - 1)) h.place;
  plan = other_plan s.plans (k - 1) verdicts ∙ h.plan;
}

pub other_side : (s t : ScriptParts) (k : ℕ) (verdicts : List Verdict) → IsUnplanned s k Second
    → t ≡ with_verdicts s (record { 0 = k }) First verdicts → IsUnplanned t k Second
other_side s t k verdicts h is = rw is (other_plans s k verdicts h)

unplanned : Plans
unplanned = record { from_first = []; from_second = [] }

no_plan : (from : Side) → side_of unplanned from ≡ []
unfolding unplanned
no_plan First = refl
no_plan Second = refl

-- where the next link goes, and what it is
pub link_room : (n done : ℕ) → done < 3
    → length (built n 4 done 0).names.links < link_limit
unfolding built
link_room n done few = omega (arith, length-map-range_with_len link_name 1 done)

pub link_fresh : (n done : ℕ) → done < 3
    → is_among (built n 4 done 0).names.links (link_name (done + 1)) ≡ false
unfolding built digits
link_fresh n zero few = refl
link_fresh n (suc zero) few = refl
link_fresh n (suc (suc zero)) few = refl
link_fresh n (suc (suc (suc done))) few = absurd (omega arith)

pub link_fits : (n done : ℕ) → done < 3
    → fits_link (length (built n 4 done 0).names.nodes) (joined (done + 1)) ≡ true
unfolding built
link_fits n zero few = refl
link_fits n (suc zero) few = refl
link_fits n (suc (suc zero)) few = refl
link_fits n (suc (suc (suc done))) few = absurd (omega arith)

-- the next link, with no plan as yet
next_link : ℕ → ℕ → ScriptParts
next_link n done = with_link (built n 4 done 0) (link_name (done + 1)) (joined (done + 1))

next_unplanned : (n done : ℕ) (from : Side) → done < 3
    → IsUnplanned (next_link n done) (done + 1) from
unfolding built next_link unplanned
next_unplanned n zero from few = record { link = refl; place = omega arith; plan = no_plan from }
next_unplanned n (suc zero) from few =
    record { link = refl; place = omega arith; plan = no_plan from }
next_unplanned n (suc (suc zero)) from few =
    record { link = refl; place = omega arith; plan = no_plan from }
next_unplanned n (suc (suc (suc done))) from few = absurd (omega arith)

-- it stands behind the others
grown : (n done : ℕ)
    → parts_of (record {
      nodes = map node_name (up_to 4);
      links = map link_name (up_to done) ++ link_name (done + 1) ∷ [];
    })
    (map joined (up_to done) ++ joined (done + 1) ∷ [])
    (map (plans_of n) (up_to done) ++ plans_of n (done + 1) ∷ []) []
    ≡ built n 4 (done + 1) 0
unfolding built
grown n done =
    let e : 1 + done ≡ done + 1 = omega arith in
    rw (
      map-range_with_len_more link_name 1 done (done + 1) e,
      map-range_with_len_more joined 1 done (done + 1) e,
      map-range_with_len_more (plans_of n) 1 done (done + 1) e,
    ) refl

module _ (n done : ℕ) where
  all_planned : ScriptParts
  all_planned =
      with_verdicts
      (with_verdicts (next_link n done) (record { 0 = done + 1 }) First
      (plan_of n (done + 1) First))
      (record { 0 = done + 1 }) Second (plan_of n (done + 1) Second)

  -- with both plans
  planned_both : all_planned ≡ built n 4 (done + 1) 0
  unfolding all_planned next_link built with_last plan_of unplanned
  planned_both =
      let k = done + 1 in
      let names : Names = record {
        nodes = map node_name (up_to 4);
        links = map link_name (up_to done) ++ link_name k ∷ [];
      }
      in
      let links : List LinkDecl = map joined (up_to done) ++ joined k ∷ [] in
      let ps : List Plans = map (plans_of n) (up_to done) in
      let last : k - 1 ≡ length ps =
      omega (arith, length-map-range_with_len (plans_of n) 1 done)
      in
      let half : Plans = planned unplanned First (plan_of n k First) in
      ap (λ (s : ScriptParts). with_verdicts s (record { 0 = k }) Second (plan_of n k Second))
      (filled names links ps k last unplanned First (plan_of n k First))
      ∙ filled names links ps k last half Second (plan_of n k Second)
      ∙ grown n done

-- a link is added, and then the plans of its two directions
module _ (n done : ℕ) (before linked : ScriptParts) (name : List ℕ)
    (from_before : before ≡ built n 4 done 0) (is_name : name ≡ link_name (done + 1))
    (is_linked : linked ≡ with_link before name (joined (done + 1))) where
  is_next : linked ≡ next_link n done
  unfolding next_link
  is_next =
      is_linked
      ∙ ap (λ (s : ScriptParts). with_link s name (joined (done + 1))) from_before
      ∙ ap (λ (l : List ℕ). with_link (built n 4 done 0) l (joined (done + 1))) is_name

  pub now_linked : (from : Side) → done < 3 → IsUnplanned linked (done + 1) from
  now_linked from few = rw is_next (next_unplanned n done from few)

  module _ (half : ScriptParts) (is_half : half
      ≡ with_verdicts linked (record { 0 = done + 1 }) First (plan_of n (done + 1) First)) where
    pub now_half : done < 3 → IsUnplanned half (done + 1) Second
    now_half few =
        other_side linked half (done + 1) (plan_of n (done + 1) First) (now_linked Second few)
        is_half

    pub now_whole : (whole : ScriptParts)
        → whole ≡ with_verdicts half (record { 0 = done + 1 }) Second (plan_of n (done + 1) Second)
        → whole ≡ built n 4 (done + 1) 0
    unfolding all_planned
    now_whole whole is_whole =
        is_whole
        ∙ ap (λ (s : ScriptParts). with_verdicts s (record { 0 = done + 1 }) Second
        (plan_of n (done + 1) Second)) is_half
        ∙ ap (λ (s : ScriptParts). with_verdicts
        (with_verdicts s (record { 0 = done + 1 }) First (plan_of n (done + 1) First))
        (record { 0 = done + 1 }) Second (plan_of n (done + 1) Second)) is_next
        ∙ planned_both n done

-- ---- the verdicts of a plan, one after the other

pub length-plan_of : (n k : ℕ) (from : Side) → length (plan_of n k from) ≡ 200
unfolding plan_of
length-plan_of n k from = length-map-range_with_len (nth_verdict n k from) 1 200

pub nth_of_plan : (n k : ℕ) (from : Side) (i : ℕ) (d : Verdict) → i < 200
    → get_or (plan_of n k from) i d ≡ nth_verdict n k from (i + 1)
unfolding plan_of
nth_of_plan n k from i d few =
    get_or-map-range_with_len (nth_verdict n k from) 1 200 i (i + 1) d few (omega arith)
