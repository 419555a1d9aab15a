-- The peers that an end has met are those that are live by what it has heard.
use Rattle.std.proofs.Common.{◌≡◌, ℕ, true, false, not, List, [], ◌∷◌, Some, None, inl, inr, refl}
use Rattle.std.proofs.Common.{sym, ◌∙◌, ap, subst, ◌==◌, is_some, eq-eqb, true≢false}
use Rattle.std.proofs.lemmas.Bool.{and_parts, false_from_ne_true, or_cases, or_left, or_right}
use Rattle.std.proofs.lemmas.Bool.Decides.{eqb_tells}
use Rattle.std.proofs.lemmas.Option.{none-some, same_Some}
use Rattle.linx_base.specs.Peers.{same_inc}
use Rattle.linx_base.specs.declared.identity.Inc.{Inc}
use Rattle.trunk_record.specs.Sayings.{Said, is_live, published, unpublished}
use Rattle.trunk_record.proofs.Sayings.{same_inc-is, same_inc-itself}
use Rattle.rlnh_end.specs.declared.met_at.MetAt.{MetAt}
use Rattle.rlnh_end.specs.States.{addr_met, inc_met, with_met, without_met}
use Rattle.rlnh_laws.specs.Ties.{AreApart}
use Rattle.rlnh_laws.proofs.Meeting.{met_both, option_cases, with_here, with_other, without_here}
use Rattle.rlnh_laws.proofs.Meeting.{without_other}
use Rattle.trunk.specs.Talks.{MeetsLive}

-- who was met at an address was met there alone
pub met_once : (met : List MetAt) (a : ℕ) (i : Inc) → AreApart met → inc_met met a ≡ Some i
    → addr_met met i ≡ Some a
met_once [] a i apart e = absurd (none-some i e)
met_once (m ∷ met) a i apart e =
    elim (eqb_tells a m.addr) [
      | inl here ↦
          let first : inc_met (m ∷ met) a ≡ Some m.inc = rw here.0 refl in
          let is : m.inc ≡ i = same_Some m.inc i (sym first ∙ e) in
          let hit : (i.0 == m.inc.0) ≡ true = eq-eqb i.0 m.inc.0 (ap (λ k. k.0) (sym is)) in
          rw hit (ap Some (sym here.1))
      | inr away ↦
          let later : inc_met (m ∷ met) a ≡ inc_met met a = rw away.0 refl in
          let rest : addr_met met i ≡ Some a = met_once met a i apart.2 (sym later ∙ e) in
          elim (eqb_tells i.0 m.inc.0) [
            | inl same ↦
                let is : i ≡ m.inc =
                ap (λ (n : ℕ). let w : Inc = record { 0 = n } in w) same.1 in
                absurd (none-some a (sym apart.1
                ∙ subst (λ (k : Inc). addr_met met k ≡ Some a) is rest))
            | inr other ↦ rw other.0 rest
          ]
    ]

pub meets_none : MeetsLive [] []
meets_none =
    record {
      lives = λ a i e. absurd (none-some i e);
      found = λ i e. absurd (true≢false (sym e));
    }

-- an incarnation is published, and met
pub meets_more : (met : List MetAt) (heard : List Said) (a : ℕ) (i : Inc) (v : List ℕ)
    → MeetsLive met heard → inc_met met a ≡ None
    → MeetsLive (with_met met a i) (published i v ∷ heard)
meets_more met heard a i v m free =
    record {
      lives = λ b j e. elim (eqb_tells b a) [
        | inl here ↦
            let at : inc_met (with_met met a i) a ≡ Some j =
            subst (λ k. inc_met (with_met met a i) k ≡ Some j) here.1 e in
            let is : i ≡ j = same_Some i j (sym (with_here met a i free) ∙ at) in
            or_left (same_inc j i) (is_live j heard)
            (subst (λ (k : Inc). same_inc j k ≡ true) (sym is) (same_inc-itself j))
        | inr away ↦
            or_right (same_inc j i) (is_live j heard) (m.lives b j
            (with_other met a i b (λ q. away.1 (sym q)) ∙ e))
      ];
      found = λ j e. elim (or_cases (same_inc j i) (is_live j heard) e) [
        | inl same ↦
            (a, with_here met a i free ∙ ap Some (sym (same_inc-is j i same)))
        | inr was ↦
            let old = m.found j was in (
              old.0,
              sym (with_other met a i old.0
                  (λ q. none-some j (sym free ∙ ap (inc_met met) q ∙ old.1))) ∙ old.1,
            )
      ];
    }

-- an incarnation is unpublished, and forgotten
pub meets_less : (met : List MetAt) (heard : List Said) (a : ℕ) (i : Inc) → MeetsLive met heard
    → AreApart met → inc_met met a ≡ Some i
    → MeetsLive (without_met met a) (unpublished i ∷ heard)
meets_less met heard a i m apart at =
    record {
      lives = λ b j e. elim (eqb_tells b a) [
        | inl here ↦
            let gone : inc_met (without_met met a) b ≡ None =
            ap (inc_met (without_met met a)) here.1 ∙ without_here met a apart in
            absurd (none-some j (sym gone ∙ e))
        | inr away ↦
            let was : inc_met met b ≡ Some j =
            without_other met a b (λ q. away.1 (sym q)) ∙ e in
            let other : same_inc j i ≡ false = false_from_ne_true (same_inc j i) (λ same.
            let is : j ≡ i = same_inc-is j i same in
            away.1 (same_Some b a (sym (met_once met b j apart was)
            ∙ ap (addr_met met) is ∙ met_once met a i apart at))) in
            rw other (m.lives b j was)
      ];
      found = λ j e.
          let both = and_parts (not (same_inc j i)) (is_live j heard) e in
          let old = m.found j both.1 in (
            old.0,
            sym (without_other met a old.0 (λ q.
                let is : i ≡ j = same_Some i j (sym at ∙ ap (inc_met met) q ∙ old.1) in
                let same : same_inc j i ≡ true =
                subst (λ (k : Inc). same_inc j k ≡ true) (sym is) (same_inc-itself j) in
                true≢false (sym both.0 ∙ ap not same))) ∙ old.1,
          );
    }

-- so an incarnation is met where it is live
pub is_met : (met : List MetAt) (heard : List Said) (i : Inc) → AreApart met
    → MeetsLive met heard → is_some (addr_met met i) ≡ is_live i heard
is_met met heard i apart m = elim (option_cases (addr_met met i)) [
  | inr some ↦
      ap is_some some.1 ∙ sym (m.lives some.0 i (met_both met i some.0 apart some.1))
  | inl none ↦
      ap is_some none ∙ sym (false_from_ne_true (is_live i heard) (λ live.
      let at = m.found i live in
      none-some at.0 (sym none ∙ met_once met at.0 i apart at.1)))
]
