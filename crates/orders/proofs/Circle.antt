-- Who comes next in a circle: the first one that is ready behind the last, or else the first one.
use Rattle.std.proofs.Common.{◌≡◌, ℕ, zero, suc, ◌<◌, ◌≤◌, Bool, true, false, List, [], ◌∷◌, ◌++◌}
use Rattle.std.proofs.Common.{length, refl, sym, ◌∙◌, ap, subst, inl, inr, arith, nat_lt}
use Rattle.std.proofs.Common.{if◌then◌else◌, eq-eqb, lt-ltb, ltb-true, true≢false}
use Rattle.std.proofs.lemmas.Bool.{cases_order}
use Rattle.script_lang.specs.Parts.{ScriptParts}
use Rattle.fabric.specs.Run.{Layout}
use Rattle.stage.specs.Ready.{is_ready}
use Rattle.stage.specs.Turns.{makers}
use Rattle.order_rules.specs.Rules.{behind, first_of, is_among, next_round}
use Rattle.orders.specs.Makers.{IsReadyMaker, ready, ready_among}
use Rattle.orders.proofs.Ready.{among-some, ready-there, there-ready}

-- one more at the end is what is left where none of the others is behind the last
behind-last : (last first n : ℕ) (some : List ℕ)
    → behind last first (some ++ n ∷ []) ≡ behind last (if nat_lt last n then n else first) some
behind-last last first n [] = refl
behind-last last first n (m ∷ rest) =
    ap (λ (x : ℕ). if nat_lt last m then m else x) (behind-last last first n rest)

-- the first of some makers is behind none
behind-none : (some : List ℕ) → ((m : ℕ) → is_among m some ≡ true → 0 < m) → 0 < length some
    → behind 0 0 some ≡ first_of some
behind-none [] above less = absurd (omega (arith, less))
behind-none (m ∷ rest) above less =
    rw (lt-ltb 0 m (above m (rw (eq-eqb m m refl) refl))) refl

-- none is ready behind this number and before that one
abbrev pub NoneReady : ScriptParts → Layout → ℕ → ℕ → Type 0
NoneReady script f last next = (k : ℕ) → last < k → k < next → is_ready script f k ≡ false

-- the first one that is ready behind the last, of the first so many; or else this one
data IsFirstBehind (script : ScriptParts) (f : Layout) (last n first found : ℕ) : Type 0 where
  there : last < found → found ≤ n → NoneReady script f last found
      → IsFirstBehind script f last n first found
  none : NoneReady script f last (suc n) → found ≡ first
      → IsFirstBehind script f last n first found

-- WHO COMES NEXT: one behind the last, or one of the next round
pub data IsNextRound (script : ScriptParts) (f : Layout) (last next : ℕ) : Type 0 where
  goes_on : last < next → NoneReady script f last next → IsNextRound script f last next
  begins : NoneReady script f last (suc (makers script)) → NoneReady script f 0 next
      → IsNextRound script f last next

module _ (script : ScriptParts) (f : Layout) where
  wider : (n last first found : ℕ) → is_ready script f (suc n) ≡ false
      → IsFirstBehind script f last n first found → IsFirstBehind script f last (suc n) first found
  wider n last first found unready (there less within before) =
      there less (omega (arith, within)) before
  wider n last first found unready (none before same) =
      none (λ k above below. elim (cases_order k (suc n)) [
        | inl is ↦ subst (λ (x : ℕ). is_ready script f x ≡ false) (sym is) unready
        | inr (inl less) ↦ before k above less
        | inr (inr more) ↦ absurd (omega (arith, more, below))
      ]) same

  with-last : (b : Bool) (n last first found : ℕ) → nat_lt last (suc n) ≡ b
      → IsFirstBehind script f last n (if b then suc n else first) found
      → IsFirstBehind script f last (suc n) first found
  with-last b n last first found is (there less within before) =
      there less (omega (arith, within)) before
  with-last true n last first found is (none before same) =
      subst (IsFirstBehind script f last (suc n) first) (sym same)
      (there (ltb-true last (suc n) is) (omega arith) before)
  with-last false n last first found is (none before same) =
      none (λ k above below.
      absurd (true≢false (sym (lt-ltb last (suc n) (omega (arith, above, below))) ∙ is))) same

  first-if : (b : Bool) (n last first : ℕ) → is_ready script f (suc n) ≡ b
      → ((other : ℕ) → IsFirstBehind script f last n other (behind last other (ready_among script f n)))
      → IsFirstBehind script f last (suc n) first (behind last first (if b
      then ready_among script f n ++ suc n ∷ []
      else ready_among script f n))
  first-if true n last first is before =
      subst (IsFirstBehind script f last (suc n) first)
      (sym (behind-last last first (suc n) (ready_among script f n)))
      (with-last (nat_lt last (suc n)) n last first
      (behind last (if nat_lt last (suc n) then suc n else first) (ready_among script f n)) refl
      (before (if nat_lt last (suc n) then suc n else first)))
  first-if false n last first is before =
      wider n last first (behind last first (ready_among script f n)) is (before first)

  first-behind : (n last first : ℕ)
      → IsFirstBehind script f last n first (behind last first (ready_among script f n))
  first-behind zero last first = none (λ k above below. absurd (omega (arith, above, below))) refl
  first-behind (suc n) last first =
      first-if (is_ready script f (suc n)) n last first refl
      (λ other. first-behind n last other)

  -- before the first one of all none is ready
  first-of_all : 0 < length (ready script f) → NoneReady script f 0 (first_of (ready script f))
  first-of_all less =
      let some : List ℕ = ready script f in
      let same : behind 0 0 some ≡ first_of some =
      behind-none some (λ m is. (there-ready script f m is).above) less in
      go (behind 0 0 some) same (first-behind (makers script) 0 0)
    where
      go : (found : ℕ) → found ≡ first_of (ready script f)
          → IsFirstBehind script f 0 (makers script) 0 found → NoneReady script f 0 (first_of (ready script f))
      go found same (there above within before) = subst (NoneReady script f 0) same before
      go found same (none before is) = λ k above below. absurd (omega (arith, same, is, below))

  pub next-round : (last : ℕ) → IsReadyMaker script f (next_round last (ready script f))
      → IsNextRound script f last (next_round last (ready script f))
  next-round last it =
      let next : ℕ = next_round last (ready script f) in
      let some : 0 < length (ready script f) =
      among-some (ready script f) next (ready-there script f next it) in
      go next some (first-behind (makers script) last (first_of (ready script f)))
    where
      go : (next : ℕ) → 0 < length (ready script f)
          → IsFirstBehind script f last (makers script) (first_of (ready script f)) next
          → IsNextRound script f last next
      go next some (there less within before) = goes_on less before
      go next some (none before same) =
          begins before (subst (NoneReady script f 0) (sym same) (first-of_all some))
