-- A range is tallied where its front is, and what is behind it.
use Rattle.std.proofs.Common.{◌≡◌, ◌+◌, ◌-◌, ◌<◌, ◌≤◌, ◌^◌, ℕ, true, List, Result, Ok, Err, is_err}
use Rattle.std.proofs.Common.{arith, subst, sym}
use Rattle.order_lines.specs.Faults.{IsBadOf}
use Rattle.order_lines.specs.Fronts.{ordered_of}
use Rattle.outcome_tally.specs.Tallies.{joined}
use Rattle.outcome_tally.specs.TallyParts.{TallyParts}
use Rattle.script_lang.specs.declared.script_error.ScriptError.{ScriptError}
use Rattle.seed_report.specs.Reports.{IsTallied}
use Rattle.seed_report.proofs.Tallies.{both_tallied, few_tallied}
use Rattle.seed_threads.specs.Tallies.{HaveRoom, IsOfBoth, Tallies}

module _ (bytes : List ℕ) (actors first half more : ℕ) (within : half < more) where
  whole : (tally later : TallyParts)
      → IsTallied bytes actors first (first + half + 1) tally
      → IsTallied bytes actors (first + half + 1) (first + half + 1 + (more - half - 1) + 1) later
      → IsTallied bytes actors first (first + more + 1) (joined tally later)
  whole tally later one two =
      let same : first + half + 1 + (more - half - 1) + 1 ≡ first + more + 1 =
      omega (arith, within) in
      subst (λ (n : ℕ). IsTallied bytes actors first n (joined tally later)) same
      (both_tallied bytes actors first (first + half + 1) (first + half + 1 + (more - half - 1) + 1)
      tally later one two)

  -- there is room for both
  pub have_room : first + more < 2 ^ 32 → (front behind : Result TallyParts ScriptError)
      → Tallies bytes actors first half front
      → Tallies bytes actors (first + half + 1) (more - half - 1) behind → HaveRoom front behind
  have_room few (Ok tally) (Ok later) one two =
      few_tallied bytes actors first (first + more + 1) (joined tally later) (omega (arith, few))
      (whole tally later one two)
  have_room few (Ok tally) (Err error) one two = tt
  have_room few (Err error) behind one two = tt

  missing : (error : ScriptError) (result : Result TallyParts ScriptError) → result ≡ Err error
      → IsBadOf (ordered_of bytes) error → Tallies bytes actors first more result
  missing error result is bad =
      subst (λ (r : Result TallyParts ScriptError). Tallies bytes actors first more r) (sym is) bad

  -- the two together
  pub of_both : (front behind result : Result TallyParts ScriptError)
      → Tallies bytes actors first half front
      → Tallies bytes actors (first + half + 1) (more - half - 1) behind
      → IsOfBoth front behind result → Tallies bytes actors first more result
  of_both (Ok tally) (Ok later) (Ok all) one two is =
      subst (λ (t : TallyParts). IsTallied bytes actors first (first + more + 1) t) (sym is)
      (whole tally later one two)
  of_both (Ok tally) (Ok later) (Err error) one two is =
      subst (λ (e : ScriptError). IsBadOf (ordered_of bytes) e) (sym is) tt
  of_both (Ok tally) (Err error) result one two is = missing error result is two
  of_both (Err error) behind result one two is = missing error result is one

-- a front of a range, and a wave behind it
module _ (bytes : List ℕ) (actors first done wave : ℕ) where
  within : done < done + wave + 1
  within = omega arith

  apart : (behind : Result TallyParts ScriptError)
      → Tallies bytes actors (first + done + 1) wave behind
      → Tallies bytes actors (first + done + 1) (done + wave + 1 - done - 1) behind
  apart behind two =
      let same : wave ≡ done + wave + 1 - done - 1 = omega arith in
      subst (λ (n : ℕ). Tallies bytes actors (first + done + 1) n behind) same two

  -- there is room for both
  pub have_room_for_wave : first + (done + wave + 1) < 2 ^ 32
      → (front behind : Result TallyParts ScriptError) → Tallies bytes actors first done front
      → Tallies bytes actors (first + done + 1) wave behind → HaveRoom front behind
  have_room_for_wave few front behind one two =
      have_room bytes actors first done (done + wave + 1) within few front behind one
      (apart behind two)

  -- the two together
  pub with_wave_tallied : (front behind result : Result TallyParts ScriptError)
      → Tallies bytes actors first done front
      → Tallies bytes actors (first + done + 1) wave behind → IsOfBoth front behind result
      → Tallies bytes actors first (done + wave + 1) result
  with_wave_tallied front behind result one two is =
      of_both bytes actors first done (done + wave + 1) within front behind result one
      (apart behind two) is

-- a front, and the whole range
module _ (bytes : List ℕ) (actors first done more : ℕ) (result : Result TallyParts ScriptError) where
  -- the front is all of it
  pub all_tallied : done ≤ more → more ≤ done → Tallies bytes actors first done result
      → Tallies bytes actors first more result
  all_tallied within reached is =
      let same : done ≡ more = omega arith in
      subst (λ (n : ℕ). Tallies bytes actors first n result) same is

-- where there is no tally of the front, there is none of the whole, for the same reason
pub none_tallied : (bytes : List ℕ) (actors first done more : ℕ)
    (result : Result TallyParts ScriptError) → is_err result ≡ true
    → Tallies bytes actors first done result → Tallies bytes actors first more result
none_tallied bytes actors first done more (Ok tally) fails is = cc
none_tallied bytes actors first done more (Err error) fails is = is
