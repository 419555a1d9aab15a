-- A tally of runs, and one run more.
use Rattle.std.proofs.Common.{◌≡◌, ◌∙◌, ◌<◌, ◌+◌, ◌^◌, ℕ, List, [], ◌∷◌, ◌++◌, Option, arith, ap, ap₂}
use Rattle.std.proofs.Common.{length, length-append, subst, sym}
use Rattle.run_outcomes.specs.SeenParts.{SeenParts}
use Rattle.outcome_tally.specs.Few.{IsFew}
use Rattle.outcome_tally.specs.Report.{report_text}
use Rattle.outcome_tally.specs.Tallies.{Ran, joined, no_runs, tally_of, with_came}
use Rattle.outcome_tally.specs.TallyParts.{TallyParts}
use Rattle.outcome_tally.proofs.Joined.{tally_joined}
use Rattle.outcome_tally.proofs.Within.{few_of}
use Rattle.seed_report.specs.Reports.{AreRans, HasActors, IsReport, IsSeen, IsTallied}

-- before the first run
pub none_tallied : (bytes : List ℕ) (actors first from : ℕ) (tally : TallyParts) → from ≡ first
    → tally ≡ no_runs → IsTallied bytes actors first from tally
none_tallied bytes actors first from tally same none =
    record { rans = []; are = tt; far = omega (arith, same); tallied = none }

-- there is room for one more
pub few_tallied : (bytes : List ℕ) (actors first behind : ℕ) (tally : TallyParts)
    → behind < 2 ^ 63 → IsTallied bytes actors first behind tally → IsFew tally
few_tallied bytes actors first behind tally few is =
    subst IsFew (sym is.tallied) (few_of is.rans (omega (arith, is.far)))

-- one run more
pub more_tallied : (bytes : List ℕ) (actors first seed : ℕ) (before tally : TallyParts)
    (seen : Option SeenParts) → IsTallied bytes actors first seed before
    → IsSeen bytes actors seed seen → tally ≡ with_came before seed seen
    → IsTallied bytes actors first (seed + 1) tally
more_tallied bytes actors first seed before tally seen is sees added = record {
  rans = record { seed = seed; seen = seen } ∷ is.rans;
  are = (record { seed = sym is.far; seen = sees }, is.are);
  far = omega (arith, is.far);
  tallied = added ∙ ap (λ (t : TallyParts). with_came t seed seen) is.tallied;
}

-- the text of the tally of all of them
pub reported : (bytes : List ℕ) (actors first more : ℕ) (tally : TallyParts) (text : List ℕ)
    → HasActors bytes actors → IsTallied bytes actors first (first + more + 1) tally
    → text ≡ report_text actors tally → IsReport bytes first more text
reported bytes actors first more tally text has is told =
    record { actors = actors; has_actors = has; tally = tally; tallied = is; told = told }

-- ---- two ranges

-- the runs of both, the later ones in front
both_rans : (bytes : List ℕ) (actors first middle : ℕ) (later earlier : List Ran)
    → first + length earlier ≡ middle → AreRans bytes actors first earlier
    → AreRans bytes actors middle later → AreRans bytes actors first (later ++ earlier)
both_rans bytes actors first middle [] earlier far are also = are
both_rans bytes actors first middle (r ∷ later) earlier far are also = (
  record {
    seed = omega (arith, length-append later earlier, also.0.seed, far);
    seen = also.0.seen;
  },
  both_rans bytes actors first middle later earlier far are also.1,
)

-- THE TALLY OF A RANGE is that of its front, joined with that of what is behind it
pub both_tallied : (bytes : List ℕ) (actors first middle behind : ℕ) (tally later : TallyParts)
    → IsTallied bytes actors first middle tally → IsTallied bytes actors middle behind later
    → IsTallied bytes actors first behind (joined tally later)
both_tallied bytes actors first middle behind tally later is also = record {
  rans = also.rans ++ is.rans;
  are = both_rans bytes actors first middle also.rans is.rans is.far is.are also.are;
  far = omega (arith, length-append also.rans is.rans, is.far, also.far);
  tallied = ap₂ joined is.tallied also.tallied ∙ sym (tally_joined is.rans also.rans);
}
