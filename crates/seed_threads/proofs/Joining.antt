-- A range is searched where its front is, and what is behind it.
use Rattle.std.proofs.Common.{◌≡◌, ℕ, ◌+◌, ◌-◌, ◌<◌, ◌≤◌, ◌⊎◌, inl, inr, List, Option, Some, None, Result}
use Rattle.std.proofs.Common.{Ok, Err, arith}
use Rattle.std.proofs.lemmas.Bool.{cases_lt}
use Rattle.line_search.specs.declared.sought.Sought.{Sought}
use Rattle.seed_runs.specs.declared.runs.RunStop.{RunStop}
use Rattle.seed_search.specs.Searches.{IsAmong, IsFirst, IsShown, IsStop, ShowNothing}
use Rattle.seed_search.specs.declared.search.Found.{Found}
use Rattle.seed_threads.specs.Answers.{Finds, front_or_behind}

module _ (bytes : List ℕ) (sought : Sought) (wanted : List (List ℕ)) where
  -- nothing is shown before a seed and from it on
  pub nothing_in_both : (first middle behind : ℕ) → ShowNothing bytes sought wanted first middle
      → ShowNothing bytes sought wanted middle behind → ShowNothing bytes sought wanted first behind
  nothing_in_both first middle behind front rest seed from to = by_place (cases_lt seed middle)
    where
      by_place : (seed < middle) ⊎ (middle ≤ seed) → IsShown bytes sought wanted seed None
      by_place (inl before) = front seed from before
      by_place (inr at) = rest seed at to

  -- nothing is shown in a range with none
  pub nothing_yet : (first : ℕ) → ShowNothing bytes sought wanted first first
  nothing_yet first seed from to = absurd (omega (arith, from, to))

  module _ (first more from left : ℕ) (low : first ≤ from) (same : from + left ≡ first + more)
      (front : ShowNothing bytes sought wanted first from) where
    among : (seed : ℕ) → IsAmong from left seed → IsAmong first more seed
    among seed is = record {
      from = let at = is.from in omega (arith, at, low);
      to = let at = is.to in omega (arith, at, same);
    }

    -- what is found behind a front in which nothing is, is what is found in the whole
    pub found_behind : (result : Result (Option Found) RunStop)
        → Finds bytes from left sought wanted result
        → Finds bytes first more sought wanted result
    found_behind (Ok (Some found)) finds = record {
      among = among found.seed finds.among;
      shown = finds.shown;
      before = nothing_in_both first from found.seed front finds.before;
    }
    found_behind (Ok None) finds =
        nothing_in_both first from (first + more + 1) front
        (λ seed at to. finds seed at (omega (arith, to, same)))
    found_behind (Err stop) finds = record {
      seed = finds.seed;
      among = among finds.seed finds.among;
      before = nothing_in_both first from finds.seed front finds.before;
      stopped = finds.stopped;
    }

  -- what is found in a front is what is found in the whole
  module _ (first some more : ℕ) (within : some ≤ more) where
    wider : (seed : ℕ) → IsAmong first some seed → IsAmong first more seed
    wider seed is = record { from = is.from; to = let at = is.to in omega (arith, at, within) }

    pub found_in_front : (found : Found) → Finds bytes first some sought wanted (Ok (Some found))
        → Finds bytes first more sought wanted (Ok (Some found))
    found_in_front found finds = record {
      among = wider found.seed finds.among;
      shown = finds.shown;
      before = finds.before;
    }

    pub stopped_in_front : (stop : RunStop) → Finds bytes first some sought wanted (Err stop)
        → Finds bytes first more sought wanted (Err stop)
    stopped_in_front stop finds = record {
      seed = finds.seed;
      among = wider finds.seed finds.among;
      before = finds.before;
      stopped = finds.stopped;
    }

  -- what is found in a wave behind a front in which nothing is
  module _ (first more from left wave : ℕ) (low : first ≤ from) (same : from + left ≡ first + more)
      (within : wave ≤ left) (front : ShowNothing bytes sought wanted first from) where
    pub found_at : (found : Found) → Finds bytes from wave sought wanted (Ok (Some found))
        → Finds bytes first more sought wanted (Ok (Some found))
    found_at found finds = found_behind first more from left low same front (Ok (Some found))
        (found_in_front from wave left within found finds)

    pub stopped_at : (stop : RunStop) → Finds bytes from wave sought wanted (Err stop)
        → Finds bytes first more sought wanted (Err stop)
    stopped_at stop finds = found_behind first more from left low same front (Err stop)
        (stopped_in_front from wave left within stop finds)

  -- the two together
  pub in_both : (first half more : ℕ) → half < more → (front behind : Result (Option Found) RunStop)
      → Finds bytes first half sought wanted front
      → Finds bytes (first + half + 1) (more - half - 1) sought wanted behind
      → Finds bytes first more sought wanted (front_or_behind front behind)
  in_both first half more within (Ok (Some found)) behind one two =
      found_in_front first half more (omega (arith, within)) found one
  in_both first half more within (Err stop) behind one two =
      stopped_in_front first half more (omega (arith, within)) stop one
  in_both first half more within (Ok None) behind one two =
      found_behind first more (first + half + 1) (more - half - 1) (omega arith)
      (omega (arith, within)) one behind two
