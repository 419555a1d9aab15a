-- The steps behind the first ones, and one step more.
use Rattle.std.proofs.Common.{◌≡◌, ℕ, ◌-◌, ◌≤◌, ◌<◌, ◌⊎◌, inl, inr, true, false, nat_le}
use Rattle.std.proofs.Common.{List, [], ◌∷◌, length, refl, arith, le-leb}
use Rattle.std.proofs.lemmas.Bool.Decides.{leb_tells}
use Rattle.std.proofs.lemmas.List.{length-drop}
use Rattle.journal.specs.declared.effect.Step.{Step}
use Rattle.journal.specs.Histories.{first_steps}
use Rattle.chart_map.specs.declared.strips.Strip.{Strip}
use Rattle.chart_map.specs.declared.tally.Tally.{Tally}
use Rattle.chart_map.specs.Grid.{behind_first}
use Rattle.chart_map.specs.Tallies.{no_tally, with_step, tally_of}

-- none are behind all of them
none_behind : (from : ℕ) (P : List Step) → length P ≤ from → behind_first from P ≡ []
none_behind from [] few = refl
none_behind from (s ∷ P) few = go (leb_tells from (length P))
  where
    go : ((nat_le from (length P) ≡ true) × (from ≤ length P))
        ⊎ ((nat_le from (length P) ≡ false) × (length P < from))
        → behind_first from (s ∷ P) ≡ []
    go (inl least) = absurd (omega (arith, few, least.1))
    go (inr more) = rw more.0 refl

few_first : (count : ℕ) (S : List Step) → length (first_steps count S) ≤ count
few_first count S = rw (length-drop (length S - count) S) (omega arith)

-- no step is counted at first
pub none_counted : (strip : Strip) (from : ℕ) (S : List Step)
    → no_tally ≡ tally_of strip (behind_first from (first_steps from S))
none_counted strip from S = rw (none_behind from (first_steps from S) (few_first from S)) refl

-- one more is counted
pub one_counted : (strip : Strip) (from done : ℕ) (s : Step) (F G : List Step) (tally made : Tally)
    → from ≤ done → G ≡ s ∷ F → length F ≡ done
    → tally ≡ tally_of strip (behind_first from F) → made ≡ with_step strip s tally
    → made ≡ tally_of strip (behind_first from G)
one_counted strip from done s F G tally made le grown count known is =
    rw grown (rw (le-leb from (length F) (rw count le)) (rw is (rw known refl)))
