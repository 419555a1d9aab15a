-- A link of a run is joined after six rounds, in each of which both sides tick once, whichever is
-- the first.
use Rattle.std.proofs.Common.{◌≡◌, ◌≤◌, ℕ, zero, suc, true, Option, Some, None, List, [], ◌∷◌}
use Rattle.std.proofs.Common.{sym, subst}
use Rattle.linx_base.specs.Sides.{other_of}
use Rattle.linx_base.specs.declared.frame.Verdict.TheVariants.{Deliver}
use Rattle.linx_base.specs.declared.identity.LinkNo.{LinkNo}
use Rattle.linx_base.specs.declared.identity.Side.{Side}
use Rattle.journal.specs.Shapes.{Shape}
use Rattle.journal.specs.declared.effect.Step.{Step}
use Rattle.journal.specs.declared.head.Head.TheVariants.{Tick, Wire}
use Rattle.link_laws.specs.Ends.{IsLinkOf}
use Rattle.carrier.specs.Events.{LinkState, is_quiet, ticked_at}
use Rattle.link_settling.specs.Runs.{IsEmpty, OnceEmpty, SettlesInRounds}
use Rattle.link_settling.proofs.Ticks.SixRounds.{links_settle_in_rounds}
use Rattle.trunk_moves.specs.Steps.{IsBoundedTrunkRun}
use Rattle.trunk_moves.specs.Trunks.{RunTrunks}
use Rattle.trunk_moves.proofs.Runs.{trunk_runs_are_runs}
use Rattle.run_settling.specs.Resting.{IsJoined, IsMadeAs, NoneFlies}
use Rattle.run_settling.specs.Rounds.{Rounds, begins, comes, ends, over}
use Rattle.run_settling.proofs.Going.{goes_on, still_bounded}
use Rattle.run_settling.proofs.Settling.{runs_settle, still_comes, ticked_is}

-- so many rounds are left, and of one under way the tick of this side
abbrev AreLeft : ℕ → Option Side → LinkState → Type 0
AreLeft n None v = SettlesInRounds n v
AreLeft n (Some side) v = OnceEmpty v (λ w. SettlesInRounds n (ticked_at side w))

left_begins : (n : ℕ) (side : Side) (v : LinkState) → IsEmpty v → AreLeft (suc n) None v
    → AreLeft n (Some (other_of side)) (ticked_at side v)
unfolding SettlesInRounds
left_begins n side v empty h = h [] tt empty side

left_ends : (n : ℕ) (side : Side) (v : LinkState) → IsEmpty v → AreLeft n (Some side) v
    → AreLeft n None (ticked_at side v)
left_ends n side v empty h = h [] tt empty

left_quiet : (v : LinkState) → IsEmpty v → AreLeft 0 None v → is_quiet v ≡ true
unfolding SettlesInRounds
left_quiet v empty h = h [] tt empty

module _ (shape : Shape) (l : LinkNo) (of_shape : IsLinkOf shape l) where
  record Within (n : ℕ) (left : Option Side) (P : List Step) (trunks : RunTrunks) : Type 0 where
    pub whole : IsBoundedTrunkRun shape P trunks
    pub rounds : AreLeft n left (trunks l.0).link

  module _ (P : List Step) (before : RunTrunks) (s : Step) (after : RunTrunks) where
    came_left : (n : ℕ) (left : Option Side) (from : Side) → IsBoundedTrunkRun shape P before
        → IsMadeAs shape P before s after (Wire l from Deliver)
        → AreLeft n left (before l.0).link → AreLeft n left (after l.0).link
    unfolding SettlesInRounds
    came_left zero None from whole made h =
        still_comes shape P before s after
        (goes_on shape P before s after (Wire l from Deliver) whole made) l from made.is
        (λ w. is_quiet w ≡ true) h
    came_left (suc n) None from whole made h =
        still_comes shape P before s after
        (goes_on shape P before s after (Wire l from Deliver) whole made) l from made.is
        (λ w. (side : Side) → OnceEmpty (ticked_at side w) (λ x.
        SettlesInRounds n (ticked_at (other_of side) x))) h
    came_left n (Some side) from whole made h =
        still_comes shape P before s after
        (goes_on shape P before s after (Wire l from Deliver) whole made) l from made.is
        (λ w. SettlesInRounds n (ticked_at side w)) h

    came_within : (n : ℕ) (left : Option Side) (from : Side) → Within n left P before
        → IsMadeAs shape P before s after (Wire l from Deliver) → Within n left (s ∷ P) after
    came_within n left from h made =
        record {
          whole = still_bounded shape P before s after (Wire l from Deliver) h.whole made;
          rounds = came_left n left from h.whole made h.rounds;
        }

    ticked_within : (n k : ℕ) (was is : Option Side) (side : Side) → Within n was P before
        → IsMadeAs shape P before s after (Tick l side)
        → AreLeft k is (ticked_at side (before l.0).link) → Within k is (s ∷ P) after
    ticked_within n k was is side h made left =
        record {
          whole = still_bounded shape P before s after (Tick l side) h.whole made;
          rounds =
              subst (λ (v : LinkState). AreLeft k is v)
              (sym (ticked_is shape P before s after
              (goes_on shape P before s after (Tick l side) h.whole made) l side made.is)) left;
        }

  module _ (Q : List Step) (last : RunTrunks) where
    reached : (n : ℕ) (left : Option Side) (P : List Step) (trunks : RunTrunks)
        → Rounds shape l Q last n left P trunks → Within n left P trunks → Within 0 None Q last
    reached n left P trunks settling =
        elim settling as (λ k side R now x. Within k side R now → Within 0 None Q last) [
          | over ↦ λ h. h
          | comes k side from R before s after made (rest → reaches) ↦ λ h.
              reaches (came_within R before s after k side from h made)
          | begins k side R before s after none made (rest → reaches) ↦ λ h.
              reaches (ticked_within R before s after (suc k) k None (Some (other_of side)) side h
              made (left_begins k side (before l.0).link none h.rounds))
          | ends k side R before s after none made (rest → reaches) ↦ λ h.
              reaches (ticked_within R before s after k k (Some side) None side h made
              (left_ends k side (before l.0).link none h.rounds))
        ]

    pub rests_in_rounds : (n : ℕ) (P : List Step) (trunks : RunTrunks)
        → Rounds shape l Q last n None P trunks → IsBoundedTrunkRun shape P trunks → 6 ≤ n
        → NoneFlies l last → IsJoined l last
    rests_in_rounds n P trunks settling whole enough none =
        let now = reached n None P trunks settling (record {
          whole = whole;
          rounds = links_settle_in_rounds n (trunks l.0).link enough
              ((trunk_runs_are_runs shape P trunks whole).kept l of_shape).link;
        }) in
        let quiet = left_quiet (last l.0).link none now.rounds in
        record {
          quiet = quiet;
          sides = runs_settle.joined shape Q last now.whole l of_shape quiet;
        }
