-- Where no link stirs, each rests and is still; so where all actors have ended too, all is over.
use Rattle.std.proofs.Common.{◌≡◌, ℕ, zero, suc, ◌<◌, ◌≤◌, Bool, true, false, not, ◌||◌, ◌&&◌, List}
use Rattle.std.proofs.Common.{length, is_some, Option, Some, None, inl, inr, refl, sym, subst}
use Rattle.std.proofs.Common.{arith, true≢false}
use Rattle.std.proofs.lemmas.Bool.{and_parts, cases_eq}
use Rattle.linx_base.specs.declared.identity.LinkNo.{LinkNo}
use Rattle.linx_base.specs.declared.identity.Session.{Session}
use Rattle.linx_base.specs.declared.identity.Side.TheVariants.{First, Second}
use Rattle.carrier.specs.Events.{is_quiet}
use Rattle.journal.specs.History.{has_ended}
use Rattle.journal.specs.Rest.{IsAtRest}
use Rattle.journal.specs.Shapes.{Shape}
use Rattle.journal.specs.declared.effect.Step.{Step}
use Rattle.link_laws.specs.Ends.{IsLinkOf}
use Rattle.link_laws.specs.Moves.{IsResting}
use Rattle.link_laws.specs.Sessions.{is_cut}
use Rattle.link_laws.specs.Still.{AllStill, IsOver}
use Rattle.link_laws.proofs.Runs.{promised_now}
use Rattle.run_trunks.specs.States.{trunks_of}
use Rattle.trunk.specs.Events.{TrunkState}
use Rattle.trunk.specs.Keeping.{KeepsTrunk}
use Rattle.trunk.proofs.EachEvent.Quiet.{quiet as quiet_trunk}
use Rattle.trunk_moves.specs.Steps.{Rests, cut, quiet}
use Rattle.trunk_moves.specs.Trunks.{RunTrunks, links_of, state_of}
use Rattle.trunk_moves.proofs.Runs.{trunk_runs_are_runs}
use Rattle.fabric.specs.Links.{flies_from, no_link_stirs, is_up_at, none_stirs, stirs, stirs_if}
use Rattle.fabric.specs.Machine.{all_have_ended, have_ended, is_at_rest}
use Rattle.fabric.specs.Remains.{IsKept, Parts}
use Rattle.fabric.specs.Run.{Layout}
use Rattle.fabric.proofs.Methods.Legal.{rest-others}
use Rattle.fabric.proofs.Methods.Runs.{keeps-all, whole-run}

-- of several, each
none-at : (P : List Step) (trunks : RunTrunks) (n k : ℕ) → none_stirs P trunks n ≡ true → 0 < k
    → k ≤ n → not (stirs P trunks k) ≡ true
none-at P trunks zero k none above within = absurd (omega arith)
none-at P trunks (suc n) k none above within =
    let parts = and_parts (none_stirs P trunks n) (not (stirs P trunks (suc n))) none in
    elim (cases_eq k (suc n)) [
      | inl e ↦ subst (λ (m : ℕ). not (stirs P trunks m) ≡ true) (sym e) parts.1
      | inr other ↦ none-at P trunks n k parts.0 above (omega (arith, other))
    ]

neither : (a b : Bool) → (a || b) ≡ false → (a ≡ false) × (b ≡ false)
neither true b is = absurd (true≢false is)
neither false b is = (refl, is)

nobody : (p : Option Session) → is_some p ≡ false → p ≡ None
nobody None is = refl
nobody (Some x) is = absurd (true≢false is)

denied : (b : Bool) → not b ≡ true → b ≡ false
denied true is = absurd (true≢false (sym is))
denied false is = refl

module _ (P : List Step) (l : LinkNo) (t : TrunkState) where
  rests-if : (c : Bool) → is_cut P l.0 ≡ c → stirs_if c t ≡ false → Rests P l t
  rests-if true is none =
      let ups = (neither (flies_from First t || flies_from Second t)
      (is_up_at First t || is_up_at Second t) none).1 in
      let each = neither (is_up_at First t) (is_up_at Second t) ups in
      cut is (nobody t.first.kept.now.peer each.0) (nobody t.second.kept.now.peer each.1)
  rests-if false is none = quiet is (affirmed (is_quiet t.link) none)
    where
      affirmed : (b : Bool) → not b ≡ false → b ≡ true
      affirmed true is = refl
      affirmed false is = absurd (true≢false is)

pub rests-all : (shape : Shape) (P : List Step) (trunks : RunTrunks)
    → no_link_stirs shape P trunks ≡ true → (l : LinkNo) → IsLinkOf shape l → Rests P l (trunks l.0)
rests-all shape P trunks still l of_shape =
    rests-if P l (trunks l.0) (is_cut P l.0) refl
    (denied (stirs P trunks l.0)
    (none-at P trunks (length shape.links) l.0 still of_shape.0 of_shape.1))

-- ---- what that says of the journal

-- a trunk's link that rests does so by its sides
sides-rest : (P : List Step) (l : LinkNo) (t : TrunkState) → KeepsTrunk t → Rests P l t
    → IsResting P l (state_of First t) (state_of Second t)
sides-rest P l t kept (Rests.cut is first second) = IsResting.cut is first second
sides-rest P l t kept (Rests.quiet is still) = IsResting.quiet is (quiet_trunk t kept still)

-- where all of so many have ended, each has
pub ended-each : (P : List Step) (n k : ℕ) → have_ended P n ≡ true → 0 < k → k ≤ n
    → has_ended P k ≡ true
ended-each P zero k ended above within = absurd (omega arith)
ended-each P (suc n) k ended above within =
    let parts = and_parts (have_ended P n) (has_ended P (suc n)) ended in
    elim (cases_eq k (suc n)) [
      | inl e ↦ subst (λ (m : ℕ). has_ended P m ≡ true) (sym e) parts.1
      | inr other ↦ ended-each P n k parts.0 above (omega (arith, other))
    ]

module _ (f : Layout) (parts : Parts) (kept : IsKept f parts) where
  -- NO LINK STIRS: each is still
  pub all-still : no_link_stirs f.shape f.log.steps (trunks_of f.trunks) ≡ true
      → AllStill f.shape f.log.steps
  all-still still =
      let trunks : RunTrunks = trunks_of f.trunks in
      let carried = trunk_runs_are_runs f.shape f.log.steps trunks (whole-run f parts kept) in
      let promised = promised_now f.shape f.log.steps (links_of trunks)
      (keeps-all f parts kept).promises in
      λ l of_shape. promised.still l of_shape
      (sides-rest f.log.steps l (trunks l.0) (carried.kept l of_shape)
      (rests-all f.shape f.log.steps trunks still l of_shape))

  -- AND ALL HAVE ENDED: all is over
  pub all-over : (all_have_ended f.shape f.log.steps
      && no_link_stirs f.shape f.log.steps (trunks_of f.trunks)) ≡ true
      → IsOver f.shape f.log.steps
  all-over over =
      let parts_of = and_parts (all_have_ended f.shape f.log.steps)
      (no_link_stirs f.shape f.log.steps (trunks_of f.trunks)) over in
      record {
        ended = λ k above within.
            ended-each f.log.steps (length f.shape.actors) k parts_of.0 above within;
        still = all-still parts_of.1;
      }

  -- AND THE OTHERS LEAVE AN ACTOR AT REST: it is at rest
  pub at-rest : (k : ℕ) → (is_at_rest f.shape f.log.steps k
      && no_link_stirs f.shape f.log.steps (trunks_of f.trunks)) ≡ true
      → IsAtRest f.shape f.log.steps k × AllStill f.shape f.log.steps
  at-rest k rest =
      let parts_of = and_parts (is_at_rest f.shape f.log.steps k)
      (no_link_stirs f.shape f.log.steps (trunks_of f.trunks)) rest in (
        record {
          others = λ other above within different.
              rest-others f.log.steps k (length f.shape.actors) other parts_of.0 above within
              different;
        },
        all-still parts_of.1,
      )
