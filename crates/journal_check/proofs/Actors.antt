-- Who makes a step, with which endpoint: the law is what the tables tell.
use Rattle.std.proofs.Common.{◌≡◌, ℕ, zero, suc, ◌<◌, ◌≤◌, true, not, ◌&&◌, List, length, Option}
use Rattle.std.proofs.Common.{Some, None, refl, sym, ◌∙◌, ap, arith, nat_le, nat_lt, slice_get}
use Rattle.std.proofs.Common.{le-leb, leb-true, lt-ltb, ltb-true, true≢false}
use Rattle.std.proofs.lemmas.Bool.{and_parts, not-true}
use Rattle.linx_base.specs.declared.identity.LinkNo.{LinkNo}
use Rattle.journal.specs.declared.by.By.{By}
use Rattle.journal.specs.declared.by.By.TheVariants.{Actor, Pump}
use Rattle.journal.specs.declared.effect.Step.{Step}
use Rattle.journal.specs.declared.head.Head.{Head}
use Rattle.journal.specs.declared.head.Head.TheVariants as heads
use Rattle.journal.specs.History.{endpoint_by, has_ended}
use Rattle.journal.specs.Laws.{KeepsMakers}
use Rattle.journal.specs.Laws.{may_make}
use Rattle.journal_check.specs.Brought.{side_reached}
use Rattle.journal_check.specs.Standings.{standing_left, standing_of}
use Rattle.journal_check.specs.Tables.{AreLeft, Known, endpoint_in}
use Rattle.journal_check.specs.Tables.{endpoint_of_maker, is_made_by_maker, makes_steps}
use Rattle.journal_check.specs.declared.standing.Standing.{Standing}
use Rattle.journal_check.proofs.Heads.{both}
use Rattle.journal_check.proofs.Lists.{within-list}

module _ (P : List Step) (t : Known) (left : AreLeft P t) where
  -- an actor of the shape stands as the history leaves it
  pub stands-left : (k : ℕ) → 0 < k → k ≤ length t.shape.actors
      → standing_of t.standings k ≡ Some (standing_left P k)
  stands-left zero above within = absurd (omega arith)
  stands-left (suc k) above within = left.standings k (omega (arith, left.counted))

  -- who makes steps is one
  there : (k : ℕ) (o : Option Standing) → slice_get t.standings k ≡ o → makes_steps o ≡ true
      → k < length t.standings
  there k None is makes = absurd (true≢false (sym makes))
  there k (Some x) is makes = within-list t.standings k x is

  pub actor-there : (k : ℕ) → makes_steps (standing_of t.standings k) ≡ true
      → (0 < k) × (k ≤ length t.shape.actors)
  actor-there zero makes = absurd (true≢false (sym makes))
  actor-there (suc k) makes =
      let within : k < length t.standings = there k (slice_get t.standings k) refl makes in
      (omega arith, omega (arith, left.counted))

  -- THE LAW OF MAKERS
  pub maker-kept : (by : By) (head : Head) → is_made_by_maker t by head ≡ true
      → KeepsMakers t.shape P by head
  maker-kept (Actor k) head is =
      let at = actor-there k is in
      let lives : not (has_ended P k) ≡ true =
      sym (ap makes_steps (stands-left k at.0 at.1)) ∙ is in
      record { maker = (at.0, at.1, not-true (has_ended P k) lives); may = refl }
  maker-kept (Pump l) head is =
      let parts = and_parts (nat_lt 0 l.0)
      (nat_le l.0 (length t.shape.links) && may_make (Pump l) head) is in
      let others = and_parts (nat_le l.0 (length t.shape.links)) (may_make (Pump l) head) parts.1 in
      record {
        maker = (ltb-true 0 l.0 parts.0, leb-true l.0 (length t.shape.links) others.0);
        may = others.1;
      }

  pub kept-maker : (by : By) (head : Head) → KeepsMakers t.shape P by head
      → is_made_by_maker t by head ≡ true
  kept-maker (Actor k) head kept =
      ap makes_steps (stands-left k kept.maker.0 kept.maker.1)
      ∙ ap not kept.maker.2
  kept-maker (Pump l) head kept =
      both (nat_lt 0 l.0) (nat_le l.0 (length t.shape.links) && may_make (Pump l) head)
      (lt-ltb 0 l.0 kept.maker.0)
      (both (nat_le l.0 (length t.shape.links)) (may_make (Pump l) head)
      (le-leb l.0 (length t.shape.links) kept.maker.1) kept.may)

  -- THE ENDPOINT of a maker
  pub endpoint-is : (k : ℕ) → 0 < k → k ≤ length t.shape.actors
      → endpoint_of_maker t (Actor k) ≡ endpoint_by P (Actor k)
  endpoint-is k above within = ap endpoint_in (stands-left k above within)

  pub endpoint-of : (by : By) (head : Head) → is_made_by_maker t by head ≡ true
      → endpoint_of_maker t by ≡ endpoint_by P by
  endpoint-of (Actor k) head made = let at = actor-there k made in endpoint-is k at.0 at.1
  endpoint-of (Pump l) head made = refl

  -- WHAT A PUMP makes is a packet or a tick
  pub pump-may : (l : LinkNo) (head : Head) → is_made_by_maker t (Pump l) head ≡ true
      → may_make (Pump l) head ≡ true
  pump-may l head made = (maker-kept (Pump l) head made).may

  pub pump-reaches : (l : LinkNo) (head : Head) → is_made_by_maker t (Pump l) head ≡ true
      → side_reached head ≡ None → ⊥
  pump-reaches l head made = go head (pump-may l head made)
    where
      go : (head : Head) → may_make (Pump l) head ≡ true → side_reached head ≡ None → ⊥
      go (heads.Wire m from verdict) may off = cc off
      go (heads.Tick m side) may off = cc off
      go _ may off = true≢false (sym may)
