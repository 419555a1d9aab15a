-- Every link of a run settles in six ticks.
use Rattle.std.proofs.Common.{◌≡◌, ℕ, zero, suc, true, List, refl, sym, ◌∙◌, ap, subst}
use Rattle.linx_base.specs.Sides.{other_of}
use Rattle.linx_base.specs.declared.frame.Verdict.TheVariants.{Deliver}
use Rattle.linx_base.specs.declared.identity.LinkNo.{LinkNo}
use Rattle.linx_base.specs.declared.identity.Side.{Side}
use Rattle.linx_base.specs.declared.identity.Side.TheVariants.{First, Second}
use Rattle.journal.specs.History.{endpoint_by}
use Rattle.journal.specs.Shapes.{Shape, node_by}
use Rattle.journal.specs.declared.effect.Step.{Step}
use Rattle.journal.specs.declared.head.Head.{Head}
use Rattle.journal.specs.declared.head.Head.TheVariants.{Tick, Wire}
use Rattle.link_laws.specs.Ends.{IsLinkOf, node_at}
use Rattle.ethcm_end.specs.Rules.{tick_of}
use Rattle.carrier.specs.Events.{LinkState, is_quiet, ticked_as}
use Rattle.carrier.specs.Events as links
use Rattle.carrier.specs.declared.handed.TickedSide.{TickedSide}
use Rattle.carrier.specs.declared.handed.TickedSide.TheVariants as tells
use Rattle.link_settling.specs.Runs.{OnceEmpty, SettlesIn}
use Rattle.link_settling.proofs.Ticks.SixTicks.{links_settle}
use Rattle.trunk.specs.Events.{TrunkState, near_beat, ticked_at, turned, with_link}
use Rattle.trunk.proofs.EachEvent.Quiet.{quiet}
use Rattle.trunk.specs.Keeping.{KeepsTrunk}
use Rattle.trunk_moves.specs.Grants.{AreNames, GrantsAnswer}
use Rattle.trunk_moves.specs.Packets.{names_hunted}
use Rattle.trunk_moves.specs.Steps.{IsBoundedTrunkRun, Makes, PacketMakes, TickMakes}
use Rattle.trunk_moves.specs.Trunks.{RunTrunks}
use Rattle.trunk_moves.proofs.Runs.{trunk_runs_are_runs, trunk_runs_grant}
use Rattle.trunk_moves.proofs.Sides.{is_trunk}
use Rattle.run_settling.specs.Laws.{LinkSettlesIn, RunGoesOn, RunsSettle}
use Rattle.run_settling.specs.Resting.{NoneFlies}
use Rattle.run_settling.proofs.Coming.{comes_settles}

begins : (shape : Shape) (P : List Step) (trunks : RunTrunks) → IsBoundedTrunkRun shape P trunks
    → (l : LinkNo) → IsLinkOf shape l → (side : Side) → LinkSettlesIn 6 side l trunks
begins shape P trunks whole l of_shape side =
    links_settle.begins side (trunks l.0).link
    ((trunk_runs_are_runs shape P trunks whole).kept l of_shape).link

-- ---- a tick

beat_link : (t : TrunkState) (told : TickedSide) → (near_beat t told).link ≡ t.link
beat_link t tells.Stays = refl
beat_link t (tells.WentDown session) = refl

-- the link of a side that ticks is ticked
ticked_link : (side : Side) (t : TrunkState)
    → (ticked_at side t).link ≡ links.ticked_at side t.link
ticked_link First t =
    beat_link (with_link t (links.near_ticked t.link))
    (ticked_as t.link.first.end.talk.mine (tick_of t.link.first.end).answer)
ticked_link Second t =
    ap links.turned (beat_link (with_link (turned t) (links.near_ticked (turned t).link))
    (ticked_as t.link.second.end.talk.mine (tick_of t.link.second.end).answer))

-- ---- a step

module _ (shape : Shape) (P : List Step) (before : RunTrunks) (s : Step) (after : RunTrunks)
    (goes : RunGoesOn shape P before s after) (l : LinkNo) where
  -- what it makes, by its head
  makes : (head : Head) → s.head ≡ head
      → Makes shape P before after (node_by shape s.by) (endpoint_by P s.by) head s.effects
  makes head is =
      subst (λ (h : Head). Makes shape P before after (node_by shape s.by) (endpoint_by P s.by) h
      s.effects) is goes.step.makes

  -- what is known of a packet from a side that comes
  pub record Came (from : Side) : Type 0 where
    pub passes : PacketMakes shape P before after l from Deliver s.effects
    pub kept : KeepsTrunk (before l.0)
    pub named : AreNames (names_hunted P (node_at shape l (other_of from)) l)
    pub grants : GrantsAnswer P (node_at shape l (other_of from)) from (before l.0)

  pub came : (from : Side) → s.head ≡ Wire l from Deliver → Came from
  came from is =
      let passes : PacketMakes shape P before after l from Deliver s.effects =
      makes (Wire l from Deliver) is in
      let asked =
      trunk_runs_grant shape P before goes.run goes.room l passes.of_shape (other_of from) in
      let answers = trunk_runs_grant shape P before goes.run goes.room l passes.of_shape from in
      record {
        passes = passes;
        kept = (trunk_runs_are_runs shape P before goes.run).kept l passes.of_shape;
        named = asked.0.asks;
        grants = answers.1;
      }

  -- what holds once nothing is in flight does so too after a packet from a side came
  pub still_comes : (from : Side) → s.head ≡ Wire l from Deliver → (holds : LinkState → Type 0)
      → OnceEmpty (before l.0).link holds → OnceEmpty (after l.0).link holds
  still_comes from is holds h =
      let c = came from is in
      subst (λ (t : TrunkState). OnceEmpty t.link holds)
      (sym (is_trunk shape before after l c.passes.of_shape c.passes.trunk c.passes.makes))
      (comes_settles holds P (node_at shape l (other_of from)) l from s.effects (before l.0)
      c.passes.trunk c.kept c.named c.grants c.passes.meets h)

  pub comes : (from : Side) → s.head ≡ Wire l from Deliver → (n : ℕ) (side : Side)
      → LinkSettlesIn n side l before → LinkSettlesIn n side l after
  unfolding SettlesIn
  comes from is zero side h = still_comes from is (λ w. is_quiet w ≡ true) h
  comes from is (suc n) side h =
      still_comes from is (λ w. SettlesIn n (other_of side) (links.ticked_at side w)) h

  -- a tick ticks the link
  pub ticked_is : (side : Side) → s.head ≡ Tick l side
      → (after l.0).link ≡ links.ticked_at side (before l.0).link
  ticked_is side is =
      let ticks : TickMakes shape P before after l side s.effects = makes (Tick l side) is in
      ap (λ (t : TrunkState). t.link)
      (is_trunk shape before after l ticks.of_shape ticks.trunk ticks.makes ∙ ticks.beat.makes)
      ∙ ticked_link side (before l.0)

  pub ticked : (side : Side) → s.head ≡ Tick l side → NoneFlies l before → (n : ℕ)
      → LinkSettlesIn (suc n) side l before → LinkSettlesIn n (other_of side) l after
  ticked side is none n h =
      subst (λ (v : LinkState). SettlesIn n (other_of side) v) (sym (ticked_is side is))
      (links_settle.ticked n side (before l.0).link none h)

-- ---- all of it

pub runs_settle : RunsSettle
runs_settle =
    record {
      begins = begins;
      comes = λ shape P before s after goes l from is n side h.
          comes shape P before s after goes l from is n side h;
      ticked = λ shape P before s after goes l side is none n h.
          ticked shape P before s after goes l side is none n h;
      quiet = λ l trunks side none h. links_settle.quiet side (trunks l.0).link none h;
      joined = λ shape P trunks whole l of_shape still.
          quiet (trunks l.0) ((trunk_runs_are_runs shape P trunks whole).kept l of_shape) still;
    }
