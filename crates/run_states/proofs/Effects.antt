-- The head of a step leaves no choice of its effects.
use Rattle.std.proofs.Common.{◌≡◌, ℕ, Bool, true, false, List, Option, sym, ◌∙◌, ap, subst}
use Rattle.linx_base.specs.Sides.{other_of}
use Rattle.linx_base.specs.declared.frame.Verdict.{Verdict}
use Rattle.linx_base.specs.declared.frame.Verdict.TheVariants.{Deliver, Lose, Repeat, Swap}
use Rattle.linx_base.specs.declared.identity.Inc.{Inc}
use Rattle.linx_base.specs.declared.identity.LinkNo.{LinkNo}
use Rattle.linx_base.specs.declared.identity.Side.{Side}
use Rattle.carrier.specs.Events.{handed_by, link_told_by}
use Rattle.journal.specs.Shapes.{Shape}
use Rattle.journal.specs.declared.effect.Effect.{Effect}
use Rattle.journal.specs.declared.effect.Step.{Step}
use Rattle.journal.specs.declared.head.Head.{Head}
use Rattle.journal.specs.declared.head.Head.TheVariants.{Restart, Tick, Wire}
use Rattle.link_laws.specs.Ends.{node_at}
use Rattle.link_laws.specs.Laws.{HasEffects}
use Rattle.trunk.specs.Events.{TrunkState, tables_of}
use Rattle.trunk.specs.Tells.{up_of_tick}
use Rattle.trunk_moves.specs.Packets.{Comes, Meets, told_at}
use Rattle.trunk_moves.specs.Steps.{Makes, PacketMakes, TickMakes}
use Rattle.trunk_moves.specs.Trunks.{Become, RunTrunks}
use Rattle.run_states.proofs.Making.{told_once}

-- ---- of a packet

module _ (P : List Step) (n : ℕ) (l : LinkNo) (from : Side) (es fs : List Effect) where
  comes_alike : (keep : Bool) (t u v : TrunkState) → Comes P n l from keep es t u
      → Comes P n l from keep fs t v → es ≡ fs
  comes_alike keep t u v one two =
      one.effects
      ∙ ap (told_at P n l (other_of from) t)
      (told_once (tables_of (other_of from) t) one.heard two.heard (handed_by from 0 t.link)
      one.reading two.reading)
      ∙ sym two.effects

  meets_alike : (verdict : Verdict) (t u v : TrunkState) → Meets P n l from verdict es t u
      → Meets P n l from verdict fs t v → es ≡ fs
  meets_alike Deliver t u v one two = comes_alike false t u v one two
  meets_alike Repeat t u v one two = comes_alike true t u v one two
  meets_alike Lose t u v one two = one.effects ∙ sym two.effects
  meets_alike (Swap k) t u v one two = one.effects ∙ sym two.effects

-- ---- of a head

module _ (shape : Shape) (P : List Step) (before_one before_two after_one after_two : RunTrunks)
    (same : Become shape before_one before_two) (es fs : List Effect) where
  passes_alike : (l : LinkNo) (from : Side) (verdict : Verdict)
      → PacketMakes shape P before_one after_one l from verdict es
      → PacketMakes shape P before_two after_two l from verdict fs → es ≡ fs
  passes_alike l from verdict one two =
      let n : ℕ = node_at shape l (other_of from) in
      meets_alike P n l from es fs verdict (before_one l.0) one.trunk two.trunk one.meets
      (subst (λ (t : TrunkState). Meets P n l from verdict fs t two.trunk)
      (sym (same l one.of_shape)) two.meets)

  ticks_alike : (l : LinkNo) (side : Side) → TickMakes shape P before_one after_one l side es
      → TickMakes shape P before_two after_two l side fs → es ≡ fs
  ticks_alike l side one two =
      one.beat.effects
      ∙ ap (λ (t : TrunkState).
      told_at P (node_at shape l side) l side t (up_of_tick (link_told_by side t.link)))
      (same l one.of_shape)
      ∙ sym two.beat.effects

  pub effects_alike : (n : ℕ) (me : Option Inc) (head : Head) → HasEffects shape P n me head es
      → HasEffects shape P n me head fs → Makes shape P before_one after_one n me head es
      → Makes shape P before_two after_two n me head fs → es ≡ fs
  effects_alike n me (Restart k) has_one has_two one two = has_one ∙ sym has_two
  effects_alike n me (Wire l from verdict) has_one has_two one two =
      passes_alike l from verdict one two
  effects_alike n me (Tick l side) has_one has_two one two = ticks_alike l side one two
  effects_alike n me head has_one has_two one two = has_one ∙ sym has_two
