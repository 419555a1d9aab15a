-- A step elsewhere leaves a link's trunk, and so what is left to do over the link.
use Rattle.std.proofs.Common.{◌≡◌, ℕ, Bool, true, false, cond, refl, ap, ◌∙◌, List, Option, arith}
use Rattle.std.proofs.Common.{◌==◌, not}
use Rattle.linx_base.specs.declared.identity.Inc.{Inc}
use Rattle.linx_base.specs.declared.identity.LinkNo.{LinkNo}
use Rattle.journal.specs.History.{endpoint_by}
use Rattle.journal.specs.Shapes.{Shape, node_by}
use Rattle.journal.specs.declared.effect.Effect.{Effect}
use Rattle.journal.specs.declared.effect.Step.{Step}
use Rattle.journal.specs.declared.head.Head.{Head}
use Rattle.journal.specs.declared.head.Head.TheVariants as heads
use Rattle.link_laws.specs.Ends.{IsLinkOf}
use Rattle.trunk.specs.Events.{TrunkState}
use Rattle.trunk_moves.specs.Steps.{IsTrunkStep, Makes}
use Rattle.trunk_moves.specs.Trunks.{RunTrunks}
use Rattle.link_settling.specs.Measure.{measure}
use Rattle.run_settling.specs.Asking.{asks, left_over}
use Rattle.run_settling.specs.Laws.{is_elsewhere}

-- another link's trunk is another now
other_trunk : (b : Bool) (t u : TrunkState) → not b ≡ true → cond b t u ≡ u
other_trunk false t u is = refl
other_trunk true t u is = absurd (grind arith)

module _ (shape : Shape) (P : List Step) (before after : RunTrunks) (n : ℕ) (me : Option Inc)
    (l : LinkNo) (of_shape : IsLinkOf shape l) (es : List Effect) where
  same_trunk : (head : Head) → Makes shape P before after n me head es
      → is_elsewhere l head ≡ true → after l.0 ≡ before l.0
  same_trunk (heads.TakeNone filter) makes is = makes.makes l of_shape
  same_trunk (heads.Wire m from verdict) makes is =
      makes.makes l of_shape ∙ other_trunk (l.0 == m.0) makes.trunk (before l.0) is
  same_trunk (heads.Tick m side) makes is =
      makes.makes l of_shape ∙ other_trunk (l.0 == m.0) makes.trunk (before l.0) is
  same_trunk (heads.Open name) makes is = absurd (grind arith)
  same_trunk heads.Close makes is = absurd (grind arith)
  same_trunk (heads.Send q note answer) makes is = absurd (grind arith)
  same_trunk (heads.Hunt path note) makes is = absurd (grind arith)
  same_trunk (heads.Restart k) makes is = absurd (grind arith)
  same_trunk heads.Ended makes is = absurd (grind arith)
  same_trunk _ makes is = makes l of_shape

pub elsewhere : (shape : Shape) (P : List Step) (before : RunTrunks) (s : Step) (after : RunTrunks)
    → IsTrunkStep shape P before s after → (l : LinkNo) → IsLinkOf shape l
    → is_elsewhere l s.head ≡ true → left_over l after ≡ left_over l before
elsewhere shape P before s after step l of_shape is =
    ap (λ (t : TrunkState). measure asks t.link)
    (same_trunk shape P before after (node_by shape s.by) (endpoint_by P s.by) l of_shape s.effects
    s.head step.makes is)
