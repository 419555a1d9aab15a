-- An opening as the fabric's method makes it, which tells the trunks first.
use Rattle.std.proofs.Common.{◌≡◌, ℕ, ◌+◌, List, length, Some, None, get_or, ◌∙◌, ap, subst, IsTrue}
use Rattle.linx_base.specs.NameText.{is_name}
use Rattle.linx_base.specs.declared.identity.Inc.{Inc}
use Rattle.journal.specs.declared.by.By.TheVariants.{Actor}
use Rattle.journal.specs.declared.event.Event.TheVariants as asks
use Rattle.journal.specs.declared.head.Head.TheVariants as heads
use Rattle.journal.specs.Effects.{opening}
use Rattle.journal.specs.History.{endpoint_of, next_inc, opened_on}
use Rattle.journal.specs.Logs.{Log}
use Rattle.journal.specs.Shapes.{node_by}
use Rattle.node_kernel.specs.declared.answers.StepAnswer.TheVariants as answers
use Rattle.node_kernel.specs.Calls.{after_open}
use Rattle.node_kernel.specs.Nodes.{NodeState, next_of}
use Rattle.run_trunks.specs.Changes.{each_does}
use Rattle.run_trunks.specs.States.{trunks_of}
use Rattle.run_trunks.proofs.Lists.{length-each}
use Rattle.run_trunks.proofs.Numbered.{all-do}
use Rattle.trunk.specs.Events.{TrunkState, opened_at}
use Rattle.trunk_moves.specs.Steps.{trunks_opening}
use Rattle.trunk_moves.specs.Trunks.{Become}
use Rattle.fabric.specs.Actings.{HasMade, asking}
use Rattle.fabric.specs.declared.standing.Standing.{Standing}
use Rattle.fabric.specs.Remains.{IsKept, Parts}
use Rattle.fabric.specs.Run.{Layout}
use Rattle.fabric.proofs.Methods.AllSteps.{made-open, with_own, IsLogged}
use Rattle.fabric.proofs.Standings.KernelAndStanding.{Acts, own_kernel-is}
use Rattle.fabric.proofs.Methods.StepsOnLinks.{laid}

module _ {f : Layout} {parts : Parts} {actor place home : ℕ} (acts : Acts f parts actor place home)
    (kernel : NodeState) (is : kernel ≡ get_or parts.kernels home kernel) (name : List ℕ)
    (named : IsTrue (is_name name)) (i : Inc)
    (i_is : i ≡ next_inc (node_by f.shape (Actor actor)) kernel.openings) where
  abbrev n : ℕ
  n = node_by f.shape (Actor actor)

  next-is : i ≡ next_inc n (opened_on f.log.steps n)
  next-is =
      i_is ∙ ap (λ (k : NodeState). next_inc n k.openings) (own_kernel-is acts.at kernel is)

  -- the trunks once they were told
  abbrev pub told_opened : List TrunkState
  told_opened = each_does f.shape.links n (λ side. opened_at side i name) f.trunks

  makes : Become f.shape (trunks_of told_opened)
      (trunks_opening f.shape n (next_inc n (opened_on f.log.steps n)) name (trunks_of f.trunks))
  makes =
      subst (λ (j : Inc). Become f.shape (trunks_of told_opened)
      (trunks_opening f.shape n j name (trunks_of f.trunks))) next-is
      (all-do f.shape n (λ side. opened_at side i name) f.trunks acts.at.kept.counted.trunks)

  pub made-opened : endpoint_of f.log.steps actor ≡ None
      → (next : NodeState) → next ≡ after_open kernel name (length f.log.steps + 1)
      → (standing then : Standing) → standing ≡ get_or parts.standings place standing
      → then ≡ record standing { endpoint = Some (next_of kernel); waits = None }
      → (new : Log)
      → IsLogged acts new (heads.Open name) (opening (next_of kernel) name kernel.hunts)
      → IsKept (laid f new told_opened) (with_own acts next then)
      × HasMade f (laid f new told_opened) actor (asking (asks.Open name) None)
      (answers.Opened (next_of kernel))
  made-opened none next next_eq standing then stands then_eq new new_eq =
      made-open acts kernel next is standing then stands new told_opened
      (length-each _ f.shape.links f.trunks ∙ acts.at.kept.counted.trunks) name none named next_eq
      then_eq new_eq makes
