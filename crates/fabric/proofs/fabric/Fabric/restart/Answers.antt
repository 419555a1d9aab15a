use Rattle.std.proofs.Common.{◌≡◌, ℕ, None, ◌+◌, ◌-◌, List, length, refl, ◌∙◌, ap, arith, slice_set}
use Rattle.journal.specs.declared.event.Event.TheVariants as asks
use Rattle.node_kernel.specs.declared.answers.StepAnswer.TheVariants as answers
use Rattle.fabric.specs.Actings.{asking}
use Rattle.fabric.specs.declared.fabric.Fabric.TheView.{view}
use Rattle.fabric.specs.declared.standing.Standing.{Standing}
use Rattle.fabric.proofs.Standings.Counting.{take-front}
use Rattle.fabric.proofs.Trunks.Grants.{granted-restart}
use Rattle.fabric.proofs.Standings.KernelAndStanding.{acting-home, at-value, may-seen, sees}
use Rattle.fabric.proofs.Methods.Restarts.{boot-fits, made-restart}
use Rattle.fabric.proofs.Methods.FieldsOfFabric.{IsMadeSeen, made-told, parts_of, refilled}
use Rattle.fabric.proofs.fabric.Fabric.restart.Goals as goal
use Rattle.fabric.proofs.fabric.Fabric.restart.Goals.{After-wait}

pub overflow_add-boot : goal.overflow_add-boot
overflow_add-boot c =
    let fits = boot-fits (at-value c.self.invariant.0 c.self.view_is) c.args.node
    c.requires.asked.may.fits.0 c.requires.asked.may.fits.1 c.index.result.now in
    omega (arith, fits, c.index.ensures)

pub downs_of-requires : goal.downs_of-requires
downs_of-requires c = record { few = c.self.invariant.0.laid_out.few_links }

pub restarted-requires : goal.restarted-requires
restarted-requires c =
    let asked = may-seen (sees c.self.invariant.0 c.self.view_is) c.requires.asked in
    record {
      may = granted-restart _ _ c.self.invariant.0 asked.short c.args.node asked.may.fits.0
          asked.may.fits.1 c.index.result.now (c.index.result.now + 1)
          (ap (λ (b : ℕ). b + 1) c.index.ensures);
    }

-- the standings once those were lost that the restart closes
abbrev lost : After-wait → List Standing
lost c = refilled c.self.inside.standings.len c.self.inside.standings.items
    c.make_restart-made.new.standings

-- what it makes
made : (c : After-wait) → IsMadeSeen (view c.self.inside) c.args.self.now
    c.make_restart-made.new.journal.log c.keep_all.new.self (record (parts_of c.self.inside) {
      kernels = slice_set c.self.inside.kernels.items (c.args.node.0 - 1)
          c.make_restart-made.new.kernel;
      booted = slice_set c.self.inside.booted.items (c.args.node.0 - 1) (c.index.result.now + 1);
      standings = slice_set (lost c) (c.args.actor - 1) c.wait.new.self;
    }) c.args.actor (asking (asks.Restart c.args.node) None) answers.Done
made c =
    let seen = sees c.self.invariant.0 c.self.view_is in
    let acts = acting-home seen c.args.actor c.requires.asked.may.maker
    c.requires.asked.room c.requires.asked.short in
    let asked = may-seen seen c.requires.asked in
    let counted : length c.make_restart-made.new.standings ≡ c.self.inside.standings.len =
    omega (arith, c.make_restart-made.auto.standings, c.deref_mut.ensures.len) in
    made-told c.self.view_is c.make_restart-made.new.journal.log c.restarted.new.self
    c.keep_all.new.self _ c.in-Ok-restarted.ensures.links refl c.keep_all.ensures _ c.args.actor
    (asking (asks.Restart c.args.node) None) answers.Done
    (made-restart acts c.args.node asked.may.fits.0 asked.may.fits.1 c.index_mut.result.now
    c.make_restart-made.new.kernel c.index_mut.ensures.value c.in-Ok-made.ensures.kernel
    c.index.result.now (c.index.result.now + 1) (ap (λ (b : ℕ). b + 1) c.index.ensures)
    c.in-Ok.downs.items c.in-Ok.ensures.downs (lost c)
    (take-front c.make_restart-made.new.standings _ c.self.inside.standings.len counted
    ∙ rw c.deref_mut.ensures.value at c.in-Ok-made.ensures.standings)
    c.index_mut-in-Ok-made-2.result.now c.wait.new.self c.index_mut-in-Ok-made-2.ensures.value
    c.wait.ensures c.make_restart-made.new.journal.log c.in-Ok-made.ensures.log
    c.restarted.new.self.is c.in-Ok-restarted.ensures.is)

pub invariant_of-self-in-Ok-made : goal.invariant_of-self-in-Ok-made
invariant_of-self-in-Ok-made c = (made (goal.at.invariant_of-self-in-Ok-made c).After-wait).keeps

pub returns-in-Ok-made-clause-ok : goal.returns-in-Ok-made-clause-ok
returns-in-Ok-made-clause-ok c = (made (goal.at.returns-in-Ok-made-clause-ok c).After-wait).makes
