use Rattle.std.proofs.Common.{None, ◌≡◌, sym, ◌∙◌, ap, subst, IfOk}
use Rattle.sigsel.specs.declared.sigsel.Sigsel.{Sigsel}
use Rattle.journal.specs.Logs.{Log}
use Rattle.journal.specs.declared.by.By.TheVariants.{Actor}
use Rattle.journal.specs.declared.event.Event.TheVariants as asks
use Rattle.node_kernel.specs.declared.answers.StepAnswer.TheVariants as answers
use Rattle.fabric.specs.Actings.{HasMade, asking}
use Rattle.fabric.specs.Run.{Layout}
use Rattle.fabric.proofs.Standings.KernelAndStanding.{acting, endpoint-seen, makes-seen, own_open}
use Rattle.fabric.proofs.Standings.KernelAndStanding.{sees}
use Rattle.fabric.proofs.Methods.Unchanged.{after_take-none, found-is, kept-same, still-vain}
use Rattle.fabric.proofs.Methods.Unchanged.{take-none_log, vain-filter, vain-is}
use Rattle.fabric.proofs.Methods.QuietSteps.{lay_still, made-take, vain-queue}
use Rattle.fabric.proofs.fabric.Fabric.look.Goals as goal

pub make_take-made-requires : goal.make_take-made-requires
make_take-made-requires c =
    let seen = sees c.self.invariant.0 c.self.view_is in
    let acts = acting seen c.requires.asked c.kernel_of-place.ensures in
    let mine = endpoint-seen seen c.args.actor _ (sym c.endpoint_of.ensures ∙ c.in-Some.is) in
    own_open acts.at c.index_mut.result.now c.index_mut.ensures.value c.in-Some.at mine

pub invariant_of-self : goal.invariant_of-self
invariant_of-self c =
    let seen = sees c.self.invariant.0 c.self.view_is in
    let acts = acting seen c.requires.asked c.kernel_of-place.ensures in
    let mine = endpoint-seen seen c.args.actor _ (sym c.endpoint_of.ensures ∙ c.in-Some.is) in
    let found = found-is c.args.filter _ c.in-Ok-Found.item
    (rw c.in-Ok-Found.field-0-is at c.in-Ok-Found.ensures.looked)
    in (
      (made-take acts c.in-Some.at c.args.filter c.in-Ok-Found.item mine c.index_mut.result.now
          c.make_take-made.new.kernel
          c.index_mut.ensures.value found c.in-Ok-Found.ensures.kernel
          c.index_mut-in-Ok-Found.result.now
          c.wait.new.self
          c.index_mut-in-Ok-Found.ensures.value c.wait.ensures c.make_take-made.new.journal.log
          c.in-Ok-Found.ensures.log).0,
      c.self.invariant.1,
    )

pub returns-in-Ok-Found-clause-ok : goal.returns-in-Ok-Found-clause-ok
returns-in-Ok-Found-clause-ok c =
    let seen = sees c.self.invariant.0 c.self.view_is in
    let acts = acting seen c.requires.asked c.kernel_of-place.ensures in
    let mine = endpoint-seen seen c.args.actor _ (sym c.endpoint_of.ensures ∙ c.in-Some.is) in
    let found = found-is c.args.filter _ c.in-Ok-Found.item
    (rw c.in-Ok-Found.field-0-is at c.in-Ok-Found.ensures.looked)
    in
    makes-seen seen (lay_still acts c.make_take-made.new.journal.log) c.args.actor
    (asking (asks.Look c.args.filter) None) (answers.Took c.in-Ok-Found.item)
    (made-take acts c.in-Some.at c.args.filter c.in-Ok-Found.item mine
    c.index_mut.result.now c.make_take-made.new.kernel
    c.index_mut.ensures.value found c.in-Ok-Found.ensures.kernel c.index_mut-in-Ok-Found.result.now
    c.wait.new.self
    c.index_mut-in-Ok-Found.ensures.value c.wait.ensures c.make_take-made.new.journal.log
    c.in-Ok-Found.ensures.log).1

pub invariant_of-self-in-Ok-Vain : goal.invariant_of-self-in-Ok-Vain
invariant_of-self-in-Ok-Vain c =
    let seen = sees c.self.invariant.0 c.self.view_is in
    let acts = acting seen c.requires.asked c.kernel_of-place.ensures in
    let none = vain-is c.args.filter c.in-Ok-Vain.filter _
    (rw c.in-Ok-Vain.field-0-is at c.in-Ok-Vain.ensures.looked)
    in
    let same : c.make_take-made.new.journal.log ≡ c.self.inside.journal.log =
    c.in-Ok-Vain.ensures.log ∙ take-none_log
    (Actor c.args.actor) c.args.filter _ c.self.inside.journal.log none in (
      kept-same _ _ _ c.self.invariant.0
          (ap (λ (l : Log). let g : Layout = record {
            shape = record {
              links = c.self.inside.trunks.links;
              actors = c.self.inside.actors.items;
            };
            log = l;
            trunks = c.self.inside.trunks.is;
          } in g) same)
          c.kernel_of-place.result acts.at.there
          c.index_mut.result.now c.make_take-made.new.kernel c.index_mut.ensures.value
          (c.in-Ok-Vain.ensures.kernel ∙ after_take-none c.index_mut.result.now c.in-Some.at
          c.args.filter none),
      c.self.invariant.1,
    )

pub look_in_vain-requires-clause-vain : goal.look_in_vain-requires-clause-vain
look_in_vain-requires-clause-vain c =
    let seen = sees c.self.invariant.0 c.self.view_is in
    let acts = acting seen c.requires.asked c.kernel_of-place.ensures in
    let mine = endpoint-seen seen c.args.actor _ (sym c.endpoint_of.ensures ∙ c.in-Some.is) in
    let none = vain-is c.args.filter c.in-Ok-Vain.filter _
    (rw c.in-Ok-Vain.field-0-is at c.in-Ok-Vain.ensures.looked)
    in
    still-vain c.make_take-made.new.journal.log c.self.inside.journal.log c.in-Ok-Vain.filter
    c.args.filter
    c.args.actor (c.in-Ok-Vain.ensures.log
    ∙ take-none_log (Actor c.args.actor) c.args.filter _ c.self.inside.journal.log none)
    (vain-filter c.args.filter c.in-Ok-Vain.filter _
    (rw c.in-Ok-Vain.field-0-is at c.in-Ok-Vain.ensures.looked))
    (vain-queue acts c.in-Some.at c.args.filter mine c.index_mut.result.now
    c.index_mut.ensures.value none)

pub returns-in-Ok-Vain-clause-ok : goal.returns-in-Ok-Vain-clause-ok
returns-in-Ok-Vain-clause-ok c =
    let none = vain-is c.args.filter c.in-Ok-Vain.filter _
    (rw c.in-Ok-Vain.field-0-is at c.in-Ok-Vain.ensures.looked)
    in
    let filters : c.in-Ok-Vain.filter ≡ c.args.filter =
    vain-filter c.args.filter c.in-Ok-Vain.filter _
    (rw c.in-Ok-Vain.field-0-is at c.in-Ok-Vain.ensures.looked) in
    let same : c.make_take-made.new.journal.log ≡ c.self.inside.journal.log =
    c.in-Ok-Vain.ensures.log ∙ take-none_log
    (Actor c.args.actor) c.args.filter _ c.self.inside.journal.log none in
    subst (λ (f : Layout). IfOk c.look_in_vain.result
    (HasMade f c.look_in_vain.new.self c.args.actor (asking (asks.Look c.args.filter) None)))
    (ap (λ (l : Log). let g : Layout = record {
      shape = record { links = c.self.inside.trunks.links; actors = c.self.inside.actors.items };
      log = l;
      trunks = c.self.inside.trunks.is;
    } in g) same ∙ c.self.view_is)
    (subst (λ (filter : Sigsel). IfOk c.look_in_vain.result
    (HasMade (record {
      shape = record { links = c.self.inside.trunks.links; actors = c.self.inside.actors.items };
      log = c.make_take-made.new.journal.log;
      trunks = c.self.inside.trunks.is;
    }) c.look_in_vain.new.self c.args.actor (asking (asks.Look filter) None))) filters
    c.look_in_vain.ensures.ok)
