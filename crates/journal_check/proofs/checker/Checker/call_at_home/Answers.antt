use Rattle.std.proofs.Common.{◌≡◌, ◌↔◌, ℕ, ◌-◌, Some, sym, ◌∙◌, ap, subst, arith, IfOk, IsTrue}
use Rattle.std.proofs.Common.{slice_get, slice_set}
use Rattle.journal.specs.declared.by.By.TheVariants.{Actor}
use Rattle.journal.specs.Shapes.{node_by}
use Rattle.node_kernel.specs.Nodes.{NodeState}
use Rattle.journal_check.specs.Calls.{AnswersAs, call_after, call_effects, earliest_in}
use Rattle.journal_check.specs.Tables.{Known, kernel_of_maker}
use Rattle.journal_check.proofs.Passing.{on-ok}
use Rattle.journal_check.proofs.Ready.{kernel-read, maker-at}
use Rattle.journal_check.proofs.checker.Checker.call_at_home.Goals as goal

-- the kernel that is called is that of the maker's node
pub call-requires-clause-fits : goal.call-requires-clause-fits
call-requires-clause-fits c =
    (c.requires.ready.room c.home_of-home.result c.index_mut.result.now
    (kernel-read c.args.self.now c.self.inside.kernels.items c.home_of-home.result
    c.index_mut.result.now (ap (λ (t : Known). t.kernels) c.self.view_is)
    c.home_of-home.ensures.inside c.index_mut.ensures.value)).openings

pub call-requires-clause-room : goal.call-requires-clause-room
call-requires-clause-room c =
    (c.requires.ready.room c.home_of-home.result c.index_mut.result.now
    (kernel-read c.args.self.now c.self.inside.kernels.items c.home_of-home.result
    c.index_mut.result.now (ap (λ (t : Known). t.kernels) c.self.view_is)
    c.home_of-home.ensures.inside c.index_mut.ensures.value)).endpoints

pub returns-clause-effects : goal.returns-clause-effects
returns-clause-effects c =
    let there : slice_get c.args.self.now.kernels c.home_of-home.result
    ≡ Some c.index_mut.result.now =
    kernel-read c.args.self.now c.self.inside.kernels.items c.home_of-home.result
    c.index_mut.result.now (ap (λ (t : Known). t.kernels) c.self.view_is)
    c.home_of-home.ensures.inside c.index_mut.ensures.value in
    let is : kernel_of_maker c.args.self.now (Actor c.args.actor) ≡ c.index_mut.result.now =
    maker-at c.args.self.now c.args.actor c.home_of-home.result c.index_mut.result.now
    c.home_of-home.ensures.place there in
    subst (λ (n : NodeState). IfOk c.call.result (λ called. called.effects
    ≡ call_effects n c.args.step c.args.me c.args.head.now)) (sym is) c.call.ensures.effects

pub returns-clause-earliest : goal.returns-clause-earliest
returns-clause-earliest c =
    let there : slice_get c.args.self.now.kernels c.home_of-home.result
    ≡ Some c.index_mut.result.now =
    kernel-read c.args.self.now c.self.inside.kernels.items c.home_of-home.result
    c.index_mut.result.now (ap (λ (t : Known). t.kernels) c.self.view_is)
    c.home_of-home.ensures.inside c.index_mut.ensures.value in
    let is : kernel_of_maker c.args.self.now (Actor c.args.actor) ≡ c.index_mut.result.now =
    maker-at c.args.self.now c.args.actor c.home_of-home.result c.index_mut.result.now
    c.home_of-home.ensures.place there in
    subst (λ (n : NodeState). IfOk c.call.result (λ called. called.earliest
    ≡ earliest_in n c.args.me c.args.head.now)) (sym is) c.call.ensures.earliest

pub returns-clause-answered : goal.returns-clause-answered
returns-clause-answered c =
    let there : slice_get c.args.self.now.kernels c.home_of-home.result
    ≡ Some c.index_mut.result.now =
    kernel-read c.args.self.now c.self.inside.kernels.items c.home_of-home.result
    c.index_mut.result.now (ap (λ (t : Known). t.kernels) c.self.view_is)
    c.home_of-home.ensures.inside c.index_mut.ensures.value in
    let is : kernel_of_maker c.args.self.now (Actor c.args.actor) ≡ c.index_mut.result.now =
    maker-at c.args.self.now c.args.actor c.home_of-home.result c.index_mut.result.now
    c.home_of-home.ensures.place there in
    subst (λ (n : NodeState). IfOk c.call.result (λ called. IsTrue called.answered
    ↔ AnswersAs n c.args.me c.args.head.now)) (sym is) c.call.ensures.answered

pub returns-clause-after : goal.returns-clause-after
returns-clause-after c =
    let there : slice_get c.args.self.now.kernels c.home_of-home.result
    ≡ Some c.index_mut.result.now =
    kernel-read c.args.self.now c.self.inside.kernels.items c.home_of-home.result
    c.index_mut.result.now (ap (λ (t : Known). t.kernels) c.self.view_is)
    c.home_of-home.ensures.inside c.index_mut.ensures.value in
    let is : kernel_of_maker c.args.self.now (Actor c.args.actor) ≡ c.index_mut.result.now =
    maker-at c.args.self.now c.args.actor c.home_of-home.result c.index_mut.result.now
    c.home_of-home.ensures.place there in
    let place : c.home_of-home.result ≡ node_by c.args.self.now.shape (Actor c.args.actor) - 1 =
    omega (arith, c.home_of-home.ensures.place) in
    on-ok c.call.result
    (c.call.new.kernel ≡ call_after c.index_mut.result.now c.args.step c.args.me c.args.head.now)
    _
    (λ after.
    ap (λ (t : Known). let u : Known = record t {
      kernels = slice_set t.kernels c.home_of-home.result c.call.new.kernel;
    } in u) c.self.view_is
    ∙ ap (λ (p : ℕ). let u : Known = record c.args.self.now {
      kernels = slice_set c.args.self.now.kernels p c.call.new.kernel;
    } in u) place
    ∙ ap (λ (n : NodeState). let u : Known = record c.args.self.now {
      kernels = slice_set c.args.self.now.kernels
          (node_by c.args.self.now.shape (Actor c.args.actor) - 1) n;
    } in u) (after
    ∙ ap (λ (n : NodeState). call_after n c.args.step c.args.me c.args.head.now) (sym is)))
    c.call.ensures.after
