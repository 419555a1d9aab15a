use Rattle.std.proofs.Common.{ℕ, ◌∙◌, ◌++◌, ◌∷◌, [], ap, sym, List}
use Rattle.linx_base.specs.declared.identity.Inc.{Inc}
use Rattle.linx_base.specs.declared.name.Path.{Path}
use Rattle.linx_base.specs.declared.pending.PendingHunt.{PendingHunt}
use Rattle.linx_base.specs.SigNotes.{SigNote}
use Rattle.journal.specs.Effects.{found, hunted}
use Rattle.node_kernel.specs.Nodes.{NodeState, put_all}
use Rattle.node_kernel.specs.Kept.{NodeEndpoints}
use Rattle.node_kernel.proofs.Calling.{assembled, hunt_found, hunt_pends}
use Rattle.node_kernel.proofs.Keeping.{if_ok, on_ok}
use Rattle.node_kernel.proofs.kernel.Kernel.hunt.Goals as goal
use Rattle.node_kernel.proofs.kernel.Kernel.hunt.Goals.{in-Local-1, in-Over-1}

-- the hunt of an endpoint for a path, with this signal and number
abbrev hunt_of : Inc → Path → SigNote → ℕ → PendingHunt
hunt_of at path signal number =
    record { at = at; path = path; signal = signal; number = number }

pub returns-in-Some-clause-effects : goal.returns-in-Some-clause-effects
returns-in-Some-clause-effects c =
    let h = hunt_of c.args.at c.args.path c.args.signal c.args.number in
    if_ok c.answer.result c.answer.ensures.effects (λ effects e. e
    ∙ ap (λ o. hunted o h) c.in-Some.ensures)

pub returns-in-Some-clause-ok : goal.returns-in-Some-clause-ok
returns-in-Some-clause-ok c =
    let h = hunt_of c.args.at c.args.path c.args.signal c.args.number in
    let effects = found c.in-Some.peer h ∷ [] in
    let k = c.self.inside in
    let whole : NodeEndpoints → NodeState = λ r. assembled r k.hunts k.attaches k.met in
    let after : NodeState → NodeState =
    λ n. record n { endpoints = put_all c.args.number effects n.endpoints }
    in
    let finds = ap after c.self.view_is
    ∙ hunt_found c.args.self.now h c.in-Some.peer (sym c.in-Some.ensures)
    in
    on_ok c.answer.result c.answer.ensures.ok (λ e.
    elim c.match-path.branch [
      | in-Local-1 w ↦ w.self-is ∙ ap whole e ∙ finds
      | in-Over-1 w ↦ w.self-is ∙ ap whole e ∙ finds
    ])

pub returns-in-None-clause-ok : goal.returns-in-None-clause-ok
returns-in-None-clause-ok c =
    let h = hunt_of c.args.at c.args.path c.args.signal c.args.number in
    let v = c.self.view_is in
    on_ok c.pend.result c.pend.ensures.ok (λ e.
    ap (λ (n : NodeState). record n { hunts = c.pend.new.hunts }) v
    ∙ ap (λ (l : List PendingHunt). record c.args.self.now { hunts = l }) (e
    ∙ ap (λ (n : NodeState). n.hunts ++ h ∷ []) v)
    ∙ hunt_pends c.args.self.now h (sym c.in-None.ensures))
