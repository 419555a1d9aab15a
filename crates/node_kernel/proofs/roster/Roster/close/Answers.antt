use Rattle.std.proofs.Common.{◌≡◌, ◌∙◌, ◌++◌, ap, arith, drop, length, map, take, List, take_at}
use Rattle.node_kernel.specs.Nodes.{OpenEndpoint, put_all, without_endpoint}
use Rattle.node_kernel.specs.Kept.{NodeEndpoints, name_entry}
use Rattle.node_kernel.proofs.Calling.{without_put}
use Rattle.node_kernel.proofs.Keeping.{kept_alike_of, same_put_all}
use Rattle.node_kernel.proofs.roster.Roster.close.Goals as goal

pub invariant_of-self-2 : goal.invariant_of-self-2
invariant_of-self-2 c =
    let new = c.bring_all.new.endpoints in
    let old = c.self.inside.endpoints in
    let len : length new ≡ old.len = omega arith in
    let is : new ≡ put_all c.args.step c.args.effects.now old.items = c.in_ok-bring_all.ensures.ok
    ∙ ap (put_all c.args.step c.args.effects.now) c.deref_mut.ensures.value in
    kept_alike_of c.self.invariant (take old.len (new ++ drop (length new) old.items))
    (ap (map name_entry) (take_at new (drop (length new) old.items) old.len len ∙ is)
    ∙ same_put_all c.args.step c.args.effects.now old.items)

pub returns-clause-ok : goal.returns-clause-ok
returns-clause-ok c =
    let new = c.bring_all.new.endpoints in
    let old = c.self.inside.endpoints in
    let len : length new ≡ old.len = omega arith in
    let is : new ≡ put_all c.args.step c.args.effects.now old.items = c.in_ok-bring_all.ensures.ok
    ∙ ap (put_all c.args.step c.args.effects.now) c.deref_mut.ensures.value in
    let before : NodeEndpoints = record {
      node = c.self.inside.node;
      openings = c.self.inside.openings;
      endpoints = old.items;
    } in
    rw (← c.self.view_is) (c.remove.ensures ∙ ap
    (λ (l : List OpenEndpoint). record before { endpoints = l })
    (ap (λ l. without_endpoint l c.args.inc) (take_at new (drop (length new) old.items) old.len
    len ∙ is) ∙ without_put c.args.step c.args.effects.now c.args.inc old.items))
