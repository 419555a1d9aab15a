use Rattle.std.proofs.Common.{List, map, ◌∙◌, ap, subst}
use Rattle.script_lang.specs.declared.actor_script.ActorScript.{ActorScript}
use Rattle.script_lang.specs.Fits.{IsScript}
use Rattle.stage.specs.Seats.{unstarted}
use Rattle.stage.proofs.Rounds.LayingOut.{laid_out-as}
use Rattle.stage.proofs.Rounds.Seats.{first-same, staged-first}
use Rattle.stage.proofs.stage.Stage.new.Goals as goal

pub new-requires : goal.new-requires
new-requires c = record {
  laid_out = laid_out-as c.args.script c.actors.ensures.script
      c.in_ok-names.names (c.in_ok-names.ensures ∙ c.names.ensures.names) c.links.result.now
      c.links.ensures.links c.as_slice.result.now
      (c.as_slice.ensures.value ∙ c.in_ok-nodes.ensures
      ∙ ap (λ (l : List ActorScript). map (λ a. a.node) l) c.actors.ensures.actors);
}

pub invariant_of-result : goal.invariant_of-result
invariant_of-result c =
    staged-first c.args.script c.in_ok-fabric.fabric c.in_ok-players.players.items
    (subst IsScript c.script.view_is c.script.invariant)
    (c.in_ok-fabric.ensures.ok
    ∙ first-same c.args.script c.links.result.now c.as_slice.result.now c.in_ok-names.names
    c.links.ensures.links
    (c.as_slice.ensures.value ∙ c.in_ok-nodes.ensures
    ∙ ap (λ (l : List ActorScript). map (λ a. a.node) l) c.actors.ensures.actors)
    (c.in_ok-names.ensures ∙ c.names.ensures.names))
    (c.in_ok-players.ensures ∙ ap unstarted c.actors-2.ensures.actors)
