use Rattle.std.proofs.Common.{List, map, ◌∙◌, ap}
use Rattle.script_lang.specs.declared.actor_script.ActorScript.{ActorScript}
use Rattle.stage.proofs.Rounds.LayingOut.{laid_out-as}
use Rattle.workers.proofs.ran.first_fabric.Goals as goal

pub new-requires : goal.new-requires
new-requires c = record {
  laid_out = laid_out-as c.args.script.now c.actors.ensures.script
      c.in_ok-names.names (c.in_ok-names.ensures ∙ c.names.ensures.names) c.links.result.now
      c.links.ensures.links c.as_slice.result.now
      (c.as_slice.ensures.value ∙ c.in_ok-nodes.ensures
      ∙ ap (λ (l : List ActorScript). map (λ a. a.node) l) c.actors.ensures.actors);
}
