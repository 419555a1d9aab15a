use Rattle.std.proofs.Common.{◌-◌, List, length, refl, sym, ◌∙◌, ap, arith, slice_get}
use Rattle.std.proofs.lemmas.Option.{slice_get_read}
use Rattle.script_lang.specs.declared.actor_script.ActorScript.{ActorScript}
use Rattle.actor_run.proofs.Runnable.{script_runnable}
use Rattle.stage.proofs.player.actor_of.Goals as goal

pub returns-clause-runnable : goal.returns-clause-runnable
returns-clause-runnable c =
    let script = c.args.script.now in
    let place = c.args.actor - 1 in
    let actors = c.actors.result.now in
    let same = c.actors.ensures.actors in
    let long = ap length c.actors.ensures.actors in
    let within = c.requires.within in
    let above = c.requires.above in
    script_runnable script place c.index-actors-actor.result c.actors.ensures.script
    (ap (λ (l : List ActorScript). slice_get l place) (sym same)
    ∙ slice_get_read actors (length actors) place c.index-actors-actor.result refl
    (omega (arith, long, within, above)) c.index-actors-actor.is)
