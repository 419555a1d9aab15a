use Rattle.std.proofs.Common.{ℕ, List, map, ◌∙◌, ◌≡◌, ◌<◌, ap, sym, subst, length, arith}
use Rattle.fabric.specs.Remains.{IsLaidOut}
use Rattle.image_laws.specs.Told.{told_of}
use Rattle.journal.specs.declared.effect.Step.{Step}
use Rattle.reading_laws.specs.Printed.{shown_of}
use Rattle.script_lang.specs.declared.actor_script.ActorScript.{ActorScript}
use Rattle.stage.proofs.Rounds.LayingOut.{laid_out-as}
use Rattle.text_check.proofs.Shapes.{told_length}
use Rattle.text_check.proofs.checking.judge.Goals as goal

pub first_illegal-requires-clause-laid_out : goal.first_illegal-requires-clause-laid_out
first_illegal-requires-clause-laid_out c =
    subst (λ (nodes : ℕ). IsLaidOut nodes
    (record { links = c.links.result.now; actors = c.as_slice.result.now }))
    (sym c.len-nodes.ensures)
    (laid_out-as c.args.script.now c.names.ensures.script c.names.result.now c.names.ensures.names
    c.links.result.now c.links.ensures.links c.as_slice.result.now
    (c.as_slice.ensures.value ∙ c.in_ok-actors.ensures
    ∙ ap (λ (l : List ActorScript). map (λ a. a.node) l) c.actors.ensures.actors))

pub first_illegal-requires-clause-short : goal.first_illegal-requires-clause-short
first_illegal-requires-clause-short c =
    let told : length c.in_ok-whole.whole.log.steps
    ≡ length (told_of shown_of c.args.told.now.log.steps) =
    ap (λ (P : List Step). length P) c.in_ok-whole.ensures.steps in
    let same = told_length shown_of c.args.told.now.log.steps in
    let few : length c.args.told.now.log.steps < 4294967295 = c.requires.few in
    omega (arith, told, same, few)
