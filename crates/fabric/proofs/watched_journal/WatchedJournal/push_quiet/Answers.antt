use Rattle.std.proofs.Common.{◌≡◌, List, Option, ◌∷◌, ◌++◌, drop, length, sym, take, ◌∙◌, ap}
use Rattle.std.proofs.Common.{arith, map, subst}
use Rattle.linx_base.specs.declared.identity.Inc.{Inc}
use Rattle.journal.specs.Logs.{Log}
use Rattle.journal.specs.declared.effect.Effect.{Effect}
use Rattle.journal.specs.declared.effect.Step.{Step}
use Rattle.fabric.specs.Idle.{AreIdle, noted_past, unless_reached, without_maker}
use Rattle.fabric.proofs.Standings.Counting.{take-front}
use Rattle.fabric.proofs.Standings.Idling.{idle-past, unreached}
use Rattle.fabric.proofs.watched_journal.WatchedJournal.push_quiet.Goals as goal

pub invariant_of-self : goal.invariant_of-self
invariant_of-self c =
    let step : Step =
    record { by = c.args.by; head = c.args.head; effects = c.new.result } in
    let behind : List (Option Inc) =
    drop (length c.forget_maker.new.idle) c.self.inside.idle.items in
    let now : List (Option Inc) =
    take c.self.inside.idle.len (c.forget_maker.new.idle ++ behind) in
    let counted : length c.forget_maker.new.idle ≡ c.self.inside.idle.len =
    omega (arith, c.forget_maker.auto.idle, c.deref_mut.ensures.len) in
    let noted : now ≡ noted_past step c.self.inside.idle.items =
    take-front c.forget_maker.new.idle behind c.self.inside.idle.len counted
    ∙ c.forget_maker.ensures ∙ ap (without_maker c.args.by) c.deref_mut.ensures.value
    ∙ unreached (without_maker c.args.by c.self.inside.idle.items)
    ∙ ap (λ (es : List Effect). map (unless_reached es)
    (without_maker c.args.by c.self.inside.idle.items)) (sym c.new.ensures) in
    subst (λ (l : Log). AreIdle l.steps now) (sym c.push.ensures.log)
    (subst (AreIdle (step ∷ c.self.inside.journal.log.steps)) (sym noted)
    (idle-past c.self.inside.journal.log.steps step c.self.inside.idle.items c.self.invariant))
