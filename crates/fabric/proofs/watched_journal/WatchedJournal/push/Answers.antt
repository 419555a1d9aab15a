use Rattle.std.proofs.Common.{◌≡◌, List, Option, ◌∷◌, ◌++◌, drop, length, sym, take, ◌∙◌, ap, subst}
use Rattle.std.proofs.Common.{arith}
use Rattle.linx_base.specs.declared.identity.Inc.{Inc}
use Rattle.journal.specs.Logs.{Log}
use Rattle.fabric.specs.Idle.{AreIdle, noted_past}
use Rattle.fabric.proofs.Standings.Counting.{take-front}
use Rattle.fabric.proofs.Standings.Idling.{idle-past}
use Rattle.fabric.proofs.watched_journal.WatchedJournal.push.Goals as goal

pub invariant_of-self : goal.invariant_of-self
invariant_of-self c =
    let behind : List (Option Inc) = drop (length c.forget.new.idle) c.self.inside.idle.items in
    let now : List (Option Inc) = take c.self.inside.idle.len (c.forget.new.idle ++ behind) in
    let counted : length c.forget.new.idle ≡ c.self.inside.idle.len =
    omega (arith, c.forget.auto.idle, c.deref_mut.ensures.len) in
    let noted : now ≡ noted_past c.args.step c.self.inside.idle.items =
    take-front c.forget.new.idle behind c.self.inside.idle.len counted ∙ c.forget.ensures
    ∙ ap (noted_past c.args.step) c.deref_mut.ensures.value in
    subst (λ (l : Log). AreIdle l.steps now) (sym c.push.ensures.log)
    (subst (AreIdle (c.args.step ∷ c.self.inside.journal.log.steps)) (sym noted)
    (idle-past c.self.inside.journal.log.steps c.args.step c.self.inside.idle.items
    c.self.invariant))
