use Rattle.std.proofs.Common.{rules, ◌≡◌, ◌-◌, length, get_or, map, ap, subst, ◌∙◌, arith}
use Rattle.std.proofs.Common.{slice_get, Some}
use Rattle.turn_lock.specs.declared.story.Made.{Made}
use Rattle.turn_lock.specs.Stories.{LogParts}
use Rattle.turn_lock.proofs.Stories.{maker_at}
use Rattle.turn_lock.proofs.log.LogStory.maker.Goals as goal

pub returns : goal.returns
returns c =
    let items = c.self.inside.made.items in
    let long : c.len.result ≡ length items = search rules in
    let same = ap (λ (l : LogParts). length l.made) c.self.view_is in
    let low = c.requires.from_one in
    let high = c.requires.made in
    let step = c.index.result.now in
    subst (λ (l : LogParts).
    slice_get (map (λ (m : Made (Unit {0})). m.maker) l.made) (length l.made - c.args.k)
    ≡ Some step.maker) c.self.view_is
    (maker_at items (length items - c.args.k) step (omega arith)
    (c.index.ensures ∙ ap (λ n. get_or items (n - c.args.k) step) long))
