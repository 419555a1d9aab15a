use Rattle.std.proofs.Common.{◌≡◌, ◌≤◌, length, None, Some, sym, ◌∙◌, ap, option_copied}
use Rattle.std.proofs.lemmas.List.{length-map}
use Rattle.journal.specs.Logs.{Log, step_at}
use Rattle.linx_api.specs.Sharing.{Shared}
use Rattle.linx_api.specs.Telling.{numbered}
use Rattle.linx_api.proofs.Numbers.{number-small, stands-told, there-found, there-none}
use Rattle.linx_api.proofs.shared_fabric.SharedFabricStory.maker.Goals as goal

pub unreachable-requires : goal.unreachable-requires
unreachable-requires c =
    let f = c.args.self.now.run in
    let steps = ap (λ (l : Log). l.steps) c.journal.ensures.log
    ∙ ap (λ (s : Shared). s.run.log.steps) c.self.view_is in
    let here : step_at f.log.steps c.args.k ≡ None =
    sym (ap (λ P. step_at P c.args.k) steps)
    ∙ (sym c.step.ensures ∙ ap option_copied c.in-None.is) in
    let most : c.args.k ≤ length f.log.steps =
    rw (length-map f.log.steps (numbered f.shape)) at c.requires.made in
    there-none f.shape f.log.steps c.args.k
    (stands-told f.shape f.log.steps c.args.k c.requires.from_one most) here

pub number_of-requires : goal.number_of-requires
number_of-requires c =
    let f = c.self.inside.fabric in
    let steps = ap (λ (l : Log). l.steps) c.journal.ensures.log in
    let here : step_at f.log.steps c.args.k ≡ Some c.in-Some.step.now =
    sym (ap (λ P. step_at P c.args.k) steps)
    ∙ (sym c.step.ensures ∙ ap option_copied c.in-Some.is) in
    rw (sym c.self.view_is)
    (number-small f.shape f.log.steps c.args.k c.in-Some.step.now c.actor_count-few.ensures.few
    c.journal.ensures.legal here)

pub returns : goal.returns
returns c =
    let f = c.args.self.now.run in
    let steps = ap (λ (l : Log). l.steps) c.journal.ensures.log
    ∙ ap (λ (s : Shared). s.run.log.steps) c.self.view_is in
    let here : step_at f.log.steps c.args.k ≡ Some c.in-Some.step.now =
    sym (ap (λ P. step_at P c.args.k) steps)
    ∙ (sym c.step.ensures ∙ ap option_copied c.in-Some.is) in
    let most : c.args.k ≤ length f.log.steps =
    rw (length-map f.log.steps (numbered f.shape)) at c.requires.made in
    rw (length-map f.log.steps (numbered f.shape))
    (there-found f.shape f.log.steps c.args.k c.in-Some.step.now
    (stands-told f.shape f.log.steps c.args.k c.requires.from_one most) here
    ∙ ap Some (sym c.number_of.ensures))
