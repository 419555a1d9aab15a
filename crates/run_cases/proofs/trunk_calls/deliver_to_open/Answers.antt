use Rattle.std.proofs.Common.{◌≡◌, false, List, length, ap, sym, ◌∙◌, rules}
use Rattle.linx_base.specs.declared.identity.LinkNo.{LinkNo}
use Rattle.linx_base.specs.declared.identity.Side.TheVariants.{First, Second}
use Rattle.carrier.specs.Events.{handed_by}
use Rattle.rlnh_end.specs.declared.heard.Heard.{Heard}
use Rattle.trunk.specs.Events.{IsReading, TrunkState, delivered, kept_of}
use Rattle.run_trunks.specs.States.{HasLink, TrunksState, over, trunks_of}
use Rattle.run_cases.proofs.Begun.{up-silent}
use Rattle.run_trunks.proofs.Rested.{reads-changed}
use Rattle.run_cases.proofs.trunk_calls.deliver_to_open.Goals as goal

pub publish-requires-clause-silent : goal.publish-requires-clause-silent
publish-requires-clause-silent c =
    let s : TrunksState = c.keep_all.new.self in
    let l : LinkNo = c.args.link in
    let t : TrunkState = trunks_of s.is l.0 in
    let heard : Heard = c.in_ok-deliver.ensures.is_read.0 in
    let reading : IsReading (handed_by First 0 t.link) heard =
    c.in_ok-deliver.ensures.is_read.1 in
    let of : HasLink s l = search rules in
    let count : length s.is ≡ length s.links =
    sym c.count-count.ensures.is ∙ c.count-count.ensures.links in
    ap (λ (ts : List TrunkState). (kept_of Second (trunks_of ts l.0)).now.said)
    (c.in_ok-deliver.ensures.is heard reading)
    ∙ ap (λ (u : TrunkState). (kept_of Second u).now.said)
    (reads-changed (over s.links) l (delivered First 0 false heard) s.is count of)
    ∙ up-silent First false heard t c.in-WentUp.session c.in-WentUp.peer c.promises.ensures.keeps
    c.promises.ensures.records reading
    (sym (c.in_ok-deliver.ensures.up heard reading) ∙ c.in-WentUp.is)
