use Rattle.std.proofs.Common.{◌≡◌, ◌<◌, false, true, length, subst, sym}
use Rattle.script_lang.specs.Limits.{link_limit}
use Rattle.script_lang.specs.Parts.{ScriptParts, parts_of}
use Rattle.script_lang.specs.Fits.{is_among, fits_link}
use Rattle.script_lang.proofs.Keeps.{link_kept}
use Rattle.script_lang.proofs.script.Script.add_link.Goals as goal

pub invariant_of-self-in_err-push : goal.invariant_of-self-in_err-push
invariant_of-self-in_err-push c =
    rw (c.in_err-push.ensures.err, c.reserve.ensures.items, c.reserve-2.ensures.items)
    c.self.invariant

pub invariant_of-self-2 : goal.invariant_of-self-2
invariant_of-self-2 c =
    let s = c.self.inside in
    let same = sym c.self.view_is in
    let name = c.args.name in
    let decl = c.args.decl in
    rw (
      c.in_ok-push.ensures.ok,
      c.push_reserved.ensures.items,
      c.push_reserved-2.ensures.items,
      c.reserve.ensures.items,
      c.reserve-2.ensures.items,
      c.new.ensures,
      c.new-2.ensures,
    )
    (link_kept (parts_of s.names s.links.items s.plans.items s.actors.items) name decl
    c.self.invariant
    (subst (λ (t : ScriptParts). length t.names.links < link_limit) same c.requires.room)
    (subst (λ (t : ScriptParts). is_among t.names.links name ≡ false) same c.requires.fresh)
    c.bytes-spelling.ensures.name
    (subst (λ (t : ScriptParts). fits_link (length t.names.nodes) decl ≡ true) same
    c.requires.fits))
