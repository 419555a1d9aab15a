use Rattle.std.proofs.Common.{◌≡◌, ◌<◌, false, length, subst, sym}
use Rattle.script_lang.specs.Limits.{node_limit}
use Rattle.script_lang.specs.Parts.{ScriptParts, parts_of}
use Rattle.script_lang.specs.Fits.{is_among}
use Rattle.script_lang.proofs.Keeps.{node_kept}
use Rattle.script_lang.proofs.script.Script.add_node.Goals as goal

pub invariant_of-self : goal.invariant_of-self
invariant_of-self c = rw c.in_err-push.ensures.err c.self.invariant

pub invariant_of-self-2 : goal.invariant_of-self-2
invariant_of-self-2 c =
    let s = c.self.inside in
    let same = sym c.self.view_is in
    let name = c.args.name in
    rw c.in_ok-push.ensures.ok
    (node_kept (parts_of s.names s.links.items s.plans.items s.actors.items) name c.self.invariant
    (subst (λ (t : ScriptParts). length t.names.nodes < node_limit) same c.requires.room)
    (subst (λ (t : ScriptParts). is_among t.names.nodes name ≡ false) same c.requires.fresh)
    c.bytes-spelling.ensures.name)
