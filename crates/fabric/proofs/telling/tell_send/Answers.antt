use Rattle.std.proofs.Common.{◌≡◌, ◌∙◌, ap, sym, true, arith, option_copied}
use Rattle.rlnh_messages.specs.Signals.{IsSignal}
use Rattle.node_kernel.specs.Nodes.{is_living}
use Rattle.fabric.proofs.Trunks.Tells.{may-send, open-named, send-numbers}
use Rattle.fabric.proofs.telling.tell_send.Goals as goal

pub unreachable-requires : goal.unreachable-requires
unreachable-requires c =
    open-named c.args.kernel.now.endpoints c.args.from c.requires.is_open
    (sym c.name_of.ensures ∙ ap option_copied c.in_default.is)

pub sent-requires-clause-may : goal.sent-requires-clause-may
sent-requires-clause-may c =
    let living : is_living c.args.kernel.now c.args.to ≡ true = cc in
    let signal : IsSignal c.args.signal.now = record {
      number_fits = omega (arith, c.number-number.ensures, c.number-number.type_inv);
      data_fit = c.bytes-bytes.ensures.bounded;
    } in
    may-send c.args.trunks.now c.args.kernel.now c.args.from c.args.to c.in-There.link
    c.in-There.session c.in-There.inc c.args.node c.in-Some-side_on.side c.in-Some.name.now
    living c.in-There.is c.requires.may c.requires.node
    (sym c.in-Some-side_on.is ∙ c.side_on.ensures)
    (ap option_copied (sym c.in-Some.is) ∙ c.name_of.ensures) c.args.signal.now signal

pub sent-requires-clause-numbers : goal.sent-requires-clause-numbers
sent-requires-clause-numbers c =
    let living : is_living c.args.kernel.now c.args.to ≡ true = cc in
    send-numbers c.args.trunks.now c.args.kernel.now c.args.from c.args.to c.in-There.link
    c.in-There.session c.in-There.inc c.args.node c.in-Some-side_on.side c.in-Some.name.now living
    c.in-There.is c.requires.may c.requires.node (sym c.in-Some-side_on.is ∙ c.side_on.ensures)
    (ap option_copied (sym c.in-Some.is) ∙ c.name_of.ensures)
