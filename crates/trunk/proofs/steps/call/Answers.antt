use Rattle.std.proofs.Common.{◌∙◌, sym}
use Rattle.trunk.proofs.EachEvent.OneCall.{call_ready, may_say}
use Rattle.trunk.proofs.steps.call.Goals as goal

pub say-requires : goal.say-requires
say-requires c =
    record {
      may = may_say c.args.call c.args.side c.args.parts.now.is c.requires.keeps c.requires.may;
    }

pub send_out-requires : goal.send_out-requires
send_out-requires c =
    let ready =
    call_ready c.args.call c.in_default.not-Restarted c.args.side c.args.parts.now.is
    c.say.new.self.is c.requires.keeps c.requires.may c.bytes_of_name.ensures c.requires.numbers
    (sym c.is_up.ensures ∙ c.if-not-is_up.false) c.in_ok-say-in_default.ensures.is in
    record { up = ready.up; messages = ready.messages; left = ready.left }
