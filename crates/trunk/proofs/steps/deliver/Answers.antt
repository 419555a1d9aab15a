use Rattle.std.proofs.Common.{◌∙◌, sym}
use Rattle.trunk.proofs.Messages.Answers.{began_ready, heard_ready}
use Rattle.trunk.proofs.steps.deliver.Goals as goal

pub send_out-requires-clause-messages : goal.send_out-requires-clause-messages
send_out-requires-clause-messages c =
    rw c.other-side.ensures (began_ready c.args.from c.args.k c.args.keep c.args.parts.now.is
    c.requires.keeps c.bring.new.self.is c.in_ok-bring.ensures.is c.requires.left
    c.in-WentUp.session c.in-WentUp.peer (rw c.in-WentUp.is at c.in_ok-bring.ensures.told)
    c.begin.new.self.is (rw c.other-side.ensures at c.in_ok-begin-in-WentUp.ensures.is)).messages

pub send_out-requires-clause-left : goal.send_out-requires-clause-left
send_out-requires-clause-left c =
    rw c.other-side.ensures (began_ready c.args.from c.args.k c.args.keep c.args.parts.now.is
    c.requires.keeps c.bring.new.self.is c.in_ok-bring.ensures.is c.requires.left
    c.in-WentUp.session c.in-WentUp.peer (rw c.in-WentUp.is at c.in_ok-bring.ensures.told)
    c.begin.new.self.is (rw c.other-side.ensures at c.in_ok-begin-in-WentUp.ensures.is)).left

pub send_out-requires-in-Got-clause-messages : goal.send_out-requires-in-Got-clause-messages
send_out-requires-in-Got-clause-messages c =
    rw c.other-side.ensures (heard_ready c.args.from c.args.k c.args.keep c.args.parts.now.is
    c.requires.keeps c.bring.new.self.is c.in_ok-bring.ensures.is c.requires.left
    c.in-Got.message (sym c.in_ok-bring.ensures.handed ∙ c.in-Got.is)
    (rw c.in-Got.is at c.in_ok-bring.ensures.told) c.hear.new.self.is
    (rw c.other-side.ensures at c.in_ok-up-in-Got.ensures.is)).messages

pub send_out-requires-in-Got-clause-left : goal.send_out-requires-in-Got-clause-left
send_out-requires-in-Got-clause-left c =
    rw c.other-side.ensures (heard_ready c.args.from c.args.k c.args.keep c.args.parts.now.is
    c.requires.keeps c.bring.new.self.is c.in_ok-bring.ensures.is c.requires.left
    c.in-Got.message (sym c.in_ok-bring.ensures.handed ∙ c.in-Got.is)
    (rw c.in-Got.is at c.in_ok-bring.ensures.told) c.hear.new.self.is
    (rw c.other-side.ensures at c.in_ok-up-in-Got.ensures.is)).left
