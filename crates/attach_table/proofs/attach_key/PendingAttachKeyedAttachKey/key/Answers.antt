use Rattle.std.proofs.Common.{◌∙◌, sym, arith}
use Rattle.attach_table.proofs.Finding.{last_key, no_further_key}
use Rattle.attach_table.proofs.attach_key.PendingAttachKeyedAttachKey.key.Goals as goal

pub returns-in-3-clause-key : goal.returns-in-3-clause-key
returns-in-3-clause-key c = c.session_key.ensures
    ∙ sym (last_key c.args.self.now c.args.at (omega arith))

pub returns-in_default-clause-key : goal.returns-in_default-clause-key
returns-in_default-clause-key c = sym (no_further_key c.args.self.now c.args.at (omega arith))
