use Rattle.std.proofs.Common.{List, ℕ, ap, sym, ◌∙◌, arith, take_all}
use Rattle.script_words.specs.Failures.{shown}
use Rattle.script_words.proofs.Padding.{length-shown, shown_more}
use Rattle.script_words.proofs.word.shown_text.Goals as goal

pub push_shown-requires : goal.push_shown-requires
push_shown-requires c =
    let within = c.loop-byte-test.true in
    let long = length-shown c.args.bytes.now c.loop-byte.byte-index (omega (arith, within)) in
    rw c.loop-byte.invariant (omega (arith, long, within, c.requires))

pub loop-byte-preserved : goal.loop-byte-preserved
loop-byte-preserved c =
    rw (c.push_shown.ensures, c.loop-byte.invariant)
    (sym (shown_more c.args.bytes.now c.loop-byte.byte-index _ c.loop-byte-test.true))

pub returns : goal.returns
returns c =
    c.loop-byte.invariant
    ∙ ap (λ (bs : List ℕ). shown bs)
    (take_all c.loop-byte.byte-index c.args.bytes.now (omega (arith, c.loop-byte-test.false)))
