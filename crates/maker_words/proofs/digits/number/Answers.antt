use Rattle.std.proofs.Common.{◌≡◌, ◌≤◌, true, length, arith}
use Rattle.std.specs.Char.{is_ascii_digit}
use Rattle.std.specs.List.{list_all}
use Rattle.script_words.specs.Limits.{digit_limit}
use Rattle.maker_words.proofs.Numbers.{read_is_spelled}
use Rattle.maker_words.proofs.digits.number.Goals as goal

pub returns : goal.returns
returns c =
    let few : length c.args.word.now ≤ digit_limit = omega arith in
    let digits : list_all is_ascii_digit c.args.word.now ≡ true = cc in
    read_is_spelled c.args.word.now c.parse.result c.ok.result few digits c.parse.ensures.value.0
    c.ok.ensures.value
