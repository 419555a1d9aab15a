use Rattle.std.proofs.Common.{◌≡◌, ◌+◌, ◌*◌, ◌≤◌, drop}
use Rattle.order_rules.specs.Rules.{speeds}
use Rattle.order_rules.proofs.bursts.speeds.Given as goal

-- the speeds so far and those to come
abbrev pub invariant-makers : goal.invariant-makers
invariant-makers l = record {
  value : l.sum + speeds l.words (drop l.maker-index l.makers) ≡ speeds l.words l.makers;
  least : l.maker-index ≤ l.sum;
  most : l.sum ≤ 1024 * l.maker-index;
}
