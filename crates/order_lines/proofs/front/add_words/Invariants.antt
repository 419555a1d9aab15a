use Rattle.std.proofs.Common.{◌≡◌, ◌≤◌, drop, length, map}
use Rattle.order_lines.specs.Fronts.{with_words}
use Rattle.order_lines.proofs.front.add_words.Given as goal

-- the words so far, and the rest
abbrev pub invariant-words : goal.invariant-words
invariant-words l = record {
  goes : with_words l.makers l.front.items (map (λ w. w.now) (drop l.word-index l.words))
      ≡ with_words l.makers l.initial.front.items (map (λ w. w.now) l.words);
  few : length l.front.items ≤ 200000;
}
