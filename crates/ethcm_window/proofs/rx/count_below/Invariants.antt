use Rattle.std.proofs.Common.{◌≡◌, ℕ, ◌+◌, ◌-◌, ◌<◌, ◌≤◌, true, false, length, drop, get_or, ltb}
use Rattle.linx_base.specs.declared.frame.SentFrame.{SentFrame}
use Rattle.ethcm_window.proofs.rx.count_below.Given as goal

-- what stands below `low` has a lower number, and what stands from `high` on doesn't
abbrev pub invariant-search : goal.invariant-search
invariant-search l = record {
  order : l.low ≤ l.high;
  within : l.gone + l.high ≤ length l.kept.items;
  below : (k : ℕ) (d : SentFrame) → 0 ≤ k → k < l.low
      → ltb (get_or (drop l.gone l.kept.items) k d).number l.number ≡ true;
  above : (k : ℕ) (d : SentFrame) → l.high ≤ k → k < length (drop l.gone l.kept.items)
      → ltb (get_or (drop l.gone l.kept.items) k d).number l.number ≡ false;
}

abbrev pub decreases-search : goal.decreases-search
decreases-search l = l.high - l.low
