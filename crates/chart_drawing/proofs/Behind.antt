-- What is behind one word more.
use Rattle.std.proofs.Common.{◌≡◌, ℕ, suc, ◌+◌, List, ap, arith}
use Rattle.chart_drawing.specs.Labels.{behind_word, behind_words}

pub behind_next : (k : ℕ) (line : List ℕ)
    → behind_words (k + 1) line ≡ behind_word (behind_words k line)
behind_next k line =
    let e : k + 1 ≡ suc k = omega arith in ap (λ (m : ℕ). behind_words m line) e
