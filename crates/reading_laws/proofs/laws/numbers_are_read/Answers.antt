use Rattle.std.proofs.Common.{◌≡◌, ◌∙◌, ap, ℕ, ◌≤◌}
use Rattle.text_words.specs.Numbers.{number_in, whole_limit, halves_in}
use Rattle.reading_laws.specs.Laws.{ReadsExactly, SpellsNumber, SpellsHalves}
use Rattle.reading_laws.proofs.NumberLaws.{number_again, number_found, halves_again, halves_found}
use Rattle.reading_laws.proofs.laws.numbers_are_read.Goals as goal

decimals_read : (most : ℕ) → most ≤ whole_limit
    → ReadsExactly (number_in most) (SpellsNumber most)
decimals_read most limit =
    record {
      again = λ n word s. ap (number_in most) s.1 ∙ number_again most n s.0 limit;
      found =
          λ n word h. let is = number_found most n word limit h in (is.1, is.0);
    }

halves_read : ReadsExactly halves_in SpellsHalves
halves_read =
    record {
      again = λ n word s. ap halves_in s.1 ∙ halves_again n s.0;
      found = λ n word h. let is = halves_found n word h in (is.1, is.0);
    }

pub returns : goal.returns
returns c = record { decimals = decimals_read; halves = halves_read }
