-- BETWEEN WHICH NUMBERS SOME NUMBERS LIE.
use Rattle.std.specs.Prelude.{ℕ, nat_lt, Option, None, Some, if◌then◌else◌}
use Rattle.outcome_tally.specs.declared.span.Span.{Span}

-- the least and the most of these numbers and of one more
abbrev pub spanned : Option Span → ℕ → Span
spanned None n = record { least = n; most = n }
spanned (Some s) n = record {
  least = if nat_lt n s.least then n else s.least;
  most = if nat_lt s.most n then n else s.most;
}

-- the least and the most of some numbers and of further ones
abbrev pub both_spanned : Option Span → Option Span → Option Span
both_spanned None more = more
both_spanned (Some s) None = Some s
both_spanned (Some s) (Some more) = Some (record {
  least = if nat_lt more.least s.least then more.least else s.least;
  most = if nat_lt s.most more.most then more.most else s.most;
})
