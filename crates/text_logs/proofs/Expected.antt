-- How far a text begins as expected, with a piece more.
use Rattle.std.proofs.Common.{◌≡◌, ℕ, ◌+◌, ◌≤◌, ◌<◌, Bool, true, false, List, ◌++◌, length, drop}
use Rattle.std.proofs.Common.{refl, sym, subst, ◌∙◌, ap, arith, nat_lt, ltb-true, lt-ltb}
use Rattle.std.proofs.Common.{length-append, inl, inr, ◌==◌}
use Rattle.std.proofs.lemmas.Bool.{cases_lt, le-ltb, ltb-false}
use Rattle.std.specs.List.{common_prefix_len}
use Rattle.std.proofs.lemmas.List.Sums.{common_prefix_len-le}
use Rattle.text_logs.specs.declared.comparing.Begun.{Begun}
use Rattle.text_logs.specs.Begun.{IsBegun}
use Rattle.text_logs.specs.First.{alike}
use Rattle.text_logs.proofs.Alike.{alike_more, alike_apart}

-- no more than is expected
pub alike_within : (text so_far : List ℕ) → alike text so_far ≤ length so_far
alike_within text so_far = (common_prefix_len-le (λ b c. b == c) text so_far).1

-- a byte was another already
pub still_apart : (text so_far piece : List ℕ) (begun : Begun) → begun.apart ≡ true
    → IsBegun text so_far begun → IsBegun text (so_far ++ piece) begun
still_apart text so_far piece begun apart is =
    let less : alike text so_far < length so_far =
    ltb-true (alike text so_far) (length so_far) (sym is.other ∙ apart) in
    let same = alike_apart text so_far piece less in
    let size = length-append so_far piece in
    let longer : alike text (so_far ++ piece) < length (so_far ++ piece) =
    omega (arith, less, same, size) in
    record {
      same = is.same ∙ sym same;
      other = apart ∙ sym (lt-ltb (alike text (so_far ++ piece)) (length (so_far ++ piece)) longer);
    }

-- all was as expected so far
pub more_begun : (text so_far piece : List ℕ) (begun next : Begun) (more : ℕ)
    → begun.apart ≡ false → more ≡ alike (drop begun.alike text) piece
    → next.alike ≡ begun.alike + more → next.apart ≡ nat_lt more (length piece)
    → IsBegun text so_far begun → IsBegun text (so_far ++ piece) next
more_begun text so_far piece begun next more whole is sum test so_is =
    let all : nat_lt (alike text so_far) (length so_far) ≡ false = sym so_is.other ∙ whole in
    let least : length so_far ≤ alike text so_far = ltb-false (alike text so_far) (length so_far) all in
    let most = alike_within text so_far in
    let here : alike text so_far ≡ length so_far = omega (arith, least, most) in
    let at : begun.alike ≡ length so_far = so_is.same ∙ here in
    let count : more ≡ alike (drop (length so_far) text) piece =
    is ∙ ap (λ (n : ℕ). alike (drop n text) piece) at in
    let behind = alike_more text so_far piece here in
    let size = length-append so_far piece in
    let total : next.alike ≡ alike text (so_far ++ piece) = omega (arith, sum, at, count, behind) in
    record {
      same = total;
      other =
          test
          ∙ both_less more (length piece) (alike text (so_far ++ piece)) (length (so_far ++ piece))
          (length so_far) (omega (arith, behind, count)) (omega (arith, size));
    }
  where
    both_less : (a b c d n : ℕ) → c ≡ n + a → d ≡ n + b → nat_lt a b ≡ nat_lt c d
    both_less a b c d n first second =
        elim (cases_lt a b) [
          | inl less ↦
              let more : c < d = omega (arith, less, first, second) in
              lt-ltb a b less ∙ sym (lt-ltb c d more)
          | inr least ↦
              let more : d ≤ c = omega (arith, least, first, second) in
              le-ltb a b least ∙ sym (le-ltb c d more)
        ]
