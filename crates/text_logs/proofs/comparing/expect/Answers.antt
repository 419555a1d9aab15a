use Rattle.std.proofs.Common.{◌≡◌, ℕ, ◌+◌, List, length, nat_lt, drop, refl, ap, ◌∙◌}
use Rattle.text_logs.specs.declared.comparing.Begun.{Begun}
use Rattle.text_logs.specs.First.{alike}
use Rattle.text_logs.proofs.Alike.{whole_rest}
use Rattle.text_logs.proofs.Expected.{still_apart, more_begun}
use Rattle.text_logs.proofs.comparing.expect.Goals as goal

pub returns-then-begun-clause-begun : goal.returns-then-begun-clause-begun
returns-then-begun-clause-begun c so_far is =
    still_apart c.args.text.now so_far c.args.piece.now c.args.begun c.if-begun.true is

pub returns-clause-begun : goal.returns-clause-begun
returns-clause-begun c so_far is =
    let next : Begun = record {
      alike = c.args.begun.alike + c.alike-more.result;
      apart = nat_lt c.alike-more.result (length c.args.piece.now);
    } in
    let text : List ℕ = c.args.text.now in
    let same : c.alike-more.result ≡ alike (drop c.args.begun.alike text) c.args.piece.now =
    c.alike-more.ensures.same
    ∙ ap (λ (t : List ℕ). alike t c.args.piece.now) (whole_rest text c.args.begun.alike) in
    more_begun c.args.text.now so_far c.args.piece.now c.args.begun next c.alike-more.result
    c.if-begun.false same refl refl is
