use Rattle.std.proofs.Common.{ℕ, List, ◌++◌, ap, ◌∙◌, codes}
use Rattle.std.proofs.lemmas.Result.{on_ok_weaker}
use Rattle.svg_text.specs.Texts.{begin_row_text}
use Rattle.svg_text.specs.Words.{place_text}
use Rattle.svg_text.proofs.Joined.{three_behind}
use Rattle.svg_text.proofs.picture.write_begin_row.Goals as goal

pub returns : goal.returns
unfolding begin_row_text
returns c =
    let place : List ℕ = place_text c.args.step c.args.effect in
    on_ok_weaker c.write-2.result
    (λ last. last
    ∙ ap (λ (l : List ℕ). l ++ codes "\">\n") (c.in_ok-write_place.ensures
    ∙ ap (λ (l : List ℕ). l ++ place) c.in_ok-write.ensures)
    ∙ three_behind c.args.out.now.items (codes "<g class=\"row\" id=\"") place (codes "\">\n"))
    c.write-2.ensures
