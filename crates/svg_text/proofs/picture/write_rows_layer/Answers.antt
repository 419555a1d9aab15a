use Rattle.std.proofs.Common.{ℕ, List, ◌++◌, ap, ◌∙◌, codes}
use Rattle.std.proofs.lemmas.Result.{on_ok_weaker}
use Rattle.svg_text.specs.declared.picture.Row.{Row}
use Rattle.svg_text.specs.Texts.{rows_text, rows_layer_text}
use Rattle.svg_text.proofs.Joined.{three_behind}
use Rattle.svg_text.proofs.picture.write_rows_layer.Goals as goal

pub returns : goal.returns
unfolding rows_layer_text
returns c =
    let rows : List ℕ = rows_text c.args.rows.now in
    on_ok_weaker c.write-2.result
    (λ last. last
    ∙ ap (λ (l : List ℕ). l ++ codes "</g>\n") (c.in_ok-write_rows.ensures
    ∙ ap (λ (l : List Row). c.write.new.out.items ++ rows_text l) c.as_slice.ensures
    ∙ ap (λ (l : List ℕ). l ++ rows) c.in_ok-write.ensures)
    ∙ three_behind c.args.out.now.items (codes "<g class=\"rows\">\n") rows (codes "</g>\n"))
    c.write-2.ensures
