use Rattle.std.proofs.Common.{ℕ, List, ◌++◌, ap, ◌∙◌, codes}
use Rattle.std.proofs.lemmas.Result.{on_ok_weaker}
use Rattle.svg_text.specs.Texts.{anchor_text}
use Rattle.svg_text.specs.Words.{anchor_name}
use Rattle.svg_text.proofs.Joined.{three_behind}
use Rattle.svg_text.proofs.writing.write_anchor.Goals as goal

pub returns : goal.returns
unfolding anchor_text
returns c =
    let name : List ℕ = anchor_name c.args.anchor in
    on_ok_weaker c.write-2.result
    (λ last. last
    ∙ ap (λ (l : List ℕ). l ++ codes "\"") (c.in_ok-write_anchor_name.ensures
    ∙ ap (λ (l : List ℕ). l ++ name) c.in_ok-write.ensures)
    ∙ three_behind c.args.out.now.items (codes " text-anchor=\"") name (codes "\""))
    c.write-2.ensures
