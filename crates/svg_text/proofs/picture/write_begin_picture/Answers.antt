use Rattle.std.proofs.Common.{ℕ, List, ◌++◌, ap, ◌∙◌, codes, decimal}
use Rattle.std.proofs.lemmas.Result.{on_ok_weaker}
use Rattle.svg_text.specs.Texts.{size_text, begin_picture_text}
use Rattle.svg_text.proofs.Joined.{seven_behind}
use Rattle.svg_text.proofs.picture.write_begin_picture.Goals as goal

pub returns : goal.returns
unfolding begin_picture_text
returns c =
    let size : List ℕ = size_text c.args.width c.args.height in
    let w : List ℕ = decimal c.args.width in
    let h : List ℕ = decimal c.args.height in
    on_ok_weaker c.write-2.result
    (λ last. last
    ∙ ap (λ (l : List ℕ). l ++ codes "\" role=\"img\">\n") (c.in_ok-write_numbered-2.ensures
    ∙ ap (λ (l : List ℕ). l ++ codes " " ++ h) (c.in_ok-write_numbered.ensures
    ∙ ap (λ (l : List ℕ). l ++ codes " viewBox=\"0 0 " ++ w) (c.in_ok-write_size.ensures
    ∙ ap (λ (l : List ℕ). l ++ size) c.in_ok-write.ensures)))
    ∙ seven_behind c.args.out.now.items (codes "<svg xmlns=\"http://www.w3.org/2000/svg\"") size
    (codes " viewBox=\"0 0 ") w (codes " ") h (codes "\" role=\"img\">\n"))
    c.write-2.ensures
