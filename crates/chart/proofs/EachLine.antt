-- EACH LINE HAS ONE MARK.
use Rattle.std.proofs.Common.{◌≡◌, ℕ, suc, ◌+◌, List, [], ◌∷◌, ◌++◌, length, refl, ap, ◌∙◌, map}
use Rattle.std.proofs.lemmas.List.{map-append}
use Rattle.linx_base.specs.declared.identity.ItemAt.{ItemAt}
use Rattle.journal.specs.declared.by.By.{By}
use Rattle.journal.specs.declared.effect.Effect.{Effect}
use Rattle.journal.specs.declared.effect.Step.{Step}
use Rattle.chart.specs.declared.mark.Mark.{Mark}
use Rattle.chart.specs.Marks.{line_at, effect_lines, lines_of, effect_marks, step_marks, marks_of}
use Rattle.chart.specs.Marks.{MarkEachLine}

effect_marks_lines : (S : List Step) (by : By) (position place : ℕ) (es : List Effect)
    → map (λ (m : Mark). m.line) (effect_marks S by position place es)
    ≡ effect_lines position place es
effect_marks_lines S by position place [] = refl
effect_marks_lines S by position place (e ∷ es) =
    ap (λ (l : List ItemAt). line_at position place ∷ l)
    (effect_marks_lines S by position (place + 1) es)

pub each_line : (S : List Step) → MarkEachLine (marks_of S) S
each_line [] = refl
each_line (s ∷ P) =
    map-append (λ (m : Mark). m.line) (marks_of P) (step_marks s P)
    ∙ ap (λ (l : List ItemAt). l ++ map (λ (m : Mark). m.line) (step_marks s P)) (each_line P)
    ∙ ap (λ (l : List ItemAt). lines_of P ++ line_at (suc (length P)) 0 ∷ l)
    (effect_marks_lines (s ∷ P) s.by (suc (length P)) 1 s.effects)
