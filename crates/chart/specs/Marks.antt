-- The marks of a journal: one for each step, and one for each effect.
use Rattle.std.specs.Prelude.{ℕ, suc, ◌+◌, ◌≡◌, List, [], ◌∷◌, ◌++◌, length, map}
use Rattle.linx_base.specs.declared.identity.ItemAt.{ItemAt}
use Rattle.journal.specs.declared.by.By.{By}
use Rattle.journal.specs.declared.head.Head.{Head}
use Rattle.journal.specs.declared.head.Head.TheVariants as heads
use Rattle.journal.specs.declared.effect.Effect.{Effect}
use Rattle.journal.specs.declared.effect.Effect.TheVariants as effects
use Rattle.journal.specs.declared.effect.Step.{Step}
use Rattle.chart.specs.declared.mark.Mark.{Mark}
use Rattle.chart.specs.declared.mark.MarkKind.{MarkKind}
use Rattle.chart.specs.declared.mark.MarkKind.TheVariants as kinds
use Rattle.chart.specs.declared.column.Column.TheVariants.{Nowhere}
use Rattle.chart.specs.Columns.{head_column, effect_column, receiver}

-- the line of a place of a step: its own at 0, from 1 on those of its effects
abbrev pub line_at : ℕ → ℕ → ItemAt
line_at position place = record { step = position; place = place }

-- the lines of a step's effects, from this place on
abbrev pub effect_lines : ℕ → ℕ → List Effect → List ItemAt
effect_lines position place [] = []
effect_lines position place (e ∷ es) =
    line_at position place ∷ effect_lines position (place + 1) es

-- the lines of a journal, in the order in which it is printed: each step, and behind it its effects
abbrev pub lines_of : List Step → List ItemAt
lines_of [] = []
lines_of (s ∷ P) =
    lines_of P ++ line_at (suc (length P)) 0 ∷ effect_lines (suc (length P)) 1 s.effects

-- what the mark of a head is of
abbrev pub head_kind : Head → MarkKind
head_kind (heads.Open name) = kinds.Open
head_kind heads.Close = kinds.Close
head_kind (heads.Send peer note answer) = kinds.Send answer
head_kind (heads.Take filter at) = kinds.Take
head_kind (heads.TakeNone filter) = kinds.TakeNone
head_kind (heads.Waits filter) = kinds.Waits
head_kind (heads.Hunt path note) = kinds.Hunt
head_kind (heads.Attach peer note) = kinds.Attach
head_kind (heads.Detach reference answer) = kinds.Detach answer
head_kind (heads.Cut link) = kinds.Cut link
head_kind (heads.Mend link) = kinds.Mend link
head_kind (heads.Settle link) = kinds.Settle
head_kind (heads.Restart node) = kinds.Restart node
head_kind (heads.Wire link side verdict) = kinds.Packet verdict
head_kind (heads.Tick link side) = kinds.Tick
head_kind (heads.Refused reason) = kinds.Refused
head_kind heads.Ended = kinds.Ended

-- what the mark of an effect is of
abbrev pub effect_kind : Effect → MarkKind
effect_kind (effects.Opened i) = kinds.Opened
effect_kind (effects.Closed i) = kinds.Closed
effect_kind (effects.Arrived i peer note) = kinds.Arrived
effect_kind (effects.Found i peer note hunt) = kinds.Found
effect_kind (effects.Notified i peer note reference reason) = kinds.Notified
effect_kind (effects.Met node peer name) = kinds.Met
effect_kind (effects.Gone node peer) = kinds.Gone
effect_kind (effects.Up node link session other) = kinds.Up
effect_kind (effects.Down node link session) = kinds.Down

-- the mark of a step's own line, after these steps
abbrev pub head_mark : List Step → ℕ → By → Head → Mark
head_mark S position by head = record {
  line = line_at position 0;
  column = head_column by head;
  kind = head_kind head;
  by = by;
  to = receiver S head;
}

-- the mark of an effect at a place of a step of this maker, after these steps
abbrev pub effect_mark : List Step → By → ℕ → ℕ → Effect → Mark
effect_mark S by position place e = record {
  line = line_at position place;
  column = effect_column S e;
  kind = effect_kind e;
  by = by;
  to = Nowhere;
}

-- the marks of a step's effects, from this place on
abbrev pub effect_marks : List Step → By → ℕ → ℕ → List Effect → List Mark
effect_marks S by position place [] = []
effect_marks S by position place (e ∷ es) =
    effect_mark S by position place e ∷ effect_marks S by position (place + 1) es

-- the marks of the last of these steps
abbrev pub step_marks : Step → List Step → List Mark
step_marks s P =
    head_mark (s ∷ P) (suc (length P)) s.by s.head
    ∷ effect_marks (s ∷ P) s.by (suc (length P)) 1 s.effects

-- THE MARKS OF A JOURNAL, in the order of the lines: the k-th stands in the k-th row
abbrev pub marks_of : List Step → List Mark
marks_of [] = []
marks_of (s ∷ P) = marks_of P ++ step_marks s P

-- EACH LINE HAS ONE MARK, at its row: the lines of the marks are those of the journal, in order
abbrev pub MarkEachLine : List Mark → List Step → Type 0
MarkEachLine marks S = map (λ (m : Mark). m.line) marks ≡ lines_of S
