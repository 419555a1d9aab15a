-- One more effect at the end, or one more step.
use Rattle.std.proofs.Common.{◌≡◌, ℕ, suc, ◌+◌, List, [], ◌∷◌, ◌++◌, length, refl, sym, ap, ◌∙◌}
use Rattle.std.proofs.Common.{Option}
use Rattle.std.proofs.Common.{Bool, true, false, cond, append_assoc, append-nil, arith, ◌||◌}
use Rattle.journal.specs.declared.head.Head.{Head}
use Rattle.journal.specs.declared.effect.Effect.{Effect}
use Rattle.journal.specs.declared.effect.Step.{Step}
use Rattle.chart.specs.declared.mark.Mark.{Mark}
use Rattle.chart.specs.declared.tie.Tie.{Tie}
use Rattle.chart.specs.Carried.{OverLinks, with_head, with_effect, with_effects, with_step}
use Rattle.chart.specs.Carried.{landed, place_in, pairing_in, arrived}
use Rattle.linx_base.specs.Numbers.{node_of}
use Rattle.linx_base.specs.declared.identity.Inc.{Inc}
use Rattle.linx_base.specs.declared.identity.ItemAt.{ItemAt}
use Rattle.linx_base.specs.declared.identity.LinkNo.{LinkNo}
use Rattle.linx_base.specs.declared.identity.NodeNo.{NodeNo}
use Rattle.linx_base.specs.declared.identity.Peer.TheVariants.{There}
use Rattle.linx_base.specs.declared.identity.Session.{Session}
use Rattle.journal.specs.declared.by.By.{By}
use Rattle.chart.specs.declared.flight.Pairing.{Pairing}
use Rattle.chart.specs.Columns.{opener}
use Rattle.chart.specs.Marks.{line_at}
use Rattle.chart.specs.Marks.{head_mark, effect_mark, effect_marks, step_marks}
use Rattle.chart.specs.Ties.{effect_tie, effect_ties}

-- the marks of effects and one more
pub one_mark_more : (S : List Step) (by : By) (position place : ℕ) (es : List Effect) (e : Effect)
    → effect_marks S by position place (es ++ e ∷ [])
    ≡ effect_marks S by position place es
    ++ effect_mark S by position (place + length es) e ∷ []
one_mark_more S by position place [] e =
    let same : place ≡ place + 0 = omega arith in
    ap (λ (n : ℕ). effect_mark S by position n e ∷ []) same
one_mark_more S by position place (x ∷ es) e =
    let same : place + 1 + length es ≡ place + suc (length es) = omega arith in
    ap (λ (l : List Mark). effect_mark S by position place x ∷ l)
    (one_mark_more S by position (place + 1) es e
    ∙ ap (λ (n : ℕ). effect_marks S by position (place + 1) es ++ effect_mark S by position n e ∷ [])
    same)

-- the ties of effects and one more
pub one_tie_more : (position place : ℕ) (head : Head) (es : List Effect) (e : Effect)
    → effect_ties position place head (es ++ e ∷ [])
    ≡ effect_ties position place head es ++ effect_tie position (place + length es) head e
one_tie_more position place head [] e =
    let same : place ≡ place + 0 = omega arith in
    append-nil (effect_tie position place head e)
    ∙ ap (λ (n : ℕ). effect_tie position n head e) same
one_tie_more position place head (x ∷ es) e =
    let same : place + 1 + length es ≡ place + suc (length es) = omega arith in
    ap (λ (l : List Tie). effect_tie position place head x ++ l)
    (one_tie_more position (place + 1) head es e
    ∙ ap (λ (n : ℕ). effect_ties position (place + 1) head es ++ effect_tie position n head e)
    same)
    ∙ sym (append_assoc (effect_tie position place head x)
    (effect_ties position (place + 1) head es) (effect_tie position (place + suc (length es)) head e))

-- the marks of the effects so far, and of the next one
pub marks_grown : (S : List Step) (by : By) (position index : ℕ) (more so_far : List Effect) (e : Effect)
    (m : Mark) (old before after : List Mark) → after ≡ before ++ m ∷ []
    → m ≡ effect_mark S by position (index + 1) e
    → before ≡ old ++ effect_marks S by position 1 so_far → more ≡ so_far ++ e ∷ []
    → 1 + length so_far ≡ index + 1 → after ≡ old ++ effect_marks S by position 1 more
marks_grown S by position index more so_far e m old before after now mark kept grown count =
    let marks : List Mark = effect_marks S by position 1 so_far in
    now ∙ ap (λ (l : List Mark). l ++ m ∷ []) kept ∙ append_assoc old marks (m ∷ [])
    ∙ ap (λ (n : Mark). old ++ (marks ++ n ∷ [])) mark
    ∙ ap (λ (k : ℕ). old ++ (marks ++ effect_mark S by position k e ∷ [])) (sym count)
    ∙ ap (λ (l : List Mark). old ++ l) (sym (one_mark_more S by position 1 so_far e))
    ∙ ap (λ (es : List Effect). old ++ effect_marks S by position 1 es) (sym grown)

-- the ties of the effects so far, and of the next one
pub ties_grown : (position index : ℕ) (head : Head) (more so_far : List Effect) (e : Effect)
    (old before after : List Tie) → after ≡ before ++ effect_tie position (index + 1) head e
    → before ≡ old ++ effect_ties position 1 head so_far → more ≡ so_far ++ e ∷ []
    → 1 + length so_far ≡ index + 1 → after ≡ old ++ effect_ties position 1 head more
ties_grown position index head more so_far e old before after now kept grown count =
    let ties : List Tie = effect_ties position 1 head so_far in
    now ∙ ap (λ (l : List Tie). l ++ effect_tie position (index + 1) head e) kept
    ∙ append_assoc old ties (effect_tie position (index + 1) head e)
    ∙ ap (λ (k : ℕ). old ++ (ties ++ effect_tie position k head e)) (sym count)
    ∙ ap (λ (l : List Tie). old ++ l) (sym (one_tie_more position 1 head so_far e))
    ∙ ap (λ (es : List Effect). old ++ effect_ties position 1 head es) (sym grown)

-- the mark of a step's head, and those of its effects
pub marks_put : (s : Step) (P : List Step) (position : ℕ) (m : Mark) (es : List Effect)
    (old before after : List Mark) → position ≡ length P + 1 → before ≡ old ++ m ∷ []
    → m ≡ head_mark (s ∷ P) position s.by s.head → es ≡ s.effects
    → after ≡ before ++ effect_marks (s ∷ P) s.by position 1 es → after ≡ old ++ step_marks s P
marks_put s P position m es old before after at put mark effects now =
    let same : position ≡ suc (length P) = omega arith in
    now ∙ ap (λ (l : List Mark). l ++ effect_marks (s ∷ P) s.by position 1 es) put
    ∙ append_assoc old (m ∷ []) (effect_marks (s ∷ P) s.by position 1 es)
    ∙ ap (λ (n : Mark). old ++ n ∷ effect_marks (s ∷ P) s.by position 1 es) mark
    ∙ ap (λ (l : List Effect). old ++ head_mark (s ∷ P) position s.by s.head
    ∷ effect_marks (s ∷ P) s.by position 1 l) effects
    ∙ ap (λ (k : ℕ). old ++ head_mark (s ∷ P) k s.by s.head ∷ effect_marks (s ∷ P) s.by k 1 s.effects) same

-- a choice by the later of two tests, and then by the earlier one
pub later_or_earlier : {X : Type 0} (a b : Bool) (x y : X)
    → cond b x (cond a x y) ≡ cond (a || b) x y
later_or_earlier true true x y = refl
later_or_earlier true false x y = refl
later_or_earlier false true x y = refl
later_or_earlier false false x y = refl

-- what effects did over links so far, and the next one
pub one_effect_more : (S : List Step) (position place : ℕ) (e : Effect) (rest left : List Effect)
    (before after all : OverLinks) → after ≡ with_effect S (line_at position place) e before
    → left ≡ e ∷ rest → with_effects S position place left before ≡ all
    → with_effects S position (place + 1) rest after ≡ all
one_effect_more S position place e rest left before after all grown split kept =
    ap (λ (o : OverLinks). with_effects S position (place + 1) rest o) grown
    ∙ sym (ap (λ (l : List Effect). with_effects S position place l before) split) ∙ kept

-- what a step did over links: its head, and then its effects
pub over_step : (s : Step) (P : List Step) (position : ℕ) (es : List Effect)
    (old between after : OverLinks) → position ≡ length P + 1
    → between ≡ with_head (line_at position 0) s.by s.head old → es ≡ s.effects
    → after ≡ with_effects (s ∷ P) position 1 es between → after ≡ with_step s P old
over_step s P position es old between after at head effects now =
    let same : position ≡ suc (length P) = omega arith in
    now ∙ ap (λ (o : OverLinks). with_effects (s ∷ P) position 1 es o) head
    ∙ ap (λ (l : List Effect). with_effects (s ∷ P) position 1 l
    (with_head (line_at position 0) s.by s.head old)) effects
    ∙ ap (λ (k : ℕ). with_effects (s ∷ P) k 1 s.effects (with_head (line_at k 0) s.by s.head old))
    same

-- the signal that arrived is the one that an arrival over a link is of
pub arrives : (S : List Step) (line : ItemAt) (to i : Inc) (link : LinkNo) (session : Session)
    (node : NodeNo) (by : Option By) (pairing : Option Pairing) (place : Option ℕ)
    (o after : OverLinks) → place ≡ place_in o.flights by pairing to → by ≡ opener S i
    → pairing ≡ pairing_in o.pairings node link session → node.0 ≡ node_of to
    → after ≡ landed line place o → after ≡ arrived S line to (There link session i) o
arrives S line to i link session node by pairing place o after spot opened paired on now =
    now
    ∙ ap (λ (p : Option ℕ). landed line p o)
    (spot ∙ ap (λ (b : Option By). place_in o.flights b pairing to) opened
    ∙ ap (λ (q : Option Pairing). place_in o.flights (opener S i) q to)
    (paired ∙ ap (λ (n : ℕ). pairing_in o.pairings (record { 0 = n }) link session) on))
