-- What is read of a printed text tells the turns of what was printed, and so makes a run again.
use Rattle.std.proofs.Common.{◌≡◌, ◌∙◌, ℕ, not, cond, Bool, List, [], ◌∷◌, ◌++◌, map, refl, sym, ap}
use Rattle.std.proofs.Common.{subst, Ok, Result}
use Rattle.linx_base.specs.declared.name.Names.{Names}
use Rattle.journal.specs.declared.by.By.{By}
use Rattle.journal.specs.declared.by.By.TheVariants.{Actor, Pump}
use Rattle.journal.specs.declared.effect.Step.{Step}
use Rattle.journal.specs.declared.head.Head.{Head}
use Rattle.journal.specs.declared.head.Head.TheVariants.{Send}
use Rattle.journal_read.specs.Printed.{AllFit, PrintedIsRead, read_step}
use Rattle.journal_read.specs.Reading.{read_in}
use Rattle.journal_text.specs.Text.{text_of}
use Rattle.node_kernel.specs.Answers.{is_pumped}
use Rattle.reading_laws.specs.Forms.{AreNames}
use Rattle.reading_laws.specs.Images.{image_of_head}
use Rattle.turn_lines.specs.Text.{order_text}
use Rattle.turn_lines.specs.Turns.{begins_turn, turn_makers}
use Rattle.runs_again.specs.Again.{ComesAgainBy, IsShort, with_turns_of}
use Rattle.runs_again.specs.Laws.{RunsComeAgain}
use Rattle.texts_again.specs.Laws.{TextsMakeRunsAgain, TextsTellTurns}

-- a packet is read as one, and a tick
same_kind : (head : Head) → is_pumped (image_of_head head) ≡ is_pumped head
same_kind (Send peer note answer) = refl
same_kind _ = refl

begins_alike : (by : By) (head : Head) → begins_turn by (image_of_head head) ≡ begins_turn by head
begins_alike (Actor k) head = ap not (same_kind head)
begins_alike (Pump l) head = refl

-- the makers of the turns with those of one step more, by whether it begins one
abbrev makers_with : List By → By → Bool → List By
makers_with makers by begins = cond begins (makers ++ by ∷ []) makers

-- THE TURNS ARE READ of what is printed
read_turns : (P : List Step) → turn_makers (map read_step P) ≡ turn_makers P
read_turns [] = refl
read_turns (s ∷ P) =
    ap (makers_with (turn_makers (map read_step P)) s.by) (begins_alike s.by s.head)
    ∙ ap (λ (makers : List By). makers_with makers s.by (begins_turn s.by s.head)) (read_turns P)

-- steps that were read
abbrev good_steps : List Step → Result (List Step) ℕ
good_steps P = Ok P

same_steps : (P Q : List Step) → good_steps P ≡ good_steps Q → P ≡ Q
same_steps P Q is = cc

pub texts_tell_turns : PrintedIsRead → TextsTellTurns
texts_tell_turns read log are fit Q is =
    ap turn_makers (same_steps Q (map read_step log.steps) (sym is ∙ read log are fit))
    ∙ read_turns log.steps

-- A RUN COMES AGAIN by the lines of what is read of its text
pub texts_make_runs_again : RunsComeAgain → TextsTellTurns → TextsMakeRunsAgain
texts_make_runs_again again tell bytes script run alone so_far over fit R read short =
    let P : List Step = run.log.steps in
    let named : script.names ≡ run.log.names = sym so_far.names in
    let are : AreNames script.names =
    (so_far.declared.named_nodes, so_far.declared.named_links) in
    let makers : turn_makers R ≡ turn_makers P =
    tell run.log (subst AreNames named are) (subst (λ (names : Names). AllFit names P) named fit) R
    (subst (λ (names : Names). read_in names (text_of run.log) ≡ Ok R) named read) in
    let same : with_turns_of bytes R ≡ with_turns_of bytes P =
    ap (λ (ms : List By). bytes ++ order_text ms) makers in
    subst (λ (text : List ℕ). ComesAgainBy text run) (sym same)
    (again bytes script run alone so_far over (subst IsShort same short))
