-- What a run promises of its signals, in the words of who uses it.
use Rattle.std.specs.Prelude.{◌≡◌, ◌⊎◌, ℕ, List, [], ◌∷◌, Option, None, Ok, IfSome, IsSomeAnd}
use Rattle.sigsel.specs.Selection.{first_selected}
use Rattle.sigsel.specs.declared.sigsel.Sigsel.{Sigsel}
use Rattle.journal.specs.History.{endpoint_by}
use Rattle.journal.specs.Laws.{IsMakerAtRest}
use Rattle.journal.specs.Logs.{Log}
use Rattle.journal.specs.Rest.{queue_of}
use Rattle.journal.specs.Shapes.{Shape}
use Rattle.journal.specs.declared.by.By.{By}
use Rattle.journal.specs.declared.effect.Step.{Step}
use Rattle.journal.specs.declared.head.Head.{Head}
use Rattle.journal.specs.declared.head.Head.TheVariants.{Take, TakeNone}
use Rattle.link_laws.specs.NotifiedCloses.{AllToldWhole, NeverAfterTold}
use Rattle.link_laws.specs.Promises.{AllGotFronts}
use Rattle.link_laws.specs.Still.{AllStill}
use Rattle.script_lang.specs.Parts.{ScriptParts}
use Rattle.order_lines.specs.Fronts.{OrderedParts, ordered_of}
use Rattle.stage.specs.Plays.{AllFollow}
use Rattle.stage.specs.Turns.{shape_of}
use Rattle.work_gen.specs.Generated.{generated}
use Rattle.command_words.specs.declared.request.Asked.{Asked}
use Rattle.command_words.specs.declared.request.Asked.TheVariants.{Run, InOrder, Gen}
use Rattle.linx_commands.specs.Runs.{IsEmptyLog}

-- something holds of a journal before its first step, and after each one
abbrev pub Throughout : (List Step → Type 0) → List Step → Type 0
Throughout Holds [] = Holds []
Throughout Holds (s ∷ P) = Throughout Holds P × Holds (s ∷ P)

-- a receive found none at rest: nothing in the queue is selected, every other actor has ended or
-- waits in vain with a greater number, and every link is still
pub record FoundNone (shape : Shape) (P : List Step) (by : By) (filter : Sigsel) : Type 0 where
  pub none : first_selected filter (queue_of P (endpoint_by P by)) ≡ None
  pub rest : IsMakerAtRest shape P by
  pub still : AllStill shape P

-- a receive took the earliest item of its endpoint's queue that its filter selects, or found none
abbrev pub IsReceived : Shape → List Step → By → Head → Type 0
IsReceived shape P by (Take filter position) =
    IsSomeAnd (first_selected filter (queue_of P (endpoint_by P by)))
    (λ item. item.pos ≡ position)
IsReceived shape P by (TakeNone filter) = FoundNone shape P by filter
IsReceived shape P by _ = Unit {0}

-- each receive of a journal took the earliest item that it could, or found none at rest
abbrev pub AllReceived : Shape → List Step → Type 0
AllReceived shape [] = Unit {0}
AllReceived shape (s ∷ P) = AllReceived shape P × IsReceived shape P s.by s.head

-- THE HEADLINE, of the journal of a run of a script
pub record Headline (script : ScriptParts) (P : List Step) : Type 0 where
  -- what arrived at an endpoint from any incarnation is a front of what that one sent it
  pub fronts : Throughout AllGotFronts P
  -- complete when its close is notified
  pub complete : AllToldWhole P
  -- and never followed by more
  pub final : NeverAfterTold P
  -- each receive took the earliest item that it selects, or found none at rest
  pub receives : AllReceived (shape_of script) P
  -- each actor's steps are those of its script
  pub follows : AllFollow script P

-- the headline holds of the journal of the script that the source's bytes spell, where it told them
pub record HeadlineOfSource (told : Option (List ℕ)) (log : Log) : Type 0 where
  pub ordered : OrderedParts
  pub spelled : IfSome told (λ bytes. ordered_of bytes ≡ Ok ordered)
  pub headline : Headline ordered.script log.steps

-- what a command hands back: an empty journal, or that of the script which it asks for
abbrev pub HeadlineUnder : Asked → Option (List ℕ) → Log → Type 0
HeadlineUnder Run told log = IsEmptyLog log ⊎ HeadlineOfSource told log
HeadlineUnder (InOrder order) told log = IsEmptyLog log ⊎ HeadlineOfSource told log
HeadlineUnder (Gen n) told log = IsEmptyLog log ⊎ Headline (generated n) log.steps
