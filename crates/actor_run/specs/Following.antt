-- How an actor's steps follow its commands.
use Rattle.std.specs.Prelude.{is_some, ℕ, ◌≡◌, ◌≤◌, Bool, true, false, not, ◌&&◌, List, []}
use Rattle.std.specs.Prelude.{◌∷◌, length, Option, Some, if◌then◌else◌}
use Rattle.linx_base.specs.declared.identity.Inc.{Inc}
use Rattle.journal.specs.declared.effect.Step.{Step}
use Rattle.journal.specs.History.{is_by, last_endpoint, has_ended}
use Rattle.journal.specs.Rest.{waits_with}
use Rattle.script_words.specs.declared.command.Command.{Command}
use Rattle.node_kernel.specs.Answers.{named, granted, answer_of, is_pumped, is_waits}
use Rattle.node_kernel.specs.declared.answers.StepAnswer.{StepAnswer}
use Rattle.node_kernel.specs.declared.answers.StepAnswer.TheVariants.{Opened}
use Rattle.node_kernel.specs.declared.ask.Ask.{Ask}
use Rattle.actor_run.specs.Knowing.{Knows, knows_nothing, told}
use Rattle.actor_run.specs.Asking.{asked_by, handed}

-- The step is one of the actor's commands. A step on a link, which an actor makes while it settles
-- that link, is none
abbrev pub is_own : Step → ℕ → Bool
is_own s k = is_by s.by k && not (is_pumped s.head)

-- what actor k knows after P: a fold over its own steps
abbrev pub knows : List Command → ℕ → List Step → Knows
knows commands k [] = knows_nothing commands
knows commands k (s ∷ P) =
    if is_own s k
    then told commands (handed commands (knows commands k P) (last_endpoint P k))
    (answer_of P s.head s.effects)
    else knows commands k P

-- what actor k asks for next, after P
abbrev pub next_ask : List Command → ℕ → List Step → Ask
next_ask commands k P = asked_by commands (knows commands k P) (last_endpoint P k)

-- The step is the one that was asked for, by an actor that hasn't ended: it says what was asked, or
-- in its place that the endpoint is open, or isn't; and a receive says at most once that it waits
pub record IsAskedStep (commands : List Command) (k : ℕ) (P : List Step) (s : Step) : Type 0 where
  pub running : has_ended P k ≡ false
  pub names : named s.head ≡ granted P k (next_ask commands k P)
  pub once : is_waits s.head ≡ true → (knows commands k P).waiting ≡ false

-- actor k follows its commands so far: each step of its own is the one that was asked for
abbrev pub Follows : List Command → ℕ → List Step → Type 0
Follows commands k [] = Unit {0}
Follows commands k (s ∷ P) =
    Follows commands k P × (is_own s k ≡ true → IsAskedStep commands k P s)

-- actor k followed its commands and has ended, which it does after its last command
abbrev pub FollowsWhole : List Command → ℕ → List Step → Type 0
FollowsWhole commands k P = Follows commands k P × (has_ended P k ≡ true)

-- the last step of actor k says that it waits
abbrev pub last_waits : List Step → ℕ → Bool
last_waits P k = is_some (waits_with P k)

-- between two turns of actor k, which knows this, and opened that endpoint last
pub record Playing (commands : List Command) (k : ℕ) (P : List Step) (mind : Knows)
    (me : Option Inc) : Type 0 where
  pub follows : Follows commands k P
  pub known : mind ≡ knows commands k P
  pub mine : me ≡ last_endpoint P k
  pub waits : mind.waiting ≡ last_waits P k
  pub home : mind.lent ≡ false
  pub within : mind.place ≤ length commands
  pub running : has_ended P k ≡ false

-- the endpoint that an actor opened last, after an answer
abbrev pub endpoint_after : Option Inc → StepAnswer → Option Inc
endpoint_after me (Opened i) = Some i
endpoint_after me _ = me

-- what holds after a turn of actor k: it has followed its commands to its end where it asked for
-- that, and else goes on
abbrev pub IsTurned : List Command → ℕ → List Step → Knows → Option Inc → Bool → Type 0
IsTurned commands k new mind me true = FollowsWhole commands k new
IsTurned commands k new mind me false = Playing commands k new mind me
