-- A fabric as a story: its steps with their makers' numbers, and what no step changes.
use Rattle.std.specs.Prelude.{ℕ, ◌+◌, List, [], length, map}
use Rattle.linx_base.specs.declared.name.Names.{Names}
use Rattle.journal.specs.declared.by.By.{By}
use Rattle.journal.specs.declared.by.By.TheVariants.{Actor, Pump}
use Rattle.journal.specs.declared.effect.Step.{Step}
use Rattle.journal.specs.Shapes.{Shape}
use Rattle.fabric.specs.Run.{Layout}
use Rattle.turn_lock.specs.declared.story.Made.{Made}
use Rattle.turn_lock.specs.Stories.{made}

-- what no step changes: the names, the links and the actors' nodes
pub record PlanParts : Type 0 where
  pub names : Names
  pub shape : Shape

-- what no step changes of a fabric
abbrev pub plan_of : Layout → PlanParts
plan_of f = record { names = f.log.names; shape = f.shape }

-- the plan of a fabric on which nothing is declared
abbrev pub empty_plan : PlanParts
empty_plan = record {
  names = record { nodes = []; links = [] };
  shape = record { links = []; actors = [] };
}

-- THE NUMBER OF A MAKER: an actor's own, and for the pump of a link the link's, behind those of all
-- actors
abbrev pub maker_number : Shape → By → ℕ
maker_number shape (Actor k) = k
maker_number shape (Pump link) = length shape.actors + link.0

-- a step with its maker's number
abbrev pub numbered : Shape → Step → Made Step
numbered shape s = made (maker_number shape s.by) s

-- the story that a history tells, the newest step first
abbrev pub made_steps : Shape → List Step → List (Made Step)
made_steps shape P = map (numbered shape) P

-- the story of a fabric's steps, the newest step first
abbrev pub story_of : Layout → List (Made Step)
story_of f = made_steps f.shape f.log.steps

-- the steps of a story
abbrev pub steps_in : List (Made Step) → List Step
steps_in story = map (λ m. m.step) story
