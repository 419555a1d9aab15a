-- RARE THINGS of a run.
use Rattle.std.specs.Prelude.{ℕ, Bool, true, false, ◌||◌, List, [], ◌∷◌, codes}
use Rattle.std.specs.List.{list_any}
use Rattle.linx_base.specs.declared.signal.Reason.TheVariants as reasons
use Rattle.journal.specs.declared.head.Head.{Head}
use Rattle.journal.specs.declared.head.Head.TheVariants as heads
use Rattle.journal.specs.declared.head.SentTo.TheVariants as sent
use Rattle.journal.specs.declared.effect.Effect.{Effect}
use Rattle.journal.specs.declared.effect.Effect.TheVariants as effects
use Rattle.journal.specs.declared.effect.Step.{Step}
use Rattle.run_outcomes.specs.declared.rare.Rare.{Rare}
use Rattle.run_outcomes.specs.declared.rare.Rares.{Rares}
use Rattle.run_outcomes.specs.declared.rare.Rare.TheVariants.{Refused, FoundNone, Dead, Closed}
use Rattle.run_outcomes.specs.declared.rare.Rare.TheVariants.{Lost, Down}

-- the word of a rare thing in a report
abbrev pub word_of : Rare → List ℕ
word_of Refused = codes "refused"
word_of FoundNone = codes "none"
word_of Dead = codes "dead"
word_of Closed = codes "closed"
word_of Lost = codes "lost"
word_of Down = codes "down"

-- a head says that a rare thing happened: a refusal, a receive that found nothing, a send to the
-- dead
abbrev pub is_in_head : Rare → Head → Bool
is_in_head Refused (heads.Refused reason) = true
is_in_head FoundNone (heads.TakeNone filter) = true
is_in_head Dead (heads.Send peer note sent.Dead) = true
is_in_head _ _ = false

-- an effect says that a rare thing happened: a notification for this reason, or a session that
-- ended
abbrev pub is_in_effect : Rare → Effect → Bool
is_in_effect Dead (effects.Notified i peer note reference reasons.Dead) = true
is_in_effect Closed (effects.Notified i peer note reference reasons.Closed) = true
is_in_effect Lost (effects.Notified i peer note reference reasons.Lost) = true
is_in_effect Down (effects.Down node link session) = true
is_in_effect _ _ = false

-- a step says that a rare thing happened, in its head or in one of its effects
abbrev pub is_in_step : Rare → Step → Bool
is_in_step rare s = is_in_head rare s.head || list_any (is_in_effect rare) s.effects

-- A RUN HAS A RARE THING: one of its steps says so
abbrev pub happens : Rare → List Step → Bool
happens rare [] = false
happens rare (s ∷ P) = is_in_step rare s || happens rare P

-- which rare things steps have
abbrev pub rares_of : List Step → Rares
rares_of steps = record {
  refused = happens Refused steps;
  found_none = happens FoundNone steps;
  dead = happens Dead steps;
  closed = happens Closed steps;
  lost = happens Lost steps;
  down = happens Down steps;
}

-- a rare thing is among these
abbrev pub has : Rares → Rare → Bool
has rares Refused = rares.refused
has rares FoundNone = rares.found_none
has rares Dead = rares.dead
has rares Closed = rares.closed
has rares Lost = rares.lost
has rares Down = rares.down
