-- How many of some steps are a strip's, and whether one of these lost a packet.
use Rattle.std.specs.Prelude.{◌+◌, Bool, true, false, ◌||◌, List, [], ◌∷◌, if◌then◌else◌}
use Rattle.linx_base.specs.declared.frame.Verdict.TheVariants.{Lose}
use Rattle.journal.specs.declared.head.Head.{Head}
use Rattle.journal.specs.declared.head.Head.TheVariants.{Wire}
use Rattle.journal.specs.declared.effect.Step.{Step}
use Rattle.chart_map.specs.declared.strips.Strip.{Strip}
use Rattle.chart_map.specs.declared.tally.Tally.{Tally}
use Rattle.chart_map.specs.Strips.{is_of}

-- a packet is lost
abbrev pub is_lost : Head → Bool
is_lost (Wire link side Lose) = true
is_lost _ = false

-- no step
abbrev pub no_tally : Tally
no_tally = record { steps = 0; lost = false }

-- a tally with a step more, where it is one of the strip
abbrev pub with_step : Strip → Step → Tally → Tally
with_step strip s tally =
    if is_of strip s
    then record { steps = tally.steps + 1; lost = tally.lost || is_lost s.head }
    else tally

-- HOW MANY OF THESE STEPS ARE A STRIP'S, and whether one of them lost a packet
abbrev pub tally_of : Strip → List Step → Tally
tally_of strip [] = no_tally
tally_of strip (s ∷ P) = with_step strip s (tally_of strip P)
