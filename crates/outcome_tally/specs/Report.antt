-- THE REPORT of what came of some runs.
use Rattle.std.specs.Prelude.{ℕ, zero, suc, ◌+◌, ◌-◌, List, [], ◌∷◌, ◌++◌, codes, decimal, length}
use Rattle.std.specs.Prelude.{Option, None, Some}
use Rattle.run_outcomes.specs.Differences.{differences_text}
use Rattle.run_outcomes.specs.Rare.{word_of}
use Rattle.run_outcomes.specs.declared.rare.Rare.TheVariants.{Refused, FoundNone, Dead, Closed}
use Rattle.run_outcomes.specs.declared.rare.Rare.TheVariants.{Lost, Down}
use Rattle.outcome_tally.specs.OutcomeParts.{OutcomeParts}
use Rattle.outcome_tally.specs.Ranking.{most_of}
use Rattle.outcome_tally.specs.TallyParts.{TallyParts}
use Rattle.outcome_tally.specs.declared.rare_times.RareTimes.{RareTimes}
use Rattle.outcome_tally.specs.declared.span.Span.{Span}
use Rattle.outcome_tally.specs.declared.times.Times.{Times}

-- ---- its words

-- a line of a word and a number
unfoldable pub count_line : List ℕ → ℕ → List ℕ
count_line word n = word ++ codes " " ++ decimal n ++ codes "\n"

-- the first seed, if there is one
abbrev pub first_text : Option ℕ → List ℕ
first_text None = []
first_text (Some seed) = codes " seed " ++ decimal seed

-- the end of a line: in how many runs something came, and the seed of the first of them
unfoldable pub times_text : Times → List ℕ
times_text t = decimal t.runs ++ first_text t.first ++ codes "\n"

-- the line of what came so often
unfoldable pub times_line : List ℕ → Times → List ℕ
times_line word t = word ++ codes " " ++ times_text t

-- ---- its head

-- of how many runs the journal was full before the end; only where there are some
abbrev pub full_if_some : Times → Option ℕ → List ℕ
full_if_some t None = []
full_if_some t (Some seed) = times_line (codes "full") t

-- the line that says of how many runs the journal was full before the end; none where it was of
-- none
abbrev pub full_text : Times → List ℕ
full_text t = full_if_some t t.first

-- between which numbers of steps the whole runs lie; only where there are some
abbrev pub steps_text : Option Span → List ℕ
steps_text None = []
steps_text (Some s) =
    codes "steps " ++ decimal s.least ++ codes " " ++ decimal s.most ++ codes "\n"

-- the head of a report: how many runs there were, how many had a full journal, and how many steps
-- the whole ones had
unfoldable pub heads_text : ℕ → Times → Option Span → List ℕ
heads_text runs full steps =
    count_line (codes "runs") runs ++ full_text full ++ steps_text steps

-- ---- the outcomes

-- the line of an outcome, and where it differs from the first one, for each actor that was told
-- otherwise
unfoldable pub outcome_text : ℕ → ℕ → List ℕ → OutcomeParts → List ℕ
outcome_text actors rank first o =
    codes "outcome " ++ decimal rank ++ codes " " ++ times_text o.times
    ++ differences_text actors o.text first

-- the lines of these outcomes, from this rank on
abbrev pub listed_text : ℕ → ℕ → List ℕ → List OutcomeParts → List ℕ
listed_text actors rank first [] = []
listed_text actors rank first (o ∷ rest) =
    outcome_text actors rank first o ++ listed_text actors (rank + 1) first rest

-- how many aren't listed; only where there are some
abbrev pub others_text : ℕ → List ℕ
others_text zero = []
others_text (suc n) = count_line (codes "others") (suc n)

-- the text of the first of some outcomes
abbrev pub first_of : List OutcomeParts → List ℕ
first_of [] = []
first_of (o ∷ rest) = o.text

-- the outcomes of which these are listed
abbrev pub with_listed : ℕ → List OutcomeParts → List OutcomeParts → List ℕ
with_listed actors came listed =
    listed_text actors 1 (first_of listed) listed ++ others_text (length came - length listed)

-- how many outcomes came, those that came most often, and how many others
unfoldable pub outcomes_text : ℕ → List OutcomeParts → List ℕ
outcomes_text actors came =
    count_line (codes "outcomes") (length came) ++ with_listed actors came (most_of came)

-- ---- the rare things

-- the lines of the rare things, each with the runs that had it
unfoldable pub rares_text : RareTimes → List ℕ
rares_text t =
    times_line (word_of Refused) t.refused ++ times_line (word_of FoundNone) t.found_none
    ++ times_line (word_of Dead) t.dead ++ times_line (word_of Closed) t.closed
    ++ times_line (word_of Lost) t.lost ++ times_line (word_of Down) t.down

-- ---- the whole

-- THE REPORT of runs of a script with so many actors
abbrev pub report_text : ℕ → TallyParts → List ℕ
report_text actors t =
    heads_text t.runs t.full t.steps ++ outcomes_text actors t.came ++ rares_text t.rares
