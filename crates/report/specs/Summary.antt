-- The summary of a journal: ten lines, each a word and a number.
use Rattle.std.specs.Prelude.{ℕ, ◌++◌, Bool, true, false, List, [], ◌∷◌, length, flat_map, codes}
use Rattle.std.specs.Prelude.{decimal, sum_by}
use Rattle.std.specs.List.{count_by}
use Rattle.journal.specs.declared.head.Head.{Head}
use Rattle.journal.specs.declared.head.Head.TheVariants.{Send, Take, TakeNone}
use Rattle.journal.specs.declared.effect.Effect.{Effect}
use Rattle.journal.specs.declared.effect.Effect.TheVariants.{Opened, Arrived, Found, Notified}
use Rattle.journal.specs.declared.effect.Step.{Step}
use Rattle.journal.specs.Logs.{Log}
use Rattle.report.specs.declared.counting.Happening.{Happening}
use Rattle.report.specs.declared.counting.Happening.TheVariants as happenings
use Rattle.report.specs.declared.counting.Counted.{Counted}
use Rattle.report.specs.declared.counting.Counted.TheVariants.{Effects, Sent, Bytes, Taken}
use Rattle.report.specs.declared.counting.Counted.TheVariants.{FoundNone}

-- the effect is of the kind
abbrev pub is_of_kind : Happening → Effect → Bool
is_of_kind happenings.Opened (Opened i) = true
is_of_kind happenings.Arrived (Arrived i peer note) = true
is_of_kind happenings.Found (Found i peer note hunt) = true
is_of_kind happenings.Notified (Notified i peer note reference reason) = true
is_of_kind _ _ = false

-- what a head adds to a count: a send counts once, and by its data bytes; so do the receives that
-- took an item, and those that found none
abbrev pub head_adds : Counted → Head → ℕ
head_adds Sent (Send peer note answer) = 1
head_adds Bytes (Send peer note answer) = length note.bytes
head_adds Taken (Take filter at) = 1
head_adds FoundNone (TakeNone filter) = 1
head_adds _ _ = 0

-- what a step adds to a count
abbrev pub step_adds : Counted → Step → ℕ
step_adds (Effects kind) s = count_by (is_of_kind kind) s.effects
step_adds Sent s = head_adds Sent s.head
step_adds Bytes s = head_adds Bytes s.head
step_adds Taken s = head_adds Taken s.head
step_adds FoundNone s = head_adds FoundNone s.head

-- what is counted, over all steps
abbrev pub count_over : Counted → List Step → ℕ
count_over counted steps = sum_by (step_adds counted) steps

-- the word of a count in the summary
abbrev pub word_of : Counted → List ℕ
word_of (Effects happenings.Opened) = codes "endpoints"
word_of Sent = codes "sent"
word_of Bytes = codes "bytes"
word_of (Effects happenings.Arrived) = codes "arrived"
word_of (Effects happenings.Found) = codes "found"
word_of (Effects happenings.Notified) = codes "notified"
word_of Taken = codes "taken"
word_of FoundNone = codes "none"

-- what the summary counts, in the order of its lines
abbrev pub all_counted : List Counted
all_counted =
    Effects happenings.Opened ∷ Sent ∷ Bytes ∷ Effects happenings.Arrived
    ∷ Effects happenings.Found ∷ Effects happenings.Notified ∷ Taken ∷ FoundNone ∷ []

-- a line: a word and a number
unfoldable pub summary_line : List ℕ → ℕ → List ℕ
summary_line word count = word ++ codes " " ++ decimal count ++ codes "\n"

-- the line of a count over these steps
abbrev pub count_line : List Step → Counted → List ℕ
count_line steps counted = summary_line (word_of counted) (count_over counted steps)

-- the summary: how many nodes and links there are, and then the counts
unfoldable pub summary_of : Log → List ℕ
summary_of log =
    summary_line (codes "nodes") (length log.names.nodes)
    ++ summary_line (codes "links") (length log.names.links)
    ++ flat_map (count_line log.steps) all_counted
