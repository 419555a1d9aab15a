-- What is said beside a mark: some words of its line, by what the mark is of.
use Rattle.std.specs.Prelude.{ℕ, zero, suc, ◌+◌, ◌-◌, ◌==◌, if◌then◌else◌, List, [], ◌∷◌, ◌++◌}
use Rattle.std.specs.Prelude.{length, take, drop, position, Option, Some, None, codes}
use Rattle.std.specs.Str.{bytes_eq}
use Rattle.journal.specs.declared.head.SentTo.{SentTo}
use Rattle.journal.specs.declared.head.SentTo.TheVariants.{Queued, Link, Dead}
use Rattle.linx_base.specs.declared.frame.Verdict.{Verdict}
use Rattle.linx_base.specs.declared.frame.Verdict.TheVariants.{Deliver, Lose, Repeat, Swap}
use Rattle.chart.specs.declared.mark.MarkKind.{MarkKind}
use Rattle.chart.specs.declared.mark.MarkKind.TheVariants as kinds

-- where the first space is
abbrev pub space_in : List ℕ → Option ℕ
space_in bytes = position (λ (b : ℕ). b == 32) bytes

-- the bytes before the space at this place; all of them where there is no space
abbrev pub word_if : Option ℕ → List ℕ → List ℕ
word_if None bytes = bytes
word_if (Some k) bytes = take k bytes

-- the first word: the bytes before the first space
abbrev pub first_word : List ℕ → List ℕ
first_word bytes = word_if (space_in bytes) bytes

-- the bytes behind the space at this place; none where there is no space
abbrev pub behind_if : Option ℕ → List ℕ → List ℕ
behind_if None bytes = []
behind_if (Some k) bytes = drop (k + 1) bytes

-- what is behind the first space
abbrev pub behind_word : List ℕ → List ℕ
behind_word bytes = behind_if (space_in bytes) bytes

-- what is behind so many words
abbrev pub behind_words : ℕ → List ℕ → List ℕ
behind_words zero line = line
behind_words (suc k) line = behind_word (behind_words k line)

-- the word of this number, from 0
abbrev pub word_at : ℕ → List ℕ → List ℕ
word_at k line = first_word (behind_words k line)

-- where the first colon is
abbrev pub colon_in : List ℕ → Option ℕ
colon_in word = position (λ (b : ℕ). b == 58) word

-- a word with a colon at this place: where a digest of 64 digits stands behind it, only how many
-- bytes of data there are
abbrev pub brief_if : Option ℕ → List ℕ → List ℕ
brief_if None word = word
brief_if (Some k) word =
    if length word - k == 65 then codes "[" ++ take k word ++ codes "B]" else word

-- a word; of data that a digest of 64 digits stands for, behind a colon, only how many bytes there are
abbrev pub brief : List ℕ → List ℕ
brief word = brief_if (colon_in word) word

-- a word behind others; a dash, which says that there are no data, is left out
abbrev pub with_word : List ℕ → List ℕ → List ℕ
with_word so_far word =
    if bytes_eq word (codes "-") then so_far
    else (if length so_far == 0 then brief word else so_far ++ codes " " ++ brief word)

-- these words of a line behind others, with spaces between
abbrev pub with_words : List ℕ → List ℕ → List ℕ → List ℕ
with_words line so_far [] = so_far
with_words line so_far (k ∷ more) = with_words line (with_word so_far (word_at k line)) more

-- which words of its line a send shows: the signal, and whether its peer was dead
abbrev pub send_words : SentTo → List ℕ
send_words Queued = 3 ∷ 4 ∷ []
send_words Link = 3 ∷ 4 ∷ []
send_words Dead = 3 ∷ 4 ∷ 5 ∷ []

-- which words a packet shows: what became of it, where it isn't just delivered
abbrev pub packet_words : Verdict → List ℕ
packet_words Deliver = []
packet_words Lose = 4 ∷ []
packet_words Repeat = 4 ∷ []
packet_words (Swap place) = 4 ∷ []

-- which words of its line a mark shows
unfoldable pub shown_words : MarkKind → List ℕ
shown_words (kinds.Send answer) = send_words answer
shown_words (kinds.Packet verdict) = packet_words verdict
shown_words kinds.Close = 1 ∷ []
shown_words kinds.TakeNone = 1 ∷ []
shown_words kinds.Tick = 1 ∷ []
shown_words kinds.Ended = 1 ∷ []
shown_words kinds.Gone = 1 ∷ []
shown_words kinds.Take = 1 ∷ 3 ∷ []
shown_words (kinds.Detach answer) = 1 ∷ 3 ∷ []
shown_words kinds.Found = 1 ∷ 4 ∷ []
shown_words kinds.Met = 1 ∷ 4 ∷ []
shown_words kinds.Up = 1 ∷ 4 ∷ []
shown_words kinds.Down = 1 ∷ 4 ∷ []
shown_words kinds.Opened = 2 ∷ []
shown_words kinds.Closed = []
shown_words kinds.Arrived = 4 ∷ 5 ∷ []
shown_words kinds.Notified = 4 ∷ 7 ∷ []
shown_words _ = 1 ∷ 2 ∷ []

-- THE LABEL OF A MARK, in words of its line
unfoldable pub label_of : MarkKind → List ℕ → List ℕ
label_of kind line = with_words line [] (shown_words kind)
