-- The words of a head, read.
use Rattle.std.specs.Prelude.{ℕ, Option, Some, None, List, [], ◌∷◌, codes, if◌then◌else◌}
use Rattle.std.specs.Str.{bytes_eq}
use Rattle.linx_base.specs.declared.name.Names.{Names}
use Rattle.journal.specs.declared.head.Head.{Head}
use Rattle.journal.specs.declared.head.Head.TheVariants.{Open, Close, Send, Take, TakeNone, Waits}
use Rattle.journal.specs.declared.head.Head.TheVariants.{Hunt, Attach, Detach, Cut, Mend, Settle}
use Rattle.journal.specs.declared.head.Head.TheVariants.{Restart, Wire, Tick, Refused, Ended}
use Rattle.text_words.specs.Gives.{◌>>=◌, made}
use Rattle.text_words.specs.Words.{only, alone}
use Rattle.journal_words.specs.Names.{name_in, named_in}
use Rattle.journal_words.specs.Data.{note_in}
use Rattle.journal_words.specs.Peers.{peer_in, path_in, position_in, reference_in}
use Rattle.journal_words.specs.Filter.{filter_in}
use Rattle.journal_words.specs.Answers.{side_in, verdict_in, sent_in, detached_in, refusal_in}

-- `send PEER SIGNAL ANSWER`, read from the words behind its first one
unfoldable pub send_in : Names → List (List ℕ) → Option Head
send_in names (peer ∷ number ∷ shown ∷ answer ∷ []) = do
  q ← peer_in names peer
  note ← note_in number shown
  sent ← sent_in answer
  Some (Send q note sent)
send_in names _ = None

-- `attach PEER SIGNAL`, read from the words behind its first one
unfoldable pub attach_in : Names → List (List ℕ) → Option Head
attach_in names (peer ∷ number ∷ shown ∷ []) = do
  q ← peer_in names peer
  note ← note_in number shown
  Some (Attach q note)
attach_in names _ = None

-- `hunt PATH SIGNAL`, read from the words behind its first one
unfoldable pub hunt_in : Names → List (List ℕ) → Option Head
hunt_in names (path ∷ number ∷ shown ∷ []) = do
  p ← path_in names path
  note ← note_in number shown
  Some (Hunt p note)
hunt_in names _ = None

-- `take FILTER POSITION`, read from the words behind its first one
unfoldable pub take_in : List (List ℕ) → Option Head
take_in (filter ∷ position ∷ []) = do
  f ← filter_in filter
  at ← position_in position
  Some (Take f at)
take_in _ = None

-- `detach REFERENCE ANSWER`, read from the words behind its first one
unfoldable pub detach_in : List (List ℕ) → Option Head
detach_in (reference ∷ answer ∷ []) = do
  r ← reference_in reference
  detached ← detached_in answer
  Some (Detach (record { 0 = r }) detached)
detach_in _ = None

-- `wire LINK DIRECTION VERDICT`, read from the words behind its first one
unfoldable pub wire_in : Names → List (List ℕ) → Option Head
wire_in names (link ∷ side ∷ verdict ∷ []) = do
  l ← named_in names.links link
  from ← side_in side
  v ← verdict_in verdict
  Some (Wire (record { 0 = l }) from v)
wire_in names _ = None

-- `tick LINK DIRECTION`, read from the words behind its first one
unfoldable pub tick_in : Names → List (List ℕ) → Option Head
tick_in names (link ∷ side ∷ []) = do
  l ← named_in names.links link
  from ← side_in side
  Some (Tick (record { 0 = l }) from)
tick_in names _ = None

-- one word that names a link
abbrev pub link_head : Names → (ℕ → Head) → List (List ℕ) → Option Head
link_head names head words = made head (only words >>= named_in names.links)

-- a head that concerns links, nodes or the maker
unfoldable pub outer_head_in : Names → List ℕ → List (List ℕ) → Option Head
outer_head_in names first words =
    if bytes_eq first (codes "wire") then wire_in names words
    else if bytes_eq first (codes "tick") then tick_in names words
    else if bytes_eq first (codes "cut") then link_head names (λ l. Cut (record { 0 = l })) words
    else if bytes_eq first (codes "mend") then link_head names (λ l. Mend (record { 0 = l })) words
    else if bytes_eq first (codes "settle")
    then link_head names (λ l. Settle (record { 0 = l })) words
    else if bytes_eq first (codes "restart")
    then made (λ n. Restart (record { 0 = n })) (only words >>= named_in names.nodes)
    else if bytes_eq first (codes "refused") then made Refused (only words >>= refusal_in)
    else if bytes_eq first (codes "ended") then alone words Ended
    else None

-- a head that receives, opens or closes; or one of the others
unfoldable pub inner_head_in : Names → List ℕ → List (List ℕ) → Option Head
inner_head_in names first words =
    if bytes_eq first (codes "take") then take_in words
    else if bytes_eq first (codes "none") then made TakeNone (only words >>= filter_in)
    else if bytes_eq first (codes "waits") then made Waits (only words >>= filter_in)
    else if bytes_eq first (codes "open") then made Open (only words >>= name_in)
    else if bytes_eq first (codes "close") then alone words Close
    else outer_head_in names first words

-- the head of a first word and the words behind it: one that sends, hunts, attaches or detaches, or
-- one of the others
unfoldable pub head_in : Names → List ℕ → List (List ℕ) → Option Head
head_in names first words =
    if bytes_eq first (codes "send") then send_in names words
    else if bytes_eq first (codes "hunt") then hunt_in names words
    else if bytes_eq first (codes "attach") then attach_in names words
    else if bytes_eq first (codes "detach") then detach_in words
    else inner_head_in names first words
