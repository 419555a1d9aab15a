-- The words of an effect, read.
use Rattle.std.specs.Prelude.{ℕ, Option, Some, None, List, [], ◌∷◌, codes, if◌then◌else◌}
use Rattle.std.specs.Str.{bytes_eq}
use Rattle.linx_base.specs.declared.identity.Session.{Session}
use Rattle.linx_base.specs.declared.name.Names.{Names}
use Rattle.journal.specs.declared.effect.Effect.{Effect}
use Rattle.journal.specs.declared.effect.Effect.TheVariants.{Opened, Closed, Arrived, Found}
use Rattle.journal.specs.declared.effect.Effect.TheVariants.{Notified, Met, Gone, Up, Down}
use Rattle.text_words.specs.Gives.{◌>>=◌, made}
use Rattle.text_words.specs.Words.{only}
use Rattle.text_words.specs.Numbers.{halves_in}
use Rattle.journal_words.specs.Names.{name_in, named_in}
use Rattle.journal_words.specs.Data.{note_in}
use Rattle.journal_words.specs.Peers.{peer_in, reference_in}
use Rattle.journal_words.specs.Answers.{reason_in}

-- `arrived INC PEER SIGNAL`, read from the words behind its first one
unfoldable pub arrived_in : Names → List (List ℕ) → Option Effect
arrived_in names (inc ∷ peer ∷ number ∷ shown ∷ []) = do
  i ← halves_in inc
  q ← peer_in names peer
  note ← note_in number shown
  Some (Arrived (record { 0 = i }) q note)
arrived_in names _ = None

-- `found INC PEER SIGNAL REFERENCE`, read from the words behind its first one
unfoldable pub found_in : Names → List (List ℕ) → Option Effect
found_in names (inc ∷ peer ∷ number ∷ shown ∷ reference ∷ []) = do
  i ← halves_in inc
  q ← peer_in names peer
  note ← note_in number shown
  hunt ← reference_in reference
  Some (Found (record { 0 = i }) q note hunt)
found_in names _ = None

-- `notified INC PEER SIGNAL REFERENCE REASON`, read from the words behind its first one
unfoldable pub notified_in : Names → List (List ℕ) → Option Effect
notified_in names (inc ∷ peer ∷ number ∷ shown ∷ reference ∷ reason ∷ []) = do
  i ← halves_in inc
  q ← peer_in names peer
  note ← note_in number shown
  r ← reference_in reference
  why ← reason_in reason
  Some (Notified (record { 0 = i }) q note (record { 0 = r }) why)
notified_in names _ = None

-- `met NODE PEER NAME`, read from the words behind its first one
unfoldable pub met_in : Names → List (List ℕ) → Option Effect
met_in names (node ∷ peer ∷ name ∷ []) = do
  n ← named_in names.nodes node
  q ← peer_in names peer
  called ← name_in name
  Some (Met (record { 0 = n }) q called)
met_in names _ = None

-- `gone NODE PEER`, read from the words behind its first one
unfoldable pub gone_in : Names → List (List ℕ) → Option Effect
gone_in names (node ∷ peer ∷ []) = do
  n ← named_in names.nodes node
  q ← peer_in names peer
  Some (Gone (record { 0 = n }) q)
gone_in names _ = None

-- a session of the own side, and one of the other
unfoldable pub sessions_in : List (List ℕ) → Option (Session × Session)
sessions_in (session ∷ other ∷ []) = do
  own ← halves_in session
  theirs ← halves_in other
  Some (record { 0 = own }, record { 0 = theirs })
sessions_in _ = None

-- `up NODE LINK SESSION OTHER`, read from the words behind its first one
unfoldable pub up_in : Names → List (List ℕ) → Option Effect
up_in names (node ∷ link ∷ words) = do
  n ← named_in names.nodes node
  l ← named_in names.links link
  both ← sessions_in words
  Some (Up (record { 0 = n }) (record { 0 = l }) both.0 both.1)
up_in names _ = None

-- `down NODE LINK SESSION`, read from the words behind its first one
unfoldable pub down_in : Names → List (List ℕ) → Option Effect
down_in names (node ∷ link ∷ session ∷ []) = do
  n ← named_in names.nodes node
  l ← named_in names.links link
  own ← halves_in session
  Some (Down (record { 0 = n }) (record { 0 = l }) (record { 0 = own }))
down_in names _ = None

-- an effect that concerns a node
unfoldable pub node_effect_in : Names → List ℕ → List (List ℕ) → Option Effect
node_effect_in names first words =
    if bytes_eq first (codes "met") then met_in names words
    else if bytes_eq first (codes "gone") then gone_in names words
    else if bytes_eq first (codes "up") then up_in names words
    else if bytes_eq first (codes "down") then down_in names words
    else None

-- the effect of a first word and the words behind it: one that concerns an endpoint, or a node
unfoldable pub effect_in : Names → List ℕ → List (List ℕ) → Option Effect
effect_in names first words =
    if bytes_eq first (codes "arrived") then arrived_in names words
    else if bytes_eq first (codes "found") then found_in names words
    else if bytes_eq first (codes "notified") then notified_in names words
    else if bytes_eq first (codes "opened")
    then made (λ n. Opened (record { 0 = n })) (only words >>= halves_in)
    else if bytes_eq first (codes "closed")
    then made (λ n. Closed (record { 0 = n })) (only words >>= halves_in)
    else node_effect_in names first words
