-- Words as peers, paths, makers, positions and references.
use Rattle.std.specs.Prelude.{ℕ, ◌==◌, Option, Some, None, List, [], ◌∷◌, if◌then◌else◌}
use Rattle.linx_base.specs.declared.identity.ItemAt.{ItemAt}
use Rattle.linx_base.specs.declared.identity.Peer.{Peer}
use Rattle.linx_base.specs.declared.identity.Peer.TheVariants.{Here, There}
use Rattle.linx_base.specs.declared.name.Names.{Names}
use Rattle.linx_base.specs.declared.name.Path.{Path}
use Rattle.linx_base.specs.declared.name.Path.TheVariants.{Local, Over}
use Rattle.journal.specs.declared.by.By.{By}
use Rattle.journal.specs.declared.by.By.TheVariants.{Actor, Pump}
use Rattle.text_words.specs.Gives.{◌>>=◌, made}
use Rattle.text_words.specs.Words.{cut_at}
use Rattle.text_words.specs.Numbers.{u32_in, u64_in, halves_in}
use Rattle.journal_words.specs.Names.{name_in, named_in}

-- an endpoint over a link: the name of the link, its session and its incarnation
abbrev pub there_by : Names → List ℕ → List ℕ × List ℕ → Option Peer
there_by names name parts = do
  link ← named_in names.links name
  session ← halves_in parts.0
  inc ← halves_in parts.1
  Some (There (record { 0 = link }) (record { 0 = session }) (record { 0 = inc }))

-- an incarnation, or an endpoint over a link
abbrev pub peer_by : Names → List ℕ → Option (List ℕ × List ℕ) → Option Peer
peer_by names word None = made (λ n. Here (record { 0 = n })) (halves_in word)
peer_by names word (Some parts) = cut_at 58 parts.1 >>= there_by names parts.0

-- the peer that a word spells
unfoldable pub peer_in : Names → List ℕ → Option Peer
peer_in names word = peer_by names word (cut_at 58 word)

-- a name, or a link and a name behind a slash
abbrev pub path_by : Names → List ℕ → Option (List ℕ × List ℕ) → Option Path
path_by names word None = made Local (name_in word)
path_by names word (Some parts) = do
  link ← named_in names.links parts.0
  name ← name_in parts.1
  Some (Over (record { 0 = link }) name)

-- the path that a word spells
unfoldable pub path_in : Names → List ℕ → Option Path
path_in names word = path_by names word (cut_at 47 word)

-- `A` and an actor's number, or `P` and a link's
unfoldable pub maker_in : List ℕ → Option By
maker_in [] = None
maker_in (b ∷ digits) =
    if b == 65 then made Actor (u32_in digits)
    else if b == 80 then made (λ n. Pump (record { 0 = n })) (u32_in digits)
    else None

-- a step, and a place in it
abbrev pub position_by : List ℕ × List ℕ → Option ItemAt
position_by parts = do
  step ← u64_in parts.0
  place ← u64_in parts.1
  Some (record { step = step; place = place })

-- the position of an item that a word spells
unfoldable pub position_in : List ℕ → Option ItemAt
position_in word = cut_at 46 word >>= position_by

-- `@` and a step
unfoldable pub reference_in : List ℕ → Option ℕ
reference_in [] = None
reference_in (b ∷ digits) = if b == 64 then u64_in digits else None
