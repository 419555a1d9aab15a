-- The node and the link that a line names, and the number that it tells of each.
use Rattle.std.specs.Prelude.{ℕ, Bool, ◌||◌, ◌==◌, List, [], ◌∷◌, Option, Some, None, codes}
use Rattle.std.specs.Prelude.{if◌then◌else◌, option_map}
use Rattle.std.specs.Str.{bytes_eq}
use Rattle.linx_base.specs.Numbers.{high_half}
use Rattle.text_words.specs.Gives.{made}
use Rattle.text_words.specs.Words.{cut_at}
use Rattle.text_words.specs.Numbers.{halves_in, u32_in}
use Rattle.text_names.specs.FirstWords.{Words}

-- the effect of this first word names a node and a link
abbrev pub is_link_effect : List ℕ → Bool
is_link_effect word = bytes_eq word (codes "up") || bytes_eq word (codes "down")

-- the effect of this first word names a node
abbrev pub is_node_effect : List ℕ → Bool
is_node_effect word =
    is_link_effect word || bytes_eq word (codes "met") || bytes_eq word (codes "gone")

-- the effect of this first word names a peer behind an endpoint or a node
abbrev pub is_peer_effect : List ℕ → Bool
is_peer_effect word =
    bytes_eq word (codes "arrived") || bytes_eq word (codes "found")
    || bytes_eq word (codes "notified") || bytes_eq word (codes "met")
    || bytes_eq word (codes "gone")

-- the head of this first word names a peer or a path
abbrev pub is_peer_head : List ℕ → Bool
is_peer_head word =
    bytes_eq word (codes "send") || bytes_eq word (codes "attach")
    || bytes_eq word (codes "hunt")

-- the head of this first word is met on a link by its pump
abbrev pub is_pump_head : List ℕ → Bool
is_pump_head word = bytes_eq word (codes "wire") || bytes_eq word (codes "tick")

-- the head of this first word names a link
abbrev pub is_link_head : List ℕ → Bool
is_link_head word =
    is_pump_head word || bytes_eq word (codes "cut") || bytes_eq word (codes "mend")
    || bytes_eq word (codes "settle")

-- the link of a path: what stands before a slash
abbrev pub path_link : List ℕ → Option (List ℕ)
path_link word = option_map (λ parts. parts.0) (cut_at 47 word)

-- the link of a peer: what stands before the first of two colons
abbrev pub peer_link : List ℕ × List ℕ → Option (List ℕ)
peer_link parts = option_map (λ behind. parts.0) (cut_at 58 parts.1)

-- the link of a peer or of a path
abbrev pub link_by : List ℕ → Option (List ℕ × List ℕ) → Option (List ℕ)
link_by word None = path_link word
link_by word (Some parts) = peer_link parts

-- the link of a word that may be a peer or a path
abbrev pub link_before : List ℕ → Option (List ℕ)
link_before word = link_by word (cut_at 58 word)

-- the link of a word that names it alone, or before a peer or a name, or not at all
abbrev pub link_at : List ℕ → Bool → Bool → Option (List ℕ)
link_at word is_alone is_before =
    if is_alone then Some word else if is_before then link_before word else None

-- the link that a line of a step names
unfoldable pub link_named : Words → Option (List ℕ)
link_named words =
    if bytes_eq words.first (codes "+")
    then link_at words.fourth (is_link_effect words.second) (is_peer_effect words.second)
    else link_at words.fourth (is_link_head words.third) (is_peer_head words.third)

-- the node that a line of a step names
unfoldable pub node_named : Words → Option (List ℕ)
node_named words =
    if bytes_eq words.first (codes "+")
    then if is_node_effect words.second then Some words.third else None
    else if bytes_eq words.third (codes "restart") then Some words.fourth else None

-- the number of a node that a line tells: the title of a log shows it in its incarnation
unfoldable pub node_told : Words → Option ℕ
node_told words =
    if bytes_eq words.first (codes "log") then made high_half (halves_in words.second) else None

-- the number of a pump
abbrev pub pump_in : List ℕ → Option ℕ
pump_in [] = None
pump_in (b ∷ digits) = if b == 80 then u32_in digits else None

-- the number of a link that a line tells: its pump's, which meets a packet or a tick
unfoldable pub link_told : Words → Option ℕ
link_told words = if is_pump_head words.third then pump_in words.second else None
