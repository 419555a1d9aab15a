-- The sessions of a node's side of a link, its silence, and cut links, cut out of the history.
use Rattle.std.specs.Prelude.{ℕ, suc, ◌+◌, ◌≡◌, Bool, true, false, ◌&&◌, ◌||◌, ◌==◌, List, []}
use Rattle.std.specs.Prelude.{◌∷◌, Option, Some, None, if◌then◌else◌}
use Rattle.std.specs.List.{list_any, fold}
use Rattle.linx_base.specs.Numbers.{is_on, session_of}
use Rattle.linx_base.specs.declared.frame.Verdict.{Verdict}
use Rattle.linx_base.specs.declared.frame.Verdict.TheVariants.{Lose}
use Rattle.linx_base.specs.declared.identity.LinkNo.{LinkNo}
use Rattle.linx_base.specs.declared.identity.Peer.TheVariants.{There}
use Rattle.linx_base.specs.declared.identity.Session.{Session}
use Rattle.linx_base.specs.declared.identity.Side.{Side}
use Rattle.linx_base.specs.declared.identity.Side.TheVariants.{First, Second}
use Rattle.journal.specs.declared.effect.Effect.{Effect}
use Rattle.journal.specs.declared.effect.Effect.TheVariants.{Arrived, Met, Gone, Up, Down}
use Rattle.journal.specs.declared.effect.Step.{Step}
use Rattle.journal.specs.declared.head.Head.{Head}
use Rattle.journal.specs.declared.head.Head.TheVariants.{Cut, Mend, Restart, Tick}

-- PAIRS. The session of the other side that session x of a node is paired with after an effect,
-- which its Up names
abbrev pub paired_after : ℕ → ℕ → Session → Option Session → Effect → Option Session
paired_after node link x before (Up n l z y) =
    if n.0 == node && l.0 == link && z.0 == x.0 then Some y else before
paired_after node link x before _ = before

-- the session of the other side that session x of a node is paired with; none where it never went
-- up
abbrev pub paired_session : List Step → ℕ → ℕ → Session → Option Session
paired_session [] node link x = None
paired_session (s ∷ P) node link x =
    fold (paired_after node link x) (paired_session P node link x) s.effects

-- THE OWN SESSION. The head restarts this node
abbrev pub restarts : ℕ → Head → Bool
restarts node (Restart n) = n.0 == node
restarts node _ = false

-- the effect ends a session of the node on the link
abbrev pub ends_session : ℕ → ℕ → Effect → Bool
ends_session node link (Down n l x) = n.0 == node && l.0 == link
ends_session node link _ = false

-- how often a node was restarted
abbrev pub boots : List Step → ℕ → ℕ
boots [] node = 0
boots (s ∷ P) node = if restarts node s.head then suc (boots P node) else boots P node

-- how often a node's side of a link went down since the last restart
abbrev pub downs : List Step → ℕ → ℕ → ℕ
downs [] node link = 0
downs (s ∷ P) node link =
    if restarts node s.head then 0
    else (if list_any (ends_session node link) s.effects then suc (downs P node link)
    else downs P node link)

-- the session that a node's side of a link has, up or not
abbrev pub own_session : List Step → ℕ → ℕ → Session
own_session P node link = session_of (1 + boots P node) (1 + downs P node link)

-- the side has this session, or had it
abbrev pub had_session : List Step → ℕ → ℕ → Session → Bool
had_session [] node link y = (own_session [] node link).0 == y.0
had_session (s ∷ P) node link y =
    (own_session (s ∷ P) node link).0 == y.0 || had_session P node link y

-- SILENCE. The effect tells that a node's side of a link heard: it went up, or a peer was met or
-- parted or sent a signal. A question, or a packet that brings nothing, has no effect that tells
abbrev pub tells_heard : ℕ → ℕ → Effect → Bool
tells_heard node link (Up n l x y) = n.0 == node && l.0 == link
tells_heard node link (Met n (There l x i) name) = n.0 == node && l.0 == link
tells_heard node link (Gone n (There l x i)) = n.0 == node && l.0 == link
tells_heard node link (Arrived b (There l x i) note) = is_on node b && l.0 == link
tells_heard node link _ = false

-- two sides of a link are one
abbrev pub same_side : Side → Side → Bool
same_side First First = true
same_side First Second = false
same_side Second First = false
same_side Second Second = true

-- the head ticks a side of a link
abbrev pub ticks : ℕ → Side → Head → Bool
ticks link side (Tick l at) = l.0 == link && same_side side at
ticks link side _ = false

-- the ticks of a side since the history tells that it heard
abbrev pub silent_ticks : List Step → ℕ → ℕ → Side → ℕ
silent_ticks [] node link side = 0
silent_ticks (s ∷ P) node link side =
    if list_any (tells_heard node link) s.effects then 0
    else (if ticks link side s.head then suc (silent_ticks P node link side)
    else silent_ticks P node link side)

-- CUTS. A link is cut after a head: of its cuts and mends the last is a cut
abbrev pub cut_after : ℕ → Bool → Head → Bool
cut_after link before (Cut l) = if l.0 == link then true else before
cut_after link before (Mend l) = if l.0 == link then false else before
cut_after link before _ = before

-- the link is cut after all steps so far
abbrev pub is_cut : List Step → ℕ → Bool
is_cut [] link = false
is_cut (s ∷ P) link = cut_after link (is_cut P link) s.head

-- the verdict on a packet of the link is to lose it while the link is cut
abbrev pub LosesIfCut : List Step → LinkNo → Verdict → Type 0
LosesIfCut P l verdict = is_cut P l.0 ≡ true → verdict ≡ Lose
