-- What came to a node in a session of a link, and what it sent there, the newest first.
use Rattle.std.specs.Prelude.{ℕ, ◌&&◌, ◌==◌, List, [], ◌∷◌, ◌++◌, Option, Some, None, if◌then◌else◌}
use Rattle.std.specs.List.{fold}
use Rattle.linx_base.specs.Numbers.{is_on}
use Rattle.linx_base.specs.declared.identity.Inc.{Inc}
use Rattle.linx_base.specs.declared.identity.Peer.TheVariants.{There}
use Rattle.linx_base.specs.declared.identity.Session.{Session}
use Rattle.trunk_record.specs.Sayings.{Given, Said, arrived, gone, met, signaled}
use Rattle.journal.specs.History.{endpoint_by}
use Rattle.journal.specs.Traffic.{was_sent}
use Rattle.journal.specs.declared.effect.Effect.{Effect}
use Rattle.journal.specs.declared.effect.Effect.TheVariants.{Arrived, Gone, Met}
use Rattle.journal.specs.declared.effect.Step.{Step}
use Rattle.journal.specs.declared.head.Head.{Head}
use Rattle.journal.specs.declared.head.Head.TheVariants.{Send}

-- what an effect adds: a peer that was met or has gone, a signal that arrived
abbrev pub came_after : ℕ → ℕ → Session → List Given → Effect → List Given
came_after node link x before (Met n (There l y a) name) =
    if n.0 == node && l.0 == link && y.0 == x.0 then met a name ∷ before else before
came_after node link x before (Gone n (There l y a)) =
    if n.0 == node && l.0 == link && y.0 == x.0 then gone a ∷ before else before
came_after node link x before (Arrived b (There l y a) note) =
    if is_on node b && l.0 == link && y.0 == x.0 then arrived a b note ∷ before else before
came_after node link x before _ = before

-- what came in all steps so far
abbrev pub came_in : List Step → ℕ → ℕ → Session → List Given
came_in [] node link x = []
came_in (s ∷ P) node link x = fold (came_after node link x) (came_in P node link x) s.effects

-- the signal that an endpoint of the node sends by this head in the session
abbrev pub signal_over : ℕ → ℕ → Session → Option Inc → Head → List Said
signal_over node link x None head = []
signal_over node link x (Some j) (Send (There l y b) note answer) =
    if was_sent answer && is_on node j && l.0 == link && y.0 == x.0 then signaled j b note ∷ []
    else []
signal_over node link x (Some j) _ = []

-- what was sent in all steps so far
abbrev pub sent_in : List Step → ℕ → ℕ → Session → List Said
sent_in [] node link x = []
sent_in (s ∷ P) node link x =
    signal_over node link x (endpoint_by P s.by) s.head ++ sent_in P node link x
