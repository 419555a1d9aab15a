use Rattle.std.specs.Prelude.{ℕ, ◌&&◌, ◌==◌, List, [], ◌∷◌, Option, Some, None, if◌then◌else◌}
use Rattle.linx_base.specs.declared.identity.Session.{Session}
use Rattle.journal.specs.declared.effect.Effect.{Effect}
use Rattle.journal.specs.declared.effect.Effect.TheVariants.{Up, Down}
use Rattle.journal.specs.declared.effect.Step.{Step}

-- the session of a node on a link after an effect
abbrev pub session_after : ℕ → ℕ → Option Session → Effect → Option Session
session_after node link before (Up n l x y) = if n.0 == node && l.0 == link then Some x else before
session_after node link before (Down n l x) = if n.0 == node && l.0 == link then None else before
session_after node link before _ = before

-- the session of a node on a link after some effects, in order
abbrev pub session_past : ℕ → ℕ → Option Session → List Effect → Option Session
session_past node link before [] = before
session_past node link before (e ∷ es) =
    session_past node link (session_after node link before e) es

-- the session of a node on a link that is up: of the last Up there, unless a Down followed
abbrev pub up_session : List Step → ℕ → ℕ → Option Session
up_session [] node link = None
up_session (s ∷ P) node link = session_past node link (up_session P node link) s.effects
