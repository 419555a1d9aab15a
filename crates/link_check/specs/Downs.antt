-- The sessions of a node that are up, as a book tells them.
use Rattle.std.specs.Prelude.{ℕ, zero, suc, ◌==◌, List, [], ◌++◌, Option, None, if◌then◌else◌}
use Rattle.linx_base.specs.declared.frame.LinkDecl.{LinkDecl}
use Rattle.linx_base.specs.declared.identity.LinkNo.{LinkNo}
use Rattle.linx_base.specs.declared.identity.Session.{Session}
use Rattle.journal.specs.declared.effect.Effect.{Effect}
use Rattle.link_laws.specs.Laws.{down_if}
use Rattle.link_check.specs.Books.{BookSoFar}
use Rattle.link_check.specs.Lines.{LineSoFar}
use Rattle.link_check.specs.Told.{ends_in, line_in}

-- the session of a node on a link between these nodes, if it is up there
abbrev pub session_of : LinkDecl → LineSoFar → ℕ → Option Session
session_of ends line node =
    if ends.first.0 == node then line.first.up
    else (if ends.second.0 == node then line.second.up else None)

-- on a link of a book
abbrev pub session_on : BookSoFar → LinkNo → ℕ → Option Session
session_on book l node = session_of (ends_in book l) (line_in book l) node

-- the ends of those that are up, on the first so many links, by number
abbrev pub downs_in : BookSoFar → ℕ → ℕ → List Effect
downs_in book node zero = []
downs_in book node (suc k) =
    downs_in book node k ++ down_if node (suc k) (session_on book (record { 0 = suc k }) node)
