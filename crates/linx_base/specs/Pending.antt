-- What is pending at a node: hunts for a path, and attaches to a peer.
use Rattle.std.specs.Prelude.{Bool, false, ◌&&◌, ◌==◌, List, Option, Some, None, if◌then◌else◌, ℕ}
use Rattle.std.specs.List.{filter_map}
use Rattle.linx_base.specs.Peers.{same_inc, same_path}
use Rattle.linx_base.specs.declared.identity.AttRef.{AttRef}
use Rattle.linx_base.specs.declared.identity.Inc.{Inc}
use Rattle.linx_base.specs.declared.identity.LinkNo.{LinkNo}
use Rattle.linx_base.specs.declared.identity.Peer.{Peer}
use Rattle.linx_base.specs.declared.identity.Peer.TheVariants.{Here, There}
use Rattle.linx_base.specs.declared.identity.Session.{Session}
use Rattle.linx_base.specs.declared.name.Path.{Path}
use Rattle.linx_base.specs.declared.name.Path.TheVariants.{Local, Over}
use Rattle.linx_base.specs.declared.pending.PendingAttach.{PendingAttach}
use Rattle.linx_base.specs.declared.pending.PendingHunt.{PendingHunt}

-- a peer of this session of a link
abbrev pub is_of_session : LinkNo → Session → Peer → Bool
is_of_session l x (Here i) = false
is_of_session l x (There m y i) = m.0 == l.0 && y.0 == x.0

-- the attach has this holder and this reference
abbrev pub is_attach : Inc → AttRef → PendingAttach → Bool
is_attach j r a = same_inc j a.at && a.reference.0 == r.0

-- the hunt is for this path
abbrev pub is_for : Path → PendingHunt → Bool
is_for path h = same_path path h.path

-- the name that a path has over a link
abbrev pub name_over : LinkNo → Path → Option (List ℕ)
name_over l (Local name) = None
name_over l (Over m name) = if m.0 == l.0 then Some name else None

-- the names that are hunted for over a link, in order of hunting
abbrev pub names_over : LinkNo → List PendingHunt → List (List ℕ)
names_over l hunts = filter_map (λ (h : PendingHunt). name_over l h.path) hunts
