use Rattle.std.specs.Prelude.{Bool, false, ◌&&◌, ◌==◌}
use Rattle.std.specs.Str.{bytes_eq}
use Rattle.linx_base.specs.declared.identity.Inc.{Inc}
use Rattle.linx_base.specs.declared.identity.ItemAt.{ItemAt}
use Rattle.linx_base.specs.declared.identity.Peer.{Peer}
use Rattle.linx_base.specs.declared.identity.Peer.TheVariants.{Here, There}
use Rattle.linx_base.specs.declared.name.Path.{Path}
use Rattle.linx_base.specs.declared.name.Path.TheVariants.{Local, Over}

-- two incarnations are one
abbrev pub same_inc : Inc → Inc → Bool
same_inc a b = a.0 == b.0

-- two peers are one
abbrev pub same_peer : Peer → Peer → Bool
same_peer (Here a) (Here b) = same_inc a b
same_peer (Here a) (There l x b) = false
same_peer (There l x a) (Here b) = false
same_peer (There l x a) (There m y b) = l.0 == m.0 && x.0 == y.0 && same_inc a b

-- two positions are one
abbrev pub same_position : ItemAt → ItemAt → Bool
same_position p q = p.step == q.step && p.place == q.place

-- two paths are one
abbrev pub same_path : Path → Path → Bool
same_path (Local v) (Local w) = bytes_eq v w
same_path (Local v) (Over m w) = false
same_path (Over l v) (Local w) = false
same_path (Over l v) (Over m w) = l.0 == m.0 && bytes_eq v w
