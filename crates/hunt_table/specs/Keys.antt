-- By what a hunt is found.
use Rattle.std.specs.Prelude.{List, ◌∷◌, Option, Some, None}
use Rattle.std.specs.Option.{option_to_list}
use Rattle.linx_base.specs.declared.name.Path.{Path}
use Rattle.linx_base.specs.declared.name.Path.TheVariants.{Local, Over}
use Rattle.linx_base.specs.declared.pending.PendingHunt.{PendingHunt}
use Rattle.hunt_table.specs.declared.hunt_key.HuntKey.{HuntKey}
use Rattle.hunt_table.specs.declared.hunt_key.HuntKey.TheVariants.{Local as LocalKey}
use Rattle.hunt_table.specs.declared.hunt_key.HuntKey.TheVariants.{Over as OverKey, Link, Hunter}

-- the key of the hunts for a path
abbrev pub path_key : Path → HuntKey
path_key (Local name) = LocalKey name
path_key (Over link name) = OverKey link name

-- the key of the hunts over the link of a path, if it goes over one
abbrev pub link_key : Path → Option HuntKey
link_key (Local name) = None
link_key (Over link name) = Some (Link link)

-- the keys of a hunt
abbrev pub keys_of : PendingHunt → List HuntKey
keys_of hunt = path_key hunt.path ∷ Hunter hunt.at ∷ option_to_list (link_key hunt.path)
