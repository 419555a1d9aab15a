use Rattle.std.specs.Prelude.{ℕ, Bool, List, [], ◌∷◌}
use Rattle.std.specs.Str.{bytes_eq}
use Rattle.linx_base.specs.Peers.{same_inc}
use Rattle.linx_base.specs.declared.identity.Inc.{Inc}
use Rattle.name_table.specs.declared.named.NamedEndpoint.{NamedEndpoint}
use Rattle.name_table.specs.declared.named.NamedKey.{NamedKey}
use Rattle.name_table.specs.declared.named.NamedKey.TheVariants.{Name, Inc as Number}

-- the endpoint has this name
abbrev pub has_name : List ℕ → NamedEndpoint → Bool
has_name name e = bytes_eq name e.name

-- the endpoint is this one
abbrev pub is_endpoint : Inc → NamedEndpoint → Bool
is_endpoint inc e = same_inc inc e.inc

-- by what an endpoint is found
abbrev pub keys_of : NamedEndpoint → List NamedKey
keys_of e = Name e.name ∷ Number e.inc ∷ []
