use Rattle.linx_base.specs.declared.identity.Side.{Side}
use Rattle.linx_base.specs.declared.identity.Side.TheVariants.{First, Second}

-- the side across the link
abbrev pub other_of : Side → Side
other_of First = Second
other_of Second = First
