-- When the verdict on a packet can stand.
use Rattle.std.specs.Prelude.{Bool, true, ◌&&◌, nat_le}
use Rattle.linx_base.specs.declared.frame.Verdict.{Verdict}
use Rattle.linx_base.specs.declared.frame.Verdict.TheVariants.{Deliver, Lose, Repeat, Swap}

-- an exchange is with a place from 1 to 9
abbrev pub fits_verdict : Verdict → Bool
fits_verdict Deliver = true
fits_verdict Lose = true
fits_verdict Repeat = true
fits_verdict (Swap place) = nat_le 1 place && nat_le place 9
