-- The law of cuts as a test.
use Rattle.std.specs.Prelude.{Bool, true, false, not, ◌||◌}
use Rattle.linx_base.specs.declared.frame.Verdict.{Verdict}
use Rattle.linx_base.specs.declared.frame.Verdict.TheVariants.{Deliver, Lose, Repeat, Swap}

-- the verdict loses the packet
abbrev pub loses : Verdict → Bool
loses Deliver = false
loses Lose = true
loses Repeat = false
loses (Swap k) = false

-- while the link is cut, its packet is lost
abbrev pub loses_if_cut : Bool → Verdict → Bool
loses_if_cut cut verdict = not cut || loses verdict
