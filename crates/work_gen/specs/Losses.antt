-- How the verdicts that lose stand in the plans of the load.
use Rattle.std.specs.Prelude.{◌≡◌, ℕ, ◌+◌, ◌≢◌, Some, List, slice_get}
use Rattle.linx_base.specs.declared.identity.LinkNo.{LinkNo}
use Rattle.linx_base.specs.declared.identity.Side.{Side}
use Rattle.linx_base.specs.declared.frame.Verdict.{Verdict}
use Rattle.linx_base.specs.declared.frame.Verdict.TheVariants.{Lose}
use Rattle.script_lang.specs.Parts.{ScriptParts, planned_verdicts}

-- no verdict `lose` stands right behind another one
abbrev pub LosesApart : List Verdict → Type 0
LosesApart verdicts =
    (i : ℕ) → slice_get verdicts i ≡ Some Lose → slice_get verdicts (i + 1) ≢ Some Lose

-- in no direction of a link a verdict `lose` stands right behind another one
abbrev pub EachLosesApart : ScriptParts → Type 0
EachLosesApart s = (link : LinkNo) (from : Side) → LosesApart (planned_verdicts s link from)
