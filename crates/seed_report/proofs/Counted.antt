-- How many actors a script has.
use Rattle.std.proofs.Common.{◌≡◌, ℕ, List, Ok, length}
use Rattle.order_lines.specs.Fronts.{OrderedParts, ordered_of}
use Rattle.seed_report.specs.Reports.{HasActors}

pub counted : (bytes : List ℕ) (actors : ℕ) (ordered : OrderedParts) → ordered_of bytes ≡ Ok ordered
    → actors ≡ length ordered.script.actors → HasActors bytes actors
counted bytes actors ordered spelled many =
    record { ordered = ordered; spelled = spelled; many = many }
