use Rattle.reading_laws.proofs.FitLaws.{line-is}
use Rattle.reading_laws.proofs.laws.images_are_lines.Goals as goal

pub returns : goal.returns
returns c = line-is
