use Rattle.journal_read.proofs.TextLaws.{text_again, text_found}
use Rattle.journal_read.proofs.laws.texts_are_read.Goals as goal

pub returns : goal.returns
returns c names are =
    record {
      again = λ P text s. text_again names P text are s;
      found = λ P text h. text_found names P text h;
    }
