-- A PICTURE READ AGAIN.
use Rattle.std.proofs.Common.{◌≡◌, ap, sym, ◌∙◌, Some}
use Rattle.svg_text.specs.declared.picture.Picture.{Picture}
use Rattle.svg_text.specs.Reading.{read}
use Rattle.svg_text.specs.Texts.{picture_text}
use Rattle.svg_text.specs.Tree.{tree_of}
use Rattle.svg_text.proofs.PictureSpelled.{picture_spelled}
use Rattle.svg_text.proofs.PictureText.{picture_document}
use Rattle.svg_text.proofs.ReadAgain.{read_again}

-- THE LAW: the text of a picture is a document of XML, and reads as the picture's tree
pub picture_again : (picture : Picture) → read (picture_text picture) ≡ Some (tree_of picture)
picture_again picture =
    ap read (sym (picture_document picture))
    ∙ read_again (tree_of picture) (picture_spelled picture)
