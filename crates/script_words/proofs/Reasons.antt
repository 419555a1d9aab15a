-- all that is said of a bad line is printable
use Rattle.std.proofs.Common.{◌≡◌, ℕ, Bool, true, false, List, [], ◌∷◌, refl, ◌∙◌, codes}
use Rattle.std.proofs.Common.{if◌then◌else◌}
use Rattle.std.specs.List.{list_all}
use Rattle.std.proofs.lemmas.Bool.{and_from}
use Rattle.std.proofs.lemmas.List.Folds.{list_all-append}
use Rattle.script_words.specs.declared.bad_kind.BadKind.{BadKind}
use Rattle.script_words.specs.declared.bad_kind.BadKind.TheVariants.{ScriptTooLong, LineTooLong}
use Rattle.script_words.specs.declared.bad_kind.BadKind.TheVariants.{BadByte, UnknownWord, BadShape}
use Rattle.script_words.specs.declared.bad_kind.BadKind.TheVariants.{UnknownName, TwiceNamed}
use Rattle.script_words.specs.declared.bad_kind.BadKind.TheVariants.{OverLimit, Unfinished}
use Rattle.script_words.specs.declared.fault.Fault.{Fault}
use Rattle.script_words.specs.Failures.{phrase_of, is_printable, shown_byte, shown, about}
use Rattle.script_words.specs.Failures.{reason_of}

either_is : (byte : ℕ) (test : Bool) → is_printable byte ≡ test
    → is_printable (if test then byte else 63) ≡ true
either_is byte true h = h
either_is byte false h = refl

shown_are : (word : List ℕ) → list_all is_printable (shown word) ≡ true
shown_are [] = refl
shown_are (byte ∷ word) =
    and_from _ _ (either_is byte (is_printable byte) refl) (shown_are word)

about_is : (word : List ℕ) → list_all is_printable (about word) ≡ true
about_is [] = refl
about_is (byte ∷ word) =
    list_all-append is_printable (codes ": ") (shown (byte ∷ word))
    ∙ and_from _ _ refl (shown_are (byte ∷ word))

phrase_is : (kind : BadKind) → list_all is_printable (phrase_of kind) ≡ true
phrase_is ScriptTooLong = refl
phrase_is LineTooLong = refl
phrase_is BadByte = refl
phrase_is UnknownWord = refl
phrase_is BadShape = refl
phrase_is UnknownName = refl
phrase_is TwiceNamed = refl
phrase_is OverLimit = refl
phrase_is Unfinished = refl

-- whatever bytes the line has, what is said of it is printable
pub reasons_are_printable : (fault : Fault) → list_all is_printable (reason_of fault) ≡ true
reasons_are_printable fault =
    list_all-append is_printable (phrase_of fault.kind) (about fault.word)
    ∙ and_from _ _ (phrase_is fault.kind) (about_is fault.word)
