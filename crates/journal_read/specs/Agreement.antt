-- One text, read with different names.
use Rattle.std.specs.Prelude.{◌≡◌, ℕ, List, map, Ok}
use Rattle.linx_base.specs.declared.name.Names.{Names}
use Rattle.journal.specs.declared.effect.Step.{Step}
use Rattle.journal_read.specs.Reading.{read_in}
use Rattle.journal_read.specs.Spelled.{bytes_of, lines_of_steps}

-- a text that is read with two lists of names, as with those of its script and with those that it
-- spells, is read as the same steps but for numbers: they are printed as the same lines
abbrev pub ReadingsAgree : Type 0
ReadingsAgree =
    (names others : Names) (text : List ℕ) (P Q : List Step)
    → read_in names text ≡ Ok P → read_in others text ≡ Ok Q
    → map (bytes_of names) (lines_of_steps P) ≡ map (bytes_of others) (lines_of_steps Q)
