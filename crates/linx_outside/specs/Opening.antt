-- Files that are opened by their names.
use Rattle.std.specs.Prelude.{ℕ, List, Result, Ok, Err, if◌then◌else◌}
use Rattle.std.specs.Result.{result_map_both}
use Rattle.std.specs.Str.{bytes_eq}
use Rattle.linx_outside.specs.declared.files.OpenFault.{OpenFault}
use Rattle.linx_outside.specs.declared.files.OpenFault.TheVariants.{Missing}
use Rattle.linx_outside.specs.declared.files.MemFile.{MemFile}

-- the bytes of the file of a name beside one file in memory, or why it can't be opened
abbrev pub opened : MemFile → List ℕ → Result (List ℕ) OpenFault
opened file name =
    if bytes_eq name file.name.now then result_map_both (λ bytes. bytes.now) (λ why. why) file.content
    else Err Missing
