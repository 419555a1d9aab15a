-- Files that are made by their names.
use Rattle.std.specs.Prelude.{ℕ, Bool, true, false, List, [], ◌∷◌, Option, Some, None}
use Rattle.std.specs.Prelude.{if◌then◌else◌}
use Rattle.std.specs.Str.{bytes_eq}
use Rattle.std.specs.declared.io.ErrorKind.{ErrorKind}
use Rattle.std.specs.declared.io.ErrorKind.TheVariants.{NotFound, NotADirectory, IsADirectory}
use Rattle.std.specs.declared.io.ErrorKind.TheVariants.{PermissionDenied, ReadOnlyFilesystem}
use Rattle.linx_files.specs.declared.make_fault.MakeFault.{MakeFault}
use Rattle.linx_files.specs.declared.make_fault.MakeFault.TheVariants.{NoFolder, Folder}
use Rattle.linx_files.specs.declared.make_fault.MakeFault.TheVariants.{NotAllowed, Other}
use Rattle.linx_files.specs.declared.mem_new_file.MemNewFile.{MemNewFile}

-- why an error of the system keeps a file from being made
abbrev pub make_fault_of : ErrorKind → MakeFault
make_fault_of NotFound = NoFolder
make_fault_of NotADirectory = NoFolder
make_fault_of IsADirectory = Folder
make_fault_of PermissionDenied = NotAllowed
make_fault_of ReadOnlyFilesystem = NotAllowed
make_fault_of _ = Other

-- why a file in memory of which these bytes were written can't be made with a name: it was made or
-- written before; or it has another name; or for the reason that there is; nothing where it can
abbrev pub refusal_by : Bool → List ℕ → Bool → Option MakeFault → Option MakeFault
refusal_by true bytes is_name refusal = Some Other
refusal_by false (byte ∷ bytes) is_name refusal = Some Other
refusal_by false [] is_name refusal = if is_name then refusal else Some NoFolder

-- why it can't be made with this name
abbrev pub refusal_of : MemNewFile → List ℕ → Option MakeFault
refusal_of file name =
    refusal_by file.is_made file.sink.held (bytes_eq name file.name.now) file.refusal

-- what it holds; nothing where it wasn't made
abbrev pub held_of : MemNewFile → Option (List ℕ)
held_of file = if file.is_made then Some file.sink.held else None
