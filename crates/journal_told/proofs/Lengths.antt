-- What can be told is one byte longer than its attach's data.
use Rattle.std.proofs.Common.{◌≡◌, ℕ, ◌+◌, true, List, length, ◌==◌, ◌||◌, nat_lt, bytes_eq, eqb-true}
use Rattle.std.proofs.lemmas.Bool.{and_parts}
use Rattle.linx_base.specs.Content.{with_reason}
use Rattle.linx_base.specs.SigNotes.{SigNote}
use Rattle.linx_base.specs.declared.signal.Reason.{Reason}
use Rattle.image_laws.specs.Told.{can_tell, shown_most}

pub one_more : (f : List ℕ → List ℕ) (reason : Reason) (attach : SigNote) (bytes : List ℕ)
    → can_tell f reason attach bytes ≡ true → length bytes ≡ length attach.bytes + 1
one_more f reason attach bytes can =
    let parts =
    and_parts (length bytes == length attach.bytes + 1)
    (nat_lt shown_most (length attach.bytes)
    || bytes_eq bytes (f (with_reason reason attach).bytes)) can
    in
    eqb-true (length bytes) (length attach.bytes + 1) parts.0
