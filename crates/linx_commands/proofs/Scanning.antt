-- From a read up to a limit to what a run took of its source.
use Rattle.std.proofs.Common.{◌≡◌, ◌∙◌, ℕ, List, [], ◌++◌, length, refl, ap, sym, inl, inr, Option}
use Rattle.std.specs.Io.KnownBytes.{IsAtEnd}
use Rattle.linx_outside.specs.Told.{MovesBytes}
use Rattle.linx_outside.specs.declared.whole_reads.Reached.{Reached}
use Rattle.linx_outside.specs.declared.whole_reads.Reached.TheVariants.{End, Limit}
use Rattle.linx_commands.specs.Streams.{IsScanned}

-- bytes that came into an empty buffer, until the source ended or the limit was reached
pub scanned : (most : ℕ) (left rest : Option (List ℕ)) (filled grown : List ℕ) (reached : Reached)
    → filled ≡ [] → MovesBytes filled grown left rest → (reached ≡ End → IsAtEnd rest)
    → (reached ≡ Limit → length grown ≡ most) → IsScanned most left rest
scanned most left rest filled grown End none moves end limit = inl (end refl)
scanned most left rest filled grown Limit none moves end limit = inr (record {
  bytes = moves.bytes;
  counted = ap length (sym (moves.gained ∙ ap (λ (f : List ℕ). f ++ moves.bytes) none))
      ∙ limit refl;
  lost = moves.lost;
})
