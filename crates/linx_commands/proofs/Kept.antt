-- What came of a text that was written into a file.
use Rattle.std.proofs.Common.{◌≡◌, ◌∙◌, ℕ, List, Option, Ok, Err, inl, inr}
use Rattle.std.proofs.Common.{subst, sym}
use Rattle.std.proofs.KnownBytes.{Appends-kept}
use Rattle.std.specs.Io.KnownBytes.{Appends, Keeps}
use Rattle.linx_outside.specs.Counts.{HasFaulted, NeverFalls}
use Rattle.linx_outside.specs.Told.{AppendsFront}
use Rattle.report.specs.declared.reports.ReportError.{ReportError}
use Rattle.report.specs.declared.reports.ReportError.TheVariants.{WriteFault, NoMemory}
use Rattle.linx_commands.specs.Keeping.{IsKept}

-- the text wasn't written to its end
pub kept_front : {N : Type 0} (held : N → Option (List ℕ)) (faults : N → ℕ) (last : Option ℕ)
    (old new : N) (error : ReportError) (text : List ℕ)
    → (error ≡ WriteFault → AppendsFront (held old) (held new) text)
    → (error ≡ WriteFault → HasFaulted last (faults old) (faults new))
    → (error ≡ NoMemory → new ≡ old) → NeverFalls last (faults old) (faults new)
    → IsKept held faults last old new (Err error) text
kept_front held faults last old new error text front faulted no_memory falls = record {
  written = tt;
  unfaulted = tt;
  front = λ is. inr (front is);
  faulted = faulted;
  no_memory = no_memory;
  never_falls = falls;
}

-- it was, and couldn't be passed on
pub kept_unfinished : {N : Type 0} (held : N → Option (List ℕ)) (faults : N → ℕ)
    (last : Option ℕ) (old mid new : N) (error : ReportError) (text : List ℕ) → error ≡ WriteFault
    → Appends (held old) (held mid) text → faults mid ≡ faults old → Keeps (held mid) (held new)
    → HasFaulted last (faults mid) (faults new) → NeverFalls last (faults mid) (faults new)
    → IsKept held faults last old new (Err error) text
kept_unfinished held faults last old mid new error text is written same kept faulted falls = record {
  written = tt;
  unfaulted = tt;
  front = λ fault. inl (Appends-kept (held old) (held mid) (held new) text written kept);
  faulted = λ fault. subst (λ (n : ℕ). HasFaulted last n (faults new)) same faulted;
  no_memory = λ none. absurd (let no : WriteFault ≡ NoMemory = sym is ∙ none in cc);
  never_falls = subst (λ (n : ℕ). NeverFalls last n (faults new)) same falls;
}

-- it was, and was passed on
pub kept_whole : {N : Type 0} (held : N → Option (List ℕ)) (faults : N → ℕ) (last : Option ℕ)
    (old mid new : N) (done : Unit {0}) (text : List ℕ) → Appends (held old) (held mid) text
    → faults mid ≡ faults old → Keeps (held mid) (held new) → faults new ≡ faults mid
    → NeverFalls last (faults mid) (faults new)
    → IsKept held faults last old new (Ok done) text
kept_whole held faults last old mid new done text written same kept still falls = record {
  written = Appends-kept (held old) (held mid) (held new) text written kept;
  unfaulted = still ∙ same;
  front = tt;
  faulted = tt;
  no_memory = tt;
  never_falls = subst (λ (n : ℕ). NeverFalls last n (faults new)) same falls;
}
