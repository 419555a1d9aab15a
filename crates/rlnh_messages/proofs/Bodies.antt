-- The signal that goes by a body.
use Rattle.std.proofs.Common.{◌≡◌, ℕ, ◌<◌, ◌≤◌, ◌^◌, List, ◌++◌, length, drop, ap, sym, ◌∙◌, arith}
use Rattle.std.proofs.Common.{length-append, slice_range}
use Rattle.std.proofs.lemmas.List.{take_rest}
use Rattle.byteorder.specs.Endian.{big_bytes, big_number}
use Rattle.byteorder.specs.Numbers.{big_number-reads_back}
use Rattle.linx_base.specs.SigNotes.{SigNote}
use Rattle.rlnh_messages.specs.Signals.{IsSignalBody, SpellsSignal, signal_body}

pub signal_found : (number : ℕ) (rest body part : List ℕ) → body ≡ big_bytes 4 number ++ rest
    → part ≡ slice_range body 4 (length body) → length body ≤ 65536 → number < 2 ^ 32
    → SpellsSignal (record { number = number; bytes = part }) body
signal_found number rest body part e is within fits =
    let same : part ≡ rest = is ∙ take_rest body 4 ∙ ap (drop 4) e in
    record {
      is_signal =
          record {
            number_fits = fits;
            data_fit =
                rw same (omega (arith, ap length e, length-append (big_bytes 4 number) rest));
          };
      spelled = rw same e;
    }

pub is_body : (signal : SigNote) (body : List ℕ) → SpellsSignal signal body → IsSignalBody body
is_body signal body s =
    let size = ap length s.spelled ∙ length-append (big_bytes 4 signal.number) signal.bytes in
    let fits = s.is_signal.data_fit in
    (omega arith, omega arith)

-- no body is two signals'
pub one_signal : (a b : SigNote) (body : List ℕ) → SpellsSignal a body → SpellsSignal b body → a ≡ b
one_signal a b body s t =
    let same : signal_body a ≡ signal_body b = sym s.spelled ∙ t.spelled in
    let number : a.number ≡ b.number =
    sym (big_number-reads_back 4 a.number a.bytes s.is_signal.number_fits) ∙ ap (big_number 4) same
    ∙ big_number-reads_back 4 b.number b.bytes t.is_signal.number_fits
    in
    let bytes : a.bytes ≡ b.bytes = ap (drop 4) same in
    ap (λ (n : ℕ). record { number = n; bytes = a.bytes }) number
    ∙ ap (λ (xs : List ℕ). record { number = b.number; bytes = xs }) bytes
