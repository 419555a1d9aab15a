-- A change of packets, with one more packet behind them.
use Rattle.std.proofs.Common.{◌≡◌, ℕ, ◌<◌, List, [], ◌∷◌, ◌++◌, length, set, get_or, refl, arith}
use Rattle.std.proofs.Common.{length-set, swap}
use Rattle.std.proofs.lemmas.List.{set-append_left, get_or_append_left}
use Rattle.std.proofs.lemmas.List.Edits.{remove-append_left}
use Rattle.lossy_wire.specs.declared.wire.Change.{Change}
use Rattle.lossy_wire.specs.declared.wire.Change.TheVariants.{Nothing, Lost, Exchanged}
use Rattle.lossy_wire.specs.Flight.{changed, IsWithin}

swap-append : {X : Type 0} (xs ys : List X) (i j : ℕ) → i < length xs → j < length xs
    → swap (xs ++ ys) i j ≡ swap xs i j ++ ys
swap-append [] ys i j h k = absurd (omega arith)
swap-append (d ∷ xs) ys i j h k =
    rw (
      get_or_append_left (d ∷ xs) ys d j k,
      get_or_append_left (d ∷ xs) ys d i h,
      set-append_left (d ∷ xs) ys i (get_or (d ∷ xs) j d) h,
    ) (set-append_left (set (d ∷ xs) i (get_or (d ∷ xs) j d)) ys j (get_or (d ∷ xs) i d)
    (rw (length-set (d ∷ xs) i (get_or (d ∷ xs) j d)) k))

pub changed_behind : {X : Type 0} (change : Change) (packets : List X) (packet : X)
    → IsWithin change packets
    → changed change (packets ++ packet ∷ []) ≡ changed change packets ++ packet ∷ []
changed_behind Nothing packets packet h = refl
changed_behind (Lost k) packets packet h = remove-append_left packets (packet ∷ []) k h
changed_behind (Exchanged k n) packets packet h = swap-append packets (packet ∷ []) k n h.0 h.1
