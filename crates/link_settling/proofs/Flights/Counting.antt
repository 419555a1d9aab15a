-- What packets count, and what comes into a window.
use Rattle.std.proofs.Common.{◌≡◌, ◌⊎◌, ◌+◌, ◌-◌, ◌<◌, ◌≤◌, min, ℕ, zero, suc, Some, List, [], ◌∷◌}
use Rattle.std.proofs.Common.{◌++◌, length, take, drop, map, refl, sym, ap, ◌∙◌, arith, inl, inr}
use Rattle.std.proofs.Common.{slice_get, remove, length-drop}
use Rattle.std.proofs.lemmas.Option.{same_Some}
use Rattle.linx_base.specs.declared.identity.Session.{Session}
use Rattle.linx_base.specs.declared.frame.SentFrame.{SentFrame}
use Rattle.ethcm_headers.specs.declared.packets.Packet.{Packet}
use Rattle.ethcm_headers.specs.declared.packets.Part.{Part}
use Rattle.ethcm_window.specs.Sending.{Sender, after_ack, coming_in, numbered_from, sent_of}
use Rattle.ethcm_window.proofs.Numbering.{acked_answer, no_frames, unchanged_coming}
use Rattle.ethcm_end.specs.States.{EndState}
use Rattle.ethcm_end.specs.Rules.{piece_packet}
use Rattle.ethcm_end.proofs.Rising.{by_ack}
use Rattle.link_settling.specs.Measure.{connects, nacks, others, pieces, total, unsent}

-- a list without elements
pub no_length : {X : Type 0} (xs : List X) → length xs ≡ 0 → xs ≡ []
no_length [] e = refl
no_length (x ∷ xs) e = absurd (omega arith)

-- ---- sums

module _ (f : Part → ℕ) where
  pub total-append : (xs ys : List Packet) → total f (xs ++ ys) ≡ total f xs + total f ys
  unfolding total
  total-append [] ys = let e : total f ys ≡ 0 + total f ys = omega arith in e
  total-append (x ∷ xs) ys = let rest = total-append xs ys in omega arith

  pub total_none : total f [] ≡ 0
  unfolding total
  total_none = refl

  pub total_one : (p : Packet) → total f (p ∷ []) ≡ f p.part
  unfolding total
  total_one p = let e : f p.part + 0 ≡ f p.part = omega arith in e

  -- a packet that is taken out counts no more
  pub total_removed : (xs : List Packet) (k : ℕ) (p : Packet) → slice_get xs k ≡ Some p
      → total f xs ≡ f p.part + total f (remove xs k)
  unfolding total
  total_removed [] k p e = absurd (grind arith)
  total_removed (x ∷ xs) zero p e =
      let same : x ≡ p = same_Some x p e in
      ap (λ (q : Packet). f q.part + total f xs) same
  total_removed (x ∷ xs) (suc k) p e =
      let rest = total_removed xs k p e in
      omega arith

-- pieces are pieces alone
pub record PiecesAlone (out : List Packet) : Type 0 where
  pub connect : total connects out ≡ 0
  pub nack : total nacks out ≡ 0
  pub other : total others out ≡ 0

pub pieces_alone : (s : EndState) (to : Session) (sent : List SentFrame)
    → PiecesAlone (map (piece_packet s to) sent)
unfolding total
pieces_alone s to [] = record { connect = refl; nack = refl; other = refl }
pieces_alone s to (f ∷ sent) =
    let rest = pieces_alone s to sent in
    let c = rest.connect in
    let n = rest.nack in
    let o = rest.other in
    record { connect = omega arith; nack = omega arith; other = omega arith }

-- pieces, and a packet behind them
pub record Behind (out : List Packet) (p : Packet) : Type 0 where
  pub connect : total connects (out ++ p ∷ []) ≡ connects p.part
  pub nack : total nacks (out ++ p ∷ []) ≡ nacks p.part
  pub piece : total pieces (out ++ p ∷ []) ≡ total pieces out + pieces p.part
  pub other : total others (out ++ p ∷ []) ≡ others p.part

pub behind : (out : List Packet) (p : Packet) → PiecesAlone out → Behind out p
behind out p alone =
    let c = alone.connect in
    let n = alone.nack in
    let o = alone.other in
    let one : (f : Part → ℕ) → total f (out ++ p ∷ []) ≡ total f out + f p.part =
    λ f. total-append f out (p ∷ []) ∙ ap (λ k. total f out + k) (total_one f p) in
    let cs = one connects in
    let ns = one nacks in
    let os = one others in
    record {
      connect = omega arith;
      nack = omega arith;
      piece = one pieces;
      other = omega arith;
    }

-- ---- the window

either_le : (n m : ℕ) → (n ≤ m) ⊎ (m < n)
either_le n m = grind arith

-- an acknowledgement sends frames that were never sent, or none
pub record Acks (tx new : Sender) : Type 0 where
  pub upto : unsent new ≤ unsent tx
  pub less_or_none : (unsent new < unsent tx) ⊎ (coming_in tx new ≡ [])

-- how many frames come into the window as those below `next` are acknowledged
abbrev pub entering : Sender → ℕ → ℕ
entering tx next = min (length tx.frames - sent_of tx) (next - tx.base)

-- and which: the first ones that were not sent
pub coming_acked : (tx : Sender) (next : ℕ) → tx.base ≤ next → next - tx.base ≤ sent_of tx
    → coming_in tx (record tx { base = next; frames = drop (next - tx.base) tx.frames })
    ≡ numbered_from (tx.base + sent_of tx) (take (entering tx next) (drop (sent_of tx) tx.frames))
coming_acked tx next from to =
    sym (acked_answer tx (sent_of tx) refl next (entering tx next)
    (drop (next - tx.base) tx.frames)
    (numbered_from (tx.base + sent_of tx)
    (take (entering tx next) (drop (sent_of tx) tx.frames)))
    from to refl refl refl)

take_zero : {X : Type 0} (n : ℕ) (xs : List X) → n ≤ 0 → take n xs ≡ []
take_zero n xs h = let none : n ≡ 0 = omega arith in rw none refl

pub acks : (tx : Sender) (next : ℕ) → Acks tx (after_ack tx next)
acks tx next =
    by_ack (λ new. Acks tx new) tx next
    (record {
      upto = omega arith;
      less_or_none = inr (sym (unchanged_coming tx (sent_of tx) refl));
    })
    (λ from to.
    let l = length-drop (next - tx.base) tx.frames in
    record {
      upto = rw l (omega arith);
      less_or_none = elim (either_le (entering tx next) 0) [
        | inl none ↦ inr (coming_acked tx next from (omega arith)
            ∙ no_frames (tx.base + sent_of tx) _
            (take_zero (entering tx next) (drop (sent_of tx) tx.frames) none))
        | inr some ↦ inl (rw l (omega arith))
      ];
    })
