-- Bytes that begin a frame, or begin with one, have a shortest frame, which is no longer than it.
use Rattle.std.proofs.Common.{◌≡◌, ℕ, zero, suc, ◌+◌, ◌^◌, ◌<◌, ◌≤◌, ◌⊎◌, inl, inr, Bool, true}
use Rattle.std.proofs.Common.{false, List, [], ◌∷◌, ◌++◌, length, take, slice_index, Some, refl}
use Rattle.std.proofs.Common.{sym, ap, ◌∙◌, subst, arith, ltb, eqb, None, if◌then◌else◌, ◌&&◌}
use Rattle.std.proofs.Common.{nat_le, eqb-true, eq-eqb, lt-ltb, le-leb, length-append}
use Rattle.std.proofs.lemmas.Bool.{cases_lt}
use Rattle.std.proofs.lemmas.List.{take-append-le}
use Rattle.byteorder.specs.Endian.{big_bytes, big_number}
use Rattle.byteorder.specs.Numbers.{big_number-reads_back}
use Rattle.linx_base.specs.Frames.{body_limit}
use Rattle.linx_base.specs.declared.frame.Message.{Message}
use Rattle.tcpcm_frames.specs.declared.frame.StreamFrame.{StreamFrame}
use Rattle.tcpcm_frames.specs.declared.frame.StreamFrame.TheVariants.{Conn, Udata, Ping, Pong}
use Rattle.tcpcm_frames.specs.Frames.{IsFrame, header, spelling_of}
use Rattle.tcpcm_framing.specs.Shortest.{field_at, filled, header_in, is_bare, is_begun}
use Rattle.tcpcm_framing.specs.Shortest.{least_size, shortest_of, with_message}
use Rattle.tcpcm_framing.proofs.Filled.{AllBelow, all_filled, filled_below, length-filled}
use Rattle.tcpcm_framing.proofs.Spelled.{Cells, cells_of, cons_same}
use Rattle.tcpcm_framing.proofs.Begun.{either}

-- a shortest frame, which is no longer than this
pub record HasShortest (bytes : List ℕ) (long : ℕ) : Type 0 where
  pub n : ℕ
  pub is : shortest_of (header_in bytes) (length bytes) ≡ Some n
  pub no_longer : n ≤ long

positive : (n : ℕ) → eqb n 0 ≡ false → 0 < n
positive zero e = absurd (cc)
positive (suc n) e = omega arith

none : (low : ℕ) → low ≤ 0 → low ≡ 0
none low h = omega arith

-- ---- the size of a message

some_message : (size : ℕ) → 0 < size → size ≤ body_limit → with_message size ≡ Some (16 + size)
some_message size some most =
    ap (λ (b : Bool). if b && nat_le size body_limit then Some (16 + size) else None)
    (lt-ltb 0 size some)
    ∙ ap (λ (b : Bool). if b then Some (16 + size) else None) (le-leb size body_limit most)

-- a size that isn't above that of a message
record PartSize (known part size : ℕ) : Type 0 where
  n : ℕ
  is : with_message (least_size known part) ≡ Some n
  no_longer : n ≤ 16 + size

part_size : (known part size : ℕ) → (part ≡ size) ⊎ (known < 16) → part ≤ size → 0 < size
    → size ≤ body_limit → PartSize known part size
part_size known part size come below some most =
    elim (either (eqb part 0)) [
      | inr not ↦
          record {
            n = 16 + part;
            is =
                ap (λ (b : Bool). with_message (if b && ltb known 16 then 1 else part)) not
                ∙ some_message part (positive part not) (omega arith);
            no_longer = omega arith;
          }
      | inl is_so ↦
          let none : part ≡ 0 = eqb-true part 0 is_so in
          elim come [
            | inl same ↦ absurd (omega (arith, none, same))
            | inr less ↦
                record {
                  n = 17;
                  is =
                      ap (λ (b : Bool). with_message (if b && ltb known 16 then 1 else part)) is_so
                      ∙ ap (λ (b : Bool). with_message (if b then 1 else part)) (lt-ltb known 16 less);
                  no_longer = omega arith;
                }
          ]
    ]

-- ---- by the cells

begun_true : (cells : List ℕ) → slice_index cells 0 ≡ 1 → slice_index cells 2 ≡ 0
    → slice_index cells 3 ≡ 0 → is_begun cells ≡ true
begun_true cells v z y =
    ap (λ (b : Bool). (b && eqb (slice_index cells 2) 0) && eqb (slice_index cells 3) 0)
    (eq-eqb (slice_index cells 0) 1 v)
    ∙ ap (λ (b : Bool). b && eqb (slice_index cells 3) 0) (eq-eqb (slice_index cells 2) 0 z)
    ∙ eq-eqb (slice_index cells 3) 0 y

shortest_message : (cells : List ℕ) (known : ℕ) → slice_index cells 0 ≡ 1 → slice_index cells 1 ≡ 2
    → slice_index cells 2 ≡ 0 → slice_index cells 3 ≡ 0
    → shortest_of cells known ≡ with_message (least_size known (field_at 12 cells))
unfolding shortest_of
shortest_message cells known v t z y =
    let message = with_message (least_size known (field_at 12 cells)) in
    let bare = if is_bare cells known then Some 16 else None in
    ap (λ (b : Bool). if b then (if eqb (slice_index cells 1) 2 then message else bare) else None)
    (begun_true cells v z y)
    ∙ ap (λ (b : Bool). if b then message else bare) (eq-eqb (slice_index cells 1) 2 t)

-- a header whose cells aren't above those of a frame that carries nothing is its
below_bare : (cells : List ℕ) → Cells cells → (type : ℕ) → slice_index cells 0 ≡ 1
    → slice_index cells 1 ≡ type → AllBelow cells (header type 0 0 0) → cells ≡ header type 0 0 0
unfolding header
below_bare cells x type v t below =
    let e = x.are in
    let h = subst (λ (l : List ℕ). AllBelow l (header type 0 0 0)) e below in
    let version : x.version ≡ 1 = sym (ap (λ l. slice_index l 0) e) ∙ v in
    let type_is : x.type ≡ type = sym (ap (λ l. slice_index l 1) e) ∙ t in
    let h2 = h.1.1 in
    let h6 = h2.1.1.1.1 in
    let h10 = h6.1.1.1.1 in
    let h14 = h10.1.1.1.1 in
    e
    ∙ cons_same version (cons_same type_is
    (cons_same (none x.zero_2 h2.0) (cons_same (none x.zero_3 h2.1.0)
    (cons_same (none x.from_4 h2.1.1.0) (cons_same (none x.from_5 h2.1.1.1.0)
    (cons_same (none x.from_6 h6.0) (cons_same (none x.from_7 h6.1.0)
    (cons_same (none x.to_8 h6.1.1.0) (cons_same (none x.to_9 h6.1.1.1.0)
    (cons_same (none x.to_10 h10.0) (cons_same (none x.to_11 h10.1.0)
    (cons_same (none x.size_12 h10.1.1.0) (cons_same (none x.size_13 h10.1.1.1.0)
    (cons_same (none x.size_14 h14.0) (cons_same (none x.size_15 h14.1.0) refl)))))))))))))))

-- a header whose cells aren't above those of a message
record IsBelowMessage (cells : List ℕ) (size : ℕ) : Type 0 where
  zero_2 : slice_index cells 2 ≡ 0
  zero_3 : slice_index cells 3 ≡ 0
  size_below : field_at 12 cells ≤ size

below_message : (cells : List ℕ) → Cells cells → (m : Message) → length m.body < 2 ^ 32
    → AllBelow cells (spelling_of (Udata m)) → IsBelowMessage cells (length m.body)
unfolding header
below_message cells x m fits below =
    let e = x.are in
    let size = length m.body in
    let h = subst (λ (l : List ℕ). AllBelow l (spelling_of (Udata m))) e below in
    let h2 = h.1.1 in
    let h12 = h2.1.1.1.1.1.1.1.1.1.1 in
    let back : big_number 4 (big_bytes 4 size ++ []) ≡ size = big_number-reads_back 4 size [] fits in
    let number : big_number 4 (x.size_12 ∷ x.size_13 ∷ x.size_14 ∷ x.size_15 ∷ []) ≤ size =
    omega (arith, back, h12.0, h12.1.0, h12.1.1.0, h12.1.1.1.0)
    in
    record {
      zero_2 = ap (λ l. slice_index l 2) e ∙ none x.zero_2 h2.0;
      zero_3 = ap (λ l. slice_index l 3) e ∙ none x.zero_3 h2.1.0;
      size_below = subst (λ (l : List ℕ). field_at 12 l ≤ size) (sym e) number;
    }

-- ---- a header that has come

bare_length : (type : ℕ) (known : ℕ) → (type ≡ 1) ⊎ ((type ≡ 3) ⊎ (type ≡ 4))
    → shortest_of (header type 0 0 0) known ≡ Some 16
unfolding shortest_of header
bare_length type known (inl e) = subst (λ (t : ℕ). shortest_of (header t 0 0 0) known ≡ Some 16) (sym e) refl
bare_length type known (inr (inl e)) = subst (λ (t : ℕ). shortest_of (header t 0 0 0) known ≡ Some 16) (sym e) refl
bare_length type known (inr (inr e)) = subst (λ (t : ℕ). shortest_of (header t 0 0 0) known ≡ Some 16) (sym e) refl

-- a frame's first sixteen bytes
abbrev front_of : StreamFrame → List ℕ
front_of Conn = header 1 0 0 0
front_of (Udata m) = header 2 m.from m.to (length m.body)
front_of Ping = header 3 0 0 0
front_of Pong = header 4 0 0 0

front_taken : (frame : StreamFrame) → take 16 (spelling_of frame) ≡ front_of frame
unfolding header
front_taken Conn = refl
front_taken (Udata m) = refl
front_taken Ping = refl
front_taken Pong = refl

pub length_least : (frame : StreamFrame) → 16 ≤ length (spelling_of frame)
unfolding header
length_least Conn = omega arith
length_least (Udata m) = omega arith
length_least Ping = omega arith
length_least Pong = omega arith

length_message : (m : Message) → length (spelling_of (Udata m)) ≡ 16 + length m.body
unfolding header
length_message m = omega arith

come_message : (m : Message) (known : ℕ) → IsFrame (Udata m)
    → PartSize known (field_at 12 (front_of (Udata m))) (length m.body)
unfolding header
come_message m known is =
    let size = length m.body in
    let back : field_at 12 (front_of (Udata m)) ≡ size = big_number-reads_back 4 size [] (omega (arith, is.0)) in
    part_size known (field_at 12 (front_of (Udata m))) size (inl back) (omega (arith, back))
    (omega (arith, is.0)) (omega (arith, is.0))

come_shortest : (message : Message) (known : ℕ)
    → shortest_of (front_of (Udata message)) known
    ≡ with_message (least_size known (field_at 12 (front_of (Udata message))))
unfolding header
come_shortest message known = shortest_message (front_of (Udata message)) known refl refl refl refl

has_come : (bytes : List ℕ) (frame : StreamFrame) → IsFrame frame → header_in bytes ≡ front_of frame
    → HasShortest bytes (length (spelling_of frame))
has_come bytes Conn is e =
    record {
      n = 16;
      is = ap (λ l. shortest_of l (length bytes)) e ∙ bare_length 1 (length bytes) (inl refl);
      no_longer = length_least Conn;
    }
has_come bytes (Udata m) is e =
    let part = come_message m (length bytes) is in
    record {
      n = part.n;
      is = ap (λ l. shortest_of l (length bytes)) e ∙ come_shortest m (length bytes) ∙ part.is;
      no_longer = omega (arith, part.no_longer, length_message m);
    }
has_come bytes Ping is e =
    record {
      n = 16;
      is = ap (λ l. shortest_of l (length bytes)) e ∙ bare_length 3 (length bytes) (inr (inl refl));
      no_longer = length_least Ping;
    }
has_come bytes Pong is e =
    record {
      n = 16;
      is = ap (λ l. shortest_of l (length bytes)) e ∙ bare_length 4 (length bytes) (inr (inr refl));
      no_longer = length_least Pong;
    }

-- ---- a header of which a part has come

-- the version alone
first_alone : shortest_of (header_in (1 ∷ [])) 1 ≡ Some 16
unfolding shortest_of filled
first_alone = refl

abbrev second_of : StreamFrame → ℕ
second_of Conn = 1
second_of (Udata m) = 2
second_of Ping = 3
second_of Pong = 4

first_is : (frame : StreamFrame) → slice_index (spelling_of frame) 0 ≡ 1
unfolding header
first_is Conn = refl
first_is (Udata m) = refl
first_is Ping = refl
first_is Pong = refl

second_is : (frame : StreamFrame) → slice_index (spelling_of frame) 1 ≡ second_of frame
unfolding header
second_is Conn = refl
second_is (Udata m) = refl
second_is Ping = refl
second_is Pong = refl

first_cell : (b : ℕ) (bytes : List ℕ) → slice_index (header_in (b ∷ bytes)) 0 ≡ b
unfolding filled
first_cell b bytes = refl

second_cell : (b c : ℕ) (bytes : List ℕ) → slice_index (header_in (b ∷ c ∷ bytes)) 1 ≡ c
unfolding filled
second_cell b c bytes = refl

has_bare : (bytes : List ℕ) (type : ℕ) → (type ≡ 1) ⊎ ((type ≡ 3) ⊎ (type ≡ 4))
    → slice_index (header_in bytes) 0 ≡ 1 → slice_index (header_in bytes) 1 ≡ type
    → AllBelow (header_in bytes) (header type 0 0 0)
    → shortest_of (header_in bytes) (length bytes) ≡ Some 16
has_bare bytes type which v t below =
    ap (λ l. shortest_of l (length bytes))
    (below_bare (header_in bytes) (cells_of _ (length-filled 16 bytes)) type v t below)
    ∙ bare_length type (length bytes) which

has_part : (bytes : List ℕ) (frame : StreamFrame) → IsFrame frame → length bytes < 16
    → slice_index (header_in bytes) 0 ≡ 1 → slice_index (header_in bytes) 1 ≡ second_of frame
    → AllBelow (header_in bytes) (spelling_of frame) → HasShortest bytes (length (spelling_of frame))
has_part bytes Conn is less v t below =
    record { n = 16; is = has_bare bytes 1 (inl refl) v t below; no_longer = length_least Conn }
has_part bytes (Udata m) is less v t below =
    let cells = header_in bytes in
    let fits : length m.body < 2 ^ 32 = omega (arith, is.0) in
    let lower = below_message cells (cells_of cells (length-filled 16 bytes)) m fits below in
    let part =
    part_size (length bytes) (field_at 12 cells) (length m.body) (inr less) lower.size_below
    (omega (arith, is.0)) (omega (arith, is.0))
    in
    record {
      n = part.n;
      is = shortest_message cells (length bytes) v t lower.zero_2 lower.zero_3 ∙ part.is;
      no_longer = omega (arith, part.no_longer, length_message m);
    }
has_part bytes Ping is less v t below =
    record { n = 16; is = has_bare bytes 3 (inr (inl refl)) v t below; no_longer = length_least Ping }
has_part bytes Pong is less v t below =
    record { n = 16; is = has_bare bytes 4 (inr (inr refl)) v t below; no_longer = length_least Pong }

part_come : (bytes behind : List ℕ) (frame : StreamFrame) → IsFrame frame → 0 < length bytes
    → length bytes < 16 → bytes ++ behind ≡ spelling_of frame
    → HasShortest bytes (length (spelling_of frame))
part_come [] behind frame is some less e = absurd (omega (arith, some))
part_come (b ∷ []) behind frame is some less e =
    let one : b ≡ 1 = ap (λ l. slice_index l 0) e ∙ first_is frame in
    record {
      n = 16;
      is = ap (λ (x : ℕ). shortest_of (header_in (x ∷ [])) 1) one ∙ first_alone;
      no_longer = length_least frame;
    }
part_come (b ∷ c ∷ bytes) behind frame is some less e =
    let one : b ≡ 1 = ap (λ l. slice_index l 0) e ∙ first_is frame in
    let two : c ≡ second_of frame = ap (λ l. slice_index l 1) e ∙ second_is frame in
    let long : 16 ≤ length ((b ∷ c ∷ bytes) ++ behind) = omega (arith, ap length e, length_least frame) in
    has_part (b ∷ c ∷ bytes) frame is less (first_cell b (c ∷ bytes) ∙ one) (second_cell b c bytes ∙ two)
    (subst (AllBelow (header_in (b ∷ c ∷ bytes))) e (filled_below 16 (b ∷ c ∷ bytes) behind long))

-- ---- either

-- bytes begin a frame, or begin with one
same_front : (bytes behind : List ℕ) (frame : StreamFrame) → 16 ≤ length bytes
    → (bytes ++ behind ≡ spelling_of frame) ⊎ (bytes ≡ spelling_of frame ++ behind)
    → take 16 bytes ≡ front_of frame
same_front bytes behind frame long (inl e) =
    sym (take-append-le 16 bytes behind long) ∙ ap (take 16) e ∙ front_taken frame
same_front bytes behind frame long (inr e) =
    ap (take 16) e ∙ take-append-le 16 (spelling_of frame) behind (length_least frame)
    ∙ front_taken frame

short_begins : (bytes behind : List ℕ) (frame : StreamFrame) → length bytes < 16
    → (bytes ++ behind ≡ spelling_of frame) ⊎ (bytes ≡ spelling_of frame ++ behind)
    → bytes ++ behind ≡ spelling_of frame
short_begins bytes behind frame less (inl e) = e
short_begins bytes behind frame less (inr e) =
    absurd (omega (arith, ap length e, length-append (spelling_of frame) behind, length_least frame))

pub has_shortest : (bytes behind : List ℕ) (frame : StreamFrame) → IsFrame frame → 0 < length bytes
    → (bytes ++ behind ≡ spelling_of frame) ⊎ (bytes ≡ spelling_of frame ++ behind)
    → HasShortest bytes (length (spelling_of frame))
has_shortest bytes behind frame is some agree =
    elim (cases_lt (length bytes) 16) [
      | inl less ↦ part_come bytes behind frame is some less (short_begins bytes behind frame less agree)
      | inr long ↦
          has_come bytes frame is (all_filled 16 bytes long ∙ same_front bytes behind frame long agree)
    ]
