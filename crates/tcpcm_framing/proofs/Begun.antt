-- Where bytes have a shortest frame, they begin it.
use Rattle.std.proofs.Common.{◌≡◌, ℕ, zero, suc, ◌+◌, ◌^◌, ◌-◌, ◌<◌, ◌≤◌, ◌⊎◌, inl, inr, Bool, true}
use Rattle.std.proofs.Common.{false, List, [], ◌∷◌, ◌++◌, length, take, drop, replicate}
use Rattle.std.proofs.Common.{slice_index, Option, Some, refl, sym, ap, ◌∙◌, subst, arith, ltb, eqb}
use Rattle.std.proofs.Common.{None, if◌then◌else◌, ◌&&◌, ◌||◌, nat_le, eqb-true, ltb-true, leb-true}
use Rattle.std.proofs.Common.{take_all, take_at, take-take, take-append-drop, length-append}
use Rattle.std.proofs.Common.{length-take-le, length-drop}
use Rattle.std.proofs.lemmas.Bool.{cases_lt}
use Rattle.std.proofs.lemmas.List.{take-append-le, length-replicate}
use Rattle.std.proofs.Math.Seq.{take-append-add}
use Rattle.byteorder.specs.Endian.{big_bytes, big_number}
use Rattle.byteorder.specs.Numbers.{big_from-lt}
use Rattle.linx_base.specs.Frames.{body_limit}
use Rattle.tcpcm_frames.specs.declared.frame.StreamFrame.{StreamFrame}
use Rattle.tcpcm_frames.specs.declared.frame.StreamFrame.TheVariants.{Conn, Udata, Ping, Pong}
use Rattle.tcpcm_frames.specs.Frames.{IsFrame, header, spelling_of}
use Rattle.tcpcm_framing.specs.Shortest.{field_at, header_in, is_bare, is_bare_type, is_begun}
use Rattle.tcpcm_framing.specs.Shortest.{least_size, shortest_of, with_message}
use Rattle.tcpcm_framing.proofs.Filled.{length-filled, front_filled, bytes_filled}
use Rattle.tcpcm_framing.proofs.Spelled.{Cells, cells_of, cons_same, number_again}

-- a frame of so many bytes, which these bytes begin, or which they begin with
pub record Begun (bytes : List ℕ) (n : ℕ) : Type 0 where
  pub frame : StreamFrame
  pub is_frame : IsFrame frame
  pub long : length (spelling_of frame) ≡ n
  pub agrees : take (length bytes) (spelling_of frame) ≡ take n bytes

-- ---- tests

pub if_some : {A : Type 0} (b : Bool) (x : Option A) (y : A) → (if b then x else None) ≡ Some y
    → (b ≡ true) × (x ≡ Some y)
if_some true x y e = (refl, e)
if_some false x y e = absurd (cc)

pub both_true : (a b : Bool) → (a && b) ≡ true → (a ≡ true) × (b ≡ true)
both_true true true e = (refl, refl)
both_true true false e = absurd (cc)
both_true false b e = absurd (cc)

one_true : (a b : Bool) → (a || b) ≡ true → (a ≡ true) ⊎ (b ≡ true)
one_true true b e = inl refl
one_true false b e = inr e

pub either : (b : Bool) → (b ≡ true) ⊎ (b ≡ false)
either true = inl refl
either false = inr refl

-- ---- a header and what stands behind it

-- where the bytes agree with a header and with a payload behind it, they agree with the frame
agree : (bytes cells body : List ℕ) → length cells ≡ 16
    → take (length bytes) cells ≡ take 16 bytes
    → take (length bytes - 16) body ≡ take (length body) (drop 16 bytes)
    → take (length bytes) (cells ++ body) ≡ take (16 + length body) bytes
agree bytes cells body size head tail =
    elim (cases_lt (length bytes) 17) [
      | inl less ↦
          take-append-le (length bytes) cells body (omega (arith, size)) ∙ head
          ∙ take_all 16 bytes (omega arith)
          ∙ sym (take_all (16 + length body) bytes (omega arith))
      | inr more ↦
          let k = length bytes - 16 in
          let long : length (take 16 bytes) ≡ 16 = length-take-le 16 bytes (omega arith) in
          let count : length bytes ≡ length cells + k = omega (arith, size) in
          let front : cells ≡ take 16 bytes = sym (take_all (length bytes) cells (omega (arith, size))) ∙ head in
          let total : 16 + length body ≡ length (take 16 bytes) + length body = omega (arith, long) in
          ap (λ (n : ℕ). take n (cells ++ body)) count
          ∙ take-append-add cells body k
          ∙ ap (λ (l : List ℕ). cells ++ l) tail
          ∙ ap (λ (l : List ℕ). l ++ take (length body) (drop 16 bytes)) front
          ∙ sym (take-append-add (take 16 bytes) (drop 16 bytes) (length body))
          ∙ ap (λ (l : List ℕ). take (length (take 16 bytes) + length body) l) (take-append-drop 16 bytes)
          ∙ ap (λ (n : ℕ). take n bytes) (sym total)
    ]

-- a payload of this size: what has come of it, and zeros
abbrev payload : ℕ → List ℕ → List ℕ
payload size come = take size (come ++ replicate size 0)

length-payload : (size : ℕ) (come : List ℕ) → length (payload size come) ≡ size
length-payload size come =
    length-take-le size (come ++ replicate size 0)
    (omega (arith, length-append come (replicate size 0), length-replicate {A = ℕ} size 0))

front_payload : (size : ℕ) (come : List ℕ) → take (length come) (payload size come) ≡ take size come
front_payload size come =
    elim (cases_lt size (length come)) [
      | inl less ↦
          let same : payload size come ≡ take size come =
          take-append-le size come (replicate size 0) (omega arith)
          in
          take_all (length come) (payload size come) (omega (arith, length-payload size come)) ∙ same
      | inr more ↦
          take-take (length come) size (come ++ replicate size 0) more
          ∙ take_at come (replicate size 0) (length come) refl
          ∙ sym (take_all size come more)
    ]

agree_behind : (bytes : List ℕ) (size : ℕ)
    → take (length bytes - 16) (payload size (drop 16 bytes))
    ≡ take (length (payload size (drop 16 bytes))) (drop 16 bytes)
agree_behind bytes size =
    ap (λ (n : ℕ). take n (payload size (drop 16 bytes))) (sym (length-drop 16 bytes))
    ∙ front_payload size (drop 16 bytes)
    ∙ ap (λ (n : ℕ). take n (drop 16 bytes)) (sym (length-payload size (drop 16 bytes)))

length-header : (type from to size : ℕ) → length (header type from to size) ≡ 16
unfolding header
length-header type from to size = refl

-- a header that agrees with what has come of another
agrees_with : (bytes cells : List ℕ) → take (length bytes) cells ≡ take (length bytes) (header_in bytes)
    → take (length bytes) cells ≡ take 16 bytes
agrees_with bytes cells e = e ∙ front_filled 16 bytes

-- the frame of a message
begun_message : (bytes : List ℕ) (from to size : ℕ) → 0 < size → size ≤ body_limit
    → from < 2 ^ 32 → to < 2 ^ 32
    → take (length bytes) (header 2 from to size) ≡ take (length bytes) (header_in bytes)
    → Begun bytes (16 + size)
begun_message bytes from to size some most from_fits to_fits same =
    let body = payload size (drop 16 bytes) in
    let long : length body ≡ size = length-payload size (drop 16 bytes) in
    let head : take (length bytes) (header 2 from to (length body)) ≡ take (length bytes) (header_in bytes) =
    ap (λ (n : ℕ). take (length bytes) (header 2 from to n)) long ∙ same
    in
    record {
      frame = Udata (record { from = from; to = to; body = body });
      is_frame = ((omega (arith, long), omega (arith, long)), from_fits, to_fits);
      long =
          length-append (header 2 from to (length body)) body
          ∙ omega (arith, long, length-header 2 from to (length body));
      agrees =
          agree bytes (header 2 from to (length body)) body (length-header 2 from to (length body))
          (agrees_with bytes (header 2 from to (length body)) head) (agree_behind bytes size)
          ∙ ap (λ (n : ℕ). take (16 + n) bytes) long;
    }

-- a frame that carries nothing
begun_bare : (bytes : List ℕ) (type : ℕ) (frame : StreamFrame) → IsFrame frame
    → spelling_of frame ≡ header type 0 0 0
    → take (length bytes) (header type 0 0 0) ≡ take (length bytes) (header_in bytes)
    → Begun bytes 16
begun_bare bytes type frame is spelled same =
    record {
      frame = frame;
      is_frame = is;
      long = ap length spelled ∙ length-header type 0 0 0;
      agrees = ap (take (length bytes)) spelled ∙ agrees_with bytes (header type 0 0 0) same;
    }

-- ---- by the cells

-- the header of a message is that of its numbers
message_cells : (cells : List ℕ) → Cells cells → ((k : ℕ) → slice_index cells k < 256)
    → slice_index cells 0 ≡ 1 → slice_index cells 1 ≡ 2 → slice_index cells 2 ≡ 0
    → slice_index cells 3 ≡ 0
    → header 2 (field_at 4 cells) (field_at 8 cells) (field_at 12 cells) ≡ cells
unfolding header
message_cells cells x small v t z y =
    let e = x.are in
    let small_x = subst (λ (l : List ℕ). (k : ℕ) → slice_index l k < 256) e small in
    let version : x.version ≡ 1 = sym (ap (λ l. slice_index l 0) e) ∙ v in
    let type : x.type ≡ 2 = sym (ap (λ l. slice_index l 1) e) ∙ t in
    let zero_2 : x.zero_2 ≡ 0 = sym (ap (λ l. slice_index l 2) e) ∙ z in
    let zero_3 : x.zero_3 ≡ 0 = sym (ap (λ l. slice_index l 3) e) ∙ y in
    let from : big_bytes 4 (field_at 4 cells) ≡ x.from_4 ∷ x.from_5 ∷ x.from_6 ∷ x.from_7 ∷ [] =
    ap (λ l. big_bytes 4 (field_at 4 l)) e
    ∙ number_again x.from_4 x.from_5 x.from_6 x.from_7
    (x.to_8 ∷ x.to_9 ∷ x.to_10 ∷ x.to_11 ∷ x.size_12 ∷ x.size_13 ∷ x.size_14 ∷ x.size_15 ∷ [])
    (small_x 4) (small_x 5) (small_x 6) (small_x 7)
    in
    let to : big_bytes 4 (field_at 8 cells) ≡ x.to_8 ∷ x.to_9 ∷ x.to_10 ∷ x.to_11 ∷ [] =
    ap (λ l. big_bytes 4 (field_at 8 l)) e
    ∙ number_again x.to_8 x.to_9 x.to_10 x.to_11 (x.size_12 ∷ x.size_13 ∷ x.size_14 ∷ x.size_15 ∷ [])
    (small_x 8) (small_x 9) (small_x 10) (small_x 11)
    in
    let size : big_bytes 4 (field_at 12 cells) ≡ x.size_12 ∷ x.size_13 ∷ x.size_14 ∷ x.size_15 ∷ [] =
    ap (λ l. big_bytes 4 (field_at 12 l)) e
    ∙ number_again x.size_12 x.size_13 x.size_14 x.size_15 [] (small_x 12) (small_x 13) (small_x 14)
    (small_x 15)
    in
    ap (λ (l : List ℕ). 1 ∷ 2 ∷ 0 ∷ 0 ∷ l ++ (big_bytes 4 (field_at 8 cells) ++ big_bytes 4 (field_at 12 cells))) from
    ∙ ap (λ (l : List ℕ). 1 ∷ 2 ∷ 0 ∷ 0 ∷ x.from_4 ∷ x.from_5 ∷ x.from_6 ∷ x.from_7 ∷ l ++ big_bytes 4 (field_at 12 cells)) to
    ∙ ap (λ (l : List ℕ). 1 ∷ 2 ∷ 0 ∷ 0 ∷ x.from_4 ∷ x.from_5 ∷ x.from_6 ∷ x.from_7 ∷ x.to_8 ∷ x.to_9 ∷ x.to_10 ∷ x.to_11 ∷ l) size
    ∙ cons_same (sym version) (cons_same (sym type) (cons_same (sym zero_2) (cons_same (sym zero_3) refl)))
    ∙ sym e

-- a number of which all bytes are 0
zero_cells : (a b c d : ℕ) (rest : List ℕ) → big_number 4 (a ∷ b ∷ c ∷ d ∷ rest) ≡ 0
    → (a ≡ 0) × (b ≡ 0) × (c ≡ 0) × (d ≡ 0)
zero_cells a b c d rest e = (omega (arith, e), omega (arith, e), omega (arith, e), omega (arith, e))

-- the header of a frame that carries nothing
bare_cells : (cells : List ℕ) → Cells cells → (type : ℕ) → slice_index cells 0 ≡ 1
    → slice_index cells 1 ≡ type → slice_index cells 2 ≡ 0 → slice_index cells 3 ≡ 0
    → field_at 4 cells ≡ 0 → field_at 8 cells ≡ 0 → field_at 12 cells ≡ 0
    → cells ≡ header type 0 0 0
unfolding header
bare_cells cells x type v t z y from to size =
    let e = x.are in
    let version : x.version ≡ 1 = sym (ap (λ l. slice_index l 0) e) ∙ v in
    let type_is : x.type ≡ type = sym (ap (λ l. slice_index l 1) e) ∙ t in
    let zero_2 : x.zero_2 ≡ 0 = sym (ap (λ l. slice_index l 2) e) ∙ z in
    let zero_3 : x.zero_3 ≡ 0 = sym (ap (λ l. slice_index l 3) e) ∙ y in
    let from_is = zero_cells x.from_4 x.from_5 x.from_6 x.from_7
    (x.to_8 ∷ x.to_9 ∷ x.to_10 ∷ x.to_11 ∷ x.size_12 ∷ x.size_13 ∷ x.size_14 ∷ x.size_15 ∷ [])
    (sym (ap (λ l. field_at 4 l) e) ∙ from)
    in
    let to_is = zero_cells x.to_8 x.to_9 x.to_10 x.to_11
    (x.size_12 ∷ x.size_13 ∷ x.size_14 ∷ x.size_15 ∷ []) (sym (ap (λ l. field_at 8 l) e) ∙ to)
    in
    let size_is = zero_cells x.size_12 x.size_13 x.size_14 x.size_15 []
    (sym (ap (λ l. field_at 12 l) e) ∙ size)
    in
    e
    ∙ cons_same version (cons_same type_is (cons_same zero_2 (cons_same zero_3
    (cons_same from_is.0 (cons_same from_is.1 (cons_same from_is.2 (cons_same from_is.3
    (cons_same to_is.0 (cons_same to_is.1 (cons_same to_is.2 (cons_same to_is.3
    (cons_same size_is.0 (cons_same size_is.1 (cons_same size_is.2 (cons_same size_is.3 refl)))))))))))))))

-- headers that differ in the last cell alone agree where it hasn't come
but_last : (k from to : ℕ) (cells : List ℕ) → k < 16 → header 2 from to 0 ≡ cells
    → take k (header 2 from to 1) ≡ take k cells
unfolding header
but_last k from to cells less e =
    let fifteen : take 15 (header 2 from to 1) ≡ take 15 cells = ap (take 15) e in
    sym (take-take k 15 (header 2 from to 1) (omega arith)) ∙ ap (take k) fifteen
    ∙ take-take k 15 cells (omega arith)

-- the header of a message of the least size agrees as far as it has come
least_agrees : (k from to size : ℕ) (cells : List ℕ) → header 2 from to size ≡ cells
    → take k (header 2 from to (least_size k size)) ≡ take k cells
least_agrees k from to size cells e =
    elim (either (eqb size 0 && ltb k 16)) [
      | inl is_so ↦
          let both = both_true (eqb size 0) (ltb k 16) is_so in
          let none : size ≡ 0 = eqb-true size 0 both.0 in
          ap (λ (b : Bool). take k (header 2 from to (if b then 1 else size))) is_so
          ∙ but_last k from to cells (ltb-true k 16 both.1)
          (ap (header 2 from to) (sym none) ∙ e)
      | inr not ↦
          ap (λ (b : Bool). take k (header 2 from to (if b then 1 else size))) not ∙ ap (take k) e
    ]

-- the first cell agrees where no more has come
first_agrees : (k : ℕ) (cells : List ℕ) → k < 2 → slice_index cells 0 ≡ 1 → length cells ≡ 16
    → take k (header 1 0 0 0) ≡ take k cells
unfolding header
first_agrees k [] less v long = absurd (omega (arith, long))
first_agrees k (c ∷ cells) less v long =
    let one : take 1 (header 1 0 0 0) ≡ take 1 (c ∷ cells) = ap (λ (x : ℕ). x ∷ []) (sym v) in
    sym (take-take k 1 (header 1 0 0 0) (omega arith)) ∙ ap (take k) one
    ∙ take-take k 1 (c ∷ cells) (omega arith)

-- ---- where there is a shortest frame

small_behind : (place : ℕ) (cells : List ℕ) → ((k : ℕ) → slice_index cells k < 256) → (k : ℕ)
    → slice_index (drop place cells) k < 256
small_behind zero cells small k = small k
small_behind (suc place) [] small k = omega arith
small_behind (suc place) (c ∷ cells) small k = small_behind place cells (λ j. small (suc j)) k

record IsMessageOf (known size n : ℕ) : Type 0 where
  some : 0 < least_size known size
  most : least_size known size ≤ body_limit
  long : 16 + least_size known size ≡ n

message_of : (known size n : ℕ) → with_message (least_size known size) ≡ Some n → IsMessageOf known size n
message_of known size n e =
    let least = least_size known size in
    let tests = if_some (ltb 0 least && nat_le least body_limit) (Some (16 + least)) n e in
    let both = both_true (ltb 0 least) (nat_le least body_limit) tests.0 in
    record {
      some = ltb-true 0 least both.0;
      most = leb-true least body_limit both.1;
      long = cc (tests.1);
    }

small_field : (place : ℕ) (cells : List ℕ) → ((k : ℕ) → slice_index cells k < 256)
    → field_at place cells < 2 ^ 32
small_field place cells small = big_from-lt 0 4 (drop place cells) (small_behind place cells small)

record IsBareOf (cells : List ℕ) (known : ℕ) : Type 0 where
  type : is_bare_type (slice_index cells 1) known ≡ true
  from : field_at 4 cells ≡ 0
  to : field_at 8 cells ≡ 0
  size : field_at 12 cells ≡ 0

bare_of : (cells : List ℕ) (known : ℕ) → is_bare cells known ≡ true → IsBareOf cells known
bare_of cells known e =
    let type = is_bare_type (slice_index cells 1) known in
    let from = eqb (field_at 4 cells) 0 in
    let to = eqb (field_at 8 cells) 0 in
    let size = eqb (field_at 12 cells) 0 in
    let last = both_true ((type && from) && to) size e in
    let third = both_true (type && from) to last.0 in
    let first = both_true type from third.0 in
    record {
      type = first.0;
      from = eqb-true (field_at 4 cells) 0 first.1;
      to = eqb-true (field_at 8 cells) 0 third.1;
      size = eqb-true (field_at 12 cells) 0 last.1;
    }

record IsBegunBy (cells : List ℕ) : Type 0 where
  version : slice_index cells 0 ≡ 1
  zero_2 : slice_index cells 2 ≡ 0
  zero_3 : slice_index cells 3 ≡ 0

begun_by : (cells : List ℕ) → is_begun cells ≡ true → IsBegunBy cells
begun_by cells e =
    let version = eqb (slice_index cells 0) 1 in
    let zero_2 = eqb (slice_index cells 2) 0 in
    let zero_3 = eqb (slice_index cells 3) 0 in
    let last = both_true (version && zero_2) zero_3 e in
    let first = both_true version zero_2 last.0 in
    record {
      version = eqb-true (slice_index cells 0) 1 first.0;
      zero_2 = eqb-true (slice_index cells 2) 0 first.1;
      zero_3 = eqb-true (slice_index cells 3) 0 last.1;
    }

-- which of the four
data BareType (type known : ℕ) : Type 0 where
  is_conn : type ≡ 1 → BareType type known
  is_ping : type ≡ 3 → BareType type known
  is_pong : type ≡ 4 → BareType type known
  not_come : known < 2 → BareType type known

bare_type : (type known : ℕ) → is_bare_type type known ≡ true → BareType type known
bare_type type known e =
    elim (one_true ((eqb type 1 || eqb type 3) || eqb type 4) (ltb known 2) e) [
      | inr less ↦ not_come (ltb-true known 2 less)
      | inl more ↦
          elim (one_true (eqb type 1 || eqb type 3) (eqb type 4) more) [
            | inr pong ↦ is_pong (eqb-true type 4 pong)
            | inl first ↦
                elim (one_true (eqb type 1) (eqb type 3) first) [
                  | inl conn ↦ is_conn (eqb-true type 1 conn)
                  | inr ping ↦ is_ping (eqb-true type 3 ping)
                ]
          ]
    ]

begun_by_type : (bytes : List ℕ) (type : ℕ) → type ≡ slice_index (header_in bytes) 1
    → IsBegunBy (header_in bytes) → IsBareOf (header_in bytes) (length bytes)
    → BareType type (length bytes) → Begun bytes 16
begun_by_type bytes type e begun bare (is_conn t) =
    begun_bare bytes 1 Conn tt refl
    (ap (take (length bytes)) (sym (bare_cells (header_in bytes) (cells_of _ (length-filled 16 bytes)) 1
    begun.version (sym e ∙ t) begun.zero_2 begun.zero_3 bare.from bare.to bare.size)))
begun_by_type bytes type e begun bare (is_ping t) =
    begun_bare bytes 3 Ping tt refl
    (ap (take (length bytes)) (sym (bare_cells (header_in bytes) (cells_of _ (length-filled 16 bytes)) 3
    begun.version (sym e ∙ t) begun.zero_2 begun.zero_3 bare.from bare.to bare.size)))
begun_by_type bytes type e begun bare (is_pong t) =
    begun_bare bytes 4 Pong tt refl
    (ap (take (length bytes)) (sym (bare_cells (header_in bytes) (cells_of _ (length-filled 16 bytes)) 4
    begun.version (sym e ∙ t) begun.zero_2 begun.zero_3 bare.from bare.to bare.size)))
begun_by_type bytes type e begun bare (not_come less) =
    begun_bare bytes 1 Conn tt refl
    (first_agrees (length bytes) (header_in bytes) less begun.version (length-filled 16 bytes))

begun_by_message : (bytes : List ℕ) (n : ℕ) → ((k : ℕ) → slice_index bytes k < 256)
    → slice_index (header_in bytes) 1 ≡ 2 → IsBegunBy (header_in bytes)
    → IsMessageOf (length bytes) (field_at 12 (header_in bytes)) n → Begun bytes n
begun_by_message bytes n small type begun message =
    let cells = header_in bytes in
    let small_cells = bytes_filled 16 bytes small in
    let same : header 2 (field_at 4 cells) (field_at 8 cells) (field_at 12 cells) ≡ cells =
    message_cells cells (cells_of cells (length-filled 16 bytes)) small_cells begun.version type
    begun.zero_2 begun.zero_3
    in
    subst (Begun bytes) message.long
    (begun_message bytes (field_at 4 cells) (field_at 8 cells)
    (least_size (length bytes) (field_at 12 cells)) message.some message.most
    (small_field 4 cells small_cells) (small_field 8 cells small_cells)
    (least_agrees (length bytes) (field_at 4 cells) (field_at 8 cells) (field_at 12 cells) cells same))

-- the bytes begin a frame as long as the shortest
pub begins : (bytes : List ℕ) (n : ℕ) → ((k : ℕ) → slice_index bytes k < 256)
    → shortest_of (header_in bytes) (length bytes) ≡ Some n → Begun bytes n
unfolding shortest_of
begins bytes n small e =
    let cells = header_in bytes in
    let known = length bytes in
    let is_message = eqb (slice_index cells 1) 2 in
    let message = with_message (least_size known (field_at 12 cells)) in
    let first =
    if_some (is_begun cells)
    (if is_message then message else if is_bare cells known then Some 16 else None) n e
    in
    let begun = begun_by cells first.0 in
    elim (either is_message) [
      | inl is_so ↦
          begun_by_message bytes n small (eqb-true (slice_index cells 1) 2 is_so) begun
          (message_of known (field_at 12 cells) n
          (ap (λ (b : Bool). if b then message else if is_bare cells known then Some 16 else None)
          (sym is_so) ∙ first.1))
      | inr not ↦
          let rest : (if is_bare cells known then Some 16 else None) ≡ Some n =
          ap (λ (b : Bool). if b then message else if is_bare cells known then Some 16 else None)
          (sym not) ∙ first.1
          in
          let bare = if_some (is_bare cells known) (Some 16) n rest in
          let sixteen : 16 ≡ n = cc (bare.1) in
          let is = bare_of cells known bare.0 in
          subst (Begun bytes) sixteen
          (begun_by_type bytes (slice_index cells 1) refl begun is
          (bare_type (slice_index cells 1) known is.type))
    ]
