-- NO WORD OF A TEXT ENDS A LINE: numbers, data, peers, paths and names.
use Rattle.std.proofs.Common.{◌≡◌, ℕ, zero, suc, ◌+◌, ◌≤◌, ◌<◌, Bool, true, false, cond, not, List}
use Rattle.std.proofs.Common.{[], ◌∷◌, length, refl, subst, arith, ◌&&◌, ◌==◌, ◌/◌, ◌%◌, nat_le}
use Rattle.std.proofs.Common.{nat_lt, codes, decimal, flat_map, slice_get, slice_index, eqb-true}
use Rattle.std.proofs.Common.{le-leb, leb-true, lt-ltb}
use Rattle.std.specs.Fmt.{digits, digits_onto, digit_glyph}
use Rattle.std.specs.List.{list_all}
use Rattle.std.proofs.lemmas.Bool.{and_from, and_parts}
use Rattle.hex.specs.Hex.{encode_with, encode_lower, lower_digits}
use Rattle.linx_base.specs.NameText.{is_name, is_name_byte}
use Rattle.linx_base.specs.Numbers.{high_half, low_half}
use Rattle.linx_base.specs.declared.identity.ItemAt.{ItemAt}
use Rattle.linx_base.specs.declared.identity.Peer.{Peer}
use Rattle.linx_base.specs.declared.identity.Peer.TheVariants.{Here, There}
use Rattle.linx_base.specs.declared.identity.Side.{Side}
use Rattle.linx_base.specs.declared.identity.Side.TheVariants.{First, Second}
use Rattle.linx_base.specs.declared.frame.Verdict.{Verdict}
use Rattle.linx_base.specs.declared.frame.Verdict.TheVariants.{Deliver, Lose, Repeat, Swap}
use Rattle.linx_base.specs.declared.name.Names.{Names}
use Rattle.linx_base.specs.declared.name.Path.{Path}
use Rattle.linx_base.specs.declared.name.Path.TheVariants.{Local, Over}
use Rattle.linx_base.specs.declared.signal.Reason.{Reason}
use Rattle.linx_base.specs.declared.signal.Reason.TheVariants as reasons
use Rattle.linx_base.specs.SigNotes.{SigNote}
use Rattle.sigsel.specs.declared.sigsel.Sigsel.{Sigsel}
use Rattle.sigsel.specs.declared.sigsel.Sigsel.TheVariants.{Any, Only, Not}
use Rattle.journal.specs.Laws.{name_of_path}
use Rattle.journal.specs.declared.head.Detached.{Detached}
use Rattle.journal.specs.declared.head.Detached.TheVariants as detaches
use Rattle.journal.specs.declared.head.Refusal.{Refusal}
use Rattle.journal.specs.declared.head.Refusal.TheVariants as refusals
use Rattle.journal.specs.declared.head.SentTo.{SentTo}
use Rattle.journal.specs.declared.head.SentTo.TheVariants as sends
use Rattle.journal_text.specs.Values.{Digest, data_text, detached_text, digest_text, filter_text}
use Rattle.journal_text.specs.Values.{further_text, halves_text, link_text, name_or_mark, node_text}
use Rattle.journal_text.specs.Values.{nth_name, numbers_text, path_text, peer_signal_text}
use Rattle.journal_text.specs.Values.{peer_text, position_text, reason_text, reference_text}
use Rattle.journal_text.specs.Values.{refusal_text, sent_text, side_text, signal_text, swapped_text}
use Rattle.journal_text.specs.Values.{verdict_text}
use Rattle.journal_text.proofs.Lines.{IsClean, ◌+>◌, begins, is_line, is_word, word}

-- ---- numbers

-- the bytes are from 48 on
abbrev is_high : List ℕ → Bool
is_high bytes = list_all (λ b. nat_le 48 b) bytes

high-glyph : (d : ℕ) → nat_le 48 (digit_glyph false d) ≡ true
high-glyph d = go (nat_lt d 10)
  where
    go : (b : Bool) → nat_le 48 (cond b (48 + d) (87 + d)) ≡ true
    go true = le-leb 48 (48 + d) (omega arith)
    go false = le-leb 48 (87 + d) (omega arith)

-- what each digit makes hold, holds of a number's digits
digits-hold : (before holds : List ℕ → Type 0) → ((acc : List ℕ) → holds acc → before acc)
    → ((d : ℕ) (acc : List ℕ) → d < 10 → before acc → holds (digit_glyph false d ∷ acc))
    → (k n : ℕ) (acc : List ℕ) → before acc → holds (digits_onto (suc k) 10 false n acc)
digits-hold before holds again each zero n acc is = go (n / 10 == 0)
  where
    less : n % 10 < 10
    less = omega arith

    go : (b : Bool) → holds (cond b (digit_glyph false (n % 10) ∷ acc)
        (digits_onto 0 10 false (n / 10) (digit_glyph false (n % 10) ∷ acc)))
    go true = each (n % 10) acc less is
    go false = each (n % 10) acc less is
digits-hold before holds again each (suc k) n acc is =
    let less : n % 10 < 10 = omega arith in
    let first = each (n % 10) acc less is in
    go (n / 10 == 0) first
    (digits-hold before holds again each k (n / 10) (digit_glyph false (n % 10) ∷ acc)
    (again (digit_glyph false (n % 10) ∷ acc) first))
  where
    go : (b : Bool) → holds (digit_glyph false (n % 10) ∷ acc)
        → holds (digits_onto (suc k) 10 false (n / 10) (digit_glyph false (n % 10) ∷ acc))
        → holds (cond b (digit_glyph false (n % 10) ∷ acc)
        (digits_onto (suc k) 10 false (n / 10) (digit_glyph false (n % 10) ∷ acc)))
    go true first rest = first
    go false first rest = rest

high-decimal : (n : ℕ) → is_high (decimal n) ≡ true
unfolding digits
high-decimal n =
    digits-hold (λ acc. is_high acc ≡ true) (λ acc. is_high acc ≡ true) (λ acc high. high)
    (λ d acc less high. and_from _ _ (high-glyph d) high) 63 n [] refl

apart-high : (b n : ℕ) → n < 48 → nat_le 48 b ≡ true → not (b == n) ≡ true
apart-high b n less high = go (b == n) refl
  where
    go : (e : Bool) → (b == n) ≡ e → not e ≡ true
    go false is = refl
    go true is =
        let least : 48 ≤ b = leb-true 48 b high in
        let same : b ≡ n = eqb-true b n is in
        absurd (omega arith)

all-high : (n : ℕ) → n < 48 → (bytes : List ℕ) → is_high bytes ≡ true
    → list_all (λ b. not (b == n)) bytes ≡ true
all-high n less [] high = refl
all-high n less (b ∷ bytes) high =
    let parts = and_parts (nat_le 48 b) (is_high bytes) high in
    and_from _ _ (apart-high b n less parts.0) (all-high n less bytes parts.1)

pub number-clean : (n : ℕ) → IsClean (decimal n)
number-clean n = word (decimal n) (all-high 10 (omega arith) (decimal n) (high-decimal n))

pub number-word : (n : ℕ) → is_word (decimal n) ≡ true
number-word n = all-high 32 (omega arith) (decimal n) (high-decimal n)

-- and a number begins with a digit
begins-glyph : (d : ℕ) (more : List ℕ) → d < 10 → begins (digit_glyph false d ∷ more) ≡ true
begins-glyph d more less =
    rw (lt-ltb d 10 less)
    (and_from _ _ (le-leb 48 (48 + d) (omega arith)) (le-leb (48 + d) 57 (omega arith)))

pub begins-number : (n : ℕ) → begins (decimal n) ≡ true
unfolding digits
begins-number n =
    digits-hold (λ acc. Unit {0}) (λ acc. begins acc ≡ true) (λ acc is. tt)
    (λ d acc less is. begins-glyph d acc less) 63 n [] tt

pub halves-clean : (n : ℕ) → IsClean (halves_text n)
unfolding halves_text
halves-clean n = number-clean (high_half n) +> word (codes ".") refl +> number-clean (low_half n)

-- ---- names and data

-- a name ends no line
name-bytes : (bytes : List ℕ) → list_all is_name_byte bytes ≡ true → is_line bytes ≡ true
name-bytes [] all = refl
name-bytes (b ∷ bytes) all =
    let parts = and_parts (is_name_byte b) (list_all is_name_byte bytes) all in
    and_from _ _ (go (b == 10) refl parts.0) (name-bytes bytes parts.1)
  where
    go : (e : Bool) → (b == 10) ≡ e → is_name_byte b ≡ true → not e ≡ true
    go false is named = refl
    go true is named =
        let bad : is_name_byte 10 ≡ true =
        subst (λ (n : ℕ). is_name_byte n ≡ true) (eqb-true b 10 is) named in cc

pub name-clean : (name : List ℕ) → is_name name ≡ true → IsClean name
name-clean name named =
    word name (name-bytes name
    (and_parts (nat_le 1 (length name) && nat_le (length name) 32) (list_all is_name_byte name)
    named).1)

-- no name of a node or a link ends a line
pub record ArePlain (names : Names) : Type 0 where
  pub nodes : list_all is_name names.nodes ≡ true
  pub links : list_all is_name names.links ≡ true

got-clean : (names : List (List ℕ)) → list_all is_name names ≡ true → (k : ℕ)
    → IsClean (name_or_mark (slice_get names k))
got-clean [] all zero = word (codes "?") refl
got-clean [] all (suc k) = word (codes "?") refl
got-clean (name ∷ names) all zero =
    name-clean name (and_parts (is_name name) (list_all is_name names) all).0
got-clean (name ∷ names) all (suc k) =
    got-clean names (and_parts (is_name name) (list_all is_name names) all).1 k

nth-clean : (names : List (List ℕ)) → list_all is_name names ≡ true → (k : ℕ)
    → IsClean (name_or_mark (nth_name names k))
nth-clean names all zero = word (codes "?") refl
nth-clean names all (suc k) = got-clean names all k

-- hexadecimal digits
indexed-line : (xs : List ℕ) → is_line xs ≡ true → (k : ℕ) → not (slice_index xs k == 10) ≡ true
indexed-line [] all zero = refl
indexed-line [] all (suc k) = refl
indexed-line (x ∷ xs) all zero = (and_parts (not (x == 10)) (is_line xs) all).0
indexed-line (x ∷ xs) all (suc k) =
    indexed-line xs (and_parts (not (x == 10)) (is_line xs) all).1 k

hex-line : (bytes : List ℕ) → is_line (encode_with lower_digits bytes) ≡ true
unfolding encode_with
hex-line [] = refl
hex-line (b ∷ bytes) =
    and_from _ _ (indexed-line lower_digits refl (b / 16))
    (and_from _ _ (indexed-line lower_digits refl (b % 16)) (hex-line bytes))

hex-clean : (bytes : List ℕ) → IsClean (encode_lower bytes)
hex-clean bytes = word (encode_lower bytes) (hex-line bytes)

digest-clean : (digest : Digest) (bytes : List ℕ) → IsClean (digest_text digest bytes)
unfolding digest_text
digest-clean digest bytes =
    number-clean (length bytes) +> word (codes ":") refl +> hex-clean (digest bytes)

data-clean : (digest : Digest) (bytes : List ℕ) → IsClean (data_text digest bytes)
unfolding data_text
data-clean digest bytes = go (length bytes == 0) (nat_le (length bytes) 32)
  where
    go : (none few : Bool)
        → IsClean (cond none (codes "-") (cond few (encode_lower bytes) (digest_text digest bytes)))
    go true few = word (codes "-") refl
    go false true = hex-clean bytes
    go false false = digest-clean digest bytes

pub signal-clean : (digest : Digest) (note : SigNote) → IsClean (signal_text digest note)
unfolding signal_text
signal-clean digest note =
    number-clean note.number +> word (codes " ") refl +> data-clean digest note.bytes

-- ---- filters, positions and other words

further-clean : (ns : List ℕ) → IsClean (flat_map further_text ns)
further-clean [] = word [] refl
further-clean (n ∷ ns) = word (codes ",") refl +> number-clean n +> further-clean ns

numbers-clean : (ns : List ℕ) → IsClean (numbers_text ns)
unfolding numbers_text
numbers-clean [] = word [] refl
numbers-clean (n ∷ ns) = number-clean n +> further-clean ns

pub filter-clean : (f : Sigsel) → IsClean (filter_text f)
unfolding filter_text
filter-clean Any = word (codes "any") refl
filter-clean (Only ns) = word (codes "only:") refl +> numbers-clean ns
filter-clean (Not ns) = word (codes "not:") refl +> numbers-clean ns

pub position-clean : (at : ItemAt) → IsClean (position_text at)
unfolding position_text
position-clean at = number-clean at.step +> word (codes ".") refl +> number-clean at.place

pub reference-clean : (n : ℕ) → IsClean (reference_text n)
unfolding reference_text
reference-clean n = word (codes "@") refl +> number-clean n

pub side-clean : (side : Side) → IsClean (side_text side)
side-clean First = word (codes ">") refl
side-clean Second = word (codes "<") refl

swapped-clean : (n : ℕ) → IsClean (swapped_text n)
swapped-clean n = go (nat_le 1 n && nat_le n 9)
  where
    go : (b : Bool) → IsClean (cond b (decimal n) (codes "?"))
    go true = number-clean n
    go false = word (codes "?") refl

pub verdict-clean : (v : Verdict) → IsClean (verdict_text v)
verdict-clean Deliver = word (codes "deliver") refl
verdict-clean Lose = word (codes "lose") refl
verdict-clean Repeat = word (codes "repeat") refl
verdict-clean (Swap n) = word (codes "swap") refl +> swapped-clean n

pub reason-clean : (r : Reason) → IsClean (reason_text r)
reason-clean reasons.Closed = word (codes "closed") refl
reason-clean reasons.Lost = word (codes "lost") refl
reason-clean reasons.Dead = word (codes "dead") refl

pub sent-clean : (s : SentTo) → IsClean (sent_text s)
sent-clean sends.Queued = word (codes "queued") refl
sent-clean sends.Link = word (codes "link") refl
sent-clean sends.Dead = word (codes "dead") refl

pub detached-clean : (d : Detached) → IsClean (detached_text d)
detached-clean detaches.Pending = word (codes "pending") refl
detached-clean detaches.Queued = word (codes "queued") refl
detached-clean detaches.None = word (codes "none") refl

pub refusal-clean : (r : Refusal) → IsClean (refusal_text r)
refusal-clean (refusals.NotOpen at) = word (codes "not-open") refl
refusal-clean (refusals.IsOpen inc) = word (codes "is-open") refl
refusal-clean refusals.NoPeer = word (codes "no-peer") refl
refusal-clean refusals.NoSignal = word (codes "no-signal") refl
refusal-clean refusals.NoRef = word (codes "no-ref") refl

-- ---- what has names in it

module _ (names : Names) (plain : ArePlain names) where
  pub node-clean : (n : ℕ) → IsClean (node_text names n)
  unfolding node_text
  node-clean n = nth-clean names.nodes plain.nodes n

  pub link-clean : (l : ℕ) → IsClean (link_text names l)
  unfolding link_text
  link-clean l = nth-clean names.links plain.links l

  pub peer-clean : (peer : Peer) → IsClean (peer_text names peer)
  unfolding peer_text
  peer-clean (Here inc) = halves-clean inc.0
  peer-clean (There link session inc) =
      link-clean link.0 +> word (codes ":") refl +> halves-clean session.0
      +> word (codes ":") refl +> halves-clean inc.0

  pub peer_signal-clean : (digest : Digest) (peer : Peer) (note : SigNote)
      → IsClean (peer_signal_text digest names peer note)
  unfolding peer_signal_text
  peer_signal-clean digest peer note =
      peer-clean peer +> word (codes " ") refl +> signal-clean digest note

  pub path-clean : (path : Path) → is_name (name_of_path path) ≡ true
      → IsClean (path_text names path)
  unfolding path_text
  path-clean (Local name) named = name-clean name named
  path-clean (Over link name) named =
      link-clean link.0 +> word (codes "/") refl +> name-clean name named
