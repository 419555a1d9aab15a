-- No word has a space or a line feed in it.
use Rattle.std.proofs.Common.{inl, inr, ◌≡◌, ℕ, suc, ◌≤◌, Bool, true, List, [], ◌∷◌, ◌++◌, length}
use Rattle.std.proofs.Common.{take, get_or, refl, ap, ◌∙◌, arith, ◌==◌, nat_le, nat_lt, codes}
use Rattle.std.proofs.Common.{decimal, flat_map, leb-true, length-take-le}
use Rattle.std.specs.List.{list_all}
use Rattle.std.proofs.lemmas.Bool.{cases_lt, and_parts, and_from, cond-true}
use Rattle.std.proofs.lemmas.Bool.Decides.{nat_tests}
use Rattle.std.proofs.lemmas.List.Folds.{list_all-append}
use Rattle.hex.specs.Hex.{encode_lower}
use Rattle.linx_base.specs.NameText.{is_name, is_name_byte}
use Rattle.linx_base.specs.Numbers.{high_half, low_half}
use Rattle.linx_base.specs.Verdicts.{fits_verdict}
use Rattle.linx_base.specs.declared.frame.Verdict.{Verdict}
use Rattle.linx_base.specs.declared.frame.Verdict.TheVariants.{Deliver, Lose, Repeat, Swap}
use Rattle.linx_base.specs.declared.identity.ItemAt.{ItemAt}
use Rattle.linx_base.specs.declared.identity.Peer.{Peer}
use Rattle.linx_base.specs.declared.identity.Peer.TheVariants.{Here, There}
use Rattle.linx_base.specs.declared.identity.Side.{Side}
use Rattle.linx_base.specs.declared.identity.Side.TheVariants.{First, Second}
use Rattle.linx_base.specs.declared.name.Names.{Names}
use Rattle.linx_base.specs.declared.name.Path.{Path}
use Rattle.linx_base.specs.declared.name.Path.TheVariants.{Local, Over}
use Rattle.linx_base.specs.declared.signal.Reason.{Reason}
use Rattle.linx_base.specs.declared.signal.Reason.TheVariants.{Closed, Lost, Dead as DeadAlready}
use Rattle.sigsel.specs.declared.sigsel.Sigsel.{Sigsel}
use Rattle.sigsel.specs.declared.sigsel.Sigsel.TheVariants.{Any, Only, Not}
use Rattle.journal.specs.declared.by.By.{By}
use Rattle.journal.specs.declared.by.By.TheVariants.{Actor, Pump}
use Rattle.journal.specs.declared.head.SentTo.{SentTo}
use Rattle.journal.specs.declared.head.SentTo.TheVariants.{Queued, Link, Dead}
use Rattle.journal.specs.declared.head.Detached.{Detached}
use Rattle.journal.specs.declared.head.Detached.TheVariants.{Pending, Queued as QueuedNotice}
use Rattle.journal.specs.declared.head.Detached.TheVariants.{None as Neither}
use Rattle.journal.specs.declared.head.Refusal.{Refusal}
use Rattle.journal.specs.declared.head.Refusal.TheVariants.{NoPeer}
use Rattle.journal_text.specs.Values.{halves_text, node_text, link_text, peer_text, path_text}
use Rattle.journal_text.specs.Values.{filter_text, numbers_text, further_text, maker_text}
use Rattle.journal_text.specs.Values.{position_text, reference_text, side_text, verdict_text}
use Rattle.journal_text.specs.Values.{reason_text, sent_text, detached_text, refusal_text}
use Rattle.text_words.specs.Numbers.{half_limit, whole_limit}
use Rattle.text_words.specs.Words.{words_of}
use Rattle.journal_text.specs.Values.{data_text}
use Rattle.reading_laws.specs.Spelled.{line_of}
use Rattle.reading_laws.specs.Forms.{AreNames, IsNode, IsLink, IsPeer, IsPath, IsMaker, IsFilter}
use Rattle.reading_laws.specs.Forms.{AreNumbers, IsPosition, IsShown, printed}
use Rattle.reading_laws.proofs.Cuts.{lacks, lacks-seam, class_lacks, class_within, seam}
use Rattle.reading_laws.proofs.PeerLaws.{here_spelled, there_spelled, local_spelled, over_spelled}
use Rattle.reading_laws.proofs.PeerLaws.{position_spelled}
use Rattle.reading_laws.proofs.NameLaws.{are_name_bytes, bytes_of_name, bytes_of_decimal}
use Rattle.reading_laws.proofs.NameLaws.{bytes_of_hexadecimal, node_is_name, link_is_name}
use Rattle.reading_laws.proofs.NumberLaws.{halves_spelled}
use Rattle.reading_laws.proofs.DataLaws.{short_text, long_text, bytes_of_front, no_data_text}
use Rattle.reading_laws.proofs.Cuts.{split_last, split_part}

-- the byte is above the space, so it is no line feed
abbrev pub is_above_space : ℕ → Bool
is_above_space b = nat_lt 32 b

-- the word has no space and no line feed
abbrev pub has_no_space : List ℕ → Bool
has_no_space word = list_all is_above_space word

pub lacks_space : (word : List ℕ) → has_no_space word ≡ true → lacks 32 word ≡ true
lacks_space word none = class_lacks is_above_space 32 word refl none

pub lacks_feed : (word : List ℕ) → has_no_space word ≡ true → lacks 10 word ≡ true
lacks_feed word none = class_lacks is_above_space 10 word refl none

spaces-append : (xs ys : List ℕ) → has_no_space xs ≡ true → has_no_space ys ≡ true
    → has_no_space (xs ++ ys) ≡ true
spaces-append xs ys x y = list_all-append is_above_space xs ys ∙ and_from _ _ x y

spaces-seam : (front back : List ℕ) (b : ℕ) → has_no_space front ≡ true
    → is_above_space b ≡ true → has_no_space back ≡ true → has_no_space (front ++ b ∷ back) ≡ true
spaces-seam front back b first above last =
    spaces-append front (b ∷ back) first (and_from _ _ above last)

above_of_name : (b : ℕ) → is_name_byte b ≡ true → is_above_space b ≡ true
above_of_name b h = grind (arith, nat_tests)

-- the bytes of names, digits and hexadecimal digits among them
name_bytes_spaces : (word : List ℕ) → are_name_bytes word ≡ true → has_no_space word ≡ true
name_bytes_spaces word are = class_within is_name_byte is_above_space word above_of_name are

pub name_spaces : (word : List ℕ) → is_name word ≡ true → has_no_space word ≡ true
name_spaces word is = name_bytes_spaces word (bytes_of_name word is)

pub decimal_spaces : (n : ℕ) → n ≤ whole_limit → has_no_space (decimal n) ≡ true
decimal_spaces n limit = name_bytes_spaces (decimal n) (bytes_of_decimal n limit)

pub halves_spaces : (n : ℕ) → n ≤ whole_limit → has_no_space (halves_text n) ≡ true
halves_spaces n limit =
    let high = decimal (high_half n) in
    let low = decimal (low_half n) in
    ap has_no_space (halves_spelled n)
    ∙ spaces-seam high low 46 (decimal_spaces (high_half n) (omega arith)) refl
    (decimal_spaces (low_half n) (omega arith))

pub node_spaces : (names : Names) (n : ℕ) → AreNames names → IsNode names n
    → has_no_space (node_text names n) ≡ true
node_spaces names n are is = name_spaces (node_text names n) (node_is_name names n are is)

pub link_spaces : (names : Names) (n : ℕ) → AreNames names → IsLink names n
    → has_no_space (link_text names n) ≡ true
link_spaces names n are is = name_spaces (link_text names n) (link_is_name names n are is)

pub peer_spaces : (names : Names) (peer : Peer) → AreNames names → IsPeer names peer
    → has_no_space (peer_text names peer) ≡ true
peer_spaces names (Here inc) are is =
    ap has_no_space (here_spelled names inc) ∙ halves_spaces inc.0 is
peer_spaces names (There link session inc) are is =
    let name = link_text names link.0 in
    let own = halves_text session.0 in
    let last = halves_text inc.0 in
    ap has_no_space (there_spelled names link session inc)
    ∙ spaces-seam name (own ++ 58 ∷ last) 58 (link_spaces names link.0 are is.0) refl
    (spaces-seam own last 58 (halves_spaces session.0 is.1) refl (halves_spaces inc.0 is.2))

pub path_spaces : (names : Names) (path : Path) → AreNames names → IsPath names path
    → has_no_space (path_text names path) ≡ true
path_spaces names (Local name) are is =
    ap has_no_space (local_spelled names name) ∙ name_spaces name is
path_spaces names (Over link name) are is =
    ap has_no_space (over_spelled names link name)
    ∙ spaces-seam (link_text names link.0) name 47 (link_spaces names link.0 are is.0) refl
    (name_spaces name is.1)

pub maker_spaces : (by : By) → IsMaker by → has_no_space (maker_text by) ≡ true
unfolding maker_text
maker_spaces (Actor k) is =
    spaces-append (65 ∷ []) (decimal k) refl (decimal_spaces k (omega arith))
maker_spaces (Pump link) is =
    spaces-append (80 ∷ []) (decimal link.0) refl (decimal_spaces link.0 (omega arith))

pub position_spaces : (at : ItemAt) → IsPosition at → has_no_space (position_text at) ≡ true
position_spaces at is =
    ap has_no_space (position_spelled at)
    ∙ spaces-seam (decimal at.step) (decimal at.place) 46 (decimal_spaces at.step is.0) refl
    (decimal_spaces at.place is.1)

pub reference_spaces : (step : ℕ) → step ≤ whole_limit → has_no_space (reference_text step) ≡ true
unfolding reference_text
reference_spaces step limit =
    spaces-append (64 ∷ []) (decimal step) refl (decimal_spaces step limit)

further_spaces : (listed : List ℕ) → AreNumbers listed
    → has_no_space (flat_map further_text listed) ≡ true
further_spaces [] are = refl
further_spaces (n ∷ rest) are =
    let fits = are 0 in
    spaces-append (further_text n) _
    (spaces-append (44 ∷ []) (decimal n) refl (decimal_spaces n (omega arith)))
    (further_spaces rest (λ i. are (suc i)))

numbers_spaces : (listed : List ℕ) → AreNumbers listed → has_no_space (numbers_text listed) ≡ true
unfolding numbers_text
numbers_spaces [] are = refl
numbers_spaces (n ∷ rest) are =
    let fits = are 0 in
    spaces-append (decimal n) _ (decimal_spaces n (omega arith))
    (further_spaces rest (λ i. are (suc i)))

pub filter_spaces : (filter : Sigsel) → IsFilter filter → has_no_space (filter_text filter) ≡ true
unfolding filter_text
filter_spaces Any is = refl
filter_spaces (Only listed) is =
    spaces-append (codes "only:") (numbers_text listed) refl (numbers_spaces listed is)
filter_spaces (Not listed) is = spaces-append (codes "not:") (numbers_text listed) refl (numbers_spaces listed is)

pub data_spaces : (bytes : List ℕ) → IsShown bytes
    → has_no_space (data_text printed bytes) ≡ true
data_spaces bytes shown =
    elim (cases_lt 0 (length bytes)) [
      | inr none ↦ ap has_no_space (no_data_text bytes (omega arith))
      | inl some ↦
          elim (cases_lt 32 (length bytes)) [
            | inr few ↦
                ap has_no_space (short_text bytes some few)
                ∙ name_bytes_spaces (encode_lower bytes) (bytes_of_hexadecimal bytes shown.are_bytes)
            | inl long ↦
                let size : length (take 32 bytes) ≡ 32 =
                length-take-le 32 bytes (omega arith)
                in
                let front = bytes_of_front bytes shown.are_bytes size in
                let short = shown.short in
                let hex = encode_lower (take 32 bytes) in
                ap has_no_space (long_text bytes long)
                ∙ ap has_no_space (seam (decimal (length bytes)) hex 58)
                ∙ spaces-seam (decimal (length bytes)) hex 58
                (decimal_spaces (length bytes) (omega arith)) refl
                (name_bytes_spaces hex (bytes_of_hexadecimal (take 32 bytes) front))
          ]
    ]

pub side_spaces : (side : Side) → has_no_space (side_text side) ≡ true
side_spaces First = refl
side_spaces Second = refl

pub reason_spaces : (reason : Reason) → has_no_space (reason_text reason) ≡ true
reason_spaces Closed = refl
reason_spaces Lost = refl
reason_spaces DeadAlready = refl

pub sent_spaces : (answer : SentTo) → has_no_space (sent_text answer) ≡ true
sent_spaces Queued = refl
sent_spaces Link = refl
sent_spaces Dead = refl

pub detached_spaces : (answer : Detached) → has_no_space (detached_text answer) ≡ true
detached_spaces Pending = refl
detached_spaces QueuedNotice = refl
detached_spaces Neither = refl

pub refusal_spaces : (reason : Refusal) → has_no_space (refusal_text reason) ≡ true
refusal_spaces NoPeer = refl
refusal_spaces _ = refl

swap_spaces : (n : ℕ) → fits_verdict (Swap n) ≡ true
    → has_no_space (verdict_text (Swap n)) ≡ true
swap_spaces n fits =
    let range = and_parts (nat_le 1 n) (nat_le n 9) fits in
    let most = leb-true n 9 range.1 in
    ap (λ (d : List ℕ). has_no_space (codes "swap" ++ d)) (cond-true _ (decimal n) (codes "?") fits)
    ∙ spaces-append (codes "swap") (decimal n) refl (decimal_spaces n (omega arith))

pub verdict_spaces : (verdict : Verdict) → fits_verdict verdict ≡ true
    → has_no_space (verdict_text verdict) ≡ true
verdict_spaces Deliver fits = refl
verdict_spaces Lose fits = refl
verdict_spaces Repeat fits = refl
verdict_spaces (Swap n) fits = swap_spaces n fits

-- ---- the words of a line

-- no word has a space or a line feed
abbrev pub HaveNoSpace : List (List ℕ) → Type 0
HaveNoSpace [] = Unit {0}
HaveNoSpace (word ∷ words) = (has_no_space word ≡ true) × HaveNoSpace words

-- words without spaces are the words of their line
pub words_again : (word : List ℕ) (words : List (List ℕ)) → HaveNoSpace (word ∷ words)
    → words_of (line_of (word ∷ words)) ≡ word ∷ words
words_again word [] none = split_last 32 word (lacks_space word none.0)
words_again word (next ∷ words) none =
    split_part 32 word (line_of (next ∷ words)) (lacks_space word none.0) refl
    ∙ ap (λ (ws : List (List ℕ)). word ∷ ws) (words_again next words none.1)

-- nor has their line a line feed
pub line_feeds : (words : List (List ℕ)) → HaveNoSpace words → lacks 10 (line_of words) ≡ true
line_feeds [] none = refl
line_feeds (word ∷ []) none = lacks_feed word none.0
line_feeds (word ∷ next ∷ words) none =
    lacks-seam 10 word (line_of (next ∷ words)) 32 (lacks_feed word none.0) refl
    (line_feeds (next ∷ words) none.1)
