-- How clap reads words of which none begins with `-`, where it is to find one word to three.
use Rattle.std.proofs.Common.{◌≡◌, ◌∙◌, ◌&&◌, ◌||◌, ◌⊎◌, Bool, List, ℕ, [], ◌∷◌, refl, ap, ap₂}
use Rattle.std.proofs.Common.{subst, sym, cond, map, option_map, true, false, codes, Option, Some}
use Rattle.std.proofs.Common.{None, true≢false, ⊎_elim, inl, inr, option_and_then, is_some}
use Rattle.std.proofs.Common.{string_bytes, String, Bor, bytes_eq, ◌≤◌, length, arith}
use Rattle.std.proofs.lemmas.List.{length-map}
use Rattle.std.specs.List.{list_any}
use Rattle.std.specs.Option.{option_map_or}
use Rattle.clap.specs.Lexer.{long_of, long_of_rest, short_of, short_of_rest, strip_byte}
use Rattle.clap.specs.Words.{App, HasKind, Kinds, Shape, Text, built, fault_of, first_of}
use Rattle.clap.specs.Words.{first_value, is_simple, is_simple_and_free, kind_of, matches_of}
use Rattle.clap.specs.Words.{rows_of}
use Rattle.clap.specs.Kinds.{or_else}
use Rattle.clap.specs.Walk.{Held, Step, Walk, after_step, finished, idle, long_or_other}
use Rattle.clap.specs.Walk.{nothing_held, settled, short_or_plain, trailing, value, walk, walk_from}
use Rattle.clap.specs.Walk.{walked, word_met}
use Rattle.clap.specs.Faults.{bundle_fault, check_fault, defaults_fault, entered_fault}
use Rattle.clap.specs.Faults.{flag_word_fault, other_fault, settle_fault, step_fault, turn_fault}
use Rattle.clap.specs.Faults.{walk_fault}
use Rattle.clap.specs.Simple.{entered}
use Rattle.clap.specs.declared.error.kind.ErrorKind.TheVariants.{MissingRequiredArgument}
use Rattle.clap.specs.declared.error.kind.ErrorKind.TheVariants.{OutOfMemory, UnknownArgument}
use Rattle.clap.specs.declared.error.Error.{Error}
use Rattle.clap.specs.declared.parser.matches.Found.{Found}
use Rattle.clap.proofs.OnLiterals.{clap_on_literals}
use Rattle.clap.proofs.WalkLemmas.{first_value-rows, list_any-map}
use Rattle.command_words.specs.CommandLine.{is_dashed, request_from, three_words}
use Rattle.command_words.specs.Requests.{request_by, request_of}
use Rattle.command_words.specs.declared.request.Request.{Request}

is_simple_line : is_simple_and_free three_words ≡ true
unfolding clap_on_literals
is_simple_line = refl

is_simple_word : is_simple three_words ≡ true
unfolding clap_on_literals
is_simple_word = refl

-- ---- a word that does not begin with `-`

not_long : (word : Text) → is_dashed word ≡ false → long_of word ≡ None
not_long [] plain = refl
not_long (x ∷ xs) plain =
    ap (λ b. option_and_then long_of_rest (option_and_then (strip_byte 45) (cond b (Some xs) None)))
    plain

not_short : (word : Text) → is_dashed word ≡ false → short_of word ≡ None
not_short [] plain = refl
not_short (x ∷ xs) plain = ap (λ b. option_and_then short_of_rest (cond b (Some xs) None)) plain

not_dashes : (word : Text) → is_dashed word ≡ false → bytes_eq word (45 ∷ 45 ∷ []) ≡ false
not_dashes [] plain = refl
not_dashes (x ∷ xs) plain = ap (λ b. b && bytes_eq xs (45 ∷ [])) plain

-- ---- the walk

abbrev top : Shape
top = (built three_words).top

abbrev start : Walk
start = walk_from nothing_held

-- the walk after a value
abbrev after : Walk → Text → Walk
after w word = after_step top.rules word w w.held value

-- the walk after a first word
abbrev after_one : Text → Walk
after_one first = after start first

-- the walk after a second one
abbrev after_two : Text → Text → Walk
after_two first second = after (after_one first) second

-- the walk after a third one
abbrev after_three : Text → Text → Text → Walk
after_three first second third = after (after_two first second) third

is_value : (position : ℕ) (word : Text) (h : Held) → is_dashed word ≡ false
    → word_met top.rules [] false idle position word h ≡ (h, value)
is_value position word h plain =
    ap (λ b. cond b (h, trailing position) (long_or_other top.rules idle word (long_of word) h))
    (not_dashes word plain)
    ∙ ap (λ o. long_or_other top.rules idle word o h) (not_long word plain)
    ∙ ap (λ o. short_or_plain top.rules idle word o h) (not_short word plain)

no_flag : (word : Text) (h : Held) → is_dashed word ≡ false → other_fault top None word h ≡ []
no_flag word h plain =
    ap (λ b. cond b [] (flag_word_fault top.rules top.args_override_self (long_of word) word h))
    (not_dashes word plain)
    ∙ ap (λ o. flag_word_fault top.rules top.args_override_self o word h) (not_long word plain)
    ∙ ap (λ o. option_map_or (λ flags. bundle_fault top.rules top.args_override_self flags h) o [])
    (not_short word plain)

walked_one : (first : Text) → is_dashed first ≡ false
    → walked top.rules [] start first ≡ after_one first
unfolding walked
walked_one first plain =
    ap (λ (m : Held × Step). after_step top.rules first start m.0 m.1)
    (is_value 1 first nothing_held plain)

walked_two : (first second : Text) → is_dashed second ≡ false
    → walked top.rules [] (after_one first) second ≡ after_two first second
unfolding walked
walked_two first second plain =
    ap (λ (m : Held × Step). after_step top.rules second (after_one first) m.0 m.1)
    (is_value 2 second (after_one first).held plain)

walked_three : (first second third : Text) → is_dashed third ≡ false
    → walked top.rules [] (after_two first second) third ≡ after_three first second third
unfolding walked
walked_three first second third plain =
    ap (λ (m : Held × Step). after_step top.rules third (after_two first second) m.0 m.1)
    (is_value 3 third (after_two first second).held plain)

first_turn : (first : Text) → is_dashed first ≡ false → turn_fault top [] start first ≡ []
first_turn first plain =
    ap₂ (λ (k : Kinds) (m : Held × Step). or_else k (step_fault top 1 m.0 m.1))
    (no_flag first nothing_held plain) (is_value 1 first nothing_held plain)

second_turn : (first second : Text) → is_dashed second ≡ false
    → turn_fault top [] (after_one first) second ≡ []
second_turn first second plain =
    ap₂ (λ (k : Kinds) (m : Held × Step). or_else k (step_fault top 2 m.0 m.1))
    (no_flag second (after_one first).held plain) (is_value 2 second (after_one first).held plain)

third_turn : (first second third : Text) → is_dashed third ≡ false
    → turn_fault top [] (after_two first second) third ≡ []
third_turn first second third plain =
    ap₂ (λ (k : Kinds) (m : Held × Step). or_else k (step_fault top 3 m.0 m.1))
    (no_flag third (after_two first second).held plain)
    (is_value 3 third (after_two first second).held plain)

-- a fourth word finds no argument
fourth_turn : (first second third fourth : Text) → is_dashed fourth ≡ false
    → turn_fault top [] (after_three first second third) fourth ≡ UnknownArgument ∷ []
fourth_turn first second third fourth plain =
    ap₂ (λ (k : Kinds) (m : Held × Step). or_else k (step_fault top 4 m.0 m.1))
    (no_flag fourth (after_three first second third).held plain)
    (is_value 4 fourth (after_three first second third).held plain)

-- ---- the faults

-- those past the walk over the words, by where it stands at their end
abbrev later : Walk → Kinds
later w = or_else (entered_fault (built three_words) w.stopped)
    (or_else (settle_fault top.rules top.args_override_self w.held)
    (or_else (defaults_fault (settled top.rules w.held).rows top.rules)
    (check_fault top (finished top.rules w.held) (is_some (entered (built three_words) w.stopped)))))

none_after_one : (first : Text) → later (after_one first) ≡ []
unfolding defaults_fault
none_after_one first = refl

none_after_two : (first second : Text) → later (after_two first second) ≡ []
unfolding defaults_fault
none_after_two first second = refl

none_after_three : (first second third : Text) → later (after_three first second third) ≡ []
unfolding defaults_fault
none_after_three first second third = refl

none_at_one : (first : Text) → is_dashed first ≡ false → fault_of three_words (first ∷ []) ≡ []
unfolding walk_fault
none_at_one first plain =
    ap₂ (λ (k : Kinds) (w : Walk). or_else (or_else k []) (later w)) (first_turn first plain)
    (walked_one first plain) ∙ none_after_one first

-- the faults of the walk over two words and more are those behind them
past_two : (first second : Text) (rest : List Text) → is_dashed first ≡ false
    → is_dashed second ≡ false
    → walk_fault top [] start (first ∷ second ∷ rest)
    ≡ walk_fault top [] (after_two first second) rest
unfolding walk_fault
past_two first second rest plain plain2 =
    ap₂ (λ (k : Kinds) (w : Walk). or_else k (or_else (turn_fault top [] w second)
    (walk_fault top [] (walked top.rules [] w second) rest)))
    (first_turn first plain) (walked_one first plain)
    ∙ ap₂ (λ (k : Kinds) (w : Walk). or_else k (walk_fault top [] w rest))
    (second_turn first second plain2) (walked_two first second plain2)

walked_both : (first second : Text) → is_dashed first ≡ false → is_dashed second ≡ false
    → walk top.rules [] nothing_held (first ∷ second ∷ []) ≡ after_two first second
walked_both first second plain plain2 =
    ap (λ (w : Walk). walked top.rules [] w second) (walked_one first plain)
    ∙ walked_two first second plain2

none_at_two : (first second : Text) → is_dashed first ≡ false → is_dashed second ≡ false
    → fault_of three_words (first ∷ second ∷ []) ≡ []
unfolding walk_fault
none_at_two first second plain plain2 =
    ap₂ (λ (k : Kinds) (w : Walk). or_else k (later w)) (past_two first second [] plain plain2)
    (walked_both first second plain plain2) ∙ none_after_two first second

-- and those of the walk over three words and more
past_three : (first second third : Text) (rest : List Text) → is_dashed first ≡ false
    → is_dashed second ≡ false → is_dashed third ≡ false
    → walk_fault top [] start (first ∷ second ∷ third ∷ rest)
    ≡ walk_fault top [] (after_three first second third) rest
unfolding walk_fault
past_three first second third rest plain plain2 plain3 =
    past_two first second (third ∷ rest) plain plain2
    ∙ ap₂ (λ (k : Kinds) (w : Walk). or_else k (walk_fault top [] w rest))
    (third_turn first second third plain3) (walked_three first second third plain3)

walked_all : (first second third : Text) → is_dashed first ≡ false → is_dashed second ≡ false
    → is_dashed third ≡ false
    → walk top.rules [] nothing_held (first ∷ second ∷ third ∷ []) ≡ after_three first second third
walked_all first second third plain plain2 plain3 =
    ap (λ (w : Walk). walked top.rules [] (walked top.rules [] w second) third)
    (walked_one first plain)
    ∙ ap (λ (w : Walk). walked top.rules [] w third) (walked_two first second plain2)
    ∙ walked_three first second third plain3

none_at_three : (first second third : Text) → is_dashed first ≡ false → is_dashed second ≡ false
    → is_dashed third ≡ false → fault_of three_words (first ∷ second ∷ third ∷ []) ≡ []
unfolding walk_fault
none_at_three first second third plain plain2 plain3 =
    ap₂ (λ (k : Kinds) (w : Walk). or_else k (later w))
    (past_three first second third [] plain plain2 plain3)
    (walked_all first second third plain plain2 plain3) ∙ none_after_three first second third

walk_four : (first second third fourth : Text) (rest : List Text) → is_dashed first ≡ false
    → is_dashed second ≡ false → is_dashed third ≡ false → is_dashed fourth ≡ false
    → walk_fault top [] start (first ∷ second ∷ third ∷ fourth ∷ rest) ≡ UnknownArgument ∷ []
unfolding walk_fault
walk_four first second third fourth rest plain plain2 plain3 plain4 =
    past_three first second third (fourth ∷ rest) plain plain2 plain3
    ∙ ap (λ (k : Kinds). or_else k
    (walk_fault top [] (walked top.rules [] (after_three first second third) fourth) rest))
    (fourth_turn first second third fourth plain4)

fault_at_four : (first second third fourth : Text) (rest : List Text) → is_dashed first ≡ false
    → is_dashed second ≡ false → is_dashed third ≡ false → is_dashed fourth ≡ false
    → fault_of three_words (first ∷ second ∷ third ∷ fourth ∷ rest) ≡ UnknownArgument ∷ []
fault_at_four first second third fourth rest plain plain2 plain3 plain4 =
    ap (λ (k : Kinds). or_else k
    (later (walk top.rules [] nothing_held (first ∷ second ∷ third ∷ fourth ∷ rest))))
    (walk_four first second third fourth rest plain plain2 plain3 plain4)

fault_at_none : fault_of three_words [] ≡ MissingRequiredArgument ∷ []
unfolding clap_on_literals
fault_at_none = refl

-- ---- what is read

-- what the arguments of these rows ask for
abbrev asked_at : Walk → Option Request
asked_at w = request_from (first_of (codes "word") (finished top.rules w.held))
    (first_of (codes "argument") (finished top.rules w.held))
    (first_of (codes "file") (finished top.rules w.held))

-- what the arguments that clap finds in the words ask for
abbrev asked_in : List Text → Option Request
asked_in words = request_from (first_of (codes "word") (matches_of three_words words))
    (first_of (codes "argument") (matches_of three_words words))
    (first_of (codes "file") (matches_of three_words words))

neither : (a b : Bool) → (a || b) ≡ false → (a ≡ false) × (b ≡ false)
neither true b e = absurd (true≢false e)
neither false b e = (refl, e)

-- words that clap takes are one word to three, and it finds them
read_as_asked : (words : List Text) → list_any is_dashed words ≡ false
    → fault_of three_words words ≡ [] → asked_in words ≡ request_by words
read_as_asked [] plain none =
    let bad : MissingRequiredArgument ∷ [] ≡ [] = sym fault_at_none ∙ none in
    cc
read_as_asked (first ∷ []) plain none = ap asked_at (walked_one first (neither _ _ plain).0)
read_as_asked (first ∷ second ∷ []) plain none =
    let parts = neither _ _ plain in
    ap asked_at (walked_both first second parts.0 (neither _ _ parts.1).0)
read_as_asked (first ∷ second ∷ third ∷ []) plain none =
    let parts = neither _ _ plain in
    let others = neither _ _ parts.1 in
    ap asked_at (walked_all first second third parts.0 others.0 (neither _ _ others.1).0)
read_as_asked (first ∷ second ∷ third ∷ fourth ∷ rest) plain none =
    let parts = neither _ _ plain in
    let others = neither _ _ parts.1 in
    let last = neither _ _ others.1 in
    let bad : UnknownArgument ∷ [] ≡ [] = sym (fault_at_four first second third fourth rest parts.0
    others.0 last.0 (neither _ _ last.1).0) ∙ none in
    cc

-- ---- the answers

-- words that ask for something are such that clap fails for want of memory alone
fails_at : (words : List Text) → length words ≤ 3 → (e : Error) → list_any is_dashed words ≡ false
    → HasKind (fault_of three_words words) e
    → (kind_of e ≡ OutOfMemory) ⊎ (request_by words ≡ None)
fails_at [] few e plain fails = inr refl
fails_at (first ∷ []) few e plain fails =
    ⊎_elim (λ memory. inl memory) (λ among. absurd among)
    (subst (λ kinds. HasKind kinds e) (none_at_one first (neither _ _ plain).0) fails)
fails_at (first ∷ second ∷ []) few e plain fails =
    let parts = neither _ _ plain in
    ⊎_elim (λ memory. inl memory) (λ among. absurd among)
    (subst (λ kinds. HasKind kinds e)
    (none_at_two first second parts.0 (neither _ _ parts.1).0) fails)
fails_at (first ∷ second ∷ third ∷ []) few e plain fails =
    let parts = neither _ _ plain in
    let others = neither _ _ parts.1 in
    ⊎_elim (λ memory. inl memory) (λ among. absurd among)
    (subst (λ kinds. HasKind kinds e)
    (none_at_three first second third parts.0 others.0 (neither _ _ others.1).0) fails)
fails_at (first ∷ second ∷ third ∷ fourth ∷ rest) few e plain fails = absurd (omega (arith, few))

pub only_memory : {Z : Type 0} (line : App) (words : List (String Z)) (e : Error)
    → length words ≤ 3 → line ≡ three_words
    → list_any (λ word. is_dashed (string_bytes word)) words ≡ false
    → (is_simple_and_free line ≡ true → HasKind (fault_of line (map string_bytes words)) e)
    → (kind_of e ≡ OutOfMemory) ⊎ (request_of words ≡ None)
only_memory line words e few same plain fails =
    let texts = map string_bytes words in
    let simple : is_simple_and_free line ≡ true = ap is_simple_and_free same ∙ is_simple_line in
    fails_at texts (subst (λ (n : ℕ). n ≤ 3) (sym (length-map words string_bytes)) few) e (sym (list_any-map is_dashed string_bytes words) ∙ plain)
    (subst (λ (a : App). HasKind (fault_of a texts) e) same (fails simple))

pub asked_is : {Z : Type 0} (line : App) (words : List (String Z)) (found : Found)
    (asked : Option Request) (word argument file : Option (Bor Text)) → line ≡ three_words
    → list_any (λ word. is_dashed (string_bytes word)) words ≡ false
    → (is_simple_and_free line ≡ true → fault_of line (map string_bytes words) ≡ [])
    → (is_simple line ≡ true → rows_of found ≡ matches_of line (map string_bytes words))
    → option_map (λ s. s.now) word ≡ first_value found (codes "word")
    → option_map (λ s. s.now) argument ≡ first_value found (codes "argument")
    → option_map (λ s. s.now) file ≡ first_value found (codes "file")
    → asked ≡ request_from (option_map (λ s. s.now) word) (option_map (λ s. s.now) argument)
    (option_map (λ s. s.now) file)
    → asked ≡ request_of words
asked_is line words found asked command number name same plain passes rows first second third is =
    let texts = map string_bytes words in
    let none : fault_of three_words texts ≡ [] = ap (λ a. fault_of a texts) (sym same)
    ∙ passes (ap is_simple_and_free same ∙ is_simple_line) in
    let found_rows : rows_of found ≡ matches_of three_words texts = rows (ap is_simple same
    ∙ is_simple_word) ∙ ap (λ a. matches_of a texts) same in
    let read = λ (id : Text). first_value-rows found id ∙ ap (first_of id) found_rows in
    is ∙ ap₂ (λ w a. request_from w a (option_map (λ s. s.now) name)) (first ∙ read (codes "word"))
    (second ∙ read (codes "argument"))
    ∙ ap (λ f. request_from (first_of (codes "word") (matches_of three_words texts))
    (first_of (codes "argument") (matches_of three_words texts)) f) (third ∙ read (codes "file"))
    ∙ read_as_asked texts (sym (list_any-map is_dashed string_bytes words) ∙ plain) none
