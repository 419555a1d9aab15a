-- What journal_text prints is the spelling by words.
use Rattle.std.proofs.Common.{◌≡◌, ℕ, List, [], ◌∷◌, ◌++◌, refl, sym, ap, ◌∙◌, codes, decimal}
use Rattle.std.proofs.Common.{append_assoc}
use Rattle.linx_base.specs.declared.name.Names.{Names}
use Rattle.journal.specs.declared.by.By.{By}
use Rattle.journal.specs.declared.head.Head.{Head}
use Rattle.journal.specs.declared.head.Head.TheVariants.{Close, Send, Take}
use Rattle.journal.specs.declared.head.Head.TheVariants.{Hunt, Attach, Detach}
use Rattle.journal.specs.declared.head.Head.TheVariants.{Wire, Tick}
use Rattle.journal.specs.declared.effect.Effect.{Effect}
use Rattle.journal.specs.declared.effect.Effect.TheVariants.{Opened, Closed, Arrived, Found}
use Rattle.journal.specs.declared.effect.Effect.TheVariants.{Notified}
use Rattle.journal_text.specs.Values.{Digest, data_text, signal_text, peer_signal_text}
use Rattle.journal_text.specs.Values.{maker_text, halves_text, peer_text, path_text}
use Rattle.journal_text.specs.Values.{reference_text, reason_text}
use Rattle.journal_text.specs.Steps.{head_text, effect_text, effect_line}
use Rattle.journal_words.specs.declared.lines.Line.TheVariants.{Made, Happened}
use Rattle.reading_laws.specs.Spelled.{head_words, effect_words, line_of, line_words}
use Rattle.reading_laws.proofs.Cuts.{seams}

-- words as journal_text joins them, and as a line does
two_joined : (s a b c : List ℕ) → (a ++ s) ++ ((b ++ s) ++ c) ≡ a ++ (s ++ (b ++ (s ++ c)))
two_joined s a b c = simp append_assoc

three_joined : (s a b c d : List ℕ)
    → (a ++ s) ++ ((b ++ s) ++ ((c ++ s) ++ d)) ≡ a ++ (s ++ (b ++ (s ++ (c ++ (s ++ d)))))
three_joined s a b c d = simp append_assoc

four_joined : (s a b c d e : List ℕ)
    → (((a ++ s) ++ ((b ++ s) ++ ((c ++ s) ++ d))) ++ s) ++ e
    ≡ a ++ (s ++ (b ++ (s ++ (c ++ (s ++ (d ++ (s ++ e)))))))
four_joined s a b c d e = simp append_assoc

five_joined : (s a b c d e f : List ℕ)
    → (((((a ++ s) ++ ((b ++ s) ++ ((c ++ s) ++ d))) ++ s) ++ e) ++ s) ++ f
    ≡ a ++ (s ++ (b ++ (s ++ (c ++ (s ++ (d ++ (s ++ (e ++ (s ++ f)))))))))
five_joined s a b c d e f = simp append_assoc

pub head_printed : (digest : Digest) (names : Names) (head : Head)
    → line_of (head_words digest names head) ≡ head_text digest names head
unfolding head_words head_text peer_signal_text signal_text
head_printed digest names (Send peer note answer) = simp append_assoc
head_printed digest names (Take filter at) = simp append_assoc
head_printed digest names (Hunt path note) =
    let path_part = path_text names path in
    let number = decimal note.number in
    ap (λ (xs : List ℕ). codes "hunt " ++ xs)
    (sym (two_joined (32 ∷ []) path_part number (data_text digest note.bytes)))
head_printed digest names (Attach peer note) = simp append_assoc
head_printed digest names (Detach reference answer) = simp append_assoc
head_printed digest names (Wire link side verdict) = simp append_assoc
head_printed digest names (Tick link side) = simp append_assoc
head_printed digest names _ = refl

pub effect_printed : (digest : Digest) (names : Names) (effect : Effect)
    → line_of (effect_words digest names effect) ≡ effect_text digest names effect
unfolding effect_words effect_text peer_signal_text signal_text
effect_printed digest names (Opened inc) = refl
effect_printed digest names (Closed inc) = refl
effect_printed digest names (Arrived inc peer note) =
    let at = halves_text inc.0 in
    let from = peer_text names peer in
    let number = decimal note.number in
    ap (λ (xs : List ℕ). codes "arrived " ++ xs)
    (sym (three_joined (32 ∷ []) at from number (data_text digest note.bytes)))
effect_printed digest names (Found inc peer note hunt) =
    let at = halves_text inc.0 in
    let from = peer_text names peer in
    let number = decimal note.number in
    let step = reference_text hunt in
    ap (λ (xs : List ℕ). codes "found " ++ xs)
    (sym (four_joined (32 ∷ []) at from number (data_text digest note.bytes) step))
effect_printed digest names (Notified inc peer note reference reason) =
    let at = halves_text inc.0 in
    let from = peer_text names peer in
    let number = decimal note.number in
    let step = reference_text reference.0 in
    let why = reason_text reason in
    ap (λ (xs : List ℕ). codes "notified " ++ xs)
    (sym (five_joined (32 ∷ []) at from number (data_text digest note.bytes) step why))
effect_printed digest names _ = simp append_assoc

-- a word before the words of a head, or of an effect, of which there is one
before_head : (digest : Digest) (names : Names) (word : List ℕ) (head : Head)
    → line_of (word ∷ head_words digest names head)
    ≡ word ++ 32 ∷ line_of (head_words digest names head)
unfolding head_words
before_head digest names word Close = refl
before_head digest names word _ = refl

before_effect : (digest : Digest) (names : Names) (word : List ℕ) (effect : Effect)
    → line_of (word ∷ effect_words digest names effect)
    ≡ word ++ 32 ∷ line_of (effect_words digest names effect)
unfolding effect_words
before_effect digest names word (Opened inc) = refl
before_effect digest names word _ = refl

pub effect_line_printed : (digest : Digest) (names : Names) (effect : Effect)
    → line_of (line_words digest names (Happened effect)) ++ codes "\n" ≡ effect_line digest names effect
unfolding effect_line
effect_line_printed digest names effect =
    ap (λ (xs : List ℕ). xs ++ codes "\n") (before_effect digest names (codes "+") effect)
    ∙ ap (λ (xs : List ℕ). (codes "+ " ++ xs) ++ codes "\n") (effect_printed digest names effect)

pub step_printed : (digest : Digest) (names : Names) (position : ℕ) (by : By) (head : Head)
    → line_of (line_words digest names (Made position by head))
    ≡ decimal position ++ codes " " ++ maker_text by ++ codes " " ++ head_text digest names head
step_printed digest names position by head =
    let rest = line_of (head_words digest names head) in
    ap (λ (xs : List ℕ). decimal position ++ 32 ∷ xs) (before_head digest names (maker_text by) head)
    ∙ ap (λ (xs : List ℕ). decimal position ++ 32 ∷ (maker_text by ++ 32 ∷ xs))
    (head_printed digest names head)
    ∙ sym (seams (decimal position) (maker_text by) (head_text digest names head) 32)
