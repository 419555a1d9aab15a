-- A line is read from its bytes alone.
use Rattle.std.proofs.Common.{subst, inl, inr, ◌≡◌, ℕ, ◌≤◌, Bool, true, false, cond, List, [], ◌∷◌}
use Rattle.std.proofs.Common.{refl, sym, ap, ◌∙◌, Option, Some, None, arith, get_or, length, codes}
use Rattle.std.proofs.Common.{decimal, bytes_eq}
use Rattle.std.specs.Char.{is_ascii_digit}
use Rattle.std.specs.List.{list_all, join_with_byte}
use Rattle.std.proofs.lemmas.Bool.{cases_Bool, cond-true, cond-false, false_from_ne_true, both_ways}
use Rattle.std.proofs.lemmas.List.Splits.{join_with_byte-slice_split}
use Rattle.linx_base.specs.declared.name.Names.{Names}
use Rattle.journal.specs.declared.by.By.{By}
use Rattle.journal.specs.declared.effect.Effect.{Effect}
use Rattle.journal.specs.declared.effect.Effect.TheVariants.{Opened, Closed, Arrived, Found}
use Rattle.journal.specs.declared.effect.Effect.TheVariants.{Notified, Met, Gone, Up, Down}
use Rattle.journal.specs.declared.head.Head.{Head}
use Rattle.journal.specs.declared.head.Head.TheVariants.{Open, Close, Send, Take, TakeNone, Waits}
use Rattle.journal.specs.declared.head.Head.TheVariants.{Hunt, Attach, Detach, Cut, Mend, Settle}
use Rattle.journal.specs.declared.head.Head.TheVariants.{Restart, Wire, Tick, Refused, Ended}
use Rattle.journal_words.specs.declared.lines.Line.{Line}
use Rattle.journal_words.specs.declared.lines.Line.TheVariants.{Made, Happened}
use Rattle.text_words.specs.Gives.{◌>>=◌, made}
use Rattle.text_words.specs.Words.{words_of}
use Rattle.text_words.specs.Numbers.{u64_in, whole_limit}
use Rattle.journal_words.specs.Peers.{maker_in}
use Rattle.journal_words.specs.Lines.{head_at, effect_at, step_line_in, line_by, line_in}
use Rattle.journal_text.specs.Values.{maker_text}
use Rattle.reading_laws.specs.Spelled.{head_words, effect_words, line_of, line_words}
use Rattle.reading_laws.specs.Forms.{printed, AreNames, IsHead, IsEffect, IsLine}
use Rattle.reading_laws.proofs.Tools.{bind_some, made_some, same_text}
use Rattle.reading_laws.proofs.NumberLaws.{digits_all}
use Rattle.reading_laws.proofs.PeerLaws.{maker_again, maker_found, u64_again, u64_found}
use Rattle.reading_laws.proofs.HeadLaws.{IsOfHead, head_again, head_found}
use Rattle.reading_laws.proofs.EffectLaws.{IsOfEffect, effect_again, effect_found}
use Rattle.reading_laws.proofs.Cuts.{lacks}
use Rattle.reading_laws.proofs.Spaces.{HaveNoSpace, words_again, line_feeds, name_spaces}
use Rattle.reading_laws.proofs.Spaces.{decimal_spaces}
use Rattle.reading_laws.proofs.Spaces.{halves_spaces, node_spaces, link_spaces, peer_spaces}
use Rattle.reading_laws.proofs.Spaces.{path_spaces, maker_spaces, position_spaces, reference_spaces}
use Rattle.reading_laws.proofs.Spaces.{filter_spaces, data_spaces, side_spaces, reason_spaces}
use Rattle.reading_laws.proofs.Spaces.{sent_spaces, detached_spaces, refusal_spaces, verdict_spaces}

pub head_found_at : (names : Names) (words : List (List ℕ)) (head : Head)
    → head_at names words ≡ Some head → IsOfHead names words head
head_found_at names [] head h = cc
head_found_at names (first ∷ words) head h = head_found names first words head h

pub effect_found_at : (names : Names) (words : List (List ℕ)) (effect : Effect)
    → effect_at names words ≡ Some effect → IsOfEffect names words effect
effect_found_at names [] effect h = cc
effect_found_at names (first ∷ words) effect h = effect_found names first words effect h

-- ---- no word has a space

head_spaces : (names : Names) (head : Head) → AreNames names → IsHead names head
    → HaveNoSpace (head_words printed names head)
unfolding head_words
head_spaces names (Open name) are is = (refl, (name_spaces name is, tt))
head_spaces names Close are is = (refl, tt)
head_spaces names (Send peer note answer) are is =
    let number = is.1.number in (
      refl,
      (
        peer_spaces names peer are is.0,
        (
          decimal_spaces note.number (omega arith),
          (data_spaces note.bytes is.1.bytes, (sent_spaces answer, tt)),
        ),
      ),
    )
head_spaces names (Take filter at) are is =
    (refl, (filter_spaces filter is.0, (position_spaces at is.1, tt)))
head_spaces names (TakeNone filter) are is = (refl, (filter_spaces filter is, tt))
head_spaces names (Waits filter) are is = (refl, (filter_spaces filter is, tt))
head_spaces names (Hunt path note) are is =
    let number = is.1.number in (
      refl,
      (
        path_spaces names path are is.0,
        (
          decimal_spaces note.number (omega arith),
          (data_spaces note.bytes is.1.bytes, tt),
        ),
      ),
    )
head_spaces names (Attach peer note) are is =
    let number = is.1.number in (
      refl,
      (
        peer_spaces names peer are is.0,
        (
          decimal_spaces note.number (omega arith),
          (data_spaces note.bytes is.1.bytes, tt),
        ),
      ),
    )
head_spaces names (Detach reference answer) are is =
    (refl, (reference_spaces reference.0 is, (detached_spaces answer, tt)))
head_spaces names (Cut link) are is = (refl, (link_spaces names link.0 are is, tt))
head_spaces names (Mend link) are is = (refl, (link_spaces names link.0 are is, tt))
head_spaces names (Settle link) are is = (refl, (link_spaces names link.0 are is, tt))
head_spaces names (Restart node) are is = (refl, (node_spaces names node.0 are is, tt))
head_spaces names (Wire link side verdict) are is = (
  refl,
  (
    link_spaces names link.0 are is.0,
    (side_spaces side, (verdict_spaces verdict is.1, tt)),
  ),
)
head_spaces names (Tick link side) are is =
    (refl, (link_spaces names link.0 are is, (side_spaces side, tt)))
head_spaces names (Refused reason) are is = (refl, (refusal_spaces reason, tt))
head_spaces names Ended are is = (refl, tt)

effect_spaces : (names : Names) (effect : Effect) → AreNames names → IsEffect names effect
    → HaveNoSpace (effect_words printed names effect)
unfolding effect_words
effect_spaces names (Opened inc) are is = (refl, (halves_spaces inc.0 is, tt))
effect_spaces names (Closed inc) are is = (refl, (halves_spaces inc.0 is, tt))
effect_spaces names (Arrived inc peer note) are is =
    let number = is.2.number in (
      refl,
      (
        halves_spaces inc.0 is.0,
        (
          peer_spaces names peer are is.1,
          (decimal_spaces note.number (omega arith), (data_spaces note.bytes is.2.bytes, tt)),
        ),
      ),
    )
effect_spaces names (Found inc peer note hunt) are is =
    let number = is.2.number in (
      refl,
      (
        halves_spaces inc.0 is.0,
        (
          peer_spaces names peer are is.1,
          (
            decimal_spaces note.number (omega arith),
            (
              data_spaces note.bytes is.2.bytes,
              (reference_spaces hunt is.3, tt),
            ),
          ),
        ),
      ),
    )
effect_spaces names (Notified inc peer note reference reason) are is =
    let number = is.2.number in (
      refl,
      (
        halves_spaces inc.0 is.0,
        (
          peer_spaces names peer are is.1,
          (
            decimal_spaces note.number (omega arith),
            (
              data_spaces note.bytes is.2.bytes,
              (reference_spaces reference.0 is.3, (reason_spaces reason, tt)),
            ),
          ),
        ),
      ),
    )
effect_spaces names (Met node peer name) are is = (
  refl,
  (
    node_spaces names node.0 are is.0,
    (
      peer_spaces names peer are is.1,
      (name_spaces name is.2, tt),
    ),
  ),
)
effect_spaces names (Gone node peer) are is =
    (refl, (node_spaces names node.0 are is.0, (peer_spaces names peer are is.1, tt)))
effect_spaces names (Up node link session other) are is = (
  refl,
  (
    node_spaces names node.0 are is.0,
    (
      link_spaces names link.0 are is.1,
      (halves_spaces session.0 is.2, (halves_spaces other.0 is.3, tt)),
    ),
  ),
)
effect_spaces names (Down node link session) are is = (
  refl,
  (
    node_spaces names node.0 are is.0,
    (
      link_spaces names link.0 are is.1,
      (halves_spaces session.0 is.2, tt),
    ),
  ),
)

-- ---- lines

-- a number isn't `+`
pub no_plus : (n : ℕ) → n ≤ whole_limit → bytes_eq (decimal n) (codes "+") ≡ false
no_plus n limit =
    false_from_ne_true _ (λ holds.
    let is = same_text (decimal n) (codes "+") holds in
    both_ways (list_all is_ascii_digit (decimal n)) (ap (list_all is_ascii_digit) is)
    (digits_all n limit))

pub words_spaces : (names : Names) (line : Line) → AreNames names → IsLine names line
    → HaveNoSpace (line_words printed names line)
words_spaces names (Made position by head) are is =
    (decimal_spaces position is.0, (maker_spaces by is.1, head_spaces names head are is.2))
words_spaces names (Happened effect) are is = (refl, effect_spaces names effect are is)

-- a line has no line feed
pub line_of_line_feeds : (names : Names) (line : Line) → AreNames names → IsLine names line
    → lacks 10 (line_of (line_words printed names line)) ≡ true
line_of_line_feeds names line are is =
    line_feeds (line_words printed names line) (words_spaces names line are is)

words_of_line : (names : Names) (line : Line) → AreNames names → IsLine names line
    → words_of (line_of (line_words printed names line)) ≡ line_words printed names line
words_of_line names (Made position by head) are is =
    words_again (decimal position) (maker_text by ∷ head_words printed names head)
    (words_spaces names (Made position by head) are is)
words_of_line names (Happened effect) are is =
    words_again (codes "+") (effect_words printed names effect)
    (words_spaces names (Happened effect) are is)

line_by_again : (names : Names) (line : Line) → AreNames names → IsLine names line
    → line_by names (line_words printed names line) ≡ Some line
unfolding line_by step_line_in
line_by_again names (Made position by head) are is =
    cond-false _ _ _ (no_plus position is.0)
    ∙ rw (u64_again position is.0, maker_again by is.1, head_again names head are is.2) refl
line_by_again names (Happened effect) are is =
    ap (made Happened) (effect_again names effect are is)

pub line_again : (names : Names) (line : Line) → AreNames names → IsLine names line
    → line_in names (line_of (line_words printed names line)) ≡ Some line
line_again names line are is =
    ap (line_by names) (words_of_line names line are is) ∙ line_by_again names line are is

-- words that spell a line
pub record IsOfLine (names : Names) (words : List (List ℕ)) (line : Line) : Type 0 where
  pub spelled : words ≡ line_words printed names line
  pub is : IsLine names line

made_found : (names : Names) (first : List ℕ) (words : List (List ℕ)) (line : Line)
    → step_line_in names first words ≡ Some line → IsOfLine names (first ∷ words) line
unfolding step_line_in
made_found names first [] line h = cc
made_found names first (maker ∷ words) line h =
    let position = bind_some (u64_in first) _ line h in
    let by = bind_some (maker_in maker) _ line position.2 in
    let head = bind_some (head_at names words) _ line by.2 in
    let position_is = u64_found position.0 first position.1 in
    let by_is = maker_found maker by.0 by.1 in
    let head_is = head_found_at names words head.0 head.1 in
    let same : Made position.0 by.0 head.0 ≡ line = cc in
    subst (λ (l : Line). IsOfLine names (first ∷ maker ∷ words) l) same (record {
      spelled = cc;
      is = (position_is.1, by_is.is, head_is.is);
    })

happened_found : (names : Names) (words : List (List ℕ)) (line : Line)
    → made Happened (effect_at names words) ≡ Some line
    → IsOfLine names (codes "+" ∷ words) line
happened_found names words line h =
    let effect = made_some Happened (effect_at names words) line h in
    let is = effect_found_at names words effect.0 effect.1 in
    subst (λ (l : Line). IsOfLine names (codes "+" ∷ words) l) (sym effect.2) (record {
      spelled = cc;
      is = is.is;
    })

line_by_found : (names : Names) (words : List (List ℕ)) (line : Line)
    → line_by names words ≡ Some line → IsOfLine names words line
unfolding line_by
line_by_found names [] line h = cc
line_by_found names (first ∷ words) line h =
    elim (cases_Bool (bytes_eq first (codes "+"))) [
      | inl holds ↦
          let e = sym (cond-true _ _ (step_line_in names first words) holds) ∙ h in
          subst (λ (w : List ℕ). IsOfLine names (w ∷ words) line)
          (sym (same_text first (codes "+") holds)) (happened_found names words line e)
      | inr fails ↦
          made_found names first words line
          (sym (cond-false _ (made Happened (effect_at names words)) _ fails) ∙ h)
    ]

pub line_found : (names : Names) (bytes : List ℕ) (line : Line) → line_in names bytes ≡ Some line
    → (bytes ≡ line_of (line_words printed names line)) × IsLine names line
line_found names bytes line h =
    let is = line_by_found names (words_of bytes) line h in
    (sym (join_with_byte-slice_split 32 bytes) ∙ ap line_of is.spelled, is.is)
