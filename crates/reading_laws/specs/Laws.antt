-- What is spelled is read, and what is read is spelled so.
use Rattle.std.specs.Prelude.{◌≡◌, ℕ, ◌≤◌, List, Option, Some, true, decimal}
use Rattle.linx_base.specs.declared.identity.ItemAt.{ItemAt}
use Rattle.linx_base.specs.declared.identity.Peer.{Peer}
use Rattle.linx_base.specs.declared.name.Names.{Names}
use Rattle.linx_base.specs.declared.name.Path.{Path}
use Rattle.linx_base.specs.Verdicts.{fits_verdict}
use Rattle.linx_base.specs.declared.frame.Verdict.{Verdict}
use Rattle.linx_base.specs.declared.identity.Side.{Side}
use Rattle.linx_base.specs.declared.signal.Reason.{Reason}
use Rattle.sigsel.specs.declared.sigsel.Sigsel.{Sigsel}
use Rattle.journal.specs.declared.by.By.{By}
use Rattle.journal.specs.declared.effect.Effect.{Effect}
use Rattle.journal.specs.declared.head.Detached.{Detached}
use Rattle.journal.specs.declared.head.Head.{Head}
use Rattle.journal.specs.declared.head.Refusal.{Refusal}
use Rattle.journal.specs.declared.head.SentTo.{SentTo}
use Rattle.journal_text.specs.Values.{halves_text, peer_text, path_text, maker_text, position_text}
use Rattle.journal_text.specs.Values.{data_text, reference_text, filter_text, side_text, verdict_text}
use Rattle.journal_text.specs.Values.{reason_text, sent_text, detached_text, refusal_text}
use Rattle.journal_words.specs.Answers.{side_in, verdict_in, reason_in, sent_in, detached_in}
use Rattle.journal_words.specs.Answers.{refusal_in}
use Rattle.journal_words.specs.Filter.{filter_in}
use Rattle.journal_words.specs.Lines.{head_at, effect_at, line_in}
use Rattle.journal_words.specs.declared.lines.Line.{Line}
use Rattle.text_words.specs.Numbers.{number_in, whole_limit, halves_in}
use Rattle.journal_words.specs.Data.{data_in}
use Rattle.journal_words.specs.Peers.{peer_in, path_in, maker_in, position_in, reference_in}
use Rattle.reading_laws.specs.Forms.{AreNames, IsPeer, IsPath, IsMaker, IsPosition, IsShown}
use Rattle.reading_laws.specs.Forms.{IsFilter, IsRefusal, IsHead, IsEffect, IsLine, printed}
use Rattle.reading_laws.specs.Spelled.{head_words, effect_words, line_of, line_words}

-- a value is read from each text that spells it, and from no other
pub record ReadsExactly {A W : Type 0} (read : W → Option A) (Spells : A → W → Type 0) : Type 0
  where
    pub again : (x : A) (text : W) → Spells x text → read text ≡ Some x
    pub found : (x : A) (text : W) → read text ≡ Some x → Spells x text

-- the word spells the number, which is within the bound
abbrev pub SpellsNumber : ℕ → ℕ → List ℕ → Type 0
SpellsNumber most n word = (n ≤ most) × (word ≡ decimal n)

-- the word spells the number by its halves
abbrev pub SpellsHalves : ℕ → List ℕ → Type 0
SpellsHalves n word = (n ≤ whole_limit) × (word ≡ halves_text n)

-- the word spells the data, and shows them whole
abbrev pub SpellsData : List ℕ → List ℕ → Type 0
SpellsData bytes word = IsShown bytes × (word ≡ data_text printed bytes)

-- the word spells the peer, and shows it whole
abbrev pub SpellsPeer : Names → Peer → List ℕ → Type 0
SpellsPeer names peer word = IsPeer names peer × (word ≡ peer_text names peer)

-- the word spells the path, and shows it whole
abbrev pub SpellsPath : Names → Path → List ℕ → Type 0
SpellsPath names path word = IsPath names path × (word ≡ path_text names path)

-- the word spells the maker, and shows it whole
abbrev pub SpellsMaker : By → List ℕ → Type 0
SpellsMaker by word = IsMaker by × (word ≡ maker_text by)

-- the word spells the position, and shows it whole
abbrev pub SpellsPosition : ItemAt → List ℕ → Type 0
SpellsPosition at word = IsPosition at × (word ≡ position_text at)

-- the word spells the reference to the step, and shows it whole
abbrev pub SpellsReference : ℕ → List ℕ → Type 0
SpellsReference step word = (step ≤ whole_limit) × (word ≡ reference_text step)

-- numbers are read from their digits, and from no other words
pub record NumbersAreRead : Type 0 where
  pub decimals : (most : ℕ) → most ≤ whole_limit
      → ReadsExactly (number_in most) (SpellsNumber most)
  pub halves : ReadsExactly halves_in SpellsHalves

-- data are read from the words that spell them, and from no others
abbrev pub DataAreRead : Type 0
DataAreRead = ReadsExactly data_in SpellsData

-- what names a peer, a path, a maker, an item or a step is read from the words that spell it, and
-- from no others
pub record PeersAreRead : Type 0 where
  pub peers : (names : Names) → AreNames names
      → ReadsExactly (peer_in names) (SpellsPeer names)
  pub paths : (names : Names) → AreNames names
      → ReadsExactly (path_in names) (SpellsPath names)
  pub makers : ReadsExactly maker_in SpellsMaker
  pub positions : ReadsExactly position_in SpellsPosition
  pub references : ReadsExactly reference_in SpellsReference

-- answers are read each from its word, and from no others
pub record AnswersAreRead : Type 0 where
  pub sides : ReadsExactly side_in (λ side word. word ≡ side_text side)
  pub reasons : ReadsExactly reason_in (λ reason word. word ≡ reason_text reason)
  pub sends : ReadsExactly sent_in (λ answer word. word ≡ sent_text answer)
  pub detaches : ReadsExactly detached_in (λ answer word. word ≡ detached_text answer)
  pub verdicts : ReadsExactly verdict_in
      (λ verdict word. (fits_verdict verdict ≡ true) × (word ≡ verdict_text verdict))
  pub refusals : ReadsExactly refusal_in
      (λ reason word. IsRefusal reason × (word ≡ refusal_text reason))

-- filters are read from the words that spell them, and from no others
abbrev pub FiltersAreRead : Type 0
FiltersAreRead = ReadsExactly filter_in (λ filter word. IsFilter filter × (word ≡ filter_text filter))

-- the words spell the head
abbrev pub SpellsHead : Names → Head → List (List ℕ) → Type 0
SpellsHead names head words = IsHead names head × (words ≡ head_words printed names head)

-- the words spell the effect
abbrev pub SpellsEffect : Names → Effect → List (List ℕ) → Type 0
SpellsEffect names effect words =
    IsEffect names effect × (words ≡ effect_words printed names effect)

-- a head is read from its words, and from no others
abbrev pub HeadsAreRead : Type 0
HeadsAreRead =
    (names : Names) → AreNames names → ReadsExactly (head_at names) (SpellsHead names)

-- an effect is read from its words, and from no others
abbrev pub EffectsAreRead : Type 0
EffectsAreRead =
    (names : Names) → AreNames names → ReadsExactly (effect_at names) (SpellsEffect names)

-- a line, its line feed not among its bytes
abbrev pub SpellsLine : Names → Line → List ℕ → Type 0
SpellsLine names line bytes = IsLine names line × (bytes ≡ line_of (line_words printed names line))

-- a line is read from its bytes, and from no others
abbrev pub LinesAreRead : Type 0
LinesAreRead = (names : Names) → AreNames names → ReadsExactly (line_in names) (SpellsLine names)
