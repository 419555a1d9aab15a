-- THE TEXT OF A JOURNAL SHOWS ITS MAKERS: the lines that begin with a digit are those of the steps'
-- heads, each with the maker of its step.
use Rattle.std.proofs.Common.{◌≡◌, ℕ, suc, ◌<◌, Bool, true, false, cond, List, [], ◌∷◌, ◌++◌}
use Rattle.std.proofs.Common.{length, map, Option, Some, refl, sym, ◌∙◌, ap, subst, arith}
use Rattle.std.proofs.Common.{append_assoc, ◌^◌, codes, decimal, flat_map, append-nil}
use Rattle.std.specs.List.{list_any}
use Rattle.std.proofs.lemmas.Fmt.{decimal_injective}
use Rattle.std.proofs.lemmas.List.{append_cancel_left, length-map}
use Rattle.sha2.specs.Sha256.{sha256}
use Rattle.linx_base.specs.declared.identity.Inc.{Inc}
use Rattle.linx_base.specs.declared.name.Names.{Names}
use Rattle.linx_base.specs.Numbers.{node_of}
use Rattle.journal.specs.declared.by.By.{By}
use Rattle.journal.specs.declared.by.By.TheVariants.{Actor, Pump}
use Rattle.journal.specs.declared.effect.Effect.{Effect}
use Rattle.journal.specs.declared.effect.Effect.TheVariants as effects
use Rattle.journal.specs.declared.effect.Step.{Step}
use Rattle.journal.specs.declared.head.Head.{Head}
use Rattle.journal.specs.declared.head.Head.TheVariants as heads
use Rattle.journal.specs.History.{name_in, opening_name, openings, opens}
use Rattle.journal.specs.Laws.{IsBounded}
use Rattle.journal.specs.Logs.{Log, effect_at}
use Rattle.journal.specs.Queues.{reached_by}
use Rattle.journal.specs.Traffic.{is_endpoint}
use Rattle.journal_text.specs.Blocks.{effect_log, head_log, if_for, item_text, log_lines}
use Rattle.journal_text.specs.Blocks.{log_text, logs_text, title_text}
use Rattle.journal_text.specs.Makers.{owner_by}
use Rattle.journal_text.specs.Steps.{effect_line, effect_text, head_text, step_text}
use Rattle.journal_text.specs.Text.{count_text, steps_text, text_if_steps, text_of}
use Rattle.journal_text.specs.Values.{maker_text, name_or_mark}
use Rattle.journal_text.proofs.Lines.{IsClean, Reads, ◌+>◌, begins, begins-more, digit_lines}
use Rattle.journal_text.proofs.Lines.{is_word, reads-both, reads-digits, reads-flat, reads-none}
use Rattle.journal_text.proofs.Lines.{reads-other, word, word-same}
use Rattle.journal_text.proofs.Spelling.{ArePlain, begins-number, detached-clean, filter-clean}
use Rattle.journal_text.proofs.Spelling.{halves-clean, link-clean, name-clean, node-clean}
use Rattle.journal_text.proofs.Spelling.{number-clean, number-word, path-clean, peer-clean}
use Rattle.journal_text.proofs.Spelling.{peer_signal-clean, position-clean, reason-clean}
use Rattle.journal_text.proofs.Spelling.{reference-clean, refusal-clean, sent-clean, side-clean}
use Rattle.journal_text.proofs.Spelling.{signal-clean, verdict-clean}

-- the name that an effect tells ends no line
abbrev pub IsNamed : Effect → Type 0
IsNamed (effects.Met node peer name) = IsClean name
IsNamed _ = Unit {0}

abbrev pub AllNamed : List Effect → Type 0
AllNamed [] = Unit {0}
AllNamed (e ∷ es) = IsNamed e × AllNamed es

-- no name in these steps ends a line
abbrev pub AreNamed : List Step → Type 0
AreNamed [] = Unit {0}
AreNamed (s ∷ P) = AreNamed P × (IsBounded s.head × AllNamed s.effects)

-- the first line of a step
abbrev headline : Names → ℕ → Step → List ℕ
headline names position s =
    decimal position ++ codes " " ++ maker_text s.by ++ codes " " ++ head_text sha256 names s.head

-- those of all steps, in order
abbrev headlines : Names → List Step → List (List ℕ)
headlines names [] = []
headlines names (s ∷ P) = headlines names P ++ headline names (suc (length P)) s ∷ []

headline-begins : (names : Names) (position : ℕ) (s : Step)
    → begins (headline names position s) ≡ true
headline-begins names position s =
    let number : List ℕ = decimal position ++ codes " " in
    let made : List ℕ = number ++ maker_text s.by in
    begins-more (made ++ codes " ") (head_text sha256 names s.head)
    (begins-more made (codes " ") (begins-more number (maker_text s.by)
    (begins-more (decimal position) (codes " ") (begins-number position))))

space : IsClean (codes " ")
space = word (codes " ") refl

maker-clean : (by : By) → IsClean (maker_text by)
unfolding maker_text
maker-clean (Actor k) = word (codes "A") refl +> number-clean k
maker-clean (Pump l) = word (codes "P") refl +> number-clean l.0

-- the name that an incarnation was opened with
named-clean : (head : Head) → IsBounded head → IsClean (name_or_mark (name_in head))
named-clean (heads.Open name) bounded = name-clean name bounded
named-clean _ bounded = word (codes "?") refl

opened-clean : (P : List Step) (i : Inc) → AreNamed P → IsClean (name_or_mark (opening_name P i))
opened-clean [] i named = word (codes "?") refl
opened-clean (s ∷ P) i named =
    go (list_any (opens i) s.effects) (named-clean s.head named.1.0) (opened-clean P i named.0)
  where
    go : (b : Bool) → IsClean (name_or_mark (name_in s.head))
        → IsClean (name_or_mark (opening_name P i))
        → IsClean (name_or_mark (cond b (name_in s.head) (opening_name P i)))
    go true here before = here
    go false here before = before

module _ (names : Names) (plain : ArePlain names) where
  -- ---- heads and effects

  head-clean : (head : Head) → IsBounded head → IsClean (head_text sha256 names head)
  unfolding head_text
  head-clean (heads.Open name) bounded = word (codes "open ") refl +> name-clean name bounded
  head-clean heads.Close bounded = word (codes "close") refl
  head-clean (heads.Send q note answer) bounded =
      word (codes "send ") refl +> peer_signal-clean names plain sha256 q note +> space
      +> sent-clean answer
  head-clean (heads.Take f at) bounded =
      word (codes "take ") refl +> filter-clean f +> space +> position-clean at
  head-clean (heads.TakeNone f) bounded = word (codes "none ") refl +> filter-clean f
  head-clean (heads.Waits f) bounded = word (codes "waits ") refl +> filter-clean f
  head-clean (heads.Hunt path note) bounded =
      word (codes "hunt ") refl +> path-clean names plain path bounded.0 +> space
      +> signal-clean sha256 note
  head-clean (heads.Attach q note) bounded =
      word (codes "attach ") refl +> peer_signal-clean names plain sha256 q note
  head-clean (heads.Detach r answer) bounded =
      word (codes "detach ") refl +> reference-clean r.0 +> space +> detached-clean answer
  head-clean (heads.Cut l) bounded = word (codes "cut ") refl +> link-clean names plain l.0
  head-clean (heads.Mend l) bounded = word (codes "mend ") refl +> link-clean names plain l.0
  head-clean (heads.Settle l) bounded = word (codes "settle ") refl +> link-clean names plain l.0
  head-clean (heads.Restart n) bounded = word (codes "restart ") refl +> node-clean names plain n.0
  head-clean (heads.Wire l side verdict) bounded =
      word (codes "wire ") refl +> link-clean names plain l.0 +> space +> side-clean side +> space
      +> verdict-clean verdict
  head-clean (heads.Tick l side) bounded =
      word (codes "tick ") refl +> link-clean names plain l.0 +> space +> side-clean side
  head-clean (heads.Refused reason) bounded = word (codes "refused ") refl +> refusal-clean reason
  head-clean heads.Ended bounded = word (codes "ended") refl

  effect-clean : (e : Effect) → IsNamed e → IsClean (effect_text sha256 names e)
  unfolding effect_text
  effect-clean (effects.Opened inc) named = word (codes "opened ") refl +> halves-clean inc.0
  effect-clean (effects.Closed inc) named = word (codes "closed ") refl +> halves-clean inc.0
  effect-clean (effects.Arrived inc q note) named =
      word (codes "arrived ") refl +> halves-clean inc.0 +> space
      +> peer_signal-clean names plain sha256 q note
  effect-clean (effects.Found inc q note hunt) named =
      word (codes "found ") refl +> halves-clean inc.0 +> space
      +> peer_signal-clean names plain sha256 q note +> space +> reference-clean hunt
  effect-clean (effects.Notified inc q note r reason) named =
      word (codes "notified ") refl +> halves-clean inc.0 +> space
      +> peer_signal-clean names plain sha256 q note +> space +> reference-clean r.0 +> space
      +> reason-clean reason
  effect-clean (effects.Met node q name) named =
      word (codes "met ") refl +> node-clean names plain node.0 +> space
      +> peer-clean names plain q +> space +> named
  effect-clean (effects.Gone node q) named =
      word (codes "gone ") refl +> node-clean names plain node.0 +> space
      +> peer-clean names plain q
  effect-clean (effects.Up node l x y) named =
      word (codes "up ") refl +> node-clean names plain node.0 +> space
      +> link-clean names plain l.0 +> space +> halves-clean x.0 +> space +> halves-clean y.0
  effect-clean (effects.Down node l x) named =
      word (codes "down ") refl +> node-clean names plain node.0 +> space
      +> link-clean names plain l.0 +> space +> halves-clean x.0

  effect-reads : (e : Effect) → IsNamed e → Reads (effect_line sha256 names e) []
  unfolding effect_line
  effect-reads e named = reads-other (word (codes "+ ") refl +> effect-clean e named) refl

  effects-read : (es : List Effect) → AllNamed es → Reads (flat_map (effect_line sha256 names) es) []
  effects-read [] named = reads-none
  effects-read (e ∷ es) named = reads-both (effect-reads e named.0) (effects-read es named.1)

  -- ---- logs

  item-clean : (e : Option Effect) → IsClean (item_text sha256 names e)
  unfolding item_text
  item-clean (Some (effects.Arrived i q note)) = peer_signal-clean names plain sha256 q note
  item-clean (Some (effects.Found i q note hunt)) = peer_signal-clean names plain sha256 q note
  item-clean (Some (effects.Notified i q note r reason)) = peer_signal-clean names plain sha256 q note
  item-clean _ = word (codes "?") refl

  effect_log-reads : (e : Effect) → Reads (effect_log sha256 names e) []
  unfolding effect_log
  effect_log-reads (effects.Closed i) = reads-other (word (codes "closed") refl) refl
  effect_log-reads (effects.Arrived i q note) =
      reads-other (word (codes "arrived ") refl +> peer_signal-clean names plain sha256 q note) refl
  effect_log-reads (effects.Found i q note hunt) =
      reads-other (word (codes "found ") refl +> peer_signal-clean names plain sha256 q note) refl
  effect_log-reads (effects.Notified i q note r reason) =
      reads-other (word (codes "notified ") refl +> peer_signal-clean names plain sha256 q note +> space
      +> reason-clean reason) refl
  effect_log-reads _ = reads-none

  head_log-reads : (steps : List Step) (head : Head) → IsBounded head
      → Reads (head_log sha256 names steps head) []
  unfolding head_log
  head_log-reads steps (heads.Send q note answer) bounded =
      reads-other (word (codes "sent ") refl +> peer_signal-clean names plain sha256 q note +> space
      +> sent-clean answer) refl
  head_log-reads steps (heads.Take f at) bounded =
      reads-other (word (codes "took ") refl +> item-clean (effect_at steps at)) refl
  head_log-reads steps (heads.TakeNone f) bounded = reads-other (word (codes "none") refl) refl
  head_log-reads steps (heads.Hunt path note) bounded =
      reads-other (word (codes "hunt ") refl +> path-clean names plain path bounded.0 +> space
      +> signal-clean sha256 note) refl
  head_log-reads steps (heads.Attach q note) bounded =
      reads-other (word (codes "attach ") refl +> peer_signal-clean names plain sha256 q note) refl
  head_log-reads steps (heads.Detach r answer) bounded =
      reads-other (word (codes "detach ") refl +> detached-clean answer) refl
  head_log-reads steps _ bounded = reads-none

  if_for-reads : (i : Inc) (owner : Option Inc) (bytes : List ℕ) → Reads bytes []
      → Reads (if_for i owner bytes) []
  if_for-reads i owner bytes reads = go (is_endpoint i owner)
    where
      go : (b : Bool) → Reads (cond b bytes []) []
      go true = reads
      go false = reads-none

  log_lines-read : (steps P : List Step) (i : Inc) → AreNamed P
      → Reads (log_lines sha256 names steps P i) []
  unfolding log_lines
  log_lines-read steps [] i named = reads-none
  log_lines-read steps (s ∷ P) i named =
      reads-both
      (reads-both (log_lines-read steps P i named.0)
      (if_for-reads i (owner_by P s.by) (head_log sha256 names steps s.head)
      (head_log-reads steps s.head named.1.0)))
      (reads-flat (λ (e : Effect). if_for i (reached_by e) (effect_log sha256 names e))
      (λ e. if_for-reads i (reached_by e) (effect_log sha256 names e) (effect_log-reads e)) s.effects)

  title-reads : (i : Inc) (name : Option (List ℕ)) → IsClean (name_or_mark name)
      → Reads (title_text names i name) []
  unfolding title_text
  title-reads i name clean =
      reads-other (word (codes "log ") refl +> halves-clean i.0 +> space +> clean +> space
      +> node-clean names plain (node_of i)) refl

  -- ---- the steps

  step-reads : (position : ℕ) (s : Step) → IsBounded s.head → AllNamed s.effects
      → Reads (step_text sha256 names position s) (headline names position s ∷ [])
  unfolding step_text
  step-reads position s bounded named =
      reads-both
      (reads-digits
      (number-clean position +> space +> maker-clean s.by +> space +> head-clean s.head bounded)
      (headline-begins names position s))
      (effects-read s.effects named)

  steps-read : (P : List Step) → AreNamed P → Reads (steps_text sha256 names P) (headlines names P)
  unfolding steps_text
  steps-read [] named = reads-none
  steps-read (s ∷ P) named =
      reads-both (steps-read P named.0) (step-reads (suc (length P)) s named.1.0 named.1.1)

  count-reads : (n : ℕ) → Reads (count_text n) []
  unfolding count_text
  count-reads n = reads-other (word (codes "journal ") refl +> number-clean n) refl

log-reads : (log : Log) → ArePlain log.names → AreNamed log.steps → (i : Inc)
    → Reads (log_text sha256 log i) []
unfolding log_text
log-reads log plain named i =
    reads-both
    (title-reads log.names plain i (opening_name log.steps i) (opened-clean log.steps i named))
    (log_lines-read log.names plain log.steps log.steps i named)

logs-read : (log : Log) → ArePlain log.names → AreNamed log.steps → Reads (logs_text sha256 log) []
unfolding logs_text
logs-read log plain named =
    reads-flat (log_text sha256 log) (log-reads log plain named) (openings log.steps)

-- THE LINES OF A TEXT that begin with a digit are its steps' first lines
text-reads : (log : Log) → ArePlain log.names → AreNamed log.steps
    → digit_lines (text_of log) ≡ headlines log.names log.steps
text-reads log plain named = go log.steps refl
  where
    whole : Reads (logs_text sha256 log ++ count_text (length log.steps)
        ++ steps_text sha256 log.names log.steps) (headlines log.names log.steps)
    whole =
        reads-both
        (reads-both (logs-read log plain named) (count-reads log.names plain (length log.steps)))
        (steps-read log.names plain log.steps named)

    go : (P : List Step) → log.steps ≡ P
        → digit_lines (text_if_steps sha256 log P) ≡ headlines log.names log.steps
    go [] is = ap (headlines log.names) (sym is)
    go (s ∷ P) is =
        ap digit_lines (sym (append-nil (logs_text sha256 log ++ count_text (length log.steps)
        ++ steps_text sha256 log.names log.steps)))
        ∙ whole.is [] ∙ append-nil (headlines log.names log.steps)

-- ---- so it shows the makers

-- the number of a maker fits into 64 bits
abbrev pub IsNumbered : By → Type 0
IsNumbered (Actor k) = k < 2 ^ 64
IsNumbered (Pump l) = l.0 < 2 ^ 64

abbrev pub AllNumbered : List Step → Type 0
AllNumbered [] = Unit {0}
AllNumbered (s ∷ P) = AllNumbered P × IsNumbered s.by

-- the first byte and the bytes behind it; 0 and none where there is none
abbrev first_byte : List ℕ → ℕ
first_byte [] = 0
first_byte (b ∷ bs) = b

abbrev behind_first : List ℕ → List ℕ
behind_first [] = []
behind_first (b ∷ bs) = bs

maker-same : (one two : By) → IsNumbered one → IsNumbered two → maker_text one ≡ maker_text two
    → one ≡ two
unfolding maker_text
maker-same (Actor k) (Actor n) first second is =
    ap (λ (m : ℕ). Actor m) (decimal_injective k n first second (ap behind_first is))
maker-same (Pump l) (Pump m) first second is =
    ap (λ (k : ℕ). Pump (record { 0 = k }))
    (decimal_injective l.0 m.0 first second (ap behind_first is))
maker-same (Actor k) (Pump m) first second is =
    let letters : 65 ≡ 80 = ap first_byte is in absurd (omega (arith, letters))
maker-same (Pump l) (Actor n) first second is =
    let letters : 80 ≡ 65 = ap first_byte is in absurd (omega (arith, letters))

maker-word : (by : By) → is_word (maker_text by) ≡ true
unfolding maker_text
maker-word (Actor k) = number-word k
maker-word (Pump l) = number-word l.0

-- two lists that end with one element each
last-same : {X : Type 0} (xs ys : List X) (a b : X) → xs ++ a ∷ [] ≡ ys ++ b ∷ []
    → (xs ≡ ys) × (a ≡ b)
last-same [] [] a b is = (refl, cc)
last-same [] (y ∷ []) a b is = cc
last-same [] (y ∷ z ∷ ys) a b is = cc
last-same (x ∷ []) [] a b is = cc
last-same (x ∷ z ∷ xs) [] a b is = cc
last-same (x ∷ xs) (y ∷ ys) a b is =
    let first : x ≡ y = cc in
    let rest : xs ++ a ∷ [] ≡ ys ++ b ∷ [] = cc in
    let both = last-same xs ys a b rest in
    (rw first (ap (λ l. y ∷ l) both.0), both.1)

no_last : {X : Type 0} (xs : List X) (a : X) → [] ≡ xs ++ a ∷ [] → ⊥
no_last [] a is = cc
no_last (x ∷ xs) a is = cc

-- a line in its parts: what stands before the maker, the maker, and what follows its space
parted : (front maker head : List ℕ)
    → front ++ maker ++ codes " " ++ head ≡ front ++ (maker ++ 32 ∷ head)
parted front maker head =
    append_assoc (front ++ maker) (codes " ") head ∙ append_assoc front maker (32 ∷ head)

line-maker : (names : Names) (position : ℕ) (s t : Step) → IsNumbered s.by → IsNumbered t.by
    → headline names position s ≡ headline names position t → s.by ≡ t.by
line-maker names position s t first second is =
    let front : List ℕ = decimal position ++ codes " " in
    let same = append_cancel_left front _ _
    (sym (parted front (maker_text s.by) (head_text sha256 names s.head)) ∙ is
    ∙ parted front (maker_text t.by) (head_text sha256 names t.head)) in
    maker-same s.by t.by first second
    (word-same (maker_text s.by) (maker_text t.by) (head_text sha256 names s.head)
    (head_text sha256 names t.head) (maker-word s.by) (maker-word t.by) same)

makers-shown : (names : Names) (P Q : List Step) → AllNumbered P
    → AllNumbered Q → headlines names P ≡ headlines names Q
    → map (λ (s : Step). s.by) P ≡ map (λ (s : Step). s.by) Q
makers-shown names [] [] first second is = refl
makers-shown names [] (t ∷ Q) first second is = absurd (no_last (headlines names Q) _ is)
makers-shown names (s ∷ P) [] first second is =
    absurd (no_last (headlines names P) _ (sym is))
makers-shown names (s ∷ P) (t ∷ Q) first second is =
    let both = last-same (headlines names P) (headlines names Q)
    (headline names (suc (length P)) s) (headline names (suc (length Q)) t) is in
    let before : map (λ (x : Step). x.by) P ≡ map (λ (x : Step). x.by) Q =
    makers-shown names P Q first.0 second.0 both.0 in
    let count : length P ≡ length Q =
    sym (length-map P (λ (x : Step). x.by)) ∙ ap (λ (l : List By). length l) before
    ∙ length-map Q (λ (x : Step). x.by) in
    let line : headline names (suc (length Q)) s ≡ headline names (suc (length Q)) t =
    subst (λ (n : ℕ). headline names (suc n) s ≡ headline names (suc (length Q)) t)
    count both.1 in
    let maker : s.by ≡ t.by =
    line-maker names (suc (length Q)) s t first.1 second.1 line in
    ap (λ (b : By). b ∷ map (λ (x : Step). x.by) P) maker
    ∙ ap (λ (l : List By). t.by ∷ l) before

-- A TEXT SHOWS WHO MADE ITS STEPS
pub text_shows_makers : (one two : Log) → one.names ≡ two.names → ArePlain one.names
    → AreNamed one.steps → AreNamed two.steps → AllNumbered one.steps → AllNumbered two.steps
    → text_of one ≡ text_of two
    → map (λ (s : Step). s.by) one.steps ≡ map (λ (s : Step). s.by) two.steps
text_shows_makers one two names plain first second low high same =
    let also : ArePlain two.names = subst ArePlain names plain in
    makers-shown one.names one.steps two.steps low high
    (sym (text-reads one plain first) ∙ ap digit_lines same ∙ text-reads two also second
    ∙ ap (λ (n : Names). headlines n two.steps) (sym names))
