-- The logs of a run are lines, none of which announces steps.
use Rattle.std.proofs.Common.{◌≡◌, ℕ, Bool, true, false, cond, List, [], ◌∷◌, ◌++◌}
use Rattle.std.proofs.Common.{Option, Some, None, refl, sym, ◌∙◌, ap, append_assoc, codes, flat_map}
use Rattle.std.specs.List.{list_any}
use Rattle.linx_base.specs.declared.identity.Inc.{Inc}
use Rattle.linx_base.specs.declared.name.Names.{Names}
use Rattle.linx_base.specs.declared.name.Path.{Path}
use Rattle.linx_base.specs.declared.name.Path.TheVariants.{Local, Over}
use Rattle.linx_base.specs.Numbers.{node_of}
use Rattle.journal.specs.declared.effect.Effect.{Effect}
use Rattle.journal.specs.declared.effect.Effect.TheVariants as effects
use Rattle.journal.specs.declared.effect.Step.{Step}
use Rattle.journal.specs.declared.head.Head.{Head}
use Rattle.journal.specs.declared.head.Head.TheVariants as heads
use Rattle.journal.specs.History.{name_in, opening_name, openings, opens}
use Rattle.journal.specs.Logs.{Log, effect_at}
use Rattle.journal.specs.Queues.{reached_by}
use Rattle.journal.specs.Traffic.{is_endpoint}
use Rattle.journal_text.specs.Blocks.{effect_log, head_log, if_for, item_text, log_lines}
use Rattle.journal_text.specs.Blocks.{log_text, logs_text, title_text}
use Rattle.journal_text.specs.Makers.{owner_by}
use Rattle.journal_text.specs.Values.{Digest, name_or_mark, path_text}
use Rattle.journal_text.proofs.Lines.{IsClean, ◌+>◌, word}
use Rattle.journal_text.proofs.Spelling.{ArePlain, detached-clean, halves-clean, link-clean}
use Rattle.journal_text.proofs.Spelling.{name-clean, node-clean, peer_signal-clean, reason-clean}
use Rattle.journal_text.proofs.Spelling.{sent-clean, signal-clean}
use Rattle.text_words.specs.Words.{after}
use Rattle.reading_laws.specs.Fits.{FitsHead}
use Rattle.reading_laws.specs.Forms.{AreNames, IsPath}
use Rattle.journal_read.specs.Reading.{heading}
use Rattle.journal_read.specs.Spelled.{text_of_lines, AreLogLines}
use Rattle.journal_read.specs.Printed.{AllFit}

-- ---- texts of lines

pub text_of_lines-append : (xs ys : List (List ℕ))
    → text_of_lines (xs ++ ys) ≡ text_of_lines xs ++ text_of_lines ys
text_of_lines-append [] ys = refl
text_of_lines-append (x ∷ xs) ys =
    ap (λ (t : List ℕ). x ++ 10 ∷ t) (text_of_lines-append xs ys)
    ∙ sym (append_assoc x (10 ∷ text_of_lines xs) (text_of_lines ys))

-- the text is that of lines of logs
pub record IsLogs (text : List ℕ) : Type 0 where
  pub lines : List (List ℕ)
  pub are : AreLogLines lines
  pub is : text ≡ text_of_lines lines

log_lines-append : (xs ys : List (List ℕ)) → AreLogLines xs → AreLogLines ys
    → AreLogLines (xs ++ ys)
log_lines-append [] ys first last = last
log_lines-append (x ∷ xs) ys first last = (first.0, log_lines-append xs ys first.1 last)

logs-none : IsLogs []
logs-none = record { lines = []; are = tt; is = refl }

logs-both : {a b : List ℕ} → IsLogs a → IsLogs b → IsLogs (a ++ b)
logs-both {a} {b} first second = record {
  lines = first.lines ++ second.lines;
  are = log_lines-append first.lines second.lines first.are second.are;
  is =
      ap (λ (t : List ℕ). t ++ b) first.is
      ∙ ap (λ (t : List ℕ). text_of_lines first.lines ++ t) second.is
      ∙ sym (text_of_lines-append first.lines second.lines);
}

-- a line that announces no steps
logs-line : {line : List ℕ} → IsClean line → after heading line ≡ None
    → IsLogs (line ++ codes "\n")
logs-line {line} clean other = record {
  lines = line ∷ [];
  are = (record { one_line = clean.is; no_heading = other }, tt);
  is = refl;
}

logs-flat : {X : Type 0} (text : X → List ℕ) → ((x : X) → IsLogs (text x)) → (xs : List X)
    → IsLogs (flat_map text xs)
logs-flat text each [] = logs-none
logs-flat text each (x ∷ xs) = logs-both (each x) (logs-flat text each xs)

space : IsClean (codes " ")
space = word (codes " ") refl

mark : IsClean (codes "?")
mark = word (codes "?") refl

-- ---- names

-- the name that an incarnation was opened with
named-clean : (names : Names) (head : Head) → FitsHead names head
    → IsClean (name_or_mark (name_in head))
named-clean names (heads.Open name) fits = name-clean name fits
named-clean names _ fits = mark

opened-clean : (names : Names) (P : List Step) (i : Inc) → AllFit names P
    → IsClean (name_or_mark (opening_name P i))
opened-clean names [] i fit = mark
opened-clean names (s ∷ P) i fit =
    go (list_any (opens i) s.effects) (named-clean names s.head fit.1.head)
    (opened-clean names P i fit.0)
  where
    go : (b : Bool) → IsClean (name_or_mark (name_in s.head))
        → IsClean (name_or_mark (opening_name P i))
        → IsClean (name_or_mark (cond b (name_in s.head) (opening_name P i)))
    go true here before = here
    go false here before = before

module _ (names : Names) (plain : ArePlain names) where
  path-is_clean : (path : Path) → IsPath names path → IsClean (path_text names path)
  unfolding path_text
  path-is_clean (Local name) is = name-clean name is
  path-is_clean (Over link name) is =
      link-clean names plain link.0 +> word (codes "/") refl +> name-clean name is.1

  -- ---- lines

  item-clean : (digest : Digest) (e : Option Effect) → IsClean (item_text digest names e)
  unfolding item_text
  item-clean digest (Some (effects.Arrived i q note)) = peer_signal-clean names plain digest q note
  item-clean digest (Some (effects.Found i q note hunt)) = peer_signal-clean names plain digest q note
  item-clean digest (Some (effects.Notified i q note r reason)) = peer_signal-clean names plain digest q note
  item-clean digest _ = mark

  effect-logs : (digest : Digest) (e : Effect) → IsLogs (effect_log digest names e)
  unfolding effect_log
  effect-logs digest (effects.Closed i) = logs-line (word (codes "closed") refl) refl
  effect-logs digest (effects.Arrived i q note) =
      logs-line (word (codes "arrived ") refl +> peer_signal-clean names plain digest q note) refl
  effect-logs digest (effects.Found i q note hunt) =
      logs-line (word (codes "found ") refl +> peer_signal-clean names plain digest q note) refl
  effect-logs digest (effects.Notified i q note r reason) =
      logs-line (word (codes "notified ") refl +> peer_signal-clean names plain digest q note +> space
      +> reason-clean reason) refl
  effect-logs digest _ = logs-none

  head-logs : (digest : Digest) (steps : List Step) (head : Head) → FitsHead names head
      → IsLogs (head_log digest names steps head)
  unfolding head_log
  head-logs digest steps (heads.Send q note answer) fits =
      logs-line (word (codes "sent ") refl +> peer_signal-clean names plain digest q note +> space
      +> sent-clean answer) refl
  head-logs digest steps (heads.Take f at) fits =
      logs-line (word (codes "took ") refl +> item-clean digest (effect_at steps at)) refl
  head-logs digest steps (heads.TakeNone f) fits = logs-line (word (codes "none") refl) refl
  head-logs digest steps (heads.Hunt path note) fits =
      logs-line (word (codes "hunt ") refl +> path-is_clean path fits.0 +> space
      +> signal-clean digest note) refl
  head-logs digest steps (heads.Attach q note) fits =
      logs-line (word (codes "attach ") refl +> peer_signal-clean names plain digest q note) refl
  head-logs digest steps (heads.Detach r answer) fits =
      logs-line (word (codes "detach ") refl +> detached-clean answer) refl
  head-logs digest steps _ fits = logs-none

  if_for-logs : (i : Inc) (owner : Option Inc) (bytes : List ℕ) → IsLogs bytes
      → IsLogs (if_for i owner bytes)
  if_for-logs i owner bytes logs = go (is_endpoint i owner)
    where
      go : (b : Bool) → IsLogs (cond b bytes [])
      go true = logs
      go false = logs-none

  lines-logs : (digest : Digest) (steps P : List Step) (i : Inc) → AllFit names P
      → IsLogs (log_lines digest names steps P i)
  unfolding log_lines
  lines-logs digest steps [] i fit = logs-none
  lines-logs digest steps (s ∷ P) i fit =
      logs-both
      (logs-both (lines-logs digest steps P i fit.0)
      (if_for-logs i (owner_by P s.by) (head_log digest names steps s.head)
      (head-logs digest steps s.head fit.1.head)))
      (logs-flat (λ (e : Effect). if_for i (reached_by e) (effect_log digest names e))
      (λ e. if_for-logs i (reached_by e) (effect_log digest names e) (effect-logs digest e)) s.effects)

  title-logs : (i : Inc) (name : Option (List ℕ)) → IsClean (name_or_mark name)
      → IsLogs (title_text names i name)
  unfolding title_text
  title-logs i name clean =
      logs-line (word (codes "log ") refl +> halves-clean i.0 +> space +> clean +> space
      +> node-clean names plain (node_of i)) refl

log-logs : (digest : Digest) (log : Log) → ArePlain log.names → AllFit log.names log.steps → (i : Inc)
    → IsLogs (log_text digest log i)
unfolding log_text
log-logs digest log plain fit i =
    logs-both
    (title-logs log.names plain i (opening_name log.steps i)
    (opened-clean log.names log.steps i fit))
    (lines-logs log.names plain digest log.steps log.steps i fit)

pub logs_are_logs : (digest : Digest) (log : Log) → AreNames log.names → AllFit log.names log.steps
    → IsLogs (logs_text digest log)
unfolding logs_text
logs_are_logs digest log are fit =
    logs-flat (log_text digest log) (log-logs digest log (record { nodes = are.0; links = are.1 }) fit)
    (openings log.steps)
