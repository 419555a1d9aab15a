-- The logs of what is read of a run's text are printed as the logs of the run.
use Rattle.std.proofs.Common.{◌≡◌, ℕ, zero, suc, Bool, true, false, cond, List, [], ◌∷◌, ◌++◌, map}
use Rattle.std.proofs.Common.{length, refl, sym, ◌∙◌, ap, Option, Some, None, ◌==◌, option_map}
use Rattle.std.proofs.Common.{flat_map, filter_map, codes, decimal}
use Rattle.std.specs.List.{list_any}
use Rattle.std.proofs.lemmas.List.{length-map, map-append}
use Rattle.std.proofs.lemmas.Option.{slice_get-map}
use Rattle.sha2.specs.Sha256.{sha256}
use Rattle.linx_base.specs.declared.identity.Inc.{Inc}
use Rattle.linx_base.specs.declared.identity.ItemAt.{ItemAt}
use Rattle.linx_base.specs.declared.identity.Peer.{Peer}
use Rattle.linx_base.specs.declared.name.Names.{Names}
use Rattle.linx_base.specs.SigNotes.{SigNote}
use Rattle.journal.specs.declared.by.By.{By}
use Rattle.journal.specs.declared.by.By.TheVariants.{Actor, Pump}
use Rattle.journal.specs.declared.effect.Effect.{Effect}
use Rattle.journal.specs.declared.effect.Effect.TheVariants.{Opened, Closed, Arrived, Found, Notified}
use Rattle.journal.specs.declared.effect.Step.{Step}
use Rattle.journal.specs.declared.head.Head.{Head}
use Rattle.journal.specs.declared.head.Head.TheVariants.{Open, Send, Take, Hunt, Attach, Refused}
use Rattle.journal.specs.History.{closes, effects_of, is_by, is_closed, last_endpoint, last_opened}
use Rattle.journal.specs.History.{name_in, opened_in, opening_name, openings, opens}
use Rattle.journal.specs.Logs.{Log, effect_at, nth_effect, step_at}
use Rattle.journal.specs.Queues.{reached_by}
use Rattle.journal_text.specs.Blocks.{effect_log, effect_logs, head_log, if_for, item_text, log_lines}
use Rattle.journal_text.specs.Blocks.{log_text, logs_text, title_text}
use Rattle.journal_text.specs.Makers.{if_not_closed, owner_by}
use Rattle.journal_text.specs.Values.{first_bytes, path_text, peer_signal_text, peer_text, reason_text}
use Rattle.journal_text.specs.Values.{sent_text, signal_text}
use Rattle.reading_laws.specs.Images.{image_of_effect, image_of_head, image_of_note}
use Rattle.reading_laws.proofs.ImageLaws.{shown_alike}
use Rattle.journal_read.specs.Printed.{read_step}
use Rattle.log_laws.specs.Laws.{image_of}

-- ---- signals

signal_alike : (note : SigNote)
    → signal_text first_bytes (image_of_note note) ≡ signal_text sha256 note
unfolding signal_text
signal_alike note =
    ap (λ (d : List ℕ). decimal note.number ++ codes " " ++ d) (shown_alike note.bytes)

peer_signal_alike : (names : Names) (peer : Peer) (note : SigNote)
    → peer_signal_text first_bytes names peer (image_of_note note)
    ≡ peer_signal_text sha256 names peer note
unfolding peer_signal_text
peer_signal_alike names peer note =
    ap (λ (d : List ℕ). peer_text names peer ++ codes " " ++ d) (signal_alike note)

-- ---- whose line is whose

reached_alike : (e : Effect) → reached_by (image_of_effect e) ≡ reached_by e
reached_alike (Closed i) = refl
reached_alike (Arrived i peer note) = refl
reached_alike (Found i peer note hunt) = refl
reached_alike (Notified i peer note reference reason) = refl
reached_alike _ = refl

effects_read : (P : List Step)
    → effects_of (map read_step P) ≡ map image_of_effect (effects_of P)
effects_read [] = refl
effects_read (s ∷ P) =
    ap (λ (es : List Effect). es ++ map image_of_effect s.effects) (effects_read P)
    ∙ sym (map-append image_of_effect (effects_of P) s.effects)

any_alike : (p : Effect → Bool) → ((e : Effect) → p (image_of_effect e) ≡ p e)
    → (es : List Effect) → list_any p (map image_of_effect es) ≡ list_any p es
any_alike p same [] = refl
any_alike p same (e ∷ es) = rw (same e, any_alike p same es) refl

closes_alike : (i : Inc) (e : Effect) → closes i (image_of_effect e) ≡ closes i e
closes_alike i (Closed j) = refl
closes_alike i _ = refl

opens_alike : (i : Inc) (e : Effect) → opens i (image_of_effect e) ≡ opens i e
opens_alike i (Opened j) = refl
opens_alike i _ = refl

closed_alike : (P : List Step) (i : Inc) → is_closed (map read_step P) i ≡ is_closed P i
closed_alike P i =
    ap (list_any (closes i)) (effects_read P) ∙ any_alike (closes i) (closes_alike i) (effects_of P)

last_alike : (before : Option Inc) (es : List Effect)
    → last_opened before (map image_of_effect es) ≡ last_opened before es
last_alike before [] = refl
last_alike before (Opened i ∷ es) = last_alike (Some i) es
last_alike before (_ ∷ es) = last_alike before es

endpoint_alike : (P : List Step) (k : ℕ) → last_endpoint (map read_step P) k ≡ last_endpoint P k
endpoint_alike [] k = refl
endpoint_alike (s ∷ P) k =
    ap (λ (o : Option Inc). cond (is_by s.by k) (last_opened o (map image_of_effect s.effects)) o)
    (endpoint_alike P k)
    ∙ ap (λ (o : Option Inc). cond (is_by s.by k) o (last_endpoint P k))
    (last_alike (last_endpoint P k) s.effects)

not_closed_alike : (P : List Step) (o : Option Inc)
    → if_not_closed (map read_step P) o ≡ if_not_closed P o
not_closed_alike P None = refl
not_closed_alike P (Some i) =
    ap (λ (b : Bool). cond b None (Some i)) (closed_alike P i)

owner_alike : (P : List Step) (by : By) → owner_by (map read_step P) by ≡ owner_by P by
owner_alike P (Actor k) =
    ap (if_not_closed (map read_step P)) (endpoint_alike P k)
    ∙ not_closed_alike P (last_endpoint P k)
owner_alike P (Pump link) = refl

-- ---- titles

name_alike : (head : Head) → name_in (image_of_head head) ≡ name_in head
name_alike (Open name) = refl
name_alike _ = refl

opening_alike : (P : List Step) (i : Inc)
    → opening_name (map read_step P) i ≡ opening_name P i
opening_alike [] i = refl
opening_alike (s ∷ P) i =
    ap (λ (b : Bool). cond b (name_in (image_of_head s.head)) (opening_name (map read_step P) i))
    (any_alike (opens i) (opens_alike i) s.effects)
    ∙ ap (λ (o : Option (List ℕ)). cond (list_any (opens i) s.effects) o
    (opening_name (map read_step P) i)) (name_alike s.head)
    ∙ ap (λ (o : Option (List ℕ)). cond (list_any (opens i) s.effects) (name_in s.head) o)
    (opening_alike P i)

opened_alike : (e : Effect) → opened_in (image_of_effect e) ≡ opened_in e
opened_alike (Opened i) = refl
opened_alike _ = refl

all_opened_alike : (es : List Effect)
    → filter_map opened_in (map image_of_effect es) ≡ filter_map opened_in es
all_opened_alike [] = refl
all_opened_alike (e ∷ es) = rw (opened_alike e, all_opened_alike es) refl

openings_alike : (P : List Step) → openings (map read_step P) ≡ openings P
openings_alike P = ap (filter_map opened_in) (effects_read P) ∙ all_opened_alike (effects_of P)

-- ---- lines

effect_log_alike : (names : Names) (e : Effect)
    → effect_log first_bytes names (image_of_effect e) ≡ effect_log sha256 names e
unfolding effect_log
effect_log_alike names (Closed i) = refl
effect_log_alike names (Arrived i peer note) =
    ap (λ (d : List ℕ). codes "arrived " ++ d ++ codes "\n") (peer_signal_alike names peer note)
effect_log_alike names (Found i peer note hunt) =
    ap (λ (d : List ℕ). codes "found " ++ d ++ codes "\n") (peer_signal_alike names peer note)
effect_log_alike names (Notified i peer note reference reason) =
    ap (λ (d : List ℕ). codes "notified " ++ d ++ codes " " ++ reason_text reason ++ codes "\n")
    (peer_signal_alike names peer note)
effect_log_alike names _ = refl

effect_logs_alike : (names : Names) (i : Inc) (es : List Effect)
    → effect_logs first_bytes names i (map image_of_effect es) ≡ effect_logs sha256 names i es
effect_logs_alike names i [] = refl
effect_logs_alike names i (e ∷ es) =
    let rest = effect_logs first_bytes names i (map image_of_effect es) in
    ap (λ (o : Option Inc). if_for i o (effect_log first_bytes names (image_of_effect e)) ++ rest)
    (reached_alike e)
    ∙ ap (λ (t : List ℕ). if_for i (reached_by e) t ++ rest) (effect_log_alike names e)
    ∙ ap (λ (t : List ℕ). if_for i (reached_by e) (effect_log sha256 names e) ++ t)
    (effect_logs_alike names i es)

step_at_alike : (P : List Step) (k : ℕ)
    → step_at (map read_step P) k ≡ option_map read_step (step_at P k)
step_at_alike [] k = refl
step_at_alike (s ∷ P) k =
    ap (λ (n : ℕ). cond (k == suc n) (Some (read_step s)) (step_at (map read_step P) k))
    (length-map P read_step)
    ∙ ap (λ (o : Option Step). cond (k == suc (length P)) (Some (read_step s)) o)
    (step_at_alike P k)
    ∙ chosen (k == suc (length P))
  where
    chosen : (b : Bool)
        → cond b (Some (read_step s)) (option_map read_step (step_at P k))
        ≡ option_map read_step (cond b (Some s) (step_at P k))
    chosen true = refl
    chosen false = refl

nth_alike : (place : ℕ) (o : Option Step)
    → nth_effect place (option_map read_step o) ≡ option_map image_of_effect (nth_effect place o)
nth_alike zero None = refl
nth_alike (suc k) None = refl
nth_alike zero (Some s) = refl
nth_alike (suc k) (Some s) = slice_get-map image_of_effect s.effects k

effect_at_alike : (P : List Step) (at : ItemAt)
    → effect_at (map read_step P) at ≡ option_map image_of_effect (effect_at P at)
effect_at_alike P at =
    ap (nth_effect at.place) (step_at_alike P at.step) ∙ nth_alike at.place (step_at P at.step)

item_alike : (names : Names) (o : Option Effect)
    → item_text first_bytes names (option_map image_of_effect o) ≡ item_text sha256 names o
unfolding item_text
item_alike names None = refl
item_alike names (Some (Arrived i peer note)) = peer_signal_alike names peer note
item_alike names (Some (Found i peer note hunt)) = peer_signal_alike names peer note
item_alike names (Some (Notified i peer note reference reason)) =
    peer_signal_alike names peer note
item_alike names (Some _) = refl

took_alike : (names : Names) (P : List Step) (at : ItemAt)
    → item_text first_bytes names (effect_at (map read_step P) at)
    ≡ item_text sha256 names (effect_at P at)
took_alike names P at =
    ap (item_text first_bytes names) (effect_at_alike P at) ∙ item_alike names (effect_at P at)

head_log_alike : (names : Names) (S : List Step) (head : Head)
    → head_log first_bytes names (map read_step S) (image_of_head head)
    ≡ head_log sha256 names S head
unfolding head_log
head_log_alike names S (Send peer note answer) =
    ap (λ (d : List ℕ). codes "sent " ++ d ++ codes " " ++ sent_text answer ++ codes "\n")
    (peer_signal_alike names peer note)
head_log_alike names S (Take filter at) =
    ap (λ (d : List ℕ). codes "took " ++ d ++ codes "\n") (took_alike names S at)
head_log_alike names S (Hunt path note) =
    ap (λ (d : List ℕ). codes "hunt " ++ path_text names path ++ codes " " ++ d ++ codes "\n")
    (signal_alike note)
head_log_alike names S (Attach peer note) =
    ap (λ (d : List ℕ). codes "attach " ++ d ++ codes "\n") (peer_signal_alike names peer note)
head_log_alike names S (Refused reason) = refl
head_log_alike names S _ = refl

-- ---- logs

lines_alike : (names : Names) (S P : List Step) (i : Inc)
    → log_lines first_bytes names (map read_step S) (map read_step P) i
    ≡ log_lines sha256 names S P i
unfolding log_lines
lines_alike names S [] i = refl
lines_alike names S (s ∷ P) i =
    ap (λ (t : List ℕ). t
    ++ if_for i (owner_by (map read_step P) s.by)
    (head_log first_bytes names (map read_step S) (image_of_head s.head))
    ++ effect_logs first_bytes names i (map image_of_effect s.effects)) (lines_alike names S P i)
    ∙ ap (λ (o : Option Inc). log_lines sha256 names S P i
    ++ if_for i o (head_log first_bytes names (map read_step S) (image_of_head s.head))
    ++ effect_logs first_bytes names i (map image_of_effect s.effects)) (owner_alike P s.by)
    ∙ ap (λ (t : List ℕ). log_lines sha256 names S P i ++ if_for i (owner_by P s.by) t
    ++ effect_logs first_bytes names i (map image_of_effect s.effects))
    (head_log_alike names S s.head)
    ∙ ap (λ (t : List ℕ). log_lines sha256 names S P i
    ++ if_for i (owner_by P s.by) (head_log sha256 names S s.head) ++ t)
    (effect_logs_alike names i s.effects)

log_alike : (log : Log) (i : Inc) → log_text first_bytes (image_of log) i ≡ log_text sha256 log i
unfolding log_text
log_alike log i =
    ap (λ (o : Option (List ℕ)). title_text log.names i o
    ++ log_lines first_bytes log.names (map read_step log.steps) (map read_step log.steps) i)
    (opening_alike log.steps i)
    ∙ ap (λ (t : List ℕ). title_text log.names i (opening_name log.steps i) ++ t)
    (lines_alike log.names log.steps log.steps i)

all_logs_alike : (log : Log) (is : List Inc)
    → flat_map (log_text first_bytes (image_of log)) is ≡ flat_map (log_text sha256 log) is
all_logs_alike log [] = refl
all_logs_alike log (i ∷ is) =
    ap (λ (t : List ℕ). t ++ flat_map (log_text first_bytes (image_of log)) is) (log_alike log i)
    ∙ ap (λ (t : List ℕ). log_text sha256 log i ++ t) (all_logs_alike log is)

-- THE LOGS of what is read are printed as those of the run
pub logs_alike : (log : Log) → logs_text first_bytes (image_of log) ≡ logs_text sha256 log
unfolding logs_text
logs_alike log =
    ap (flat_map (log_text first_bytes (image_of log))) (openings_alike log.steps)
    ∙ all_logs_alike log (openings log.steps)
