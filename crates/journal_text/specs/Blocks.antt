-- The log of an incarnation.
use Rattle.std.specs.Prelude.{ℕ, ◌++◌, List, [], ◌∷◌, flat_map, codes, Option, Some}
use Rattle.std.specs.Prelude.{if◌then◌else◌}
use Rattle.linx_base.specs.declared.identity.Inc.{Inc}
use Rattle.linx_base.specs.declared.name.Names.{Names}
use Rattle.linx_base.specs.Numbers.{node_of}
use Rattle.journal.specs.declared.head.Head.{Head}
use Rattle.journal.specs.declared.head.Head.TheVariants.{Send, Take, TakeNone, Hunt, Attach, Detach}
use Rattle.journal.specs.declared.effect.Effect.{Effect}
use Rattle.journal.specs.declared.effect.Effect.TheVariants.{Closed, Arrived, Found, Notified}
use Rattle.journal.specs.declared.effect.Step.{Step}
use Rattle.journal.specs.Logs.{Log, effect_at}
use Rattle.journal.specs.History.{opening_name, openings}
use Rattle.journal.specs.Queues.{reached_by}
use Rattle.journal.specs.Traffic.{is_endpoint}
use Rattle.journal_text.specs.Makers.{owner_by}
use Rattle.journal_text.specs.Values.{Digest, halves_text, name_or_mark, node_text, peer_signal_text}
use Rattle.journal_text.specs.Values.{path_text, signal_text, reason_text, sent_text, detached_text}

-- the first line of a log: the incarnation, its name and its node
unfoldable pub title_text : Names → Inc → Option (List ℕ) → List ℕ
title_text names i name =
    codes "log " ++ halves_text i.0 ++ codes " " ++ name_or_mark name ++ codes " "
    ++ node_text names (node_of i) ++ codes "\n"

-- the line of an effect in the log of the incarnation that it reaches
unfoldable pub effect_log : Digest → Names → Effect → List ℕ
effect_log digest names (Closed i) = codes "closed\n"
effect_log digest names (Arrived i peer note) =
    codes "arrived " ++ peer_signal_text digest names peer note ++ codes "\n"
effect_log digest names (Found i peer note hunt) =
    codes "found " ++ peer_signal_text digest names peer note ++ codes "\n"
effect_log digest names (Notified i peer note reference reason) =
    codes "notified " ++ peer_signal_text digest names peer note ++ codes " " ++ reason_text reason
    ++ codes "\n"
effect_log digest names _ = []

-- the sender and the content of an item; `?` where no item is there
unfoldable pub item_text : Digest → Names → Option Effect → List ℕ
item_text digest names (Some (Arrived i peer note)) = peer_signal_text digest names peer note
item_text digest names (Some (Found i peer note hunt)) = peer_signal_text digest names peer note
item_text digest names (Some (Notified i peer note reference reason)) = peer_signal_text digest names peer note
item_text digest names _ = codes "?"

-- the line that a head makes in the log of the maker's endpoint, in a journal with these steps
unfoldable pub head_log : Digest → Names → List Step → Head → List ℕ
head_log digest names steps (Send peer note answer) =
    codes "sent " ++ peer_signal_text digest names peer note ++ codes " " ++ sent_text answer ++ codes "\n"
head_log digest names steps (Take filter at) =
    codes "took " ++ item_text digest names (effect_at steps at) ++ codes "\n"
head_log digest names steps (TakeNone filter) = codes "none\n"
head_log digest names steps (Hunt path note) =
    codes "hunt " ++ path_text names path ++ codes " " ++ signal_text digest note ++ codes "\n"
head_log digest names steps (Attach peer note) =
    codes "attach " ++ peer_signal_text digest names peer note ++ codes "\n"
head_log digest names steps (Detach reference answer) =
    codes "detach " ++ detached_text answer ++ codes "\n"
head_log digest names steps _ = []

-- a line, if it is for the log of this incarnation
abbrev pub if_for : Inc → Option Inc → List ℕ → List ℕ
if_for i owner line = if is_endpoint i owner then line else []

-- the lines of some effects in the log of an incarnation
abbrev pub effect_logs : Digest → Names → Inc → List Effect → List ℕ
effect_logs digest names i effects = flat_map (λ e. if_for i (reached_by e) (effect_log digest names e)) effects

-- the lines in the log of an incarnation that the steps P of a journal with these steps make: from
-- each step that of its head, where the maker's endpoint is the incarnation, and those of its
-- effects
unfoldable pub log_lines : Digest → Names → List Step → List Step → Inc → List ℕ
log_lines digest names steps [] i = []
log_lines digest names steps (s ∷ P) i =
    log_lines digest names steps P i ++ if_for i (owner_by P s.by) (head_log digest names steps s.head)
    ++ effect_logs digest names i s.effects

-- the log of an incarnation: its title, and its lines in the order of the steps
unfoldable pub log_text : Digest → Log → Inc → List ℕ
log_text digest log i =
    title_text log.names i (opening_name log.steps i) ++ log_lines digest log.names log.steps log.steps i

-- the logs of all incarnations that were opened, in order of opening
unfoldable pub logs_text : Digest → Log → List ℕ
logs_text digest log = flat_map (log_text digest log) (openings log.steps)
