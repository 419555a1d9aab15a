-- WHAT A STEP ANSWERS ITS ACTOR. Endpoints are named by who opened them; positions, references, and
-- what the actor's commands say are left out.
use Rattle.std.specs.Prelude.{ℕ, ◌==◌, ◌++◌, Bool, true, false, List, [], codes, decimal, find}
use Rattle.std.specs.Prelude.{Option, Some, None}
use Rattle.sha2.specs.Sha256.{sha256}
use Rattle.linx_base.specs.declared.identity.Inc.{Inc}
use Rattle.linx_base.specs.declared.identity.Peer.{Peer}
use Rattle.linx_base.specs.declared.identity.Peer.TheVariants.{Here, There}
use Rattle.journal.specs.declared.head.Head.{Head}
use Rattle.journal.specs.declared.head.Head.TheVariants.{Open, Close, Send, Take, TakeNone, Waits}
use Rattle.journal.specs.declared.head.Head.TheVariants.{Hunt, Attach, Detach, Cut, Mend, Settle}
use Rattle.journal.specs.declared.head.Head.TheVariants.{Restart, Wire, Tick, Refused, Ended}
use Rattle.journal.specs.declared.effect.Effect.{Effect}
use Rattle.journal.specs.declared.effect.Effect.TheVariants.{Arrived, Found, Notified}
use Rattle.journal.specs.declared.effect.Step.{Step}
use Rattle.journal.specs.Logs.{effect_at}
use Rattle.journal_text.specs.Values.{detached_text, reason_text, refusal_text, sent_text}
use Rattle.journal_text.specs.Values.{signal_text}
use Rattle.run_outcomes.specs.declared.openers.Opener.{Opener}

-- a step of this head answers its actor: all but a wait, and what the actor does to settle a link
abbrev pub is_answer : Head → Bool
is_answer (Waits filter) = false
is_answer (Wire link side verdict) = false
is_answer (Tick link side) = false
is_answer _ = true

-- an endpoint by who opened it: `A2.1` is the first one of actor 2; `?` is one that nobody opened
abbrev pub opener_text : Option Opener → List ℕ
opener_text None = codes "?"
opener_text (Some o) = codes "A" ++ decimal o.actor ++ codes "." ++ decimal o.nth

-- an endpoint by who opened it, as the table of openers tells
abbrev pub endpoint_text : List Opener → Inc → List ℕ
endpoint_text table i = opener_text (find (λ o. o.inc.0 == i.0) table)

-- a peer: over a link behind the link's maker, as `P1:A2.1`
abbrev pub peer_text : List Opener → Peer → List ℕ
peer_text table (Here i) = endpoint_text table i
peer_text table (There link session i) =
    codes "P" ++ decimal link.0 ++ codes ":" ++ endpoint_text table i

-- an item that was taken: how it came, from whom, and the signal; `?` where no item is there
abbrev pub item_text : List Opener → Option Effect → List ℕ
item_text table (Some (Arrived i peer note)) =
    codes "arrived " ++ peer_text table peer ++ codes " " ++ signal_text sha256 note
item_text table (Some (Found i peer note hunt)) =
    codes "found " ++ peer_text table peer ++ codes " " ++ signal_text sha256 note
item_text table (Some (Notified i peer note reference reason)) =
    (codes "notified " ++ peer_text table peer ++ codes " " ++ signal_text sha256 note) ++ codes " "
    ++ reason_text reason
item_text table _ = codes "?"

-- WHAT A STEP OF THIS HEAD ANSWERS, in a run of these steps
abbrev pub answer_text : List Opener → List Step → Head → List ℕ
answer_text table steps (Open name) = codes "open"
answer_text table steps Close = codes "close"
answer_text table steps (Send peer note answer) =
    codes "send " ++ peer_text table peer ++ (codes " " ++ sent_text answer)
answer_text table steps (Take filter at) = codes "took " ++ item_text table (effect_at steps at)
answer_text table steps (TakeNone filter) = codes "none"
answer_text table steps (Waits filter) = []
answer_text table steps (Hunt path note) = codes "hunt"
answer_text table steps (Attach peer note) = codes "attach " ++ peer_text table peer
answer_text table steps (Detach reference answer) = codes "detach " ++ detached_text answer
answer_text table steps (Cut link) = codes "cut"
answer_text table steps (Mend link) = codes "mend"
answer_text table steps (Settle link) = codes "settle"
answer_text table steps (Restart node) = codes "restart"
answer_text table steps (Wire link side verdict) = []
answer_text table steps (Tick link side) = []
answer_text table steps (Refused reason) = codes "refused " ++ refusal_text reason
answer_text table steps Ended = codes "ended"
