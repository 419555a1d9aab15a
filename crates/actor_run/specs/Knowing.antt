-- What an actor knows of its own steps, and what an answer tells it.
use Rattle.std.specs.Prelude.{ℕ, ◌+◌, Bool, true, false, List, [], ◌∷◌, drop, slice_get, Option}
use Rattle.std.specs.Prelude.{Some, None, if◌then◌else◌}
use Rattle.linx_base.specs.declared.identity.AttRef.{AttRef}
use Rattle.linx_base.specs.declared.identity.Peer.{Peer}
use Rattle.linx_base.specs.SigNotes.{SigNote}
use Rattle.script_words.specs.declared.command.Command.{Command}
use Rattle.script_words.specs.declared.command.Command.TheVariants.{Send, Forward, Attach, Detach}
use Rattle.script_words.specs.declared.command.Command.TheVariants.{Keep}
use Rattle.script_words.specs.declared.target.Target.{Target}
use Rattle.script_words.specs.declared.target.Target.TheVariants.{Kept}
use Rattle.node_kernel.specs.Answers.{is_not_yet}
use Rattle.node_kernel.specs.declared.answers.StepAnswer.{StepAnswer}
use Rattle.node_kernel.specs.declared.answers.StepAnswer.TheVariants as answers
use Rattle.actor_run.specs.declared.names.NameKind.{NameKind}
use Rattle.actor_run.specs.declared.names.NameKind.TheVariants.{OfPeers, OfReferences}
use Rattle.actor_run.specs.Bindings.{Table, remember, with_row_for}

-- what an actor knows
pub record Knows : Type 0 where
  -- how many of its commands are done
  pub place : ℕ
  -- the receive at this place said that it waits
  pub waiting : Bool
  -- the sender of the item that was taken last
  pub last : Option Peer
  -- the buffer of that item, unless it was forwarded
  pub held : Option SigNote
  -- that buffer was handed over, and no answer has come yet
  pub lent : Bool
  -- the peers that were kept, by name
  pub kept : Table Peer
  -- the references of its attaches, by name
  pub refs : Table AttRef

-- the name that a target is kept under
abbrev pub target_name : Target → Option (List ℕ)
target_name (Kept name) = Some name
target_name _ = None

-- the name of a peer that a command speaks of
abbrev pub peer_name : Command → Option (List ℕ)
peer_name (Send to number bytes) = target_name to
peer_name (Forward to) = target_name to
peer_name (Attach to r number bytes) = target_name to
peer_name (Keep name) = Some name
peer_name _ = None

-- the name of a reference that a command speaks of
abbrev pub reference_name : Command → Option (List ℕ)
reference_name (Attach to r number bytes) = Some r
reference_name (Detach r) = Some r
reference_name _ = None

-- the name of this kind that a command speaks of
abbrev pub name_in : NameKind → Command → Option (List ℕ)
name_in OfPeers command = peer_name command
name_in OfReferences command = reference_name command

-- the table with a row for each name of this kind that the commands speak of
abbrev pub rows_for : {T : Type 0} → NameKind → Table T → List Command → Table T
rows_for kind rows [] = rows
rows_for kind rows (command ∷ rest) =
    rows_for kind (with_row_for rows (name_in kind command)) rest

-- what an actor knows before its first step
abbrev pub knows_nothing : List Command → Knows
knows_nothing commands = record {
  place = 0;
  waiting = false;
  last = None;
  held = None;
  lent = false;
  kept = rows_for OfPeers [] commands;
  refs = rows_for OfReferences [] commands;
}

-- The keeps that come next make no step once an item was taken: each gives its name to the sender
-- of that item
abbrev pub past_keeps : List Command → Option Peer → Knows → Knows
past_keeps (Keep name ∷ rest) (Some sender) k =
    past_keeps rest (Some sender) (record k {
      place = k.place + 1;
      kept = remember k.kept name sender;
    })
past_keeps _ sender k = k

-- the sender of the item that was taken last, after an answer
abbrev pub last_after : StepAnswer → Option Peer → Option Peer
last_after (answers.Took item) last = Some item.from
last_after _ last = last

-- the buffer that an actor holds after an answer: the signal of the item that was taken last
abbrev pub buffer_after : StepAnswer → Option SigNote → Option SigNote
buffer_after (answers.Took item) held = Some item.signal
buffer_after _ held = held

-- a reference is remembered under the name that the attach gives it
abbrev pub with_reference : Option Command → AttRef → Table AttRef → Table AttRef
with_reference (Some (Attach to r number bytes)) reference refs = remember refs r reference
with_reference _ reference refs = refs

-- the references after the answer to a command
abbrev pub refs_after : Option Command → StepAnswer → Table AttRef → Table AttRef
refs_after command (answers.Attached reference) refs = with_reference command reference refs
refs_after command _ refs = refs

-- what the answer to a command tells
abbrev pub learned : Option Command → StepAnswer → Knows → Knows
learned command answer k = record k {
  last = last_after answer k.last;
  held = buffer_after answer k.held;
  refs = refs_after command answer k.refs;
}

-- what an actor knows once a command is done: the next one is in turn, and nothing waits or is lent
abbrev pub moved_on : Knows → Knows
moved_on k = record k { place = k.place + 1; waiting = false; lent = false }

-- the keeps that come next are done
abbrev pub passed : List Command → Knows → Knows
passed commands k = past_keeps (drop k.place commands) k.last k

-- what an actor knows once it is told the answer: a receive waits on, any other command is done
abbrev pub told : List Command → Knows → StepAnswer → Knows
told commands k answer =
    if is_not_yet answer
    then record k { waiting = true }
    else passed commands (moved_on (learned (slice_get commands k.place) answer k))

-- what an actor knows after a stop came in place of an answer, and gave back what was in hand
abbrev pub stopped_with : Knows → Option SigNote → Knows
stopped_with k hand = if k.lent then record k { held = hand; lent = false } else k
