-- a command as its line says it
use Rattle.std.specs.Prelude.{ℕ, Bool, true, false, Result, Ok, Err, List, ◌∷◌, codes}
use Rattle.std.specs.Prelude.{if◌then◌else◌}
use Rattle.std.specs.Str.{bytes_eq}
use Rattle.linx_base.specs.Content.{data_limit}
use Rattle.script_words.specs.declared.fault.Fault.{Fault}
use Rattle.script_words.specs.Faults.{bad_shape, unknown_word}
use Rattle.script_words.specs.declared.command.Command.{Command}
use Rattle.script_words.specs.declared.command.Command.TheVariants.{Open, Close, Send, Forward}
use Rattle.script_words.specs.declared.command.Command.TheVariants.{Recv, Hunt as Hunting, Attach}
use Rattle.script_words.specs.declared.command.Command.TheVariants.{Detach, Keep, Cut as Cutting}
use Rattle.script_words.specs.declared.command.Command.TheVariants.{Mend as Mending}
use Rattle.script_words.specs.declared.command.Command.TheVariants.{Restart as Restarting}
use Rattle.script_words.specs.declared.command.Command.TheVariants.{Settle as Settling}
use Rattle.script_words.specs.declared.named_command.NamedCommand.{NamedCommand}
use Rattle.script_words.specs.declared.named_command.NamedCommand.TheVariants.{Plain, Hunt, Cut}
use Rattle.script_words.specs.declared.named_command.NamedCommand.TheVariants.{Mend, Restart}
use Rattle.script_words.specs.declared.named_command.NamedCommand.TheVariants.{Settle}
use Rattle.script_words.specs.Gives.{◌>>=◌, made}
use Rattle.script_words.specs.Limits.{attach_data_limit, hunt_signal, attach_signal}
use Rattle.script_words.specs.Words.{only, alone}
use Rattle.script_words.specs.Numbers.{any_number, number_or}
use Rattle.script_words.specs.Names.{name_of, one_name_of, kept_name_of}
use Rattle.script_words.specs.Target.{target_of}
use Rattle.script_words.specs.Route.{route_of}
use Rattle.script_words.specs.Filling.{fits_data, data_in}
use Rattle.script_words.specs.Filter.{fits_filter, filter_of}

-- a command that names no link and no node, with its data and its filter in range
abbrev pub is_sized_plain : Command → Bool
is_sized_plain (Open name) = true
is_sized_plain Close = true
is_sized_plain (Send to number bytes) = fits_data data_limit bytes
is_sized_plain (Forward to) = true
is_sized_plain (Recv filter) = fits_filter filter
is_sized_plain (Hunting path number bytes) = false
is_sized_plain (Attach to r number bytes) = fits_data attach_data_limit bytes
is_sized_plain (Detach r) = true
is_sized_plain (Keep name) = true
is_sized_plain (Cutting link) = false
is_sized_plain (Mending link) = false
is_sized_plain (Restarting node) = false
is_sized_plain (Settling link) = false

-- data and filters are in range
abbrev pub is_sized : NamedCommand → Bool
is_sized (Plain command) = is_sized_plain command
is_sized (Hunt route number bytes) = fits_data data_limit bytes
is_sized (Cut link) = true
is_sized (Mend link) = true
is_sized (Settle link) = true
is_sized (Restart node) = true

-- `send TO NUM`, then perhaps DATA
unfoldable pub send_of : List ℕ → List (List ℕ) → Result NamedCommand Fault
send_of statement (to ∷ number ∷ words) = do
  target ← target_of to
  n ← any_number number
  bytes ← data_in data_limit words
  Ok (Plain (Send target n bytes))
send_of statement _ = Err (bad_shape statement)

-- `hunt PATH`, then perhaps NUM, then perhaps DATA
unfoldable pub hunt_of : List ℕ → List (List ℕ) → Result NamedCommand Fault
hunt_of statement (path ∷ words) = do
  route ← route_of path
  bytes ← data_in data_limit (number_or hunt_signal words).1
  Ok (Hunt route (number_or hunt_signal words).0 bytes)
hunt_of statement _ = Err (bad_shape statement)

-- `attach TO REF`, then perhaps NUM, then perhaps DATA
unfoldable pub attach_command_of : List ℕ → List (List ℕ) → Result NamedCommand Fault
attach_command_of statement (to ∷ r ∷ words) = do
  target ← target_of to
  reference ← name_of r
  bytes ← data_in attach_data_limit (number_or attach_signal words).1
  Ok (Plain (Attach target reference (number_or attach_signal words).0 bytes))
attach_command_of statement _ = Err (bad_shape statement)

-- `recv any`, `recv NUM ..NUM` or `recv not NUM ..NUM`
abbrev pub recv_of : List ℕ → List (List ℕ) → Result NamedCommand Fault
recv_of statement words = made (λ filter. Plain (Recv filter)) (filter_of statement words)

-- a command that concerns a link or a node
unfoldable pub layout_command_of : List ℕ → List (List ℕ) → Result NamedCommand Fault
layout_command_of first words =
    if bytes_eq first (codes "cut") then made Cut (one_name_of first words)
    else if bytes_eq first (codes "mend") then made Mend (one_name_of first words)
    else if bytes_eq first (codes "settle") then made Settle (one_name_of first words)
    else if bytes_eq first (codes "restart") then made Restart (one_name_of first words)
    else Err (unknown_word first)

-- a command on what the actor has: its endpoint, the item taken last, its references and names
unfoldable pub own_command_of : List ℕ → List (List ℕ) → Result NamedCommand Fault
own_command_of first words =
    if bytes_eq first (codes "open") then made (λ n. Plain (Open n)) (one_name_of first words)
    else if bytes_eq first (codes "close") then alone words (Plain Close)
    else if bytes_eq first (codes "forward")
    then made (λ t. Plain (Forward t)) (only first words >>= target_of)
    else if bytes_eq first (codes "detach") then made (λ n. Plain (Detach n)) (one_name_of first words)
    else if bytes_eq first (codes "keep")
    then made (λ n. Plain (Keep n)) (only first words >>= kept_name_of)
    else layout_command_of first words

-- the command of a line's first word and the words behind it: one that sends, receives, hunts or
-- attaches, one on what the actor has, or one that concerns a link or a node
unfoldable pub command_of : List ℕ → List (List ℕ) → Result NamedCommand Fault
command_of first words =
    if bytes_eq first (codes "send") then send_of first words
    else if bytes_eq first (codes "recv") then recv_of first words
    else if bytes_eq first (codes "hunt") then hunt_of first words
    else if bytes_eq first (codes "attach") then attach_command_of first words
    else own_command_of first words
