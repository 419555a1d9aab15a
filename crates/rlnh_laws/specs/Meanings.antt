-- What the words of a session say, and what was given for those that were heard.
use Rattle.std.specs.Prelude.{◌≡◌, ◌<◌, List, [], ◌∷◌, ◌++◌}
use Rattle.rlnh_end.specs.Words.{Word, hello, hello_back, question, announce, tell, withdraw}
use Rattle.rlnh_end.specs.Words.{confirm}
use Rattle.rlnh_messages.specs.declared.rlnh.Rlnh.TheVariants.{Init, InitReply, QueryName}
use Rattle.rlnh_messages.specs.declared.rlnh.Rlnh.TheVariants.{Publish, Unpublish, UnpublishAck}
use Rattle.rlnh_messages.specs.Messages.{IsRlnh}
use Rattle.rlnh_messages.specs.Signals.{IsSignal}
use Rattle.rlnh_end.specs.declared.heard.Heard.{Heard}
use Rattle.rlnh_end.specs.declared.heard.Heard.TheVariants.{Control, Garbage, Signal}
use Rattle.rlnh_end.specs.declared.up.Up.{Up}
use Rattle.rlnh_end.specs.declared.up.Up.TheVariants.{Nothing, Arrived, Freed, Met, Gone, Asked}
use Rattle.trunk_record.specs.Sayings.{Said, published, asked, signaled, unpublished, Given, met}
use Rattle.trunk_record.specs.Sayings.{asked_for, arrived, freed, gone}

-- what the message of a word is read as
abbrev pub heard_of : Word → Heard
heard_of hello = Control Init
heard_of hello_back = Control InitReply
heard_of (question name) = Control (QueryName name)
heard_of (announce addr inc name) = Control (Publish addr inc name)
heard_of (tell from sender to receiver note) = Signal from to note
heard_of (withdraw addr inc) = Control (Unpublish addr)
heard_of (confirm addr) = Control (UnpublishAck addr)

-- what is heard goes by a message: its numbers fit their fields, and its name is a name
abbrev pub FitsHeard : Heard → Type 0
FitsHeard (Control message) = IsRlnh message
FitsHeard (Signal from to note) = (0 < from) × (0 < to) × IsSignal note
FitsHeard Garbage = ⊥

-- what a word says
abbrev pub said_by : Word → List Said
said_by hello = []
said_by hello_back = []
said_by (question v) = asked v ∷ []
said_by (announce a i v) = published i v ∷ []
said_by (tell a i b j note) = signaled i j note ∷ []
said_by (withdraw a i) = unpublished i ∷ []
said_by (confirm a) = []

-- what words say, the newest first
abbrev pub saids : List Word → List Said
saids [] = []
saids (w ∷ ws) = saids ws ++ said_by w

-- what is given for a word that was heard, by what was handed up
abbrev pub given_for : Word → Up → List Given
given_for (question v) u = asked_for v ∷ []
given_for (announce a i v) u = met i v ∷ []
given_for (withdraw a i) u = gone i ∷ []
given_for (tell a i b j note) (Freed x y n) = freed i j note ∷ []
given_for (tell a i b j note) u = arrived i j note ∷ []
given_for w u = []

-- what is handed up for a word that is understood: nothing, or what it says; a signal arrives or is
-- freed
abbrev pub Understands : Word → Up → Type 0
Understands (question v) u = u ≡ Asked v
Understands (announce a i v) u = u ≡ Met i v
Understands (withdraw a i) u = u ≡ Gone i
Understands (tell a i b j note) (Freed x y n) = Freed x y n ≡ Freed i j note
Understands (tell a i b j note) u = u ≡ Arrived i j note
Understands w u = u ≡ Nothing
