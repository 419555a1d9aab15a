-- An actor that waits asks for the same look again.
use Rattle.std.proofs.Common.{◌≡◌, ℕ, Bool, true, false, cond, not, List, [], ◌∷◌, Option, Some}
use Rattle.std.proofs.Common.{None, refl, sym, ◌∙◌, ap, subst, ◌&&◌, slice_get, if◌then◌else◌}
use Rattle.linx_base.specs.declared.identity.AttRef.{AttRef}
use Rattle.linx_base.specs.declared.identity.Inc.{Inc}
use Rattle.linx_base.specs.declared.identity.Peer.{Peer}
use Rattle.linx_base.specs.SigNotes.{SigNote}
use Rattle.sigsel.specs.declared.sigsel.Sigsel.{Sigsel}
use Rattle.journal.specs.declared.effect.Step.{Step}
use Rattle.journal.specs.declared.event.Event.TheVariants as asks
use Rattle.journal.specs.declared.head.Head.{Head}
use Rattle.journal.specs.declared.head.Head.TheVariants as heads
use Rattle.journal.specs.History.{closed_step, endpoint_of, is_by, last_endpoint}
use Rattle.journal.specs.Rest.{waits_in, waits_with}
use Rattle.script_words.specs.declared.command.Command.{Command}
use Rattle.script_words.specs.declared.command.Command.TheVariants.{Send, Forward}
use Rattle.script_words.specs.declared.command.Command.TheVariants.{Recv, Attach, Detach}
use Rattle.script_words.specs.Filling.{data_of}
use Rattle.node_kernel.specs.declared.ask.Ask.{Ask}
use Rattle.node_kernel.specs.Answers.{answer_of, event_of, granted, is_pumped}
use Rattle.actor_run.specs.Asking.{ask_attach, ask_detach, ask_forward, ask_of, ask_send, handed}
use Rattle.actor_run.specs.Asking.{lends, peer_named, signal_of}
use Rattle.actor_run.specs.Bindings.{lookup}
use Rattle.actor_run.specs.Following.{is_own, knows, next_ask, Follows}
use Rattle.actor_run.specs.Knowing.{Knows, told}
use Rattle.stage.proofs.Actors.Steps.{granted_look}

same_filter : {f g : Sigsel} → Some f ≡ Some g → f ≡ g
same_filter is = cc

-- the head of a step that waits with a filter
waits_only : (head : Head) (f : Sigsel) → waits_in head ≡ Some f → head ≡ heads.Waits f
waits_only (heads.Waits g) f is = ap heads.Waits (same_filter is)
waits_only _ f is = cc

-- only a receive asks for a look
send_looks : (to : Option Peer) (signal : SigNote) (f : Sigsel)
    → (ask_send to signal).event ≡ asks.Look f → ⊥
send_looks None signal f is = cc
send_looks (Some peer) signal f is = cc

forward_looks : (held : Option SigNote) (to : Option Peer) (f : Sigsel)
    → (ask_forward held to).event ≡ asks.Look f → ⊥
forward_looks None to f is = cc
forward_looks (Some signal) to f is = send_looks to signal f is

attach_looks : (to : Option Peer) (signal : SigNote) (f : Sigsel)
    → (ask_attach to signal).event ≡ asks.Look f → ⊥
attach_looks None signal f is = cc
attach_looks (Some peer) signal f is = cc

detach_looks : (r : Option AttRef) (f : Sigsel) → (ask_detach r).event ≡ asks.Look f → ⊥
detach_looks None f is = cc
detach_looks (Some r) f is = cc

pub look_filter : {f g : Sigsel} → asks.Look f ≡ asks.Look g → f ≡ g
look_filter is = cc

pub asks_look : (k : Knows) (me : Option Inc) (c : Option Command) (f : Sigsel)
    → (ask_of k me c).event ≡ asks.Look f → c ≡ Some (Recv f)
asks_look k me (Some (Send to number bytes)) f is =
    absurd (send_looks (peer_named k me to) (signal_of number (data_of bytes)) f is)
asks_look k me (Some (Forward to)) f is = absurd (forward_looks k.held (peer_named k me to) f is)
asks_look k me (Some (Recv filter)) f is = ap (λ g. Some (Recv g)) (look_filter is)
asks_look k me (Some (Attach to r number bytes)) f is =
    absurd (attach_looks (peer_named k me to) (signal_of number (data_of bytes)) f is)
asks_look k me (Some (Detach r)) f is = absurd (detach_looks (lookup k.refs r) f is)
asks_look k me _ f is = cc

-- what is handed over changes no place
handed_place : (commands : List Command) (mind : Knows) (me : Option Inc)
    → (handed commands mind me).place ≡ mind.place
handed_place commands mind me = go (lends commands mind me)
  where
    go : (b : Bool) → (cond b (record mind { held = None; lent = true }) mind).place ≡ mind.place
    go true = refl
    go false = refl

-- AN ACTOR THAT WAITS stands at its receive
pub waits_at : (commands : List Command) (k : ℕ) (P : List Step) → Follows commands k P
    → (f : Sigsel) → waits_with P k ≡ Some f
    → slice_get commands (knows commands k P).place ≡ Some (Recv f)
waits_at commands k [] follows f waits = cc
waits_at commands k (s ∷ P) follows f waits =
    go (waits_at commands k P follows.0 f) (is_by s.by k) refl waits
  where
    -- by its own step
    own : s.head ≡ heads.Waits f → is_own s k ≡ true
        → slice_get commands (knows commands k P).place ≡ Some (Recv f)
    own is mine =
        let asked = follows.1 mine in
        let event : (granted P k (next_ask commands k P)).event ≡ asks.Look f =
        sym (ap (λ (a : Ask). a.event) asked.names) ∙ ap event_of is in
        asks_look (knows commands k P) (last_endpoint P k)
        (slice_get commands (knows commands k P).place) f
        (granted_look (endpoint_of P k) (closed_step P k) (next_ask commands k P) f event)

    go : (waits_with P k ≡ Some f
        → slice_get commands (knows commands k P).place ≡ Some (Recv f))
        → (b : Bool) → is_by s.by k ≡ b → (if b then waits_in s.head else waits_with P k) ≡ Some f
        → slice_get commands
        (if b && not (is_pumped s.head)
        then told commands (handed commands (knows commands k P) (last_endpoint P k))
        (answer_of P s.head s.effects)
        else knows commands k P).place
        ≡ Some (Recv f)
    go before false other still = before still
    go before true mine says =
        let is : s.head ≡ heads.Waits f = waits_only s.head f says in
        let unpumped : is_pumped s.head ≡ false = ap is_pumped is in
        let its : is_own s k ≡ true = rw (mine, unpumped) refl in
        subst (λ (head : Head). slice_get commands
        (if true && not (is_pumped head)
        then told commands (handed commands (knows commands k P) (last_endpoint P k))
        (answer_of P head s.effects)
        else knows commands k P).place
        ≡ Some (Recv f)) (sym is)
        (ap (slice_get commands) (handed_place commands (knows commands k P) (last_endpoint P k))
        ∙ own is its)
