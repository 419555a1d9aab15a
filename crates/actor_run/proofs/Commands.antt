-- What commands ask for: no step on a link, and a forward hands over what was held.
use Rattle.std.proofs.Common.{◌≡◌, ℕ, zero, suc, ◌<◌, Bool, true, false, cond, ◌&&◌, List, [], ◌∷◌}
use Rattle.std.proofs.Common.{length, Option, Some, None, refl, sym, ◌∙◌, ap, arith, slice_get}
use Rattle.linx_base.specs.declared.identity.AttRef.{AttRef}
use Rattle.linx_base.specs.declared.identity.Inc.{Inc}
use Rattle.linx_base.specs.declared.identity.Peer.{Peer}
use Rattle.linx_base.specs.SigNotes.{SigNote}
use Rattle.script_words.specs.declared.command.Command.{Command}
use Rattle.script_words.specs.declared.command.Command.TheVariants.{Send, Forward}
use Rattle.script_words.specs.declared.command.Command.TheVariants.{Attach, Detach}
use Rattle.script_words.specs.Filling.{data_of}
use Rattle.node_kernel.specs.Answers.{is_pump_event, is_end_event}
use Rattle.node_kernel.specs.declared.ask.Ask.{Ask}
use Rattle.actor_run.specs.Knowing.{Knows, stopped_with}
use Rattle.actor_run.specs.Asking.{ask_of, ask_send, ask_forward, ask_attach, ask_detach}
use Rattle.actor_run.specs.Asking.{peer_named, signal_of, is_sending, is_forward, asked_by, lends}
use Rattle.actor_run.specs.Asking.{handed}
use Rattle.actor_run.specs.Bindings.{lookup}

-- what holds of the ask of every command, by what was held
pub record IsCommandAsk (held : Option SigNote) (c : Option Command) (ask : Ask) : Type 0 where
  pub unpumped : is_pump_event ask.event ≡ false
  pub given : (is_sending ask.event && is_forward c) ≡ true → ask.hand ≡ held

-- a command that is no forward hands over nothing that was held
and_false : (a : Bool) → (a && false) ≡ true → {X : Type 0} → X
and_false true h = cc
and_false false h = cc

no_forward : (held : Option SigNote) (c : Option Command) (ask : Ask)
    → is_forward c ≡ false → is_pump_event ask.event ≡ false → IsCommandAsk held c ask
no_forward held c ask other unpumped = record {
  unpumped = unpumped;
  given = λ h.
      let off : (is_sending ask.event && false) ≡ true =
      ap (λ b. is_sending ask.event && b) (sym other) ∙ h in
      and_false (is_sending ask.event) off;
}

send_unpumped : (to : Option Peer) (signal : SigNote)
    → is_pump_event (ask_send to signal).event ≡ false
send_unpumped None signal = refl
send_unpumped (Some peer) signal = refl

attach_unpumped : (to : Option Peer) (signal : SigNote)
    → is_pump_event (ask_attach to signal).event ≡ false
attach_unpumped None signal = refl
attach_unpumped (Some peer) signal = refl

detach_unpumped : (r : Option AttRef) → is_pump_event (ask_detach r).event ≡ false
detach_unpumped None = refl
detach_unpumped (Some r) = refl

forwards : (held : Option SigNote) (peer : Option Peer) (c : Option Command)
    → IsCommandAsk held c (ask_forward held peer)
forwards None peer c = record { unpumped = refl; given = λ h. cc }
forwards (Some signal) None c = record { unpumped = refl; given = λ h. cc }
forwards (Some signal) (Some peer) c = record { unpumped = refl; given = λ h. refl }

pub asks_well : (k : Knows) (me : Option Inc) (c : Option Command)
    → IsCommandAsk k.held c (ask_of k me c)
asks_well k me (Some (Send to number bytes)) =
    no_forward k.held (Some (Send to number bytes)) (ask_of k me (Some (Send to number bytes))) refl
    (send_unpumped (peer_named k me to) (signal_of number (data_of bytes)))
asks_well k me (Some (Forward to)) = forwards k.held (peer_named k me to) (Some (Forward to))
asks_well k me (Some (Attach to r number bytes)) =
    no_forward k.held (Some (Attach to r number bytes))
    (ask_of k me (Some (Attach to r number bytes))) refl
    (attach_unpumped (peer_named k me to) (signal_of number (data_of bytes)))
asks_well k me (Some (Detach r)) =
    no_forward k.held (Some (Detach r)) (ask_of k me (Some (Detach r))) refl
    (detach_unpumped (lookup k.refs r))
asks_well k me c = no_forward k.held c (ask_of k me c) refl refl

-- what is no end is asked for at one of the commands
pub some_left : (commands : List Command) (place : ℕ) (k : Knows) (me : Option Inc)
    → is_end_event (ask_of k me (slice_get commands place)).event ≡ false → place < length commands
some_left [] zero k me h = cc
some_left [] (suc place) k me h = cc
some_left (c ∷ commands) zero k me h = omega arith
some_left (c ∷ commands) (suc place) k me h =
    let less = some_left commands place k me h in omega arith

-- what is lent comes back at a stop
pub handed_back : (commands : List Command) (k : Knows) (me : Option Inc) → k.lent ≡ false
    → stopped_with (handed commands k me) (asked_by commands k me).hand ≡ k
handed_back commands k me home = go (lends commands k me) refl
  where
    go : (b : Bool) → lends commands k me ≡ b
        → stopped_with (cond b (record k { held = None; lent = true }) k)
        (asked_by commands k me).hand
        ≡ k
    go true h =
        rw ((asks_well k me (slice_get commands k.place)).given h)
        (let e : record k { lent = false } ≡ k = rw home refl in e)
    go false h = rw home refl

-- lending says nothing of the place
pub handed_place : (commands : List Command) (k : Knows) (me : Option Inc)
    → (handed commands k me).place ≡ k.place
handed_place commands k me =
    elim (lends commands k me) as
    (λ b. (cond b (record k { held = None; lent = true }) k).place ≡ k.place) [
      | true ↦ refl
      | false ↦ refl
    ]
