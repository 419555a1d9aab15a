-- What a side says makes no connection, and where no message of it asks, no more answers are due.
use Rattle.std.proofs.Common.{◌≡◌, ◌<◌, ◌≤◌, ℕ, List, Option, Some, None, refl, ◌∙◌}
use Rattle.std.proofs.Common.{arith, inl, inr}
use Rattle.std.specs.List.{AllByRecursion}
use Rattle.linx_base.specs.declared.frame.Message.{Message}
use Rattle.linx_base.specs.declared.identity.Inc.{Inc}
use Rattle.carrier.specs.Events.{LinkState}
use Rattle.link_addresses.specs.Meanings.{address_of}
use Rattle.link_settling.specs.Measure.{Falls, Measure, measure}
use Rattle.link_settling.proofs.Flights.PacketsEnd.{deliveries_end}
use Rattle.rlnh_messages.specs.Messages.{spelling_of}
use Rattle.rlnh_end.specs.Calls.{announced, publish_of}
use Rattle.rlnh_end.specs.States.{RlnhTables, without_note}
use Rattle.trunk.specs.Keeping.{messages_of}
use Rattle.run_settling.specs.Asking.{asks}
use Rattle.run_settling.proofs.Offering.{Spreads}
use Rattle.run_settling.proofs.Settled.{IsAny}

-- what is left to do over a link
abbrev pub left : LinkState → Measure
left v = measure asks v

-- as many packets make connections, and as many ends are up
pub record NoneConnects (old new : Measure) : Type 0 where
  pub connecting : new.connecting ≡ old.connecting
  pub up : new.up ≡ old.up

pub connects_chain : (m n o : Measure) → NoneConnects m n → NoneConnects n o → NoneConnects m o
connects_chain m n o one two =
    record { connecting = two.connecting ∙ one.connecting; up = two.up ∙ one.up }

-- of a link and the same one after something was said
abbrev pub ConnectsNothing : LinkState → LinkState → Type 0
ConnectsNothing v w = NoneConnects (left v) (left w)

pub connecting_spreads : Spreads IsAny ConnectsNothing
connecting_spreads =
    record {
      same = λ v. record { connecting = refl; up = refl };
      chains = λ v w x one two. connects_chain (left v) (left w) (left x) one two;
      offered = λ to m v up is any k.
          let o = (deliveries_end asks).offered to m v k in
          record { connecting = o.0; up = o.1 };
    }

-- and no more answers are due
pub record NoneAsks (old new : Measure) : Type 0 where
  pub connects : NoneConnects old new
  pub due : new.due ≤ old.due

pub asks_chain : (m n o : Measure) → NoneAsks m n → NoneAsks n o → NoneAsks m o
asks_chain m n o one two =
    let first = one.due in
    let second = two.due in
    record { connects = connects_chain m n o one.connects two.connects; due = omega arith }

abbrev pub AsksNothing : LinkState → LinkState → Type 0
AsksNothing v w = NoneAsks (left v) (left w)

-- a message that doesn't ask
abbrev pub IsSilent : Message → Type 0
IsSilent m = asks m ≡ 0

pub asking_spreads : Spreads IsSilent AsksNothing
asking_spreads =
    record {
      same = λ v. record { connects = connecting_spreads.same v; due = omega arith };
      chains = λ v w x one two. asks_chain (left v) (left w) (left x) one two;
      offered = λ to m v up is silent k.
          let more = (deliveries_end asks).is_due to m v up is k in
          record {
            connects = connecting_spreads.offered to m v up is tt k;
            due = omega (arith, silent, more);
          };
    }

-- PUBLISH doesn't ask
announced_silent : (t : RlnhTables) (i : Inc) (name : List ℕ) (addr : Option ℕ)
    → AllByRecursion IsSilent (messages_of (announced t i name addr).says)
unfolding spelling_of
announced_silent t i name (Some addr) = tt
announced_silent t i name None = (refl, tt)

pub publishes_silent : (s : RlnhTables) (i : Inc) (name : List ℕ)
    → AllByRecursion IsSilent (messages_of (publish_of s i name).says)
publishes_silent s i name =
    announced_silent (record s { noted = without_note s.noted name }) i name (address_of s.own i)

-- ---- what is less

-- a packet fewer makes connections, whatever is said then
pub less_connecting : (old new last : Measure) → new.connecting < old.connecting
    → NoneConnects new last → Falls last old
less_connecting old new last less said =
    let same = said.connecting in
    inl (omega arith)

-- an answer fewer is due, where what is said then doesn't ask
pub less_due : (old new last : Measure) → Falls new old → new.due < old.due → NoneAsks new last
    → Falls last old
less_due old new last falls less said =
    let same = said.connects.connecting in
    let as_up = said.connects.up in
    let no_more = said.due in
    elim falls [
      | inl fewer ↦ inl (omega arith)
      | inr rest ↦
          let as_many = rest.0 in
          inr (
            omega arith,
            elim rest.1 [
              | inl down ↦ inl (omega arith)
              | inr ups ↦ let upto = ups.0 in inr (omega arith, inl (omega arith))
            ],
          )
    ]
