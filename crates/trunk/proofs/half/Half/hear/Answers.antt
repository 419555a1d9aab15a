use Rattle.std.proofs.Common.{refl}
use Rattle.rlnh_end.specs.declared.up.Up.TheVariants.{Nothing, Arrived, Freed, Met, Gone, Asked}
use Rattle.rlnh_end.specs.declared.up.Up.TheVariants.{Bad}
use Rattle.trunk.specs.Events.{TrunkSide}
use Rattle.trunk.proofs.Messages.HandedUp.{heard_given}
use Rattle.trunk.proofs.half.Half.hear.Goals as goal

pub returns-in-Nothing-clause-is : goal.returns-in-Nothing-clause-is
returns-in-Nothing-clause-is c =
    λ heard read.
    let s : TrunkSide =
    record { end = c.self.inside.end.is; kept = c.self.inside.kept.is } in
    rw (← c.self.view_is) (heard_given s heard c.input.new.self.is
    Nothing (rw c.in-Nothing.is at (c.in_ok-input.ensures.reaction heard read))
    c.self.inside.kept.is
    (refl))

pub returns-in_ok-note-in-Arrived-clause-is : goal.returns-in_ok-note-in-Arrived-clause-is
returns-in_ok-note-in-Arrived-clause-is c =
    λ heard read.
    let s : TrunkSide =
    record { end = c.self.inside.end.is; kept = c.self.inside.kept.is } in
    rw (← c.self.view_is) (heard_given s heard c.input.new.self.is
    (Arrived c.in-Arrived.from c.in-Arrived.to c.in-Arrived.signal)
    (rw c.in-Arrived.is at (c.in_ok-input.ensures.reaction heard read))
    c.note-in-Arrived.new.self.is
    (rw (c.note-in-Arrived.ensures.is, c.in_ok-note-in-Arrived.ensures) refl))

pub returns-in_ok-note-in-Freed-clause-is : goal.returns-in_ok-note-in-Freed-clause-is
returns-in_ok-note-in-Freed-clause-is c =
    λ heard read.
    let s : TrunkSide =
    record { end = c.self.inside.end.is; kept = c.self.inside.kept.is } in
    rw (← c.self.view_is) (heard_given s heard c.input.new.self.is
    (Freed c.in-Freed.from c.in-Freed.to c.in-Freed.signal)
    (rw c.in-Freed.is at (c.in_ok-input.ensures.reaction heard read))
    c.note-in-Freed-2.new.self.is
    (rw (c.note-in-Freed-2.ensures.is, c.in_ok-note-in-Freed.ensures) refl))

pub returns-in_ok-copy-in-Met-clause-is : goal.returns-in_ok-copy-in-Met-clause-is
returns-in_ok-copy-in-Met-clause-is c =
    λ heard read.
    let s : TrunkSide =
    record { end = c.self.inside.end.is; kept = c.self.inside.kept.is } in
    rw (← c.self.view_is) (heard_given s heard c.input.new.self.is
    (Met c.in-Met.inc c.in-Met.name) (rw c.in-Met.is at (c.in_ok-input.ensures.reaction heard read))
    c.note-in-Met.new.self.is
    (rw (c.note-in-Met.ensures.is, c.in_ok-copy-in-Met.ensures) refl))

pub returns-in-Gone-clause-is : goal.returns-in-Gone-clause-is
returns-in-Gone-clause-is c =
    λ heard read.
    let s : TrunkSide =
    record { end = c.self.inside.end.is; kept = c.self.inside.kept.is } in
    rw (← c.self.view_is) (heard_given s heard c.input.new.self.is
    (Gone c.in-Gone.inc) (rw c.in-Gone.is at (c.in_ok-input.ensures.reaction heard read))
    c.note-in-Gone.new.self.is
    (rw c.note-in-Gone.ensures.is refl))

pub returns-in_ok-copy-in-Asked-clause-is : goal.returns-in_ok-copy-in-Asked-clause-is
returns-in_ok-copy-in-Asked-clause-is c =
    λ heard read.
    let s : TrunkSide =
    record { end = c.self.inside.end.is; kept = c.self.inside.kept.is } in
    rw (← c.self.view_is) (heard_given s heard c.input.new.self.is
    (Asked c.in-Asked.name) (rw c.in-Asked.is at (c.in_ok-input.ensures.reaction heard read))
    c.note-in-Asked.new.self.is
    (rw (c.note-in-Asked.ensures.is, c.in_ok-copy-in-Asked.ensures) refl))

pub returns-in-Bad-clause-is : goal.returns-in-Bad-clause-is
returns-in-Bad-clause-is c =
    λ heard read.
    let s : TrunkSide =
    record { end = c.self.inside.end.is; kept = c.self.inside.kept.is } in
    rw (← c.self.view_is) (heard_given s heard c.input.new.self.is
    Bad (rw c.in-Bad.is at (c.in_ok-input.ensures.reaction heard read))
    c.self.inside.kept.is
    (refl))
