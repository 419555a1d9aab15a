-- What a side of a link says in a session, and what it is given.
use Rattle.std.specs.Prelude.{ℕ, ◌≡◌, Bool, true, false, not, ◌&&◌, ◌||◌, List, [], ◌∷◌, ◌++◌}
use Rattle.std.specs.Prelude.{if◌then◌else◌}
use Rattle.std.specs.List.{list_any}
use Rattle.linx_base.specs.Peers.{same_inc}
use Rattle.linx_base.specs.declared.identity.Inc.{Inc}
use Rattle.linx_base.specs.SigNotes.{SigNote}

-- what a side says: it publishes an incarnation by its name, asks for a name, signals from one
-- incarnation of its own to one of the other side, and unpublishes an incarnation
pub data Said : Type 0 where
  published : Inc → List ℕ → Said
  asked : List ℕ → Said
  signaled : Inc → Inc → SigNote → Said
  unpublished : Inc → Said

-- what a side is given: it meets an incarnation of the other side, is asked for a name, gets a
-- signal or frees it, since its receiver is closed, and is told that an incarnation is gone
pub data Given : Type 0 where
  met : Inc → List ℕ → Given
  asked_for : List ℕ → Given
  arrived : Inc → Inc → SigNote → Given
  freed : Inc → Inc → SigNote → Given
  gone : Inc → Given

-- what the other side said, that this was given for
abbrev pub heard_as : Given → Said
heard_as (met i name) = published i name
heard_as (asked_for name) = asked name
heard_as (arrived a b note) = signaled a b note
heard_as (freed a b note) = signaled a b note
heard_as (gone i) = unpublished i

-- In what follows, what was said and given in a session has the newest first.

-- what is said publishes this incarnation
abbrev pub publishes : Inc → Said → Bool
publishes i (published j name) = same_inc i j
publishes i _ = false

-- what is said unpublishes this incarnation
abbrev pub unpublishes : Inc → Said → Bool
unpublishes i (unpublished j) = same_inc i j
unpublishes i _ = false

-- an incarnation was published, in what was said
abbrev pub was_published : Inc → List Said → Bool
was_published i said = list_any (publishes i) said

-- an incarnation was unpublished, in what was said
abbrev pub was_unpublished : Inc → List Said → Bool
was_unpublished i said = list_any (unpublishes i) said

-- an incarnation was published and not unpublished since
abbrev pub is_live : Inc → List Said → Bool
is_live i [] = false
is_live i (published j name ∷ before) = same_inc i j || is_live i before
is_live i (unpublished j ∷ before) = not (same_inc i j) && is_live i before
is_live i (_ ∷ before) = is_live i before

-- the signals from one incarnation to another, oldest first
abbrev pub signals_between : Inc → Inc → List Said → List SigNote
signals_between a b [] = []
signals_between a b (signaled i j note ∷ before) =
    signals_between a b before ++ (if same_inc i a && same_inc j b then note ∷ [] else [])
signals_between a b (_ ∷ before) = signals_between a b before

-- What a side may say in a session: it publishes an incarnation once, signals only from a live one,
-- and unpublishes a live one, which is therefore its last word of it
abbrev pub IsProper : List Said → Type 0
IsProper [] = Unit {0}
IsProper (published i name ∷ before) = (was_published i before ≡ false) × IsProper before
IsProper (asked name ∷ before) = IsProper before
IsProper (signaled i j note ∷ before) = (is_live i before ≡ true) × IsProper before
IsProper (unpublished i ∷ before) = (is_live i before ≡ true) × IsProper before

-- what is given frees a signal to this incarnation
abbrev pub frees : Inc → Given → Bool
frees j (freed a b note) = same_inc j b
frees j _ = false

-- What a side is given in a session comes in turn: once a signal to a receiver was freed, none
-- arrives at it
abbrev pub AreInTurn : List Given → Type 0
AreInTurn [] = Unit {0}
AreInTurn (met i name ∷ before) = AreInTurn before
AreInTurn (asked_for name ∷ before) = AreInTurn before
AreInTurn (arrived a b note ∷ before) = (list_any (frees b) before ≡ false) × AreInTurn before
AreInTurn (freed a b note ∷ before) = AreInTurn before
AreInTurn (gone i ∷ before) = AreInTurn before

-- what is given is a signal
abbrev pub is_signal : Said → Bool
is_signal (published i name) = false
is_signal (asked name) = false
is_signal (signaled a b note) = true
is_signal (unpublished i) = false

-- what is given is shown to the node: a meeting, an arrival, a parting
abbrev pub is_shown : Given → Bool
is_shown (met i name) = true
is_shown (asked_for name) = false
is_shown (arrived a b note) = true
is_shown (freed a b note) = false
is_shown (gone i) = true

-- the side is given a meeting with this incarnation
abbrev pub meets_inc : Inc → Given → Bool
meets_inc a (met i name) = same_inc a i
meets_inc a _ = false

-- the side is told that this incarnation is gone
abbrev pub parts_inc : Inc → Given → Bool
parts_inc a (gone i) = same_inc a i
parts_inc a _ = false

-- an incarnation was met, in what was given
abbrev pub has_met : Inc → List Given → Bool
has_met a given = list_any (meets_inc a) given

-- an incarnation has gone, in what was given
abbrev pub has_gone : Inc → List Given → Bool
has_gone a given = list_any (parts_inc a) given
