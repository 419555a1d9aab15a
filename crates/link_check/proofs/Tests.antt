-- What the tests of sessions, incarnations and notes tell.
use Rattle.std.proofs.Common.{◌≡◌, ℕ, ◌≤◌, ◌<◌, Bool, true, false, ◌&&◌, ◌==◌, List, [], ◌∷◌, Option}
use Rattle.std.proofs.Common.{Some, None, refl, sym, ap, arith, bytes_eq, eq-eqb, eqb-true, is_none}
use Rattle.std.proofs.Common.{is_some, slice_get, true≢false}
use Rattle.std.proofs.lemmas.Bool.{and_parts}
use Rattle.std.proofs.lemmas.Slice.Eq.{bytes_eq-Decides}
use Rattle.linx_base.specs.Peers.{same_inc}
use Rattle.linx_base.specs.SigNotes.{SigNote}
use Rattle.linx_base.specs.declared.identity.Inc.{Inc}
use Rattle.linx_base.specs.declared.identity.LinkNo.{LinkNo}
use Rattle.linx_base.specs.declared.identity.Session.{Session}
use Rattle.journal.specs.History.{name_or_none}
use Rattle.link_check.specs.Deliveries.{is_note, is_session, named_as}

pub both : (a b : Bool) → a ≡ true → b ≡ true → (a && b) ≡ true
both true b first second = second
both false b first second = first

pub session-is : (x y : Session) → (x.0 == y.0) ≡ true → x ≡ y
session-is x y is =
    ap (λ (n : ℕ). let z : Session = record { 0 = n } in z) (eqb-true x.0 y.0 is)

pub is-session : (x y : Session) → x ≡ y → (x.0 == y.0) ≡ true
is-session x y same = eq-eqb x.0 y.0 (ap (λ (z : Session). z.0) same)

pub inc-is : (a b : Inc) → same_inc a b ≡ true → a ≡ b
inc-is a b is = ap (λ (n : ℕ). let z : Inc = record { 0 = n } in z) (eqb-true a.0 b.0 is)

pub inc-same : (a : Inc) → same_inc a a ≡ true
inc-same a = eq-eqb a.0 a.0 refl

pub link-is : (a b : LinkNo) → (a.0 == b.0) ≡ true → a ≡ b
link-is a b is = ap (λ (n : ℕ). let z : LinkNo = record { 0 = n } in z) (eqb-true a.0 b.0 is)

pub session-up : (up : Option Session) (x : Session) → is_session up x ≡ true → up ≡ Some x
session-up None x is = absurd (true≢false (sym is))
session-up (Some z) x is = ap (λ (y : Session). Some y) (session-is z x is)

pub up-session : (up : Option Session) (x : Session) → up ≡ Some x → is_session up x ≡ true
up-session None x is = cc is
up-session (Some z) x is = let same : z ≡ x = cc is in is-session z x same

pub bytes-is : (v w : List ℕ) → bytes_eq v w ≡ true → v ≡ w
bytes-is v w is = (bytes_eq-Decides v w).0 is

pub is-bytes : (v w : List ℕ) → v ≡ w → bytes_eq v w ≡ true
is-bytes v w same = (bytes_eq-Decides v w).1 same

-- a name that is there, or none
first-none : (v : List ℕ) → is_none (slice_get v 0) ≡ true → [] ≡ v
first-none [] is = refl
first-none (x ∷ v) is = absurd (true≢false (sym is))

pub named-is : (o : Option (List ℕ)) (v : List ℕ) → named_as o v ≡ true → name_or_none o ≡ v
named-is None v is = first-none v is
named-is (Some w) v is = bytes-is w v is

pub is-named : (o : Option (List ℕ)) (v : List ℕ) → name_or_none o ≡ v → named_as o v ≡ true
is-named None v same = ap (λ (w : List ℕ). is_none (slice_get w 0)) (sym same)
is-named (Some w) v same = is-bytes w v same

pub note-is : (o : Option SigNote) (note : SigNote) → is_note o note ≡ true → o ≡ Some note
note-is None note is = absurd (true≢false (sym is))
note-is (Some next) note is =
    let parts = and_parts (next.number == note.number) (bytes_eq next.bytes note.bytes) is in
    let number : next.number ≡ note.number = eqb-true next.number note.number parts.0 in
    let bytes : next.bytes ≡ note.bytes = bytes-is next.bytes note.bytes parts.1 in
    (λ i. Some (record { number = number i; bytes = bytes i }))

pub is-note : (o : Option SigNote) (note : SigNote) → o ≡ Some note → is_note o note ≡ true
is-note None note is = cc is
is-note (Some next) note is =
    let same : next ≡ note = cc is in
    both (next.number == note.number) (bytes_eq next.bytes note.bytes)
    (eq-eqb next.number note.number (ap (λ (n : SigNote). n.number) same))
    (is-bytes next.bytes note.bytes (ap (λ (n : SigNote). n.bytes) same))

pub some-is : {X : Type 0} (o : Option X) → is_some o ≡ false → o ≡ None
some-is None is = refl
some-is (Some x) is = absurd (true≢false is)

pub none-some : (o : Option Session) (z : Session) → o ≡ None → o ≡ Some z → ⊥
none-some None z none some = cc some
none-some (Some x) z none some = cc none

-- ORDERS
pub less-le : (a b c : ℕ) → a < b → b ≤ c → a < c
less-le a b c first second = omega arith

pub le-less : (a b c : ℕ) → a ≤ b → b < c → a < c
le-less a b c first second = omega arith

pub le-le : (a b c : ℕ) → a ≤ b → b ≤ c → a ≤ c
le-le a b c first second = omega arith
