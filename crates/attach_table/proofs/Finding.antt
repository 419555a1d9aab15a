-- What stands under the keys of an attach.
use Rattle.std.proofs.Common.{◌≡◌, ℕ, ◌<◌, ◌≤◌, Bool, ◌&&◌, length, refl, arith, None, slice_get}
use Rattle.std.proofs.Common.{Ordering, Less, Equal, Greater, is_eq}
use Rattle.std.specs.Ordering.{ordering_then}
use Rattle.std.proofs.lemmas.Option.{slice_get_past}
use Rattle.linx_base.specs.declared.identity.Inc.{Inc}
use Rattle.linx_base.specs.declared.identity.LinkNo.{LinkNo}
use Rattle.linx_base.specs.declared.identity.Session.{Session}
use Rattle.linx_base.specs.declared.identity.Peer.TheVariants.{Here, There}
use Rattle.linx_base.specs.declared.pending.PendingAttach.{PendingAttach}
use Rattle.attach_table.specs.Keys.{session_key, keys_of}

-- keys of three parts
pub same_three : (first second third : Ordering) {b c d : Bool} → is_eq first ≡ b → is_eq second ≡ c
    → is_eq third ≡ d → is_eq (ordering_then first (ordering_then second third)) ≡ (b && c && d)
same_three Less second third one two three = λ i. one i && two i && three i
same_three Equal Less third one two three = λ i. one i && two i && three i
same_three Equal Equal third one two three = λ i. one i && two i && three i
same_three Equal Greater third one two three = λ i. one i && two i && three i
same_three Greater second third one two three = λ i. one i && two i && three i

-- what holds of attaches to both kinds of peers holds of every attach
pub by_peer : (p q : PendingAttach → Bool) → ((a : PendingAttach) (inc : Inc)
    → p (record a { peer = Here inc }) ≡ q (record a { peer = Here inc }))
    → ((a : PendingAttach) (link : LinkNo) (session : Session) (inc : Inc)
    → p (record a { peer = There link session inc })
    ≡ q (record a { peer = There link session inc })) → (a : PendingAttach) → p a ≡ q a
by_peer p q here there a =
    elim a.peer as (λ peer. p (record a { peer = peer }) ≡ q (record a { peer = peer })) [
      | Here inc ↦ here a inc
      | There link session inc ↦ there a link session inc
    ]

-- the last key is that of the peer's session, and none comes behind it
third : (a : PendingAttach) → slice_get (keys_of a) 3 ≡ session_key a.peer
third a =
    elim a.peer as (λ peer. slice_get (keys_of (record a { peer = peer })) 3 ≡ session_key peer) [
      | Here inc ↦ refl
      | There link session inc ↦ refl
    ]

pub last_key : (a : PendingAttach) (at : ℕ) → at ≡ 3 → slice_get (keys_of a) at ≡ session_key a.peer
last_key a at is = rw is (third a)

four_at_most : (a : PendingAttach) → length (keys_of a) ≤ 4
four_at_most a =
    elim a.peer as (λ peer. length (keys_of (record a { peer = peer })) ≤ 4) [
      | Here inc ↦ omega arith
      | There link session inc ↦ omega arith
    ]

pub no_further_key : (a : PendingAttach) (at : ℕ) → 3 < at → slice_get (keys_of a) at ≡ None
no_further_key a at past = let four : length (keys_of a) ≤ 4 = four_at_most a in
    slice_get_past (keys_of a) at (omega arith)
