-- The effects and the nodes of worked calls: hunts and attaches on one node.
use Rattle.std.proofs.Common.{◌≡◌, ℕ, false, List, [], ◌∷◌, refl, codes}
use Rattle.linx_base.specs.Numbers.{inc_of}
use Rattle.linx_base.specs.declared.identity.Inc.{Inc}
use Rattle.linx_base.specs.declared.identity.Peer.TheVariants.{Here}
use Rattle.linx_base.specs.declared.item.Item.{Item}
use Rattle.linx_base.specs.declared.item.Kind.TheVariants.{Found as FoundBy, Notice}
use Rattle.linx_base.specs.declared.name.Path.TheVariants.{Local}
use Rattle.linx_base.specs.declared.pending.PendingAttach.{PendingAttach}
use Rattle.linx_base.specs.declared.pending.PendingHunt.{PendingHunt}
use Rattle.linx_base.specs.declared.signal.Reason.TheVariants as reasons
use Rattle.linx_base.specs.SigNotes.{SigNote}
use Rattle.journal.specs.declared.effect.Effect.TheVariants.{Opened, Closed, Found, Notified}
use Rattle.journal.specs.declared.head.Detached.TheVariants.{Pending, Queued, None as Neither}
use Rattle.journal.specs.Effects.{attached, closing, hunted, opening}
use Rattle.node_kernel.specs.Nodes.{NodeState, OpenEndpoint, find_at}
use Rattle.node_kernel.specs.Calls.{after_attach, after_close, after_detach, after_open, detached}

abbrev first : Inc
first = inc_of 1 1

abbrev second : Inc
second = inc_of 1 2

abbrev third : Inc
third = inc_of 1 3

abbrev note : ℕ → List ℕ → SigNote
note number bytes = record { number = number; bytes = bytes }

abbrev endpoint : Inc → List ℕ → OpenEndpoint
endpoint i name = record { inc = i; name = name; items = [] }

abbrev node : ℕ → List OpenEndpoint → List PendingHunt → List PendingAttach → NodeState
node openings endpoints hunts attaches = record {
  node = record { 0 = 1 };
  openings = openings;
  endpoints = endpoints;
  hunts = hunts;
  attaches = attaches;
  met = [];
}

abbrev hunt : Inc → List ℕ → ℕ → PendingHunt
hunt at name step = record { at = at; path = Local name; signal = note 251 []; number = step }

abbrev attach : Inc → Inc → List ℕ → ℕ → PendingAttach
attach at to bytes step = record {
  at = at;
  peer = Here to;
  signal = note 252 bytes;
  reference = record { 0 = step };
}

-- the hunt of step 3 is answered by the opening of step 6
abbrev waiting : NodeState
waiting = node 2 (endpoint first (codes "a") ∷ []) (hunt first (codes "b") 3 ∷ []) []

opening_answers : opening third (codes "b") waiting.hunts ≡ Opened third
    ∷ Found first (Here third) (note 251 []) 3 ∷ []
opening_answers = refl

abbrev found_item : Item
found_item = record {
  signal = note 251 [];
  from = Here third;
  kind = FoundBy 3;
  pos = record { step = 6; place = 2 };
}

after_the_opening : after_open waiting (codes "b") 6
    ≡ node 3 (record (endpoint first (codes "a")) { items = found_item ∷ [] }
    ∷ endpoint third (codes "b") ∷ []) [] []
after_the_opening = refl

-- a hunt finds the first opened endpoint of its name that is open
abbrev two_named : NodeState
two_named = node 3 (endpoint second (codes "x") ∷ endpoint third (codes "h") ∷ []) [] []

hunt_finds : hunted (find_at two_named (Local (codes "x"))) (hunt third (codes "x") 6)
    ≡ Found third (Here second) (note 251 []) 6 ∷ []
hunt_finds = refl

-- an attach is cancelled, and the other one is notified
abbrev attached_twice : NodeState
attached_twice = node 2 (endpoint first (codes "a") ∷ endpoint second (codes "b") ∷ []) []
    (attach first second [] 6 ∷ attach first second (170 ∷ []) 7 ∷ [])

first_is_pending : detached attached_twice first (record { 0 = 6 }) ≡ Pending
first_is_pending = refl

abbrev attached_once : NodeState
attached_once = after_detach attached_twice first (record { 0 = 6 })

other_is_notified : closing second attached_once.attaches ≡ Closed second
    ∷ Notified first (Here second) (note 252 (170 ∷ 0 ∷ [])) (record { 0 = 7 }) reasons.Closed ∷ []
other_is_notified = refl

-- an attach to a dead peer is notified at once; its notification is taken out of the queue once
abbrev alone : NodeState
alone = node 2 (endpoint first (codes "a") ∷ []) [] []

dead_is_told : attached false (attach first second [] 14)
    ≡ Notified first (Here second) (note 252 (2 ∷ [])) (record { 0 = 14 }) reasons.Dead ∷ []
dead_is_told = refl

abbrev told : NodeState
told = after_attach alone (attach first second [] 14)

notice_is_queued : detached told first (record { 0 = 14 }) ≡ Queued
notice_is_queued = refl

notice_is_gone : detached (after_detach told first (record { 0 = 14 })) first (record { 0 = 14 })
    ≡ Neither
notice_is_gone = refl

-- a close notifies all holders, in order of attaching, after it is told itself
abbrev two_holders : NodeState
two_holders = node 3 (endpoint first (codes "a") ∷ endpoint second (codes "b")
    ∷ endpoint third (codes "c") ∷ []) [] (attach first third [] 9 ∷ attach second third [] 10 ∷ [])

both_are_notified : closing third two_holders.attaches ≡ Closed third
    ∷ Notified first (Here third) (note 252 (0 ∷ [])) (record { 0 = 9 }) reasons.Closed
    ∷ Notified second (Here third) (note 252 (0 ∷ [])) (record { 0 = 10 }) reasons.Closed ∷ []
both_are_notified = refl

abbrev notice_item : ℕ → ℕ → Item
notice_item reference place = record {
  signal = note 252 (0 ∷ []);
  from = Here third;
  kind = Notice (record { 0 = reference });
  pos = record { step = 19; place = place };
}

after_the_close : after_close two_holders third 19
    ≡ node 3 (record (endpoint first (codes "a")) { items = notice_item 9 2 ∷ [] }
    ∷ record (endpoint second (codes "b")) { items = notice_item 10 3 ∷ [] } ∷ []) [] []
after_the_close = refl
