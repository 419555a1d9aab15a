-- WHAT A FLOW HAS is what the history says was sent to its peer.
use Rattle.std.proofs.Common.{◌≡◌, ℕ, zero, suc, Bool, true, false, ◌&&◌, ◌==◌, List, [], ◌∷◌, ◌++◌}
use Rattle.std.proofs.Common.{filter, map, Option, Some, None, refl, sym, ◌∙◌, ap, slice_get}
use Rattle.std.proofs.Common.{append-nil, eq-eqb, eqb-true}
use Rattle.std.proofs.lemmas.Bool.{and_parts}
use Rattle.std.proofs.Common.{if◌then◌else◌, Ordering, is_eq, nat_cmp}
use Rattle.std.specs.Ordering.{ordering_then}
use Rattle.keyed_list.proofs.Finding.{flipped, same_number, same_parts}
use Rattle.linx_base.specs.Peers.{same_inc, same_peer}
use Rattle.linx_base.specs.SigNotes.{SigNote}
use Rattle.linx_base.specs.declared.identity.Inc.{Inc}
use Rattle.linx_base.specs.declared.identity.Peer.{Peer}
use Rattle.linx_base.specs.declared.identity.Peer.TheVariants.{Here, There}
use Rattle.journal.specs.History.{endpoint_by}
use Rattle.journal.specs.Traffic.{is_endpoint, sent_by, sent_to, was_sent}
use Rattle.journal.specs.declared.effect.Step.{Step}
use Rattle.journal.specs.declared.head.Head.{Head}
use Rattle.journal.specs.declared.head.Head.TheVariants as heads
use Rattle.journal.specs.declared.head.SentTo.{SentTo}
use Rattle.link_tables.specs.Sent.{in_flow, flow_to, notes_of, peer_of, same_flow, sent_left}
use Rattle.link_tables.specs.Sent.{sent_over, sent_past, with_sent}
use Rattle.link_tables.proofs.Keys.{and_nested}
use Rattle.link_tables.specs.declared.sent.Flow.{Flow}
use Rattle.link_tables.specs.declared.sent.SentOver.{SentOver}

module _ (f : Flow) where
  -- one more signal
  one-more : (sent : List SentOver) (s : SentOver)
      → notes_of f (sent ++ s ∷ []) ≡ notes_of f sent ++ (if same_flow f s.flow then s.note ∷ [] else [])
  one-more [] s = go (same_flow f s.flow) refl
    where
      go : (b : Bool) → same_flow f s.flow ≡ b
          → notes_of f (s ∷ []) ≡ (if b then s.note ∷ [] else [])
      go true e = rw e refl
      go false e = rw e refl
  one-more (x ∷ sent) s = go (same_flow f x.flow) refl (one-more sent s)
    where
      go : (b : Bool) → same_flow f x.flow ≡ b
          → notes_of f (sent ++ s ∷ [])
          ≡ notes_of f sent ++ (if same_flow f s.flow then s.note ∷ [] else [])
          → notes_of f (x ∷ sent ++ s ∷ [])
          ≡ notes_of f (x ∷ sent) ++ (if same_flow f s.flow then s.note ∷ [] else [])
      go true e rest = rw e (ap (λ (l : List SigNote). x.note ∷ l) rest)
      go false e rest = rw e rest

  nothing : (b : Bool) (notes : List SigNote) → notes ≡ notes ++ (if b then [] else [])
  nothing true notes = sym (append-nil notes)
  nothing false notes = sym (append-nil notes)

  both_tests : (a b : Bool) (note : SigNote)
      → (let none : List SigNote = [] in if a && b then note ∷ none else none)
      ≡ (if a then (if b then note ∷ [] else []) else [])
  both_tests true b note = refl
  both_tests false b note = refl

  -- A SEND adds to a flow what the history adds to what was sent to its peer
  after-send : (went : Bool) (at : Inc) (to : Peer) (note : SigNote) (sent : List SentOver)
      → notes_of f (with_sent sent (if went then in_flow (flow_to at to) note else None))
      ≡ notes_of f sent
      ++ (if same_inc f.at at then (if went && same_peer to (peer_of f) then note ∷ [] else [])
      else [])
  after-send false at to note sent = nothing (same_inc f.at at) (notes_of f sent)
  after-send true at (Here i) note sent = nothing (same_inc f.at at) (notes_of f sent)
  after-send true at (There l x i) note sent =
      one-more sent (record {
        flow = record { at = at; link = l; session = x; peer = i };
        note = note;
      })
      ∙ ap (λ (notes : List SigNote). notes_of f sent ++ notes)
      (both_tests (same_inc f.at at) (same_peer (There l x i) (peer_of f)) note)

  -- and so does any step
  after-step : (me : Option Inc) (head : Head) (sent : List SentOver)
      → notes_of f (sent_past me head sent)
      ≡ notes_of f sent ++ (if is_endpoint f.at me then sent_by (peer_of f) head else [])
  after-step None head sent = sym (append-nil (notes_of f sent))
  after-step (Some at) (heads.Send to note answer) sent =
      after-send (was_sent answer) at to note sent
  after-step (Some at) _ sent = nothing (same_inc f.at at) (notes_of f sent)

  pub flow-told : (P : List Step) → notes_of f (sent_left P) ≡ sent_to P f.at (peer_of f)
  flow-told [] = refl
  flow-told (s ∷ P) =
      after-step (endpoint_by P s.by) s.head (sent_left P)
      ∙ ap (λ (notes : List SigNote). notes
      ++ (if is_endpoint f.at (endpoint_by P s.by) then sent_by (peer_of f) s.head else []))
      (flow-told P)

-- BY ITS KEY: the signals of a flow are those that stand under it
pub under-flow : (f g : Flow)
    → is_eq (ordering_then (nat_cmp f.at.0 g.at.0) (ordering_then (nat_cmp f.link.0 g.link.0)
    (ordering_then (nat_cmp f.session.0 g.session.0) (nat_cmp f.peer.0 g.peer.0))))
    ≡ same_flow f g
under-flow f g =
    same_parts _ _ (same_number f.at.0 g.at.0)
    (same_parts _ _ (same_number f.link.0 g.link.0 ∙ flipped f.link.0 g.link.0)
    (same_parts _ _ (same_number f.session.0 g.session.0 ∙ flipped f.session.0 g.session.0)
    (same_number f.peer.0 g.peer.0 ∙ flipped f.peer.0 g.peer.0))
    ∙ and_nested (g.link.0 == f.link.0) (g.session.0 == f.session.0) (g.peer.0 == f.peer.0))

-- FLOWS of the same parts are one
inc-is : (a b : Inc) → same_inc a b ≡ true → a ≡ b
inc-is a b is = ap (λ (n : ℕ). let z : Inc = record { 0 = n } in z) (eqb-true a.0 b.0 is)

pub flow-is : (f g : Flow) → same_flow f g ≡ true → f ≡ g
flow-is f g is =
    let halves = and_parts (same_inc f.at g.at) (same_peer (peer_of g) (peer_of f)) is in
    let parts = and_parts (g.link.0 == f.link.0 && g.session.0 == f.session.0)
    (same_inc g.peer f.peer) halves.1 in
    let others = and_parts (g.link.0 == f.link.0) (g.session.0 == f.session.0) parts.0 in
    let at : f.at ≡ g.at = inc-is f.at g.at halves.0 in
    let link : g.link.0 ≡ f.link.0 = eqb-true g.link.0 f.link.0 others.0 in
    let session : g.session.0 ≡ f.session.0 = eqb-true g.session.0 f.session.0 others.1 in
    let peer : g.peer ≡ f.peer = inc-is g.peer f.peer parts.1 in
    (λ i. record {
      at = at i;
      link = record { 0 = sym link i };
      session = record { 0 = sym session i };
      peer = sym peer i;
    })

pub flow-same : (f : Flow) → same_flow f f ≡ true
flow-same f =
    rw (
      eq-eqb f.at.0 f.at.0 refl,
      eq-eqb f.link.0 f.link.0 refl,
      eq-eqb f.session.0 f.session.0 refl,
      eq-eqb f.peer.0 f.peer.0 refl,
    ) refl

pub flow-flipped : (f g : Flow) → same_flow f g ≡ same_flow g f
flow-flipped f g =
    λ i. flipped f.at.0 g.at.0 i
    && (flipped g.link.0 f.link.0 i && flipped g.session.0 f.session.0 i
    && flipped g.peer.0 f.peer.0 i)
