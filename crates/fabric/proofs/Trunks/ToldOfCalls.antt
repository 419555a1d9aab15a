-- What the trunks are told of a call is what the step of it makes of the trunks of a run.
use Rattle.std.proofs.Common.{◌≡◌, ℕ, zero, suc, Bool, true, false, ◌||◌, List, [], ◌∷◌, map}
use Rattle.std.proofs.Common.{Option, Some, None, refl, sym, ◌∙◌, ap, subst, ◌==◌, eqb-true, eq-eqb}
use Rattle.std.proofs.Common.{true≢false}
use Rattle.std.specs.List.{list_any}
use Rattle.linx_base.specs.Peers.{same_inc}
use Rattle.linx_base.specs.declared.identity.Inc.{Inc}
use Rattle.linx_base.specs.declared.identity.LinkNo.{LinkNo}
use Rattle.linx_base.specs.declared.identity.NodeNo.{NodeNo}
use Rattle.linx_base.specs.declared.identity.Peer.{Peer}
use Rattle.linx_base.specs.declared.identity.Peer.TheVariants.{Here, There}
use Rattle.linx_base.specs.declared.identity.Session.{Session}
use Rattle.linx_base.specs.declared.identity.Side.{Side}
use Rattle.linx_base.specs.declared.identity.Side.TheVariants.{First, Second}
use Rattle.linx_base.specs.declared.name.Path.{Path}
use Rattle.linx_base.specs.declared.name.Path.TheVariants.{Local, Over}
use Rattle.linx_base.specs.SigNotes.{SigNote}
use Rattle.rlnh_messages.specs.Signals.{IsSignal}
use Rattle.journal.specs.Effects.{send_answer}
use Rattle.journal.specs.History.{name_of, name_or_none, open_endpoints}
use Rattle.journal.specs.Shapes.{Shape}
use Rattle.journal.proofs.Openings.{same_inc-true}
use Rattle.journal.specs.declared.effect.Step.{Step}
use Rattle.node_kernel.specs.Nodes.{NodeState, is_open, name_at}
use Rattle.link_laws.specs.Ends.{IsLinkOf, link_at, node_at}
use Rattle.run_trunks.specs.Changes.{at_link, each_does}
use Rattle.run_trunks.specs.Laws.{AreTrunksOf}
use Rattle.run_trunks.specs.States.{over, trunks_of}
use Rattle.run_trunks.proofs.Numbered.{all-do, one-changes}
use Rattle.trunk.specs.Events.{TrunkState, asked_at, closed_at, sent_at}
use Rattle.trunk_moves.specs.Steps.{AsksThere, HuntMakes, SendMakes, SendsThere, trunks_ending}
use Rattle.trunk_moves.specs.Trunks.{Become, does, side_if, side_on, with_trunk}
use Rattle.fabric.specs.Fits.{HasSideOn}
use Rattle.fabric.specs.Remains.{endpoint_left, node_left}
use Rattle.fabric.specs.Tellings.{asked_over, sent_over}
use Rattle.fabric.proofs.AfterStep.NodeOffTheLinks.{open-left_of}

-- the actors of a shape don't matter for the sides of its links
link-over : (shape : Shape) (k : ℕ) → link_at (over shape.links) k ≡ link_at shape k
link-over shape zero = refl
link-over shape (suc k) = refl

pub node-over : (shape : Shape) (l : LinkNo) (side : Side)
    → node_at (over shape.links) l side ≡ node_at shape l side
node-over shape l side = rw (link-over shape l.0) refl

pub side-over : (shape : Shape) (n : ℕ) (l : LinkNo)
    → side_on (over shape.links) n l ≡ side_on shape n l
side-over shape n l = rw (link-over shape l.0) refl

-- the side on a node of a link that has one there
pub side-there : (shape : Shape) (n : ℕ) (l : LinkNo) → HasSideOn shape n l
    → (side : Side) × ((side_on shape n l ≡ Some side) × (node_at shape l side ≡ n))
side-there shape n l has = go has.at has.node_is
  where
    first_not : (b : Bool) → (node_at shape l First == n) ≡ b → node_at shape l Second ≡ n
        → (side : Side) × ((side_if b (node_at shape l Second == n) ≡ Some side)
        × (node_at shape l side ≡ n))
    first_not true is second = (First, (refl, eqb-true (node_at shape l First) n is))
    first_not false is second =
        (Second, (rw (eq-eqb (node_at shape l Second) n second) refl, second))

    go : (side : Side) → node_at shape l side ≡ n
        → (at : Side) × ((side_on shape n l ≡ Some at) × (node_at shape l at ≡ n))
    go First is = (First, (rw (eq-eqb (node_at shape l First) n is) refl, is))
    go Second is = first_not (node_at shape l First == n) refl is

module _ (shape : Shape) (ts : List TrunkState) (count : AreTrunksOf shape ts) (n : ℕ) where
  -- one link's side on the node does something
  pub one-does : (l : LinkNo) → IsLinkOf shape l → (side : Side) → side_on shape n l ≡ Some side
      → (act : Side → TrunkState → TrunkState)
      → Become shape (trunks_of (at_link l (does (side_on shape n l) act) ts))
      (with_trunk (trunks_of ts) l.0 (act side (trunks_of ts l.0)))
  one-does l of_shape side is act =
      subst (λ (o : Option Side). Become shape (trunks_of (at_link l (does o act) ts))
      (with_trunk (trunks_of ts) l.0 (act side (trunks_of ts l.0)))) (sym is)
      (one-changes shape l (act side) ts count of_shape)

  -- a signal over a link
  pub sends-there : (P : List Step) (j : Inc) (l : LinkNo) (b : Inc) (note : SigNote)
      → HasSideOn shape n l → IsSignal note
      → SendsThere shape P (trunks_of ts) (trunks_of (at_link l (does (side_on shape n l)
      (λ side. sent_at side j (name_of P j) b note)) ts)) n j l b note
  sends-there P j l b note has signal =
      let side = side-there shape n l has in
      record {
        at = side.0;
        of_shape = has.of_shape;
        node = side.1.1;
        is_signal = signal;
        makes = one-does l has.of_shape side.0 side.1.0
            (λ at. sent_at at j (name_of P j) b note);
      }

  -- a hunt over a link
  pub asks-there : (l : LinkNo) (v : List ℕ) → HasSideOn shape n l
      → AsksThere shape (trunks_of ts) (trunks_of (at_link l (does (side_on shape n l)
      (λ side. asked_at side v)) ts)) n l v
  asks-there l v has =
      let side = side-there shape n l has in
      record {
        at = side.0;
        of_shape = has.of_shape;
        node = side.1.1;
        makes = one-does l has.of_shape side.0 side.1.0 (λ at. asked_at at v);
      }

-- the name of an open endpoint is the one that it was opened with
name-left : (P : List Step) (j : Inc) (incs : List Inc) → list_any (same_inc j) incs ≡ true
    → name_at (map (endpoint_left P) incs) j ≡ Some (name_of P j)
name-left P j [] is = absurd (true≢false (sym is))
name-left P j (i ∷ incs) is =
    go (same_inc j i) refl
    (λ other. name-left P j incs (ap (λ b. b || list_any (same_inc j) incs) (sym other) ∙ is))
  where
    go : (b : Bool) → same_inc j i ≡ b
        → (same_inc j i ≡ false → name_at (map (endpoint_left P) incs) j ≡ Some (name_of P j))
        → name_at (map (endpoint_left P) (i ∷ incs)) j ≡ Some (name_of P j)
    go true same rest =
        rw same (ap (λ (x : Inc). Some (name_of P x)) (sym (same_inc-true j i same)))
    go false other rest = rw other (rest other)

-- the name of an endpoint that is open at its kernel
pub named-is : (P : List Step) (node : NodeNo) (k : NodeState) → k ≡ node_left P node → (j : Inc)
    → is_open k.endpoints j ≡ true → name_or_none (name_at k.endpoints j) ≡ name_of P j
named-is P node k is j open_it =
    ap (λ (s : NodeState). name_or_none (name_at s.endpoints j)) is
    ∙ ap name_or_none (name-left P j (open_endpoints P node.0)
    (sym (open-left_of P j (open_endpoints P node.0))
    ∙ ap (λ (s : NodeState). is_open s.endpoints j) (sym is) ∙ open_it))

-- THE CALLS of an endpoint of a kernel that is what the history leaves of the node
module _ (shape : Shape) (ts : List TrunkState) (count : AreTrunksOf shape ts) (P : List Step)
    (node : NodeNo) (k : NodeState) (is : k ≡ node_left P node) (j : Inc)
    (open_it : is_open k.endpoints j ≡ true) where
  abbrev n : ℕ
  n = node.0

  named : name_or_none (name_at k.endpoints j) ≡ name_of P j
  named = named-is P node k is j open_it

  node-is : k.node.0 ≡ n
  node-is = ap (λ (s : NodeState). s.node.0) is

  -- of a close, and of an end
  pub told-closes : Become shape
      (trunks_of (each_does shape.links k.node.0 (λ side. closed_at side j) ts))
      (trunks_ending shape n (Some j) (trunks_of ts))
  told-closes = rw node-is (all-do shape n (λ side. closed_at side j) ts count)

  -- of a send
  pub told-sends : (q : Peer) (note : SigNote) (alive : Bool)
      → ((l : LinkNo) (x : Session) (b : Inc) → alive ≡ true → q ≡ There l x b
      → HasSideOn shape n l)
      → IsSignal note
      → SendMakes shape P (trunks_of ts) (trunks_of (sent_over shape.links k j alive q note ts)) n
      (Some j) q note (send_answer alive q)
  told-sends (Here i) note true has signal = λ l of_shape. refl
  told-sends (Here i) note false has signal = λ l of_shape. refl
  told-sends (There l x b) note false has signal = λ h of_shape. refl
  told-sends (There l x b) note true has signal =
      rw (side-over shape k.node.0 l, node-is, named)
      (sends-there shape ts count n P j l b note (has l x b refl refl) signal)

  -- of a hunt
  pub told-hunts : (path : Path) (found : Option Peer)
      → ((l : LinkNo) (v : List ℕ) → path ≡ Over l v → HasSideOn shape n l)
      → HuntMakes shape (trunks_of ts) (trunks_of (asked_over shape.links k found path ts)) n path found
  told-hunts (Local v) None has = λ l of_shape. refl
  told-hunts (Local v) (Some q) has = λ l of_shape. refl
  told-hunts (Over l v) (Some q) has = λ h of_shape. refl
  told-hunts (Over l v) None has =
      rw (side-over shape k.node.0 l, node-is)
      (asks-there shape ts count n l v (has l v refl))
