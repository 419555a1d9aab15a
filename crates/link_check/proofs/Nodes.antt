-- WHAT A KERNEL TELLS of its node: who is alive there, and which names are open.
use Rattle.std.proofs.Common.{◌≡◌, ℕ, Bool, true, false, ◌||◌, List, [], ◌∷◌, map, is_some, Some}
use Rattle.std.proofs.Common.{refl, ◌∙◌, ap, bytes_eq, if◌then◌else◌}
use Rattle.std.specs.List.{list_any, AllByRecursion}
use Rattle.linx_base.specs.Peers.{same_inc}
use Rattle.linx_base.specs.declared.identity.Inc.{Inc}
use Rattle.linx_base.specs.declared.identity.LinkNo.{LinkNo}
use Rattle.linx_base.specs.declared.identity.Peer.TheVariants.{There}
use Rattle.linx_base.specs.declared.pending.MetPeer.{MetPeer}
use Rattle.linx_base.specs.FirstMatch.{first_match}
use Rattle.journal.specs.History.{name_of}
use Rattle.journal.specs.Living.{is_met}
use Rattle.journal.specs.declared.effect.Step.{Step}
use Rattle.node_kernel.specs.Nodes.{NodeState, OpenEndpoint, inc_if, is_at, is_named}
use Rattle.link_check.specs.Orderly.{IsNodeTold, TellsAlive, TellsNames}

any-inc : (i : Inc) (es : List OpenEndpoint)
    → list_any (is_at i) es ≡ list_any (same_inc i) (map (λ (e : OpenEndpoint). e.inc) es)
any-inc i [] = refl
any-inc i (e ∷ es) = ap (λ (b : Bool). same_inc i e.inc || b) (any-inc i es)

any-first : (name : List ℕ) (es : List OpenEndpoint)
    → is_some (inc_if (first_match (is_named name) es)) ≡ list_any (is_named name) es
any-first name [] = refl
any-first name (e ∷ es) = go (is_named name e) (any-first name es)
  where
    go : (b : Bool)
        → is_some (inc_if (first_match (is_named name) es)) ≡ list_any (is_named name) es
        → is_some (inc_if (if b then Some e else first_match (is_named name) es))
        ≡ (b || list_any (is_named name) es)
    go true rest = refl
    go false rest = rest

any-name : (P : List Step) (name : List ℕ) (es : List OpenEndpoint)
    → AllByRecursion (λ (e : OpenEndpoint). e.name ≡ name_of P e.inc) es
    → list_any (is_named name) es
    ≡ list_any (λ i. bytes_eq name (name_of P i)) (map (λ (e : OpenEndpoint). e.inc) es)
any-name P name [] names = refl
any-name P name (e ∷ es) names =
    λ i. bytes_eq name (names.0 i) || any-name P name es names.1 i

module _ (P : List Step) (n : ℕ) (node : NodeState) (told : IsNodeTold P n node) where
  pub tells-alive : (l : LinkNo) → TellsAlive P n l node
  tells-alive l = record {
    here = λ i. any-inc i node.endpoints
        ∙ ap (λ (incs : List Inc). list_any (same_inc i) incs) told.open_there;
    there = λ x i. ap (λ (met : List MetPeer). is_met met (There l x i)) told.met;
  }

  pub tells-names : TellsNames P n node
  tells-names name =
      any-first name node.endpoints ∙ any-name P name node.endpoints told.names
      ∙ ap (λ (incs : List Inc). list_any (λ i. bytes_eq name (name_of P i)) incs) told.open_there
