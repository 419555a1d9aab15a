-- THE COUNTS OF ARRIVALS are those of the history.
use Rattle.std.proofs.Common.{◌≡◌, ℕ, zero, suc, ◌+◌, Bool, true, false, ◌&&◌, ◌==◌, List, [], ◌∷◌}
use Rattle.std.proofs.Common.{◌++◌, length, Option, Some, None, refl, sym, ◌∙◌, ap, arith}
use Rattle.std.proofs.Common.{if◌then◌else◌, length-append}
use Rattle.std.specs.List.{filter_map}
use Rattle.std.proofs.lemmas.List.Elements.{filter_map-append}
use Rattle.keyed_list.proofs.Finding.{flipped}
use Rattle.linx_base.specs.Peers.{same_inc, same_peer}
use Rattle.linx_base.specs.SigNotes.{SigNote}
use Rattle.linx_base.specs.declared.identity.Inc.{Inc}
use Rattle.linx_base.specs.declared.identity.Peer.{Peer}
use Rattle.linx_base.specs.declared.identity.Peer.TheVariants.{Here, There}
use Rattle.journal.specs.History.{effects_of}
use Rattle.journal.specs.Traffic.{arrival_in, arrived_from}
use Rattle.journal.specs.declared.effect.Effect.{Effect}
use Rattle.journal.specs.declared.effect.Effect.TheVariants as effects
use Rattle.journal.specs.declared.effect.Step.{Step}
use Rattle.link_tables.specs.Arrivals.{arrived_in, counts_if, counts_left, counts_past}
use Rattle.link_tables.specs.Sent.{peer_of, same_flow}
use Rattle.link_tables.specs.declared.sent.Flow.{Flow}

never : (b : Bool) → (b && false) ≡ false
never true = refl
never false = refl

module _ (f : Flow) where
  abbrev came_in : List Effect → ℕ
  came_in es = length (filter_map (arrival_in f.at (peer_of f)) es)

  -- what one effect adds
  over-link : (at : Inc) (q : Peer) (note : SigNote) (es : List Effect) (n : ℕ) (b : Bool)
      → (same_inc at f.at && same_peer q (peer_of f)) ≡ b
      → (if b then suc n else n) + came_in es ≡ n + came_in (effects.Arrived at q note ∷ es)
  over-link at q note es n true is = rw is (omega arith)
  over-link at q note es n false is = rw is refl

  one-effect : (e : Effect) (es : List Effect) (counts : Flow → ℕ)
      → counts_if (arrived_in e) counts f + came_in es ≡ counts f + came_in (e ∷ es)
  one-effect (effects.Arrived at (Here i) note) es counts =
      over-link at (Here i) note es (counts f) false (never (same_inc at f.at))
  one-effect (effects.Arrived at (There l x i) note) es counts =
      ap (λ (b : Bool). (if b && same_peer (There l x i) (peer_of f) then suc (counts f)
      else counts f) + came_in es) (flipped f.at.0 at.0)
      ∙ over-link at (There l x i) note es (counts f)
      (same_inc at f.at && same_peer (There l x i) (peer_of f)) refl
  one-effect _ es counts = refl

  all-effects : (es : List Effect) (counts : Flow → ℕ)
      → counts_past es counts f ≡ counts f + came_in es
  all-effects [] counts = omega arith
  all-effects (e ∷ es) counts =
      all-effects es (counts_if (arrived_in e) counts) ∙ one-effect e es counts

  pub arrived-told : (P : List Step) → counts_left P f ≡ length (arrived_from P f.at (peer_of f))
  arrived-told [] = refl
  arrived-told (s ∷ P) =
      all-effects s.effects (counts_left P)
      ∙ ap (λ (n : ℕ). n + came_in s.effects) (arrived-told P)
      ∙ sym (ap (λ (ns : List SigNote). length ns)
      (filter_map-append (arrival_in f.at (peer_of f)) (effects_of P) s.effects)
      ∙ length-append (arrived_from P f.at (peer_of f))
      (filter_map (arrival_in f.at (peer_of f)) s.effects))
