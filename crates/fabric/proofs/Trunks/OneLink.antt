-- What an event over one link makes of the trunks of a run, once it is kept or undone.
use Rattle.std.proofs.Common.{◌≡◌, ℕ, List, Option, Some, None, ◌∙◌, ap}
use Rattle.linx_base.specs.declared.frame.LinkDecl.{LinkDecl}
use Rattle.linx_base.specs.declared.identity.Inc.{Inc}
use Rattle.linx_base.specs.Pending.{names_over}
use Rattle.node_kernel.specs.Nodes.{NodeState, first_named}
use Rattle.run_trunks.specs.States.{OnlyChangedAt, TrunksState, kept_at, resting}
use Rattle.run_trunks.proofs.Rested.{changes-there, keeps-all}
use Rattle.trunk.specs.Events.{TrunkState, published_at}
use Rattle.trunk.specs.declared.up.TrunkUp.{TrunkUp}
use Rattle.trunk.specs.declared.up.TrunkUp.TheVariants.{Asked}
use Rattle.trunk.specs.declared.up.TrunkUp.TheVariants.{WentUp}
use Rattle.trunk_moves.specs.Packets.{asks_for}
use Rattle.fabric.specs.Bringings.{answers_told, publishes_over}
use Rattle.fabric.specs.declared.bringing.At.{At}

-- the trunks are these, by their parts
same-trunks : (s now : TrunksState) (is : List TrunkState) → now.links ≡ s.links → now.was ≡ s.was
    → now.is ≡ is → now ≡ record s { is = is }
same-trunks s now is links_are was_are is_are =
    let made : List LinkDecl → List TrunkState → List TrunkState → TrunksState = λ l w i.
    record { links = l; was = w; is = i } in
    ap (λ (l : List LinkDecl). made l now.was now.is) links_are
    ∙ ap (λ (w : List TrunkState). made s.links w now.is) was_are
    ∙ ap (λ (i : List TrunkState). made s.links s.was i) is_are

-- WHAT A NODE IS TOLD is answered over its link alone
module _ (k : NodeState) (at : At) where
  publishes-there : (name : List ℕ) (first : Option Inc) (s : TrunksState)
      → OnlyChangedAt at.link s
      → OnlyChangedAt at.link
      (record s { is = publishes_over at.link at.side name first s.is })
  publishes-there name None s only = only
  publishes-there name (Some i) s only =
      changes-there s at.link (published_at at.side i name) only

  answers-there : (up : TrunkUp) (s : TrunksState) → OnlyChangedAt at.link s
      → OnlyChangedAt at.link (record s { is = answers_told k at up s.is })
  answers-there (WentUp x y) s only =
      changes-there s at.link (asks_for at.side (names_over at.link k.hunts)) only
  answers-there (Asked name) s only =
      publishes-there name (first_named k.endpoints name) s only
  answers-there _ s only = only

  -- and then to keep that one is to keep all
  pub told-kept : (up : TrunkUp) (s now new : TrunksState) → OnlyChangedAt at.link s
      → now.links ≡ s.links → now.was ≡ s.was → now.is ≡ answers_told k at up s.is
      → new ≡ kept_at at.link now → new ≡ resting s.links (answers_told k at up s.is)
  told-kept up s now new only links_are was_are is_are kept =
      let is : List TrunkState = answers_told k at up s.is in
      kept ∙ ap (kept_at at.link) (same-trunks s now is links_are was_are is_are)
      ∙ keeps-all (record s { is = is }) at.link (answers-there up s only)
