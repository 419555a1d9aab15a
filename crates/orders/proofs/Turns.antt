-- What the loop keeps, turn by turn.
use Rattle.std.proofs.Common.{◌≡◌, ℕ, suc, false, List, Result, Ok, Err, refl, sym, ◌∙◌, ap, subst}
use Rattle.std.proofs.Common.{inl, inr, OnErr, OnOk}
use Rattle.script_lang.specs.Parts.{ScriptParts}
use Rattle.fabric.specs.Run.{Layout}
use Rattle.stage.specs.Ready.{IsSomeReady}
use Rattle.stage.specs.Turns.{IsStoppedOf, IsTurnOf, is_over}
use Rattle.order_rules.specs.Orders.{Named, Order, named}
use Rattle.orders.specs.Makers.{IsReadyMaker, ready}
use Rattle.orders.specs.Runs.{AreNextTurns, IsNextTurn, IsStoppedAt, Standing, next_in}
use Rattle.orders.proofs.Ready.{named-ready}

-- the turn of the maker that an order names is the next one
pub turn-next : (script : ScriptParts) (old : Standing) (order : Order) (maker : ℕ) (new : Layout)
    → record { maker = maker; order = order } ≡ next_in script old
    → is_over old.run ≡ false → IsReadyMaker script old.run maker → IsTurnOf script maker old.run new
    → IsNextTurn script old (record { order = order; run = new })
turn-next script old order maker new is running it turn = record {
  running = running;
  ready = subst (λ (n : Named). IsReadyMaker script old.run n.maker) is it;
  turn = subst (λ (n : Named). IsTurnOf script n.maker old.run new) is turn;
  order = ap (λ (n : Named). n.order) is;
}

pub ok-next : {E T : Type 0} (r : Result T E) (script : ScriptParts) (old : Standing)
    (order : Order) (maker : ℕ) (new : Layout)
    → record { maker = maker; order = order } ≡ next_in script old
    → is_over old.run ≡ false → IsReadyMaker script old.run maker
    → OnOk r (IsTurnOf script maker old.run new)
    → OnOk r (IsNextTurn script old (record { order = order; run = new }))
ok-next (Ok x) script old order maker new is running it turn =
    turn-next script old order maker new is running it turn
ok-next (Err x) script old order maker new is running it turn = tt

-- ---- the maker that an order names

module _ (script : ScriptParts) (old : Standing) (one : IsSomeReady script old.run) where
  -- it is ready
  pub next-ready : IsReadyMaker script old.run (next_in script old).maker
  next-ready = named-ready script old.run one old.order.left old.order.rule

  module _ (some : List ℕ) (all : some ≡ ready script old.run) (maker : ℕ) (order : Order)
      (is : record { maker = maker; order = order } ≡ named old.order.left old.order.rule some) where
    pub named-next : record { maker = maker; order = order } ≡ next_in script old
    named-next = is ∙ ap (named old.order.left old.order.rule) all

    pub maker-ready : IsReadyMaker script old.run maker
    maker-ready =
        subst (λ (n : Named). IsReadyMaker script old.run n.maker) (sym named-next) next-ready

-- where it took no turn
pub stopped-none : (script : ScriptParts) (old : Standing) → is_over old.run ≡ false
    → IsReadyMaker script old.run (next_in script old).maker → IsStoppedAt script old old.run
stopped-none script old running it = record { running = running; ready = it; stopped = inl refl }

pub err-next : {E T : Type 0} (r : Result T E) (script : ScriptParts) (old : Standing)
    (order : Order) (maker : ℕ) (new : Layout)
    → record { maker = maker; order = order } ≡ next_in script old
    → is_over old.run ≡ false → IsReadyMaker script old.run maker
    → OnErr r (IsStoppedOf script maker old.run new)
    → OnErr r (IsStoppedAt script old new)
err-next (Ok x) script old order maker new is running it stopped = tt
err-next (Err x) script old order maker new is running it stopped = record {
  running = running;
  ready = subst (λ (n : Named). IsReadyMaker script old.run n.maker) is it;
  stopped = inr (subst (λ (n : Named). IsStoppedOf script n.maker old.run new) is stopped);
}

-- so many turns
abbrev pub HaveNext : ScriptParts → Standing → Standing → Type 0
HaveNext script start now = (n : ℕ) × AreNextTurns script n start now

pub next-more : (script : ScriptParts) (start before now : Standing)
    → HaveNext script start before → IsNextTurn script before now → HaveNext script start now
next-more script start before now turns turn = (suc turns.0, (before, (turns.1, turn)))
