-- How the maker of a step stands past it, by its head.
use Rattle.std.proofs.Common.{◌≡◌, ℕ, Bool, true, false, cond, ◌||◌, List, [], ◌∷◌, Option, Some}
use Rattle.std.proofs.Common.{None, refl, ◌∙◌, ap}
use Rattle.std.specs.List.{list_any}
use Rattle.linx_base.specs.declared.identity.Inc.{Inc}
use Rattle.sigsel.specs.declared.sigsel.Sigsel.{Sigsel}
use Rattle.journal.specs.declared.effect.Effect.{Effect}
use Rattle.journal.specs.declared.effect.Effect.TheVariants.{Opened, Closed}
use Rattle.journal.specs.declared.head.Head.{Head}
use Rattle.journal.specs.declared.head.Head.TheVariants.{Open}
use Rattle.journal.specs.History.{closes, is_end, is_lost, last_opened, unless_closed}
use Rattle.journal.specs.Rest.{waits_in}
use Rattle.journal.proofs.Openings.{last_in, last_opened-opens, same_inc-refl}
use Rattle.fabric.specs.declared.standing.Standing.{Standing}
use Rattle.fabric.proofs.AfterStep.Effects.{LeavesOpen}
use Rattle.fabric.proofs.Standings.AfterStep.{standing_past}

-- a standing by its parts
standing_by_parts : (a b : Option Inc) (c d : ℕ) (v w : Option Sigsel) (x y : Bool) → a ≡ b → c ≡ d
    → v ≡ w → x ≡ y
    → (let s : Standing = record { endpoint = a; closed = c; waits = v; ended = x } in s)
    ≡ record { endpoint = b; closed = d; waits = w; ended = y }
standing_by_parts a b c d v w x y e f g h = rw (e, f, g, h) refl

module _ (es : List Effect) (only : LeavesOpen es) where
  -- effects that open and close none leave an endpoint
  pub opens-same : (e : Option Inc) → last_opened e es ≡ e
  opens-same e = last_opened-opens e es ∙ ap (last_in e) only.opened

  pub closes-same : (e : Option Inc) → unless_closed es e ≡ e
  closes-same None = refl
  closes-same (Some i) = rw (only.closes_none i) refl

  pub loses-none : (e : Option Inc) → is_lost es e ≡ false
  loses-none None = refl
  loses-none (Some i) = only.closes_none i

  -- the maker of such a step
  pub own-quiet : (k : ℕ) (head : Head) (old : Standing) → is_end head ≡ false
      → standing_past true k head es old ≡ record old { waits = waits_in head }
  own-quiet k head old goes_on =
      standing_by_parts _ _ _ _ _ _ _ _
      (ap (unless_closed es) (opens-same old.endpoint) ∙ closes-same old.endpoint)
      (ap (λ b. cond b k old.closed) (loses-none old.endpoint))
      refl
      (ap (λ b. b || old.ended) goes_on)

  -- of one that opens
  pub own-open : (k : ℕ) (i : Inc) (name : List ℕ) (old : Standing) → old.endpoint ≡ None
      → standing_past true k (Open name)
      (Opened i ∷ es) old ≡ record old { endpoint = Some i; waits = None }
  own-open k i name old none =
      standing_by_parts _ _ _ _ _ _ _ _
      (ap (unless_closed (Opened i ∷ es)) (opens-same (Some i))
      ∙ ap (λ b. cond b None (Some i)) (only.closes_none i))
      (ap (λ e. cond (is_lost (Opened i ∷ es) e) k old.closed) none)
      refl refl

  -- of one that closes
  pub own-close : (k : ℕ) (j : Inc) (head : Head) (old : Standing) → old.endpoint ≡ Some j
      → standing_past true k head (Closed j ∷ es) old
      ≡ record old {
        endpoint = None;
        closed = k;
        waits = waits_in head;
        ended = is_end head ||
            old.ended;
      }
  own-close k j head old mine =
      standing_by_parts _ _ _ _ _ _ _ _
      (ap (λ e. unless_closed (Closed j ∷ es) (last_opened e es)) mine
      ∙ ap (unless_closed (Closed j ∷ es)) (opens-same (Some j))
      ∙ ap (λ b. cond (b || list_any (closes j) es) None (Some j)) (same_inc-refl j))
      (ap (λ e. cond (is_lost (Closed j ∷ es) e) k old.closed) mine
      ∙ ap (λ b. cond (b || list_any (closes j) es) k old.closed) (same_inc-refl j))
      refl refl

-- of one without effects
pub own-none : (k : ℕ) (head : Head) (old : Standing)
    → standing_past true k head [] old
    ≡ record old { waits = waits_in head; ended = is_end head || old.ended }
own-none k head old = go old.endpoint refl
  where
    go : (e : Option Inc) → old.endpoint ≡ e
        → standing_past true k head [] old
        ≡ record old { waits = waits_in head; ended = is_end head || old.ended }
    go None is = rw is refl
    go (Some i) is = rw is refl

-- a standing that has an endpoint, and one that waits
abbrev pub as_opened : Standing → Inc → Standing
as_opened s i = record s { endpoint = Some i; waits = None }

abbrev pub as_waiting : Standing → Sigsel → Standing
as_waiting s f = record s { waits = Some f }
