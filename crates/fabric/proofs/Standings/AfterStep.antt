-- What one more step leaves of an actor.
use Rattle.std.proofs.Common.{◌≡◌, ℕ, suc, Bool, false, if◌then◌else◌, ◌||◌, ◌&&◌, List, ◌∷◌}
use Rattle.std.proofs.Common.{length, Option, Some, None, refl, sym, ◌∙◌, ap}
use Rattle.std.specs.List.{list_any}
use Rattle.linx_base.specs.declared.identity.Inc.{Inc}
use Rattle.journal.specs.declared.effect.Effect.{Effect}
use Rattle.journal.specs.declared.effect.Step.{Step}
use Rattle.journal.specs.declared.head.Head.{Head}
use Rattle.journal.specs.History.{closes, is_by, is_end, is_lost, last_opened, unless_closed}
use Rattle.journal.specs.Rest.{waits_in}
use Rattle.fabric.specs.declared.standing.Standing.{Standing}
use Rattle.fabric.specs.Remains.{standing_left}

-- an actor after step k, which it made or another one did
abbrev pub standing_past : Bool → ℕ → Head → List Effect → Standing → Standing
standing_past mine k head es old = record {
  endpoint = unless_closed es (if mine then last_opened old.endpoint es else old.endpoint);
  closed = if is_lost es old.endpoint then k else old.closed;
  waits = if mine then waits_in head else old.waits;
  ended = (mine && is_end head) || old.ended;
}

pub standing_left-step : (P : List Step) (s : Step) (k : ℕ)
    → standing_left (s ∷ P) k
    ≡ standing_past (is_by s.by k) (suc (length P)) s.head s.effects (standing_left P k)
standing_left-step P s k = refl

-- effects that close none leave another actor as it was
pub standing-other : (k : ℕ) (head : Head) (es : List Effect) (old : Standing)
    → is_lost es old.endpoint ≡ false → standing_past false k head es old ≡ old
standing-other k head es old kept = go old.endpoint refl
  where
    go : (e : Option Inc) → old.endpoint ≡ e → standing_past false k head es old ≡ old
    go None is = rw is refl
    go (Some i) is =
        let none : list_any (closes i) es ≡ false = ap (is_lost es) (sym is) ∙ kept in
        rw (is, none) refl
