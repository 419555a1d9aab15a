-- A MAKER THAT IS FINISHED stays so while others make steps: an actor that has ended makes none, and
-- where all actors have ended, the pumps of other links leave a link as it is.
use Rattle.std.proofs.Common.{◌≡◌, ℕ, zero, suc, ◌+◌, ◌-◌, ◌<◌, ◌≤◌, Bool, true, false, List, []}
use Rattle.std.proofs.Common.{◌∷◌, ◌++◌, length, Option, Some, None, refl, sym, ◌∙◌, ap, subst}
use Rattle.std.proofs.Common.{eq-eqb, arith, ◌==◌, ◌&&◌, ◌||◌, eqb-true, true≢false}
use Rattle.std.proofs.lemmas.Bool.{and_parts}
use Rattle.std.proofs.lemmas.List.{length-map}
use Rattle.std.proofs.lemmas.List.Elements.{All-head, All-tail}
use Rattle.linx_base.specs.declared.identity.LinkNo.{LinkNo}
use Rattle.journal.specs.declared.by.By.{By}
use Rattle.journal.specs.declared.by.By.TheVariants.{Actor, Pump}
use Rattle.journal.specs.declared.effect.Effect.{Effect}
use Rattle.journal.specs.declared.effect.Step.{Step}
use Rattle.journal.specs.declared.head.Head.{Head}
use Rattle.journal.specs.declared.head.Head.TheVariants as heads
use Rattle.journal.specs.History.{endpoint_by, has_ended, is_by, is_end}
use Rattle.journal.specs.Laws.{IsMaker, may_make}
use Rattle.journal.specs.Shapes.{Shape, node_by}
use Rattle.link_laws.specs.Sessions.{cut_after, is_cut}
use Rattle.script_lang.specs.declared.actor_script.ActorScript.{ActorScript}
use Rattle.script_lang.specs.Parts.{ScriptParts}
use Rattle.actor_run.proofs.Others.{has_ended_goes_on}
use Rattle.trunk.specs.Events.{TrunkState}
use Rattle.trunk_moves.specs.Steps.{IsTrunkStep, Makes}
use Rattle.trunk_moves.specs.Trunks.{Become, RunTrunks, with_trunk}
use Rattle.fabric.specs.Links.{stirs, stirs_if}
use Rattle.fabric.specs.Machine.{all_have_ended, have_ended}
use Rattle.fabric.proofs.Trunks.Resting.{ended-each}
use Rattle.linx_api.specs.Telling.{maker_number}
use Rattle.stage.specs.declared.player.Player.{Player}
use Rattle.stage.specs.Turns.{makers, shape_of}
use Rattle.workers.specs.Working.{IsFinished, IsPlayedBy, IsStillThen}
use Rattle.workers.proofs.Resting.{GoesOnFor, NoneOf, as-actor}

-- ---- the actors

or-right : (a b : Bool) → b ≡ true → (a || b) ≡ true
or-right true b is = refl
or-right false b is = is

-- after one step more they have ended
ended-more : (s : Step) (P : List Step) (n : ℕ) → have_ended P n ≡ true
    → have_ended (s ∷ P) n ≡ true
ended-more s P zero ended = refl
ended-more s P (suc n) ended =
    let parts = and_parts (have_ended P n) (has_ended P (suc n)) ended in
    rw (ended-more s P n parts.0)
    (or-right (is_by s.by (suc n) && is_end s.head) (has_ended P (suc n)) parts.1)

-- where each has ended, all have
pub ended-by_each : (P : List Step) (n : ℕ)
    → ((k : ℕ) → 0 < k → k ≤ n → has_ended P k ≡ true) → have_ended P n ≡ true
ended-by_each P zero each = refl
ended-by_each P (suc n) each =
    rw (
      ended-by_each P n (λ k above within. each k above (omega arith)),
      each (suc n) (omega arith) (omega arith),
    ) refl

-- ---- the links

-- links of other numbers have other numbers as makers
other-link : (script : ScriptParts) (l k : ℕ)
    → (length (shape_of script).actors + k == length script.actors + l) ≡ false
    → (l == k) ≡ false
other-link script l k other = go (l == k) refl
  where
    go : (b : Bool) → (l == k) ≡ b → (l == k) ≡ false
    go false is = is
    go true is =
        let same : l ≡ k = eqb-true l k is in
        let count : length (shape_of script).actors ≡ length script.actors =
        length-map script.actors (λ (a : ActorScript). a.node) in
        let both : length (shape_of script).actors + k ≡ length script.actors + l = omega arith in
        absurd (true≢false (sym (eq-eqb (length (shape_of script).actors + k)
        (length script.actors + l) both) ∙ other))

-- A STEP OF ANOTHER MAKER, once all actors have ended, leaves a link still
module _ (script : ScriptParts) (l : ℕ) (above : 0 < l) (within : l ≤ length script.links)
    (P : List Step) (before after : RunTrunks) (ended : all_have_ended (shape_of script) P ≡ true)
    (still : stirs P before l ≡ false) where
  abbrev shape : Shape
  shape = shape_of script

  -- it is the pump's of another link
  moved : (k link : LinkNo) → (link.0 == k.0) ≡ true
      → (maker_number shape (Pump k) == length script.actors + l) ≡ false → (t : TrunkState)
      → Become shape after (with_trunk before link.0 t)
      → stirs_if (is_cut P l) (after l) ≡ false
  moved k link its other t made =
      let same : k.0 ≡ link.0 = sym (eqb-true link.0 k.0 its) in
      let apart : (l == link.0) ≡ false =
      subst (λ (x : ℕ). (l == x) ≡ false) same (other-link script l k.0 other) in
      let kept : with_trunk before link.0 t l ≡ before l = rw apart refl in
      ap (stirs_if (is_cut P l)) (made (record { 0 = l }) (above, within) ∙ kept) ∙ still

  by-another : (by : By) (head : Head) (es : List Effect) → IsMaker shape P by
      → may_make by head ≡ true
      → Makes shape P before after (node_by shape by) (endpoint_by P by) head es
      → (maker_number shape by == length script.actors + l) ≡ false
      → stirs_if (cut_after l (is_cut P l) head) (after l) ≡ false
  by-another (Actor k) head es maker may makes other =
      absurd (true≢false (sym (ended-each P (length shape.actors) k ended maker.0 maker.1)
      ∙ maker.2))
  by-another (Pump k) (heads.Wire link from verdict) es maker may makes other =
      moved k link may other makes.trunk makes.makes
  by-another (Pump k) (heads.Tick link side) es maker may makes other =
      moved k link may other makes.trunk makes.makes
  by-another (Pump k) _ es maker may makes other = cc

  pub still-step : (s : Step) → IsTrunkStep shape P before s after
      → (maker_number shape s.by == length script.actors + l) ≡ false
      → stirs (s ∷ P) after l ≡ false
  still-step s step other =
      by-another s.by s.head s.effects step.laws.makers.maker step.laws.makers.may step.makes other

-- and so do all steps of others
module _ (script : ScriptParts) (l : ℕ) (above : 0 < l) (within : l ≤ length script.links)
    (P : List Step) where
  still-since : (all_have_ended (shape_of script) P ≡ true) × IsStillThen script P l
      → (since : List Step) → NoneOf (shape_of script) (length script.actors + l) since
      → (all_have_ended (shape_of script) (since ++ P) ≡ true)
      × IsStillThen script (since ++ P) l
  still-since first [] none = first
  still-since first (s ∷ since) none =
      let Other : Step → Type 0 = λ (x : Step).
      (maker_number (shape_of script) x.by == length script.actors + l) ≡ false in
      let so_far = still-since first since (All-tail Other s since none) in (
        ended-more s (since ++ P) (length (shape_of script).actors) so_far.0,
        λ after reached. still-step script l above within (since ++ P) reached.0 after so_far.0
            (so_far.1 reached.0 reached.1.0) s reached.1.1.0 (All-head Other s since none),
      )

-- ---- either

-- A FINISHED MAKER STAYS SO
pub finished-goes_on : (script : ScriptParts) (n : ℕ) → n ≤ makers script
    → (now before : List Step) → GoesOnFor (shape_of script) n now before
    → (player : Option Player) → IsPlayedBy script before n player
    → IsFinished script before n player → IsFinished script now n player
finished-goes_on script n most now before on (Some player) played ended =
    has_ended_goes_on n now before (as-actor (shape_of script) n now before on) ∙ ended
finished-goes_on script n most now before on None behind finished =
    let l : ℕ = n - length script.actors in
    let number : n ≡ length script.actors + l = omega arith in
    let low : 0 < l = omega arith in
    let high : l ≤ length script.links = omega arith in
    subst (λ (Q : List Step). IsFinished script Q n None) (sym on.1)
    (still-since script l low high before finished on.0
    (subst (λ (k : ℕ). NoneOf (shape_of script) k on.0) number on.2))
