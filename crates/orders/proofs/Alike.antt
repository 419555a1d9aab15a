-- Who is ready is the same in states that are alike.
use Rattle.std.proofs.Common.{◌≡◌, ℕ, zero, suc, ◌-◌, ◌<◌, ◌≤◌, ◌++◌, ◌∷◌, [], Bool, true, false}
use Rattle.std.proofs.Common.{List, length, refl, ◌∙◌, ap, arith, nat_le, not, ◌&&◌, if◌then◌else◌}
use Rattle.std.proofs.Common.{leb-false}
use Rattle.linx_base.specs.declared.identity.LinkNo.{LinkNo}
use Rattle.journal.specs.History.{has_ended}
use Rattle.journal.specs.Rest.{is_idle}
use Rattle.journal.specs.Shapes.{Shape}
use Rattle.link_laws.specs.Ends.{IsLinkOf}
use Rattle.run_trunks.specs.States.{trunks_of}
use Rattle.script_lang.specs.Parts.{ScriptParts}
use Rattle.fabric.specs.Machine.{is_at_rest}
use Rattle.fabric.specs.Run.{Layout}
use Rattle.stage.specs.Ready.{is_actor_ready, is_ready, is_ready_by}
use Rattle.stage.specs.Settlings.{stirs_in}
use Rattle.stage.specs.Turns.{makers, shape_of}
use Rattle.stage.proofs.Plans.SameTrunks.{still_alike, stirs_alike}
use Rattle.run_orders.proofs.States.{AreAlike, by-alike}
use Rattle.orders.specs.Makers.{ready, ready_among}

module _ (script : ScriptParts) where
  abbrev shape : Shape
  shape = shape_of script

  actor-alike : (k : ℕ) (one two : Layout) → AreAlike shape one two
      → is_actor_ready one k ≡ is_actor_ready two k
  actor-alike k =
      by-alike shape (λ (f g : Layout). is_actor_ready f k ≡ is_actor_ready g k)
      (λ log first second same.
      ap (λ (still : Bool). not (has_ended log.steps k)
      && not (is_idle log.steps k && not (is_at_rest shape log.steps k && still)))
      (still_alike shape log.steps (trunks_of first) (trunks_of second) same))

  link-alike : (l : LinkNo) → IsLinkOf shape l → (one two : Layout) → AreAlike shape one two
      → stirs_in one l ≡ stirs_in two l
  link-alike l of_shape =
      by-alike shape (λ (f g : Layout). stirs_in f l ≡ stirs_in g l)
      (λ log first second same.
      stirs_alike shape log.steps (trunks_of first) (trunks_of second) same l of_shape)

  module _ (one two : Layout) (alike : AreAlike shape one two) where
    by-alike_ready : (n : ℕ) → n ≤ makers script → (actor : Bool)
        → nat_le n (length script.actors) ≡ actor
        → is_ready_by actor script one n ≡ is_ready_by actor script two n
    by-alike_ready n within true is = actor-alike n one two alike
    by-alike_ready n within false is =
        let above : length script.actors < n = leb-false n (length script.actors) is in
        link-alike (record { 0 = n - length script.actors })
        (omega (arith, above), omega (arith, above, within)) one two alike

    ready-alike : (n : ℕ) → n ≤ makers script → is_ready script one n ≡ is_ready script two n
    ready-alike n within = by-alike_ready n within (nat_le n (length script.actors)) refl

    among-alike : (n : ℕ) → n ≤ makers script
        → ready_among script one n ≡ ready_among script two n
    among-alike zero within = refl
    among-alike (suc n) within =
        ap (λ (b : Bool). if b
        then ready_among script one n ++ suc n ∷ []
        else ready_among script one n) (ready-alike (suc n) within)
        ∙ ap (λ (before : List ℕ). if is_ready script two (suc n)
        then before ++ suc n ∷ []
        else before) (among-alike n (omega (arith, within)))

    -- THE SAME ARE READY
    pub all-alike : ready script one ≡ ready script two
    all-alike = among-alike (makers script) (omega arith)
