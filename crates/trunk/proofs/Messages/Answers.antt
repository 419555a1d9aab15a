-- A packet came to a side of a trunk: what the side says to it may go over the link.
use Rattle.std.proofs.Common.{◌≡◌, ℕ, Bool, [], Option, Some, arith, refl, sym, ◌∙◌, ap, subst}
use Rattle.std.proofs.Common.{IsSome}
use Rattle.linx_base.specs.Sides.{other_of}
use Rattle.linx_base.specs.declared.frame.Message.{Message}
use Rattle.linx_base.specs.declared.identity.Session.{Session}
use Rattle.linx_base.specs.declared.identity.Side.{Side}
use Rattle.linx_base.specs.declared.identity.Side.TheVariants.{First, Second}
use Rattle.ethcm_end.specs.States.{peer_of}
use Rattle.carrier.specs.Events.{LinkState, half_of, handed_by}
use Rattle.carrier.specs.Events as links
use Rattle.carrier.specs.Laws.{TellsRightly}
use Rattle.carrier.specs.declared.handed.Handed.TheVariants.{Got, WentUp}
use Rattle.rlnh_end.specs.declared.heard.Heard.{Heard}
use Rattle.rlnh_end.specs.Calls.{begin_of}
use Rattle.rlnh_end.specs.Hearing.{IsRead, hears}
use Rattle.trunk.specs.Events.{TrunkSide, TrunkState, side_of, with_link, HasNumbersLeft}
use Rattle.trunk.specs.Keeping.{KeepsTrunk}
use Rattle.trunk.specs.Laws.{IsOffered, IsUnderstood}
use Rattle.trunk.specs.Parts.{side_begins, side_hears, with_side}
use Rattle.trunk.proofs.Messages.Numbers.{delivered_left}
use Rattle.trunk.proofs.Messages.MaySend.{IsReady, ready}
use Rattle.trunk.proofs.EachEvent.Trunks.{agree, offers, understood}

some_is : (o : Option Session) (y : Session) → o ≡ Some y → IsSome o
some_is o y e = subst (λ p. IsSome p) (sym e) refl

side_with : (side : Side) (t : TrunkState) (v : LinkState)
    → side_of side (with_link t v) ≡ side_of side t
side_with First t v = refl
side_with Second t v = refl

module _ (from : Side) (k : ℕ) (keep : Bool) (t : TrunkState) (kt : KeepsTrunk t)
    (u : TrunkState) (came : u ≡ with_link t (links.delivered from k keep t.link)) where
  abbrev at : Side
  at = other_of from

  -- its RLNH end is as it was
  pub same_side : side_of at u ≡ side_of at t
  same_side =
      ap (λ (x : TrunkState). side_of at x) came
      ∙ side_with at t (links.delivered from k keep t.link)

  none_out : (side_of at u).end.out ≡ []
  none_out = ap (λ (s : TrunkSide). s.end.out) same_side ∙ (agree at t kt).out

  module _ (left : HasNumbersLeft at t) where
    left_now : HasNumbersLeft at u
    left_now =
        subst (λ (x : TrunkState). HasNumbersLeft at x) (sym came)
        (omega (arith, left, delivered_left from k keep t.link))

    -- it went up
    pub began_ready : (session y : Session)
        → TellsRightly (half_of at t.link) (half_of at u.link) (half_of from t.link)
        (WentUp session y)
        → (w : TrunkState) → w ≡ with_side at u (side_begins (side_of at u) y) → IsReady at w
    began_ready session y tells w e =
        let offered = (offers at t kt).begun in
        subst (λ (x : TrunkState). IsReady at x) (sym e)
        (ready at u (side_begins (side_of at u) y) begin_of.says none_out refl
        (some_is (peer_of (half_of at u.link).end) y tells.0.up) offered.messages
        (omega (arith, offered.few)) left_now)

    -- a message came
    module _ (m : Message) (is : handed_by from k t.link ≡ Got m)
        (tells : TellsRightly (half_of at t.link) (half_of at u.link) (half_of from t.link)
        (Got m)) where
      abbrev known : IsUnderstood (side_of at t) m
      known = understood from k m t kt is

      offered_now : IsOffered (hears (side_of at u).end.tables known.heard).made 1
      offered_now =
          subst (λ (s : TrunkSide). IsOffered (hears s.end.tables known.heard).made 1)
          (sym same_side) known.reply

      pub heard_ready : (w : TrunkState)
          → ((heard : Heard) → IsRead m heard
          → w ≡ with_side at u (side_hears (side_of at u) heard)) → IsReady at w
      heard_ready w e =
          let made = (hears (side_of at u).end.tables known.heard).made in
          subst (λ (x : TrunkState). IsReady at x) (sym (e known.heard known.read))
          (ready at u (side_hears (side_of at u) known.heard) made.says none_out refl
          (some_is (peer_of (half_of at u.link).end) tells.paired.0
          (tells.stays.peer ∙ tells.paired.1)) offered_now.messages
          (omega (arith, offered_now.few)) left_now)
