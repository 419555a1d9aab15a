-- What the sides of two links ask for at a restart.
use Rattle.std.proofs.Common.{ℕ, ◌≡◌, ◌<◌, length, inl, inr, sym, subst, arith}
use Rattle.std.proofs.lemmas.Bool.{cases_eq}
use Rattle.linx_base.specs.Numbers.{boot_of}
use Rattle.linx_base.specs.declared.identity.Side.{Side}
use Rattle.linx_base.specs.declared.identity.Side.TheVariants.{First, Second}
use Rattle.carrier.specs.Events.{half_of}
use Rattle.trunk.specs.Events.{TrunkState}
use Rattle.run_trunks.specs.Changes.{AllGrant}
use Rattle.run_trunks.specs.States.{TrunksState, trunks_of}

-- the boot of a side is earlier
abbrev pub IsEarlier : ℕ → Side → TrunkState → Type 0
IsEarlier boot side t = boot_of (half_of side t.link).end.talk.mine < boot

-- of either side of a link
each_side : (boot : ℕ) (t : TrunkState) → IsEarlier boot First t → IsEarlier boot Second t
    → (side : Side) → IsEarlier boot side t
each_side boot t first second First = first
each_side boot t first second Second = second

-- where those of both sides of both links are, those of any node are
pub earlier_both : (s : TrunksState) (n boot : ℕ) → 2 ≡ length s.links
    → IsEarlier boot First (trunks_of s.is 1) → IsEarlier boot Second (trunks_of s.is 1)
    → IsEarlier boot First (trunks_of s.is 2) → IsEarlier boot Second (trunks_of s.is 2)
    → AllGrant s.links n s.is (λ side t. boot_of (half_of side t.link).end.talk.mine < boot)
earlier_both s n boot two near near_too far far_too l of side on =
    let high = of.1 in
    let low = of.0 in
    elim (cases_eq l.0 1) [
      | inl first ↦ subst (λ (k : ℕ). IsEarlier boot side (trunks_of s.is k)) (sym first)
          (each_side boot (trunks_of s.is 1) near near_too side)
      | inr other ↦
          let second : 2 ≡ l.0 = omega (arith, two, high, low, other) in
          subst (λ (k : ℕ). IsEarlier boot side (trunks_of s.is k)) second
          (each_side boot (trunks_of s.is 2) far far_too side)
    ]
