-- What one more step leaves of what is noted of a link.
use Rattle.std.proofs.Common.{◌≡◌, ◌≢◌, ℕ, suc, ◌≤◌, Bool, true, false, not, ◌&&◌, cond, List, []}
use Rattle.std.proofs.Common.{◌∷◌, length, refl, arith, ◌==◌, eq-eqb, ne_eqb}
use Rattle.linx_base.specs.declared.identity.LinkNo.{LinkNo}
use Rattle.linx_base.specs.declared.frame.Verdict.{Verdict}
use Rattle.linx_base.specs.declared.identity.Side.{Side}
use Rattle.linx_base.specs.declared.identity.Side.TheVariants.{First, Second}
use Rattle.journal.specs.declared.effect.Effect.{Effect}
use Rattle.journal.specs.declared.effect.Step.{Step}
use Rattle.journal.specs.declared.by.By.{By}
use Rattle.journal.specs.declared.head.Head.{Head}
use Rattle.journal.specs.declared.head.Head.TheVariants as heads
use Rattle.link_laws.specs.Sessions.{is_cut}
use Rattle.fabric.specs.Lines.{counted, head_of_mark, marked}
use Rattle.fabric.specs.Links.{is_tick, is_wire, line_left, tick_steps, wire_steps}
use Rattle.fabric.specs.declared.line.Line.{Line}
use Rattle.fabric.specs.declared.line.Mark.{Mark}
use Rattle.fabric.specs.declared.line.Mark.TheVariants.{Cut, Mend, Settle}

-- a head that is on no link, or on another one
abbrev pub IsApart : ℕ → Head → Type 0
IsApart l (heads.Cut k) = k.0 ≢ l
IsApart l (heads.Mend k) = k.0 ≢ l
IsApart l (heads.Settle k) = k.0 ≢ l
IsApart l (heads.Wire k from verdict) = k.0 ≢ l
IsApart l (heads.Tick k side) = k.0 ≢ l
IsApart l _ = Unit {0}

-- leaves what is noted of the link
pub line-apart : (P : List Step) (by : By) (es : List Effect) (l : ℕ) (head : Head)
    → IsApart l head
    → line_left (record { by = by; head = head; effects = es } ∷ P) l ≡ line_left P l
line-apart P by es l (heads.Cut k) other = rw (ne_eqb k.0 l other) refl
line-apart P by es l (heads.Mend k) other = rw (ne_eqb k.0 l other) refl
line-apart P by es l (heads.Settle k) other = rw (ne_eqb k.0 l other) refl
line-apart P by es l (heads.Wire k from verdict) other = rw (ne_eqb k.0 l other) refl
line-apart P by es l (heads.Tick k side) other = rw (ne_eqb k.0 l other) refl
line-apart P by es l _ apart = refl

-- ---- what the step leaves of the link that it is on
module _ (P : List Step) (by : By) (es : List Effect) (k : LinkNo) where
  abbrev step : Head → List Step
  step head = (record { by = by; head = head; effects = es }) ∷ P

  abbrev was : Line
  was = line_left P k.0

  itself : (k.0 == k.0) ≡ true
  itself = eq-eqb k.0 k.0 refl

  pub own-mark : (mark : Mark) → line_left (step (head_of_mark mark k)) k.0 ≡ marked mark was
  own-mark Cut = rw itself refl
  own-mark Mend = rw itself refl
  own-mark Settle = rw itself refl

  pub own-tick : (side : Side)
      → line_left (step (heads.Tick k side)) k.0 ≡ record was { ticks = suc was.ticks }
  own-tick side = rw itself refl

  -- a packet of a link that isn't cut counts, by the side that it is from
  pub own-wire : (from : Side) (verdict : Verdict)
      → line_left (step (heads.Wire k from verdict)) k.0 ≡ counted from was
  own-wire from verdict = go from (is_cut P k.0) refl
    where
      go : (side : Side) (c : Bool) → is_cut P k.0 ≡ c
          → line_left (step (heads.Wire k side verdict)) k.0 ≡ counted side was
      go First true cut = rw (itself, cut) refl
      go First false cut = rw (itself, cut) refl
      go Second true cut = rw (itself, cut) refl
      go Second false cut = rw (itself, cut) refl

-- ---- of each count there are at most as many as steps
one-more : (counts : Bool) (k n : ℕ) → k ≤ n → cond counts (suc k) k ≤ suc n
one-more true k n few = omega arith
one-more false k n few = omega arith

pub wires-few : (P : List Step) (l : ℕ) (from : Side) → wire_steps P l from ≤ length P
wires-few [] l from = omega arith
wires-few (s ∷ P) l from =
    one-more (is_wire l from s.head && not (is_cut P l)) (wire_steps P l from) (length P)
    (wires-few P l from)

pub ticks-few : (P : List Step) (l : ℕ) → tick_steps P l ≤ length P
ticks-few [] l = omega arith
ticks-few (s ∷ P) l =
    one-more (is_tick l s.head) (tick_steps P l) (length P) (ticks-few P l)
