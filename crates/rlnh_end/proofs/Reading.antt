-- A message is read as one thing.
use Rattle.std.proofs.Common.{◌≡◌, refl, ap, arith}
use Rattle.linx_base.specs.declared.frame.Message.{Message}
use Rattle.linx_base.specs.SigNotes.{SigNote}
use Rattle.rlnh_messages.specs.Messages.{Spells}
use Rattle.rlnh_messages.specs.Signals.{IsSignalBody, SpellsSignal}
use Rattle.rlnh_messages.specs.declared.rlnh.Rlnh.{Rlnh}
use Rattle.rlnh_messages.proofs.Bodies.{is_body}
use Rattle.rlnh_end.specs.declared.heard.Heard.{Heard}
use Rattle.rlnh_end.specs.declared.heard.Heard.TheVariants.{Control, Signal, Garbage}
use Rattle.rlnh_end.specs.Hearing.{HasAddresses, IsControl, IsGarbage, IsRead}
use Rattle.rlnh_end.specs.Hearing.{from_alone, to_alone, no_message, no_signal}

module _ (m : Message) where
  -- a message of RLNH, and nothing else
  pub only_control : (message : Rlnh) → IsControl m message
      → ((other : Rlnh) → Spells other m.body → message ≡ other) → (other : Heard)
      → IsRead m other → Control message ≡ other
  only_control message is one (Control other) read = ap Control (one other read.spelled)
  only_control message is one (Signal from to note) read =
      absurd (omega (arith, is.from, read.addressed.from))
  only_control message is one Garbage read = elim read as (λ _. Control message ≡ Garbage) [
    | from_alone over to ↦ absurd (omega (arith, is.from, over))
    | to_alone from over ↦ absurd (omega (arith, is.to, over))
    | no_message from to none ↦ absurd (none message is.spelled)
    | no_signal addressed none ↦ absurd (omega (arith, is.from, addressed.from))
  ]

  -- a signal, and nothing else
  pub only_signal : (note : SigNote) → HasAddresses m → IsSignalBody m.body
      → ((other : SigNote) → SpellsSignal other m.body → note ≡ other) → (other : Heard)
      → IsRead m other → Signal m.from m.to note ≡ other
  only_signal note addressed bodied one (Control other) read =
      absurd (omega (arith, addressed.from, read.from))
  only_signal note addressed bodied one (Signal from to other) read =
      let from_is : m.from ≡ from = read.from_is in
      let to_is : m.to ≡ to = read.to_is in
      let same : note ≡ other = one other read.spelled in
      cc
  only_signal note addressed bodied one Garbage read =
      elim read as (λ _. Signal m.from m.to note ≡ Garbage) [
        | from_alone over to ↦ absurd (omega (arith, addressed.to, to))
        | to_alone from over ↦ absurd (omega (arith, addressed.from, from))
        | no_message from to none ↦ absurd (omega (arith, addressed.from, from))
        | no_signal addresses none ↦ absurd (none bodied)
      ]

  -- neither
  pub only_garbage : IsGarbage m → (other : Heard) → IsRead m other → Garbage ≡ other
  only_garbage is (Control message) read = elim is as (λ _. Garbage ≡ Control message) [
    | from_alone over to ↦ absurd (omega (arith, read.from, over))
    | to_alone from over ↦ absurd (omega (arith, read.to, over))
    | no_message from to none ↦ absurd (none message read.spelled)
    | no_signal addressed none ↦ absurd (omega (arith, read.from, addressed.from))
  ]
  only_garbage is (Signal from to note) read = elim is as (λ _. Garbage ≡ Signal from to note) [
    | from_alone over zero ↦ absurd (omega (arith, read.addressed.to, zero))
    | to_alone zero over ↦ absurd (omega (arith, read.addressed.from, zero))
    | no_message zero to none ↦ absurd (omega (arith, read.addressed.from, zero))
    | no_signal addressed none ↦ absurd (none (is_body note m.body read.spelled))
  ]
  only_garbage is Garbage read = refl
