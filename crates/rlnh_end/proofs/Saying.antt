-- What is said goes out, and addresses aren't 0.
use Rattle.std.proofs.Common.{◌≡◌, ◌≢◌, ℕ, zero, suc, ◌<◌, List, [], ◌∷◌, ◌++◌, refl, ap, arith}
use Rattle.linx_base.specs.declared.identity.Inc.{Inc}
use Rattle.linx_base.specs.declared.frame.Message.{Message}
use Rattle.linx_base.specs.SigNotes.{SigNote}
use Rattle.link_addresses.specs.declared.meaning.Meaning.{Meaning}
use Rattle.link_addresses.specs.declared.meaning.Meaning.TheVariants.{Free, Live, Closing}
use Rattle.link_addresses.specs.Meanings.{address_of, meaning_of}
use Rattle.rlnh_end.specs.declared.heard.Heard.{Heard}
use Rattle.rlnh_end.specs.declared.heard.Heard.TheVariants.{Control, Signal, Garbage}
use Rattle.rlnh_end.specs.declared.up.Up.TheVariants.{Bad}
use Rattle.rlnh_end.specs.States.{RlnhState, RlnhTables, addr_met}
use Rattle.rlnh_end.specs.Words.{Word, message_of}
use Rattle.rlnh_end.specs.Calls.{Saying, after, end_saying, then_signals, told, with_words}
use Rattle.rlnh_end.specs.Hearing.{HasReadAddress, IsRead, heard_ack, only}

-- words that are said behind others
pub words_then : (out : List Message) (front back : List Word)
    → with_words (with_words out front) back ≡ with_words out (front ++ back)
words_then out [] back = refl
words_then out (word ∷ front) back = words_then (out ++ message_of word ∷ []) front back

-- the address of a live endpoint isn't 0
pub address_over : (own : List Meaning) (addr : ℕ) (inc : Inc) → meaning_of own addr ≡ Live inc
    → 0 < addr
address_over own zero inc live = cc
address_over own (suc k) inc live = omega arith

-- what isn't closing can't be freed
pub not_closing_bad : (t : RlnhTables) (addr : ℕ) (means : Meaning)
    → ((inc : Inc) → means ≢ Closing inc) → heard_ack t addr means ≡ only t Bad
not_closing_bad t addr Free apart = refl
not_closing_bad t addr (Live inc) apart = refl
not_closing_bad t addr (Closing inc) apart = absurd (apart inc refl)

-- a signal that is sent behind other words
pub said_then : (s : RlnhState) (made : Saying) (from to : Inc) (signal : SigNote)
    → after (after s made) (then_signals (end_saying (after s made).tables []) from to signal)
    ≡ after s (then_signals made from to signal)
said_then s made from to signal =
    ap (λ (out : List Message). record { tables = made.tables; out = out })
    (words_then s.out made.says (told (address_of made.tables.own from) from
    (addr_met made.tables.met to) to signal))

-- the address of what was read isn't 0
pub read_has_address : (m : Message) (heard : Heard) → IsRead m heard → HasReadAddress heard
read_has_address m (Control message) read = read.spelled.is_message.has_address
read_has_address m (Signal from to note) read = tt
read_has_address m Garbage read = tt
