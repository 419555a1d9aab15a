-- What an RLNH end says to send a signal, by whether its sender is published, as it is noted.
use Rattle.std.proofs.Common.{◌≡◌, ℕ, Bool, true, false, List, [], ◌∷◌, Option, Some, None, refl}
use Rattle.std.proofs.Common.{sym, ◌∙◌, ap, arith, IsSome, if◌then◌else◌, is_some}
use Rattle.linx_base.specs.declared.identity.Inc.{Inc}
use Rattle.linx_base.specs.SigNotes.{SigNote}
use Rattle.link_addresses.specs.Meanings.{address_of}
use Rattle.trunk_record.specs.Records.{SideRecord}
use Rattle.trunk_record.specs.Sayings.{published, signaled}
use Rattle.trunk_record.specs.Changes.{saying}
use Rattle.rlnh_end.specs.States.{RlnhState, RlnhTables, addr_met}
use Rattle.rlnh_end.specs.Calls.{send_of}
use Rattle.rlnh_laws.specs.Meanings.{saids}
use Rattle.rlnh_laws.specs.Ties.{Talk}
use Rattle.trunk.specs.Events.{TrunkSide}
use Rattle.trunk.proofs.Messages.OfCalls.{send_words}

-- ---- what is said

abbrev talk_with : RlnhTables → Talk
talk_with t =
    record {
      number = record { 0 = 0 };
      peer = None;
      words = [];
      heard = [];
      given = [];
      end = t;
    }

says_send : (t : RlnhTables) (from to : Inc) (name : List ℕ) (signal : SigNote) (o : Option ℕ)
    → addr_met t.met to ≡ o → IsSome o → saids (send_of t from name to signal).says
    ≡ signaled from to signal ∷ (if is_some (address_of t.own from) then []
    else published from name ∷ [])
says_send t from to name signal None is met = absurd (grind arith)
says_send t from to name signal (Some b) is met =
    send_words (talk_with t) from to name signal b is (address_of t.own from) refl

-- ---- what is noted

-- a side with this RLNH end and this record
abbrev pub with_kept : RlnhState → SideRecord → TrunkSide
with_kept end kept = record { end = end; kept = kept }

module _ (t : RlnhTables) (A : SideRecord) (from to : Inc) (name : List ℕ) (signal : SigNote)
    (met : IsSome (addr_met t.met to)) (known : Bool)
    (is : known ≡ is_some (address_of t.own from)) where
  says_known : saids (send_of t from name to signal).says
      ≡ signaled from to signal ∷ (if known then [] else published from name ∷ [])
  says_known =
      says_send t from to name signal (addr_met t.met to) refl met
      ∙ ap (λ b. signaled from to signal ∷ (if b then [] else published from name ∷ [])) (sym is)

  pub sends_known : known ≡ true → saying (signaled from to signal ∷ []) A
      ≡ saying (saids (send_of t from name to signal).says) A
  sends_known live =
      sym (ap (λ said. saying said A) (says_known
      ∙ ap (λ b. signaled from to signal ∷ (if b then [] else published from name ∷ [])) live))

  pub sends_new : known ≡ false
      → saying (signaled from to signal ∷ []) (saying (published from name ∷ []) A)
      ≡ saying (saids (send_of t from name to signal).says) A
  sends_new fresh =
      sym (ap (λ said. saying said A) (says_known
      ∙ ap (λ b. signaled from to signal ∷ (if b then [] else published from name ∷ [])) fresh))
