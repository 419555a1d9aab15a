-- What holds of a trunk holds after each call at its first side.
use Rattle.std.proofs.Common.{◌≡◌, ◌≤◌, ℕ, false, true, List, [], Option, Some, None, map, arith}
use Rattle.std.proofs.Common.{length, sym, ◌∙◌, ap, subst, IsTrue, if◌then◌else◌, length-append}
use Rattle.linx_base.specs.NameText.{is_name}
use Rattle.linx_base.specs.declared.identity.Inc.{Inc}
use Rattle.linx_base.specs.SigNotes.{SigNote}
use Rattle.link_addresses.specs.Meanings.{address_of, HasAddressLeft}
use Rattle.trunk_record.specs.Sayings.{heard_as, is_live, was_unpublished}
use Rattle.rlnh_end.specs.States.{RlnhTables, addr_met, is_noted, without_note}
use Rattle.rlnh_end.specs.Words.{hello}
use Rattle.rlnh_end.specs.Calls.{Saying, announced, begin_of, close_of, closed, publish_sender_of}
use Rattle.rlnh_end.specs.Calls.{end_saying, opened_of, publish_of, query_of, send_of, told}
use Rattle.rlnh_laws.specs.Meanings.{saids}
use Rattle.rlnh_laws.specs.Ties.{Talk}
use Rattle.rlnh_laws.proofs.Calling.{close_grows, opened_grows, publish_grows, query_grows}
use Rattle.rlnh_laws.proofs.Calling.{send_grows}
use Rattle.trunk.specs.Events.{TrunkState, near_said}
use Rattle.trunk.specs.Keeping.{KeepsTrunk}
use Rattle.trunk.specs.Laws.{CallsOffer, IsOffered, MayPublish, MaySend}
use Rattle.trunk.specs.Talks.{FitsWord}
use Rattle.trunk.proofs.Sessions.MetPeers.{met_once}
use Rattle.trunk.proofs.Messages.Reading.{messages_fit}
use Rattle.trunk.proofs.Sessions.OneSession.{SaysSoundly, close_sound, opened_sound, publish_sound}
use Rattle.trunk.proofs.Sessions.OneSession.{query_sound, send_sound}
use Rattle.trunk.proofs.EachEvent.FirstSide.{said_keeps, says_keeps}

-- ---- how many words a call says

pub publish_few : (t : RlnhTables) (inc : Inc) (name : List ℕ)
    → length (publish_of t inc name).says ≤ 1
publish_few t inc name = by_address (address_of t.own inc)
  where
    by_address : (o : Option ℕ)
        → length (announced (record t { noted = without_note t.noted name }) inc name o).says ≤ 1
    by_address None = omega arith
    by_address (Some a) = omega arith

pub opened_few : (t : RlnhTables) (inc : Inc) (name : List ℕ)
    → length (opened_of t inc name).says ≤ 1
opened_few t inc name =
    elim (is_noted t.noted name)
    as (λ b. length (if b then publish_of t inc name else end_saying t []).says ≤ 1)
    [ true ↦ publish_few t inc name | false ↦ omega arith ]

pub close_few : (t : RlnhTables) (inc : Inc) → length (close_of t inc).says ≤ 1
close_few t inc = by_address (address_of t.own inc)
  where
    by_address : (o : Option ℕ) → length (closed t inc o).says ≤ 1
    by_address None = omega arith
    by_address (Some a) = omega arith

told_few : (o p : Option ℕ) (from to : Inc) (signal : SigNote)
    → length (told o from p to signal) ≤ 1
told_few None p from to signal = omega arith
told_few (Some a) None from to signal = omega arith
told_few (Some a) (Some b) from to signal = omega arith

pub send_few : (t : RlnhTables) (from : Inc) (name : List ℕ) (to : Inc) (signal : SigNote)
    → length (send_of t from name to signal).says ≤ 2
send_few t from name to signal =
    let made = publish_sender_of t from name (address_of t.own from) in
    let words = told (address_of made.tables.own from) from (addr_met made.tables.met to) to signal
    in
    omega (
      arith,
      length-append made.says words,
      known_few (address_of t.own from),
      told_few (address_of made.tables.own from) (addr_met made.tables.met to) from to signal,
    )
  where
    known_few : (o : Option ℕ) → length (publish_sender_of t from name o).says ≤ 1
    known_few None = publish_few t from name
    known_few (Some a) = omega arith

-- what was said soundly is offered
pub soundly_offered : {t : RlnhTables} (made : Saying) (count : ℕ) → SaysSoundly t made
    → length made.says ≤ count → IsOffered made count
soundly_offered made count sound few =
    record { messages = messages_fit made.says sound.says; few = few }

hello_fits : FitsWord hello
hello_fits = record { has_address = tt; fits_fields = tt }

-- ---- a call at the first side

module _ (t : TrunkState) (k : KeepsTrunk t) where
  abbrev now : Talk
  now = k.near.now

  few_now : HasAddressLeft t.first.end.tables.own → HasAddressLeft now.end.own
  few_now few = subst (λ s. HasAddressLeft s.own) k.first.tables few

  goes_on : (inc : Inc) → was_unpublished inc t.first.kept.now.said ≡ false
      → was_unpublished inc (saids now.words) ≡ false
  goes_on inc not = subst (λ r. was_unpublished inc r.now.said ≡ false) k.first.kept not

  -- a peer that is live by what was given is met
  pub is_found : (to : Inc) → is_live to (map heard_as t.first.kept.now.given) ≡ true
      → (a : ℕ) × (addr_met now.end.met to ≡ Some a)
  is_found to is =
      let alone = k.first.half.holds.0.alone in
      let heard : is_live to (saids now.heard) ≡ true =
      ap (is_live to) (sym alone.given)
      ∙ subst (λ r. is_live to (map heard_as r.now.given) ≡ true) k.first.kept is in
      let found = k.first.sound.0.meets.found to heard in
      (found.0, met_once now.end.met found.0 to alone.apart found.1)

  -- what each call says is sound
  publish_soundly : (inc : Inc) (name : List ℕ) → MayPublish t.first inc name
      → SaysSoundly now.end (publish_of now.end inc name)
  publish_soundly inc name may =
      publish_sound now.end inc name k.first.sound.0.tables (few_now may.has_address)
      may.numbered may.named

  opened_soundly : (inc : Inc) (name : List ℕ) → MayPublish t.first inc name
      → SaysSoundly now.end (opened_of now.end inc name)
  opened_soundly inc name may =
      opened_sound now.end inc name k.first.sound.0.tables (few_now may.has_address)
      may.numbered may.named

  send_soundly : (from : Inc) (name : List ℕ) (to : Inc) (signal : SigNote)
      → MaySend t.first from name to signal
      → SaysSoundly now.end (send_of now.end from name to signal)
  send_soundly from name to signal may =
      send_sound now.end from to name signal k.first.sound.0.tables
      k.first.half.holds.0.alone.apart (few_now may.sender.has_address) may.sender.numbered
      may.sender.named may.is_signal

  pub publish_keeps : (inc : Inc) (name : List ℕ) → MayPublish t.first inc name
      → KeepsTrunk (near_said t (publish_of t.first.end.tables inc name))
  publish_keeps inc name may =
      let alone = k.first.half.holds.0.alone in
      subst (λ s. KeepsTrunk (near_said t (publish_of s inc name))) (sym k.first.tables)
      (said_keeps t (publish_of now.end inc name) k (λ up. says_keeps t k
      (publish_of now.end inc name) up
      (publish_grows now inc name alone (goes_on inc may.goes_on))
      (publish_soundly inc name may)))

  pub opened_keeps : (inc : Inc) (name : List ℕ) → MayPublish t.first inc name
      → KeepsTrunk (near_said t (opened_of t.first.end.tables inc name))
  opened_keeps inc name may =
      let alone = k.first.half.holds.0.alone in
      subst (λ s. KeepsTrunk (near_said t (opened_of s inc name))) (sym k.first.tables)
      (said_keeps t (opened_of now.end inc name) k (λ up. says_keeps t k
      (opened_of now.end inc name) up
      (opened_grows now inc name alone (goes_on inc may.goes_on))
      (opened_soundly inc name may)))

  pub close_keeps : (inc : Inc) → KeepsTrunk (near_said t (close_of t.first.end.tables inc))
  close_keeps inc =
      subst (λ s. KeepsTrunk (near_said t (close_of s inc))) (sym k.first.tables)
      (said_keeps t (close_of now.end inc) k (λ up. says_keeps t k (close_of now.end inc) up
      (close_grows now inc k.first.half.holds.0.alone)
      (close_sound now.end inc k.first.sound.0.tables)))

  pub query_keeps : (name : List ℕ) → IsTrue (is_name name)
      → KeepsTrunk (near_said t (query_of t.first.end.tables name))
  query_keeps name is =
      subst (λ s. KeepsTrunk (near_said t (query_of s name))) (sym k.first.tables)
      (said_keeps t (query_of now.end name) k (λ up. says_keeps t k (query_of now.end name) up
      (query_grows now name k.first.half.holds.0.alone)
      (query_sound now.end name k.first.sound.0.tables is)))

  pub send_keeps : (from : Inc) (name : List ℕ) (to : Inc) (signal : SigNote)
      → MaySend t.first from name to signal
      → KeepsTrunk (near_said t (send_of t.first.end.tables from name to signal))
  send_keeps from name to signal may =
      let alone = k.first.half.holds.0.alone in
      let found = is_found to may.receiver in
      subst (λ s. KeepsTrunk (near_said t (send_of s from name to signal))) (sym k.first.tables)
      (said_keeps t (send_of now.end from name to signal) k (λ up. says_keeps t k
      (send_of now.end from name to signal) up
      (send_grows now from to name signal alone (goes_on from may.sender.goes_on) found.0 found.1)
      (send_soundly from name to signal may)))

  -- so it goes by messages, and by few
  pub calls_offer : CallsOffer t.first
  calls_offer =
      record {
        begun =
            record {
              messages = messages_fit begin_of.says (hello_fits, tt);
              few = omega arith;
            };
        published = λ inc name may. back (λ s. publish_of s inc name) 1
            (soundly_offered (publish_of now.end inc name) 1 (publish_soundly inc name may)
            (publish_few now.end inc name));
        opened = λ inc name may. back (λ s. opened_of s inc name) 1
            (soundly_offered (opened_of now.end inc name) 1 (opened_soundly inc name may)
            (opened_few now.end inc name));
        closed = λ inc. back (λ s. close_of s inc) 1
            (soundly_offered (close_of now.end inc) 1
            (close_sound now.end inc k.first.sound.0.tables) (close_few now.end inc));
        asked = λ name is. back (λ s. query_of s name) 1
            (soundly_offered (query_of now.end name) 1
            (query_sound now.end name k.first.sound.0.tables is) (omega arith));
        sent = λ from name to signal may. back (λ s. send_of s from name to signal) 2
            (soundly_offered (send_of now.end from name to signal) 2
            (send_soundly from name to signal may) (send_few now.end from name to signal));
      }
    where
      back : (call : RlnhTables → Saying) (count : ℕ) → IsOffered (call now.end) count
          → IsOffered (call t.first.end.tables) count
      back call count is =
          subst (λ (s : RlnhTables). IsOffered (call s) count) (sym k.first.tables) is
