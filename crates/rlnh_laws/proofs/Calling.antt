-- The calls of an end keep what is kept.
use Rattle.std.proofs.Common.{◌≡◌, ℕ, true, false, List, [], ◌++◌, Some, None, inl, inr, refl, sym}
use Rattle.std.proofs.Common.{◌∙◌, ap, subst, if◌then◌else◌, append_assoc}
use Rattle.linx_base.specs.declared.identity.Inc.{Inc}
use Rattle.linx_base.specs.SigNotes.{SigNote}
use Rattle.link_addresses.specs.declared.meaning.Meaning.TheVariants.{Live, Closing}
use Rattle.link_addresses.specs.Meanings.{with_meaning, lowest_free, with_lowest, address_of}
use Rattle.rlnh_laws.proofs.Addresses.{address_found, address_missing}
use Rattle.rlnh_end.specs.States.{RlnhTables, addr_met, is_noted, without_note}
use Rattle.rlnh_end.specs.Words.{question, announce, tell, withdraw}
use Rattle.rlnh_end.specs.Calls.{close_of, publish_sender_of, opened_of, publish_of, query_of}
use Rattle.rlnh_end.specs.Calls.{send_of, then_signals, told}
use Rattle.rlnh_laws.specs.Meanings.{saids}
use Rattle.trunk_record.specs.Sayings.{was_unpublished}
use Rattle.rlnh_laws.specs.Ties.{Talk, Alone}
use Rattle.rlnh_laws.specs.Talks.{said_more, Grows}
use Rattle.link_addresses.proofs.Lists.{lowest_changes, lowest_found}
use Rattle.rlnh_laws.proofs.Meeting.{option_cases, met_both}
use Rattle.rlnh_laws.proofs.Uttering.{utter_grows, same_grows, grows_then}

pub publish_grows : (e : Talk) (i : Inc) (v : List ℕ) → Alone e
    → was_unpublished i (saids e.words) ≡ false → Grows e (said_more e (publish_of e.end i v))
publish_grows e i v k un =
    elim (option_cases (address_of e.end.own i)) [
      | inl none ↦ rw none (utter_grows e (record e.end {
        own = with_lowest e.end.own (Live i);
        noted = without_note e.end.noted v;
      }) (announce (lowest_free e.end.own) i v)
          ((lowest_found e.end.own).free, lowest_changes e.end.own (Live i), none, un, refl) k)
      | inr some ↦ rw some.1 (same_grows e (record e.end { noted = without_note e.end.noted v })
          refl refl k)
    ]

pub opened_grows : (e : Talk) (i : Inc) (v : List ℕ) → Alone e
    → was_unpublished i (saids e.words) ≡ false → Grows e (said_more e (opened_of e.end i v))
opened_grows e i v k un =
    elim (is_noted e.end.noted v) as (λ t. Grows e
    (said_more e (if t then publish_of e.end i v else record { tables = e.end; says = [] }))) [
      | true ↦ publish_grows e i v k un
      | false ↦ same_grows e e.end refl refl k
    ]

pub query_grows : (e : Talk) (v : List ℕ) → Alone e → Grows e (said_more e (query_of e.end v))
query_grows e v k = utter_grows e e.end (question v) (refl, refl) k

pub close_grows : (e : Talk) (i : Inc) → Alone e → Grows e (said_more e (close_of e.end i))
close_grows e i k =
    elim (option_cases (address_of e.end.own i)) [
      | inl none ↦ rw none (same_grows e e.end refl refl k)
      | inr some ↦ rw some.1 (utter_grows e (record e.end
          { own = with_meaning e.end.own some.0 (Closing i) }) (withdraw some.0 i)
          (address_found e.end.own i some.0 some.1, refl, refl) k)
    ]

-- a published one tells a signal to one that is met
tell_grows : (e : Talk) (i j : Inc) (note : SigNote) → Alone e → (a b : ℕ)
    → address_of e.end.own i ≡ Some a → addr_met e.end.met j ≡ Some b
    → Grows e (record e {
      words = e.words ++ told (address_of e.end.own i) i (addr_met e.end.met j)
          j note;
      end = e.end;
    })
tell_grows e i j note k a b is at = rw (is, at)
    (utter_grows e e.end (tell a i b j note) (
      refl,
      refl,
      address_found e.end.own i a is,
      met_both e.end.met j b k.apart at,
    ) k)

-- what is published is live
pub live_now : (e : Talk) (i : Inc) (v : List ℕ) → address_of e.end.own i ≡ None → (a : ℕ)
    × (address_of (publish_of e.end i v).tables.own i ≡ Some a)
live_now e i v none =
    let new = with_lowest e.end.own (Live i) in
    rw none (elim (option_cases (address_of new i)) [
      | inl gone ↦ absurd (address_missing new i gone (lowest_free e.end.own)
          (lowest_changes e.end.own (Live i)).here)
      | inr some ↦ some
    ])

pub met_stays : (s : RlnhTables) (i : Inc) (v : List ℕ) → (publish_of s i v).tables.met ≡ s.met
met_stays s i v = elim (option_cases (address_of s.own i)) [
  | inl none ↦ rw none refl
  | inr some ↦
      rw some.1 refl
]

pub send_grows : (e : Talk) (i j : Inc) (v : List ℕ) (note : SigNote) → Alone e
    → was_unpublished i (saids e.words) ≡ false → (b : ℕ) → addr_met e.end.met j ≡ Some b
    → Grows e (said_more e (send_of e.end i v j note))
send_grows e i j v note k un b at =
    elim (option_cases (address_of e.end.own i)) [
      | inr some ↦ subst (λ o. Grows e (said_more e
          (then_signals (publish_sender_of e.end i v o) i j note)))
          (sym some.1) (tell_grows e i j note k some.0 b some.1 at)
      | inl none ↦ subst (λ o. Grows e (said_more e
          (then_signals (publish_sender_of e.end i v o) i j note)))
          (sym none) (by_none none)
    ]
  where
    by_none : address_of e.end.own i ≡ None → Grows e
        (said_more e (then_signals (publish_of e.end i v) i j note))
    by_none none =
        let p = publish_of e.end i v in
        let g = said_more e p in
        let first = publish_grows e i v k un in
        let l = live_now e i v none in
        let second = tell_grows g i j note first.alone l.0 b l.1
        (ap (λ m. addr_met m j) (met_stays e.end i v) ∙ at) in
        let both = grows_then e g (record g {
          words = g.words
              ++ told (address_of p.tables.own i) i (addr_met p.tables.met j) j note;
          end = p.tables;
        }) first second in
        subst (λ ws. Grows e (record e { words = ws; end = p.tables }))
        (append_assoc e.words p.says (told (address_of p.tables.own i) i
        (addr_met p.tables.met j) j note)) both
