-- What the calls of a trunk say, in the words of what is recorded.
use Rattle.std.proofs.Common.{◌≡◌, ◌≢◌, true, false, ℕ, List, [], ◌∷◌, ◌++◌, Option, Some, None}
use Rattle.std.proofs.Common.{inl, inr, map, refl, sym, ◌∙◌, ap, subst, if◌then◌else◌, is_some}
use Rattle.std.proofs.lemmas.Bool.{false_from_ne_true}
use Rattle.linx_base.specs.declared.identity.Inc.{Inc}
use Rattle.linx_base.specs.declared.identity.Session.{Session}
use Rattle.linx_base.specs.SigNotes.{SigNote}
use Rattle.link_addresses.specs.Meanings.{address_of}
use Rattle.link_addresses.proofs.Indexing.{address_found, address_missing}
use Rattle.ethcm_end.specs.States.{peer_of}
use Rattle.trunk_record.specs.Sayings.{Said, asked, heard_as, is_live, published, signaled}
use Rattle.trunk_record.specs.Sayings.{unpublished}
use Rattle.trunk_record.specs.Changes.{saying, says_sending}
use Rattle.rlnh_end.specs.States.{RlnhTables, addr_met, is_noted, without_note}
use Rattle.rlnh_end.specs.Calls.{Saying, announced, close_of, closed, publish_sender_of, opened_of}
use Rattle.rlnh_end.specs.Calls.{end_saying, publish_of, query_of, send_of, then_signals, told}
use Rattle.rlnh_laws.specs.Meanings.{saids}
use Rattle.rlnh_laws.specs.Ties.{Talk}
use Rattle.rlnh_laws.proofs.Calling.{live_now, met_stays}
use Rattle.rlnh_laws.proofs.Meeting.{option_cases}
use Rattle.rlnh_laws.proofs.Speaking.{saids-append}
use Rattle.trunk.specs.Events.{TrunkState, near_said, near_says}
use Rattle.trunk.specs.Keeping.{KeepsTrunk}
use Rattle.trunk.specs.Tells.{notes_sending, publishing, says_closing, says_opening}
use Rattle.trunk.proofs.EachEvent.Calls.{is_found}
use Rattle.trunk.proofs.EachEvent.Tells.{own_peer}

-- ---- a call says what it says where the side is up

pub record NearSays (t u : TrunkState) (said : List Said) (noted : List (List ℕ)) : Type 0 where
  pub kept : u.first.kept ≡ saying said t.first.kept
  pub notes : u.first.end.tables.noted ≡ noted

is_up : (o p : Option Session) → o ≡ p → p ≢ None → is_some o ≡ true
is_up None p same up = absurd (up (sym same))
is_up (Some y) p same up = refl

pub says_told : (t : TrunkState) → KeepsTrunk t → (made : Saying) (said : List Said)
    (noted : List (List ℕ)) → t.first.kept.now.peer ≢ None → saids made.says ≡ said
    → made.tables.noted ≡ noted → NearSays t (near_said t made) said noted
says_told t k made said noted up is notes =
    let at : is_some (peer_of t.link.first.end) ≡ true =
    is_up (peer_of t.link.first.end) t.first.kept.now.peer (own_peer t k) up in
    subst (λ b. NearSays t (if b then near_says t made else t) said noted) (sym at)
    (record { kept = ap (λ s. saying s t.first.kept) is; notes = notes })

pub silent_down : (t : TrunkState) → KeepsTrunk t → (made : Saying)
    → t.first.kept.now.peer ≡ None → near_said t made ≡ t
silent_down t k made down =
    ap (λ (o : Option Session). if is_some o then near_says t made else t) (own_peer t k ∙ down)

-- ---- what each call says

module _ (t : TrunkState) (k : KeepsTrunk t) where
  abbrev tables : RlnhTables
  tables = t.first.end.tables

  -- an incarnation has an address where it is live by what was said
  pub address_live : (inc : Inc) → is_some (address_of tables.own inc)
      ≡ is_live inc t.first.kept.now.said
  address_live inc =
      subst (λ r. is_some (address_of tables.own inc) ≡ is_live inc r.now.said)
      (sym k.first.kept)
      (subst (λ (s : RlnhTables). is_some (address_of s.own inc)
      ≡ is_live inc (saids k.near.now.words)) (sym k.first.tables)
      (elim (option_cases (address_of k.near.now.end.own inc)) [
        | inr some ↦
            ap is_some some.1
            ∙ sym (k.first.half.holds.0.alone.speaks.live some.0 inc
            (address_found k.near.now.end.own inc some.0 some.1))
        | inl none ↦
            ap is_some none
            ∙ sym (false_from_ne_true (is_live inc (saids k.near.now.words)) (λ live.
            let at = k.first.half.holds.0.alone.speaks.said_live inc live in
            address_missing k.near.now.end.own inc none at.0 at.1))
      ]))

  publish_words : (inc : Inc) (name : List ℕ)
      → saids (publish_of tables inc name).says ≡ publishing inc name t.first.kept
  publish_words inc name =
      by_address (address_of tables.own inc)
      ∙ ap (λ b. if b then [] else published inc name ∷ []) (address_live inc)
    where
      by_address : (o : Option ℕ)
          → saids (announced (record tables { noted = without_note tables.noted name }) inc name
          o).says ≡ (if is_some o then [] else published inc name ∷ [])
      by_address None = refl
      by_address (Some a) = refl

  publish_notes : (inc : Inc) (name : List ℕ)
      → (publish_of tables inc name).tables.noted ≡ without_note tables.noted name
  publish_notes inc name = by_address (address_of tables.own inc)
    where
      by_address : (o : Option ℕ)
          → (announced (record tables { noted = without_note tables.noted name }) inc name
          o).tables.noted ≡ without_note tables.noted name
      by_address None = refl
      by_address (Some a) = refl

  pub publish_says : (inc : Inc) (name : List ℕ) → t.first.kept.now.peer ≢ None
      → NearSays t (near_said t (publish_of tables inc name))
      (publishing inc name t.first.kept) (without_note tables.noted name)
  publish_says inc name up =
      says_told t k (publish_of tables inc name) (publishing inc name t.first.kept)
      (without_note tables.noted name) up (publish_words inc name) (publish_notes inc name)

  pub opened_says : (inc : Inc) (name : List ℕ) → t.first.kept.now.peer ≢ None
      → NearSays t (near_said t (opened_of tables inc name))
      (says_opening inc name tables.noted t.first.kept)
      (if is_noted tables.noted name then without_note tables.noted name else tables.noted)
  opened_says inc name up =
      says_told t k (opened_of tables inc name) (says_opening inc name tables.noted t.first.kept)
      (if is_noted tables.noted name then without_note tables.noted name else tables.noted) up
      (elim (is_noted tables.noted name)
      as (λ b. saids (if b then publish_of tables inc name else end_saying tables []).says
      ≡ (if b then publishing inc name t.first.kept else []))
      [ true ↦ publish_words inc name | false ↦ refl ])
      (elim (is_noted tables.noted name)
      as (λ b. (if b then publish_of tables inc name else end_saying tables []).tables.noted
      ≡ (if b then without_note tables.noted name else tables.noted))
      [ true ↦ publish_notes inc name | false ↦ refl ])

  pub close_says : (inc : Inc) → t.first.kept.now.peer ≢ None
      → NearSays t (near_said t (close_of tables inc)) (says_closing inc t.first.kept) tables.noted
  close_says inc up =
      says_told t k (close_of tables inc) (says_closing inc t.first.kept) tables.noted up
      (by_address (address_of tables.own inc)
      ∙ ap (λ b. if b then unpublished inc ∷ [] else []) (address_live inc))
      (by_notes (address_of tables.own inc))
    where
      by_address : (o : Option ℕ) → saids (closed tables inc o).says
          ≡ (if is_some o then unpublished inc ∷ [] else [])
      by_address None = refl
      by_address (Some a) = refl

      by_notes : (o : Option ℕ) → (closed tables inc o).tables.noted ≡ tables.noted
      by_notes None = refl
      by_notes (Some a) = refl

  pub query_says : (name : List ℕ) → t.first.kept.now.peer ≢ None
      → NearSays t (near_said t (query_of tables name)) (asked name ∷ []) tables.noted
  query_says name up = says_told t k (query_of tables name) (asked name ∷ []) tables.noted up refl
      refl

-- ---- a signal

-- a signal behind what was said, where its sender is live and its receiver met
told_words : (made : Saying) (from to : Inc) (signal : SigNote) (a b : ℕ)
    → address_of made.tables.own from ≡ Some a → addr_met made.tables.met to ≡ Some b
    → saids (then_signals made from to signal).says ≡ signaled from to signal ∷ saids made.says
told_words made from to signal a b one two =
    saids-append made.says
    (told (address_of made.tables.own from) from (addr_met made.tables.met to) to signal)
    ∙ ap (λ ws. saids ws ++ saids made.says)
    (ap (λ o. told o from (addr_met made.tables.met to) to signal) one
    ∙ ap (λ o. told (Some a) from o to signal) two)

-- what is said before it, and the notes
pub send_words : (e : Talk) (from to : Inc) (name : List ℕ) (signal : SigNote) (b : ℕ)
    → addr_met e.end.met to ≡ Some b → (o : Option ℕ) → address_of e.end.own from ≡ o
    → saids (then_signals (publish_sender_of e.end from name o) from to signal).says
    ≡ signaled from to signal ∷ (if is_some o then [] else published from name ∷ [])
send_words e from to name signal b met (Some a) is =
    told_words (end_saying e.end []) from to signal a b is met
send_words e from to name signal b met None is =
    let p = publish_of e.end from name in
    let live = live_now e from name is in
    told_words p from to signal live.0 b live.1 (ap (λ m. addr_met m to) (met_stays e.end from name)
    ∙ met)
    ∙ ap (λ ws. signaled from to signal ∷ ws) (ap (λ o. saids (announced (record e.end
    { noted = without_note e.end.noted name }) from name o).says) is)

send_notes : (s : RlnhTables) (from to : Inc) (name : List ℕ) (signal : SigNote) (o : Option ℕ)
    → (then_signals (publish_sender_of s from name o) from to signal).tables.noted
    ≡ (if is_some o then s.noted else without_note s.noted name)
send_notes s from to name signal (Some a) = refl
send_notes s from to name signal None = by_address (address_of s.own from)
  where
    by_address : (o : Option ℕ)
        → (announced (record s { noted = without_note s.noted name }) from name o).tables.noted
        ≡ without_note s.noted name
    by_address None = refl
    by_address (Some a) = refl

pub send_says : (t : TrunkState) (k : KeepsTrunk t) (from : Inc) (name : List ℕ) (to : Inc)
    (signal : SigNote) → t.first.kept.now.peer ≢ None
    → is_live to (map heard_as t.first.kept.now.given) ≡ true
    → NearSays t (near_said t (send_of t.first.end.tables from name to signal))
    (says_sending from name to signal t.first.kept)
    (notes_sending from name t.first.kept t.first.end.tables.noted)
send_says t k from name to signal up is =
    let s = t.first.end.tables in
    let found = is_found t k to is in
    says_told t k (send_of s from name to signal) (says_sending from name to signal t.first.kept)
    (notes_sending from name t.first.kept s.noted) up
    (subst (λ (x : RlnhTables). saids (send_of x from name to signal).says
    ≡ signaled from to signal ∷ (if is_some (address_of x.own from) then []
    else published from name ∷ [])) (sym k.first.tables)
    (send_words k.near.now from to name signal found.0 found.1
    (address_of k.near.now.end.own from) refl)
    ∙ ap (λ b. signaled from to signal ∷ (if b then [] else published from name ∷ []))
    (address_live t k from))
    (send_notes s from to name signal (address_of s.own from)
    ∙ ap (λ b. if b then s.noted else without_note s.noted name) (address_live t k from))
