-- The functions of an end do what each rule says.
use Rattle.std.proofs.Common.{◌≡◌, ℕ, suc, Bool, true, false, ◌||◌, List, [], ◌∷◌, refl, ap, cond}
use Rattle.std.proofs.Common.{eqb, Option, Some, None, is_some, option_map, eq-eqb}
use Rattle.linx_base.specs.declared.identity.Inc.{Inc}
use Rattle.linx_base.specs.SigNotes.{SigNote}
use Rattle.link_addresses.specs.declared.meaning.Meaning.{Meaning}
use Rattle.link_addresses.specs.declared.meaning.Meaning.TheVariants.{Free, Live, Closing}
use Rattle.link_addresses.specs.Meanings.{address_of, lowest_free, meaning_of, with_lowest}
use Rattle.rlnh_messages.specs.declared.rlnh.Rlnh.TheVariants.{Init, InitReply, QueryName}
use Rattle.rlnh_messages.specs.declared.rlnh.Rlnh.TheVariants.{Publish, Unpublish, UnpublishAck}
use Rattle.rlnh_end.specs.declared.heard.Heard.{Heard}
use Rattle.rlnh_end.specs.declared.heard.Heard.TheVariants.{Control, Signal, Garbage}
use Rattle.rlnh_end.specs.declared.up.Up.TheVariants.{Met, Bad}
use Rattle.rlnh_end.specs.States.{RlnhTables, inc_met, addr_met, with_met}
use Rattle.rlnh_end.specs.Calls.{end_saying}
use Rattle.rlnh_end.specs.Hearing.{only, hears, heard_publish, heard_unpublish, heard_ack}
use Rattle.rlnh_end.specs.Hearing.{heard_signal}
use Rattle.rlnh_end.specs.Rows.{CallsFollowRules, HearingFollowsRules}

none_after : (o : Option ℕ) → option_map suc o ≡ None → o ≡ None
none_after None none = refl
none_after (Some a) none = absurd cc

-- an incarnation that isn't live gets the lowest free address
lowest_address : (own : List Meaning) (inc : Inc) → address_of own inc ≡ None
    → address_of (with_lowest own (Live inc)) inc ≡ Some (lowest_free own)
unfolding address_of with_lowest lowest_free
lowest_address [] inc none = rw (eq-eqb inc.0 inc.0 refl) refl
lowest_address (Free ∷ own) inc none = rw (eq-eqb inc.0 inc.0 refl) refl
lowest_address (Live other ∷ own) inc none =
    by (eqb inc.0 other.0) none (λ rest. lowest_address own inc rest)
  where
    by : (same : Bool)
        → cond same (Some 1) (option_map suc (address_of own inc)) ≡ None
        → (address_of own inc ≡ None
        → address_of (with_lowest own (Live inc)) inc ≡ Some (lowest_free own))
        → cond same (Some 1) (option_map suc (address_of (with_lowest own (Live inc)) inc))
        ≡ Some (suc (lowest_free own))
    by true none later = absurd cc
    by false none later =
        ap (option_map suc) (later (none_after (address_of own inc) none))
lowest_address (Closing other ∷ own) inc none =
    ap (option_map suc) (lowest_address own inc (none_after (address_of own inc) none))

pub calls_follow_rules : CallsFollowRules
calls_follow_rules t = record {
  begins = refl;
  asks = λ name. refl;
  is_live = λ inc name addr is. rw is refl;
  publishes = λ inc name is. rw is refl;
  opens_noted = λ inc name is. rw is refl;
  opens_unasked = λ inc name is. rw is refl;
  closes = λ inc addr is. rw is refl;
  closes_unknown = λ inc is. rw is refl;
  sends = λ from name addr to other signal here there. rw (here, there, here) refl;
  sends_first = λ from name to other signal none there.
      rw (none, none, lowest_address t.own from none, there) refl;
}

-- what is bad changes nothing
bad_publish : (t : RlnhTables) (addr : ℕ) (inc : Inc) (name : List ℕ)
    → (heard_publish t addr inc name).up ≡ Bad
    → (heard_publish t addr inc name).made ≡ end_saying t []
bad_publish t addr inc name is =
    by (is_some (inc_met t.met addr) || is_some (addr_met t.met inc)) is
  where
    by : (b : Bool)
        → (cond b (only t Bad)
        (only (record t { met = with_met t.met addr inc }) (Met inc name))).up ≡ Bad
        → (cond b (only t Bad)
        (only (record t { met = with_met t.met addr inc }) (Met inc name))).made ≡ end_saying t []
    by true is = refl
    by false is = cc

bad_unpublish : (t : RlnhTables) (addr : ℕ) (met : Option Inc)
    → (heard_unpublish t addr met).up ≡ Bad → (heard_unpublish t addr met).made ≡ end_saying t []
bad_unpublish t addr None is = refl
bad_unpublish t addr (Some inc) is = cc

bad_ack : (t : RlnhTables) (addr : ℕ) (means : Meaning) → (heard_ack t addr means).up ≡ Bad
    → (heard_ack t addr means).made ≡ end_saying t []
bad_ack t addr Free is = refl
bad_ack t addr (Live inc) is = refl
bad_ack t addr (Closing inc) is = cc

bad_signal : (t : RlnhTables) (note : SigNote) (met : Option Inc) (means : Meaning)
    → (heard_signal t note met means).made ≡ end_saying t []
bad_signal t note None means = refl
bad_signal t note (Some inc) Free = refl
bad_signal t note (Some inc) (Live to) = refl
bad_signal t note (Some inc) (Closing to) = refl

bad_stays : (t : RlnhTables) (heard : Heard) → (hears t heard).up ≡ Bad
    → (hears t heard).made ≡ end_saying t []
unfolding hears
bad_stays t (Control Init) is = cc
bad_stays t (Control InitReply) is = cc
bad_stays t (Control (QueryName name)) is = cc
bad_stays t (Control (Publish addr inc name)) is = bad_publish t addr inc name is
bad_stays t (Control (Unpublish addr)) is = bad_unpublish t addr (inc_met t.met addr) is
bad_stays t (Control (UnpublishAck addr)) is = bad_ack t addr (meaning_of t.own addr) is
bad_stays t (Signal from to note) is =
    bad_signal t note (inc_met t.met from) (meaning_of t.own to)
bad_stays t Garbage is = refl

pub hearing_follows_rules : HearingFollowsRules
unfolding hears
hearing_follows_rules t = record {
  init = refl;
  init_reply = refl;
  query = λ name. refl;
  publish = λ addr inc name none other. rw (none, other) refl;
  unpublish = λ addr inc is. rw is refl;
  unpublish_ack = λ addr inc is. rw is refl;
  arrives = λ from to note sender receiver is means. rw (is, means) refl;
  freed = λ from to note sender receiver is means. rw (is, means) refl;
  bad = λ heard is. bad_stays t heard is;
}
