-- Where the link is quiet, all that was said was given, and both ends agree.
use Rattle.std.proofs.Common.{◌≡◌, ◌++◌, ℕ, Bool, true, List, [], Option, Some, sym, ◌∙◌, ap, subst}
use Rattle.std.proofs.Common.{refl, ◌==◌, ◌&&◌, length, not, append-nil}
use Rattle.std.proofs.Math.Bool.{and_comm}
use Rattle.std.proofs.lemmas.List.{append_cancel_left}
use Rattle.linx_base.specs.declared.identity.Inc.{Inc}
use Rattle.link_addresses.specs.declared.meaning.Meaning.{Meaning}
use Rattle.link_addresses.specs.Meanings.{meaning_of}
use Rattle.ethcm_end.specs.States.{has_work_in}
use Rattle.carrier.specs.Events.{LinkState, is_quiet}
use Rattle.carrier.specs.Events as links
use Rattle.carrier.specs.Laws.{IsComplete}
use Rattle.carrier.proofs.Delivering.{quiet_complete}
use Rattle.carrier.proofs.Lookups.{same_number}
use Rattle.trunk_record.specs.Trunks.{IsQuiet}
use Rattle.rlnh_end.specs.States.{RlnhTables, inc_met}
use Rattle.rlnh_end.specs.Words.{Word}
use Rattle.rlnh_laws.specs.Meanings.{saids}
use Rattle.rlnh_laws.specs.Ties.{Pair, Stands, about, announced, answered, known, toward, unused}
use Rattle.trunk.specs.Events.{TrunkState, turned}
use Rattle.trunk.specs.Keeping.{KeepsTrunk}
use Rattle.trunk.specs.Laws.{EndsAgree, IsMetAs}
use Rattle.trunk.specs.Talks.{Talks, all_talks, partner, side_record}
use Rattle.trunk.proofs.EachEvent.BothSides.{turned_keeps}
use Rattle.trunk.proofs.Sessions.Messages.{none_left}

-- ---- each side has heard all words of the other

record AllHeard (A B : Talks) : Type 0 where
  pair : A.now.peer ≡ Some B.now.number
  back : B.now.peer ≡ Some A.now.number
  talks : Pair A.now B.now
  there : A.now.words ≡ B.now.heard
  answered : B.now.words ≡ A.now.heard

partner_now : (A B : Talks) → A.now.peer ≡ Some B.now.number → B.now.peer ≡ Some A.now.number
    → partner A.now (all_talks B) ≡ B.now
partner_now A B p q = rw (p, q, same_number B.now.number.0, same_number A.now.number.0) refl

all_heard : (t : TrunkState) (k : KeepsTrunk t) → is_quiet t.link ≡ true
    → AllHeard k.near k.far
all_heard t k still =
    let c : IsComplete t.link = quiet_complete t.link k.link still in
    let A = k.near in
    let B = k.far in
    let m = k.first.mirrors.0 in
    let n = k.second.mirrors.0 in
    let p : A.now.peer ≡ Some B.now.number = sym m.peer ∙ c.first_up ∙ ap Some n.number in
    let q : B.now.peer ≡ Some A.now.number = sym n.peer ∙ c.second_up ∙ ap Some m.number in
    let talks : Pair A.now B.now =
    subst (λ f. Pair A.now f) (partner_now A B p q) k.first.half.holds.0.pair in
    record {
      pair = p;
      back = q;
      talks = talks;
      there = none_left B.now.heard talks.there A.now.words talks.there_is
          (sym n.handed ∙ c.there ∙ m.offered);
      answered = none_left A.now.heard talks.back B.now.words talks.back_is
          (sym m.handed ∙ c.back ∙ n.offered);
    }

pub quiet : (t : TrunkState) → KeepsTrunk t → is_quiet t.link ≡ true
    → IsQuiet t.first.kept t.second.kept
quiet t k still =
    let h = all_heard t k still in
    subst (λ r. IsQuiet r t.second.kept) (sym k.first.kept)
    (subst (λ r. IsQuiet (side_record k.near) r) (sym k.second.kept)
    (record {
      pair = h.pair;
      back = h.back;
      said = ap saids h.there ∙ sym k.second.half.holds.0.alone.given;
      answered = ap saids h.answered ∙ sym k.first.half.holds.0.alone.given;
    }))

-- ---- both ends agree

-- a link is quiet from either side
quiet_turned : (v : LinkState) → is_quiet v ≡ true → is_quiet (links.turned v) ≡ true
quiet_turned v still =
    by_four (length v.there == 0) (length v.back == 0) (not (has_work_in v.first.end))
    (not (has_work_in v.second.end)) still
  where
    by_four : (a b c d : Bool) → ((a && b) && (c && d)) ≡ true → ((b && a) && (d && c)) ≡ true
    by_four a b c d is = ap (λ x. x && (d && c)) (and_comm b a)
        ∙ ap (λ x. (a && b) && x) (and_comm d c) ∙ is

-- nothing is under way, so that each address is unused or known
settled : (own : Meaning) (met : Option Inc) → Stands own met [] [] → IsMetAs own met
settled own met (unused free none e t) = subst (λ m. IsMetAs m met) (sym free) none
settled own met (announced i r none e tells t) = absurd cc
settled own met (known i is tells aims) = subst (λ m. IsMetAs m met) (sym tells) is
settled own met (answered i closing none e acks) = absurd acks

-- no words are left of those that were all heard
none_there : (xs ys zs : List Word) → zs ≡ xs ++ ys → zs ≡ xs → ys ≡ []
none_there xs ys zs e is =
    append_cancel_left xs ys [] (sym e ∙ is ∙ sym (append-nil xs))

-- so both ends agree on each address of the near side
talks_agree : (A B : Talks) → AllHeard A B → (a : ℕ)
    → IsMetAs (meaning_of A.now.end.own a) (inc_met B.now.end.met a)
talks_agree A B h a =
    let p = h.talks in
    let none : p.there ≡ [] = none_there B.now.heard p.there A.now.words p.there_is h.there in
    let empty : p.back ≡ [] = none_there A.now.heard p.back B.now.words p.back_is h.answered in
    settled (meaning_of A.now.end.own a) (inc_met B.now.end.met a)
    (subst (λ w. Stands (meaning_of A.now.end.own a) (inc_met B.now.end.met a) (about a w) [])
    none (subst (λ w. Stands (meaning_of A.now.end.own a) (inc_met B.now.end.met a)
    (about a p.there) (toward a w)) empty (p.near a)))

near_ends : (t : TrunkState) → KeepsTrunk t → is_quiet t.link ≡ true → (a : ℕ)
    → IsMetAs (meaning_of t.first.end.tables.own a) (inc_met t.second.end.tables.met a)
near_ends t k still a =
    subst (λ (s : RlnhTables). IsMetAs (meaning_of s.own a)
    (inc_met t.second.end.tables.met a)) (sym k.first.tables)
    (subst (λ (s : RlnhTables). IsMetAs (meaning_of k.near.now.end.own a) (inc_met s.met a))
    (sym k.second.tables) (talks_agree k.near k.far (all_heard t k still) a))

pub quiet_ends : (t : TrunkState) → KeepsTrunk t → is_quiet t.link ≡ true → EndsAgree t
quiet_ends t k still =
    record {
      first = near_ends t k still;
      second = near_ends (turned t) (turned_keeps t k) (quiet_turned t.link still);
    }
