-- What an end hears is understood, and keeps what is kept.
use Rattle.std.proofs.Common.{◌≡◌, ℕ, Bool, true, false, ◌||◌, List, [], ◌∷◌, ◌++◌, Some, None, inl}
use Rattle.std.proofs.Common.{inr, map, refl, sym, ◌∙◌, ap, subst, append_assoc, append-nil}
use Rattle.std.proofs.Common.{true≢false, eq-eqb}
use Rattle.std.specs.List.{list_any}
use Rattle.std.proofs.lemmas.Bool.{or_cases}
use Rattle.std.proofs.lemmas.Option.{none-some, same_Some}
use Rattle.linx_base.specs.Peers.{same_inc}
use Rattle.rlnh_end.specs.declared.met_at.MetAt.{MetAt}
use Rattle.linx_base.specs.declared.identity.Inc.{Inc}
use Rattle.linx_base.specs.SigNotes.{SigNote}
use Rattle.link_addresses.specs.declared.meaning.Meaning.{Meaning}
use Rattle.link_addresses.specs.declared.meaning.Meaning.TheVariants.{Free, Live, Closing}
use Rattle.link_addresses.specs.Meanings.{meaning_of, with_meaning}
use Rattle.rlnh_end.specs.States.{addr_met, inc_met, with_met, without_met}
use Rattle.rlnh_laws.specs.Ties.{AreApart, announcing, signaling, withdrawing, signal_to}
use Rattle.rlnh_laws.specs.Ties.{confirming, about, toward, Talk, Alone, Pair, Speaks, Stands, Ties}
use Rattle.rlnh_laws.specs.Ties.{bearer}
use Rattle.rlnh_end.specs.Words.{Word, hello, hello_back, question, announce, tell, withdraw}
use Rattle.rlnh_end.specs.Words.{confirm}
use Rattle.rlnh_laws.specs.Meanings.{heard_of, said_by, saids, given_for, Understands}
use Rattle.rlnh_end.specs.Hearing.{Hearing, answers, heard_signal, hears, only}
use Rattle.rlnh_end.specs.declared.up.Up.{Up}
use Rattle.rlnh_end.specs.declared.up.Up.TheVariants.{Nothing, Arrived, Freed, Met, Gone}
use Rattle.trunk_record.specs.Sayings.{Given, heard_as, frees, was_unpublished}
use Rattle.rlnh_laws.specs.Talks.{heard_with, Right}
use Rattle.rlnh_laws.proofs.Standing.{stand_heard_publish, stand_heard_signal, stand_heard_close}
use Rattle.rlnh_laws.proofs.Standing.{stand_heard_ack, stand_heard_aimed}
use Rattle.rlnh_laws.proofs.Tying.{ties_says, ties_says_back, ties_heard_announce, ties_heard_tell}
use Rattle.rlnh_laws.proofs.Tying.{ties_heard_tell_back, ties_heard_withdraw, ties_heard_confirm}
use Rattle.trunk_record.proofs.Sayings.{same_inc-is}
use Rattle.rlnh_laws.proofs.Speaking.{saids-append, speaks_freed}
use Rattle.rlnh_laws.proofs.Meeting.{option_cases, met_both, met_bearer, apart_with, apart_without}

-- the pair: the word is no longer under way, and what was replied is
pair_hears : (e f : Talk) (w : Word) (r : Hearing) (rest : List Word) (p : Pair e f)
    → p.there ≡ w ∷ rest → Ties e.end.own r.made.tables.met rest (p.back ++ r.made.says)
    → Ties r.made.tables.own e.end.met (p.back ++ r.made.says) rest → Pair e (heard_with f w r)
pair_hears e f w r rest p q near far = record {
  there = rest;
  back = p.back ++ r.made.says;
  there_is = p.there_is ∙ ap (λ k. f.heard ++ k) q ∙ sym (append_assoc f.heard (w ∷ []) rest);
  back_is = ap (λ k. k ++ r.made.says) p.back_is ∙ append_assoc e.heard p.back r.made.says;
  near = near;
  far = far;
}

-- what is given for a word that is understood was heard as it was said
given_said : (w : Word) (u : Up) → Understands w u → map heard_as (given_for w u) ≡ said_by w
given_said (tell a i b j note) Nothing k = refl
given_said _ _ k = refl

map-append : (xs ys : List Given) → map heard_as (xs ++ ys) ≡ map heard_as xs ++ map heard_as ys
map-append [] ys = refl
map-append (x ∷ xs) ys = ap (λ k. heard_as x ∷ k) (map-append xs ys)

any-append : (j : Inc) (xs ys : List Given) → list_any (frees j) (xs ++ ys)
    ≡ (list_any (frees j) xs || list_any (frees j) ys)
any-append j [] ys = refl
any-append j (x ∷ xs) ys = by_test (frees j x) (any-append j xs ys)
  where
    by_test : (t : Bool) → list_any (frees j) (xs ++ ys)
        ≡ (list_any (frees j) xs || list_any (frees j) ys)
        → (t || list_any (frees j) (xs ++ ys)) ≡ ((t || list_any (frees j) xs) || list_any (frees j)
        ys)
    by_test true h = refl
    by_test false h = h

-- ---- the session alone
alone_hears : (f : Talk) (w : Word) (r : Hearing) → Alone f → Understands w r.up
    → Speaks r.made.tables.own (saids f.words) → AreApart r.made.tables.met
    → saids (f.words ++ r.made.says) ≡ saids f.words
    → ((j : Inc) → list_any (frees j) (given_for w r.up) ≡ true
    → was_unpublished j (saids f.words) ≡ true) → Alone (heard_with f w r)
alone_hears f w r k understood speaks apart silent frees_it = record {
  speaks = subst (λ s. Speaks r.made.tables.own s) (sym silent) speaks;
  apart = apart;
  given = map-append (given_for w r.up) f.given
      ∙ ap (λ m. m ++ map heard_as f.given) (given_said w r.up understood)
      ∙ ap (λ m. said_by w ++ m) k.given ∙ sym (saids-append f.heard (w ∷ []));
  frees_closed = λ j is. subst (λ s. was_unpublished j s ≡ true) (sym silent)
      (elim (or_cases (list_any (frees j) (given_for w r.up)) (list_any (frees j) f.given)
      (sym (any-append j (given_for w r.up) f.given) ∙ is)) [
        | inl now ↦ frees_it j now
        | inr was ↦ k.frees_closed j was
      ]);
}

silent_none : (ws : List Word) → saids (ws ++ []) ≡ saids ws
silent_none ws = ap saids (append-nil ws)

silent_word : (ws : List Word) (w : Word) → said_by w ≡ [] → saids (ws ++ w ∷ []) ≡ saids ws
silent_word ws w e = saids-append ws (w ∷ []) ∙ ap (λ k. k ++ saids ws) e

nothing_freed : (j : Inc) → false ≡ true → {X : Type 0} → X
nothing_freed j e = absurd (true≢false (sym e))

ties_nil : (own : List Meaning) (met : List MetAt) (there back : List Word)
    → Ties own met there back → Ties own met there (back ++ [])
ties_nil own met there back t = subst (λ k. Ties own met there k) (sym (append-nil back)) t

ties_nil_there : (own : List Meaning) (met : List MetAt) (there back : List Word)
    → Ties own met there back → Ties own met (there ++ []) back
ties_nil_there own met there back t = subst (λ k. Ties own met k back) (sym (append-nil there)) t

module _ (e f : Talk) (rest : List Word) (k : Alone e) (n : Alone f) (p : Pair e f) where
  -- words that concern no address
  hear_hello : p.there ≡ hello ∷ rest → Right e f hello (hears f.end (heard_of hello))
  unfolding hears
  hear_hello q = record {
    understands = refl;
    lives = λ y z m e. absurd cc;
    alone = alone_hears f hello (hears f.end (heard_of hello)) n refl n.speaks n.apart
        (silent_word f.words hello_back refl) (λ j is. nothing_freed j is);
    pair = pair_hears e f hello (hears f.end (heard_of hello)) rest p q
        (ties_says_back e.end.own f.end.met rest p.back hello_back (λ b. refl)
        (subst (λ t. Ties e.end.own f.end.met t p.back) q p.near))
        (ties_says f.end.own e.end.met p.back rest hello_back (λ b. refl)
        (subst (λ t. Ties f.end.own e.end.met p.back t) q p.far));
  }

  hear_hello_back : p.there ≡ hello_back ∷ rest
      → Right e f hello_back (hears f.end (heard_of hello_back))
  unfolding hears
  hear_hello_back q = record {
    understands = refl;
    lives = λ y z m e. absurd cc;
    alone = alone_hears f hello_back (hears f.end (heard_of hello_back)) n refl n.speaks n.apart
        (silent_none f.words) (λ j is. nothing_freed j is);
    pair = pair_hears e f hello_back (hears f.end (heard_of hello_back)) rest p q
        (ties_nil e.end.own f.end.met rest p.back (subst (λ t. Ties e.end.own f.end.met t p.back) q
        p.near))
        (ties_nil_there f.end.own e.end.met p.back rest
        (subst (λ t. Ties f.end.own e.end.met p.back t) q p.far));
  }

  hear_question : (v : List ℕ) → p.there ≡ question v ∷ rest
      → Right e f (question v) (hears f.end (heard_of (question v)))
  unfolding hears
  hear_question v q = record {
    understands = refl;
    lives = λ y z m e. absurd cc;
    alone = alone_hears f (question v) (hears f.end (heard_of (question v))) n refl n.speaks n.apart
        (silent_none f.words) (λ j is. nothing_freed j is);
    pair = pair_hears e f (question v) (hears f.end (heard_of (question v))) rest p q
        (ties_nil e.end.own f.end.met rest p.back (subst (λ t. Ties e.end.own f.end.met t p.back) q
        p.near))
        (ties_nil_there f.end.own e.end.met p.back rest
        (subst (λ t. Ties f.end.own e.end.met p.back t) q p.far));
  }

  -- PUBLISH
  module _ (a : ℕ) (i : Inc) (v : List ℕ) (q : p.there ≡ announce a i v ∷ rest) where
    announce_ties : Ties e.end.own f.end.met (announce a i v ∷ rest) p.back
    announce_ties = subst (λ t. Ties e.end.own f.end.met t p.back) q p.near

    announce_at : (inc_met f.end.met a ≡ None) × (bearer (meaning_of e.end.own a) ≡ Some i)
        × Stands (meaning_of e.end.own a) (Some i) (about a rest) (toward a p.back)
    announce_at =
        let was : Stands (meaning_of e.end.own a) (inc_met f.end.met a)
        (announcing i ∷ about a rest) (toward a p.back) =
        rw (eq-eqb a a refl) at (announce_ties a) in
        stand_heard_publish (meaning_of e.end.own a) i (inc_met f.end.met a) (about a rest)
        (toward a p.back) was

    -- the incarnation isn't met at another address
    not_met : addr_met f.end.met i ≡ None
    not_met = elim (option_cases (addr_met f.end.met i)) [
      | inl none ↦ none
      | inr some ↦
          let b = some.0 in
          let is : inc_met f.end.met b ≡ Some i = met_both f.end.met i b n.apart some.1 in
          let whose : bearer (meaning_of e.end.own b) ≡ Some i =
          met_bearer (meaning_of e.end.own b) i (inc_met f.end.met b)
          (about b (announce a i v ∷ rest)) (toward b p.back) is (announce_ties b) in
          let same : a ≡ b = k.speaks.apart a b i announce_at.1 whose in
          absurd (none-some i (sym (subst (λ c. inc_met f.end.met c ≡ None) same announce_at.0)
          ∙ is))
    ]

    abbrev reply_met : Hearing
    reply_met = only (record f.end { met = with_met f.end.met a i }) (Met i v)

    met_now : reply_met ≡ hears f.end (heard_of (announce a i v))
    unfolding hears
    met_now = rw (announce_at.0, not_met) refl

    hear_announce : Right e f (announce a i v) (hears f.end (heard_of (announce a i v)))
    hear_announce = subst (λ r. Right e f (announce a i v) r) met_now (record {
      understands = refl;
      lives = λ y z m e. absurd cc;
      alone = alone_hears f (announce a i v) reply_met n refl n.speaks
          (apart_with f.end.met a i n.apart announce_at.0 not_met) (silent_none f.words)
          (λ j is. nothing_freed j is);
      pair = pair_hears e f (announce a i v) reply_met rest p q
          (ties_nil e.end.own reply_met.made.tables.met rest p.back
          (ties_heard_announce e.end.own f.end.met rest p.back a i v announce_at.0
          announce_ties))
          (ties_nil_there f.end.own e.end.met p.back rest
          (subst (λ t. Ties f.end.own e.end.met p.back t) q p.far));
    })

  -- UNPUBLISH
  module _ (a : ℕ) (i : Inc) (q : p.there ≡ withdraw a i ∷ rest) where
    withdraw_ties : Ties e.end.own f.end.met (withdraw a i ∷ rest) p.back
    withdraw_ties = subst (λ t. Ties e.end.own f.end.met t p.back) q p.near

    withdraw_at : inc_met f.end.met a ≡ Some i
    withdraw_at =
        let was : Stands (meaning_of e.end.own a) (inc_met f.end.met a)
        (withdrawing i ∷ about a rest) (toward a p.back) =
        rw (eq-eqb a a refl) at (withdraw_ties a) in
        (stand_heard_close (meaning_of e.end.own a) i (inc_met f.end.met a) (about a rest)
        (toward a p.back) was).0

    abbrev reply_gone : Hearing
    reply_gone = answers (record f.end { met = without_met f.end.met a }) (confirm a ∷ []) (Gone i)

    gone_now : reply_gone ≡ hears f.end (heard_of (withdraw a i))
    unfolding hears
    gone_now = rw withdraw_at refl

    hear_withdraw : Right e f (withdraw a i) (hears f.end (heard_of (withdraw a i)))
    hear_withdraw = subst (λ r. Right e f (withdraw a i) r) gone_now (record {
      understands = refl;
      lives = λ y z m e. absurd cc;
      alone = alone_hears f (withdraw a i) reply_gone n refl n.speaks
          (apart_without f.end.met a n.apart) (silent_word f.words (confirm a) refl)
          (λ j is. nothing_freed j is);
      pair = pair_hears e f (withdraw a i) reply_gone rest p q
          (ties_heard_withdraw e.end.own f.end.met rest p.back a i n.apart withdraw_ties)
          (ties_says f.end.own e.end.met p.back rest (confirm a) (λ b. refl)
          (subst (λ t. Ties f.end.own e.end.met p.back t) q p.far));
    })

  -- UNPUBLISH_ACK
  module _ (a : ℕ) (q : p.there ≡ confirm a ∷ rest) where
    confirm_ties : Ties f.end.own e.end.met p.back (confirm a ∷ rest)
    confirm_ties = subst (λ t. Ties f.end.own e.end.met p.back t) q p.far

    confirm_at : (i : Inc) × (meaning_of f.end.own a ≡ Closing i)
    confirm_at =
        let was : Stands (meaning_of f.end.own a) (inc_met e.end.met a) (about a p.back)
        (confirming ∷ toward a rest) = rw (eq-eqb a a refl) at (confirm_ties a) in
        let s = stand_heard_ack (meaning_of f.end.own a) (inc_met e.end.met a) (about a p.back)
        (toward a rest) was in
        (s.0, s.1)

    abbrev reply_freed : Hearing
    reply_freed = only (record f.end { own = with_meaning f.end.own a Free }) Nothing

    freed_now : reply_freed ≡ hears f.end (heard_of (confirm a))
    unfolding hears
    freed_now = rw confirm_at.1 refl

    hear_confirm : Right e f (confirm a) (hears f.end (heard_of (confirm a)))
    hear_confirm = subst (λ r. Right e f (confirm a) r) freed_now (record {
      understands = refl;
      lives = λ y z m e. absurd cc;
      alone = alone_hears f (confirm a) reply_freed n refl
          (speaks_freed f.end.own (saids f.words) a confirm_at.0 confirm_at.1 n.speaks) n.apart
          (silent_none f.words) (λ j is. nothing_freed j is);
      pair = pair_hears e f (confirm a) reply_freed rest p q
          (ties_nil e.end.own f.end.met rest p.back
          (subst (λ t. Ties e.end.own f.end.met t p.back) q p.near))
          (ties_nil_there (with_meaning f.end.own a Free) e.end.met p.back rest
          (ties_heard_confirm f.end.own e.end.met p.back rest a confirm_at.0 confirm_at.1
          confirm_ties));
    })

  -- A SIGNAL
  module _ (a c : ℕ) (i j : Inc) (note : SigNote) (q : p.there ≡ tell a i c j note ∷ rest) where
    tell_near : Ties e.end.own f.end.met (tell a i c j note ∷ rest) p.back
    tell_near = subst (λ t. Ties e.end.own f.end.met t p.back) q p.near

    tell_far : Ties f.end.own e.end.met p.back (tell a i c j note ∷ rest)
    tell_far = subst (λ t. Ties f.end.own e.end.met p.back t) q p.far

    from_at : inc_met f.end.met a ≡ Some i
    from_at =
        let was : Stands (meaning_of e.end.own a) (inc_met f.end.met a) (signaling i ∷ about a rest)
        (toward a p.back) = rw (eq-eqb a a refl) at (tell_near a) in
        (stand_heard_signal (meaning_of e.end.own a) i (inc_met f.end.met a) (about a rest)
        (toward a p.back) was).0

    to_at : bearer (meaning_of f.end.own c) ≡ Some j
    to_at =
        let was : Stands (meaning_of f.end.own c) (inc_met e.end.met c) (about c p.back)
        (signal_to j ∷ toward c rest) = rw (eq-eqb c c refl) at (tell_far c) in
        (stand_heard_aimed (meaning_of f.end.own c) j (inc_met e.end.met c) (about c p.back)
        (toward c rest) was).0

    tell_pair : (u : Up) → Pair e (heard_with f (tell a i c j note) (only f.end u))
    tell_pair u = pair_hears e f (tell a i c j note) (only f.end u) rest p q
        (ties_nil e.end.own f.end.met rest p.back (ties_heard_tell e.end.own f.end.met rest p.back a
        c i j note tell_near))
        (ties_nil_there f.end.own e.end.met p.back rest
        (ties_heard_tell_back f.end.own e.end.met p.back rest a c i j note tell_far))

    by_meaning : (m : Meaning) → meaning_of f.end.own c ≡ m → bearer m ≡ Some j
        → Right e f (tell a i c j note) (heard_signal f.end note (Some i) m)
    by_meaning Free is b = absurd (none-some j b)
    by_meaning (Live x) is b =
        let same : x ≡ j = same_Some x j b in
        subst (λ y. Right e f (tell a i c j note) (only f.end (Arrived i y note))) (sym same)
        (record {
          understands = refl;
          lives = λ y z m e. let at : j ≡ z = (let q : Arrived i j note ≡ Arrived y z m = e in
              cc) in n.speaks.live c z (is ∙ ap Live (same ∙ at));
          alone = alone_hears f (tell a i c j note) (only f.end (Arrived i j note)) n refl n.speaks
              n.apart (silent_none f.words) (λ y freed_it. nothing_freed y freed_it);
          pair = tell_pair (Arrived i j note);
        })
    by_meaning (Closing x) is b =
        let same : x ≡ j = same_Some x j b in
        subst (λ y. Right e f (tell a i c j note) (only f.end (Freed i y note))) (sym same)
        (record {
          understands = refl;
          lives = λ y z m e. absurd cc;
          alone = alone_hears f (tell a i c j note) (only f.end (Freed i j note)) n refl n.speaks
              n.apart (silent_none f.words) (λ y freed_it.
              elim (or_cases (same_inc y j) false freed_it) [
                | inl at ↦ n.speaks.closing c y (is ∙ ap Closing (same ∙ sym (same_inc-is y j at)))
                | inr none ↦ absurd (true≢false (sym none))
              ]);
          pair = tell_pair (Freed i j note);
        })

    tell_now : heard_signal f.end note (Some i) (meaning_of f.end.own c)
        ≡ hears f.end (heard_of (tell a i c j note))
    unfolding hears
    tell_now = rw from_at refl

    hear_tell : Right e f (tell a i c j note) (hears f.end (heard_of (tell a i c j note)))
    hear_tell = subst (λ r. Right e f (tell a i c j note) r) tell_now
        (by_meaning (meaning_of f.end.own c) refl to_at)

-- ---- the next word under way is understood, and all is kept
pub hears_right : (e f : Talk) (w : Word) (rest : List Word) (k : Alone e) (n : Alone f)
    (p : Pair e f) → p.there ≡ w ∷ rest → Right e f w (hears f.end (heard_of w))
hears_right e f hello rest k n p q = hear_hello e f rest k n p q
hears_right e f hello_back rest k n p q = hear_hello_back e f rest k n p q
hears_right e f (question v) rest k n p q = hear_question e f rest k n p v q
hears_right e f (announce a i v) rest k n p q = hear_announce e f rest k n p a i v q
hears_right e f (tell a i c j note) rest k n p q = hear_tell e f rest k n p a c i j note q
hears_right e f (withdraw a i) rest k n p q = hear_withdraw e f rest k n p a i q
hears_right e f (confirm a) rest k n p q = hear_confirm e f rest k n p a q
