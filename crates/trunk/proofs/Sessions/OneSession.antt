-- What holds of a session, whatever the other side does, through what its end says and hears.
use Rattle.std.proofs.Common.{◌≡◌, ◌≢◌, ◌<◌, ◌≤◌, ◌+◌, ◌||◌, ℕ, zero, suc, Bool, true, false, List}
use Rattle.std.proofs.Common.{[], ◌∷◌, ◌++◌, Option, Some, None, inl, inr, arith, refl, sym, ◌∙◌}
use Rattle.std.proofs.Common.{ap, cond, subst, if◌then◌else◌, is_some, IsTrue, ◌^◌, true≢false}
use Rattle.std.proofs.lemmas.Bool.{false_from_ne_true}
use Rattle.std.proofs.lemmas.Bool.Decides.{eqb_tells}
use Rattle.std.proofs.lemmas.List.Sums.{sum_by-cons}
use Rattle.std.specs.List.{AllByRecursion, list_any}
use Rattle.std.proofs.lemmas.Option.{none-some}
use Rattle.linx_base.specs.NameText.{is_name}
use Rattle.linx_base.specs.declared.identity.Inc.{Inc}
use Rattle.linx_base.specs.declared.identity.Session.{Session}
use Rattle.linx_base.specs.SigNotes.{SigNote}
use Rattle.link_addresses.specs.declared.meaning.Meaning.{Meaning}
use Rattle.link_addresses.specs.declared.meaning.Meaning.TheVariants.{Free, Live, Closing}
use Rattle.link_addresses.specs.Meanings.{ChangesMeaning, address_of, lowest_free, meaning_of}
use Rattle.link_addresses.specs.Meanings.{is_used, used_in, with_lowest, with_meaning}
use Rattle.link_addresses.specs.Meanings.{HasAddressLeft}
use Rattle.link_addresses.proofs.Indexing.{address_found}
use Rattle.link_addresses.proofs.Lists.{changes_at, closing_taken, live_taken}
use Rattle.rlnh_messages.specs.Messages.{IsAddress}
use Rattle.rlnh_messages.specs.Signals.{IsSignal}
use Rattle.trunk_record.specs.Sayings.{AreInTurn, Said, frees, is_live, published, signaled}
use Rattle.trunk_record.specs.Sayings.{unpublished}
use Rattle.trunk_record.proofs.Sayings.{live-not_unpublished}
use Rattle.rlnh_end.specs.declared.up.Up.{Up}
use Rattle.rlnh_end.specs.declared.up.Up.TheVariants.{Nothing, Arrived, Freed, Met, Gone}
use Rattle.rlnh_end.specs.declared.up.Up.TheVariants.{Bad}
use Rattle.rlnh_end.specs.States.{RlnhTables, addr_met, inc_met, is_noted, no_tables, with_met}
use Rattle.rlnh_end.specs.States.{with_note, without_met, without_note}
use Rattle.rlnh_end.specs.Words.{Word, hello, hello_back, question, announce, tell, withdraw}
use Rattle.rlnh_end.specs.Words.{confirm}
use Rattle.rlnh_end.specs.Calls.{Saying, announced, close_of, closed, publish_sender_of, opened_of}
use Rattle.rlnh_end.specs.Calls.{end_saying, publish_of, query_of, send_of, then_signals, told}
use Rattle.rlnh_end.specs.Hearing.{Hearing, heard_ack, heard_signal, heard_unpublish, hears, only}
use Rattle.rlnh_laws.specs.Meanings.{Understands, given_for, heard_of, said_by, saids}
use Rattle.rlnh_laws.specs.Ties.{Alone, AreApart, Talk}
use Rattle.rlnh_laws.specs.Talks.{Right, heard_word, said_more}
use Rattle.rlnh_laws.proofs.Meeting.{met_both, option_cases, with_other, without_here}
use Rattle.rlnh_laws.proofs.Meeting.{without_other}
use Rattle.link_addresses.proofs.Lists.{lowest_changes}
use Rattle.rlnh_laws.proofs.Speaking.{saids-append}
use Rattle.trunk.specs.Talks.{FitsTables, FitsWord, IsSoundSession, MeetsLive, fresh_talk}
use Rattle.trunk.proofs.Sessions.MetPeers.{meets_less, meets_more, meets_none}

-- ---- addresses that fit

-- an address that changed to what isn't live
changed_fits : (old new : List Meaning) (a : ℕ) (m : Meaning) → ChangesMeaning old new a m
    → ((i : Inc) → m ≢ Live i) → ((b : ℕ) (i : Inc) → meaning_of old b ≡ Live i → IsAddress b)
    → (b : ℕ) (i : Inc) → meaning_of new b ≡ Live i → IsAddress b
changed_fits old new a m change dead fits b i e =
    elim (eqb_tells b a) [
      | inl here ↦
          absurd (dead i (sym change.here ∙ ap (meaning_of new) (sym here.1) ∙ e))
      | inr away ↦ fits b i (sym (change.others b away.1) ∙ e)
    ]

changed_live : (old new : List Meaning) (a : ℕ) (m : Meaning) → ChangesMeaning old new a m
    → IsAddress a → ((b : ℕ) (i : Inc) → meaning_of old b ≡ Live i → IsAddress b)
    → (b : ℕ) (i : Inc) → meaning_of new b ≡ Live i → IsAddress b
changed_live old new a m change is fits b i e =
    elim (eqb_tells b a) [
      | inl here ↦ subst IsAddress (sym here.1) is
      | inr away ↦ fits b i (sym (change.others b away.1) ∙ e)
    ]

-- the lowest free address is no more than one above the number of the used ones
lowest_bound : (ms : List Meaning) → (0 < lowest_free ms) × (lowest_free ms ≤ used_in ms + 1)
unfolding lowest_free
lowest_bound [] = (omega arith, omega arith)
lowest_bound (Free ∷ ms) = (omega arith, omega arith)
lowest_bound (Live i ∷ ms) =
    let rest = (lowest_bound ms).1 in
    (omega arith, omega (arith, sum_by-cons (λ m. cond (is_used m) 1 0) (Live i) ms))
lowest_bound (Closing i ∷ ms) =
    let rest = (lowest_bound ms).1 in
    (omega arith, omega (arith, sum_by-cons (λ m. cond (is_used m) 1 0) (Closing i) ms))

lowest_address : (ms : List Meaning) → HasAddressLeft ms → IsAddress (lowest_free ms)
lowest_address ms few =
    let bound = lowest_bound ms in
    let above = bound.0 in
    let below = bound.1 in
    (above, omega arith)

-- ---- what an end says of its own accord

pub all_words : (xs ys : List Word) → AllByRecursion FitsWord xs → AllByRecursion FitsWord ys
    → AllByRecursion FitsWord (xs ++ ys)
all_words [] ys h k = k
all_words (x ∷ xs) ys h k = (h.0, all_words xs ys h.1 k)

-- what was said fits, and so do the tables; the peers that were met stay
pub record SaysSoundly (t : RlnhTables) (made : Saying) : Type 0 where
  pub says : AllByRecursion FitsWord made.says
  pub tables : FitsTables made.tables
  pub met : made.tables.met ≡ t.met

fits_own : (t : RlnhTables) (own : List Meaning) (noted : List (List ℕ)) → FitsTables t
    → ((a : ℕ) (i : Inc) → meaning_of own a ≡ Live i → IsAddress a)
    → FitsTables (record { own = own; met = t.met; noted = noted })
fits_own t own noted fits is = record { own = is; met = fits.met }

pub publish_sound : (t : RlnhTables) (i : Inc) (v : List ℕ) → FitsTables t
    → HasAddressLeft t.own → i.0 < 2 ^ 64 → IsTrue (is_name v)
    → SaysSoundly t (publish_of t i v)
publish_sound t i v fits few inc name = by_address (address_of t.own i)
  where
    lowest : IsAddress (lowest_free t.own)
    lowest = lowest_address t.own few

    by_address : (o : Option ℕ)
        → SaysSoundly t (announced (record t { noted = without_note t.noted v }) i v o)
    by_address (Some a) =
        record {
          says = tt;
          tables = fits_own t t.own (without_note t.noted v) fits fits.own;
          met = refl;
        }
    by_address None =
        record {
          says = (
            record { has_address = lowest.0; fits_fields = (lowest.1, inc, name) },
            tt,
          );
          tables = fits_own t (with_lowest t.own (Live i)) (without_note t.noted v) fits
              (changed_live t.own (with_lowest t.own (Live i)) (lowest_free t.own) (Live i)
              (lowest_changes t.own (Live i)) lowest fits.own);
          met = refl;
        }

says_nothing : (t : RlnhTables) → FitsTables t → SaysSoundly t (end_saying t [])
says_nothing t fits = record { says = tt; tables = fits; met = refl }

pub opened_sound : (t : RlnhTables) (i : Inc) (v : List ℕ) → FitsTables t
    → HasAddressLeft t.own → i.0 < 2 ^ 64 → IsTrue (is_name v)
    → SaysSoundly t (opened_of t i v)
opened_sound t i v fits few inc name =
    elim (is_noted t.noted v)
    as (λ k. SaysSoundly t (if k then publish_of t i v else end_saying t []))
    [ true ↦ publish_sound t i v fits few inc name | false ↦ says_nothing t fits ]

pub query_sound : (t : RlnhTables) (v : List ℕ) → FitsTables t → IsTrue (is_name v)
    → SaysSoundly t (query_of t v)
query_sound t v fits name =
    record {
      says = (record { has_address = tt; fits_fields = name }, tt);
      tables = fits;
      met = refl;
    }

pub close_sound : (t : RlnhTables) (i : Inc) → FitsTables t → SaysSoundly t (close_of t i)
close_sound t i fits = by_address (address_of t.own i) refl
  where
    by_address : (o : Option ℕ) → address_of t.own i ≡ o → SaysSoundly t (closed t i o)
    by_address None is = says_nothing t fits
    by_address (Some a) is =
        let live : meaning_of t.own a ≡ Live i = address_found t.own i a is in
        let fit = fits.own a i live in
        record {
          says = (record { has_address = fit.0; fits_fields = fit.1 }, tt);
          tables = fits_own t (with_meaning t.own a (Closing i)) t.noted fits
              (changed_fits t.own (with_meaning t.own a (Closing i)) a (Closing i)
              (changes_at t.own a (Closing i) (live_taken t.own a i live))
              (λ j e. absurd cc) fits.own);
          met = refl;
        }

-- a signal behind what was said
tell_sound : (t : RlnhTables) (made : Saying) (i j : Inc) (note : SigNote) → SaysSoundly t made
    → AreApart t.met → IsSignal note → SaysSoundly t (then_signals made i j note)
tell_sound t made i j note s apart is =
    record {
      says = all_words made.says
          (told (address_of made.tables.own i) i (addr_met made.tables.met j) j note) s.says
          (by_both (address_of made.tables.own i) (addr_met made.tables.met j) refl refl);
      tables = s.tables;
      met = s.met;
    }
  where
    by_both : (o p : Option ℕ) → address_of made.tables.own i ≡ o
        → addr_met made.tables.met j ≡ p → AllByRecursion FitsWord (told o i p j note)
    by_both None p e q = tt
    by_both (Some a) None e q = tt
    by_both (Some a) (Some b) e q =
        let from = s.tables.own a i (address_found made.tables.own i a e) in
        let to = s.tables.met b j (met_both made.tables.met j b
        (subst AreApart (sym s.met) apart) q) in
        ((from.0, to.0, is), tt)

pub send_sound : (t : RlnhTables) (i j : Inc) (v : List ℕ) (note : SigNote) → FitsTables t
    → AreApart t.met → HasAddressLeft t.own → i.0 < 2 ^ 64 → IsTrue (is_name v)
    → IsSignal note → SaysSoundly t (send_of t i v j note)
send_sound t i j v note fits apart few inc name is =
    tell_sound t (publish_sender_of t i v (address_of t.own i)) i j note
    (by_address (address_of t.own i)) apart is
  where
    by_address : (o : Option ℕ) → SaysSoundly t (publish_sender_of t i v o)
    by_address (Some a) = says_nothing t fits
    by_address None = publish_sound t i v fits few inc name

-- a session that says so is sound
pub said_sound : (e : Talk) (made : Saying) → IsSoundSession e → SaysSoundly e.end made
    → IsSoundSession (said_more e made)
said_sound e made s m =
    record {
      words = all_words e.words made.says s.words m.says;
      tables = m.tables;
      meets = subst (λ met. MeetsLive met (saids e.heard)) (sym m.met) s.meets;
      in_turn = s.in_turn;
    }

-- ---- nothing happened as yet

no_live : (a : ℕ) (i : Inc) → meaning_of [] a ≡ Live i → ⊥
no_live zero i e = absurd cc
no_live (suc k) i e = absurd cc

pub fits_none : FitsTables no_tables
fits_none = record { own = λ a i e. absurd (no_live a i e); met = λ a i e. absurd cc }

pub fresh_sound : (x : Session) → IsSoundSession (fresh_talk x)
fresh_sound x =
    record { words = tt; tables = fits_none; meets = meets_none; in_turn = tt }

-- ---- what an end hears

-- what is replied fits, and so do the tables; the peers that are met are live by what was heard
pub record HearsSoundly (heard : List Said) (r : Hearing) : Type 0 where
  pub says : AllByRecursion FitsWord r.made.says
  pub tables : FitsTables r.made.tables
  pub meets : MeetsLive r.made.tables.met heard

hears_only : (t : RlnhTables) (heard : List Said) (u : Up) → FitsTables t
    → MeetsLive t.met heard → HearsSoundly heard (only t u)
hears_only t heard u fits meets = record { says = tt; tables = fits; meets = meets }

-- the same end, but for the names that it was asked for
fits_noted : (t : RlnhTables) (noted : List (List ℕ)) → FitsTables t
    → FitsTables (record t { noted = noted })
fits_noted t noted fits = record { own = fits.own; met = fits.met }

-- PUBLISH
abbrev published_by : RlnhTables → ℕ → Inc → List ℕ → Bool → Hearing
published_by t a i v taken =
    if taken then only t Bad else only (record t { met = with_met t.met a i }) (Met i v)

fits_more : (t : RlnhTables) (a : ℕ) (i : Inc) → FitsTables t → IsAddress a
    → FitsTables (record t { met = with_met t.met a i })
fits_more t a i fits is =
    record {
      own = fits.own;
      met = λ b j e. elim (eqb_tells b a) [
        | inl here ↦ subst IsAddress (sym here.1) is
        | inr away ↦ fits.met b j (with_other t.met a i b (λ q. away.1 (sym q)) ∙ e)
      ];
    }

hears_publish : (t : RlnhTables) (heard : List Said) (a : ℕ) (i : Inc) (v : List ℕ)
    → FitsTables t → MeetsLive t.met heard → IsAddress a → (taken : Bool)
    → (is_some (inc_met t.met a) || is_some (addr_met t.met i)) ≡ taken
    → (published_by t a i v taken).up ≡ Met i v
    → HearsSoundly (published i v ∷ heard) (published_by t a i v taken)
hears_publish t heard a i v fits meets is true e u = absurd cc
hears_publish t heard a i v fits meets is false e u =
    record {
      says = tt;
      tables = fits_more t a i fits is;
      meets = meets_more t.met heard a i v meets free;
    }
  where
    free : inc_met t.met a ≡ None
    free = elim (option_cases (inc_met t.met a)) [
      | inl none ↦ none
      | inr some ↦
          absurd (true≢false (sym (ap (λ o. is_some o || is_some (addr_met t.met i)) some.1) ∙ e))
    ]

-- UNPUBLISH
fits_less : (t : RlnhTables) (a : ℕ) → FitsTables t → AreApart t.met
    → FitsTables (record t { met = without_met t.met a })
fits_less t a fits apart =
    record {
      own = fits.own;
      met = λ b j e. elim (eqb_tells b a) [
        | inl here ↦
            let gone : inc_met (without_met t.met a) b ≡ None =
            ap (inc_met (without_met t.met a)) here.1 ∙ without_here t.met a apart in
            absurd (none-some j (sym gone ∙ e))
        | inr away ↦ fits.met b j (without_other t.met a b (λ q. away.1 (sym q)) ∙ e)
      ];
    }

hears_unpublish : (t : RlnhTables) (heard : List Said) (a : ℕ) (i : Inc) → FitsTables t
    → MeetsLive t.met heard → AreApart t.met → IsAddress a → (o : Option Inc)
    → inc_met t.met a ≡ o → (heard_unpublish t a o).up ≡ Gone i
    → HearsSoundly (unpublished i ∷ heard) (heard_unpublish t a o)
hears_unpublish t heard a i fits meets apart is None at u = absurd cc
hears_unpublish t heard a i fits meets apart is (Some j) at u =
    let same : j ≡ i = cc in
    record {
      says = (record { has_address = is.0; fits_fields = is.1 }, tt);
      tables = fits_less t a fits apart;
      meets = meets_less t.met heard a i meets apart (at ∙ ap Some same);
    }

-- UNPUBLISH_ACK
hears_ack : (t : RlnhTables) (heard : List Said) (a : ℕ) → FitsTables t
    → MeetsLive t.met heard → (m : Meaning) → meaning_of t.own a ≡ m
    → HearsSoundly heard (heard_ack t a m)
hears_ack t heard a fits meets Free at = hears_only t heard Bad fits meets
hears_ack t heard a fits meets (Live i) at = hears_only t heard Bad fits meets
hears_ack t heard a fits meets (Closing i) at =
    let own = with_meaning t.own a Free in
    record {
      says = tt;
      tables = fits_own t own t.noted fits
          (changed_fits t.own own a Free (changes_at t.own a Free (closing_taken t.own a i at))
          (λ j e. absurd cc) fits.own);
      meets = meets;
    }

-- a signal
hears_note : (t : RlnhTables) (heard : List Said) (note : SigNote) → FitsTables t
    → MeetsLive t.met heard → (o : Option Inc) (m : Meaning)
    → HearsSoundly heard (heard_signal t note o m)
hears_note t heard note fits meets None m = hears_only t heard Bad fits meets
hears_note t heard note fits meets (Some i) Free = hears_only t heard Bad fits meets
hears_note t heard note fits meets (Some i) (Live j) =
    hears_only t heard (Arrived i j note) fits meets
hears_note t heard note fits meets (Some i) (Closing j) =
    hears_only t heard (Freed i j note) fits meets

-- a word
pub hears_word : (t : RlnhTables) (heard : List Said) (w : Word) → FitsTables t
    → MeetsLive t.met heard → AreApart t.met → FitsWord w
    → Understands w (hears t (heard_of w)).up
    → HearsSoundly (said_by w ++ heard) (hears t (heard_of w))
unfolding hears
hears_word t heard hello fits meets apart is u =
    record {
      says = (record { has_address = tt; fits_fields = tt }, tt);
      tables = fits;
      meets = meets;
    }
hears_word t heard hello_back fits meets apart is u = hears_only t heard Nothing fits meets
hears_word t heard (question v) fits meets apart is u =
    record {
      says = tt;
      tables = fits_noted t (with_note t.noted v) fits;
      meets = record { lives = meets.lives; found = meets.found };
    }
hears_word t heard (announce a i v) fits meets apart is u =
    hears_publish t heard a i v fits meets (is.has_address, is.fits_fields.0)
    (is_some (inc_met t.met a) || is_some (addr_met t.met i)) refl u
hears_word t heard (tell a i b j note) fits meets apart is u =
    hears_note t (signaled i j note ∷ heard) note fits
    (record { lives = meets.lives; found = meets.found }) (inc_met t.met a) (meaning_of t.own b)
hears_word t heard (withdraw a i) fits meets apart is u =
    hears_unpublish t heard a i fits meets apart (is.has_address, is.fits_fields)
    (inc_met t.met a) refl u
hears_word t heard (confirm a) fits meets apart is u =
    hears_ack t heard a fits meets (meaning_of t.own a) refl

-- what is given for a word comes in turn
turns : (f : Talk) (w : Word) (u : Up) → Alone f → Understands w u
    → ((x y : Inc) (note : SigNote) → u ≡ Arrived x y note → is_live y (saids f.words) ≡ true)
    → AreInTurn f.given → AreInTurn (given_for w u ++ f.given)
turns f (tell a i b j note) (Freed x y n) k is lives turn = turn
turns f (tell a i b j note) (Arrived x y n) k is lives turn = (
  false_from_ne_true (list_any (frees j) f.given) (λ freed.
      true≢false (sym (k.frees_closed j freed)
      ∙ live-not_unpublished j (saids f.words) k.speaks.proper (lives i j note is))),
  turn,
)
turns f (tell a i b j note) _ k is lives turn = absurd cc
turns f _ u k is lives turn = turn

-- a session that heard a word is sound
pub heard_sound : (e f : Talk) (w : Word) → IsSoundSession f → Alone f → FitsWord w
    → Right e f w (hears f.end (heard_of w)) → IsSoundSession (heard_word f w)
heard_sound e f w s k is right =
    let r = hears f.end (heard_of w) in
    let h = hears_word f.end (saids f.heard) w s.tables s.meets k.apart is right.understands in
    record {
      words = all_words f.words r.made.says s.words h.says;
      tables = h.tables;
      meets = subst (λ said. MeetsLive r.made.tables.met said)
          (sym (saids-append f.heard (w ∷ []))) h.meets;
      in_turn = turns f w r.up k right.understands right.lives s.in_turn;
    }
