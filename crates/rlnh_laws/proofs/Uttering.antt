-- What an end says of its own accord keeps what is kept.
use Rattle.std.proofs.Common.{◌≡◌, true, List, [], ◌∷◌, ◌++◌, refl, sym, ◌∙◌, ap, subst}
use Rattle.std.proofs.Common.{append_assoc, append-nil}
use Rattle.std.specs.List.{list_any}
use Rattle.std.proofs.lemmas.Bool.{or_right}
use Rattle.std.proofs.lemmas.List.Folds.{list_any-append}
use Rattle.rlnh_end.specs.declared.met_at.MetAt.{MetAt}
use Rattle.linx_base.specs.declared.identity.Inc.{Inc}
use Rattle.link_addresses.specs.declared.meaning.Meaning.{Meaning}
use Rattle.rlnh_end.specs.States.{RlnhTables}
use Rattle.rlnh_laws.specs.Ties.{AreApart, Talk, Alone, Pair, Speaks, Ties}
use Rattle.rlnh_end.specs.Words.{Word, hello, hello_back, question, announce, tell, withdraw}
use Rattle.rlnh_end.specs.Words.{confirm}
use Rattle.rlnh_laws.specs.Meanings.{said_by, saids}
use Rattle.trunk_record.specs.Sayings.{Said, unpublishes, was_unpublished}
use Rattle.rlnh_laws.specs.Talks.{Utters, Grows}
use Rattle.rlnh_laws.proofs.Tying.{ties_says, ties_says_back, ties_announce, ties_tell}
use Rattle.rlnh_laws.proofs.Tying.{ties_tell_back, ties_withdraw}
use Rattle.rlnh_laws.proofs.Speaking.{saids-append, speaks_publish, speaks_close, speaks_signal}
use Rattle.rlnh_laws.proofs.Speaking.{speaks_question}

abbrev pub uttered : Talk → RlnhTables → Word → Talk
uttered e t w = record e { words = e.words ++ w ∷ []; end = t }

-- what a session says, once a word more
utter_speaks : (s t : RlnhTables) (said : List Said) (w : Word) → Utters s said t w
    → Speaks s.own said → Speaks t.own (said_by w ++ said)
utter_speaks s t said hello u k = subst (λ o. Speaks o said) (sym u.0) k
utter_speaks s t said hello_back u k = absurd u
utter_speaks s t said (question v) u k = subst (λ o. Speaks o (said_by (question v) ++ said))
    (sym u.0) (speaks_question s.own said v k)
utter_speaks s t said (announce a i v) u k = speaks_publish s.own t.own said a i v u.0 u.1 k u.2 u.3
utter_speaks s t said (tell a i c j note) u k =
    subst (λ o. Speaks o (said_by (tell a i c j note) ++ said)) (sym u.0)
    (speaks_signal s.own said a i j note u.2 k)
utter_speaks s t said (withdraw a i) u k = subst (λ o. Speaks o (said_by (withdraw a i) ++ said))
    (sym u.1) (speaks_close s.own said a i u.0 k)
utter_speaks s t said (confirm a) u k = absurd u

utter_met : (s t : RlnhTables) (said : List Said) (w : Word) → Utters s said t w → t.met ≡ s.met
utter_met s t said hello u = u.1
utter_met s t said hello_back u = absurd u
utter_met s t said (question v) u = u.1
utter_met s t said (announce a i v) u = u.4
utter_met s t said (tell a i c j note) u = u.1
utter_met s t said (withdraw a i) u = u.2
utter_met s t said (confirm a) u = absurd u

utter_near : (s t : RlnhTables) (said : List Said) (w : Word) (met : List MetAt)
    (there back : List Word) → Utters s said t w → Ties s.own met there back
    → Ties t.own met (there ++ w ∷ []) back
utter_near s t said hello met there back u k =
    subst (λ o. Ties o met (there ++ hello ∷ []) back) (sym u.0)
    (ties_says s.own met there back hello (λ b. refl) k)
utter_near s t said hello_back met there back u k = absurd u
utter_near s t said (question v) met there back u k =
    subst (λ o. Ties o met (there ++ question v ∷ []) back) (sym u.0)
    (ties_says s.own met there back (question v) (λ b. refl) k)
utter_near s t said (announce a i v) met there back u k =
    ties_announce s.own t.own met there back a i v u.0 u.1 k
utter_near s t said (tell a i c j note) met there back u k =
    subst (λ o. Ties o met (there ++ tell a i c j note ∷ []) back) (sym u.0)
    (ties_tell s.own met there back a c i j note u.2 k)
utter_near s t said (withdraw a i) met there back u k =
    subst (λ o. Ties o met (there ++ withdraw a i ∷ []) back) (sym u.1)
    (ties_withdraw s.own met there back a i u.0 k)
utter_near s t said (confirm a) met there back u k = absurd u

utter_far : (s t : RlnhTables) (said : List Said) (w : Word) (own : List Meaning)
    (there back : List Word) → Utters s said t w → Ties own s.met back there
    → Ties own t.met back (there ++ w ∷ [])
utter_far s t said w own there back u k = subst (λ m. Ties own m back (there ++ w ∷ []))
    (sym (utter_met s t said w u)) (by_word w u)
  where
    by_word : (w : Word) → Utters s said t w → Ties own s.met back (there ++ w ∷ [])
    by_word hello v = ties_says_back own s.met back there hello (λ b. refl) k
    by_word hello_back v = absurd v
    by_word (question n) v = ties_says_back own s.met back there (question n) (λ b. refl) k
    by_word (announce a i n) v = ties_says_back own s.met back there (announce a i n) (λ b. refl) k
    by_word (tell a i c j note) v = ties_tell_back own s.met back there a c i j note v.3 k
    by_word (withdraw a i) v = ties_says_back own s.met back there (withdraw a i) (λ b. refl) k
    by_word (confirm a) v = absurd v

pub utter_pair : (e f : Talk) (t : RlnhTables) (w : Word) → Utters e.end (saids e.words) t w
    → Pair e f → Pair (uttered e t w) f
utter_pair e f t w u p = record {
  there = p.there ++ w ∷ [];
  back = p.back;
  there_is = ap (λ k. k ++ w ∷ []) p.there_is ∙ append_assoc f.heard p.there (w ∷ []);
  back_is = p.back_is;
  near = utter_near e.end t (saids e.words) w f.end.met p.there p.back u p.near;
  far = utter_far e.end t (saids e.words) w f.end.own p.there p.back u p.far;
}

-- who was unpublished stays so
pub unpublished-more : (j : Inc) (more before : List Said) → was_unpublished j before ≡ true
    → was_unpublished j (more ++ before) ≡ true
unpublished-more j more before e = list_any-append (unpublishes j) more before
    ∙ or_right (list_any (unpublishes j) more) (was_unpublished j before) e

pub utter_alone : (e : Talk) (t : RlnhTables) (w : Word) → Utters e.end (saids e.words) t w
    → Alone e → Alone (uttered e t w)
utter_alone e t w u k = record {
  speaks = subst (λ s. Speaks t.own s) (sym (saids-append e.words (w ∷ [])))
      (utter_speaks e.end t (saids e.words) w u k.speaks);
  apart = subst AreApart (sym (utter_met e.end t (saids e.words) w u)) k.apart;
  given = k.given;
  frees_closed = λ j is. subst (λ s. was_unpublished j s ≡ true)
      (sym (saids-append e.words (w ∷ []))) (unpublished-more j (said_by w) (saids e.words)
      (k.frees_closed j is));
}

pub utter_grows : (e : Talk) (t : RlnhTables) (w : Word) → Utters e.end (saids e.words) t w
    → Alone e → Grows e (uttered e t w)
utter_grows e t w u k = record {
  alone = utter_alone e t w u k;
  pair = λ f p. utter_pair e f t w u p;
  more = w ∷ [];
  words = refl;
  number = refl;
  peer = refl;
  heard = refl;
  given = refl;
}

-- a session whose notes alone changed
pub same_grows : (e : Talk) (t : RlnhTables) → t.own ≡ e.end.own → t.met ≡ e.end.met → Alone e
    → Grows e (record e { words = e.words ++ []; end = t })
same_grows e t o m k = record {
  alone = record {
    speaks = subst (λ q. Speaks q (saids (e.words ++ []))) (sym o)
        (subst (λ ws. Speaks e.end.own (saids ws)) (sym (append-nil e.words)) k.speaks);
    apart = subst AreApart (sym m) k.apart;
    given = k.given;
    frees_closed = λ j is. subst (λ ws. was_unpublished j (saids ws) ≡ true)
        (sym (append-nil e.words)) (k.frees_closed j is);
  };
  pair = λ f p. record {
    there = p.there;
    back = p.back;
    there_is = append-nil e.words ∙ p.there_is;
    back_is = p.back_is;
    near = subst (λ q. Ties q f.end.met p.there p.back) (sym o) p.near;
    far = subst (λ q. Ties f.end.own q p.back p.there) (sym m) p.far;
  };
  more = [];
  words = refl;
  number = refl;
  peer = refl;
  heard = refl;
  given = refl;
}

pub grows_then : (e g h : Talk) → Grows e g → Grows g h → Grows e h
grows_then e g h a b = record {
  alone = b.alone;
  pair = λ f p. b.pair f (a.pair f p);
  more = a.more ++ b.more;
  words = b.words ∙ ap (λ k. k ++ b.more) a.words ∙ append_assoc e.words a.more b.more;
  number = b.number ∙ a.number;
  peer = b.peer ∙ a.peer;
  heard = b.heard ∙ a.heard;
  given = b.given ∙ a.given;
}
