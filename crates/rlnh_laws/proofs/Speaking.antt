-- An end's own addresses and what it has said, through all that it says and hears.
use Rattle.std.proofs.Common.{◌≡◌, ◌≢◌, ℕ, Bool, true, false, not, ◌&&◌, ◌||◌, List, []}
use Rattle.std.proofs.Common.{◌∷◌, ◌++◌, Some, None, ◌⊎◌, inl, inr, refl, sym, ◌∙◌, ap, subst}
use Rattle.std.proofs.Common.{append_assoc, append-nil, true≢false}
use Rattle.std.proofs.lemmas.Option.{same_Some}
use Rattle.std.proofs.lemmas.Bool.{or_cases, or_left, or_right, false_from_ne_true}
use Rattle.std.proofs.lemmas.Bool.Decides.{eqb_tells}
use Rattle.linx_base.specs.Peers.{same_inc}
use Rattle.linx_base.specs.declared.identity.Inc.{Inc}
use Rattle.linx_base.specs.SigNotes.{SigNote}
use Rattle.link_addresses.specs.declared.meaning.Meaning.{Meaning}
use Rattle.link_addresses.specs.declared.meaning.Meaning.TheVariants.{Free, Live, Closing}
use Rattle.link_addresses.specs.Meanings.{meaning_of, with_meaning}
use Rattle.link_addresses.specs.Meanings.{address_of, ChangesMeaning}
use Rattle.rlnh_laws.proofs.Addresses.{changes_at, live_taken, closing_taken, address_missing}
use Rattle.rlnh_end.specs.Words.{Word}
use Rattle.rlnh_laws.specs.Meanings.{said_by, saids}
use Rattle.trunk_record.specs.Sayings.{Said, published, asked, signaled, unpublished}
use Rattle.trunk_record.specs.Sayings.{was_published, was_unpublished, is_live}
use Rattle.trunk_record.proofs.Sayings.{same_inc-is, same_inc-itself}
use Rattle.rlnh_laws.specs.Ties.{Speaks, bearer}

-- ---- what was said
pub saids-append : (xs ys : List Word) → saids (xs ++ ys) ≡ saids ys ++ saids xs
saids-append [] ys = sym (append-nil (saids ys))
saids-append (x ∷ xs) ys = ap (λ k. k ++ said_by x) (saids-append xs ys)
    ∙ append_assoc (saids ys) (saids xs) (said_by x)

-- who was published is live or was unpublished
pub published_parts : (i : Inc) (said : List Said) → was_published i said ≡ true
    → (is_live i said ≡ true) ⊎ (was_unpublished i said ≡ true)
published_parts i [] e = absurd (true≢false (sym e))
published_parts i (published j v ∷ said) e =
    elim (or_cases (same_inc i j) (was_published i said) e) [
      | inl at ↦ inl (or_left (same_inc i j) (is_live i said) at)
      | inr was ↦ elim (published_parts i said was) [
        | inl live ↦
            inl (or_right (same_inc i j) (is_live i said) live)
        | inr un ↦ inr un
      ]
    ]
published_parts i (asked v ∷ said) e = published_parts i said e
published_parts i (signaled j k note ∷ said) e = published_parts i said e
published_parts i (unpublished j ∷ said) e = by_test (same_inc i j) (published_parts i said e)
  where
    by_test : (t : Bool) → (is_live i said ≡ true) ⊎ (was_unpublished i said ≡ true)
        → ((not t && is_live i said) ≡ true) ⊎ ((t || was_unpublished i said) ≡ true)
    by_test true h = inr refl
    by_test false h = elim h [ inl live ↦ inl live | inr un ↦ inr un ]

bearer_parts : (m : Meaning) (i : Inc) → bearer m ≡ Some i → (m ≡ Live i) ⊎ (m ≡ Closing i)
bearer_parts Free i e = absurd cc
bearer_parts (Live j) i e = inl (ap Live (same_Some j i e))
bearer_parts (Closing j) i e = inr (ap Closing (same_Some j i e))

live_live : (i j : Inc) → Live i ≡ Live j → i ≡ j
live_live i j e = cc

closing_closing : (i j : Inc) → Closing i ≡ Closing j → i ≡ j
closing_closing i j e = cc

live_closing : (i j : Inc) → Live i ≡ Closing j → ⊥
live_closing i j e = absurd cc

free_live : (i : Inc) → Free ≡ Live i → ⊥
free_live i e = absurd cc

free_closing : (i : Inc) → Free ≡ Closing i → ⊥
free_closing i e = absurd cc

-- ---- publishing
module _ (own new : List Meaning) (said : List Said) (a : ℕ) (i : Inc) (v : List ℕ)
    (free : meaning_of own a ≡ Free) (c : ChangesMeaning own new a (Live i)) (s : Speaks own said)
    (none : address_of own i ≡ None) (un : was_unpublished i said ≡ false) where
  -- nobody else is this incarnation
  nobody : (b : ℕ) → bearer (meaning_of own b) ≡ Some i → ⊥
  nobody b e =
      elim (bearer_parts (meaning_of own b) i e) [
        | inl live ↦ address_missing own i none b live
        | inr closing ↦ true≢false (sym (s.closing b i closing) ∙ un)
      ]

  not_live : is_live i said ≡ false
  not_live = false_from_ne_true (is_live i said) (λ e. let l = s.said_live i e in
      address_missing own i none l.0 l.1)

  not_published : was_published i said ≡ false
  not_published = false_from_ne_true (was_published i said)
      (λ e. elim (published_parts i said e) [
        | inl live ↦
            true≢false (sym live ∙ not_live)
        | inr was ↦ true≢false (sym was ∙ un)
      ])

  -- what an address now means
  now : (b : ℕ) → ((a ≡ b) × (meaning_of new b ≡ Live i))
      ⊎ ((a ≢ b) × (meaning_of new b ≡ meaning_of own b))
  now b = elim (eqb_tells a b) [
    | inl same ↦ inl (
      same.1,
      subst (λ k. meaning_of new k ≡ Live i) same.1 c.here,
    )
    | inr other ↦
        inr (other.1, c.others b (λ e. other.1 (sym e)))
  ]

  pub speaks_publish : Speaks new (published i v ∷ said)
  speaks_publish = record {
    live = λ b j e. elim (now b) [
      | inl at ↦ or_left (same_inc j i) (is_live j said)
          (subst (λ k. same_inc k i ≡ true) (live_live i j (sym at.1 ∙ e)) (same_inc-itself i))
      | inr off ↦ or_right (same_inc j i) (is_live j said) (s.live b j (sym off.1 ∙ e))
    ];
    closing = λ b j e. elim (now b) [
      | inl at ↦ absurd (live_closing i j (sym at.1 ∙ e))
      | inr off ↦ s.closing b j (sym off.1 ∙ e)
    ];
    said_live = λ j e. elim (or_cases (same_inc j i) (is_live j said) e) [
      | inl at ↦ (a, c.here ∙ ap Live (sym (same_inc-is j i at)))
      | inr was ↦ let l = s.said_live j was in elim (now l.0) [
        | inl at ↦ absurd (free_live j (sym free ∙ ap (λ k. meaning_of own k) at.0 ∙ l.1))
        | inr off ↦ (l.0, off.1 ∙ l.1)
      ]
    ];
    proper = (not_published, s.proper);
    apart = λ b d j e f. elim (now b) [
      | inl at ↦ elim (now d) [
        | inl too ↦ sym at.0 ∙ too.0
        | inr off ↦ let is : i ≡ j = same_Some i j (sym (ap bearer at.1) ∙ e) in
            absurd (nobody d (sym (ap bearer off.1) ∙ f ∙ ap Some (sym is)))
      ]
      | inr off ↦ elim (now d) [
        | inl too ↦ let is : i ≡ j = same_Some i j (sym (ap bearer too.1) ∙ f) in
            absurd (nobody b (sym (ap bearer off.1) ∙ e ∙ ap Some (sym is)))
        | inr also ↦ s.apart b d j (sym (ap bearer off.1) ∙ e) (sym (ap bearer also.1) ∙ f)
      ]
    ];
  }

-- ---- closing
module _ (own : List Meaning) (said : List Said) (a : ℕ) (i : Inc) (live : meaning_of own a
    ≡ Live i) (s : Speaks own said) where
  abbrev new_closed : List Meaning
  new_closed = with_meaning own a (Closing i)

  now_closed : (b : ℕ) → ((a ≡ b) × (meaning_of new_closed b ≡ Closing i))
      ⊎ ((a ≢ b) × (meaning_of new_closed b ≡ meaning_of own b))
  now_closed b =
      let c = changes_at own a (Closing i) (live_taken own a i live) in
      elim (eqb_tells a b) [
        | inl same ↦ inl (
          same.1,
          subst (λ k. meaning_of new_closed k ≡ Closing i) same.1 c.here,
        )
        | inr other ↦
            inr (other.1, c.others b (λ e. other.1 (sym e)))
      ]

  bears_closed : (b : ℕ) (j : Inc) → bearer (meaning_of new_closed b) ≡ Some j
      → bearer (meaning_of own b) ≡ Some j
  bears_closed b j e = elim (now_closed b) [
    | inl at ↦ ap (λ k. bearer (meaning_of own k)) (sym at.0) ∙ ap bearer live
        ∙ sym (ap bearer at.1) ∙ e
    | inr off ↦ sym (ap bearer off.1) ∙ e
  ]

  -- another that is live isn't this one
  differs : (b : ℕ) (j : Inc) → a ≢ b → meaning_of own b ≡ Live j → same_inc j i ≡ false
  differs b j off is = false_from_ne_true (same_inc j i)
      (λ e. off (s.apart a b i (ap bearer live) (ap bearer is ∙ ap Some (same_inc-is j i e))))

  both : (t l : Bool) → t ≡ false → l ≡ true → (not t && l) ≡ true
  both t l f e = rw (f, e) refl

  parts : (t l : Bool) → (not t && l) ≡ true → (t ≡ false) × (l ≡ true)
  parts true l e = absurd (true≢false (sym e))
  parts false l e = (refl, e)

  pub speaks_close : Speaks new_closed (unpublished i ∷ said)
  speaks_close = record {
    live = λ b j e. elim (now_closed b) [
      | inl at ↦ absurd (live_closing j i (sym e ∙ at.1))
      | inr off ↦ let is : meaning_of own b ≡ Live j = sym off.1 ∙ e in
          both (same_inc j i) (is_live j said) (differs b j off.0 is) (s.live b j is)
    ];
    closing = λ b j e. elim (now_closed b) [
      | inl at ↦ or_left (same_inc j i) (was_unpublished j said)
          (subst (λ k. same_inc k i ≡ true) (closing_closing i j (sym at.1 ∙ e))
          (same_inc-itself i))
      | inr off ↦ or_right (same_inc j i) (was_unpublished j said) (s.closing b j (sym off.1 ∙ e))
    ];
    said_live = λ j e.
        let p = parts (same_inc j i) (is_live j said) e in
        let l = s.said_live j p.1 in
        elim (now_closed l.0) [
          | inl at ↦ let is : i ≡ j = live_live i j (sym live ∙ ap (λ k. meaning_of own k) at.0
              ∙ l.1) in absurd (true≢false (sym (subst (λ k. same_inc k i ≡ true) is
              (same_inc-itself i)) ∙ p.0))
          | inr off ↦ (l.0, off.1 ∙ l.1)
        ];
    proper = (s.live a i live, s.proper);
    apart = λ b d j e f. s.apart b d j (bears_closed b j e) (bears_closed d j f);
  }

-- ---- signals, questions
pub speaks_signal : (own : List Meaning) (said : List Said) (a : ℕ) (i j : Inc) (note : SigNote)
    → meaning_of own a ≡ Live i → Speaks own said → Speaks own (signaled i j note ∷ said)
speaks_signal own said a i j note live s = record {
  live = s.live;
  closing = s.closing;
  said_live = s.said_live;
  proper = (s.live a i live, s.proper);
  apart = s.apart;
}

pub speaks_question : (own : List Meaning) (said : List Said) (v : List ℕ) → Speaks own said
    → Speaks own (asked v ∷ said)
speaks_question own said v s = record {
  live = s.live;
  closing = s.closing;
  said_live = s.said_live;
  proper = s.proper;
  apart = s.apart;
}

-- ---- an address freed
module _ (own : List Meaning) (said : List Said) (a : ℕ) (i : Inc) (closing : meaning_of own a
    ≡ Closing i) (s : Speaks own said) where
  abbrev new_freed : List Meaning
  new_freed = with_meaning own a Free

  now_freed : (b : ℕ) → ((a ≡ b) × (meaning_of new_freed b ≡ Free))
      ⊎ ((a ≢ b) × (meaning_of new_freed b ≡ meaning_of own b))
  now_freed b =
      let c = changes_at own a Free (closing_taken own a i closing) in
      elim (eqb_tells a b) [
        | inl same ↦ inl (
          same.1,
          subst (λ k. meaning_of new_freed k ≡ Free) same.1 c.here,
        )
        | inr other ↦
            inr (other.1, c.others b (λ e. other.1 (sym e)))
      ]

  bears_freed : (b : ℕ) (j : Inc) → bearer (meaning_of new_freed b) ≡ Some j
      → bearer (meaning_of own b) ≡ Some j
  bears_freed b j e = elim (now_freed b) [
    | inl at ↦ let none : None ≡ Some j = sym (ap bearer at.1) ∙ e in absurd cc
    | inr off ↦ sym (ap bearer off.1) ∙ e
  ]

  pub speaks_freed : Speaks new_freed said
  speaks_freed = record {
    live = λ b j e. elim (now_freed b) [
      | inl at ↦ absurd (free_live j (sym at.1 ∙ e))
      | inr off ↦
          s.live b j (sym off.1 ∙ e)
    ];
    closing = λ b j e. elim (now_freed b) [
      | inl at ↦
          absurd (free_closing j (sym at.1 ∙ e))
      | inr off ↦ s.closing b j (sym off.1 ∙ e)
    ];
    said_live = λ j e.
        let l = s.said_live j e in
        elim (now_freed l.0) [
          | inl at ↦ absurd (live_closing j i (sym l.1 ∙ ap (λ k. meaning_of own k) (sym at.0)
              ∙ closing))
          | inr off ↦ (l.0, off.1 ∙ l.1)
        ];
    proper = s.proper;
    apart = λ b d j e f. s.apart b d j (bears_freed b j e) (bears_freed d j f);
  }
