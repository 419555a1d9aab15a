-- What ties two ends, through all that one of them says or hears.
use Rattle.std.proofs.Common.{◌≡◌, ℕ, List, [], ◌∷◌, ◌++◌, Option, Some, None, inl, inr, refl, sym}
use Rattle.std.proofs.Common.{◌∙◌, ap, subst, append_assoc, append-nil}
use Rattle.std.proofs.lemmas.Bool.Decides.{eqb_tells}
use Rattle.rlnh_end.specs.declared.met_at.MetAt.{MetAt}
use Rattle.linx_base.specs.declared.identity.Inc.{Inc}
use Rattle.linx_base.specs.SigNotes.{SigNote}
use Rattle.link_addresses.specs.declared.meaning.Meaning.{Meaning}
use Rattle.link_addresses.specs.declared.meaning.Meaning.TheVariants.{Free, Live, Closing}
use Rattle.link_addresses.specs.Meanings.{meaning_of, with_meaning, ChangesMeaning}
use Rattle.rlnh_laws.proofs.Addresses.{changes_at, live_taken, closing_taken}
use Rattle.rlnh_end.specs.States.{inc_met, with_met, without_met}
use Rattle.rlnh_end.specs.Words.{Word, announce, tell, withdraw, confirm}
use Rattle.rlnh_laws.specs.Ties.{About, announcing, signaling, withdrawing, Toward, signal_to}
use Rattle.rlnh_laws.specs.Ties.{confirming, about_by}
use Rattle.rlnh_laws.specs.Ties.{toward_by, about, toward, Stands, Ties, AreApart}
use Rattle.rlnh_laws.proofs.Meeting.{with_here, with_other, without_here, without_other}
use Rattle.rlnh_laws.proofs.Standing.{stand_publish, stand_signal, stand_close, stand_aimed}
use Rattle.rlnh_laws.proofs.Standing.{stand_heard_publish, stand_heard_signal, stand_heard_close}
use Rattle.rlnh_laws.proofs.Standing.{stand_heard_ack, stand_heard_aimed}

pub about-snoc : (b : ℕ) (ws : List Word) (w : Word)
    → about b (ws ++ w ∷ []) ≡ about b ws ++ about_by b w
about-snoc b [] w = append-nil (about_by b w)
about-snoc b (x ∷ ws) w = ap (λ k. about_by b x ++ k) (about-snoc b ws w)
    ∙ sym (append_assoc (about_by b x) (about b ws) (about_by b w))

pub toward-snoc : (b : ℕ) (ws : List Word) (w : Word)
    → toward b (ws ++ w ∷ []) ≡ toward b ws ++ toward_by b w
toward-snoc b [] w = append-nil (toward_by b w)
toward-snoc b (x ∷ ws) w = ap (λ k. toward_by b x ++ k) (toward-snoc b ws w)
    ∙ sym (append_assoc (toward_by b x) (toward b ws) (toward_by b w))

-- a word that isn't about the address, or not to it, leaves what is about it, or to it, as it is
pub about-same : (b : ℕ) (ws : List Word) (w : Word) → about_by b w ≡ []
    → about b ws ≡ about b (ws ++ w ∷ [])
about-same b ws w e = sym (about-snoc b ws w ∙ ap (λ k. about b ws ++ k) e
    ∙ append-nil (about b ws))

pub toward-same : (b : ℕ) (ws : List Word) (w : Word) → toward_by b w ≡ []
    → toward b ws ≡ toward b (ws ++ w ∷ [])
toward-same b ws w e = sym (toward-snoc b ws w ∙ ap (λ k. toward b ws ++ k) e
    ∙ append-nil (toward b ws))

pub about-more : (b : ℕ) (ws : List Word) (w : Word) (m : List About) → about_by b w ≡ m
    → about b ws ++ m ≡ about b (ws ++ w ∷ [])
about-more b ws w m e = sym (about-snoc b ws w ∙ ap (λ k. about b ws ++ k) e)

pub toward-more : (b : ℕ) (ws : List Word) (w : Word) (m : List Toward) → toward_by b w ≡ m
    → toward b ws ++ m ≡ toward b (ws ++ w ∷ [])
toward-more b ws w m e = sym (toward-snoc b ws w ∙ ap (λ k. toward b ws ++ k) e)

pub stands_at : (own own' : Meaning) (met met' : Option Inc) (ab ab' : List About)
    (to to' : List Toward) → own ≡ own' → met ≡ met' → ab ≡ ab' → to ≡ to' → Stands own met ab to
    → Stands own' met' ab' to'
stands_at own own' met met' ab ab' to to' o m a t s =
    subst (λ k. Stands own' met' ab' k) t (subst (λ k. Stands own' met' k to) a
    (subst (λ k. Stands own' k ab to) m (subst (λ k. Stands k met ab to) o s)))

-- ---- the owner says
pub ties_says : (own : List Meaning) (met : List MetAt) (there back : List Word) (w : Word)
    → ((b : ℕ) → about_by b w ≡ []) → Ties own met there back → Ties own met (there ++ w ∷ []) back
ties_says own met there back w none t b = subst
    (λ k. Stands (meaning_of own b) (inc_met met b) k (toward b back))
    (about-same b there w (none b)) (t b)

pub ties_announce : (own new : List Meaning) (met : List MetAt) (there back : List Word) (a : ℕ)
    (i : Inc) (v : List ℕ) → meaning_of own a ≡ Free → ChangesMeaning own new a (Live i)
    → Ties own met there back → Ties new met (there ++ announce a i v ∷ []) back
ties_announce own new met there back a i v free c t b =
    elim (eqb_tells a b) [
      | inl same ↦
          let at : a ≡ b = same.1 in
          let was : Stands Free (inc_met met b) (about b there) (toward b back) =
          subst (λ m. Stands m (inc_met met b) (about b there) (toward b back))
          (subst (λ k. meaning_of own k ≡ Free) at free) (t b) in
          stands_at (Live i) (meaning_of new b) (inc_met met b) (inc_met met b) (about b there
          ++ announcing i ∷ []) (about b (there ++ announce a i v ∷ [])) (toward b back)
          (toward b back) (sym (subst (λ k. meaning_of new k ≡ Live i) at c.here)) refl
          (about-more b there (announce a i v) (announcing i ∷ []) (rw same.0 refl)) refl
          (stand_publish i (inc_met met b) (about b there) (toward b back) was)
      | inr other ↦
          stands_at (meaning_of own b) (meaning_of new b) (inc_met met b) (inc_met met b)
          (about b there) (about b (there ++ announce a i v ∷ [])) (toward b back)
          (toward b back) (sym (c.others b (λ e. other.1 (sym e)))) refl
          (about-same b there (announce a i v) (rw other.0 refl)) refl (t b)
    ]

pub ties_tell : (own : List Meaning) (met : List MetAt) (there back : List Word) (a c : ℕ)
    (i j : Inc) (note : SigNote) → meaning_of own a ≡ Live i → Ties own met there back
    → Ties own met (there ++ tell a i c j note ∷ []) back
ties_tell own met there back a c i j note live t b =
    elim (eqb_tells a b) [
      | inl same ↦
          let at : meaning_of own b ≡ Live i = subst (λ k. meaning_of own k ≡ Live i) same.1 live in
          let was : Stands (Live i) (inc_met met b) (about b there) (toward b back) =
          subst (λ m. Stands m (inc_met met b) (about b there) (toward b back)) at (t b) in
          stands_at (Live i) (meaning_of own b) (inc_met met b) (inc_met met b) (about b there
          ++ signaling i ∷ []) (about b (there ++ tell a i c j note ∷ [])) (toward b back)
          (toward b back) (sym at) refl (about-more b there (tell a i c j note) (signaling i ∷ [])
          (rw same.0 refl)) refl (stand_signal i (inc_met met b) (about b there) (toward b back)
          was)
      | inr other ↦ subst (λ k. Stands (meaning_of own b) (inc_met met b) k (toward b back))
          (about-same b there (tell a i c j note) (rw other.0 refl)) (t b)
    ]

pub ties_withdraw : (own : List Meaning) (met : List MetAt) (there back : List Word) (a : ℕ)
    (i : Inc) → meaning_of own a ≡ Live i → Ties own met there back
    → Ties (with_meaning own a (Closing i)) met (there ++ withdraw a i ∷ []) back
ties_withdraw own met there back a i live t b =
    let c = changes_at own a (Closing i) (live_taken own a i live) in
    elim (eqb_tells a b) [
      | inl same ↦
          let at : a ≡ b = same.1 in
          let was : Stands (Live i) (inc_met met b) (about b there) (toward b back) =
          subst (λ m. Stands m (inc_met met b) (about b there) (toward b back))
          (subst (λ k. meaning_of own k ≡ Live i) at live) (t b) in
          stands_at (Closing i) (meaning_of (with_meaning own a (Closing i)) b) (inc_met met b)
          (inc_met met b) (about b there ++ withdrawing i ∷ [])
          (about b (there ++ withdraw a i ∷ [])) (toward b back) (toward b back)
          (sym (subst (λ k. meaning_of (with_meaning own a (Closing i)) k ≡ Closing i) at
          c.here)) refl (about-more b there (withdraw a i) (withdrawing i ∷ []) (rw same.0 refl))
          refl (stand_close i (inc_met met b) (about b there) (toward b back) was)
      | inr other ↦
          stands_at (meaning_of own b) (meaning_of (with_meaning own a (Closing i)) b)
          (inc_met met b) (inc_met met b) (about b there) (about b (there ++ withdraw a i ∷ []))
          (toward b back) (toward b back) (sym (c.others b (λ e. other.1 (sym e)))) refl
          (about-same b there (withdraw a i) (rw other.0 refl)) refl (t b)
    ]

-- ---- the other side says
pub ties_says_back : (own : List Meaning) (met : List MetAt) (there back : List Word) (w : Word)
    → ((b : ℕ) → toward_by b w ≡ []) → Ties own met there back → Ties own met there (back ++ w ∷ [])
ties_says_back own met there back w none t b =
    subst (λ k. Stands (meaning_of own b) (inc_met met b) (about b there) k)
    (toward-same b back w (none b)) (t b)

pub ties_tell_back : (own : List Meaning) (met : List MetAt) (there back : List Word) (a c : ℕ)
    (i j : Inc) (note : SigNote) → inc_met met c ≡ Some j → Ties own met there back
    → Ties own met there (back ++ tell a i c j note ∷ [])
ties_tell_back own met there back a c i j note is t b =
    elim (eqb_tells c b) [
      | inl same ↦
          let at : inc_met met b ≡ Some j = subst (λ k. inc_met met k ≡ Some j) same.1 is in
          let was : Stands (meaning_of own b) (Some j) (about b there) (toward b back) =
          subst (λ m. Stands (meaning_of own b) m (about b there) (toward b back)) at (t b) in
          stands_at (meaning_of own b) (meaning_of own b) (Some j) (inc_met met b) (about b there)
          (about b there) (toward b back ++ signal_to j ∷ [])
          (toward b (back ++ tell a i c j note ∷ [])) refl (sym at) refl
          (toward-more b back (tell a i c j note) (signal_to j ∷ []) (rw same.0 refl))
          (stand_aimed (meaning_of own b) j (about b there) (toward b back) was)
      | inr other ↦ subst (λ k. Stands (meaning_of own b) (inc_met met b) (about b there) k)
          (toward-same b back (tell a i c j note) (rw other.0 refl)) (t b)
    ]

-- ---- the other side hears
pub ties_heard_announce : (own : List Meaning) (met : List MetAt) (there back : List Word) (a : ℕ)
    (i : Inc) (v : List ℕ) → inc_met met a ≡ None → Ties own met (announce a i v ∷ there) back
    → Ties own (with_met met a i) there back
ties_heard_announce own met there back a i v none t b =
    elim (eqb_tells a b) [
      | inl same ↦
          let at : inc_met (with_met met a i) b ≡ Some i =
          subst (λ k. inc_met (with_met met a i) k ≡ Some i) same.1 (with_here met a i none) in
          let was : Stands (meaning_of own b) (inc_met met b) (announcing i ∷ about b there)
          (toward b back) = rw same.0 at (t b) in
          subst (λ m. Stands (meaning_of own b) m (about b there) (toward b back)) (sym at)
          (stand_heard_publish (meaning_of own b) i (inc_met met b) (about b there)
          (toward b back) was).2
      | inr other ↦
          let was : Stands (meaning_of own b) (inc_met met b) (about b there) (toward b back) =
          rw other.0 at (t b) in
          subst (λ m. Stands (meaning_of own b) m (about b there) (toward b back))
          (with_other met a i b other.1) was
    ]

pub ties_heard_tell : (own : List Meaning) (met : List MetAt) (there back : List Word) (a c : ℕ)
    (i j : Inc) (note : SigNote) → Ties own met (tell a i c j note ∷ there) back
    → Ties own met there back
ties_heard_tell own met there back a c i j note t b =
    elim (eqb_tells a b) [
      | inl same ↦
          let was : Stands (meaning_of own b) (inc_met met b) (signaling i ∷ about b there)
          (toward b back) = rw same.0 at (t b) in
          (stand_heard_signal (meaning_of own b) i (inc_met met b) (about b there) (toward b back)
          was).1
      | inr other ↦ rw other.0 at (t b)
    ]

pub ties_heard_withdraw : (own : List Meaning) (met : List MetAt) (there back : List Word) (a : ℕ)
    (i : Inc) → AreApart met → Ties own met (withdraw a i ∷ there) back
    → Ties own (without_met met a) there (back ++ confirm a ∷ [])
ties_heard_withdraw own met there back a i apart t b =
    elim (eqb_tells a b) [
      | inl same ↦
          let at : a ≡ b = same.1 in
          let was : Stands (meaning_of own b) (inc_met met b) (withdrawing i ∷ about b there)
          (toward b back) = rw same.0 at (t b) in
          stands_at (meaning_of own b) (meaning_of own b) None (inc_met (without_met met a) b)
          (about b there) (about b there) (toward b back ++ confirming ∷ [])
          (toward b (back ++ confirm a ∷ [])) refl
          (sym (subst (λ k. inc_met (without_met met a) k ≡ None) at
          (without_here met a apart))) refl (toward-more b back (confirm a) (confirming ∷ [])
          (rw same.0 refl)) (stand_heard_close (meaning_of own b) i (inc_met met b)
          (about b there) (toward b back) was).1
      | inr other ↦
          let was : Stands (meaning_of own b) (inc_met met b) (about b there) (toward b back) =
          rw other.0 at (t b) in
          stands_at (meaning_of own b) (meaning_of own b) (inc_met met b)
          (inc_met (without_met met a) b) (about b there) (about b there) (toward b back)
          (toward b (back ++ confirm a ∷ [])) refl (without_other met a b other.1) refl
          (toward-same b back (confirm a) (rw other.0 refl)) was
    ]

-- ---- the owner hears
pub ties_heard_tell_back : (own : List Meaning) (met : List MetAt) (there back : List Word)
    (a c : ℕ) (i j : Inc) (note : SigNote) → Ties own met there (tell a i c j note ∷ back)
    → Ties own met there back
ties_heard_tell_back own met there back a c i j note t b =
    elim (eqb_tells c b) [
      | inl same ↦
          let was : Stands (meaning_of own b) (inc_met met b) (about b there) (signal_to j
          ∷ toward b back) = rw same.0 at (t b) in
          (stand_heard_aimed (meaning_of own b) j (inc_met met b) (about b there) (toward b back)
          was).1
      | inr other ↦ rw other.0 at (t b)
    ]

pub ties_heard_confirm : (own : List Meaning) (met : List MetAt) (there back : List Word) (a : ℕ)
    (i : Inc) → meaning_of own a ≡ Closing i → Ties own met there (confirm a ∷ back)
    → Ties (with_meaning own a Free) met there back
ties_heard_confirm own met there back a i closing t b =
    let c = changes_at own a Free (closing_taken own a i closing) in
    elim (eqb_tells a b) [
      | inl same ↦
          let at : a ≡ b = same.1 in
          let was : Stands (meaning_of own b) (inc_met met b) (about b there) (confirming
          ∷ toward b back) = rw same.0 at (t b) in
          subst (λ m. Stands m (inc_met met b) (about b there) (toward b back))
          (sym (subst (λ k. meaning_of (with_meaning own a Free) k ≡ Free) at c.here))
          (stand_heard_ack (meaning_of own b) (inc_met met b) (about b there) (toward b back)
          was).2
      | inr other ↦
          let was : Stands (meaning_of own b) (inc_met met b) (about b there) (toward b back) =
          rw other.0 at (t b) in
          subst (λ m. Stands m (inc_met met b) (about b there) (toward b back))
          (sym (c.others b (λ e. other.1 (sym e)))) was
    ]
