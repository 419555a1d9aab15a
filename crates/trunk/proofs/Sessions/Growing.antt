-- What is kept of all sessions of both sides through what a side says and hears.
use Rattle.std.proofs.Common.{◌≡◌, ◌≢◌, ◌≤◌, ℕ, suc, true, false, List, [], ◌∷◌, ◌++◌, None, inl}
use Rattle.std.proofs.Common.{inr, arith, refl, sym, ◌∙◌, ap, subst, if◌then◌else◌}
use Rattle.std.proofs.lemmas.List.{append_cancel_left}
use Rattle.carrier.proofs.Fronts.{either}
use Rattle.rlnh_end.specs.Words.{Word}
use Rattle.rlnh_end.specs.Hearing.{hears}
use Rattle.rlnh_laws.specs.Meanings.{heard_of}
use Rattle.rlnh_laws.specs.Ties.{Alone, Pair, Talk}
use Rattle.rlnh_laws.specs.Talks.{Grows, Right, heard_word}
use Rattle.rlnh_laws.proofs.Hearing.{hears_right}
use Rattle.trunk.specs.Talks.{FallBelow, HoldAll, KeepsTalks, Talks, all_talks, is_peer, partner}
use Rattle.trunk.proofs.Sessions.Partners.{holds_with, none_below, pair_apart, pair_sym, pair_with}
use Rattle.trunk.proofs.Sessions.Partners.{partner_alone, peer_sym, same_peer}

-- what holds of each side against the other
pub record KeepBothTalks (A B : Talks) : Type 0 where
  pub near : KeepsTalks A B
  pub far : KeepsTalks B A

-- the present session went on to this
abbrev pub with_now : Talks → Talk → Talks
with_now A g = record { now = g; earlier = A.earlier }

pub both_turned : (A B : Talks) → KeepBothTalks A B → KeepBothTalks B A
both_turned A B k = record { near = k.far; far = k.near }

-- ---- a side says more of its own accord

far_grows : (e g : Talk) (past bs : List Talk) → Grows e g → HoldAll (e ∷ past) bs
    → HoldAll (g ∷ past) bs
far_grows e g past [] s h = tt
far_grows e g past (t ∷ bs) s h = (
  holds_with (e ∷ past) (g ∷ past) t h.0
      (elim (either (is_peer t e)) [
        | inl on ↦ pair_with e g past t s.number s.peer on
            (λ k. pair_sym g t (s.pair t (pair_sym t e k))) h.0.pair
        | inr off ↦ pair_apart e g past t s.number s.peer off h.0.pair
      ]),
  far_grows e g past bs s h.1,
)

pub both_says : (A B : Talks) (g : Talk) → KeepBothTalks A B → Grows A.now g → A.now.peer ≢ None
    → KeepBothTalks (with_now A g) B
both_says A B g k s up =
    record {
      near =
          record {
            falls = subst (λ m. FallBelow m.0 A.earlier) (sym s.number) k.near.falls;
            holds = (
              record {
                alone = s.alone;
                pair = subst (λ f. Pair g f) (same_partner (all_talks B))
                    (s.pair (partner A.now (all_talks B)) k.near.holds.0.pair);
                blank = λ none. absurd (up (sym s.peer ∙ none));
              },
              k.near.holds.1,
            );
          };
      far =
          record {
            falls = k.far.falls;
            holds = far_grows A.now g A.earlier (all_talks B) s k.far.holds;
          };
    }
  where
    same_partner : (fs : List Talk) → partner A.now fs ≡ partner g fs
    same_partner [] = refl
    same_partner (f ∷ fs) =
        let is : is_peer A.now f ≡ is_peer g f =
        peer_sym A.now f ∙ sym (same_peer A.now g f s.number s.peer) ∙ peer_sym f g in
        ap (λ t. if t then f else partner A.now fs) is
        ∙ ap (λ r. if is_peer g f then f else r) (same_partner fs)

-- ---- a side hears the next word of its partner

far_below : (e g b : Talk) (past : List Talk) (n : ℕ) (bs : List Talk) → g.number ≡ e.number
    → g.peer ≡ e.peer → is_peer e b ≡ true → FallBelow n bs → n ≤ b.number.0
    → HoldAll (e ∷ past) bs → HoldAll (g ∷ past) bs
far_below e g b past n [] same peer on f le h = tt
far_below e g b past n (t ∷ bs) same peer on f le h =
    let below = f.0 in (
      holds_with (e ∷ past) (g ∷ past) t h.0
          (pair_apart e g past t same peer (none_below e b t on (omega arith)) h.0.pair),
      far_below e g b past t.number.0 bs same peer on f.1 (omega arith) h.1,
    )

-- the next word under way
pub next_there : (e f : Talk) (w : Word) (later : List Word) (p : Pair f e)
    → f.words ≡ e.heard ++ w ∷ later → p.there ≡ w ∷ later
next_there e f w later p q =
    append_cancel_left e.heard p.there (w ∷ later) (sym p.there_is ∙ q)

far_hears : (e : Talk) (w : Word) (past : List Talk) (later : List Word) (n : ℕ)
    (bs : List Talk) → Alone e → FallBelow n bs
    → (partner e bs).words ≡ e.heard ++ w ∷ later → HoldAll (e ∷ past) bs
    → HoldAll (heard_word e w ∷ past) bs
far_hears e w past later n [] k f q h = tt
far_hears e w past later n (t ∷ bs) k f q h =
    elim (either (is_peer e t)) [
      | inl on ↦
          let words : t.words ≡ e.heard ++ w ∷ later = rw on at q in
          let back : is_peer t e ≡ true = peer_sym t e ∙ on in (
            holds_with (e ∷ past) (heard_word e w ∷ past) t h.0
                (pair_with e (heard_word e w) past t refl refl back
                (λ p. (hears_right t e w later h.0.alone k p (next_there e t w later p words)).pair)
                h.0.pair),
            far_below e (heard_word e w) t past t.number.0 bs refl refl on f.1 (omega arith) h.1,
          )
      | inr off ↦
          let words : (partner e bs).words ≡ e.heard ++ w ∷ later = rw off at q in
          let back : is_peer t e ≡ false = peer_sym t e ∙ off in (
            holds_with (e ∷ past) (heard_word e w ∷ past) t h.0
                (pair_apart e (heard_word e w) past t refl refl back h.0.pair),
            far_hears e w past later t.number.0 bs k f.1 words h.1,
          )
    ]

-- the next word is understood, and what holds of the session alone and with its partner still does
pub next_right : (A B : Talks) (w : Word) (later : List Word) → KeepBothTalks A B
    → (partner A.now (all_talks B)).words ≡ A.now.heard ++ w ∷ later
    → Right (partner A.now (all_talks B)) A.now w (hears A.now.end (heard_of w))
next_right A B w later k q =
    let e = A.now in
    let f = partner e (all_talks B) in
    let p = pair_sym e f k.near.holds.0.pair in
    hears_right f e w later (partner_alone e (all_talks A) (all_talks B) k.far.holds)
    k.near.holds.0.alone p (next_there e f w later p q)

pub both_hears : (A B : Talks) (w : Word) (later : List Word) → KeepBothTalks A B
    → A.now.peer ≢ None → (partner A.now (all_talks B)).words ≡ A.now.heard ++ w ∷ later
    → KeepBothTalks (with_now A (heard_word A.now w)) B
both_hears A B w later k up q =
    let e = A.now in
    let right = next_right A B w later k q in
    record {
      near =
          record {
            falls = k.near.falls;
            holds = (
              record {
                alone = right.alone;
                pair = pair_sym (partner e (all_talks B)) (heard_word e w) right.pair;
                blank = λ none. absurd (up none);
              },
              k.near.holds.1,
            );
          };
      far =
          record {
            falls = k.far.falls;
            holds = far_hears e w A.earlier later (suc B.now.number.0) (all_talks B)
                k.near.holds.0.alone (omega arith, k.far.falls) q k.far.holds;
          };
    }
