-- Two sides in words: a session, and its partner among the sessions of the other side.
use Rattle.std.proofs.Common.{◌≡◌, ◌≤◌, ◌<◌, ℕ, zero, suc, true, false, ◌&&◌, List, [], ◌∷◌, ◌++◌}
use Rattle.std.proofs.Common.{Option, Some, None, arith, refl, sym, ◌∙◌, ap, subst, ◌==◌}
use Rattle.std.proofs.Common.{if◌then◌else◌, true≢false}
use Rattle.std.proofs.Math.Bool.{and_comm}
use Rattle.std.proofs.lemmas.Bool.{and_parts}
use Rattle.std.proofs.lemmas.Bool.Decides.{nat_tests}
use Rattle.linx_base.specs.declared.identity.Inc.{Inc}
use Rattle.linx_base.specs.declared.identity.Session.{Session}
use Rattle.link_addresses.specs.declared.meaning.Meaning.TheVariants.{Free, Live, Closing}
use Rattle.link_addresses.specs.Meanings.{meaning_of}
use Rattle.carrier.specs.Records.{names}
use Rattle.rlnh_laws.specs.Ties.{Alone, Pair, Talk, Ties, bearer, unused}
use Rattle.trunk.specs.Talks.{FallBelow, HoldAll, Holds, IsBlank, fresh_talk, is_peer, partner}

abbrev pub nothing : Talk
nothing = fresh_talk (record { 0 = 0 })

pub pair_sym : (e f : Talk) → Pair e f → Pair f e
pair_sym e f p =
    record {
      there = p.back;
      back = p.there;
      there_is = p.back_is;
      back_is = p.there_is;
      near = p.far;
      far = p.near;
    }

-- ---- two sessions that name each other

pub peer_sym : (e f : Talk) → is_peer e f ≡ is_peer f e
peer_sym e f = and_comm (names f.number.0 e.peer) (names e.number.0 f.peer)

-- whom a session names, by its number
pub named : (n : ℕ) (o : Option Session) → names n o ≡ true
    → (y : Session) × (o ≡ Some y) × (y.0 ≡ n)
named n None e = absurd (true≢false (sym e))
named n (Some y) e =
    let at : (y.0 == n) ≡ true = e in
    (y, refl, (let is : y.0 ≡ n = grind (arith, nat_tests) in is))

-- a session that names nobody has no partner
pub down_partner : (e : Talk) (fs : List Talk) → e.peer ≡ None → partner e fs ≡ nothing
down_partner e [] is = refl
down_partner e (f ∷ fs) is =
    let off : is_peer e f ≡ false = rw is refl in rw off (down_partner e fs is)

-- a session that names number m has no partner among sessions below m
pub no_partner : (e : Talk) (m n : ℕ) (fs : List Talk) → names m e.peer ≡ true
    → FallBelow n fs → n ≤ m → partner e fs ≡ nothing
no_partner e m n [] on falls upto = refl
no_partner e m n (f ∷ fs) on falls upto =
    let below = falls.0 in
    let y = named m e.peer on in
    let off : is_peer e f ≡ false = apart y.0 y.1 y.2 below in
    rw off (no_partner e m f.number.0 fs on falls.1 (omega arith))
  where
    apart : (y : Session) → e.peer ≡ Some y → y.0 ≡ m → f.number.0 < n → is_peer e f ≡ false
    apart y is at below =
        let miss : (y.0 == f.number.0) ≡ false = grind (arith, nat_tests) in
        rw (is, miss) refl

-- ---- sessions in which nothing happened

unused_at : (a : ℕ) → meaning_of [] a ≡ Free
unused_at zero = refl
unused_at (suc k) = refl

free_live : (a : ℕ) (i : Inc) → meaning_of [] a ≡ Live i → ⊥
free_live a i e = let f : Free ≡ Live i = sym (unused_at a) ∙ e in absurd cc

free_closing : (a : ℕ) (i : Inc) → meaning_of [] a ≡ Closing i → ⊥
free_closing a i e = let f : Free ≡ Closing i = sym (unused_at a) ∙ e in absurd cc

free_bears : (a : ℕ) (i : Inc) → bearer (meaning_of [] a) ≡ Some i → ⊥
free_bears a i e = let f : None ≡ Some i = sym (ap bearer (unused_at a)) ∙ e in absurd cc

pub alone_fresh : (x : Session) → Alone (fresh_talk x)
alone_fresh x =
    record {
      speaks =
          record {
            live = λ a i e. absurd (free_live a i e);
            closing = λ a i e. absurd (free_closing a i e);
            said_live = λ i e. absurd (true≢false (sym e));
            proper = tt;
            apart = λ a b i e f. absurd (free_bears a i e);
          };
      apart = tt;
      given = refl;
      frees_closed = λ j e. absurd (true≢false (sym e));
    }

pub pair_fresh : (x y : Session) → Pair (fresh_talk x) (fresh_talk y)
pair_fresh x y =
    record {
      there = [];
      back = [];
      there_is = refl;
      back_is = refl;
      near = λ a. unused (unused_at a) refl refl refl;
      far = λ a. unused (unused_at a) refl refl refl;
    }

-- what holds with nothing holds with a session in which nothing happened, of whatever number and
-- peer
pub pair_blank : (t e : Talk) → IsBlank e → Pair t nothing → Pair t e
pair_blank t e b p =
    record {
      there = p.there;
      back = p.back;
      there_is = subst (λ h. t.words ≡ h ++ p.there) (sym b.heard) p.there_is;
      back_is = b.words ∙ p.back_is;
      near = subst (λ s. Ties t.end.own s.met p.there p.back)
          (sym b.end) p.near;
      far = subst (λ s. Ties s.own t.end.met p.back p.there)
          (sym b.end) p.far;
    }

-- the partner is one of the sessions, or nothing
pub partner_alone : (e : Talk) (others fs : List Talk) → HoldAll others fs → Alone (partner e fs)
partner_alone e others [] h = alone_fresh (record { 0 = 0 })
partner_alone e others (f ∷ fs) h =
    elim (is_peer e f) as (λ t. Alone (if t then f else partner e fs))
    [ true ↦ h.0.alone | false ↦ partner_alone e others fs h.1 ]

pub holds_with : (others more : List Talk) (t : Talk) → Holds others t
    → Pair t (partner t more) → Holds more t
holds_with others more t h p = record { alone = h.alone; pair = p; blank = h.blank }

-- ---- the present session of the other side went on from e to g, of the same number and peer

pub same_peer : (e g t : Talk) → g.number ≡ e.number → g.peer ≡ e.peer → is_peer t g ≡ is_peer t e
same_peer e g t n p =
    ap (λ m. names m.0 t.peer && names t.number.0 g.peer) n
    ∙ ap (λ q. names e.number.0 t.peer && names t.number.0 q) p

-- to a session whose peer it isn't, that's all one
pub pair_apart : (e g : Talk) (past : List Talk) (t : Talk) → g.number ≡ e.number
    → g.peer ≡ e.peer → is_peer t e ≡ false → Pair t (partner t (e ∷ past))
    → Pair t (partner t (g ∷ past))
pair_apart e g past t n p off k =
    let same : is_peer t g ≡ false = same_peer e g t n p ∙ off in
    let was : Pair t (partner t past) = rw off at k in
    rw same was

pub pair_with : (e g : Talk) (past : List Talk) (t : Talk) → g.number ≡ e.number
    → g.peer ≡ e.peer → is_peer t e ≡ true → (Pair t e → Pair t g)
    → Pair t (partner t (e ∷ past)) → Pair t (partner t (g ∷ past))
pair_with e g past t n p on step k =
    let same : is_peer t g ≡ true = same_peer e g t n p ∙ on in
    let was : Pair t e = rw on at k in
    rw same (step was)

-- sessions below its number aren't the peer of one whose peer it is
pub none_below : (e b t : Talk) → is_peer e b ≡ true → t.number.0 < b.number.0
    → is_peer t e ≡ false
none_below e b t on below =
    let y = named b.number.0 e.peer (and_parts (names b.number.0 e.peer)
    (names e.number.0 b.peer) on).0 in
    apart y.0 y.1 y.2
  where
    apart : (y : Session) → e.peer ≡ Some y → y.0 ≡ b.number.0 → is_peer t e ≡ false
    apart y is at =
        let off : (y.0 == t.number.0) ≡ false = grind (arith, nat_tests) in
        rw (is, off) (and_comm (names e.number.0 t.peer) false)
