-- What the link's record has is the messages of the words that were said and heard.
use Rattle.std.proofs.Common.{◌≡◌, ◌+◌, ℕ, suc, Bool, true, false, List, [], ◌∷◌, ◌++◌, length}
use Rattle.std.proofs.Common.{Option, Some, None, inl, inr, arith, refl, sym, ◌∙◌, ap, ◌==◌}
use Rattle.std.proofs.Common.{if◌then◌else◌, append_assoc, append-nil, length-append}
use Rattle.std.proofs.lemmas.Bool.Decides.{eqb_tells, nat_tests}
use Rattle.std.proofs.lemmas.List.{append_cancel_left}
use Rattle.linx_base.specs.Fronts.{IsFront}
use Rattle.linx_base.specs.declared.frame.Message.{Message}
use Rattle.linx_base.specs.declared.identity.Session.{Session}
use Rattle.ethcm_end.specs.States.{peer_of}
use Rattle.carrier.specs.Records.{Entry, HalfState, entries, is_pair, mine_of, names}
use Rattle.carrier.specs.Records.{offered_at, source}
use Rattle.carrier.proofs.Fronts.{either}
use Rattle.rlnh_end.specs.Words.{Word, message_of}
use Rattle.rlnh_laws.specs.Ties.{Talk}
use Rattle.trunk.specs.Keeping.{AllMirror, messages_of}
use Rattle.trunk.specs.Talks.{FallBelow, Talks, all_talks, partner}
use Rattle.trunk.proofs.Sessions.Growing.{KeepBothTalks}
use Rattle.trunk.proofs.Sessions.Partners.{down_partner, no_partner, nothing}

pub messages-append : (xs ys : List Word)
    → messages_of (xs ++ ys) ≡ messages_of xs ++ messages_of ys
messages-append [] ys = refl
messages-append (x ∷ xs) ys = ap (λ k. message_of x ∷ k) (messages-append xs ys)

-- ---- what a session is offered is the messages of its partner's words

pub eq_turned : (a b : ℕ) (t : Bool) → (a == b) ≡ t → (b == a) ≡ t
eq_turned a b true e = grind (arith, nat_tests)
eq_turned a b false e = grind (arith, nat_tests)

named_partner : (t : Talk) (y : Session) (n : ℕ) (es : List Entry) (ts : List Talk)
    → t.peer ≡ Some y → AllMirror es ts → FallBelow n ts
    → (if is_pair t.number.0 y.0 es then offered_at y.0 es else [])
    ≡ messages_of (partner t ts).words
named_partner t y n [] [] is m f = refl
named_partner t y n [] (s ∷ ts) is m f = absurd m
named_partner t y n (e ∷ es) [] is m f = absurd m
named_partner t y n (e ∷ es) (s ∷ ts) is m f =
    elim (eqb_tells e.number.0 y.0) [
      | inl same ↦
          let number : s.number.0 ≡ y.0 = sym (ap (λ k. k.0) m.0.number) ∙ same.1 in
          let test : (y.0 == s.number.0) ≡ true = grind (arith, nat_tests) in
          let alike : names t.number.0 e.peer ≡ names t.number.0 s.peer =
          ap (λ o. names t.number.0 o) m.0.peer in
          elim (either (names t.number.0 s.peer)) [
            | inl on ↦
                let at : names t.number.0 e.peer ≡ true = alike ∙ on in
                rw (same.0, at, is, test, on) m.0.offered
            | inr off ↦
                let at : names t.number.0 e.peer ≡ false = alike ∙ off in
                let here : names y.0 t.peer ≡ true = rw is (eq_turned y.0 y.0 true
                (eq_itself y.0)) in
                let none : partner t ts ≡ nothing =
                no_partner t y.0 s.number.0 ts here f.1 (omega arith) in
                rw (same.0, at, is, test, off) (sym (ap (λ p. messages_of p.words) none))
          ]
      | inr other ↦
          let away : (s.number.0 == y.0) ≡ false =
          ap (λ k. k == y.0) (sym (ap (λ k. k.0) m.0.number)) ∙ other.0 in
          let test : (y.0 == s.number.0) ≡ false = eq_turned s.number.0 y.0 false away in
          rw (other.0, is, test) (named_partner t y s.number.0 es ts is m.1 f.1)
    ]
  where
    eq_itself : (a : ℕ) → (a == a) ≡ true
    eq_itself a = grind (arith, nat_tests)

source_words : (t : Talk) (n : ℕ) (es : List Entry) (ts : List Talk) → AllMirror es ts
    → FallBelow n ts → source es t.number.0 t.peer ≡ messages_of (partner t ts).words
source_words t n es ts m f = by_peer t.peer refl
  where
    by_peer : (o : Option Session) → t.peer ≡ o
        → source es t.number.0 t.peer ≡ messages_of (partner t ts).words
    by_peer None is =
        ap (λ o. source es t.number.0 o) is
        ∙ sym (ap (λ p. messages_of p.words) (down_partner t ts is))
    by_peer (Some y) is = ap (λ o. source es t.number.0 o) is ∙ named_partner t y n es ts is m f

own_source : (a b : HalfState) (A B : Talks) → AllMirror (entries a) (all_talks A)
    → AllMirror (entries b) (all_talks B) → KeepBothTalks A B
    → source (entries b) (mine_of a) (peer_of a.end)
    ≡ messages_of (partner A.now (all_talks B)).words
own_source a b A B m n both =
    ap (λ s. source (entries b) s.0 (peer_of a.end)) m.0.number
    ∙ ap (λ o. source (entries b) A.now.number.0 o) m.0.peer
    ∙ source_words A.now (suc B.now.number.0) (entries b) (all_talks B) n
    (omega arith, both.far.falls)

-- ---- a message that comes is that of the partner's next word

next_word : (ws : List Word) (m : Message) (rest : List Message) → messages_of ws ≡ m ∷ rest
    → (w : Word) × (later : List Word) × (ws ≡ w ∷ later) × (message_of w ≡ m)
next_word [] m rest e = absurd cc
next_word (w ∷ ws) m rest e = (w, ws, refl, (let t : message_of w ≡ m = cc in t))

-- the word of a message that was handed up
pub record NextWord (A B : Talks) (m : Message) : Type 0 where
  pub word : Word
  pub later : List Word
  pub message : message_of word ≡ m
  pub next : (partner A.now (all_talks B)).words ≡ A.now.heard ++ word ∷ later

pub got_word : (a b : HalfState) (A B : Talks) (m : Message)
    → AllMirror (entries a) (all_talks A) → AllMirror (entries b) (all_talks B) → KeepBothTalks A B
    → IsFront (a.handed ++ m ∷ []) (source (entries b) (mine_of a) (peer_of a.end))
    → NextWord A B m
got_word a b A B m n k both front =
    let p = both.near.holds.0.pair in
    let left : source (entries b) (mine_of a) (peer_of a.end)
    ≡ messages_of A.now.heard ++ messages_of p.back =
    own_source a b A B n k both ∙ ap messages_of p.back_is ∙ messages-append A.now.heard p.back in
    let right : source (entries b) (mine_of a) (peer_of a.end)
    ≡ messages_of A.now.heard ++ m ∷ front.0 =
    front.1 ∙ append_assoc a.handed (m ∷ []) front.0
    ∙ ap (λ h. h ++ m ∷ front.0) n.0.handed in
    let found = next_word p.back m front.0 (append_cancel_left (messages_of A.now.heard)
    (messages_of p.back) (m ∷ front.0) (sym left ∙ right)) in
    record {
      word = found.0;
      later = found.1;
      message = found.3;
      next = p.back_is ∙ ap (λ w. A.now.heard ++ w) found.2;
    }

-- ---- all messages came

length-messages : (ws : List Word) → length (messages_of ws) ≡ length ws
length-messages [] = refl
length-messages (w ∷ ws) = ap suc (length-messages ws)

pub none_left : (xs ys zs : List Word) → zs ≡ xs ++ ys → messages_of xs ≡ messages_of zs
    → zs ≡ xs
none_left xs [] zs e h = e ∙ append-nil xs
none_left xs (y ∷ ys) zs e h =
    let count : length xs ≡ length zs =
    sym (length-messages xs) ∙ ap length h ∙ length-messages zs in
    let more : length zs ≡ length xs + length (y ∷ ys) = ap length e ∙ length-append xs (y ∷ ys) in
    absurd (omega arith)
