-- The words of a side that a step does not touch stay.
use Rattle.std.proofs.Common.{◌≡◌, ℕ, Bool, true, false, cond, not, ◌||◌, ◌&&◌, List, [], ◌∷◌, ◌++◌}
use Rattle.std.proofs.Common.{Option, Some, None, refl, sym, ◌∙◌, ap, arith, ◌==◌, filter, fold}
use Rattle.std.proofs.Common.{true≢false, eqb-true}
use Rattle.std.specs.List.{list_any}
use Rattle.std.proofs.Math.Bool.{or-false}
use Rattle.std.proofs.lemmas.Bool.{or_parts}
use Rattle.std.proofs.lemmas.Bool.Decides.{nat_tests}
use Rattle.std.proofs.lemmas.List.Folds.{list_any-append}
use Rattle.linx_base.specs.Numbers.{is_on}
use Rattle.linx_base.specs.Peers.{same_inc, same_peer}
use Rattle.linx_base.specs.declared.identity.Inc.{Inc}
use Rattle.linx_base.specs.declared.identity.LinkNo.{LinkNo}
use Rattle.linx_base.specs.declared.identity.Peer.{Peer}
use Rattle.linx_base.specs.declared.identity.Peer.TheVariants.{Here, There}
use Rattle.linx_base.specs.declared.identity.Session.{Session}
use Rattle.linx_base.specs.declared.pending.MetPeer.{MetPeer}
use Rattle.trunk_record.specs.Sayings.{Given, met, gone, arrived}
use Rattle.linx_base.specs.Pending.{is_of_session}
use Rattle.journal.specs.Living.{living_after, living, is_alive}
use Rattle.journal.specs.Sessions.{session_after, up_session}
use Rattle.journal.specs.declared.effect.Effect.{Effect}
use Rattle.journal.specs.declared.effect.Effect.TheVariants.{Arrived, Met, Gone, Up, Down}
use Rattle.journal.specs.declared.effect.Step.{Step}
use Rattle.journal.proofs.Openings.{same_inc-true}
use Rattle.link_laws.specs.Came.{came_after, came_in}
use Rattle.link_laws.specs.Sessions.{paired_after, paired_session, restarts, ends_session}
use Rattle.link_laws.specs.Sessions.{own_session}
use Rattle.link_laws.proofs.Sides.WordsAfterStep.{IsDone, up-done, paired-done, came-done}
use Rattle.link_laws.proofs.Sides.WordsAfterStep.{living-done, own-done}
use Rattle.link_laws.proofs.Endpoints.OpenAfterStep.{any-filter, both_true}

-- the effect concerns this node's side of this link
abbrev pub touches : ℕ → ℕ → Effect → Bool
touches node link (Up n l x y) = n.0 == node && l.0 == link
touches node link (Down n l x) = n.0 == node && l.0 == link
touches node link (Met n (There l x i) name) = n.0 == node && l.0 == link
touches node link (Gone n (There l x i)) = n.0 == node && l.0 == link
touches node link (Arrived b (There l x i) note) = is_on node b && l.0 == link
touches node link _ = false

-- a step that touches not a side leaves its words
off : (s t : Bool) → (s && t) ≡ false → (u : Bool) → (s && t && u) ≡ false
off true true e u = absurd (true≢false e)
off true false e u = refl
off false t e u = refl

cond-off : {X : Type 0} (t : Bool) (x y : X) → t ≡ false → cond t x y ≡ y
cond-off t x y e = ap (λ u. cond u x y) e

up-off : (n l : ℕ) (z : Option Session) (e : Effect) → touches n l e ≡ false
    → session_after n l z e ≡ z
up-off n l z (Up m k x y) away = cond-off _ (Some x) z away
up-off n l z (Down m k x) away = cond-off _ None z away
up-off n l z _ away = refl

paired-off : (n l : ℕ) (x : Session) (z : Option Session) (e : Effect) → touches n l e ≡ false
    → paired_after n l x z e ≡ z
paired-off n l x z (Up m k y w) away = cond-off _ (Some w) z
    (off (m.0 == n) (k.0 == l) away (y.0 == x.0))
paired-off n l x z _ away = refl

came-off : (n l : ℕ) (x : Session) (z : List Given) (e : Effect) → touches n l e ≡ false
    → came_after n l x z e ≡ z
came-off n l x z (Met m (There k y i) name) away =
    cond-off _ (met i name ∷ z) z (off (m.0 == n) (k.0 == l) away (y.0 == x.0))
came-off n l x z (Gone m (There k y i)) away =
    cond-off _ (gone i ∷ z) z (off (m.0 == n) (k.0 == l) away (y.0 == x.0))
came-off n l x z (Arrived b (There k y i) note) away =
    cond-off _ (arrived i b note ∷ z) z (off (is_on n b) (k.0 == l) away (y.0 == x.0))
came-off n l x z (Met m (Here i) name) away = refl
came-off n l x z (Gone m (Here i)) away = refl
came-off n l x z (Arrived b (Here i) note) away = refl
came-off n l x z _ away = refl

down-off : (n l : ℕ) (e : Effect) → touches n l e ≡ false → ends_session n l e ≡ false
down-off n l (Down m k x) away = away
down-off n l _ away = refl

-- a peer over the link is alive in a table
abbrev pub alive_in : Peer → List MetPeer → Bool
alive_in q table = list_any (λ m. same_peer q m.peer) table

more-off : (t : Bool) (table : List MetPeer) (q : Peer) (m : MetPeer)
    → (t ≡ true → same_peer q m.peer ≡ false) → alive_in q (cond t (table ++ m ∷ []) table)
    ≡ alive_in q table
more-off true table q m apart = list_any-append (λ k. same_peer q k.peer) table (m ∷ [])
    ∙ ap (λ w. alive_in q table || (w || false)) (apart refl) ∙ or-false (alive_in q table)
more-off false table q m apart = refl

-- a filter that keeps the peer leaves it as alive as it was
pub fewer-off : (t : Bool) (q : Peer) (p : MetPeer → Bool)
    → ((m : MetPeer) → t ≡ true → same_peer q m.peer ≡ true → p m ≡ true) → (table : List MetPeer)
    → alive_in q (cond t (filter p table) table) ≡ alive_in q table
fewer-off true q p keeps table = any-filter (λ m. same_peer q m.peer) p true
    (λ m is. keeps m refl is) table
fewer-off false q p keeps table = refl

pub same_peer-is : (l : LinkNo) (x : Session) (a : Inc) (p : Peer)
    → same_peer (There l x a) p ≡ true → p ≡ There l x a
same_peer-is l x a (Here i) is = absurd (true≢false (sym is))
same_peer-is l x a (There k y i) is =
    let first = both_true (l.0 == k.0 && x.0 == y.0) (same_inc a i) is in
    let second = both_true (l.0 == k.0) (x.0 == y.0) first.0 in
    let link : l ≡ k = ap (λ (n : ℕ). let m : LinkNo = record { 0 = n } in
    m) (eqb-true l.0 k.0 second.0) in
    let session : x ≡ y = ap (λ (n : ℕ). let m : Session = record { 0 = n } in
    m) (eqb-true x.0 y.0 second.1) in
    let inc : a ≡ i = same_inc-true a i first.1 in
    cc

-- the second of two tests fails where the first holds
pub second_fails : (s t : Bool) → (s && t) ≡ false → s ≡ true → t ≡ false
second_fails true t e is = e
second_fails false t e is = absurd (true≢false (sym is))

apart : (k l : LinkNo) → (k.0 == l.0) ≡ false → (l.0 == k.0) ≡ false
apart k l e = grind (arith, nat_tests)

and-off : (s t : Bool) → s ≡ false → (s && t) ≡ false
and-off s t e = ap (λ u. u && t) e

pub alive-off : (n : ℕ) (l : LinkNo) (x : Session) (a : Inc) (z : List MetPeer) (e : Effect)
    → touches n l.0 e ≡ false → alive_in (There l x a) (living_after n z e)
    ≡ alive_in (There l x a) z
alive-off n l x a z (Met m (Here i) name) away = more-off (m.0 == n) z (There l x a) _ (λ t. refl)
alive-off n l x a z (Met m (There k y i) name) away =
    more-off (m.0 == n) z (There l x a) _ (λ t. and-off _ (same_inc a i)
    (and-off (l.0 == k.0) (x.0 == y.0) (apart k l
    (second_fails (m.0 == n) (k.0 == l.0) away t))))
alive-off n l x a z (Gone m (Here i)) away =
    fewer-off (m.0 == n) (There l x a) (λ p. not (same_peer (Here i) p.peer))
    (λ p t is. ap (λ q. not (same_peer (Here i) q)) (same_peer-is l x a p.peer is)) z
alive-off n l x a z (Gone m (There k y i)) away =
    fewer-off (m.0 == n) (There l x a) (λ p. not (same_peer (There k y i) p.peer)) (λ p t is.
    ap (λ q. not (same_peer (There k y i) q)) (same_peer-is l x a p.peer is)
    ∙ ap not (and-off _ (same_inc i a) (and-off (k.0 == l.0) (y.0 == x.0)
    (second_fails (m.0 == n) (k.0 == l.0) away t)))) z
alive-off n l x a z (Down m k y) away =
    fewer-off (m.0 == n) (There l x a) (λ p. not (is_of_session k y p.peer)) (λ p t is.
    ap (λ q. not (is_of_session k y q)) (same_peer-is l x a p.peer is)
    ∙ ap not (and-off (l.0 == k.0) (x.0 == y.0)
    (apart k l (second_fails (m.0 == n) (k.0 == l.0) away t)))) z
alive-off n l x a z _ away = refl

pub fold-off : {S : Type 0} (f : S → Effect → S) (p : Effect → Bool)
    → ((z : S) (e : Effect) → p e ≡ false → f z e ≡ z) → (z : S) (es : List Effect)
    → list_any p es ≡ false → fold f z es ≡ z
fold-off f p stays z [] none = refl
fold-off f p stays z (e ∷ es) none =
    let both = or_parts (p e) (list_any p es) none in
    ap (λ y. fold f y es) (stays z e both.0) ∙ fold-off f p stays z es both.1

pub any-off : (p q : Effect → Bool) → ((e : Effect) → p e ≡ false → q e ≡ false)
    → (es : List Effect) → list_any p es ≡ false → list_any q es ≡ false
any-off p q narrower [] none = refl
any-off p q narrower (e ∷ es) none =
    let both = or_parts (p e) (list_any p es) none in
    ap (λ t. t || list_any q es) (narrower e both.0) ∙ any-off p q narrower es both.1

alive-fold : (n : ℕ) (l : LinkNo) (x : Session) (a : Inc) (z : List MetPeer) (es : List Effect)
    → list_any (touches n l.0) es ≡ false → alive_in (There l x a) (fold (living_after n) z es)
    ≡ alive_in (There l x a) z
alive-fold n l x a z [] none = refl
alive-fold n l x a z (e ∷ es) none =
    let both = or_parts (touches n l.0 e) (list_any (touches n l.0) es) none in
    alive-fold n l x a (living_after n z e) es both.1 ∙ alive-off n l x a z e both.0

-- the words of a side that a step doesn't touch
module _ (P : List Step) (s : Step) (es items : List Effect) (done : IsDone s es items) (n : ℕ)
    (l : LinkNo) (away : list_any (touches n l.0) es ≡ false) where
  pub up-away : up_session (s ∷ P) n l.0 ≡ up_session P n l.0
  up-away = up-done P s es items done n l.0 ∙ fold-off (session_after n l.0) (touches n l.0)
      (λ z e. up-off n l.0 z e) (up_session P n l.0) es away

  pub paired-away : (x : Session) → paired_session (s ∷ P) n l.0 x ≡ paired_session P n l.0 x
  paired-away x = paired-done P s es items done n l.0 x
      ∙ fold-off (paired_after n l.0 x) (touches n l.0) (λ z e. paired-off n l.0 x z e)
      (paired_session P n l.0 x) es away

  pub came-away : (x : Session) → came_in (s ∷ P) n l.0 x ≡ came_in P n l.0 x
  came-away x = came-done P s es items done n l.0 x
      ∙ fold-off (came_after n l.0 x) (touches n l.0) (λ z e. came-off n l.0 x z e)
      (came_in P n l.0 x) es away

  pub alive-away : (x : Session) (a : Inc) → is_alive (s ∷ P) n (There l x a)
      ≡ is_alive P n (There l x a)
  alive-away x a = ap (alive_in (There l x a)) (living-done P s es items done n)
      ∙ alive-fold n l x a (living P n) es away

  pub own-away : restarts n s.head ≡ false → own_session (s ∷ P) n l.0 ≡ own_session P n l.0
  own-away stays = own-done P s es items done n l.0 stays
      (any-off (touches n l.0) (ends_session n l.0) (down-off n l.0) es away)
