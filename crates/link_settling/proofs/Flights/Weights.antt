-- What messages weigh, of those that were offered to a side and were not handed up to it.
use Rattle.std.proofs.Common.{◌≡◌, ◌+◌, ◌≤◌, ℕ, Bool, true, false, Option, Some, None, List, []}
use Rattle.std.proofs.Common.{◌∷◌, ◌++◌, refl, sym, ap, ◌∙◌, arith, if◌then◌else◌, ◌==◌, append-nil}
use Rattle.linx_base.specs.Fronts.{IsFront}
use Rattle.linx_base.specs.declared.frame.Message.{Message}
use Rattle.linx_base.specs.declared.identity.Session.{Session}
use Rattle.ethcm_end.specs.States.{peer_of}
use Rattle.carrier.specs.Records.{Entry, HalfState, current, entries, is_pair, mine_of, offered_at}
use Rattle.carrier.specs.Records.{source}
use Rattle.carrier.specs.Events.{LinkState}
use Rattle.carrier.specs.Keeping.{KeepsLink}
use Rattle.carrier.specs.Laws.{HandsUp, Offers}
use Rattle.carrier.proofs.Promising.{promises}
use Rattle.link_settling.specs.Measure.{due, weighed}

module _ (weight : Message → ℕ) where
  weighed-append : (xs ys : List Message)
      → weighed weight (xs ++ ys) ≡ weighed weight xs + weighed weight ys
  weighed-append [] ys = omega arith
  weighed-append (x ∷ xs) ys = let rest = weighed-append xs ys in omega arith

  pub weighed_as_much : (xs : List Message) → weighed weight xs ≤ weighed weight xs
  weighed_as_much xs = omega arith

  pub weighed_more : (xs ys : List Message) → weighed weight xs ≤ weighed weight (xs ++ ys)
  weighed_more xs ys = let whole = weighed-append xs ys in omega arith

  weighed_front : (xs ys : List Message) → IsFront xs ys
      → weighed weight xs ≤ weighed weight ys
  weighed_front xs ys f =
      let whole = ap (weighed weight) f.1 ∙ weighed-append xs f.0 in
      omega arith

  weighed_one : (xs : List Message) (m : Message)
      → weighed weight (xs ++ m ∷ []) ≡ weighed weight xs + weight m
  weighed_one xs m = let whole = weighed-append xs (m ∷ []) in omega arith

  -- ---- a session in which these were offered too

  record SameSession (e f : Entry) (ms : List Message) : Type 0 where
    pub number : f.number ≡ e.number
    pub peer : f.peer ≡ e.peer
    pub offered : f.offered ≡ e.offered ++ ms

  module _ (e f : Entry) (ms : List Message) (past : List Entry) (same : SameSession e f ms) where
    same_pair : (x y : ℕ) → is_pair x y (f ∷ past) ≡ is_pair x y (e ∷ past)
    same_pair x y = rw (same.number, same.peer) refl

    same_offered : (b : Bool) (other : List Message)
        → weighed weight (if b then f.offered else other)
        ≤ weighed weight (if b then e.offered else other) + weighed weight ms
    same_offered true other =
        let more = ap (weighed weight) same.offered ∙ weighed-append e.offered ms in
        omega arith
    same_offered false other = omega arith

    same_at : (y : ℕ) → weighed weight (offered_at y (f ∷ past))
        ≤ weighed weight (offered_at y (e ∷ past)) + weighed weight ms
    same_at y =
        let number : ℕ = f.number.0 in
        let is = ap (λ (x : Session).
        weighed weight (if x.0 == y then f.offered else offered_at y past)) same.number in
        let upto = same_offered (e.number.0 == y) (offered_at y past) in
        omega arith

    same_if : (b c : Bool) (y : ℕ) → b ≡ c
        → weighed weight (if b then offered_at y (f ∷ past) else [])
        ≤ weighed weight (if c then offered_at y (e ∷ past) else []) + weighed weight ms
    same_if true true y is = same_at y
    same_if false false y is = omega arith
    same_if true false y is = absurd (grind arith)
    same_if false true y is = absurd (grind arith)

    same_source : (x : ℕ) (peer : Option Session) → weighed weight (source (f ∷ past) x peer)
        ≤ weighed weight (source (e ∷ past) x peer) + weighed weight ms
    same_source x None = omega arith
    same_source x (Some y) =
        same_if (is_pair x y.0 (f ∷ past)) (is_pair x y.0 (e ∷ past)) y.0 (same_pair x y.0)

  -- ---- what is due

  -- the session goes on, these are offered in it, and nothing is handed up to the other side
  module _ (a c b : HalfState) (ms : List Message) (session : c.end.talk.mine ≡ a.end.talk.mine)
      (peer : peer_of c.end ≡ peer_of a.end) (offered : c.offered ≡ a.offered ++ ms)
      (past : c.past ≡ a.past) where
    far_due : due weight b c ≤ due weight b a + weighed weight ms
    far_due =
        let same : SameSession (current a) (current c) ms =
        record { number = session; peer = peer; offered = offered } in
        let is = ap (λ older. weighed weight (source (current c ∷ older) (mine_of b)
        (peer_of b.end))) past in
        let upto = same_source (current a) (current c) ms a.past same (mine_of b)
        (peer_of b.end) in
        omega arith

    -- and what is due to it is what was offered less what was handed up
    near_source : weighed weight (source (entries b) (mine_of c) (peer_of c.end))
        ≡ weighed weight (source (entries b) (mine_of a) (peer_of a.end))
    near_source =
        ap (λ (x : Session). weighed weight (source (entries b) x.0 (peer_of c.end))) session
        ∙ ap (λ p. weighed weight (source (entries b) (mine_of a) p)) peer

  -- a message is offered in the session of side a
  pub offered_due : (a c b : HalfState) (m : Message) → Offers a c m
      → due weight c b + due weight b c ≤ due weight a b + due weight b a + weight m
  offered_due a c b m o =
      let far = far_due a c b (m ∷ []) o.stays.session o.stays.peer o.offered o.past in
      let near = near_source a c b (m ∷ []) o.stays.session o.stays.peer o.offered o.past in
      let handed = ap (weighed weight) o.handed in
      omega arith

  -- a message is handed up to the first side of a link
  pub handed_due : (a : HalfState) (v : LinkState) (m : Message) → HandsUp a v.first v.second m
      → KeepsLink v
      → due weight v.first v.second + due weight v.second v.first + weight m
      ≤ due weight a v.second + due weight v.second a
  handed_due a v m h keeps =
      let none : v.first.offered ≡ a.offered ++ [] = h.offered ∙ sym (append-nil a.offered) in
      let far = far_due a v.first v.second [] h.stays.session h.stays.peer none h.past in
      let near = near_source a v.first v.second [] h.stays.session h.stays.peer none h.past in
      let handed = ap (weighed weight) h.handed ∙ weighed_one a.handed m in
      let front = weighed_front v.first.handed
      (source (entries v.second) (mine_of v.first) (peer_of v.first.end))
      (promises v keeps).first.fronts.0 in
      omega arith
