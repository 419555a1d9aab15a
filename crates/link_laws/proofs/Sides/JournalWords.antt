-- What the journal's words say in the words of a link's side.
use Rattle.std.proofs.Common.{◌≡◌, ℕ, Bool, true, false, cond, ◌||◌, ◌&&◌, List, [], ◌∷◌, ◌++◌}
use Rattle.std.proofs.Common.{Option, Some, None, refl, sym, ◌∙◌, ap, arith, append_assoc}
use Rattle.std.proofs.Common.{append-nil, ◌==◌, filter_map, fold, true≢false}
use Rattle.std.specs.List.{list_any}
use Rattle.std.proofs.Math.Bool.{or-false}
use Rattle.std.proofs.lemmas.Bool.Decides.{nat_tests}
use Rattle.std.proofs.lemmas.List.Elements.{filter_map-append}
use Rattle.std.proofs.lemmas.List.Folds.{list_any-append}
use Rattle.linx_base.specs.Numbers.{is_on}
use Rattle.linx_base.specs.Peers.{same_inc}
use Rattle.linx_base.specs.declared.identity.Inc.{Inc}
use Rattle.linx_base.specs.declared.identity.LinkNo.{LinkNo}
use Rattle.linx_base.specs.declared.identity.Peer.{Peer}
use Rattle.linx_base.specs.declared.identity.Peer.TheVariants.{Here, There}
use Rattle.linx_base.specs.declared.identity.Session.{Session}
use Rattle.linx_base.specs.SigNotes.{SigNote}
use Rattle.trunk_record.specs.Sayings.{has_met, has_gone, meets_inc, parts_inc, signaled, Given}
use Rattle.trunk_record.specs.Sayings.{met, gone, arrived, signals_between}
use Rattle.journal.specs.History.{effects_of, endpoint_by}
use Rattle.journal.specs.Traffic.{sent_to, arrived_from, arrival_in, sent_by, is_endpoint, was_sent}
use Rattle.journal.specs.declared.effect.Effect.{Effect}
use Rattle.journal.specs.declared.effect.Effect.TheVariants.{Arrived, Met, Gone}
use Rattle.journal.specs.declared.effect.Step.{Step}
use Rattle.journal.specs.declared.head.Head.{Head}
use Rattle.journal.specs.declared.head.Head.TheVariants.{Send}
use Rattle.link_laws.specs.Brought.{meets_peer, was_met}
use Rattle.link_laws.specs.Came.{came_after, came_in, signal_over, sent_in}
use Rattle.link_laws.specs.Promises.{parts_peer, has_parted}
use Rattle.trunk_record.proofs.Sayings.{arrivals_between, same_inc-is, signals-append}

module _ (n : ℕ) (l : LinkNo) (x : Session) (a b : Inc) where
  abbrev q : Peer
  q = There l x a

  kept : (t : Bool) (g : Given) (before : List Given)
      → arrivals_between a b (g ∷ before) ≡ arrivals_between a b before
      → arrivals_between a b (cond t (g ∷ before) before) ≡ arrivals_between a b before ++ []
  kept true g before e = e ∙ sym (append-nil (arrivals_between a b before))
  kept false g before e = sym (append-nil (arrivals_between a b before))

  -- the tests of one arrival on both sides
  one : (on sl sx sa sb : Bool) (i j : Inc) (note : SigNote) (before : List Given)
      → same_inc i a ≡ sa → same_inc j b ≡ sb → (sb ≡ true → on ≡ true) →
      arrivals_between a b (cond (on && sl && sx) (arrived i j note ∷ before) before)
      ≡ arrivals_between a b before ++ filter_map (λ (o : Option SigNote). o)
      (cond (sb && (sl && sx && sa)) (Some note) None ∷ [])
  one true true true true true i j note before ea eb ok = rw (ea, eb) refl
  one true true true true false i j note before ea eb ok = rw (ea, eb) refl
  one true true true false true i j note before ea eb ok = rw ea refl
  one true true true false false i j note before ea eb ok = rw ea refl
  one false sl sx sa true i j note before ea eb ok = absurd (true≢false (sym (ok refl)))
  one false sl sx sa false i j note before ea eb ok = sym (append-nil (arrivals_between a b before))
  one true false sx sa true i j note before ea eb ok =
      sym (append-nil (arrivals_between a b before))
  one true false sx sa false i j note before ea eb ok =
      sym (append-nil (arrivals_between a b before))
  one true true false sa true i j note before ea eb ok =
      sym (append-nil (arrivals_between a b before))
  one true true false sa false i j note before ea eb ok =
      sym (append-nil (arrivals_between a b before))

  arrivals-effect : is_on n b ≡ true → (before : List Given) (e : Effect)
      → arrivals_between a b (came_after n l.0 x before e) ≡ arrivals_between a b before
      ++ filter_map (arrival_in b q) (e ∷ [])
  arrivals-effect on before (Met m (There k y i) name) =
      kept (m.0 == n && k.0 == l.0 && y.0 == x.0) (met i name) before refl
  arrivals-effect on before (Gone m (There k y i)) =
      kept (m.0 == n && k.0 == l.0 && y.0 == x.0) (gone i) before refl
  arrivals-effect on before (Arrived j (There k y i) note) =
      one (is_on n j) (k.0 == l.0) (y.0 == x.0) (same_inc i a) (same_inc j b) i j note before refl
      refl (λ same. ap (is_on n) (same_inc-is j b same) ∙ on)
  arrivals-effect on before (Arrived j (Here i) note) = nothing (same_inc j b)
    where
      nothing : (t : Bool) → arrivals_between a b before ≡ arrivals_between a b before
          ++ filter_map (λ (o : Option SigNote). o) (cond (t && false) (Some note) None ∷ [])
      nothing true = sym (append-nil (arrivals_between a b before))
      nothing false = sym (append-nil (arrivals_between a b before))
  arrivals-effect on before _ = sym (append-nil (arrivals_between a b before))

  arrivals-fold : is_on n b ≡ true → (before : List Given) (es : List Effect)
      → arrivals_between a b (fold (came_after n l.0 x) before es) ≡ arrivals_between a b before
      ++ filter_map (arrival_in b q) es
  arrivals-fold on before [] = sym (append-nil (arrivals_between a b before))
  arrivals-fold on before (e ∷ es) =
      arrivals-fold on (came_after n l.0 x before e) es
      ∙ ap (λ k. k ++ filter_map (arrival_in b q) es) (arrivals-effect on before e)
      ∙ append_assoc (arrivals_between a b before) (filter_map (arrival_in b q) (e ∷ []))
      (filter_map (arrival_in b q) es)
      ∙ ap (λ k. arrivals_between a b before ++ k)
      (sym (filter_map-append (arrival_in b q) (e ∷ []) es))

  pub arrived-came : is_on n b ≡ true → (P : List Step)
      → arrived_from P b (There l x a) ≡ arrivals_between a b (came_in P n l.0 x)
  arrived-came on [] = refl
  arrived-came on (s ∷ P) =
      filter_map-append (arrival_in b q) (effects_of P) s.effects
      ∙ ap (λ k. k ++ filter_map (arrival_in b q) s.effects) (arrived-came on P)
      ∙ sym (arrivals-fold on (came_in P n l.0 x) s.effects)

  -- the tests of one signal on both sides
  one_sent : (was on sl sx sa sb : Bool) (i j : Inc) (note : SigNote) → same_inc i a ≡ sa
      → same_inc j b ≡ sb → (sa ≡ true → on ≡ true) →
      cond sa (cond (was && (sl && sx && sb)) (note ∷ []) []) []
      ≡ signals_between a b (cond (was && on && sl && sx) (signaled i j note ∷ []) [])
  one_sent true true true true true true i j note ea eb ok = rw (ea, eb) refl
  one_sent true true true true true false i j note ea eb ok = rw (ea, eb) refl
  one_sent true true true true false true i j note ea eb ok = rw ea refl
  one_sent true true true true false false i j note ea eb ok = rw ea refl
  one_sent true false sl sx true sb i j note ea eb ok = absurd (true≢false (sym (ok refl)))
  one_sent true false sl sx false sb i j note ea eb ok = refl
  one_sent true true false sx true sb i j note ea eb ok = refl
  one_sent true true false sx false sb i j note ea eb ok = refl
  one_sent true true true false true sb i j note ea eb ok = refl
  one_sent true true true false false sb i j note ea eb ok = refl
  one_sent false on sl sx true sb i j note ea eb ok = refl
  one_sent false on sl sx false sb i j note ea eb ok = refl

  turned : (i : Inc) → same_inc a i ≡ same_inc i a
  turned i = grind (arith, nat_tests)

  none_of : (t : Bool) → cond t (let e : List SigNote = [] in e) [] ≡ []
  none_of true = refl
  none_of false = refl

  none_here : (t was : Bool) (note : SigNote) → cond t (cond (was && false) (note ∷ []) []) [] ≡ []
  none_here true true note = refl
  none_here true false note = refl
  none_here false was note = refl

  signal-head : is_on n a ≡ true → (me : Option Inc) (head : Head)
      → cond (is_endpoint a me) (sent_by (There l x b) head) []
      ≡ signals_between a b (signal_over n l.0 x me head)
  signal-head on None head = refl
  signal-head on (Some i) (Send (There k y j) note answer) =
      ap (λ t. cond t (sent_by (There l x b) (Send (There k y j) note answer)) []) (turned i)
      ∙ one_sent (was_sent answer) (is_on n i) (k.0 == l.0) (y.0 == x.0) (same_inc i a)
      (same_inc j b) i j note refl refl (λ same. ap (is_on n) (same_inc-is i a same) ∙ on)
  signal-head on (Some i) (Send (Here j) note answer) =
      none_here (same_inc a i) (was_sent answer) note
  signal-head on (Some i) _ = none_of (same_inc a i)

  pub sent-signals : is_on n a ≡ true → (P : List Step)
      → sent_to P a (There l x b) ≡ signals_between a b (sent_in P n l.0 x)
  sent-signals on [] = refl
  sent-signals on (s ∷ P) =
      ap (λ k. k ++ cond (is_endpoint a (endpoint_by P s.by)) (sent_by (There l x b) s.head) [])
      (sent-signals on P)
      ∙ ap (λ k. signals_between a b (sent_in P n l.0 x) ++ k)
      (signal-head on (endpoint_by P s.by) s.head)
      ∙ sym (signals-append a b (signal_over n l.0 x (endpoint_by P s.by) s.head)
      (sent_in P n l.0 x))

or-assoc : (t u v : Bool) → ((t || u) || v) ≡ (t || (u || v))
or-assoc true u v = refl
or-assoc false u v = refl

or-turn : (t u : Bool) → (t || u) ≡ (u || t)
or-turn true true = refl
or-turn true false = refl
or-turn false true = refl
or-turn false false = refl

and-none : (t : Bool) → (t && false) ≡ false
and-none true = refl
and-none false = refl

number-turn : (j k : ℕ) → (j == k) ≡ (k == j)
number-turn j k = grind (arith, nat_tests)

-- a test of what came is one of the effects that brought it
module _ (n : ℕ) (l : LinkNo) (x : Session) (p : Given → Bool) (q : Effect
    → Bool) (each : (z : List Given) (e : Effect)
    → list_any p (came_after n l.0 x z e) ≡ (list_any p z || q e)) where
  any-fold : (z : List Given) (es : List Effect)
      → list_any p (fold (came_after n l.0 x) z es) ≡ (list_any p z || list_any q es)
  any-fold z [] = sym (or-false (list_any p z))
  any-fold z (e ∷ es) =
      any-fold (came_after n l.0 x z e) es ∙ ap (λ t. t || list_any q es) (each z e)
      ∙ or-assoc (list_any p z) (q e) (list_any q es)

  any-came : (P : List Step) → list_any q (effects_of P) ≡ list_any p (came_in P n l.0 x)
  any-came [] = refl
  any-came (s ∷ P) =
      list_any-append q (effects_of P) s.effects ∙ ap (λ t. t || list_any q s.effects) (any-came P)
      ∙ sym (any-fold (came_in P n l.0 x) s.effects)

-- meetings and partings of a peer are those that came
module _ (n : ℕ) (l : LinkNo) (x : Session) (a : Inc) where
  kept_met : (t : Bool) (g : Given) (z : List Given) → meets_inc a g ≡ false
      → has_met a (cond t (g ∷ z) z) ≡ (has_met a z || false)
  kept_met true g z none = ap (λ u. u || has_met a z) none ∙ sym (or-false (has_met a z))
  kept_met false g z none = sym (or-false (has_met a z))

  kept_gone : (t : Bool) (g : Given) (z : List Given) → parts_inc a g ≡ false
      → has_gone a (cond t (g ∷ z) z) ≡ (has_gone a z || false)
  kept_gone true g z none = ap (λ u. u || has_gone a z) none ∙ sym (or-false (has_gone a z))
  kept_gone false g z none = sym (or-false (has_gone a z))

  one_met : (tn tl tx : Bool) (i : Inc) (name : List ℕ) (z : List Given)
      → has_met a (cond (tn && tl && tx) (met i name ∷ z) z)
      ≡ (has_met a z || (tn && (tl && tx && same_inc a i)))
  one_met true true true i name z = or-turn (same_inc a i) (has_met a z)
  one_met true true false i name z = sym (or-false (has_met a z))
  one_met true false tx i name z = sym (or-false (has_met a z))
  one_met false tl tx i name z = sym (or-false (has_met a z))

  one_gone : (tn tl tx : Bool) (i : Inc) (z : List Given)
      → has_gone a (cond (tn && tl && tx) (gone i ∷ z) z)
      ≡ (has_gone a z || (tn && (tl && tx && same_inc a i)))
  one_gone true true true i z = or-turn (same_inc a i) (has_gone a z)
  one_gone true true false i z = sym (or-false (has_gone a z))
  one_gone true false tx i z = sym (or-false (has_gone a z))
  one_gone false tl tx i z = sym (or-false (has_gone a z))

  turned_over : (tn : Bool) (k : LinkNo) (y : Session) (t : Bool)
      → (tn && (k.0 == l.0 && y.0 == x.0 && t)) ≡ (tn && (l.0 == k.0 && x.0 == y.0 && t))
  turned_over tn k y t = ap (λ u. tn && (u && y.0 == x.0 && t)) (number-turn k.0 l.0)
      ∙ ap (λ u. tn && (l.0 == k.0 && u && t)) (number-turn y.0 x.0)

  none_here_ : (t v : Bool) → v ≡ (v || (t && false))
  none_here_ true v = sym (or-false v)
  none_here_ false v = sym (or-false v)

  met-effect : (z : List Given) (e : Effect) → has_met a (came_after n l.0 x z e)
      ≡ (has_met a z || meets_peer n (There l x a) e)
  met-effect z (Met m (There k y i) name) = one_met (m.0 == n) (k.0 == l.0) (y.0 == x.0) i name z
      ∙ ap (λ u. has_met a z || u) (turned_over (m.0 == n) k y (same_inc a i))
  met-effect z (Met m (Here i) name) = none_here_ (m.0 == n) (has_met a z)
  met-effect z (Gone m (There k y i)) = kept_met (m.0 == n && k.0 == l.0 && y.0 == x.0) (gone i) z
      refl
  met-effect z (Gone m (Here i)) = sym (or-false (has_met a z))
  met-effect z (Arrived b (There k y i) note) =
      kept_met (is_on n b && k.0 == l.0 && y.0 == x.0) (arrived i b note) z refl
  met-effect z (Arrived b (Here i) note) = sym (or-false (has_met a z))
  met-effect z _ = sym (or-false (has_met a z))

  gone-effect : (z : List Given) (e : Effect) → has_gone a (came_after n l.0 x z e)
      ≡ (has_gone a z || parts_peer n (There l x a) e)
  gone-effect z (Gone m (There k y i)) = one_gone (m.0 == n) (k.0 == l.0) (y.0 == x.0) i z
      ∙ ap (λ u. has_gone a z || u) (turned_over (m.0 == n) k y (same_inc a i))
  gone-effect z (Gone m (Here i)) = none_here_ (m.0 == n) (has_gone a z)
  gone-effect z (Met m (There k y i) name) = kept_gone (m.0 == n && k.0 == l.0 && y.0 == x.0)
      (met i name) z refl
  gone-effect z (Met m (Here i) name) = sym (or-false (has_gone a z))
  gone-effect z (Arrived b (There k y i) note) =
      kept_gone (is_on n b && k.0 == l.0 && y.0 == x.0) (arrived i b note) z refl
  gone-effect z (Arrived b (Here i) note) = sym (or-false (has_gone a z))
  gone-effect z _ = sym (or-false (has_gone a z))

  pub met-came : (P : List Step) → was_met P n (There l x a) ≡ has_met a (came_in P n l.0 x)
  met-came P = any-came n l x (meets_inc a) (meets_peer n (There l x a)) met-effect P

  pub gone-came : (P : List Step) → has_parted P n (There l x a) ≡ has_gone a (came_in P n l.0 x)
  gone-came P = any-came n l x (parts_inc a) (parts_peer n (There l x a)) gone-effect P
