-- What one more step makes of each word of a side, by what it does before its items: found hunts
-- and notifications concern no word of a side.
use Rattle.std.proofs.Common.{◌≡◌, ℕ, ◌+◌, Bool, true, false, cond, ◌||◌, List, [], ◌∷◌, ◌++◌}
use Rattle.std.proofs.Common.{Option, refl, sym, ◌∙◌, ap, arith, append-nil, filter_map, fold}
use Rattle.std.proofs.Common.{true≢false}
use Rattle.std.specs.List.{list_any, AllByRecursion}
use Rattle.std.proofs.Math.Bool.{or-false}
use Rattle.std.proofs.lemmas.List.Elements.{filter_map-append}
use Rattle.std.proofs.lemmas.List.Folds.{list_any-append}
use Rattle.linx_base.specs.declared.identity.Inc.{Inc}
use Rattle.linx_base.specs.declared.identity.Session.{Session}
use Rattle.linx_base.specs.declared.pending.MetPeer.{MetPeer}
use Rattle.trunk_record.specs.Sayings.{Given}
use Rattle.journal.specs.History.{effects_of, opened_in, closes, is_closed, openings, name_in}
use Rattle.journal.specs.History.{opens, opening_name}
use Rattle.journal.specs.Living.{living_after, living}
use Rattle.journal.specs.Sessions.{session_after, up_session, session_past}
use Rattle.journal.specs.declared.effect.Effect.{Effect}
use Rattle.journal.specs.declared.effect.Effect.TheVariants.{Found, Notified}
use Rattle.journal.specs.declared.effect.Step.{Step}
use Rattle.link_laws.specs.Came.{came_after, came_in}
use Rattle.link_laws.specs.Sessions.{paired_after, paired_session, restarts, ends_session}
use Rattle.link_laws.specs.Sessions.{own_session}

-- the effect is a found hunt or a notification, which concern a queue alone
abbrev pub is_item : Effect → Bool
is_item (Found i q note number) = true
is_item (Notified i q note reference reason) = true
is_item _ = false

abbrev pub AreItems : List Effect → Type 0
AreItems items = AllByRecursion (λ e. is_item e ≡ true) items

-- a step: what it does, and then its items
pub record IsDone (s : Step) (es items : List Effect) : Type 0 where
  pub effects : s.effects ≡ es ++ items
  pub items_only : AreItems items

-- words that don't heed items
fold-items : {S : Type 0} (f : S → Effect → S)
    → ((z : S) (e : Effect) → is_item e ≡ true → f z e ≡ z) → (z : S) (items : List Effect)
    → AreItems items → fold f z items ≡ z
fold-items f heeds_not z [] are = refl
fold-items f heeds_not z (e ∷ items) are = ap (λ y. fold f y items) (heeds_not z e are.0)
    ∙ fold-items f heeds_not z items are.1

pub fold-append : {S : Type 0} (f : S → Effect → S) (z : S) (xs ys : List Effect)
    → fold f z (xs ++ ys) ≡ fold f (fold f z xs) ys
fold-append f z [] ys = refl
fold-append f z (x ∷ xs) ys = fold-append f (f z x) xs ys

pub fold-done : {S : Type 0} (f : S → Effect → S)
    → ((z : S) (e : Effect) → is_item e ≡ true → f z e ≡ z)
    → (z : S) (s : Step) (es items : List Effect) → IsDone s es items
    → fold f z s.effects ≡ fold f z es
fold-done f heeds_not z s es items done =
    ap (fold f z) done.effects ∙ fold-append f z es items
    ∙ fold-items f heeds_not (fold f z es) items done.items_only

-- the session past effects is a fold
past-fold : (n l : ℕ) (z : Option Session) (es : List Effect)
    → session_past n l z es ≡ fold (session_after n l) z es
past-fold n l z [] = refl
past-fold n l z (e ∷ es) = past-fold n l (session_after n l z e) es

up-items : (node link : ℕ) (z : Option Session) (e : Effect) → is_item e ≡ true
    → session_after node link z e ≡ z
up-items node link z (Found i q note number) is = refl
up-items node link z (Notified i q note reference reason) is = refl
up-items node link z _ is = absurd (true≢false (sym is))

paired-items : (node link : ℕ) (x : Session) (z : Option Session) (e : Effect) → is_item e ≡ true
    → paired_after node link x z e ≡ z
paired-items node link x z (Found i q note number) is = refl
paired-items node link x z (Notified i q note reference reason) is = refl
paired-items node link x z _ is = absurd (true≢false (sym is))

came-items : (node link : ℕ) (x : Session) (z : List Given) (e : Effect) → is_item e ≡ true
    → came_after node link x z e ≡ z
came-items node link x z (Found i q note number) is = refl
came-items node link x z (Notified i q note reference reason) is = refl
came-items node link x z _ is = absurd (true≢false (sym is))

living-items : (node : ℕ) (z : List MetPeer) (e : Effect) → is_item e ≡ true
    → living_after node z e ≡ z
living-items node z (Found i q note number) is = refl
living-items node z (Notified i q note reference reason) is = refl
living-items node z _ is = absurd (true≢false (sym is))

-- tests that don't heed items
pub any-items : (p : Effect → Bool) → ((e : Effect) → is_item e ≡ true → p e ≡ false)
    → (items : List Effect) → AreItems items → list_any p items ≡ false
any-items p heeds_not [] are = refl
any-items p heeds_not (e ∷ items) are = ap (λ t. t || list_any p items) (heeds_not e are.0)
    ∙ any-items p heeds_not items are.1

pub any-done : (p : Effect → Bool) → ((e : Effect) → is_item e ≡ true → p e ≡ false)
    → (s : Step) (es items : List Effect) → IsDone s es items → list_any p s.effects ≡ list_any p es
any-done p heeds_not s es items done =
    ap (list_any p) done.effects ∙ list_any-append p es items
    ∙ ap (λ t. list_any p es || t) (any-items p heeds_not items done.items_only)
    ∙ or-false (list_any p es)

pub closes-items : (i : Inc) (e : Effect) → is_item e ≡ true → closes i e ≡ false
closes-items i (Found j q note number) is = refl
closes-items i (Notified j q note reference reason) is = refl
closes-items i _ is = absurd (true≢false (sym is))

opens-items : (i : Inc) (e : Effect) → is_item e ≡ true → opens i e ≡ false
opens-items i (Found j q note number) is = refl
opens-items i (Notified j q note reference reason) is = refl
opens-items i _ is = absurd (true≢false (sym is))

down-items : (node link : ℕ) (e : Effect) → is_item e ≡ true → ends_session node link e ≡ false
down-items node link (Found j q note number) is = refl
down-items node link (Notified j q note reference reason) is = refl
down-items node link _ is = absurd (true≢false (sym is))

pub opened-items : (items : List Effect) → AreItems items → filter_map opened_in items ≡ []
opened-items [] are = refl
opened-items (Found j q note number ∷ items) are = opened-items items are.1
opened-items (Notified j q note reference reason ∷ items) are = opened-items items are.1
opened-items (_ ∷ items) are = absurd (true≢false (sym are.0))

module _ (P : List Step) (s : Step) (es items : List Effect) (done : IsDone s es items) where
  pub up-done : (n l : ℕ) → up_session (s ∷ P) n l ≡ fold (session_after n l) (up_session P n l) es
  up-done n l = past-fold n l (up_session P n l) s.effects
      ∙ fold-done (session_after n l) (up-items n l) (up_session P n l) s es items done

  pub paired-done : (n l : ℕ) (x : Session) → paired_session (s ∷ P) n l x
      ≡ fold (paired_after n l x) (paired_session P n l x) es
  paired-done n l x = fold-done (paired_after n l x) (paired-items n l x) (paired_session P n l x) s
      es items done

  pub came-done : (n l : ℕ) (x : Session) → came_in (s ∷ P) n l x
      ≡ fold (came_after n l x) (came_in P n l x) es
  came-done n l x = fold-done (came_after n l x) (came-items n l x) (came_in P n l x) s es items
      done

  pub living-done : (n : ℕ) → living (s ∷ P) n ≡ fold (living_after n) (living P n) es
  living-done n = fold-done (living_after n) (living-items n) (living P n) s es items done

  pub closed-done : (i : Inc) → is_closed (s ∷ P) i ≡ (is_closed P i || list_any (closes i) es)
  closed-done i = list_any-append (closes i) (effects_of P) s.effects
      ∙ ap (λ t. is_closed P i || t) (any-done (closes i) (closes-items i) s es items done)

  pub openings-done : openings (s ∷ P) ≡ openings P ++ filter_map opened_in es
  openings-done =
      filter_map-append opened_in (effects_of P) s.effects
      ∙ ap (λ k. openings P ++ filter_map opened_in k) done.effects
      ∙ ap (λ k. openings P ++ k) (filter_map-append opened_in es items
      ∙ ap (λ k. filter_map opened_in es ++ k) (opened-items items done.items_only)
      ∙ append-nil (filter_map opened_in es))

  pub opens-done : (i : Inc) → list_any (opens i) s.effects ≡ list_any (opens i) es
  opens-done i = any-done (opens i) (opens-items i) s es items done

  pub closes-done : (i : Inc) → list_any (closes i) s.effects ≡ list_any (closes i) es
  closes-done i = any-done (closes i) (closes-items i) s es items done

  pub name-done : (i : Inc) → opening_name (s ∷ P) i
      ≡ cond (list_any (opens i) es) (name_in s.head) (opening_name P i)
  name-done i = ap (λ t. cond t (name_in s.head) (opening_name P i)) (opens-done i)

  pub own-done : (n l : ℕ) → restarts n s.head ≡ false → list_any (ends_session n l) es ≡ false
      → own_session (s ∷ P) n l ≡ own_session P n l
  own-done n l stays none = rw (
    stays,
    any-done (ends_session n l) (down-items n l) s es items done,
    none,
  ) refl

  pub down-done : (n l : ℕ) → restarts n s.head ≡ false → list_any (ends_session n l) es ≡ true
      → own_session (s ∷ P) n l ≡ record { 0 = (own_session P n l).0 + 1 }
  down-done n l stays one =
      let twice : list_any (ends_session n l) s.effects ≡ true =
      any-done (ends_session n l) (down-items n l) s es items done ∙ one in
      rw (stays, twice) (ap (λ (k : ℕ). let x : Session = record { 0 = k } in x) (omega arith))
