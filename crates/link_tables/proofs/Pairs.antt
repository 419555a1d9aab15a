-- THE PAIR OF THE SESSION THAT IS UP is the one that its going up named.
use Rattle.std.proofs.Common.{◌≡◌, ℕ, Bool, true, false, ◌&&◌, ◌==◌, List, [], ◌∷◌, Option, Some}
use Rattle.std.proofs.Common.{None, refl, sym, ap, fold, if◌then◌else◌, eq-eqb, true≢false}
use Rattle.linx_base.specs.declared.identity.Session.{Session}
use Rattle.journal.specs.declared.effect.Effect.{Effect}
use Rattle.journal.specs.declared.effect.Effect.TheVariants.{Up, Down}
use Rattle.journal.specs.declared.effect.Step.{Step}
use Rattle.journal.specs.Sessions.{session_after, session_past, up_session}
use Rattle.link_laws.specs.Sessions.{paired_after, paired_session}
use Rattle.link_tables.specs.Sides.{pair_after, pair_past, up_pair}

module _ (node link : ℕ) (x : Session) where
  -- what is up has this pair: of a session that is up, the pair of the table, and the one that the
  -- history names
  abbrev pub Agrees : Option Session → Option Session → Option Session → Type 0
  Agrees up pair named = up ≡ Some x → named ≡ pair

  same-session : (z : Session) → (let o : Option Session = Some z in o) ≡ Some x
      → (z.0 == x.0) ≡ true
  same-session z same = let is : z ≡ x = cc in eq-eqb z.0 x.0 (ap (λ (y : Session). y.0) is)

  goes_up : (a b c : Bool) (z y : Session) (up pair named : Option Session)
      → ((let o : Option Session = Some z in o) ≡ Some x → c ≡ true) → Agrees up pair named
      → Agrees (if a && b then Some z else up) (if a && b then Some y else pair)
      (if a && b && c then Some y else named)
  goes_up true true true z y up pair named is before = λ same. refl
  goes_up true true false z y up pair named is before =
      λ same. absurd (true≢false (sym (is same)))
  goes_up true false c z y up pair named is before = before
  goes_up false b c z y up pair named is before = before

  goes_down : (a b : Bool) (up pair named : Option Session) → Agrees up pair named
      → Agrees (if a && b then None else up) (if a && b then None else pair) named
  goes_down true true up pair named before = λ same. cc
  goes_down true false up pair named before = before
  goes_down false b up pair named before = before

  after-effect : (e : Effect) (up pair named : Option Session) → Agrees up pair named
      → Agrees (session_after node link up e) (pair_after node link pair e)
      (paired_after node link x named e)
  after-effect (Up n l z y) up pair named before =
      goes_up (n.0 == node) (l.0 == link) (z.0 == x.0) z y up pair named (same-session z) before
  after-effect (Down n l z) up pair named before =
      goes_down (n.0 == node) (l.0 == link) up pair named before
  after-effect _ up pair named before = before

  past-effects : (es : List Effect) (up pair named : Option Session) → Agrees up pair named
      → Agrees (session_past node link up es) (pair_past node link pair es)
      (fold (paired_after node link x) named es)
  past-effects [] up pair named before = before
  past-effects (e ∷ es) up pair named before =
      past-effects es (session_after node link up e) (pair_after node link pair e)
      (paired_after node link x named e) (after-effect e up pair named before)

  pub up-paired : (P : List Step) → up_session P node link ≡ Some x
      → paired_session P node link x ≡ up_pair P node link
  up-paired [] up = cc
  up-paired (s ∷ P) up =
      past-effects s.effects (up_session P node link) (up_pair P node link)
      (paired_session P node link x) (up-paired P) up
