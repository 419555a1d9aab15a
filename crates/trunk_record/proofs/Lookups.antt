-- Sessions looked up in a side, also in one that said or was given more.
use Rattle.std.proofs.Common.{[], ◌≡◌, ◌<◌, ℕ, true, false, cond, List, ◌∷◌, ◌++◌, Option, Some}
use Rattle.std.proofs.Common.{None, refl, ◌∙◌, ap, arith, ◌==◌, eq-eqb}
use Rattle.std.specs.List.{AllByRecursion}
use Rattle.std.proofs.lemmas.Bool.Decides.{nat_tests}
use Rattle.linx_base.specs.FirstMatch.{first_match}
use Rattle.linx_base.specs.declared.identity.Session.{Session}
use Rattle.trunk_record.specs.Changes.{saying, giving}
use Rattle.trunk_record.specs.Records.{SessionRecord, SideRecord, all, has_session, peer_of}
use Rattle.trunk_record.specs.Records.{said_of, given_of, peer_in, said_in, given_in}
use Rattle.trunk_record.specs.Sayings.{Said, Given}
use Rattle.trunk_record.specs.Trunks.{IsBelow}

-- the present entry of a side, made another one of the same session
module _ (A : SideRecord) (x : Session) (new : SessionRecord) where
  abbrev found : Option SessionRecord
  found = cond (has_session x A.now) (Some new) (first_match (has_session x) A.earlier)

  -- what both entries tell alike stays as it was
  told_alike : {Y : Type 0} (tells : Option SessionRecord → Y) → tells (Some new)
      ≡ tells (Some A.now) → tells found ≡ tells (first_match (has_session x) (all A))
  told_alike tells same =
      elim (has_session x A.now) as (λ t. tells
      (cond t (Some new) (first_match (has_session x) A.earlier))
      ≡ tells (cond t (Some A.now) (first_match (has_session x) A.earlier)))
      [ true ↦ same | false ↦ refl ]

  -- what the new one tells more is told of its session alone
  told_more : {Y : Type 0} (tells : Option SessionRecord → List Y) (more : List Y)
      → tells (Some new) ≡ more ++ tells (Some A.now)
      → tells found ≡ cond (has_session x A.now) more []
      ++ tells (first_match (has_session x) (all A))
  told_more tells more longer =
      elim (has_session x A.now) as (λ t. tells
      (cond t (Some new) (first_match (has_session x) A.earlier)) ≡ cond t more []
      ++ tells (cond t (Some A.now) (first_match (has_session x) A.earlier)))
      [ true ↦ longer | false ↦ refl ]

-- looking a session up after more was said in the present one
module _ (ws : List Said) (A : SideRecord) (x : Session) where
  abbrev having_said : SessionRecord
  having_said = record A.now { said = ws ++ A.now.said }

  pub saying-said : said_in (saying ws A) x ≡ cond (has_session x A.now) ws [] ++ said_in A x
  saying-said = told_more A x having_said said_of ws refl

  pub saying-given : given_in (saying ws A) x ≡ given_in A x
  saying-given = told_alike A x having_said given_of refl

  pub saying-peer : peer_in (saying ws A) x ≡ peer_in A x
  saying-peer = told_alike A x having_said peer_of refl

-- and after more was given in it
module _ (g : Given) (A : SideRecord) (x : Session) where
  abbrev having_got : SessionRecord
  having_got = record A.now { given = g ∷ A.now.given }

  pub giving-said : said_in (giving g A) x ≡ said_in A x
  giving-said = told_alike A x having_got said_of refl

  pub giving-peer : peer_in (giving g A) x ≡ peer_in A x
  giving-peer = told_alike A x having_got peer_of refl

  pub giving-given : given_in (giving g A) x
      ≡ cond (has_session x A.now) (g ∷ []) [] ++ given_in A x
  giving-given = told_more A x having_got given_of (g ∷ []) refl

-- a session above all of a side is none of them
pub none_such : (x : Session) (es : List SessionRecord) → AllByRecursion (IsBelow x) es
    → first_match (has_session x) es ≡ None
none_such x [] below = refl
none_such x (e ∷ es) below =
    let apart : (e.session.0 == x.0) ≡ false = lower e.session.0 x.0 below.0 in
    ap (λ t. cond t (Some e) (first_match (has_session x) es)) apart ∙ none_such x es below.1
  where
    lower : (a b : ℕ) → a < b → (a == b) ≡ false
    lower a b under = grind (arith, nat_tests)

-- of the present session the records tell what stands in it
pub session-itself : (e : SessionRecord) → has_session e.session e ≡ true
session-itself e = eq-eqb e.session.0 e.session.0 refl

pub given-now : (A : SideRecord) → given_in A A.now.session ≡ A.now.given
given-now A = rw (session-itself A.now) refl

pub peer-now : (A : SideRecord) → peer_in A A.now.session ≡ A.now.peer
peer-now A = rw (session-itself A.now) refl

pub said-now : (A : SideRecord) → said_in A A.now.session ≡ A.now.said
said-now A = rw (session-itself A.now) refl

-- what holds of what was said in each session holds of what was said in one
pub said-all : (Q : List Said → Type 0) → Q [] → (y : Session) (es : List SessionRecord)
    → AllByRecursion (λ e. Q e.said) es → Q (said_of (first_match (has_session y) es))
said-all Q none y [] held = none
said-all Q none y (e ∷ es) held =
    let rest : Q (said_of (first_match (has_session y) es)) = said-all Q none y es held.1 in
    elim (has_session y e) as (λ t. Q (said_of (cond t (Some e) (first_match (has_session y) es))))
    [ true ↦ held.0 | false ↦ rest ]
