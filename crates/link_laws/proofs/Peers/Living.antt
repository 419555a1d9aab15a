-- A living peer over a link, and an open endpoint, in the words of the side's record.
use Rattle.std.proofs.Common.{◌≡◌, ℕ, true, false, List, Option, Some, None, map, sym, ◌∙◌, ap}
use Rattle.std.proofs.Common.{eqb-true, true≢false}
use Rattle.std.proofs.lemmas.Bool.{false_from_ne_true}
use Rattle.linx_base.specs.declared.identity.Inc.{Inc}
use Rattle.linx_base.specs.declared.identity.LinkNo.{LinkNo}
use Rattle.linx_base.specs.declared.identity.Peer.TheVariants.{Here, There}
use Rattle.linx_base.specs.declared.identity.Session.{Session}
use Rattle.trunk_record.specs.Records.{SideRecord, given_in, session_if, up_in}
use Rattle.trunk_record.specs.Sayings.{Given, heard_as, is_live, was_unpublished}
use Rattle.trunk_record.proofs.Lookups.{given-now}
use Rattle.journal.specs.Living.{is_alive}
use Rattle.journal.specs.declared.effect.Step.{Step}
use Rattle.link_laws.specs.Fits.{CanSend}
use Rattle.link_laws.specs.Linked.{IsLinked, is_session}
use Rattle.link_laws.proofs.Sides.Brings.{unpublished-closed}
use Rattle.link_laws.proofs.Endpoints.OpenAfterStep.{both_true}

-- who is alive over a link is so in the session that is up, and live in what was heard
pub alive-known : (P : List Step) (n : ℕ) (l : LinkNo) (A : SideRecord) → IsLinked P n l A
    → (x : Session) (b : Inc) → is_alive P n (There l x b) ≡ true → CanSend A x b
alive-known P n l A near x b alive = record {
  own = same;
  up = λ down. true≢false (sym both.0
      ∙ ap (λ p. is_session x (session_if p A.now.session)) down);
  known = ap (λ (gs : List Given). is_live b (map heard_as gs)) (sym (given-now A)
      ∙ ap (given_in A) (sym same)) ∙ both.1;
}
  where
    both : (is_session x (up_in A) ≡ true) × (is_live b (map heard_as (given_in A x)) ≡ true)
    both = both_true (is_session x (up_in A)) (is_live b (map heard_as (given_in A x)))
        (sym (near.living x b) ∙ alive)

    own : (p : Option Session) → is_session x (session_if p A.now.session) ≡ true
        → x ≡ A.now.session
    own None is = absurd (true≢false (sym is))
    own (Some y) is = ap (λ (k : ℕ). let z : Session = record { 0 = k } in z)
        (eqb-true x.0 A.now.session.0 is)

    same : x ≡ A.now.session
    same = own A.now.peer both.0

-- an open endpoint was not unpublished in the session
pub open-not_unpublished : (P : List Step) (n : ℕ) (l : LinkNo) (A : SideRecord) → IsLinked P n l A
    → (j : Inc) → is_alive P n (Here j) ≡ true → was_unpublished j A.now.said ≡ false
open-not_unpublished P n l A near j open_ =
    false_from_ne_true (was_unpublished j A.now.said) (λ was.
    true≢false (sym open_ ∙ (unpublished-closed P n j A.now.said near.truly.0 was).dead))
