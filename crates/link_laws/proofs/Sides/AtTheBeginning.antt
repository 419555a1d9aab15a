-- A run before its first step: its links are kept.
use Rattle.std.proofs.Common.{◌≡◌, ℕ, true, false, [], Some, None, cond, refl, sym, filter}
use Rattle.std.proofs.Common.{true≢false}
use Rattle.linx_base.specs.Numbers.{first_session}
use Rattle.linx_base.specs.declared.identity.LinkNo.{LinkNo}
use Rattle.trunk_record.specs.Changes.{fresh}
use Rattle.trunk_record.specs.Records.{given_of, has_session, peer_of, said_of}
use Rattle.trunk_record.specs.Sayings.{is_shown, is_signal}
use Rattle.journal.specs.Shapes.{Shape}
use Rattle.link_laws.specs.Sides.{AreLinksKept, Links, records_of}
use Rattle.link_laws.specs.Linked.{AreHunted, IsLinked}
use Rattle.link_laws.specs.Runs.{AreFirst, first_side, first_state}
use Rattle.trunk_record.proofs.Changes.{half_new}
use Rattle.link_laws.proofs.AllLinks.SameSides.{all_left-same, hunted-alike, linked-alike}
use Rattle.link_laws.proofs.AllLinks.SameSides.{opened-alike, trunks-alike}

pub linked_new : (n : ℕ) (l : LinkNo) → IsLinked [] n l first_side
linked_new n l = record {
  own = refl;
  up = refl;
  pairs = λ x. elim (has_session x (fresh (first_session 1)))
      as (λ t. None ≡ peer_of (cond t (Some (fresh (first_session 1))) None)) [
        | true ↦ refl
        | false ↦ refl
      ];
  had = (refl, tt);
  sent = λ x. elim (has_session x (fresh (first_session 1)))
      as (λ t. [] ≡ filter is_signal (said_of (cond t (Some (fresh (first_session 1))) None))) [
        | true ↦ refl
        | false ↦ refl
      ];
  came = λ x. elim (has_session x (fresh (first_session 1)))
      as (λ t. [] ≡ filter is_shown (given_of (cond t (Some (fresh (first_session 1))) None))) [
        | true ↦ refl
        | false ↦ refl
      ];
  truly = (tt, tt);
  live = λ i is. absurd (true≢false (sym is));
  living = λ x a. refl;
}

hunted_new : (n m : ℕ) (l : LinkNo) → AreHunted [] n m l first_side first_side []
hunted_new n m l = record {
  asked_all = λ v up is. absurd (true≢false (sym is));
  stand = λ talk v is. absurd (true≢false (sym is));
}

-- all sides as they are at first
abbrev first_links : Links
first_links k at = first_state

pub links_new : (shape : Shape) (links : Links) → AreFirst shape links → AreLinksKept shape [] links
links_new shape links first = record {
  trunks = trunks-alike shape (records_of first_links) (records_of links)
      (λ l of_shape side. (first l of_shape side).side)
      (λ l of_shape side. half_new (first_session 1) (first_session 1));
  linked = linked-alike shape [] (records_of first_links) (records_of links)
      (λ l of_shape side. (first l of_shape side).side) (λ l of_shape side. linked_new _ l);
  opened = opened-alike shape [] (records_of first_links) (records_of links)
      (λ l of_shape side. (first l of_shape side).side) (λ l of_shape side. (tt, tt));
  hunted = hunted-alike shape [] first_links links (all_left-same shape first_links links first)
      (λ l of_shape side. hunted_new _ _ l);
  silent = λ l of_shape side. (first l of_shape side).silent;
}
