-- What a law says of a head alone is what its test tells.
use Rattle.std.proofs.Common.{◌≡◌, Bool, true, false, not, ◌||◌, ◌&&◌, length, Option, is_none, refl}
use Rattle.std.proofs.Common.{sym, is_some, nat_le, le-leb, leb-true, lt-ltb, ltb-true, true≢false}
use Rattle.std.proofs.lemmas.Bool.{and_parts}
use Rattle.linx_base.specs.Content.{data_limit}
use Rattle.linx_base.specs.NameText.{is_name}
use Rattle.linx_base.specs.declared.identity.Inc.{Inc}
use Rattle.journal.specs.declared.head.Head.{Head}
use Rattle.journal.specs.Laws.{IsBounded, KeepsEndpoints, is_endpoints}
use Rattle.journal.specs.Laws.{is_opening, name_of_path}
use Rattle.journal.specs.declared.head.Head.TheVariants as heads
use Rattle.journal_check.specs.Calls.{is_bounded, suits}

-- one test wherever another
pub implied : (a b : Bool) → (not a || b) ≡ true → a ≡ true → b ≡ true
implied true b then is = then
implied false b then is = absurd (true≢false (sym is))

pub implies : (a b : Bool) → (a ≡ true → b ≡ true) → (not a || b) ≡ true
implies true b then = then refl
implies false b then = refl

pub both : (a b : Bool) → a ≡ true → b ≡ true → (a && b) ≡ true
both true b first second = second
both false b first second = first

pub suits-kept : (me : Option Inc) (head : Head) → suits me head ≡ true → KeepsEndpoints me head
suits-kept me head is =
    let parts = and_parts (not (is_opening head) || is_none me)
    (not (is_endpoints head) || is_some me) is in
    record {
      opens = implied (is_opening head) (is_none me) parts.0;
      needs = implied (is_endpoints head) (is_some me) parts.1;
    }

pub kept-suits : (me : Option Inc) (head : Head) → KeepsEndpoints me head → suits me head ≡ true
kept-suits me head kept =
    both (not (is_opening head) || is_none me) (not (is_endpoints head) || is_some me)
    (implies (is_opening head) (is_none me) kept.opens)
    (implies (is_endpoints head) (is_some me) kept.needs)

pub bounded-kept : (head : Head) → is_bounded head ≡ true → IsBounded head
bounded-kept (heads.Open name) is = is
bounded-kept (heads.Send q note answer) is = leb-true (length note.bytes) data_limit is
bounded-kept (heads.Hunt path note) is =
    let parts = and_parts (is_name (name_of_path path)) (nat_le (length note.bytes) data_limit) is in
    (parts.0, leb-true (length note.bytes) data_limit parts.1)
bounded-kept (heads.Attach q note) is = ltb-true (length note.bytes) data_limit is
bounded-kept _ is = tt

pub kept-bounded : (head : Head) → IsBounded head → is_bounded head ≡ true
kept-bounded (heads.Open name) is = is
kept-bounded (heads.Send q note answer) is = le-leb (length note.bytes) data_limit is
kept-bounded (heads.Hunt path note) is =
    both (is_name (name_of_path path)) (nat_le (length note.bytes) data_limit) is.0
    (le-leb (length note.bytes) data_limit is.1)
kept-bounded (heads.Attach q note) is = lt-ltb (length note.bytes) data_limit is
kept-bounded _ is = refl
