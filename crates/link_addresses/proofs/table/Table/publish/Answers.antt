use Rattle.std.proofs.Common.{◌≡◌, ◌+◌, ◌∙◌, ℕ, suc, nat_eq, refl, sym, ap, subst, arith, List}
use Rattle.std.proofs.Common.{Some, vec_capacity}
use Rattle.std.specs.HashMap.{get}
use Rattle.linx_base.specs.Both.{Both}
use Rattle.link_addresses.specs.declared.meaning.Meaning.{Meaning}
use Rattle.link_addresses.specs.declared.meaning.Meaning.TheVariants.{Live}
use Rattle.link_addresses.specs.Meanings.{lowest_free, with_lowest, IsLive}
use Rattle.link_addresses.specs.Finding.{AreGroups, AnswersAt, IsFirstFree, IsPut}
use Rattle.link_addresses.proofs.Lists.{lowest_is, put_lowest, first_below}
use Rattle.link_addresses.proofs.Steps.{was_stays, table_refused, table_published}
use Rattle.link_addresses.proofs.table.Table.publish.Goals as goal

pub cover-requires-clause-small : goal.cover-requires-clause-small
cover-requires-clause-small c =
    first_below _ _ _ c.first_free-place.result 4294967295 c.deref.ensures.value
    (ap (λ (b : Both (List Meaning)). b.is) c.self.view_is) c.first_free-place.ensures.first
    c.requires.room

pub overflow_add-addr : goal.overflow_add-addr
overflow_add-addr c =
    omega (
      arith,
      first_below _ _ _ c.first_free-place.result 4294967295 c.deref.ensures.value
          (ap (λ (b : Both (List Meaning)). b.is) c.self.view_is) c.first_free-place.ensures.first
          c.requires.room,
    )

pub invariant_of-self-in_err-enter : goal.invariant_of-self-in_err-enter
invariant_of-self-in_err-enter c =
    let ms = c.self.inside.meanings.items in
    let groups = c.in_ok-cover.ensures.groups ms
    (subst (AreGroups c.first_free-place.new.full.items) c.deref.ensures.value
    c.first_free-place.ensures.groups) in
    rw (c.in_ok-reserve.ensures.items, c.in_ok-reserve-2.ensures.items)
    (table_refused _ ms _ c.self.inside.changes.items _ _ _ c.self.invariant
    (get nat_eq c.enter.new.index) c.cover.new.full.items (vec_capacity c.reserve-2.new.self)
    c.in_err-enter.ensures.err groups c.in_ok-reserve-2.ensures.capacity)

pub invariant_of-self-2 : goal.invariant_of-self-2
invariant_of-self-2 c =
    let ms = c.self.inside.meanings.items in
    let k = c.first_free-place.result in
    let first : IsFirstFree ms k = subst (λ (l : List Meaning). IsFirstFree l
    c.first_free-place.result) c.deref.ensures.value c.first_free-place.ensures.first in
    let put : IsPut ms k (Live c.args.inc) c.change.new.meanings.items =
    subst (λ (l : List Meaning). IsPut l c.first_free-place.result (Live c.args.inc)
    c.change.new.meanings.items) c.in_ok-reserve.ensures.items c.change.ensures.put in
    let one : k + 1 ≡ suc k = omega arith in
    let answers = subst (λ (n : ℕ). AnswersAt (get nat_eq c.self.inside.index)
    (get nat_eq c.enter.new.index) c.args.inc.0 (Some n)) one c.in_ok-enter.ensures.ok in
    let not_live = subst (λ (b : Both (List Meaning)). IsLive b.is c.args.inc
    → ⊥) (sym c.self.view_is) c.requires.not_live in
    let groups = c.in_ok-cover.ensures.groups ms
    (subst (AreGroups c.first_free-place.new.full.items) c.deref.ensures.value
    c.first_free-place.ensures.groups) in
    rw (
      c.change.ensures.noted,
      c.change.ensures.capacity,
      c.in_ok-reserve.ensures.items,
      c.in_ok-reserve-2.ensures.items,
    )
    (table_published _ ms _ c.self.inside.changes.items _ _ _ c.self.invariant
    c.change.new.meanings.items k (Live c.args.inc) c.args.inc put refl
    (get nat_eq c.enter.new.index) c.cover.new.full.items (vec_capacity c.reserve-2.new.self)
    not_live first answers groups c.in_ok-cover.ensures.ok
    c.in_ok-reserve-2.ensures.capacity (omega (arith, c.in_ok-reserve-2.ensures.ok)))

pub returns-clause-address : goal.returns-clause-address
returns-clause-address c =
    let ms = c.self.inside.meanings.items in
    let k = c.first_free-place.result in
    let first : IsFirstFree ms k = subst (λ (l : List Meaning). IsFirstFree l
    c.first_free-place.result) c.deref.ensures.value c.first_free-place.ensures.first in
    let one : k + 1 ≡ suc k = omega arith in
    one ∙ sym (lowest_is ms k first) ∙ ap (λ (b : Both (List Meaning)). lowest_free b.is)
    c.self.view_is

pub returns-clause-ok : goal.returns-clause-ok
returns-clause-ok c =
    let ms = c.self.inside.meanings.items in
    let k = c.first_free-place.result in
    let first : IsFirstFree ms k = subst (λ (l : List Meaning). IsFirstFree l
    c.first_free-place.result) c.deref.ensures.value c.first_free-place.ensures.first in
    let put : IsPut ms k (Live c.args.inc) c.change.new.meanings.items =
    subst (λ (l : List Meaning). IsPut l c.first_free-place.result (Live c.args.inc)
    c.change.new.meanings.items) c.in_ok-reserve.ensures.items c.change.ensures.put in
    put_lowest ms c.change.new.meanings.items k (Live c.args.inc) put first
    ∙ ap (λ (b : Both (List Meaning)). with_lowest b.is (Live c.args.inc)) c.self.view_is

pub returns-clause-was : goal.returns-clause-was
returns-clause-was c =
    let ms = c.self.inside.meanings.items in
    let k = c.first_free-place.result in
    let put : IsPut ms k (Live c.args.inc) c.change.new.meanings.items =
    subst (λ (l : List Meaning). IsPut l c.first_free-place.result (Live c.args.inc)
    c.change.new.meanings.items) c.in_ok-reserve.ensures.items c.change.ensures.put in
    rw (c.change.ensures.noted, c.in_ok-reserve.ensures.items, c.in_ok-reserve-2.ensures.items)
    (was_stays _ ms _ c.self.inside.changes.items _ _ _ c.self.invariant c.change.new.meanings.items
    k (Live c.args.inc) c.args.inc put)
    ∙ ap (λ (b : Both (List Meaning)). b.was) c.self.view_is
