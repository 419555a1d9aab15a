use Rattle.std.proofs.Common.{◌≡◌, ◌<◌, ◌≤◌, length, set, sym, ap, subst, ◌∙◌, arith, Some, None}
use Rattle.std.specs.BTreeMap.{is_at}
use Rattle.std.specs.Set.{remove_key}
use Rattle.linx_base.specs.FirstMatch.{first_match, without_match}
use Rattle.keyed_list.proofs.Entries.{without_none_first}
use Rattle.sorted_set.specs.Sorted.{Ascends}
use Rattle.linx_timers.specs.Entries.{at_slot, listed, name_cmp, name_of, IsStored}
use Rattle.linx_timers.proofs.Storing.{beyond, none_there, standing, taken}
use Rattle.linx_timers.proofs.entries.Entries.take.Goals as goal

pub returns-then-slot-len-clause-first : goal.returns-then-slot-len-clause-first
returns-then-slot-len-clause-first c =
    let places = c.self.inside.places.items in
    let past : length places ≤ c.args.slot = omega (arith, c.if-slot-len.true, c.len.ensures) in
    sym (subst (λ es. first_match (at_slot c.args.slot) es ≡ None) c.self.view_is
    (none_there places c.self.inside.names (listed c.self.inside.told.value) c.self.invariant
    c.args.slot (beyond places c.args.slot past)))

pub returns-then-slot-len-clause-others : goal.returns-then-slot-len-clause-others
returns-then-slot-len-clause-others c =
    let places = c.self.inside.places.items in
    let past : length places ≤ c.args.slot = omega (arith, c.if-slot-len.true, c.len.ensures) in
    sym (without_none_first (at_slot c.args.slot) c.args.self.now
    (subst (λ es. first_match (at_slot c.args.slot) es ≡ None) c.self.view_is
    (none_there places c.self.inside.names (listed c.self.inside.told.value) c.self.invariant
    c.args.slot (beyond places c.args.slot past))))

pub returns-in_err-entry-clause-first : goal.returns-in_err-entry-clause-first
returns-in_err-entry-clause-first c =
    let places = c.self.inside.places.items in
    let within : c.args.slot < length places =
    omega (arith, c.if-slot-len.false, c.len.ensures) in
    c.from_residual.ensures
    ∙ sym (subst (λ es. first_match (at_slot c.args.slot) es ≡ None) c.self.view_is
    (none_there places c.self.inside.names (listed c.self.inside.told.value) c.self.invariant
    c.args.slot (standing places c.args.slot c.index_mut.result.now within
    c.index_mut.ensures.value ∙ sym c.in_err-entry.ensures.value)))

pub returns-in_err-entry-clause-others : goal.returns-in_err-entry-clause-others
returns-in_err-entry-clause-others c =
    let places = c.self.inside.places.items in
    let within : c.args.slot < length places =
    omega (arith, c.if-slot-len.false, c.len.ensures) in
    c.self.view_is
    ∙ sym (without_none_first (at_slot c.args.slot) c.args.self.now
    (subst (λ es. first_match (at_slot c.args.slot) es ≡ None) c.self.view_is
    (none_there places c.self.inside.names (listed c.self.inside.told.value) c.self.invariant
    c.args.slot (standing places c.args.slot c.index_mut.result.now within
    c.index_mut.ensures.value ∙ sym c.in_err-entry.ensures.value))))

pub invariant_of-self-2 : goal.invariant_of-self-2
invariant_of-self-2 c =
    let places = c.self.inside.places.items in
    let names = c.self.inside.names in
    let es = listed c.self.inside.told.value in
    let slot = c.args.slot in
    let entry = c.in_ok-entry.entry in
    let within : slot < length places = omega (arith, c.if-slot-len.false, c.len.ensures) in
    let found : first_match (at_slot slot) es ≡ Some entry =
    c.self.invariant.filled slot entry (standing places slot c.index_mut.result.now within
    c.index_mut.ensures.value ∙ sym c.in_ok-entry.ensures.value) in
    let names_is : c.remove.new.self ≡ remove_key (is_at (name_cmp (name_of entry))) names =
    c.remove.ensures.elements
    ∙ ap (λ n. remove_key (is_at (name_cmp n)) names) c.name.ensures in
    let told_is : listed c.less.result.value ≡ without_match (at_slot slot) es =
    c.less.ensures
    ∙ ap (λ t. without_match (at_slot slot) (listed t.value)) c.replace-before.ensures.value in
    let whole = taken places names es c.self.invariant slot entry found within
    (subst (Ascends name_cmp) names_is c.remove.ensures.ascending) in
    subst (λ o. IsStored (set places slot o) c.remove.new.self (listed c.less.result.value))
    (sym c.take.ensures.after)
    (subst (λ ns. IsStored (set places slot None) ns (listed c.less.result.value)) (sym names_is)
    (subst (IsStored (set places slot None) (remove_key (is_at (name_cmp (name_of entry))) names))
    (sym told_is) whole))

pub returns-clause-first : goal.returns-clause-first
returns-clause-first c =
    let places = c.self.inside.places.items in
    let within : c.args.slot < length places =
    omega (arith, c.if-slot-len.false, c.len.ensures) in
    sym (subst (λ es. first_match (at_slot c.args.slot) es ≡ Some c.in_ok-entry.entry)
    c.self.view_is
    (c.self.invariant.filled c.args.slot c.in_ok-entry.entry
    (standing places c.args.slot c.index_mut.result.now within
    c.index_mut.ensures.value ∙ sym c.in_ok-entry.ensures.value)))
