use Rattle.std.proofs.Common.{◌≡◌, ◌≢◌, ◌<◌, [], ◌∷◌, ◌++◌, set, sym, ap, subst, ◌∙◌, Some}
use Rattle.std.specs.List.{AllByRecursion}
use Rattle.std.specs.BTreeSet.{insert_key}
use Rattle.sorted_set.specs.Sorted.{Ascends}
use Rattle.linx_timers.specs.declared.entry.Entry.{Entry}
use Rattle.linx_timers.specs.Entries.{listed, name_cmp, name_of, IsStored}
use Rattle.linx_timers.proofs.Storing.{added, replaced}
use Rattle.linx_timers.proofs.entries.Entries.push.Goals as goal

pub invariant_of-self-2 : goal.invariant_of-self-2
invariant_of-self-2 c =
    let places = c.make_place.new.places.items in
    let names = c.self.inside.names in
    let es = listed c.self.inside.told.value in
    let entry = c.args.entry in
    let names_is : c.insert.new.self ≡ insert_key name_cmp names (name_of entry) =
    c.in_default-insert.ensures.ok ∙ ap (insert_key name_cmp names) c.name.ensures in
    let told_is : listed c.more.result.value ≡ es ++ entry ∷ [] =
    c.more.ensures ∙ ap (λ t. listed t.value ++ entry ∷ []) c.replace-before.ensures.value in
    let stored = replaced c.self.inside.places.items names es c.self.invariant places
    c.in_default.ensures.same in
    let whole = added places names es stored entry
    (subst (AllByRecursion (λ (f : Entry). f.ticket < entry.ticket)) (sym c.self.view_is)
    c.requires.above)
    (subst (AllByRecursion (λ (f : Entry). f.slot ≢ entry.slot)) (sym c.self.view_is)
    c.requires.apart)
    c.requires.bounded
    c.in_default.ensures.room (subst (Ascends name_cmp) names_is c.insert.ensures.ascending) in
    subst (λ ns. IsStored (set places entry.slot (Some entry)) ns (listed c.more.result.value))
    (sym names_is)
    (subst (IsStored (set places entry.slot (Some entry)) (insert_key name_cmp names (name_of entry)))
    (sym told_is) whole)
