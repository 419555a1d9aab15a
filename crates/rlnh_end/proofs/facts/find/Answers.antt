use Rattle.std.proofs.Common.{◌≡◌, not, ap, sym, arith, Some, None, filter, slice_get}
use Rattle.rlnh_end.specs.Facts.{has_none, is_sought_entry}
use Rattle.rlnh_end.proofs.Entries.{nth_same, place_within, filter_shorter, few_entries}
use Rattle.rlnh_end.proofs.Entries.{is_first, is_missing, passed_over}
use Rattle.rlnh_end.proofs.facts.find.Goals as goal

pub returns-then-not-contains : goal.returns-then-not-contains
returns-then-not-contains c =
    let found : Some c.in-Some.entry.now
    ≡ slice_get (filter (is_sought_entry c.args.sought) c.args.entries.now) c.loop-entry.k =
    nth_same c.args.entries.now c.loop-entry.k c.in-Some.ensures (is_sought_entry c.args.sought)
    c.key_of.ensures.finds in
    is_first (is_sought_entry c.args.sought) (has_none c.args.gone.now) c.args.entries.now
    c.loop-entry.k c.loop-entry.invariant.1 c.in-Some.entry.now found
    (ap not (sym c.if-not-contains.ensures.value))

pub overflow_add-k : goal.overflow_add-k
overflow_add-k c =
    let found : Some c.in-Some.entry.now
    ≡ slice_get (filter (is_sought_entry c.args.sought) c.args.entries.now) c.loop-entry.k =
    nth_same c.args.entries.now c.loop-entry.k c.in-Some.ensures (is_sought_entry c.args.sought)
    c.key_of.ensures.finds in
    let less = place_within (filter (is_sought_entry c.args.sought) c.args.entries.now)
    c.loop-entry.k c.in-Some.entry.now found in
    let shorter = filter_shorter (is_sought_entry c.args.sought) c.args.entries.now in
    let few = few_entries c.args.next c.args.entries.now c.requires in
    omega (arith, less, shorter, few)

pub loop-entry-smaller : goal.loop-entry-smaller
loop-entry-smaller c =
    let found : Some c.in-Some.entry.now
    ≡ slice_get (filter (is_sought_entry c.args.sought) c.args.entries.now) c.loop-entry.k =
    nth_same c.args.entries.now c.loop-entry.k c.in-Some.ensures (is_sought_entry c.args.sought)
    c.key_of.ensures.finds in
    let less = place_within (filter (is_sought_entry c.args.sought) c.args.entries.now)
    c.loop-entry.k c.in-Some.entry.now found in
    omega (arith, less)

pub loop-entry-preserved : goal.loop-entry-preserved
loop-entry-preserved c =
    let found : Some c.in-Some.entry.now
    ≡ slice_get (filter (is_sought_entry c.args.sought) c.args.entries.now) c.loop-entry.k =
    nth_same c.args.entries.now c.loop-entry.k c.in-Some.ensures (is_sought_entry c.args.sought)
    c.key_of.ensures.finds in
    let less = place_within (filter (is_sought_entry c.args.sought) c.args.entries.now)
    c.loop-entry.k c.in-Some.entry.now found in (
      omega (arith, less),
      passed_over (is_sought_entry c.args.sought) (has_none c.args.gone.now) c.args.entries.now
          c.loop-entry.k c.loop-entry.invariant.1 c.in-Some.entry.now found
          (ap not (sym c.if-not-contains.ensures.value)),
    )

pub returns : goal.returns
returns c =
    let none : None
    ≡ slice_get (filter (is_sought_entry c.args.sought) c.args.entries.now) c.loop-entry.k =
    nth_same c.args.entries.now c.loop-entry.k c.in_default.ensures
    (is_sought_entry c.args.sought) c.key_of.ensures.finds in
    is_missing (is_sought_entry c.args.sought) (has_none c.args.gone.now) c.args.entries.now
    c.loop-entry.k c.loop-entry.invariant.1 none
