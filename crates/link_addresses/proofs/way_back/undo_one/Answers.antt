use Rattle.std.proofs.Common.{rules, ◌≡◌, ◌+◌, ◌<◌, ℕ, length, nat_eq, suc, subst, arith, Some}
use Rattle.std.proofs.Common.{slice_set}
use Rattle.std.specs.HashMap.{get}
use Rattle.link_addresses.specs.declared.meaning.Meaning.TheVariants.{Free, Live, Closing}
use Rattle.link_addresses.specs.Finding.{AnswersAt}
use Rattle.link_addresses.specs.WayBack.{CanReturn}
use Rattle.link_addresses.proofs.Lists.{set_changes, free_isnt_live, closing_isnt_live}
use Rattle.link_addresses.proofs.Indexing.{index_entered, index_fewer, index_front}
use Rattle.link_addresses.proofs.way_back.undo_one.Goals as goal

pub returns-in-None-clause-indexed : goal.returns-in-None-clause-indexed
returns-in-None-clause-indexed c =
    rw c.truncate.ensures.items (index_front (get nat_eq c.args.index.now) c.args.meanings.now.items
    c.args.change.place c.requires.indexed)

pub returns-in-Some-Free-clause-indexed : goal.returns-in-Some-Free-clause-indexed
returns-in-Some-Free-clause-indexed c =
    let ms = c.args.meanings.now.items in
    let place = c.args.change.place in
    let lt : c.args.change.place < length c.args.meanings.now.items = search rules in
    index_fewer (get nat_eq c.args.index.now) ms (slice_set ms place Free) (suc place) Free
    c.requires.indexed (set_changes ms place Free lt) free_isnt_live

pub returns-in-Some-Live-clause-indexed : goal.returns-in-Some-Live-clause-indexed
returns-in-Some-Live-clause-indexed c =
    let ms = c.args.meanings.now.items in
    let place = c.args.change.place in
    let inc = c.in-Some-Live.inc in
    let former : c.args.change.former ≡ Some (Live c.in-Some-Live.inc) = search rules in
    let can = subst (λ o. CanReturn (get nat_eq c.args.index.now) c.args.meanings.now.items
    c.args.change.place o) former c.requires.can in
    let one : place + 1 ≡ suc place = omega arith in
    let answers = subst (λ (n : ℕ). AnswersAt (get nat_eq c.args.index.now)
    (get nat_eq c.enter_again.new.index) inc.0 (Some n)) one c.enter_again.ensures in
    index_entered (get nat_eq c.args.index.now) (get nat_eq c.enter_again.new.index) inc (suc place)
    answers ms (slice_set ms place (Live inc)) c.requires.indexed can.2
    (set_changes ms place (Live inc) can.0)

pub returns-in-Some-Closing-clause-indexed : goal.returns-in-Some-Closing-clause-indexed
returns-in-Some-Closing-clause-indexed c =
    let ms = c.args.meanings.now.items in
    let place = c.args.change.place in
    let inc = c.in-Some-Closing.inc in
    let lt : c.args.change.place < length c.args.meanings.now.items = search rules in
    index_fewer (get nat_eq c.args.index.now) ms (slice_set ms place (Closing inc)) (suc place)
    (Closing inc) c.requires.indexed (set_changes ms place (Closing inc) lt)
    (closing_isnt_live inc)
