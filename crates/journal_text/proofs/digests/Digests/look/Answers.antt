use Rattle.std.proofs.Common.{sym, ap, ◌∙◌, ◌≡◌, ℕ, List, Some, slice_get, option_copied}
use Rattle.journal_text.specs.declared.digests.Placed.{Placed}
use Rattle.journal_text.proofs.Fitting.{looked_up}
use Rattle.journal_text.proofs.digests.Digests.look.Goals as goal

pub returns-in-Some : goal.returns-in-Some
returns-in-Some c note fits =
    let made : List (List ℕ) = c.args.self.now.made.items in
    let placed : List Placed = c.args.self.now.placed.items in
    let p : Placed = c.in-Some.placed.now in
    let found : slice_get placed c.args.next.now ≡ Some p = sym c.placed_at.ensures ∙ ap option_copied c.in-Some.is in
    let here : option_copied c.made_at.result ≡ slice_get made p.digest = c.made_at.ensures in
    looked_up made placed c.args.position c.args.place c.args.next.now note p c.made_at.result
    fits found c.if-placed-position.true c.if-placed-place.true here
