use Rattle.std.proofs.Common.{◌≡◌, refl, subst, arith, Some, None}
use Rattle.linx_base.specs.FirstMatch.{first_match}
use Rattle.linx_timers.specs.Entries.{has_reference, listed, IsFound}
use Rattle.linx_timers.proofs.Naming.{least}
use Rattle.linx_timers.proofs.Storing.{first_from, found, missing, other}
use Rattle.linx_timers.proofs.entries.Entries.find.Goals as goal

pub returns-in_err-name-clause-none : goal.returns-in_err-name-clause-none
returns-in_err-name-clause-none c =
    rw c.from_residual.ensures
    (subst (λ es. first_match (has_reference c.args.client c.args.reference) es ≡ None)
    c.self.view_is (missing c.self.inside.places.items c.self.inside.names
    (listed c.self.inside.told.value) c.self.invariant (least c.args.client c.args.reference)
    (first_from (least c.args.client c.args.reference) c.self.inside.names None
    c.in_err-name.ensures.nth) c.args.client c.args.reference refl))

pub returns-then-name-client-clause-none : goal.returns-then-name-client-clause-none
returns-then-name-client-clause-none c =
    let name = c.in_ok-name.name.now in
    subst (λ es. first_match (has_reference c.args.client c.args.reference) es ≡ None)
    c.self.view_is (other c.self.inside.places.items c.self.inside.names
    (listed c.self.inside.told.value) c.self.invariant name (least c.args.client c.args.reference)
    (first_from (least c.args.client c.args.reference) c.self.inside.names (Some name)
    c.in_ok-name.ensures.nth) c.args.client c.args.reference refl
    (λ one two. c.if-name-client.true one))

pub returns-then-name-reference-clause-none : goal.returns-then-name-reference-clause-none
returns-then-name-reference-clause-none c =
    let name = c.in_ok-name.name.now in
    subst (λ es. first_match (has_reference c.args.client c.args.reference) es ≡ None)
    c.self.view_is (other c.self.inside.places.items c.self.inside.names
    (listed c.self.inside.told.value) c.self.invariant name (least c.args.client c.args.reference)
    (first_from (least c.args.client c.args.reference) c.self.inside.names (Some name)
    c.in_ok-name.ensures.nth) c.args.client c.args.reference refl
    (λ one two. c.if-name-reference.true two))

pub returns-clause-found : goal.returns-clause-found
returns-clause-found c =
    let name = c.in_ok-name.name.now in
    let client : name.client ≡ c.args.client = omega arith in
    let reference : name.reference ≡ c.args.reference = omega arith in
    subst (λ es. IsFound c.args.client c.args.reference es name.slot) c.self.view_is
    (found c.self.inside.places.items c.self.inside.names (listed c.self.inside.told.value)
    c.self.invariant name (least c.args.client c.args.reference)
    (first_from (least c.args.client c.args.reference) c.self.inside.names (Some name)
    c.in_ok-name.ensures.nth) c.args.client c.args.reference refl client reference)
