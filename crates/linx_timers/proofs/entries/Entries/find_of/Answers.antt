use Rattle.std.proofs.Common.{◌≡◌, refl, subst, Some, None}
use Rattle.linx_base.specs.FirstMatch.{first_match}
use Rattle.linx_timers.specs.Entries.{is_of, last_reference, listed, IsFoundOf}
use Rattle.linx_timers.proofs.Naming.{least}
use Rattle.linx_timers.proofs.Storing.{first_from, found_of, missing_of, other_of}
use Rattle.linx_timers.proofs.entries.Entries.find_of.Goals as goal

pub returns-in_err-name-clause-none : goal.returns-in_err-name-clause-none
returns-in_err-name-clause-none c =
    rw c.from_residual.ensures
    (subst (λ es. first_match (is_of c.args.client) es ≡ None) c.self.view_is
    (missing_of c.self.inside.places.items c.self.inside.names (listed c.self.inside.told.value)
    c.self.invariant (least c.args.client last_reference) (first_from (least c.args.client last_reference)
    c.self.inside.names None c.in_err-name.ensures.nth) c.args.client refl))

pub returns-then-name-client-clause-none : goal.returns-then-name-client-clause-none
returns-then-name-client-clause-none c =
    let name = c.in_ok-name.name.now in
    subst (λ es. first_match (is_of c.args.client) es ≡ None) c.self.view_is
    (other_of c.self.inside.places.items c.self.inside.names (listed c.self.inside.told.value)
    c.self.invariant name (least c.args.client last_reference) (first_from (least c.args.client last_reference)
    c.self.inside.names (Some name) c.in_ok-name.ensures.nth) c.args.client refl c.if-name-client.true)

pub returns-clause-found : goal.returns-clause-found
returns-clause-found c =
    let name = c.in_ok-name.name.now in
    subst (λ es. IsFoundOf c.args.client es name.slot) c.self.view_is
    (found_of c.self.inside.places.items c.self.inside.names (listed c.self.inside.told.value)
    c.self.invariant name (least c.args.client last_reference) (first_from (least c.args.client last_reference)
    c.self.inside.names (Some name) c.in_ok-name.ensures.nth) c.args.client refl c.if-name-client.false)
