use Rattle.std.proofs.Common.{refl}
use Rattle.keyed_list.proofs.Finding.{same_number, same_text, same_parts, alone}
use Rattle.hunt_table.proofs.Finding.{by_path}
use Rattle.hunt_table.proofs.hunt_key.path_key.Goals as goal

pub returns-in-Local-clause-finds : goal.returns-in-Local-clause-finds
returns-in-Local-clause-finds c =
    let sought = c.in-Local.name in
    rw (c.of.ensures, c.in-Local.is) (by_path _ _ (λ h name. alone (same_text sought name))
    (λ h link name. refl))

pub returns-in-Over-clause-finds : goal.returns-in-Over-clause-finds
returns-in-Over-clause-finds c =
    let sought = c.in-Over.name in
    rw (c.of-in-Over.ensures, c.in-Over.is) (by_path _ _ (λ h name. refl)
    (λ h link name. alone (same_parts _ _ (same_number c.in-Over.link.0 link.0)
    (same_text sought name))))
