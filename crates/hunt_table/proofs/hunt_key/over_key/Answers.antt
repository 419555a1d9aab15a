use Rattle.std.proofs.Common.{refl, ◌∙◌, ◌==◌}
use Rattle.keyed_list.proofs.Finding.{alone, flipped, same_number}
use Rattle.hunt_table.proofs.Finding.{by_path, has_name}
use Rattle.hunt_table.proofs.hunt_key.over_key.Goals as goal

pub returns : goal.returns
returns c =
    let l = c.args.link in
    by_path _ _ (λ h name. refl) (λ h m name. alone (same_number l.0 m.0 ∙ flipped l.0 m.0)
    ∙ has_name (m.0 == l.0) name)
