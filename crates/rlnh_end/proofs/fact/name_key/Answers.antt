use Rattle.std.proofs.Common.{refl}
use Rattle.keyed_list.proofs.Finding.{same_text, alone}
use Rattle.rlnh_end.proofs.Entries.{by_fact}
use Rattle.rlnh_end.proofs.fact.name_key.Goals as goal

pub returns-clause-finds : goal.returns-clause-finds
returns-clause-finds c =
    rw c.of.ensures (by_fact _ _ (λ n m. refl) (λ n name. alone (same_text c.args.name.now name)))
