use Rattle.std.proofs.Common.{◌≡◌, length, replicate, refl, ◌∙◌, ap, arith}
use Rattle.run_trunks.specs.States.{new_trunks}
use Rattle.fabric.specs.Standings.{empty_nodes}
use Rattle.fabric.proofs.Standings.Counting.{kept-new}
use Rattle.fabric.proofs.fabric.Fabric.new.Goals as goal

pub invariant_of-result : goal.invariant_of-result
invariant_of-result c =
    let counted : c.len-count.result ≡ length c.args.names.nodes = omega
    (arith, c.len-count.ensures) in
    rw (c.in_ok-trunks.ensures, c.in_ok-from_slice.ensures.items) (
      kept-new (record {
        shape = record { links = c.args.links.now; actors = c.args.actors.now };
        log = c.in_ok-journal.journal.log;
        trunks = new_trunks c.args.links.now;
      }) (record {
        kernels = c.in_ok-kernels.kernels.items;
        booted = c.in_ok-booted.booted.items;
        standings = c.in_ok-standings.standings.items;
        lines = c.in_ok-lines.lines.items;
      }) c.args.names c.requires.laid_out c.in_ok-journal.ensures refl
          (c.in_ok-kernels.ensures ∙ ap empty_nodes counted)
          (c.in_ok-booted.ensures ∙ ap (λ n. replicate n 1) counted)
          c.in_ok-standings.ensures c.in_ok-lines.ensures,
      refl,
    )
