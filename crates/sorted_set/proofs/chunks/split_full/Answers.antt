use Rattle.std.proofs.Common.{◌<◌, length, arith}
use Rattle.std.proofs.lemmas.Grind.{common_steps}
use Rattle.sorted_set.proofs.Chunking.{split_in}
use Rattle.sorted_set.proofs.chunks.split_full.Goals as goal

pub returns : goal.returns
returns g c =
    let chunks = c.args.chunks.now.items in
    let back = c.in_ok-back.ensures in
    let was = rw c.in_ok-reserve.ensures.items at c.index_mut.ensures.value in
    let within : c.args.at < length c.args.chunks.now.items = grind (arith, common_steps) in
    let both =
    split_in g.T.Ord.cmp chunks c.args.at c.index_mut.result.now c.split.new.self
    c.in_ok-back.back c.insert_chunk.new.chunks.items c.requires.chunks within was back.ok
    back.halves.0 back.halves.1
    (rw c.in_ok-reserve.ensures.items at c.insert_chunk.ensures.items) in
    record {
      elements = both.0;
      chunks = both.1;
      len = grind (arith, common_steps);
      same = λ not_split. cc;
    }
