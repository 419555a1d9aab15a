use Rattle.std.proofs.Common.{◌∙◌}
use Rattle.std.proofs.lemmas.List.{take_rest}
use Rattle.sorted_set.specs.Chunks.{joined}
use Rattle.sorted_set.proofs.Walking.{begun_elements, begun_ready, none_before, none_ready}
use Rattle.sorted_set.proofs.rest.Rest.begun.Goals as goal

pub made-requires : goal.made-requires
made-requires g c =
    begun_ready c.args.later.now c.in-Some.chunk.now c.part_from.result.now _ c.requires.filled
    c.in-Some.ensures.value c.part_from.ensures (take_rest c.args.later.now 1)

pub made-requires-in-None : goal.made-requires-in-None
made-requires-in-None g c =
    none_ready c.args.here.now c.args.later.now c.in-None.ensures.value

pub returns-in-Some : goal.returns-in-Some
returns-in-Some g c =
    c.made.ensures
    ∙ begun_elements c.args.later.now c.in-Some.chunk.now c.part_from.result.now _
    c.in-Some.ensures.value c.part_from.ensures (take_rest c.args.later.now 1)
    ∙ none_before c.args.here.now (joined c.args.later.now) c.requires.none
