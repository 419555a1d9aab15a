use Rattle.std.proofs.Common.{◌≡◌, ◌++◌, take, flat_map}
use Rattle.svg_text.specs.Words.{stroke_text}
use Rattle.svg_text.proofs.writing.write_strokes.Given as goal

-- the strokes so far were written
abbrev pub invariant-loop-stroke : goal.invariant-loop-stroke
invariant-loop-stroke l =
    l.out.items ≡ l.initial.out.items ++ flat_map stroke_text (take l.stroke-index l.strokes)
