-- Which messages ask for an answer, and so how far a link of a run is from having nothing in flight
-- with all that its nodes answer.
use Rattle.std.specs.Prelude.{ℕ, ◌==◌, ◌||◌, if◌then◌else◌, List, [], ◌∷◌}
use Rattle.linx_base.specs.declared.frame.Message.{Message}
use Rattle.linx_base.specs.declared.identity.LinkNo.{LinkNo}
use Rattle.link_settling.specs.Measure.{Measure, measure}
use Rattle.trunk_moves.specs.Trunks.{RunTrunks}

-- how many answers a message of RLNH asks for, by its body: INIT, whose type is 1, for its reply,
-- QUERY_NAME, which is 3, for a PUBLISH, and UNPUBLISH, which is 5, for its acknowledgement. None
-- of these answers asks for another
abbrev pub asks_body : List ℕ → ℕ
asks_body [] = 0
asks_body (type ∷ rest) = if type == 1 || (type == 3 || type == 5) then 1 else 0

-- how many answers a message asks for: one of RLNH by its body, a signal none
abbrev pub asks : Message → ℕ
asks m = if m.from == 0 then asks_body m.body else 0

-- WHAT IS LEFT TO DO over the link of a number: its measure, where a message that is due weighs as
-- many answers as it asks for
abbrev pub left_over : LinkNo → RunTrunks → Measure
left_over l trunks = measure asks (trunks l.0).link
