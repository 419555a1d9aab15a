-- What was opened, closed and met, as a list of marks.
use Rattle.std.specs.Prelude.{ℕ, Bool, false, ◌&&◌, ◌==◌, List, [], ◌∷◌, ◌++◌, Option, Some, None}
use Rattle.std.specs.Prelude.{if◌then◌else◌}
use Rattle.std.specs.List.{filter_map, fold}
use Rattle.std.specs.Option.{option_to_list}
use Rattle.linx_base.specs.Peers.{same_inc, same_peer}
use Rattle.linx_base.specs.declared.identity.Inc.{Inc}
use Rattle.linx_base.specs.declared.identity.LinkNo.{LinkNo}
use Rattle.linx_base.specs.declared.identity.NodeNo.{NodeNo}
use Rattle.linx_base.specs.declared.identity.Session.{Session}
use Rattle.linx_base.specs.declared.identity.Peer.{Peer}
use Rattle.linx_base.specs.declared.identity.Peer.TheVariants.{Here, There}
use Rattle.journal.specs.History.{name_in}
use Rattle.journal.specs.declared.effect.Effect.{Effect}
use Rattle.journal.specs.declared.effect.Effect.TheVariants as effects
use Rattle.journal.specs.declared.effect.Step.{Step}
use Rattle.journal.specs.declared.head.Head.{Head}
use Rattle.link_tables.specs.declared.marks.Mark.{Mark}
use Rattle.link_tables.specs.declared.marks.Mark.TheVariants.{Opened, Closed, Met}
use Rattle.link_tables.specs.declared.marks.MarkKey.{MarkKey}
use Rattle.link_tables.specs.declared.marks.MarkKey.TheVariants as keys

-- a mark is found by whom it speaks of
abbrev pub own_key : Mark → MarkKey
own_key (Opened inc name) = keys.Opened inc
own_key (Closed inc) = keys.Closed inc
own_key (Met node link session inc) = keys.Met node link session inc

-- and a meeting by its session
abbrev pub session_key : Mark → Option MarkKey
session_key (Met node link session inc) = Some (keys.MetIn node link session)
session_key _ = None

abbrev pub mark_keys : Mark → List MarkKey
mark_keys mark = own_key mark ∷ option_to_list (session_key mark)

-- the peer of a meeting, with its incarnation
abbrev pub met_by : Mark → Option (Peer × Inc)
met_by (Met node link session inc) = Some (There link session inc, inc)
met_by _ = None

-- the mark is of the opening of this incarnation
abbrev pub is_opening_of : Inc → Mark → Bool
is_opening_of i (Opened inc name) = same_inc i inc
is_opening_of i _ = false

-- the mark is of the closing of this incarnation
abbrev pub is_closing_of : Inc → Mark → Bool
is_closing_of i (Closed inc) = same_inc i inc
is_closing_of i _ = false

-- the mark is of the meeting of this peer by the node
abbrev pub is_meeting_of : ℕ → Peer → Mark → Bool
is_meeting_of n q (Met node link session inc) = node.0 == n && same_peer q (There link session inc)
is_meeting_of n q _ = false

-- the node met somebody in the session
abbrev pub is_meeting_in : NodeNo → LinkNo → Session → Mark → Bool
is_meeting_in n l x (Met node link session inc) =
    n.0 == node.0 && (l.0 == link.0 && x.0 == session.0)
is_meeting_in n l x _ = false

-- the name of an incarnation after a mark: of one that was opened, the one of its last opening
abbrev pub name_after : Inc → Option (List ℕ) → Mark → Option (List ℕ)
name_after i before (Opened inc name) = if same_inc i inc then name else before
name_after i before _ = before

-- THE NAME that an incarnation was opened with last, by these marks; none of one that wasn't opened
abbrev pub opened_as : Inc → List Mark → Option (List ℕ)
opened_as i marks = fold (name_after i) None marks

-- the mark of a meeting; none of a peer on the own node
abbrev pub meeting_mark : NodeNo → Peer → Option Mark
meeting_mark node (Here inc) = None
meeting_mark node (There link session inc) = Some (Met node link session inc)

-- WHAT AN EFFECT MARKS in a step of this head
abbrev pub mark_of : Head → Effect → Option Mark
mark_of head (effects.Opened inc) = Some (Opened inc (name_in head))
mark_of head (effects.Closed inc) = Some (Closed inc)
mark_of head (effects.Met node peer name) = meeting_mark node peer
mark_of head _ = None

-- the marks with one more, if there is one
abbrev pub with_mark : List Mark → Option Mark → List Mark
with_mark marks None = marks
with_mark marks (Some mark) = marks ++ mark ∷ []

-- the marks of a step of this head with these effects
abbrev pub marks_in : Head → List Effect → List Mark
marks_in head es = filter_map (mark_of head) es

-- the marks of all steps so far, the oldest first
abbrev pub marks_left : List Step → List Mark
marks_left [] = []
marks_left (s ∷ P) = marks_left P ++ marks_in s.head s.effects
