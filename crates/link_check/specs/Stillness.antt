-- Whether a link is still, by what is known at its two ends.
use Rattle.std.specs.Prelude.{ℕ, Bool, false, not, ◌&&◌, ◌||◌, List, filter, is_none, is_some}
use Rattle.std.specs.Prelude.{Option, Some, None, if◌then◌else◌}
use Rattle.std.specs.List.{list_any}
use Rattle.linx_base.specs.Pending.{name_over}
use Rattle.linx_base.specs.declared.identity.Inc.{Inc}
use Rattle.linx_base.specs.declared.identity.Peer.{Peer}
use Rattle.linx_base.specs.declared.identity.Peer.TheVariants.{There}
use Rattle.linx_base.specs.declared.identity.Session.{Session}
use Rattle.linx_base.specs.declared.pending.PendingHunt.{PendingHunt}
use Rattle.node_kernel.specs.Nodes.{OpenEndpoint, first_named, is_living, is_open}
use Rattle.link_tables.specs.Marks.{is_meeting_in, met_by}
use Rattle.link_tables.specs.Sent.{flows_of, is_in}
use Rattle.link_tables.specs.declared.marks.Mark.{Mark}
use Rattle.link_tables.specs.declared.sent.Flow.{Flow}
use Rattle.link_check.specs.Deliveries.{Known, flow_of, is_session, is_to_come}
use Rattle.link_check.specs.declared.rest.Stir.{Stir}
use Rattle.link_check.specs.declared.rest.Stir.TheVariants.{Sent, Doubted, Hunted, Offered}

-- THE TWO ENDS of a link, and whether it is cut
pub record Ends : Type 0 where
  pub first : Known
  pub second : Known
  pub cut : Bool

-- SIGNALS. One of a flow has still to come, from an open endpoint across to an open one here
abbrev pub is_under_way : (d e : Known) → Session → Flow → Bool
is_under_way d e x f = is_to_come d x f && is_open e.node.endpoints f.at

-- one has, of a flow of session y across
abbrev pub any_under_way : (d e : Known) → (x y : Session) → Bool
any_under_way d e x y =
    list_any (is_under_way d e x) (filter (is_in d.link y) (flows_of d.sent))

-- PEERS. One that was met is alive here, and isn't open across
abbrev pub is_left_if : (d e : Known) → Option (Peer × Inc) → Bool
is_left_if d e None = false
is_left_if d e (Some met) = is_living d.node met.0 && not (is_open e.node.endpoints met.1)

abbrev pub is_left_over : (d e : Known) → Mark → Bool
is_left_over d e mark = is_left_if d e (met_by mark)

abbrev pub any_left_over : (d e : Known) → Session → Bool
any_left_over d e x = list_any (is_left_over d e) (filter (is_meeting_in d.at d.link x) d.marks)

-- HUNTS. A name over the link, if it is one, is open across
abbrev pub is_open_name : List OpenEndpoint → Option (List ℕ) → Bool
is_open_name endpoints None = false
is_open_name endpoints (Some name) = is_some (first_named endpoints name)

-- a hunt from here is for such a name
abbrev pub is_findable : (d e : Known) → PendingHunt → Bool
is_findable d e h = is_open_name e.node.endpoints (name_over d.link h.path)

abbrev pub any_findable : (d e : Known) → Bool
any_findable d e =
    list_any (is_findable d e) (filter (λ h. is_some (name_over d.link h.path)) d.node.hunts)

-- WHAT WAS STIRRED isn't settled in one direction, where session x is up here and session y across: a
-- signal is under way, a peer is left over, or a hunt is findable where the name, or who was opened, is open
abbrev pub is_stirred : (d e : Known) → (x y : Session) → Stir → Bool
is_stirred d e x y (Sent a b) = is_under_way d e x (flow_of a d.link y b)
is_stirred d e x y (Doubted i) =
    is_living d.node (There d.link x i) && not (is_open e.node.endpoints i)
is_stirred d e x y (Hunted name) = is_open_name e.node.endpoints (Some name) && any_findable d e
is_stirred d e x y (Offered i) = is_open e.node.endpoints i && any_findable d e

-- in either
abbrev pub is_unsettled_by : (d e : Known) → (x y : Option Session) → Stir → Bool
is_unsettled_by d e (Some x) (Some y) stir = is_stirred d e x y stir || is_stirred e d y x stir
is_unsettled_by d e _ _ stir = false

-- ONE DIRECTION is still, where session x is up here and session y across
abbrev pub is_still_half : (d e : Known) → (x y : Session) → Bool
is_still_half d e x y =
    is_session d.here.pair y
    && (not (any_under_way d e x y) && (not (any_left_over d e x) && not (any_findable d e)))

-- both are
abbrev pub is_still_whole : (d e : Known) → (x y : Option Session) → Bool
is_still_whole d e (Some x) (Some y) = is_still_half d e x y && is_still_half e d y x
is_still_whole d e _ _ = false

-- A LINK IS STILL: it is cut and up at neither end, or whole, up at both ends with each other, and
-- all is said and heard
abbrev pub is_still : Ends → Bool
is_still ends =
    if ends.cut then is_none ends.first.here.up && is_none ends.second.here.up
    else is_still_whole ends.first ends.second ends.first.here.up ends.second.here.up

-- what was stirred isn't settled
abbrev pub is_unsettled : Ends → Stir → Bool
is_unsettled ends stir =
    is_unsettled_by ends.first ends.second ends.first.here.up ends.second.here.up stir

-- all of it is
abbrev pub is_settled : Ends → List Stir → Bool
is_settled ends stirs = not (list_any (is_unsettled ends) stirs)
