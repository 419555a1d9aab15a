-- What is kept of all links, and how it changes with a step.
use Rattle.std.specs.Prelude.{ℕ, suc, ◌≡◌, ◌<◌, List, [], ◌++◌, length, replicate, slice_get, Option}
use Rattle.std.specs.Prelude.{Some}
use Rattle.linx_base.specs.declared.frame.LinkDecl.{LinkDecl}
use Rattle.linx_base.specs.Sides.{other_of}
use Rattle.linx_base.specs.declared.identity.Inc.{Inc}
use Rattle.linx_base.specs.declared.identity.LinkNo.{LinkNo}
use Rattle.linx_base.specs.declared.identity.NodeNo.{NodeNo}
use Rattle.linx_base.specs.declared.identity.Side.{Side}
use Rattle.linx_base.specs.declared.identity.Side.TheVariants.{First, Second}
use Rattle.journal.specs.declared.effect.Step.{Step}
use Rattle.link_tables.specs.Arrivals.{count_in, counts_left, counts_past}
use Rattle.link_tables.specs.Marks.{marks_in, marks_left}
use Rattle.link_tables.specs.Sent.{sent_left, sent_past}
use Rattle.link_tables.specs.Sides.{HasRoom}
use Rattle.link_tables.specs.declared.marks.Mark.{Mark}
use Rattle.link_tables.specs.declared.sent.Flow.{Flow}
use Rattle.link_tables.specs.declared.sent.SentOver.{SentOver}
use Rattle.node_kernel.specs.Nodes.{NodeState}
use Rattle.link_check.specs.Deliveries.{Known}
use Rattle.link_check.specs.Lines.{AreLinesLeft, LineSoFar, fresh_line, line_after, side_in}

-- WHAT IS KEPT: the links, what is kept of each, what was opened, closed, met and sent, and how much
-- arrived
pub record BookSoFar : Type 0 where
  pub links : List LinkDecl
  pub lines : List LineSoFar
  pub marks : List Mark
  pub sent : List SentOver
  pub arrived : List (Flow × ℕ)

-- the book of links before the first step
pub record IsFresh (decls : List LinkDecl) (book : BookSoFar) : Type 0 where
  pub links : book.links ≡ decls
  pub lines : book.lines ≡ replicate (length decls) fresh_line
  pub marks : book.marks ≡ []
  pub sent : book.sent ≡ []
  pub arrived : book.arrived ≡ []

-- the counts of one more step fit in each link
abbrev pub HaveRoom : List LineSoFar → Type 0
HaveRoom lines =
    (k : ℕ) (line : LineSoFar) → slice_get lines k ≡ Some line
    → HasRoom line.first × HasRoom line.second

-- A BOOK TAKES ONE MORE STEP: there is what is kept of each link, and the counts fit
pub record TakesStep (book : BookSoFar) : Type 0 where
  pub counted : length book.lines ≡ length book.links
  pub few : length book.lines < 4294967295
  pub room : HaveRoom book.lines

-- each link is past a step, whose maker has this endpoint
pub record ArePast (links : List LinkDecl) (me : Option Inc) (s : Step) (old new : List LineSoFar)
    : Type 0 where
  pub counted : length new ≡ length old
  pub each : (k : ℕ) (line : LineSoFar) (ends : LinkDecl) → slice_get old k ≡ Some line
      → slice_get links k ≡ Some ends
      → slice_get new k ≡ Some (line_after (suc k) ends me s line)

-- THE BOOK after a step whose maker has this endpoint
pub record IsPast (me : Option Inc) (s : Step) (old new : BookSoFar) : Type 0 where
  pub links : new.links ≡ old.links
  pub lines : ArePast old.links me s old.lines new.lines
  pub marks : new.marks ≡ old.marks ++ marks_in s.head s.effects
  pub sent : new.sent ≡ sent_past me s.head old.sent
  pub arrived : count_in new.arrived ≡ counts_past s.effects (count_in old.arrived)

-- THE BOOK THAT A HISTORY LEAVES
pub record IsBookLeft (P : List Step) (decls : List LinkDecl) (book : BookSoFar) : Type 0 where
  pub links : book.links ≡ decls
  pub lines : AreLinesLeft P decls book.lines
  pub marks : book.marks ≡ marks_left P
  pub sent : book.sent ≡ sent_left P
  pub arrived : count_in book.arrived ≡ counts_left P

-- WHAT IS KNOWN FROM IT. The node at a side of a link
abbrev pub end_no : LinkDecl → Side → NodeNo
end_no ends First = ends.first
end_no ends Second = ends.second

-- where a packet of a link between these nodes comes to this side
abbrev pub delivery_at : BookSoFar → NodeState → LinkNo → Side → LinkDecl → LineSoFar → Known
delivery_at book node link to ends line = record {
  node = node;
  at = end_no ends to;
  other = end_no ends (other_of to);
  link = link;
  here = side_in line to;
  there = side_in line (other_of to);
  marks = book.marks;
  sent = book.sent;
  arrived = book.arrived;
}
