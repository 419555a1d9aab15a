-- What is kept of a link, and how a step changes it.
use Rattle.std.specs.Prelude.{ℕ, suc, ◌≡◌, ◌==◌, Bool, true, false, List, length, slice_get, Option}
use Rattle.std.specs.Prelude.{Some, None}
use Rattle.std.specs.Prelude.{if◌then◌else◌}
use Rattle.linx_base.specs.declared.frame.LinkDecl.{LinkDecl}
use Rattle.linx_base.specs.declared.identity.Inc.{Inc}
use Rattle.linx_base.specs.declared.identity.Side.{Side}
use Rattle.linx_base.specs.declared.identity.Side.TheVariants.{First, Second}
use Rattle.journal.specs.declared.effect.Step.{Step}
use Rattle.journal.specs.declared.head.Head.{Head}
use Rattle.journal.specs.declared.head.Head.TheVariants.{Cut, Mend, Restart, Tick, Wire}
use Rattle.link_laws.specs.Sessions.{cut_after, is_cut}
use Rattle.link_tables.specs.Sides.{SideSoFar, fresh_side, side_left, side_past}
use Rattle.link_check.specs.Rest.{stirred_left, stirred_past}
use Rattle.link_check.specs.declared.rest.Stir.{Stir}

-- WHAT IS KEPT OF A LINK: its sides, whether it is cut, and what was stirred on it since it was last
-- seen still
pub record LineSoFar : Type 0 where
  pub first : SideSoFar
  pub second : SideSoFar
  pub cut : Bool
  pub stirred : Option (List Stir)

-- a link before the first step
abbrev pub fresh_line : LineSoFar
fresh_line = record { first = fresh_side; second = fresh_side; cut = false; stirred = None }

-- one of its sides
abbrev pub side_in : LineSoFar → Side → SideSoFar
side_in line First = line.first
side_in line Second = line.second

-- a link between these nodes as the history leaves it
abbrev pub line_left : List Step → ℕ → LinkDecl → LineSoFar
line_left P l ends = record {
  first = side_left P ends.first.0 l First;
  second = side_left P ends.second.0 l Second;
  cut = is_cut P l;
  stirred = stirred_left P l ends;
}

-- its sides and its cut after a step
abbrev pub line_past : ℕ → LinkDecl → Step → LineSoFar → LineSoFar
line_past l ends s old = record {
  first = side_past ends.first.0 l First s old.first;
  second = side_past ends.second.0 l Second s old.second;
  cut = cut_after l old.cut s.head;
  stirred = old.stirred;
}

-- a step of this head changes its sides or its cut
abbrev pub touches : ℕ → Head → Bool
touches link (Wire l from verdict) = l.0 == link
touches link (Tick l side) = l.0 == link
touches link (Cut l) = l.0 == link
touches link (Mend l) = l.0 == link
touches link (Restart n) = true
touches link _ = false

-- after a step, which changes them or doesn't
abbrev pub line_past_if : ℕ → LinkDecl → Step → LineSoFar → LineSoFar
line_past_if l ends s old = if touches l s.head then line_past l ends s old else old

-- A LINK AFTER A STEP, whose maker has this endpoint, and which may also stir it
abbrev pub line_after : ℕ → LinkDecl → Option Inc → Step → LineSoFar → LineSoFar
line_after l ends me s old =
    record (line_past_if l ends s old) { stirred = stirred_past l ends me s old.stirred }

-- THE LINES are those of the links from 1 on, as the history leaves them
pub record AreLinesLeft (P : List Step) (links : List LinkDecl) (lines : List LineSoFar) : Type 0
  where
    pub counted : length lines ≡ length links
    pub each : (k : ℕ) (ends : LinkDecl) → slice_get links k ≡ Some ends
        → slice_get lines k ≡ Some (line_left P (suc k) ends)
