-- What a history tells of a side of a link, and how a step changes it.
use Rattle.std.specs.Prelude.{ℕ, zero, suc, ◌+◌, ◌-◌, ◌≡◌, ◌<◌, Bool, false, ◌&&◌, ◌==◌, List, []}
use Rattle.std.specs.Prelude.{◌∷◌, ◌++◌, length, nat_le, nat_lt, slice_get, Option, Some, None}
use Rattle.std.specs.Prelude.{if◌then◌else◌}
use Rattle.std.specs.List.{list_any}
use Rattle.linx_base.specs.Numbers.{boot_of, count_of, session_of}
use Rattle.linx_base.specs.declared.identity.Session.{Session}
use Rattle.linx_base.specs.declared.identity.Side.{Side}
use Rattle.journal.specs.declared.effect.Effect.{Effect}
use Rattle.journal.specs.declared.effect.Effect.TheVariants.{Up, Down}
use Rattle.journal.specs.declared.effect.Step.{Step}
use Rattle.journal.specs.Sessions.{session_past, up_session}
use Rattle.link_laws.specs.Sessions.{downs, ends_session, restarts, silent_ticks, tells_heard, ticks}

-- WHAT IS KEPT OF A SIDE: how often it went down in each boot that is over, in order, and in the
-- present one, its session that is up, the session of the other side that this one is paired with,
-- and its ticks since it heard
pub record SideSoFar : Type 0 where
  pub earlier : List ℕ
  pub downs : ℕ
  pub up : Option Session
  pub pair : Option Session
  pub silent : ℕ

-- the pair of a side after an effect
abbrev pub pair_after : ℕ → ℕ → Option Session → Effect → Option Session
pair_after node link before (Up n l x y) = if n.0 == node && l.0 == link then Some y else before
pair_after node link before (Down n l x) = if n.0 == node && l.0 == link then None else before
pair_after node link before _ = before

-- the pair of a side after some effects, in order
abbrev pub pair_past : ℕ → ℕ → Option Session → List Effect → Option Session
pair_past node link before [] = before
pair_past node link before (e ∷ es) = pair_past node link (pair_after node link before e) es

-- the session of the other side that the one that is up is paired with
abbrev pub up_pair : List Step → ℕ → ℕ → Option Session
up_pair [] node link = None
up_pair (s ∷ P) node link = pair_past node link (up_pair P node link) s.effects

-- how often the side went down in each boot that is over
abbrev pub earlier_downs : List Step → ℕ → ℕ → List ℕ
earlier_downs [] node link = []
earlier_downs (s ∷ P) node link =
    if restarts node s.head then earlier_downs P node link ++ downs P node link ∷ []
    else earlier_downs P node link

-- a side before the first step
abbrev pub fresh_side : SideSoFar
fresh_side = record { earlier = []; downs = 0; up = None; pair = None; silent = 0 }

-- THE SIDE of a link at a node, as the history leaves it
abbrev pub side_left : List Step → ℕ → ℕ → Side → SideSoFar
side_left P node link side = record {
  earlier = earlier_downs P node link;
  downs = downs P node link;
  up = up_session P node link;
  pair = up_pair P node link;
  silent = silent_ticks P node link side;
}

-- what is kept of a side after one step more
abbrev pub side_past : ℕ → ℕ → Side → Step → SideSoFar → SideSoFar
side_past node link side s old = record {
  earlier = if restarts node s.head then old.earlier ++ old.downs ∷ [] else old.earlier;
  downs = if restarts node s.head then 0
      else (if list_any (ends_session node link) s.effects then suc old.downs else old.downs);
  up = session_past node link old.up s.effects;
  pair = pair_past node link old.pair s.effects;
  silent = if list_any (tells_heard node link) s.effects then 0
      else (if ticks link side s.head then suc old.silent else old.silent);
}

-- the counts of one more step fit their types
pub record HasRoom (t : SideSoFar) : Type 0 where
  pub boots : length t.earlier < 4294967295
  pub downs : t.downs < 4294967295
  pub silent : t.silent < 4294967295

-- the session that the side has, up or not
abbrev pub own_in : SideSoFar → Session
own_in t = session_of (1 + length t.earlier) (1 + t.downs)

-- a count of sessions is from 1 to one more than the downs
abbrev pub is_within : ℕ → ℕ → Bool
is_within count downs = nat_lt 0 count && nat_le (count - 1) downs

-- the downs of a boot that is over, or else those of the present boot, if it is that
abbrev pub downs_or : Option ℕ → Bool → ℕ → Option ℕ
downs_or (Some n) present downs = Some n
downs_or None present downs = if present then Some downs else None

-- how often a side went down in the boot of this number, from 1 on; nothing where there was none
abbrev pub downs_at : List ℕ → ℕ → ℕ → Option ℕ
downs_at earlier downs zero = None
downs_at earlier downs (suc k) = downs_or (slice_get earlier k) (k == length earlier) downs

-- how often a side went down in a boot, of those that it had
abbrev pub downs_of_boot : SideSoFar → ℕ → Option ℕ
downs_of_boot t boot = downs_at t.earlier t.downs boot

-- there was this boot, and a session of this count in it
abbrev pub within_downs : ℕ → Option ℕ → Bool
within_downs count None = false
within_downs count (Some downs) = is_within count downs

-- THE SIDE HAD A SESSION: its count is one of those of its boot
abbrev pub had_in : SideSoFar → Session → Bool
had_in t session = within_downs (count_of session) (downs_of_boot t (boot_of session))
