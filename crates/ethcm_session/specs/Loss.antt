-- When a link is lost.
use Rattle.std.specs.Prelude.{ℕ}

-- the tick at which a link is lost, counted from the start and from each packet that was heard
abbrev pub lost_at : ℕ
lost_at = 3
