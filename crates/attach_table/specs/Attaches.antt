use Rattle.std.specs.Prelude.{◌<◌, List, length}
use Rattle.std.specs.List.{AllByRecursion}
use Rattle.linx_base.specs.Content.{data_limit}
use Rattle.linx_base.specs.declared.pending.PendingAttach.{PendingAttach}

-- each signal has room for one more byte
abbrev pub HaveRoom : List PendingAttach → Type 0
HaveRoom attaches = AllByRecursion (λ a. length a.signal.bytes < data_limit) attaches
