-- What is still to go out.
use Rattle.std.specs.Prelude.{List}
use Rattle.std.specs.List.{AllByRecursion}
use Rattle.linx_base.specs.Frames.{IsMessage}
use Rattle.linx_base.specs.declared.frame.Message.{Message}

-- each message has a body of 1 to 65,536 bytes
abbrev pub AreMessages : List Message → Type 0
AreMessages out = AllByRecursion IsMessage out
