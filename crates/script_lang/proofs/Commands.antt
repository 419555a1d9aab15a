-- a command with its names looked up fits the script
use Rattle.std.proofs.Common.{◌≡◌, ◌-◌, true, ◌||◌, ◌==◌, refl, Some, slice_get}
use Rattle.linx_base.specs.declared.identity.LinkNo.{LinkNo}
use Rattle.linx_base.specs.declared.identity.NodeNo.{NodeNo}
use Rattle.linx_base.specs.declared.frame.LinkDecl.{LinkDecl}
use Rattle.script_words.specs.declared.command.Command.{Command}
use Rattle.script_words.specs.declared.command.Command.TheVariants.{Send}
use Rattle.script_words.specs.declared.command.Command.TheVariants.{Recv, Hunt, Attach}
use Rattle.script_words.specs.declared.command.Command.TheVariants.{Cut, Mend, Restart}
use Rattle.script_words.specs.declared.command.Command.TheVariants.{Settle}
use Rattle.script_words.specs.NamedCommand.{is_sized_plain}
use Rattle.script_lang.specs.Parts.{ScriptParts}
use Rattle.script_lang.specs.Fits.{is_link, has_end, fits_command}

module _ (s : ScriptParts) (node : NodeNo) where
  -- a command that names no link and no node fits every script
  pub fits : (command : Command) → is_sized_plain command ≡ true
      → fits_command s node command ≡ true
  fits (Send to number bytes) h = h
  fits (Recv filter) h = h
  fits (Hunt path number bytes) h = cc
  fits (Attach to r number bytes) h = h
  fits (Cut link) h = cc
  fits (Mend link) h = cc
  fits (Restart other) h = cc
  fits (Settle link) h = cc
  fits _ h = refl

  -- whether a declared link ends at a node, by its declaration
  pub has_end_at : (link : LinkNo) (decl : LinkDecl) → is_link s link ≡ true
      → slice_get s.links (link.0 - 1) ≡ Some decl
      → has_end s link node ≡ ((decl.first.0 == node.0) || (decl.second.0 == node.0))
  has_end_at link decl declared here = rw (declared, here) refl
