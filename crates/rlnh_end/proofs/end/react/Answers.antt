use Rattle.std.proofs.Common.{◌≡◌, ◌∙◌, ap, sym}
use Rattle.rlnh_end.specs.declared.up.Up.TheVariants.{Bad}
use Rattle.rlnh_end.specs.Calls.{after}
use Rattle.rlnh_end.specs.Hearing.{hears}
use Rattle.rlnh_end.specs.Reactions.{Reaction, rlnh_input_of}
use Rattle.rlnh_end.proofs.ByRule.{hearing_follows_rules}
use Rattle.rlnh_end.proofs.Listing.{bad_listed, listed_bad}
use Rattle.rlnh_end.proofs.Saying.{read_has_address}
use Rattle.rlnh_end.proofs.end.react.Goals as goal

pub hear-requires : goal.hear-requires
hear-requires c = read_has_address c.args.m.now c.in_ok-heard.heard c.in_ok-heard.ensures.is

pub returns-clause-is_read : goal.returns-clause-is_read
returns-clause-is_read c = (c.in_ok-heard.heard, c.in_ok-heard.ensures.is)

pub returns-clause-reaction : goal.returns-clause-reaction
returns-clause-reaction c other read =
    c.in_ok-up.ensures.reaction
    ∙ ap (rlnh_input_of c.args.parts.now.is) (c.in_ok-heard.ensures.only other read)

pub returns-clause-bad : goal.returns-clause-bad
returns-clause-bad c listed =
    ap (λ (r : Reaction). r.up) c.in_ok-up.ensures.reaction
    ∙ listed_bad c.args.parts.now.is.tables c.args.m.now c.in_ok-heard.heard
    c.in_ok-heard.ensures.is c.in_ok-heard.ensures.only listed

pub returns-clause-bad_only : goal.returns-clause-bad_only
returns-clause-bad_only c bad =
    bad_listed c.args.parts.now.is.tables c.args.m.now c.in_ok-heard.heard
    c.in_ok-heard.ensures.is
    (sym (ap (λ (r : Reaction). r.up) c.in_ok-up.ensures.reaction) ∙ bad)

pub returns-clause-bad_changes_nothing : goal.returns-clause-bad_changes_nothing
returns-clause-bad_changes_nothing c bad =
    let up : (hears c.args.parts.now.is.tables c.in_ok-heard.heard).up ≡ Bad =
    sym (ap (λ (r : Reaction). r.up) c.in_ok-up.ensures.reaction) ∙ bad in
    ap (λ (r : Reaction). r.state) c.in_ok-up.ensures.reaction
    ∙ ap (after c.args.parts.now.is)
    ((hearing_follows_rules c.args.parts.now.is.tables).bad c.in_ok-heard.heard up)
