-- What a message that came to an RLNH end gives its side, by what the end hands up.
use Rattle.std.proofs.Common.{◌≡◌, ap, ◌∙◌}
use Rattle.trunk_record.specs.Records.{SideRecord}
use Rattle.rlnh_end.specs.declared.heard.Heard.{Heard}
use Rattle.rlnh_end.specs.declared.up.Up.{Up}
use Rattle.rlnh_end.specs.States.{RlnhState}
use Rattle.rlnh_end.specs.Hearing.{hears}
use Rattle.rlnh_end.specs.Reactions.{Reaction, gives, rlnh_input_of}
use Rattle.trunk.specs.Events.{TrunkSide, given_up, giving_all}
use Rattle.trunk.specs.Parts.{side_hears}

module _ (s : TrunkSide) (heard : Heard) (end : RlnhState) (up : Up)
    (reaction : gives end up ≡ rlnh_input_of s.end heard) where
  up_is : up ≡ (hears s.end.tables heard).up
  up_is = ap (λ (r : Reaction). r.up) reaction

  -- the side is as it is to be, where what is handed up is recorded
  pub heard_given : (A : SideRecord) → A ≡ giving_all (given_up up) s.kept
      → record { end = end; kept = A } ≡ side_hears s heard
  heard_given A kept =
      ap (λ (e : RlnhState). record { end = e; kept = A }) (ap (λ (r : Reaction). r.state) reaction)
      ∙ ap (λ (r : SideRecord). record { end = (rlnh_input_of s.end heard).state; kept = r })
      (kept ∙ ap (λ u. giving_all (given_up u) s.kept) up_is)
