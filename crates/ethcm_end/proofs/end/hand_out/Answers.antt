use Rattle.ethcm_end.proofs.Soundness.{after_out_sound}
use Rattle.ethcm_end.proofs.end.hand_out.Goals as goal

pub returns-clause-sound : goal.returns-clause-sound
returns-clause-sound c = after_out_sound _ _ c.requires c.in_ok-bytes.ensures.is
