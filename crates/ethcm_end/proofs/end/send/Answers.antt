use Rattle.ethcm_end.proofs.Soundness.{offer_sound}
use Rattle.ethcm_end.proofs.end.send.Goals as goal

pub returns-clause-sound : goal.returns-clause-sound
returns-clause-sound c =
    rw c.in_ok-take_offer.ensures.is
    (offer_sound _ _ c.requires.sound c.requires.message c.fits.ensures c.requires.left)
