use Rattle.ethcm_end.specs.Rules.{tick_of}
use Rattle.ethcm_end.proofs.Soundness.{sound_after, tick_sound}
use Rattle.ethcm_end.proofs.end.beat.Goals as goal

pub returns-clause-sound : goal.returns-clause-sound
returns-clause-sound c =
    sound_after (tick_of c.args.parts.now.is) _ _ c.in_ok-ticked.ensures.reaction
    (tick_sound _ c.requires.sound c.requires.counted)
