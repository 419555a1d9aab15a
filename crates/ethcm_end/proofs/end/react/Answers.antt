use Rattle.ethcm_end.specs.Rules.{input_of}
use Rattle.ethcm_end.proofs.Soundness.{input_sound, sound_after}
use Rattle.ethcm_end.proofs.end.react.Goals as goal

pub returns-clause-sound : goal.returns-clause-sound
returns-clause-sound c =
    sound_after (input_of c.args.parts.now.is c.args.packet) _ _ c.in_ok-handed.ensures.reaction
    (input_sound _ _ c.requires.sound c.requires.packet c.requires.counted)
