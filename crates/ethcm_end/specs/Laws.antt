-- What follows from the functions of an end alone, for what carries its packets.
use Rattle.ethcm_end.specs.Sessions.{PeersConfirm, SessionsRise}
use Rattle.ethcm_end.specs.Windows.{PacketsNameSessions, WindowsMove}
use Rattle.ethcm_end.specs.Taking.{FramesInTurn}

-- the laws of an end, one field a law
pub record EndLaws : Type 0 where
  -- its session never falls, and rises exactly where it goes down or its node boots again; going up
  -- or down, all begins anew
  pub sessions : SessionsRise
  -- it is confirmed by its peer alone
  pub confirmed : PeersConfirm
  -- its window moves by acknowledgements and offers alone, and else begins anew
  pub windows : WindowsMove
  -- what it sends names its session and its peer's, and a piece is the frame of its number
  pub packets : PacketsNameSessions
  -- each frame that it takes is the one of the expected number
  pub frames : FramesInTurn
