use Rattle.ethcm_end.proofs.Rising.{sessions_rise}
use Rattle.ethcm_end.proofs.Confirming.{peers_confirm}
use Rattle.ethcm_end.proofs.Moving.{windows_move}
use Rattle.ethcm_end.proofs.Sending.{packets_name_sessions}
use Rattle.ethcm_end.proofs.Taking.{frames_in_turn}
use Rattle.ethcm_end.proofs.laws.ends_keep_laws.Goals as goal

pub returns : goal.returns
returns c =
    record {
      sessions = sessions_rise;
      confirmed = peers_confirm;
      windows = windows_move;
      packets = packets_name_sessions;
      frames = frames_in_turn;
    }
