use Rattle.ethcm_end.proofs.Answering.{answers_exactly}
use Rattle.ethcm_end.proofs.laws.input_answers_exactly.Goals as goal

pub returns : goal.returns
returns c = answers_exactly
