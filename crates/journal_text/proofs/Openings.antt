-- Openings among several effects.
use Rattle.std.proofs.Common.{◌≡◌, ℕ, List, [], ◌∷◌, ◌++◌, flat_map, refl, ap, Option, Some}
use Rattle.std.proofs.Common.{filter_map}
use Rattle.linx_base.specs.declared.identity.Inc.{Inc}
use Rattle.journal.specs.declared.effect.Effect.{Effect}
use Rattle.journal.specs.declared.effect.Effect.TheVariants.{Opened}
use Rattle.journal.specs.Logs.{Log}
use Rattle.journal.specs.History.{last_opened, opened_in, effects_of}
use Rattle.journal_text.specs.Values.{Digest}
use Rattle.journal_text.specs.Blocks.{log_text, logs_text}
use Rattle.journal_text.specs.Collected.{opened_log}

-- the last opening of effects in two parts
pub last_opened_append : (before : Option Inc) (xs ys : List Effect)
    → last_opened before (xs ++ ys) ≡ last_opened (last_opened before xs) ys
last_opened_append before [] ys = refl
last_opened_append before (Opened i ∷ es) ys = last_opened_append (Some i) es ys
last_opened_append before (_ ∷ es) ys = last_opened_append before es ys

-- the logs of opened incarnations, effect by effect
logs_by_effects : (digest : Digest) (log : Log) (es : List Effect)
    → flat_map (opened_log digest log) es ≡ flat_map (log_text digest log) (filter_map opened_in es)
logs_by_effects digest log [] = refl
logs_by_effects digest log (Opened i ∷ es) =
    ap (λ (rest : List ℕ). log_text digest log i ++ rest) (logs_by_effects digest log es)
logs_by_effects digest log (_ ∷ es) = logs_by_effects digest log es

-- the logs of all incarnations
pub logs_text-effects : (digest : Digest) (log : Log)
    → flat_map (opened_log digest log) (effects_of log.steps) ≡ logs_text digest log
unfolding logs_text
logs_text-effects digest log = logs_by_effects digest log (effects_of log.steps)
