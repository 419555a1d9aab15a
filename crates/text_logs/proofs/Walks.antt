-- What was expected of a text, as steps and effects are gone over.
use Rattle.std.proofs.Common.{◌≡◌, ℕ, ◌+◌, List, [], ◌∷◌, ◌++◌, length, drop, flat_map, refl, sym}
use Rattle.std.proofs.Common.{subst, ◌∙◌, ap, append_assoc, append-nil, nat_lt, false}
use Rattle.std.proofs.lemmas.Grind.{flat_map-append}
use Rattle.journal.specs.declared.effect.Effect.{Effect}
use Rattle.journal.specs.declared.effect.Step.{Step}
use Rattle.linx_base.specs.declared.identity.Inc.{Inc}
use Rattle.journal.specs.History.{effects_of, opening_name}
use Rattle.journal.specs.Histories.{first_steps}
use Rattle.journal.specs.Logs.{Log}
use Rattle.journal.proofs.Positions.{first_steps_none, first_steps_done}
use Rattle.journal_text.specs.Blocks.{log_lines, log_text, logs_text, title_text}
use Rattle.journal_text.specs.Collected.{AreLogs, opened_log}
use Rattle.journal_text.specs.Texts.{kept}
use Rattle.journal_text.specs.declared.collecting.Logs.{Logs}
use Rattle.journal_text.specs.Values.{Digest, first_bytes}
use Rattle.journal_text.proofs.Openings.{logs_text-effects}
use Rattle.text_logs.specs.declared.comparing.Begun.{Begun}
use Rattle.text_logs.specs.Begun.{IsBegun}
use Rattle.text_logs.proofs.Alike.{alike_none}

-- nothing was expected
pub none_begun : (text : List ℕ) (begun : Begun) → begun.alike ≡ 0 → begun.apart ≡ false
    → IsBegun text [] begun
none_begun text begun none same = record {
  same = none ∙ sym (alike_none text);
  other = same ∙ sym (ap (λ (n : ℕ). nat_lt n 0) (alike_none text));
}

module _ (log : Log) (text : List ℕ) where
  -- the logs that these effects open
  abbrev opened : List Effect → List ℕ
  opened es = flat_map (opened_log first_bytes log) es

  -- with a log more
  pub log_more : (inc : Inc) (so_far title lines : List ℕ) (logs : Logs) (next : Begun)
      → title ≡ title_text log.names inc (opening_name log.steps inc)
      → lines ≡ kept logs.lines inc.0 → AreLogs first_bytes log logs
      → IsBegun text ((so_far ++ title) ++ lines) next
      → IsBegun text (so_far ++ log_text first_bytes log inc) next
  unfolding log_text
  log_more inc so_far title lines logs next titled lined are is =
      let first = title_text log.names inc (opening_name log.steps inc) in
      subst (λ (t : List ℕ). IsBegun text t next)
      (append_assoc so_far title lines
      ∙ ap (λ (t : List ℕ). so_far ++ (t ++ lines)) titled
      ∙ ap (λ (t : List ℕ). so_far ++ (first ++ t))
      (lined ∙ are.collected.lines inc.0
      ∙ ap (λ (d : Digest). log_lines d log.names log.steps log.steps inc) are.by)) is

  -- before the first step
  pub before_steps : (begun : Begun) → IsBegun text [] begun
      → IsBegun text (opened (effects_of (first_steps 0 log.steps))) begun
  before_steps begun is =
      subst (λ (P : List Step). IsBegun text (opened (effects_of P)) begun)
      (sym (first_steps_none log.steps)) is

  -- with an effect more
  pub effect_more : (so_far : List ℕ) (before after : List Effect) (e : Effect) (next : Begun)
      → after ≡ before ++ e ∷ []
      → IsBegun text ((so_far ++ opened before) ++ opened_log first_bytes log e) next
      → IsBegun text (so_far ++ opened after) next
  effect_more so_far before after e next grown is =
      subst (λ (t : List ℕ). IsBegun text t next)
      (append_assoc so_far (opened before) (opened_log first_bytes log e)
      ∙ ap (λ (t : List ℕ). so_far ++ t)
      (ap (λ (t : List ℕ). opened before ++ t)
      (sym (append-nil (opened_log first_bytes log e)))
      ∙ sym (flat_map-append (opened_log first_bytes log) before (e ∷ []))
      ∙ ap opened (sym grown))) is

  -- with a step more
  pub step_more : (P Q : List Step) (s : Step) (next : Begun) → Q ≡ s ∷ P
      → IsBegun text (opened (effects_of P) ++ opened s.effects) next
      → IsBegun text (opened (effects_of Q)) next
  step_more P Q s next grown is =
      subst (λ (t : List ℕ). IsBegun text t next)
      (sym (flat_map-append (opened_log first_bytes log) (effects_of P) s.effects)
      ∙ ap (λ (R : List Step). opened (effects_of R)) (sym grown)) is

  -- behind the last one
  pub behind_steps : (count : ℕ) (begun : Begun) → count ≡ length log.steps
      → IsBegun text (opened (effects_of (first_steps count log.steps))) begun
      → IsBegun text (logs_text first_bytes log) begun
  behind_steps count begun all is =
      subst (λ (t : List ℕ). IsBegun text t begun)
      (ap (λ (P : List Step). opened (effects_of P)) (first_steps_done log.steps count all)
      ∙ logs_text-effects first_bytes log) is
