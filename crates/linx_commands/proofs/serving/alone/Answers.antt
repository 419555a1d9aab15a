use Rattle.std.proofs.Common.{sym, ◌∙◌, ap, Some}
use Rattle.command_words.proofs.Serving.{few_clients}
use Rattle.linx_commands.proofs.serving.alone.Goals as goal

pub gateway_from-requires : goal.gateway_from-requires
gateway_from-requires g c =
    let few = few_clients _ c.in-Some-Serve.clients
    (sym c.of.ensures ∙ c.in-Some-Serve.is ∙ ap (λ r. Some r) c.in-Some-Serve.field-0-is) in
    (few.some, few.few)
