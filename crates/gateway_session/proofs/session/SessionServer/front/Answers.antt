use Rattle.std.proofs.Common.{◌∙◌, ap, subst}
use Rattle.request_stream.specs.Fronts.{IsFront}
use Rattle.gateway_msgs.specs.Fronts.{IsRequest}
use Rattle.gateway_session.specs.Replying.{clients_of}
use Rattle.gateway_session.proofs.session.SessionServer.front.Goals as goal

pub returns : goal.returns
returns c =
    subst (λ n. IsFront (IsRequest n) c.args.room c.args.bytes.now c.front_in.result)
    (c.self.invariant.0 ∙ ap clients_of c.self.view_is) c.front_in.ensures
