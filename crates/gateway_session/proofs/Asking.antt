-- Who asks a gateway for something.
use Rattle.std.proofs.Common.{ℕ, length}
use Rattle.fabric.specs.Run.{Layout}
use Rattle.gateway_msgs.specs.declared.request.Request.{Request}
use Rattle.gateway_msgs.specs.declared.request.Request.TheVariants as asks
use Rattle.gateway_msgs.specs.Requests.{IsAsker}
use Rattle.gateway_core.specs.Handling.{IsAskerOf}

-- one of the clients that a request may be of is one of the gateway's
pub asker : (f : Layout) (client : ℕ) (request : Request)
    → IsAsker (length f.shape.actors) client request → IsAskerOf f client request
asker f client (asks.Clock moment) is = is
asker f client _ is = record { above = is.0; within = is.1 }
