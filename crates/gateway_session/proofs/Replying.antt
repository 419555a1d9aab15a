-- What a handled request is to the loop over a stream.
use Rattle.std.proofs.Common.{◌≡◌, ℕ, List, ◌++◌, refl, ap, ◌∙◌, inr, Result, Ok, Err, OnOk, OnErr}
use Rattle.std.proofs.Common.{IfErr, true}
use Rattle.journal.specs.Logs.{is_full}
use Rattle.request_stream.specs.declared.server.Refusal.{Refusal}
use Rattle.request_stream.specs.declared.server.Refusal.TheVariants.{Full}
use Rattle.gateway_msgs.specs.declared.reply.Reply.{Reply}
use Rattle.gateway_msgs.specs.declared.request.Request.{Request}
use Rattle.gateway_msgs.specs.Replies.{reply_spelling}
use Rattle.gateway_msgs.specs.Requests.{Spells, type_of}
use Rattle.gateway_core.specs.Handling.{GateState, Handles, Stops, makes_steps}
use Rattle.gateway_session.specs.Replying.{FillsUp, Leaves, Replies, clients_of}

pub on_ok : {T E P Q : Type 0} (r : Result T E) → OnOk r P → (P → Q) → OnOk r Q
on_ok (Ok x) holds go = go holds
on_ok (Err e) holds go = tt

pub on_err : {T E P Q : Type 0} (r : Result T E) → OnErr r P → (P → Q) → OnErr r Q
on_err (Ok x) holds go = tt
on_err (Err e) holds go = go holds

if_err : {T E P : Type 0} {F G H : E → Type 0} (r : Result T E) → OnErr r P → IfErr r F
    → IfErr r G → ((e : E) → P → F e → G e → H e) → IfErr r H
if_err (Ok x) holds why also go = tt
if_err (Err e) holds why also go = go e holds why also

-- what holds whatever comes
pub anyway : {T E P : Type 0} (r : Result T E) → P → OnOk r P
anyway (Ok x) holds = holds
anyway (Err e) holds = tt

module _ (old new : GateState) (client : ℕ) (request : Request) (bytes : List ℕ)
    (spells : Spells (clients_of old) client request bytes)
    (clients : new.layout.shape ≡ old.layout.shape) where
  pub replied : (out room grown : List ℕ) → room ≡ out
      → ((answer : Reply) × Handles client request old new answer
      × (grown ≡ room ++ reply_spelling (type_of request) client answer))
      → ((reply : List ℕ) × (grown ≡ out ++ reply) × Replies old bytes new reply)
  replied out room grown same made =
      let spelling = reply_spelling (type_of request) client made.0 in (
        spelling,
        made.2 ∙ ap (λ l. l ++ spelling) same,
        record {
          client = client;
          request = request;
          spells = spells;
          answer = made.0;
          handled = made.1;
          spelled = refl;
          clients = clients;
        },
      )

  pub leaves : Stops request old new → Leaves old bytes new
  leaves stops = inr (record {
    client = client;
    request = request;
    spells = spells;
    stops = stops;
    clients = clients;
  })

  pub fills : (r : Result (Unit {0}) Refusal) → OnErr r (Stops request old new)
      → IfErr r (λ e. e ≡ Full → is_full new.layout.log.steps ≡ true)
      → IfErr r (λ e. e ≡ Full → makes_steps request ≡ true)
      → IfErr r (λ e. e ≡ Full → FillsUp old bytes)
  fills r stops full at = if_err r stops full at (λ e stop why makes is. record {
    left = new;
    stopped = record {
      client = client;
      request = request;
      spells = spells;
      stops = stop;
      clients = clients;
    };
    at = makes is;
    full = why is;
  })
