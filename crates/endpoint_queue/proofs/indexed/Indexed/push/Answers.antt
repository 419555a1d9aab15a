use Rattle.std.proofs.Common.{refl, subst, sym, ◌+◌, ◌∙◌, ap, ◌==◌, cond, ℕ, ◌≡◌, Some, unwrap_or}
use Rattle.front_heap.specs.Heap.{ticket_of}
use Rattle.endpoint_queue.specs.declared.queued.Queued.{Queued}
use Rattle.endpoint_queue.specs.Waiting.{IsQueue}
use Rattle.endpoint_queue.proofs.Kept.{pushed}
use Rattle.endpoint_queue.proofs.indexed.Indexed.push.Goals as goal

pub invariant_of-self-2 : goal.invariant_of-self-2
invariant_of-self-2 c =
    let next = c.self.inside.next in
    let q : Queued = record { item = c.args.item; ticket = next } in
    let entered = c.enter.new.self in
    let enters : (n : ℕ) → ticket_of entered n ≡ cond (c.args.item.signal.number == n)
    (Some (unwrap_or (ticket_of c.self.inside.fronts n) next)) (ticket_of c.self.inside.fronts n) =
    λ n. c.in_default-enter.ensures.ok n
    ∙ ap (λ m. cond (m == n) (Some (unwrap_or (ticket_of c.self.inside.fronts n) next))
    (ticket_of c.self.inside.fronts n)) c.number-number.ensures in
    subst (λ l. IsQueue l entered (next + 1)) (sym c.in_default.ensures.ok)
    (pushed c.self.inside.waiting c.self.inside.fronts next c.self.invariant q refl entered enters)
