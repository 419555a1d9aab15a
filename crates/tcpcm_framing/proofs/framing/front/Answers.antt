use Rattle.std.proofs.Common.{ℕ, ◌<◌, ◌∙◌, sym, ap, inr, length, slice_index, arith, rules}
use Rattle.tcpcm_framing.specs.Shortest.{shortest_of}
use Rattle.tcpcm_framing.proofs.Fronts.{none_begins, none_fits, goes_on, begins_with}
use Rattle.tcpcm_framing.proofs.framing.front.Goals as goal

pub returns-in_default : goal.returns-in_default
returns-in_default c =
    let some : 0 < length c.args.bytes.now = search rules in
    none_begins c.args.bytes.now c.args.room some
    (ap (λ l. shortest_of l (length c.args.bytes.now)) (sym c.header_in.ensures)
    ∙ sym c.shortest.ensures ∙ c.in_default.is)

pub returns-then-room-size : goal.returns-then-room-size
returns-then-room-size c =
    let some : 0 < length c.args.bytes.now = search rules in
    none_fits c.args.bytes.now c.args.room c.in-Some.size some
    (ap (λ l. shortest_of l (length c.args.bytes.now)) (sym c.header_in.ensures)
    ∙ sym c.in-Some.ensures)
    c.if-room-size.true

pub returns-then-bytes-size : goal.returns-then-bytes-size
returns-then-bytes-size c =
    let small : (k : ℕ) → slice_index c.args.bytes.now k < 256 = λ k. omega (arith, c.type_inv.bytes k) in
    inr
    (goes_on c.args.bytes.now c.args.room c.in-Some.size small
    (ap (λ l. shortest_of l (length c.args.bytes.now)) (sym c.header_in.ensures) ∙ sym c.in-Some.ensures)
    c.if-room-size.false c.if-bytes-size.true)

pub returns : goal.returns
returns c =
    let small : (k : ℕ) → slice_index c.args.bytes.now k < 256 = λ k. omega (arith, c.type_inv.bytes k) in
    begins_with c.args.bytes.now c.args.room c.in-Some.size small
    (ap (λ l. shortest_of l (length c.args.bytes.now)) (sym c.header_in.ensures) ∙ sym c.in-Some.ensures)
    c.if-room-size.false c.if-bytes-size.false
