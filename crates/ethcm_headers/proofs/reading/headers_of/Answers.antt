use Rattle.std.proofs.Common.{◌≡◌, ◌+◌, ◌∙◌, sym, length}
use Rattle.std.proofs.lemmas.Bool.{iff_false}
use Rattle.ethcm_headers.specs.Chains.{header_bytes}
use Rattle.ethcm_headers.proofs.Found.{too_long, headers_missing, spelled_otherwise, out_of_bounds}
use Rattle.ethcm_headers.proofs.Found.{is_spelled}
use Rattle.ethcm_headers.proofs.reading.headers_of.Goals as goal

pub returns-then-length-gt-PACKET_MOST-clause-none :
    goal.returns-then-length-gt-PACKET_MOST-clause-none
returns-then-length-gt-PACKET_MOST-clause-none c =
    λ apart packet spells. too_long packet c.args.front.now c.args.behind.now spells
    c.if-length-gt-PACKET_MOST.true

pub returns-in_default-clause-none : goal.returns-in_default-clause-none
returns-in_default-clause-none c =
    λ apart packet spells. headers_missing packet c.args.front.now c.args.behind.now spells apart
    (sym c.in_default.ensures.value)

pub returns-then-not-is_same-clause-none : goal.returns-then-not-is_same-clause-none
returns-then-not-is_same-clause-none c = λ apart packet spells.
    let front : c.as_slice.result.now
    ≡ header_bytes (length c.args.front.now + length c.args.behind.now) c.in-Some.headers =
    c.as_slice.ensures ∙ c.bytes-spelled.ensures in
    spelled_otherwise packet c.args.front.now c.args.behind.now spells apart c.in-Some.headers
    (sym c.in-Some.ensures.value)
    (λ same. iff_false c.is_same.ensures c.if-not-is_same.true (front ∙ same))

pub returns-then-not-is_packet-clause-none : goal.returns-then-not-is_packet-clause-none
returns-then-not-is_packet-clause-none c = λ apart packet spells.
    out_of_bounds packet c.args.front.now c.args.behind.now spells apart c.in-Some.headers
    (sym c.in-Some.ensures.value)
    (iff_false c.is_packet.ensures c.if-not-is_packet.true)

pub returns-clause-found : goal.returns-clause-found
returns-clause-found c =
    let front : c.as_slice.result.now
    ≡ header_bytes (length c.args.front.now + length c.args.behind.now) c.in-Some.headers =
    c.as_slice.ensures ∙ c.bytes-spelled.ensures in
    is_spelled c.args.front.now c.args.behind.now c.in-Some.headers c.in-Some.ensures.fits
    (sym front ∙ c.is_same.ensures.0 c.if-not-is_same.false)
    (c.is_packet.ensures.0 c.if-not-is_packet.false)
