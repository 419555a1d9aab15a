use Rattle.std.proofs.Common.{◌≡◌, List, ℕ, get_or, true, length, sym, subst}
use Rattle.std.proofs.lemmas.List.{take_rest}
use Rattle.gateway_msgs.specs.Positions.{fits_size}
use Rattle.gateway_msgs.specs.Requests.{IsBodyOf}
use Rattle.gateway_msgs.proofs.Spelled.{fits_there, spells_there}
use Rattle.gateway_msgs.proofs.reading.read.Goals as goal

pub request_in-requires : goal.request_in-requires
request_in-requires c =
    subst (λ (l : List ℕ). fits_size (get_or c.args.bytes.now 4 0) (length l) ≡ true)
    (sym (take_rest c.args.bytes.now 8)) (fits_there c.requires.0 c.args.bytes.now c.requires.1)

pub returns : goal.returns
returns c = λ clients is.
    spells_there clients c.args.bytes.now is c.in_ok-request.request
    (subst (λ (l : List ℕ). IsBodyOf (get_or c.args.bytes.now 4 0) l c.in_ok-request.request)
    (take_rest c.args.bytes.now 8) c.in_ok-request.ensures)
