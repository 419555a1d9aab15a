-- The definitions computed: what each word asks, and the answers that are due on a worked link.
use Rattle.std.proofs.Common.{◌≡◌, ℕ, List, refl, false}
use Rattle.linx_base.specs.declared.identity.Inc.{Inc}
use Rattle.linx_base.specs.declared.identity.Side.TheVariants.{First, Second}
use Rattle.carrier.specs.Events.{LinkState, delivered, new_link, offered_to, ticked_at}
use Rattle.ethcm_window.specs.Sending.{numbered_from}
use Rattle.fragmenter.specs.Pieces.{cut, followers, framed, pieces_of}
use Rattle.ethcm_end.specs.Rules.{data_in, input_of, offer_of, take_kept, tick_of}
use Rattle.rlnh_messages.specs.Messages.{spelling_of}
use Rattle.rlnh_end.specs.Words.{announce, confirm, hello, hello_back, message_of, question}
use Rattle.rlnh_end.specs.Words.{withdraw}
use Rattle.run_settling.specs.Asking.{asks}
use Rattle.run_settling.proofs.Adding.{left}

words_ask : (name : List ℕ) (addr : ℕ) (inc : Inc)
    → (asks (message_of hello) ≡ 1) × (asks (message_of hello_back) ≡ 0)
    × (asks (message_of (question name)) ≡ 1) × (asks (message_of (announce addr inc name)) ≡ 0)
    × (asks (message_of (withdraw addr inc)) ≡ 1) × (asks (message_of (confirm addr)) ≡ 0)
unfolding spelling_of
words_ask name addr inc = (refl, refl, refl, refl, refl, refl)

-- the three packets of a connection
abbrev connected : LinkState
connected =
    delivered First 0 false (delivered Second 0 false (delivered First 0 false
    (ticked_at First (new_link 1 64))))

abbrev greeted : LinkState
greeted = offered_to First (message_of hello) connected

-- INIT is offered, and comes
init_is_due : ((left connected).due ≡ 0) × ((left greeted).due ≡ 1)
    × ((left (delivered First 0 false greeted)).due ≡ 0)
unfolding input_of offer_of tick_of spelling_of cut followers framed pieces_of numbered_from data_in take_kept
init_is_due = (refl, refl, refl)
