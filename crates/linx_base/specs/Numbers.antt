-- Incarnations and sessions: two numbers of 32 bits each in one.
use Rattle.std.specs.Prelude.{ℕ, Bool, ◌+◌, ◌*◌, ◌/◌, ◌%◌, ◌==◌, ◌≤◌}
use Rattle.linx_base.specs.declared.identity.Inc.{Inc}
use Rattle.linx_base.specs.declared.identity.Session.{Session}

-- the number with these halves
abbrev pub number_of : ℕ → ℕ → ℕ
number_of high low = high * 4294967296 + low

-- the higher half of a number
abbrev pub high_half : ℕ → ℕ
high_half number = number / 4294967296

-- the lower half of a number
abbrev pub low_half : ℕ → ℕ
low_half number = number % 4294967296

-- the incarnation of the k-th opening on a node
abbrev pub inc_of : ℕ → ℕ → Inc
inc_of node k = record { 0 = number_of node k }

-- the node that an incarnation was opened on
abbrev pub node_of : Inc → ℕ
node_of inc = high_half inc.0

-- the incarnation was opened on the node of this number
abbrev pub is_on : ℕ → Inc → Bool
is_on node inc = node_of inc == node

-- the session of this count since the boot of this number
abbrev pub session_of : ℕ → ℕ → Session
session_of boot count = record { 0 = number_of boot count }

-- the boot of a session
abbrev pub boot_of : Session → ℕ
boot_of session = high_half session.0

-- the count of a session since its boot
abbrev pub count_of : Session → ℕ
count_of session = low_half session.0

-- the first session of a boot
abbrev pub first_session : ℕ → Session
first_session boot = session_of boot 1

-- the next session of the same boot
abbrev pub next_session : Session → Session
next_session session = record { 0 = session.0 + 1 }

-- a session that has a boot number and a count, both from 1
abbrev pub IsNumbered : Session → Type 0
IsNumbered session = (1 ≤ boot_of session) × (1 ≤ count_of session)
