-- The bytes of replies. Numbers stand with their highest byte first.
use Rattle.std.specs.Prelude.{ℕ, ◌+◌, List, [], ◌∷◌, ◌++◌, length, true, false}
use Rattle.byteorder.specs.Endian.{big_bytes}
use Rattle.gateway_msgs.specs.declared.reply.Reply.{Reply}
use Rattle.gateway_msgs.specs.declared.reply.Reply.TheVariants as replies

-- the status of a reply
abbrev pub status_of : Reply → ℕ
status_of (replies.NotOpen at) = 1
status_of (replies.IsOpen inc) = 2
status_of replies.Dead = 3
status_of replies.NotYet = 4
status_of replies.Nothing = 5
status_of replies.NoReference = 6
status_of replies.BadFilter = 7
status_of replies.BadMoment = 8
status_of _ = 0

-- the most bytes of a body: those of a signal that was taken
abbrev pub body_most : ℕ
body_most = 65544

-- the most bytes of a reply
abbrev pub reply_most : ℕ
reply_most = 65552

-- the body of a reply
abbrev pub body_of_reply : Reply → List ℕ
body_of_reply (replies.Number n) = big_bytes 8 n
body_of_reply (replies.Took from signal) =
    big_bytes 4 signal.number ++ (big_bytes 8 from.0 ++ signal.bytes)
body_of_reply (replies.Detached true) = 1 ∷ []
body_of_reply (replies.Detached false) = 0 ∷ []
body_of_reply (replies.Sent n) = big_bytes 4 n
body_of_reply (replies.NotOpen at) = big_bytes 8 at
body_of_reply (replies.IsOpen inc) = big_bytes 8 inc.0
body_of_reply _ = []

-- the bytes of a reply to a request of this type, of this client: the length of what follows, the
-- type and 128, the client, the status and the body
abbrev pub reply_spelling : ℕ → ℕ → Reply → List ℕ
reply_spelling type client reply =
    big_bytes 4 (length (body_of_reply reply) + 4)
    ++ ((type + 128) ∷ client ∷ (big_bytes 2 (status_of reply) ++ body_of_reply reply))
