-- The limits of the server.
use Rattle.std.specs.Prelude.{ℕ, ◌^◌}

-- the most octets of a message, without its framing
abbrev pub message_limit : ℕ
message_limit = 4194304

-- the most elements that are open at one place of a message
abbrev pub element_depth : ℕ
element_depth = 64

-- the most octets that are read or written at once
abbrev pub piece_limit : ℕ
piece_limit = 16384

-- the most requests that are ever answered, and the most entries of a history
abbrev pub most_requests : ℕ
most_requests = 2 ^ 62

-- the most bytes of the body of a record, which is what is kept of a configuration
abbrev pub body_limit : ℕ
body_limit = 33554432
