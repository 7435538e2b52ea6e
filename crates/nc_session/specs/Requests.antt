-- What a message after the hellos asks for (RFC 6241 4.1).
use Rattle.std.specs.Prelude.{◌≡◌, ℕ, List, if◌then◌else◌, Result, Ok, Err}
use Rattle.nc_names.specs.Same.{is_same_name}
use Rattle.nc_message.specs.declared.tree.Tree.{Tree}
use Rattle.nc_message.specs.declared.tree.Why.TheVariants.{NotWellFormed}
use Rattle.nc_message.specs.Faults.{SpellsTree, IsFault}
use Rattle.nc_protocol.specs.declared.request.Request.{Request}
use Rattle.nc_protocol.specs.Content.{base_name}
use Rattle.nc_protocol.specs.Decoded.{decoded}
use Rattle.nc_protocol.specs.Words.{rpc_word}
use Rattle.nc_session.specs.declared.base.Base.{Base}
use Rattle.nc_session.specs.declared.base.Base.TheVariants.{Base10, Base11}
use Rattle.nc_session.specs.declared.end.BadMessage.{BadMessage}
use Rattle.nc_session.specs.declared.end.HelloFault.{HelloFault}
use Rattle.nc_session.specs.ClientHello.{base_of}

-- the tree that bytes spell, or where and why they spell none
abbrev pub IsReading : List ℕ → Result Tree BadMessage → Type 0
IsReading bytes (Ok tree) = SpellsTree bytes tree
IsReading bytes (Err bad) = IsFault bytes bad.at bad.why

-- The request of a message. A base:1.1 session answers a message that is none as malformed; in a base:1.0 session
-- it gives no request (RFC 6241 appendix A, `malformed-message`).
abbrev pub request_of : Base → Result Tree BadMessage → Result Request BadMessage
request_of Base10 (Err bad) = Err bad
request_of Base10 (Ok tree) =
    if is_same_name tree.root.name (base_name rpc_word) then Ok (decoded (Ok tree))
    else Err (record { at = 0; why = NotWellFormed })
request_of Base11 (Err bad) = Ok (decoded (Err bad.why))
request_of Base11 (Ok tree) = Ok (decoded (Ok tree))

-- the bytes of a message give this request, or none for that reason
pub record AsksFor (base : Base) (body : List ℕ) (answer : Result Request BadMessage) : Type 0 where
  pub reading : Result Tree BadMessage
  pub is_reading : IsReading body reading
  pub answer_is : request_of base reading ≡ answer

-- the bytes of the client's first message choose this version of the protocol, or are not taken for that reason
pub record Greets (body : List ℕ) (answer : Result Base HelloFault) : Type 0 where
  pub reading : Result Tree BadMessage
  pub is_reading : IsReading body reading
  pub answer_is : base_of reading ≡ answer
