-- What follows from the definitions of requests and replies.
use Rattle.std.specs.Prelude.{◌≡◌, Bool, IsTrue, IsSome, IfSome, List, [], ◌∷◌, length, Some, Result, Err}
use Rattle.std.specs.List.{All}
use Rattle.nc_names.specs.declared.path.Path.{Path}
use Rattle.nc_names.specs.declared.path.Row.{Row}
use Rattle.nc_message.specs.declared.tree.Tree.{Tree}
use Rattle.nc_message.specs.declared.tree.Why.{Why}
use Rattle.nc_schema.specs.Tables.{Tables}
use Rattle.nc_protocol.specs.declared.request.Cause.{Cause}
use Rattle.nc_protocol.specs.declared.request.Request.{Request}
use Rattle.nc_protocol.specs.declared.verdict.Verdict.{Verdict}
use Rattle.nc_protocol.specs.declared.verdict.Verdict.TheVariants.{Selected, Refused}
use Rattle.nc_protocol.specs.Content.{base_name}
use Rattle.nc_protocol.specs.Decoded.{decoded}
use Rattle.nc_protocol.specs.ErrorRows.{name_count, is_of_node}
use Rattle.nc_protocol.specs.Printed.{printed}
use Rattle.nc_protocol.specs.Proper.{IsProper}
use Rattle.nc_protocol.specs.Reply.{base_part, reply_of}
use Rattle.nc_protocol.specs.Words.{data_word, rpc_reply_word}

-- what a message asks for is a proper request
abbrev pub DecodedIsProper : Type 0
DecodedIsProper = (message : Result Tree Why) → IsProper (decoded message)

-- the cause for which a proper request asks for nothing has the names that its reply needs
abbrev pub CauseHasItsNames : Type 0
CauseHasItsNames =
    (request : Request) (cause : Cause) → IsProper request → request.asked ≡ Err cause →
    name_count cause.kind ≡ Some (length cause.names)

-- a cause has what its error needs: its names, and a path where it is about a data node
pub record IsWhole (cause : Cause) : Type 0 where
  pub names : IfSome (name_count cause.kind) (λ count. count ≡ length cause.names)
  pub path : IsTrue (is_of_node cause.kind) → IsSome cause.path

-- each cause for which a verdict refuses is such
abbrev pub CausesAre : (Cause → Type 0) → Verdict → Type 0
CausesAre Are (Refused causes) = All Are causes
CausesAre Are verdict = Unit {0}

-- a reply is an `rpc-reply` with the attributes of the `rpc` (RFC 6241 4.2), and `data` holds the rows alone that were
-- selected (RFC 6241 7.1, 7.7)
pub record ReplyRepeatsRequest : Type 0 where
  pub name :
      (tables : Tables) (sees : Path → Bool) (request : Request) (verdict : Verdict) →
      (reply_of tables sees request verdict).root.name ≡ base_name rpc_reply_word
  pub attributes :
      (tables : Tables) (sees : Path → Bool) (request : Request) (verdict : Verdict) →
      (reply_of tables sees request verdict).root.attrs ≡ request.attributes
  pub rows :
      (tables : Tables) (sees : Path → Bool) (request : Request) (rows : List Row) →
      (reply_of tables sees request (Selected rows)).root.parts ≡ base_part data_word (printed tables rows) ∷ []
