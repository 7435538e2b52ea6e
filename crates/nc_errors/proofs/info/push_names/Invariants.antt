use Rattle.std.proofs.Common.{◌≡◌, ◌++◌, map, take}
use Rattle.nc_protocol.specs.Content as content
use Rattle.nc_protocol.specs.Reply as reply
use Rattle.nc_protocol.specs.Words as w
use Rattle.nc_errors.proofs.info.push_names.Given as goal

abbrev pub invariant-loop-name : goal.invariant-loop-name
invariant-loop-name l =
    l.parts ≡ l.initial.parts ++ map (content.text_part (reply.cause_name w.name_word)) (take l.name-index l.names)
