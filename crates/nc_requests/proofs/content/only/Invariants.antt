use Rattle.std.proofs.Common.{◌≡◌, ◌++◌, drop}
use Rattle.std.specs.Option.{option_copied, option_to_list}
use Rattle.nc_protocol.specs.Asking as asking
use Rattle.nc_protocol.specs.Content as content
use Rattle.nc_requests.proofs.content.only.Given as goal

abbrev pub invariant-loop-part : goal.invariant-loop-part
invariant-loop-part l =
    asking.only (option_to_list (option_copied l.found) ++ content.children (drop l.part-index l.parts)) ≡ asking.only (content.children l.parts)
