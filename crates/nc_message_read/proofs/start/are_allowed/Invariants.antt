use Rattle.std.proofs.Common.{◌≡◌, drop}
use Rattle.std.specs.List.{list_all}
use Rattle.nc_message.specs.Resolved.{is_allowed_name}
use Rattle.nc_message_read.proofs.start.are_allowed.Given as goal

abbrev pub invariant-loop-attribute : goal.invariant-loop-attribute
invariant-loop-attribute l =
    list_all (λ a. is_allowed_name a.name) l.attributes ≡ list_all (λ a. is_allowed_name a.name) (drop l.attribute-index l.attributes)
