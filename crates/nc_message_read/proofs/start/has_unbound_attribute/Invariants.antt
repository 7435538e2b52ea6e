use Rattle.std.proofs.Common.{◌≡◌, drop, not}
use Rattle.std.specs.Prelude.{◌&&◌}
use Rattle.std.specs.List.{list_any}
use Rattle.nc_message.specs.Resolved.{is_declaration, is_unbound}
use Rattle.nc_message_read.proofs.start.has_unbound_attribute.Given as goal

abbrev pub invariant-loop-attribute : goal.invariant-loop-attribute
invariant-loop-attribute l =
    list_any (λ a. not (is_declaration a.name) && is_unbound l.outer l.attributes a.name.prefix) l.attributes
    ≡ list_any (λ a. not (is_declaration a.name) && is_unbound l.outer l.attributes a.name.prefix) (drop l.attribute-index l.attributes)
