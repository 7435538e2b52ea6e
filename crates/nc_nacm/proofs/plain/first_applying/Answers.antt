use Rattle.std.proofs.Common.{ap, sym, ◌∙◌, arith}
use Rattle.std.specs.List.{find, flat_map}
use Rattle.std.specs.Option.{option_copied}
use Rattle.nc_model.specs.Decision.{rules_in}
use Rattle.nc_nacm.proofs.Steps.{goes_on, stops}
use Rattle.nc_nacm.proofs.plain.first_applying.Goals as goal

pub returns-in-Some : goal.returns-in-Some
returns-in-Some g c =
    stops (g.A.Asked.matches c.args.asked.now) (rules_in c.args.policy.now c.args.peer.now) c.as_slice-list-items.result.now _ c.list-item.result
    (find (g.A.Asked.matches c.args.asked.now) (flat_map (rules_in c.args.policy.now c.args.peer.now) c.args.policy.now.lists)) _ (omega arith) c.list-item.is (sym c.in-Some.ensures) c.loop-list.invariant

pub loop-list-preserved : goal.loop-list-preserved
loop-list-preserved g c =
    goes_on (g.A.Asked.matches c.args.asked.now) (rules_in c.args.policy.now c.args.peer.now) c.as_slice-list-items.result.now _ c.list-item.result
    (find (g.A.Asked.matches c.args.asked.now) (flat_map (rules_in c.args.policy.now c.args.peer.now) c.args.policy.now.lists)) (omega arith) c.list-item.is
    (sym c.first_of.ensures ∙ ap option_copied c.in_default.is) c.loop-list.invariant
