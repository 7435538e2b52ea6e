use Rattle.std.proofs.Common.{◌∙◌, ◌++◌, ◌∷◌, [], ap, sym, ℕ, length, refl, ◌-◌}
use Rattle.std.specs.Prelude.{None, Option, Some}
use Rattle.std.specs.Option.{option_map_or}
use Rattle.nc_names.specs.declared.cause.CauseKind.{CauseKind}
use Rattle.nc_defaults.specs.Within.{place_here}
use Rattle.nc_schema.specs.Places.{Place, is_of, parts_of}
use Rattle.nc_schema.specs.Violations.{is_required}
use Rattle.nc_schema.specs.declared.violation.Violation.{Violation}
use Rattle.nc_validate.proofs.ChildrenLemmas.{counted}
use Rattle.nc_validate.proofs.CountLemmas.{enough_counted, few_between}
use Rattle.nc_validate.proofs.counts.first_of_counts.Goals as goal

pub returns-in_ok-violation_below-in-Some : goal.returns-in_ok-violation_below-in-Some
returns-in_ok-violation_below-in-Some c =
    let args = c.args in
    let place : Place = place_here args.config.now args.steps.now args.here in
    let node = args.child.1.now in
    let number = args.child.0 in
    let total : ℕ = length (parts_of place number) in
    let few = few_between (is_of number) (length args.steps.now) args.here.from args.here.to args.config.now c.requires.1 in
    let same = enough_counted node (args.here.to - args.here.from) c.enough_of-enough.result c.count_up_to-count.result total c.is_required-required.result
    c.enough_of-enough.ensures c.count_up_to-count.ensures.at_most few c.count_up_to-count.ensures.all in
    ap (λ (v : Violation). Some v) c.in_ok-violation_below-in-Some.ensures
    ∙ ap (λ (o : Option CauseKind). option_map_or (λ kind. Some (record { kind = kind; path = record { steps = args.steps.now ++ record { node = args.child.0; keys = [] } ∷ [] } })) o None) (c.in-Some.ensures ∙ same)
    ∙ sym (counted args.schema.now place number total node c.is_required-required.result refl
    (c.is_required-required.ensures ∙ ap (is_required args.schema.now place) c.as_slice.ensures))

pub returns-in-None : goal.returns-in-None
returns-in-None c =
    let args = c.args in
    let place : Place = place_here args.config.now args.steps.now args.here in
    let node = args.child.1.now in
    let number = args.child.0 in
    let total : ℕ = length (parts_of place number) in
    let few = few_between (is_of number) (length args.steps.now) args.here.from args.here.to args.config.now c.requires.1 in
    let same = enough_counted node (args.here.to - args.here.from) c.enough_of-enough.result c.count_up_to-count.result total c.is_required-required.result
    c.enough_of-enough.ensures c.count_up_to-count.ensures.at_most few c.count_up_to-count.ensures.all in
    ap (λ (o : Option CauseKind). option_map_or (λ kind. Some (record { kind = kind; path = record { steps = args.steps.now ++ record { node = args.child.0; keys = [] } ∷ [] } })) o None) (c.in-None.ensures ∙ same)
    ∙ sym (counted args.schema.now place number total node c.is_required-required.result refl
    (c.is_required-required.ensures ∙ ap (is_required args.schema.now place) c.as_slice.ensures))
