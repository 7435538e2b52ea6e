use Rattle.std.proofs.Common.{length, ap, sym, subst, ◌∙◌}
use Rattle.std.specs.Prelude.{Option, Some, IfSome, find, option_and_then, option_map}
use Rattle.nc_schema.specs.Places.{Part, Place, is_same_next, parts, place_of, place_parts}
use Rattle.nc_schema.specs.declared.node.Node.{Node}
use Rattle.nc_defaults.specs.Within.{place_here, rows_between}
use Rattle.nc_refs.specs.inner.Branches.{IsSpan, first_part, part_at}
use Rattle.nc_refs.proofs.BranchLemmas.{found_part}
use Rattle.nc_refs.proofs.branches.Branches.below.Goals as goal

pub returns-in-Some-clause-place : goal.returns-in-Some-clause-place
returns-in-Some-clause-place c =
    let args = c.args in
    let tables = args.schema.now in
    let rows = args.config.now in
    let place : Place = place_here rows args.steps.now args.here in
    let step = args.step.now in
    let node = c.in_ok-node.node.now in
    let instance : Node → Option Part = λ n. find (λ part. is_same_next part.step (Some step)) (place_parts place step.node n.kind) in
    let first =
    (λ i. first_part step (parts (length args.steps.now) (rows_between rows (sym c.requires.from i) (sym c.requires.to i))))
    ∙ sym (c.requires.branches.parts args.step) ∙ ap (option_map (part_at rows step)) (sym c.in-Some.ensures) in
    ap Some (c.place_of.ensures.place (Some step))
    ∙ ap (option_map (place_of tables place node)) (sym (found_part place step node.kind (part_at rows step c.in-Some.span) (sym c.has_places.ensures ∙ c.if-not-has_places.false) first))
    ∙ ap (λ (found : Option Node). option_and_then (λ n. option_map (place_of tables place n) (instance n)) found) c.in_ok-node.ensures

pub returns-in-Some-clause-within : goal.returns-in-Some-clause-within
returns-in-Some-clause-within c =
    let is : IsSpan c.args.config.now c.in-Some.span = subst (λ o. IfSome o (IsSpan c.args.config.now)) (sym c.in-Some.ensures) (c.requires.branches.spans c.args.step) in
    subst (λ span. IsSpan c.args.config.now span) (λ i. (sym c.place_of.ensures.from i, sym c.place_of.ensures.to i)) is
