use Rattle.std.proofs.Common.{◌∙◌, sym}
use Rattle.nc_filter.specs.inner.Sets.{has}
use Rattle.nc_filter.proofs.GroupLemmas.{want_added, want_empty}
use Rattle.nc_filter.proofs.WalkLemmas.{none_there}
use Rattle.nc_filter.proofs.reach.with_want.Goals as goal

pub returns-then-is_empty : goal.returns-then-is_empty
returns-then-is_empty c = λ keys_are below_is.
    want_empty c.args.instances.now.runs.now c.args.upper c.args.want.now c.args.out
    (sym c.as_slice-elems.ensures ∙ none_there c.as_slice-elems.result.now c.is_empty.result c.is_empty.ensures c.if-is_empty.true)

pub returns : goal.returns
returns c = λ keys_are below_is.
    want_added c.args.instances.now.runs.now c.args.upper c.args.want.now c.as_slice-elems.result.now c.in_ok-classes.classes c.args.out c.in_ok-found.found c.as_slice-elems.ensures c.in_ok-classes.ensures
    (c.in_ok-found.ensures (λ run. has c.args.want.now.members run.parent) (c.in_ok-from.ensures below_is) keys_are)
