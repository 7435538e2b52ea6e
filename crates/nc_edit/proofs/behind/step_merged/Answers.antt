use Rattle.std.proofs.Common.{◌∙◌, sym}
use Rattle.nc_edit.proofs.behind.step_merged.Goals as goal

pub returns : goal.returns
returns c = record {
  above = c.in-Some.above.now;
  cut = sym c.as_slice.ensures ∙ c.in-Some.ensures.cases.0;
  depth_is = c.is_as_deep.ensures.0 c.if-not-is_as_deep.false;
  merges = sym c.is_merge.ensures ∙ c.if-not-is_merge.false;
  kept = c.is_kept.ensures c.if-not-is_kept.false;
  free = sym c.is_free.ensures ∙ c.if-not-is_free.false;
}
