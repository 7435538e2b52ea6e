use Rattle.std.proofs.Common.{◌∙◌, sym}
use Rattle.nc_payload.proofs.gather.Gathered.ready.Goals as goal

pub returns : goal.returns
returns c = record {
  above = c.pop.new.self;
  keys = c.in-Some.step.keys;
  is = sym c.in_ok-above.ensures ∙ c.in-Some.ensures;
  there = c.in_ok-is_open.ensures c.if-not-branch.false;
}
