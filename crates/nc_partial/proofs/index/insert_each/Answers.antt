use Rattle.std.proofs.Common.{rules}
use Rattle.nc_partial.proofs.IndexLemmas.{adds_more, adds_none}
use Rattle.nc_partial.proofs.index.insert_each.Goals as goal

pub loop-entry-init : goal.loop-entry-init
loop-entry-init c = record {
  order = search rules;
  added = adds_none c.args.index.now.items;
  room = search rules;
}

pub loop-entry-preserved : goal.loop-entry-preserved
loop-entry-preserved c = record {
  order = search rules;
  added =
      adds_more c.loop-entry.yielded c.args.index.now.items c.loop-entry.index.items c.insert.new.index.items c.in-Some.entry
      c.loop-entry.invariant.added c.insert.ensures.added;
  room = search rules;
}
