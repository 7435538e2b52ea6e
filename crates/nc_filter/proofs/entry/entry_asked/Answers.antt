use Rattle.nc_filter.proofs.AimLemmas.{only_keeps}
use Rattle.nc_filter.proofs.entry.entry_asked.Goals as goal

pub returns : goal.returns
returns c =
    only_keeps c.only_entry.result c.args.schema.now c.requires.proper c.args.config.now c.requires.configuration c.args.filter.now c.in_ok-aim.field-0 c.in-Some.aim
    c.in-Some-ordered_list.node.now c.as_slice-level.result.now c.as_slice.result.now c.in_ok-texts.field-0 c.in-Some-2.texts c.as_slice-2.result.now c.in-Some.is c.in_ok-aim.ensures
    c.in-Some-ordered_list.ensures c.as_slice-level.ensures c.as_slice.ensures c.in-Some-2.is c.in_ok-texts.ensures c.as_slice-2.ensures c.only_entry.ensures
