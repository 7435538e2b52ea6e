use Rattle.std.proofs.Common.{sym}
use Rattle.nc_payload.proofs.EarlierLemmas.{no_cases}
use Rattle.nc_payload.proofs.earlier.has_other_case_among.Goals as goal

pub returns-then-is_empty : goal.returns-then-is_empty
returns-then-is_empty c = sym (no_cases c.args.schema.now c.args.node.now.cases c.args.few.now (c.is_empty.ensures.0 c.if-is_empty.true))
