-- The nodes before.
use Rattle.std.proofs.Common.{◌≡◌, map, take}
use Rattle.nc_schema.specs.Tables.{no_tables}
use Rattle.nc_yang_data.specs.Drafts.{draft_at}
use Rattle.nc_yang_data.proofs.drafts.add_drafts.Given as goal

abbrev pub invariant-loop-planned : goal.invariant-loop-planned
invariant-loop-planned l =
    l.schema ≡ record no_tables { nodes = map (draft_at l.scopes) (take l.planned-index l.planned-items) }
