-- The rows of a configuration, as they are read back.
use Rattle.std.proofs.Common.{ℕ, List, Option, Some, None, ap, ◌∙◌}
use Rattle.std.specs.Prelude.{IfSome, Ok}
use Rattle.std.specs.List.{All, slice_index_or}
use Rattle.nc_names.specs.declared.path.Row.{Row}
use Rattle.nc_schema.specs.Configuration.{HasCanonicalValue}
use Rattle.nc_schema.specs.Proper.{IsProperSchema}
use Rattle.nc_schema.specs.Tables.{Tables}
use Rattle.nc_schema.specs.Values.{IsCanonical}
use Rattle.nc_schema.proofs.ProperLemmas.{proper_nodes}
use Rattle.nc_protocol.specs.Payload.{if_read, reading_of, rows_merged}
use Rattle.nc_print.proofs.CanonicalBack.{canonical_again}
use Rattle.nc_print.proofs.ConfigBack.{printed_is_merges}
use Rattle.nc_print.proofs.LevelLast as last
use Rattle.nc_print.specs.Laws.{AreReadAsThemselves, CanonicalIsReadAsItself, IsReadAsItself, MergesLeaveRows, PrintedRowsAreReadBack}

pub canonical_is_read_as_itself : CanonicalIsReadAsItself
canonical_is_read_as_itself tables number text schema canonical = canonical_again tables schema number text canonical

-- so are the values of all rows
rows_are_read : (tables : Tables) (rows : List Row) → IsProperSchema tables → All (HasCanonicalValue tables) rows → AreReadAsThemselves (reading_of tables) rows
rows_are_read tables rows schema canonical k d within above step node leads = by (slice_index_or rows k d).value (canonical k d within above step node leads)
  where
    by : (o : Option (List ℕ)) → IfSome o (IsCanonical tables step.node) → IfSome o (IsReadAsItself (reading_of tables) step.node)
    by None none = tt
    by (Some text) is = canonical_again tables schema step.node text is

pub merges_leave_rows : MergesLeaveRows
merges_leave_rows tables rows schema tree = last.merges_leave_rows tables (proper_nodes tables schema) rows tree

pub printed_rows_are_read_back : PrintedRowsAreReadBack
printed_rows_are_read_back tables rows config schema configuration parts_are =
    ap (if_read (rows_merged tables)) (printed_is_merges (reading_of tables) rows config schema configuration.tree (rows_are_read tables rows schema configuration.canonical) parts_are)
    ∙ ap Ok (merges_leave_rows tables rows schema configuration.tree)
