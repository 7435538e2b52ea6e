use Rattle.std.proofs.Common.{◌∙◌, ◌||◌, sym}
use Rattle.nc_protocol.specs.Payload.{config_edits, reading_of, rows_merged}
use Rattle.nc_protocol.specs.declared.position.Under.TheVariants.{Inline}
use Rattle.nc_payload.specs.Names.{is_named}
use Rattle.nc_payload.proofs.PlacesLemmas.{same_fault}
use Rattle.nc_payload.proofs.payload_paths.of_rows.Goals as goal

pub returns : goal.returns
unfolding is_named
returns c =
    let read = config_edits (reading_of c.args.schema.now) Inline c.args.config.now in
    λ path i. c.in_ok-places.ensures path i
    || (c.in_ok-fault.ensures read c.config_edits-read.ensures path ∙ sym (same_fault (rows_merged c.args.schema.now) read path)) i
