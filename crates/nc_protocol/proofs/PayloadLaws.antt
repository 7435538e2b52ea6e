-- What follows of the edits of a payload, by the types of the schema.
use Rattle.std.proofs.Common.{◌≡◌, List}
use Rattle.std.specs.List.{All}
use Rattle.std.specs.Prelude.{Ok}
use Rattle.nc_message.specs.declared.tree.Elem.{Elem}
use Rattle.nc_schema.specs.Configuration.{IsConfiguration}
use Rattle.nc_schema.proofs.ProperLemmas.{proper_nodes}
use Rattle.nc_schema.specs.Proper.{IsProperSchema}
use Rattle.nc_schema.specs.Tables.{Tables}
use Rattle.nc_protocol.specs.Laws.{PayloadFits, PayloadKeepsConfiguration, InlineIsConfiguration}
use Rattle.nc_protocol.specs.Payload.{edits_of, reading_of}
use Rattle.nc_protocol.specs.ProperEdit.{IsProperEdit, IsReadEdit}
use Rattle.nc_protocol.specs.declared.asked.Default3.{Default3}
use Rattle.nc_protocol.specs.declared.edit.Edit.{Edit}
use Rattle.nc_protocol.proofs.CanonicalLemmas.{edit_keeps_values}
use Rattle.nc_protocol.proofs.EditLemmas.{edit_keeps_tree, applied_keeps}
use Rattle.nc_protocol.proofs.PayloadFits.{payload_is_good, rows_are_good}

pub payload_fits : PayloadFits
payload_fits tables default_operation config edits proper is k d within =
    let good = payload_is_good (reading_of tables) default_operation config edits (proper_nodes tables proper) is k d within in
    record { fits = good.fits; brings = good.brings }

pub payload_edits_fit : (tables : Tables) (default_operation : Default3) (config : Elem) (edits : List Edit) →
    IsProperSchema tables → edits_of tables default_operation config ≡ Ok edits → All (IsProperEdit tables) edits
payload_edits_fit tables default_operation config edits proper is k d within = (payload_fits tables default_operation config edits proper is k d within).fits

pub payload_keeps_configuration : PayloadKeepsConfiguration
payload_keeps_configuration tables rights on_error default_operation config rows edits proper configuration is =
    applied_keeps tables rights (IsConfiguration tables) (IsReadEdit tables)
    (λ before left edit holds read made. record {
      tree = edit_keeps_tree tables rights before left edit proper holds.tree read.fits made;
      canonical = edit_keeps_values tables rights before left edit holds.canonical read.brings made;
    })
    on_error rows edits configuration (payload_fits tables default_operation config edits proper is)

pub inline_is_configuration : InlineIsConfiguration
inline_is_configuration tables config rows proper is =
    let good = rows_are_good (reading_of tables) config rows (proper_nodes tables proper) is in
    record { tree = good.0; canonical = good.1 }
