use Rattle.std.proofs.Common.{◌∙◌, sym}
use Rattle.nc_filter.proofs.TableLemmas.{matched_value}
use Rattle.nc_filter.proofs.texts.is_matched.Goals as goal

pub returns : goal.returns
returns c = λ elems has.
    matched_value c.args.items.now elems c.args.depth c.args.row.now c.in_ok-has_text_of.field-0 has (sym c.if-not-ends.false ∙ c.ends.ensures) c.in_ok-has_text_of.ensures
