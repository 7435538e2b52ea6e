-- An identifier.
use Rattle.std.proofs.Common.{sym, ◌∙◌}
use Rattle.nc_names.specs.Signs.{is_in_identifier}
use Rattle.nc_names.proofs.EndLemmas.{cut_after, past_at}
use Rattle.nc_paths.proofs.CutLemmas.{identifier_is, leading_at, name_low}
use Rattle.nc_paths.proofs.cut.identifier.Goals as goal

pub split_at-requires : goal.split_at-requires
split_at-requires c =
    cut_after is_in_identifier c.args.text.now c.as_bytes.result.now c.count_identifier-count.result name_low
    c.count_identifier-count.ensures c.as_bytes.ensures.value c.as_bytes.ensures.utf8

pub returns-then-begins_name : goal.returns-then-begins_name
returns-then-begins_name c =
    let text = c.args.text.now in
    let bytes = c.as_bytes.result.now in
    let count = c.count_identifier-count.result in
    identifier_is text c.split_at.result.0.now c.split_at.result.1.now (sym c.begins_name.ensures ∙ c.if-begins_name.true)
    (leading_at is_in_identifier text bytes c.split_at.result.0.now count c.split_at.ensures.front c.count_identifier-count.ensures c.as_bytes.ensures.value)
    (past_at is_in_identifier text bytes c.split_at.result.1.now count c.split_at.ensures.back c.count_identifier-count.ensures c.as_bytes.ensures.value)
