use Rattle.std.proofs.Common.{◌∙◌, List, ap, sym, Bor}
use Rattle.std.specs.List.{filter}
use Rattle.nc_names.specs.declared.path.Row.{Row}
use Rattle.nc_protocol.specs.Changes.{is_missing, is_updated, paths_of}
use Rattle.nc_changes.specs.inner.Common.{rows_of}
use Rattle.nc_changes.proofs.CommonLemmas.{parts_found}
use Rattle.nc_changes.proofs.CutLemmas.{cut_changes}
use Rattle.nc_changes.proofs.differ.changes_among.Goals as goal

pub returns : goal.returns
returns c =
    let parts =
    parts_found (rows_of c.args.old_rows.now) (rows_of c.args.new_rows.now) (rows_of c.front-above.result.now) (rows_of c.front-before.result.now)
    (rows_of c.front-after.result.now) (rows_of c.behind-gone.result.now) (rows_of c.behind-come.result.now) (rows_of c.behind-below.result.now)
    c.common_first-first.result c.before_last-left.result.0 c.before_last-left.result.1 c.common_first-first.ensures.same c.before_last-left.ensures
    c.front-above.ensures c.front-before.ensures c.front-after.ensures c.behind-gone.ensures c.behind-come.ensures c.behind-below.ensures in
    cut_changes c.args.schema.now c.args.old.now c.args.new.now (rows_of c.front-above.result.now) (rows_of c.behind-gone.result.now)
    (rows_of c.behind-come.result.now) (rows_of c.behind-below.result.now) (rows_of c.in_ok-asked.asked) c.in_ok-paths_missing.field-0
    c.in_ok-paths_updated.field-0 c.in_ok-paths_missing-2.field-0 (sym c.requires.old ∙ parts.0) (sym c.requires.new ∙ parts.1) c.in_ok-asked.ensures
    (c.in_ok-paths_missing.ensures ∙ ap (λ (rows : List Row). paths_of (filter (is_missing rows) (rows_of c.behind-come.result.now))) c.in_ok-stood.ensures)
    (c.in_ok-paths_updated.ensures
    ∙ ap (λ (rows : List (Bor Row)). paths_of (filter (is_updated c.args.schema.now c.args.old.now c.args.new.now) (rows_of rows))) c.as_slice.ensures)
    (c.in_ok-paths_missing-2.ensures ∙ ap (λ (rows : List Row). paths_of (filter (is_missing rows) (rows_of c.behind-gone.result.now))) c.in_ok-stand.ensures)

pub rows_asked-requires : goal.rows_asked-requires
rows_asked-requires c =
    sym c.requires.old
    ∙ (parts_found (rows_of c.args.old_rows.now) (rows_of c.args.new_rows.now) (rows_of c.front-above.result.now) (rows_of c.front-before.result.now)
    (rows_of c.front-after.result.now) (rows_of c.behind-gone.result.now) (rows_of c.behind-come.result.now) (rows_of c.behind-below.result.now)
    c.common_first-first.result c.before_last-left.result.0 c.before_last-left.result.1 c.common_first-first.ensures.same c.before_last-left.ensures
    c.front-above.ensures c.front-before.ensures c.front-after.ensures c.behind-gone.ensures c.behind-come.ensures c.behind-below.ensures).0
