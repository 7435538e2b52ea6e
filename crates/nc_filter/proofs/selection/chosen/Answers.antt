use Rattle.std.proofs.Common.{◌∙◌, ◌∷◌, ◌++◌, [], List, ap, subst}
use Rattle.std.specs.Prelude.{map}
use Rattle.std.specs.List.{list_any}
use Rattle.nc_message.specs.declared.tree.Elem.{Elem}
use Rattle.nc_names.specs.declared.path.Row.{Row}
use Rattle.nc_filter.specs.inner.Picks.{Adds, within}
use Rattle.nc_filter.proofs.WalkLemmas.{chosen_done}
use Rattle.nc_filter.proofs.selection.chosen.Goals as goal

pub returns : goal.returns
returns c = λ index test.
    let rows : List Row = map (λ row. row.now) c.args.rows.now in
    let found : List Row = map (λ row. row.now) c.in_ok-found.found in
    chosen_done c.args.basis.now.schema.now rows found c.args.filter.now
    (subst (λ (before : List Row). Adds before found (λ row. list_any (within c.args.basis.now.schema.now rows 0 row) (c.args.filter.now ∷ [])) rows)
    (ap (map (λ row. row.now)) c.new-none.ensures)
    (subst (λ (elems : List Elem). Adds (map (λ row. row.now) c.new-none.result) found (λ row. list_any (within c.args.basis.now.schema.now rows 0 row) elems) rows)
    (ap (map (λ elem. elem.now)) (c.as_slice-top.ensures ∙ c.in_ok-push.ensures.ok ∙ ap (λ elems. elems ++ c.args.filter ∷ []) c.new-elems.ensures))
    (c.in_ok-found.ensures rows index))) test
