-- Rows of which no two have one path have one value at each path.
use Rattle.std.proofs.Common.{◌≡◌, ◌&&◌, ◌∙◌, Bool, true, false, List, [], ◌∷◌, ◌++◌, Option, Some, refl, sym, ap, subst}
use Rattle.std.specs.List.{list_all}
use Rattle.std.specs.Option.{option_map_or}
use Rattle.std.proofs.lemmas.List.{append_assoc}
use Rattle.nc_names.proofs.SameLemmas.{value_decide}
use Rattle.nc_names.specs.Same.{is_same_value}
use Rattle.nc_names.specs.declared.path.Row.{Row}
use Rattle.nc_schema.specs.Blocks.{row_at}
use Rattle.nc_changes.specs.Apart.{AreApart}
use Rattle.nc_changes.proofs.MarkLemmas.{found_once}
use Rattle.nc_edit.specs.inner.Single.{has_its_value}

one_apart : (all before rows : List Row) (row : Row) → all ≡ before ++ row ∷ rows → AreApart all → has_its_value all row ≡ true
one_apart all before rows row cut apart =
    ap (λ (found : Option Row). option_map_or (λ first. is_same_value first.value row.value) found false)
    (ap (λ (list : List Row). row_at list row.path.steps) cut ∙ found_once before rows row (subst AreApart cut apart))
    ∙ (value_decide row.value row.value).1 refl

each_apart : (all before rows : List Row) → all ≡ before ++ rows → AreApart all → list_all (has_its_value all) rows ≡ true
each_apart all before [] cut apart = refl
each_apart all before (row ∷ rows) cut apart =
    (λ i. one_apart all before rows row cut apart i && each_apart all (before ++ row ∷ []) rows (cut ∙ sym (append_assoc before (row ∷ []) rows)) apart i)

pub apart_all : (rows : List Row) → AreApart rows → list_all (has_its_value rows) rows ≡ true
apart_all rows apart = each_apart rows [] rows refl apart
