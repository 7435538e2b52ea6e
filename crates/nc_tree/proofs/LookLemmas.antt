-- What stands above a path and beside it.
use Rattle.std.proofs.Common.{◌≡◌, ◌||◌, ◌++◌, Bool, true, false, List, [], ◌∷◌, Option, Some, None, map, refl, sym, ap, ◌∙◌}
use Rattle.std.proofs.lemmas.List.{append_assoc, append-nil}
use Rattle.std.specs.Prelude.{cond, is_some}
use Rattle.std.specs.List.{last_or, list_any}
use Rattle.std.specs.Option.{option_map_or}
use Rattle.nc_names.specs.declared.path.Row.{Row}
use Rattle.nc_names.specs.declared.path.Step.{Step}
use Rattle.nc_names.specs.Same.{is_same_path}
use Rattle.nc_schema.specs.Blocks.{above_from, above_last, entries_beside, row_at}
use Rattle.nc_schema.specs.Standing.{above_of, entries, has_row, lacks_above}
use Rattle.nc_schema.specs.Tables.{Tables}
use Rattle.nc_tree.specs.inner.Lacking.{lacks, lacks_from}

any_map : {A B : Type 0} (p : B → Bool) (f : A → B) (xs : List A) → list_any p (map f xs) ≡ list_any (λ x. p (f x)) xs
any_map p f [] = refl
any_map p f (x ∷ xs) = ap (λ b. p (f x) || b) (any_map p f xs)

from_is : (tables : Tables) (rows : List Row) (above steps : List Step) → list_any (λ over. lacks tables rows (above ++ over)) (above_of steps) ≡ lacks_from tables rows above steps
from_is tables rows above [] = refl
from_is tables rows above (step ∷ rest) =
    ap (λ ss. lacks tables rows ss || list_any (λ over. lacks tables rows (above ++ over)) (map (λ over. step ∷ over) (above_of rest))) (append-nil above)
    ∙ ap (λ b. lacks tables rows above || b) (any_map (λ over. lacks tables rows (above ++ over)) (λ over. step ∷ over) (above_of rest)
    ∙ (λ i. list_any (λ over. lacks tables rows (sym (append_assoc above (step ∷ []) over) i)) (above_of rest)) ∙ from_is tables rows (above ++ step ∷ []) rest)

pub lacks_is : (tables : Tables) (rows : List Row) (steps : List Step) → lacks_above tables rows steps ≡ lacks_from tables rows [] steps
unfolding lacks
lacks_is tables rows steps = from_is tables rows [] steps

last_push : {X : Type 0} (o : Option X) (xs : List X) (x : X) → last_or o (xs ++ x ∷ []) ≡ Some x
last_push o [] x = refl
last_push o (y ∷ xs) x = last_push (Some y) xs x

above_last_is : (above : List Step) (step : Step) → above_last (above ++ step ∷ []) ≡ above
above_last_is [] step = refl
above_last_is (over ∷ above) step = from over above
  where
    from : (first : Step) (more : List Step) → above_from first (more ++ step ∷ []) ≡ first ∷ more
    from first [] = refl
    from first (next ∷ more) = ap (λ ss. first ∷ ss) (from next more)

-- the entries beside an entry, by the steps above it
pub beside_is : (rows : List Row) (steps above : List Step) (step : Step) → steps ≡ above ++ step ∷ [] → entries rows above step.node ≡ entries_beside rows steps
beside_is rows steps above step is =
    sym (ap (entries_beside rows) is ∙ ap (λ o. option_map_or (λ s. entries rows (above_last (above ++ step ∷ [])) s.node) o []) (last_push None above step)
    ∙ ap (λ ss. entries rows ss step.node) (above_last_is above step))

pub has_is : (rows : List Row) (steps : List Step) → is_some (row_at rows steps) ≡ has_row rows steps
has_is [] steps = refl
has_is (row ∷ rows) steps = by (is_same_path row.path.steps steps) (has_is rows steps)
  where
    by : (b : Bool) → is_some (row_at rows steps) ≡ has_row rows steps → is_some (cond b (Some row) (row_at rows steps)) ≡ (b || has_row rows steps)
    by true same = refl
    by false same = same

pub has_some : (rows : List Row) (steps : List Step) (row : Row) → row_at rows steps ≡ Some row → true ≡ has_row rows steps
has_some rows steps row is = ap is_some (sym is) ∙ has_is rows steps

pub has_none : (rows : List Row) (steps : List Step) → row_at rows steps ≡ None → false ≡ has_row rows steps
has_none rows steps is = ap is_some (sym is) ∙ has_is rows steps
