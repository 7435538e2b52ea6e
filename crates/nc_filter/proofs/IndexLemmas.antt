-- The rows of an instance, with one more row.
use Rattle.std.proofs.Common.{◌≡◌, Bool, true, false, cond, List, [], ◌∷◌, ◌++◌, Some, None, refl, sym, ap, ◌∙◌, Bor}
use Rattle.std.specs.Prelude.{map}
use Rattle.std.specs.Option.{option_map_or}
use Rattle.std.specs.BTreeMap.{BTreeMap, get}
use Rattle.std.specs.Ordering.{is_eq}
use Rattle.std.proofs.lemmas.List.{append-nil}
use Rattle.std.proofs.lemmas.List.Elements.{filter-append}
use Rattle.nc_names.proofs.StepOrder.{order_ties, same_path}
use Rattle.nc_names.specs.Same.{is_same_path}
use Rattle.nc_names.specs.declared.path.Row.{Row}
use Rattle.nc_names.specs.declared.path.Step.{Step}
use Rattle.nc_schema.specs.Blocks.{above_last}
use Rattle.nc_filter.specs.inner.Levels.{children}
use Rattle.nc_filter.specs.inner.Tables.{IsIndex, in_table, order, without}

map_push : (rows : List (Bor Row)) (row : Bor Row) → map (λ row. row.now) (rows ++ row ∷ []) ≡ map (λ row. row.now) rows ++ row.now ∷ []
map_push [] row = refl
map_push (one ∷ rows) row = ap (λ more. one.now ∷ more) (map_push rows row)

module _ (table left now : BTreeMap (Bor (List Step)) (List (Bor Row))) (key : Bor (List Step)) (row : Bor Row) (rows : List Row) where
  pub one_more_indexed : IsIndex table rows → key.now ≡ above_last row.now.path.steps → without key table left →
      ((other : Bor (List Step)) → get order now other ≡ cond (is_eq (order key other)) (Some (in_table table key ++ row ∷ [])) (get order left other)) →
      IsIndex now (rows ++ row.now ∷ [])
  one_more_indexed index key_is taken put other = by (is_same_path key.now other.now) refl
    where
      looked : (b : Bool) → is_same_path key.now other.now ≡ b → get order now other ≡ cond b (Some (in_table table key ++ row ∷ [])) (cond b None (get order table other))
      looked b e =
          let is : is_eq (order key other) ≡ b = order_ties key.now other.now ∙ e in
          put other ∙ (λ i. cond (is i) (Some (in_table table key ++ row ∷ [])) (get order left other)) ∙ ap (λ o. cond b (Some (in_table table key ++ row ∷ [])) o)
          (taken other ∙ (λ i. cond (is i) None (get order table other)))

      more : (b : Bool) → is_same_path key.now other.now ≡ b → children (rows ++ row.now ∷ []) other.now ≡ children rows other.now ++ cond b (row.now ∷ []) []
      more b e =
          filter-append (λ (row : Row). is_same_path (above_last row.path.steps) other.now) rows (row.now ∷ [])
          ∙ ap (λ c. children rows other.now ++ cond c (row.now ∷ []) []) (ap (λ steps. is_same_path steps other.now) (sym key_is) ∙ e)

      by : (b : Bool) → is_same_path key.now other.now ≡ b → map (λ row. row.now) (in_table now other) ≡ children (rows ++ row.now ∷ []) other.now
      by true e =
          ap (λ o. map (λ row. row.now) (option_map_or (λ inside. inside) o [])) (looked true e)
          ∙ map_push (in_table table key) row ∙ ap (λ inside. inside ++ row.now ∷ []) (index key ∙ ap (children rows) (same_path key.now other.now e))
          ∙ sym (more true e)
      by false e =
          ap (λ o. map (λ row. row.now) (option_map_or (λ inside. inside) o [])) (looked false e) ∙ index other
          ∙ sym (more false e ∙ append-nil (children rows other.now))
