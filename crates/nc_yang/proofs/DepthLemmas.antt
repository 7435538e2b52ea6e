-- Marks of the types that ask others, one after another.
use Rattle.std.proofs.Common.{inl, inr, ◌≡◌, ◌⊎◌, ◌<◌, ◌≤◌, ◌+◌, ℕ, zero, suc, Bool, true, false, cond, List, [], ◌∷◌, length, map, replicate, refl, ap, subst, ◌∙◌, arith}
use Rattle.std.specs.Prelude.{Some, None, slice_get, is_some, option_and_then, option_map}
use Rattle.std.specs.List.{list_any}
use Rattle.std.specs.Option.{option_map_or}
use Rattle.std.proofs.lemmas.Bool.{cases_lt}
use Rattle.std.proofs.lemmas.Option.{slice_get_past}
use Rattle.nc_schema.specs.Tables.{Tables}
use Rattle.nc_schema.specs.Kinds.{has_value}
use Rattle.nc_schema.specs.declared.node.Node.{Node}
use Rattle.nc_yang_scopes.specs.Scopes.{Scoping}
use Rattle.nc_yang_nodes.specs.declared.planned.Plan.{Plan}
use Rattle.nc_yang_leafs.specs.Bases.{type_of}
use Rattle.nc_yang.specs.Depths.{KeepsDepth, asked_of, asks_too_many, depth_fault, leads_through, too_many_at}
use Rattle.nc_yang.specs.inner.Marked.{AreDeep, is_marked}

marked_all : {A : Type 0} (xs : List A) (number : ℕ) → is_marked (replicate (length xs) true) number ≡ is_some (slice_get xs number)
marked_all [] number = refl
marked_all (x ∷ xs) zero = refl
marked_all (x ∷ xs) (suc number) = marked_all xs number

marked_map : {A : Type 0} (f : A → Bool) (xs : List A) (number : ℕ) → is_marked (map f xs) number ≡ option_map_or f (slice_get xs number) false
marked_map f [] number = refl
marked_map f (x ∷ xs) zero = refl
marked_map f (x ∷ xs) (suc number) = marked_map f xs number

module _ (tables : Tables) where
  pub deep_at_first : AreDeep tables 0 (replicate (length tables.types) true)
  unfolding leads_through
  deep_at_first number = marked_all tables.types number

  deep_after : (more : ℕ) (marks : List Bool) → AreDeep tables more marks → AreDeep tables (suc more) (map (λ found. list_any (is_marked marks) (asked_of tables found)) tables.types)
  unfolding leads_through
  deep_after more marks are number =
      marked_map (λ found. list_any (is_marked marks) (asked_of tables found)) tables.types number
      ∙ (λ i. option_map_or (λ found. list_any (λ n. are n i) (asked_of tables found)) (slice_get tables.types number) false)

  pub deep_next : (more : ℕ) (marks : List Bool) → AreDeep tables more marks → AreDeep tables (more + 1) (map (λ found. list_any (is_marked marks) (asked_of tables found)) tables.types)
  deep_next more marks are =
      let same : suc more ≡ more + 1 = omega arith in
      subst (λ k. AreDeep tables k (map (λ found. list_any (is_marked marks) (asked_of tables found)) tables.types)) same (deep_after more marks are)

-- ---- faults of data nodes
module _ (scoping : Scoping) (plan : Plan) (tables : Tables) where
  abbrev NoneBefore : ℕ → Type 0
  NoneBefore number = (before : ℕ) → before < number → depth_fault scoping plan tables before ≡ None

  pub none_more : (number : ℕ) → depth_fault scoping plan tables number ≡ None → NoneBefore number → NoneBefore (number + 1)
  none_more number none so_far before less = by (cases_lt before number)
    where
      by : (before < number) ⊎ (number ≤ before) → depth_fault scoping plan tables before ≡ None
      by (inl earlier) = so_far before earlier
      by (inr now) = let same : number ≡ before = omega arith in subst (λ n. depth_fault scoping plan tables n ≡ None) same none

  past : (number : ℕ) → length tables.nodes ≤ number → depth_fault scoping plan tables number ≡ None
  past number le =
      ap (λ o. cond (option_map_or (asks_too_many tables) (option_and_then (λ (node : Node). cond (has_value node.kind) (Some node.kind_of_value) None) o) false)
      (option_map too_many_at (type_of scoping plan number)) None) (slice_get_past tables.nodes number le)

  pub none_at_all : (count : ℕ) → length tables.nodes ≤ count → NoneBefore count → KeepsDepth scoping plan tables
  none_at_all count le so_far number = by (cases_lt number count)
    where
      by : (number < count) ⊎ (count ≤ number) → depth_fault scoping plan tables number ≡ None
      by (inl earlier) = so_far number earlier
      by (inr after) = past number (omega (arith, le, after))
