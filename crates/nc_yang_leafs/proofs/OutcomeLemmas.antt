-- The defaults of a schema are canonical in it.
use Rattle.std.proofs.Common.{◌≡◌, ◌<◌, ℕ, suc, List, [], ◌∷◌, length, map, refl, sym, ap, ◌∙◌, subst, arith}
use Rattle.std.specs.Prelude.{Option, Some, None, IsSome, slice_get}
use Rattle.std.specs.List.{All}
use Rattle.nc_names.specs.declared.name.Bound.{Bound}
use Rattle.nc_schema.specs.declared.node.Node.{Node}
use Rattle.nc_schema.specs.Tables.{Tables}
use Rattle.nc_schema.specs.Values.{IsCanonical, canonical}
use Rattle.nc_yang_scopes.specs.Scopes.{Located, Scoping}
use Rattle.nc_yang_scopes.proofs.Lists.{get_within}
use Rattle.nc_yang_nodes.specs.declared.planned.Plan.{Plan}
use Rattle.nc_yang_nodes.specs.Plans.{statement_of}
use Rattle.nc_yang_leafs.specs.Defaults.{HasDefaults}
use Rattle.nc_yang_leafs.specs.Typed.{IsTyped}
use Rattle.nc_yang_leafs.specs.inner.Reading.{defined}
use Rattle.nc_yang_leafs.proofs.BareLemmas.{bare, bare_tables, canonical_same}
use Rattle.nc_yang_leafs.proofs.LawLemmas.{are_canonical}
use Rattle.nc_yang_leafs.proofs.ListLemmas.{get_there}

lists_alike : (xs ys : List Node) → length xs ≡ length ys → ((i : ℕ) (x y : Node) → slice_get xs i ≡ Some x → slice_get ys i ≡ Some y → bare x ≡ bare y) → map bare xs ≡ map bare ys
lists_alike [] [] long alike = refl
lists_alike [] (y ∷ ys) long alike = absurd (omega (arith, long))
lists_alike (x ∷ xs) [] long alike = absurd (omega (arith, long))
lists_alike (x ∷ xs) (y ∷ ys) long alike =
    let rest = lists_alike xs ys (omega (arith, long)) (λ n. alike (suc n)) in
    let first = alike 0 x y refl refl in
    λ i. first i ∷ rest i

module _ (scoping : Scoping) (plan : Plan) (typed tables : Tables) (is : IsTyped scoping plan typed) (has : HasDefaults scoping plan typed tables) where
  -- the statement of a data node
  pub stated : (number : ℕ) → number < length typed.nodes → (l : Located) × (statement_of scoping plan number ≡ Some l)
  stated number less = by (statement_of scoping plan number) refl (is.stated number (omega (arith, less, is.counted)))
    where
      by : (o : Option Located) → statement_of scoping plan number ≡ o → IsSome o → (l : Located) × (statement_of scoping plan number ≡ Some l)
      by None none some = absurd (cc)
      by (Some l) there some = (l, there)

  nodes_alike : (number : ℕ) (x y : Node) → slice_get tables.nodes number ≡ Some x → slice_get typed.nodes number ≡ Some y → bare x ≡ bare y
  nodes_alike number x y at from =
      let s = stated number (get_within typed.nodes number y from) in
      let h = has.nodes (defined number y s.0) (from, s.1) in
      let same : x ≡ record y { defaults = h.values } = (let e : Some x ≡ Some (record y { defaults = h.values }) = sym at ∙ h.there in cc) in
      ap bare same

  tables_alike : bare_tables tables ≡ bare_tables typed
  tables_alike =
      let nodes = lists_alike tables.nodes typed.nodes has.counted nodes_alike in
      λ i. record { nodes = nodes i; choices = has.choices i; types = has.types i; modules = has.modules i; patterns = has.patterns i }

  -- its defaults change no value
  pub canonical_kept : (number : ℕ) (text : List ℕ) (bounds : List Bound) → canonical tables number text bounds ≡ canonical typed number text bounds
  canonical_kept number text bounds =
      sym (canonical_same tables number text bounds) ∙ ap (λ z. canonical z number text bounds) tables_alike ∙ canonical_same typed number text bounds

  pub outcome_canonical : (number : ℕ) (node : Node) → slice_get tables.nodes number ≡ Some node → All (IsCanonical tables number) node.defaults
  outcome_canonical number node at =
      let less : number < length typed.nodes = subst (λ n. number < n) has.counted (get_within tables.nodes number node at) in
      let from = get_there typed.nodes number less in
      let s = stated number less in
      let d = defined number from.0 s.0 in
      let h = has.nodes d (from.1, s.1) in
      let same : node ≡ record from.0 { defaults = h.values } = (let e : Some node ≡ Some (record from.0 { defaults = h.values }) = sym at ∙ h.there in cc) in
      let all = are_canonical scoping.texts typed d h.values h.are in
      subst (λ z. All (IsCanonical tables number) z) (sym (ap (λ (z : Node). z.defaults) same)) (λ k x within.
      let one = all k x within in
      (one.0, one.1, sym (canonical_same tables number one.0 one.1) ∙ ap (λ z. canonical z number one.0 one.1) tables_alike ∙ canonical_same typed number one.0 one.1 ∙ one.2))
