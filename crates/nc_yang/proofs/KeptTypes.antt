-- Defaults change no type of a data node.
use Rattle.std.proofs.Common.{◌≡◌, ℕ, cond, refl, sym, ap, ◌∙◌, arith}
use Rattle.std.specs.Prelude.{Option, Some, None, option_and_then, slice_get}
use Rattle.std.proofs.lemmas.Option.{slice_get_past, slice_get_within}
use Rattle.nc_schema.specs.Kinds.{has_value}
use Rattle.nc_schema.specs.Tables.{Tables}
use Rattle.nc_schema.specs.Values.{type_of}
use Rattle.nc_schema.specs.declared.node.Node.{Node}
use Rattle.nc_yang_order.proofs.Lists.{get_none}
use Rattle.nc_yang_scopes.specs.Scopes.{Scoping}
use Rattle.nc_yang_nodes.specs.declared.planned.Plan.{Plan}
use Rattle.nc_yang_leafs.specs.Defaults.{HasDefaults}
use Rattle.nc_yang_leafs.specs.Sources.{Defined}
use Rattle.nc_yang_leafs.specs.Typed.{IsTyped as IsReady}
use Rattle.nc_yang_leafs.proofs.OutcomeLemmas.{stated}
use Rattle.nc_yang.specs.Laws.{reference_at, reference_in}

module _ (scoping : Scoping) (plan : Plan) (typed tables : Tables) (is : IsReady scoping plan typed) (has : HasDefaults scoping plan typed tables) where
  abbrev kind_in : Option Node → Option ℕ
  kind_in o = option_and_then (λ (node : Node). cond (has_value node.kind) (Some node.kind_of_value) None) o

  type_kept : (n : ℕ) → type_of tables n ≡ type_of typed n
  type_kept n = by (slice_get typed.nodes n) refl
    where
      by : (o : Option Node) → slice_get typed.nodes n ≡ o → type_of tables n ≡ type_of typed n
      by None gone =
          let past = get_none typed.nodes n gone in
          let many = has.counted in
          ap kind_in (slice_get_past tables.nodes n (omega (arith, past, many))) ∙ sym (ap kind_in gone)
      by (Some node) there =
          let s = stated scoping plan typed tables is has n (slice_get_within typed.nodes n node there) in
          let d : Defined = record { number = n; node = node; statement = s.0 } in
          let h = has.nodes d (there, s.1) in
          ap kind_in h.there ∙ sym (ap kind_in there)

  pub reference_kept : (n : ℕ) → reference_at tables n ≡ reference_at typed n
  reference_kept n = λ i. option_and_then reference_in (option_and_then (slice_get (has.types i)) (type_kept n i))
