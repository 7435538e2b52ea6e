-- Modules have one schema, but for the numbers of its types.
use Rattle.std.proofs.Common.{◌≡◌, ℕ, List, sym, subst, ◌∙◌}
use Rattle.nc_schema.specs.Tables.{Tables}
use Rattle.nc_yang_scopes.specs.Scopes.{Scoping}
use Rattle.nc_yang_scopes.proofs.Scopings.{one_scoping}
use Rattle.nc_yang.specs.Rules.{KeepsTexts}
use Rattle.nc_yang.specs.declared.text.ModuleText.{ModuleText}
use Rattle.nc_yang_nodes.specs.Plans.{IsPlan}
use Rattle.nc_yang_nodes.specs.Roles.{FeatureTest}
use Rattle.nc_yang_nodes.specs.declared.planned.Plan.{Plan}
use Rattle.nc_yang_nodes.proofs.Alike.{plans_alike}
use Rattle.nc_yang_data.specs.Data.{data_tables}
use Rattle.nc_yang_data.proofs.AlikeLemmas.{tables_alike}
use Rattle.nc_yang_types.specs.Faults.{KeepsTypes}
use Rattle.nc_yang_leafs.specs.Bases.{AllMeanWhole}
use Rattle.nc_yang_leafs.specs.Conditions.{holds}
use Rattle.nc_yang_leafs.specs.Typings.{IsTyped, NameEach}
use Rattle.nc_yang_leafs.proofs.AlikeLemmas.{outcomes_alike}
use Rattle.nc_yang_leafs.proofs.OutcomeLemmas.{canonical_kept}
use Rattle.nc_yang.specs.Features.{is_given}
use Rattle.nc_yang.specs.Laws.{AreOneSchema, OneSchema}
use Rattle.nc_yang.specs.Schemas.{AreNames, Defines, GivesSchema, IsBegun, IsSchemaOf, basis}
use Rattle.nc_yang.proofs.DataTypes.{data_types_mean}
use Rattle.nc_yang.proofs.LeafTypes.{pair_at}
use Rattle.nc_yang.proofs.KeptTypes.{reference_kept}
use Rattle.nc_yang.proofs.Never.{each_agree, one_on, references_same, texts_same, values_same}
use Rattle.nc_yang.proofs.Reading.{have_one_way}
use Rattle.nc_yang.proofs.ReadyLemmas.{is_ready}
use Rattle.nc_yang.proofs.SamePlans.{defaults_here, typed_here}

module _ (scoping : Scoping) (on : FeatureTest) (keeps : KeepsTexts scoping.texts) (types : KeepsTypes (holds scoping.texts on) scoping.texts)
    (plan other : Plan) (planned : IsPlan scoping on plan) (also : IsPlan scoping on other) where
  whole : AllMeanWhole (basis scoping on plan)
  whole = data_types_mean (holds scoping.texts on) scoping on plan keeps types planned

  plans_give_one : (one two : Tables) → IsSchemaOf scoping on plan one → IsSchemaOf scoping on other two → AreOneSchema one two
  plans_give_one one two s z =
      let alike = plans_alike scoping on plan other planned also in
      let given_same : data_tables scoping on other ≡ data_tables scoping on plan = sym (tables_alike scoping on plan other alike) in
      let here : IsTyped (AreNames scoping on) (basis scoping on plan) z.typed =
      typed_here scoping plan other alike (holds scoping.texts on) (data_tables scoping on plan) (AreNames scoping on) (NameEach z.typed.patterns) z.typed
      (subst (λ g. IsTyped (AreNames scoping on) (record { on = holds scoping.texts on; scoping = scoping; plan = other; given = g }) z.typed) given_same z.is.bare.types) in
      let well = defaults_here scoping plan other alike z.typed two z.defaults in
      let ready = is_ready scoping on plan planned (AreNames scoping on) (NameEach s.typed.patterns) s.typed s.is.bare.types whole in
      let also_ready = is_ready scoping on plan planned (AreNames scoping on) (NameEach z.typed.patterns) z.typed here whole in
      record {
        modules = s.defaults.modules ∙ s.is.bare.types.modules ∙ sym here.modules ∙ sym well.modules;
        choices = s.defaults.choices ∙ s.is.bare.types.choices ∙ sym here.choices ∙ sym well.choices;
        nodes =
            outcomes_alike scoping plan s.typed z.typed one two ready also_ready s.defaults well
            (values_same scoping on plan (data_tables scoping on plan) whole s.typed z.typed (NameEach s.typed.patterns) (NameEach z.typed.patterns) s.is.bare.types here (each_agree s.typed.patterns z.typed.patterns) s.is.bare.straight)
            (pair_at (AreNames scoping on) (NameEach s.typed.patterns) (NameEach z.typed.patterns) (basis scoping on plan) s.typed z.typed s.is.bare.types here);
        values = λ number text bounds.
            canonical_kept scoping plan s.typed one ready s.defaults number text bounds
            ∙ texts_same scoping on plan (data_tables scoping on plan) whole s.typed z.typed (NameEach s.typed.patterns) (NameEach z.typed.patterns) s.is.bare.types here (each_agree s.typed.patterns z.typed.patterns) s.is.bare.straight number text bounds
            ∙ sym (canonical_kept scoping plan z.typed two also_ready well number text bounds);
        references = λ number.
            reference_kept scoping plan s.typed one ready s.defaults number
            ∙ references_same scoping on plan (data_tables scoping on plan) whole s.typed z.typed (NameEach s.typed.patterns) (NameEach z.typed.patterns) s.is.bare.types here (each_agree s.typed.patterns z.typed.patterns) number
            ∙ sym (reference_kept scoping plan z.typed two also_ready well number);
      }

module _ (modules : List ModuleText) (lines : List (List ℕ)) (one other : Tables) (d : Defines modules lines one) where
  on_one : (on : FeatureTest) → IsBegun modules lines d.scoping on → GivesSchema d.scoping on other → AreOneSchema one other
  on_one on begun gives =
      let same = one_on d.scoping (is_given d.scoping.texts lines) on d.on begun.features d.begun.features in
      let g = subst (λ z. GivesSchema d.scoping z other) same gives in
      plans_give_one d.scoping d.on d.begun.keeps d.gives.types d.gives.plan g.plan d.gives.planned g.planned one other d.gives.is g.is

  on_scoping : (scoping : Scoping) (on : FeatureTest) → scoping ≡ d.scoping → IsBegun modules lines scoping on → GivesSchema scoping on other → AreOneSchema one other
  on_scoping scoping on same begun gives =
      on_one on (subst (λ z. IsBegun modules lines z on) same begun) (subst (λ z. GivesSchema z on other) same gives)

pub one_schema : OneSchema
one_schema modules lines one other d e =
    on_scoping modules lines one other d e.scoping e.on
    (one_scoping e.scoping d.scoping e.begun.numbers d.begun.numbers (have_one_way modules e.scoping.texts d.scoping.texts e.begun.read d.begun.read)) e.begun e.gives
