-- The cases of a plan's data nodes and choices.
use Rattle.std.proofs.Common.{◌≡◌, ◌++◌, ℕ, List, [], ◌∷◌, map, Option, Some, None, refl, sym, ap, subst, ◌∙◌, append_assoc}
use Rattle.std.specs.Prelude.{IsSomeAnd, option_map, slice_get}
use Rattle.std.specs.List.{All}
use Rattle.std.specs.Option.{option_map_or}
use Rattle.std.proofs.lemmas.List.{append-nil}
use Rattle.std.proofs.lemmas.List.Elements.{All-cons, All-head, All-nil, All-tail}
use Rattle.std.proofs.lemmas.Option.{slice_get-map}
use Rattle.nc_schema.specs.Proper.{AreNested}
use Rattle.nc_schema.specs.declared.node.Case.{Case}
use Rattle.nc_schema.specs.declared.node.Choice.{Choice}
use Rattle.nc_schema.specs.declared.node.Node.{Node}
use Rattle.nc_yang_scopes.specs.Scopes.{Located, Scoping}
use Rattle.nc_yang_nodes.specs.Plans.{AreCasesOf, IsCaseOf, IsSoundPlan}
use Rattle.nc_yang_nodes.specs.Roles.{FeatureTest}
use Rattle.nc_yang_nodes.specs.declared.planned.Plan.{Plan}
use Rattle.nc_yang_nodes.specs.declared.planned.Planned.{Planned}
use Rattle.nc_yang_nodes.specs.declared.planned.PlannedChoice.{PlannedChoice}
use Rattle.nc_yang_scopes.specs.Prefixes.{namespace_at}
use Rattle.nc_yang_data.specs.Drafts.{choice_at, choice_in, draft_in, unknown_choice, unknown_in}
use Rattle.nc_yang_data.proofs.Kept.{Known, all_at, parent_is, whole}

module _ (scoping : Scoping) (on : FeatureTest) (plan : Plan) where
  choice_place : (c : PlannedChoice) → ((choice_in scoping on c).parent ≡ c.parent) × ((choice_in scoping on c).within ≡ c.within)
  choice_place c = by (slice_get scoping.located c.statement)
    where
      by : (o : Option Located) →
          ((option_map_or (choice_at scoping.texts on c) o (unknown_choice c)).parent ≡ c.parent) × ((option_map_or (choice_at scoping.texts on c) o (unknown_choice c)).within ≡ c.within)
      by None = (refl, refl)
      by (Some l) = (refl, refl)

  case_of_whole : (parent : Option ℕ) (before : List Case) (one : Case) → IsCaseOf plan.choices parent before one →
      IsSomeAnd (slice_get (whole scoping on plan).choices one.choice) (λ (choice : Choice). (choice.parent ≡ parent) × (choice.within ≡ before))
  case_of_whole parent before one h =
      let at = slice_get-map (choice_in scoping on) plan.choices one.choice ∙ ap (option_map (choice_in scoping on)) h.is in
      let (stands, after) = choice_place h.choice in
      subst (λ o. IsSomeAnd o (λ (choice : Choice). (choice.parent ≡ parent) × (choice.within ≡ before))) (sym at) (stands ∙ h.stands, after ∙ h.after)

  nested : (parent : Option ℕ) (front cases : List Case) → AreCasesOf plan.choices parent front cases → (before after : List Case) (one : Case) →
      cases ≡ before ++ one ∷ after →
      IsSomeAnd (slice_get (whole scoping on plan).choices one.choice) (λ (choice : Choice). (choice.parent ≡ parent) × (choice.within ≡ front ++ before))
  nested parent front [] h [] after one e = absurd (cc)
  nested parent front [] h (b ∷ before) after one e = absurd (cc)
  nested parent front (k ∷ rest) h [] after one e =
      let same : k ≡ one = cc in
      subst (λ z. IsSomeAnd (slice_get (whole scoping on plan).choices one.choice) (λ (choice : Choice). (choice.parent ≡ parent) × (choice.within ≡ z))) (sym (append-nil front))
      (subst (λ (z : Case). IsSomeAnd (slice_get (whole scoping on plan).choices z.choice) (λ (choice : Choice). (choice.parent ≡ parent) × (choice.within ≡ front))) same
      (case_of_whole parent front k h.0))
  nested parent front (k ∷ rest) h (b ∷ before) after one e =
      let same : k ≡ b = cc in
      let more : rest ≡ before ++ one ∷ after = cc in
      subst (λ z. IsSomeAnd (slice_get (whole scoping on plan).choices one.choice) (λ (choice : Choice). (choice.parent ≡ parent) × (choice.within ≡ z)))
      (append_assoc front (k ∷ []) before ∙ ap (λ (z : Case). front ++ z ∷ before) same)
      (nested parent (front ++ k ∷ []) rest h.1 before after one more)

  are_nested : (parent : Option ℕ) (cases : List Case) → AreCasesOf plan.choices parent [] cases → AreNested (whole scoping on plan) parent cases
  are_nested parent cases h before after one e = nested parent [] cases h before after one e

  pub node_cases : (number : ℕ) (node : Node) → IsSoundPlan scoping plan → Known scoping on plan number node → AreNested (whole scoping on plan) node.parent node.cases
  node_cases number node sound k =
      let cases : node.cases ≡ k.p.cases =
      ap (λ (n : Node). n.cases) k.is
      ∙ ap (λ o. (option_map_or (λ (l : Located). draft_in (namespace_at scoping.texts k.p.module) k.p l.statement) o (unknown_in (namespace_at scoping.texts k.p.module) k.p)).cases) k.located in
      subst (λ o. AreNested (whole scoping on plan) o node.cases) (sym (parent_is scoping on plan number node k))
      (subst (AreNested (whole scoping on plan) k.p.parent) (sym cases)
      (are_nested k.p.parent k.p.cases (all_at (λ (n : Planned). AreCasesOf plan.choices n.parent [] n.cases) plan.nodes number k.p sound.cases k.planned)))

  outer : (cs : List PlannedChoice) → All (λ (c : PlannedChoice). AreCasesOf plan.choices c.parent [] c.within) cs →
      All (λ (choice : Choice). AreNested (whole scoping on plan) choice.parent choice.within) (map (choice_in scoping on) cs)
  outer [] h = All-nil (λ (choice : Choice). AreNested (whole scoping on plan) choice.parent choice.within)
  outer (c ∷ cs) h =
      let (stands, after) = choice_place c in
      All-cons (λ (choice : Choice). AreNested (whole scoping on plan) choice.parent choice.within) (choice_in scoping on c) (map (choice_in scoping on) cs)
      (subst (λ o. AreNested (whole scoping on plan) o (choice_in scoping on c).within) (sym stands)
      (subst (AreNested (whole scoping on plan) c.parent) (sym after)
      (are_nested c.parent c.within (All-head (λ (c : PlannedChoice). AreCasesOf plan.choices c.parent [] c.within) c cs h))))
      (outer cs (All-tail (λ (c : PlannedChoice). AreCasesOf plan.choices c.parent [] c.within) c cs h))

  pub choice_cases : IsSoundPlan scoping plan → All (λ (choice : Choice). AreNested (whole scoping on plan) choice.parent choice.within) (whole scoping on plan).choices
  choice_cases sound = outer plan.choices sound.outer_cases
