-- A path text names one path: its steps are read in one way.
use Rattle.std.proofs.Common.{◌≡◌, ◌⊎◌, ℕ, true, false, List, [], ◌∷◌, ◌++◌, Option, Some, None, refl, sym, ap, subst, ◌∙◌, arith, length, suc, append_assoc, IsSome, IsSomeAnd, slice_get}
use Rattle.std.specs.List.{All, flat_map}
use Rattle.std.specs.Option.{option_map_or}
use Rattle.nc_names.specs.declared.name.Module.{Module}
use Rattle.nc_names.specs.declared.path.Step.{Step}
use Rattle.nc_names.specs.Signs.{is_in_identifier}
use Rattle.nc_schema.specs.declared.node.Kind.{Kind}
use Rattle.nc_schema.specs.declared.node.Kind.TheVariants.{Container, Leaf, LeafList, List as ListKind}
use Rattle.nc_schema.specs.declared.node.Node.{Node}
use Rattle.nc_schema.specs.Laws.{TextNamesOnePath}
use Rattle.nc_schema.proofs.ProperLemmas.{HasProperNames, proper_names}
use Rattle.nc_schema.specs.PathTexts.{CanBeQuoted}
use Rattle.nc_schema.specs.Paths.{key_count, LeadDown}
use Rattle.nc_names.specs.Signs.{slash, colon}
use Rattle.nc_schema.specs.PathTexts.{module_name, prefixed_name, predicates, step_predicates, step_text}
use Rattle.nc_schema.specs.Tables.{Tables}
use Rattle.nc_schema.proofs.TextLemmas.{StopsAt, cut_once, all_in_identifier, EndsStep, values_once, keys_once, none_of_none}

-- a value that is there, with what is true of it
some_and : {X : Type 0} (o : Option X) (P : X → Type 0) → IsSomeAnd o P → (x : X) × (o ≡ Some x) × P x
some_and None P h = absurd h
some_and (Some x) P h = (x, refl, h)

some_is : {X : Type 0} (o : Option X) → IsSome o → (x : X) × (o ≡ Some x)
some_is None h = absurd (let no : false ≡ true = h in cc)
some_is (Some x) h = (x, refl)

-- `/module:name`, the predicates and what follows, in parts from the left
abbrev spelled : Tables → Module → Node → List (List ℕ) → List ℕ → List ℕ
spelled tables found node values rest =
    slash ∷ (found.name ++ colon ∷ (node.name.name ++ (predicates tables node.kind node.keys values ++ rest)))

step_is : (tables : Tables) (step : Step) (node : Node) (found : Module) (rest : List ℕ) → slice_get tables.nodes step.node ≡ Some node → slice_get tables.modules node.module ≡ Some found → step_text tables step ++ rest ≡ spelled tables found node step.keys rest
step_is tables step node found rest node_is found_is =
    let named : module_name tables node.module ≡ found.name = ap (λ o. option_map_or (λ (m : Module). m.name) o []) found_is in
    let name : prefixed_name tables step.node ≡ found.name ++ colon ∷ node.name.name =
    ap (λ o. option_map_or (λ (n : Node). module_name tables n.module ++ colon ∷ n.name.name) o []) node_is ∙ ap (λ x. x ++ colon ∷ node.name.name) named in
    let behind : step_predicates tables step ≡ predicates tables node.kind node.keys step.keys =
    ap (λ o. option_map_or (λ (n : Node). predicates tables n.kind n.keys step.keys) o []) node_is in
    (λ i. (slash ∷ name i ++ behind i) ++ rest) ∙ regroup found.name node.name.name (predicates tables node.kind node.keys step.keys)
  where
    regroup : (a b c : List ℕ) → (slash ∷ (a ++ colon ∷ b) ++ c) ++ rest ≡ slash ∷ (a ++ colon ∷ (b ++ (c ++ rest)))
    regroup a b c = simp append_assoc

-- a name ends where the predicates, or the next step, begin
ends_name : (rest : List ℕ) → EndsStep rest → StopsAt is_in_identifier rest
ends_name [] ends = tt
ends_name (c ∷ cs) ends = ap is_in_identifier ends

predicates_end_name : (tables : Tables) (kind : Kind) (keys : List ℕ) (values : List (List ℕ)) (rest : List ℕ) → EndsStep rest → StopsAt is_in_identifier (predicates tables kind keys values ++ rest)
predicates_end_name tables (Container presence) keys values rest ends = ends_name rest ends
predicates_end_name tables Leaf keys values rest ends = ends_name rest ends
predicates_end_name tables LeafList keys [] rest ends = ends_name rest ends
predicates_end_name tables LeafList keys (value ∷ values) rest ends = refl
predicates_end_name tables ListKind [] values rest ends = ends_name rest ends
predicates_end_name tables ListKind (key ∷ keys) [] rest ends = ends_name rest ends
predicates_end_name tables ListKind (key ∷ keys) (value ∷ values) rest ends = refl

-- the predicates at a node are read in one way
predicates_once : (tables : Tables) (kind : Kind) (keys : List ℕ) (values others : List (List ℕ)) (rest more : List ℕ) → (length values ≡ key_count kind (length keys)) ⊎ (values ≡ []) → (length others ≡ key_count kind (length keys)) ⊎ (others ≡ []) → All CanBeQuoted values → All CanBeQuoted others → EndsStep rest → EndsStep more → predicates tables kind keys values ++ rest ≡ predicates tables kind keys others ++ more → (values ≡ others) × (rest ≡ more)
predicates_once tables (Container presence) keys values others rest more fits fit can could at_rest at_more e = (none_of_none values fits ∙ sym (none_of_none others fit), e)
predicates_once tables Leaf keys values others rest more fits fit can could at_rest at_more e = (none_of_none values fits ∙ sym (none_of_none others fit), e)
predicates_once tables LeafList keys values others rest more fits fit can could at_rest at_more e = values_once values others rest more can could at_rest at_more e
predicates_once tables ListKind keys values others rest more fits fit can could at_rest at_more e = keys_once tables keys values others rest more fits fit can could at_rest at_more e

-- what stands behind the first sign of two equal texts
behind_first : (c : ℕ) (x y : List ℕ) → c ∷ x ≡ c ∷ y → x ≡ y
behind_first c x y e = cc

-- the same node by the same number
same_some : (o : Option Node) (node beside : Node) → o ≡ Some node → o ≡ Some beside → node ≡ beside
same_some o node beside p q = let both : Some node ≡ Some beside = sym p ∙ q in cc

abbrev FitsKeys : Node → Step → Type 0
FitsKeys node step = (length step.keys ≡ key_count node.kind (length node.keys)) ⊎ (step.keys ≡ [])

-- a step in a known place is read in one way
step_once : (tables : Tables) → HasProperNames tables → (step other : Step) (node beside : Node) (rest more : List ℕ) → slice_get tables.nodes step.node ≡ Some node → slice_get tables.nodes other.node ≡ Some beside → node.parent ≡ beside.parent → FitsKeys node step → FitsKeys beside other → All CanBeQuoted step.keys → All CanBeQuoted other.keys → EndsStep rest → EndsStep more → step_text tables step ++ rest ≡ step_text tables other ++ more → (step ≡ other) × (rest ≡ more)
step_once tables names step other node beside rest more node_is beside_is parents fits fit can could at_rest at_more e =
    let (found, found_is) = some_is (slice_get tables.modules node.module) (names.known_modules step.node node node_is) in
    let (another, another_is) = some_is (slice_get tables.modules beside.module) (names.known_modules other.node beside beside_is) in
    let behind : List ℕ = predicates tables node.kind node.keys step.keys ++ rest in
    let after : List ℕ = predicates tables beside.kind beside.keys other.keys ++ more in
    let level = behind_first slash (found.name ++ colon ∷ (node.name.name ++ behind)) (another.name ++ colon ∷ (beside.name.name ++ after))
    (sym (step_is tables step node found rest node_is found_is) ∙ e ∙ step_is tables other beside another more beside_is another_is) in
    let first = cut_once is_in_identifier found.name another.name (colon ∷ (node.name.name ++ behind)) (colon ∷ (beside.name.name ++ after))
    (all_in_identifier found.name (names.module_names node.module found found_is)) (all_in_identifier another.name (names.module_names beside.module another another_is)) refl refl level in
    let one_module = names.modules_apart node.module beside.module found another found_is another_is first.0 in
    let second = cut_once is_in_identifier node.name.name beside.name.name behind after
    (all_in_identifier node.name.name (names.node_names step.node node node_is)) (all_in_identifier beside.name.name (names.node_names other.node beside beside_is))
    (predicates_end_name tables node.kind node.keys step.keys rest at_rest) (predicates_end_name tables beside.kind beside.keys other.keys more at_more)
    (behind_first colon (node.name.name ++ behind) (beside.name.name ++ after) first.1) in
    let one_node = names.siblings_apart step.node other.node node beside node_is beside_is parents one_module second.0 in
    let same : node ≡ beside = same_some (slice_get tables.nodes other.node) node beside (ap (slice_get tables.nodes) (sym one_node) ∙ node_is) beside_is in
    let fit_same : FitsKeys node other = subst (λ (n : Node). FitsKeys n other) (sym same) fit in
    let third : behind ≡ predicates tables node.kind node.keys other.keys ++ more =
    second.1 ∙ ap (λ (n : Node). predicates tables n.kind n.keys other.keys ++ more) (sym same) in
    let keys = predicates_once tables node.kind node.keys step.keys other.keys rest more fits fit_same can could at_rest at_more third in
    ((λ i. record { node = one_node i; keys = keys.0 i }), keys.1)

-- the text of the steps that follow begins the next step
next_step : (tables : Tables) (steps : List Step) → EndsStep (flat_map (step_text tables) steps)
next_step tables [] = tt
next_step tables (step ∷ steps) = refl

-- what holds of all but the first
all_behind : {X : Type 0} (P : X → Type 0) (x : X) (xs : List X) → All P (x ∷ xs) → All P xs
all_behind P x xs all k d within = all (suc k) d (omega (arith, within))

steps_once : (tables : Tables) → HasProperNames tables → (above : Option ℕ) (steps others : List Step) → LeadDown tables above steps → LeadDown tables above others → All (λ step. All CanBeQuoted step.keys) steps → All (λ step. All CanBeQuoted step.keys) others → flat_map (step_text tables) steps ≡ flat_map (step_text tables) others → steps ≡ others
steps_once tables names above [] [] leads lead can could e = refl
steps_once tables names above [] (other ∷ others) leads lead can could e = absurd cc
steps_once tables names above (step ∷ steps) [] leads lead can could e = absurd cc
steps_once tables names above (step ∷ steps) (other ∷ others) leads lead can could e =
    let (node, node_is, holds) = some_and (slice_get tables.nodes step.node) (λ node. (node.parent ≡ above) × FitsKeys node step) leads.0 in
    let (beside, beside_is, hold) = some_and (slice_get tables.nodes other.node) (λ node. (node.parent ≡ above) × FitsKeys node other) lead.0 in
    let first = step_once tables names step other node beside (flat_map (step_text tables) steps) (flat_map (step_text tables) others) node_is beside_is (holds.0 ∙ sym hold.0) holds.1 hold.1
    (can 0 step (omega arith)) (could 0 other (omega arith)) (next_step tables steps) (next_step tables others) e in
    let lead_same : LeadDown tables (Some step.node) others = subst (λ (s : Step). LeadDown tables (Some s.node) others) (sym first.0) lead.1 in
    let rest = steps_once tables names (Some step.node) steps others leads.1 lead_same
    (all_behind (λ (s : Step). All CanBeQuoted s.keys) step steps can) (all_behind (λ (s : Step). All CanBeQuoted s.keys) other others could) first.1 in
    λ i. first.0 i ∷ rest i

pub text_names_one_path : TextNamesOnePath
text_names_one_path tables path other proper leads lead can could e =
    let same = steps_once tables (proper_names tables proper) None path.steps other.steps leads.down lead.down can could e in
    λ i. record { steps = same i }
