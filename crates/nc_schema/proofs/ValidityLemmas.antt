-- A configuration without rows, of a schema in which nothing has to stand.
use Rattle.std.proofs.Common.{◌≡◌, ◌==◌, ◌&&◌, ◌||◌, ◌+◌, ◌++◌, ℕ, zero, suc, Bool, true, false, cond, not, ltb, List, [], ◌∷◌, Option, Some, None, map, length, refl, ap, ◌∙◌, arith}
use Rattle.std.proofs.lemmas.Bool.{le-ltb}
use Rattle.std.proofs.lemmas.List.Elements.{All-head, All-tail}
use Rattle.std.specs.List.{All, enumerate_from, filter, flat_map, list_all}
use Rattle.std.specs.Option.{option_map_or}
use Rattle.std.specs.Prelude.{slice_get}
use Rattle.nc_names.specs.declared.cause.CauseKind.TheVariants.{Mandatory, MandatoryChoice, TooFew, TooMany}
use Rattle.nc_names.specs.declared.path.Step.{Step}
use Rattle.nc_schema.specs.declared.node.Choice.{Choice}
use Rattle.nc_schema.specs.declared.node.Kind.{Kind}
use Rattle.nc_schema.specs.declared.node.Kind.TheVariants.{Container, Leaf, LeafList, List as ListKind}
use Rattle.nc_schema.specs.declared.node.Node.{Node}
use Rattle.nc_schema.specs.declared.violation.Violation.{Violation}
use Rattle.nc_schema.specs.Children.{is_same_number}
use Rattle.nc_schema.specs.InUse.{stands_in}
use Rattle.nc_schema.specs.Kinds.{has_entries, is_leaf, stands_for_itself}
use Rattle.nc_schema.specs.Laws.{RequiresNothing, EmptyIsValid}
use Rattle.nc_schema.specs.Places.{Place, is_chosen, is_chosen_or_default, is_made, node_there, place_of, place_parts, places_among, places_of}
use Rattle.nc_schema.specs.Tables.{Tables}
use Rattle.nc_schema.specs.Violations.{bare_violations, child_violations, choice_violations, is_choice_before, is_required, node_violations, unique_violations, violated, violations_at}

empty : List Step → Bool → Bool → Place
empty steps required defaults = record { steps = steps; rows = []; required = required; defaults = defaults }

none_all : {X Y : Type 0} (f : X → List Y) → ((x : X) → f x ≡ []) → (xs : List X) → flat_map f xs ≡ []
none_all f none [] = refl
none_all f none (x ∷ xs) = ap (λ ys. ys ++ flat_map f xs) (none x) ∙ none_all f none xs

nothing_before : {Y : Type 0} (a b c : List Y) → (b ≡ [] → c ≡ []) → a ++ b ≡ [] → a ++ c ≡ []
nothing_before [] b c rest e = rest e
nothing_before (v ∷ a) b c rest e = absurd (let clash : v ∷ (a ++ b) ≡ [] = e in cc)

map_append : {X Y : Type 0} (f : X → List Y) (xs ys : List X) → flat_map f xs ≡ [] → flat_map f ys ≡ [] → flat_map f (xs ++ ys) ≡ []
map_append f [] ys first second = second
map_append f (x ∷ xs) ys first second = nothing_before (f x) (flat_map f xs) (flat_map f (xs ++ ys)) (λ e. map_append f xs ys e second) first

unless_both : (b : Bool) (xs : List Violation) → xs ≡ [] → cond b xs [] ≡ []
unless_both true xs none = none
unless_both false xs none = refl

-- no choice lacks a case
lacks_none : (rest : Choice → Bool) (choices : List Choice) → All (λ choice. choice.mandatory ≡ false) choices → (n : ℕ) →
    option_map_or (λ choice. choice.mandatory && rest choice) (slice_get choices n) false ≡ false
lacks_none rest [] all n = refl
lacks_none rest (x ∷ xs) all zero = ap (λ b. b && rest x) (All-head (λ choice. choice.mandatory ≡ false) x xs all)
lacks_none rest (x ∷ xs) all (suc n) = lacks_none rest xs (All-tail (λ choice. choice.mandatory ≡ false) x xs all) n

choice_none : (tables : Tables) (nothing : RequiresNothing tables) (place : Place) (number : ℕ) → choice_violations tables place number ≡ []
choice_none tables nothing place number = go (slice_get tables.choices number) (lacks_none (λ choice. true) tables.choices nothing.choices number)
  where
    go : (found : Option Choice) → option_map_or (λ choice. choice.mandatory && true) found false ≡ false →
        violated (option_map_or (λ choice. choice.mandatory && not (is_made tables place number) && is_required tables place choice.within) found false) MandatoryChoice place.steps ≡ []
    go None e = refl
    go (Some choice) e = one choice.mandatory (not (is_made tables place number)) (is_required tables place choice.within) e
      where
        one : (m a b : Bool) → (m && true) ≡ false → violated (m && a && b) MandatoryChoice place.steps ≡ []
        one true a b e = absurd (let clash : true ≡ false = e in cc)
        one false a b e = refl

ltb_zero : (n : ℕ) → ltb n 0 ≡ false
ltb_zero n = le-ltb n 0 (omega arith)

most_none : (steps : List Step) (b : Bool) (most : Option ℕ) → violated (b && option_map_or (λ m. ltb m 0) most false) TooMany steps ≡ []
most_none steps true None = refl
most_none steps true (Some m) = ap (λ x. violated x TooMany steps) (ltb_zero m)
most_none steps false most = refl

-- no node has to stand in an empty place, and none stands there
kind_none : (tables : Tables) (steps : List Step) (required defaults : Bool) (number : ℕ) (node : Node) (kind : Kind) (mandatory : Bool) (least : ℕ) (most : Option ℕ) (uniques : List (List ℕ)) (asked : Bool) →
    mandatory ≡ false → least ≡ 0 →
    violated (is_leaf kind && mandatory && 0 == 0 && asked) Mandatory (steps ++ record { node = number; keys = [] } ∷ [])
    ++ violated (has_entries kind && ltb 0 least && asked) TooFew (steps ++ record { node = number; keys = [] } ∷ [])
    ++ violated (has_entries kind && option_map_or (λ m. ltb m 0) most false) TooMany (steps ++ record { node = number; keys = [] } ∷ [])
    ++ flat_map (unique_violations tables (map (place_of tables (empty steps required defaults) node) (place_parts (empty steps required defaults) number kind))) uniques
    ≡ []
unfolding empty
kind_none tables steps required defaults number node (Container true) mandatory least most uniques asked no_leaf no_least = none_all (unique_violations tables []) (λ leafs. refl) uniques
kind_none tables steps required defaults number node (Container false) mandatory least most uniques asked no_leaf no_least =
    none_all (unique_violations tables (place_of tables (record { steps = steps; rows = []; required = required; defaults = defaults }) node (record { step = Some (record { node = number; keys = [] }); rows = [] }) ∷ [])) (λ leafs. refl) uniques
kind_none tables steps required defaults number node Leaf mandatory least most uniques asked no_leaf no_least =
    rw no_leaf (none_all (unique_violations tables []) (λ leafs. refl) uniques)
kind_none tables steps required defaults number node LeafList mandatory least most uniques asked no_leaf no_least =
    rw no_least (ap (λ vs. vs ++ flat_map (unique_violations tables []) uniques) (most_none (steps ++ record { node = number; keys = [] } ∷ []) true most) ∙ none_all (unique_violations tables []) (λ leafs. refl) uniques)
kind_none tables steps required defaults number node ListKind mandatory least most uniques asked no_leaf no_least =
    rw no_least (ap (λ vs. vs ++ flat_map (unique_violations tables []) uniques) (most_none (steps ++ record { node = number; keys = [] } ∷ []) true most) ∙ none_all (unique_violations tables []) (λ leafs. refl) uniques)

child_none : (tables : Tables) (nothing : RequiresNothing tables) (steps : List Step) (required defaults : Bool) (number : ℕ) (node : Node) →
    (node.mandatory ≡ false) × (node.least ≡ 0) → child_violations tables (empty steps required defaults) number node ≡ []
unfolding empty
child_none tables nothing steps required defaults number node free =
    let place : Place = record { steps = steps; rows = []; required = required; defaults = defaults } in
    let chosen : flat_map (λ one. choice_violations tables place one.choice) (filter (λ one. not (is_choice_before tables number one.choice)) node.cases) ≡ [] =
    none_all (λ one. choice_violations tables place one.choice) (λ one. choice_none tables nothing place one.choice) (filter (λ one. not (is_choice_before tables number one.choice)) node.cases) in
    ap (λ vs. vs ++ node_violations tables place number node) chosen
    ∙ kind_none tables steps required defaults number node node.kind node.mandatory node.least node.most node.uniques (is_required tables place node.cases) free.0 free.1

nodes_none : (tables : Tables) (nothing : RequiresNothing tables) (steps : List Step) (required defaults : Bool) (number : ℕ) (nodes : List Node) →
    All (λ node. (node.mandatory ≡ false) × (node.least ≡ 0)) nodes →
    flat_map (λ one. cond (stands_in one.1.parent (empty steps required defaults)) (child_violations tables (empty steps required defaults) one.0 one.1) []) (enumerate_from number nodes) ≡ []
nodes_none tables nothing steps required defaults number [] all = refl
nodes_none tables nothing steps required defaults number (node ∷ nodes) all =
    ap (λ vs. vs ++ flat_map (λ one. cond (stands_in one.1.parent (empty steps required defaults)) (child_violations tables (empty steps required defaults) one.0 one.1) []) (enumerate_from (number + 1) nodes))
    (unless_both (stands_in node.parent (empty steps required defaults)) (child_violations tables (empty steps required defaults) number node)
    (child_none tables nothing steps required defaults number node (All-head (λ n. (n.mandatory ≡ false) × (n.least ≡ 0)) node nodes all)))
    ∙ nodes_none tables nothing steps required defaults (number + 1) nodes (All-tail (λ n. (n.mandatory ≡ false) × (n.least ≡ 0)) node nodes all)

bare_none : (tables : Tables) (nothing : RequiresNothing tables) (place : Place) (number : ℕ) → bare_violations tables place number ≡ []
bare_none tables nothing place number = go (is_choice_before tables (length tables.nodes) number)
  where
    go : (b : Bool) → cond b [] (choice_violations tables place number) ≡ []
    go true = refl
    go false = choice_none tables nothing place number

at_none : (tables : Tables) (nothing : RequiresNothing tables) (steps : List Step) (required defaults : Bool) → violations_at tables (empty steps required defaults) ≡ []
at_none tables nothing steps required defaults =
    let place : Place = empty steps required defaults in
    let bare : ℕ × Choice → List Violation = λ one. cond (stands_in one.1.parent place) (bare_violations tables place one.0) [] in
    ap (λ vs. vs ++ flat_map bare (enumerate_from 0 tables.choices)) (nodes_none tables nothing steps required defaults 0 tables.nodes nothing.nodes)
    ∙ none_all bare (λ one. unless_both (stands_in one.1.parent place) (bare_violations tables place one.0) (bare_none tables nothing place one.0)) (enumerate_from 0 tables.choices)

-- nor in the places below one
here_none : (tables : Tables) (nothing : RequiresNothing tables) (steps : List Step) (required defaults : Bool) (number : ℕ) (node : Node) (later : List Node) →
    ((s : List Step) (r d : Bool) → flat_map (violations_at tables) (places_among tables (empty s r d) (number + 1) later) ≡ []) → (b : Bool) (kind : Kind) →
    flat_map (violations_at tables) (flat_map (λ below. below ∷ places_among tables below (number + 1) later)
    (cond b (map (place_of tables (empty steps required defaults) node) (place_parts (empty steps required defaults) number kind)) [])) ≡ []
unfolding empty
here_none tables nothing steps required defaults number node later rest false kind = refl
here_none tables nothing steps required defaults number node later rest true (Container true) = refl
here_none tables nothing steps required defaults number node later rest true (Container false) =
    let place : Place = record { steps = steps; rows = []; required = required; defaults = defaults } in
    let s : List Step = steps ++ record { node = number; keys = [] } ∷ [] in
    let r : Bool = stands_for_itself node.kind || (required && list_all (is_chosen tables place) node.cases) in
    let d : Bool = stands_for_itself node.kind || (defaults && list_all (is_chosen_or_default tables place) node.cases) in
    let below : Place = record { steps = s; rows = []; required = r; defaults = d } in
    let all : flat_map (violations_at tables) (below ∷ places_among tables below (number + 1) later) ≡ [] =
    ap (λ vs. vs ++ flat_map (violations_at tables) (places_among tables below (number + 1) later)) (at_none tables nothing s r d) ∙ rest s r d in
    map_append (violations_at tables) (below ∷ places_among tables below (number + 1) later) [] all refl
here_none tables nothing steps required defaults number node later rest true Leaf = refl
here_none tables nothing steps required defaults number node later rest true LeafList = refl
here_none tables nothing steps required defaults number node later rest true ListKind = refl

under_none : (tables : Tables) (nothing : RequiresNothing tables) (steps : List Step) (required defaults : Bool) (number : ℕ) (nodes : List Node) →
    flat_map (violations_at tables) (places_among tables (empty steps required defaults) number nodes) ≡ []
unfolding empty
under_none tables nothing steps required defaults number [] = refl
under_none tables nothing steps required defaults number (node ∷ later) =
    let place : Place = record { steps = steps; rows = []; required = required; defaults = defaults } in
    map_append (violations_at tables) (flat_map (λ below. below ∷ places_among tables below (number + 1) later) (cond (is_same_number node.parent (node_there place)) (places_of tables place number node) []))
    (places_among tables place (number + 1) later)
    (here_none tables nothing steps required defaults number node later (λ s r d. under_none tables nothing s r d (number + 1) later) (is_same_number node.parent (node_there place)) node.kind)
    (under_none tables nothing steps required defaults (number + 1) later)

pub empty_is_valid : EmptyIsValid
unfolding empty
empty_is_valid tables nothing =
    let top : Place = record { steps = []; rows = []; required = true; defaults = true } in
    let all : flat_map (violations_at tables) (top ∷ places_among tables top 0 tables.nodes) ≡ [] =
    ap (λ vs. vs ++ flat_map (violations_at tables) (places_among tables top 0 tables.nodes)) (at_none tables nothing [] true true)
    ∙ under_none tables nothing [] true true 0 tables.nodes in
    ap (λ vs. vs ++ []) all
