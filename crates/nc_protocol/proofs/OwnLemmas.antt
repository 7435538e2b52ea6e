-- The rows that a node has by itself, one and those of keys, are a subtree.
use Rattle.std.proofs.Common.{◌≡◌, ◌≢◌, ◌⊎◌, ℕ, suc, List, [], ◌∷◌, ◌++◌, refl, sym, ap, subst, ◌∙◌, inl, inr, arith, ◌<◌, zero, length, length-append}
use Rattle.std.proofs.lemmas.List.{append_assoc, append_cancel_left, append-nil, nil_from_length}
use Rattle.std.specs.List.{All, AllPairs, Contains}
use Rattle.std.specs.Prelude.{Some, Option, None, IsSomeAnd, slice_get}
use Rattle.std.specs.Option.{option_map_or}
use Rattle.std.proofs.lemmas.List.Elements.{Contains-append_right}
use Rattle.nc_names.specs.declared.path.Path.{Path}
use Rattle.nc_names.specs.declared.path.Row.{Row}
use Rattle.nc_names.specs.declared.path.Step.{Step}
use Rattle.nc_schema.specs.declared.node.Case.{Case}
use Rattle.nc_schema.specs.declared.node.Kind.{Kind}
use Rattle.nc_schema.specs.declared.node.Kind.TheVariants.{List as ListKind, Container, Leaf, LeafList}
use Rattle.nc_schema.specs.declared.node.Node.{Node}
use Rattle.nc_schema.specs.Configuration.{LeadsTo, IsAtOrBelow, StandTogether, KeysFollow, key_rows, IsRowValue, HasItsValue, StandsForItself, IsInCase, StandsOneCase, AncestorsStand, IsSubtree}
use Rattle.nc_schema.specs.Order.{keys_above, sibling_place, StepBefore, StepsBefore, IsBefore}
use Rattle.nc_schema.specs.Paths.{key_count, HasAllKeys, IsStepIn, LeadDown, IsPathOf}
use Rattle.nc_schema.specs.Proper.{IsKeyIn}
use Rattle.nc_schema.proofs.ProperLemmas.{HasProperNodes}
use Rattle.nc_schema.specs.Tables.{Tables}
use Rattle.nc_protocol.proofs.CaseLemmas.{one_case}
use Rattle.nc_protocol.proofs.ListLemmas.{heads_same, tails_same, no_element, split, contains_behind, all_cons, pairs_cons, one_element, contains_more, all_one, all_append, some_same, contains_here, last_same}
use Rattle.nc_protocol.proofs.KeyLemmas.{key_row, all_keys, pairs_keys, IsKeyRow, key_row_of, below_further, down_more, below_not_before, last_before}
use Rattle.nc_protocol.proofs.Parts.{all_at, all_from, IsPartOf, part_at, pair_at}
use Rattle.nc_protocol.proofs.PathViews.{after_last}

-- the last of some steps
pub record HasLast (steps : List Step) : Type 0 where
  pub above : List Step
  pub step : Step
  pub is : steps ≡ above ++ step ∷ []

pub last_found : (steps : List Step) → steps ≢ [] → HasLast steps
last_found [] some = absurd (some refl)
last_found (step ∷ []) some = record { above = []; step = step; is = refl }
last_found (step ∷ next ∷ rest) some =
    let found = last_found (next ∷ rest) (λ e. no_element [] rest next (sym e)) in
    record { above = step ∷ found.above; step = found.step; is = λ i. step ∷ found.is i }

some_further : {X : Type 0} (P Q : X → Type 0) (o : Option X) → ((x : X) → P x → Q x) → IsSomeAnd o P → IsSomeAnd o Q
some_further P Q None each holds = holds
some_further P Q (Some x) each holds = each x holds

pub some_is : {X : Type 0} (P : X → Type 0) (o : Option X) → IsSomeAnd o P → (x : X) × (o ≡ Some x)
some_is P None holds = absurd holds
some_is P (Some x) holds = (x, refl)

pub some_at : {X : Type 0} (P : X → Type 0) (o : Option X) (x : X) → IsSomeAnd o P → o ≡ Some x → P x
some_at {X} P o x holds is = subst (λ (at : Option X). IsSomeAnd at P) is holds

pub leaf_is_no_list : Leaf ≢ ListKind
leaf_is_no_list e = cc

-- a node that has a row where it exists has no value
pub no_own_value : (kind : Kind) (step : Step) (value : Option (List ℕ)) → StandsForItself kind → IsRowValue kind step value → value ≡ None
no_own_value (Container presence) step value stands valued = valued.1
no_own_value Leaf step value stands valued = absurd stands
no_own_value LeafList step value stands valued = absurd stands
no_own_value ListKind step value stands valued = valued

abbrev key_step : ℕ → Step
key_step number = record { node = number; keys = [] }

-- a node with the rows that it has by itself: one, and those of these keys
module _ (tables : Tables) (path : Path) (value : Option (List ℕ)) (top : List Step) (end : Step) (found : Node) (keys : List ℕ)
    (path_is : path.steps ≡ top ++ end ∷ []) (found_is : slice_get tables.nodes end.node ≡ Some found)
    (keys_in : All (λ key. IsSomeAnd (slice_get tables.nodes key) (IsKeyIn end.node)) keys) where
  abbrev entry : Row
  entry = record { path = path; value = value }

  abbrev own : List Row
  own = entry ∷ key_rows path.steps keys end.keys

  -- a row is that of the node or of a key
  abbrev IsOwn : Row → Type 0
  IsOwn row = (entry ≡ row) ⊎ IsKeyRow path.steps keys row

  own_row : (row : Row) → Contains own row → IsOwn row
  own_row row (zero, within, here) = inl here
  own_row row (suc k, within, here) = inr (key_row_of path.steps keys end.keys row (k, omega (arith, within), here))

  -- what holds of each of these rows
  each_own : (P : Row → Type 0) → P entry → ((number : ℕ) (text : List ℕ) → IsSomeAnd (slice_get tables.nodes number) (IsKeyIn end.node) → P (key_row path.steps number text)) → All P own
  each_own P here each = all_cons P entry (key_rows path.steps keys end.keys) here
      (all_keys (λ key. IsSomeAnd (slice_get tables.nodes key) (IsKeyIn end.node)) P path.steps keys end.keys each keys_in)

  own_below : All (λ row. IsAtOrBelow path.steps row.path) own
  own_below = each_own (λ row. IsAtOrBelow path.steps row.path) ([], sym (append-nil path.steps)) (λ number text key. (key_step number ∷ [], refl))

  key_is_path : IsPathOf tables path → (number : ℕ) → IsSomeAnd (slice_get tables.nodes number) (IsKeyIn end.node) →
      IsPathOf tables (record { steps = path.steps ++ key_step number ∷ [] })
  key_is_path a_path number key = record {
    names = record {
      steps = λ e. no_element path.steps [] (key_step number) (sym e);
      down = subst (λ (steps : List Step). LeadDown tables None (steps ++ key_step number ∷ [])) (sym path_is)
          (down_more tables None (top ++ end ∷ []) (key_step number) (subst (LeadDown tables None) path_is a_path.names.down)
          (subst (λ (over : Option ℕ). IsStepIn tables over (key_step number)) (sym (after_last None top end))
          (some_further (IsKeyIn end.node) (λ (node : Node). (node.parent ≡ Some end.node) × (HasAllKeys node (key_step number) ⊎ ([] ≡ [])))
          (slice_get tables.nodes number) (λ node is. (is.parent, inr refl)) key)));
    };
    instances = all_append (λ step. IsSomeAnd (slice_get tables.nodes step.node) (λ node. HasAllKeys node step)) path.steps (key_step number ∷ []) a_path.instances
        (all_one (λ step. IsSomeAnd (slice_get tables.nodes step.node) (λ node. HasAllKeys node step)) (key_step number)
        (some_further (IsKeyIn end.node) (λ (node : Node). HasAllKeys node (key_step number)) (slice_get tables.nodes number)
        (λ node is. subst (λ (kind : Kind). 0 ≡ key_count kind (length node.keys)) (sym is.kind) refl) key));
  }

  own_paths : IsPathOf tables path → All (λ row. IsPathOf tables row.path) own
  own_paths a_path = each_own (λ row. IsPathOf tables row.path) a_path (λ number text key. key_is_path a_path number key)

  -- two keys in the order of their places are two, and the later is not before the other
  keys_apart : (number later : ℕ) → sibling_place found.keys number < sibling_place found.keys later → path.steps ++ key_step number ∷ [] ≢ path.steps ++ key_step later ∷ []
  keys_apart number later less same =
      let steps = heads_same (key_step number) (key_step later) [] [] (append_cancel_left path.steps (key_step number ∷ []) (key_step later ∷ []) same) in
      let places : sibling_place found.keys number ≡ sibling_place found.keys later = ap (λ step. sibling_place found.keys step.node) steps in
      omega (arith, less, places)

  keys_in_order : (number later : ℕ) → sibling_place found.keys number < sibling_place found.keys later →
      ¬ StepsBefore tables None (path.steps ++ key_step later ∷ []) (path.steps ++ key_step number ∷ [])
  keys_in_order number later less before =
      by (last_before tables top end (key_step later) (key_step number) None
      (subst (λ (steps : List Step). StepsBefore tables None (steps ++ key_step later ∷ []) (steps ++ key_step number ∷ [])) path_is before))
    where
      keys_are : keys_above tables (Some end.node) ≡ found.keys
      keys_are = ap (λ at. option_map_or (λ node. node.keys) at []) found_is

      by : StepBefore tables (Some end.node) (key_step later) (key_step number) → ⊥
      by (inl smaller) =
          let less_again = subst (λ (names : List ℕ). sibling_place names later < sibling_place names number) keys_are smaller in omega (arith, less, less_again)
      by (inr (same, system, before)) = let places : sibling_place found.keys later ≡ sibling_place found.keys number = ap (sibling_place found.keys) same in omega (arith, less, places)

  own_distinct : AllPairs (λ key later. sibling_place found.keys key < sibling_place found.keys later) keys → AllPairs (λ row later. row.path ≢ later.path) own
  own_distinct rise =
      pairs_cons (λ row later. row.path ≢ later.path) entry (key_rows path.steps keys end.keys)
      (all_keys (λ key. IsSomeAnd (slice_get tables.nodes key) (IsKeyIn end.node)) (λ row. path ≢ row.path) path.steps keys end.keys
      (λ number text key same. omega (arith, length-append path.steps (key_step number ∷ []), ap (λ (at : Path). length at.steps) same)) keys_in)
      (pairs_keys (λ key later. sibling_place found.keys key < sibling_place found.keys later) (λ row later. row.path ≢ later.path) path.steps keys end.keys
      (λ number later text other less same. keys_apart number later less (ap (λ (at : Path). at.steps) same)) rise)

  own_ordered : AllPairs (λ key later. sibling_place found.keys key < sibling_place found.keys later) keys → AllPairs (λ row later. ¬ IsBefore tables later.path row.path) own
  own_ordered rise =
      pairs_cons (λ row later. ¬ IsBefore tables later.path row.path) entry (key_rows path.steps keys end.keys)
      (all_keys (λ key. IsSomeAnd (slice_get tables.nodes key) (IsKeyIn end.node)) (λ row. ¬ IsBefore tables row.path path) path.steps keys end.keys
      (λ number text key. below_not_before tables None path.steps (key_step number ∷ [])) keys_in)
      (pairs_keys (λ key later. sibling_place found.keys key < sibling_place found.keys later) (λ row later. ¬ IsBefore tables later.path row.path) path.steps keys end.keys
      (λ number later text other less. keys_in_order number later less) rise)

  -- the step to the node is the last of the path, and its data node is that
  end_same : (above : List Step) (step : Step) (node : Node) → LeadsTo tables above step node entry → (end ≡ step) × (found ≡ node)
  end_same above step node leads =
      let same = last_same top above end step (sym path_is ∙ leads.path) in
      (same, some_same found node (sym found_is ∙ ap (λ (at : Step). slice_get tables.nodes at.node) same ∙ leads.node_is))

  -- the last step to a key row leads to a key
  key_same : (row : Row) (key : IsKeyRow path.steps keys row) (above : List Step) (step : Step) (node : Node) → LeadsTo tables above step node row → IsKeyIn end.node node
  key_same row key above step node leads =
      let same = last_same path.steps above (key_step key.number) step (ap (λ (at : Row). at.path.steps) (sym key.is) ∙ leads.path) in
      some_at (IsKeyIn end.node) (slice_get tables.nodes key.number) node (all_at (λ number. IsSomeAnd (slice_get tables.nodes number) (IsKeyIn end.node)) keys key.number keys_in key.has)
      (ap (λ (at : Step). slice_get tables.nodes at.node) same ∙ leads.node_is)

  own_values : IsRowValue found.kind end value → All (HasItsValue tables) own
  own_values valued = each_own (HasItsValue tables) of_entry of_key
    where
      of_entry : HasItsValue tables entry
      of_entry above step node leads =
          let same = end_same above step node leads in
          subst (λ (at : Step). IsRowValue node.kind at value) same.0 (subst (λ (of : Node). IsRowValue of.kind end value) same.1 valued)

      of_key : (number : ℕ) (text : List ℕ) → IsSomeAnd (slice_get tables.nodes number) (IsKeyIn end.node) → HasItsValue tables (key_row path.steps number text)
      of_key number text key above step node leads =
          let same = last_same path.steps above (key_step number) step leads.path in
          let is = some_at (IsKeyIn end.node) (slice_get tables.nodes number) node key (ap (λ (at : Step). slice_get tables.nodes at.node) same ∙ leads.node_is) in
          subst (λ (kind : Kind). IsRowValue kind step (Some text)) (sym is.kind) refl

  own_keys : (found.kind ≡ ListKind → keys ≡ found.keys) → KeysFollow tables own
  own_keys whole [] after row above step node is leads list =
      let here = heads_same entry row (key_rows path.steps keys end.keys) after is in
      let same = end_same above step node (record { path = ap (λ (at : Row). at.path.steps) here ∙ leads.path; node_is = leads.node_is }) in
      let names : keys ≡ node.keys = whole (ap (λ (of : Node). of.kind) same.1 ∙ list) ∙ ap (λ (of : Node). of.keys) same.1 in (
        [],
        sym (tails_same entry row (key_rows path.steps keys end.keys) after is)
            ∙ (λ i. key_rows (here i).path.steps (names i) (same.0 i).keys) ∙ sym (append-nil (key_rows row.path.steps node.keys step.keys)),
      )
  own_keys whole (first ∷ before) after row above step node is leads list =
      let has = subst (λ (rows : List Row). Contains rows row) (sym (tails_same entry first (key_rows path.steps keys end.keys) (before ++ row ∷ after) is)) (contains_here before after row) in
      let key = key_same row (key_row_of path.steps keys end.keys row has) above step node leads in
      let clash : Leaf ≡ ListKind = sym key.kind ∙ list in
      absurd (leaf_is_no_list clash)

  -- of the nodes from the top node on that node alone stands above a key
  own_ancestors : IsRowValue found.kind end value → AncestorsStand tables path.steps own
  own_ancestors valued [] after row above step next rest node is steps below node_is stands =
      let here : path.steps ≡ above ++ step ∷ next ∷ rest = ap (λ (at : Row). at.path.steps) (heads_same entry row (key_rows path.steps keys end.keys) after is) ∙ steps in
      let sizes : length path.steps ≡ length (above ++ step ∷ next ∷ rest) = ap length here in
      let others : length (above ++ step ∷ []) ≡ length (path.steps ++ below.0) = ap length below.1 in
      absurd (omega (arith, sizes, others, length-append above (step ∷ next ∷ rest), length-append above (step ∷ []), length-append path.steps below.0))
  own_ancestors valued (first ∷ before) after row above step next rest node is steps below node_is stands =
      (0, omega arith, sym (heads_same entry first (key_rows path.steps keys end.keys) (before ++ row ∷ after) is) ∙ (λ i. record { path = record { steps = over i }; value = none i }))
    where
      has : Contains (key_rows path.steps keys end.keys) row
      has = subst (λ (rows : List Row). Contains rows row) (sym (tails_same entry first (key_rows path.steps keys end.keys) (before ++ row ∷ after) is)) (contains_here before after row)

      key : IsKeyRow path.steps keys row
      key = key_row_of path.steps keys end.keys row has

      nothing : length below.0 ≡ 0
      nothing =
          let whole : path.steps ++ key_step key.number ∷ [] ≡ above ++ step ∷ next ∷ rest = ap (λ (at : Row). at.path.steps) (sym key.is) ∙ steps in
          let sizes : length (path.steps ++ key_step key.number ∷ []) ≡ length (above ++ step ∷ next ∷ rest) = ap length whole in
          let others : length (above ++ step ∷ []) ≡ length (path.steps ++ below.0) = ap length below.1 in
          omega (arith, sizes, others, length-append above (step ∷ next ∷ rest), length-append above (step ∷ []), length-append path.steps below.0, length-append path.steps (key_step key.number ∷ []))

      over : path.steps ≡ above ++ step ∷ []
      over = sym (append-nil path.steps) ∙ ap (λ (more : List Step). path.steps ++ more) (sym (nil_from_length below.0 nothing)) ∙ sym below.1

      none : value ≡ None
      none =
          let same = end_same above step node (record { path = over; node_is = node_is }) in
          no_own_value found.kind end value (subst (λ (of : Node). StandsForItself of.kind) (sym same.1) stands) valued

  -- a row at or below a node is that node's, or the node is at or above the top
  own_over : (row : Row) → IsOwn row → (steps : List Step) → IsAtOrBelow steps row.path → (row.path.steps ≡ steps) ⊎ IsAtOrBelow steps path
  own_over row (inl here) steps (rest, is) = inr (rest, ap (λ (at : Row). at.path.steps) here ∙ is)
  own_over row (inr key) steps ([], is) = inl (is ∙ append-nil steps)
  own_over row (inr key) steps (step ∷ rest, is) =
      by (split path.steps (key_step key.number ∷ []) steps rest step (ap (λ (at : Row). at.path.steps) (sym key.is) ∙ is))
    where
      by : ((more : List Step) × (path.steps ≡ steps ++ step ∷ more)) ⊎ ((more : List Step) × (steps ≡ path.steps ++ more) × (key_step key.number ∷ [] ≡ more ++ step ∷ rest))
          → (row.path.steps ≡ steps) ⊎ IsAtOrBelow steps path
      by (inl (more, front)) = inr (step ∷ more, front)
      by (inr (more, front, behind)) =
          let none = (one_element (key_step key.number) step more rest behind).0 in
          let same : steps ≡ path.steps = front ∙ ap (λ (last : List Step). path.steps ++ last) none ∙ append-nil path.steps in
          inr ([], sym same ∙ sym (append-nil steps))

  own_together : AllPairs (λ row later. row.path ≢ later.path) own → StandTogether own
  own_together distinct first between last row other steps is below beside =
      by (own_over row (own_row row (held row (contains_more (first ++ row ∷ between) (other ∷ last) row (contains_here first between row)))) steps below)
      (own_over other (own_row other (held other (contains_here (first ++ row ∷ between) last other))) steps beside)
    where
      held : (inner : Row) → Contains (first ++ row ∷ between ++ other ∷ last) inner → Contains own inner
      held inner has = subst (λ (rows : List Row). Contains rows inner) (sym is) has

      apart : row.path ≢ other.path
      apart = pair_at (λ (one : Row) (later : Row). one.path ≢ later.path) own row other distinct
          (subst (λ (rows : List Row). IsPartOf (row ∷ other ∷ []) rows) (sym is) (part_at (first ++ row ∷ between) last row other (contains_here first between row)))

      all : IsAtOrBelow steps path → All (λ inner. IsAtOrBelow steps inner.path) between
      all over = all_from (λ inner. IsAtOrBelow steps inner.path) between (λ inner has.
          let in_own = held inner (contains_more (first ++ row ∷ between) (other ∷ last) inner (Contains-append_right first (row ∷ between) inner (contains_behind row between inner has))) in
          let at = all_at (λ (at : Row). IsAtOrBelow path.steps at.path) own inner own_below in_own in
          (over.0 ++ at.0, at.1 ∙ below_further steps path.steps at.0 over.0 over.1))

      by : (row.path.steps ≡ steps) ⊎ IsAtOrBelow steps path → (other.path.steps ≡ steps) ⊎ IsAtOrBelow steps path → All (λ inner. IsAtOrBelow steps inner.path) between
      by (inr over) else = all over
      by (inl same) (inr over) = all over
      by (inl same) (inl again) = absurd (apart (λ i. record { steps = (same ∙ sym again) i }))

  -- keys are in no case, and other steps are the same in each of these rows
  own_cases : HasProperNodes tables → StandsOneCase tables own
  own_cases proper row other above rest others step beside choice case another here there steps besides in_case in_another =
      by (split path.steps below.0 above rest step (sym below.1 ∙ steps))
    where
      below : IsAtOrBelow path.steps row.path
      below = all_at (λ (at : Row). IsAtOrBelow path.steps at.path) own row own_below here

      below_too : IsAtOrBelow path.steps other.path
      below_too = all_at (λ (at : Row). IsAtOrBelow path.steps at.path) own other own_below there

      in_key : IsOwn row → (more : List Step) → above ≡ path.steps ++ more → ⊥
      in_key (inl same) more front =
          let sizes : length path.steps ≡ length (above ++ step ∷ rest) = ap length (ap (λ (at : Row). at.path.steps) same ∙ steps) in
          let fronts : length above ≡ length (path.steps ++ more) = ap length front in
          omega (arith, sizes, fronts, length-append above (step ∷ rest), length-append path.steps more)
      in_key (inr key) more front =
          let whole : path.steps ++ key_step key.number ∷ [] ≡ path.steps ++ (more ++ step ∷ rest) =
          ap (λ (at : Row). at.path.steps) (sym key.is) ∙ steps ∙ ap (λ (list : List Step). list ++ step ∷ rest) front ∙ append_assoc path.steps more (step ∷ rest) in
          let same = (one_element (key_step key.number) step more rest (append_cancel_left path.steps (key_step key.number ∷ []) (more ++ step ∷ rest) whole)).1 in
          let node = some_is (IsKeyIn end.node) (slice_get tables.nodes key.number) (all_at (λ number. IsSomeAnd (slice_get tables.nodes number) (IsKeyIn end.node)) keys key.number keys_in key.has) in
          let is = some_at (IsKeyIn end.node) (slice_get tables.nodes key.number) node.0 (all_at (λ number. IsSomeAnd (slice_get tables.nodes number) (IsKeyIn end.node)) keys key.number keys_in key.has) node.1 in
          let held = some_at (λ (of : Node). Contains of.cases (record { choice = choice; case = case })) (slice_get tables.nodes step.node) node.0 in_case
          (ap (λ (at : Step). slice_get tables.nodes at.node) (sym same) ∙ node.1) in
          let none = subst (λ (cases : List Case). Contains cases (record { choice = choice; case = case })) is.cases held in
          omega (arith, none.1)

      by : ((more : List Step) × (path.steps ≡ above ++ step ∷ more)) ⊎ ((more : List Step) × (above ≡ path.steps ++ more) × (below.0 ≡ more ++ step ∷ rest)) → case ≡ another
      by (inl (more, front)) =
          let whole : above ++ (step ∷ (more ++ below_too.0)) ≡ above ++ beside ∷ others =
          sym (append_assoc above (step ∷ more) below_too.0) ∙ ap (λ (list : List Step). list ++ below_too.0) (sym front) ∙ sym below_too.1 ∙ besides in
          let same = heads_same step beside (more ++ below_too.0) others (append_cancel_left above (step ∷ (more ++ below_too.0)) (beside ∷ others) whole) in
          one_case tables proper step.node choice case another in_case (subst (λ (at : Step). IsInCase tables at.node choice another) (sym same) in_another)
      by (inr (more, front, behind)) = absurd (in_key (own_row row here) more front)

  pub own_is_subtree : HasProperNodes tables → IsPathOf tables path → AllPairs (λ key later. sibling_place found.keys key < sibling_place found.keys later) keys →
      (found.kind ≡ ListKind → keys ≡ found.keys) → IsRowValue found.kind end value → IsSubtree tables path.steps own
  own_is_subtree proper a_path rise whole valued = record {
    below = own_below;
    paths = own_paths a_path;
    distinct = own_distinct rise;
    ordered = own_ordered rise;
    together = own_together (own_distinct rise);
    values = own_values valued;
    keys = own_keys whole;
    ancestors = own_ancestors valued;
    cases = own_cases proper;
  }
