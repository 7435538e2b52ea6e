-- The policy of a configuration is that of the rows of the container `nacm`, where these come first.
use Rattle.std.proofs.Common.{◌≡◌, ◌&&◌, ◌||◌, ◌++◌, ◌<◌, ◌≤◌, ◌∙◌, ℕ, zero, suc, Bool, true, false, cond, List, [], ◌∷◌, Option, Some, None, length, take, drop, refl, sym, ap, arith}
use Rattle.std.specs.Prelude.{option_and_then, option_map, option_to_list, slice_get}
use Rattle.std.specs.List.{filter, find, list_all}
use Rattle.std.specs.Option.{option_map_or}
use Rattle.std.proofs.lemmas.List.{length-take-le, take_all}
use Rattle.nc_names.specs.Same.{is_at_or_below}
use Rattle.nc_names.specs.declared.path.Row.{Row}
use Rattle.nc_names.specs.declared.path.Step.{Step}
use Rattle.nc_schema.specs.Children.{is_same_number}
use Rattle.nc_schema.specs.Kinds.{stands_for_itself}
use Rattle.nc_schema.specs.Places.{Part, is_chosen, is_chosen_or_default, is_of, is_same_next, onto_first, or_empty, parts, place_of, place_parts, top_place}
use Rattle.nc_schema.specs.Standing.{block_at}
use Rattle.nc_schema.specs.Tables.{Tables}
use Rattle.nc_schema.specs.declared.node.Kind.{Kind}
use Rattle.nc_schema.specs.declared.node.Kind.TheVariants.{Container, Leaf, LeafList, List as ListKind}
use Rattle.nc_schema.specs.declared.node.Node.{Node}
use Rattle.nc_protocol.proofs.PlaceLemmas.{below_is_below}
use Rattle.nc_branches.specs.Beneath.{goes_by, has_node}
use Rattle.nc_defaults.specs.inner.Runs.{next_at}
use Rattle.nc_defaults.proofs.Runs.{on_list}
use Rattle.nc_model.specs.Nodes.{nacm}
use Rattle.nc_model.specs.Policy.{no_policy, policy_at, policy_of}
use Rattle.nc_nacm.specs.inner.Front.{IsFront, IsOfNoCase, nacm_step}

abbrev test : Part → Bool
test part = is_same_next part.step (Some nacm_step)

abbrev found : Kind → List Row → Option Part
found kind rows = find test (place_parts (top_place rows) nacm kind)

-- ---- the container as a place rests on its own rows alone
placed : (tables : Tables) (rows others : List Row) (node : Node) (part : Part) → node.cases ≡ [] →
    place_of tables (top_place rows) node part ≡ place_of tables (top_place others) node part
placed tables rows others node part none =
    (λ i. record {
      steps = [] ++ option_to_list part.step;
      rows = part.rows;
      required = stands_for_itself node.kind || (true && list_all (is_chosen tables (top_place rows)) (none i));
      defaults = stands_for_itself node.kind || (true && list_all (is_chosen_or_default tables (top_place rows)) (none i));
    })
    ∙ (λ i. record {
      steps = [] ++ option_to_list part.step;
      rows = part.rows;
      required = stands_for_itself node.kind || (true && list_all (is_chosen tables (top_place others)) (sym none i));
      defaults = stands_for_itself node.kind || (true && list_all (is_chosen_or_default tables (top_place others)) (sym none i));
    })

policy_same : (tables : Tables) (rows others : List Row) → IsOfNoCase tables → ((kind : Kind) → found kind rows ≡ found kind others) →
    policy_of tables rows ≡ policy_of tables others
policy_same tables rows others no_case same = by (slice_get tables.nodes nacm) refl
  where
    of_node : (node : Node) → node.cases ≡ [] → (one other : Option Part) → one ≡ other →
        option_map_or (policy_at tables) (option_map (place_of tables (top_place rows) node) one) no_policy
        ≡ option_map_or (policy_at tables) (option_map (place_of tables (top_place others) node) other) no_policy
    of_node node none one other is =
        ap (λ (o : Option Part). option_map_or (policy_at tables) (option_map (place_of tables (top_place rows) node) o) no_policy) is ∙ at other
      where
        at : (o : Option Part) → option_map_or (policy_at tables) (option_map (place_of tables (top_place rows) node) o) no_policy
            ≡ option_map_or (policy_at tables) (option_map (place_of tables (top_place others) node) o) no_policy
        at None = refl
        at (Some part) = ap (policy_at tables) (placed tables rows others node part none)

    by : (o : Option Node) → slice_get tables.nodes nacm ≡ o →
        option_map_or (policy_at tables) (option_and_then (λ node. option_map (place_of tables (top_place rows) node) (found node.kind rows)) o) no_policy
        ≡ option_map_or (policy_at tables) (option_and_then (λ node. option_map (place_of tables (top_place others) node) (found node.kind others)) o) no_policy
    by None e = refl
    by (Some node) e = of_node node (no_case node e) (found node.kind rows) (found node.kind others) (same node.kind)

-- ---- no row goes on by the container
none_onto : (step : Option Step) (row : Row) (ps : List Part) → is_of nacm (record { step = step; rows = row ∷ [] }) ≡ false → filter (is_of nacm) ps ≡ [] →
    filter (is_of nacm) (onto_first step row ps) ≡ []
none_onto step row [] off none = ap (λ b. cond b (record { step = step; rows = row ∷ [] } ∷ []) []) off
none_onto step row (part ∷ more) off none = by (is_same_next step part.step) (is_of nacm part) refl none
  where
    by : (b c : Bool) → is_of nacm part ≡ c → cond c (part ∷ filter (is_of nacm) more) (filter (is_of nacm) more) ≡ [] →
        filter (is_of nacm) (cond b (record { step = part.step; rows = row ∷ part.rows } ∷ more) (record { step = step; rows = row ∷ [] } ∷ part ∷ more)) ≡ []
    by b true e none = absurd (cc none)
    by true false e none = ap (λ c. cond c (record { step = part.step; rows = row ∷ part.rows } ∷ filter (is_of nacm) more) (filter (is_of nacm) more)) e ∙ none
    by false false e none =
        ap (λ c. cond c (record { step = step; rows = row ∷ [] } ∷ filter (is_of nacm) (part ∷ more)) (filter (is_of nacm) (part ∷ more))) off
        ∙ ap (λ c. cond c (part ∷ filter (is_of nacm) more) (filter (is_of nacm) more)) e ∙ none

none_there : (rows : List Row) → has_node rows [] nacm ≡ false → filter (is_of nacm) (parts 0 rows) ≡ []
none_there [] none = refl
none_there (row ∷ rows) none =
    none_onto (slice_get row.path.steps 0) row (parts 0 rows) (not_of row.path.steps (first (goes_by [] nacm row.path.steps) (has_node rows [] nacm) none))
    (none_there rows (second (goes_by [] nacm row.path.steps) (has_node rows [] nacm) none))
  where
    first : (a b : Bool) → (a || b) ≡ false → a ≡ false
    first true b e = absurd (cc e)
    first false b e = refl

    second : (a b : Bool) → (a || b) ≡ false → b ≡ false
    second true b e = absurd (cc e)
    second false b e = e

    not_of : (steps : List Step) → goes_by [] nacm steps ≡ false → is_same_number (option_map (λ step. step.node) (slice_get steps 0)) (Some nacm) ≡ false
    not_of [] e = refl
    not_of (step ∷ rest) e = e

pub none_read : (tables : Tables) (rows : List Row) → IsOfNoCase tables → has_node rows [] nacm ≡ false → policy_of tables [] ≡ policy_of tables rows
none_read tables rows no_case none = policy_same tables [] rows no_case same
  where
    same : (kind : Kind) → found kind [] ≡ found kind rows
    same (Container presence) = ap (λ ps. find test (or_empty presence nacm ps)) (sym (none_there rows none))
    same Leaf = refl
    same LeafList = refl
    same ListKind = ap (find test) (sym (none_there rows none))

-- ---- the rows of the container come first
abbrev front_part : List Row → Part
front_part rows = record { step = Some nacm_step; rows = rows }

abbrev found_in : Kind → List Row → Option Part
found_in (Container presence) front = Some (front_part front)
found_in Leaf front = None
found_in LeafList front = None
found_in ListKind front = Some (front_part front)

found_is : (rows front : List Row) (more : List Part) (kind : Kind) → parts 0 rows ≡ front_part front ∷ more → found kind rows ≡ found_in kind front
found_is rows front more (Container presence) is =
    ap (λ (ps : List Part). find test (or_empty presence nacm (filter (is_of nacm) ps))) is
found_is rows front more Leaf is = refl
found_is rows front more LeafList is = refl
found_is rows front more ListKind is = ap (λ (ps : List Part). find test (filter (is_of nacm) ps)) is

within_next : (rows : List Row) (at : ℕ) → next_at 0 rows at ≡ Some nacm_step → at < length rows
within_next [] zero is = absurd (cc is)
within_next [] (suc at) is = absurd (cc is)
within_next (row ∷ rows) zero is = omega arith
within_next (row ∷ rows) (suc at) is = let less = within_next rows at is in omega (arith, less)

next_take : (n k : ℕ) (rows : List Row) → k < n → next_at 0 (take n rows) k ≡ next_at 0 rows k
next_take zero k rows less = absurd (omega (arith, less))
next_take (suc n) zero [] less = refl
next_take (suc n) (suc k) [] less = refl
next_take (suc n) zero (row ∷ rows) less = refl
next_take (suc n) (suc k) (row ∷ rows) less = next_take n k rows (omega (arith, less))

leads : (steps : List Step) → slice_get steps 0 ≡ Some nacm_step → is_at_or_below (nacm_step ∷ []) (record { steps = steps }) ≡ true
leads [] is = absurd (cc is)
leads (step ∷ rest) is =
    (below_is_below (nacm_step ∷ []) (record { steps = step ∷ rest })).1
    (rest, ap (λ (o : Option Step). option_map_or (λ (one : Step). one) o nacm_step ∷ rest) is)

nothing : (rows : List Row) → length rows ≡ 0 → rows ≡ []
nothing [] long = refl
nothing (row ∷ rows) long = absurd (omega (arith, long))

block_front : (rows : List Row) (n : ℕ) → ((k : ℕ) → k < n → next_at 0 rows k ≡ Some nacm_step) → length (block_at rows (nacm_step ∷ [])) ≡ n → n ≤ length rows →
    block_at rows (nacm_step ∷ []) ≡ take n rows
block_front rows zero all long fits = nothing (block_at rows (nacm_step ∷ [])) long
block_front [] (suc n) all long fits = absurd (omega (arith, fits))
block_front (row ∷ rows) (suc n) all long fits =
    let is : block_at (row ∷ rows) (nacm_step ∷ []) ≡ row ∷ block_at rows (nacm_step ∷ []) =
    ap (λ b. cond b (row ∷ block_at rows (nacm_step ∷ [])) (block_at rows (nacm_step ∷ []))) (leads row.path.steps (all 0 (omega arith))) in
    let size : length (block_at (row ∷ rows) (nacm_step ∷ [])) ≡ suc (length (block_at rows (nacm_step ∷ []))) = ap length is in
    is ∙ ap (λ (rest : List Row). row ∷ rest)
    (block_front rows n (λ k less. all (suc k) (omega (arith, less))) (omega (arith, size, long)) (omega (arith, fits)))

pub front_read : (tables : Tables) (rows : List Row) (count : ℕ) → IsOfNoCase tables → IsFront rows count → count ≡ length (block_at rows (nacm_step ∷ [])) →
    policy_of tables (block_at rows (nacm_step ∷ [])) ≡ policy_of tables rows
front_read tables rows zero no_case front counted = let some = front.some in absurd (omega (arith, some))
front_read tables rows (suc n) no_case front counted = policy_same tables (block_at rows (nacm_step ∷ [])) rows no_case same
  where
    fits : suc n ≤ length rows
    fits = let last = within_next rows n (front.all n (omega arith)) in omega (arith, last)

    block_is : block_at rows (nacm_step ∷ []) ≡ take (suc n) rows
    block_is = block_front rows (suc n) front.all (sym counted) fits

    size : length (take (suc n) rows) ≡ suc n
    size = length-take-le (suc n) rows fits

    parts_all : parts 0 rows ≡ front_part (take (suc n) rows) ∷ parts 0 (drop (suc n) rows)
    parts_all = on_list 0 (suc n) rows (Some nacm_step) (omega arith) fits front.all (λ less. front.ends)

    parts_front : parts 0 (take (suc n) rows) ≡ front_part (take (suc n) (take (suc n) rows)) ∷ parts 0 (drop (suc n) (take (suc n) rows))
    parts_front =
        on_list 0 (suc n) (take (suc n) rows) (Some nacm_step) (omega arith) (omega (arith, size))
        (λ k less. next_take (suc n) k rows less ∙ front.all k less) (λ less. absurd (omega (arith, size, less)))

    whole : take (suc n) (take (suc n) rows) ≡ take (suc n) rows
    whole = take_all (suc n) (take (suc n) rows) (omega (arith, size))

    same : (kind : Kind) → found kind (block_at rows (nacm_step ∷ [])) ≡ found kind rows
    same kind =
        ap (found kind) block_is
        ∙ found_is (take (suc n) rows) (take (suc n) rows) (parts 0 (drop (suc n) (take (suc n) rows))) kind
        (parts_front ∙ ap (λ (front : List Row). front_part front ∷ parts 0 (drop (suc n) (take (suc n) rows))) whole)
        ∙ sym (found_is rows (take (suc n) rows) (parts 0 (drop (suc n) rows)) kind parts_all)
