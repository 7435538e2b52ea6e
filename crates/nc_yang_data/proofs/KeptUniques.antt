-- The `unique` leafs of lists where no rule is broken.
use Rattle.std.proofs.Common.{◌≡◌, ◌≢◌, ◌++◌, ◌==◌, not, ℕ, Bool, true, false, List, [], ◌∷◌, length, filter, nat_lt, Option, Some, None, refl, sym, ap, subst, ◌∙◌}
use Rattle.std.specs.Prelude.{IsFalse, IsSomeAnd, IsTrue, option_and_then, option_map, slice_get, if◌then◌else◌}
use Rattle.std.specs.List.{All, flat_map, slice_split}
use Rattle.std.specs.Option.{option_map_or}
use Rattle.std.proofs.lemmas.List.Elements.{All-cons, All-head, All-nil, All-tail}
use Rattle.std.proofs.lemmas.Option.{option_and_then_some}
use Rattle.nc_names.proofs.SameLemmas.{first_true, second_true}
use Rattle.nc_names.specs.Signs.{is_white, slash}
use Rattle.nc_schema.specs.Kinds.{holds_nodes, is_list}
use Rattle.nc_schema.specs.Proper.{HasItsUniques, IsContainer, IsUniqueIn}
use Rattle.nc_schema.specs.declared.node.Kind.TheVariants.{Leaf}
use Rattle.nc_schema.specs.declared.node.Node.{Node}
use Rattle.nc_yang_words.specs.declared.statement.Statement.{Statement}
use Rattle.nc_yang_statements.specs.Keywords.{is_same_keyword}
use Rattle.nc_yang_statements.specs.Rules.{at_if}
use Rattle.nc_yang_statements.specs.Statements.{below, kind, name}
use Rattle.nc_yang_statements.specs.declared.fault.ModuleWhy.TheVariants.{BadArgument, UnknownName}
use Rattle.nc_yang_statements.specs.declared.keyword.Keyword.TheVariants.{List as ListWord, Unique}
use Rattle.nc_yang_scopes.specs.Scopes.{Located, Scoping}
use Rattle.nc_yang_nodes.specs.Roles.{FeatureTest}
use Rattle.nc_yang_nodes.specs.declared.planned.Plan.{Plan}
use Rattle.nc_yang_data.specs.Data.{with_leafs}
use Rattle.nc_yang_data.specs.Leafs.{are_named, child_named, if_node, is_container, is_unique_leaf, leaf_below, leafs_by, local_name, names_case, node_behind, onward, unique_at, way_from}
use Rattle.nc_yang_data.specs.declared.leaf.Way.{Way}
use Rattle.nc_yang_data.specs.Lists.{has_none, keyless, list_faults, not_unique, unique_fault, unique_leafs, uniques_of}
use Rattle.nc_yang_data.specs.Places.{list_leafs, node_leafs}
use Rattle.nc_yang_data.specs.declared.naming.Naming.TheVariants.{Uniques}
use Rattle.nc_yang_data.specs.declared.place.Leafs.{Leafs}
use Rattle.nc_yang_data.proofs.Kept.{Known, alone, append_nothing, at_if_off, in_whole, parts_off, passed_by, whole}
use Rattle.nc_yang_data.proofs.KeptKeys.{leaf_is, named_there, passes, some_keys, there_each}

not_true : (b : Bool) → not b ≡ true → b ≡ false
not_true true e = absurd (cc)
not_true false e = refl

module _ (scoping : Scoping) (on : FeatureTest) (plan : Plan) (text : ℕ) where
  -- a child that passes a test
  record Passed (test : Node → Bool) (number child : ℕ) : Type 0 where
    x : Node
    there : slice_get (alone scoping on plan).nodes child ≡ Some x
    parent : x.parent ≡ Some number
    good : test x ≡ true

  -- names lead to a node in that to which they have led before
  behind_there : (way : Way) (local : List ℕ) (c : ℕ) → node_behind (alone scoping on plan) (names_case scoping on plan) way local ≡ Some c →
      (x : Node) × (slice_get (alone scoping on plan).nodes c ≡ Some x) × (x.parent ≡ Some way.node)
  behind_there way local c e =
      option_and_then_some (if_node (λ (node : Node). are_named (names_case scoping on plan) node.cases way.before) (alone scoping on plan)) (child_named (alone scoping on plan) way.node local) c e
      (λ child at is.
      let (good, same) = passes (option_map_or (λ (node : Node). are_named (names_case scoping on plan) node.cases way.before) (slice_get (alone scoping on plan).nodes child) false) child c is in
      let (x, there, parent) = named_there (alone scoping on plan) way.node local child at in
      (x, subst (λ m. slice_get (alone scoping on plan).nodes m ≡ Some x) same there, parent))

  passed_at : (test : Node → Bool) (way : Way) (local : List ℕ) (c child : ℕ) → node_behind (alone scoping on plan) (names_case scoping on plan) way local ≡ Some c →
      if_node test (alone scoping on plan) c ≡ Some child → Passed test way.node child
  passed_at test way local c child at is =
      let (good, same) = passes (option_map_or test (slice_get (alone scoping on plan).nodes c) false) c child is in
      let (y, here, passes_y) = passed_by test (slice_get (alone scoping on plan).nodes c) good in
      let (x, there, parent) = behind_there way local c at in
      let one : Some y ≡ Some x = sym here ∙ there in
      let yx : y ≡ x = cc in
      record {
        x = x;
        there = subst (λ m. slice_get (alone scoping on plan).nodes m ≡ Some x) same there;
        parent = parent;
        good = subst (λ (z : Node). test z ≡ true) yx passes_y;
      }

  child_in : (test : Node → Bool) (number child : ℕ) (P : Node → Type 0) (h : Passed test number child) →
      ((leafs : Leafs) → P (with_leafs h.x leafs)) → IsSomeAnd (slice_get (whole scoping on plan).nodes child) P
  child_in test number child P h is =
      let (leafs, here) = in_whole scoping on plan child h.x h.there in
      subst (λ o. IsSomeAnd o P) (sym here) (is leafs)

  -- a leaf by the last name
  leaf_last : (way : Way) (part : List ℕ) (leaf : ℕ) →
      option_and_then (if_node is_unique_leaf (alone scoping on plan)) (option_and_then (node_behind (alone scoping on plan) (names_case scoping on plan) way) (local_name scoping.texts text part)) ≡ Some leaf →
      IsUniqueIn (whole scoping on plan) way.node leaf
  leaf_last way part leaf e =
      option_and_then_some (if_node is_unique_leaf (alone scoping on plan)) (option_and_then (node_behind (alone scoping on plan) (names_case scoping on plan) way) (local_name scoping.texts text part)) leaf e
      (λ c found is.
      option_and_then_some (node_behind (alone scoping on plan) (names_case scoping on plan) way) (local_name scoping.texts text part) c found
      (λ local said at.
      let h = passed_at is_unique_leaf way local c leaf at is in
      record {
        kind = child_in is_unique_leaf way.node leaf (λ (node : Node). node.kind ≡ Leaf) h (λ leafs. leaf_is h.x.kind h.good);
        between = [];
        chain = (child_in is_unique_leaf way.node leaf (λ (node : Node). node.parent ≡ Some way.node) h (λ leafs. h.parent), _);
        containers = All-nil (IsContainer (whole scoping on plan));
      }))

  -- a container below a node, and a leaf below that
  in_container : (way : Way) (local : List ℕ) (c container leaf : ℕ) → node_behind (alone scoping on plan) (names_case scoping on plan) way local ≡ Some c →
      if_node is_container (alone scoping on plan) c ≡ Some container → IsUniqueIn (whole scoping on plan) container leaf → IsUniqueIn (whole scoping on plan) way.node leaf
  in_container way local c container leaf at is more =
      let h = passed_at is_container way local c container at is in
      record {
        kind = more.kind;
        between = container ∷ more.between;
        chain = (child_in is_container way.node container (λ (node : Node). node.parent ≡ Some way.node) h (λ leafs. h.parent), more.chain);
        containers =
            All-cons (IsContainer (whole scoping on plan)) container more.between
            (child_in is_container way.node container (λ (node : Node). IsTrue (holds_nodes node.kind) × IsFalse (is_list node.kind)) h
            (λ leafs. (
              first_true (holds_nodes h.x.kind) (not (is_list h.x.kind)) h.good,
              not_true (is_list h.x.kind) (second_true (holds_nodes h.x.kind) (not (is_list h.x.kind)) h.good),
            ))) more.containers;
      }

  -- a further name, and a leaf from where it leads
  onward_by : (way later : Way) (local : List ℕ) (leaf : ℕ) (o : Option ℕ) → node_behind (alone scoping on plan) (names_case scoping on plan) way local ≡ o →
      option_map_or (λ child. option_map way_from (if_node is_container (alone scoping on plan) child)) o (Some (record way { before = way.before ++ local ∷ [] })) ≡ Some later →
      IsUniqueIn (whole scoping on plan) later.node leaf → IsUniqueIn (whole scoping on plan) way.node leaf
  onward_by way later local leaf None at e more =
      let same : record way { before = way.before ++ local ∷ [] } ≡ later = cc in
      subst (λ (z : Way). IsUniqueIn (whole scoping on plan) z.node leaf) (sym same) more
  onward_by way later local leaf (Some c) at e more = inner (if_node is_container (alone scoping on plan) c) refl e
    where
      inner : (p : Option ℕ) → if_node is_container (alone scoping on plan) c ≡ p → option_map way_from p ≡ Some later → IsUniqueIn (whole scoping on plan) way.node leaf
      inner None is f = absurd (cc)
      inner (Some container) is f =
          let same : way_from container ≡ later = cc in
          in_container way local c container leaf at is (subst (λ (z : Way). IsUniqueIn (whole scoping on plan) z.node leaf) (sym same) more)

  leaf_chain : (parts : List (List ℕ)) (way : Way) (leaf : ℕ) → leaf_below scoping.texts (alone scoping on plan) (names_case scoping on plan) text way parts ≡ Some leaf →
      IsUniqueIn (whole scoping on plan) way.node leaf
  leaf_chain [] way leaf e = absurd (cc)
  leaf_chain (one ∷ []) way leaf e = leaf_last way one leaf e
  leaf_chain (one ∷ next ∷ parts) way leaf e =
      option_and_then_some (λ later. leaf_below scoping.texts (alone scoping on plan) (names_case scoping on plan) text later (next ∷ parts))
      (option_and_then (onward (alone scoping on plan) (names_case scoping on plan) way) (local_name scoping.texts text one)) leaf e
      (λ later found rest.
      option_and_then_some (onward (alone scoping on plan) (names_case scoping on plan) way) (local_name scoping.texts text one) later found
      (λ local said goes.
      onward_by way later local leaf (node_behind (alone scoping on plan) (names_case scoping on plan) way local) refl goes (leaf_chain (next ∷ parts) later leaf rest)))

  leafs_in : (number : ℕ) (leafs : List ℕ) → All (λ (leaf : ℕ). (word : List ℕ) × (unique_at scoping.texts (alone scoping on plan) (names_case scoping on plan) text number word ≡ Some leaf)) leafs →
      All (IsUniqueIn (whole scoping on plan) number) leafs
  leafs_in number [] h = All-nil (IsUniqueIn (whole scoping on plan) number)
  leafs_in number (leaf ∷ leafs) h =
      let (word, is) = All-head (λ (leaf : ℕ). (word : List ℕ) × (unique_at scoping.texts (alone scoping on plan) (names_case scoping on plan) text number word ≡ Some leaf)) leaf leafs h in
      All-cons (IsUniqueIn (whole scoping on plan) number) leaf leafs (leaf_chain (slice_split (λ c. c == slash) word) (way_from number) leaf is)
      (leafs_in number leafs (All-tail (λ (leaf : ℕ). (word : List ℕ) × (unique_at scoping.texts (alone scoping on plan) (names_case scoping on plan) text number word ≡ Some leaf)) leaf leafs h))

  -- those of one statement, before others
  one_more : (number : ℕ) (s : Statement) (rest : List (List ℕ)) → unique_fault scoping.texts (alone scoping on plan) (names_case scoping on plan) text number s ≡ [] →
      All (λ (leafs : List ℕ). (leafs ≢ []) × All (IsUniqueIn (whole scoping on plan) number) leafs) rest →
      All (λ (leafs : List ℕ). (leafs ≢ []) × All (IsUniqueIn (whole scoping on plan) number) leafs) (unique_leafs scoping.texts (alone scoping on plan) (names_case scoping on plan) text number s ++ rest)
  one_more number s rest off others = by (is_same_keyword Unique (kind s)) (leafs_by Uniques scoping.texts (alone scoping on plan) (names_case scoping on plan) text number (name s)) refl off
    where
      by : (b : Bool) (o : Option (List ℕ)) → leafs_by Uniques scoping.texts (alone scoping on plan) (names_case scoping on plan) text number (name s) ≡ o →
          (if b then option_map_or (λ leafs. at_if (has_none leafs) s BadArgument) o (at_if true s UnknownName) else []) ≡ [] →
          All (λ (leafs : List ℕ). (leafs ≢ []) × All (IsUniqueIn (whole scoping on plan) number) leafs)
          ((if b then option_map_or (λ leafs. leafs ∷ []) o [] else []) ++ rest)
      by false o is none = others
      by true None is none = absurd (cc)
      by true (Some leafs) is none =
          let some = at_if_off (has_none leafs) s BadArgument none in
          All-cons (λ (leafs : List ℕ). (leafs ≢ []) × All (IsUniqueIn (whole scoping on plan) number) leafs) leafs rest (
            some_keys leafs some,
            leafs_in number leafs
                (there_each (unique_at scoping.texts (alone scoping on plan) (names_case scoping on plan) text number) (filter (λ part. nat_lt 0 (length part)) (slice_split is_white (name s))) leafs is),
          )
          others

  each_of : (number : ℕ) (ss : List Statement) → flat_map (unique_fault scoping.texts (alone scoping on plan) (names_case scoping on plan) text number) ss ≡ [] →
      All (λ (leafs : List ℕ). (leafs ≢ []) × All (IsUniqueIn (whole scoping on plan) number) leafs) (flat_map (unique_leafs scoping.texts (alone scoping on plan) (names_case scoping on plan) text number) ss)
  each_of number [] off = All-nil (λ (leafs : List ℕ). (leafs ≢ []) × All (IsUniqueIn (whole scoping on plan) number) leafs)
  each_of number (s ∷ ss) off =
      let (one, more) =
      append_nothing (unique_fault scoping.texts (alone scoping on plan) (names_case scoping on plan) text number s) (flat_map (unique_fault scoping.texts (alone scoping on plan) (names_case scoping on plan) text number) ss) off in
      one_more number s (flat_map (unique_leafs scoping.texts (alone scoping on plan) (names_case scoping on plan) text number) ss) one (each_of number ss more)

module _ (scoping : Scoping) (on : FeatureTest) (plan : Plan) (number : ℕ) (node : Node) (k : Known scoping on plan number node) where
  uniques_are : node.uniques ≡ (node_leafs scoping.texts (alone scoping on plan) (names_case scoping on plan) k.l.place.text number k.l.statement).uniques
  uniques_are =
      ap (λ (n : Node). n.uniques) k.is
      ∙ ap (λ o. (option_map_or (λ (l : Located). node_leafs scoping.texts (alone scoping on plan) (names_case scoping on plan) l.place.text number l.statement) o (record { keys = []; uniques = [] })).uniques) k.located

  pub its_uniques : HasItsUniques (whole scoping on plan) number node
  its_uniques = by (is_same_keyword ListWord (kind k.l.statement)) refl
    where
      by : (b : Bool) → is_same_keyword ListWord (kind k.l.statement) ≡ b → HasItsUniques (whole scoping on plan) number node
      by false e =
          let none : node.uniques ≡ [] =
          uniques_are
          ∙ ap (λ b. (if b then list_leafs scoping.texts (alone scoping on plan) (names_case scoping on plan) k.l.place.text number k.l.statement else record { keys = []; uniques = [] }).uniques) e in
          subst (All (λ (leafs : List ℕ). (leafs ≢ []) × All (IsUniqueIn (whole scoping on plan) number) leafs)) (sym none)
          (All-nil (λ (leafs : List ℕ). (leafs ≢ []) × All (IsUniqueIn (whole scoping on plan) number) leafs))
      by true e =
          let off =
          sym (ap (λ b. if b then list_faults scoping.texts (alone scoping on plan) (names_case scoping on plan) k.l.place.text number k.l.statement else []) e)
          ∙ (parts_off scoping on plan number node k).3 in
          let more =
          (append_nothing (keyless scoping.texts (alone scoping on plan) (names_case scoping on plan) k.l.place.text number k.l.statement)
          (not_unique scoping.texts (alone scoping on plan) (names_case scoping on plan) k.l.place.text number k.l.statement) off).1 in
          let are : node.uniques ≡ uniques_of scoping.texts (alone scoping on plan) (names_case scoping on plan) k.l.place.text number k.l.statement =
          uniques_are
          ∙ ap (λ b. (if b then list_leafs scoping.texts (alone scoping on plan) (names_case scoping on plan) k.l.place.text number k.l.statement else record { keys = []; uniques = [] }).uniques) e in
          subst (All (λ (leafs : List ℕ). (leafs ≢ []) × All (IsUniqueIn (whole scoping on plan) number) leafs)) (sym are)
          (each_of scoping on plan k.l.place.text number (below k.l.statement) more)
