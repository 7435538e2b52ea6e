-- Where a filter leads by names to a list and asks there for all keys, it selects nothing outside of one entry.
use Rattle.std.proofs.Common.{◌≡◌, ◌≢◌, ◌⊎◌, ◌≤◌, ◌<◌, ◌+◌, ◌&&◌, ◌||◌, ◌∙◌, ℕ, Bool, true, false, cond, not, List, [], ◌∷◌, ◌++◌, Option, Some, None, zero, suc, length, take, refl, sym, ap, subst, inl, inr, arith}
use Rattle.std.specs.Prelude.{IsSomeAnd, slice_get, slice_index_or}
use Rattle.std.specs.Cmp.Lexicographic.{bytes_decides}
use Rattle.std.specs.List.{All, AllPairs, Contains, filter, last_or, list_all, list_any}
use Rattle.std.specs.Option.{option_map_or}
use Rattle.std.proofs.lemmas.Bool.{cases_lt}
use Rattle.std.proofs.lemmas.List.{append-nil, append_assoc, length-append}
use Rattle.std.proofs.lemmas.List.Elements.{All-contains, Contains-append_right}
use Rattle.std.proofs.lemmas.List.Folds.{Any-from_list_any}
use Rattle.std.proofs.lemmas.Option.{slice_get-get_or}
use Rattle.nc_names.proofs.StepOrder.{same_path}
use Rattle.nc_names.proofs.SameLemmas.{both_true}
use Rattle.nc_names.specs.Ends.{trimmed}
use Rattle.nc_names.specs.Same.{is_at_or_below, is_same_path, is_same_text}
use Rattle.nc_names.specs.declared.path.Row.{Row}
use Rattle.nc_names.specs.declared.path.Step.{Step}
use Rattle.nc_message.specs.declared.tree.Elem.{Elem}
use Rattle.nc_schema.specs.Blocks.{above_last}
use Rattle.nc_schema.specs.Configuration.{IsConfiguration, IsDataTree, StandsForItself, key_rows}
use Rattle.nc_schema.specs.Kinds.{has_entries}
use Rattle.nc_schema.specs.Order.{IsBefore, IsSystemOrdered}
use Rattle.nc_schema.specs.Paths.{HasAllKeys, IsPathOf, IsStepIn, LeadDown, key_count}
use Rattle.nc_schema.specs.Proper.{IsKeyIn, IsProperSchema}
use Rattle.nc_schema.specs.Standing.{block_at, has_row}
use Rattle.nc_schema.specs.Tables.{Tables}
use Rattle.nc_schema.specs.declared.node.Kind.{Kind}
use Rattle.nc_schema.specs.declared.node.Kind.TheVariants.{Container, Leaf, LeafList, List as ListKind}
use Rattle.nc_schema.specs.declared.node.Node.{Node}
use Rattle.nc_schema.proofs.TreeLemmas.{contains_cases}
use Rattle.nc_protocol.specs.Elements.{whole_text}
use Rattle.nc_protocol.specs.Filter.{has_no_attribute, holds, is_containment, is_content_match, is_of_name, is_of_node, is_of_text, level_of, meets, selected, selects}
use Rattle.nc_protocol.proofs.ListLemmas.{all_cons, contains_at, contains_behind, contains_more, contains_split, none_passes, some_same}
use Rattle.nc_protocol.proofs.PlaceLemmas.{below_is_below, last_of}
use Rattle.nc_filter.specs.inner.Entries.{AreClear, AskForAll, AsksFor, LeadIn, NamesChild, entry_path, number_has_entries}
use Rattle.nc_filter.specs.Within.{KeepsWithin}
use Rattle.nc_filter.specs.inner.Front.{AreBare, IsLone, LeadBy, is_met, is_near}
use Rattle.nc_filter.proofs.LoneLemmas.{above_split, lone_rows}
use Rattle.nc_filter.proofs.NearLemmas.{any_fewer, holds_meets, met_at, no_match, none_here, pick_one, selected_near, selects_holds}
use Rattle.nc_filter.proofs.RangeLemmas.{AreTrimmed, keys_are}

-- ---- lists and options

some_of : {X : Type 0} (o : Option X) (f : X → Bool) → option_map_or f o false ≡ true → (x : X) × (o ≡ Some x) × (f x ≡ true)
some_of None f e = absurd (cc e)
some_of (Some x) f e = (x, refl, e)

and_some : {X : Type 0} (o : Option X) (x : X) (P : X → Type 0) → o ≡ Some x → IsSomeAnd o P → P x
and_some {X = X} o x P is some = subst (λ (one : Option X). IsSomeAnd one P) is some

nothing : {X : Type 0} (xs : List X) → length xs ≡ 0 → xs ≡ []
nothing [] e = refl
nothing (x ∷ xs) e = absurd (omega (arith, e))

all_at : {X : Type 0} (P : X → Type 0) (xs : List X) (x : X) → All P xs → Contains xs x → P x
all_at P xs x all has = All-contains P xs x all has

some_passes : {X : Type 0} (p : X → Bool) (xs : List X) → list_any p xs ≡ true → (x : X) × Contains xs x × (p x ≡ true)
some_passes p xs e = let found = Any-from_list_any p xs e in (found.1, (found.0, found.2, found.3), found.4)

-- what is in a list that is filtered is in the list
kept_in : {X : Type 0} (t : X → Bool) (xs : List X) (x : X) → Contains (filter t xs) x → Contains xs x
kept_in t [] x has = absurd (omega (arith, has.1))
kept_in {X} t (y ∷ ys) x has = by (t y) has (kept_in t ys x)
  where
    by : (b : Bool) → Contains (cond b (y ∷ filter t ys) (filter t ys)) x → (Contains (filter t ys) x → Contains ys x) → Contains (y ∷ ys) x
    by false has rest = contains_behind y ys x (rest has)
    by true has rest = turn (contains_cases y (filter t ys) x has)
      where
        turn : (y ≡ x) ⊎ Contains (filter t ys) x → Contains (y ∷ ys) x
        turn (inl same) = (0, omega arith, same)
        turn (inr behind) = contains_behind y ys x (rest behind)

-- two tests in the one order and in the other
filter_swap : {X : Type 0} (p q : X → Bool) (xs : List X) → filter p (filter q xs) ≡ filter q (filter p xs)
filter_swap p q [] = refl
filter_swap {X} p q (x ∷ xs) = by (filter_swap p q xs) (p x) (q x) refl refl
  where
    by : filter p (filter q xs) ≡ filter q (filter p xs) → (b c : Bool) → p x ≡ b → q x ≡ c → filter p (cond c (x ∷ filter q xs) (filter q xs)) ≡ filter q (cond b (x ∷ filter p xs) (filter p xs))
    by rest true true e f = (λ i. cond (e i) (x ∷ filter p (filter q xs)) (filter p (filter q xs))) ∙ ap (λ ys. x ∷ ys) rest ∙ (λ i. cond (sym f i) (x ∷ filter q (filter p xs)) (filter q (filter p xs)))
    by rest true false e f = rest ∙ (λ i. cond (sym f i) (x ∷ filter q (filter p xs)) (filter q (filter p xs)))
    by rest false true e f = (λ i. cond (e i) (x ∷ filter p (filter q xs)) (filter p (filter q xs))) ∙ rest
    by rest false false e f = rest

index_same : {X : Type 0} (xs : List X) (n : ℕ) (a b : X) → n < length xs → slice_index_or xs n a ≡ slice_index_or xs n b
index_same xs n a b inside = some_same (slice_index_or xs n a) (slice_index_or xs n b) (sym (slice_get-get_or xs n a inside) ∙ slice_get-get_or xs n b inside)

-- rows of one path are one, where paths are apart
one_row : (rows : List Row) (row other : Row) → AllPairs (λ row later. row.path ≢ later.path) rows → Contains rows row → Contains rows other → row.path ≡ other.path → row ≡ other
one_row rows row other apart (i, within, here) (j, below, there) same = by (cases_lt i j) (cases_lt j i)
  where
    by : (i < j) ⊎ (j ≤ i) → (j < i) ⊎ (i ≤ j) → row ≡ other
    by (inl less) more = absurd (apart i j other less below
        (ap (λ (one : Row). one.path) (index_same rows i other row within ∙ here) ∙ same ∙ ap (λ (one : Row). one.path) (sym there)))
    by (inr more) (inl less) = absurd (apart j i row less within
        (ap (λ (one : Row). one.path) (index_same rows j row other below ∙ there) ∙ sym same ∙ ap (λ (one : Row). one.path) (sym here)))
    by (inr more) (inr less) =
        let is : i ≡ j = omega (arith, more, less) in
        sym here ∙ index_same rows i row other within ∙ ap (λ (n : ℕ). slice_index_or rows n other) is ∙ there

-- ---- names

is_three : (a b c d : Bool) → ((a && b) && (c || d)) ≡ true → c ≡ false → (b ≡ true) × (d ≡ true)
is_three true true true d e f = absurd (cc f)
is_three true true false d e f = (refl, e)
is_three true false c d e f = absurd (cc e)
is_three false b c d e f = absurd (cc e)

name_is : (elem : Elem) (node : Node) → elem.name.space ≢ [] → is_of_name elem node ≡ true → node.name ≡ elem.name
name_is elem node space is = (λ i. record { space = sym spaces i; name = sym names i })
  where
    none : (b : Bool) → is_same_text elem.name.space [] ≡ b → b ≡ false
    none true e = absurd (space ((bytes_decides elem.name.space []).0 e))
    none false e = refl

    both : (is_same_text elem.name.name node.name.name ≡ true) × (is_same_text elem.name.space node.name.space ≡ true)
    both = is_three (has_no_attribute elem.attrs) (is_same_text elem.name.name node.name.name) (is_same_text elem.name.space []) (is_same_text elem.name.space node.name.space) is
        (none (is_same_text elem.name.space []) refl)

    names : elem.name.name ≡ node.name.name
    names = (bytes_decides elem.name.name node.name.name).0 both.0

    spaces : elem.name.space ≡ node.name.space
    spaces = (bytes_decides elem.name.space node.name.space).0 both.1

-- an element names one data node among those in a node
named_is : (tables : Tables) → IsProperSchema tables → (parent : Option ℕ) (elem : Elem) (number : ℕ) → NamesChild tables parent elem number → (other : ℕ) (node : Node) →
    slice_get tables.nodes other ≡ Some node → node.parent ≡ parent → is_of_name elem node ≡ true → other ≡ number
named_is tables proper parent elem number (space, beside, beside_is, is_child) other node node_is above is =
    proper.places.siblings_apart other node node_is number beside beside_is (above ∙ sym is_child.0) (name_is elem node space is ∙ sym is_child.1)

-- steps have the names of elements
abbrev pub AreOf : Tables → List Elem → List Step → Type 0
AreOf tables [] [] = Unit {0}
AreOf tables (elem ∷ elems) (step ∷ steps) = (is_of_node tables elem step ≡ true) × AreOf tables elems steps
AreOf tables elems steps = ⊥

step_in : (tables : Tables) (proper : IsProperSchema tables) (parent : Option ℕ) (elem : Elem) (number : ℕ) (step : Step) → NamesChild tables parent elem number →
    is_of_node tables elem step ≡ true → IsStepIn tables parent step → step.node ≡ number
step_in tables proper parent elem number step names is inside =
    let found = some_of (slice_get tables.nodes step.node) (is_of_name elem) is in
    named_is tables proper parent elem number names step.node found.0 found.1
    (and_some (slice_get tables.nodes step.node) found.0 (λ (node : Node). (node.parent ≡ parent) × (HasAllKeys node step ⊎ (step.keys ≡ []))) found.1 inside).0 found.2

no_keys : (kind : Kind) (count : ℕ) → has_entries kind ≡ false → key_count kind count ≡ 0
no_keys (Container presence) count e = refl
no_keys Leaf count e = refl
no_keys LeafList count e = absurd (cc e)
no_keys ListKind count e = absurd (cc e)

abbrev IsInstance : Tables → Step → Type 0
IsInstance tables step = IsSomeAnd (slice_get tables.nodes step.node) (λ node. HasAllKeys node step)

keys_none : (tables : Tables) (step : Step) → IsInstance tables step → number_has_entries tables step.node ≡ false → step.keys ≡ []
keys_none tables step instance none = by (slice_get tables.nodes step.node) instance none
  where
    by : (o : Option Node) → IsSomeAnd o (λ node. HasAllKeys node step) → option_map_or (λ (node : Node). has_entries node.kind) o true ≡ false → step.keys ≡ []
    by None some e = absurd some
    by (Some node) some e = nothing step.keys (some ∙ no_keys node.kind (length node.keys) e)

-- steps to an instance are those to which names lead
chain : (tables : Tables) → IsProperSchema tables → (way : List Elem) (last : Elem) (above : List Step) (at parent : Option ℕ) (list : ℕ) (steps rest : List Step) →
    LeadIn tables at way above parent → NamesChild tables parent last list → AreOf tables (way ++ last ∷ []) steps → LeadDown tables at (steps ++ rest) →
    All (IsInstance tables) (steps ++ rest) → (keys : List (List ℕ)) × (steps ≡ above ++ record { node = list; keys = keys } ∷ [])
chain tables proper [] last [] at parent list [] rest leads names of down instances = absurd of
chain tables proper [] last [] at parent list (step ∷ []) rest leads names of down instances =
    (step.keys, (λ i. record { node = step_in tables proper parent last list step names of.0 (subst (λ (one : Option ℕ). IsStepIn tables one step) leads down.0) i; keys = step.keys } ∷ []))
chain tables proper [] last [] at parent list (step ∷ next ∷ steps) rest leads names of down instances = absurd of.1
chain tables proper [] last (over ∷ above) at parent list steps rest leads names of down instances = absurd leads
chain tables proper (elem ∷ way) last [] at parent list steps rest leads names of down instances = absurd leads
chain tables proper (elem ∷ way) last (over ∷ above) at parent list [] rest leads names of down instances = absurd of
chain tables proper (elem ∷ way) last (over ∷ above) at parent list (step ∷ steps) rest (named, no_entries, no_keys, leads) names of down instances =
    let further = chain tables proper way last above (Some over.node) parent list steps rest leads names of.1
    (subst (λ (n : ℕ). LeadDown tables (Some n) (steps ++ rest)) node_same down.1) (λ k d within. instances (suc k) d (omega (arith, within))) in
    (further.0, (λ i. record { node = node_same i; keys = keys_same i } ∷ further.1 i))
  where
    node_same : step.node ≡ over.node
    node_same = step_in tables proper at elem over.node step named of.0 down.0

    keys_same : step.keys ≡ over.keys
    keys_same =
        keys_none tables step (instances 0 step (omega arith)) (ap (number_has_entries tables) node_same ∙ no_entries) ∙ sym no_keys

lead_length : (tables : Tables) (way : List Elem) (above : List Step) (at parent : Option ℕ) → LeadIn tables at way above parent → length above ≡ length way
lead_length tables [] [] at parent leads = refl
lead_length tables [] (over ∷ above) at parent leads = absurd leads
lead_length tables (elem ∷ way) [] at parent leads = absurd leads
lead_length tables (elem ∷ way) (over ∷ above) at parent (named, no_entries, no_keys, leads) = ap suc (lead_length tables way above (Some over.node) parent leads)

-- the system orders what has no entries
system_of : (tables : Tables) → IsProperSchema tables → (number : ℕ) → number_has_entries tables number ≡ false → IsSystemOrdered tables number
system_of tables proper number none = by (slice_get tables.nodes number) refl none
  where
    free : (node : Node) → slice_get tables.nodes number ≡ Some node → has_entries node.kind ≡ false → (b : Bool) → node.by_user ≡ b → b ≡ false
    free node is none true e = let some : has_entries node.kind ≡ true = proper.places.by_user number node is e in absurd (cc (none, some))
    free node is none false e = refl

    by : (o : Option Node) → slice_get tables.nodes number ≡ o → option_map_or (λ (node : Node). has_entries node.kind) o true ≡ false → option_map_or (λ (node : Node). node.by_user) (slice_get tables.nodes number) false ≡ false
    by None is e = absurd (cc e)
    by (Some node) is e = ap (λ (one : Option Node). option_map_or (λ (node : Node). node.by_user) one false) is ∙ free node is e node.by_user refl

lead_system : (tables : Tables) → IsProperSchema tables → (way : List Elem) (above : List Step) (at parent : Option ℕ) → LeadIn tables at way above parent →
    All (λ step. IsSystemOrdered tables step.node) above
lead_system tables proper [] [] at parent leads = λ k d within. absurd (omega (arith, within))
lead_system tables proper [] (over ∷ above) at parent leads = absurd leads
lead_system tables proper (elem ∷ way) [] at parent leads = absurd leads
lead_system tables proper (elem ∷ way) (over ∷ above) at parent (named, no_entries, no_keys, leads) =
    all_cons (λ step. IsSystemOrdered tables step.node) over above (system_of tables proper over.node no_entries) (lead_system tables proper way above (Some over.node) parent leads)

-- ---- what is so of a row that is selected

second_is : (a b : Bool) → (a && b) ≡ true → (a ≡ true) × (b ≡ true)
second_is true b e = (refl, e)
second_is false b e = absurd (cc e)

pick_name : (h m c n t s : Bool) → m ≡ false → c ≡ true → (h && ((m && true) || ((n && cond m t (cond c s true)) || false))) ≡ true → n ≡ true
pick_name h true c n t s e f is = absurd (cc e)
pick_name h false false n t s e f is = absurd (cc f)
pick_name h false true true t s e f is = refl
pick_name true false true false t s e f is = absurd (cc is)
pick_name false false true false t s e f is = absurd (cc is)

-- its first steps have the names to which elements lead, and the content matches hold there
led_all : (tables : Tables) (rows : List Row) (row : Row) (way : List Elem) (from to : Elem) → LeadBy from way to → (above steps : List Step) →
    selects tables rows row (level_of from) above steps ≡ true →
    AreOf tables way (take (length way) steps) × (holds tables rows (above ++ take (length way) steps) (level_of to) ≡ true)
led_all tables rows row [] from to is above steps held =
    (tt, (λ i. holds tables rows (append-nil above i) (level_of (sym is i))) ∙ selects_holds tables rows row (level_of from) above steps held)
led_all tables rows row (one ∷ way) from to (only, is, rest) above [] held =
    absurd (none_here (holds tables rows above (one ∷ [])) (is_content_match one) (no_match one is)
    (ap (λ (level : List Elem). selects tables rows row level above []) (sym only) ∙ held))
led_all tables rows row (one ∷ way) from to (only, is, rest) above (step ∷ steps) held =
    let own = ap (λ (level : List Elem). selects tables rows row level above (step ∷ steps)) (sym only) ∙ held in
    let more = led_all tables rows row way one to rest (above ++ step ∷ []) steps
    (pick_one (holds tables rows above (one ∷ [])) (is_content_match one) (is_containment one) (is_of_node tables one step) (meets tables one above row)
    (selects tables rows row (level_of one) (above ++ step ∷ []) steps) (no_match one is) is own) in (
      (
        pick_name (holds tables rows above (one ∷ [])) (is_content_match one) (is_containment one) (is_of_node tables one step) (meets tables one above row)
            (selects tables rows row (level_of one) (above ++ step ∷ []) steps) (no_match one is) is own,
        more.0,
      ),
      ap (λ (over : List Step). holds tables rows over (level_of to)) (sym (append_assoc above (step ∷ []) (take (length way) steps))) ∙ more.1,
    )

all_more : {X : Type 0} (f g : X → Bool) (xs : List X) → ((x : X) → f x ≡ true → g x ≡ true) → list_all f xs ≡ true → list_all g xs ≡ true
all_more f g [] more all = all
all_more f g (x ∷ xs) more all =
    let both = second_is (f x) (list_all f xs) all in both_true (g x) (list_all g xs) (more x both.0) (all_more f g xs more both.1)

or_more : (a b c : Bool) → (b ≡ true → c ≡ true) → (a || b) ≡ true → (a || c) ≡ true
or_more true b c more e = refl
or_more false b c more e = more e

-- what holds among some rows holds among all
holds_more : (tables : Tables) (rows : List Row) (p : Row → Bool) (above : List Step) (level : List Elem) → holds tables (filter p rows) above level ≡ true → holds tables rows above level ≡ true
holds_more tables rows p above level held =
    all_more (λ elem. not (is_content_match elem) || list_any (meets tables elem above) (filter p rows)) (λ elem. not (is_content_match elem) || list_any (meets tables elem above) rows) level
    (λ elem is. or_more (not (is_content_match elem)) (list_any (meets tables elem above) (filter p rows)) (list_any (meets tables elem above) rows) (any_fewer (meets tables elem above) p rows) is) held

-- ---- the values of keys

-- a row of a key is among those of an entry
key_there : (entry : List Step) (keys : List ℕ) (values : List (List ℕ)) (place key : ℕ) → length values ≡ length keys → slice_get keys place ≡ Some key →
    (value : List ℕ) × (slice_get values place ≡ Some value)
    × Contains (key_rows entry keys values) (record { path = record { steps = entry ++ record { node = key; keys = [] } ∷ [] }; value = Some value })
key_there entry [] values place key len is = absurd (cc is)
key_there entry (first ∷ keys) [] place key len is = absurd (omega (arith, len))
key_there entry (first ∷ keys) (value ∷ values) zero key len is =
    (value, refl, (0, omega arith, (λ i. record { path = record { steps = entry ++ record { node = some_same first key is i; keys = [] } ∷ [] }; value = Some value })))
key_there entry (first ∷ keys) (value ∷ values) (suc place) key len is =
    let found = key_there entry keys values place key (omega (arith, len)) is in (
      found.0,
      found.1,
      contains_behind (record { path = record { steps = entry ++ record { node = first; keys = [] } ∷ [] }; value = Some value }) (key_rows entry keys values)
          (record { path = record { steps = entry ++ record { node = key; keys = [] } ∷ [] }; value = Some found.0 }) found.2,
    )

-- the row of a key has the key of its entry as its value
key_value : (tables : Tables) (rows : List Row) → IsDataTree tables rows → (above : List Step) (list : ℕ) (node : Node) (values : List (List ℕ)) → slice_get tables.nodes list ≡ Some node →
    node.kind ≡ ListKind → length values ≡ length node.keys → (row : Row) → Contains rows row → (place key : ℕ) → slice_get node.keys place ≡ Some key →
    row.path.steps ≡ (above ++ record { node = list; keys = values } ∷ []) ++ record { node = key; keys = [] } ∷ [] →
    (value : List ℕ) × (slice_get values place ≡ Some value) × (row.value ≡ Some value)
key_value tables rows tree above list node values node_is is_list len row has place key key_is steps_are = (there.0, there.1, (λ i. (same i).value))
  where
    entry : Step
    entry = record { node = list; keys = values }

    steps : List Step
    steps = above ++ entry ∷ []

    cut : (before : List Row) × (behind : List Row) × (rows ≡ before ++ row ∷ behind)
    cut = contains_split rows row has

    entry_row : Row
    entry_row = record { path = record { steps = steps }; value = None }

    stands : StandsForItself node.kind
    stands = subst StandsForItself (sym is_list) tt

    entry_before : Contains cut.0 entry_row
    entry_before = tree.ancestors cut.0 cut.1 row above entry (record { node = key; keys = [] }) [] node cut.2
        (steps_are ∙ append_assoc above (entry ∷ []) (record { node = key; keys = [] } ∷ [])) (steps, refl) node_is stands

    entry_in : Contains rows entry_row
    entry_in = subst (λ (xs : List Row). Contains xs entry_row) (sym cut.2) (contains_more cut.0 (row ∷ cut.1) entry_row entry_before)

    own : (before : List Row) × (behind : List Row) × (rows ≡ before ++ entry_row ∷ behind)
    own = contains_split rows entry_row entry_in

    follow : (rest : List Row) × (own.1 ≡ key_rows steps node.keys values ++ rest)
    follow = tree.keys own.0 own.1 entry_row above entry node own.2 (record { path = refl; node_is = node_is }) is_list

    there : (value : List ℕ) × (slice_get values place ≡ Some value)
        × Contains (key_rows steps node.keys values) (record { path = record { steps = steps ++ record { node = key; keys = [] } ∷ [] }; value = Some value })
    there = key_there steps node.keys values place key len key_is

    key_row : Row
    key_row = record { path = record { steps = steps ++ record { node = key; keys = [] } ∷ [] }; value = Some there.0 }

    key_behind : Contains own.1 key_row
    key_behind = subst (λ (xs : List Row). Contains xs key_row) (sym follow.1) (contains_more (key_rows steps node.keys values) follow.0 key_row there.2)

    key_in : Contains rows key_row
    key_in = subst (λ (xs : List Row). Contains xs key_row) (sym own.2) (Contains-append_right own.0 (entry_row ∷ own.1) key_row (contains_behind entry_row own.1 key_row key_behind))

    same : row ≡ key_row
    same = one_row rows row key_row tree.distinct has key_in (λ i. record { steps = steps_are i })

-- ---- the entry

-- steps that go on from a node lead into it
down_last : (tables : Tables) (at : Option ℕ) (above : List Step) (step next : Step) → LeadDown tables at ((above ++ step ∷ []) ++ next ∷ []) → IsStepIn tables (Some step.node) next
down_last tables at [] step next down = down.1.0
down_last tables at (over ∷ above) step next down = down_last tables (Some over.node) above step next down.1

instance_at : (tables : Tables) (above : List Step) (step : Step) (rest : List Step) → All (IsInstance tables) (above ++ step ∷ rest) → IsInstance tables step
instance_at tables above step rest all =
    all_at (IsInstance tables) (above ++ step ∷ rest) step all (Contains-append_right above (step ∷ rest) step (0, omega arith, refl))

-- a row meets a content match in an instance
record IsMet (tables : Tables) (rows : List Row) (elem : Elem) (inside : List Step) : Type 0 where
  row : Row
  has : Contains rows row
  step : Step
  steps : row.path.steps ≡ inside ++ step ∷ []
  of_node : is_of_node tables elem step ≡ true
  of_text : is_of_text elem row ≡ true

met_in : (tables : Tables) (rows : List Row) (inside : List Step) (level : List Elem) (elem : Elem) → holds tables rows inside level ≡ true → Contains level elem →
    is_content_match elem ≡ true → IsMet tables rows elem inside
met_in tables rows inside level elem held has is = go (above_split row.path.steps)
  where
    found : (row : Row) × Contains rows row × (meets tables elem inside row ≡ true)
    found = some_passes (meets tables elem inside) rows (holds_meets tables rows inside level elem has is held)

    row : Row
    row = found.0

    place : is_same_path (above_last row.path.steps) inside ≡ true
    place = (met_at tables row inside elem found.2).0

    like : (option_map_or (is_of_node tables elem) (last_or None row.path.steps) false ≡ true) × (is_of_text elem row ≡ true)
    like = second_is (option_map_or (is_of_node tables elem) (last_or None row.path.steps) false) (is_of_text elem row) (met_at tables row inside elem found.2).1

    last : (step : Step) × (last_or None row.path.steps ≡ Some step) × (is_of_node tables elem step ≡ true)
    last = some_of (last_or None row.path.steps) (is_of_node tables elem) like.0

    go : (last_or None row.path.steps ≡ None) ⊎ ((step : Step) × (row.path.steps ≡ above_last row.path.steps ++ step ∷ [])) → IsMet tables rows elem inside
    go (inl none) = absurd (cc (none, last.1))
    go (inr (step, split)) = record {
      row = row;
      has = found.1;
      step = step;
      steps = split ∙ ap (λ (over : List Step). over ++ step ∷ []) (same_path (above_last row.path.steps) inside place);
      of_node = subst (λ (one : Step). is_of_node tables elem one ≡ true) (sym step_is) last.2;
      of_text = like.1;
    }
      where
        step_is : step ≡ last.0
        step_is = some_same step last.0 (sym (last_of None (above_last row.path.steps) step) ∙ ap (last_or None) (sym split) ∙ last.1)

-- keys whose texts are asked for
all_trimmed : (tables : Tables) (level : List Elem) (list : ℕ) (keys : List ℕ) (texts values : List (List ℕ)) → length values ≡ length keys → AskForAll tables level list keys texts →
    ((place key : ℕ) (text : List ℕ) → slice_get keys place ≡ Some key → AsksFor tables level list key text → (value : List ℕ) × (slice_get values place ≡ Some value) × (trimmed value ≡ text)) →
    AreTrimmed values texts
all_trimmed tables level list [] [] [] len asks each = tt
all_trimmed tables level list [] [] (value ∷ values) len asks each = absurd (omega (arith, len))
all_trimmed tables level list [] (text ∷ texts) values len asks each = absurd asks
all_trimmed tables level list (key ∷ keys) [] values len asks each = absurd asks
all_trimmed tables level list (key ∷ keys) (text ∷ texts) [] len asks each = absurd (omega (arith, len))
all_trimmed tables level list (key ∷ keys) (text ∷ texts) (value ∷ values) len (ask, asks) each =
    let first = each 0 key text refl ask in (
      ap trimmed (some_same value first.0 first.1) ∙ first.2,
      all_trimmed tables level list keys texts values (omega (arith, len)) asks (λ place other words is one. each (suc place) other words is one),
    )

first_asked : (tables : Tables) (level : List Elem) (list : ℕ) (keys : List ℕ) (texts : List (List ℕ)) → keys ≢ [] → AskForAll tables level list keys texts →
    (elem : Elem) × Contains level elem × (is_content_match elem ≡ true)
first_asked tables level list [] texts some asks = absurd (some refl)
first_asked tables level list (key ∷ keys) [] some asks = absurd asks
first_asked tables level list (key ∷ keys) (text ∷ texts) some ((elem, has, is, named, text_is), asks) = (elem, has, is)

module _ (tables : Tables) (proper : IsProperSchema tables) (all : List Row) (ordered : AllPairs (λ row later. ¬ IsBefore tables later.path row.path) all)
    (rows : List Row) (tree : IsDataTree tables rows) (inside : (row : Row) → Contains rows row → Contains all row)
    (from last : Elem) (way : List Elem) (above : List Step) (parent : Option ℕ) (list : ℕ) (node : Node) (texts : List (List ℕ))
    (is_way : LeadBy from (way ++ last ∷ []) last) (leads : LeadIn tables None way above parent) (names : NamesChild tables parent last list)
    (node_is : slice_get tables.nodes list ≡ Some node) (is_list : node.kind ≡ ListKind) (system : IsSystemOrdered tables list)
    (asked : AskForAll tables (level_of last) list node.keys texts) (clear : AreClear tables all above list [] texts) where
  abbrev whole_way : List Elem
  whole_way = way ++ last ∷ []

  abbrev top : List Step
  top = above ++ record { node = list; keys = texts } ∷ []

  -- the instance in which a row is selected, where the content matches of the level hold
  module _ (entry : List Step) (of_way : AreOf tables whole_way entry) (held : holds tables rows entry (level_of last) ≡ true) where
    has_keys : node.keys ≢ []
    has_keys = (proper.places.keys list node node_is).some.0 is_list

    one : (elem : Elem) × Contains (level_of last) elem × (is_content_match elem ≡ true)
    one = first_asked tables (level_of last) list node.keys texts has_keys asked

    met : IsMet tables rows one.0 entry
    met = met_in tables rows entry (level_of last) one.0 held one.1 one.2

    down_of : (elem : Elem) (found : IsMet tables rows elem entry) → LeadDown tables None (entry ++ found.step ∷ [])
    down_of elem found =
        let path : IsPathOf tables found.row.path = all_at (λ (row : Row). IsPathOf tables row.path) rows found.row tree.paths found.has in
        subst (LeadDown tables None) found.steps path.names.down

    instances_of : (elem : Elem) (found : IsMet tables rows elem entry) → All (IsInstance tables) (entry ++ found.step ∷ [])
    instances_of elem found =
        let path : IsPathOf tables found.row.path = all_at (λ (row : Row). IsPathOf tables row.path) rows found.row tree.paths found.has in
        subst (All (IsInstance tables)) found.steps path.instances

    chained : (keys : List (List ℕ)) × (entry ≡ above ++ record { node = list; keys = keys } ∷ [])
    chained = chain tables proper way last above None parent list entry (met.step ∷ []) leads names of_way (down_of one.0 met) (instances_of one.0 met)

    keys : List (List ℕ)
    keys = chained.0

    own : Step
    own = record { node = list; keys = keys }

    count : length keys ≡ length node.keys
    unfolding own keys chained
    count =
        and_some (slice_get tables.nodes list) node (λ (it : Node). HasAllKeys it own) node_is
        (instance_at tables above own (met.step ∷ []) (subst (All (IsInstance tables)) (append_assoc above (own ∷ []) (met.step ∷ []))
        (subst (λ (steps : List Step). All (IsInstance tables) (steps ++ met.step ∷ [])) chained.1 (instances_of one.0 met))))
        ∙ ap (λ (kind : Kind). key_count kind (length node.keys)) is_list

    -- each key is the text that is asked for, but for white space
    each : (place key : ℕ) (text : List ℕ) → slice_get node.keys place ≡ Some key → AsksFor tables (level_of last) list key text →
        (value : List ℕ) × (slice_get keys place ≡ Some value) × (trimmed value ≡ text)
    unfolding own keys chained
    each place key text key_is (elem, has, is, named, text_is) = (value.0, value.1, trim)
      where
        found : IsMet tables rows elem entry
        found = met_in tables rows entry (level_of last) elem held has is

        step_there : IsStepIn tables (Some list) found.step
        step_there = down_last tables None above own found.step (subst (λ (steps : List Step). LeadDown tables None (steps ++ found.step ∷ [])) chained.1 (down_of elem found))

        number_is : found.step.node ≡ key
        number_is = step_in tables proper (Some list) elem key found.step named found.of_node step_there

        key_node : (it : Node) × (slice_get tables.nodes key ≡ Some it) × (it.kind ≡ Leaf)
        key_node = go (slice_get tables.nodes key) refl
            (all_at (λ (one : ℕ). IsSomeAnd (slice_get tables.nodes one) (IsKeyIn list)) node.keys key (proper.places.keys list node node_is).leafs (contains_at node.keys place key key_is))
          where
            go : (o : Option Node) → slice_get tables.nodes key ≡ o → IsSomeAnd o (IsKeyIn list) → (it : Node) × (slice_get tables.nodes key ≡ Some it) × (it.kind ≡ Leaf)
            go None e some = absurd some
            go (Some it) e some = (it, e, some.kind)

        bare : found.step.keys ≡ []
        bare = nothing found.step.keys
            (and_some (slice_get tables.nodes found.step.node) key_node.0 (λ (it : Node). HasAllKeys it found.step) (ap (slice_get tables.nodes) number_is ∙ key_node.1)
            (instance_at tables entry found.step [] (instances_of elem found))
            ∙ ap (λ (kind : Kind). key_count kind (length key_node.0.keys)) key_node.2)

        steps_are : found.row.path.steps ≡ (above ++ own ∷ []) ++ record { node = key; keys = [] } ∷ []
        steps_are = found.steps ∙ (λ i. chained.1 i ++ record { node = number_is i; keys = bare i } ∷ [])

        value : (value : List ℕ) × (slice_get keys place ≡ Some value) × (found.row.value ≡ Some value)
        value = key_value tables rows tree above list node keys node_is is_list count found.row found.has place key key_is steps_are

        same_text : is_same_text (trimmed value.0) (trimmed (whole_text elem.parts)) ≡ true
        same_text = subst (λ (o : Option (List ℕ)). option_map_or (λ it. is_same_text (trimmed it) (trimmed (whole_text elem.parts))) o false ≡ true) value.2 found.of_text

        trim : trimmed value.0 ≡ text
        trim = (bytes_decides (trimmed value.0) (trimmed (whole_text elem.parts))).0 same_text ∙ sym text_is

    keys_same : keys ≡ texts
    unfolding own keys chained
    keys_same =
        keys_are tables all above list (lead_system tables proper way above None parent leads) system ordered met.row (inside met.row met.has) keys (met.step ∷ [])
        (met.steps ∙ ap (λ (steps : List Step). steps ++ met.step ∷ []) chained.1 ∙ append_assoc above (own ∷ []) (met.step ∷ []))
        [] keys texts refl (all_trimmed tables (level_of last) list node.keys texts keys count asked each) clear

    is_top : entry ≡ top
    unfolding keys chained
    is_top = chained.1 ∙ ap (λ (names : List (List ℕ)). above ++ record { node = list; keys = names } ∷ []) keys_same

  -- a row is selected in that entry alone, of all rows and of some of them
  in_top : (row : Row) → selects tables rows row (level_of from) [] row.path.steps ≡ true → take (length whole_way) row.path.steps ≡ top
  in_top row is =
      let led = led_all tables rows row whole_way from last is_way [] row.path.steps is in
      is_top (take (length whole_way) row.path.steps) led.0 led.1

  in_top_some : (p : Row → Bool) (row : Row) → selects tables (filter p rows) row (level_of from) [] row.path.steps ≡ true → take (length whole_way) row.path.steps ≡ top
  in_top_some p row is =
      let led = led_all tables (filter p rows) row whole_way from last is_way [] row.path.steps is in
      is_top (take (length whole_way) row.path.steps) led.0 (holds_more tables rows p (take (length whole_way) row.path.steps) (level_of last) led.1)

  abbrev likes : List Row
  likes = record { path = record { steps = top }; value = None } ∷ []

  itself : is_at_or_below top (record { steps = top }) ≡ true
  itself = (below_is_below top (record { steps = top })).1 ([], sym (append-nil top))

  near_top : (row : Row) → take (length whole_way) row.path.steps ≡ top → is_near likes (length whole_way) row.path.steps ≡ true
  near_top row is = ap (λ (steps : List Step). is_at_or_below steps (record { steps = top }) || false) is ∙ ap (λ b. b || false) itself

  bare_here : AreBare tables all top → AreBare tables rows top
  bare_here bare depth less = (none (has_row rows (take depth top)) refl, (bare depth less).1)
    where
      there : Row → Bool
      there row = is_same_path row.path.steps (take depth top)

      none : (b : Bool) → has_row rows (take depth top) ≡ b → b ≡ false
      none true e =
          let found = some_passes there rows e in
          let away : there found.0 ≡ false = none_passes there all found.0 (bare depth less).0 (inside found.0 found.1) in
          let here : there found.0 ≡ true = found.2 in
          absurd (cc (away, here))
      none false e = refl

  pub alone : AreBare tables all top → selected tables from (block_at rows top) ≡ selected tables from rows
  alone bare =
      ap (selected tables from) (lone_rows tables rows likes (length whole_way) top lone)
      ∙ selected_near tables rows likes from last whole_way is_way (λ row is. near_top row (in_top row is))
      (λ row is. near_top row (in_top_some (is_met tables likes (length whole_way)) row is))
    where
      len : length top ≡ length whole_way
      len =
          length-append above (record { node = list; keys = texts } ∷ []) ∙ ap (λ n. n + 1) (lead_length tables way above None parent leads)
          ∙ sym (length-append way (last ∷ []))

      lone : IsLone tables rows likes (length whole_way) top
      lone = (len, ap (λ b. b && true) itself, bare_here bare)

-- what a filter keeps stands in that entry, also where rows are left out
pub keeps_within : (tables : Tables) → IsProperSchema tables → (rows : List Row) → IsConfiguration tables rows → (from last : Elem) (way : List Elem) (above : List Step) (parent : Option ℕ)
    (list : ℕ) (node : Node) (texts : List (List ℕ)) → LeadBy from (way ++ last ∷ []) last → LeadIn tables None way above parent → NamesChild tables parent last list →
    slice_get tables.nodes list ≡ Some node → node.kind ≡ ListKind → IsSystemOrdered tables list → AskForAll tables (level_of last) list node.keys texts →
    AreClear tables rows above list [] texts → AreBare tables rows (entry_path above list texts).steps → KeepsWithin tables from rows (entry_path above list texts)
keeps_within tables proper rows config from last way above parent list node texts is_way leads names node_is is_list system asked clear bare test seen =
    sym (ap (selected tables from) (filter_swap test (λ row. is_at_or_below (entry_path above list texts).steps row.path) rows)
    ∙ alone tables proper rows config.tree.ordered (filter test rows) seen.tree (kept_in test rows) from last way above parent list node texts is_way leads names node_is is_list system asked clear bare)
