-- Places that are sought, gathered one child, or one instance, after another.
use Rattle.std.proofs.Common.{◌≡◌, ◌||◌, ◌+◌, ◌++◌, ℕ, Bool, true, false, cond, ltb, List, [], ◌∷◌, Option, Some, None, map, drop, refl, sym, ap, subst, ◌∙◌, append_assoc, if◌then◌else◌}
use Rattle.std.specs.List.{filter, flat_map, list_any}
use Rattle.std.specs.Option.{option_map_or}
use Rattle.std.specs.Prelude.{slice_get, IfSome}
use Rattle.std.proofs.lemmas.Bool.Decides.{Decides-eqb}
use Rattle.std.proofs.lemmas.List.{append-nil}
use Rattle.std.proofs.lemmas.List.Elements.{filter-append}
use Rattle.nc_schema.specs.Children.{is_same_number}
use Rattle.nc_schema.specs.Places.{Part, Place, is_of, node_there, or_empty, parts_of, parts_there, place_of, place_parts, places_among, places_of}
use Rattle.nc_schema.specs.Tables.{Tables}
use Rattle.nc_schema.specs.declared.node.Kind.{Kind}
use Rattle.nc_schema.specs.declared.node.Kind.TheVariants.{Container, Leaf, LeafList, List as ListKind}
use Rattle.nc_schema.specs.declared.node.Node.{Node}
use Rattle.nc_defaults.specs.Sought.{AreUpward, is_sought, sought}
use Rattle.nc_defaults.specs.inner.Walks.{places_at, places_at_all, places_with}
use Rattle.nc_defaults.proofs.ListLemmas.{here_of, later_of, same_number}
use Rattle.nc_defaults.proofs.SpanLemmas.{node_below}

-- ---- without marks
all_sought : (parent : Option ℕ) → is_sought [] parent ≡ true
all_sought None = refl
all_sought (Some number) = refl

pub sought_all : (places : List Place) → sought [] places ≡ places
sought_all [] = refl
sought_all (place ∷ places) =
    ap (λ b. cond b (place ∷ sought [] places) (sought [] places)) (all_sought (node_there place)) ∙ ap (λ ps. place ∷ ps) (sought_all places)

pub upward_all : (nodes : List Node) → AreUpward nodes []
upward_all nodes number = by (slice_get nodes number)
  where
    by : (o : Option Node) → IfSome o (λ node. is_sought [] node.parent ≡ false → is_sought [] (Some number) ≡ false)
    by None = tt
    by (Some node) = λ none. absurd (let clash : true ≡ false = sym (all_sought node.parent) ∙ none in cc)

pub same_without : (places others : List Place) → sought [] places ≡ sought [] others → places ≡ others
same_without places others same = sym (sought_all places) ∙ same ∙ sought_all others

-- ---- more places
abbrev there : List Bool → Place → Bool
there marks place = is_sought marks (node_there place)

pub sought_more : (marks : List Bool) (places others more : List Place) → sought marks places ≡ sought marks others → sought marks (places ++ more) ≡ sought marks (others ++ more)
sought_more marks places others more same =
    filter-append (there marks) places more ∙ ap (λ ps. ps ++ sought marks more) same ∙ sym (filter-append (there marks) others more)

pub gathered_sought : (marks : List Bool) (out more all rest whole new : List Place) → sought marks new ≡ sought marks (out ++ more) → all ≡ more ++ rest →
    sought marks (out ++ all) ≡ whole → sought marks (new ++ rest) ≡ whole
gathered_sought marks out more all rest whole new is split so_far =
    sought_more marks new (out ++ more) rest is ∙ ap (sought marks) (append_assoc out more rest ∙ ap (λ xs. out ++ xs) (sym split)) ∙ so_far

pub skipped : (marks : List Bool) (out more : List Place) → sought marks more ≡ [] → sought marks out ≡ sought marks (out ++ more)
skipped marks out more none =
    sym (filter-append (there marks) out more ∙ ap (λ ps. sought marks out ++ ps) none ∙ append-nil (sought marks out))

-- ---- none of a data node that is not sought
-- one instance, with the places below it
one_none : (tables : Tables) (marks : List Bool) (place : Place) (number : ℕ) (node : Node) (later : List Node) (part : Part) (rest : List Place) →
    ((below : Place) → is_sought marks (node_there below) ≡ false → sought marks (places_among tables below (number + 1) later) ≡ []) →
    is_sought marks (Some number) ≡ false → is_of number part ≡ true → sought marks rest ≡ [] →
    sought marks ((place_of tables place node part ∷ places_among tables (place_of tables place node part) (number + 1) later) ++ rest) ≡ []
one_none tables marks place number node later part rest below_none unsought is none =
    let below : Place = place_of tables place node part in
    let under : List Place = places_among tables below (number + 1) later in
    let not_there : there marks below ≡ false = ap (is_sought marks) (node_below tables place number node part is) ∙ unsought in
    ap (λ b. cond b (below ∷ sought marks (under ++ rest)) (sought marks (under ++ rest))) not_there
    ∙ filter-append (there marks) under rest
    ∙ (λ i. below_none below not_there i ++ none i)

-- all instances among some parts
parts_none : (tables : Tables) (marks : List Bool) (place : Place) (number : ℕ) (node : Node) (later : List Node) (parts : List Part) →
    ((below : Place) → is_sought marks (node_there below) ≡ false → sought marks (places_among tables below (number + 1) later) ≡ []) →
    is_sought marks (Some number) ≡ false →
    sought marks (flat_map (λ below. below ∷ places_among tables below (number + 1) later) (map (place_of tables place node) (filter (is_of number) parts))) ≡ []
parts_none tables marks place number node later [] below_none unsought = refl
parts_none tables marks place number node later (part ∷ parts) below_none unsought =
    by (is_of number part) refl (parts_none tables marks place number node later parts below_none unsought)
  where
    all : List Part → List Place
    all ps = flat_map (λ below. below ∷ places_among tables below (number + 1) later) (map (place_of tables place node) ps)

    by : (b : Bool) → is_of number part ≡ b → sought marks (all (filter (is_of number) parts)) ≡ [] →
        sought marks (all (cond b (part ∷ filter (is_of number) parts) (filter (is_of number) parts))) ≡ []
    by true is none = one_none tables marks place number node later part (all (filter (is_of number) parts)) below_none unsought is none
    by false is none = none

-- all instances that are places
instances_none : (tables : Tables) (marks : List Bool) (place : Place) (number : ℕ) (node : Node) (later : List Node) (kind : Kind) →
    ((below : Place) → is_sought marks (node_there below) ≡ false → sought marks (places_among tables below (number + 1) later) ≡ []) →
    is_sought marks (Some number) ≡ false →
    sought marks (flat_map (λ below. below ∷ places_among tables below (number + 1) later) (map (place_of tables place node) (place_parts place number kind))) ≡ []
instances_none tables marks place number node later (Container presence) below_none unsought =
    or_none presence (parts_of place number) (parts_none tables marks place number node later (parts_there place) below_none unsought)
  where
    all : List Part → List Place
    all ps = flat_map (λ below. below ∷ places_among tables below (number + 1) later) (map (place_of tables place node) ps)

    or_none : (presence : Bool) (ps : List Part) → sought marks (all ps) ≡ [] → sought marks (all (or_empty presence number ps)) ≡ []
    or_none true [] none = refl
    or_none false [] none =
        one_none tables marks place number node later (record { step = Some (record { node = number; keys = [] }); rows = [] }) [] below_none unsought ((Decides-eqb number number).1 refl) refl
    or_none presence (p ∷ ps) none = none
instances_none tables marks place number node later Leaf below_none unsought = refl
instances_none tables marks place number node later LeafList below_none unsought = refl
instances_none tables marks place number node later ListKind below_none unsought = parts_none tables marks place number node later (parts_there place) below_none unsought

-- below a place that is not sought
none_among : (tables : Tables) (marks : List Bool) (place : Place) (number : ℕ) (later : List Node) → AreUpward tables.nodes marks → drop number tables.nodes ≡ later →
    is_sought marks (node_there place) ≡ false → sought marks (places_among tables place number later) ≡ []
none_among tables marks place number [] upward is unsought = refl
none_among tables marks place number (node ∷ later) upward is unsought =
    let here : List Place = if is_same_number node.parent (node_there place) then places_of tables place number node else [] in
    let next = later_of tables.nodes number node later is in
    filter-append (there marks) (flat_map (λ below. below ∷ places_among tables below (number + 1) later) here) (places_among tables place (number + 1) later)
    ∙ (λ i. by (is_same_number node.parent (node_there place)) refl (λ below missing. none_among tables marks below (number + 1) later upward next missing) i
    ++ none_among tables marks place (number + 1) later upward next unsought i)
  where
    by : (b : Bool) → is_same_number node.parent (node_there place) ≡ b →
        ((below : Place) → is_sought marks (node_there below) ≡ false → sought marks (places_among tables below (number + 1) later) ≡ []) →
        sought marks (flat_map (λ below. below ∷ places_among tables below (number + 1) later) (if b then places_of tables place number node else [])) ≡ []
    by true same below_none =
        instances_none tables marks place number node later node.kind below_none
        (subst (λ (o : Option Node). IfSome o (λ n. is_sought marks n.parent ≡ false → is_sought marks (Some number) ≡ false)) (here_of tables.nodes number node later is) (upward number)
        (ap (is_sought marks) (same_number node.parent (node_there place) same) ∙ unsought))
    by false same below_none = refl

-- nothing of a data node that is not sought
pub unsought_at : (tables : Tables) (marks : List Bool) (place : Place) (number : ℕ) → AreUpward tables.nodes marks → is_sought marks (Some number) ≡ false →
    sought marks (places_at tables place number) ≡ []
unsought_at tables marks place number upward unsought = by (slice_get tables.nodes number)
  where
    by : (o : Option Node) → sought marks (option_map_or (λ node. places_with tables place number node (place_parts place number node.kind)) o []) ≡ []
    by None = refl
    by (Some node) = instances_none tables marks place number node (drop (number + 1) tables.nodes) node.kind
        (λ below missing. none_among tables marks below (number + 1) (drop (number + 1) tables.nodes) upward refl missing) unsought

neither : (a b : Bool) → (a || b) ≡ false → (a ≡ false) × (b ≡ false)
neither true b e = absurd (let clash : true ≡ false = e in cc)
neither false b e = (refl, e)

-- nor of some data nodes none of which is
pub unsought_all : (tables : Tables) (marks : List Bool) (place : Place) (number : ℕ) (children : List ℕ) → AreUpward tables.nodes marks →
    list_any (λ child. is_sought marks (Some child)) children ≡ false → sought marks (places_at_all tables place number children) ≡ []
unsought_all tables marks place number [] upward none = refl
unsought_all tables marks place number (child ∷ children) upward none =
    let both = neither (is_sought marks (Some child)) (list_any (λ one. is_sought marks (Some one)) children) none in
    filter-append (there marks) (if ltb child number then [] else places_at tables place child) (places_at_all tables place number children)
    ∙ (λ i. by (ltb child number) (unsought_at tables marks place child upward both.0) i ++ unsought_all tables marks place number children upward both.1 i)
  where
    by : (b : Bool) → sought marks (places_at tables place child) ≡ [] → sought marks (if b then [] else places_at tables place child) ≡ []
    by true none = refl
    by false none = none
