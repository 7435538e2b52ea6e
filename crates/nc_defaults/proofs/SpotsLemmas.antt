-- Places gathered one child, or one instance, after another.
use Rattle.std.proofs.Common.{◌≡◌, ◌==◌, ◌&&◌, ◌+◌, ◌++◌, ◌<◌, ◌≤◌, ℕ, zero, suc, Bool, true, false, cond, ltb, List, [], ◌∷◌, Option, Some, None, length, drop, get_or, refl, sym, ap, ◌∙◌, arith, append_assoc, if◌then◌else◌}
use Rattle.std.proofs.lemmas.Bool.Decides.{nat_tests}
use Rattle.std.proofs.lemmas.List.{append-nil, drop_all, drop_more}
use Rattle.std.specs.List.{filter, flat_map}
use Rattle.std.specs.Option.{option_map_or}
use Rattle.std.specs.Prelude.{slice_get}
use Rattle.nc_schema.specs.Children.{is_same_number}
use Rattle.nc_schema.specs.Kinds.{holds_nodes, is_plain_container}
use Rattle.nc_schema.specs.Places.{Part, Place, is_of, node_there, or_empty, parts_of, place_of, place_parts, places_among, places_of}
use Rattle.nc_schema.specs.Tables.{Tables}
use Rattle.nc_schema.specs.declared.node.Kind.{Kind}
use Rattle.nc_schema.specs.declared.node.Kind.TheVariants.{Container, Leaf, LeafList, List as ListKind}
use Rattle.nc_schema.specs.declared.node.Node.{Node}
use Rattle.nc_names.specs.declared.path.Row.{Row}
use Rattle.nc_defaults.specs.Children.{children_among, children_of}
use Rattle.nc_defaults.specs.Within.{rows_between}
use Rattle.nc_defaults.proofs.ListLemmas.{among_next, here_of, later_of, none_dropped}
use Rattle.nc_defaults.proofs.Runs.{none_between}
use Rattle.nc_defaults.specs.inner.Walks.{places_at, places_at_all, places_under, places_with}

-- ---- the children of the place's data node
abbrev one_of : Tables → Place → ℕ → ℕ → List Place
one_of tables place number child = if ltb child number then [] else places_at tables place child

counts : (tables : Tables) (place : Place) (number child : ℕ) → number ≤ child → one_of tables place number child ≡ places_at tables place child
counts tables place number child least =
    let is : ltb child number ≡ false = grind (arith, nat_tests) in ap (λ b. if b then [] else places_at tables place child) is

passed : (tables : Tables) (place : Place) (number child : ℕ) → child < number → one_of tables place number child ≡ []
passed tables place number child less =
    let is : ltb child number ≡ true = grind (arith, nat_tests) in ap (λ b. if b then [] else places_at tables place child) is

-- from a number on
listed_on : (tables : Tables) (place : Place) (number at : ℕ) (later : List Node) → number ≤ at → drop at tables.nodes ≡ later →
    places_at_all tables place number (children_among (node_there place) at later) ≡ places_among tables place at later
listed_on tables place number at [] least is = refl
listed_on tables place number at (node ∷ later) least is =
    let rest = listed_on tables place number (at + 1) later (omega (arith, least)) (later_of tables.nodes at node later is) in
    ap (places_at_all tables place number) (among_next (node_there place) at node later)
    ∙ by (is_same_number node.parent (node_there place)) rest
  where
    these : places_at tables place at ≡ flat_map (λ below. below ∷ places_among tables below (at + 1) later) (places_of tables place at node)
    these =
        ap (λ (o : Option Node). option_map_or (λ n. places_with tables place at n (place_parts place at n.kind)) o []) (here_of tables.nodes at node later is)
        ∙ ap (λ (left : List Node). flat_map (λ below. below ∷ places_among tables below (at + 1) left) (places_of tables place at node)) (later_of tables.nodes at node later is)

    by : (b : Bool) →
        places_at_all tables place number (children_among (node_there place) (at + 1) later) ≡ places_among tables place (at + 1) later →
        places_at_all tables place number ((if b then at ∷ [] else []) ++ children_among (node_there place) (at + 1) later)
        ≡ flat_map (λ below. below ∷ places_among tables below (at + 1) later) (if b then places_of tables place at node else []) ++ places_among tables place (at + 1) later
    by true rest = λ i. (counts tables place number at least ∙ these) i ++ rest i
    by false rest = rest

-- those before it add nothing
none_before : (tables : Tables) (place : Place) (number at : ℕ) (left : ℕ) (later : List Node) → at + left ≡ number →
    places_at_all tables place number (children_among (node_there place) at later) ≡ places_at_all tables place number (children_among (node_there place) number (drop left later))
none_before tables place number at zero later is =
    let same : at ≡ number = omega (arith, is) in
    ap (λ n. places_at_all tables place number (children_among (node_there place) n later)) same
    ∙ ap (λ (ns : List Node). places_at_all tables place number (children_among (node_there place) number ns)) (sym (none_dropped later))
none_before tables place number at (suc left) [] is = refl
none_before tables place number at (suc left) (node ∷ later) is =
    ap (places_at_all tables place number) (among_next (node_there place) at node later)
    ∙ by (is_same_number node.parent (node_there place))
    ∙ none_before tables place number (at + 1) left later (omega (arith, is))
  where
    by : (b : Bool) →
        places_at_all tables place number ((if b then at ∷ [] else []) ++ children_among (node_there place) (at + 1) later)
        ≡ places_at_all tables place number (children_among (node_there place) (at + 1) later)
    by true = ap (λ ps. ps ++ places_at_all tables place number (children_among (node_there place) (at + 1) later)) (passed tables place number at (omega (arith, is)))
    by false = refl

-- the places below one are those of the children of its data node
pub listed : (tables : Tables) (place : Place) (number : ℕ) → places_at_all tables place number (children_of tables.nodes (node_there place)) ≡ places_under tables place number
listed tables place number =
    none_before tables place number 0 number tables.nodes (omega arith)
    ∙ listed_on tables place number number (drop number tables.nodes) (omega arith) refl

-- one child more
pub child_more : (tables : Tables) (place : Place) (number : ℕ) (children : List ℕ) (i : ℕ) → i < length children → number ≤ get_or children i 0 →
    places_at_all tables place number (drop i children) ≡ places_at tables place (get_or children i 0) ++ places_at_all tables place number (drop (i + 1) children)
child_more tables place number children i within least =
    ap (places_at_all tables place number) (drop_more children i 0 within)
    ∙ ap (λ ps. ps ++ places_at_all tables place number (drop (i + 1) children)) (counts tables place number (get_or children i 0) least)

pub child_passed : (tables : Tables) (place : Place) (number : ℕ) (children : List ℕ) (i : ℕ) → i < length children → get_or children i 0 < number →
    places_at_all tables place number (drop i children) ≡ places_at_all tables place number (drop (i + 1) children)
child_passed tables place number children i within less =
    ap (places_at_all tables place number) (drop_more children i 0 within)
    ∙ ap (λ ps. ps ++ places_at_all tables place number (drop (i + 1) children)) (passed tables place number (get_or children i 0) less)

pub no_child_left : (tables : Tables) (place : Place) (number : ℕ) (children : List ℕ) (i : ℕ) → length children ≤ i → places_at_all tables place number (drop i children) ≡ []
no_child_left tables place number children i past = ap (places_at_all tables place number) (drop_all i children past)

pub places_at_node : (tables : Tables) (place : Place) (number : ℕ) (node : Node) → slice_get tables.nodes number ≡ Some node →
    places_with tables place number node (place_parts place number node.kind) ≡ places_at tables place number
places_at_node tables place number node found =
    ap (λ (o : Option Node). option_map_or (λ n. places_with tables place number n (place_parts place number n.kind)) o []) (sym found)

pub no_places_at : (tables : Tables) (place : Place) (number : ℕ) → slice_get tables.nodes number ≡ None → places_at tables place number ≡ []
no_places_at tables place number none =
    ap (λ (o : Option Node). option_map_or (λ n. places_with tables place number n (place_parts place number n.kind)) o []) none

-- one instance more
pub with_one : (tables : Tables) (place : Place) (number : ℕ) (node : Node) (part : Part) (all rest : List Part) → all ≡ part ∷ rest → is_of number part ≡ true →
    places_with tables place number node (filter (is_of number) all)
    ≡ (place_of tables place node part ∷ places_under tables (place_of tables place node part) (number + 1)) ++ places_with tables place number node (filter (is_of number) rest)
with_one tables place number node part all rest split passes =
    ap (λ ps. places_with tables place number node (filter (is_of number) ps)) split
    ∙ ap (λ b. places_with tables place number node (cond b (part ∷ filter (is_of number) rest) (filter (is_of number) rest))) passes

pub with_none : (tables : Tables) (place : Place) (number : ℕ) (node : Node) (part : Part) (all rest : List Part) → all ≡ part ∷ rest → is_of number part ≡ false →
    places_with tables place number node (filter (is_of number) all) ≡ places_with tables place number node (filter (is_of number) rest)
with_none tables place number node part all rest split fails =
    ap (λ ps. places_with tables place number node (filter (is_of number) ps)) split
    ∙ ap (λ b. places_with tables place number node (cond b (part ∷ filter (is_of number) rest) (filter (is_of number) rest))) fails

-- the instances that are places are all instances, where the node is no absent container without presence
pub instances_are : (place : Place) (number : ℕ) (kind : Kind) → holds_nodes kind ≡ true → (is_plain_container kind && (length (parts_of place number) == 0)) ≡ false →
    place_parts place number kind ≡ parts_of place number
instances_are place number (Container true) holds some = go (parts_of place number)
  where
    go : (ps : List Part) → or_empty true number ps ≡ ps
    go [] = refl
    go (p ∷ ps) = refl
instances_are place number (Container false) holds some = go (parts_of place number) some
  where
    go : (ps : List Part) → (length ps == 0) ≡ false → or_empty false number ps ≡ ps
    go [] some = absurd (let clash : true ≡ false = some in cc)
    go (p ∷ ps) some = refl
instances_are place number Leaf holds some = absurd (let clash : false ≡ true = holds in cc)
instances_are place number LeafList holds some = absurd (let clash : false ≡ true = holds in cc)
instances_are place number ListKind holds some = refl

-- an absent container without presence is a place without rows
pub absent_container : (tables : Tables) (place below : Place) (number : ℕ) (node : Node) (rows : List Row) (from : ℕ) →
    is_plain_container node.kind ≡ true → length (parts_of place number) ≡ 0 →
    below ≡ place_of tables place node (record { step = Some (record { node = number; keys = [] }); rows = rows_between rows from from }) →
    below ∷ places_under tables below (number + 1) ≡ places_with tables place number node (place_parts place number node.kind)
absent_container tables place below number node rows from plain none is =
    let part : Part = record { step = Some (record { node = number; keys = [] }); rows = [] } in
    let empty : below ≡ place_of tables place node part =
    is ∙ ap (λ (rs : List Row). place_of tables place node (record { step = Some (record { node = number; keys = [] }); rows = rs })) (none_between from rows) in
    let only : place_parts place number node.kind ≡ part ∷ [] = kinds node.kind plain in
    sym (append-nil (below ∷ places_under tables below (number + 1)))
    ∙ ap (λ (b : Place). (b ∷ places_under tables b (number + 1)) ++ []) empty
    ∙ ap (places_with tables place number node) (sym only)
  where
    nothing : (ps : List Part) → length ps ≡ 0 → or_empty false number ps ≡ record { step = Some (record { node = number; keys = [] }); rows = [] } ∷ []
    nothing [] none = refl
    nothing (p ∷ ps) none = absurd (omega (arith, none))

    kinds : (kind : Kind) → is_plain_container kind ≡ true → place_parts place number kind ≡ record { step = Some (record { node = number; keys = [] }); rows = [] } ∷ []
    kinds (Container true) plain = absurd (let clash : false ≡ true = plain in cc)
    kinds (Container false) plain = nothing (parts_of place number) none
    kinds Leaf plain = absurd (let clash : false ≡ true = plain in cc)
    kinds LeafList plain = absurd (let clash : false ≡ true = plain in cc)
    kinds ListKind plain = absurd (let clash : false ≡ true = plain in cc)

-- one instance more is gathered
pub gathered : {X : Type 0} (out more all rest whole new : List X) → new ≡ out ++ more → all ≡ more ++ rest → out ++ all ≡ whole → new ++ rest ≡ whole
gathered out more all rest whole new is split so_far =
    ap (λ xs. xs ++ rest) is ∙ append_assoc out more rest ∙ ap (λ xs. out ++ xs) (sym split) ∙ so_far
