-- Places of data nodes that are not marked break nothing.
use Rattle.std.proofs.Common.{◌≡◌, ◌&&◌, ◌+◌, ◌++◌, ◌<◌, ℕ, Bool, true, false, cond, List, [], ◌∷◌, Option, Some, None, length, drop, refl, sym, ap, subst, ◌∙◌, if◌then◌else◌}
use Rattle.std.specs.List.{enumerate_from, flat_map, list_all}
use Rattle.std.specs.Prelude.{slice_get, IfSome}
use Rattle.std.proofs.lemmas.Option.{slice_get_within}
use Rattle.nc_schema.specs.Children.{is_same_number}
use Rattle.nc_schema.specs.InUse.{stands_in}
use Rattle.nc_schema.specs.Places.{Place, node_there, places_from, top_place}
use Rattle.nc_schema.specs.Tables.{Tables}
use Rattle.nc_schema.specs.Violations.{bare_violations, child_violations, structural_violations, violations_at}
use Rattle.nc_schema.specs.declared.node.Choice.{Choice}
use Rattle.nc_schema.specs.declared.node.Node.{Node}
use Rattle.nc_names.specs.declared.path.Row.{Row}
use Rattle.nc_defaults.specs.Sought.{AreUpward, is_sought, sought}
use Rattle.nc_defaults.specs.Within.{places_in}
use Rattle.nc_defaults.specs.declared.spots.Spot.{Spot}
use Rattle.nc_defaults.proofs.ListLemmas.{here_of, later_of, none_dropped, same_number}
use Rattle.nc_validate.specs.inner.Asked.{AsksNothing, Covers, CoversNode}

both : (a b : Bool) → (a && b) ≡ true → (a ≡ true) × (b ≡ true)
both true b e = (refl, e)
both false b e = absurd (let clash : false ≡ true = e in cc)

-- all data nodes are covered where those are that there are
pub covers_all : (tables : Tables) (marks : List Bool) → ((number : ℕ) → number < length tables.nodes → CoversNode tables marks number) → (number : ℕ) → CoversNode tables marks number
covers_all tables marks so_far number = by (slice_get tables.nodes number) refl
  where
    by : (o : Option Node) → slice_get tables.nodes number ≡ o → IfSome o (λ node. is_sought marks node.parent ≡ false → (is_sought marks (Some number) ≡ false) × AsksNothing node)
    by None is = tt
    by (Some node) is =
        subst (λ (o : Option Node). IfSome o (λ node. is_sought marks node.parent ≡ false → (is_sought marks (Some number) ≡ false) × AsksNothing node)) is
        (so_far number (slice_get_within tables.nodes number node is))

pub upward_is : (tables : Tables) (marks : List Bool) → Covers tables marks → AreUpward tables.nodes marks
upward_is tables marks covers number = by (slice_get tables.nodes number) (covers.nodes number)
  where
    by : (o : Option Node) → IfSome o (λ node. is_sought marks node.parent ≡ false → (is_sought marks (Some number) ≡ false) × AsksNothing node) →
        IfSome o (λ node. is_sought marks node.parent ≡ false → is_sought marks (Some number) ≡ false)
    by None is = tt
    by (Some node) is = λ unsought. (is unsought).0

-- all places break all
pub all_listed : (tables children : Tables) (rows : List Row) (spots : List Spot) (place : Place) → places_in rows spots ≡ places_from children place → children ≡ tables →
    place ≡ top_place rows → flat_map (violations_at tables) (places_in rows spots) ≡ structural_violations tables rows
all_listed tables children rows spots place all same top =
    ap (flat_map (violations_at tables)) all ∙ (λ i. flat_map (violations_at tables) (places_from (same i) (top i)))

module _ (tables : Tables) (marks : List Bool) (covers : Covers tables marks) where
  nodes_none : (place : Place) (number : ℕ) (later : List Node) → drop number tables.nodes ≡ later → is_sought marks (node_there place) ≡ false →
      flat_map (λ one. if stands_in one.1.parent place then child_violations tables place one.0 one.1 else []) (enumerate_from number later) ≡ []
  nodes_none place number [] is unsought = refl
  nodes_none place number (node ∷ later) is unsought =
      λ i. by (stands_in node.parent place) refl i ++ nodes_none place (number + 1) later (later_of tables.nodes number node later is) unsought i
    where
      by : (b : Bool) → is_same_number node.parent (node_there place) ≡ b → (if b then child_violations tables place number node else []) ≡ []
      by true same =
          (subst (λ (o : Option Node). IfSome o (λ n. is_sought marks n.parent ≡ false → (is_sought marks (Some number) ≡ false) × AsksNothing n))
          (here_of tables.nodes number node later is) (covers.nodes number) (ap (is_sought marks) (same_number node.parent (node_there place) same) ∙ unsought)).1 tables place number
      by false same = refl

  choices_none : (place : Place) (number : ℕ) (later : List Choice) → list_all (λ choice. is_sought marks choice.parent) later ≡ true → is_sought marks (node_there place) ≡ false →
      flat_map (λ one. if stands_in one.1.parent place then bare_violations tables place one.0 else []) (enumerate_from number later) ≡ []
  choices_none place number [] all unsought = refl
  choices_none place number (choice ∷ later) all unsought =
      let these = both (is_sought marks choice.parent) (list_all (λ one. is_sought marks one.parent) later) all in
      λ i. by (stands_in choice.parent place) refl these.0 i ++ choices_none place (number + 1) later these.1 unsought i
    where
      by : (b : Bool) → is_same_number choice.parent (node_there place) ≡ b → is_sought marks choice.parent ≡ true → (if b then bare_violations tables place number else []) ≡ []
      by true same marked = absurd (let clash : true ≡ false = sym marked ∙ ap (is_sought marks) (same_number choice.parent (node_there place) same) ∙ unsought in cc)
      by false same marked = refl

  -- a place of a data node without a mark breaks nothing
  pub unsought_none : (place : Place) → is_sought marks (node_there place) ≡ false → violations_at tables place ≡ []
  unsought_none place unsought =
      λ i. nodes_none place 0 tables.nodes (none_dropped tables.nodes) unsought i ++ choices_none place 0 tables.choices covers.choices unsought i

  -- places break what those of them break that are marked
  all_broken : (places : List Place) → flat_map (violations_at tables) (sought marks places) ≡ flat_map (violations_at tables) places
  all_broken [] = refl
  all_broken (place ∷ places) = by (is_sought marks (node_there place)) refl (all_broken places)
    where
      by : (b : Bool) → is_sought marks (node_there place) ≡ b → flat_map (violations_at tables) (sought marks places) ≡ flat_map (violations_at tables) places →
          flat_map (violations_at tables) (cond b (place ∷ sought marks places) (sought marks places)) ≡ violations_at tables place ++ flat_map (violations_at tables) places
      by true is more = ap (λ vs. violations_at tables place ++ vs) more
      by false is more = more ∙ ap (λ vs. vs ++ flat_map (violations_at tables) places) (sym (unsought_none place is))

  pub same_broken : (rows : List Row) (spots : List Spot) (place : Place) → sought marks (places_in rows spots) ≡ sought marks (places_from tables place) → place ≡ top_place rows →
      flat_map (violations_at tables) (places_in rows spots) ≡ structural_violations tables rows
  same_broken rows spots place same is =
      sym (all_broken (places_in rows spots)) ∙ ap (flat_map (violations_at tables)) same ∙ all_broken (places_from tables place)
      ∙ ap (λ (p : Place). flat_map (violations_at tables) (places_from tables p)) is
