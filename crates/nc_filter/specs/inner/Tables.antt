-- Tables and sets whose keys are steps to nodes.
use Rattle.std.specs.Prelude.{◌≡◌, ◌||◌, ◌&&◌, ℕ, Bool, cond, List, [], None, map}
use Rattle.std.proofs.Common.{Bor}
use Rattle.std.specs.List.{list_any}
use Rattle.std.specs.Option.{option_map_or}
use Rattle.std.specs.BTreeMap.{BTreeMap, get}
use Rattle.std.specs.BTreeSet.{BTreeSet, contains}
use Rattle.std.specs.declared.cmp.Ordering.{Ordering}
use Rattle.std.specs.Ordering.{is_eq, nat_cmp}
use Rattle.std.specs.Cmp.Lexicographic.{slice_cmp}
use Rattle.nc_names.specs.contracts.path.StepOrd.TheImpl.{ghosts}
use Rattle.nc_names.specs.Ends.{trimmed}
use Rattle.nc_names.specs.Same.{is_at_or_below, is_same_path, is_same_text}
use Rattle.nc_names.specs.declared.path.Row.{Row}
use Rattle.nc_names.specs.declared.path.Step.{Step}
use Rattle.nc_message.specs.declared.tree.Elem.{Elem}
use Rattle.nc_protocol.specs.Elements.{whole_text}
use Rattle.nc_protocol.specs.Filter.{is_content_match}
use Rattle.nc_filter.specs.inner.Levels.{children}

-- steps are ordered by their nodes, then by their keys
abbrev pub order : Bor (List Step) → Bor (List Step) → Ordering
order steps others = slice_cmp ghosts.cmp steps.now others.now

-- the rows that a table has at some steps, none where it does not have the steps
abbrev pub in_table : BTreeMap (Bor (List Step)) (List (Bor Row)) → Bor (List Step) → List (Bor Row)
in_table table key = option_map_or (λ inside. inside) (get order table key) []

-- the table has the rows of each instance
abbrev pub IsIndex : BTreeMap (Bor (List Step)) (List (Bor Row)) → List Row → Type 0
IsIndex table rows = (key : Bor (List Step)) → map (λ row. row.now) (in_table table key) ≡ children rows key.now

-- a table has nothing at a key, and at the others what it had
abbrev pub without : Bor (List Step) → BTreeMap (Bor (List Step)) (List (Bor Row)) →
    BTreeMap (Bor (List Step)) (List (Bor Row)) → Type 0
without key before now =
    (other : Bor (List Step)) → get order now other ≡ cond (is_eq (order key other)) None (get order before other)

-- the set has each node at which a row stands or below which one stands
abbrev pub ArePlaces : BTreeSet (Bor (List Step)) → List Row → Type 0
ArePlaces places rows =
    (key : Bor (List Step)) → contains order places key ≡ list_any (λ row. is_at_or_below key.now row.path) rows

-- a set has one place more
abbrev pub AddsPlace : BTreeSet (Bor (List Step)) → BTreeSet (Bor (List Step)) → List Step → Type 0
AddsPlace before now steps =
    (key : Bor (List Step)) → contains order now key ≡ (is_same_path steps key.now || contains order before key)

-- a set has a node more, and those above it
abbrev pub AddsPlaces : BTreeSet (Bor (List Step)) → BTreeSet (Bor (List Step)) → List Step → Type 0
AddsPlaces before now steps =
    (key : Bor (List Step)) → contains order now key
    ≡ (contains order before key || is_at_or_below key.now (record { steps = steps }))

-- one of the texts in a set
abbrev pub has_text : BTreeSet (List ℕ) → List ℕ → Bool
has_text items text = contains (slice_cmp nat_cmp) items text

-- a set has one text more
abbrev pub adds_text : BTreeSet (List ℕ) → BTreeSet (List ℕ) → List ℕ → Type 0
adds_text before now text = (other : List ℕ) → has_text now other ≡ (is_same_text text other || has_text before other)

-- the set has the texts of the content matches among some elements
abbrev pub HasTexts : BTreeSet (List ℕ) → List Elem → Type 0
HasTexts items elems = (text : List ℕ) →
    has_text items text
    ≡ list_any (λ elem. is_content_match elem && is_same_text text (trimmed (whole_text elem.parts))) elems
