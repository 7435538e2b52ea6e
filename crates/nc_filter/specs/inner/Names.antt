-- The elements of a level by their names.
use Rattle.std.specs.Prelude.{◌≡◌, ◌&&◌, ◌||◌, ℕ, Bool, false, List, [], ◌++◌, slice_get, map}
use Rattle.std.proofs.Common.{Bor}
use Rattle.std.specs.List.{list_any}
use Rattle.std.specs.Option.{option_map_or}
use Rattle.nc_names.specs.Same.{is_same_text}
use Rattle.nc_message.specs.declared.tree.Elem.{Elem}
use Rattle.nc_schema.specs.Tables.{Tables}
use Rattle.nc_filter.specs.inner.Keys.{key, name_key}
use Rattle.nc_filter.specs.inner.Picks.{is_named}
use Rattle.nc_filter.specs.inner.Runs.{Slots, in_slot}

-- a test of the element of a number in a list
abbrev pub at_elem : List (Bor Elem) → (Elem → Bool) → ℕ → Bool
at_elem level test number = option_map_or (λ (elem : Bor Elem). test elem.now) (slice_get level number) false

-- the table has the numbers of these elements in a list, by their names
abbrev pub AreNames : Slots → List (Bor Elem) → List (Bor Elem) → Type 0
AreNames items level elems = (wanted : List ℕ) (test : Elem → Bool) →
    list_any (at_elem level test) (in_slot items wanted)
    ≡ list_any (λ elem. is_same_text (name_key elem) wanted && test elem) (map (λ elem. elem.now) elems)

-- the numbers that a data node's name has, with its namespace and without one
abbrev pub in_slots : Slots → List ℕ → List ℕ → List ℕ
in_slots items space name = in_slot items (key space name []) ++ in_slot items (key [] name [])

-- those elements of a level that name a data node
abbrev pub AreNamed : Tables → ℕ → List Elem → List Elem → Type 0
AreNamed tables node level elems = (test : Elem → Bool) →
    list_any test elems ≡ list_any (λ elem. is_named tables node elem && test elem) level

-- the element of a number is added, if it names a data node
abbrev pub AddsNamed : Tables → ℕ → List (Bor Elem) → ℕ → List (Bor Elem) → List (Bor Elem) → Type 0
AddsNamed tables node level number before now = (test : Elem → Bool) →
    list_any test (map (λ elem. elem.now) now)
    ≡ (list_any test (map (λ elem. elem.now) before) ||
    at_elem level (λ elem. is_named tables node elem && test elem) number)

-- the same for some numbers
abbrev pub AddsNamedOf : Tables → ℕ → List (Bor Elem) → List ℕ → List (Bor Elem) → List (Bor Elem) → Type 0
AddsNamedOf tables node level numbers before now = (test : Elem → Bool) →
    list_any test (map (λ elem. elem.now) now)
    ≡ (list_any test (map (λ elem. elem.now) before) ||
    list_any (at_elem level (λ elem. is_named tables node elem && test elem)) numbers)
