-- How the path of a leafref may go on, from each place in it (RFC 7950 9.9.2).
use Rattle.std.specs.Prelude.{◌≡◌, ◌==◌, ◌⊎◌, ℕ, true, List, [], ◌∷◌, ◌++◌, Option, Some, is_some}
use Rattle.std.specs.List.{slice_split}
use Rattle.nc_names.specs.Signs.{dot, slash}
use Rattle.nc_schema.specs.InstancePaths.{leafref_below, leafref_end, leafref_from, parent_of}
use Rattle.nc_path_places.specs.inner.Going.{Reading}

-- the parts between slashes
abbrev pub parts : List ℕ → List (List ℕ)
parts text = slice_split (λ c. c == slash) text

-- the text is of names that lead down from the node, or from the top, to a leaf or leaf-list; `own` is the
-- namespace of the leaf whose path it is
abbrev pub Down : Reading → (own : List ℕ) → Option ℕ → List ℕ → Type 0
Down s own above text = is_some (leafref_below s.tables own s.bounds above (parts text)) ≡ true

-- so a path goes on after `../` that led to the node above
abbrev pub From : Reading → (own : List ℕ) → Option ℕ → List ℕ → Type 0
From s own above text = is_some (leafref_from s.tables own s.bounds above (parts text)) ≡ true

-- some path goes on there
abbrev pub IsOpen : Reading → (own : List ℕ) → Option ℕ → Type 0
IsOpen s own above = (text : List ℕ) × From s own above text

-- `../`
abbrev pub up : List ℕ
up = dot ∷ dot ∷ slash ∷ []

-- `../`, which leads from the node to the one above it, and what follows
pub record Rise (s : Reading) (own : List ℕ) (above : Option ℕ) (text : List ℕ) : Type 0 where
  pub number : ℕ
  pub is : above ≡ Some number
  pub after : List ℕ
  pub begins : text ≡ up ++ after
  pub goes : From s own (parent_of s.tables number) after

-- nothing, or a path of the leaf
abbrev pub LeafrefPath : Reading → (leaf : ℕ) → List ℕ → Type 0
LeafrefPath s leaf text = (text ≡ []) ⊎ (is_some (leafref_end s.tables leaf text s.bounds) ≡ true)
