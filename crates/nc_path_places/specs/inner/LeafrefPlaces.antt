-- What readers of the path of a leafref that is refused are given, and how they answer.
use Rattle.std.specs.Prelude.{◌≡◌, ◌⊎◌, ◌<◌, ℕ, true, List, Option, Some, length, slice_get, option_map}
use Rattle.nc_names.specs.Signs.{dot, slash}
use Rattle.nc_schema.specs.Children.{HasLowerParents}
use Rattle.nc_schema.specs.PathWords.{◌>>=◌, sign}
use Rattle.nc_schema.specs.Tables.{Tables}
use Rattle.nc_path_places.specs.declared.leafref_ways.Ways.{Ways}
use Rattle.nc_path_places.specs.inner.Counted.{HasUsable, reading_of}
use Rattle.nc_path_places.specs.inner.Going.{Reading}
use Rattle.nc_path_places.specs.inner.Halting.{Halts, IsPlaceIn, Leads}
use Rattle.nc_path_places.specs.inner.LeafrefNames.{HasMarks, goes_down}
use Rattle.nc_path_places.specs.inner.Leafrefs.{Down, From, IsOpen, LeafrefPath, Rise}

-- the languages of `Leafrefs` for what is read by these ways
abbrev pub Downs : Ways → Option ℕ → List ℕ → Type 0
Downs ways above = Down (reading_of ways.names) ways.own.now above

-- how a path goes on after `../` that led to a node, or to the top
abbrev pub Froms : Ways → Option ℕ → List ℕ → Type 0
Froms ways above = From (reading_of ways.names) ways.own.now above

-- how it goes on with one `../` more, from that node
abbrev pub Rises : Ways → Option ℕ → List ℕ → Type 0
Rises ways above = Rise (reading_of ways.names) ways.own.now above

-- the whole paths of a leaf
abbrev pub Paths : Ways → (leaf : ℕ) → List ℕ → Type 0
Paths ways leaf = LeafrefPath (reading_of ways.names) leaf

-- a path goes on there
abbrev pub Opens : Ways → Option ℕ → Type 0
Opens ways above = IsOpen (reading_of ways.names) ways.own.now above

-- what a text is read by is so of the schema
pub record AreWays (ways : Ways) : Type 0 where
  pub usable : HasUsable ways.names
  pub lower : HasLowerParents ways.names.schema.now.nodes
  pub marks : HasMarks (reading_of ways.names) ways.own.now ways.marks

-- that is the namespace of the leaf
abbrev pub IsSpaceOf : Tables → (leaf : ℕ) → (own : List ℕ) → Type 0
IsSpaceOf tables leaf own = option_map (λ node. node.name.space) (slice_get tables.nodes leaf) ≡ Some own

-- the text after `../`
abbrev pub after_up : List ℕ → Option (List ℕ)
after_up text = sign dot text >>= (λ one. sign dot one >>= sign slash)

-- a name and the slash after it have been read, and names lead down from there
pub record IsNameStep (ways : Ways) (above : Option ℕ) (text : List ℕ) (number : ℕ) (rest : List ℕ) : Type 0 where
  pub leads : Leads (Downs ways above) (Downs ways (Some number)) text rest
  pub goes : goes_down ways.marks (Some number) ≡ true
  pub less : length rest < length text

-- `../` has been read
pub record IsRise (ways : Ways) (above : Option ℕ) (text : List ℕ) (next : Option ℕ) (rest : List ℕ) : Type 0 where
  pub leads : Leads (Rises ways above) (Froms ways next) text rest
  pub goes : Opens ways next
  pub less : length rest < length text

-- no path goes on so, or else the text stops within `../`
abbrev pub IsNoRise : Ways → Option ℕ → List ℕ → ℕ → Type 0
IsNoRise ways above text left =
    ((left ≡ length text) × ((other : List ℕ) → Rises ways above other → ⊥)) ⊎
    Halts (Rises ways above) text left

-- all `../` have been read
pub record AreRises (ways : Ways) (leaf : ℕ) (text : List ℕ) (above : Option ℕ) (rest : List ℕ) : Type 0 where
  pub leads : Leads (Paths ways leaf) (Froms ways above) text rest
  pub goes : Opens ways above

-- the path turns down
pub record IsTurn (ways : Ways) (leaf : ℕ) (text : List ℕ) (above : Option ℕ) (rest : List ℕ) : Type 0 where
  pub leads : Leads (Paths ways leaf) (Downs ways above) text rest
  pub goes : goes_down ways.marks above ≡ true

-- the place at which a text stops to be the beginning of a path of the leaf
abbrev pub IsLeafrefPlace : Reading → (leaf : ℕ) → List ℕ → ℕ → Type 0
IsLeafrefPlace s leaf text at = IsPlaceIn (LeafrefPath s leaf) text at
