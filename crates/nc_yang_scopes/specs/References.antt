-- Statements that lead from one number to another, and the graph of the numbers.
use Rattle.std.specs.Prelude.{◌≡◌, ℕ, List, [], Option, Some, length, map, slice_get, option_map, option_and_then, unwrap_or}
use Rattle.nc_yang_statements.specs.declared.fault.ModuleWhy.TheVariants.{Loop}
use Rattle.nc_yang_statements.specs.Statements.{line}
use Rattle.nc_yang_scopes.specs.declared.naming.TextFault.{TextFault}
use Rattle.nc_yang_scopes.specs.Scopes.{Located, Scoping}
use Rattle.nc_yang_scopes.specs.declared.references.Link.{Link}

abbrev pub target_of : Link → ℕ
target_of link = link.target

-- the numbers to which the links of each number lead
abbrev pub graph_of : List (List Link) → List (List ℕ)
graph_of links = map (map target_of) links

-- the links of a number
abbrev pub links_at : List (List Link) → ℕ → List Link
links_at links number = unwrap_or (slice_get links number) []

-- of the links of each of so many numbers this is so
pub record AreLinksOf (Is : ℕ → List Link → Type 0) (count : ℕ) (links : List (List Link)) : Type 0 where
  pub counted : length links ≡ count
  pub each : (number : ℕ) (own : List Link) → slice_get links number ≡ Some own → Is number own

-- the fault of a statement that leads on in a circle
abbrev pub fault_at : Located → TextFault
fault_at l = record { text = l.place.text; fault = record { line = line l.statement; why = Loop } }

-- that of the link in a place of those of a number
abbrev pub fault_of : Scoping → List (List Link) → ℕ → ℕ → Option TextFault
fault_of scoping links number place =
    option_and_then (λ link. option_map fault_at (slice_get scoping.located link.reference)) (slice_get
    (links_at links number) place)
