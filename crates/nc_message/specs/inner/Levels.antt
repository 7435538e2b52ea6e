-- How the bindings in force are kept.
use Rattle.std.specs.Prelude.{◌≡◌, ℕ, ◌+◌, not, List, [], ◌∷◌, ◌++◌, Bool, filter, fold, length}
use Rattle.std.specs.List.{list_any}
use Rattle.std.specs.BTreeMap.{BTreeMap, get}
use Rattle.std.specs.Ordering.{nat_cmp}
use Rattle.std.specs.Cmp.Lexicographic.{slice_cmp}
use Rattle.nc_names.specs.declared.name.Bound.{Bound}
use Rattle.nc_names.specs.Bindings.{space_of}
use Rattle.nc_message.specs.Bindings.{Declared, declares, inside}

-- the bindings in force under start tags, the outermost first
abbrev pub in_force : List Declared → List Bound
in_force tags = fold inside [] tags

-- those after the first
abbrev pub later : List Bound → List Bound
later [] = []
later (b ∷ more) = more

-- the table has what each prefix is bound to
abbrev pub IsTable : BTreeMap (List ℕ) (List ℕ) → List Bound → Type 0
IsTable table bounds = (prefix : List ℕ) → get (slice_cmp nat_cmp) table prefix ≡ space_of prefix bounds

-- whether one of these tags speaks of a prefix
abbrev pub is_replaced : List Declared → List ℕ → Bool
is_replaced tags prefix = list_any (λ d. declares d prefix) tags

-- those of a tag's bindings that no tag further in replaces, and then those of the tags further in
abbrev pub shown : List Declared → List Bound
shown [] = []
shown (d ∷ more) = filter (λ b. not (is_replaced more b.prefix)) d.own ++ shown more

-- the bindings that are left of a tag, and those of the tags further in
abbrev pub left_of : List Bound → List Declared → List Bound
left_of own more = filter (λ b. not (is_replaced more b.prefix)) own ++ shown more

-- how many steps through the tags are left at most
abbrev pub steps_in : List Declared → ℕ
steps_in [] = 0
steps_in (d ∷ more) = 1 + (length d.own + steps_in more)
