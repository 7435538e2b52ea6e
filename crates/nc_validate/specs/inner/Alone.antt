-- Sets of the values of one leaf.
use Rattle.std.specs.Prelude.{◌≡◌, ◌||◌, ℕ, Bool, List}
use Rattle.std.proofs.Common.{Bor}
use Rattle.std.specs.List.{list_any}
use Rattle.std.specs.BTreeSet.{BTreeSet, contains}
use Rattle.std.specs.Cmp.Lexicographic.{slice_cmp}
use Rattle.std.specs.Ordering.{nat_cmp}
use Rattle.std.specs.declared.cmp.Ordering.{Ordering}
use Rattle.nc_schema.specs.InUse.{values_below}
use Rattle.nc_schema.specs.Places.{Place}
use Rattle.nc_schema.specs.Tables.{Tables}
use Rattle.nc_schema.specs.Violations.{has_text}

-- values are ordered by their bytes
abbrev pub text_order : Bor (List ℕ) → Bor (List ℕ) → Ordering
text_order text other = slice_cmp nat_cmp text.now other.now

-- a set has a value
abbrev pub has_value : BTreeSet (Bor (List ℕ)) → List ℕ → Bool
has_value set text = contains text_order set (record { ref_ptr = (0, 0); now = text })

-- a set has these values more
abbrev pub AddsValues : BTreeSet (Bor (List ℕ)) → BTreeSet (Bor (List ℕ)) → List (List ℕ) → Type 0
AddsValues before now texts = (text : List ℕ) → has_value now text ≡ (has_value before text || has_text text texts)

-- a set has the values of these entries
abbrev pub HasValues : Tables → ℕ → List Place → BTreeSet (Bor (List ℕ)) → Type 0
HasValues tables leaf entries set =
    (text : List ℕ) → has_value set text ≡ list_any (λ entry. has_text text (values_below tables entry leaf)) entries
