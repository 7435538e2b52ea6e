-- Numbers that are found by a block and a word.
use Rattle.std.specs.Prelude.{◌≡◌, ℕ, ◌==◌, ◌&&◌, Bool, if◌then◌else◌, List, Option, Some, None}
use Rattle.std.proofs.Common.{Bor}
use Rattle.std.specs.BTreeMap.{get}
use Rattle.std.specs.Cmp.Lexicographic.{slice_cmp}
use Rattle.std.specs.Ordering.{nat_cmp, ordering_then}
use Rattle.std.specs.declared.cmp.Ordering.{Ordering}
use Rattle.nc_names.specs.Same.{is_same_text}
use Rattle.nc_yang_scopes.specs.declared.table.Table.{Table}

-- keys are ordered by their block, then by their word
abbrev pub order : ℕ × Bor (List ℕ) → ℕ × Bor (List ℕ) → Ordering
order key other = ordering_then (nat_cmp key.0 other.0) (slice_cmp nat_cmp key.1.now other.1.now)

-- the number that is kept for a word in a block
abbrev pub number_at : Table → ℕ → List ℕ → Option ℕ
number_at table block word = get order table.numbers (block, record { ref_ptr = (0, 0); now = word })

-- the same block and name
abbrev pub is_key : ℕ → List ℕ → ℕ → List ℕ → Bool
is_key block word other text = block == other && is_same_text word text

-- the first of two
abbrev pub either : Option ℕ → Option ℕ → Option ℕ
either None other = other
either (Some number) other = Some number

-- with one number more, unless one was kept for that key
abbrev pub KeepsOneMore : Table → ℕ → List ℕ → ℕ → Table → Type 0
KeepsOneMore old block word number new =
    (other : ℕ) (text : List ℕ) → number_at new other text
    ≡ either (number_at old other text) (if is_key block word other text then Some number else None)
