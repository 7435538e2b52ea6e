-- Features that are on, each by the text that defines it and its name (RFC 7950 7.20.1).
use Rattle.std.specs.Prelude.{length, ℕ, ◌==◌, ◌&&◌, Bool, List}
use Rattle.std.proofs.Common.{Bor}
use Rattle.std.specs.BTreeSet.{contains}
use Rattle.std.specs.Cmp.Lexicographic.{slice_cmp}
use Rattle.std.specs.Ordering.{nat_cmp, ordering_then}
use Rattle.std.specs.declared.cmp.Ordering.{Ordering}
use Rattle.nc_names.specs.Same.{is_same_text}
use Rattle.nc_yang_nodes.specs.declared.features.Features.{Features}

-- they are ordered by their text, then by their name
abbrev pub order : ℕ × Bor (List ℕ) → ℕ × Bor (List ℕ) → Ordering
order key other = ordering_then (nat_cmp key.0 other.0) (slice_cmp nat_cmp key.1.now other.1.now)

-- a feature of a text is on
abbrev pub is_on : Features → ℕ → List ℕ → Bool
is_on features text word = contains order features.names (text, record { ref_ptr = (0, 0); now = word })

-- the same text and name
abbrev pub is_key : ℕ → List ℕ → ℕ → List ℕ → Bool
is_key text word other name = text == other && is_same_text word name

-- how many are on
abbrev pub size : Features → ℕ
size features = length features.names.keys
