-- Names and numbers that were seen, in sets.
use Rattle.std.specs.Prelude.{◌≡◌, [], ℕ, ℤ, Bool, List, take, drop, Option, None}
use Rattle.std.specs.List.{list_any}
use Rattle.std.proofs.Common.{Bor}
use Rattle.std.specs.BTreeMap.{BTreeMap, get}
use Rattle.std.specs.BTreeSet.{BTreeSet, contains}
use Rattle.std.specs.Cmp.Lexicographic.{slice_cmp}
use Rattle.std.specs.Ordering.{int_cmp, int_eq, nat_cmp}
use Rattle.std.specs.declared.cmp.Ordering.{Ordering}
use Rattle.nc_yang_words.specs.declared.statement.Statement.{Statement}
use Rattle.nc_yang_types.specs.declared.member.Listed.{Listed}
use Rattle.nc_yang_types.specs.declared.member.Named.{Named}
use Rattle.nc_yang_types.specs.Members.{has_name, is_chosen, misnumbered, number_in, numbered, renamed}

-- texts are ordered character by character
abbrev pub text_order : Bor (List ℕ) → Bor (List ℕ) → Ordering
text_order text other = slice_cmp nat_cmp text.now other.now

-- the set has the names of these statements and no other
abbrev pub HasNames : Listed → BTreeSet (Bor (List ℕ)) → List Statement → Type 0
HasNames listed set ss = (key : Bor (List ℕ)) → contains text_order set key ≡ has_name listed key.now ss

-- the set has these numbers and no other
abbrev pub HasNumbers : BTreeSet ℤ → List ℤ → Type 0
HasNumbers set numbers = (number : ℤ) → contains int_cmp set number ≡ list_any (λ other. int_eq other number) numbers

-- the names of the first statements are known, and of the whole the rest is left
pub record NamesKnown
    (listed : Listed) (below : List Statement) (at : ℕ) (names : BTreeSet (Bor (List ℕ))) : Type 0 where
  pub known : HasNames listed names (take at below)
  pub same : renamed listed [] below ≡ renamed listed (take at below) (drop at below)

-- the numbers of the first statements are known, and of the whole the rest is left
pub record NumbersKnown
    (listed : Listed) (below : List Statement) (at : ℕ) (high : Option ℤ) (numbers : BTreeSet ℤ) : Type 0 where
  pub before : List ℤ
  pub known : HasNumbers numbers before
  pub same :
      misnumbered listed [] (numbered listed None below)
      ≡ misnumbered listed before (numbered listed high (drop at below))

-- whether the set has a text
abbrev pub has_text : BTreeSet (Bor (List ℕ)) → List ℕ → Bool
has_text set text = contains text_order set (record { ref_ptr = (0, 0); now = text })

-- the set has the names that are chosen by these statements and no other
abbrev pub HasChosen : (Statement → Bool) → Listed → BTreeSet (Bor (List ℕ)) → List Statement → Type 0
HasChosen stands listed set ss =
    (key : Bor (List ℕ)) → contains text_order set key ≡ is_chosen stands listed ss key.now

-- the map has the numbers of these names and no other
abbrev pub HasListing : BTreeMap (Bor (List ℕ)) ℤ → List Named → Type 0
HasListing map names = (key : Bor (List ℕ)) → get text_order map key ≡ number_in names key.now
