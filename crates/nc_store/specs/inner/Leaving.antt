-- What begins with one of these begins with one of more; a store that goes on twice goes on.
use Rattle.std.specs.Prelude.{◌≡◌, ℕ, List, length, Option, Some, None, IfSome, Contains}
use Rattle.std.proofs.Common.{◌∙◌, ap, refl, arith}
use Rattle.nc_names.specs.declared.path.Row.{Row}
use Rattle.nc_outside.proofs.DiskFiles.{told_before}
use Rattle.nc_store.specs.Keeping.{Continues, IsBounded, StoreLeaves, Storing}
use Rattle.nc_store.specs.Reopening.{Reopens, Setup, StandsAmong, as_held, as_new}

-- each of these is one of those
abbrev pub AreAmong : List (List Row) → List (List Row) → Type 0
AreAmong these those = (rows : List Row) → Contains these rows → Contains those rows

among_more : (setup : Setup) (these those : List (List Row)) (bodies : List (List ℕ)) → AreAmong these those
    → StandsAmong setup these bodies → StandsAmong setup those bodies
among_more setup these those bodies more it =
    record { rows = it.rows; base = it.base; is_among = more it.rows it.is_among }

some_more : (setup : Setup) (these those : List (List Row)) → AreAmong these those
    → (d : Option (List (List ℕ))) → IfSome d (StandsAmong setup these) → IfSome d (StandsAmong setup those)
some_more setup these those more None it = tt
some_more setup these those more (Some d) it = among_more setup these those d more it

-- what reopens to one of these reopens to one of those, among which these are
pub reopens_fewer : (setup : Setup) (these those : List (List Row)) (c : List ℕ) → AreAmong these those
    → Reopens setup these c → Reopens setup those c
reopens_fewer setup these those c more (as_new new has) = as_new new (more setup.initial has)
reopens_fewer setup these those c more (as_held bodies doubt holds stands in_doubt) =
    as_held bodies doubt holds (among_more setup these those bodies more stands)
    (some_more setup these those more doubt in_doubt)

-- the same of all that a crash leaves
pub leaves_fewer : {D : Type 0} (seen : D → Option (List ℕ)) (left_since : D → ℕ → List ℕ → Type 0) (s : Storing D)
    (t : ℕ) (these those : List (List Row)) → AreAmong these those
    → StoreLeaves seen left_since s t these → StoreLeaves seen left_since s t those
leaves_fewer seen left_since s t these those more leaves =
    λ file told c left. reopens_fewer s.setup these those c more (leaves file told c left)

-- a store goes on to itself
pub unmoved : {D : Type 0} (seen : D → Option (List ℕ)) (moment : D → ℕ) (left_since : D → ℕ → List ℕ → Type 0)
    (s : Storing D) → Continues seen moment left_since s s
unmoved seen moment left_since s = record {
  setup_is = refl;
  tells = refl;
  bounded = λ file told. record {
    live_is = omega arith;
    start_is = omega arith;
    file_is = λ limit le before. before;
  };
}

bounded_twice : {D : Type 0} (moment : D → ℕ) (left_since : D → ℕ → List ℕ → Type 0) (one two three : Storing D)
    → length two.setup.header ≡ length one.setup.header → IsBounded moment left_since one two
    → IsBounded moment left_since two three → IsBounded moment left_since one three
bounded_twice moment left_since one two three same a b = record {
  live_is = omega (arith, same, a.live_is, b.live_is);
  start_is = omega (arith, same, a.live_is, a.start_is, b.start_is);
  file_is = λ limit le before.
      b.file_is limit (omega (arith, same, le, a.live_is, a.start_is)) (a.file_is limit le before);
}

-- a store that goes on to another, which goes on to a third, goes on to it
pub further : {D : Type 0} (seen : D → Option (List ℕ)) (moment : D → ℕ) (left_since : D → ℕ → List ℕ → Type 0)
    (one two three : Storing D) → Continues seen moment left_since one two → Continues seen moment left_since two three
    → Continues seen moment left_since one three
further seen moment left_since one two three a b = record {
  setup_is = b.setup_is ∙ a.setup_is;
  tells = b.tells ∙ a.tells;
  bounded = λ file told.
      let was = told_before (seen two.disk) (seen three.disk) b.tells file told in
      bounded_twice moment left_since one two three (ap (λ (s : Setup). length s.header) a.setup_is)
      (a.bounded was.0 was.1) (b.bounded file told);
}
