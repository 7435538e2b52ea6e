-- The places of identities.
use Rattle.std.proofs.Common.{◌≡◌, ◌≤◌, ◌+◌, ◌==◌, ℕ, zero, suc, Bool, true, false, cond, List, [], ◌∷◌, length, take, refl, sym, ap, ◌∙◌, subst, arith}
use Rattle.std.specs.Prelude.{Option, Some, None, slice_get, option_and_then, Contains}
use Rattle.std.specs.List.{position_from}
use Rattle.std.specs.Cmp.Lexicographic.{bytes_decides}
use Rattle.std.proofs.lemmas.Bool.{eqb-true}
use Rattle.std.proofs.lemmas.List.{take_all}
use Rattle.std.proofs.lemmas.Bool.Decides.{Decides-eqb}
use Rattle.nc_names.proofs.SameLemmas.{both_true, first_true, second_true}
use Rattle.nc_names.specs.Same.{is_same_text}
use Rattle.nc_yang_words.specs.declared.statement.Statement.{Statement}
use Rattle.nc_yang_statements.specs.declared.keyword.Keyword.TheVariants.{Identity}
use Rattle.nc_yang_statements.specs.Statements.{name}
use Rattle.nc_yang_scopes.specs.Numbers.{AreNumbers, OnNumber}
use Rattle.nc_yang_scopes.specs.Scopes.{Located, Scoping, resolved}
use Rattle.nc_yang_scopes.specs.Tables.{KeepsOneMore, either}
use Rattle.nc_yang_scopes.specs.declared.table.Table.{Table}
use Rattle.nc_yang_scopes.proofs.Lists.{position_next}
use Rattle.nc_yang_nodes.specs.Identities.{IsSameIdentity, Names, identities}
use Rattle.nc_yang_nodes.specs.inner.Places.{AreFirsts, is_known, place_in, place_named, place_of}
use Rattle.nc_yang_nodes.proofs.NumberLemmas.{contained_at, number_at_place, numbers_length}

-- with the place of one more
pub firsts_more : (ls : List Located) (i : ℕ) (l : Located) (old new : Table) → slice_get ls i ≡ Some l → AreFirsts (take i ls) old → KeepsOneMore old l.place.text (name l.statement) i new → AreFirsts (take (i + 1) ls) new
firsts_more ls i l old new at so_far keeps text word =
    keeps text word ∙ ap (λ o. either o (cond (is_known text word l) (Some i) None)) (so_far text word) ∙ sym (position_next (is_known text word) ls i l at)

pub firsts_step : (scoping : Scoping) (ns : List ℕ) (ls : List Located) (i n : ℕ) (old new : Table) → AreNumbers scoping.located ns ls → slice_get ns i ≡ Some n → AreFirsts (take i ls) old → OnNumber scoping n (λ l. KeepsOneMore old l.place.text (name l.statement) i new) → AreFirsts (take (i + 1) ls) new
firsts_step scoping ns ls i n old new are at so_far keeps =
    let l = number_at_place scoping.located ns ls i n are at in
    firsts_more ls i l.0 old new l.1 so_far (keeps l.0 l.2)

pub firsts_all : (located : List Located) (ns : List ℕ) (ls : List Located) (i : ℕ) (table : Table) → AreNumbers located ns ls → length ns ≤ i → AreFirsts (take i ls) table → AreFirsts ls table
firsts_all located ns ls i table are past so_far = subst (λ z. AreFirsts z table) (take_all i ls (let e = numbers_length located ns ls are in omega arith)) so_far

-- the first that passes
pub record Passes {A : Type 0} (test : A → Bool) (xs : List A) (from at : ℕ) : Type 0 where
  pub place : ℕ
  pub is : from + place ≡ at
  pub one : A
  pub there : slice_get xs place ≡ Some one
  pub passes : test one ≡ true

pub passes_at : {A : Type 0} (test : A → Bool) (xs : List A) (from at : ℕ) → position_from test from xs ≡ Some at → Passes test xs from at
passes_at test [] from at is = absurd (cc)
passes_at {A} test (x ∷ xs) from at is = by (test x) refl is (passes_at test xs (from + 1) at)
  where
    by : (b : Bool) → test x ≡ b → cond b (Some from) (position_from test (from + 1) xs) ≡ Some at → (position_from test (from + 1) xs ≡ Some at → Passes test xs (from + 1) at) → Passes test (x ∷ xs) from at
    by true e is further = let same : from ≡ at = cc in record { place = 0; is = omega arith; one = x; there = refl; passes = e }
    by false e is further = let more = further is in record { place = suc more.place; is = omega (arith, more.is); one = more.one; there = more.there; passes = more.passes }

pub position_there : {A : Type 0} (test : A → Bool) (xs : List A) (from i : ℕ) (x : A) → slice_get xs i ≡ Some x → test x ≡ true → (at : ℕ) × (position_from test from xs ≡ Some at)
position_there test [] from i x at e = absurd (cc)
position_there test (y ∷ xs) from zero x at e = let same : y ≡ x = cc in (from, ap (λ b. cond b (Some from) (position_from test (from + 1) xs)) (ap test same ∙ e))
position_there test (y ∷ xs) from (suc i) x at e = by (test y) (position_there test xs (from + 1) i x at e)
  where
    by : (b : Bool) → (k : ℕ) × (position_from test (from + 1) xs ≡ Some k) → (k : ℕ) × (cond b (Some from) (position_from test (from + 1) xs) ≡ Some k)
    by true more = (from, refl)
    by false more = more

known_is : (text : ℕ) (word : List ℕ) (l : Located) → is_known text word l ≡ true → (l.place.text ≡ text) × (name l.statement ≡ word)
known_is text word l e = (
  eqb-true l.place.text text (first_true (l.place.text == text) (is_same_text (name l.statement) word) e),
  (bytes_decides (name l.statement) word).0 (second_true (l.place.text == text) (is_same_text (name l.statement) word) e),
)

known_itself : (l : Located) → is_known l.place.text (name l.statement) l ≡ true
known_itself l =
    both_true (l.place.text == l.place.text) (is_same_text (name l.statement) (name l.statement))
    ((Decides-eqb l.place.text l.place.text).1 refl) ((bytes_decides (name l.statement) (name l.statement)).1 refl)

-- the same identity has the same place
pub same_place : (ls : List Located) (a b : Located) → IsSameIdentity a b → place_in ls a ≡ place_in ls b
same_place ls a b e = λ i. position_from (is_known (e.0 i) (e.1 i)) 0 ls

-- at the place of an identity stands the same one
pub at_place : (ls : List Located) (l : Located) (p : ℕ) → place_in ls l ≡ Some p → (x : Located) × (slice_get ls p ≡ Some x) × IsSameIdentity x l
at_place ls l p is =
    let f = passes_at (is_known l.place.text (name l.statement)) ls 0 p is in
    let e : f.place ≡ p = omega (arith, f.is) in
    (f.one, sym (ap (slice_get ls) e) ∙ f.there, known_is l.place.text (name l.statement) f.one f.passes)

-- what has one place is the same identity
pub place_same : (ls : List Located) (a b : Located) (p : ℕ) → place_in ls a ≡ Some p → place_in ls b ≡ Some p → IsSameIdentity a b
place_same ls a b p is_a is_b =
    let x = at_place ls a p is_a in
    let y = at_place ls b p is_b in
    let e : Some x.0 ≡ Some y.0 = sym x.1 ∙ y.1 in
    let same : x.0 ≡ y.0 = cc in (
      sym x.2.0 ∙ ap (λ (z : Located). z.place.text) same ∙ y.2.0,
      sym x.2.1 ∙ ap (λ (z : Located). name z.statement) same ∙ y.2.1,
    )

-- each of them has one
pub has_place : (ls : List Located) (l : Located) → Contains ls l → (p : ℕ) × (place_in ls l ≡ Some p)
has_place ls l h = let at = contained_at ls l h in position_there (is_known l.place.text (name l.statement)) ls 0 at.0 l at.1 (known_itself l)

-- a `base` statement names what has the place of what it names
pub named_place : (texts : List Statement) (base l : Located) → Names texts base l → place_named texts base ≡ place_of texts l
named_place texts base l names = ap (option_and_then (place_of texts)) names.leads ∙ same_place (identities texts) names.found l names.is

pub place_names : (texts : List Statement) (base l : Located) (p : ℕ) → place_named texts base ≡ Some p → place_of texts l ≡ Some p → Names texts base l
place_names texts base l p named is = by (resolved texts Identity (name base.statement) base.place) refl named
  where
    by : (o : Option Located) → resolved texts Identity (name base.statement) base.place ≡ o → option_and_then (place_of texts) o ≡ Some p → Names texts base l
    by None e named = absurd (cc)
    by (Some found) e named = record { found = found; leads = e; is = place_same (identities texts) found l p named is }
