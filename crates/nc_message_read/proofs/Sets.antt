-- Sets of texts and of names.
use Rattle.std.proofs.Common.{◌≡◌, ℕ, suc, ◌+◌, ◌<◌, Bool, true, false, not, cond, ◌||◌, List, [], ◌∷◌, ◌++◌, length, drop, get_or, drop-cons, refl, sym, ap, subst, ◌∙◌, arith}
use Rattle.std.specs.Prelude.{◌&&◌, if◌then◌else◌, Option, Result, Ok, Err, IfOk}
use Rattle.std.specs.List.{list_any}
use Rattle.std.specs.BTreeSet.{BTreeSet, contains}
use Rattle.std.specs.declared.cmp.Ordering.{Ordering}
use Rattle.std.specs.declared.cmp.Ordering.TheVariants.{Less, Equal, Greater}
use Rattle.std.specs.Ordering.{nat_cmp, ordering_then, is_eq}
use Rattle.std.specs.Cmp.Lexicographic.{slice_cmp, bytes_decides}
use Rattle.std.proofs.lemmas.Map.Text.{is_eq-slice_cmp}
use Rattle.nc_names.specs.Same.{is_same_text, is_same_name}
use Rattle.nc_names.specs.declared.name.QName.{QName}
use Rattle.nc_message.specs.declared.tree.Attr.{Attr}
use Rattle.nc_message.specs.Resolved.{differ_from}
use Rattle.nc_message_read.specs.declared.marked.Marked.{Marked}
use Rattle.nc_message_read.specs.inner.Marks.{key_of, IsFound, AreFound}
use Rattle.nc_message_read.specs.inner.Sets.{has_name, IsNameAdded}
use Rattle.nc_message_read.proofs.Marking.{same_keys}

pub ok_as : {A E : Type 0} (r : Result A E) (x y : A) → x ≡ y → IfOk r (λ it. it ≡ x) → IfOk r (λ it. it ≡ y)
ok_as (Ok it) x y e h = h ∙ e
ok_as (Err f) x y e h = h

pub same_turned : (a b : List ℕ) → is_same_text a b ≡ is_same_text b a
same_turned a b = turned (is_same_text a b) (is_same_text b a) (back a b) (back b a) where
  back : (a b : List ℕ) → is_same_text a b ≡ true → is_same_text b a ≡ true
  back a b e = (bytes_decides b a).1 (sym ((bytes_decides a b).0 e))

  turned : (x y : Bool) → (x ≡ true → y ≡ true) → (y ≡ true → x ≡ true) → x ≡ y
  turned true y f g = sym (f refl)
  turned false true f g = g refl
  turned false false f g = refl

pub as_or : (t o : Bool) → cond t true o ≡ ((true && t) || o)
as_or true o = refl
as_or false o = refl

-- the order of names tells them apart as their texts do
abbrev pub name_cmp : QName → QName → Ordering
name_cmp a b = ordering_then (slice_cmp nat_cmp a.space b.space) (slice_cmp nat_cmp a.name b.name)

both : (o p : Ordering) → is_eq (ordering_then o p) ≡ (is_eq o && is_eq p)
both Less p = refl
both Equal p = refl
both Greater p = refl

pub name_test : (a b : QName) → is_eq (name_cmp a b) ≡ is_same_name a b
name_test a b =
    both (slice_cmp nat_cmp a.space b.space) (slice_cmp nat_cmp a.name b.name)
    ∙ ap (λ x. x && is_eq (slice_cmp nat_cmp a.name b.name)) (is_eq-slice_cmp a.space b.space)
    ∙ ap (λ x. is_same_text a.space b.space && x) (is_eq-slice_cmp a.name b.name)

any_same : (f g : QName → Bool) → ((x : QName) → f x ≡ g x) → (xs : List QName) → list_any f xs ≡ list_any g xs
any_same f g e [] = refl
any_same f g e (x ∷ xs) = ap (λ b. b || list_any f xs) (e x) ∙ ap (λ b. g x || b) (any_same f g e xs)

contains_is : (m : Option Marked) (set : BTreeSet QName) (name : QName) → contains name_cmp set (key_of m name) ≡ has_name m set name
contains_is m set name = any_same (λ x. is_eq (name_cmp (key_of m name) x)) (is_same_name (key_of m name)) (name_test (key_of m name)) set.keys

pub name_added : (m : Option Marked) (before after : BTreeSet QName) (name : QName) (added : Bool) → added ≡ not (contains name_cmp before (key_of m name))
    → ((other : QName) → contains name_cmp after other ≡ cond (is_eq (name_cmp (key_of m name) other)) true (contains name_cmp before other))
    → IsNameAdded m before after name added
name_added m before after name added new updates = (
  new ∙ ap not (contains_is m before name),
  λ other.
      sym (contains_is m after other) ∙ updates (key_of m other)
      ∙ ap (λ t. cond t true (contains name_cmp before (key_of m other))) (name_test (key_of m name) (key_of m other) ∙ same_keys m name other)
      ∙ ap (λ x. cond (is_same_name name other) true x) (contains_is m before other),
)

name_turned : (a b : QName) → is_same_name a b ≡ is_same_name b a
name_turned a b = ap (λ x. x && is_same_text a.name b.name) (same_turned a.space b.space) ∙ ap (λ x. is_same_text b.space a.space && x) (same_turned a.name b.name)

-- one name more
any_more : (q n : QName) (names : List QName) → list_any (is_same_name q) (names ++ n ∷ []) ≡ (if is_same_name n q then true else list_any (is_same_name q) names)
any_more q n [] = ap (λ b. b || false) (name_turned q n) ∙ split (is_same_name n q) where
  split : (b : Bool) → (b || false) ≡ (if b then true else false)
  split true = refl
  split false = refl
any_more q n (s ∷ names) = ap (λ b. is_same_name q s || b) (any_more q n names) ∙ split (is_same_name q s) (is_same_name n q) (list_any (is_same_name q) names) where
  split : (a b c : Bool) → (a || (if b then true else c)) ≡ (if b then true else (a || c))
  split true true c = refl
  split true false c = refl
  split false true c = refl
  split false false c = refl

pub names_more : (m : Option Marked) (old new : BTreeSet QName) (name : QName) (added : Bool) (before : List QName) → IsNameAdded m old new name added
    → ((q : QName) → has_name m old q ≡ list_any (is_same_name q) before) → (q : QName) → has_name m new q ≡ list_any (is_same_name q) (before ++ name ∷ [])
names_more m old new name added before is has q = is.1 q ∙ ap (λ b. if is_same_name name q then true else b) (has q) ∙ sym (any_more q name before)

-- the next attribute has another name than those before it
pub differ_more : (xs : List Attr) (i : ℕ) (a : Attr) (before : List QName) → i < length xs → a ≡ get_or xs i a
    → not (list_any (is_same_name a.name) before) ≡ true → differ_from before (drop i xs) ≡ differ_from (before ++ a.name ∷ []) (drop (i + 1) xs)
differ_more xs i a before less at new =
    let next : suc i ≡ i + 1 = omega arith in
    let here : drop i xs ≡ a ∷ drop (i + 1) xs = drop-cons xs i a less ∙ ap (λ y. y ∷ drop (suc i) xs) (sym at) ∙ ap (λ k. a ∷ drop k xs) next in
    ap (differ_from before) here ∙ ap (λ b. b && differ_from (before ++ a.name ∷ []) (drop (i + 1) xs)) new

-- the attributes that are left are found too
pub found_left : (m : Option Marked) (xs : List Attr) (i : ℕ) (a : Attr) → i < length xs → a ≡ get_or xs i a → AreFound m (drop i xs)
    → IsFound m a × AreFound m (drop (i + 1) xs)
found_left m xs i a less at found =
    let next : suc i ≡ i + 1 = omega arith in
    let here : drop i xs ≡ a ∷ drop (i + 1) xs = drop-cons xs i a less ∙ ap (λ y. y ∷ drop (suc i) xs) (sym at) ∙ ap (λ k. a ∷ drop k xs) next in
    subst (AreFound m) here found
