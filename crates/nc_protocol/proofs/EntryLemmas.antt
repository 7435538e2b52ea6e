-- The entries of a list or leaf-list in their order, and an entry that is put in its place among them.
use Rattle.std.proofs.Common.{◌≡◌, ◌≢◌, ◌==◌, ◌||◌, ℕ, zero, suc, Bool, true, false, cond, not, List, [], ◌∷◌, ◌++◌, Option, Some, None, refl, sym, ap, subst, ◌∙◌, inl, inr, arith}
use Rattle.std.proofs.lemmas.Bool.Decides.{Decides-eqb}
use Rattle.std.specs.List.{AllPairs, Contains, cons_option}
use Rattle.nc_names.specs.declared.path.Place.{Place}
use Rattle.nc_names.specs.declared.path.Place.TheVariants.{Kept, First, Last, Before, After}
use Rattle.nc_names.specs.declared.path.Row.{Row}
use Rattle.nc_names.specs.declared.path.Step.{Step}
use Rattle.nc_names.specs.Same.{is_same_keys, is_same_step}
use Rattle.nc_schema.specs.Standing.{keys_in, entries, has_entry, without_entry, kept_or_last, put_before, put_after, placed, stands_before, place_at}
use Rattle.nc_protocol.proofs.BoolLemmas.{is_false}
use Rattle.nc_protocol.proofs.Parts.{IsPartOf, part_contains, part_head, part_without_first}
use Rattle.nc_names.proofs.SameLemmas.{keys_decide, step_decide, step_itself}

-- with its entry there, `Kept` changes nothing
pub kept_is : (keys : List (List ℕ)) (order : List (List (List ℕ))) → has_entry keys order ≡ true → placed Kept keys order ≡ order
kept_is keys order there = ap (λ b. cond b order (order ++ keys ∷ [])) there

-- the nodes above a place are kept where they are
pub kept_above : (place : Place) (steps : List Step) → steps ≢ [] → place_at place steps ≡ Kept
kept_above place [] some = absurd (some refl)
kept_above place (step ∷ steps) some = refl

keys_itself : (keys : List (List ℕ)) → is_same_keys keys keys ≡ true
keys_itself keys = (keys_decide keys keys).1 refl

keys_differ : (a b : List (List ℕ)) → a ≢ b → is_same_keys a b ≡ false
keys_differ a b differ = is_false (is_same_keys a b) (λ same. differ ((keys_decide a b).0 same))

-- a path to an entry has the entry's keys
keys_there : (above : List Step) (number : ℕ) (keys : List (List ℕ)) → keys_in above number (above ++ record { node = number; keys = keys } ∷ []) ≡ Some keys
keys_there [] number keys = ap (λ b. cond b (Some keys) None) ((Decides-eqb number number).1 refl)
keys_there (over ∷ above) number keys =
    ap (λ b. cond b (keys_in above number (above ++ record { node = number; keys = keys } ∷ [])) None) (step_itself over) ∙ keys_there above number keys

-- what has an entry's keys is a path to it
pub keys_back : (above : List Step) (number : ℕ) (keys : List (List ℕ)) (steps : List Step) → keys_in above number steps ≡ Some keys →
    steps ≡ above ++ record { node = number; keys = keys } ∷ []
keys_back [] number keys [] e = cc
keys_back [] number keys (step ∷ []) e = go (step.node == number) refl e
  where
    go : (t : Bool) → (step.node == number) ≡ t → cond t (Some step.keys) None ≡ Some keys → step ∷ [] ≡ record { node = number; keys = keys } ∷ []
    go true same is =
        let keys_same : step.keys ≡ keys = cc in
        λ i. record { node = (Decides-eqb step.node number).0 same i; keys = keys_same i } ∷ []
    go false same is = cc
keys_back [] number keys (step ∷ next ∷ rest) e = cc
keys_back (over ∷ above) number keys [] e = cc
keys_back (over ∷ above) number keys (step ∷ rest) e = go (is_same_step over step) refl e (keys_back above number keys rest)
  where
    go : (t : Bool) → is_same_step over step ≡ t → cond t (keys_in above number rest) None ≡ Some keys →
        (keys_in above number rest ≡ Some keys → rest ≡ above ++ record { node = number; keys = keys } ∷ []) →
        step ∷ rest ≡ over ∷ (above ++ record { node = number; keys = keys } ∷ [])
    go true same is back = λ i. sym ((step_decide over step).0 same) i ∷ back is i
    go false same is back = cc

-- the keys in a row's path, where the path is known
pub keys_of_row : (above : List Step) (number : ℕ) (keys : List (List ℕ)) (steps : List Step) → steps ≡ above ++ record { node = number; keys = keys } ∷ [] →
    keys_in above number steps ≡ Some keys
keys_of_row above number keys steps is = ap (keys_in above number) is ∙ keys_there above number keys

-- no entry behind the first row has the first row's keys
keys_new : (row : Row) (rows : List Row) (above : List Step) (number : ℕ) (keys found : List (List ℕ)) (one : Row) →
    AllPairs (λ (r : Row) (later : Row). r.path ≢ later.path) (row ∷ rows) → Contains rows one →
    one.path.steps ≡ above ++ record { node = number; keys = keys } ∷ [] → keys_in above number row.path.steps ≡ Some found →
    is_same_keys found keys ≡ false
keys_new row rows above number keys found one distinct (k, within, here) is e = keys_differ found keys no
  where
    apart : row.path ≢ one.path
    apart = subst (λ (r : Row). row.path ≢ r.path) here (distinct 0 (suc k) one (omega arith) (omega (arith, within)))

    no : found ≢ keys
    no same =
        let steps : row.path.steps ≡ one.path.steps =
        keys_back above number found row.path.steps e ∙ ap (λ k. above ++ record { node = number; keys = k } ∷ []) same ∙ sym is in
        apart (λ i. record { steps = steps i })

-- the first of the entries stands before each other one
stands_first : (x y : List (List ℕ)) (more : List (List (List ℕ))) → x ≢ y →
    (stands_before (x ∷ more) x y ≡ true) × (stands_before (x ∷ more) y x ≡ false)
stands_first x y more differ =
    let itself = keys_itself x in
    let other = keys_differ x y differ in (
      ap (λ b. cond b false (cond (is_same_keys x x) true (stands_before more x y))) other ∙ ap (λ b. cond b true (stands_before more x y)) itself,
      ap (λ b. cond b false (cond (is_same_keys x y) true (stands_before more y x))) itself,
    )

-- an entry that is neither of two does not bear on which of them is before the other
skips : (entry : List (List ℕ)) (more : List (List (List ℕ))) (x y : List (List ℕ)) → is_same_keys entry x ≡ false → is_same_keys entry y ≡ false →
    stands_before (entry ∷ more) x y ≡ stands_before more x y
skips entry more x y other another =
    ap (λ b. cond b false (cond (is_same_keys entry x) true (stands_before more x y))) another ∙ ap (λ b. cond b true (stands_before more x y)) other

-- entries are in the order of their rows
pub entries_in_order : (rows : List Row) (above : List Step) (number : ℕ) (x y : List (List ℕ)) (one other : Row) →
    AllPairs (λ row later. row.path ≢ later.path) rows → x ≢ y →
    one.path.steps ≡ above ++ record { node = number; keys = x } ∷ [] → other.path.steps ≡ above ++ record { node = number; keys = y } ∷ [] →
    IsPartOf (one ∷ other ∷ []) rows →
    (stands_before (entries rows above number) x y ≡ true) × (stands_before (entries rows above number) y x ≡ false)
entries_in_order [] above number x y one other distinct differ is_one is_other part = absurd part
entries_in_order (row ∷ rows) above number x y one other distinct differ is_one is_other (inl (same, part)) =
    let found = keys_of_row above number x row.path.steps (sym (ap (λ r. r.path.steps) same) ∙ is_one) in
    subst (λ (o : Option (List (List ℕ))). (stands_before (cons_option o (entries rows above number)) x y ≡ true) × (stands_before (cons_option o (entries rows above number)) y x ≡ false))
    (sym found) (stands_first x y (entries rows above number) differ)
entries_in_order (row ∷ rows) above number x y one other distinct differ is_one is_other (inr part) =
    go (keys_in above number row.path.steps) refl (entries_in_order rows above number x y one other
    (λ i j d less within. distinct (suc i) (suc j) d (omega (arith, less)) (omega (arith, within))) differ is_one is_other part)
  where
    go : (o : Option (List (List ℕ))) → keys_in above number row.path.steps ≡ o →
        (stands_before (entries rows above number) x y ≡ true) × (stands_before (entries rows above number) y x ≡ false) →
        (stands_before (cons_option o (entries rows above number)) x y ≡ true) × (stands_before (cons_option o (entries rows above number)) y x ≡ false)
    go None e rest = rest
    go (Some found) e rest =
        let not_one = keys_new row rows above number x found one distinct (part_contains one rows (part_head one (other ∷ []) rows part)) is_one e in
        let not_other = keys_new row rows above number y found other distinct (part_contains other rows (part_without_first one (other ∷ []) rows part)) is_other e in
        (skips found (entries rows above number) x y not_one not_other ∙ rest.0, skips found (entries rows above number) y x not_other not_one ∙ rest.1)

-- an entry that has a row is among the entries
pub has_its_entry : (rows : List Row) (above : List Step) (number : ℕ) (keys : List (List ℕ)) (row : Row) →
    row.path.steps ≡ above ++ record { node = number; keys = keys } ∷ [] → Contains rows row → has_entry keys (entries rows above number) ≡ true
has_its_entry [] above number keys row is (k, within, here) = absurd (omega (arith, within))
has_its_entry (first ∷ rows) above number keys row is (zero, within, here) =
    let found = keys_of_row above number keys first.path.steps (ap (λ r. r.path.steps) here ∙ is) in
    ap (λ o. has_entry keys (cons_option o (entries rows above number))) found ∙ ap (λ b. b || has_entry keys (entries rows above number)) (keys_itself keys)
has_its_entry (first ∷ rows) above number keys row is (suc k, within, here) =
    go (keys_in above number first.path.steps) (has_its_entry rows above number keys row is (k, omega (arith, within), here))
  where
    go : (o : Option (List (List ℕ))) → has_entry keys (entries rows above number) ≡ true → has_entry keys (cons_option o (entries rows above number)) ≡ true
    go None rest = rest
    go (Some found) rest = either (is_same_keys found keys) (has_entry keys (entries rows above number)) rest
      where
        either : (a b : Bool) → b ≡ true → (a || b) ≡ true
        either true b e = refl
        either false b e = e

-- what is before an entry that is before another, is before that other
pub before_transitive : (order : List (List (List ℕ))) (x z y : List (List ℕ)) → stands_before order x z ≡ true → stands_before order z y ≡ true →
    stands_before order x y ≡ true
before_transitive [] x z y first second = first
before_transitive (entry ∷ more) x z y first second =
    go (is_same_keys entry z) (is_same_keys entry x) (is_same_keys entry y) (stands_before more x z) (stands_before more z y) (stands_before more x y)
    (before_transitive more x z y) first second
  where
    go : (is_z is_x is_y p q r : Bool) → (p ≡ true → q ≡ true → r ≡ true) → cond is_z false (cond is_x true p) ≡ true → cond is_y false (cond is_z true q) ≡ true →
        cond is_y false (cond is_x true r) ≡ true
    go true is_x is_y p q r rest e f = cc
    go false is_x true p q r rest e f = f
    go false true false p q r rest e f = refl
    go false false false p q r rest e f = rest e f

-- of two entries at most one is before the other
pub stands_before_apart : (order : List (List (List ℕ))) (x y : List (List ℕ)) → stands_before order x y ≡ true → stands_before order y x ≡ false
stands_before_apart [] x y e = refl
stands_before_apart (entry ∷ more) x y e =
    go (is_same_keys entry y) (is_same_keys entry x) (stands_before more x y) (stands_before more y x) (stands_before_apart more x y) e
  where
    go : (is_y is_x p q : Bool) → (p ≡ true → q ≡ false) → cond is_y false (cond is_x true p) ≡ true → cond is_x false (cond is_y true q) ≡ false
    go true is_x p q rest f = cc
    go false true p q rest f = refl
    go false false p q rest f = rest f

-- the first entry does not bear on two others
over_first : (entry : List (List ℕ)) (some others : List (List (List ℕ))) (x z : List (List ℕ)) → stands_before some x z ≡ stands_before others x z →
    stands_before (entry ∷ some) x z ≡ stands_before (entry ∷ others) x z
over_first entry some others x z e = ap (λ b. cond (is_same_keys entry z) false (cond (is_same_keys entry x) true b)) e

-- an entry put first does not bear on two others
skips_new : (y : List (List ℕ)) (order : List (List (List ℕ))) (x z : List (List ℕ)) → x ≢ y → z ≢ y →
    stands_before (y ∷ order) x z ≡ stands_before order x z
skips_new y order x z x_differs z_differs =
    skips y order x z (keys_differ y x (λ e. x_differs (sym e))) (keys_differ y z (λ e. z_differs (sym e)))

-- nor does one that is taken away
skips_taken : (y : List (List ℕ)) (order : List (List (List ℕ))) (x z : List (List ℕ)) → x ≢ y → z ≢ y →
    stands_before (without_entry y order) x z ≡ stands_before order x z
skips_taken y [] x z x_differs z_differs = refl
skips_taken y (entry ∷ more) x z x_differs z_differs = go (is_same_keys entry y) refl (skips_taken y more x z x_differs z_differs)
  where
    go : (t : Bool) → is_same_keys entry y ≡ t → stands_before (without_entry y more) x z ≡ stands_before more x z →
        stands_before (cond (not t) (entry ∷ without_entry y more) (without_entry y more)) x z ≡ stands_before (entry ∷ more) x z
    go true same rest =
        let is_y = (keys_decide entry y).0 same in
        rest ∙ sym (ap (λ k. stands_before (k ∷ more) x z) is_y ∙ skips_new y more x z x_differs z_differs)
    go false same rest = over_first entry (without_entry y more) more x z rest

-- nor one put last
skips_last : (y : List (List ℕ)) (order : List (List (List ℕ))) (x z : List (List ℕ)) → x ≢ y → z ≢ y →
    stands_before (order ++ y ∷ []) x z ≡ stands_before order x z
skips_last y [] x z x_differs z_differs = skips_new y [] x z x_differs z_differs
skips_last y (entry ∷ more) x z x_differs z_differs = over_first entry (more ++ y ∷ []) more x z (skips_last y more x z x_differs z_differs)

skips_kept : (y : List (List ℕ)) (order : List (List (List ℕ))) (x z : List (List ℕ)) → x ≢ y → z ≢ y →
    stands_before (kept_or_last y order) x z ≡ stands_before order x z
skips_kept y order x z x_differs z_differs = go (has_entry y order)
  where
    go : (t : Bool) → stands_before (cond t order (order ++ y ∷ [])) x z ≡ stands_before order x z
    go true = refl
    go false = skips_last y order x z x_differs z_differs

-- nor one put before another
skips_before : (anchor y : List (List ℕ)) (order : List (List (List ℕ))) (x z : List (List ℕ)) → x ≢ y → z ≢ y →
    stands_before (put_before anchor y order) x z ≡ stands_before order x z
skips_before anchor y [] x z x_differs z_differs = refl
skips_before anchor y (entry ∷ more) x z x_differs z_differs = go (is_same_keys entry anchor) (skips_before anchor y more x z x_differs z_differs)
  where
    go : (t : Bool) → stands_before (put_before anchor y more) x z ≡ stands_before more x z →
        stands_before (cond t (y ∷ entry ∷ more) (entry ∷ put_before anchor y more)) x z ≡ stands_before (entry ∷ more) x z
    go true rest = skips_new y (entry ∷ more) x z x_differs z_differs
    go false rest = over_first entry (put_before anchor y more) more x z rest

-- nor one put after another
skips_after : (anchor y : List (List ℕ)) (order : List (List (List ℕ))) (x z : List (List ℕ)) → x ≢ y → z ≢ y →
    stands_before (put_after anchor y order) x z ≡ stands_before order x z
skips_after anchor y [] x z x_differs z_differs = refl
skips_after anchor y (entry ∷ more) x z x_differs z_differs = go (is_same_keys entry anchor) (skips_after anchor y more x z x_differs z_differs)
  where
    go : (t : Bool) → stands_before (put_after anchor y more) x z ≡ stands_before more x z →
        stands_before (cond t (entry ∷ y ∷ more) (entry ∷ put_after anchor y more)) x z ≡ stands_before (entry ∷ more) x z
    go true rest = over_first entry (y ∷ more) more x z (skips_new y more x z x_differs z_differs)
    go false rest = over_first entry (put_after anchor y more) more x z rest

-- putting an entry in its place leaves the order of all others
pub placed_others : (place : Place) (order : List (List (List ℕ))) (y x z : List (List ℕ)) → x ≢ y → z ≢ y →
    stands_before (placed place y order) x z ≡ stands_before order x z
placed_others Kept order y x z x_differs z_differs = skips_kept y order x z x_differs z_differs
placed_others First order y x z x_differs z_differs = skips_new y (without_entry y order) x z x_differs z_differs ∙ skips_taken y order x z x_differs z_differs
placed_others Last order y x z x_differs z_differs = skips_last y (without_entry y order) x z x_differs z_differs ∙ skips_taken y order x z x_differs z_differs
placed_others (Before anchor) order y x z x_differs z_differs = go (is_same_keys anchor y)
  where
    go : (t : Bool) → stands_before (cond t (kept_or_last y order) (put_before anchor y (without_entry y order))) x z ≡ stands_before order x z
    go true = skips_kept y order x z x_differs z_differs
    go false = skips_before anchor y (without_entry y order) x z x_differs z_differs ∙ skips_taken y order x z x_differs z_differs
placed_others (After anchor) order y x z x_differs z_differs = go (is_same_keys anchor y)
  where
    go : (t : Bool) → stands_before (cond t (kept_or_last y order) (put_after anchor y (without_entry y order))) x z ≡ stands_before order x z
    go true = skips_kept y order x z x_differs z_differs
    go false = skips_after anchor y (without_entry y order) x z x_differs z_differs ∙ skips_taken y order x z x_differs z_differs

-- what stands before an entry that is before the placed one, is before the placed one
pub placed_keeps : (place : Place) (order : List (List (List ℕ))) (x z y : List (List ℕ)) → x ≢ y → z ≢ y →
    stands_before order x z ≡ true → stands_before (placed place y order) z y ≡ true → stands_before (placed place y order) x y ≡ true
placed_keeps place order x z y x_differs z_differs first second =
    before_transitive (placed place y order) x z y (placed_others place order y x z x_differs z_differs ∙ first) second
