-- Elements of a list in its order: what is left of a list when some elements are left out.
use Rattle.std.proofs.Common.{◌≡◌, ◌⊎◌, zero, suc, Bool, true, false, cond, List, [], ◌∷◌, ◌++◌, refl, sym, ap, subst, ◌∙◌, inl, inr, arith}
use Rattle.std.proofs.lemmas.List.Elements.{filter_passes}
use Rattle.std.specs.List.{All, AllPairs, Contains, filter}
pub use Rattle.std.proofs.lemmas.List.Elements.{All-contains as all_at}
use Rattle.nc_protocol.proofs.ListLemmas.{heads_same, contains_behind, contains_split, all_cons, pairs_cons}

-- the elements of the first list stand in the second, in this order
abbrev pub IsPartOf : {X : Type 0} → List X → List X → Type 0
IsPartOf [] ys = Unit {0}
IsPartOf (x ∷ xs) [] = ⊥
IsPartOf (x ∷ xs) (y ∷ ys) = ((x ≡ y) × IsPartOf xs ys) ⊎ IsPartOf (x ∷ xs) ys

pub part_behind : {X : Type 0} (xs ys : List X) (y : X) → IsPartOf xs ys → IsPartOf xs (y ∷ ys)
part_behind [] ys y part = tt
part_behind (x ∷ xs) ys y part = inr part

pub part_itself : {X : Type 0} (xs : List X) → IsPartOf xs xs
part_itself [] = tt
part_itself (x ∷ xs) = inl (refl, part_itself xs)

pub part_without_first : {X : Type 0} (x : X) (xs ys : List X) → IsPartOf (x ∷ xs) ys → IsPartOf xs ys
part_without_first x xs [] part = absurd part
part_without_first x xs (y ∷ ys) (inl (same, part)) = part_behind xs ys y part
part_without_first x xs (y ∷ ys) (inr part) = part_behind xs ys y (part_without_first x xs ys part)

pub part_of_part : {X : Type 0} (xs ys zs : List X) → IsPartOf xs ys → IsPartOf ys zs → IsPartOf xs zs
part_of_part [] ys zs a b = tt
part_of_part (x ∷ xs) [] zs a b = absurd a
part_of_part (x ∷ xs) (y ∷ ys) [] a b = absurd b
part_of_part (x ∷ xs) (y ∷ ys) (z ∷ zs) (inl (same, a)) (inl (is, b)) = inl (same ∙ is, part_of_part xs ys zs a b)
part_of_part (x ∷ xs) (y ∷ ys) (z ∷ zs) (inr a) (inl (is, b)) = inr (part_of_part (x ∷ xs) ys zs a b)
part_of_part (x ∷ xs) (y ∷ ys) (z ∷ zs) a (inr b) = inr (part_of_part (x ∷ xs) (y ∷ ys) zs a b)

part_either : {X : Type 0} (x : X) (xs ys : List X) (b : Bool) → IsPartOf ys xs → IsPartOf (cond b (x ∷ ys) ys) (x ∷ xs)
part_either x xs ys true part = inl (refl, part)
part_either x xs ys false part = part_behind ys xs x part

pub part_filter : {X : Type 0} (t : X → Bool) (xs : List X) → IsPartOf (filter t xs) xs
part_filter t [] = tt
part_filter t (x ∷ xs) = part_either x xs (filter t xs) (t x) (part_filter t xs)

pub part_front : {X : Type 0} (xs ys : List X) → IsPartOf xs (xs ++ ys)
part_front [] ys = tt
part_front (x ∷ xs) ys = inl (refl, part_front xs ys)

pub part_rest : {X : Type 0} (xs ys : List X) → IsPartOf ys (xs ++ ys)
part_rest [] ys = part_itself ys
part_rest (x ∷ xs) ys = part_behind ys (xs ++ ys) x (part_rest xs ys)

-- parts of two lists joined are a part of the lists joined
pub part_join : {X : Type 0} (ps qs xs ys : List X) → IsPartOf ps xs → IsPartOf qs ys → IsPartOf (ps ++ qs) (xs ++ ys)
part_join [] qs [] ys a b = b
part_join [] qs (x ∷ xs) ys a b = part_behind qs (xs ++ ys) x (part_join [] qs xs ys a b)
part_join (p ∷ ps) qs [] ys a b = absurd a
part_join (p ∷ ps) qs (x ∷ xs) ys (inl (same, a)) b = inl (same, part_join ps qs xs ys a b)
part_join (p ∷ ps) qs (x ∷ xs) ys (inr a) b = inr (part_join (p ∷ ps) qs xs ys a b)

-- a part of two lists joined is a part of the one, and then one of the other
pub record IsParted {X : Type 0} (zs xs ys : List X) : Type 0 where
  pub first : List X
  pub second : List X
  pub whole : zs ≡ first ++ second
  pub in_first : IsPartOf first xs
  pub in_second : IsPartOf second ys

pub part_cut : {X : Type 0} (zs xs ys : List X) → IsPartOf zs (xs ++ ys) → IsParted zs xs ys
part_cut [] xs ys part = record { first = []; second = []; whole = refl; in_first = tt; in_second = tt }
part_cut (z ∷ zs) [] ys part = record { first = []; second = z ∷ zs; whole = refl; in_first = tt; in_second = part }
part_cut (z ∷ zs) (x ∷ xs) ys (inl (same, part)) =
    let more = part_cut zs xs ys part in
    record { first = z ∷ more.first; second = more.second; whole = λ i. z ∷ more.whole i; in_first = inl (same, more.in_first); in_second = more.in_second }
part_cut (z ∷ zs) (x ∷ xs) ys (inr part) =
    let more = part_cut (z ∷ zs) xs ys part in
    record { first = more.first; second = more.second; whole = more.whole; in_first = part_behind more.first xs x more.in_first; in_second = more.in_second }

-- one element
pub part_contains : {X : Type 0} (x : X) (xs : List X) → IsPartOf (x ∷ []) xs → Contains xs x
part_contains x [] part = absurd part
part_contains x (y ∷ xs) (inl (same, part)) = (0, omega arith, sym same)
part_contains x (y ∷ xs) (inr part) = contains_behind y xs x (part_contains x xs part)

pub contains_part : {X : Type 0} (x : X) (xs : List X) → Contains xs x → IsPartOf (x ∷ []) xs
contains_part x [] (k, within, here) = absurd (omega (arith, within))
contains_part x (y ∷ xs) (zero, within, here) = inl (sym here, tt)
contains_part x (y ∷ xs) (suc k, within, here) = inr (contains_part x xs (k, omega (arith, within), here))

pub all_from : {X : Type 0} (P : X → Type 0) (xs : List X) → ((x : X) → Contains xs x → P x) → All P xs
all_from P [] each = λ k d within. absurd (omega (arith, within))
all_from P (x ∷ xs) each = all_cons P x xs (each x (0, omega arith, refl)) (all_from P xs (λ y has. each y (contains_behind x xs y has)))

-- two elements
first_at : {X : Type 0} (R : X → X → Type 0) (x : X) (xs : List X) → AllPairs R (x ∷ xs) → All (R x) xs
first_at R x xs pairs k d within = pairs 0 (suc k) d (omega arith) (omega (arith, within))

pairs_behind : {X : Type 0} (R : X → X → Type 0) (x : X) (xs : List X) → AllPairs R (x ∷ xs) → AllPairs R xs
pairs_behind R x xs pairs i j d less within = pairs (suc i) (suc j) d (omega (arith, less)) (omega (arith, within))

pub pair_at : {X : Type 0} (R : X → X → Type 0) (xs : List X) (a b : X) → AllPairs R xs → IsPartOf (a ∷ b ∷ []) xs → R a b
pair_at R [] a b pairs part = absurd part
pair_at R (x ∷ xs) a b pairs (inl (same, part)) =
    subst (λ (v : _). R v b) (sym same) (all_at (R x) xs b (first_at R x xs pairs) (part_contains b xs part))
pair_at R (x ∷ xs) a b pairs (inr part) = pair_at R xs a b (pairs_behind R x xs pairs) part

pub pairs_from : {X : Type 0} (R : X → X → Type 0) (xs : List X) → ((a b : X) → IsPartOf (a ∷ b ∷ []) xs → R a b) → AllPairs R xs
pairs_from R [] each = λ i j d less within. absurd (omega (arith, within))
pairs_from R (x ∷ xs) each =
    pairs_cons R x xs (all_from (R x) xs (λ b has. each x b (inl (refl, contains_part b xs has)))) (pairs_from R xs (λ a b part. each a b (inr part)))

pub part_head : {X : Type 0} (x : X) (xs ys : List X) → IsPartOf (x ∷ xs) ys → IsPartOf (x ∷ []) ys
part_head x xs [] part = absurd part
part_head x xs (y ∷ ys) (inl (same, part)) = inl (same, tt)
part_head x xs (y ∷ ys) (inr part) = inr (part_head x xs ys part)

pub contains_kept : {X : Type 0} (t : X → Bool) (x : X) (xs : List X) → Contains xs x → t x ≡ true → Contains (filter t xs) x
contains_kept t x xs has keep = part_contains x (filter t xs) (go xs (contains_part x xs has))
  where
    go : (xs : List _) → IsPartOf (x ∷ []) xs → IsPartOf (x ∷ []) (filter t xs)
    go [] part = absurd part
    go (y ∷ xs) (inl (same, part)) = by (t y) (ap t (sym same) ∙ keep)
      where
        by : (k : Bool) → k ≡ true → IsPartOf (x ∷ []) (cond k (y ∷ filter t xs) (filter t xs))
        by true e = inl (same, tt)
        by false e = cc
    go (y ∷ xs) (inr part) = by (t y) (go xs part)
      where
        by : (k : Bool) → IsPartOf (x ∷ []) (filter t xs) → IsPartOf (x ∷ []) (cond k (y ∷ filter t xs) (filter t xs))
        by true rest = inr rest
        by false rest = rest

-- what a filter has, the list has, and the test is true of it
pub kept_contains : {X : Type 0} (t : X → Bool) (x : X) (xs : List X) → Contains (filter t xs) x → Contains xs x
kept_contains t x xs has = part_contains x xs (part_of_part (x ∷ []) (filter t xs) xs (contains_part x (filter t xs) has) (part_filter t xs))

pub kept_true : {X : Type 0} (t : X → Bool) (x : X) (xs : List X) → Contains (filter t xs) x → t x ≡ true
kept_true t x xs has = all_at (λ y. t y ≡ true) (filter t xs) x (filter_passes t xs) has

-- a part is where the list is cut
pub part_at : {X : Type 0} (before behind : List X) (a x : X) → Contains before a → IsPartOf (a ∷ x ∷ []) (before ++ x ∷ behind)
part_at before behind a x has = part_join (a ∷ []) (x ∷ []) before (x ∷ behind) (contains_part a before has) (inl (refl, tt))

pub part_three : {X : Type 0} (first between last : List X) (a x b : X) → Contains between x →
    IsPartOf (a ∷ x ∷ b ∷ []) (first ++ a ∷ between ++ b ∷ last)
part_three first between last a x b has =
    part_join (a ∷ x ∷ []) (b ∷ []) (first ++ a ∷ between) (b ∷ last)
    (part_join [] (a ∷ x ∷ []) first (a ∷ between) tt (inl (refl, contains_part x between has))) (inl (refl, tt))

-- the list is cut where a part stands
pub record IsCut {X : Type 0} (a b : X) (xs : List X) : Type 0 where
  pub first : List X
  pub between : List X
  pub last : List X
  pub whole : xs ≡ first ++ a ∷ between ++ b ∷ last

pub cut_at : {X : Type 0} (a b : X) (xs : List X) → IsPartOf (a ∷ b ∷ []) xs → IsCut a b xs
cut_at a b [] part = absurd part
cut_at {X} a b (x ∷ xs) (inl (same, part)) = by (contains_split xs b (part_contains b xs part))
  where
    by : (before : List X) × (behind : List X) × (xs ≡ before ++ b ∷ behind) → IsCut a b (x ∷ xs)
    by (before, behind, is) = record { first = []; between = before; last = behind; whole = λ i. sym same i ∷ is i }
cut_at a b (x ∷ xs) (inr part) =
    let rest = cut_at a b xs part in
    record { first = x ∷ rest.first; between = rest.between; last = rest.last; whole = λ i. x ∷ rest.whole i }

-- the list is cut where a part of three stands
pub record IsCutThrice {X : Type 0} (a x b : X) (xs : List X) : Type 0 where
  pub first : List X
  pub between : List X
  pub last : List X
  pub whole : xs ≡ first ++ a ∷ between ++ b ∷ last
  pub inside : Contains between x

pub cut_thrice : {X : Type 0} (a x b : X) (xs : List X) → IsPartOf (a ∷ x ∷ b ∷ []) xs → IsCutThrice a x b xs
cut_thrice a x b [] part = absurd part
cut_thrice a x b (y ∷ xs) (inl (same, part)) =
    let rest = cut_at x b xs part in
    record {
      first = [];
      between = rest.first ++ x ∷ rest.between;
      last = rest.last;
      whole = λ i. sym same i ∷ rest.whole i;
      inside = part_contains x (rest.first ++ x ∷ rest.between) (part_join [] (x ∷ []) rest.first (x ∷ rest.between) tt (inl (refl, tt)));
    }
cut_thrice a x b (y ∷ xs) (inr part) =
    let rest = cut_thrice a x b xs part in
    record { first = y ∷ rest.first; between = rest.between; last = rest.last; whole = λ i. y ∷ rest.whole i; inside = rest.inside }

-- of two elements one stands before the other, or they are one
pub part_either_way : {X : Type 0} (a b : X) (xs : List X) → Contains xs a → Contains xs b →
    (a ≡ b) ⊎ IsPartOf (a ∷ b ∷ []) xs ⊎ IsPartOf (b ∷ a ∷ []) xs
part_either_way a b xs has_a has_b = go xs (contains_part a xs has_a) (contains_part b xs has_b)
  where
    more : (x : _) (xs : List _) → (a ≡ b) ⊎ IsPartOf (a ∷ b ∷ []) xs ⊎ IsPartOf (b ∷ a ∷ []) xs → (a ≡ b) ⊎ IsPartOf (a ∷ b ∷ []) (x ∷ xs) ⊎ IsPartOf (b ∷ a ∷ []) (x ∷ xs)
    more x xs (inl same) = inl same
    more x xs (inr (inl part)) = inr (inl (inr part))
    more x xs (inr (inr part)) = inr (inr (inr part))

    go : (xs : List _) → IsPartOf (a ∷ []) xs → IsPartOf (b ∷ []) xs → (a ≡ b) ⊎ IsPartOf (a ∷ b ∷ []) xs ⊎ IsPartOf (b ∷ a ∷ []) xs
    go [] p q = absurd p
    go (x ∷ xs) (inl (is_a, p)) (inl (is_b, q)) = inl (is_a ∙ sym is_b)
    go (x ∷ xs) (inl (is_a, p)) (inr q) = inr (inl (inl (is_a, q)))
    go (x ∷ xs) (inr p) (inl (is_b, q)) = inr (inr (inl (is_b, p)))
    go (x ∷ xs) (inr p) (inr q) = more x xs (go xs p q)

-- two parts of two make one of three, where no element stands twice
pub part_chain : {X : Type 0} (D : X → X → Type 0) → ((x : X) → ¬ D x x) → (xs : List X) (a b c : X) → AllPairs D xs →
    IsPartOf (a ∷ b ∷ []) xs → IsPartOf (b ∷ c ∷ []) xs → IsPartOf (a ∷ b ∷ c ∷ []) xs
part_chain D once [] a b c apart p q = absurd p
part_chain D once (x ∷ xs) a b c apart (inl (is_a, p)) (inl (is_b, q)) =
    absurd (once x (subst (D x) is_b (all_at (D x) xs b (first_at D x xs apart) (part_contains b xs p))))
part_chain D once (x ∷ xs) a b c apart (inl (is_a, p)) (inr q) = inl (is_a, q)
part_chain D once (x ∷ xs) a b c apart (inr p) (inl (is_b, q)) =
    absurd (once x (subst (D x) is_b (all_at (D x) xs b (first_at D x xs apart) (part_contains b xs (part_without_first a (b ∷ []) xs p)))))
part_chain D once (x ∷ xs) a b c apart (inr p) (inr q) = inr (part_chain D once xs a b c (pairs_behind D x xs apart) p q)

pub part_ends : {X : Type 0} (a b c : X) (xs : List X) → IsPartOf (a ∷ b ∷ c ∷ []) xs → IsPartOf (a ∷ c ∷ []) xs
part_ends a b c [] p = absurd p
part_ends a b c (x ∷ xs) (inl (is, p)) = inl (is, part_without_first b (c ∷ []) xs p)
part_ends a b c (x ∷ xs) (inr p) = inr (part_ends a b c xs p)

pub part_first : {X : Type 0} (a b : X) (xs : List X) → IsPartOf (a ∷ b ∷ []) xs → Contains xs a
part_first a b [] p = absurd p
part_first a b (x ∷ xs) (inl (is, p)) = (0, omega arith, sym is)
part_first a b (x ∷ xs) (inr p) = contains_behind x xs a (part_first a b xs p)

pub part_second : {X : Type 0} (a b : X) (xs : List X) → IsPartOf (a ∷ b ∷ []) xs → Contains xs b
part_second a b xs p = part_contains b xs (part_without_first a (b ∷ []) xs p)

-- two elements of two lists joined
pub part_two : {X : Type 0} (a b : X) (xs ys : List X) → IsPartOf (a ∷ b ∷ []) (xs ++ ys) →
    IsPartOf (a ∷ b ∷ []) xs ⊎ (Contains xs a × Contains ys b) ⊎ IsPartOf (a ∷ b ∷ []) ys
part_two a b [] ys part = inr (inr part)
part_two {X} a b (x ∷ xs) ys (inl (same, part)) = by (part_cut (b ∷ []) xs ys part)
  where
    by : IsParted (b ∷ []) xs ys → IsPartOf (a ∷ b ∷ []) (x ∷ xs) ⊎ (Contains (x ∷ xs) a × Contains ys b) ⊎ IsPartOf (a ∷ b ∷ []) ys
    by cut = go cut.first cut.second cut.whole cut.in_first cut.in_second
      where
        go : (first second : List X) → b ∷ [] ≡ first ++ second → IsPartOf first xs → IsPartOf second ys → IsPartOf (a ∷ b ∷ []) (x ∷ xs) ⊎ (Contains (x ∷ xs) a × Contains ys b) ⊎ IsPartOf (a ∷ b ∷ []) ys
        go [] second is p q = inr (inl ((0, omega arith, sym same), part_contains b ys (subst (λ (zs : List X). IsPartOf zs ys) (sym is) q)))
        go (f ∷ first) second is p q = inl (inl (same, contains_part b xs (subst (λ (v : X). Contains xs v) (sym (heads_same b f [] (first ++ second) is)) (part_contains f xs (part_head f first xs p)))))
part_two {X} a b (x ∷ xs) ys (inr part) = by (part_two a b xs ys part)
  where
    by : IsPartOf (a ∷ b ∷ []) xs ⊎ (Contains xs a × Contains ys b) ⊎ IsPartOf (a ∷ b ∷ []) ys → IsPartOf (a ∷ b ∷ []) (x ∷ xs) ⊎ (Contains (x ∷ xs) a × Contains ys b) ⊎ IsPartOf (a ∷ b ∷ []) ys
    by (inl p) = inl (inr p)
    by (inr (inl (p, q))) = inr (inl (contains_behind x xs a p, q))
    by (inr (inr q)) = inr (inr q)

-- three elements of two lists joined
pub part_thrice : {X : Type 0} (a x b : X) (xs ys : List X) → IsPartOf (a ∷ x ∷ b ∷ []) (xs ++ ys) →
    IsPartOf (a ∷ x ∷ b ∷ []) xs ⊎ (IsPartOf (a ∷ x ∷ []) xs × Contains ys b) ⊎ (Contains xs a × IsPartOf (x ∷ b ∷ []) ys) ⊎ IsPartOf (a ∷ x ∷ b ∷ []) ys
part_thrice a x b [] ys part = inr (inr (inr part))
part_thrice {X} a x b (z ∷ xs) ys (inl (same, part)) = by (part_two x b xs ys part)
  where
    by : IsPartOf (x ∷ b ∷ []) xs ⊎ (Contains xs x × Contains ys b) ⊎ IsPartOf (x ∷ b ∷ []) ys →
        IsPartOf (a ∷ x ∷ b ∷ []) (z ∷ xs) ⊎ (IsPartOf (a ∷ x ∷ []) (z ∷ xs) × Contains ys b) ⊎ (Contains (z ∷ xs) a × IsPartOf (x ∷ b ∷ []) ys) ⊎ IsPartOf (a ∷ x ∷ b ∷ []) ys
    by (inl p) = inl (inl (same, p))
    by (inr (inl (p, q))) = inr (inl (inl (same, contains_part x xs p), q))
    by (inr (inr q)) = inr (inr (inl ((0, omega arith, sym same), q)))
part_thrice {X} a x b (z ∷ xs) ys (inr part) = by (part_thrice a x b xs ys part)
  where
    by : IsPartOf (a ∷ x ∷ b ∷ []) xs ⊎ (IsPartOf (a ∷ x ∷ []) xs × Contains ys b) ⊎ (Contains xs a × IsPartOf (x ∷ b ∷ []) ys) ⊎ IsPartOf (a ∷ x ∷ b ∷ []) ys →
        IsPartOf (a ∷ x ∷ b ∷ []) (z ∷ xs) ⊎ (IsPartOf (a ∷ x ∷ []) (z ∷ xs) × Contains ys b) ⊎ (Contains (z ∷ xs) a × IsPartOf (x ∷ b ∷ []) ys) ⊎ IsPartOf (a ∷ x ∷ b ∷ []) ys
    by (inl p) = inl (inr p)
    by (inr (inl (p, q))) = inr (inl (inr p, q))
    by (inr (inr (inl (p, q)))) = inr (inr (inl (contains_behind z xs a p, q)))
    by (inr (inr (inr q))) = inr (inr (inr q))

-- a part stays one where a list is put between
pub part_wider : {X : Type 0} (zs xs between ys : List X) → IsPartOf zs (xs ++ ys) → IsPartOf zs (xs ++ between ++ ys)
part_wider zs xs between ys part =
    let cut = part_cut zs xs ys part in
    subst (λ (vs : List _). IsPartOf vs (xs ++ between ++ ys)) (sym cut.whole)
    (part_join cut.first cut.second (xs ++ between) ys (part_of_part cut.first xs (xs ++ between) cut.in_first (part_front xs between)) cut.in_second)

-- two elements that a test keeps stay in their order
pub part_kept : {X : Type 0} (t : X → Bool) (a b : X) (xs : List X) → IsPartOf (a ∷ b ∷ []) xs → t a ≡ true → t b ≡ true → IsPartOf (a ∷ b ∷ []) (filter t xs)
part_kept t a b [] part keep_a keep_b = absurd part
part_kept {X} t a b (x ∷ xs) (inl (same, part)) keep_a keep_b = by (t x) (ap t (sym same) ∙ keep_a)
  where
    by : (k : Bool) → k ≡ true → IsPartOf (a ∷ b ∷ []) (cond k (x ∷ filter t xs) (filter t xs))
    by true e = inl (same, contains_part b (filter t xs) (contains_kept t b xs (part_contains b xs part) keep_b))
    by false e = cc
part_kept {X} t a b (x ∷ xs) (inr part) keep_a keep_b = by (t x) (part_kept t a b xs part keep_a keep_b)
  where
    by : (k : Bool) → IsPartOf (a ∷ b ∷ []) (filter t xs) → IsPartOf (a ∷ b ∷ []) (cond k (x ∷ filter t xs) (filter t xs))
    by true rest = inr rest
    by false rest = rest

-- what stands before an element that stands once, does so where the list is cut at it
pub before_cut : {X : Type 0} (D : X → X → Type 0) → ((x : X) → ¬ D x x) → (xs before after : List X) (a x : X) → AllPairs D xs → xs ≡ before ++ x ∷ after →
    IsPartOf (a ∷ x ∷ []) xs → Contains before a
before_cut {X} D once xs before after a x apart is part =
    by (part_two a x before (x ∷ after) (subst (λ (ys : List X). IsPartOf (a ∷ x ∷ []) ys) is part))
  where
    apart_cut : AllPairs D (before ++ x ∷ after)
    apart_cut = subst (AllPairs D) is apart

    first : Contains before x → ⊥
    first has = once x (pair_at D (before ++ x ∷ after) x x apart_cut (part_at before after x x has))

    again : Contains after x → ⊥
    again has = once x (pair_at D (before ++ x ∷ after) x x apart_cut (part_join [] (x ∷ x ∷ []) before (x ∷ after) tt (inl (refl, contains_part x after has))))

    by : IsPartOf (a ∷ x ∷ []) before ⊎ (Contains before a × Contains (x ∷ after) x) ⊎ IsPartOf (a ∷ x ∷ []) (x ∷ after) → Contains before a
    by (inl p) = absurd (first (part_second a x before p))
    by (inr (inl (has, there))) = has
    by (inr (inr (inl (same, p)))) = absurd (again (part_contains x after p))
    by (inr (inr (inr p))) = absurd (again (part_second a x after p))
