-- How far a text is a name, from place to place.
use Rattle.std.proofs.Common.{◌≡◌, ◌≢◌, ℕ, zero, suc, ◌<◌, ◌≤◌, ◌+◌, Bool, true, false, cond, eqb, ◌&&◌, ◌||◌, List, [], ◌∷◌, ◌++◌, Option, Some, length, drop, get_or, min, max, filter, slice_get, refl, sym, ap, ◌∙◌, append-nil, arith}
use Rattle.std.specs.List.{list_any}
use Rattle.std.specs.Option.{option_map_or}
use Rattle.std.proofs.lemmas.Bool.Decides.{Decides-eqb}
use Rattle.nc_names.specs.declared.name.Bound.{Bound}
use Rattle.nc_schema.specs.declared.node.Node.{Node}
use Rattle.nc_path_places.specs.inner.Going.{Reading}
use Rattle.nc_path_places.specs.inner.Candidates.{common, counts, spells, spelling, fits, far_among, far_of_node, far_of, is_nameable, can_end, numbers}

pub common_next : (xs ys : List ℕ) (i : ℕ) → i < length xs → i < length ys → get_or xs i 0 ≡ get_or ys i 0 → common (drop i xs) (drop i ys) ≡ common (drop (i + 1) xs) (drop (i + 1) ys) + 1
common_next [] ys i x y same = absurd (omega (arith, x))
common_next (a ∷ xs) [] i x y same = absurd (omega (arith, y))
common_next (a ∷ xs) (b ∷ ys) zero x y same = rw ((Decides-eqb a b).1 same) (omega arith)
common_next (a ∷ xs) (b ∷ ys) (suc i) x y same =
    let next : suc i + 1 ≡ suc (i + 1) = omega arith in
    rw next (common_next xs ys i (omega (arith, x)) (omega (arith, y)) same)

pub common_differ : (xs ys : List ℕ) (i : ℕ) → i < length xs → i < length ys → get_or xs i 0 ≢ get_or ys i 0 → common (drop i xs) (drop i ys) ≡ 0
common_differ [] ys i x y other = absurd (omega (arith, x))
common_differ (a ∷ xs) [] i x y other = absurd (omega (arith, y))
common_differ (a ∷ xs) (b ∷ ys) zero x y other = by (eqb a b) refl
  where
    by : (t : Bool) → eqb a b ≡ t → cond t (suc (common xs ys)) 0 ≡ 0
    by true same = absurd (other ((Decides-eqb a b).0 same))
    by false same = refl
common_differ (a ∷ xs) (b ∷ ys) (suc i) x y other = common_differ xs ys i (omega (arith, x)) (omega (arith, y)) other

common_nothing : (xs : List ℕ) → common xs [] ≡ 0
common_nothing [] = refl
common_nothing (x ∷ xs) = refl

pub common_end : (xs ys : List ℕ) (i : ℕ) → min (length xs) (length ys) ≤ i → common (drop i xs) (drop i ys) ≡ 0
common_end [] ys zero past = refl
common_end [] ys (suc i) past = refl
common_end (a ∷ xs) [] zero past = refl
common_end (a ∷ xs) [] (suc i) past = common_nothing (drop i xs)
common_end (a ∷ xs) (b ∷ ys) zero past = absurd (omega (arith, past))
common_end (a ∷ xs) (b ∷ ys) (suc i) past = common_end xs ys i (omega (arith, past))

pub common_short : (xs ys zs : List ℕ) → common xs ys < length ys → common xs (ys ++ zs) ≡ common xs ys
common_short xs [] zs less = absurd (omega (arith, less))
common_short [] (b ∷ ys) zs less = refl
common_short (a ∷ xs) (b ∷ ys) zs less = by (eqb a b) less (common_short xs ys zs)
  where
    by : (t : Bool) → cond t (suc (common xs ys)) 0 < length (b ∷ ys) → (common xs ys < length ys → common xs (ys ++ zs) ≡ common xs ys) → cond t (suc (common xs (ys ++ zs))) 0 ≡ cond t (suc (common xs ys)) 0
    by true h further = ap suc (further (omega (arith, h)))
    by false h further = refl

pub common_whole : (xs ys zs : List ℕ) → length ys ≤ common xs ys → common xs (ys ++ zs) ≡ common xs ys + common (drop (common xs ys) xs) zs
common_whole [] [] zs most = refl
common_whole (a ∷ xs) [] zs most = let none : 0 + common (a ∷ xs) zs ≡ common (a ∷ xs) zs = omega arith in sym none
common_whole [] (b ∷ ys) zs most = absurd (omega (arith, most))
common_whole (a ∷ xs) (b ∷ ys) zs most = by (eqb a b) most (common_whole xs ys zs)
  where
    by : (t : Bool) → length (b ∷ ys) ≤ cond t (suc (common xs ys)) 0 → (length ys ≤ common xs ys → common xs (ys ++ zs) ≡ common xs ys + common (drop (common xs ys) xs) zs) → cond t (suc (common xs (ys ++ zs))) 0 ≡ cond t (suc (common xs ys)) 0 + common (drop (cond t (suc (common xs ys)) 0) (a ∷ xs)) zs
    by true h further = let rest = further (omega (arith, h)) in omega (arith, rest)
    by false h further = absurd (omega (arith, h))

-- ---- the bindings that count
far_filter : (s : Reading) (node : Node) (text : List ℕ) (bounds : List Bound) → far_among node text (filter (counts s.tables s.bounds) bounds) ≡ far_of_node s node text bounds
far_filter s node text [] = refl
far_filter s node text (b ∷ bounds) = by (counts s.tables s.bounds b) (far_filter s node text bounds)
  where
    by : (t : Bool) → far_among node text (filter (counts s.tables s.bounds) bounds) ≡ far_of_node s node text bounds → far_among node text (cond t (b ∷ filter (counts s.tables s.bounds) bounds) (filter (counts s.tables s.bounds) bounds)) ≡ max (cond (t && fits node b) (common text (spelling node b)) 0) (far_of_node s node text bounds)
    by true e = ap (λ n. max (cond (fits node b) (common text (spelling node b)) 0) n) e
    by false e = omega (arith, e)

any_filter : (s : Reading) (node : Node) (bounds : List Bound) → list_any (fits node) (filter (counts s.tables s.bounds) bounds) ≡ list_any (spells s node) bounds
any_filter s node [] = refl
any_filter s node (b ∷ bounds) = by (counts s.tables s.bounds b) (any_filter s node bounds)
  where
    by : (t : Bool) → list_any (fits node) (filter (counts s.tables s.bounds) bounds) ≡ list_any (spells s node) bounds → list_any (fits node) (cond t (b ∷ filter (counts s.tables s.bounds) bounds) (filter (counts s.tables s.bounds) bounds)) ≡ ((t && fits node b) || list_any (spells s node) bounds)
    by true e = ap (λ t. fits node b || t) e
    by false e = e

pub far_of_usable : (s : Reading) (usable : List Bound) (text : List ℕ) (number : ℕ) (node : Node) → usable ≡ filter (counts s.tables s.bounds) s.bounds → slice_get s.tables.nodes number ≡ Some node → far_of s text number ≡ far_among node text usable
far_of_usable s usable text number node e node_is =
    ap (λ o. option_map_or (λ (n : Node). far_of_node s n text s.bounds) o 0) node_is ∙ sym (far_filter s node text s.bounds) ∙ ap (far_among node text) (sym e)

pub any_of_usable : (s : Reading) (usable : List Bound) (number : ℕ) (node : Node) → usable ≡ filter (counts s.tables s.bounds) s.bounds → slice_get s.tables.nodes number ≡ Some node → is_nameable s number ≡ list_any (fits node) usable
any_of_usable s usable number node e node_is =
    ap (λ o. option_map_or (λ (n : Node). list_any (spells s n) s.bounds) o false) node_is ∙ sym (any_filter s node s.bounds) ∙ ap (list_any (fits node)) (sym e)

-- ---- numbers
filter_push : (p : ℕ → Bool) (xs : List ℕ) (x : ℕ) → filter p (xs ++ x ∷ []) ≡ filter p xs ++ cond (p x) (x ∷ []) []
filter_push p [] x = refl
filter_push p (y ∷ xs) x = by (p y) (filter_push p xs x)
  where
    by : (t : Bool) → filter p (xs ++ x ∷ []) ≡ filter p xs ++ cond (p x) (x ∷ []) [] → cond t (y ∷ filter p (xs ++ x ∷ [])) (filter p (xs ++ x ∷ [])) ≡ cond t (y ∷ filter p xs) (filter p xs) ++ cond (p x) (x ∷ []) []
    by true e = ap (λ z. y ∷ z) e
    by false e = e

pub next_end : (s : Reading) (above : Option ℕ) (out : List ℕ) (n : ℕ) → out ≡ filter (can_end s above) (numbers n) → can_end s above n ≡ true → out ++ n ∷ [] ≡ filter (can_end s above) (numbers (n + 1))
next_end s above out n e ends =
    let next : n + 1 ≡ suc n = omega arith in
    rw next (ap (λ x. x ++ n ∷ []) e ∙ sym (filter_push (can_end s above) (numbers n) n ∙ ap (λ t. filter (can_end s above) (numbers n) ++ cond t (n ∷ []) []) ends))

pub no_end : (s : Reading) (above : Option ℕ) (out : List ℕ) (n : ℕ) → out ≡ filter (can_end s above) (numbers n) → can_end s above n ≡ false → out ≡ filter (can_end s above) (numbers (n + 1))
no_end s above out n e ends =
    let next : n + 1 ≡ suc n = omega arith in
    rw next (e ∙ sym (filter_push (can_end s above) (numbers n) n ∙ ap (λ t. filter (can_end s above) (numbers n) ++ cond t (n ∷ []) []) ends ∙ append-nil (filter (can_end s above) (numbers n))))
