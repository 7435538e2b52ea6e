-- Rows that are put in their place, from those of parts.
use Rattle.std.proofs.Common.{◌≡◌, ◌++◌, ℕ, true, false, not, List, [], ◌∷◌, refl, sym, ap, ◌∙◌}
use Rattle.std.specs.List.{All, filter}
use Rattle.std.proofs.lemmas.List.{append_assoc, append-nil}
use Rattle.std.proofs.lemmas.List.Elements.{All-head, All-tail, filter-append}
use Rattle.nc_names.specs.declared.path.Row.{Row}
use Rattle.nc_names.specs.declared.path.Step.{Step}
use Rattle.nc_schema.specs.Tables.{Tables}
use Rattle.nc_branches.specs.inner.Order.{IsUnder}
use Rattle.nc_branches.specs.Sides.{among, is_front, stays}
use Rattle.nc_branches.proofs.RowSides.{gone_row}

abbrev pub Orders : Type 0
Orders = List (List (List (List ℕ)))

-- the rows that stay before a path, and those that stay after it
abbrev fronts : Tables → Orders → List Step → List Row → List Row → List Row
fronts tables orders steps block rows = filter (is_front tables orders steps) (filter (stays tables steps block) rows)

abbrev backs : Tables → Orders → List Step → List Row → List Row → List Row
backs tables orders steps block rows = filter (λ row. not (is_front tables orders steps row)) (filter (stays tables steps block) rows)

-- what is so of a row before the path, after it, and at or below it
abbrev pub IsFront : Tables → Orders → List Step → List Row → Row → Type 0
IsFront tables orders steps block row = (stays tables steps block row ≡ true) × (is_front tables orders steps row ≡ true)

abbrev pub IsBack : Tables → Orders → List Step → List Row → Row → Type 0
IsBack tables orders steps block row = (stays tables steps block row ≡ true) × (is_front tables orders steps row ≡ false)

module _ (tables : Tables) (orders : Orders) (steps : List Step) (block : List Row) where
  fronts_append : (xs ys : List Row) → fronts tables orders steps block (xs ++ ys) ≡ fronts tables orders steps block xs ++ fronts tables orders steps block ys
  fronts_append xs ys = ap (filter (is_front tables orders steps)) (filter-append (stays tables steps block) xs ys)
      ∙ filter-append (is_front tables orders steps) (filter (stays tables steps block) xs) (filter (stays tables steps block) ys)

  backs_append : (xs ys : List Row) → backs tables orders steps block (xs ++ ys) ≡ backs tables orders steps block xs ++ backs tables orders steps block ys
  backs_append xs ys = ap (filter (λ row. not (is_front tables orders steps row))) (filter-append (stays tables steps block) xs ys)
      ∙ filter-append (λ row. not (is_front tables orders steps row)) (filter (stays tables steps block) xs) (filter (stays tables steps block) ys)

  front_fronts : (xs : List Row) → All (IsFront tables orders steps block) xs → fronts tables orders steps block xs ≡ xs
  front_fronts [] all = refl
  front_fronts (x ∷ xs) all =
      let first = All-head (IsFront tables orders steps block) x xs all in
      let rest : fronts tables orders steps block xs ≡ xs = front_fronts xs (All-tail (IsFront tables orders steps block) x xs all) in
      rw (first.0) (rw (first.1) (ap (λ ys. x ∷ ys) rest))

  front_backs : (xs : List Row) → All (IsFront tables orders steps block) xs → backs tables orders steps block xs ≡ []
  front_backs [] all = refl
  front_backs (x ∷ xs) all =
      let first = All-head (IsFront tables orders steps block) x xs all in
      let rest : backs tables orders steps block xs ≡ [] = front_backs xs (All-tail (IsFront tables orders steps block) x xs all) in
      rw (first.0) (rw (first.1) rest)

  back_fronts : (xs : List Row) → All (IsBack tables orders steps block) xs → fronts tables orders steps block xs ≡ []
  back_fronts [] all = refl
  back_fronts (x ∷ xs) all =
      let first = All-head (IsBack tables orders steps block) x xs all in
      let rest : fronts tables orders steps block xs ≡ [] = back_fronts xs (All-tail (IsBack tables orders steps block) x xs all) in
      rw (first.0) (rw (first.1) rest)

  back_backs : (xs : List Row) → All (IsBack tables orders steps block) xs → backs tables orders steps block xs ≡ xs
  back_backs [] all = refl
  back_backs (x ∷ xs) all =
      let first = All-head (IsBack tables orders steps block) x xs all in
      let rest : backs tables orders steps block xs ≡ xs = back_backs xs (All-tail (IsBack tables orders steps block) x xs all) in
      rw (first.0) (rw (first.1) (ap (λ ys. x ∷ ys) rest))

  gone_stays : (xs : List Row) → All (IsUnder steps) xs → filter (stays tables steps block) xs ≡ []
  gone_stays [] all = refl
  gone_stays (x ∷ xs) all = rw (gone_row tables steps block x (All-head (IsUnder steps) x xs all)) (gone_stays xs (All-tail (IsUnder steps) x xs all))

  -- the part in which the path goes on is on the left of others
  pub left_among : (l t r : List Row) → All (IsBack tables orders steps block) t → All (IsBack tables orders steps block) r → among tables orders steps block (l ++ t ++ r) ≡ among tables orders steps block l ++ t ++ r
  left_among l t r t_back r_back =
      let f : fronts tables orders steps block (l ++ t ++ r) ≡ fronts tables orders steps block l =
      fronts_append (l ++ t) r ∙ ap (λ xs. fronts tables orders steps block (l ++ t) ++ xs) (back_fronts r r_back) ∙ append-nil (fronts tables orders steps block (l ++ t))
      ∙ fronts_append l t ∙ ap (λ xs. fronts tables orders steps block l ++ xs) (back_fronts t t_back) ∙ append-nil (fronts tables orders steps block l) in
      let b : backs tables orders steps block (l ++ t ++ r) ≡ backs tables orders steps block l ++ t ++ r =
      backs_append (l ++ t) r ∙ ap (λ xs. backs tables orders steps block (l ++ t) ++ xs) (back_backs r r_back)
      ∙ ap (λ xs. xs ++ r) (backs_append l t ∙ ap (λ xs. backs tables orders steps block l ++ xs) (back_backs t t_back)) in
      (λ i. f i ++ block ++ b i)
      ∙ sym (append_assoc (fronts tables orders steps block l ++ block) (backs tables orders steps block l ++ t) r)
      ∙ ap (λ xs. xs ++ r) (sym (append_assoc (fronts tables orders steps block l ++ block) (backs tables orders steps block l) t))

  -- it is on the right of others
  pub right_among : (l t r : List Row) → All (IsFront tables orders steps block) l → All (IsFront tables orders steps block) t → among tables orders steps block (l ++ t ++ r) ≡ l ++ t ++ among tables orders steps block r
  right_among l t r l_front t_front =
      let f : fronts tables orders steps block (l ++ t ++ r) ≡ l ++ t ++ fronts tables orders steps block r =
      fronts_append (l ++ t) r ∙ ap (λ xs. xs ++ fronts tables orders steps block r) (fronts_append l t ∙ (λ i. front_fronts l l_front i ++ front_fronts t t_front i)) in
      let b : backs tables orders steps block (l ++ t ++ r) ≡ backs tables orders steps block r =
      backs_append (l ++ t) r ∙ ap (λ xs. xs ++ backs tables orders steps block r) (backs_append l t ∙ (λ i. front_backs l l_front i ++ front_backs t t_front i)) in
      (λ i. f i ++ block ++ b i)
      ∙ ap (λ xs. xs ++ backs tables orders steps block r) (append_assoc (l ++ t) (fronts tables orders steps block r) block)
      ∙ append_assoc (l ++ t) (fronts tables orders steps block r ++ block) (backs tables orders steps block r)

  -- it is between others
  pub here_among : (l t r : List Row) → All (IsFront tables orders steps block) l → All (IsBack tables orders steps block) r → among tables orders steps block (l ++ t ++ r) ≡ l ++ among tables orders steps block t ++ r
  here_among l t r l_front r_back =
      let f : fronts tables orders steps block (l ++ t ++ r) ≡ l ++ fronts tables orders steps block t =
      fronts_append (l ++ t) r ∙ ap (λ xs. fronts tables orders steps block (l ++ t) ++ xs) (back_fronts r r_back) ∙ append-nil (fronts tables orders steps block (l ++ t))
      ∙ fronts_append l t ∙ ap (λ xs. xs ++ fronts tables orders steps block t) (front_fronts l l_front) in
      let b : backs tables orders steps block (l ++ t ++ r) ≡ backs tables orders steps block t ++ r =
      backs_append (l ++ t) r ∙ ap (λ xs. backs tables orders steps block (l ++ t) ++ xs) (back_backs r r_back)
      ∙ ap (λ xs. xs ++ r) (backs_append l t ∙ ap (λ xs. xs ++ backs tables orders steps block t) (front_backs l l_front)) in
      (λ i. f i ++ block ++ b i)
      ∙ ap (λ xs. xs ++ (backs tables orders steps block t ++ r)) (append_assoc l (fronts tables orders steps block t) block)
      ∙ sym (append_assoc (l ++ (fronts tables orders steps block t ++ block)) (backs tables orders steps block t) r)
      ∙ ap (λ xs. xs ++ r) (append_assoc l (fronts tables orders steps block t ++ block) (backs tables orders steps block t))

  -- all that stood there goes
  pub gone_among : (rows : List Row) → All (IsUnder steps) rows → among tables orders steps block rows ≡ block
  gone_among rows all =
      let none = gone_stays rows all in
      (λ i. filter (is_front tables orders steps) (none i) ++ block ++ filter (λ row. not (is_front tables orders steps row)) (none i)) ∙ append-nil block

  -- nothing stood there
  pub none_among : (rows : List Row) → rows ≡ [] → among tables orders steps block rows ≡ block
  none_among rows none = ap (among tables orders steps block) none ∙ append-nil block

  -- the row of a node above the path stays before it
  pub own_among : (own below : List Row) → All (IsFront tables orders steps block) own → among tables orders steps block (own ++ below) ≡ own ++ among tables orders steps block below
  own_among own below own_front =
      let f : fronts tables orders steps block (own ++ below) ≡ own ++ fronts tables orders steps block below = fronts_append own below ∙ ap (λ xs. xs ++ fronts tables orders steps block below) (front_fronts own own_front) in
      let b : backs tables orders steps block (own ++ below) ≡ backs tables orders steps block below = backs_append own below ∙ ap (λ xs. xs ++ backs tables orders steps block below) (front_backs own own_front) in
      (λ i. f i ++ block ++ b i)
      ∙ ap (λ xs. xs ++ backs tables orders steps block below) (append_assoc own (fronts tables orders steps block below) block)
      ∙ append_assoc own (fronts tables orders steps block below ++ block) (backs tables orders steps block below)
