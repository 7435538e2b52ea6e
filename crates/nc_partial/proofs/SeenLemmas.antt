-- The nodes that exist among the rows that are seen, one after the other.
use Rattle.std.proofs.Common.{◌≡◌, ◌&&◌, ◌||◌, ◌∙◌, Bor, Bool, true, false, cond, not, map, List, [], ◌∷◌, refl, sym, ap}
use Rattle.std.specs.List.{filter, list_any}
use Rattle.nc_names.proofs.StepOrder.{same_path}
use Rattle.nc_names.specs.Same.{is_at_or_below, is_same_path}
use Rattle.nc_names.specs.declared.path.Path.{Path}
use Rattle.nc_names.specs.declared.path.Row.{Row}
use Rattle.nc_names.specs.declared.path.Step.{Step}
use Rattle.nc_schema.specs.Blocks.{at_node}
use Rattle.nc_schema.specs.Kinds.{is_plain_container}
use Rattle.nc_schema.specs.Standing.{block_at, exists, has_row}
use Rattle.nc_schema.specs.Tables.{Tables}
use Rattle.nc_model.specs.Verdict.{each_once, is_matched}
use Rattle.nc_partial.specs.Selects.{rows_seen}
use Rattle.nc_partial.proofs.OnceLemmas.{filter_twice, other_than}

-- ---- tests of lists
any_filter : {X : Type 0} (t p : X → Bool) (xs : List X) → list_any t (filter p xs) ≡ list_any (λ x. p x && t x) xs
any_filter t p [] = refl
any_filter {X} t p (x ∷ xs) = by (p x) (any_filter t p xs)
  where
    by : (b : Bool) → list_any t (filter p xs) ≡ list_any (λ (y : X). p y && t y) xs →
        list_any t (cond b (x ∷ filter p xs) (filter p xs)) ≡ ((b && t x) || list_any (λ (y : X). p y && t y) xs)
    by true e = ap (λ c. t x || c) e
    by false e = e

any_same : {X : Type 0} (f g : X → Bool) (xs : List X) → ((x : X) → f x ≡ g x) → list_any f xs ≡ list_any g xs
any_same f g [] same = refl
any_same f g (x ∷ xs) same = (λ i. same x i || any_same f g xs same i)

any_map : {X Y : Type 0} (f : X → Bool) (h : Y → X) (ys : List Y) → list_any f (map h ys) ≡ list_any (λ y. f (h y)) ys
any_map f h [] = refl
any_map f h (y ∷ ys) = ap (λ c. f (h y) || c) (any_map f h ys)

turned : (a b : Bool) → (a && b) ≡ (b && a)
turned true true = refl
turned true false = refl
turned false true = refl
turned false false = refl

none_of : (a : Bool) → (a && false) ≡ false
none_of true = refl
none_of false = refl

-- ---- one node
path_is : (a b : Path) → is_same_path a.steps b.steps ≡ true → a ≡ b
path_is a b same = ap (λ (steps : List Step). record { steps = steps }) (same_path a.steps b.steps same)

row_seen : (seen : Path → Bool) (rows : List Row) (path : Path) → has_row (rows_seen seen rows) path.steps ≡ (has_row rows path.steps && seen path)
row_seen seen [] path = refl
row_seen seen (row ∷ rows) path = by (seen row.path) (is_same_path row.path.steps path.steps) refl refl (row_seen seen rows path)
  where
    by : (s b : Bool) → seen row.path ≡ s → is_same_path row.path.steps path.steps ≡ b →
        has_row (rows_seen seen rows) path.steps ≡ (has_row rows path.steps && seen path) →
        has_row (cond s (row ∷ rows_seen seen rows) (rows_seen seen rows)) path.steps ≡ ((b || has_row rows path.steps) && seen path)
    by true true is same rest =
        ap (λ c. c || has_row (rows_seen seen rows) path.steps) same ∙ sym is ∙ ap seen (path_is row.path path same)
    by true false is same rest = ap (λ c. c || has_row (rows_seen seen rows) path.steps) same ∙ rest
    by false true is same rest =
        let off : seen path ≡ false = sym (ap seen (path_is row.path path same)) ∙ is in
        rest ∙ ap (λ c. has_row rows path.steps && c) off ∙ none_of (has_row rows path.steps) ∙ sym off
    by false false is same rest = rest

below_seen : (seen : Path → Bool) (rows : List Row) (steps : List Step) →
    exists (rows_seen seen rows) steps ≡ list_any (λ row. seen row.path) (block_at rows steps)
below_seen seen rows steps =
    any_filter (λ (row : Row). is_at_or_below steps row.path) (λ (row : Row). seen row.path) rows
    ∙ any_same (λ (row : Row). seen row.path && is_at_or_below steps row.path) (λ (row : Row). is_at_or_below steps row.path && seen row.path) rows
    (λ row. turned (seen row.path) (is_at_or_below steps row.path))
    ∙ sym (any_filter (λ (row : Row). seen row.path) (λ (row : Row). is_at_or_below steps row.path) rows)

pub own_seen : (tables : Tables) (seen : Path → Bool) (rows : List Row) (path : Path) (plain found : Bool) →
    plain ≡ at_node tables path is_plain_container → plain ≡ false → found ≡ (has_row rows path.steps && seen path) →
    found ≡ is_matched tables (rows_seen seen rows) path
own_seen tables seen rows path plain found is off found_is =
    found_is ∙ sym (row_seen seen rows path)
    ∙ ap (λ b. cond b (exists (rows_seen seen rows) path.steps) (has_row (rows_seen seen rows) path.steps)) (sym off ∙ is)

pub plain_seen : (tables : Tables) (seen : Path → Bool) (rows : List Row) (path : Path) (block : List (Bor Row)) (plain found : Bool) →
    plain ≡ at_node tables path is_plain_container → plain ≡ true → map (λ row. row.now) block ≡ block_at rows path.steps →
    found ≡ list_any (λ row. seen row.now.path) block → found ≡ is_matched tables (rows_seen seen rows) path
plain_seen tables seen rows path block plain found is on block_is found_is =
    found_is ∙ sym (any_map (λ (row : Row). seen row.path) (λ (row : Bor Row). row.now) block)
    ∙ ap (list_any (λ (row : Row). seen row.path)) block_is ∙ sym (below_seen seen rows path.steps)
    ∙ ap (λ b. cond b (exists (rows_seen seen rows) path.steps) (has_row (rows_seen seen rows) path.steps)) (sym on ∙ is)

-- ---- each once
once_kept : (f : Path → Bool) (paths : List Path) → filter f (each_once paths) ≡ each_once (filter f paths)
once_kept f [] = refl
once_kept f (path ∷ paths) = by (f path) refl (once_kept f paths)
  where
    drops : f path ≡ false → (other : Path) → (other_than path other && f other) ≡ f other
    drops off other = at (is_same_path other.steps path.steps) refl
      where
        at : (b : Bool) → is_same_path other.steps path.steps ≡ b → (not b && f other) ≡ f other
        at true same = sym (ap f (path_is other path same) ∙ off)
        at false same = refl

    by : (b : Bool) → f path ≡ b → filter f (each_once paths) ≡ each_once (filter f paths) →
        cond b (path ∷ filter f (filter (other_than path) (each_once paths))) (filter f (filter (other_than path) (each_once paths)))
        ≡ each_once (cond b (path ∷ filter f paths) (filter f paths))
    by true e kept =
        ap (λ (rest : List Path). path ∷ rest)
        (filter_twice f (other_than path) (λ other. other_than path other && f other) (each_once paths) (λ other. refl)
        ∙ sym (filter_twice (other_than path) f (λ other. other_than path other && f other) (each_once paths) (λ other. turned (f other) (other_than path other)))
        ∙ ap (filter (other_than path)) kept)
    by false e kept = filter_twice f (other_than path) f (each_once paths) (drops e) ∙ kept

pub once_seen : (f : Path → Bool) (paths nodes kept : List Path) → nodes ≡ each_once paths → kept ≡ filter f nodes → kept ≡ each_once (filter f paths)
once_seen f paths nodes kept nodes_is kept_is = kept_is ∙ ap (filter f) nodes_is ∙ once_kept f paths
