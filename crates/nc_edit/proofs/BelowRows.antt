-- An edit below a node is made among the rows below it.
use Rattle.std.proofs.Common.{◌≡◌, ◌||◌, ◌++◌, ℕ, Bool, true, false, cond, not, List, [], ◌∷◌, Option, refl, sym, ap, ◌∙◌}
use Rattle.std.proofs.lemmas.List.{append_assoc, append-nil}
use Rattle.std.proofs.lemmas.List.Elements.{filter_map-append}
use Rattle.std.specs.List.{filter, filter_map, list_any}
use Rattle.nc_names.proofs.SameLemmas.{path_decide, step_itself}
use Rattle.nc_names.specs.Same.{is_at_or_below, is_same_path}
use Rattle.nc_names.specs.declared.path.Path.{Path}
use Rattle.nc_names.specs.declared.path.Place.{Place}
use Rattle.nc_names.specs.declared.path.Row.{Row}
use Rattle.nc_names.specs.declared.path.Step.{Step}
use Rattle.nc_schema.specs.Blocks.{other_rows, row_at, with_block}
use Rattle.nc_schema.specs.Standing.{block_at, entries, excludes, exists, has_row, keys_in, steps_before}
use Rattle.nc_schema.specs.Tables.{Tables}
use Rattle.nc_edit.specs.inner.Alone.{AreAt, AreFree, AreUnder}
use Rattle.nc_edit.proofs.Between.{Answer, answer_by, answer_filter, answer_left, any_behind, any_between, filter_behind, filter_between, find_behind, find_between}
use Rattle.nc_edit.proofs.BelowPaths.{aside_excludes, aside_keys, aside_longer, goes_further, goes_on, own_excludes, own_keys, starts_on}

-- a row is at some steps or below them
abbrev pub is_under : List Step → Row → Bool
is_under steps row = goes_on steps row.path.steps

-- the rows beside a node, those before it, and those behind it
abbrev pub beside : List Step → List Row → List Row
beside steps rows = filter (λ row. not (is_under steps row)) rows

abbrev pub is_ahead : Tables → List Row → Place → List Step → Row → Bool
is_ahead tables rows place steps row = steps_before tables rows place [] row.path.steps steps

abbrev pub ahead : Tables → List Row → Place → List Step → List Row
ahead tables rows place steps = filter (is_ahead tables rows place steps) (beside steps rows)

abbrev pub behind : Tables → List Row → Place → List Step → List Row
behind tables rows place steps = filter (λ row. not (is_ahead tables rows place steps row)) (beside steps rows)

pub none_excluded : (tables : Tables) (steps path : List Step) (block : List Row) → AreFree tables steps → AreUnder steps block → goes_on steps path ≡ false →
    list_any (λ added. excludes tables added.path.steps path) block ≡ false
none_excluded tables steps path [] free under aside = refl
none_excluded tables steps path (added ∷ block) free under aside =
    let first : excludes tables added.path.steps path ≡ false = ap (λ ss. excludes tables ss path) (under.0).1 ∙ aside_excludes tables path steps (under.0).0 free aside in
    ap (λ b. b || list_any (λ added. excludes tables added.path.steps path) block) first ∙ none_excluded tables steps path block free under.1 aside

-- nor does the row of a node give way to rows below it
pub none_above : (tables : Tables) (steps : List Step) (block : List Row) → AreUnder steps block → list_any (λ added. excludes tables added.path.steps steps) block ≡ false
none_above tables steps [] under = refl
none_above tables steps (added ∷ block) under =
    let first : excludes tables added.path.steps steps ≡ false = ap (λ ss. excludes tables ss steps) (under.0).1 ∙ own_excludes tables steps (under.0).0 in
    ap (λ b. b || list_any (λ added. excludes tables added.path.steps steps) block) first ∙ none_above tables steps block under.1

-- no row gives way to a block at a node that is of no case
others_beside : (tables : Tables) (rows : List Row) (steps : List Step) (block : List Row) → AreFree tables steps → AreUnder steps block → other_rows tables rows steps block ≡ beside steps rows
others_beside tables rows steps block free under = λ i. filter (λ row. same row i) rows
  where
    by : (row : Row) (b : Bool) → goes_on steps row.path.steps ≡ b → not (b || list_any (λ added. excludes tables added.path.steps row.path.steps) block) ≡ not b
    by row true e = refl
    by row false e = ap not (none_excluded tables steps row.path.steps block free under e)

    same : (row : Row) → not (is_at_or_below steps row.path || list_any (λ added. excludes tables added.path.steps row.path.steps) block) ≡ not (is_under steps row)
    same row = ap (λ b. not (b || list_any (λ added. excludes tables added.path.steps row.path.steps) block)) (starts_on row.path.steps steps) ∙ by row (goes_on steps row.path.steps) refl

-- the three parts of the rows once a block stands at the node
pub three_parts : (tables : Tables) (rows : List Row) (path : Path) (place : Place) (block : List Row) → AreFree tables path.steps → AreUnder path.steps block →
    with_block tables rows path place block ≡ ahead tables rows place path.steps ++ block ++ behind tables rows place path.steps
three_parts tables rows path place block free under =
    ap (λ others. filter (is_ahead tables rows place path.steps) others ++ block ++ filter (λ row. not (is_ahead tables rows place path.steps row)) others)
    (others_beside tables rows path.steps block free under)

-- those before it and behind it are beside the node
pub beside_ahead : (tables : Tables) (rows : List Row) (place : Place) (steps : List Step) → Answer (is_under steps) false (ahead tables rows place steps)
beside_ahead tables rows place steps = answer_filter (is_under steps) false (is_ahead tables rows place steps) (beside steps rows) (answer_left (is_under steps) rows)

pub beside_behind : (tables : Tables) (rows : List Row) (place : Place) (steps : List Step) → Answer (is_under steps) false (behind tables rows place steps)
beside_behind tables rows place steps = answer_filter (is_under steps) false (λ row. not (is_ahead tables rows place steps row)) (beside steps rows) (answer_left (is_under steps) rows)

-- a row beside a node, and that of the node, are none at a place below it, nor below that
aside_block : (steps more : List Step) (row : Row) → is_under steps row ≡ false → is_at_or_below (steps ++ more) row.path ≡ false
aside_block steps more row e = starts_on row.path.steps (steps ++ more) ∙ aside_longer steps more row.path.steps e

aside_same : (steps more path : List Step) → goes_on steps path ≡ false → is_same_path path (steps ++ more) ≡ false
aside_same steps more path e = by (is_same_path path (steps ++ more)) refl
  where
    by : (b : Bool) → is_same_path path (steps ++ more) ≡ b → b ≡ false
    by false f = refl
    by true f =
        let same : path ≡ steps ++ more = (path_decide path (steps ++ more)).0 f in
        sym (goes_further steps more) ∙ ap (goes_on steps) (sym same) ∙ e

pub own_longer : (steps : List Step) (next : Step) (more : List Step) → goes_on (steps ++ next ∷ more) steps ≡ false
own_longer [] next more = refl
own_longer (step ∷ steps) next more = rw (step_itself step) (own_longer steps next more)

own_other : (steps : List Step) (next : Step) (more : List Step) → is_same_path steps (steps ++ next ∷ more) ≡ false
own_other [] next more = refl
own_other (step ∷ steps) next more = rw (step_itself step) (own_other steps next more)

own_blocks : (steps : List Step) (next : Step) (more : List Step) (own : List Row) → AreAt steps own → Answer (λ row. is_at_or_below (steps ++ next ∷ more) row.path) false own
own_blocks steps next more [] at = tt
own_blocks steps next more (row ∷ own) at =
    (starts_on row.path.steps (steps ++ next ∷ more) ∙ ap (goes_on (steps ++ next ∷ more)) at.0 ∙ own_longer steps next more, own_blocks steps next more own at.1)

own_paths : (steps : List Step) (next : Step) (more : List Step) (own : List Row) → AreAt steps own → Answer (λ row. is_same_path row.path.steps (steps ++ next ∷ more)) false own
own_paths steps next more [] at = tt
own_paths steps next more (row ∷ own) at = (ap (λ ss. is_same_path ss (steps ++ next ∷ more)) at.0 ∙ own_other steps next more, own_paths steps next more own at.1)

no_entries : (steps more : List Step) (number : ℕ) (rows : List Row) → Answer (is_under steps) false rows → entries rows (steps ++ more) number ≡ []
no_entries steps more number [] aside = refl
no_entries steps more number (row ∷ rows) aside = rw (aside_keys steps more number row.path.steps aside.0) (no_entries steps more number rows aside.1)

own_entries : (steps more : List Step) (number : ℕ) (own : List Row) → AreAt steps own → entries own (steps ++ more) number ≡ []
own_entries steps more number [] at = refl
own_entries steps more number (row ∷ own) at = rw (ap (keys_in (steps ++ more) number) at.0 ∙ own_keys steps more number) (own_entries steps more number own at.1)

-- what is asked below a node is asked of the rows below it: `front` and `back` are beside the node, `own` is its row
module _ (steps : List Step) (front own inner back : List Row) (aside_front : Answer (is_under steps) false front) (at : AreAt steps own) (aside_back : Answer (is_under steps) false back) where
  pub entries_below : (more : List Step) (number : ℕ) → entries (front ++ (own ++ inner) ++ back) (steps ++ more) number ≡ entries inner (steps ++ more) number
  entries_below more number =
      let keys : Row → Option (List (List ℕ)) = λ row. keys_in (steps ++ more) number row.path.steps in
      filter_map-append keys (front ++ (own ++ inner)) back
      ∙ (λ i. filter_map-append keys front (own ++ inner) i ++ no_entries steps more number back aside_back i)
      ∙ append-nil (filter_map keys front ++ filter_map keys (own ++ inner))
      ∙ (λ i. no_entries steps more number front aside_front i ++ filter_map-append keys own inner i)
      ∙ (λ i. own_entries steps more number own at i ++ filter_map keys inner)

  module _ (next : Step) (more : List Step) where
    abbrev lower : List Step
    lower = steps ++ next ∷ more

    blocks_aside : (rows : List Row) → Answer (is_under steps) false rows → Answer (λ row. is_at_or_below lower row.path) false rows
    blocks_aside rows all = answer_by (is_under steps) false (λ row. is_at_or_below lower row.path) false rows (λ row e. aside_block steps (next ∷ more) row e) all

    paths_aside : (rows : List Row) → Answer (is_under steps) false rows → Answer (λ row. is_same_path row.path.steps lower) false rows
    paths_aside rows all = answer_by (is_under steps) false (λ row. is_same_path row.path.steps lower) false rows (λ row e. aside_same steps (next ∷ more) row.path.steps e) all

    pub exists_below : exists (front ++ (own ++ inner) ++ back) lower ≡ exists inner lower
    exists_below =
        any_between (λ row. is_at_or_below lower row.path) front (own ++ inner) back (blocks_aside front aside_front) (blocks_aside back aside_back)
        ∙ any_behind (λ row. is_at_or_below lower row.path) own inner (own_blocks steps next more own at)

    pub block_below : block_at (front ++ (own ++ inner) ++ back) lower ≡ block_at inner lower
    block_below =
        filter_between (λ row. is_at_or_below lower row.path) front (own ++ inner) back (blocks_aside front aside_front) (blocks_aside back aside_back)
        ∙ filter_behind (λ row. is_at_or_below lower row.path) own inner (own_blocks steps next more own at)

    pub has_below : has_row (front ++ (own ++ inner) ++ back) lower ≡ has_row inner lower
    has_below =
        any_between (λ row. is_same_path row.path.steps lower) front (own ++ inner) back (paths_aside front aside_front) (paths_aside back aside_back)
        ∙ any_behind (λ row. is_same_path row.path.steps lower) own inner (own_paths steps next more own at)

    pub row_below : row_at (front ++ (own ++ inner) ++ back) lower ≡ row_at inner lower
    row_below =
        find_between (λ row. is_same_path row.path.steps lower) front (own ++ inner) back (paths_aside front aside_front) (paths_aside back aside_back)
        ∙ find_behind (λ row. is_same_path row.path.steps lower) own inner (own_paths steps next more own at)

  -- at the node itself its row and those below it are asked
  pub has_there : has_row (front ++ (own ++ inner) ++ back) steps ≡ has_row (own ++ inner) steps
  has_there = any_between (λ row. is_same_path row.path.steps steps) front (own ++ inner) back (there front aside_front) (there back aside_back)
    where
      there : (rows : List Row) → Answer (is_under steps) false rows → Answer (λ row. is_same_path row.path.steps steps) false rows
      there rows all =
          answer_by (is_under steps) false (λ row. is_same_path row.path.steps steps) false rows
          (λ row e. ap (is_same_path row.path.steps) (sym (append-nil steps)) ∙ aside_same steps [] row.path.steps e) all

-- rows of a part are below what all are
pub under_filter : (steps : List Step) (test : Row → Bool) (rows : List Row) → AreUnder steps rows → AreUnder steps (filter test rows)
under_filter steps test [] under = tt
under_filter steps test (row ∷ rows) under = by (test row) (under_filter steps test rows under.1)
  where
    by : (b : Bool) → AreUnder steps (filter test rows) → AreUnder steps (cond b (row ∷ filter test rows) (filter test rows))
    by true rest = (under.0, rest)
    by false rest = rest

pub under_append : (steps : List Step) (rows others : List Row) → AreUnder steps rows → AreUnder steps others → AreUnder steps (rows ++ others)
under_append steps [] others under more = more
under_append steps (row ∷ rows) others under more = (under.0, under_append steps rows others under.1 more)

pub under_own : (steps : List Step) (own : List Row) → AreAt steps own → AreUnder steps own
under_own steps [] at = tt
under_own steps (row ∷ own) at = (([], at.0 ∙ sym (append-nil steps)), under_own steps own at.1)

pub under_longer : (steps more : List Step) (rows : List Row) → AreUnder (steps ++ more) rows → AreUnder steps rows
under_longer steps more [] under = tt
under_longer steps more (row ∷ rows) under =
    ((more ++ (under.0).0, (under.0).1 ∙ append_assoc steps more (under.0).0), under_longer steps more rows under.1)

-- what an edit below the node leaves is below it
pub under_with : (tables : Tables) (rows : List Row) (path : Path) (place : Place) (block : List Row) (steps : List Step) → AreUnder steps rows → AreUnder steps block → AreUnder steps (with_block tables rows path place block)
under_with tables rows path place block steps under more =
    let stays : Row → Bool = λ row. not (is_at_or_below path.steps row.path || list_any (λ added. excludes tables added.path.steps row.path.steps) block) in
    let others : AreUnder steps (filter stays rows) = under_filter steps stays rows under in
    let before : Row → Bool = is_ahead tables rows place path.steps in
    under_append steps (filter before (filter stays rows) ++ block) (filter (λ row. not (before row)) (filter stays rows))
    (under_append steps (filter before (filter stays rows)) block (under_filter steps before (filter stays rows) others) more)
    (under_filter steps (λ row. not (before row)) (filter stays rows) others)
