-- What stands above an edit below a node is asked of the rows below the node.
use Rattle.std.proofs.Common.{◌≡◌, ◌&&◌, ◌||◌, ◌++◌, Bool, true, false, not, List, [], ◌∷◌, refl, sym, ap, subst, ◌∙◌}
use Rattle.std.proofs.lemmas.List.{append_assoc, append-nil}
use Rattle.std.proofs.lemmas.List.Folds.{list_any-append}
use Rattle.std.specs.List.{filter, list_any}
use Rattle.std.specs.Option.{option_map_or}
use Rattle.nc_names.proofs.SameLemmas.{path_decide, step_itself}
use Rattle.nc_names.specs.Same.{is_at_or_below, is_same_path}
use Rattle.nc_names.specs.declared.path.Path.{Path}
use Rattle.nc_names.specs.declared.path.Place.{Place}
use Rattle.nc_names.specs.declared.path.Row.{Row}
use Rattle.nc_names.specs.declared.path.Step.{Step}
use Rattle.nc_schema.specs.Blocks.{with_block}
use Rattle.nc_schema.specs.Kinds.{stands_for_itself}
use Rattle.nc_schema.specs.Standing.{excludes, has_row, node_of}
use Rattle.nc_schema.specs.Tables.{Tables}
use Rattle.nc_tree.specs.inner.Lacking.{lacks, lacks_from}
use Rattle.nc_edit.specs.inner.Alone.{AreAt, AreFree, AreUnder}
use Rattle.nc_edit.proofs.BelowRows.{ahead, behind, beside, beside_ahead, beside_behind, has_below, has_there, is_ahead, is_under, none_above, own_longer, under_append, under_longer, under_own}
use Rattle.nc_edit.proofs.Between.{Answer, any_filter, any_none, any_parts, or_none}
use Rattle.nc_edit.proofs.BelowPaths.{goes_on, starts_on}

or_assoc : (a b c : Bool) → (a || (b || c)) ≡ ((a || b) || c)
or_assoc true b c = refl
or_assoc false b c = refl

-- a way is one after another
pub from_parts : (tables : Tables) (rows : List Row) (above steps more : List Step) →
    lacks_from tables rows above (steps ++ more) ≡ (lacks_from tables rows above steps || lacks_from tables rows (above ++ steps) more)
from_parts tables rows above [] more = ap (λ ss. lacks_from tables rows ss more) (sym (append-nil above))
from_parts tables rows above (step ∷ steps) more =
    ap (λ b. lacks tables rows above || b)
    (from_parts tables rows (above ++ step ∷ []) steps more
    ∙ ap (λ ss. lacks_from tables rows (above ++ step ∷ []) steps || lacks_from tables rows ss more) (append_assoc above (step ∷ []) steps))
    ∙ or_assoc (lacks tables rows above) (lacks_from tables rows (above ++ step ∷ []) steps) (lacks_from tables rows (above ++ step ∷ steps) more)

pub lacks_same : (tables : Tables) (rows others : List Row) (steps : List Step) → has_row rows steps ≡ has_row others steps → lacks tables rows steps ≡ lacks tables others steps
unfolding lacks
lacks_same tables rows others steps same = ap (λ b. option_map_or (λ node. stands_for_itself node.kind) (node_of tables steps) false && not b) same

-- two lists of rows of which the same stand along a way lack the same there
pub from_same : (tables : Tables) (rows others : List Row) (above steps : List Step) →
    ((some : List Step) (step : Step) (rest : List Step) → steps ≡ some ++ step ∷ rest → has_row rows (above ++ some) ≡ has_row others (above ++ some)) →
    lacks_from tables rows above steps ≡ lacks_from tables others above steps
from_same tables rows others above [] same = refl
from_same tables rows others above (step ∷ steps) same =
    let here : has_row rows above ≡ has_row others above =
    ap (has_row rows) (sym (append-nil above)) ∙ same [] step steps refl ∙ ap (has_row others) (append-nil above) in
    let deeper : (some : List Step) (next : Step) (rest : List Step) → steps ≡ some ++ next ∷ rest → has_row rows ((above ++ step ∷ []) ++ some) ≡ has_row others ((above ++ step ∷ []) ++ some) =
    λ some next rest e.
    ap (has_row rows) (append_assoc above (step ∷ []) some) ∙ same (step ∷ some) next rest (ap (λ ss. step ∷ ss) e) ∙ ap (has_row others) (sym (append_assoc above (step ∷ []) some)) in
    λ i. lacks_same tables rows others above here i || from_same tables rows others (above ++ step ∷ []) steps deeper i

path_itself : (steps : List Step) → goes_on steps steps ≡ true
path_itself [] = refl
path_itself (s ∷ steps) = rw (step_itself s) (path_itself steps)

higher_not : (some : List Step) (step : Step) (rest path : List Step) → is_same_path path some ≡ true → goes_on (some ++ step ∷ rest) path ≡ false
higher_not some step rest path e =
    let same : path ≡ some = (path_decide path some).0 e in
    ap (goes_on (some ++ step ∷ rest)) same ∙ own_longer some step rest

other_path : (some : List Step) (step : Step) (rest path lower : List Step) → path ≡ (some ++ step ∷ rest) ++ lower → is_same_path path some ≡ false
other_path some step rest path lower is = by (is_same_path path some) refl
  where
    by : (b : Bool) → is_same_path path some ≡ b → b ≡ false
    by false e = refl
    by true e =
        let longer : goes_on (some ++ step ∷ (rest ++ lower)) path ≡ false = higher_not some step (rest ++ lower) path e in
        let there : goes_on (some ++ step ∷ (rest ++ lower)) path ≡ true =
        ap (goes_on (some ++ step ∷ (rest ++ lower))) (is ∙ append_assoc some (step ∷ rest) lower) ∙ path_itself (some ++ step ∷ (rest ++ lower)) in
        cc

block_others : (some : List Step) (step : Step) (rest : List Step) (block : List Row) → AreUnder (some ++ step ∷ rest) block → Answer (λ row. is_same_path row.path.steps some) false block
block_others some step rest [] under = tt
block_others some step rest (row ∷ block) under = (other_path some step rest row.path.steps (under.0).0 (under.0).1, block_others some step rest block under.1)

-- rows above a node stand as they stood before a block was put there
pub has_above : (tables : Tables) (rows : List Row) (path : Path) (place : Place) (block : List Row) (some : List Step) (step : Step) (rest : List Step) → path.steps ≡ some ++ step ∷ rest →
    AreFree tables path.steps → AreUnder path.steps block →
    has_row (ahead tables rows place path.steps ++ block ++ behind tables rows place path.steps) some ≡ has_row rows some
has_above tables rows path place block some step rest is free under =
    let test : Row → Bool = λ row. is_same_path row.path.steps some in
    let others = beside path.steps rows in
    let kept : Row → Bool = is_ahead tables rows place path.steps in
    let none : list_any test block ≡ false = any_none test block (block_others some step rest block (subst (λ ss. AreUnder ss block) is under)) in
    list_any-append test (filter kept others ++ block) (filter (λ row. not (kept row)) others)
    ∙ ap (λ b. b || list_any test (filter (λ row. not (kept row)) others)) (list_any-append test (filter kept others) block ∙ ap (λ b. list_any test (filter kept others) || b) none ∙ or_none (list_any test (filter kept others)))
    ∙ any_parts test kept others
    ∙ any_filter test (λ row. not (is_under path.steps row)) rows
    (λ row e. ap not (ap (λ ss. goes_on ss row.path.steps) is ∙ higher_not some step rest row.path.steps e))

-- the row of a node stands as it stood before a block was put below the node
pub has_apart : (tables : Tables) (rows : List Row) (path : Path) (place : Place) (block : List Row) (steps : List Step) (next : Step) (more : List Step) → path.steps ≡ steps ++ next ∷ more → AreUnder path.steps block →
    has_row (with_block tables rows path place block) steps ≡ has_row rows steps
has_apart tables rows path place block steps next more is under =
    let test : Row → Bool = λ row. is_same_path row.path.steps steps in
    let stays : Row → Bool = λ row. not (is_at_or_below path.steps row.path || list_any (λ added. excludes tables added.path.steps row.path.steps) block) in
    let others = filter stays rows in
    let kept : Row → Bool = is_ahead tables rows place path.steps in
    let lower : AreUnder (steps ++ next ∷ more) block = subst (λ ss. AreUnder ss block) is under in
    let none : list_any test block ≡ false = any_none test block (block_others steps next more block lower) in
    list_any-append test (filter kept others ++ block) (filter (λ row. not (kept row)) others)
    ∙ ap (λ b. b || list_any test (filter (λ row. not (kept row)) others)) (list_any-append test (filter kept others) block ∙ ap (λ b. list_any test (filter kept others) || b) none ∙ or_none (list_any test (filter kept others)))
    ∙ any_parts test kept others
    ∙ any_filter test stays rows
    (λ row e.
    let same : row.path.steps ≡ steps = (path_decide row.path.steps steps).0 e in
    let off : is_at_or_below path.steps row.path ≡ false = starts_on row.path.steps path.steps ∙ (λ i. goes_on (is i) (same i)) ∙ own_longer steps next more in
    let gone : list_any (λ added. excludes tables added.path.steps row.path.steps) block ≡ false =
    ap (λ ss. list_any (λ added. excludes tables added.path.steps ss) block) same ∙ none_above tables steps block (under_longer steps (next ∷ more) block lower) in
    λ i. not (off i || gone i))

-- from a node above on: `above` and the steps from there lead to the node, and more steps from the node to the edit
pub lacks_below : (tables : Tables) (rows : List Row) (path : Path) (place : Place) (own inner : List Row) (above : List Step) (first : Step) (way : List Step) (next : Step) (more : List Step) →
    path.steps ≡ above ++ first ∷ way → AreFree tables path.steps → AreAt path.steps own → AreUnder path.steps inner →
    lacks_from tables rows (above ++ first ∷ []) way ≡ false → lacks tables (own ++ inner) path.steps ≡ false →
    lacks_from tables (ahead tables rows place path.steps ++ (own ++ inner) ++ behind tables rows place path.steps) (above ++ first ∷ []) (way ++ next ∷ more)
    ≡ lacks_from tables inner (path.steps ++ next ∷ []) more
lacks_below tables rows path place own inner above first way next more is free at under none stands =
    let front = ahead tables rows place path.steps in
    let back = behind tables rows place path.steps in
    let whole = front ++ (own ++ inner) ++ back in
    let all_under = under_append path.steps own inner (under_own path.steps own at) under in
    let aside_front = beside_ahead tables rows place path.steps in
    let aside_back = beside_behind tables rows place path.steps in
    let over : path.steps ≡ (above ++ first ∷ []) ++ way = is ∙ sym (append_assoc above (first ∷ []) way) in
    let higher : lacks_from tables whole (above ++ first ∷ []) way ≡ false =
    from_same tables whole rows (above ++ first ∷ []) way
    (λ some step rest e. has_above tables rows path place (own ++ inner) ((above ++ first ∷ []) ++ some) step rest
    (over ∙ ap (λ ss. (above ++ first ∷ []) ++ ss) e ∙ sym (append_assoc (above ++ first ∷ []) some (step ∷ rest))) free all_under)
    ∙ none in
    let there : lacks tables whole path.steps ≡ false =
    lacks_same tables whole (own ++ inner) path.steps (has_there path.steps front own inner back aside_front at aside_back)
    ∙ stands in
    let lower : lacks_from tables whole (path.steps ++ next ∷ []) more ≡ lacks_from tables inner (path.steps ++ next ∷ []) more =
    from_same tables whole inner (path.steps ++ next ∷ []) more
    (λ some step rest e.
    ap (has_row whole) (append_assoc path.steps (next ∷ []) some) ∙ has_below path.steps front own inner back aside_front at aside_back next some
    ∙ ap (has_row inner) (sym (append_assoc path.steps (next ∷ []) some))) in
    from_parts tables whole (above ++ first ∷ []) way (next ∷ more)
    ∙ ap (λ b. b || lacks_from tables whole ((above ++ first ∷ []) ++ way) (next ∷ more)) higher
    ∙ ap (λ ss. lacks_from tables whole ss (next ∷ more)) (sym over)
    ∙ ap (λ b. b || lacks_from tables whole (path.steps ++ next ∷ []) more) there
    ∙ lower
