-- Selects read one after another, and the keys and steps of the paths that they name.
use Rattle.std.proofs.Common.{◌≡◌, ◌<◌, ◌≤◌, ◌+◌, ◌&&◌, ◌++◌, ℕ, Bool, true, false, cond, List, [], ◌∷◌, Option, Some, None, length, drop, get_or, slice_get, refl, sym, ap, ◌∙◌, append-nil}
use Rattle.std.specs.Prelude.{is_some, option_map}
use Rattle.std.specs.List.{cons_option, filter_map, list_all}
use Rattle.nc_names.specs.declared.path.Path.{Path}
use Rattle.nc_names.specs.declared.path.Step.{Step}
use Rattle.nc_schema.specs.Tables.{Tables}
use Rattle.nc_schema.specs.Values.{Gives, canonical_keys, canonical_step, canonical_steps}
use Rattle.nc_schema.proofs.GivenLemmas.{item_there, nothing_left}
use Rattle.nc_protocol.specs.declared.asked.Select.{Select}
use Rattle.nc_paths.specs.inner.Prepend.{before}
use Rattle.nc_paths.proofs.PatternLemmas.{before_mapped}
use Rattle.nc_types.proofs.KeyLemmas as types
use Rattle.nc_model.specs.Verdict.{selected_path}
use Rattle.nc_partial.specs.Selects.{paths_of}

-- ---- keys
pub next_key : (whole : Option (List (List ℕ))) (gives : Gives) (nodes : List ℕ) (keys : List (List ℕ)) (i node : ℕ)
    (key value : List ℕ) (out : List (List ℕ)) →
    whole ≡ before out (canonical_keys gives (drop i nodes) (drop i keys)) → slice_get nodes i ≡ Some node →
    i < length keys → key ≡ get_or keys i key → Some value ≡ gives node key →
    whole ≡ before (out ++ value ∷ []) (canonical_keys gives (drop (i + 1) nodes) (drop (i + 1) keys))
next_key whole gives nodes keys i node key value out e at less here is =
    types.next_key whole gives nodes keys i node key value out e at less here (sym is)

pub bad_key : (whole : Option (List (List ℕ))) (gives : Gives) (nodes : List ℕ) (keys : List (List ℕ)) (i node : ℕ)
    (key : List ℕ) (out : List (List ℕ)) → whole ≡ before out (canonical_keys gives (drop i nodes) (drop i keys)) →
    slice_get nodes i ≡ Some node → i < length keys → key ≡ get_or keys i key → None ≡ gives node key → None ≡ whole
bad_key whole gives nodes keys i node key out e at less here is =
    sym (types.bad_key whole gives nodes keys i node key out e at less here (sym is))

pub few_nodes : (whole : Option (List (List ℕ))) (gives : Gives) (nodes : List ℕ) (keys : List (List ℕ)) (i : ℕ)
    (out : List (List ℕ)) → whole ≡ before out (canonical_keys gives (drop i nodes) (drop i keys)) →
    slice_get nodes i ≡ None → Some out ≡ whole
few_nodes whole gives nodes keys i out e none = sym (types.few_nodes whole gives nodes keys i out e none)

pub every_key : (whole : Option (List (List ℕ))) (gives : Gives) (nodes : List ℕ) (keys : List (List ℕ)) (i : ℕ)
    (out : List (List ℕ)) → whole ≡ before out (canonical_keys gives (drop i nodes) (drop i keys)) →
    length keys ≤ i → Some out ≡ whole
every_key whole gives nodes keys i out e past = sym (types.every_key whole gives nodes keys i out e past)

-- ---- steps
pub next_step : (whole : Option (List Step)) (tables : Tables) (gives : Gives) (steps : List Step) (i : ℕ) (one step : Step)
    (out : List Step) → whole ≡ before out (canonical_steps tables gives (drop i steps)) → i < length steps →
    one ≡ get_or steps i one → Some step ≡ canonical_step tables gives one →
    whole ≡ before (out ++ step ∷ []) (canonical_steps tables gives (drop (i + 1) steps))
next_step whole tables gives steps i one step out e less here is =
    types.next_step whole tables gives steps i one step out e less here (sym is)

pub bad_step : (whole : Option (List Step)) (tables : Tables) (gives : Gives) (steps : List Step) (i : ℕ) (one : Step)
    (out : List Step) → whole ≡ before out (canonical_steps tables gives (drop i steps)) → i < length steps →
    one ≡ get_or steps i one → None ≡ canonical_step tables gives one → None ≡ whole
bad_step whole tables gives steps i one out e less here is =
    sym (types.bad_step whole tables gives steps i one out e less here (sym is))

pub every_step : (whole : Option (List Step)) (tables : Tables) (gives : Gives) (steps : List Step) (i : ℕ)
    (out : List Step) → whole ≡ before out (canonical_steps tables gives (drop i steps)) → length steps ≤ i →
    Some out ≡ whole
every_step whole tables gives steps i out e past = sym (types.every_step whole tables gives steps i out e past)

-- ---- selects
paths_go : (tables : Tables) (select : Select) (path : Path) (rest : List Select) → Some path ≡ selected_path tables select →
    paths_of tables (select ∷ rest) ≡ option_map (λ more. path ∷ more) (paths_of tables rest)
paths_go tables select path rest is =
    let each : Bool = list_all (λ one. is_some (selected_path tables one)) rest in
    let more : List Path = filter_map (selected_path tables) rest in
    sym (ap (λ (o : Option Path). cond (is_some o && each) (Some (cons_option o more)) None) is) ∙ by each more
  where
    by : (each : Bool) (more : List Path) → cond each (Some (path ∷ more)) None ≡ option_map (λ ps. path ∷ ps) (cond each (Some more) None)
    by true more = refl
    by false more = refl

paths_fail : (tables : Tables) (select : Select) (rest : List Select) → None ≡ selected_path tables select →
    paths_of tables (select ∷ rest) ≡ None
paths_fail tables select rest is =
    let each : Bool = list_all (λ one. is_some (selected_path tables one)) rest in
    let more : List Path = filter_map (selected_path tables) rest in
    sym (ap (λ (o : Option Path). cond (is_some o && each) (Some (cons_option o more)) None) is)

pub next_path : (tables : Tables) (selects : List Select) (i : ℕ) (select : Select) (path : Path) (out : List Path) →
    paths_of tables selects ≡ before out (paths_of tables (drop i selects)) → i < length selects →
    select ≡ get_or selects i select → Some path ≡ selected_path tables select →
    paths_of tables selects ≡ before (out ++ path ∷ []) (paths_of tables (drop (i + 1) selects))
next_path tables selects i select path out e less here is =
    e ∙ ap (λ xs. before out (paths_of tables xs)) (item_there selects i select less here)
    ∙ ap (before out) (paths_go tables select path (drop (i + 1) selects) is)
    ∙ before_mapped out path (paths_of tables (drop (i + 1) selects))

pub bad_path : (tables : Tables) (selects : List Select) (i : ℕ) (select : Select) (out : List Path) →
    paths_of tables selects ≡ before out (paths_of tables (drop i selects)) → i < length selects →
    select ≡ get_or selects i select → None ≡ selected_path tables select → None ≡ paths_of tables selects
bad_path tables selects i select out e less here is =
    sym (e ∙ ap (λ xs. before out (paths_of tables xs)) (item_there selects i select less here)
    ∙ ap (before out) (paths_fail tables select (drop (i + 1) selects) is))

pub every_path : (tables : Tables) (selects : List Select) (i : ℕ) (out : List Path) →
    paths_of tables selects ≡ before out (paths_of tables (drop i selects)) → length selects ≤ i →
    Some out ≡ paths_of tables selects
every_path tables selects i out e past =
    sym (e ∙ ap (λ xs. before out (paths_of tables xs)) (nothing_left selects i past) ∙ (λ k. Some (append-nil out k)))
