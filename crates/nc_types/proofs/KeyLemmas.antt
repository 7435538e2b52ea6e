-- Keys and steps made canonical one after another.
use Rattle.std.proofs.Common.{◌≡◌, ◌<◌, ◌≤◌, ◌+◌, ℕ, List, [], ◌∷◌, ◌++◌, Option, Some, None, length, drop, get_or, slice_get, option_and_then, refl, ap, ◌∙◌, append-nil}
use Rattle.nc_names.specs.declared.path.Step.{Step}
use Rattle.nc_schema.specs.Tables.{Tables}
use Rattle.nc_schema.specs.Values.{Gives, canonical_given, canonical_keys, canonical_part, canonical_pattern, canonical_step, canonical_steps}
use Rattle.nc_schema.specs.declared.pattern.PatternStep.{PatternStep}
use Rattle.nc_schema.proofs.GivenLemmas.{item_there, none_left, nothing_left, one_there}
use Rattle.nc_paths.specs.inner.Prepend.{before}
use Rattle.nc_paths.proofs.PatternLemmas.{before_mapped, before_more}

-- ---- keys
keys_end : (gives : Gives) (nodes : List ℕ) → canonical_keys gives nodes [] ≡ Some []
keys_end gives [] = refl
keys_end gives (node ∷ nodes) = refl

keys_short : (gives : Gives) (keys : List (List ℕ)) → canonical_keys gives [] keys ≡ Some []
keys_short gives [] = refl
keys_short gives (key ∷ keys) = refl

keys_go : (gives : Gives) (node : ℕ) (nodes : List ℕ) (key : List ℕ) (keys : List (List ℕ)) (value : List ℕ) → gives node key ≡ Some value → canonical_keys gives (node ∷ nodes) (key ∷ keys) ≡ option_and_then (λ more. Some (value ∷ more)) (canonical_keys gives nodes keys)
keys_go gives node nodes key keys value e = rw e refl

keys_fail : (gives : Gives) (node : ℕ) (nodes : List ℕ) (key : List ℕ) (keys : List (List ℕ)) → gives node key ≡ None → canonical_keys gives (node ∷ nodes) (key ∷ keys) ≡ None
keys_fail gives node nodes key keys e = rw e refl

pub next_key : (whole : Option (List (List ℕ))) (gives : Gives) (nodes : List ℕ) (keys : List (List ℕ)) (i node : ℕ) (key value : List ℕ) (out : List (List ℕ)) → whole ≡ before out (canonical_keys gives (drop i nodes) (drop i keys)) → slice_get nodes i ≡ Some node → i < length keys → key ≡ get_or keys i key → gives node key ≡ Some value → whole ≡ before (out ++ value ∷ []) (canonical_keys gives (drop (i + 1) nodes) (drop (i + 1) keys))
next_key whole gives nodes keys i node key value out e at less here is =
    e ∙ (λ k. before out (canonical_keys gives (one_there nodes i node at k) (item_there keys i key less here k)))
    ∙ ap (before out) (keys_go gives node (drop (i + 1) nodes) key (drop (i + 1) keys) value is) ∙ before_more out value (canonical_keys gives (drop (i + 1) nodes) (drop (i + 1) keys))

pub bad_key : (whole : Option (List (List ℕ))) (gives : Gives) (nodes : List ℕ) (keys : List (List ℕ)) (i node : ℕ) (key : List ℕ) (out : List (List ℕ)) → whole ≡ before out (canonical_keys gives (drop i nodes) (drop i keys)) → slice_get nodes i ≡ Some node → i < length keys → key ≡ get_or keys i key → gives node key ≡ None → whole ≡ None
bad_key whole gives nodes keys i node key out e at less here is =
    e ∙ (λ k. before out (canonical_keys gives (one_there nodes i node at k) (item_there keys i key less here k)))
    ∙ ap (before out) (keys_fail gives node (drop (i + 1) nodes) key (drop (i + 1) keys) is)

pub few_nodes : (whole : Option (List (List ℕ))) (gives : Gives) (nodes : List ℕ) (keys : List (List ℕ)) (i : ℕ) (out : List (List ℕ)) → whole ≡ before out (canonical_keys gives (drop i nodes) (drop i keys)) → slice_get nodes i ≡ None → whole ≡ Some out
few_nodes whole gives nodes keys i out e none =
    e ∙ ap (λ ns. before out (canonical_keys gives ns (drop i keys))) (none_left nodes i none) ∙ ap (before out) (keys_short gives (drop i keys)) ∙ (λ k. Some (append-nil out k))

pub every_key : (whole : Option (List (List ℕ))) (gives : Gives) (nodes : List ℕ) (keys : List (List ℕ)) (i : ℕ) (out : List (List ℕ)) → whole ≡ before out (canonical_keys gives (drop i nodes) (drop i keys)) → length keys ≤ i → whole ≡ Some out
every_key whole gives nodes keys i out e past =
    e ∙ ap (λ ks. before out (canonical_keys gives (drop i nodes) ks)) (nothing_left keys i past) ∙ ap (before out) (keys_end gives (drop i nodes)) ∙ (λ k. Some (append-nil out k))

-- ---- keys that may be left out
given_end : (gives : Gives) (nodes : List ℕ) → canonical_given gives nodes [] ≡ Some []
given_end gives [] = refl
given_end gives (node ∷ nodes) = refl

given_short : (gives : Gives) (keys : List (Option (List ℕ))) → canonical_given gives [] keys ≡ Some []
given_short gives [] = refl
given_short gives (None ∷ keys) = refl
given_short gives (Some key ∷ keys) = refl

given_go : (gives : Gives) (node : ℕ) (nodes : List ℕ) (key : List ℕ) (keys : List (Option (List ℕ))) (value : List ℕ) → gives node key ≡ Some value → canonical_given gives (node ∷ nodes) (Some key ∷ keys) ≡ option_and_then (λ more. Some (Some value ∷ more)) (canonical_given gives nodes keys)
given_go gives node nodes key keys value e = rw e refl

given_fail : (gives : Gives) (node : ℕ) (nodes : List ℕ) (key : List ℕ) (keys : List (Option (List ℕ))) → gives node key ≡ None → canonical_given gives (node ∷ nodes) (Some key ∷ keys) ≡ None
given_fail gives node nodes key keys e = rw e refl

pub next_given : (whole : Option (List (Option (List ℕ)))) (gives : Gives) (nodes : List ℕ) (keys : List (Option (List ℕ))) (i node : ℕ) (key value : List ℕ) (out : List (Option (List ℕ))) → whole ≡ before out (canonical_given gives (drop i nodes) (drop i keys)) → slice_get nodes i ≡ Some node → i < length keys → Some key ≡ get_or keys i (Some key) → gives node key ≡ Some value → whole ≡ before (out ++ Some value ∷ []) (canonical_given gives (drop (i + 1) nodes) (drop (i + 1) keys))
next_given whole gives nodes keys i node key value out e at less here is =
    e ∙ (λ k. before out (canonical_given gives (one_there nodes i node at k) (item_there keys i (Some key) less here k)))
    ∙ ap (before out) (given_go gives node (drop (i + 1) nodes) key (drop (i + 1) keys) value is) ∙ before_more out (Some value) (canonical_given gives (drop (i + 1) nodes) (drop (i + 1) keys))

pub bad_given : (whole : Option (List (Option (List ℕ)))) (gives : Gives) (nodes : List ℕ) (keys : List (Option (List ℕ))) (i node : ℕ) (key : List ℕ) (out : List (Option (List ℕ))) → whole ≡ before out (canonical_given gives (drop i nodes) (drop i keys)) → slice_get nodes i ≡ Some node → i < length keys → Some key ≡ get_or keys i (Some key) → gives node key ≡ None → whole ≡ None
bad_given whole gives nodes keys i node key out e at less here is =
    e ∙ (λ k. before out (canonical_given gives (one_there nodes i node at k) (item_there keys i (Some key) less here k)))
    ∙ ap (before out) (given_fail gives node (drop (i + 1) nodes) key (drop (i + 1) keys) is)

pub left_out : (whole : Option (List (Option (List ℕ)))) (gives : Gives) (nodes : List ℕ) (keys : List (Option (List ℕ))) (i node : ℕ) (out : List (Option (List ℕ))) → whole ≡ before out (canonical_given gives (drop i nodes) (drop i keys)) → slice_get nodes i ≡ Some node → i < length keys → None ≡ get_or keys i None → whole ≡ before (out ++ None ∷ []) (canonical_given gives (drop (i + 1) nodes) (drop (i + 1) keys))
left_out whole gives nodes keys i node out e at less here =
    e ∙ (λ k. before out (canonical_given gives (one_there nodes i node at k) (item_there keys i None less here k))) ∙ before_mapped out None (canonical_given gives (drop (i + 1) nodes) (drop (i + 1) keys))

pub few_given : (whole : Option (List (Option (List ℕ)))) (gives : Gives) (nodes : List ℕ) (keys : List (Option (List ℕ))) (i : ℕ) (out : List (Option (List ℕ))) → whole ≡ before out (canonical_given gives (drop i nodes) (drop i keys)) → slice_get nodes i ≡ None → whole ≡ Some out
few_given whole gives nodes keys i out e none =
    e ∙ ap (λ ns. before out (canonical_given gives ns (drop i keys))) (none_left nodes i none) ∙ ap (before out) (given_short gives (drop i keys)) ∙ (λ k. Some (append-nil out k))

pub every_given : (whole : Option (List (Option (List ℕ)))) (gives : Gives) (nodes : List ℕ) (keys : List (Option (List ℕ))) (i : ℕ) (out : List (Option (List ℕ))) → whole ≡ before out (canonical_given gives (drop i nodes) (drop i keys)) → length keys ≤ i → whole ≡ Some out
every_given whole gives nodes keys i out e past =
    e ∙ ap (λ ks. before out (canonical_given gives (drop i nodes) ks)) (nothing_left keys i past) ∙ ap (before out) (given_end gives (drop i nodes)) ∙ (λ k. Some (append-nil out k))

-- ---- steps
steps_go : (tables : Tables) (gives : Gives) (one step : Step) (rest : List Step) → canonical_step tables gives one ≡ Some step → canonical_steps tables gives (one ∷ rest) ≡ option_and_then (λ more. Some (step ∷ more)) (canonical_steps tables gives rest)
steps_go tables gives one step rest e = rw e refl

steps_fail : (tables : Tables) (gives : Gives) (one : Step) (rest : List Step) → canonical_step tables gives one ≡ None → canonical_steps tables gives (one ∷ rest) ≡ None
steps_fail tables gives one rest e = rw e refl

pub next_step : (whole : Option (List Step)) (tables : Tables) (gives : Gives) (steps : List Step) (i : ℕ) (one step : Step) (out : List Step) → whole ≡ before out (canonical_steps tables gives (drop i steps)) → i < length steps → one ≡ get_or steps i one → canonical_step tables gives one ≡ Some step → whole ≡ before (out ++ step ∷ []) (canonical_steps tables gives (drop (i + 1) steps))
next_step whole tables gives steps i one step out e less here is =
    e ∙ ap (λ xs. before out (canonical_steps tables gives xs)) (item_there steps i one less here)
    ∙ ap (before out) (steps_go tables gives one step (drop (i + 1) steps) is) ∙ before_more out step (canonical_steps tables gives (drop (i + 1) steps))

pub bad_step : (whole : Option (List Step)) (tables : Tables) (gives : Gives) (steps : List Step) (i : ℕ) (one : Step) (out : List Step) → whole ≡ before out (canonical_steps tables gives (drop i steps)) → i < length steps → one ≡ get_or steps i one → canonical_step tables gives one ≡ None → whole ≡ None
bad_step whole tables gives steps i one out e less here is =
    e ∙ ap (λ xs. before out (canonical_steps tables gives xs)) (item_there steps i one less here) ∙ ap (before out) (steps_fail tables gives one (drop (i + 1) steps) is)

pub every_step : (whole : Option (List Step)) (tables : Tables) (gives : Gives) (steps : List Step) (i : ℕ) (out : List Step) → whole ≡ before out (canonical_steps tables gives (drop i steps)) → length steps ≤ i → whole ≡ Some out
every_step whole tables gives steps i out e past =
    e ∙ ap (λ xs. before out (canonical_steps tables gives xs)) (nothing_left steps i past) ∙ (λ k. Some (append-nil out k))

-- ---- parts of patterns
parts_go : (tables : Tables) (gives : Gives) (one step : PatternStep) (rest : List PatternStep) → canonical_part tables gives one ≡ Some step → canonical_pattern tables gives (one ∷ rest) ≡ option_and_then (λ more. Some (step ∷ more)) (canonical_pattern tables gives rest)
parts_go tables gives one step rest e = rw e refl

parts_fail : (tables : Tables) (gives : Gives) (one : PatternStep) (rest : List PatternStep) → canonical_part tables gives one ≡ None → canonical_pattern tables gives (one ∷ rest) ≡ None
parts_fail tables gives one rest e = rw e refl

pub next_part : (whole : Option (List PatternStep)) (tables : Tables) (gives : Gives) (steps : List PatternStep) (i : ℕ) (one step : PatternStep) (out : List PatternStep) → whole ≡ before out (canonical_pattern tables gives (drop i steps)) → i < length steps → one ≡ get_or steps i one → canonical_part tables gives one ≡ Some step → whole ≡ before (out ++ step ∷ []) (canonical_pattern tables gives (drop (i + 1) steps))
next_part whole tables gives steps i one step out e less here is =
    e ∙ ap (λ xs. before out (canonical_pattern tables gives xs)) (item_there steps i one less here)
    ∙ ap (before out) (parts_go tables gives one step (drop (i + 1) steps) is) ∙ before_more out step (canonical_pattern tables gives (drop (i + 1) steps))

pub bad_part : (whole : Option (List PatternStep)) (tables : Tables) (gives : Gives) (steps : List PatternStep) (i : ℕ) (one : PatternStep) (out : List PatternStep) → whole ≡ before out (canonical_pattern tables gives (drop i steps)) → i < length steps → one ≡ get_or steps i one → canonical_part tables gives one ≡ None → whole ≡ None
bad_part whole tables gives steps i one out e less here is =
    e ∙ ap (λ xs. before out (canonical_pattern tables gives xs)) (item_there steps i one less here) ∙ ap (before out) (parts_fail tables gives one (drop (i + 1) steps) is)

pub every_part : (whole : Option (List PatternStep)) (tables : Tables) (gives : Gives) (steps : List PatternStep) (i : ℕ) (out : List PatternStep) → whole ≡ before out (canonical_pattern tables gives (drop i steps)) → length steps ≤ i → whole ≡ Some out
every_part whole tables gives steps i out e past =
    e ∙ ap (λ xs. before out (canonical_pattern tables gives xs)) (nothing_left steps i past) ∙ (λ k. Some (append-nil out k))
