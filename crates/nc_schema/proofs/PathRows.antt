-- Path texts worked by computation (RFC 7950 9.13, 9.9.2, 7.8.6; RFC 8341, `node-instance-identifier`).
use Rattle.std.proofs.Common.{◌≡◌, ℕ, List, [], ◌∷◌, refl, arith, lit≤}
use Rattle.std.specs.Prelude.{codes, Option, Some, None, is_some}
use Rattle.nc_names.specs.declared.path.Step.{Step}
use Rattle.nc_schema.specs.declared.pattern.PatternStep.{PatternStep}
use Rattle.nc_schema.specs.InstancePaths.{instance_path, node_pattern, entry_keys, leafref_end, pattern_step, IsFaultAt}
use Rattle.nc_schema.specs.PathWords.{written_name, quoted_string, predicate_key, predicate, written_step}
use Rattle.nc_schema.proofs.Example.{example, bindings}

abbrev step : ℕ → List (List ℕ) → Step
step number keys = record { node = number; keys = keys }

abbrev given : ℕ → List (Option (List ℕ)) → PatternStep
given number keys = record { node = number; keys = keys }

-- white space may stand next to the signs of a predicate, and a value between either marks
white_and_marks : instance_path example (codes "/e:top/e:port[ e:name\t= \"a\" ]/e:tag") bindings
    ≡ Some (record { steps = step 0 [] ∷ step 2 (codes "a" ∷ []) ∷ step 4 [] ∷ [] })
unfolding instance_path pattern_step written_name quoted_string predicate_key predicate written_step
white_and_marks = refl

leaf_list_value : instance_path example (codes "/e:top/e:tags[.='x y']") bindings
    ≡ Some (record { steps = step 0 [] ∷ step 6 (codes "x y" ∷ []) ∷ [] })
unfolding instance_path pattern_step written_name quoted_string predicate_key predicate written_step
leaf_list_value = refl

-- a list without its keys is no instance
not_the_whole_list : instance_path example (codes "/e:top/e:port") bindings ≡ None
unfolding instance_path pattern_step written_name quoted_string predicate_key predicate written_step
not_the_whole_list = refl

-- `tag` is no key
key_of_another : instance_path example (codes "/e:top/e:port[e:tag='1']") bindings ≡ None
unfolding instance_path pattern_step written_name quoted_string predicate_key predicate written_step
key_of_another = refl

key_twice : instance_path example (codes "/e:top/e:port[e:name='a'][e:name='a']") bindings ≡ None
unfolding instance_path pattern_step written_name quoted_string predicate_key predicate written_step
key_twice = refl

-- every name has its prefix
no_prefix : instance_path example (codes "/top") bindings ≡ None
unfolding instance_path pattern_step written_name quoted_string predicate_key predicate written_step
no_prefix = refl

prefix_once : instance_path example (codes "/e:top/host") bindings ≡ None
unfolding instance_path pattern_step written_name quoted_string predicate_key predicate written_step
prefix_once = refl

no_position : instance_path example (codes "/e:top/e:port[1]") bindings ≡ None
unfolding instance_path pattern_step written_name quoted_string predicate_key predicate written_step
no_position = refl

no_white_between_steps : instance_path example (codes "/e:top /e:host") bindings ≡ None
unfolding instance_path pattern_step written_name quoted_string predicate_key predicate written_step
no_white_between_steps = refl

no_step_below_a_leaf : instance_path example (codes "/e:top/e:host/e:tag") bindings ≡ None
unfolding instance_path pattern_step written_name quoted_string predicate_key predicate written_step
no_step_below_a_leaf = refl

no_root : instance_path example (codes "/") bindings ≡ None
unfolding instance_path pattern_step written_name quoted_string predicate_key predicate written_step
no_root = refl

mark_is_missing : instance_path example (codes "/e:top/e:port[e:name='a]") bindings ≡ None
unfolding instance_path pattern_step written_name quoted_string predicate_key predicate written_step
mark_is_missing = refl

-- keys may be left out
key_left_out : node_pattern example (codes "/e:top/e:port/e:tag") bindings
    ≡ Some (record { steps = given 0 [] ∷ given 2 (None ∷ []) ∷ given 4 [] ∷ [] })
unfolding node_pattern pattern_step written_name quoted_string predicate_key predicate written_step
key_left_out = refl

key_there : node_pattern example (codes "/e:top/e:port[e:name='a']") bindings
    ≡ Some (record { steps = given 0 [] ∷ given 2 (Some (codes "a") ∷ []) ∷ [] })
unfolding node_pattern pattern_step written_name quoted_string predicate_key predicate written_step
key_there = refl

the_root : node_pattern example (codes "/") bindings ≡ Some (record { steps = [] })
unfolding node_pattern pattern_step written_name quoted_string predicate_key predicate written_step
the_root = refl

-- from `up` (5) to the names of ports in the same `top`
relative : leafref_end example 5 (codes "../port/name") bindings ≡ Some (record { target = 3; above = Some 0 })
unfolding leafref_end written_name
relative = refl

-- steps up to the top
from_the_top : leafref_end example 5 (codes "../../top/host") bindings
    ≡ Some (record { target = 1; above = None })
unfolding leafref_end written_name
from_the_top = refl

absolute : leafref_end example 5 (codes "/e:top/e:tags") bindings ≡ Some (record { target = 6; above = None })
unfolding leafref_end written_name
absolute = refl

-- there is nothing above the top
past_the_top : leafref_end example 5 (codes "../../../top/host") bindings ≡ None
unfolding leafref_end written_name
past_the_top = refl

-- a list is no leaf
no_leaf : leafref_end example 5 (codes "../port") bindings ≡ None
unfolding leafref_end written_name
no_leaf = refl

no_way_up_later : leafref_end example 5 (codes "../port/../host") bindings ≡ None
unfolding leafref_end written_name
no_way_up_later = refl

no_step_up_first : leafref_end example 5 (codes "port/name") bindings ≡ None
unfolding leafref_end written_name
no_step_up_first = refl

-- the keys of an anchor
anchor : entry_keys example 2 (codes "[e:name='a']") bindings ≡ Some (codes "a" ∷ [])
unfolding entry_keys written_name quoted_string predicate_key predicate
anchor = refl

anchor_without_key : entry_keys example 2 [] bindings ≡ None
unfolding entry_keys written_name quoted_string predicate_key predicate
anchor_without_key = refl

anchor_and_more : entry_keys example 2 (codes "[e:name='a']/e:tag") bindings ≡ None
unfolding entry_keys written_name quoted_string predicate_key predicate
anchor_and_more = refl

anchor_of_a_leaf_list : entry_keys example 6 (codes "[.='a']") bindings ≡ None
unfolding entry_keys written_name quoted_string predicate_key predicate
anchor_of_a_leaf_list = refl

-- an instance identifier without its keys has its fault at its end: with keys it goes on
fault_at_the_end : IsFaultAt (λ text. is_some (instance_path example text bindings)) (codes "/e:top/e:port") 13
unfolding instance_path pattern_step written_name quoted_string predicate_key predicate written_step
fault_at_the_end = record {
  refused = refl;
  within = lit≤ tt;
  before = λ above. (codes "[e:name='a']", refl);
  there = λ below. absurd (omega (arith, below));
}
