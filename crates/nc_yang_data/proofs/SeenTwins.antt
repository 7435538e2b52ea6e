-- Names of choices in plans that are alike.
use Rattle.std.proofs.Common.{◌≡◌, ◌+◌, ◌&&◌, ℕ, zero, suc, Bool, cond, List, [], ◌∷◌, ◌++◌, map, refl, Option, Some}
use Rattle.std.specs.Prelude.{nat_lt, slice_get}
use Rattle.std.specs.List.{position_from}
use Rattle.std.specs.Option.{option_map_or}
use Rattle.nc_names.specs.Same.{is_same_text}
use Rattle.nc_schema.specs.Children.{is_same_number}
use Rattle.nc_yang_statements.specs.Statements.{line, name}
use Rattle.nc_yang_statements.specs.declared.fault.ModuleWhy.TheVariants.{Twice}
use Rattle.nc_yang_scopes.specs.Scopes.{Located, Scoping}
use Rattle.nc_yang_scopes.specs.declared.naming.TextFault.{TextFault}
use Rattle.nc_yang_nodes.specs.Alike.{SeenChoice, SeenNode, seen_choice, seen_node}
use Rattle.nc_yang_nodes.specs.declared.planned.Plan.{Plan}
use Rattle.nc_yang_nodes.specs.declared.planned.Planned.{Planned}
use Rattle.nc_yang_nodes.specs.declared.planned.PlannedChoice.{PlannedChoice}
use Rattle.nc_yang_data.specs.Siblings.{choices_from, clash, is_called, is_same_parent, name_at, name_faults, nodes_from, parent_of, twice_at}
use Rattle.nc_yang_data.specs.declared.siblings.Parent.{Parent}

abbrev name_in : Option Located → List ℕ
name_in o = option_map_or (λ (l : Located). name l.statement) o []

abbrev twice_in : Option Located → List TextFault
twice_in o = option_map_or (λ (l : Located). record { text = l.place.text; fault = record { line = line l.statement; why = Twice } } ∷ []) o []

abbrev is_seen : Parent → List ℕ → SeenChoice → Bool
is_seen parent word c = is_same_parent (parent_of c.in_module c.parent c.within) parent && is_same_text (name_in c.statement) word

abbrev seen_twin : List SeenChoice → ℕ → SeenChoice → List TextFault
seen_twin all number c =
    cond (is_same_number (position_from (is_seen (parent_of c.in_module c.parent c.within) (name_in c.statement)) 0 all) (Some number)) [] (twice_in c.statement)

abbrev seen_twins : List SeenChoice → ℕ → List SeenChoice → List TextFault
seen_twins all number [] = []
seen_twins all number (c ∷ cs) = seen_twin all number c ++ seen_twins all (number + 1) cs

abbrev seen_clash : ℕ → SeenNode → SeenChoice → List TextFault
seen_clash number s c = cond (nat_lt number c.nodes_before) (twice_in c.statement) (twice_in s.statement)

abbrev clash_in : List SeenChoice → ℕ → SeenNode → ℕ → List TextFault
clash_in all number s k = option_map_or (seen_clash number s) (slice_get all k) []

abbrev seen_clashes : List SeenChoice → ℕ → List SeenNode → List TextFault
seen_clashes all number [] = []
seen_clashes all number (s ∷ ss) =
    option_map_or (clash_in all number s) (position_from (is_seen (parent_of s.in_module s.parent s.cases) (name_in s.statement)) 0 all) []
    ++ seen_clashes all (number + 1) ss

abbrev pub seen_faults : List SeenNode → List SeenChoice → List TextFault
seen_faults ss cs = seen_twins cs 0 cs ++ seen_clashes cs 0 ss

module _ (scoping : Scoping) where
  called_is : (parent : Parent) (word : List ℕ) (from : ℕ) (cs : List PlannedChoice) →
      position_from (is_called scoping parent word) from cs ≡ position_from (is_seen parent word) from (map (seen_choice scoping) cs)
  called_is parent word from [] = refl
  called_is parent word from (c ∷ cs) = λ i. cond (is_called scoping parent word c) (Some from) (called_is parent word (from + 1) cs i)

  twins_are : (all : List PlannedChoice) (number : ℕ) (cs : List PlannedChoice) →
      choices_from scoping all number cs ≡ seen_twins (map (seen_choice scoping) all) number (map (seen_choice scoping) cs)
  twins_are all number [] = refl
  twins_are all number (c ∷ cs) = λ i.
      cond (is_same_number (called_is (parent_of c.module c.parent c.within) (name_at scoping c.statement) 0 all i) (Some number)) [] (twice_at scoping c.statement)
      ++ twins_are all (number + 1) cs i

  clash_is : (all : List PlannedChoice) (number : ℕ) (p : Planned) (k : ℕ) →
      option_map_or (clash scoping number p) (slice_get all k) [] ≡ clash_in (map (seen_choice scoping) all) number (seen_node scoping p) k
  clash_is [] number p k = refl
  clash_is (c ∷ cs) number p zero = refl
  clash_is (c ∷ cs) number p (suc k) = clash_is cs number p k

  clashes_are : (all : List PlannedChoice) (number : ℕ) (ps : List Planned) →
      nodes_from scoping all number ps ≡ seen_clashes (map (seen_choice scoping) all) number (map (seen_node scoping) ps)
  clashes_are all number [] = refl
  clashes_are all number (p ∷ ps) = λ i.
      option_map_or (λ k. clash_is all number p k i) (called_is (parent_of p.module p.parent p.cases) (name_at scoping p.statement) 0 all i) []
      ++ clashes_are all (number + 1) ps i

  pub names_are : (plan : Plan) → name_faults scoping plan ≡ seen_faults (map (seen_node scoping) plan.nodes) (map (seen_choice scoping) plan.choices)
  names_are plan = λ i. twins_are plan.choices 0 plan.choices i ++ clashes_are plan.choices 0 plan.nodes i
