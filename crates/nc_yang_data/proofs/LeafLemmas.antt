-- Leafs that words name one after another.
use Rattle.std.specs.List.{slice_split}
use Rattle.std.proofs.lemmas.List.Splits.{length-slice_split}
use Rattle.std.specs.Prelude.{option_and_then}
use Rattle.std.proofs.Common.{◌≡◌, ◌+◌, eqb, count_by, is_some, Bor, arith, ℕ, Bool, true, false, cond, List, [], ◌∷◌, ◌++◌, length, nat_lt, map, filter, Option, Some, None, option_map, refl, ap, ◌∙◌, sym, append_assoc}
use Rattle.nc_names.specs.Signs.{slash}
use Rattle.nc_schema.specs.Tables.{Tables}
use Rattle.nc_yang_words.specs.declared.statement.Statement.{Statement}
use Rattle.nc_yang_data.specs.Leafs.{CaseTest, all_there, if_node, is_unique_leaf, leaf_below, local_name, node_behind, onward}
use Rattle.nc_yang_data.specs.declared.leaf.Way.{Way}
use Rattle.nc_yang_data.specs.inner.Words.{names_of}

-- what is there of both
abbrev both : Option (List ℕ) → Option (List ℕ) → Option (List ℕ)
both None o = None
both (Some a) o = option_map (λ more. a ++ more) o

both_first : (key : ℕ) (front back : Option (List ℕ)) →
    option_map (λ more. key ∷ more) (both front back) ≡ both (option_map (λ more. key ∷ more) front) back
both_first key None back = refl
both_first key (Some a) None = refl
both_first key (Some a) (Some b) = refl

all_append : (xs ys : List (Option ℕ)) → all_there (xs ++ ys) ≡ both (all_there xs) (all_there ys)
all_append [] ys = by (all_there ys)
  where
    by : (o : Option (List ℕ)) → o ≡ both (Some []) o
    by None = refl
    by (Some a) = refl
all_append (None ∷ xs) ys = refl
all_append (Some key ∷ xs) ys = ap (option_map (λ more. key ∷ more)) (all_append xs ys) ∙ both_first key (all_there xs) (all_there ys)

twice : (found : List ℕ) (keys : List ℕ) (front back : Option (List ℕ)) → Some keys ≡ option_map (λ more. found ++ more) front →
    option_map (λ more. found ++ more) (both front back) ≡ option_map (λ more. keys ++ more) back
twice found keys None back e = absurd (cc)
twice found keys (Some a) None e = refl
twice found keys (Some a) (Some b) e =
    let same : keys ≡ found ++ a = cc in rw same (ap (λ (x : List ℕ). Some x) (sym (append_assoc found a b)))

module _ (K : List ℕ → Option ℕ) where
  abbrev in_parts : List (List ℕ) → List (Option ℕ)
  in_parts parts = map K (filter (λ part. nat_lt 0 (length part)) parts)

  first_by : (b : Bool) (part : List ℕ) (rest : List (List ℕ)) → map K (cond b (part ∷ rest) rest) ≡ map K (cond b (part ∷ []) []) ++ map K rest
  first_by true part rest = refl
  first_by false part rest = refl

  in_first : (part : List ℕ) (parts : List (List ℕ)) → in_parts (part ∷ parts) ≡ in_parts (part ∷ []) ++ in_parts parts
  in_first part parts = first_by (nat_lt 0 (length part)) part (filter (λ p. nat_lt 0 (length p)) parts)

  -- the next part is read
  pub leaf_more : (whole : Option (List ℕ)) (found keys : List ℕ) (split : List (List ℕ)) (part : List ℕ) (more : List (List ℕ)) →
      whole ≡ option_map (λ m. found ++ m) (all_there (map K (filter (λ p. nat_lt 0 (length p)) split))) → split ≡ part ∷ more →
      Some keys ≡ option_map (λ m. found ++ m) (all_there (map K (filter (λ p. nat_lt 0 (length p)) (part ∷ [])))) →
      whole ≡ option_map (λ m. keys ++ m) (all_there (map K (filter (λ p. nat_lt 0 (length p)) more)))
  leaf_more whole found keys split part more inv e step =
      inv ∙ ap (λ ps. option_map (λ m. found ++ m) (all_there (in_parts ps))) e
      ∙ ap (λ os. option_map (λ m. found ++ m) (all_there os)) (in_first part more)
      ∙ ap (option_map (λ m. found ++ m)) (all_append (in_parts (part ∷ [])) (in_parts more))
      ∙ twice found keys (all_there (in_parts (part ∷ []))) (all_there (in_parts more)) step

-- ---- names that lead down
module _ (texts : List Statement) (tables : Tables) (named : CaseTest) (text : ℕ) where
  -- of a text of which more is left there are parts
  more_parts : (rest : List ℕ) → (parts : List (List ℕ)) → slice_split (λ c. eqb c slash) rest ≡ parts → (next : List ℕ) × (others : List (List ℕ)) × (parts ≡ next ∷ others)
  more_parts rest [] is =
      let size : length (slice_split (λ c. eqb c slash) rest) ≡ count_by (λ c. eqb c slash) rest + 1 = length-slice_split (λ c. eqb c slash) rest in
      absurd (let none : length (slice_split (λ c. eqb c slash) rest) ≡ 0 = ap length is in omega (arith, size, none))
  more_parts rest (next ∷ others) is = (next, others, refl)

  -- a name of which more follow
  further_by : (way : Way) (names parts : List (List ℕ)) (part local : List ℕ) → names ≡ part ∷ parts → (next : List ℕ) × (others : List (List ℕ)) × (parts ≡ next ∷ others) → local_name texts text part ≡ Some local →
      leaf_below texts tables named text way names ≡ option_and_then (λ later. leaf_below texts tables named text later parts) (onward tables named way local)
  further_by way names parts part local e more said = rw (e, more.2) (rw said refl)

  pub further : (way : Way) (rest part local : List ℕ) (more : Option (Bor (List ℕ))) → slice_split (λ c. eqb c slash) rest ≡ part ∷ names_of (option_map (λ r. r.now) more) → is_some more ≡ true →
      local_name texts text part ≡ Some local → (o : Option Way) → onward tables named way local ≡ o →
      leaf_below texts tables named text way (slice_split (λ c. eqb c slash) rest) ≡ option_and_then (λ later. leaf_below texts tables named text later (names_of (option_map (λ r. r.now) more))) o
  further way rest part local None e some said o leads = absurd (cc)
  further way rest part local (Some after) e some said o leads =
      further_by way (slice_split (λ c. eqb c slash) rest) (slice_split (λ c. eqb c slash) after.now) part local e (more_parts after.now (slice_split (λ c. eqb c slash) after.now) refl) said
      ∙ ap (option_and_then (λ later. leaf_below texts tables named text later (slice_split (λ c. eqb c slash) after.now))) leads

  -- the last name
  pub last_name : (way : Way) (rest part local : List ℕ) (more : Option (Bor (List ℕ))) → slice_split (λ c. eqb c slash) rest ≡ part ∷ names_of (option_map (λ r. r.now) more) → is_some more ≡ false →
      local_name texts text part ≡ Some local →
      leaf_below texts tables named text way (slice_split (λ c. eqb c slash) rest) ≡ option_and_then (if_node is_unique_leaf tables) (node_behind tables named way local)
  last_name way rest part local None e some said = ap (leaf_below texts tables named text way) e ∙ ap (λ o. option_and_then (if_node is_unique_leaf tables) (option_and_then (node_behind tables named way) o)) said
  last_name way rest part local (Some after) e some said = absurd (cc)

  -- a name of another module
  none_by : (way : Way) (part : List ℕ) (parts : List (List ℕ)) → local_name texts text part ≡ None → leaf_below texts tables named text way (part ∷ parts) ≡ None
  none_by way part [] none = ap (λ o. option_and_then (if_node is_unique_leaf tables) (option_and_then (node_behind tables named way) o)) none
  none_by way part (next ∷ parts) none = ap (λ o. option_and_then (λ later. leaf_below texts tables named text later (next ∷ parts)) (option_and_then (onward tables named way) o)) none

  pub no_name : (way : Way) (rest part : List ℕ) (parts : List (List ℕ)) → slice_split (λ c. eqb c slash) rest ≡ part ∷ parts → local_name texts text part ≡ None →
      leaf_below texts tables named text way (slice_split (λ c. eqb c slash) rest) ≡ None
  no_name way rest part parts e none = ap (leaf_below texts tables named text way) e ∙ none_by way part parts none
