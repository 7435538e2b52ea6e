-- The parts of the path of a leafref, one after another.
use Rattle.std.proofs.Common.{◌≡◌, ℕ, Bool, true, false, cond, eqb, List, [], ◌∷◌, Option, Some, None, option_map, refl, ap, ◌∙◌}
use Rattle.std.specs.List.{slice_split, onto_first}
use Rattle.nc_names.specs.Signs.{slash}
use Rattle.nc_schema.specs.PathWords.{up_to}

abbrev is_slash : ℕ → Bool
is_slash c = eqb c slash

abbrev got : List ℕ × List ℕ → Option (List ℕ × List ℕ) → List ℕ × List ℕ
got other None = other
got other (Some found) = found

cut_step : (b : Bool) (c : ℕ) (cs before after : List ℕ) (found : Option (List ℕ × List ℕ)) → ((x y : List ℕ) → found ≡ Some (x, y) → slice_split is_slash cs ≡ x ∷ slice_split is_slash y) → cond {A = Option (List ℕ × List ℕ)} b (Some ([], cs)) (option_map (λ one. (c ∷ one.0, one.1)) found) ≡ Some (before, after) → cond b ([] ∷ slice_split is_slash cs) (onto_first c (slice_split is_slash cs)) ≡ before ∷ slice_split is_slash after
cut_step true c cs before after found further e =
    let here : [] ≡ before = ap (λ one. (got (before, after) one).0) e in
    let there : cs ≡ after = ap (λ one. (got (before, after) one).1) e in
    λ i. here i ∷ slice_split is_slash (there i)
cut_step false c cs before after None further e = cc
cut_step false c cs before after (Some (x, y)) further e =
    let here : c ∷ x ≡ before = ap (λ one. (got (before, after) one).0) e in
    let there : y ≡ after = ap (λ one. (got (before, after) one).1) e in
    ap (onto_first c) (further x y refl) ∙ (λ i. here i ∷ slice_split is_slash (there i))

pub part_cut : (text before after : List ℕ) → up_to slash text ≡ Some (before, after) → slice_split (λ c. eqb c slash) text ≡ before ∷ slice_split (λ c. eqb c slash) after
part_cut [] before after e = cc
part_cut (c ∷ cs) before after e = cut_step (is_slash c) c cs before after (up_to slash cs) (part_cut cs) e

last_step : (b : Bool) (c : ℕ) (cs : List ℕ) (found : Option (List ℕ × List ℕ)) → (found ≡ None → slice_split is_slash cs ≡ cs ∷ []) → cond {A = Option (List ℕ × List ℕ)} b (Some ([], cs)) (option_map (λ one. (c ∷ one.0, one.1)) found) ≡ None → cond b ([] ∷ slice_split is_slash cs) (onto_first c (slice_split is_slash cs)) ≡ (c ∷ cs) ∷ []
last_step true c cs found further e = cc
last_step false c cs None further e = ap (onto_first c) (further refl)
last_step false c cs (Some found) further e = cc

pub part_last : (text : List ℕ) → up_to slash text ≡ None → slice_split (λ c. eqb c slash) text ≡ text ∷ []
part_last [] e = refl
part_last (c ∷ cs) e = last_step (is_slash c) c cs (up_to slash cs) (part_last cs) e
