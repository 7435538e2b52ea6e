-- What readers of a path text that is refused have read, and where they stop.
use Rattle.std.proofs.Common.{◌≡◌, inl, ℕ, suc, ◌<◌, ◌≤◌, ◌-◌, Bool, true, false, cond, eqb, List, [], ◌∷◌, Option, Some, None, length, length-append, option_map, refl, sym, ap, ◌∙◌, arith}
use Rattle.std.specs.List.{list_any}
use Rattle.nc_names.specs.Ends.{after_white}
use Rattle.nc_names.specs.Signs.{equals, slash, opening_bracket, closing_bracket}
use Rattle.nc_schema.specs.InstancePaths.{key_nodes}
use Rattle.nc_schema.specs.PathWords.{begins_with, predicate_key, quoted_string, sign}
use Rattle.nc_path_places.specs.inner.Candidates.{can_be_given, child_first, ends_at, farthest, is_giveable, key_first, value_left}
use Rattle.nc_path_places.specs.inner.Going.{Reading, Keys, KeyNames, Signed, StepNames, Steps, Valued, key_named, without}
use Rattle.nc_path_places.specs.inner.Halting.{Halts, Leads}
use Rattle.nc_path_places.specs.inner.Places.{IsStepName, IsStep, KeyThen, is_empty, may_end}
use Rattle.nc_path_places.proofs.Below.{end_given, ends_in, first_parts, names_end, names_halt}
use Rattle.nc_path_places.proofs.Cuts.{halts_on, leads_on, sign_is, signed_halts, signed_leads}
use Rattle.nc_path_places.proofs.Names.{In, bind_some, map_some, name_cut, wording}
use Rattle.nc_path_places.proofs.Spots.{key_leads, keys_here, keys_live, named_leads, over_leads, step_leads, steps_here, without_given}
use Rattle.nc_path_places.proofs.Stages.{closes, closes_valued, keyed_halts, keyed_leads, valued_halts, valued_leads}

begun_by : (wanted : ℕ) (text : List ℕ) → sign wanted text ≡ None → begins_with wanted text ≡ false
begun_by wanted [] e = refl
begun_by wanted (c ∷ cs) e = by (eqb c wanted) e
  where
    by : (t : Bool) → cond t (Some cs) None ≡ None → t ≡ false
    by true f = cc
    by false f = refl

begun_with : (wanted : ℕ) (text rest : List ℕ) → sign wanted text ≡ Some rest → begins_with wanted text ≡ true
begun_with wanted [] rest e = cc
begun_with wanted (c ∷ cs) rest e = by (eqb c wanted) e
  where
    by : (t : Bool) → cond t (Some cs) None ≡ Some rest → t ≡ true
    by true f = refl
    by false f = cc

module _ (s : Reading) where
  -- ---- steps
  pub no_slash_halts : (above : Option ℕ) (text : List ℕ) → sign slash text ≡ None → Halts (Steps s above) text (length text)
  no_slash_halts above text e = steps_here s above text (λ next begins named. (let clash : true ≡ false = sym begins ∙ begun_by slash text e in absurd cc))

  pub no_child_halts : (above : Option ℕ) (text : List ℕ) → length (ends_at s above) ≡ 0 → Halts (Steps s above) text (length text)
  no_child_halts above text none = steps_here s above text (λ next begins named. let (number, e) = names_end s above next named in by number (ends_at s above) none (ends_in s above number e))
    where
      by : (number : ℕ) (xs : List ℕ) → length xs ≡ 0 → In number xs → ⊥
      by number [] e at = at
      by number (x ∷ xs) e at = omega (arith, e)

  pub far_name_halts : (above : Option ℕ) (text after : List ℕ) → sign slash text ≡ Some after → child_first s above after ≡ None → 0 < length (ends_at s above) → Halts (Steps s above) text (length after - farthest s after (ends_at s above))
  far_name_halts above text after e missing some =
      let (one, at) = first (ends_at s above) some in
      halts_on (Steps s above) (StepNames s above) text after (length after - farthest s after (ends_at s above)) (step_leads s above text after e) (names_halt s above after one at missing)
    where
      first : (xs : List ℕ) → 0 < length xs → (x : ℕ) × In x xs
      first [] less = absurd (omega (arith, less))
      first (x ∷ xs) less = (x, inl refl)

  pub step_name_read : (above : Option ℕ) (text after : List ℕ) (number : ℕ) (rest : List ℕ) → sign slash text ≡ Some after → child_first s above after ≡ Some (number, rest) → IsStepName s above text number rest
  step_name_read above text after number rest e found =
      let first = first_parts s above after number rest found in
      let cut = name_cut after first.name rest first.reads in
      let a : length text ≡ suc (length after) = ap length (sign_is slash text after e) in
      let b = ap length cut.is ∙ length-append (wording first.name) rest in
      record {
        leads = leads_on (Steps s above) (StepNames s above) (Keys s number (key_nodes s.tables number)) text after rest (step_leads s above text after e) (named_leads s above after rest first.name number first.reads first.child);
        given = end_given s above number first.ends;
        less = omega (arith, a, b);
      }

  pub leads_less : (L M : List ℕ → Type 0) (text rest : List ℕ) → Leads L M text rest → length rest ≤ length text
  leads_less L M text rest leads = let e = ap length leads.is ∙ length-append leads.chunk rest in omega (arith, e)

  pub step_read : (above : Option ℕ) (text mid : List ℕ) (number : ℕ) (rest : List ℕ) → IsStepName s above text number mid → Leads (Keys s number (key_nodes s.tables number)) (Steps s (Some number)) mid rest → IsStep s above text number rest
  step_read above text mid number rest name keys =
      let less = leads_less (Keys s number (key_nodes s.tables number)) (Steps s (Some number)) mid rest keys in
      record {
        leads = leads_on (Steps s above) (Keys s number (key_nodes s.tables number)) (Steps s (Some number)) text mid rest name.leads keys;
        less = omega (arith, less, name.less);
      }

  pub step_halts : (above : Option ℕ) (text mid : List ℕ) (number left : ℕ) → IsStepName s above text number mid → Halts (Keys s number (key_nodes s.tables number)) mid left → Halts (Steps s above) text left
  step_halts above text mid number left name halts = halts_on (Steps s above) (Keys s number (key_nodes s.tables number)) text mid left name.leads halts

  -- ---- predicates
  module _ (number : ℕ) (left : List ℕ) (given : can_be_given s number left ≡ true) where
    after_key : (key : ℕ) → (tail : List ℕ) × Keys s number (without key left) tail
    after_key key = keys_live s number (without key left) (without_given s number key left given)

    pub key_read : (text : List ℕ) (key : ℕ) (rest : List ℕ) → key_first s number left (after_white text) ≡ Some (key, rest) → Leads (KeyNames s number left) (KeyThen s number left key) text rest
    key_read text key rest e =
        let (found, reads, e1) = bind_some (predicate_key (after_white text)) (λ one. option_map (λ k. (k, one.1)) (key_named s number left one.0)) (key, rest) e in
        let (other, named, pair) = map_some (key_named s number left found.0) (λ (k : ℕ). let it : ℕ × List ℕ = (k, found.1) in it) (key, rest) e1 in
        let keys : other ≡ key = ap (λ (x : ℕ × List ℕ). x.0) pair in
        let rests : found.1 ≡ rest = ap (λ (x : ℕ × List ℕ). x.1) pair in
        keyed_leads s number left (λ k. Keys s number (without k left)) text found.0 key rest (reads ∙ (λ i. Some (found.0, rests i))) (named ∙ ap Some keys)

    pub key_halts : (text : List ℕ) → list_any (is_giveable s number) left ≡ true → key_first s number left (after_white text) ≡ None → Halts (KeyNames s number left) text (length (after_white text) - farthest s (after_white text) (without number left))
    key_halts text some missing = keyed_halts s number left (λ k. Keys s number (without k left)) text some (λ key at. after_key key) missing

    module _ (text : List ℕ) (key : ℕ) (behind : List ℕ) (led : Leads (KeyNames s number left) (KeyThen s number left key) text behind) where
      abbrev Rest : List ℕ → Type 0
      Rest = Keys s number (without key left)

      pub equals_halts : sign equals (after_white behind) ≡ None → Halts (KeyNames s number left) text (length (after_white behind))
      equals_halts e =
          let (tail, holds) = after_key key in
          halts_on (KeyNames s number left) (KeyThen s number left key) text behind (length (after_white behind)) led
          (signed_halts equals refl (Valued Rest) behind (closes tail) (closes_valued Rest [] tail holds) e)

      to_value : (after : List ℕ) → sign equals (after_white behind) ≡ Some after → Leads (KeyNames s number left) (Valued Rest) text after
      to_value after e = leads_on (KeyNames s number left) (KeyThen s number left key) (Valued Rest) text behind after led (signed_leads equals refl (Valued Rest) behind after e)

      pub value_halts : (after : List ℕ) → sign equals (after_white behind) ≡ Some after → quoted_string (after_white after) ≡ None → Halts (KeyNames s number left) text (value_left (after_white after))
      value_halts after e f =
          let (tail, holds) = after_key key in
          halts_on (KeyNames s number left) (Valued Rest) text after (value_left (after_white after)) (to_value after e) (valued_halts Rest after tail holds f)

      to_end : (after value last : List ℕ) → sign equals (after_white behind) ≡ Some after → quoted_string (after_white after) ≡ Some (value, last) → Leads (KeyNames s number left) (Signed closing_bracket Rest) text last
      to_end after value last e f = leads_on (KeyNames s number left) (Valued Rest) (Signed closing_bracket Rest) text after last (to_value after e) (valued_leads Rest after value last f)

      pub closing_halts : (after value last : List ℕ) → sign equals (after_white behind) ≡ Some after → quoted_string (after_white after) ≡ Some (value, last) → sign closing_bracket (after_white last) ≡ None → Halts (KeyNames s number left) text (length (after_white last))
      closing_halts after value last e f g =
          let (tail, holds) = after_key key in
          halts_on (KeyNames s number left) (Signed closing_bracket Rest) text last (length (after_white last)) (to_end after value last e f) (signed_halts closing_bracket refl Rest last tail holds g)

      pub predicate_read : (after value last rest : List ℕ) → sign equals (after_white behind) ≡ Some after → quoted_string (after_white after) ≡ Some (value, last) → sign closing_bracket (after_white last) ≡ Some rest → Leads (KeyNames s number left) (Keys s number (without key left)) text rest
      predicate_read after value last rest e f g = leads_on (KeyNames s number left) (Signed closing_bracket Rest) Rest text last rest (to_end after value last e f) (signed_leads closing_bracket refl Rest last rest g)

    pub one_predicate_on : (text inside : List ℕ) (key : ℕ) (rest : List ℕ) → sign opening_bracket text ≡ Some inside → Leads (KeyNames s number left) (Keys s number (without key left)) inside rest → Leads (Keys s number left) (Keys s number (without key left)) text rest
    one_predicate_on text inside key rest e led = leads_on (Keys s number left) (KeyNames s number left) (Keys s number (without key left)) text inside rest (key_leads s number left text inside e) led

    pub one_predicate_halts : (text inside : List ℕ) (end : ℕ) → sign opening_bracket text ≡ Some inside → Halts (KeyNames s number left) inside end → Halts (Keys s number left) text end
    one_predicate_halts text inside end e halts = halts_on (Keys s number left) (KeyNames s number left) text inside end (key_leads s number left text inside e) halts

    pub no_key_halts : (text inside : List ℕ) → sign opening_bracket text ≡ Some inside → list_any (is_giveable s number) left ≡ false → Halts (Keys s number left) text (length text)
    no_key_halts text inside e none =
        keys_here s number left text given (λ no_bracket all. (let clash : true ≡ false = sym (begun_with opening_bracket text inside e) ∙ no_bracket in cc)) (λ begins. none)

    pub key_missing_halts : (text : List ℕ) → sign opening_bracket text ≡ None → may_end s left ≡ false → Halts (Keys s number left) text (length text)
    key_missing_halts text e missing =
        keys_here s number left text given (λ no_bracket all. by left s.all refl missing all) (λ begins. (let clash : true ≡ false = sym begins ∙ begun_by opening_bracket text e in cc))
      where
        by : (xs : List ℕ) (t : Bool) → s.all ≡ t → cond t (is_empty xs) true ≡ false → (s.all ≡ true → xs ≡ []) → ⊥
        by xs false a f all = cc
        by [] true a f all = cc
        by (x ∷ xs) true a f all = let none : x ∷ xs ≡ [] = all a in cc

    pub keys_end : (text : List ℕ) → sign opening_bracket text ≡ None → may_end s left ≡ true → Leads (Keys s number left) (Steps s (Some number)) text text
    keys_end text e may = over_leads s number left text (begun_by opening_bracket text e) (by left s.all may)
      where
        by : (xs : List ℕ) (t : Bool) → cond t (is_empty xs) true ≡ true → t ≡ true → xs ≡ []
        by [] t f all = refl
        by (x ∷ xs) true f all = cc
        by (x ∷ xs) false f all = cc
