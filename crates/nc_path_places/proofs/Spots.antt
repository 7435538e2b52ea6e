-- Where steps and predicates lead, and that a path can always be ended.
use Rattle.std.proofs.Common.{◌≡◌, ◌⊎◌, inl, inr, ℕ, zero, suc, ◌<◌, ◌≤◌, Bool, true, false, not, cond, eqb, ◌||◌, List, [], ◌∷◌, ◌++◌, Option, Some, None, length, refl, sym, ap, subst, ◌∙◌, arith}
use Rattle.std.specs.List.{list_all, list_any}
use Rattle.std.proofs.lemmas.Bool.Decides.{Decides-eqb}
use Rattle.nc_names.proofs.SameLemmas.{first_true, second_true, both_true}
use Rattle.nc_names.specs.Ends.{after_white}
use Rattle.nc_names.specs.Signs.{is_in_identifier, is_white, equals, slash, opening_bracket}
use Rattle.nc_schema.specs.InstancePaths.{is_of_key, key_nodes}
use Rattle.nc_schema.specs.PathWords.{begins_with, leading, sign, written_name}
use Rattle.nc_schema.specs.declared.written.WrittenName.{WrittenName}
use Rattle.nc_path_places.specs.inner.Halting.{Leads, Halts, first_sign}
use Rattle.nc_path_places.specs.inner.Going.{Reading, Keyed, Named, child_named, without, AtStep, AtKeys, Goes, GoesOn, Steps, Keys, StepNames, KeyNames}
use Rattle.nc_path_places.specs.inner.Candidates.{can_be_given, is_giveable, is_nameable, is_named}
use Rattle.nc_path_places.proofs.Cuts.{halts_here, same_stops, sign_is, sign_of}
use Rattle.nc_path_places.proofs.Names.{In, Ends, wording, name_cut, name_again, in_any}
use Rattle.nc_path_places.proofs.Naming.{find_passes, named_is_nameable}
use Rattle.nc_path_places.proofs.Stages.{IsProperKey, key_wording, closes, given, key_cut, keyed_made}

module _ (s : Reading) where
  -- ---- how texts begin
  step_begins : (m : ℕ) (above : Option ℕ) (text : List ℕ) → Goes s m (AtStep above) text → (text ≡ []) ⊎ ((rest : List ℕ) × (text ≡ slash ∷ rest))
  unfolding Goes
  step_begins zero above text goes = absurd goes
  step_begins (suc m) above text (inl none) = inl none
  step_begins (suc m) above text (inr more) = inr (more.0, sign_is slash text more.0 more.1)

  step_no_keys : (m : ℕ) (above : Option ℕ) (text : List ℕ) → Goes s m (AtStep above) text → begins_with opening_bracket text ≡ false
  step_no_keys m above text goes = by (step_begins m above text goes)
    where
      by : (text ≡ []) ⊎ ((rest : List ℕ) × (text ≡ slash ∷ rest)) → begins_with opening_bracket text ≡ false
      by (inl none) = ap (begins_with opening_bracket) none
      by (inr more) = ap (begins_with opening_bracket) more.1

  pub goes_ends : (m number : ℕ) (left text : List ℕ) → Goes s m (AtKeys number left) text → Ends text
  unfolding Goes
  goes_ends zero number left text goes = absurd goes
  goes_ends (suc m) number left text (inl end) = by (step_begins m (Some number) text end.2)
    where
      by : (text ≡ []) ⊎ ((rest : List ℕ) × (text ≡ slash ∷ rest)) → Ends text
      by (inl none) = subst Ends (sym none) tt
      by (inr more) = subst Ends (sym more.1) refl
  goes_ends (suc m) number left text (inr more) = subst Ends (sym (sign_is opening_bracket text more.0 more.1)) refl

  -- ---- what is so at most so far, and at all
  steps_up : (above : Option ℕ) (text : List ℕ) (m : ℕ) → Goes s m (AtStep above) text → Steps s above text
  unfolding GoesOn
  steps_up above text m goes = (m, goes)

  pub steps_end : (above : Option ℕ) → Steps s above []
  unfolding Goes GoesOn
  steps_end above = (1, inl refl)

  names_out : (above : Option ℕ) (text : List ℕ) → StepNames s above text → (m : ℕ) × Named s above (λ number rest. Goes s m (AtKeys number (key_nodes s.tables number)) rest) text
  unfolding GoesOn
  names_out above text named = (named.4.0, (named.0, named.1, named.2, named.3, named.4.1))

  names_in : (m : ℕ) (above : Option ℕ) (text : List ℕ) → Named s above (λ number rest. Goes s m (AtKeys number (key_nodes s.tables number)) rest) text → StepNames s above text
  unfolding GoesOn
  names_in m above text named = (named.0, named.1, named.2, named.3, (m, named.4))

  keyed_out : (number : ℕ) (left text : List ℕ) → KeyNames s number left text → (m : ℕ) × Keyed s number left (λ key rest. Goes s m (AtKeys number (without key left)) rest) text
  unfolding GoesOn
  keyed_out number left text k =
      let a = k.4 in
      let v = a.2 in
      let z = v.2 in
      (z.2.0, (k.0, k.1, k.2, k.3, (a.0, a.1, (v.0, v.1, (z.0, z.1, z.2.1)))))

  keyed_in : (m number : ℕ) (left text : List ℕ) → Keyed s number left (λ key rest. Goes s m (AtKeys number (without key left)) rest) text → KeyNames s number left text
  unfolding GoesOn
  keyed_in m number left text k =
      let a = k.4 in
      let v = a.2 in
      let z = v.2 in
      (k.0, k.1, k.2, k.3, (a.0, a.1, (v.0, v.1, (z.0, z.1, (m, z.2)))))

  -- a step, and a predicate, begin with their sign
  pub step_of : (above : Option ℕ) (after : List ℕ) → StepNames s above after → Steps s above (slash ∷ after)
  unfolding Goes GoesOn
  step_of above after named = let (m, out) = names_out above after named in (suc m, inr (after, sign_of slash after, out))

  pub keys_of : (number : ℕ) (left inside : List ℕ) → KeyNames s number left inside → Keys s number left (opening_bracket ∷ inside)
  unfolding Goes GoesOn
  keys_of number left inside named = let (m, out) = keyed_out number left inside named in (suc m, inr (inside, sign_of opening_bracket inside, out))

  pub keys_over : (number : ℕ) (left text : List ℕ) → (s.all ≡ true → left ≡ []) → Steps s (Some number) text → Keys s number left text
  unfolding Goes GoesOn
  keys_over number left text given steps = (suc steps.0, inl (step_no_keys steps.0 (Some number) text steps.1, given, steps.1))

  -- and back
  pub of_step : (above : Option ℕ) (c : ℕ) (next : List ℕ) → Steps s above (c ∷ next) → (c ≡ slash) × StepNames s above next
  unfolding Goes GoesOn
  of_step above c next (zero, goes) = absurd goes
  of_step above c next (suc m, inl none) = absurd cc
  of_step above c next (suc m, inr more) =
      let is : c ∷ next ≡ slash ∷ more.0 = sign_is slash (c ∷ next) more.0 more.1 in
      let head : c ≡ slash = cc in
      let tail : more.0 ≡ next = cc in
      (head, names_in m above next (subst (λ (x : List ℕ). Named s above (λ number rest. Goes s m (AtKeys number (key_nodes s.tables number)) rest) x) tail more.2))

  abbrev OfKeys : ℕ → List ℕ → List ℕ → Type 0
  OfKeys number left text = ((begins_with opening_bracket text ≡ false) × (s.all ≡ true → left ≡ []) × Steps s (Some number) text) ⊎ ((inside : List ℕ) × (text ≡ opening_bracket ∷ inside) × KeyNames s number left inside)

  pub of_keys : (number : ℕ) (left text : List ℕ) → Keys s number left text → OfKeys number left text
  unfolding Goes GoesOn
  of_keys number left text (zero, goes) = absurd goes
  of_keys number left text (suc m, inl end) = inl (end.0, end.1, (m, end.2))
  of_keys number left text (suc m, inr more) = inr (more.0, sign_is opening_bracket text more.0 more.1, keyed_in m number left more.0 more.2)

  -- ---- where they lead
  pub step_leads : (above : Option ℕ) (text after : List ℕ) → sign slash text ≡ Some after → Leads (Steps s above) (StepNames s above) text after
  step_leads above text after e = record {
    chunk = slash ∷ [];
    is = sign_is slash text after e;
    into = λ next named. step_of above next named;
    back = λ next f steps. (of_step above slash next steps).1;
  }

  pub named_leads : (above : Option ℕ) (text rest : List ℕ) (w : WrittenName) (number : ℕ) → written_name text ≡ Some (w, rest) → child_named s above w ≡ Some number → Leads (StepNames s above) (Keys s number (key_nodes s.tables number)) text rest
  unfolding GoesOn
  named_leads above text rest w number e named =
      let cut = name_cut text w rest e in
      record {
        chunk = wording w;
        is = cut.is;
        into = λ next keys. ((w, next), number, name_again text w rest next e (goes_ends keys.0 number (key_nodes s.tables number) next keys.1), named, keys);
        back = λ next f holds. same next holds.0 holds.1 (sym (name_again text w rest next e (same_stops is_in_identifier next rest f cut.ends)) ∙ holds.2) holds.3 holds.4;
      }
    where
      same : (next : List ℕ) (found : WrittenName × List ℕ) (other : ℕ) → ◌≡◌ {A = Option (WrittenName × List ℕ)} (Some (w, next)) (Some found) → child_named s above found.0 ≡ Some other → Keys s other (key_nodes s.tables other) found.1 → Keys s number (key_nodes s.tables number) next
      same next found other f other_named holds =
          let both : ◌≡◌ {A = WrittenName × List ℕ} (w, next) found = cc in
          let one : Some number ≡ Some other = sym named ∙ ap (λ (x : WrittenName × List ℕ). child_named s above x.0) both ∙ other_named in
          let numbers : other ≡ number = cc in
          let rests : found.1 ≡ next = ap (λ (x : WrittenName × List ℕ). x.1) (sym both) in
          subst (λ (x : List ℕ). Keys s number (key_nodes s.tables number) x) rests (subst (λ (n : ℕ). Keys s n (key_nodes s.tables n) found.1) numbers holds)

  pub key_leads : (number : ℕ) (left text inside : List ℕ) → sign opening_bracket text ≡ Some inside → Leads (Keys s number left) (KeyNames s number left) text inside
  key_leads number left text inside e = record {
    chunk = opening_bracket ∷ [];
    is = sign_is opening_bracket text inside e;
    into = λ next named. keys_of number left next named;
    back = λ next f keys. by next (of_keys number left (opening_bracket ∷ next) keys);
  }
    where
      by : (next : List ℕ) → OfKeys number left (opening_bracket ∷ next) → KeyNames s number left next
      by next (inl (no_bracket, given, steps)) = absurd (let clash : true ≡ false = no_bracket in cc)
      by next (inr (other, is, named)) = let tail : other ≡ next = cc in subst (KeyNames s number left) tail named

  pub over_leads : (number : ℕ) (left text : List ℕ) → begins_with opening_bracket text ≡ false → (s.all ≡ true → left ≡ []) → Leads (Keys s number left) (Steps s (Some number)) text text
  over_leads number left text none given = record {
    chunk = [];
    is = refl;
    into = λ next steps. keys_over number left next given steps;
    back = λ next f keys. by next f (of_keys number left next keys);
  }
    where
      clash : (next : List ℕ) → first_sign next ≡ first_sign text → begins_with opening_bracket next ≡ false
      clash next f = begin next text f none
        where
          begin : (x y : List ℕ) → first_sign x ≡ first_sign y → begins_with opening_bracket y ≡ false → begins_with opening_bracket x ≡ false
          begin [] y e g = refl
          begin (c ∷ x) [] e g = cc
          begin (c ∷ x) (d ∷ y) e g = let same : c ≡ d = cc in ap (λ n. eqb n opening_bracket) same ∙ g

      by : (next : List ℕ) → first_sign next ≡ first_sign text → OfKeys number left next → Steps s (Some number) next
      by next f (inl (no_bracket, all_given, steps)) = steps
      by next f (inr (inside, is, named)) = absurd (let no : true ≡ false = ap (begins_with opening_bracket) (sym is) ∙ clash next f in cc)

  -- ---- a path can be ended
  not_all : (left : List ℕ) → s.all ≡ false → s.all ≡ true → left ≡ []
  not_all left e f = absurd (let clash : false ≡ true = sym e ∙ f in cc)

  pub all_back : (p : ℕ → Bool) (key : ℕ) (xs : List ℕ) → p key ≡ true → list_all p (without key xs) ≡ true → list_all p xs ≡ true
  all_back p key [] here rest = refl
  all_back p key (x ∷ xs) here rest = by (eqb x key) refl rest (all_back p key xs here)
    where
      by : (t : Bool) → eqb x key ≡ t → list_all p (cond (not t) (x ∷ without key xs) (without key xs)) ≡ true → (list_all p (without key xs) ≡ true → list_all p xs ≡ true) → list_all p (x ∷ xs) ≡ true
      by true same e further = both_true (p x) (list_all p xs) (ap p ((Decides-eqb x key).0 same) ∙ here) (further e)
      by false same e further = both_true (p x) (list_all p xs) (first_true (p x) (list_all p (without key xs)) e) (further (second_true (p x) (list_all p (without key xs)) e))

  pub all_without : (p : ℕ → Bool) (key : ℕ) (xs : List ℕ) → list_all p xs ≡ true → list_all p (without key xs) ≡ true
  all_without p key [] e = refl
  all_without p key (x ∷ xs) e = by (eqb x key) (first_true (p x) (list_all p xs) e) (all_without p key xs (second_true (p x) (list_all p xs) e))
    where
      by : (t : Bool) → p x ≡ true → list_all p (without key xs) ≡ true → list_all p (cond (not t) (x ∷ without key xs) (without key xs)) ≡ true
      by true here rest = rest
      by false here rest = both_true (p x) (list_all p (without key xs)) here rest

  fewer : (key : ℕ) (xs : List ℕ) → length (without key xs) ≤ length xs
  fewer key [] = omega arith
  fewer key (x ∷ xs) = by (eqb x key) (fewer key xs)
    where
      by : (t : Bool) → length (without key xs) ≤ length xs → length (cond (not t) (x ∷ without key xs) (without key xs)) ≤ length (x ∷ xs)
      by true h = omega (arith, h)
      by false h = omega (arith, h)

  fewer_there : (key : ℕ) (xs : List ℕ) → In key xs → length (without key xs) < length xs
  fewer_there key [] at = absurd at
  fewer_there key (x ∷ xs) (inl same) = rw ((Decides-eqb x key).1 same) (let h = fewer key xs in omega (arith, h))
  fewer_there key (x ∷ xs) (inr at) = by (eqb x key) (fewer_there key xs at)
    where
      by : (t : Bool) → length (without key xs) < length xs → length (cond (not t) (x ∷ without key xs) (without key xs)) < length (x ∷ xs)
      by true h = omega (arith, h)
      by false h = omega (arith, h)

  given_all : (number : ℕ) (left : List ℕ) (t : Bool) → s.all ≡ t → can_be_given s number left ≡ true → (s.all ≡ false) ⊎ (list_all (is_giveable s number) left ≡ true)
  given_all number left true e can = inr (let it : list_all (is_giveable s number) left ≡ true = ap (λ b. not b || list_all (is_giveable s number) left) (sym e) ∙ can in it)
  given_all number left false e can = inl e

  all_given : (number : ℕ) (left : List ℕ) → (s.all ≡ false) ⊎ (list_all (is_giveable s number) left ≡ true) → can_be_given s number left ≡ true
  all_given number left (inl e) = rw e refl
  all_given number left (inr e) = by s.all
    where
      by : (t : Bool) → (not t || list_all (is_giveable s number) left) ≡ true
      by true = e
      by false = refl

  pub without_given : (number key : ℕ) (left : List ℕ) → can_be_given s number left ≡ true → can_be_given s number (without key left) ≡ true
  without_given number key left can = all_given number (without key left) (by (given_all number left s.all refl can))
    where
      by : (s.all ≡ false) ⊎ (list_all (is_giveable s number) left ≡ true) → (s.all ≡ false) ⊎ (list_all (is_giveable s number) (without key left) ≡ true)
      by (inl e) = inl e
      by (inr e) = inr (all_without (is_giveable s number) key left e)

  live_all : (number m : ℕ) (left : List ℕ) → length left ≤ m → list_all (is_giveable s number) left ≡ true → (tail : List ℕ) × Keys s number left tail
  live_all number m [] within can = ([], keys_over number [] [] (λ e. refl) (steps_end (Some number)))
  live_all number zero (k ∷ ks) within can = absurd (omega (arith, within))
  live_all number (suc m) (k ∷ ks) within can =
      let (key, other, proper, named, place) = given s number (k ∷ ks) (λ n. Keys s number (without n (k ∷ ks))) k (inl refl) (first_true (is_giveable s number k) (list_all (is_giveable s number) ks) can) in
      let less = fewer_there other (k ∷ ks) place in
      let (tail, holds) = live_all number m (without other (k ∷ ks)) (omega (arith, less, within)) (all_without (is_giveable s number) other (k ∷ ks) can) in
      let made = keyed_made s number (k ∷ ks) (λ n. Keys s number (without n (k ∷ ks))) [] key other tail proper named holds in
      let inside : List ℕ = (leading is_white [] ++ key_wording key) ++ equals ∷ closes tail in
      (opening_bracket ∷ inside, keys_of number (k ∷ ks) inside made)

  pub keys_live : (number : ℕ) (left : List ℕ) → can_be_given s number left ≡ true → (tail : List ℕ) × Keys s number left tail
  keys_live number left can = by (given_all number left s.all refl can)
    where
      by : (s.all ≡ false) ⊎ (list_all (is_giveable s number) left ≡ true) → (tail : List ℕ) × Keys s number left tail
      by (inl e) = ([], keys_over number left [] (not_all left e) (steps_end (Some number)))
      by (inr e) = live_all number (length left) left (omega arith) e

  -- ---- and only so
  pub of_key_giveable : (number key : ℕ) (k : Option WrittenName) → IsProperKey k → is_of_key s.tables s.bounds number key k ≡ true → is_giveable s number key ≡ true
  of_key_giveable number key None proper e = rw e refl
  of_key_giveable number key (Some w) proper e = by (eqb key number) refl
    where
      by : (t : Bool) → eqb key number ≡ t → (t || is_nameable s key) ≡ true
      by true same = refl
      by false same = named_is_nameable s key w proper.0 proper.1 (second_true (not (eqb key number)) (is_named s key w) e)

  needs_all : s.all ≡ true → (m number : ℕ) (left text : List ℕ) → Goes s m (AtKeys number left) text → list_all (is_giveable s number) left ≡ true
  unfolding Goes
  needs_all all zero number left text goes = absurd goes
  needs_all all (suc m) number left text (inl end) = ap (list_all (is_giveable s number)) (end.1 all)
  needs_all all (suc m) number left text (inr (inside, e, (found, key, reads, named, a))) =
      let cut = key_cut (after_white inside) found.0 found.1 reads in
      let of = find_passes (λ other. is_of_key s.tables s.bounds number other found.0) left key named in
      let rest = needs_all all m number (without key left) a.2.2.0 a.2.2.2 in
      all_back (is_giveable s number) key left (of_key_giveable number key found.0 cut.proper of.0) rest

  pub keys_need : (number : ℕ) (left text : List ℕ) → Keys s number left text → can_be_given s number left ≡ true
  unfolding GoesOn
  keys_need number left text keys = by s.all refl
    where
      by : (t : Bool) → s.all ≡ t → can_be_given s number left ≡ true
      by true e = all_given number left (inr (needs_all e keys.0 number left text keys.1))
      by false e = all_given number left (inl e)

  pub key_names_need : (number : ℕ) (left text : List ℕ) → KeyNames s number left text → list_any (is_giveable s number) left ≡ true
  key_names_need number left text (found, key, reads, named, a) =
      let cut = key_cut (after_white text) found.0 found.1 reads in
      let of = find_passes (λ other. is_of_key s.tables s.bounds number other found.0) left key named in
      in_any (is_giveable s number) left key of.1 (of_key_giveable number key found.0 cut.proper of.0)

  -- ---- where they stop at once
  pub steps_here : (above : Option ℕ) (text : List ℕ) → ((next : List ℕ) → begins_with slash text ≡ true → StepNames s above next → ⊥) → Halts (Steps s above) text (length text)
  steps_here above text none = halts_here (Steps s above) text [] (steps_end above) (λ c cs next e steps. by c cs next e (of_step above c next steps))
    where
      by : (c : ℕ) (cs next : List ℕ) → text ≡ c ∷ cs → (c ≡ slash) × StepNames s above next → ⊥
      by c cs next e (head, named) = none next (ap (begins_with slash) e ∙ (Decides-eqb c slash).1 head) named

  pub keys_here : (number : ℕ) (left text : List ℕ) → can_be_given s number left ≡ true → (begins_with opening_bracket text ≡ false → (s.all ≡ true → left ≡ []) → ⊥) → (begins_with opening_bracket text ≡ true → list_any (is_giveable s number) left ≡ false) → Halts (Keys s number left) text (length text)
  keys_here number left text can unfinished useless =
      let (tail, holds) = keys_live number left can in
      halts_here (Keys s number left) text tail holds (λ c cs next e keys. by c cs next e (of_keys number left (c ∷ next) keys))
    where
      by : (c : ℕ) (cs next : List ℕ) → text ≡ c ∷ cs → OfKeys number left (c ∷ next) → ⊥
      by c cs next e (inl (no_bracket, given, steps)) = unfinished (ap (begins_with opening_bracket) e ∙ no_bracket) given
      by c cs next e (inr (inside, is, named)) =
          let head : c ≡ opening_bracket = cc in
          let some = key_names_need number left inside named in
          let none = useless (ap (begins_with opening_bracket) e ∙ (Decides-eqb c opening_bracket).1 head) in
          let clash : true ≡ false = sym some ∙ none in
          absurd cc
