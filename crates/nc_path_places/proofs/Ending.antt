-- The place at which a path text stops to be the beginning of one.
use Rattle.std.proofs.Common.{◌≡◌, ◌≢◌, inl, inr, ℕ, ◌<◌, ◌+◌, ◌-◌, Bool, true, false, cond, eqb, List, [], ◌∷◌, ◌++◌, Option, Some, None, length, length-append, take, is_some, option_map, option_and_then, refl, sym, ap, subst, ◌∙◌, append_assoc, arith}
use Rattle.std.proofs.Math.Seq.{take-append_seam, take-append-add}
use Rattle.std.specs.Cmp.Lexicographic.{bytes_decides}
use Rattle.nc_names.specs.declared.name.Bound.{Bound}
use Rattle.nc_names.specs.Same.{is_same_text}
use Rattle.nc_names.specs.Signs.{slash}
use Rattle.nc_schema.specs.InstancePaths.{IsBegun, IsFaultAt, instance_path, instance_steps, leafref_end, node_pattern, pattern_steps}
use Rattle.nc_schema.specs.PathWords.{begins_with, written_steps, steps_within}
use Rattle.nc_schema.specs.Tables.{Tables}
use Rattle.nc_schema.specs.declared.pattern.Pattern.{Pattern}
use Rattle.nc_schema.specs.declared.written.WrittenStep.{WrittenStep}
use Rattle.nc_names.specs.declared.path.Path.{Path}
use Rattle.nc_path_places.specs.Apart.{HasKeysApart}
use Rattle.nc_path_places.specs.inner.Halting.{Halts}
use Rattle.nc_path_places.specs.inner.Going.{Reading, Steps}
use Rattle.nc_path_places.specs.inner.Candidates.{after_root}
use Rattle.nc_path_places.specs.inner.Leafrefs.{LeafrefPath}
use Rattle.std.proofs.lemmas.Bool.Decides.{Decides-eqb}
use Rattle.nc_path_places.proofs.Names.{bind_some}
use Rattle.nc_path_places.proofs.Readings.{steps_are_read, steps_read}

some_is : {A : Type 0} (o : Option A) → is_some o ≡ true → (x : A) × (o ≡ Some x)
some_is None e = cc
some_is (Some x) e = (x, refl)

is_there : {A : Type 0} (o : Option A) (x : A) → o ≡ Some x → is_some o ≡ true
is_there o x e = ap is_some e

not_empty : (front more : List ℕ) → 0 < length front → front ++ more ≢ []
not_empty [] more less e = omega (arith, less)
not_empty (c ∷ front) more less e = cc

-- ---- a text that passes is one that goes on so
module _ (passes : List ℕ → Bool) (L : List ℕ → Type 0) (text : List ℕ) (left : ℕ) (halts : Halts L text left)
    (of : (t : List ℕ) → t ≢ [] → L t → passes t ≡ true)
    (refused : passes text ≡ false) where
  front_long : length text - left ≡ length halts.front
  front_long =
      let whole = ap length halts.is ∙ length-append halts.front halts.rest in
      omega (arith, whole, halts.long)

  front_is : take (length text - left) text ≡ halts.front
  front_is = ap (λ k. take k text) front_long ∙ ap (take (length halts.front)) halts.is ∙ take-append_seam halts.front halts.rest

  begun : 0 < length text - left → IsBegun passes (take (length text - left) text)
  begun less =
      let long : 0 < length halts.front = omega (arith, less, front_long) in
      let whole : take (length text - left) text ++ halts.more ≡ halts.front ++ halts.more = ap (λ x. x ++ halts.more) front_is in
      (halts.more, ap passes whole ∙ of (halts.front ++ halts.more) (not_empty halts.front halts.more long) halts.before)

  next_is : (c : ℕ) (cs more : List ℕ) → halts.rest ≡ c ∷ cs → take (length text - left + 1) text ++ more ≡ halts.front ++ c ∷ more
  next_is c cs more e =
      let one : take (length text - left + 1) text ≡ halts.front ++ c ∷ [] =
      ap (λ k. take (k + 1) text) front_long ∙ ap (take (length halts.front + 1)) (halts.is ∙ ap (λ x. halts.front ++ x) e) ∙ take-append-add halts.front (c ∷ cs) 1 in
      ap (λ x. x ++ more) one ∙ append_assoc halts.front (c ∷ []) more

  pub ends_there : ((c : ℕ) (cs more : List ℕ) → halts.rest ≡ c ∷ cs → passes (halts.front ++ c ∷ more) ≡ true → L (halts.front ++ c ∷ more)) → IsFaultAt passes text (length text - left)
  ends_there back = record {
    refused = refused;
    within = omega arith;
    before = begun;
    there = λ less begins. by halts.rest refl less begins;
  }
    where
      by : (rest : List ℕ) → halts.rest ≡ rest → length text - left < length text → IsBegun passes (take (length text - left + 1) text) → ⊥
      by [] e less begins =
          let none : length halts.rest ≡ 0 = ap length e in
          omega (arith, less, none, halts.long)
      by (c ∷ cs) e less (more, holds) =
          let it : passes (halts.front ++ c ∷ more) ≡ true = ap passes (sym (next_is c cs more e)) ∙ holds in
          halts.there c cs more e (back c cs more e it)

-- ---- instance identifiers
abbrev pub instances : Tables → List Bound → Reading
instances tables bounds = record { tables = tables; bounds = bounds; all = true }

abbrev pub patterns : Tables → List Bound → Reading
patterns tables bounds = record { tables = tables; bounds = bounds; all = false }

whole_steps : (text : List ℕ) → text ≢ [] → written_steps text ≡ steps_within (length text) text
whole_steps [] some = absurd (some refl)
whole_steps (c ∷ cs) some = refl

written_within : (text : List ℕ) (ws : List WrittenStep) → written_steps text ≡ Some ws → steps_within (length text) text ≡ Some ws
written_within [] ws e = cc
written_within (c ∷ cs) ws e = e

module _ (tables : Tables) (bounds : List Bound) (apart : HasKeysApart tables) where
  abbrev passes_instance : List ℕ → Bool
  passes_instance text = is_some (instance_path tables text bounds)

  instance_of : (text : List ℕ) → text ≢ [] → Steps (instances tables bounds) None text → is_some (instance_path tables text bounds) ≡ true
  unfolding instance_path
  instance_of text some steps =
      let read = steps_are_read (instances tables bounds) apart None text steps in
      let (found, found_is) = some_is (instance_steps read.pattern) (read.some refl) in
      rw (whole_steps text some, read.reads (length text) (omega arith), read.resolves, found_is) refl

  of_instance : (text : List ℕ) → is_some (instance_path tables text bounds) ≡ true → Steps (instances tables bounds) None text
  unfolding instance_path
  of_instance text e =
      let (path, e0) = some_is (instance_path tables text bounds) e in
      let (ws, ws_is, e1) = bind_some (written_steps text) (λ written. option_and_then (λ pattern. option_and_then (λ steps. let it : Option Path = Some (record { steps = steps }) in it) (instance_steps pattern)) (pattern_steps tables bounds None written)) path e0 in
      let (ps, ps_is, e2) = bind_some (pattern_steps tables bounds None ws) (λ pattern. option_and_then (λ steps. let it : Option Path = Some (record { steps = steps }) in it) (instance_steps pattern)) path e1 in
      let (steps, steps_is, e3) = bind_some (instance_steps ps) (λ steps. let it : Option Path = Some (record { steps = steps }) in it) path e2 in
      steps_read (instances tables bounds) apart (length text) None text ws ps (written_within text ws ws_is) ps_is (λ a. is_there (instance_steps ps) steps steps_is)

  pub instance_fault : (text : List ℕ) (left : ℕ) → Halts (Steps (instances tables bounds) None) text left → instance_path tables text bounds ≡ None → IsFaultAt (λ t. is_some (instance_path tables t bounds)) text (length text - left)
  instance_fault text left halts none =
      ends_there passes_instance (Steps (instances tables bounds) None) text left halts instance_of (ap is_some none) (λ c cs more e holds. of_instance (halts.front ++ c ∷ more) holds)

  -- ---- node-instance identifiers
  root : List ℕ
  root = slash ∷ []

  abbrev passes_pattern : List ℕ → Bool
  passes_pattern text = is_some (node_pattern tables text bounds)

  abbrev below_root : List ℕ → Option Pattern
  below_root text = option_map (λ steps. let it : Pattern = record { steps = steps } in it) (option_and_then (pattern_steps tables bounds None) (written_steps text))

  pattern_cases : (text : List ℕ) → node_pattern tables text bounds ≡ cond (is_same_text text (slash ∷ [])) (Some (record { steps = [] })) (below_root text)
  unfolding node_pattern
  pattern_cases text = refl

  some_map : {A B : Type 0} (f : A → B) (o : Option A) → is_some (option_map f o) ≡ is_some o
  some_map f None = refl
  some_map f (Some x) = refl

  pattern_of : (text : List ℕ) → text ≢ [] → Steps (patterns tables bounds) None text → passes_pattern text ≡ true
  pattern_of text some steps =
      let read = steps_are_read (patterns tables bounds) apart None text steps in
      let steps_are : option_and_then (pattern_steps tables bounds None) (written_steps text) ≡ Some read.pattern =
      ap (λ o. option_and_then (pattern_steps tables bounds None) o) (whole_steps text some ∙ read.reads (length text) (omega arith)) ∙ read.resolves in
      let below : is_some (below_root text) ≡ true = some_map (λ steps. let it : Pattern = record { steps = steps } in it) (option_and_then (pattern_steps tables bounds None) (written_steps text)) ∙ ap is_some steps_are in
      ap is_some (pattern_cases text) ∙ by (is_same_text text (slash ∷ [])) below
    where
      by : (t : Bool) → is_some (below_root text) ≡ true → is_some (cond {A = Option Pattern} t (Some (record { steps = [] })) (below_root text)) ≡ true
      by true e = refl
      by false e = e

  of_pattern : (text : List ℕ) → text ≢ slash ∷ [] → passes_pattern text ≡ true → Steps (patterns tables bounds) None text
  of_pattern text other e =
      let below : is_some (below_root text) ≡ true = by (is_same_text text (slash ∷ [])) refl (ap is_some (sym (pattern_cases text)) ∙ e) in
      let (ps, both) = some_is (option_and_then (pattern_steps tables bounds None) (written_steps text)) (sym (some_map (λ steps. let it : Pattern = record { steps = steps } in it) (option_and_then (pattern_steps tables bounds None) (written_steps text))) ∙ below) in
      let (ws, ws_is, ps_is) = bind_some (written_steps text) (pattern_steps tables bounds None) ps both in
      steps_read (patterns tables bounds) apart (length text) None text ws ps (written_within text ws ws_is) ps_is (λ a. absurd (let clash : false ≡ true = a in cc))
    where
      by : (t : Bool) → is_same_text text (slash ∷ []) ≡ t → is_some (cond {A = Option Pattern} t (Some (record { steps = [] })) (below_root text)) ≡ true → is_some (below_root text) ≡ true
      by true same f = absurd (other ((bytes_decides text (slash ∷ [])).0 same))
      by false same f = f

  root_passes : passes_pattern (slash ∷ []) ≡ true
  unfolding node_pattern
  root_passes = refl

  abbrev PatternFault : List ℕ → ℕ → Type 0
  PatternFault text at = IsFaultAt (λ t. is_some (node_pattern tables t bounds)) text at

  at_root : (cs : List ℕ) (left : ℕ) → (halts : Halts (Steps (patterns tables bounds) None) (slash ∷ cs) left) → length (slash ∷ cs) - left ≡ 0 → node_pattern tables (slash ∷ cs) bounds ≡ None → PatternFault (slash ∷ cs) 1
  at_root cs left halts zero_at none = record {
    refused = ap is_some none;
    within = omega arith;
    before = λ less. ([], root_passes);
    there = λ less begins. by cs refl begins;
  }
    where
      front_none : halts.front ≡ []
      front_none = empty halts.front (sym (front_long passes_pattern (Steps (patterns tables bounds) None) (slash ∷ cs) left halts pattern_of (ap is_some none)) ∙ zero_at)
        where
          empty : (xs : List ℕ) → length xs ≡ 0 → xs ≡ []
          empty [] e = refl
          empty (x ∷ xs) e = absurd (omega (arith, e))

      rest_is : halts.rest ≡ slash ∷ cs
      rest_is = sym (halts.is ∙ ap (λ x. x ++ halts.rest) front_none)

      by : (ds : List ℕ) → cs ≡ ds → IsBegun passes_pattern (take (1 + 1) (slash ∷ cs)) → ⊥
      by [] e (more, holds) = absurd (let short : is_some (node_pattern tables (slash ∷ []) bounds) ≡ false = ap (λ x. is_some (node_pattern tables (slash ∷ x) bounds)) (sym e) ∙ ap is_some none in let clash : true ≡ false = sym root_passes ∙ short in cc)
      by (d ∷ ds) e (more, holds) =
          let it : passes_pattern (slash ∷ d ∷ more) ≡ true = ap (λ x. passes_pattern (take 2 (slash ∷ x) ++ more)) (sym e) ∙ holds in
          let steps = of_pattern (slash ∷ d ∷ more) (λ f. cc) it in
          halts.there slash cs (d ∷ more) rest_is (subst (λ (x : List ℕ). Steps (patterns tables bounds) None (x ++ slash ∷ d ∷ more)) (sym front_none) steps)

  pub pattern_fault : (text : List ℕ) (left : ℕ) → Halts (Steps (patterns tables bounds) None) text left → node_pattern tables text bounds ≡ None → PatternFault text (after_root text (length text - left))
  pattern_fault text left halts none = by (eqb (length text - left) 0) refl
    where
      long : length text - left ≡ length halts.front
      long = front_long passes_pattern (Steps (patterns tables bounds) None) text left halts pattern_of (ap is_some none)

      begins : (front : List ℕ) (c : ℕ) (cs more : List ℕ) → text ≡ front ++ c ∷ cs → front ++ c ∷ more ≡ slash ∷ [] → (length front ≡ 0) × (begins_with slash text ≡ true)
      begins [] c cs more e f = let head : c ≡ slash = cc in (refl, ap (begins_with slash) e ∙ ap (λ n. eqb n slash) head)
      begins (d ∷ []) c cs more e f = cc
      begins (d ∷ b ∷ front) c cs more e f = cc

      plain : ((length halts.front ≡ 0) × (begins_with slash text ≡ true) → ⊥) → PatternFault text (length text - left)
      plain never =
          ends_there passes_pattern (Steps (patterns tables bounds) None) text left halts pattern_of (ap is_some none)
          (λ c cs more e holds. of_pattern (halts.front ++ c ∷ more) (λ f. never (begins halts.front c cs more (halts.is ∙ ap (λ x. halts.front ++ x) e) f)) holds)

      slashed : (t : Bool) → begins_with slash text ≡ t → length text - left ≡ 0 → PatternFault text (cond t 1 (length text - left))
      slashed true e none_before = begun_by text refl e
        where
          begun_by : (xs : List ℕ) → text ≡ xs → begins_with slash xs ≡ true → PatternFault text 1
          begun_by [] same f = cc
          begun_by (c ∷ cs) same f =
              let head : c ≡ slash = (Decides-eqb c slash).0 f in
              let whole : text ≡ slash ∷ cs = same ∙ ap (λ x. x ∷ cs) head in
              let moved : Halts (Steps (patterns tables bounds) None) (slash ∷ cs) left = subst (λ (x : List ℕ). Halts (Steps (patterns tables bounds) None) x left) whole halts in
              subst (λ (x : List ℕ). PatternFault x 1) (sym whole)
              (at_root cs left moved (ap (λ (x : List ℕ). length x - left) (sym whole) ∙ none_before) (ap (λ (x : List ℕ). node_pattern tables x bounds) (sym whole) ∙ none))
      slashed false e none_before = plain (λ both. (let clash : true ≡ false = sym both.1 ∙ e in cc))

      by : (t : Bool) → eqb (length text - left) 0 ≡ t → PatternFault text (cond t (cond (begins_with slash text) 1 (length text - left)) (length text - left))
      by true e = slashed (begins_with slash text) refl ((Decides-eqb (length text - left) 0).0 e)
      by false e = plain (λ both. (let yes : eqb (length text - left) 0 ≡ true = (Decides-eqb (length text - left) 0).1 (long ∙ both.0) in let clash : true ≡ false = sym yes ∙ e in cc))

-- ---- the paths of leafrefs
pub leafref_fault : (tables : Tables) (bounds : List Bound) (leaf : ℕ) (text : List ℕ) (left : ℕ) → Halts (LeafrefPath (patterns tables bounds) leaf) text left → leafref_end tables leaf text bounds ≡ None → IsFaultAt (λ t. is_some (leafref_end tables leaf t bounds)) text (length text - left)
leafref_fault tables bounds leaf text left halts none =
    ends_there (λ t. is_some (leafref_end tables leaf t bounds)) (LeafrefPath (patterns tables bounds) leaf) text left halts of (ap is_some none) (λ c cs more e holds. inr holds)
  where
    of : (t : List ℕ) → t ≢ [] → LeafrefPath (patterns tables bounds) leaf t → is_some (leafref_end tables leaf t bounds) ≡ true
    of t some (inl none) = absurd (some none)
    of t some (inr passes) = passes
