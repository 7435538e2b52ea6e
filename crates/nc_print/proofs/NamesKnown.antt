-- The module names in a text are bound by the bindings that are printed with it.
use Rattle.std.proofs.Common.{◌≡◌, ◌≢◌, ◌⊎◌, ◌&&◌, ◌||◌, ◌+◌, not, cond, take, ℕ, zero, suc, Bool, true, false, List, [], ◌∷◌, ◌++◌, map, Option, Some, None, refl, sym, ap, subst, ◌∙◌, inl, inr, arith, append_assoc}
use Rattle.std.proofs.lemmas.List.{append-nil}
use Rattle.std.specs.Cmp.Lexicographic.{bytes_decides}
use Rattle.std.specs.List.{All, Contains, before_first, find, list_all, list_any, onto_first, position_or_len, slice_split}
use Rattle.std.specs.Prelude.{fold}
use Rattle.std.proofs.lemmas.Bool.Decides.{nat_tests}
use Rattle.nc_names.specs.declared.name.Bound.{Bound}
use Rattle.nc_names.specs.declared.name.Module.{Module}
use Rattle.nc_names.specs.Bindings.{space_of}
use Rattle.nc_names.specs.Identifiers.{is_identifier}
use Rattle.nc_names.specs.Same.{is_same_text}
use Rattle.nc_names.specs.Signs.{colon, is_in_identifier}
use Rattle.nc_schema.specs.Bindings.{module_bounds}
use Rattle.nc_schema.specs.Proper.{IsProperModule, IsProperSchema}
use Rattle.nc_schema.specs.Tables.{Tables}
use Rattle.nc_schema.proofs.TextLemmas.{all_in_identifier}
use Rattle.nc_protocol.proofs.BoolLemmas.{is_false}
use Rattle.nc_protocol.proofs.ListLemmas.{contains_behind}
use Rattle.nc_protocol.specs.ModuleNames.{is_apart, is_bound, is_colon, with_module, with_name, with_names, with_piece}
use Rattle.nc_print.proofs.TrimAgain.{left_true, right_true}

-- ---- where a name may stand
-- nothing, or what ends in a sign between names
abbrev pub EndsApart : List ℕ → Type 0
EndsApart before = (before ≡ []) ⊎ ((front : List ℕ) × (sign : ℕ) × (before ≡ front ++ sign ∷ []) × (is_apart sign ≡ true))

abbrev pub IsPrefix : List ℕ → Type 0
IsPrefix prefix = list_all is_in_identifier prefix ≡ true

-- the prefixes in the text stand for the same by these bindings as by the names of all modules
pub record Knows (tables : Tables) (bounds : List Bound) (text : List ℕ) : Type 0 where
  pub known : (before prefix after : List ℕ) → text ≡ before ++ (prefix ++ colon ∷ after) → EndsApart before → IsPrefix prefix → space_of prefix bounds ≡ space_of prefix (module_bounds tables)
  pub default : space_of [] bounds ≡ None
  pub other : (prefix : List ℕ) → list_all is_in_identifier prefix ≡ false → space_of prefix bounds ≡ None

pub ends_behind : (before : List ℕ) (sign : ℕ) → is_apart sign ≡ true → EndsApart (before ++ sign ∷ [])
ends_behind before sign apart = inr (before, sign, refl, apart)

pub ends_more : (before more : List ℕ) → EndsApart before → EndsApart more → EndsApart (before ++ more)
ends_more before more ends (inl none) = subst EndsApart (sym (ap (λ ms. before ++ ms) none ∙ append-nil before)) ends
ends_more before more ends (inr (front, sign, is, apart)) = inr (before ++ front, sign, ap (λ ms. before ++ ms) is ∙ sym (append_assoc before front (sign ∷ [])), apart)

-- so it is in a part of the text that begins there
pub knows_part : (tables : Tables) (bounds : List Bound) (text before part after : List ℕ) → Knows tables bounds text → text ≡ before ++ (part ++ after) → EndsApart before → Knows tables bounds part
knows_part tables bounds text before part after knows text_is ends = record {
  known = λ first prefix rest part_is first_ends is_prefix.
      knows.known (before ++ first) prefix (rest ++ after)
      (text_is ∙ ap (λ p. before ++ (p ++ after)) part_is
      ∙ ap (λ more. before ++ more) (append_assoc first (prefix ++ colon ∷ rest) after ∙ ap (λ more. first ++ more) (append_assoc prefix (colon ∷ rest) after))
      ∙ sym (append_assoc before first (prefix ++ colon ∷ (rest ++ after))))
      (ends_more before first ends first_ends) is_prefix;
  default = knows.default;
  other = knows.other;
}

-- ---- bindings, one after another
pub same_found : (name other : List ℕ) → is_same_text name other ≡ true → name ≡ other
same_found name other e = (bytes_decides name other).0 e

-- each binding is that of a module's name
abbrev AreNames : Tables → List Bound → Type 0
AreNames tables bounds = (prefix : List ℕ) → (space_of prefix bounds ≡ None) ⊎ (space_of prefix bounds ≡ space_of prefix (module_bounds tables))

abbrev Covers : Tables → List Bound → List ℕ → Type 0
Covers tables bounds prefix = space_of prefix bounds ≡ space_of prefix (module_bounds tables)

-- one binding more
space_behind : (prefix : List ℕ) (bounds : List Bound) (one : Bound) → space_of prefix bounds ≡ None → space_of prefix (bounds ++ one ∷ []) ≡ space_of prefix (one ∷ [])
space_behind prefix [] one none = refl
space_behind prefix (b ∷ bounds) one none = by (is_same_text prefix b.prefix) none (space_behind prefix bounds one)
  where
    by : (t : Bool) → cond t (Some b.space) (space_of prefix bounds) ≡ None → (space_of prefix bounds ≡ None → space_of prefix (bounds ++ one ∷ []) ≡ space_of prefix (one ∷ [])) →
        cond t (Some b.space) (space_of prefix (bounds ++ one ∷ [])) ≡ space_of prefix (one ∷ [])
    by true e rest = absurd (let some : Some b.space ≡ None = e in cc)
    by false e rest = rest e

space_kept : (prefix space : List ℕ) (bounds : List Bound) (one : Bound) → space_of prefix bounds ≡ Some space → space_of prefix (bounds ++ one ∷ []) ≡ Some space
space_kept prefix space [] one some = absurd (let none : None ≡ Some space = some in cc)
space_kept prefix space (b ∷ bounds) one some = by (is_same_text prefix b.prefix) some (space_kept prefix space bounds one)
  where
    by : (t : Bool) → cond t (Some b.space) (space_of prefix bounds) ≡ Some space → (space_of prefix bounds ≡ Some space → space_of prefix (bounds ++ one ∷ []) ≡ Some space) →
        cond t (Some b.space) (space_of prefix (bounds ++ one ∷ [])) ≡ Some space
    by true e rest = e
    by false e rest = rest e

bound_is : (prefix : List ℕ) (bounds : List Bound) → is_bound bounds prefix ≡ false → space_of prefix bounds ≡ None
bound_is prefix [] e = refl
bound_is prefix (b ∷ bounds) e = by (is_same_text b.prefix prefix) refl e (bound_is prefix bounds)
  where
    by : (t : Bool) → is_same_text b.prefix prefix ≡ t → (t || is_bound bounds prefix) ≡ false → (is_bound bounds prefix ≡ false → space_of prefix bounds ≡ None) → space_of prefix (b ∷ bounds) ≡ None
    by true is f rest = absurd (let clash : true ≡ false = f in cc)
    by false is f rest = ap (λ t. cond t (Some b.space) (space_of prefix bounds)) (is_false (is_same_text prefix b.prefix) (λ same.
        (let back : is_same_text b.prefix prefix ≡ true = (bytes_decides b.prefix prefix).1 (sym (same_found prefix b.prefix same)) in
        let clash : true ≡ false = sym back ∙ is in cc))) ∙ rest f

bound_some : (prefix : List ℕ) (bounds : List Bound) → is_bound bounds prefix ≡ true → space_of prefix bounds ≢ None
bound_some prefix [] e = λ none. (let clash : false ≡ true = e in cc)
bound_some prefix (b ∷ bounds) e = by (is_same_text b.prefix prefix) refl e (bound_some prefix bounds)
  where
    by : (t : Bool) → is_same_text b.prefix prefix ≡ t → (t || is_bound bounds prefix) ≡ true → (is_bound bounds prefix ≡ true → space_of prefix bounds ≢ None) → space_of prefix (b ∷ bounds) ≢ None
    by true is f rest none =
        let same : is_same_text prefix b.prefix ≡ true = (bytes_decides prefix b.prefix).1 (sym (same_found b.prefix prefix is)) in
        let some : Some b.space ≡ None = sym (ap (λ t. cond t (Some b.space) (space_of prefix bounds)) same) ∙ none in
        cc
    by false is f rest none = go (is_same_text prefix b.prefix) refl none
      where
        go : (t : Bool) → is_same_text prefix b.prefix ≡ t → cond t (Some b.space) (space_of prefix bounds) ≡ None → ⊥
        go true same g = let some : Some b.space ≡ None = g in cc
        go false same g = rest f g

-- the first module of a name gives its space
abbrev pub bounds_of : List Module → List Bound
bounds_of modules = map (λ (found : Module). record { prefix = found.name; space = found.space }) modules

abbrev find_module : List ℕ → List Module → Option Module
find_module name modules = find (λ (found : Module). is_same_text found.name name) modules

pub found_gives : (name : List ℕ) (modules : List Module) (found : Module) → find_module name modules ≡ Some found → (found.name ≡ name) × (space_of name (bounds_of modules) ≡ Some found.space)
found_gives name [] found e = absurd (let none : None ≡ Some found = e in cc)
found_gives name (m ∷ modules) found e = by (is_same_text m.name name) refl e (found_gives name modules found)
  where
    by : (t : Bool) → is_same_text m.name name ≡ t → cond t (Some m) (find_module name modules) ≡ Some found →
        (find_module name modules ≡ Some found → (found.name ≡ name) × (space_of name (bounds_of modules) ≡ Some found.space)) →
        (found.name ≡ name) × (space_of name (bounds_of (m ∷ modules)) ≡ Some found.space)
    by true is f rest =
        let same : m ≡ found = cc in
        let named : m.name ≡ name = same_found m.name name is in (
          ap (λ (x : Module). x.name) (sym same) ∙ named,
          ap (λ t. cond t (Some m.space) (space_of name (bounds_of modules))) ((bytes_decides name m.name).1 (sym named)) ∙ ap (λ (x : Module). Some x.space) same,
        )
    by false is f rest =
        let inner = rest f in (
          inner.0,
          ap (λ t. cond t (Some m.space) (space_of name (bounds_of modules))) (is_false (is_same_text name m.name) (λ same.
              (let back : is_same_text m.name name ≡ true = (bytes_decides m.name name).1 (sym (same_found name m.name same)) in
              let clash : true ≡ false = sym back ∙ is in cc))) ∙ inner.1,
        )

none_gives : (name : List ℕ) (modules : List Module) → find_module name modules ≡ None → space_of name (bounds_of modules) ≡ None
none_gives name [] e = refl
none_gives name (m ∷ modules) e = by (is_same_text m.name name) refl e (none_gives name modules)
  where
    by : (t : Bool) → is_same_text m.name name ≡ t → cond t (Some m) (find_module name modules) ≡ None → (find_module name modules ≡ None → space_of name (bounds_of modules) ≡ None) →
        space_of name (bounds_of (m ∷ modules)) ≡ None
    by true is f rest = absurd (let some : Some m ≡ None = f in cc)
    by false is f rest =
        ap (λ t. cond t (Some m.space) (space_of name (bounds_of modules))) (is_false (is_same_text name m.name) (λ same.
        (let back : is_same_text m.name name ≡ true = (bytes_decides m.name name).1 (sym (same_found name m.name same)) in
        let clash : true ≡ false = sym back ∙ is in cc))) ∙ rest f

module _ (tables : Tables) where
  -- what is bound with one name more
  pub record IsWith (bounds after : List Bound) (name : List ℕ) : Type 0 where
    pub names : AreNames tables after
    pub here : Covers tables after name
    pub kept : (prefix : List ℕ) → Covers tables bounds prefix → Covers tables after prefix

  with_is : (bounds : List Bound) (name : List ℕ) → AreNames tables bounds → IsWith bounds (with_name tables bounds name) name
  with_is bounds name names = by (is_bound bounds name) refl
    where
      one : Module → Bound
      one found = record { prefix = found.name; space = found.space }

      found_there : is_bound bounds name ≡ false → (o : Option Module) → find_module name tables.modules ≡ o → IsWith bounds (with_module bounds o) name
      found_there free None is = record { names = names; here = bound_is name bounds free ∙ sym (none_gives name tables.modules is); kept = λ prefix covers. covers }
      found_there free (Some found) is = record { names = each; here = own; kept = kept }
        where
          gives : (found.name ≡ name) × (space_of name (module_bounds tables) ≡ Some found.space)
          gives = found_gives name tables.modules found is

          free_found : space_of found.name bounds ≡ None
          free_found = ap (λ n. space_of n bounds) gives.0 ∙ bound_is name bounds free

          mine : (prefix : List ℕ) → is_same_text prefix found.name ≡ true → space_of prefix (bounds ++ record { prefix = found.name; space = found.space } ∷ []) ≡ space_of prefix (module_bounds tables)
          mine prefix same =
              let is_found : prefix ≡ found.name = same_found prefix found.name same in
              space_behind prefix bounds (record { prefix = found.name; space = found.space }) (ap (λ n. space_of n bounds) is_found ∙ free_found)
              ∙ ap (λ t. cond t (Some found.space) None) same ∙ sym (ap (λ n. space_of n (module_bounds tables)) (is_found ∙ gives.0) ∙ gives.1)

          own : Covers tables (bounds ++ record { prefix = found.name; space = found.space } ∷ []) name
          own = mine name ((bytes_decides name found.name).1 (sym gives.0))

          kept : (prefix : List ℕ) → Covers tables bounds prefix → Covers tables (bounds ++ record { prefix = found.name; space = found.space } ∷ []) prefix
          kept prefix covers = go (space_of prefix bounds) refl
            where
              go : (o : Option (List ℕ)) → space_of prefix bounds ≡ o → Covers tables (bounds ++ record { prefix = found.name; space = found.space } ∷ []) prefix
              go (Some space) is_some = space_kept prefix space bounds (record { prefix = found.name; space = found.space }) is_some ∙ sym is_some ∙ covers
              go None is_none = at (is_same_text prefix found.name) refl
                where
                  at : (t : Bool) → is_same_text prefix found.name ≡ t → Covers tables (bounds ++ record { prefix = found.name; space = found.space } ∷ []) prefix
                  at true same = mine prefix same
                  at false other = space_behind prefix bounds (record { prefix = found.name; space = found.space }) is_none ∙ ap (λ t. cond t (Some found.space) None) other ∙ sym is_none ∙ covers

          each : AreNames tables (bounds ++ record { prefix = found.name; space = found.space } ∷ [])
          each prefix = go (names prefix)
            where
              go : (space_of prefix bounds ≡ None) ⊎ Covers tables bounds prefix →
                  (space_of prefix (bounds ++ record { prefix = found.name; space = found.space } ∷ []) ≡ None) ⊎ Covers tables (bounds ++ record { prefix = found.name; space = found.space } ∷ []) prefix
              go (inr covers) = inr (kept prefix covers)
              go (inl none) = at (is_same_text prefix found.name) refl
                where
                  at : (t : Bool) → is_same_text prefix found.name ≡ t →
                      (space_of prefix (bounds ++ record { prefix = found.name; space = found.space } ∷ []) ≡ None) ⊎ Covers tables (bounds ++ record { prefix = found.name; space = found.space } ∷ []) prefix
                  at true same = inr (mine prefix same)
                  at false other = inl (space_behind prefix bounds (record { prefix = found.name; space = found.space }) none ∙ ap (λ t. cond t (Some found.space) None) other)

      by : (t : Bool) → is_bound bounds name ≡ t → IsWith bounds (cond t bounds (with_module bounds (find_module name tables.modules))) name
      by false free = found_there free (find_module name tables.modules) refl
      by true bound = record { names = names; here = go (names name); kept = λ prefix covers. covers }
        where
          go : (space_of name bounds ≡ None) ⊎ Covers tables bounds name → Covers tables bounds name
          go (inr covers) = covers
          go (inl none) = absurd (bound_some name bounds bound none)

  -- ---- the pieces of a text, one after another
  pub record AreWith (bounds after : List Bound) (pieces : List (List ℕ)) : Type 0 where
    pub names : AreNames tables after
    pub kept : (prefix : List ℕ) → Covers tables bounds prefix → Covers tables after prefix
    pub each : (piece : List ℕ) → Contains pieces piece → list_any is_colon piece ≡ true → Covers tables after (before_first is_colon piece)

  piece_is : (bounds : List Bound) (piece : List ℕ) → AreNames tables bounds → AreWith bounds (with_piece tables bounds piece) (piece ∷ [])
  piece_is bounds piece names = by (list_any is_colon piece) refl
    where
      by : (t : Bool) → list_any is_colon piece ≡ t → AreWith bounds (cond t (with_name tables bounds (before_first is_colon piece)) bounds) (piece ∷ [])
      by true has =
          let one = with_is bounds (before_first is_colon piece) names in
          record { names = one.names; kept = one.kept; each = this one.here }
        where
          this : Covers tables (with_name tables bounds (before_first is_colon piece)) (before_first is_colon piece) → (other : List ℕ) → Contains (piece ∷ []) other → list_any is_colon other ≡ true →
              Covers tables (with_name tables bounds (before_first is_colon piece)) (before_first is_colon other)
          this here other (zero, within, is) colon_there = subst (λ (p : List ℕ). Covers tables (with_name tables bounds (before_first is_colon piece)) (before_first is_colon p)) is here
          this here other (suc k, within, is) colon_there = absurd (omega (arith, within))
      by false none = record { names = names; kept = λ prefix covers. covers; each = this }
        where
          this : (other : List ℕ) → Contains (piece ∷ []) other → list_any is_colon other ≡ true → Covers tables bounds (before_first is_colon other)
          this other (zero, within, is) colon_there = absurd (let clash : true ≡ false = sym colon_there ∙ ap (list_any is_colon) (sym is) ∙ none in cc)
          this other (suc k, within, is) colon_there = absurd (omega (arith, within))

  pieces_are : (bounds : List Bound) (pieces : List (List ℕ)) → AreNames tables bounds → AreWith bounds (fold (with_piece tables) bounds pieces) pieces
  pieces_are bounds [] names = record { names = names; kept = λ prefix covers. covers; each = λ piece has colon_there. absurd (omega (arith, has.1)) }
  pieces_are bounds (piece ∷ pieces) names =
      let first = piece_is bounds piece names in
      let rest = pieces_are (with_piece tables bounds piece) pieces first.names in
      record { names = rest.names; kept = λ prefix covers. rest.kept prefix (first.kept prefix covers); each = all first rest }
    where
      all : AreWith bounds (with_piece tables bounds piece) (piece ∷ []) → AreWith (with_piece tables bounds piece) (fold (with_piece tables) (with_piece tables bounds piece) pieces) pieces →
          (one : List ℕ) → Contains (piece ∷ pieces) one → list_any is_colon one ≡ true → Covers tables (fold (with_piece tables) (with_piece tables bounds piece) pieces) (before_first is_colon one)
      all first rest one (zero, within, is) colon_there = rest.kept (before_first is_colon one) (first.each one (0, omega arith, is) colon_there)
      all first rest one (suc k, within, is) colon_there = rest.each one (k, omega (arith, within), is) colon_there

-- ---- a prefix is that of a piece
record IsHead (parts : List (List ℕ)) (head : List ℕ) : Type 0 where
  rest : List (List ℕ)
  is : parts ≡ head ∷ rest

some_head : (p : ℕ → Bool) (text : List ℕ) → (head : List ℕ) × (rest : List (List ℕ)) × (slice_split p text ≡ head ∷ rest)
some_head p [] = ([], [], refl)
some_head p (c ∷ cs) = by (p c) refl (some_head p cs)
  where
    by : (b : Bool) → p c ≡ b → (head : List ℕ) × (rest : List (List ℕ)) × (slice_split p cs ≡ head ∷ rest) →
        (head : List ℕ) × (rest : List (List ℕ)) × (cond b ([] ∷ slice_split p cs) (onto_first c (slice_split p cs)) ≡ head ∷ rest)
    by true is inner = ([], slice_split p cs, refl)
    by false is (head, rest, whole) = (c ∷ head, rest, ap (onto_first c) whole)

head_longer : (p : ℕ → Bool) (front text head : List ℕ) (rest : List (List ℕ)) → list_all (λ c. not (p c)) front ≡ true → slice_split p text ≡ head ∷ rest → slice_split p (front ++ text) ≡ (front ++ head) ∷ rest
head_longer p [] text head rest none is = is
head_longer p (c ∷ front) text head rest none is =
    ap (λ b. cond b ([] ∷ slice_split p (front ++ text)) (onto_first c (slice_split p (front ++ text)))) (not_passes (p c) (left_true (not (p c)) (list_all (λ d. not (p d)) front) none))
    ∙ ap (onto_first c) (head_longer p front text head rest (right_true (not (p c)) (list_all (λ d. not (p d)) front) none) is)
  where
    not_passes : (b : Bool) → not b ≡ true → b ≡ false
    not_passes true e = let clash : false ≡ true = e in cc
    not_passes false e = refl

-- the parts of what stands behind a cut are parts of the whole, and none of them is the first
behind_cut : (p : ℕ → Bool) (front text : List ℕ) (sign : ℕ) → p sign ≡ true → (part : List ℕ) → Contains (slice_split p text) part →
    (head : List ℕ) × (rest : List (List ℕ)) × (slice_split p (front ++ sign ∷ text) ≡ head ∷ rest) × Contains rest part
behind_cut p [] text sign cut part has = ([], slice_split p text, ap (λ b. cond b ([] ∷ slice_split p text) (onto_first sign (slice_split p text))) cut, has)
behind_cut p (c ∷ front) text sign cut part has = by (p c) refl (behind_cut p front text sign cut part has)
  where
    by : (b : Bool) → p c ≡ b → (head : List ℕ) × (rest : List (List ℕ)) × (slice_split p (front ++ sign ∷ text) ≡ head ∷ rest) × Contains rest part →
        (head : List ℕ) × (rest : List (List ℕ)) × (cond b ([] ∷ slice_split p (front ++ sign ∷ text)) (onto_first c (slice_split p (front ++ sign ∷ text))) ≡ head ∷ rest) × Contains rest part
    by true is (head, rest, whole, there) = ([], slice_split p (front ++ sign ∷ text), refl, subst (λ (ps : List (List ℕ)). Contains ps part) (sym whole) (contains_behind head rest part there))
    by false is (head, rest, whole, there) = (c ∷ head, rest, ap (onto_first c) whole, there)

in_name_joined : (c : ℕ) → is_in_identifier c ≡ true → not (is_apart c) ≡ true
in_name_joined c e = by (is_in_identifier c) e
  where
    by : (b : Bool) → b ≡ true → not (not (b || is_colon c)) ≡ true
    by true f = refl
    by false f = let clash : false ≡ true = f in cc

prefix_joined : (prefix : List ℕ) → IsPrefix prefix → list_all (λ c. not (is_apart c)) (prefix ++ colon ∷ []) ≡ true
prefix_joined [] e = refl
prefix_joined (c ∷ cs) e = (λ i. in_name_joined c (left_true (is_in_identifier c) (list_all is_in_identifier cs) e) i && prefix_joined cs (right_true (is_in_identifier c) (list_all is_in_identifier cs) e) i)

no_colon : (c : ℕ) → is_in_identifier c ≡ true → is_colon c ≡ false
no_colon c e = grind (arith, nat_tests)

-- the name before the first colon
pub before_colon : (prefix rest : List ℕ) → IsPrefix prefix → (before_first is_colon (prefix ++ colon ∷ rest) ≡ prefix) × (list_any is_colon (prefix ++ colon ∷ rest) ≡ true)
before_colon [] rest e = (refl, refl)
before_colon (c ∷ cs) rest e = go (before_colon cs rest (right_true (is_in_identifier c) (list_all is_in_identifier cs) e))
  where
    mine : is_colon c ≡ false
    mine = no_colon c (left_true (is_in_identifier c) (list_all is_in_identifier cs) e)

    more : (n : ℕ) → take (1 + n) (c ∷ (cs ++ colon ∷ rest)) ≡ c ∷ take n (cs ++ colon ∷ rest)
    more n = let next : 1 + n ≡ suc n = omega arith in ap (λ k. take k (c ∷ (cs ++ colon ∷ rest))) next

    go : (before_first is_colon (cs ++ colon ∷ rest) ≡ cs) × (list_any is_colon (cs ++ colon ∷ rest) ≡ true) →
        (before_first is_colon (c ∷ (cs ++ colon ∷ rest)) ≡ c ∷ cs) × ((is_colon c || list_any is_colon (cs ++ colon ∷ rest)) ≡ true)
    go inner = (
      ap (λ b. take (cond (not b) (1 + position_or_len is_colon (cs ++ colon ∷ rest)) 0) (c ∷ (cs ++ colon ∷ rest))) mine ∙ more (position_or_len is_colon (cs ++ colon ∷ rest)) ∙ ap (λ xs. c ∷ xs) inner.0,
      (λ i. mine i || inner.1 i),
    )

-- ---- names of modules
module_none : (modules : List Module) (prefix : List ℕ) → All IsProperModule modules → is_identifier prefix ≡ false → space_of prefix (bounds_of modules) ≡ None
module_none [] prefix each none = refl
module_none (m ∷ modules) prefix each none =
    ap (λ t. cond t (Some m.space) (space_of prefix (bounds_of modules))) (is_false (is_same_text prefix m.name) (λ same.
    (let named : is_identifier prefix ≡ true = ap is_identifier (same_found prefix m.name same) ∙ (each 0 m (omega arith)).name in
    let clash : true ≡ false = sym named ∙ none in cc)))
    ∙ module_none modules prefix (λ k d within. each (suc k) d (omega (arith, within))) none

no_identifier : (prefix : List ℕ) → list_all is_in_identifier prefix ≡ false → is_identifier prefix ≡ false
no_identifier prefix e = is_false (is_identifier prefix) (λ named. (let all : list_all is_in_identifier prefix ≡ true = all_in_identifier prefix named in let clash : true ≡ false = sym all ∙ e in cc))

module _ (tables : Tables) (schema : IsProperSchema tables) where
  none_named : (prefix : List ℕ) → is_identifier prefix ≡ false → space_of prefix (module_bounds tables) ≡ None
  none_named prefix none = module_none tables.modules prefix schema.modules.modules none

  -- the names of all modules know every text
  pub modules_know : (text : List ℕ) → Knows tables (module_bounds tables) text
  modules_know text = record {
    known = λ before prefix after is ends named. refl;
    default = none_named [] refl;
    other = λ prefix none. none_named prefix (no_identifier prefix none);
  }

  -- so do those that a text has
  pub names_know : (text : List ℕ) → Knows tables (with_names tables [] text) text
  names_know text = record {
    known = λ before prefix after is ends named. known before prefix after is ends named;
    default = other [] refl;
    other = λ prefix none. other prefix (no_identifier prefix none);
  }
    where
      pieces : AreWith tables [] (fold (with_piece tables) [] (slice_split is_apart text)) (slice_split is_apart text)
      pieces = pieces_are tables [] (slice_split is_apart text) (λ prefix. inl refl)

      other : (prefix : List ℕ) → is_identifier prefix ≡ false → space_of prefix (with_names tables [] text) ≡ None
      other prefix none = by (pieces.names prefix)
        where
          by : (space_of prefix (with_names tables [] text) ≡ None) ⊎ Covers tables (with_names tables [] text) prefix → space_of prefix (with_names tables [] text) ≡ None
          by (inl is) = is
          by (inr covers) = covers ∙ none_named prefix none

      known : (before prefix after : List ℕ) → text ≡ before ++ (prefix ++ colon ∷ after) → EndsApart before → IsPrefix prefix → space_of prefix (with_names tables [] text) ≡ space_of prefix (module_bounds tables)
      known before prefix after text_is ends named =
          subst (λ (p : List ℕ). space_of p (with_names tables [] text) ≡ space_of p (module_bounds tables)) first.0
          (pieces.each (prefix ++ colon ∷ head.0) (subst (λ (t : List ℕ). Contains (slice_split is_apart t) (prefix ++ colon ∷ head.0)) (sym text_is) (there ends)) first.1)
        where
          head : (head : List ℕ) × (rest : List (List ℕ)) × (slice_split is_apart after ≡ head ∷ rest)
          head = some_head is_apart after

          first : (before_first is_colon (prefix ++ colon ∷ head.0) ≡ prefix) × (list_any is_colon (prefix ++ colon ∷ head.0) ≡ true)
          first = before_colon prefix head.0 named

          whole : slice_split is_apart (prefix ++ colon ∷ after) ≡ (prefix ++ colon ∷ head.0) ∷ head.1
          whole =
              ap (slice_split is_apart) (sym (append_assoc prefix (colon ∷ []) after))
              ∙ head_longer is_apart (prefix ++ colon ∷ []) after head.0 head.1 (prefix_joined prefix named) head.2
              ∙ ap (λ h. h ∷ head.1) (append_assoc prefix (colon ∷ []) head.0)

          in_behind : Contains (slice_split is_apart (prefix ++ colon ∷ after)) (prefix ++ colon ∷ head.0)
          in_behind = subst (λ (ps : List (List ℕ)). Contains ps (prefix ++ colon ∷ head.0)) (sym whole) (0, omega arith, refl)

          there : EndsApart before → Contains (slice_split is_apart (before ++ (prefix ++ colon ∷ after))) (prefix ++ colon ∷ head.0)
          there (inl none) = subst (λ (b : List ℕ). Contains (slice_split is_apart (b ++ (prefix ++ colon ∷ after))) (prefix ++ colon ∷ head.0)) (sym none) in_behind
          there (inr (front, sign, is, apart)) =
              let found = behind_cut is_apart front (prefix ++ colon ∷ after) sign apart (prefix ++ colon ∷ head.0) in_behind in
              subst (λ (b : List ℕ). Contains (slice_split is_apart b) (prefix ++ colon ∷ head.0))
              (sym (ap (λ b. b ++ (prefix ++ colon ∷ after)) is ∙ append_assoc front (sign ∷ []) (prefix ++ colon ∷ after)))
              (subst (λ (ps : List (List ℕ)). Contains ps (prefix ++ colon ∷ head.0)) (sym found.2) (contains_behind found.0 found.1 (prefix ++ colon ∷ head.0) found.3))
