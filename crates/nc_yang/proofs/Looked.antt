-- Statements of a text that are looked at, and the definitions that names mean at their places.
use Rattle.std.proofs.Common.{inl, inr, ◌≡◌, ◌==◌, ◌&&◌, ◌++◌, ℕ, zero, suc, Bool, true, false, cond, List, [], ◌∷◌, refl, sym, ap, subst, ◌∙◌, arith}
use Rattle.std.specs.Prelude.{Option, Some, None, slice_get, option_map, option_and_then, find, is_none, is_some, IsSome, not, ◌||◌, Contains}
use Rattle.std.specs.Option.{option_map_or}
use Rattle.std.proofs.lemmas.Bool.Decides.{nat_tests}
use Rattle.std.proofs.lemmas.List.Elements.{Contains-append_left, Contains-append_right}
use Rattle.nc_names.specs.Same.{is_same_text}
use Rattle.nc_yang_words.specs.declared.statement.Statement.{Statement}
use Rattle.nc_yang_statements.specs.declared.built_in.BuiltIn.{BuiltIn}
use Rattle.nc_yang_statements.specs.declared.fault.Fault.{Fault}
use Rattle.nc_yang_statements.specs.declared.fault.ModuleWhy.{ModuleWhy}
use Rattle.nc_yang_statements.specs.declared.fault.ModuleWhy.TheVariants.{Missing, UnknownName}
use Rattle.nc_yang_statements.specs.declared.keyword.Keyword.{Keyword}
use Rattle.nc_yang_statements.specs.declared.keyword.Keyword.TheVariants.{Module, TypeName, Typedef}
use Rattle.nc_yang_statements.specs.BuiltIns.{built_in_of}
use Rattle.nc_yang_statements.specs.Keywords.{is_closed, is_same_keyword, keywords}
use Rattle.nc_yang_statements.specs.Places.{count_of, is_once}
use Rattle.nc_yang_statements.specs.Rules.{at, at_if, broken, contrary, ill_formed, misfit, misplaced, missing, twice, why_root}
use Rattle.nc_yang_statements.specs.Statements.{Stands, below, has, kind, line, name, part, inside as deep, itself as first, later}
use Rattle.nc_yang_statements.proofs.Tags.{same_keyword}
use Rattle.nc_yang_order.proofs.Lists.{contains_at}
use Rattle.nc_yang_scopes.specs.Scopes.{Located, Place, child, defines, found, found_in, has_colon, inside as inside_of, local_of, prefix_of, resolved, root, text_of_prefix, top}
use Rattle.nc_yang_scopes.specs.Names.{StandsIn, inside, is_nameless, itself}
use Rattle.nc_yang_scopes.specs.declared.kinds.Defined.TheVariants.{Typedefs}
use Rattle.nc_yang_scopes.specs.Loops.{IsDefinition, typedef_of}
use Rattle.nc_yang.specs.Rules.{KeepsTexts, alone, misnamed as bad_names}
use Rattle.nc_yang.proofs.Lists.{find_there, flat_contains}

-- it stands in a text, and in no statement that is passed over
pub record Looked (texts : List Statement) (l : Located) : Type 0 where
  pub text : ℕ
  pub top : Located
  pub is_top : root texts text ≡ Some top
  pub stands : StandsIn top l

-- what stands directly in a statement, and in a text
abbrev pub put : Located → Statement → Located
put l s = record { statement = s; place = inside_of l }

abbrev pub lay : ℕ → Statement → Located
lay text s = record { statement = s; place = record { text = text; blocks = [] } }

pub child_put : (l : Located) (place : ℕ) (s : Statement) → slice_get (below l.statement) place ≡ Some s → child place l ≡ Some (put l s)
child_put l place s is = ap (option_map (put l)) is

pub child_of : (l c : Located) (place : ℕ) → child place l ≡ Some c → (s : Statement) × (slice_get (below l.statement) place ≡ Some s) × (put l s ≡ c)
child_of l c place one = by (slice_get (below l.statement) place) refl one
  where
    by : (o : Option Statement) → slice_get (below l.statement) place ≡ o → option_map (put l) o ≡ Some c → (s : Statement) × (slice_get (below l.statement) place ≡ Some s) × (put l s ≡ c)
    by None e f = absurd (cc)
    by (Some s) e f = (s, e, cc)

pub root_of : (texts : List Statement) (text : ℕ) (t : Located) → root texts text ≡ Some t → (s : Statement) × (slice_get texts text ≡ Some s) × (lay text s ≡ t)
root_of texts text t is = by (slice_get texts text) refl is
  where
    by : (o : Option Statement) → slice_get texts text ≡ o → option_map (lay text) o ≡ Some t → (s : Statement) × (slice_get texts text ≡ Some s) × (lay text s ≡ t)
    by None e f = absurd (cc)
    by (Some s) e f = (s, e, cc)

-- what stands in what stands in a statement stands in it
pub deeper : (a b c : Located) → StandsIn a b → StandsIn b c → StandsIn a c
deeper a b c (itself k) d = d
deeper a b c (inside k x i place is_open one e) d = inside a x c place is_open one (deeper x b c e d)

pub directly : (l : Located) (place : ℕ) (s : Statement) → is_closed (kind l.statement) ≡ false → slice_get (below l.statement) place ≡ Some s → StandsIn l (put l s)
directly l place s is_open is = inside l (put l s) (put l s) place is_open (child_put l place s is) (itself (put l s))

pub looked_deeper : (texts : List Statement) (l s : Located) → Looked texts l → StandsIn l s → Looked texts s
looked_deeper texts l s k d = record { text = k.text; top = k.top; is_top = k.is_top; stands = deeper k.top l s k.stands d }

pub looked_in : (texts : List Statement) (l : Located) (place : ℕ) (s : Statement) → Looked texts l → is_closed (kind l.statement) ≡ false → slice_get (below l.statement) place ≡ Some s → Looked texts (put l s)
looked_in texts l place s k is_open is = looked_deeper texts l (put l s) k (directly l place s is_open is)

pub top_looked : (texts : List Statement) (text : ℕ) (s : Statement) → slice_get texts text ≡ Some s → Looked texts (lay text s)
top_looked texts text s is = record { text = text; top = lay text s; is_top = ap (option_map (lay text)) is; stands = itself (lay text s) }

-- all that stand in these blocks are looked at
abbrev pub AreLooked : List Statement → ℕ → List (List Statement) → Type 0
AreLooked texts text [] = Unit {0}
AreLooked texts text (block ∷ outer) =
    ((place : ℕ) (s : Statement) → slice_get block place ≡ Some s → Looked texts (record { statement = s; place = record { text = text; blocks = block ∷ outer } }))
    × AreLooked texts text outer

along : (texts : List Statement) (l s : Located) → Looked texts l → AreLooked texts l.place.text l.place.blocks → StandsIn l s → AreLooked texts s.place.text s.place.blocks
along texts l s k are (itself j) = are
along texts l s k are (inside j c i place is_open one d) =
    let m = child_of l c place one in
    along texts c s (subst (Looked texts) m.2 (looked_in texts l place m.0 k is_open m.1))
    (subst (λ (z : Located). AreLooked texts z.place.text z.place.blocks) m.2 ((λ p t is. looked_in texts l p t k is_open is), are)) d

-- those in the blocks round a statement that is
pub around : (texts : List Statement) (l : Located) → Looked texts l → AreLooked texts l.place.text l.place.blocks
around texts l k =
    let r = root_of texts k.text k.top k.is_top in
    along texts k.top l (record { text = k.text; top = k.top; is_top = k.is_top; stands = itself k.top })
    (subst (λ (z : Located). AreLooked texts z.place.text z.place.blocks) r.2 tt) k.stands

both_left : (a b : Bool) → (a && b) ≡ true → a ≡ true
both_left true b e = refl
both_left false b e = e

-- a definition that is found is looked at
abbrev IsLookedOf : List Statement → Keyword → Located → Type 0
IsLookedOf texts keyword d = Looked texts d × (is_same_keyword keyword (kind d.statement) ≡ true)

found_looked : (texts : List Statement) (keyword : Keyword) (wanted : List ℕ) (text : ℕ) (blocks : List (List Statement)) (d : Located) → AreLooked texts text blocks →
    found keyword wanted text blocks ≡ Some d → IsLookedOf texts keyword d
found_looked texts keyword wanted text [] d are e = absurd (cc)
found_looked texts keyword wanted text (block ∷ outer) d are e = by (find (defines keyword wanted) block) refl e (found_looked texts keyword wanted text outer d are.1)
  where
    here : Statement → Located
    here s = record { statement = s; place = record { text = text; blocks = block ∷ outer } }

    by : (o : Option Statement) → find (defines keyword wanted) block ≡ o →
        option_map_or (λ s. Some (record { statement = s; place = record { text = text; blocks = block ∷ outer } })) o (found keyword wanted text outer) ≡ Some d →
        (found keyword wanted text outer ≡ Some d → IsLookedOf texts keyword d) → IsLookedOf texts keyword d
    by None none f further = further f
    by (Some s) some f further =
        let m = find_there (defines keyword wanted) block s some in
        let same : here s ≡ d = cc in (
          subst (Looked texts) same (are.0 m.0 s m.1),
          subst (λ (z : Located). is_same_keyword keyword (kind z.statement) ≡ true) same (both_left (is_same_keyword keyword (kind s)) (is_same_text (name s) wanted) m.2),
        )

equal_is : (a b : ℕ) → (a == b) ≡ true → a ≡ b
equal_is a b e = grind (arith, nat_tests)

-- a fault for a reason that there is
pub some_fault : (why : Option ModuleWhy) (s : Statement) → IsSome why → ((fault : Fault) → Contains (at why s) fault → ⊥) → ⊥
some_fault None s e none = absurd (cc)
some_fault (Some why) s e none = none (record { line = line s; why = why }) (contains_at (at (Some why) s) 0 (record { line = line s; why = why }) refl)

pub kept_not : (b : Bool) (s : Statement) (why : ModuleWhy) → ((fault : Fault) → Contains (at_if b s why) fault → ⊥) → b ≡ false
kept_not false s why none = refl
kept_not true s why none = absurd (none (record { line = line s; why = why }) (contains_at (at_if true s why) 0 (record { line = line s; why = why }) refl))

root_open : (r : Statement) (k : Keyword) → ((fault : Fault) → Contains (at (why_root k) r) fault → ⊥) → is_closed k ≡ false
root_open r Module none = refl
root_open r k none = absurd (some_fault (why_root k) r refl none)

-- what has a keyword has a first part of it
part_step : (x : Bool) (keyword : Keyword) (s : Statement) (ss : List Statement) → (x || has keyword ss) ≡ true → (has keyword ss ≡ true → (t : Statement) × (part keyword ss ≡ Some t)) →
    (t : Statement) × (cond {A = Option Statement} x (Some s) (part keyword ss) ≡ Some t)
part_step true keyword s ss e further = (s, refl)
part_step false keyword s ss e further = further e

pub has_part : (keyword : Keyword) (ss : List Statement) → has keyword ss ≡ true → (t : Statement) × (part keyword ss ≡ Some t)
has_part keyword [] e = absurd (cc)
has_part keyword (s ∷ ss) e = part_step (is_same_keyword keyword (kind s)) keyword s ss e (has_part keyword ss)

-- by statements alone
stands_more : (xs ys : List Statement) (u : Statement) → Stands xs u → Stands (xs ++ ys) u
stands_more [] ys u d = elim d [ ]
stands_more (x ∷ xs) ys u (first s ss) = first x (xs ++ ys)
stands_more (x ∷ xs) ys u (deep s t ss c d) = deep x u (xs ++ ys) c d
stands_more (x ∷ xs) ys u (later s t ss d) = later x u (xs ++ ys) (stands_more xs ys u d)

stands_at : (ss : List Statement) (i : ℕ) (t u : Statement) → slice_get ss i ≡ Some t → Stands (t ∷ []) u → Stands ss u
stands_at [] i t u e d = absurd (cc)
stands_at (x ∷ xs) zero t u e d = let same : t ≡ x = cc in subst (λ z. Stands (z ∷ xs) u) same (stands_more (t ∷ []) xs u d)
stands_at (x ∷ xs) (suc i) t u e d = later x u xs (stands_at xs i t u e d)

stands_of : (l s : Located) → StandsIn l s → Stands (l.statement ∷ []) s.statement
stands_of l s (itself k) = first l.statement []
stands_of l s (inside j c i place is_open one d) =
    let m = child_of l c place one in
    deep l.statement s.statement [] is_open (stands_at (below l.statement) place c.statement s.statement (m.1 ∙ ap (λ (z : Located). Some z.statement) m.2) (stands_of c s d))

-- the part that a typedef has to have
pub types_key : slice_get keywords 29 ≡ Some TypeName
unfolding keywords
types_key = refl

not_false : (b : Bool) → not b ≡ false → b ≡ true
not_false true e = refl
not_false false e = absurd (cc)

-- what has to stand in a statement does
needed : (s : Statement) (keyword : Keyword) (place : ℕ) → slice_get keywords place ≡ Some keyword → is_closed (kind s) ≡ false → is_once (count_of (kind s) keyword) ≡ true →
    ((fault : Fault) → Contains (broken s) fault → ⊥) → has keyword (below s) ≡ true
needed s keyword place is is_open asked none =
    let kept : (is_once (count_of (kind s) keyword) && not (has keyword (below s))) ≡ false =
    kept_not (is_once (count_of (kind s) keyword) && not (has keyword (below s))) s Missing (λ fault h. none fault
    (Contains-append_right (misfit s) (cond (is_closed (kind s)) [] (ill_formed s ++ contrary s)) fault
    (subst (λ b. Contains (cond b [] (ill_formed s ++ contrary s)) fault) (sym is_open)
    (Contains-append_left (ill_formed s) (contrary s) fault
    (Contains-append_right (misplaced s) (missing s ++ twice s) fault
    (Contains-append_left (missing s) (twice s) fault
    (flat_contains (λ k. at_if (is_once (count_of (kind s) k) && not (has k (below s))) s Missing) keywords keyword fault place is h))))))) in
    not_false (has keyword (below s)) (sym (ap (λ b. b && not (has keyword (below s))) asked) ∙ kept)

module _ (texts : List Statement) (keeps : KeepsTexts texts) where
  pub module_open : (text : ℕ) (r : Statement) → slice_get texts text ≡ Some r → is_closed (kind r) ≡ false
  module_open text r is = root_open r (kind r) (λ fault h. keeps (record { text = text; fault = fault }) (alone text r fault is (inl h)))

  tops : (text : ℕ) → AreLooked texts text (top texts text ∷ [])
  tops text = by (slice_get texts text) refl
    where
      by : (o : Option Statement) → slice_get texts text ≡ o → AreLooked texts text (option_map_or below o [] ∷ [])
      by None e = ((λ place s is. absurd (cc)), tt)
      by (Some r) e = ((λ place s is. looked_in texts (lay text r) place s (top_looked texts text r e) (module_open text r e) is), tt)

  module _ (keyword : Keyword) (reference : List ℕ) (place : Place) (d : Located) (are : AreLooked texts place.text place.blocks) where
    in_text : (text : ℕ) → found_in texts keyword (local_of reference) place text ≡ Some d → IsLookedOf texts keyword d
    in_text text e = by (text == place.text) refl e
      where
        by : (b : Bool) → (text == place.text) ≡ b → cond b (found keyword (local_of reference) text place.blocks) (found keyword (local_of reference) text (top texts text ∷ [])) ≡ Some d → IsLookedOf texts keyword d
        by true same f = found_looked texts keyword (local_of reference) text place.blocks d (subst (λ t. AreLooked texts t place.blocks) (sym (equal_is text place.text same)) are) f
        by false other f = found_looked texts keyword (local_of reference) text (top texts text ∷ []) d (tops text) f

    pub resolved_looked : resolved texts keyword reference place ≡ Some d → IsLookedOf texts keyword d
    resolved_looked e = by (has_colon reference) (text_of_prefix texts place.text (prefix_of reference)) e
      where
        by : (b : Bool) (o : Option ℕ) → cond b (option_and_then (found_in texts keyword (local_of reference) place) o) (found keyword reference place.text place.blocks) ≡ Some d → IsLookedOf texts keyword d
        by true None f = absurd (cc)
        by true (Some text) f = in_text text f
        by false o f = found_looked texts keyword reference place.text place.blocks d are f

  -- a type that is not built in names a typedef
  pub type_named : (l : Located) → Looked texts l → is_same_keyword TypeName (kind l.statement) ≡ true → built_in_of (name l.statement) ≡ None →
      (d : Located) × (resolved texts Typedef (name l.statement) l.place ≡ Some d)
  type_named l k keyword built = by (built_in_of (name l.statement)) (resolved texts Typedef (name l.statement) l.place) built refl named_is
    where
      named_kind : is_nameless texts l.place (kind l.statement) l.statement ≡ false
      named_kind = kept_not (is_nameless texts l.place (kind l.statement) l.statement) l.statement UnknownName (λ fault h.
          keeps (record { text = k.text; fault = fault }) (bad_names k.text fault
          (record { top = k.top; is = k.is_top; misnames = record { statement = l; stands = k.stands; breaks = Contains-append_left (at_if (is_nameless texts l.place (kind l.statement) l.statement) l.statement UnknownName) _ fault h } })))

      named_is : (is_none (built_in_of (name l.statement)) && is_none (resolved texts Typedef (name l.statement) l.place)) ≡ false
      named_is = subst (λ z. is_nameless texts l.place z l.statement ≡ false) (sym (same_keyword TypeName (kind l.statement) keyword)) named_kind

      by : (o : Option BuiltIn) (r : Option Located) → o ≡ None → resolved texts Typedef (name l.statement) l.place ≡ r → (is_none o && is_none r) ≡ false →
          (d : Located) × (resolved texts Typedef (name l.statement) l.place ≡ Some d)
      by None None e is f = absurd (cc)
      by None (Some d) e is f = (d, is)
      by (Some one) r e is f = absurd (cc)

  -- which is looked at
  pub named_defined : (t d : Located) → Looked texts t → typedef_of texts (name t.statement) t.place ≡ Some d → IsDefinition texts Typedefs d
  named_defined t d k e = by (is_some (built_in_of (name t.statement))) e
    where
      by : (b : Bool) → cond b None (resolved texts Typedef (name t.statement) t.place) ≡ Some d → IsDefinition texts Typedefs d
      by true f = absurd (cc)
      by false f =
          let r = resolved_looked Typedef (name t.statement) t.place d (around texts t k) f in
          record { text = r.0.text; top = r.0.top; is_top = r.0.is_top; stands = r.0.stands; keyword = r.1 }

  -- what is looked at breaks no rule by itself
  pub none_broken : (l : Located) → Looked texts l → (fault : Fault) → Contains (broken l.statement) fault → ⊥
  none_broken l k fault h =
      let r = root_of texts k.text k.top k.is_top in
      keeps (record { text = k.text; fault = fault }) (alone k.text r.0 fault r.1 (inr (record {
        statement = l.statement;
        stands = subst (λ (z : Located). Stands (z.statement ∷ []) l.statement) (sym r.2) (stands_of k.top l k.stands);
        breaks = h;
      })))

  -- and has what has to stand in it
  pub has_needed : (l : Located) (keyword : Keyword) (place : ℕ) → slice_get keywords place ≡ Some keyword → Looked texts l → is_closed (kind l.statement) ≡ false →
      is_once (count_of (kind l.statement) keyword) ≡ true → has keyword (below l.statement) ≡ true
  has_needed l keyword place is k is_open asked = needed l.statement keyword place is is_open asked (none_broken l k)

  -- so a typedef has a type
  pub typedef_type : (d : Located) → IsDefinition texts Typedefs d → (s : Statement) × (part TypeName (below d.statement) ≡ Some s)
  typedef_type d defined =
      let is : Typedef ≡ kind d.statement = same_keyword Typedef (kind d.statement) defined.keyword in
      let k : Looked texts d = record { text = defined.text; top = defined.top; is_top = defined.is_top; stands = defined.stands } in
      has_part TypeName (below d.statement)
      (has_needed d TypeName 29 types_key k (ap is_closed (sym is)) (ap (λ k. is_once (count_of k TypeName)) (sym is)))
