-- Texts keep their rules, by computation: of two texts, in which nothing is imported or defined in terms of another
-- definition.
use Rattle.std.proofs.Common.{inl, inr, ◌≡◌, ◌&&◌, ◌||◌, ℕ, zero, suc, Bool, true, false, List, [], ◌∷◌, refl, ap, subst, ◌∙◌}
use Rattle.std.specs.Prelude.{Option, Some, None, Contains, option_map, slice_get}
use Rattle.std.specs.List.{list_all}
use Rattle.std.proofs.lemmas.Option.{slice_get-map}
use Rattle.nc_yang_words.specs.declared.statement.Statement.{Statement}
use Rattle.nc_yang_order.proofs.Lists.{contains_none}
use Rattle.nc_yang_statements.specs.declared.fault.Fault.{Fault}
use Rattle.nc_yang_statements.specs.declared.keyword.Keyword.{Keyword}
use Rattle.nc_yang_statements.specs.declared.keyword.Keyword.TheVariants.{Base, IfFeature, Import, Typedef, Uses}
use Rattle.nc_yang_statements.specs.Keywords.{is_closed, is_same_keyword}
use Rattle.nc_yang_statements.specs.Rules.{at, broken, why_root}
use Rattle.nc_yang_statements.specs.Statements.{Stands, below, inside as stands_inside, itself as stands_itself, kind, later as stands_later}
use Rattle.nc_yang_statements.proofs.Tags.{same_keyword}
use Rattle.nc_yang_scopes.specs.Loops.{IsDefinition, Names, defining, naming}
use Rattle.nc_yang_scopes.specs.Modules.{twins}
use Rattle.nc_yang_scopes.specs.Names.{StandsIn, inside, itself, misnamed}
use Rattle.nc_yang_scopes.specs.Revisions.{unrevised}
use Rattle.nc_yang_scopes.specs.Scopes.{Located, child, root, inside as place_inside}
use Rattle.nc_yang_scopes.specs.Spaces.{IsWithin, faults_in, inside as within_inside, itself as within_itself}
use Rattle.nc_yang_scopes.specs.States.{BreaksState, configured, inside as state_inside, is_state_in, itself as state_itself}
use Rattle.nc_yang_scopes.specs.declared.kinds.Defined.{Defined}
use Rattle.nc_yang_scopes.specs.declared.kinds.Defined.TheVariants.{Features, Groupings, Identities, Modules, Typedefs}
use Rattle.nc_yang_scopes.specs.declared.naming.TextFault.{TextFault}
use Rattle.nc_yang_nodes.specs.Roles.{children}
use Rattle.nc_yang.specs.Rules.{KeepsTexts, alone, configured as of_state, looping, misnamed as misnames, renamed, twin, unrevised_import}

-- ---- tests
pub left_of : (a b : Bool) → (a && b) ≡ true → a ≡ true
left_of true b e = refl
left_of false b e = e

pub right_of : (a b : Bool) → (a && b) ≡ true → b ≡ true
right_of true b e = e
right_of false b e = absurd (cc)

unless_closed : (a b : Bool) → (a || b) ≡ true → a ≡ false → b ≡ true
unless_closed true b e f = absurd (cc)
unless_closed false b e f = e

one_of_one : (b : Bool) → b ≡ true → (b && true) ≡ true
one_of_one true e = refl
one_of_one false e = absurd (cc)

pub all_at : {A : Type 0} (test : A → Bool) (xs : List A) (place : ℕ) (x : A) → list_all test xs ≡ true → slice_get xs place ≡ Some x → test x ≡ true
all_at test [] place x e is = absurd (cc)
all_at test (y ∷ xs) zero x e is = subst (λ z. test z ≡ true) (let same : y ≡ x = cc in same) (left_of (test y) (list_all test xs) e)
all_at test (y ∷ xs) (suc place) x e is = all_at test xs place x (right_of (test y) (list_all test xs) e) is

-- no fault is in the list
abbrev pub is_none_in : List Fault → Bool
is_none_in [] = true
is_none_in (fault ∷ faults) = false

pub none_in : (faults : List Fault) (fault : Fault) → is_none_in faults ≡ true → Contains faults fault → ⊥
none_in [] fault e h = contains_none fault h
none_in (f ∷ faults) fault e h = absurd (cc)

-- ---- statements by themselves, so many levels deep
abbrev pub is_well : Bool → Statement → Bool
is_well state s = is_none_in (broken s) && (is_none_in (faults_in s) && is_none_in (configured state s))

abbrev pub are_well : (levels : ℕ) → Bool → Statement → Bool
are_well zero state s = false
are_well (suc levels) state s = is_well state s && (is_closed (kind s) || list_all (are_well levels (is_state_in state s)) (below s))

in_well : (levels : ℕ) (state : Bool) (s : Statement) → are_well (suc levels) state s ≡ true → is_closed (kind s) ≡ false →
    list_all (are_well levels (is_state_in state s)) (below s) ≡ true
in_well levels state s e is_open =
    unless_closed (is_closed (kind s)) (list_all (are_well levels (is_state_in state s)) (below s))
    (right_of (is_well state s) (is_closed (kind s) || list_all (are_well levels (is_state_in state s)) (below s)) e) is_open

one_well : (levels : ℕ) (state : Bool) (s : Statement) → are_well (suc levels) state s ≡ true → is_well state s ≡ true
one_well levels state s e = left_of (is_well state s) (is_closed (kind s) || list_all (are_well levels (is_state_in state s)) (below s)) e

record IsWell (s : Statement) : Type 0 where
  state : Bool
  well : is_well state s ≡ true

stands_well : (levels : ℕ) (state : Bool) (ss : List Statement) (u : Statement) → list_all (are_well levels state) ss ≡ true → Stands ss u → IsWell u
stands_well levels state [] u e d = elim d [ ]
stands_well zero state (s ∷ ss) u e d = absurd (cc)
stands_well (suc levels) state (s ∷ ss) u e (stands_itself _ _) =
    record { state = state; well = one_well levels state s (left_of (are_well (suc levels) state s) (list_all (are_well (suc levels) state) ss) e) }
stands_well (suc levels) state (s ∷ ss) u e (stands_inside _ _ _ is_open d) =
    stands_well levels (is_state_in state s) (below s) u
    (in_well levels state s (left_of (are_well (suc levels) state s) (list_all (are_well (suc levels) state) ss) e) is_open) d
stands_well (suc levels) state (s ∷ ss) u e (stands_later _ _ _ d) =
    stands_well (suc levels) state ss u (right_of (are_well (suc levels) state s) (list_all (are_well (suc levels) state) ss) e) d

within_well : (levels : ℕ) (state : Bool) (s u : Statement) → are_well levels state s ≡ true → IsWithin s u → IsWell u
within_well zero state s u e d = absurd (cc)
within_well (suc levels) state s u e (within_itself _) = record { state = state; well = one_well levels state s e }
within_well (suc levels) state s u e (within_inside _ t _ place is_open is d) =
    within_well levels (is_state_in state s) t u (all_at (are_well levels (is_state_in state s)) (below s) place t (in_well levels state s e is_open) is) d

state_well : (levels : ℕ) (state : Bool) (s : Statement) (fault : Fault) → are_well levels state s ≡ true → BreaksState state s fault → ⊥
state_well zero state s fault e d = absurd (cc)
state_well (suc levels) state s fault e (state_itself _ _ _ is_open h) =
    none_in (configured state s) fault
    (right_of (is_none_in (faults_in s)) (is_none_in (configured state s))
    (right_of (is_none_in (broken s)) (is_none_in (faults_in s) && is_none_in (configured state s)) (one_well levels state s e))) h
state_well (suc levels) state s fault e (state_inside _ _ t place _ is_open is d) =
    state_well levels (is_state_in state s) t fault
    (all_at (are_well levels (is_state_in state s)) (below s) place t (in_well levels state s e is_open) is) d

-- ---- statements by the names that they say
-- a keyword by which definitions name others, or that of a typedef
abbrev pub is_alone : Keyword → Bool
is_alone Import = false
is_alone Typedef = false
is_alone Uses = false
is_alone Base = false
is_alone IfFeature = false
is_alone keyword = true

abbrev pub is_named : List Statement → Located → Bool
is_named texts l = is_none_in (misnamed texts l) && is_alone (kind l.statement)

-- a test is passed by a statement and by all that stand in it, so many levels deep
abbrev pub are_all : (Located → Bool) → (levels : ℕ) → Located → Bool
are_all test zero l = false
are_all test (suc levels) l = test l && (is_closed (kind l.statement) || list_all (are_all test levels) (children l))

pub child_there : (l c : Located) (place : ℕ) → child place l ≡ Some c → slice_get (children l) place ≡ Some c
child_there l c place is =
    slice_get-map (λ (s : Statement). let it : Located = record { statement = s; place = place_inside l } in it) (below l.statement) place ∙ is

pub in_all : (test : Located → Bool) (levels : ℕ) (l u : Located) → are_all test levels l ≡ true → StandsIn l u → test u ≡ true
in_all test zero l u e d = absurd (cc)
in_all test (suc levels) l u e (itself _) =
    left_of (test l) (is_closed (kind l.statement) || list_all (are_all test levels) (children l)) e
in_all test (suc levels) l u e (inside _ c _ place is_open is d) =
    in_all test levels c u
    (all_at (are_all test levels) (children l) place c
    (unless_closed (is_closed (kind l.statement)) (list_all (are_all test levels) (children l))
    (right_of (test l) (is_closed (kind l.statement) || list_all (are_all test levels) (children l)) e) is_open)
    (child_there l c place is)) d

abbrev pub are_named : List Statement → (levels : ℕ) → Located → Bool
are_named texts levels l = are_all (is_named texts) levels l

deeper : (a b c : Located) → StandsIn a b → StandsIn b c → StandsIn a c
deeper a b c (itself _) d = d
deeper a b c (inside _ x _ place is_open is e) d = inside a x c place is_open is (deeper x b c e d)

not_alone : (wanted k : Keyword) → is_alone wanted ≡ false → is_same_keyword wanted k ≡ true → is_alone k ≡ true → ⊥
not_alone wanted k e is f = let same = ap is_alone (same_keyword wanted k is) in absurd (cc)

-- ---- a text
abbrev pub top_at : (text : ℕ) → Statement → Located
top_at text s = record { statement = s; place = record { text = text; blocks = [] } }

abbrev pub is_kept : List Statement → (levels : ℕ) → (text : ℕ) → Statement → Bool
is_kept texts levels text s =
    is_none_in (at (why_root (kind s)) s) && (are_well levels false s && are_named texts levels (top_at text s))

module _ (texts : List Statement) (levels : ℕ) (each : (text : ℕ) (s : Statement) → slice_get texts text ≡ Some s → is_kept texts levels text s ≡ true)
    (no_twins : twins texts ≡ []) (none_unrevised : unrevised texts ≡ []) where
  root_kept : (text : ℕ) (s : Statement) → slice_get texts text ≡ Some s → is_none_in (at (why_root (kind s)) s) ≡ true
  root_kept text s is = left_of (is_none_in (at (why_root (kind s)) s)) (are_well levels false s && are_named texts levels (top_at text s)) (each text s is)

  all_well : (text : ℕ) (s : Statement) → slice_get texts text ≡ Some s → are_well levels false s ≡ true
  all_well text s is =
      left_of (are_well levels false s) (are_named texts levels (top_at text s))
      (right_of (is_none_in (at (why_root (kind s)) s)) (are_well levels false s && are_named texts levels (top_at text s)) (each text s is))

  all_named : (text : ℕ) (top : Located) → root texts text ≡ Some top → are_named texts levels top ≡ true
  all_named text top is = by (slice_get texts text) refl is
    where
      by : (o : Option Statement) → slice_get texts text ≡ o → option_map (top_at text) o ≡ Some top → are_named texts levels top ≡ true
      by None e f = absurd (cc)
      by (Some s) e f =
          let same : top_at text s ≡ top = cc in
          subst (λ z. are_named texts levels z ≡ true) same
          (right_of (are_well levels false s) (are_named texts levels (top_at text s))
          (right_of (is_none_in (at (why_root (kind s)) s)) (are_well levels false s && are_named texts levels (top_at text s)) (each text s e)))

  defined_named : (sort : Defined) (l u : Located) → IsDefinition texts sort l → StandsIn l u → is_named texts u ≡ true
  defined_named sort l u is d = in_all (is_named texts) levels is.top u (all_named is.text is.top is.is_top) (deeper is.top l u is.stands d)

  named_alone : (l : Located) → is_named texts l ≡ true → is_alone (kind l.statement) ≡ true
  named_alone l e = right_of (is_none_in (misnamed texts l)) (is_alone (kind l.statement)) e

  by_naming : (sort : Defined) (here statement there : Located) → is_alone (naming sort) ≡ false → Names texts sort here statement there → ⊥
  by_naming sort here statement there e n =
      not_alone (naming sort) (kind statement.statement) e n.keyword (named_alone statement (defined_named sort here statement n.is_here n.stands))

  by_defining : (sort : Defined) (here statement there : Located) → is_alone (defining sort) ≡ false → Names texts sort here statement there → ⊥
  by_defining sort here statement there e n =
      not_alone (defining sort) (kind here.statement) e n.is_here.keyword (named_alone here (defined_named sort here here n.is_here (itself here)))

  names_none : (sort : Defined) (here statement there : Located) → Names texts sort here statement there → ⊥
  names_none Modules here statement there n = by_naming Modules here statement there refl n
  names_none Typedefs here statement there n = by_defining Typedefs here statement there refl n
  names_none Groupings here statement there n = by_naming Groupings here statement there refl n
  names_none Identities here statement there n = by_naming Identities here statement there refl n
  names_none Features here statement there n = by_naming Features here statement there refl n

  no_list : (faults : List TextFault) (found : TextFault) → faults ≡ [] → Contains faults found → ⊥
  no_list faults found e h = contains_none found (subst (λ fs. Contains fs found) e h)

  pub keeps_texts : KeepsTexts texts
  keeps_texts _ (alone text s fault is breaks) = elim breaks [
    | inl h ↦ none_in (at (why_root (kind s)) s) fault (root_kept text s is) h
    | inr f ↦
        let well = stands_well levels false (s ∷ []) f.statement (one_of_one (are_well levels false s) (all_well text s is)) f.stands in
        none_in (broken f.statement) fault
        (left_of (is_none_in (broken f.statement)) (is_none_in (faults_in f.statement) && is_none_in (configured well.state f.statement)) well.well) f.breaks
  ]
  keeps_texts _ (renamed text s fault is breaks) =
      let well = within_well levels false s breaks.statement (all_well text s is) breaks.stands in
      none_in (faults_in breaks.statement) fault
      (left_of (is_none_in (faults_in breaks.statement)) (is_none_in (configured well.state breaks.statement))
      (right_of (is_none_in (broken breaks.statement)) (is_none_in (faults_in breaks.statement) && is_none_in (configured well.state breaks.statement)) well.well)) breaks.breaks
  keeps_texts _ (of_state text s fault is breaks) = state_well levels false s fault (all_well text s is) breaks
  keeps_texts found (twin _ h) = no_list (twins texts) found no_twins h
  keeps_texts _ (misnames text fault breaks) =
      none_in (misnamed texts breaks.misnames.statement) fault
      (left_of (is_none_in (misnamed texts breaks.misnames.statement)) (is_alone (kind breaks.misnames.statement.statement))
      (in_all (is_named texts) levels breaks.top breaks.misnames.statement (all_named text breaks.top breaks.is) breaks.misnames.stands)) breaks.misnames.breaks
  keeps_texts _ (looping text fault breaks) =
      names_none breaks.sort breaks.breaks.circle.here breaks.breaks.statement breaks.breaks.circle.there breaks.breaks.circle.names
  keeps_texts found (unrevised_import _ h) = no_list (unrevised texts) found none_unrevised h
