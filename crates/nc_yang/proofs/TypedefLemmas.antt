-- The typedefs that are judged by their defaults.
use Rattle.std.proofs.Common.{inl, inr, ◌≡◌, ℕ, zero, suc, Bool, true, false, cond, List, [], ◌∷◌, length, map, refl, sym, ap, subst, ◌∙◌}
use Rattle.std.specs.Prelude.{Option, Some, None, Contains, slice_get, option_map, option_and_then}
use Rattle.std.specs.List.{flat_map, range_with_len}
use Rattle.std.specs.Option.{option_map_or}
use Rattle.std.proofs.lemmas.List.Elements.{Contains-append_cases}
use Rattle.std.proofs.lemmas.Option.{slice_get-map}
use Rattle.nc_schema.specs.Tables.{Tables}
use Rattle.nc_schema.specs.declared.node.Deny.TheVariants.{Nothing as DenyNothing}
use Rattle.nc_schema.specs.declared.node.Node.{Node}
use Rattle.nc_yang_words.specs.declared.statement.Statement.{Statement}
use Rattle.nc_yang_statements.specs.declared.keyword.Keyword.TheVariants.{TypeName, Typedef}
use Rattle.nc_yang_statements.specs.Keywords.{is_closed, is_same_keyword}
use Rattle.nc_yang_statements.specs.Statements.{below, kind, part}
use Rattle.nc_yang_statements.proofs.Tags.{same_keyword}
use Rattle.nc_yang_order.proofs.Lists.{contains_none}
use Rattle.nc_yang_scopes.specs.Names.{itself}
use Rattle.nc_yang_scopes.specs.Parts.{in_it, part_of}
use Rattle.nc_yang_scopes.specs.Scopes.{Located, Scoping, root}
use Rattle.nc_yang_scopes.proofs.LinkLists.{contains_cases, contains_first, contains_later}
use Rattle.nc_yang_nodes.specs.Alike.{AreAlike, SeenNode, seen_node}
use Rattle.nc_yang_nodes.specs.Plans.{statement_of}
use Rattle.nc_yang_nodes.specs.Roles.{FeatureTest}
use Rattle.nc_yang_nodes.specs.declared.planned.Planned.{Planned}
use Rattle.nc_yang_nodes.specs.Picks.{Picks, none, passed, picked}
use Rattle.nc_yang_nodes.proofs.NumberLemmas.{number_at_place}
use Rattle.nc_yang.specs.Rules.{KeepsTexts}
use Rattle.nc_yang_data.specs.Modules.{modules_from}
use Rattle.nc_yang_types.specs.Faults.{KeepsTypes}
use Rattle.nc_yang_types.specs.Wholes.{MeansWhole}
use Rattle.nc_yang_leafs.specs.Bases.{AllMeanWhole, basis_on}
use Rattle.nc_yang.specs.Typedefs.{AreJudged, IsJudged, blank_leaf, blank_leafs, leaf_by, opened, own_typedef, typedef_plan, typedef_tables, typedefs, typedefs_in, typedefs_within}
use Rattle.nc_yang.proofs.Lists.{find_there, flat_origin, flat_where, mapped}
use Rattle.nc_yang.proofs.Looked.{Looked, looked_in, put}
use Rattle.nc_yang.proofs.Meaning.{all_mean}

-- what is picked passes, and stood there
pub picked_at : {A : Type 0} (P : A → Type 0) (xs found : List A) → Picks P xs found → (i : ℕ) (x : A) → slice_get found i ≡ Some x → P x × Contains xs x
picked_at P _ _ none i x at = absurd (cc)
picked_at P _ _ (picked y ys found p more) zero x at =
    let same : y ≡ x = cc in (subst P same p, subst (λ z. Contains (y ∷ ys) z) same (contains_first y ys))
picked_at P _ _ (picked y ys found p more) (suc i) x at = let r = picked_at P ys found more i x at in (r.0, contains_later y ys x r.1)
picked_at P _ _ (passed y ys found p more) i x at = let r = picked_at P ys found more i x at in (r.0, contains_later y ys x r.1)

-- ---- plans of typedefs by other numbers of the same statements
abbrev seen_by : Option Located → SeenNode
seen_by statement = record { statement = statement; in_module = 0; parent = None; level = 0; cases = []; deny = DenyNothing }

leafs_seen : (scoping : Scoping) (ns : List ℕ) → map (seen_node scoping) (map leaf_by ns) ≡ map seen_by (map (slice_get scoping.located) ns)
leafs_seen scoping [] = refl
leafs_seen scoping (n ∷ ns) = ap (λ zs. seen_by (slice_get scoping.located n) ∷ zs) (leafs_seen scoping ns)

pub typedefs_alike : (scoping : Scoping) (ns ms : List ℕ) → map (slice_get scoping.located) ns ≡ map (slice_get scoping.located) ms → AreAlike scoping (typedef_plan ns) (typedef_plan ms)
typedefs_alike scoping ns ms same = record { nodes = leafs_seen scoping ns ∙ ap (map seen_by) same ∙ sym (leafs_seen scoping ms); choices = refl }

abbrev blank_by : Option Located → Node
blank_by statement = blank_leaf

blanks : (scoping : Scoping) (ns : List ℕ) → blank_leafs ns ≡ map blank_by (map (slice_get scoping.located) ns)
blanks scoping [] = refl
blanks scoping (n ∷ ns) = ap (λ zs. blank_leaf ∷ zs) (blanks scoping ns)

pub tables_same : (scoping : Scoping) (on : FeatureTest) (ns ms : List ℕ) → map (slice_get scoping.located) ns ≡ map (slice_get scoping.located) ms →
    typedef_tables scoping on ns ≡ typedef_tables scoping on ms
tables_same scoping on ns ms same =
    ap (λ (nodes : List Node). record { nodes = nodes; choices = []; types = []; modules = modules_from on 0 scoping.texts; patterns = [] }) (blanks scoping ns ∙ ap (map blank_by) same ∙ sym (blanks scoping ms))

-- ---- their types
module _ (on : ℕ → List ℕ → Bool) (texts : List Statement) (keeps : KeepsTexts texts) (types : KeepsTypes on texts) where
  abbrev IsTypedefHere : Located → Type 0
  IsTypedefHere l = Looked texts l × (is_same_keyword Typedef (kind l.statement) ≡ true)

  -- what is a typedef by itself
  own_looked : (k : Located) → Looked texts k → (l : Located) → Contains (own_typedef k) l → IsTypedefHere l
  own_looked k looked l h = by (is_same_keyword Typedef (kind k.statement)) refl h
    where
      by : (b : Bool) → is_same_keyword Typedef (kind k.statement) ≡ b → Contains (cond b (k ∷ []) []) l → IsTypedefHere l
      by true e among = elim (contains_cases k [] l among) [ inl same ↦ subst IsTypedefHere same (looked, e) | inr nothing ↦ absurd (contains_none l nothing) ]
      by false e among = absurd (contains_none l among)

  -- what stands directly in a statement that is looked at is looked at
  opened_looked : (k : Located) → Looked texts k → (i : ℕ) (c : Located) → slice_get (opened k) i ≡ Some c → Looked texts c
  opened_looked k looked i c at = by (is_closed (kind k.statement)) refl at
    where
      by : (b : Bool) → is_closed (kind k.statement) ≡ b → slice_get (cond b [] (map (in_it k) (below k.statement))) i ≡ Some c → Looked texts c
      by true e f = absurd (cc)
      by false e f =
          let m = mapped (in_it k) (slice_get (below k.statement) i) c (sym (slice_get-map (in_it k) (below k.statement) i) ∙ f) in
          subst (Looked texts) m.2 (looked_in texts k i m.0 looked e m.1)

  within_looked : (levels : ℕ) (k : Located) → Looked texts k → (l : Located) → Contains (typedefs_within levels k) l → IsTypedefHere l
  unfolding typedefs_within
  within_looked zero k looked l h = own_looked k looked l h
  within_looked (suc levels) k looked l h =
      elim (Contains-append_cases (own_typedef k) (flat_map (typedefs_within levels) (opened k)) l h) [
        | inl own ↦ own_looked k looked l own
        | inr deeper ↦ let f = flat_where (typedefs_within levels) (opened k) l deeper in within_looked levels f.1 (opened_looked k looked f.0 f.1 f.2) l f.3
      ]

  typedef_looked : (l : Located) → Contains (typedefs texts) l → IsTypedefHere l
  typedef_looked l h =
      let o = flat_origin (typedefs_in texts) (range_with_len 0 (length texts)) l h in
      by o.0 (root texts o.0) refl o.1
    where
      by : (text : ℕ) (o : Option Located) → root texts text ≡ o → Contains (option_map_or (typedefs_within 64) o []) l → IsTypedefHere l
      by text None is among = absurd (contains_none l among)
      by text (Some top) is among = within_looked 64 top (record { text = text; top = top; is_top = is; stands = itself top }) l among

  type_whole : (l t : Located) → Contains (typedefs texts) l → part_of TypeName l ≡ Some t → MeansWhole on texts t
  type_whole l t h is =
      let k = typedef_looked l h in
      let m = mapped (put l) (part TypeName (below l.statement)) t is in
      let f = find_there (λ s. is_same_keyword TypeName (kind s)) (below l.statement) m.0 m.1 in
      let is_open : is_closed (kind l.statement) ≡ false = ap is_closed (sym (same_keyword Typedef (kind l.statement) k.1)) in
      subst (MeansWhole on texts) m.2 (all_mean on texts keeps types (put l m.0) (looked_in texts l f.0 m.0 k.0 is_open f.1) f.2)

-- a judged typedef of a place
module _ (on : ℕ → List ℕ → Bool) (scoping : Scoping) (numbers : List ℕ) (are : AreJudged on scoping numbers) where
  pub record Judged (place : ℕ) : Type 0 where
    pub number : ℕ
    pub at : slice_get numbers place ≡ Some number
    pub typedef : Located
    pub is : slice_get scoping.located number ≡ Some typedef
    pub judged : IsJudged on scoping.texts typedef
    pub among : Contains (typedefs scoping.texts) typedef

  pub judged_at : (place number : ℕ) → slice_get numbers place ≡ Some number → Judged place
  judged_at place number at =
      let l = number_at_place scoping.located numbers are.0 place number are.1 at in
      let p = picked_at (IsJudged on scoping.texts) (typedefs scoping.texts) are.0 are.2 place l.0 l.1 in
      record { number = number; at = at; typedef = l.0; is = l.2; judged = p.0; among = p.1 }

  pub typedef_stated : (place : ℕ) (j : Judged place) → statement_of scoping (typedef_plan numbers) place ≡ Some j.typedef
  typedef_stated place j =
      ap (option_and_then (λ (n : Planned). slice_get scoping.located n.statement)) (slice_get-map leaf_by numbers place ∙ ap (option_map leaf_by) j.at) ∙ j.is

pub typedefs_mean : (on : ℕ → List ℕ → Bool) (scoping : Scoping) (features : FeatureTest) → KeepsTexts scoping.texts → KeepsTypes on scoping.texts → (numbers : List ℕ) →
    AreJudged on scoping numbers → AllMeanWhole (basis_on on scoping (typedef_plan numbers) (typedef_tables scoping features numbers))
typedefs_mean on scoping features keeps types numbers are place node at has =
    let m = mapped (λ _. blank_leaf) (slice_get numbers place) node (sym (slice_get-map (λ _. blank_leaf) numbers place) ∙ at) in
    let j = judged_at on scoping numbers are place m.0 m.1 in
    let t = j.judged.of_type in (
      t.of_type,
      ap (option_and_then (part_of TypeName)) (typedef_stated on scoping numbers are place j) ∙ t.is_type,
      type_whole on scoping.texts keeps types j.typedef t.of_type j.among t.is_type,
    )
