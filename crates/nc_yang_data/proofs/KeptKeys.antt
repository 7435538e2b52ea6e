-- The keys of lists where no rule is broken.
use Rattle.std.proofs.Common.{◌≡◌, ◌≢◌, ◌++◌, ◌&&◌, ◌||◌, eqb, ℕ, Bool, true, false, List, [], ◌∷◌, length, map, filter, nat_lt, Option, Some, None, refl, sym, ap, subst, ◌∙◌, arith}
use Rattle.std.specs.Prelude.{IsSomeAnd, option_and_then, slice_get, unwrap_or, if◌then◌else◌}
use Rattle.std.specs.List.{All, AllPairs, list_any, slice_split}
use Rattle.std.specs.Option.{option_map_or}
use Rattle.std.proofs.lemmas.Bool.Decides.{Decides-eqb}
use Rattle.std.proofs.lemmas.List.Elements.{All-cons, All-head, All-nil, All-tail}
use Rattle.std.proofs.lemmas.List.Folds.{list_any-append}
use Rattle.std.proofs.lemmas.List.Kept.{AllPairs-cons}
use Rattle.std.proofs.lemmas.List.Quantifiers.{position-Some}
use Rattle.std.proofs.lemmas.Option.{option_and_then_some, slice_get-get_or}
use Rattle.std.proofs.Common.{get_or}
use Rattle.nc_names.proofs.SameLemmas.{first_true, second_true}
use Rattle.nc_names.specs.Same.{is_same_name}
use Rattle.nc_names.specs.Signs.{is_white}
use Rattle.nc_names.specs.declared.name.QName.{QName}
use Rattle.nc_schema.specs.Children.{child_number, is_same_number}
use Rattle.nc_schema.specs.Kinds.{is_leaf}
use Rattle.nc_schema.specs.Proper.{HasItsKeys, IsKeyIn}
use Rattle.nc_schema.specs.Tables.{Tables}
use Rattle.nc_schema.specs.declared.node.Case.{Case}
use Rattle.nc_schema.specs.declared.node.Kind.{Kind}
use Rattle.nc_schema.specs.declared.node.Kind.TheVariants.{Container, Leaf, LeafList, List as ListKind}
use Rattle.nc_schema.specs.declared.node.Node.{Node}
use Rattle.nc_yang_words.specs.declared.statement.Statement.{Statement}
use Rattle.nc_yang_statements.specs.Keywords.{is_same_keyword}
use Rattle.nc_yang_statements.specs.Rules.{at_if}
use Rattle.nc_yang_statements.specs.Statements.{below, has, kind, name, part}
use Rattle.nc_yang_statements.specs.declared.fault.ModuleWhy.TheVariants.{BadArgument, Missing, Twice, UnknownName}
use Rattle.nc_yang_statements.specs.declared.keyword.Keyword.{Keyword}
use Rattle.nc_yang_statements.specs.declared.keyword.Keyword.TheVariants.{Key, Leaf as LeafWord, LeafList as LeafListWord, List as ListWord, Presence}
use Rattle.nc_yang_scopes.specs.Prefixes.{namespace_at}
use Rattle.nc_yang_scopes.specs.Scopes.{Located, Scoping}
use Rattle.nc_yang_nodes.specs.Roles.{FeatureTest}
use Rattle.nc_yang_nodes.specs.declared.planned.Plan.{Plan}
use Rattle.nc_yang_data.specs.Drafts.{draft_in, kind_of, unknown_in}
use Rattle.nc_yang_data.specs.Leafs.{CaseTest, names_case, all_there, child_at, child_named, if_node, key_at, leafs_by, local_name, may_be_key, space_at}
use Rattle.nc_yang_data.specs.Lists.{has_again, has_none, key_faults, keyless, keys_of, list_faults, not_unique}
use Rattle.nc_yang_data.specs.Places.{list_leafs, node_leafs}
use Rattle.nc_yang_data.specs.declared.naming.Naming.TheVariants.{Keys}
use Rattle.nc_yang_data.proofs.Kept.{Known, alone, append_nothing, at_if_off, in_whole, mapped, parts_off, passed_by, whole}

-- ---- tests of numbers
both_off : (a b : Bool) → (a || b) ≡ false → (a ≡ false) × (b ≡ false)
both_off true b e = absurd (cc)
both_off false b e = (refl, e)

apart_from : (n m : ℕ) → eqb n m ≡ false → n ≢ m
apart_from n m e same =
    let clash : true ≡ false = sym ((Decides-eqb n m).1 same) ∙ e in
    cc

again_apart : (before ns : List ℕ) → has_again before ns ≡ false →
    AllPairs (λ (key : ℕ) (later : ℕ). key ≢ later) ns × All (λ (n : ℕ). list_any (λ m. eqb m n) before ≡ false) ns
again_apart before [] e = (λ i j d less within. absurd (omega (arith, within)), All-nil (λ (n : ℕ). list_any (λ m. eqb m n) before ≡ false))
again_apart before (n ∷ ns) e =
    let (own, rest) = both_off (list_any (λ m. eqb m n) before) (has_again (before ++ n ∷ []) ns) e in
    let (pairs, others) = again_apart (before ++ n ∷ []) ns rest in (
      AllPairs-cons (λ (key : ℕ) (later : ℕ). key ≢ later) n ns (later ns others) pairs,
      All-cons (λ (k : ℕ). list_any (λ m. eqb m k) before ≡ false) n ns own (earlier ns others),
    )
  where
    split : (k : ℕ) → list_any (λ m. eqb m k) (before ++ n ∷ []) ≡ false → (list_any (λ m. eqb m k) before ≡ false) × (eqb n k ≡ false)
    split k off =
        let (one, two) = both_off (list_any (λ m. eqb m k) before) (eqb n k || false) (sym (list_any-append (λ m. eqb m k) before (n ∷ [])) ∙ off) in
        (one, (both_off (eqb n k) false two).0)

    later : (ks : List ℕ) → All (λ (k : ℕ). list_any (λ m. eqb m k) (before ++ n ∷ []) ≡ false) ks → All (λ (k : ℕ). n ≢ k) ks
    later [] h = All-nil (λ (k : ℕ). n ≢ k)
    later (k ∷ ks) h =
        All-cons (λ (k : ℕ). n ≢ k) k ks (apart_from n k (split k (All-head (λ (k : ℕ). list_any (λ m. eqb m k) (before ++ n ∷ []) ≡ false) k ks h)).1)
        (later ks (All-tail (λ (k : ℕ). list_any (λ m. eqb m k) (before ++ n ∷ []) ≡ false) k ks h))

    earlier : (ks : List ℕ) → All (λ (k : ℕ). list_any (λ m. eqb m k) (before ++ n ∷ []) ≡ false) ks → All (λ (k : ℕ). list_any (λ m. eqb m k) before ≡ false) ks
    earlier [] h = All-nil (λ (k : ℕ). list_any (λ m. eqb m k) before ≡ false)
    earlier (k ∷ ks) h =
        All-cons (λ (k : ℕ). list_any (λ m. eqb m k) before ≡ false) k ks (split k (All-head (λ (k : ℕ). list_any (λ m. eqb m k) (before ++ n ∷ []) ≡ false) k ks h)).0
        (earlier ks (All-tail (λ (k : ℕ). list_any (λ m. eqb m k) (before ++ n ∷ []) ≡ false) k ks h))

-- ---- each key has a word
pub there_each : (test : List ℕ → Option ℕ) (parts : List (List ℕ)) (keys : List ℕ) → all_there (map test parts) ≡ Some keys →
    All (λ (key : ℕ). (word : List ℕ) × (test word ≡ Some key)) keys
there_each test [] keys e =
    let same : [] ≡ keys = cc in
    subst (All (λ (key : ℕ). (word : List ℕ) × (test word ≡ Some key))) same (All-nil (λ (key : ℕ). (word : List ℕ) × (test word ≡ Some key)))
there_each test (one ∷ parts) keys e = by (λ more is. there_each test parts more is) (test one) refl
  where
    by : ((more : List ℕ) → all_there (map test parts) ≡ Some more → All (λ (key : ℕ). (word : List ℕ) × (test word ≡ Some key)) more) →
        (o : Option ℕ) → test one ≡ o → All (λ (key : ℕ). (word : List ℕ) × (test word ≡ Some key)) keys
    by rest None f =
        let clash : None ≡ Some keys = sym (ap (λ o. all_there (o ∷ map test parts)) f) ∙ e in
        absurd (cc)
    by rest (Some key) f =
        let (more, is, same) =
        mapped (λ (more : List ℕ). key ∷ more) (all_there (map test parts)) keys (sym (ap (λ o. all_there (o ∷ map test parts)) f) ∙ e) in
        subst (All (λ (key : ℕ). (word : List ℕ) × (test word ≡ Some key))) (sym same)
        (All-cons (λ (key : ℕ). (word : List ℕ) × (test word ≡ Some key)) key more (one, f) (rest more is))

-- ---- what is known of a key
pub leaf_is : (k : Kind) → is_leaf k ≡ true → k ≡ Leaf
leaf_is (Container presence) e = absurd (cc)
leaf_is Leaf e = refl
leaf_is LeafList e = absurd (cc)
leaf_is ListKind e = absurd (cc)

none_is : (xs : List Case) → eqb (length xs) 0 ≡ true → xs ≡ []
none_is [] e = refl
none_is (x ∷ xs) e =
    let size : length (x ∷ xs) ≡ 0 = (Decides-eqb (length (x ∷ xs)) 0).0 e in
    absurd (omega (arith, size))

same_number : (o : Option ℕ) (n : ℕ) → is_same_number o (Some n) ≡ true → o ≡ Some n
same_number None n e = absurd (cc)
same_number (Some k) n e = ap (λ (m : ℕ). Some m) ((Decides-eqb k n).0 e)

pub passes : (b : Bool) (c key : ℕ) → (if b then Some c else None) ≡ Some key → (b ≡ true) × (c ≡ key)
passes true c key e = (refl, cc)
passes false c key e = absurd (cc)

-- a node that is a key of another, alone
record IsKeyAlone (tables : Tables) (number key : ℕ) : Type 0 where
  x : Node
  there : slice_get tables.nodes key ≡ Some x
  parent : x.parent ≡ Some number
  kind : x.kind ≡ Leaf
  cases : x.cases ≡ []

first_child : (tables : Tables) (number : ℕ) (name : QName) (c : ℕ) → child_number tables (Some number) name ≡ Some c →
    (x : Node) × (slice_get tables.nodes c ≡ Some x) × (x.parent ≡ Some number)
first_child tables number name c e = by tables.nodes e
  where
    by : (nodes : List Node) → child_number (record tables { nodes = nodes }) (Some number) name ≡ Some c →
        (x : Node) × (slice_get nodes c ≡ Some x) × (x.parent ≡ Some number)
    by [] e = absurd (cc)
    by (n ∷ nodes) e =
        let is = position-Some (λ (node : Node). is_same_number node.parent (Some number) && is_same_name node.name name) (n ∷ nodes) c n e in
        let x : Node = get_or (n ∷ nodes) c n in
        (x, slice_get-get_or (n ∷ nodes) c n is.0, same_number x.parent number (first_true (is_same_number x.parent (Some number)) (is_same_name x.name name) is.1))

-- by its local name
pub named_there : (tables : Tables) (number : ℕ) (local : List ℕ) (c : ℕ) → child_named tables number local ≡ Some c →
    (x : Node) × (slice_get tables.nodes c ≡ Some x) × (x.parent ≡ Some number)
named_there tables number local c found = first_child tables number (record { space = space_at tables number; name = local }) c found

pub child_there : (texts : List Statement) (tables : Tables) (text number : ℕ) (word : List ℕ) (c : ℕ) → child_at texts tables text number word ≡ Some c →
    (x : Node) × (slice_get tables.nodes c ≡ Some x) × (x.parent ≡ Some number)
child_there texts tables text number word c at =
    option_and_then_some (child_named tables number) (local_name texts text word) c at
    (λ local said found. named_there tables number local c found)

key_alone : (texts : List Statement) (tables : Tables) (text number : ℕ) (word : List ℕ) (key : ℕ) → key_at texts tables text number word ≡ Some key →
    IsKeyAlone tables number key
key_alone texts tables text number word key e =
    option_and_then_some (if_node may_be_key tables) (child_at texts tables text number word) key e
    (λ c at is.
    let (good, same) = passes (option_map_or may_be_key (slice_get tables.nodes c) false) c key is in
    let (y, here, passes_y) = passed_by may_be_key (slice_get tables.nodes c) good in
    let (x, there, parent) = child_there texts tables text number word c at in
    let one : Some y ≡ Some x = sym here ∙ there in
    let yx : y ≡ x = cc in
    let good_x : may_be_key x ≡ true = subst (λ (z : Node). may_be_key z ≡ true) yx passes_y in
    record {
      x = x;
      there = subst (λ m. slice_get tables.nodes m ≡ Some x) same there;
      parent = parent;
      kind = leaf_is x.kind (first_true (is_leaf x.kind) (eqb (length x.cases) 0) good_x);
      cases = none_is x.cases (second_true (is_leaf x.kind) (eqb (length x.cases) 0) good_x);
    })

-- ---- the `key` statement of a list
record HasKeys (texts : List Statement) (tables : Tables) (named : CaseTest) (text number : ℕ) (list : Statement) : Type 0 where
  keys : List ℕ
  are : keys_of texts tables named text number list ≡ Some keys
  some : has_none keys ≡ false
  once : has_again [] keys ≡ false
  each : All (λ (key : ℕ). (word : List ℕ) × (key_at texts tables text number word ≡ Some key)) keys

has_keys : (texts : List Statement) (tables : Tables) (named : CaseTest) (text number : ℕ) (list : Statement) → keyless texts tables named text number list ≡ [] →
    HasKeys texts tables named text number list
has_keys texts tables named text number list off = by (part Key (below list)) refl
  where
    by : (o : Option Statement) → part Key (below list) ≡ o → HasKeys texts tables named text number list
    by None f =
        let clash = at_if_off true list Missing (sym (ap (λ o. option_map_or (λ (s : Statement). key_faults s (leafs_by Keys texts tables named text number (name s))) o (at_if true list Missing)) f) ∙ off) in
        absurd (cc)
    by (Some s) f =
        inner (leafs_by Keys texts tables named text number (name s)) refl
        (sym (ap (λ o. option_map_or (λ (s : Statement). key_faults s (leafs_by Keys texts tables named text number (name s))) o (at_if true list Missing)) f) ∙ off)
      where
        inner : (r : Option (List ℕ)) → leafs_by Keys texts tables named text number (name s) ≡ r → key_faults s (leafs_by Keys texts tables named text number (name s)) ≡ [] →
            HasKeys texts tables named text number list
        inner None g none =
            let clash = at_if_off true s UnknownName (sym (ap (key_faults s) g) ∙ none) in
            absurd (cc)
        inner (Some keys) g none =
            let (one, two) = append_nothing (at_if (has_none keys) s BadArgument) (at_if (has_again [] keys) s Twice) (sym (ap (key_faults s) g) ∙ none) in
            record {
              keys = keys;
              are = ap (λ o. option_and_then (λ (s : Statement). leafs_by Keys texts tables named text number (name s)) o) f ∙ g;
              some = at_if_off (has_none keys) s BadArgument one;
              once = at_if_off (has_again [] keys) s Twice two;
              each = there_each (key_at texts tables text number) (filter (λ part. nat_lt 0 (length part)) (slice_split is_white (name s))) keys g;
            }

-- ---- kinds
kind_by : (b c d : Bool) (presence : Bool) → b ≡ false → (if b then ListKind else (if c then Leaf else (if d then LeafList else Container presence))) ≢ ListKind
kind_by true c d presence off e = absurd (cc)
kind_by false true d presence off e = cc
kind_by false false true presence off e = cc
kind_by false false false presence off e = cc

kind_other : (k : Keyword) (ss : List Statement) → is_same_keyword ListWord k ≡ false → kind_of k ss ≢ ListKind
kind_other k ss off = kind_by (is_same_keyword ListWord k) (is_same_keyword LeafWord k) (is_same_keyword LeafListWord k) (has Presence ss) off

kind_list : (k : Keyword) (ss : List Statement) → is_same_keyword ListWord k ≡ true → kind_of k ss ≡ ListKind
kind_list k ss is =
    ap (λ b. if b then ListKind else (if is_same_keyword LeafWord k then Leaf else (if is_same_keyword LeafListWord k then LeafList else Container (has Presence ss)))) is

pub some_keys : (keys : List ℕ) → has_none keys ≡ false → keys ≢ []
some_keys [] off e = absurd (cc)
some_keys (k ∷ keys) off e = absurd (cc)

module _ (scoping : Scoping) (on : FeatureTest) (plan : Plan) (number : ℕ) (node : Node) (k : Known scoping on plan number node) where
  kind_is : node.kind ≡ kind_of (kind k.l.statement) (below k.l.statement)
  kind_is =
      ap (λ (n : Node). n.kind) k.is
      ∙ ap (λ o. (option_map_or (λ (l : Located). draft_in (namespace_at scoping.texts k.p.module) k.p l.statement) o (unknown_in (namespace_at scoping.texts k.p.module) k.p)).kind) k.located

  keys_are : node.keys ≡ (node_leafs scoping.texts (alone scoping on plan) (names_case scoping on plan) k.l.place.text number k.l.statement).keys
  keys_are =
      ap (λ (n : Node). n.keys) k.is
      ∙ ap (λ o. (option_map_or (λ (l : Located). node_leafs scoping.texts (alone scoping on plan) (names_case scoping on plan) l.place.text number l.statement) o (record { keys = []; uniques = [] })).keys) k.located

  key_in : (key : ℕ) → (word : List ℕ) × (key_at scoping.texts (alone scoping on plan) k.l.place.text number word ≡ Some key) →
      IsSomeAnd (slice_get (whole scoping on plan).nodes key) (IsKeyIn number)
  key_in key given =
      let h = key_alone scoping.texts (alone scoping on plan) k.l.place.text number given.0 key given.1 in
      let (leafs, here) = in_whole scoping on plan key h.x h.there in
      subst (λ o. IsSomeAnd o (IsKeyIn number)) (sym here) (record { kind = h.kind; parent = h.parent; cases = h.cases })

  keys_in : (keys : List ℕ) → All (λ (key : ℕ). (word : List ℕ) × (key_at scoping.texts (alone scoping on plan) k.l.place.text number word ≡ Some key)) keys →
      All (λ (key : ℕ). IsSomeAnd (slice_get (whole scoping on plan).nodes key) (IsKeyIn number)) keys
  keys_in [] h = All-nil (λ (key : ℕ). IsSomeAnd (slice_get (whole scoping on plan).nodes key) (IsKeyIn number))
  keys_in (key ∷ keys) h =
      All-cons (λ (key : ℕ). IsSomeAnd (slice_get (whole scoping on plan).nodes key) (IsKeyIn number)) key keys
      (key_in key (All-head (λ (key : ℕ). (word : List ℕ) × (key_at scoping.texts (alone scoping on plan) k.l.place.text number word ≡ Some key)) key keys h))
      (keys_in keys (All-tail (λ (key : ℕ). (word : List ℕ) × (key_at scoping.texts (alone scoping on plan) k.l.place.text number word ≡ Some key)) key keys h))

  pub its_keys : HasItsKeys (whole scoping on plan) number node
  its_keys = by (is_same_keyword ListWord (kind k.l.statement)) refl
    where
      by : (b : Bool) → is_same_keyword ListWord (kind k.l.statement) ≡ b → HasItsKeys (whole scoping on plan) number node
      by false e =
          let none : node.keys ≡ [] =
          keys_are
          ∙ ap (λ b. (if b then list_leafs scoping.texts (alone scoping on plan) (names_case scoping on plan) k.l.place.text number k.l.statement else record { keys = []; uniques = [] }).keys) e in
          let other : node.kind ≢ ListKind = λ is. kind_other (kind k.l.statement) (below k.l.statement) e (sym kind_is ∙ is) in
          record {
            some = (λ is. absurd (other is), λ any. absurd (any none));
            leafs = subst (All (λ (key : ℕ). IsSomeAnd (slice_get (whole scoping on plan).nodes key) (IsKeyIn number))) (sym none)
                (All-nil (λ (key : ℕ). IsSomeAnd (slice_get (whole scoping on plan).nodes key) (IsKeyIn number)));
            apart = subst (AllPairs (λ (key : ℕ) (later : ℕ). key ≢ later)) (sym none) (again_apart [] [] refl).0;
          }
      by true e =
          let off =
          sym (ap (λ b. if b then list_faults scoping.texts (alone scoping on plan) (names_case scoping on plan) k.l.place.text number k.l.statement else []) e)
          ∙ (parts_off scoping on plan number node k).3 in
          let h =
          has_keys scoping.texts (alone scoping on plan) (names_case scoping on plan) k.l.place.text number k.l.statement
          (append_nothing (keyless scoping.texts (alone scoping on plan) (names_case scoping on plan) k.l.place.text number k.l.statement)
          (not_unique scoping.texts (alone scoping on plan) (names_case scoping on plan) k.l.place.text number k.l.statement) off).0 in
          let are : node.keys ≡ h.keys =
          keys_are
          ∙ ap (λ b. (if b then list_leafs scoping.texts (alone scoping on plan) (names_case scoping on plan) k.l.place.text number k.l.statement else record { keys = []; uniques = [] }).keys) e
          ∙ ap (λ o. unwrap_or o []) h.are in
          record {
            some = (λ is none. some_keys h.keys h.some (sym are ∙ none), λ any. kind_is ∙ kind_list (kind k.l.statement) (below k.l.statement) e);
            leafs = subst (All (λ (key : ℕ). IsSomeAnd (slice_get (whole scoping on plan).nodes key) (IsKeyIn number))) (sym are) (keys_in h.keys h.each);
            apart = subst (AllPairs (λ (key : ℕ) (later : ℕ). key ≢ later)) (sym are) (again_apart [] h.keys h.once).0;
          }
