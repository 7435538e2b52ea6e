-- Names that types choose among those of others, in sets and maps.
use Rattle.std.proofs.Common.{◌≡◌, ◌<◌, ◌≤◌, ◌+◌, ◌&&◌, ◌||◌, ◌++◌, ℕ, Bool, true, false, cond, if◌then◌else◌, List, [], ◌∷◌, length, drop, map, get_or, Some, None, refl, sym, ap, ◌∙◌, arith, Bor}
use Rattle.std.specs.Prelude.{ℤ}
use Rattle.std.specs.BTreeMap.{BTreeMap, get}
use Rattle.std.specs.BTreeSet.{BTreeSet, contains}
use Rattle.std.specs.List.{filter, flat_map}
use Rattle.std.specs.Ordering.{is_eq}
use Rattle.std.proofs.lemmas.Grind.{common_steps}
use Rattle.std.proofs.lemmas.List.{append_assoc, append-nil}
use Rattle.std.proofs.lemmas.List.Folds.{list_any-append}
use Rattle.std.proofs.lemmas.List.Sums.{fold-append}
use Rattle.std.proofs.lemmas.Map.Text.{is_eq-slice_cmp}
use Rattle.nc_names.specs.Same.{is_same_text}
use Rattle.nc_schema.specs.declared.value_type.ValueType.{ValueType}
use Rattle.nc_schema.specs.declared.value_type.ValueType.TheVariants.{Bits as Set, Enumeration as Names}
use Rattle.nc_yang_words.specs.declared.statement.Statement.{Statement}
use Rattle.nc_yang_statements.specs.Rules.{at_if, first}
use Rattle.nc_yang_statements.specs.Statements.{has, name}
use Rattle.nc_yang_statements.specs.declared.fault.ModuleWhy.TheVariants.{Twice}
use Rattle.nc_yang_types.specs.declared.member.Listed.{Listed}
use Rattle.nc_yang_types.specs.declared.member.Listed.TheVariants.{Enums, Flags}
use Rattle.nc_yang_types.specs.declared.member.Named.{Named}
use Rattle.nc_yang_types.specs.Entries.{lists, names_left}
use Rattle.nc_yang_types.specs.Members.{chosen, gives_name, guarded_by, has_name, ill_choice, ill_choices, is_chosen, is_guarded, is_member, member_word, number_in, number_with, renamed, still_listed, unlike}
use Rattle.nc_yang_types.specs.inner.Known.{HasChosen, HasListing, has_text, text_order}

turned : (a b : Bool) → cond a true b ≡ (b || (a || false))
turned true true = refl
turned true false = refl
turned false true = refl
turned false false = refl

and_true : (b : Bool) → b ≡ (b && true)
and_true true = refl
and_true false = refl

ends_same : (b : Bool) → b ≡ (b || (false || false))
ends_same true = refl
ends_same false = refl

module _ (stands : Statement → Bool) (listed : Listed) where
  -- a statement gives a name, and its conditions hold
  chooses : List ℕ → Statement → Bool
  chooses text s = gives_name listed text s && stands s

  gives : (s : Statement) (text : List ℕ) → is_member listed s ≡ true → stands s ≡ true → is_same_text (name s) text ≡ ((is_member listed s && is_same_text (name s) text) && stands s)
  gives s text is holds = and_true (is_same_text (name s) text) ∙ (λ i. (sym is i && is_same_text (name s) text) && sym holds i)

  pub chosen_added : (before now : BTreeSet (Bor (List ℕ))) (text : Bor (List ℕ)) (s : Statement) (ss : List Statement) →
      text.now ≡ name s →
      ((key : Bor (List ℕ)) → contains text_order now key ≡ cond (is_eq (text_order text key)) true (contains text_order before key)) →
      HasChosen stands listed before ss → is_member listed s ≡ true → stands s ≡ true → HasChosen stands listed now (ss ++ s ∷ [])
  chosen_added before now text s ss same put has_them is holds key =
      put key
      ∙ ap (λ b. cond b true (contains text_order before key)) (is_eq-slice_cmp text.now key.now ∙ ap (λ t. is_same_text t key.now) same ∙ gives s key.now is holds)
      ∙ turned (gives_name listed key.now s && stands s) (contains text_order before key)
      ∙ ap (λ b. b || ((gives_name listed key.now s && stands s) || false)) (has_them key)
      ∙ sym (list_any-append (λ t. gives_name listed key.now t && stands t) ss (s ∷ []))

  passed_by : (s : Statement) (text : List ℕ) (m h : Bool) → is_member listed s ≡ m → stands s ≡ h → (m && h) ≡ false → ((is_member listed s && is_same_text (name s) text) && stands s) ≡ false
  passed_by s text false h is holds none = ap (λ b. (b && is_same_text (name s) text) && stands s) is
  passed_by s text true true is holds none = absurd (cc)
  passed_by s text true false is holds none = ap (λ b. (is_member listed s && is_same_text (name s) text) && b) holds ∙ and_false (is_member listed s && is_same_text (name s) text)
    where
      and_false : (b : Bool) → (b && false) ≡ false
      and_false true = refl
      and_false false = refl

  chosen_passed : (set : BTreeSet (Bor (List ℕ))) (s : Statement) (ss : List Statement) → ((text : List ℕ) → (gives_name listed text s && stands s) ≡ false) → HasChosen stands listed set ss →
      HasChosen stands listed set (ss ++ s ∷ [])
  chosen_passed set s ss none has_them key =
      has_them key ∙ ends_same (is_chosen stands listed ss key.now)
      ∙ ap (λ b. is_chosen stands listed ss key.now || (b || false)) (sym (none key.now))
      ∙ sym (list_any-append (λ t. gives_name listed key.now t && stands t) ss (s ∷ []))

  pub chosen_other : (set : BTreeSet (Bor (List ℕ))) (s : Statement) (ss : List Statement) → is_member listed s ≡ false → HasChosen stands listed set ss → HasChosen stands listed set (ss ++ s ∷ [])
  chosen_other set s ss is = chosen_passed set s ss (λ text. passed_by s text false (stands s) is refl refl)

  pub chosen_off : (set : BTreeSet (Bor (List ℕ))) (s : Statement) (ss : List Statement) → is_member listed s ≡ true → stands s ≡ false → HasChosen stands listed set ss →
      HasChosen stands listed set (ss ++ s ∷ [])
  chosen_off set s ss is holds = chosen_passed set s ss (λ text. passed_by s text true false is holds refl)

  abbrev bor : List ℕ → Bor (List ℕ)
  bor text = record { ref_ptr = (0, 0); now = text }

  module _ (ss : List Statement) (set : BTreeSet (Bor (List ℕ))) (known : HasChosen stands listed set ss) where
    same_test : (text : List ℕ) → has_text set text ≡ is_chosen stands listed ss text
    same_test text = known (bor text)

    pub chosen_is : (taken kept : List (List ℕ)) → has (member_word listed) ss ≡ true → kept ≡ filter (has_text set) taken → chosen stands listed ss taken ≡ kept
    chosen_is taken kept there is =
        ap (λ b. cond b (filter (is_chosen stands listed ss) taken) taken) there
        ∙ (λ i. filter (λ text. sym (same_test text) i) taken) ∙ sym is

  pub chosen_all : (ss : List Statement) (taken : List (List ℕ)) → has (member_word listed) ss ≡ false → chosen stands listed ss taken ≡ taken
  chosen_all ss taken none = ap (λ b. cond b (filter (is_chosen stands listed ss) taken) taken) none

pub listed_is : (listed : Listed) (ss : List Statement) (set : BTreeSet (Bor (List ℕ))) (names kept : List Named) → has (member_word listed) ss ≡ true → HasChosen (λ s. true) listed set ss →
    (guarded : BTreeSet (Bor (List ℕ))) (marked : List Named) → HasChosen is_guarded listed guarded ss →
    kept ≡ filter (λ n. has_text set n.name) names → marked ≡ map (guarded_by (has_text guarded)) kept → marked ≡ still_listed listed ss names
listed_is listed ss set names kept there known guarded marked conditions is marked_is =
    marked_is ∙ (λ i. map (λ (n : Named). record n { conditional = n.conditional || conditions (record { ref_ptr = (0, 0); now = n.name }) i }) kept)
    ∙ ap (map (guarded_by (is_chosen is_guarded listed ss))) (is ∙ (λ i. filter (λ (n : Named). known (record { ref_ptr = (0, 0); now = n.name }) i) names))
    ∙ sym (ap (λ b. cond b (map (guarded_by (is_chosen is_guarded listed ss)) (filter (λ (n : Named). is_chosen (λ s. true) listed ss n.name) names)) names) there)

pub listed_all : (listed : Listed) (ss : List Statement) (names kept : List Named) → has (member_word listed) ss ≡ false → kept ≡ names → kept ≡ still_listed listed ss names
listed_all listed ss names kept none is =
    is ∙ sym (ap (λ b. cond b (map (guarded_by (is_chosen is_guarded listed ss)) (filter (λ (n : Named). is_chosen (λ s. true) listed ss n.name) names)) names) none)

-- a type over another that lists no names has those of the other
pub names_kept : (base : ValueType) (names : List Named) (ss : List Statement) → lists base ss ≡ false → names_left base names ss ≡ names
names_kept (Names taken) names ss none = sym (listed_all Enums ss names names none refl)
names_kept (Set taken) names ss none = sym (listed_all Flags ss names names none refl)
names_kept base names ss none = refl

-- where it lists none no name breaks a rule
first_off : (a b : Bool) → (a || b) ≡ false → a ≡ false
first_off true b e = e
first_off false b e = refl

second_off : (a b : Bool) → (a || b) ≡ false → b ≡ false
second_off true b e = absurd (cc)
second_off false b e = e

none_renamed : (listed : Listed) (before ss : List Statement) → has (member_word listed) ss ≡ false → renamed listed before ss ≡ []
none_renamed listed before [] none = refl
none_renamed listed before (s ∷ ss) none =
    ap (λ b. at_if (b && has_name listed (name s) before) s Twice ++ renamed listed (before ++ s ∷ []) ss) (first_off (is_member listed s) (has (member_word listed) ss) none)
    ∙ none_renamed listed (before ++ s ∷ []) ss (second_off (is_member listed s) (has (member_word listed) ss) none)

none_ill : (listed : Listed) (names : List Named) (ss : List Statement) → has (member_word listed) ss ≡ false → flat_map (ill_choice listed names) ss ≡ []
none_ill listed names [] none = refl
none_ill listed names (s ∷ ss) none =
    ap (λ b. (if b then unlike listed (number_in names (name s)) s else []) ++ flat_map (ill_choice listed names) ss) (first_off (is_member listed s) (has (member_word listed) ss) none)
    ∙ none_ill listed names ss (second_off (is_member listed s) (has (member_word listed) ss) none)

pub no_choices : (listed : Listed) (names : List Named) (ss : List Statement) → has (member_word listed) ss ≡ false → None ≡ first (ill_choices listed names ss)
no_choices listed names ss none = sym (λ i. first (none_renamed listed [] ss none i ++ none_ill listed names ss none i))

-- one name more, which comes after those of its name
pub named_added : (before now : BTreeMap (Bor (List ℕ)) ℤ) (text : Bor (List ℕ)) (n : Named) (names : List Named) → text.now ≡ n.name →
    ((key : Bor (List ℕ)) → get text_order now key ≡ cond (is_eq (text_order text key)) (Some n.number) (get text_order before key)) →
    HasListing before names → HasListing now (names ++ n ∷ [])
named_added before now text n names same put known key =
    put key
    ∙ ap (λ b. cond b (Some n.number) (get text_order before key)) (is_eq-slice_cmp text.now key.now ∙ ap (λ t. is_same_text t key.now) same)
    ∙ ap (cond (is_same_text n.name key.now) (Some n.number)) (known key)
    ∙ sym (fold-append (number_with key.now) None names (n ∷ []))

-- ---- one after another
takes : {X : Type 0} (test : X → Bool) (x : X) (xs : List X) → test x ≡ true → filter test (x ∷ xs) ≡ x ∷ filter test xs
takes test x xs e = ap (λ b. cond b (x ∷ filter test xs) (filter test xs)) e

leaves : {X : Type 0} (test : X → Bool) (x : X) (xs : List X) → test x ≡ false → filter test (x ∷ xs) ≡ filter test xs
leaves test x xs e = ap (λ b. cond b (x ∷ filter test xs) (filter test xs)) e

pub kept_next : {X : Type 0} (test : X → Bool) (xs kept now : List X) (index : ℕ) (x : X) → index < length xs → x ≡ get_or xs index x → now ≡ (if test x then kept ++ x ∷ [] else kept)
    → kept ++ filter test (drop index xs) ≡ filter test xs → now ++ filter test (drop (index + 1) xs) ≡ filter test xs
kept_next {X} test xs kept now index x within is put so_far = by (test x) refl put
  where
    cut : drop index xs ≡ x ∷ drop (index + 1) xs
    cut = grind (arith, common_steps, is, within)

    by : (b : Bool) → test x ≡ b → now ≡ (if b then kept ++ x ∷ [] else kept) → now ++ filter test (drop (index + 1) xs) ≡ filter test xs
    by true e put =
        ap (λ (list : List X). list ++ filter test (drop (index + 1) xs)) put ∙ append_assoc kept (x ∷ []) (filter test (drop (index + 1) xs))
        ∙ ap (λ more. kept ++ more) (sym (takes test x (drop (index + 1) xs) e) ∙ ap (filter test) (sym cut)) ∙ so_far
    by false e put =
        ap (λ (list : List X). list ++ filter test (drop (index + 1) xs)) put
        ∙ ap (λ more. kept ++ more) (sym (leaves test x (drop (index + 1) xs) e) ∙ ap (filter test) (sym cut)) ∙ so_far

pub kept_all : {X : Type 0} (test : X → Bool) (xs kept : List X) (index : ℕ) → length xs ≤ index → kept ++ filter test (drop index xs) ≡ filter test xs → kept ≡ filter test xs
kept_all {X} test xs kept index past so_far = sym (append-nil kept) ∙ ap (λ (list : List X). kept ++ filter test list) (sym none) ∙ so_far
  where
    none : drop index xs ≡ []
    none = grind (arith, common_steps, past)
