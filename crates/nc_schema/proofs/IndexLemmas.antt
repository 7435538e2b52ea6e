-- What becomes of an index with the next node.
use Rattle.std.proofs.Common.{◌≡◌, ◌≢◌, ◌⊎◌, ◌&&◌, ◌+◌, ◌<◌, ◌≤◌, ℕ, zero, suc, Bool, true, false, cond, eqb, List, [], ◌∷◌, ◌++◌, Option, Some, None, option_and_then, length, set, get_or, take, slice_get, IfSome, refl, sym, ap, subst, ◌∙◌, inl, inr, arith}
use Rattle.std.proofs.Math.ListN.{length-set}
use Rattle.std.proofs.Math.Seq.{take-set-lt}
use Rattle.std.proofs.lemmas.Bool.{cases_lt, cases_order}
use Rattle.std.proofs.lemmas.Bool.Decides.{eqb_tells}
use Rattle.std.proofs.lemmas.List.{take_all, take-set-le, take-append-le, length_push}
use Rattle.std.proofs.lemmas.List.Elements.{All-push, All-set}
use Rattle.std.proofs.lemmas.Option.{slice_get-get_or, get_or_from_slice_get, slice_get_past, slice_get_within}
use Rattle.std.specs.List.{All}
use Rattle.std.specs.Map.{lookup}
use Rattle.std.specs.Prelude.{is_some}
use Rattle.std.specs.BTreeMap.{IsEmpty}
use Rattle.std.specs.Cmp.Lexicographic.{slice_cmp}
use Rattle.std.specs.Ordering.{is_eq, nat_cmp, ordering_then}
use Rattle.std.specs.declared.cmp.Ordering.{Ordering}
use Rattle.std.specs.declared.cmp.Ordering.TheVariants.{Less, Equal, Greater}
use Rattle.std.proofs.lemmas.Map.Text.{is_eq-slice_cmp}
use Rattle.nc_names.specs.declared.name.QName.{QName}
use Rattle.nc_schema.specs.declared.index.Index.{Index}
use Rattle.nc_schema.specs.declared.node.Node.{Node}
use Rattle.nc_schema.specs.Children.{IsChild, IsFirstChild, IsAbove, HasLowerParents, HasRoom, IsListOfNodes}
use Rattle.nc_names.specs.Same.{is_same_name, is_same_text}
use Rattle.nc_names.proofs.SameLemmas.{name_decide}
use Rattle.nc_schema.specs.inner.Index.{Names, order, number_of, with_entry, HasEntry, known_child, IsIndexOf, IsIndexed, KeepsName}

-- ---- an element of a list that grew or changed in one place
get_kept : {X : Type 0} (xs : List X) (x : X) (i : ℕ) → i < length xs → slice_get (xs ++ x ∷ []) i ≡ slice_get xs i
get_kept [] x i within = absurd (omega (arith, within))
get_kept (y ∷ xs) x zero within = refl
get_kept (y ∷ xs) x (suc i) within = get_kept xs x i (omega (arith, within))

get_pushed : {X : Type 0} (xs : List X) (x : X) → slice_get (xs ++ x ∷ []) (length xs) ≡ Some x
get_pushed [] x = refl
get_pushed (y ∷ xs) x = get_pushed xs x

get_set_same : {X : Type 0} (xs : List X) (i : ℕ) (x : X) → i < length xs → slice_get (set xs i x) i ≡ Some x
get_set_same [] i x within = absurd (omega (arith, within))
get_set_same (y ∷ xs) zero x within = refl
get_set_same (y ∷ xs) (suc i) x within = get_set_same xs i x (omega (arith, within))

get_set_other : {X : Type 0} (xs : List X) (i j : ℕ) (x : X) → i ≢ j → slice_get (set xs i x) j ≡ slice_get xs j
get_set_other [] i j x other = refl
get_set_other (y ∷ xs) zero zero x other = absurd (other refl)
get_set_other (y ∷ xs) zero (suc j) x other = refl
get_set_other (y ∷ xs) (suc i) zero x other = refl
get_set_other (y ∷ xs) (suc i) (suc j) x other = get_set_other xs i j x (λ e. other (ap suc e))

-- ---- names
same_name_is : (a b : QName) → is_same_name a b ≡ true → a ≡ b
same_name_is a b = (name_decide a b).0

is_same_itself : (a : QName) → is_same_name a a ≡ true
is_same_itself a = (name_decide a a).1 refl

-- ---- an index of nothing
pub knows_nothing : (names : Names) → IsEmpty names → (name : QName) → number_of names name ≡ None
knows_nothing names empty name = ap (λ entries. lookup (λ (key : QName). is_eq (order name key)) entries) empty

-- ---- a name with a number
both_equal : (a b : Ordering) → is_eq (ordering_then a b) ≡ (is_eq a && is_eq b)
both_equal Less b = refl
both_equal Equal b = refl
both_equal Greater b = refl

order_tells : (name other : QName) → is_eq (order name other) ≡ is_same_name name other
order_tells name other =
    both_equal (slice_cmp nat_cmp name.space other.space) (slice_cmp nat_cmp name.name other.name)
    ∙ ap (λ b. b && is_eq (slice_cmp nat_cmp name.name other.name)) (is_eq-slice_cmp name.space other.space)
    ∙ ap (λ b. is_same_text name.space other.space && b) (is_eq-slice_cmp name.name other.name)

-- one that has a number keeps it
pub entry_known : (names : Names) (name : QName) (number : ℕ) → is_some (number_of names name) ≡ true → HasEntry names names name number
entry_known names name number known other = by (number_of names other) (is_same_name name other) refl refl
  where
    by : (found : Option ℕ) (b : Bool) → number_of names other ≡ found → is_same_name name other ≡ b → found ≡ with_entry found b number
    by (Some n) b was same = refl
    by None false was same = refl
    by None true was same =
        let here : number_of names name ≡ None = ap (number_of names) (same_name_is name other same) ∙ was in
        let clash : false ≡ true = sym (ap is_some here) ∙ known in cc

-- and one that has none gets it
pub entry_put : (old new : Names) (name key : QName) (number : ℕ) → key ≡ name → is_some (number_of old name) ≡ false
    → ((other : QName) → number_of new other ≡ cond (is_eq (order key other)) (Some number) (number_of old other)) → HasEntry old new name number
entry_put old new name key number key_is unknown put other =
    put other
    ∙ ap (λ b. cond b (Some number) (number_of old other)) (order_tells key other ∙ ap (λ k. is_same_name k other) key_is)
    ∙ by (number_of old other) (is_same_name name other) refl refl
  where
    by : (found : Option ℕ) (b : Bool) → number_of old other ≡ found → is_same_name name other ≡ b → cond b (Some number) found ≡ with_entry found b number
    by None b was same = refl
    by (Some n) false was same = refl
    by (Some n) true was same =
        let here : number_of old name ≡ Some n = ap (number_of old) (same_name_is name other same) ∙ was in
        let clash : true ≡ false = sym (ap is_some here) ∙ unknown in cc

-- ---- the first child in a list with one node more
first_kept : (nodes : List Node) (node : Node) (parent : Option ℕ) (name : QName) (number : ℕ) → IsFirstChild nodes parent name (Some number) → IsFirstChild (nodes ++ node ∷ []) parent name (Some number)
first_kept nodes node parent name number ((child, at, is), earlier) =
    let within : number < length nodes = slice_get_within nodes number child at in
    ((child, get_kept nodes node number within ∙ at, is), subst (All (λ (n : Node). ¬ IsChild parent name n)) (sym (take-append-le number nodes (node ∷ []) (omega (arith, within)))) earlier)

first_other : (nodes : List Node) (node : Node) (parent : Option ℕ) (name : QName) (o : Option ℕ) → ¬ IsChild parent name node → IsFirstChild nodes parent name o → IsFirstChild (nodes ++ node ∷ []) parent name o
first_other nodes node parent name None other none = All-push (λ (n : Node). ¬ IsChild parent name n) nodes node none other
first_other nodes node parent name (Some number) other first = first_kept nodes node parent name number first

first_new : (nodes : List Node) (node : Node) (parent : Option ℕ) (name : QName) → IsChild parent name node → IsFirstChild nodes parent name None → IsFirstChild (nodes ++ node ∷ []) parent name (Some (length nodes))
first_new nodes node parent name child none =
    let all : take (length nodes) (nodes ++ node ∷ []) ≡ nodes = take-append-le (length nodes) nodes (node ∷ []) (omega arith) ∙ take_all (length nodes) nodes (omega arith) in
    ((node, get_pushed nodes node, child), subst (All (λ (n : Node). ¬ IsChild parent name n)) (sym all) none)

-- in the node's own parent, once its name has got its number
first_entered : (nodes : List Node) (node : Node) (parent : Option ℕ) (name : QName) (o : Option ℕ) (b : Bool) → node.parent ≡ parent → is_same_name node.name name ≡ b → IsFirstChild nodes parent name o → IsFirstChild (nodes ++ node ∷ []) parent name (with_entry o b (length nodes))
first_entered nodes node parent name (Some number) b own same first = first_kept nodes node parent name number first
first_entered nodes node parent name None true own same none = first_new nodes node parent name (own, same_name_is node.name name same) none
first_entered nodes node parent name None false own same none =
    let other : ¬ IsChild parent name node = λ child. (let clash : true ≡ false = sym (is_same_itself node.name) ∙ ap (is_same_name node.name) child.1 ∙ same in cc) in
    first_other nodes node parent name None other none

-- ---- the index with the next node
abbrev known_in : List Names → ℕ → QName → Option ℕ
known_in below above name = option_and_then (λ names. number_of names name) (slice_get below above)

module _ (nodes : List Node) (node : Node) (old new : Index) (fresh : Names) (empty : (name : QName) → number_of fresh name ≡ None) (is : IsIndexOf nodes old) where
  known_pushed : (below : List Names) (above : ℕ) (name : QName) → known_in (below ++ fresh ∷ []) above name ≡ known_in below above name
  known_pushed [] zero name = empty name
  known_pushed [] (suc above) name = refl
  known_pushed (names ∷ below) zero name = refl
  known_pushed (names ∷ below) (suc above) name = known_pushed below above name

  -- in another parent than the node's, where the index is as before
  elsewhere : (parent : Option ℕ) (name : QName) → node.parent ≢ parent → known_child new parent name ≡ known_child old parent name → IsFirstChild (nodes ++ node ∷ []) parent name (known_child new parent name)
  elsewhere parent name other same =
      subst (IsFirstChild (nodes ++ node ∷ []) parent name) (sym same) (first_other nodes node parent name (known_child old parent name) (λ child. other child.0) (is.exact parent name))

  -- in the node's parent, where its name has got the number
  there : (parent : Option ℕ) (name : QName) (before : Option ℕ) → node.parent ≡ parent → known_child old parent name ≡ before → known_child new parent name ≡ with_entry before (is_same_name node.name name) (length nodes) → IsFirstChild (nodes ++ node ∷ []) parent name (known_child new parent name)
  there parent name before own was now =
      subst (IsFirstChild (nodes ++ node ∷ []) parent name) (sym now)
      (first_entered nodes node parent name before (is_same_name node.name name) own refl (subst (IsFirstChild nodes parent name) was (is.exact parent name)))

  -- a node at the top
  pub index_at_top : node.parent ≡ None → HasEntry old.top new.top node.name (length nodes) → new.below.items ≡ old.below.items ++ fresh ∷ [] → IsIndexOf (nodes ++ node ∷ []) new
  index_at_top own entry grew = record {
    many = ap length grew ∙ length_push old.below.items fresh ∙ ap (λ n. n + 1) is.many ∙ sym (length_push nodes node);
    exact = at;
  }
    where
      at : (parent : Option ℕ) (name : QName) → IsFirstChild (nodes ++ node ∷ []) parent name (known_child new parent name)
      at None name = there None name (number_of old.top name) own refl (entry name)
      at (Some above) name =
          elsewhere (Some above) name (λ e. (let clash : None ≡ Some above = sym own ∙ e in cc))
          (ap (λ below. known_in below above name) grew ∙ known_pushed old.below.items above name)

  -- a node in another
  pub index_below : (above : ℕ) (before after : Names) → node.parent ≡ Some above → slice_get old.below.items above ≡ Some before → HasEntry before after node.name (length nodes) → new.top ≡ old.top → new.below.items ≡ set old.below.items above after ++ fresh ∷ [] → IsIndexOf (nodes ++ node ∷ []) new
  index_below above before after own was entry top grew = record {
    many = ap length grew ∙ length_push (set old.below.items above after) fresh ∙ ap (λ n. n + 1) (length-set old.below.items above after ∙ is.many) ∙ sym (length_push nodes node);
    exact = at;
  }
    where
      now : (parent : ℕ) (name : QName) → known_child new (Some parent) name ≡ known_in (set old.below.items above after) parent name
      now parent name = ap (λ below. known_in below parent name) grew ∙ known_pushed (set old.below.items above after) parent name

      by : (parent : ℕ) (name : QName) → ((eqb above parent ≡ true) × (above ≡ parent)) ⊎ ((eqb above parent ≡ false) × (above ≢ parent)) → IsFirstChild (nodes ++ node ∷ []) (Some parent) name (known_child new (Some parent) name)
      by parent name (inl (e, same)) =
          there (Some parent) name (number_of before name) (own ∙ ap Some same)
          (ap (λ n. known_in old.below.items n name) (sym same) ∙ ap (option_and_then (λ (names : Names). number_of names name)) was)
          (now parent name ∙ ap (λ n. known_in (set old.below.items above after) n name) (sym same)
          ∙ ap (option_and_then (λ (names : Names). number_of names name)) (get_set_same old.below.items above after (slice_get_within old.below.items above before was)) ∙ entry name)
      by parent name (inr (e, other)) =
          elsewhere (Some parent) name (λ same. other (let both : Some above ≡ Some parent = sym own ∙ same in cc))
          (now parent name ∙ ap (option_and_then (λ (names : Names). number_of names name)) (get_set_other old.below.items above parent after other))

      at : (parent : Option ℕ) (name : QName) → IsFirstChild (nodes ++ node ∷ []) parent name (known_child new parent name)
      at None name = elsewhere None name (λ e. (let clash : Some above ≡ None = sym own ∙ e in cc)) (ap (λ t. number_of t name) top)
      at (Some parent) name = by parent name (eqb_tells above parent)

-- the parent's number is below the bound on it
pub above_is : (parent : Option ℕ) (above : ℕ) (bound : ℕ) → parent ≡ Some above → IfSome parent (λ p. p < bound) → above < bound
above_is parent above bound e low = subst (λ (o : Option ℕ). IfSome o (λ p. p < bound)) e low

-- a node's parent is lower than its place
pub above_at : (nodes : List Node) (place : ℕ) (node : Node) (bound : ℕ) → HasLowerParents nodes → place < length nodes → node ≡ get_or nodes place node → bound ≡ place → IfSome node.parent (λ above. above < bound)
above_at nodes place node bound lower within here same =
    let at : slice_get nodes place ≡ Some node = slice_get-get_or nodes place node within ∙ ap Some (sym here) in
    subst (λ (n : ℕ). IfSome node.parent (λ above. above < n)) (sym same) (subst (λ (o : Option Node). IfSome o (λ n. IsAbove n.parent place)) at (lower place))

-- ---- a node in the place of another of its name and parent
get_taken : {X : Type 0} (xs : List X) (n i : ℕ) → i < n → slice_get (take n xs) i ≡ slice_get xs i
get_taken [] zero i less = absurd (omega (arith, less))
get_taken [] (suc n) i less = refl
get_taken (x ∷ xs) zero i less = absurd (omega (arith, less))
get_taken (x ∷ xs) (suc n) zero less = refl
get_taken (x ∷ xs) (suc n) (suc i) less = get_taken xs n i (omega (arith, less))

all_at : {X : Type 0} (P : X → Type 0) (xs : List X) (i : ℕ) (x : X) → All P xs → slice_get xs i ≡ Some x → P x
all_at P xs i x all at = subst P (get_or_from_slice_get xs i x x at) (all i x (slice_get_within xs i x at))

module _ (nodes : List Node) (number : ℕ) (node old : Node) (at : slice_get nodes number ≡ Some old) (kept : IsChild old.parent old.name node) where
  other_too : (parent : Option ℕ) (name : QName) → ¬ IsChild parent name old → ¬ IsChild parent name node
  other_too parent name other child = other (sym kept.0 ∙ child.0, sym kept.1 ∙ child.1)

  first_in_place : (parent : Option ℕ) (name : QName) (o : Option ℕ) → IsFirstChild nodes parent name o → IsFirstChild (set nodes number node) parent name o
  first_in_place parent name None none =
      All-set (λ (n : Node). ¬ IsChild parent name n) nodes number node (other_too parent name (all_at (λ (n : Node). ¬ IsChild parent name n) nodes number old none at)) none
  first_in_place parent name (Some first) ((child, stands, is), earlier) = (here (eqb_tells number first), before (cases_lt number first))
    where
      here : ((eqb number first ≡ true) × (number ≡ first)) ⊎ ((eqb number first ≡ false) × (number ≢ first)) → (n : Node) × (slice_get (set nodes number node) first ≡ Some n) × IsChild parent name n
      here (inl (e, same)) =
          let one : old ≡ child = (let both : Some old ≡ Some child = sym at ∙ ap (slice_get nodes) same ∙ stands in cc) in
          (node, ap (slice_get (set nodes number node)) (sym same) ∙ get_set_same nodes number node (slice_get_within nodes number old at), (kept.0 ∙ ap (λ (n : Node). n.parent) one ∙ is.0, kept.1 ∙ ap (λ (n : Node). n.name) one ∙ is.1))
      here (inr (e, other)) = (child, get_set_other nodes number first node other ∙ stands, is)

      before : (number < first) ⊎ (first ≤ number) → All (λ (n : Node). ¬ IsChild parent name n) (take first (set nodes number node))
      before (inl less) =
          subst (All (λ (n : Node). ¬ IsChild parent name n)) (sym (take-set-lt first nodes number node less))
          (All-set (λ (n : Node). ¬ IsChild parent name n) (take first nodes) number node (other_too parent name (all_at (λ (n : Node). ¬ IsChild parent name n) (take first nodes) number old earlier (get_taken nodes first number less ∙ at))) earlier)
      before (inr not_less) = subst (All (λ (n : Node). ¬ IsChild parent name n)) (sym (take-set-le first nodes number node not_less)) earlier

  pub index_in_place : (index : Index) → IsIndexOf nodes index → IsIndexOf (set nodes number node) index
  index_in_place index is = record {
    many = is.many ∙ sym (length-set nodes number node);
    exact = λ parent name. first_in_place parent name (known_child index parent name) (is.exact parent name);
  }

-- ---- parents stay lower
abbrev IsLowAt : List Node → ℕ → Type 0
IsLowAt nodes number = IfSome (slice_get nodes number) (λ node. IsAbove node.parent number)

low_at : (nodes : List Node) (number : ℕ) (o : Option Node) → slice_get nodes number ≡ o → IfSome o (λ node. IsAbove node.parent number) → IsLowAt nodes number
low_at nodes number o e low = subst (λ (p : Option Node). IfSome p (λ node. IsAbove node.parent number)) (sym e) low

pub list_more : (nodes : List Node) (node : Node) → IsListOfNodes nodes → HasRoom nodes → IsAbove node.parent (length nodes) → IsListOfNodes (nodes ++ node ∷ [])
list_more nodes node list room above = record {
  few = omega (arith, length_push nodes node, room);
  lower = λ number. by number (cases_order number (length nodes));
}
  where
    by : (number : ℕ) → (number ≡ length nodes) ⊎ ((number < length nodes) ⊎ (length nodes < number)) → IsLowAt (nodes ++ node ∷ []) number
    by number (inl last) = low_at (nodes ++ node ∷ []) number (Some node) (ap (slice_get (nodes ++ node ∷ [])) last ∙ get_pushed nodes node) (subst (λ (n : ℕ). IsAbove node.parent n) (sym last) above)
    by number (inr (inl within)) = low_at (nodes ++ node ∷ []) number (slice_get nodes number) (get_kept nodes node number within) (list.lower number)
    by number (inr (inr past)) = low_at (nodes ++ node ∷ []) number None (slice_get_past (nodes ++ node ∷ []) number (omega (arith, length_push nodes node, past))) tt

pub list_in_place : (nodes : List Node) (place : ℕ) (node : Node) → IsListOfNodes nodes → place < length nodes → IsAbove node.parent place → IsListOfNodes (set nodes place node)
list_in_place nodes place node list within above = record {
  few = omega (arith, length-set nodes place node, list.few);
  lower = λ number. by number (eqb_tells place number);
}
  where
    by : (number : ℕ) → ((eqb place number ≡ true) × (place ≡ number)) ⊎ ((eqb place number ≡ false) × (place ≢ number)) → IsLowAt (set nodes place node) number
    by number (inl (e, same)) = low_at (set nodes place node) number (Some node) (ap (slice_get (set nodes place node)) (sym same) ∙ get_set_same nodes place node within) (subst (λ (n : ℕ). IsAbove node.parent n) same above)
    by number (inr (e, other)) = low_at (set nodes place node) number (slice_get nodes number) (get_set_other nodes place number node other) (list.lower number)

-- what the code keeps, with the next node
pub indexed_more : (nodes : List Node) (node : Node) (index : Index) (stale : Bool) → IsListOfNodes nodes → HasRoom nodes → IsAbove node.parent (length nodes) → IsIndexOf (nodes ++ node ∷ []) index → IsIndexed (nodes ++ node ∷ []) index stale
indexed_more nodes node index stale list room above is = record { list = list_more nodes node list room above; fresh = λ e. is }

-- and with a node in the place of another
pub indexed_in_place : (nodes : List Node) (place : ℕ) (node : Node) (index : Index) (stale now kept : Bool) → place < length nodes → IsAbove node.parent place → IsIndexed nodes index stale → (now ≡ false → (stale ≡ false) × (kept ≡ true)) → (kept ≡ true → KeepsName nodes place node) → IsIndexed (set nodes place node) index now
indexed_in_place nodes place node index stale now kept within above is from keeps = record {
  list = list_in_place nodes place node is.list within above;
  fresh = λ e. (let (was, does) = from e in let (old, at, same) = keeps does in index_in_place nodes place node old at same index (is.fresh was));
}
