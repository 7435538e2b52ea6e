-- The children of each data node, kept as lists of their numbers.
use Rattle.std.proofs.Common.{◌≡◌, ◌≢◌, ◌+◌, ◌++◌, ◌<◌, ◌≤◌, ◌^◌, ℕ, zero, suc, Bool, true, false, cond, List, [], ◌∷◌, Option, Some, None, length, map, set, take, drop, refl, sym, ap, subst, ◌∙◌, arith, append_assoc, Bor}
use Rattle.std.specs.Prelude.{slice_get, replicate, unwrap_or, IfSome, OnSome, if◌then◌else◌}
use Rattle.std.specs.List.{enumerate_from, filter}
use Rattle.std.specs.Option.{option_copied}
use Rattle.std.proofs.lemmas.Bool.Decides.{Decides-eqb}
use Rattle.std.proofs.lemmas.List.{append-nil, get_or-set_other, get_or-set_same, length-replicate, length-set, length-take-le, take_all, take_more}
use Rattle.std.proofs.lemmas.Option.{get_or_from_slice_get, slice_get_within, unwrap_or-slice_get}
use Rattle.nc_schema.specs.Children.{HasLowerParents, IsAbove, is_same_number}
use Rattle.nc_schema.specs.declared.node.Node.{Node}
use Rattle.nc_defaults.specs.Children.{children_among, children_of}
use Rattle.nc_defaults.specs.inner.Lists.{AreLists, AreListsSoFar, HaveChildren, list_at, list_place}

-- ---- what is left of a list
pub here_of : {X : Type 0} (xs : List X) (at : ℕ) (x : X) (later : List X) → drop at xs ≡ x ∷ later → slice_get xs at ≡ Some x
here_of [] zero x later is = absurd (let clash = is in cc)
here_of [] (suc at) x later is = absurd (let clash = is in cc)
here_of (y ∷ xs) zero x later is = cc
here_of (y ∷ xs) (suc at) x later is = here_of xs at x later is

pub later_of : {X : Type 0} (xs : List X) (at : ℕ) (x : X) (later : List X) → drop at xs ≡ x ∷ later → drop (at + 1) xs ≡ later
later_of [] zero x later is = absurd (let clash = is in cc)
later_of [] (suc at) x later is = absurd (let clash = is in cc)
later_of (y ∷ xs) zero x later is = cc
later_of (y ∷ xs) (suc at) x later is =
    let next : suc at + 1 ≡ suc (at + 1) = omega arith in
    ap (λ k. drop k (y ∷ xs)) next ∙ later_of xs at x later is

pub none_dropped : {X : Type 0} (xs : List X) → drop 0 xs ≡ xs
none_dropped [] = refl
none_dropped (x ∷ xs) = refl

-- ---- the same parent
pub same_number : (a b : Option ℕ) → is_same_number a b ≡ true → a ≡ b
same_number None None e = refl
same_number None (Some b) e = absurd (let clash : false ≡ true = e in cc)
same_number (Some a) None e = absurd (let clash : false ≡ true = e in cc)
same_number (Some a) (Some b) e = ap Some ((Decides-eqb a b).0 e)

number_itself : (a : Option ℕ) → is_same_number a a ≡ true
number_itself None = refl
number_itself (Some a) = (Decides-eqb a a).1 refl

same_place : (a b : Option ℕ) → list_place a ≡ list_place b → a ≡ b
same_place None None e = refl
same_place None (Some b) e = absurd (omega (arith, e))
same_place (Some a) None e = absurd (omega (arith, e))
same_place (Some a) (Some b) e = ap Some (omega (arith, e))

-- ---- one data node more
abbrev pub one_if : Bool → ℕ → List ℕ
one_if b number = if b then number ∷ [] else []

pub among_next : (parent : Option ℕ) (number : ℕ) (node : Node) (later : List Node) →
    children_among parent number (node ∷ later) ≡ one_if (is_same_number node.parent parent) number ++ children_among parent (number + 1) later
among_next parent number node later = by (is_same_number node.parent parent)
  where
    rest : List (ℕ × Node)
    rest = filter (λ one. is_same_number one.1.parent parent) (enumerate_from (number + 1) later)

    by : (b : Bool) → map (λ (one : ℕ × Node). one.0) (cond b ((number, node) ∷ rest) rest) ≡ one_if b number ++ map (λ (one : ℕ × Node). one.0) rest
    by true = refl
    by false = refl

among_last : (parent : Option ℕ) (number : ℕ) (nodes : List Node) (node : Node) →
    children_among parent number (nodes ++ node ∷ []) ≡ children_among parent number nodes ++ one_if (is_same_number node.parent parent) (number + length nodes)
among_last parent number [] node =
    let same : number ≡ number + 0 = omega arith in
    among_next parent number node [] ∙ append-nil (one_if (is_same_number node.parent parent) number)
    ∙ ap (one_if (is_same_number node.parent parent)) same
among_last parent number (one ∷ nodes) node =
    let same : number + 1 + length nodes ≡ number + suc (length nodes) = omega arith in
    among_next parent number one (nodes ++ node ∷ [])
    ∙ ap (λ ns. one_if (is_same_number one.parent parent) number ++ ns)
    (among_last parent (number + 1) nodes node ∙ ap (λ n. children_among parent (number + 1) nodes ++ one_if (is_same_number node.parent parent) n) same)
    ∙ sym (append_assoc (one_if (is_same_number one.parent parent) number) (children_among parent (number + 1) nodes) (one_if (is_same_number node.parent parent) (number + suc (length nodes))))
    ∙ ap (λ ns. ns ++ one_if (is_same_number node.parent parent) (number + suc (length nodes))) (sym (among_next parent number one nodes))

children_more : (nodes : List Node) (number : ℕ) (node : Node) (parent : Option ℕ) → slice_get nodes number ≡ Some node →
    children_of (take (number + 1) nodes) parent ≡ children_of (take number nodes) parent ++ one_if (is_same_number node.parent parent) number
children_more nodes number node parent found =
    let within : number < length nodes = slice_get_within nodes number node found in
    let many : 0 + length (take number nodes) ≡ number = omega (arith, length-take-le number nodes (omega (arith, within))) in
    ap (λ (ns : List Node). children_of ns parent) (take_more nodes number node within ∙ ap (λ (n : Node). take number nodes ++ n ∷ []) (get_or_from_slice_get nodes number node node found))
    ∙ among_last parent 0 (take number nodes) node
    ∙ ap (λ n. children_of (take number nodes) parent ++ one_if (is_same_number node.parent parent) n) many

-- ---- one list is changed
at_set : (lists : List (List ℕ)) (place : ℕ) (list : List ℕ) → place < length lists → list_at (set lists place list) place ≡ list
at_set lists place list within = unwrap_or-slice_get (set lists place list) place [] ∙ get_or-set_same lists place list [] within

at_other : (lists : List (List ℕ)) (place other : ℕ) (list : List ℕ) → other ≢ place → list_at (set lists place list) other ≡ list_at lists other
at_other lists place other list apart =
    unwrap_or-slice_get (set lists place list) other [] ∙ get_or-set_other lists place other list [] apart ∙ sym (unwrap_or-slice_get lists other [])

-- ---- lists are made
nothing_at : (count place : ℕ) → list_at (replicate count []) place ≡ []
nothing_at zero place = refl
nothing_at (suc count) zero = refl
nothing_at (suc count) (suc place) = nothing_at count place

none_taken : (nodes : List Node) → take 0 nodes ≡ []
none_taken [] = refl
none_taken (node ∷ nodes) = refl

pub lists_start : (nodes : List Node) (count : ℕ) (lists : List (List ℕ)) → lists ≡ replicate count [] → count ≡ length nodes + 1 → AreListsSoFar nodes 0 lists
lists_start nodes count lists is many = subst (AreListsSoFar nodes 0) (sym is) (record {
  long = length-replicate count [] ∙ many;
  children = λ parent. nothing_at count (list_place parent) ∙ sym (ap (λ (ns : List Node). children_of ns parent) (none_taken nodes));
})

-- a data node stands after its parent, for which there is a list
pub place_within : (nodes : List Node) (number : ℕ) (node : Node) (lists : List (List ℕ)) → HasLowerParents nodes → slice_get nodes number ≡ Some node → AreListsSoFar nodes number lists →
    list_place node.parent < length lists
place_within nodes number node lists lower found is = over node.parent (subst (λ (o : Option Node). IfSome o (λ n. IsAbove n.parent number)) found (lower number))
  where
    over : (parent : Option ℕ) → IsAbove parent number → list_place parent < length lists
    over None low = omega (arith, is.long)
    over (Some above) low = omega (arith, is.long, low, slice_get_within nodes number node found)

pub lists_more : (nodes : List Node) (number : ℕ) (node : Node) (lists : List (List ℕ)) → slice_get nodes number ≡ Some node → list_place node.parent < length lists → AreListsSoFar nodes number lists →
    AreListsSoFar nodes (number + 1) (set lists (list_place node.parent) (list_at lists (list_place node.parent) ++ number ∷ []))
lists_more nodes number node lists found within is = record {
  long = length-set lists (list_place node.parent) (list_at lists (list_place node.parent) ++ number ∷ []) ∙ is.long;
  children = λ parent. by parent (is_same_number node.parent parent) refl;
}
  where
    longer : List ℕ
    longer = list_at lists (list_place node.parent) ++ number ∷ []

    own : list_at (set lists (list_place node.parent) longer) (list_place node.parent) ≡ children_of (take (number + 1) nodes) node.parent
    own =
        at_set lists (list_place node.parent) longer within
        ∙ ap (λ ns. ns ++ number ∷ []) (is.children node.parent)
        ∙ ap (λ b. children_of (take number nodes) node.parent ++ one_if b number) (sym (number_itself node.parent))
        ∙ sym (children_more nodes number node node.parent found)

    by : (parent : Option ℕ) (b : Bool) → is_same_number node.parent parent ≡ b → list_at (set lists (list_place node.parent) longer) (list_place parent) ≡ children_of (take (number + 1) nodes) parent
    by parent true same =
        subst (λ (p : Option ℕ). list_at (set lists (list_place node.parent) longer) (list_place p) ≡ children_of (take (number + 1) nodes) p) (same_number node.parent parent same) own
    by parent false differs =
        let apart : list_place parent ≢ list_place node.parent =
        (λ e. (let clash : true ≡ false = sym (number_itself node.parent) ∙ ap (is_same_number node.parent) (sym (same_place parent node.parent e)) ∙ differs in cc)) in
        at_other lists (list_place node.parent) (list_place parent) longer apart
        ∙ is.children parent
        ∙ sym (append-nil (children_of (take number nodes) parent))
        ∙ ap (λ b. children_of (take number nodes) parent ++ one_if b number) (sym differs)
        ∙ sym (children_more nodes number node parent found)

-- no data node is left
past : (nodes : List Node) (number : ℕ) → slice_get nodes number ≡ None → length nodes ≤ number
past [] number none = omega arith
past (node ∷ nodes) zero none = absurd (let clash = none in cc)
past (node ∷ nodes) (suc number) none = omega (arith, past nodes number none)

pub lists_past : (nodes : List Node) (number : ℕ) (lists : List (List ℕ)) → slice_get nodes number ≡ None → AreListsSoFar nodes number lists → AreListsSoFar nodes (number + 1) lists
lists_past nodes number lists none is =
    let all : length nodes ≤ number = past nodes number none in
    let same : take number nodes ≡ take (number + 1) nodes = take_all number nodes all ∙ sym (take_all (number + 1) nodes (omega (arith, all))) in
    record {
      long = is.long;
      children = subst (λ (ns : List Node). HaveChildren ns lists) same is.children;
    }

pub lists_whole : (nodes : List Node) (number : ℕ) (lists : List (List ℕ)) → length nodes < 2 ^ 32 → length nodes ≤ number → AreListsSoFar nodes number lists → AreLists nodes lists
lists_whole nodes number lists few all is = record {
  few = few;
  children = subst (λ (ns : List Node). HaveChildren ns lists) (take_all number nodes all) is.children;
}

-- ---- what is read of them
pub list_is : (lists : List (List ℕ)) (place own : ℕ) (found : Option (List ℕ)) → found ≡ slice_get lists place → place ≡ own → unwrap_or found [] ≡ list_at lists own
list_is lists place own found is same = ap (λ o. unwrap_or o []) (is ∙ ap (slice_get lists) same)

pub node_within : (o : Option (Bor Node)) (nodes : List Node) (number : ℕ) → option_copied o ≡ slice_get nodes number → OnSome o (number < length nodes)
node_within None nodes number is = tt
node_within (Some node) nodes number is = slice_get_within nodes number node.now (sym is)

pub node_few : (o : Option (Bor Node)) (nodes : List Node) (number : ℕ) → length nodes < 2 ^ 32 → option_copied o ≡ slice_get nodes number → OnSome o (number + 1 < 2 ^ 32)
node_few None nodes number few is = tt
node_few (Some node) nodes number few is = omega (arith, few, slice_get_within nodes number node.now (sym is))
