-- The first child of a name, as a number.
use Rattle.std.proofs.Common.{◌≡◌, ◌<◌, ◌&&◌, not, ℕ, Bool, true, false, List, [], ◌∷◌, Option, Some, None, length, get_or, refl, sym, ap, subst, arith}
use Rattle.std.specs.List.{All, position, position_or_len}
use Rattle.std.proofs.lemmas.Bool.{lt-ltb, le-ltb}
use Rattle.std.proofs.lemmas.Bool.Decides.{Decides-eqb}
use Rattle.std.proofs.lemmas.List.{get_or-take, length-take-le}
use Rattle.std.proofs.lemmas.List.Sums.{prefix_len_is}
use Rattle.std.proofs.lemmas.Option.{get_or_from_slice_get, slice_get_within}
use Rattle.nc_names.specs.Same.{is_same_name}
use Rattle.nc_names.specs.declared.name.QName.{QName}
use Rattle.nc_names.proofs.SameLemmas.{both_true, first_true, name_decide, second_true}
use Rattle.nc_schema.specs.Children.{child_number, is_same_number, IsChild, IsFirstChild}
use Rattle.nc_schema.specs.Tables.{Tables}
use Rattle.nc_schema.specs.declared.node.Node.{Node}

same_number_is : (a b : Option ℕ) → is_same_number a b ≡ true → a ≡ b
same_number_is None None e = refl
same_number_is (Some a) (Some b) e = ap Some ((Decides-eqb a b).0 e)
same_number_is None (Some b) e = cc
same_number_is (Some a) None e = cc

number_itself : (a b : Option ℕ) → a ≡ b → is_same_number a b ≡ true
number_itself None None e = refl
number_itself (Some a) (Some b) e = (Decides-eqb a b).1 cc
number_itself None (Some b) e = cc
number_itself (Some a) None e = cc

-- the test of a child
abbrev is_child : Option ℕ → QName → Node → Bool
is_child parent name node = is_same_number node.parent parent && is_same_name node.name name

child_passes : (parent : Option ℕ) (name : QName) (node : Node) → IsChild parent name node → is_child parent name node ≡ true
child_passes parent name node child =
    both_true (is_same_number node.parent parent) (is_same_name node.name name) (number_itself node.parent parent child.0) ((name_decide node.name name).1 child.1)

passes_child : (parent : Option ℕ) (name : QName) (node : Node) → is_child parent name node ≡ true → IsChild parent name node
passes_child parent name node e =
    (same_number_is node.parent parent (first_true (is_same_number node.parent parent) (is_same_name node.name name) e), (name_decide node.name name).0 (second_true (is_same_number node.parent parent) (is_same_name node.name name) e))

other_fails : (parent : Option ℕ) (name : QName) (node : Node) → ¬ IsChild parent name node → not (is_child parent name node) ≡ true
other_fails parent name node other = by (is_child parent name node) (λ e. other (passes_child parent name node e))
  where
    by : (b : Bool) → ¬ (b ≡ true) → not b ≡ true
    by true no_child = absurd (no_child refl)
    by false no_child = refl

-- the place of the first that passes, and that there is none
position_there : {X : Type 0} (p : X → Bool) (xs : List X) (n : ℕ) → position_or_len p xs ≡ n → n < length xs → Some n ≡ position p xs
position_there p xs n e within = rw e (rw (lt-ltb n (length xs) within) refl)

position_none : {X : Type 0} (p : X → Bool) (xs : List X) → position_or_len p xs ≡ length xs → None ≡ position p xs
position_none p xs e = rw e (rw (le-ltb (length xs) (length xs) (omega arith)) refl)

none_before : (parent : Option ℕ) (name : QName) (nodes : List Node) → All (λ node. ¬ IsChild parent name node) nodes → position_or_len (is_child parent name) nodes ≡ length nodes
none_before parent name [] none = refl
none_before parent name (node ∷ nodes) none =
    prefix_len_is (λ one. not (is_child parent name one)) (node ∷ nodes) (length (node ∷ nodes)) node (omega arith)
    (λ k below. other_fails parent name (get_or (node ∷ nodes) k node) (none k node below)) (λ within. absurd (omega (arith, within)))

pub child_is : (tables : Tables) (parent : Option ℕ) (name : QName) (found : Option ℕ) → IsFirstChild tables.nodes parent name found → found ≡ child_number tables parent name
child_is tables parent name None none = position_none (is_child parent name) tables.nodes (none_before parent name tables.nodes none)
child_is tables parent name (Some number) ((child, at, is), earlier) =
    let within : number < length tables.nodes = slice_get_within tables.nodes number child at in
    position_there (is_child parent name) tables.nodes number
    (prefix_len_is (λ one. not (is_child parent name one)) tables.nodes number child (omega (arith, within))
    (λ k below. other_fails parent name (get_or tables.nodes k child)
    (subst (λ (one : Node). ¬ IsChild parent name one) (get_or-take number tables.nodes k child below) (earlier k child (omega (arith, below, length-take-le number tables.nodes (omega (arith, within)))))))
    (λ inside. ap not (child_passes parent name (get_or tables.nodes number child) (subst (IsChild parent name) (sym (get_or_from_slice_get tables.nodes number child child at)) is)))) within
