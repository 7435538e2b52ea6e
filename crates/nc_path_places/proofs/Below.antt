-- The data nodes at which a path can end, below a node or at the top.
use Rattle.std.proofs.Common.{◌≡◌, ◌⊎◌, inl, inr, ℕ, zero, suc, ◌<◌, ◌-◌, Bool, true, false, cond, eqb, ◌&&◌, List, [], ◌∷◌, ◌++◌, Option, Some, None, length, get_or, position, slice_get, option_and_then, refl, sym, ap, subst, ◌∙◌, append_assoc, arith}
use Rattle.std.specs.Option.{option_map_or}
use Rattle.std.proofs.lemmas.Bool.Decides.{Decides-eqb, nat_tests}
use Rattle.std.proofs.lemmas.List.Quantifiers.{position-Some}
use Rattle.nc_names.proofs.SameLemmas.{first_true, second_true, both_true, name_decide}
use Rattle.nc_names.specs.declared.name.QName.{QName}
use Rattle.nc_names.specs.Same.{is_same_name}
use Rattle.nc_schema.specs.Children.{child_number, is_same_number}
use Rattle.nc_schema.specs.InstancePaths.{has_name, key_nodes, qualified}
use Rattle.nc_schema.specs.PathWords.{written_name}
use Rattle.nc_schema.specs.declared.node.Node.{Node}
use Rattle.nc_schema.specs.declared.written.WrittenName.{WrittenName}
use Rattle.nc_path_places.specs.inner.Halting.{Halts}
use Rattle.nc_path_places.specs.inner.Going.{Reading, GoesOn, StepNames, child_named}
use Rattle.nc_path_places.specs.inner.Candidates.{can_be_given, can_end, child_first, ends_at, farthest, is_nameable, is_named, numbers, stands}
use Rattle.nc_path_places.proofs.Names.{In, bind_some, map_or_true, map_or_some, wording, name_cut, name_reads}
use Rattle.nc_path_places.proofs.Naming.{CanBeWritten, StopsName, stops_name, nameable_is_written, named_is_nameable}
use Rattle.nc_path_places.proofs.Spots.{goes_ends, keys_live, keys_need}
use Rattle.nc_path_places.proofs.Stages.{filter_in, in_filter}

in_front : (x : ℕ) (xs ys : List ℕ) → In x xs → In x (xs ++ ys)
in_front x [] ys at = absurd at
in_front x (y ∷ xs) ys (inl same) = inl same
in_front x (y ∷ xs) ys (inr at) = inr (in_front x xs ys at)

in_end : (x : ℕ) (xs : List ℕ) → In x (xs ++ x ∷ [])
in_end x [] = inl refl
in_end x (y ∷ xs) = inr (in_end x xs)

in_numbers : (n most : ℕ) → n < most → In n (numbers most)
in_numbers n zero less = absurd (omega (arith, less))
in_numbers n (suc most) less = by (eqb n most) refl (in_numbers n most)
  where
    by : (t : Bool) → eqb n most ≡ t → (n < most → In n (numbers most)) → In n (numbers most ++ most ∷ [])
    by true same further = subst (λ (k : ℕ). In k (numbers most ++ most ∷ [])) (sym ((Decides-eqb n most).0 same)) (in_end most (numbers most))
    by false other further = in_front n (numbers most) (most ∷ []) (further (below other))
      where
        below : eqb n most ≡ false → n < most
        below e = grind (arith, nat_tests)

pub get_less : {X : Type 0} (xs : List X) (n : ℕ) (x : X) → slice_get xs n ≡ Some x → n < length xs
get_less [] n x e = cc
get_less (y ∷ xs) zero x e = omega arith
get_less (y ∷ xs) (suc n) x e = let less = get_less xs n x e in omega (arith, less)

get_there : {X : Type 0} (xs : List X) (n : ℕ) (d : X) → n < length xs → slice_get xs n ≡ Some (get_or xs n d)
get_there [] n d less = absurd (omega (arith, less))
get_there (y ∷ xs) zero d less = refl
get_there (y ∷ xs) (suc n) d less = get_there xs n d (omega (arith, less))

pub position_is : {X : Type 0} (p : X → Bool) (xs : List X) (n : ℕ) → position p xs ≡ Some n → (x : X) × (slice_get xs n ≡ Some x) × (p x ≡ true)
position_is p [] n e = cc
position_is p (x ∷ xs) n e =
    let is = position-Some p (x ∷ xs) n x e in
    (get_or (x ∷ xs) n x, get_there (x ∷ xs) n x is.0, is.1)

pub same_number : (o : Option ℕ) (n : ℕ) → is_same_number o (Some n) ≡ true → o ≡ Some n
same_number None n e = cc
same_number (Some k) n e = ap Some ((Decides-eqb k n).0 e)

number_itself : (o : Option ℕ) (n : ℕ) → o ≡ Some n → is_same_number o (Some n) ≡ true
number_itself o n e = ap (λ x. is_same_number x (Some n)) e ∙ (Decides-eqb n n).1 refl

module _ (s : Reading) (above : Option ℕ) where
  abbrev is_there : ℕ → Bool
  is_there number = stands s.tables above number

  pub ends_in : (number : ℕ) → can_end s above number ≡ true → In number (ends_at s above)
  ends_in number e =
      let (node, node_is, same) = map_or_true (λ (node : Node). is_same_number (child_number s.tables above node.name) (Some number)) (slice_get s.tables.nodes number)
      (first_true (is_there number) (is_nameable s number && can_be_given s number (key_nodes s.tables number)) e) in
      filter_in (can_end s above) (numbers (length s.tables.nodes)) number (in_numbers number (length s.tables.nodes) (get_less s.tables.nodes number node node_is)) e

  pub in_ends : (number : ℕ) → In number (ends_at s above) → can_end s above number ≡ true
  in_ends number at = (in_filter (can_end s above) (numbers (length s.tables.nodes)) number at).1

  pub end_given : (number : ℕ) → can_end s above number ≡ true → can_be_given s number (key_nodes s.tables number) ≡ true
  end_given number e = second_true (is_nameable s number) (can_be_given s number (key_nodes s.tables number)) (second_true (is_there number) (is_nameable s number && can_be_given s number (key_nodes s.tables number)) e)

  end_nameable : (number : ℕ) → can_end s above number ≡ true → is_nameable s number ≡ true
  end_nameable number e = first_true (is_nameable s number) (can_be_given s number (key_nodes s.tables number)) (second_true (is_there number) (is_nameable s number && can_be_given s number (key_nodes s.tables number)) e)

  -- a name of a node there leads to it
  pub stands_named : (number : ℕ) (w : WrittenName) → stands s.tables above number ≡ true → is_named s number w ≡ true → child_named s above w ≡ Some number
  stands_named number w e named =
      let (node, node_is, same) = map_or_true (λ (node : Node). is_same_number (child_number s.tables above node.name) (Some number)) (slice_get s.tables.nodes number) e in
      let child = same_number (child_number s.tables above node.name) number same in
      let (q, q_is, has) = map_or_true (has_name s.tables number) (qualified s.tables s.bounds w) named in
      let it : is_same_name node.name q ≡ true = sym (map_or_some (λ (n : Node). is_same_name n.name q) (slice_get s.tables.nodes number) false node node_is) ∙ has in
      let names : node.name ≡ q = (name_decide node.name q).0 it in
      ap (λ o. option_and_then (child_number s.tables above) o) q_is ∙ ap (child_number s.tables above) (sym names) ∙ child

  pub named_child : (number : ℕ) (w : WrittenName) → can_end s above number ≡ true → is_named s number w ≡ true → child_named s above w ≡ Some number
  named_child number w e named = stands_named number w (first_true (is_there number) (is_nameable s number && can_be_given s number (key_nodes s.tables number)) e) named

  -- the node of a name there
  pub record IsChildOf (number : ℕ) (q : QName) : Type 0 where
    pub node : Node
    pub is : slice_get s.tables.nodes number ≡ Some node
    pub parent : is_same_number node.parent above ≡ true
    pub name : node.name ≡ q
    pub there : stands s.tables above number ≡ true

  pub child_stands : (number : ℕ) (q : QName) → child_number s.tables above q ≡ Some number → IsChildOf number q
  child_stands number q child =
      let (node, node_is, passes) = position_is (λ (node : Node). is_same_number node.parent above && is_same_name node.name q) s.tables.nodes number child in
      let names : node.name ≡ q = (name_decide node.name q).0 (second_true (is_same_number node.parent above) (is_same_name node.name q) passes) in
      record {
        node = node;
        is = node_is;
        parent = first_true (is_same_number node.parent above) (is_same_name node.name q) passes;
        name = names;
        there = map_or_some (λ (n : Node). is_same_number (child_number s.tables above n.name) (Some number)) (slice_get s.tables.nodes number) false node node_is ∙ number_itself (child_number s.tables above node.name) number (ap (child_number s.tables above) names ∙ child);
      }

  -- and what it leads to has the name
  pub child_has : (number : ℕ) (w : WrittenName) → child_named s above w ≡ Some number → (is_named s number w ≡ true) × (is_there number ≡ true)
  child_has number w e =
      let (q, q_is, child) = bind_some (qualified s.tables s.bounds w) (child_number s.tables above) number e in
      let found = child_stands number q child in
      let has : has_name s.tables number q ≡ true = map_or_some (λ (n : Node). is_same_name n.name q) (slice_get s.tables.nodes number) false found.node found.is ∙ (name_decide found.node.name q).1 found.name in (
        ap (λ o. option_map_or (has_name s.tables number) o false) q_is ∙ has,
        found.there,
      )

  pub names_end : (text : List ℕ) → StepNames s above text → (number : ℕ) × (can_end s above number ≡ true)
  names_end text (found, number, reads, child, keys) =
      let cut = name_cut text found.0 found.1 reads in
      let has = child_has number found.0 child in (
        number,
        both_true (is_there number) (is_nameable s number && can_be_given s number (key_nodes s.tables number)) has.1
            (both_true (is_nameable s number) (can_be_given s number (key_nodes s.tables number)) (named_is_nameable s number found.0 cut.prefix cut.name has.0) (keys_need s number (key_nodes s.tables number) found.1 keys)),
      )

  abbrev from_child : (found : WrittenName × List ℕ) → ℕ → Option (ℕ × List ℕ)
  from_child found number = cond (can_end s above number) (Some (number, found.1)) None

  pub first_there : (text : List ℕ) (found : WrittenName × List ℕ) (number : ℕ) → written_name text ≡ Some found → child_named s above found.0 ≡ Some number → can_end s above number ≡ true → child_first s above text ≡ Some (number, found.1)
  first_there text found number reads child e =
      ap (λ o. option_and_then (λ one. option_and_then (from_child one) (child_named s above one.0)) o) reads ∙
      ap (λ o. option_and_then (from_child found) o) child ∙ ap (λ t. cond {A = Option (ℕ × List ℕ)} t (Some (number, found.1)) None) e

  pub record IsFirst (text : List ℕ) (number : ℕ) (rest : List ℕ) : Type 0 where
    pub name : WrittenName
    pub reads : written_name text ≡ Some (name, rest)
    pub child : child_named s above name ≡ Some number
    pub ends : can_end s above number ≡ true

  pub first_parts : (text : List ℕ) (number : ℕ) (rest : List ℕ) → child_first s above text ≡ Some (number, rest) → IsFirst text number rest
  first_parts text number rest e =
      let (found, reads, e1) = bind_some (written_name text) (λ one. option_and_then (from_child one) (child_named s above one.0)) (number, rest) e in
      let (other, child, e2) = bind_some (child_named s above found.0) (from_child found) (number, rest) e1 in
      by found other reads child (can_end s above other) refl e2
    where
      by : (found : WrittenName × List ℕ) (other : ℕ) → written_name text ≡ Some found → child_named s above found.0 ≡ Some other → (t : Bool) → can_end s above other ≡ t → cond {A = Option (ℕ × List ℕ)} t (Some (other, found.1)) None ≡ Some (number, rest) → IsFirst text number rest
      by found other reads child true ends f =
          let pair : ◌≡◌ {A = ℕ × List ℕ} (other, found.1) (number, rest) = cc in
          let numbers_same : other ≡ number = ap (λ (x : ℕ × List ℕ). x.0) pair in
          let rests : found.1 ≡ rest = ap (λ (x : ℕ × List ℕ). x.1) pair in
          record { name = found.0; reads = reads ∙ (λ i. Some (found.0, rests i)); child = child ∙ ap Some numbers_same; ends = ap (can_end s above) (sym numbers_same) ∙ ends }
      by found other reads child false ends f = cc

  made : (number : ℕ) (w : WrittenName) → can_end s above number ≡ true → CanBeWritten s number w → (tail : List ℕ) × StepNames s above (wording w ++ tail)
  unfolding GoesOn
  made number w e can =
      let (tail, keys) = keys_live s number (key_nodes s.tables number) (end_given number e) in
      (tail, ((w, tail), number, name_reads w tail can.prefix can.name (goes_ends s keys.0 number (key_nodes s.tables number) tail keys.1), named_child number w e can.named, keys))

  pub names_halt : (text : List ℕ) (some : ℕ) → In some (ends_at s above) → child_first s above text ≡ None → Halts (StepNames s above) text (length text - farthest s text (ends_at s above))
  names_halt text some at missing = record {
    front = stop.front;
    rest = stop.rest;
    is = stop.is;
    long = stop.long;
    more = (begins stop.begun).0;
    before = (begins stop.begun).1;
    there = λ c cs next f stands. clash c cs next f stands;
  }
    where
      absent : (found : WrittenName × List ℕ) (number : ℕ) → written_name text ≡ Some found → In number (ends_at s above) → is_named s number found.0 ≡ true → ⊥
      absent found number reads within named =
          let e = in_ends number within in
          let there = first_there text found number reads (named_child number found.0 e named) e in
          let both : ◌≡◌ {A = Option (ℕ × List ℕ)} None (Some (number, found.1)) = sym missing ∙ there in
          cc

      stop : StopsName s (ends_at s above) text (length text - farthest s text (ends_at s above))
      stop = stops_name s (ends_at s above) text absent

      begins : (stop.front ≡ []) ⊎ ((number : ℕ) × (w : WrittenName) × (more : List ℕ) × In number (ends_at s above) × CanBeWritten s number w × (stop.front ++ more ≡ wording w)) → (more : List ℕ) × StepNames s above (stop.front ++ more)
      begins (inl none) =
          let e = in_ends some at in
          let (w, can) = nameable_is_written s some (end_nameable some e) in
          let (tail, holds) = made some w e can in
          (wording w ++ tail, subst (StepNames s above) (ap (λ x. x ++ (wording w ++ tail)) (sym none)) holds)
      begins (inr (number, w, more, within, can, e)) =
          let (tail, holds) = made number w (in_ends number within) can in
          (more ++ tail, subst (StepNames s above) (ap (λ x. x ++ tail) (sym e) ∙ append_assoc stop.front more tail) holds)

      clash : (c : ℕ) (cs next : List ℕ) → stop.rest ≡ c ∷ cs → StepNames s above (stop.front ++ c ∷ next) → ⊥
      clash c cs next f (found, number, reads, child, keys) =
          let cut = name_cut (stop.front ++ c ∷ next) found.0 found.1 reads in
          let has = child_has number found.0 child in
          let e : can_end s above number ≡ true = both_true (is_there number) (is_nameable s number && can_be_given s number (key_nodes s.tables number)) has.1
          (both_true (is_nameable s number) (can_be_given s number (key_nodes s.tables number)) (named_is_nameable s number found.0 cut.prefix cut.name has.0) (keys_need s number (key_nodes s.tables number) found.1 keys)) in
          stop.there c cs next found number f reads (ends_in number e) has.0
