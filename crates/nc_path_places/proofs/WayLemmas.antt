-- The names that lead from a place of the path of a leafref.
use Rattle.std.proofs.Common.{◌≡◌, ◌⊎◌, inl, inr, ℕ, zero, suc, ◌<◌, ◌≤◌, ◌+◌, Bool, true, false, cond, eqb, ◌&&◌, ◌||◌, List, [], ◌∷◌, ◌++◌, Option, Some, length, max, slice_get, option_and_then, refl, sym, ap, subst, ◌∙◌, append-nil, arith}
use Rattle.std.specs.List.{list_all}
use Rattle.std.specs.Option.{option_map_or}
use Rattle.std.proofs.lemmas.Bool.Decides.{Decides-eqb, nat_tests}
use Rattle.nc_names.proofs.SameLemmas.{first_true, second_true, both_true, name_decide}
use Rattle.nc_names.specs.declared.name.QName.{QName}
use Rattle.nc_names.specs.Identifiers.{is_identifier}
use Rattle.nc_names.specs.Same.{is_same_name, is_same_text}
use Rattle.nc_names.specs.Signs.{begins_identifier, is_in_identifier, colon}
use Rattle.nc_schema.specs.Children.{child_number, is_same_number}
use Rattle.nc_schema.specs.InstancePaths.{has_name, leafref_name, qualified}
use Rattle.nc_schema.specs.PathWords.{written_name}
use Rattle.nc_schema.specs.declared.node.Node.{Node}
use Rattle.nc_schema.specs.declared.written.WrittenName.{WrittenName}
use Rattle.nc_path_places.specs.inner.Going.{Reading, child_named}
use Rattle.nc_path_places.specs.inner.Candidates.{common, far_of, is_nameable, is_named, stands}
use Rattle.nc_path_places.specs.inner.LeafrefNames.{far_name, far_own, far_way, is_own, is_way, is_writable, leads, named_there}
use Rattle.nc_path_places.proofs.Below.{child_stands, get_less, same_number, stands_named}
use Rattle.nc_path_places.proofs.DownLemmas.{NameView, name_view}
use Rattle.nc_path_places.proofs.Farthest.{IsFarthest, max_is}
use Rattle.nc_path_places.proofs.Names.{bind_some, map_or_some, map_or_true, name_reads, wording}
use Rattle.nc_path_places.proofs.Naming.{CanBeWritten, IsFarOf, far_of_least, far_of_there, named_is_nameable, nameable_is_written, same_text, text_itself}

-- a name with a colon is no identifier
no_colon : (front back : List ℕ) → list_all is_in_identifier (front ++ colon ∷ back) ≡ false
no_colon [] back = refl
no_colon (c ∷ cs) back = by (is_in_identifier c) (no_colon cs back)
  where
    by : (t : Bool) → list_all is_in_identifier (cs ++ colon ∷ back) ≡ false → (t && list_all is_in_identifier (cs ++ colon ∷ back)) ≡ false
    by true e = e
    by false e = refl

no_identifier : (front back : List ℕ) → is_identifier (front ++ colon ∷ back) ≡ false
no_identifier [] back = refl
no_identifier (c ∷ cs) back = by (begins_identifier c)
  where
    by : (t : Bool) → (t && list_all is_in_identifier (cs ++ colon ∷ back)) ≡ false
    by true = no_colon cs back
    by false = refl

or_left : (a b : Bool) → a ≡ true → (a || b) ≡ true
or_left a b e = ap (λ t. t || b) e

pub or_right : (a b : Bool) → b ≡ true → (a || b) ≡ true
or_right true b e = refl
or_right false b e = e

abbrev pub Either : Bool → Bool → Type 0
Either a b = (a ≡ true) ⊎ (b ≡ true)

pub either : (a b : Bool) → (a || b) ≡ true → Either a b
either true b e = inl refl
either false b e = inr e

module _ (s : Reading) (own : List ℕ) where
  -- ---- a name that is written leads to the node
  own_named : (above : Option ℕ) (number : ℕ) (node : Node) → slice_get s.tables.nodes number ≡ Some node → stands s.tables above number ≡ true → is_own s.tables own number ≡ true → named_there s own above node.name.name ≡ Some number
  own_named above number node node_is there e =
      let it : (is_same_text node.name.space own && is_identifier node.name.name) ≡ true = sym (map_or_some (λ (n : Node). is_same_text n.name.space own && is_identifier n.name.name) (slice_get s.tables.nodes number) false node node_is) ∙ e in
      let space : node.name.space ≡ own = same_text node.name.space own (first_true (is_same_text node.name.space own) (is_identifier node.name.name) it) in
      let proper : is_identifier node.name.name ≡ true = second_true (is_same_text node.name.space own) (is_identifier node.name.name) it in
      let child : child_number s.tables above node.name ≡ Some number = same_number (child_number s.tables above node.name) number
      (sym (map_or_some (λ (n : Node). is_same_number_there n) (slice_get s.tables.nodes number) false node node_is) ∙ there) in
      let name : leafref_name s.tables own s.bounds node.name.name ≡ Some node.name = rw proper (λ i. Some (record { space = sym space i; name = node.name.name })) in
      ap (λ o. option_and_then (child_number s.tables above) o) name ∙ child
    where
      is_same_number_there : Node → Bool
      is_same_number_there n = is_same_number (child_number s.tables above n.name) (Some number)

  prefixed_name : (w : WrittenName) → is_identifier w.prefix ≡ true → is_identifier w.name ≡ true → leafref_name s.tables own s.bounds (wording w) ≡ qualified s.tables s.bounds w
  prefixed_name w prefix name =
      let reads : written_name (wording w) ≡ Some (w, []) = ap written_name (sym (append-nil (wording w))) ∙ name_reads w [] prefix name tt in
      rw (no_identifier w.prefix w.name, reads) refl

  prefixed_named : (above : Option ℕ) (w : WrittenName) (number : ℕ) → is_identifier w.prefix ≡ true → is_identifier w.name ≡ true → child_named s above w ≡ Some number → named_there s own above (wording w) ≡ Some number
  prefixed_named above w number prefix name e = ap (λ o. option_and_then (child_number s.tables above) o) (prefixed_name w prefix name) ∙ e

  written_named : (above : Option ℕ) (w : WrittenName) (number : ℕ) → stands s.tables above number ≡ true → CanBeWritten s number w → named_there s own above (wording w) ≡ Some number
  written_named above w number there can = prefixed_named above w number can.prefix can.name (stands_named s above number w there can.named)

  pub writable_named : (above : Option ℕ) (number : ℕ) → stands s.tables above number ≡ true → is_writable s own number ≡ true → (part : List ℕ) × (named_there s own above part ≡ Some number)
  writable_named above number there e = by (either (is_own s.tables own number) (is_nameable s number) e)
    where
      by : Either (is_own s.tables own number) (is_nameable s number) → (part : List ℕ) × (named_there s own above part ≡ Some number)
      by (inl plain) =
          let (node, node_is, both) = map_or_true (λ (n : Node). is_same_text n.name.space own && is_identifier n.name.name) (slice_get s.tables.nodes number) plain in
          (node.name.name, own_named above number node node_is there plain)
      by (inr prefixed) =
          let (w, can) = nameable_is_written s number prefixed in
          (wording w, written_named above w number there can)

  -- ---- and no other does
  pub record IsNamedBy (above : Option ℕ) (part : List ℕ) (number : ℕ) : Type 0 where
    pub there : stands s.tables above number ≡ true
    pub node : Node
    pub node_is : slice_get s.tables.nodes number ≡ Some node
    pub name : ((is_own s.tables own number ≡ true) × (node.name.name ≡ part)) ⊎ ((w : WrittenName) × (part ≡ wording w) × CanBeWritten s number w)

  pub named_by : (above : Option ℕ) (part : List ℕ) (number : ℕ) → named_there s own above part ≡ Some number → IsNamedBy above part number
  named_by above part number e =
      let (q, q_is, child) = bind_some (leafref_name s.tables own s.bounds part) (child_number s.tables above) number e in
      let found = child_stands s above number q child in
      by q child found.node found.is found.name found.there (name_view s own part q q_is)
    where
      by : (q : QName) → child_number s.tables above q ≡ Some number → (node : Node) → slice_get s.tables.nodes number ≡ Some node → node.name ≡ q → stands s.tables above number ≡ true → NameView s own part q → IsNamedBy above part number
      by q child node node_is name there (inl (proper, plain)) =
          let local : node.name.name ≡ part = ap (λ (x : QName). x.name) (name ∙ sym plain) in
          let space : node.name.space ≡ own = ap (λ (x : QName). x.space) (name ∙ sym plain) in
          let it : is_own s.tables own number ≡ true = map_or_some (λ (n : Node). is_same_text n.name.space own && is_identifier n.name.name) (slice_get s.tables.nodes number) false node node_is ∙
          both_true (is_same_text node.name.space own) (is_identifier node.name.name) (text_itself node.name.space own space) (ap is_identifier local ∙ proper) in
          record { there = there; node = node; node_is = node_is; name = inl (it, local) }
      by q child node node_is name there (inr prefixed) =
          record {
            there = there;
            node = node;
            node_is = node_is;
            name = inr (
              prefixed.w,
              prefixed.is,
              record {
                named = named_of prefixed.w q prefixed.stands_for node node_is name;
                prefix = prefixed.prefix;
                name = prefixed.name;
              },
            );
          }
        where
          named_of : (w : WrittenName) (q : QName) → qualified s.tables s.bounds w ≡ Some q → (node : Node) → slice_get s.tables.nodes number ≡ Some node → node.name ≡ q → is_named s number w ≡ true
          named_of w q e node node_is name = ap (λ o. option_map_or (has_name s.tables number) o false) e ∙ map_or_some (λ (n : Node). is_same_name n.name q) (slice_get s.tables.nodes number) false node node_is ∙ (name_decide node.name q).1 name

  pub named_writable : (above : Option ℕ) (part : List ℕ) (number : ℕ) → IsNamedBy above part number → is_writable s own number ≡ true
  named_writable above part number it = by it.name
    where
      by : ((is_own s.tables own number ≡ true) × (it.node.name.name ≡ part)) ⊎ ((w : WrittenName) × (part ≡ wording w) × CanBeWritten s number w) → is_writable s own number ≡ true
      by (inl plain) = or_left (is_own s.tables own number) (is_nameable s number) plain.0
      by (inr (w, is, can)) = or_right (is_own s.tables own number) (is_nameable s number) (named_is_nameable s number w can.prefix can.name can.named)

  -- ---- how far
  far_least : (above : Option ℕ) (text part : List ℕ) (number : ℕ) → IsNamedBy above part number → common text part ≤ far_name s own text number
  far_least above text part number it = by it.name
    where
      by : ((is_own s.tables own number ≡ true) × (it.node.name.name ≡ part)) ⊎ ((w : WrittenName) × (part ≡ wording w) × CanBeWritten s number w) → common text part ≤ far_name s own text number
      by (inl (plain, local)) =
          let far : far_own s.tables own text number ≡ common text part =
          ap (λ t. cond t (option_map_or (λ (n : Node). common text n.name.name) (slice_get s.tables.nodes number) 0) 0) plain ∙
          map_or_some (λ (n : Node). common text n.name.name) (slice_get s.tables.nodes number) 0 it.node it.node_is ∙ ap (common text) local in
          omega (arith, far)
      by (inr (w, is, can)) =
          let least = far_of_least s text number w can in
          let same : common text part ≡ common text (wording w) = ap (common text) is in
          omega (arith, least, same)

  far_there : (above : Option ℕ) (text : List ℕ) (number : ℕ) → stands s.tables above number ≡ true → IsFarthest (λ u. named_there s own above u ≡ Some number) text (far_name s own text number)
  far_there above text number there = by (max_is (far_own s.tables own text number) (far_of s text number)) (plain (is_own s.tables own number) refl) (prefixed (far_of_there s text number))
    where
      Named : List ℕ → Type 0
      Named u = named_there s own above u ≡ Some number

      plain : (t : Bool) → is_own s.tables own number ≡ t → IsFarthest Named text (cond t (option_map_or (λ (n : Node). common text n.name.name) (slice_get s.tables.nodes number) 0) 0)
      plain true e =
          let (node, node_is, both) = map_or_true (λ (n : Node). is_same_text n.name.space own && is_identifier n.name.name) (slice_get s.tables.nodes number) e in
          inr (node.name.name, own_named above number node node_is there e, map_or_some (λ (n : Node). common text n.name.name) (slice_get s.tables.nodes number) 0 node node_is)
      plain false e = inl refl

      prefixed : IsFarOf s text number (far_of s text number) → IsFarthest Named text (far_of s text number)
      prefixed (inl none) = inl none
      prefixed (inr (w, can, e)) = inr (wording w, written_named above w number there can, e)

      by : {a r : ℕ} → (max a r ≡ a) ⊎ (max a r ≡ r) → IsFarthest Named text a → IsFarthest Named text r → IsFarthest Named text (max a r)
      by (inl e) one two = subst (IsFarthest Named text) (sym e) one
      by (inr e) one two = subst (IsFarthest Named text) (sym e) two

  module _ (marks : List Bool) (above : Option ℕ) where
    -- the name of a node to which one leads from there, and at or below which a path can end
    abbrev pub WayName : List ℕ → Type 0
    WayName u = (number : ℕ) × (named_there s own above u ≡ Some number) × (leads s.tables marks number ≡ true)

    is_way_of : (u : List ℕ) (number : ℕ) → named_there s own above u ≡ Some number → leads s.tables marks number ≡ true → is_way s own marks above number ≡ true
    is_way_of u number named goes =
        let it = named_by above u number named in
        both_true (stands s.tables above number) (is_writable s own number && leads s.tables marks number) it.there
        (both_true (is_writable s own number) (leads s.tables marks number) (named_writable above u number it) goes)

    way_least : (text u : List ℕ) (number most : ℕ) → named_there s own above u ≡ Some number → is_way s own marks above number ≡ true → number < most → common text u ≤ far_way s own marks above text most
    way_least text u number zero named e less = absurd (omega (arith, less))
    way_least text u number (suc most) named e less = by (eqb number most) refl (way_least text u number most named e)
      where
        by : (t : Bool) → eqb number most ≡ t → (number < most → common text u ≤ far_way s own marks above text most) → common text u ≤ far_way s own marks above text (suc most)
        by true same further =
            let is : number ≡ most = (Decides-eqb number most).0 same in
            let here : is_way s own marks above most ≡ true = ap (is_way s own marks above) (sym is) ∙ e in
            let far : cond (is_way s own marks above most) (far_name s own text most) 0 ≡ far_name s own text number = rw here (ap (far_name s own text) (sym is)) in
            let least = far_least above text u number (named_by above u number named) in
            omega (arith, far, least)
        by false other further =
            let below : number < most = grind (arith, nat_tests) in
            let least = further below in
            omega (arith, least)

    way_there : (text : List ℕ) (most : ℕ) → IsFarthest WayName text (far_way s own marks above text most)
    way_there text zero = inl refl
    way_there text (suc most) = by (max_is (far_way s own marks above text most) (cond (is_way s own marks above most) (far_name s own text most) 0)) (way_there text most) (here (is_way s own marks above most) refl)
      where
        here : (t : Bool) → is_way s own marks above most ≡ t → IsFarthest WayName text (cond t (far_name s own text most) 0)
        here true e =
            let there = first_true (stands s.tables above most) (is_writable s own most && leads s.tables marks most) e in
            let goes = second_true (is_writable s own most) (leads s.tables marks most) (second_true (stands s.tables above most) (is_writable s own most && leads s.tables marks most) e) in
            found goes (far_there above text most there)
          where
            found : leads s.tables marks most ≡ true → IsFarthest (λ u. named_there s own above u ≡ Some most) text (far_name s own text most) → IsFarthest WayName text (far_name s own text most)
            found goes (inl none) = inl none
            found goes (inr (u, named, far)) = inr (u, (most, named, goes), far)
        here false e = inl refl

        by : {a r : ℕ} → (max a r ≡ a) ⊎ (max a r ≡ r) → IsFarthest WayName text a → IsFarthest WayName text r → IsFarthest WayName text (max a r)
        by (inl e) one two = subst (IsFarthest WayName text) (sym e) one
        by (inr e) one two = subst (IsFarthest WayName text) (sym e) two

    pub far_least_all : (text u : List ℕ) → WayName u → common text u ≤ far_way s own marks above text (length s.tables.nodes)
    far_least_all text u (number, named, goes) =
        let it = named_by above u number named in
        way_least text u number (length s.tables.nodes) named (is_way_of u number named goes) (get_less s.tables.nodes number it.node it.node_is)

    pub far_there_all : (text : List ℕ) → IsFarthest WayName text (far_way s own marks above text (length s.tables.nodes))
    far_there_all text = way_there text (length s.tables.nodes)

-- ---- one data node more
pub far_next : (s : Reading) (own : List ℕ) (marks : List Bool) (above : Option ℕ) (text : List ℕ) (number far : ℕ) → far ≡ far_way s own marks above text number → is_way s own marks above number ≡ true → max far (far_name s own text number) ≡ far_way s own marks above text (number + 1)
far_next s own marks above text number far e is_it =
    let next : number + 1 ≡ suc number = omega arith in
    rw next (λ i. max (e i) (sym (ap (λ t. cond t (far_name s own text number) 0) is_it) i))

pub far_skip : (s : Reading) (own : List ℕ) (marks : List Bool) (above : Option ℕ) (text : List ℕ) (number far : ℕ) → far ≡ far_way s own marks above text number → is_way s own marks above number ≡ false → far ≡ far_way s own marks above text (number + 1)
far_skip s own marks above text number far e is_it =
    let next : number + 1 ≡ suc number = omega arith in
    let none : cond (is_way s own marks above number) (far_name s own text number) 0 ≡ 0 = ap (λ t. cond t (far_name s own text number) 0) is_it in
    rw next (omega (arith, e, none))
