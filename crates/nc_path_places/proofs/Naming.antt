-- The names of data nodes as they can be written, and how far a text is one.
use Rattle.std.proofs.Common.{◌≡◌, ◌⊎◌, inl, inr, ℕ, ◌≤◌, ◌-◌, Bool, true, false, cond, ◌&&◌, List, [], ◌∷◌, ◌++◌, Option, Some, None, length, max, is_some, slice_get, option_map, option_and_then, refl, sym, ap, subst, ◌∙◌, arith, find}
use Rattle.std.specs.List.{list_any}
use Rattle.std.specs.Option.{option_map_or}
use Rattle.std.specs.Cmp.Lexicographic.{bytes_decides}
use Rattle.nc_names.proofs.SameLemmas.{first_true, second_true, both_true}
use Rattle.nc_names.specs.declared.name.Bound.{Bound}
use Rattle.nc_names.specs.declared.name.Module.{Module}
use Rattle.nc_names.specs.declared.name.QName.{QName}
use Rattle.nc_names.specs.Bindings.{space_of}
use Rattle.nc_names.specs.Identifiers.{is_identifier}
use Rattle.nc_names.specs.Same.{is_same_text, is_same_name}
use Rattle.nc_names.specs.Signs.{colon}
use Rattle.nc_schema.specs.Bindings.{module_of}
use Rattle.nc_schema.specs.InstancePaths.{has_name, module_named, qualified}
use Rattle.nc_schema.specs.PathWords.{written_name}
use Rattle.nc_schema.specs.declared.node.Node.{Node}
use Rattle.nc_schema.specs.declared.written.WrittenName.{WrittenName}
use Rattle.nc_path_places.specs.inner.Going.{Reading}
use Rattle.nc_path_places.specs.inner.Candidates.{counts, spells, spelling, is_nameable, is_named, common, far_of_node, far_of, farthest}
use Rattle.nc_path_places.proofs.Farthest.{IsFarthest, StopsWord, max_is, stops_word}
use Rattle.nc_path_places.proofs.Names.{In, Ends, any_in, in_any, bind_some, map_some, map_or_true, map_or_some, wording, name_cut, name_again}

pub same_text : (a b : List ℕ) → is_same_text a b ≡ true → a ≡ b
same_text a b e = (bytes_decides a b).0 e

pub text_itself : (a b : List ℕ) → a ≡ b → is_same_text a b ≡ true
text_itself a b e = (bytes_decides a b).1 e

found_step : {X : Type 0} (p : X → Bool) (y x : X) (ys : List X) (b : Bool) → p y ≡ b → (find p ys ≡ Some x → (p x ≡ true) × In x ys) → cond b (Some y) (find p ys) ≡ Some x → (p x ≡ true) × In x (y ∷ ys)
found_step p y x ys true here further e = let same : y ≡ x = cc in (ap p (sym same) ∙ here, inl same)
found_step p y x ys false here further e = let found = further e in (found.0, inr found.1)

pub find_passes : {X : Type 0} (p : X → Bool) (xs : List X) (x : X) → find p xs ≡ Some x → (p x ≡ true) × In x xs
find_passes p [] x e = cc
find_passes p (y ∷ ys) x e = found_step p y x ys (p y) refl (find_passes p ys x) e

-- the binding of a prefix is among the bindings
abbrev IsBinding : List ℕ → List ℕ → List Bound → Type 0
IsBinding prefix space bounds = (b : Bound) × In b bounds × (b.prefix ≡ prefix) × (b.space ≡ space)

bound_step : (prefix space : List ℕ) (b : Bound) (more : List Bound) (t : Bool) → is_same_text prefix b.prefix ≡ t → (space_of prefix more ≡ Some space → IsBinding prefix space more) → cond t (Some b.space) (space_of prefix more) ≡ Some space → IsBinding prefix space (b ∷ more)
bound_step prefix space b more true same further e = (b, inl refl, sym (same_text prefix b.prefix same), (let there : b.space ≡ space = cc in there))
bound_step prefix space b more false same further e = let found = further e in (found.0, inr found.1, found.2, found.3)

bound_there : (prefix space : List ℕ) (bounds : List Bound) → space_of prefix bounds ≡ Some space → IsBinding prefix space bounds
bound_there prefix space [] e = cc
bound_there prefix space (b ∷ more) e = bound_step prefix space b more (is_same_text prefix b.prefix) refl (bound_there prefix space more) e

-- how the name of a node is written
pub record IsWritten (s : Reading) (number : ℕ) (w : WrittenName) : Type 0 where
  pub node : Node
  pub node_is : slice_get s.tables.nodes number ≡ Some node
  pub bound : Bound
  pub at : In bound s.bounds
  pub prefix : bound.prefix ≡ w.prefix
  pub space : bound.space ≡ node.name.space
  pub name : node.name.name ≡ w.name
  pub counted : is_identifier w.prefix ≡ true → counts s.tables s.bounds bound ≡ true

pub named_is_written : (s : Reading) (number : ℕ) (w : WrittenName) → is_named s number w ≡ true → IsWritten s number w
named_is_written s number w e =
    let (q, q_is, has) = map_or_true (has_name s.tables number) (qualified s.tables s.bounds w) e in
    let (m, m_is, q_of) = map_some (module_named s.tables s.bounds w) (λ (found : Module). let it : QName = record { space = found.space; name = w.name } in it) q q_is in
    let (space, space_is, m_of) = bind_some (space_of w.prefix s.bounds) (module_of s.tables) m m_is in
    let (bound, at, prefix, spaces) = bound_there w.prefix space s.bounds space_is in
    let (node, node_is, same) = map_or_true (λ (n : Node). is_same_name n.name q) (slice_get s.tables.nodes number) has in
    let of_module : m.space ≡ space = same_text m.space space (find_passes (λ (found : Module). is_same_text found.space space) s.tables.modules m m_of).0 in
    let first : node.name.space ≡ q.space = same_text node.name.space q.space (first_true (is_same_text node.name.space q.space) (is_same_text node.name.name q.name) same) in
    let second : node.name.name ≡ q.name = same_text node.name.name q.name (second_true (is_same_text node.name.space q.space) (is_same_text node.name.name q.name) same) in
    record {
      node = node;
      node_is = node_is;
      bound = bound;
      at = at;
      prefix = prefix;
      space = spaces ∙ sym of_module ∙ ap (λ (x : QName). x.space) q_of ∙ sym first;
      name = second ∙ sym (ap (λ (x : QName). x.name) q_of);
      counted = λ proper. both_true (is_identifier bound.prefix) (option_map_or (λ sp. is_same_text sp bound.space && is_some (module_of s.tables sp)) (space_of bound.prefix s.bounds) false)
          (ap is_identifier prefix ∙ proper)
          (map_or_some (λ sp. is_same_text sp bound.space && is_some (module_of s.tables sp)) (space_of bound.prefix s.bounds) false space (ap (λ x. space_of x s.bounds) prefix ∙ space_is) ∙
          both_true (is_same_text space bound.space) (is_some (module_of s.tables space)) (text_itself space bound.space (sym spaces)) (ap is_some m_of));
    }

-- so it can be written by each binding that spells it
pub record CanBeWritten (s : Reading) (number : ℕ) (w : WrittenName) : Type 0 where
  pub named : is_named s number w ≡ true
  pub prefix : is_identifier w.prefix ≡ true
  pub name : is_identifier w.name ≡ true

some_there : {A : Type 0} (o : Option A) → is_some o ≡ true → (x : A) × (o ≡ Some x)
some_there None e = cc
some_there (Some x) e = (x, refl)

abbrev by_name : Node → Bound → WrittenName
by_name node bound = record { prefix = bound.prefix; name = node.name.name }

pub spells_is_named : (s : Reading) (number : ℕ) (node : Node) (bound : Bound) → slice_get s.tables.nodes number ≡ Some node → In bound s.bounds → spells s node bound ≡ true → CanBeWritten s number (by_name node bound)
spells_is_named s number node bound node_is at spelled =
    let count = first_true (counts s.tables s.bounds bound) (is_same_text bound.space node.name.space && is_identifier node.name.name) spelled in
    let fits = second_true (counts s.tables s.bounds bound) (is_same_text bound.space node.name.space && is_identifier node.name.name) spelled in
    let rest = second_true (is_identifier bound.prefix) (option_map_or (λ space. is_same_text space bound.space && is_some (module_of s.tables space)) (space_of bound.prefix s.bounds) false) count in
    let (space, space_is, both) = map_or_true (λ space. is_same_text space bound.space && is_some (module_of s.tables space)) (space_of bound.prefix s.bounds) rest in
    let (m, m_is) = some_there (module_of s.tables space) (second_true (is_same_text space bound.space) (is_some (module_of s.tables space)) both) in
    let spaces : space ≡ bound.space = same_text space bound.space (first_true (is_same_text space bound.space) (is_some (module_of s.tables space)) both) in
    let of_module : m.space ≡ space = same_text m.space space (find_passes (λ (found : Module). is_same_text found.space space) s.tables.modules m m_is).0 in
    let of_node : bound.space ≡ node.name.space = same_text bound.space node.name.space (first_true (is_same_text bound.space node.name.space) (is_identifier node.name.name) fits) in
    let q : QName = record { space = m.space; name = node.name.name } in
    let module_is : module_named s.tables s.bounds (by_name node bound) ≡ Some m = ap (λ o. option_and_then (module_of s.tables) o) space_is ∙ m_is in
    let q_is : qualified s.tables s.bounds (by_name node bound) ≡ Some q = ap (λ o. option_map (λ (found : Module). let it : QName = record { space = found.space; name = node.name.name } in it) o) module_is in
    let has : has_name s.tables number q ≡ true =
    map_or_some (λ (n : Node). is_same_name n.name q) (slice_get s.tables.nodes number) false node node_is ∙
    both_true (is_same_text node.name.space m.space) (is_same_text node.name.name node.name.name)
    (text_itself node.name.space m.space (sym of_node ∙ sym spaces ∙ sym of_module)) (text_itself node.name.name node.name.name refl) in
    record {
      named = ap (λ o. option_map_or (has_name s.tables number) o false) q_is ∙ has;
      prefix = first_true (is_identifier bound.prefix) (option_map_or (λ space. is_same_text space bound.space && is_some (module_of s.tables space)) (space_of bound.prefix s.bounds) false) count;
      name = second_true (is_same_text bound.space node.name.space) (is_identifier node.name.name) fits;
    }

pub nameable_is_written : (s : Reading) (number : ℕ) → is_nameable s number ≡ true → (w : WrittenName) × CanBeWritten s number w
nameable_is_written s number e =
    let (node, node_is, some) = map_or_true (λ (n : Node). list_any (spells s n) s.bounds) (slice_get s.tables.nodes number) e in
    let (bound, at, spelled) = any_in (spells s node) s.bounds some in
    (by_name node bound, spells_is_named s number node bound node_is at spelled)

written_spells : (s : Reading) (number : ℕ) (w : WrittenName) → is_identifier w.prefix ≡ true → is_identifier w.name ≡ true → (is : IsWritten s number w) → spells s is.node is.bound ≡ true
written_spells s number w prefix proper is =
    both_true (counts s.tables s.bounds is.bound) (is_same_text is.bound.space is.node.name.space && is_identifier is.node.name.name) (is.counted prefix)
    (both_true (is_same_text is.bound.space is.node.name.space) (is_identifier is.node.name.name) (text_itself is.bound.space is.node.name.space is.space) (ap is_identifier is.name ∙ proper))

pub named_is_nameable : (s : Reading) (number : ℕ) (w : WrittenName) → is_identifier w.prefix ≡ true → is_identifier w.name ≡ true → is_named s number w ≡ true → is_nameable s number ≡ true
named_is_nameable s number w prefix proper e =
    let is = named_is_written s number w e in
    map_or_some (λ (n : Node). list_any (spells s n) s.bounds) (slice_get s.tables.nodes number) false is.node is.node_is ∙ in_any (spells s is.node) s.bounds is.bound is.at (written_spells s number w prefix proper is)

-- ---- how far
far_node_least : (s : Reading) (node : Node) (text : List ℕ) (bounds : List Bound) (bound : Bound) → In bound bounds → spells s node bound ≡ true → common text (spelling node bound) ≤ far_of_node s node text bounds
far_node_least s node text [] bound at e = absurd at
far_node_least s node text (b ∷ bounds) bound (inl same) e =
    let here : spells s node b ≡ true = ap (spells s node) same ∙ e in
    let it : cond (spells s node b) (common text (spelling node b)) 0 ≡ common text (spelling node bound) = rw here (ap (λ (x : Bound). common text (spelling node x)) same) in
    omega (arith, it)
far_node_least s node text (b ∷ bounds) bound (inr at) e = let further = far_node_least s node text bounds bound at e in omega (arith, further)

abbrev IsFarNode : Reading → Node → List ℕ → List Bound → ℕ → Type 0
IsFarNode s node text bounds far = (far ≡ 0) ⊎ ((b : Bound) × In b bounds × (spells s node b ≡ true) × (far ≡ common text (spelling node b)))

far_node_there : (s : Reading) (node : Node) (text : List ℕ) (bounds : List Bound) → IsFarNode s node text bounds (far_of_node s node text bounds)
far_node_there s node text [] = inl refl
far_node_there s node text (b ∷ bounds) = by (max_is (cond (spells s node b) (common text (spelling node b)) 0) (far_of_node s node text bounds)) (here (spells s node b) refl) (more (far_node_there s node text bounds))
  where
    here : (t : Bool) → spells s node b ≡ t → IsFarNode s node text (b ∷ bounds) (cond t (common text (spelling node b)) 0)
    here true e = inr (b, inl refl, e, refl)
    here false e = inl refl

    more : IsFarNode s node text bounds (far_of_node s node text bounds) → IsFarNode s node text (b ∷ bounds) (far_of_node s node text bounds)
    more (inl none) = inl none
    more (inr some) = inr (some.0, inr some.1, some.2, some.3)

    by : {a r : ℕ} → (max a r ≡ a) ⊎ (max a r ≡ r) → IsFarNode s node text (b ∷ bounds) a → IsFarNode s node text (b ∷ bounds) r → IsFarNode s node text (b ∷ bounds) (max a r)
    by (inl e) one two = subst (IsFarNode s node text (b ∷ bounds)) (sym e) one
    by (inr e) one two = subst (IsFarNode s node text (b ∷ bounds)) (sym e) two

-- of one node
pub far_of_least : (s : Reading) (text : List ℕ) (number : ℕ) (w : WrittenName) → CanBeWritten s number w → common text (wording w) ≤ far_of s text number
far_of_least s text number w can =
    let writes = named_is_written s number w can.named in
    let spelled = written_spells s number w can.prefix can.name writes in
    let spell : spelling writes.node writes.bound ≡ wording w = (λ i. writes.prefix i ++ colon ∷ writes.name i) in
    let it : far_of s text number ≡ far_of_node s writes.node text s.bounds = map_or_some (λ (x : Node). far_of_node s x text s.bounds) (slice_get s.tables.nodes number) 0 writes.node writes.node_is in
    let least = subst (λ (x : List ℕ). common text x ≤ far_of_node s writes.node text s.bounds) spell (far_node_least s writes.node text s.bounds writes.bound writes.at spelled) in
    omega (arith, it, least)

abbrev pub IsFarOf : Reading → List ℕ → ℕ → ℕ → Type 0
IsFarOf s text number far = (far ≡ 0) ⊎ ((w : WrittenName) × CanBeWritten s number w × (far ≡ common text (wording w)))

pub far_of_there : (s : Reading) (text : List ℕ) (number : ℕ) → IsFarOf s text number (far_of s text number)
far_of_there s text number = by (slice_get s.tables.nodes number) refl
  where
    found : (node : Node) → slice_get s.tables.nodes number ≡ Some node → IsFarNode s node text s.bounds (far_of_node s node text s.bounds) → IsFarOf s text number (far_of_node s node text s.bounds)
    found node e (inl none) = inl none
    found node e (inr (b, at, spelled, far)) = inr (by_name node b, spells_is_named s number node b e at spelled, far)

    by : (o : Option Node) → slice_get s.tables.nodes number ≡ o → IsFarOf s text number (option_map_or (λ node. far_of_node s node text s.bounds) o 0)
    by None e = inl refl
    by (Some node) e = found node e (far_node_there s node text s.bounds)

pub far_least : (s : Reading) (text : List ℕ) (among : List ℕ) (number : ℕ) (node : Node) (bound : Bound) → In number among → slice_get s.tables.nodes number ≡ Some node → In bound s.bounds → spells s node bound ≡ true → common text (spelling node bound) ≤ farthest s text among
far_least s text [] number node bound among node_is at e = absurd among
far_least s text (n ∷ ns) number node bound (inl same) node_is at e =
    let it : far_of s text n ≡ far_of_node s node text s.bounds = map_or_some (λ (x : Node). far_of_node s x text s.bounds) (slice_get s.tables.nodes n) 0 node (ap (slice_get s.tables.nodes) same ∙ node_is) in
    let least = far_node_least s node text s.bounds bound at e in
    omega (arith, it, least)
far_least s text (n ∷ ns) number node bound (inr among) node_is at e = let further = far_least s text ns number node bound among node_is at e in omega (arith, further)

abbrev IsFar : Reading → List ℕ → List ℕ → ℕ → Type 0
IsFar s text among far = (far ≡ 0) ⊎ ((number : ℕ) × (node : Node) × (b : Bound) × In number among × (slice_get s.tables.nodes number ≡ Some node) × In b s.bounds × (spells s node b ≡ true) × (far ≡ common text (spelling node b)))

far_number : (s : Reading) (text : List ℕ) (n : ℕ) (ns : List ℕ) (o : Option Node) → slice_get s.tables.nodes n ≡ o → IsFar s text (n ∷ ns) (option_map_or (λ node. far_of_node s node text s.bounds) o 0)
far_number s text n ns None e = inl refl
far_number s text n ns (Some node) e = by (far_node_there s node text s.bounds)
  where
    by : IsFarNode s node text s.bounds (far_of_node s node text s.bounds) → IsFar s text (n ∷ ns) (far_of_node s node text s.bounds)
    by (inl none) = inl none
    by (inr some) = inr (n, node, some.0, inl refl, e, some.1, some.2, some.3)

pub far_there : (s : Reading) (text : List ℕ) (among : List ℕ) → IsFar s text among (farthest s text among)
far_there s text [] = inl refl
far_there s text (n ∷ ns) = by (max_is (far_of s text n) (farthest s text ns)) (far_number s text n ns (slice_get s.tables.nodes n) refl) (more (far_there s text ns))
  where
    more : IsFar s text ns (farthest s text ns) → IsFar s text (n ∷ ns) (farthest s text ns)
    more (inl none) = inl none
    more (inr (number, node, b, among, node_is, at, spelled, e)) = inr (number, node, b, inr among, node_is, at, spelled, e)

    by : {a r : ℕ} → (max a r ≡ a) ⊎ (max a r ≡ r) → IsFar s text (n ∷ ns) a → IsFar s text (n ∷ ns) r → IsFar s text (n ∷ ns) (max a r)
    by (inl e) one two = subst (IsFar s text (n ∷ ns)) (sym e) one
    by (inr e) one two = subst (IsFar s text (n ∷ ns)) (sym e) two

-- ---- where a text stops to be the name of one of the nodes
pub record StopsName (s : Reading) (among text : List ℕ) (left : ℕ) : Type 0 where
  pub front : List ℕ
  pub rest : List ℕ
  pub is : text ≡ front ++ rest
  pub long : length rest ≡ left
  pub begun : (front ≡ []) ⊎ ((number : ℕ) × (w : WrittenName) × (more : List ℕ) × In number among × CanBeWritten s number w × (front ++ more ≡ wording w))
  pub there : (c : ℕ) (cs next : List ℕ) (found : WrittenName × List ℕ) (number : ℕ) → rest ≡ c ∷ cs → written_name (front ++ c ∷ next) ≡ Some found → In number among → is_named s number found.0 ≡ true → ⊥

module _ (s : Reading) (among text : List ℕ)
    (failed : (found : WrittenName × List ℕ) (number : ℕ) → written_name text ≡ Some found → In number among → is_named s number found.0 ≡ true → ⊥) where
  -- the name of one of the nodes
  abbrev IsNameOf : List ℕ → Type 0
  IsNameOf u = (number : ℕ) × (w : WrittenName) × In number among × CanBeWritten s number w × (u ≡ wording w)

  name_least : (u : List ℕ) → IsNameOf u → common text u ≤ farthest s text among
  name_least u (number, w, within, can, e) =
      let writes = named_is_written s number w can.named in
      let spelled = written_spells s number w can.prefix can.name writes in
      let spell : spelling writes.node writes.bound ≡ u = (λ i. writes.prefix i ++ colon ∷ writes.name i) ∙ sym e in
      subst (λ (x : List ℕ). common text x ≤ farthest s text among) spell (far_least s text among number writes.node writes.bound within writes.node_is writes.at spelled)

  name_farthest : IsFar s text among (farthest s text among) → IsFarthest IsNameOf text (farthest s text among)
  name_farthest (inl none) = inl none
  name_farthest (inr (number, node, b, within, node_is, at, spelled, e)) =
      inr (spelling node b, (number, by_name node b, within, spells_is_named s number node b node_is at spelled, refl), e)

  stop : StopsWord IsNameOf text (length text - farthest s text among)
  stop = stops_word IsNameOf text (farthest s text among) name_least (name_farthest (far_there s text among))

  begins : (stop.front ≡ []) ⊎ ((u : List ℕ) × (more : List ℕ) × IsNameOf u × (stop.front ++ more ≡ u)) → (stop.front ≡ []) ⊎ ((number : ℕ) × (w : WrittenName) × (more : List ℕ) × In number among × CanBeWritten s number w × (stop.front ++ more ≡ wording w))
  begins (inl none) = inl none
  begins (inr (u, more, (number, w, within, can, e), joined)) = inr (number, w, more, within, can, joined ∙ e)

  last : (less : List ℕ) (c : ℕ) (cs next : List ℕ) → Ends (less ++ c ∷ next) → Ends (less ++ c ∷ cs)
  last [] c cs next ends = ends
  last (d ∷ less) c cs next ends = ends

  none_there : (c : ℕ) (cs next : List ℕ) (found : WrittenName × List ℕ) (number : ℕ) → stop.rest ≡ c ∷ cs → written_name (stop.front ++ c ∷ next) ≡ Some found → In number among → is_named s number found.0 ≡ true → ⊥
  none_there c cs next found number e reads within named =
      let cut = name_cut (stop.front ++ c ∷ next) found.0 found.1 reads in
      let word : IsNameOf (wording found.0) = (number, found.0, within, record { named = named; prefix = cut.prefix; name = cut.name }, refl) in
      let (less, back, whole) = stop.there c cs next (wording found.0) found.1 e word cut.is in
      let ends : Ends (less ++ c ∷ cs) = last less c cs next (subst Ends back cut.ends) in
      failed (found.0, less ++ c ∷ cs) number (ap written_name whole ∙ name_again (stop.front ++ c ∷ next) found.0 found.1 (less ++ c ∷ cs) reads ends) within named

  pub stops_name : StopsName s among text (length text - farthest s text among)
  stops_name = record { front = stop.front; rest = stop.rest; is = stop.is; long = stop.long; begun = begins stop.begun; there = none_there }
