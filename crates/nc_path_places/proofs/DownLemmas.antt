-- Names that lead down from a node, one part of a text after another.
use Rattle.std.proofs.Common.{◌≡◌, ◌⊎◌, inl, inr, ℕ, Bool, true, false, cond, eqb, List, [], ◌∷◌, ◌++◌, Option, Some, None, length, is_some, option_map, option_and_then, slice_get, refl, sym, ap, subst, ◌∙◌, append_assoc, append-nil, arith}
use Rattle.std.specs.List.{list_all}
use Rattle.std.specs.Option.{option_map_or}
use Rattle.std.proofs.lemmas.Bool.Decides.{Decides-eqb}
use Rattle.std.proofs.lemmas.Option.{some_pair_parts}
use Rattle.nc_names.proofs.SameLemmas.{first_true, second_true}
use Rattle.nc_names.specs.declared.name.QName.{QName}
use Rattle.nc_names.specs.Identifiers.{is_identifier}
use Rattle.nc_names.specs.Signs.{begins_identifier, is_in_identifier, colon, slash}
use Rattle.nc_schema.specs.Children.{child_number}
use Rattle.nc_schema.specs.InstancePaths.{leads_down, leafref_below, leafref_name, qualified}
use Rattle.nc_schema.specs.Kinds.{has_value}
use Rattle.nc_schema.specs.PathWords.{up_to, written_name}
use Rattle.nc_schema.specs.declared.node.Node.{Node}
use Rattle.nc_schema.specs.declared.pattern.LeafrefEnd.{LeafrefEnd}
use Rattle.nc_schema.specs.declared.written.WrittenName.{WrittenName}
use Rattle.nc_path_places.specs.inner.Going.{Reading}
use Rattle.nc_path_places.specs.inner.LeafrefNames.{is_value, named_there}
use Rattle.nc_path_places.specs.inner.Leafrefs.{Down, parts}
use Rattle.nc_paths.proofs.LeafrefLemmas.{part_cut, part_last}
use Rattle.nc_path_places.proofs.Names.{bind_some, map_some, identifier_passes, name_cut, wording}
use Rattle.nc_path_places.proofs.Stages.{up_to_cut, up_to_open}

-- ---- the parts of a text
abbrev pub IsPart : List ℕ → Type 0
IsPart part = up_to slash part ≡ None

front_step : (mark c : ℕ) (cs value rest : List ℕ) (t : Bool) → eqb c mark ≡ t → ((v r : List ℕ) → up_to mark cs ≡ Some (v, r) → up_to mark v ≡ None) → cond {A = Option (List ℕ × List ℕ)} t (Some ([], cs)) (option_map (λ one. (c ∷ one.0, one.1)) (up_to mark cs)) ≡ Some (value, rest) → up_to mark value ≡ None
front_step mark c cs value rest true same further e =
    let (none, back) = some_pair_parts [] value cs rest e in
    ap (up_to mark) (sym none)
front_step mark c cs value rest false same further e =
    let (found, found_is, both) = map_some (up_to mark cs) (λ (one : List ℕ × List ℕ). let it : List ℕ × List ℕ = (c ∷ one.0, one.1) in it) (value, rest) e in
    let front : c ∷ found.0 ≡ value = ap (λ (one : List ℕ × List ℕ). one.0) both in
    let none : up_to mark found.0 ≡ None = further found.0 found.1 found_is in
    ap (up_to mark) (sym front) ∙ rw (same, none) refl

front_open : (mark : ℕ) (text value rest : List ℕ) → up_to mark text ≡ Some (value, rest) → up_to mark value ≡ None
front_open mark [] value rest e = cc
front_open mark (c ∷ cs) value rest e = front_step mark c cs value rest (eqb c mark) refl (front_open mark cs) e

abbrev pub IsCut : List ℕ → Type 0
IsCut text = IsPart text ⊎ ((part : List ℕ) × (rest : List ℕ) × IsPart part × (text ≡ part ++ slash ∷ rest))

pub text_cut : (text : List ℕ) → IsCut text
text_cut text = by (up_to slash text) refl
  where
    by : (o : Option (List ℕ × List ℕ)) → up_to slash text ≡ o → IsCut text
    by None e = inl e
    by (Some (part, rest)) e = inr (part, rest, front_open slash text part rest e, (up_to_cut slash text part rest e).is)

pub parts_on : (part next : List ℕ) → IsPart part → parts (part ++ slash ∷ next) ≡ part ∷ parts next
parts_on part next e = part_cut (part ++ slash ∷ next) part next (up_to_open slash part next e)

pub parts_end : (part : List ℕ) → IsPart part → parts part ≡ part ∷ []
parts_end part e = part_last part e

-- ---- the words of a part
no_slash : (c : ℕ) → is_in_identifier c ≡ true → eqb c slash ≡ false
no_slash c e = by (eqb c slash) refl
  where
    by : (t : Bool) → eqb c slash ≡ t → t ≡ false
    by true same = let clash : is_in_identifier slash ≡ true = ap is_in_identifier (sym ((Decides-eqb c slash).0 same)) ∙ e in cc
    by false same = refl

in_part : (name rest : List ℕ) → list_all is_in_identifier name ≡ true → IsPart rest → IsPart (name ++ rest)
in_part [] rest e part = part
in_part (c ∷ cs) rest e part = rw (no_slash c (first_true (is_in_identifier c) (list_all is_in_identifier cs) e), in_part cs rest (second_true (is_in_identifier c) (list_all is_in_identifier cs) e) part) refl

identifier_part : (name : List ℕ) → is_identifier name ≡ true → IsPart name
identifier_part name e = subst IsPart (append-nil name) (in_part name [] (identifier_passes name e) refl)

wording_part : (w : WrittenName) → is_identifier w.prefix ≡ true → is_identifier w.name ≡ true → IsPart (wording w)
wording_part w prefix name = in_part w.prefix (colon ∷ w.name) (identifier_passes w.prefix prefix) (rw (identifier_part w.name name) refl)

empty_is : (xs : List ℕ) → eqb (length xs) 0 ≡ true → xs ≡ []
empty_is [] e = refl
empty_is (x ∷ xs) e = absurd (omega (arith, (Decides-eqb (length (x ∷ xs)) 0).0 e))

module _ (s : Reading) (own : List ℕ) where
  -- a name with a prefix
  pub record IsPrefixed (part : List ℕ) (q : QName) : Type 0 where
    pub w : WrittenName
    pub is : part ≡ wording w
    pub prefix : is_identifier w.prefix ≡ true
    pub name : is_identifier w.name ≡ true
    pub stands_for : qualified s.tables s.bounds w ≡ Some q

  abbrev pub NameView : List ℕ → QName → Type 0
  NameView part q = ((is_identifier part ≡ true) × (record { space = own; name = part } ≡ q)) ⊎ IsPrefixed part q

  pub name_view : (part : List ℕ) (q : QName) → leafref_name s.tables own s.bounds part ≡ Some q → NameView part q
  name_view part q e = by (is_identifier part) refl e
    where
      got : QName → Option QName → QName
      got other None = other
      got other (Some x) = x

      by : (t : Bool) → is_identifier part ≡ t → cond t (Some (record { space = own; name = part })) (option_and_then (λ found. cond (eqb (length found.1) 0) (qualified s.tables s.bounds found.0) None) (written_name part)) ≡ Some q → NameView part q
      by true proper f = inl (proper, ap (got q) f)
      by false proper f =
          let (found, reads, g) = bind_some (written_name part) (λ (found : WrittenName × List ℕ). cond (eqb (length found.1) 0) (qualified s.tables s.bounds found.0) None) q f in
          whole found reads (eqb (length found.1) 0) refl g
        where
          whole : (found : WrittenName × List ℕ) → written_name part ≡ Some found → (t : Bool) → eqb (length found.1) 0 ≡ t → cond t (qualified s.tables s.bounds found.0) None ≡ Some q → NameView part q
          whole found reads true none g =
              let cut = name_cut part found.0 found.1 reads in
              inr (record { w = found.0; is = cut.is ∙ ap (λ x. wording found.0 ++ x) (empty_is found.1 none) ∙ append-nil (wording found.0); prefix = cut.prefix; name = cut.name; stands_for = g })
          whole found reads false none g = cc

  pub name_part : (part : List ℕ) (q : QName) → leafref_name s.tables own s.bounds part ≡ Some q → IsPart part
  name_part part q e = by (name_view part q e)
    where
      by : NameView part q → IsPart part
      by (inl plain) = identifier_part part plain.0
      by (inr it) = subst IsPart (sym it.is) (wording_part it.w it.prefix it.name)

  first_in : (name more : List ℕ) (c : ℕ) (cs : List ℕ) → is_identifier name ≡ true → name ++ more ≡ c ∷ cs → begins_identifier c ≡ true
  first_in [] more c cs e f = cc
  first_in (d ∷ ds) more c cs e f = let head : d ≡ c = cc in ap begins_identifier (sym head) ∙ first_true (begins_identifier d) (list_all is_in_identifier ds) e

  -- the first sign of what begins with a name
  pub name_first : (part more : List ℕ) (q : QName) (c : ℕ) (cs : List ℕ) → leafref_name s.tables own s.bounds part ≡ Some q → part ++ more ≡ c ∷ cs → begins_identifier c ≡ true
  name_first part more q c cs e f = by (name_view part q e)
    where
      by : NameView part q → begins_identifier c ≡ true
      by (inl plain) = first_in part more c cs plain.0 f
      by (inr it) = first_in it.w.prefix ((colon ∷ it.w.name) ++ more) c cs it.prefix (sym (append_assoc it.w.prefix (colon ∷ it.w.name) more) ∙ ap (λ x. x ++ more) (sym it.is) ∙ f)

  -- ---- one name more
  abbrev ending : Option ℕ → Option ℕ → Option LeafrefEnd
  ending above target =
      option_and_then (λ one. option_and_then (λ node. cond (has_value node.kind) (Some (record { target = one; above = above })) None) (slice_get s.tables.nodes one)) target

  same_end : (above other target : Option ℕ) → is_some (ending above target) ≡ is_some (ending other target)
  same_end above other None = refl
  same_end above other (Some one) = by (slice_get s.tables.nodes one)
    where
      kinds : (t : Bool) → is_some (cond {A = Option LeafrefEnd} t (Some (record { target = one; above = above })) None) ≡ is_some (cond {A = Option LeafrefEnd} t (Some (record { target = one; above = other })) None)
      kinds true = refl
      kinds false = refl

      by : (o : Option Node) → is_some (option_and_then (λ (node : Node). cond {A = Option LeafrefEnd} (has_value node.kind) (Some (record { target = one; above = above })) None) o) ≡ is_some (option_and_then (λ (node : Node). cond {A = Option LeafrefEnd} (has_value node.kind) (Some (record { target = one; above = other })) None) o)
      by None = refl
      by (Some node) = kinds (has_value node.kind)

  value_end : (above : Option ℕ) (number : ℕ) → is_some (ending above (Some number)) ≡ is_value s.tables number
  value_end above number = by (slice_get s.tables.nodes number)
    where
      kinds : (t : Bool) → is_some (cond {A = Option LeafrefEnd} t (Some (record { target = number; above = above })) None) ≡ t
      kinds true = refl
      kinds false = refl

      by : (o : Option Node) → is_some (option_and_then (λ (node : Node). cond {A = Option LeafrefEnd} (has_value node.kind) (Some (record { target = number; above = above })) None) o) ≡ option_map_or (λ (node : Node). has_value node.kind) o false
      by None = refl
      by (Some node) = kinds (has_value node.kind)

  leads_step : (above : Option ℕ) (part : List ℕ) (more : List (List ℕ)) → leads_down s.tables own s.bounds above (part ∷ more) ≡ option_and_then (λ number. leads_down s.tables own s.bounds (Some number) more) (named_there s own above part)
  leads_step above part more = by (leafref_name s.tables own s.bounds part)
    where
      by : (o : Option QName) → option_and_then (λ name. option_and_then (λ number. leads_down s.tables own s.bounds (Some number) more) (child_number s.tables above name)) o ≡ option_and_then (λ number. leads_down s.tables own s.bounds (Some number) more) (option_and_then (child_number s.tables above) o)
      by None = refl
      by (Some name) = refl

  down_more : (above : Option ℕ) (part : List ℕ) (more : List (List ℕ)) (number : ℕ) → named_there s own above part ≡ Some number → is_some (leafref_below s.tables own s.bounds above (part ∷ more)) ≡ is_some (leafref_below s.tables own s.bounds (Some number) more)
  down_more above part more number e =
      ap (λ o. is_some (ending above o)) (leads_step above part more ∙ ap (λ o. option_and_then (λ n. leads_down s.tables own s.bounds (Some n) more) o) e) ∙
      same_end above (Some number) (leads_down s.tables own s.bounds (Some number) more)

  -- a name and a slash before more of them
  pub down_on : (above : Option ℕ) (part next : List ℕ) (number : ℕ) → IsPart part → named_there s own above part ≡ Some number → is_some (leafref_below s.tables own s.bounds above (parts (part ++ slash ∷ next))) ≡ is_some (leafref_below s.tables own s.bounds (Some number) (parts next))
  down_on above part next number whole e = ap (λ ps. is_some (leafref_below s.tables own s.bounds above ps)) (parts_on part next whole) ∙ down_more above part (parts next) number e

  -- the last name
  pub down_end : (above : Option ℕ) (part : List ℕ) (number : ℕ) → IsPart part → named_there s own above part ≡ Some number → is_some (leafref_below s.tables own s.bounds above (parts part)) ≡ is_value s.tables number
  down_end above part number whole e = ap (λ ps. is_some (leafref_below s.tables own s.bounds above ps)) (parts_end part whole) ∙ down_more above part [] number e ∙ value_end (Some number) number

  pub there_part : (above : Option ℕ) (part : List ℕ) (number : ℕ) → named_there s own above part ≡ Some number → IsPart part
  there_part above part number e =
      let (q, q_is, child) = bind_some (leafref_name s.tables own s.bounds part) (child_number s.tables above) number e in
      name_part part q q_is

  some_named : (above : Option ℕ) (part : List ℕ) (more : List (List ℕ)) → is_some (leafref_below s.tables own s.bounds above (part ∷ more)) ≡ true → (number : ℕ) × (named_there s own above part ≡ Some number)
  some_named above part more e = by (named_there s own above part) refl
    where
      by : (o : Option ℕ) → named_there s own above part ≡ o → (number : ℕ) × (named_there s own above part ≡ Some number)
      by None f =
          let none : leads_down s.tables own s.bounds above (part ∷ more) ≡ None = leads_step above part more ∙ ap (λ o. option_and_then (λ n. leads_down s.tables own s.bounds (Some n) more) o) f in
          let clash : false ≡ true = ap (λ o. is_some (ending above o)) (sym none) ∙ e in
          absurd cc
      by (Some number) f = (number, f)

  -- what a text of names begins with
  pub record IsDown (above : Option ℕ) (text : List ℕ) : Type 0 where
    pub part : List ℕ
    pub number : ℕ
    pub named : named_there s own above part ≡ Some number
    pub goes : ((text ≡ part) × (is_value s.tables number ≡ true)) ⊎ ((rest : List ℕ) × (text ≡ part ++ slash ∷ rest) × Down s own (Some number) rest)

  pub down_view : (above : Option ℕ) (text : List ℕ) → Down s own above text → IsDown above text
  down_view above text down = by (text_cut text)
    where
      by : IsCut text → IsDown above text
      by (inl whole) =
          let (number, named) = some_named above text [] (ap (λ ps. is_some (leafref_below s.tables own s.bounds above ps)) (sym (parts_end text whole)) ∙ down) in
          record { part = text; number = number; named = named; goes = inl (refl, sym (down_end above text number whole named) ∙ down) }
      by (inr (part, rest, whole, is)) =
          let there : is_some (leafref_below s.tables own s.bounds above (parts (part ++ slash ∷ rest))) ≡ true = ap (λ t. is_some (leafref_below s.tables own s.bounds above (parts t))) (sym is) ∙ down in
          let (number, named) = some_named above part (parts rest) (ap (λ ps. is_some (leafref_below s.tables own s.bounds above ps)) (sym (parts_on part rest whole)) ∙ there) in
          record { part = part; number = number; named = named; goes = inr (rest, is, sym (down_on above part rest number whole named) ∙ there) }

  -- a text of names begins with one
  pub down_first : (above : Option ℕ) (c : ℕ) (cs : List ℕ) → Down s own above (c ∷ cs) → begins_identifier c ≡ true
  down_first above c cs down =
      let view = down_view above (c ∷ cs) down in
      let (q, q_is, child) = bind_some (leafref_name s.tables own s.bounds view.part) (child_number s.tables above) view.number view.named in
      by view.part q q_is view.goes
    where
      by : {number : ℕ} (part : List ℕ) (q : QName) → leafref_name s.tables own s.bounds part ≡ Some q → (((c ∷ cs) ≡ part) × (is_value s.tables number ≡ true)) ⊎ ((rest : List ℕ) × ((c ∷ cs) ≡ part ++ slash ∷ rest) × Down s own (Some number) rest) → begins_identifier c ≡ true
      by part q e (inl end) = name_first part [] q c cs e (append-nil part ∙ sym end.0)
      by part q e (inr on) = name_first part (slash ∷ on.0) q c cs e (sym on.1)
