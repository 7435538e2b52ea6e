-- The steps of a path that lead up, and where it turns down.
use Rattle.std.proofs.Common.{◌≡◌, ◌⊎◌, inl, inr, ℕ, Bool, true, false, cond, List, [], ◌∷◌, ◌++◌, Option, Some, None, is_some, option_and_then, slice_get, refl, sym, ap, subst, ◌∙◌}
use Rattle.nc_names.specs.Same.{is_same_text}
use Rattle.nc_names.specs.Signs.{dot, slash}
use Rattle.nc_schema.specs.Children.{child_number}
use Rattle.nc_schema.specs.InstancePaths.{leafref_below, leafref_end, leafref_from, leafref_name, leafref_parts, parent_of}
use Rattle.nc_schema.specs.PathWords.{written_name}
use Rattle.nc_schema.specs.declared.node.Node.{Node}
use Rattle.nc_schema.specs.declared.pattern.LeafrefEnd.{LeafrefEnd}
use Rattle.nc_path_places.specs.inner.Going.{Reading}
use Rattle.nc_path_places.specs.inner.LeafrefNames.{is_value}
use Rattle.nc_path_places.specs.inner.LeafrefPlaces.{IsSpaceOf}
use Rattle.nc_path_places.specs.inner.Leafrefs.{Down, From, LeafrefPath, Rise, parts, up}
use Rattle.nc_path_places.proofs.DownLemmas.{IsCut, IsPart, down_view, parts_end, parts_on, text_cut, there_part}
use Rattle.nc_path_places.proofs.Names.{map_some}
use Rattle.nc_path_places.proofs.Naming.{same_text}

abbrev dots : List ℕ
dots = dot ∷ dot ∷ []

module _ (s : Reading) (own : List ℕ) where
  -- `..` is no name
  no_name : leafref_name s.tables own s.bounds dots ≡ None
  unfolding written_name
  no_name = refl

  not_dots : (above : Option ℕ) (part : List ℕ) (number : ℕ) → option_and_then (child_number s.tables above) (leafref_name s.tables own s.bounds part) ≡ Some number → is_same_text part dots ≡ false
  not_dots above part number e = by (is_same_text part dots) refl
    where
      by : (t : Bool) → is_same_text part dots ≡ t → t ≡ false
      by true same =
          let none : leafref_name s.tables own s.bounds part ≡ None = ap (leafref_name s.tables own s.bounds) (same_text part dots same) ∙ no_name in
          let clash : None ≡ Some number = ap (λ o. option_and_then (child_number s.tables above) o) (sym none) ∙ e in
          absurd cc
      by false same = refl

  -- ---- what follows `../`
  abbrev over : Option ℕ → List (List ℕ) → Option LeafrefEnd
  over above ps = option_and_then (λ number. leafref_from s.tables own s.bounds (parent_of s.tables number) ps) above

  over_nothing : (above : Option ℕ) → over above [] ≡ None
  over_nothing None = refl
  over_nothing (Some number) = refl

  abbrev from_cases : Bool → Option ℕ → List ℕ → List (List ℕ) → Option LeafrefEnd
  from_cases t above part more = cond t (over above more) (leafref_below s.tables own s.bounds above (part ∷ more))

  pub down_from : (above : Option ℕ) (text : List ℕ) → Down s own above text → From s own above text
  down_from above text down =
      let view = down_view s own above text down in
      by view.part view.number (text_cut text) view.named view.goes
    where
      at : (part : List ℕ) (more : List (List ℕ)) (number : ℕ) → option_and_then (child_number s.tables above) (leafref_name s.tables own s.bounds part) ≡ Some number → parts text ≡ part ∷ more → From s own above text
      at part more number named e =
          let other = not_dots above part number named in
          ap (λ ps. is_some (leafref_from s.tables own s.bounds above ps)) e ∙ ap (λ t. is_some (from_cases t above part more)) other ∙
          ap (λ ps. is_some (leafref_below s.tables own s.bounds above ps)) (sym e) ∙ down

      by : (part : List ℕ) (number : ℕ) → IsCut text → option_and_then (child_number s.tables above) (leafref_name s.tables own s.bounds part) ≡ Some number → ((text ≡ part) × (is_value s.tables number ≡ true)) ⊎ ((rest : List ℕ) × (text ≡ part ++ slash ∷ rest) × Down s own (Some number) rest) → From s own above text
      by part number cut named (inl end) = at part [] number named (ap parts end.0 ∙ parts_end part (there_part s own above part number named))
      by part number cut named (inr (rest, is, further)) = at part (parts rest) number named (ap parts is ∙ parts_on part rest (there_part s own above part number named))

  dots_part : IsPart dots
  dots_part = refl

  up_parts : (after : List ℕ) → parts (up ++ after) ≡ dots ∷ parts after
  up_parts after = parts_on dots after dots_part

  pub rise_from : (above : Option ℕ) (text : List ℕ) → Rise s own above text → From s own above text
  rise_from above text rise =
      ap (λ t. is_some (leafref_from s.tables own s.bounds above (parts t))) rise.begins ∙
      ap (λ ps. is_some (leafref_from s.tables own s.bounds above ps)) (up_parts rise.after) ∙
      ap (λ o. is_some (over o (parts rise.after))) rise.is ∙ rise.goes

  rise_of : (above : Option ℕ) (text rest : List ℕ) → text ≡ up ++ rest → is_some (over above (parts rest)) ≡ true → Rise s own above text
  rise_of None text rest is e = cc
  rise_of (Some number) text rest is e = record { number = number; is = refl; after = rest; begins = is; goes = e }

  pub from_view : (above : Option ℕ) (text : List ℕ) → From s own above text → Down s own above text ⊎ Rise s own above text
  from_view above text from = by (text_cut text)
    where
      last : (t : Bool) → IsPart text → is_some (from_cases t above text []) ≡ true → Down s own above text
      last true whole e = absurd (let clash : false ≡ true = ap is_some (sym (over_nothing above)) ∙ e in cc)
      last false whole e = ap (λ ps. is_some (leafref_below s.tables own s.bounds above ps)) (parts_end text whole) ∙ e

      on : (part rest : List ℕ) (t : Bool) → is_same_text part dots ≡ t → IsPart part → text ≡ part ++ slash ∷ rest → is_some (from_cases t above part (parts rest)) ≡ true → Down s own above text ⊎ Rise s own above text
      on part rest true same whole is e = inr (rise_of above text rest (is ∙ ap (λ x. x ++ slash ∷ rest) (same_text part dots same)) e)
      on part rest false same whole is e =
          inl (ap (λ t. is_some (leafref_below s.tables own s.bounds above (parts t))) is ∙ ap (λ ps. is_some (leafref_below s.tables own s.bounds above ps)) (parts_on part rest whole) ∙ e)

      by : IsCut text → Down s own above text ⊎ Rise s own above text
      by (inl whole) =
          let e : is_some (leafref_from s.tables own s.bounds above (text ∷ [])) ≡ true = ap (λ ps. is_some (leafref_from s.tables own s.bounds above ps)) (sym (parts_end text whole)) ∙ from in
          inl (last (is_same_text text dots) whole e)
      by (inr (part, rest, whole, is)) =
          let e : is_some (leafref_from s.tables own s.bounds above (part ∷ parts rest)) ≡ true =
          ap (λ ps. is_some (leafref_from s.tables own s.bounds above ps)) (sym (parts_on part rest whole)) ∙ ap (λ t. is_some (leafref_from s.tables own s.bounds above (parts t))) (sym is) ∙ from in
          on part rest (is_same_text part dots) refl whole is e

  -- ---- the whole path
  module _ (leaf : ℕ) (space : IsSpaceOf s.tables leaf own) where
    end_is : (text : List ℕ) → leafref_end s.tables leaf text s.bounds ≡ leafref_parts s.tables leaf own s.bounds (parts text)
    unfolding leafref_end
    end_is text =
        let (node, node_is, same) = map_some (slice_get s.tables.nodes leaf) (λ (n : Node). n.name.space) own space in
        ap (λ o. option_and_then (λ (n : Node). leafref_parts s.tables leaf n.name.space s.bounds (parts text)) o) node_is ∙ ap (λ x. leafref_parts s.tables leaf x s.bounds (parts text)) same

    slash_parts : (text : List ℕ) → parts (slash ∷ text) ≡ [] ∷ parts text
    slash_parts text = parts_on [] text refl

    pub slash_path : (text : List ℕ) → Down s own None text → LeafrefPath s leaf (slash ∷ text)
    slash_path text down = inr (ap is_some (end_is (slash ∷ text)) ∙ ap (λ ps. is_some (leafref_parts s.tables leaf own s.bounds ps)) (slash_parts text) ∙ down)

    pub rise_path : (text : List ℕ) → Rise s own (Some leaf) text → LeafrefPath s leaf text
    rise_path text rise =
        let same : rise.number ≡ leaf = number rise.number rise.is in
        inr (ap is_some (end_is text) ∙ ap (λ t. is_some (leafref_parts s.tables leaf own s.bounds (parts t))) rise.begins ∙
        ap (λ ps. is_some (leafref_parts s.tables leaf own s.bounds ps)) (up_parts rise.after) ∙
        ap (λ n. is_some (leafref_from s.tables own s.bounds (parent_of s.tables n) (parts rise.after))) (sym same) ∙ rise.goes)
      where
        number : (n : ℕ) → Some leaf ≡ Some n → n ≡ leaf
        number n e = cc

    abbrev PathView : ℕ → List ℕ → Type 0
    PathView c cs = ((c ≡ slash) × Down s own None cs) ⊎ Rise s own (Some leaf) (c ∷ cs)

    pub path_view : (c : ℕ) (cs : List ℕ) → LeafrefPath s leaf (c ∷ cs) → PathView c cs
    path_view c cs (inl none) = absurd cc
    path_view c cs (inr path) = by (text_cut (c ∷ cs)) (ap is_some (sym (end_is (c ∷ cs))) ∙ path)
      where
        short : (d : ℕ) (ds : List ℕ) (t : Bool) → is_some (cond {A = Option LeafrefEnd} t (leafref_from s.tables own s.bounds (parent_of s.tables leaf) []) None) ≡ true → ⊥
        short d ds true e = cc
        short d ds false e = cc

        begun : (d : ℕ) (ds rest : List ℕ) (t : Bool) → is_same_text (d ∷ ds) dots ≡ t → (c ∷ cs) ≡ (d ∷ ds) ++ slash ∷ rest → is_some (cond {A = Option LeafrefEnd} t (leafref_from s.tables own s.bounds (parent_of s.tables leaf) (parts rest)) None) ≡ true → PathView c cs
        begun d ds rest true same is e = inr (record { number = leaf; is = refl; after = rest; begins = is ∙ ap (λ x. x ++ slash ∷ rest) (same_text (d ∷ ds) dots same); goes = e })
        begun d ds rest false same is e = cc

        cut : (part rest : List ℕ) → (c ∷ cs) ≡ part ++ slash ∷ rest → is_some (leafref_parts s.tables leaf own s.bounds (part ∷ parts rest)) ≡ true → PathView c cs
        cut [] rest is e =
            let head : c ≡ slash = cc in
            let tail : rest ≡ cs = cc in
            inl (head, subst (Down s own None) tail e)
        cut (d ∷ ds) rest is e = begun d ds rest (is_same_text (d ∷ ds) dots) refl is e

        by : IsCut (c ∷ cs) → is_some (leafref_parts s.tables leaf own s.bounds (parts (c ∷ cs))) ≡ true → PathView c cs
        by (inl whole) e =
            absurd (short c cs (is_same_text (c ∷ cs) dots) (ap (λ ps. is_some (leafref_parts s.tables leaf own s.bounds ps)) (sym (parts_end (c ∷ cs) whole)) ∙ e))
        by (inr (part, rest, whole, is)) e =
            cut part rest is
            (ap (λ ps. is_some (leafref_parts s.tables leaf own s.bounds ps)) (sym (parts_on part rest whole)) ∙ ap (λ t. is_some (leafref_parts s.tables leaf own s.bounds (parts t))) (sym is) ∙ e)
