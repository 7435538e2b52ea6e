-- Where texts have numbers for their statements, what stands in a statement that has one has one too.
use Rattle.std.proofs.Common.{inl, inr, ◌≡◌, ◌<◌, ◌+◌, ◌-◌, ℕ, zero, suc, List, [], ◌∷◌, ◌++◌, length, refl, sym, ap, subst, ◌∙◌, append_assoc, arith}
use Rattle.std.specs.Prelude.{Option, Some, None, IfSome, option_map, slice_get}
use Rattle.std.specs.Option.{option_map_or}
use Rattle.std.proofs.lemmas.Bool.{cases_lt}
use Rattle.std.proofs.lemmas.List.{append-nil, length-append}
use Rattle.std.proofs.lemmas.Option.{slice_get-map}
use Rattle.nc_yang_words.specs.declared.statement.Statement.{Statement}
use Rattle.nc_yang_statements.specs.Statements.{below}
use Rattle.nc_yang_scopes.specs.Names.{StandsIn, inside as inside_it, itself}
use Rattle.nc_yang_scopes.specs.Numbers.{Entry, blocks_in, children, located, opened, roots}
use Rattle.nc_yang_scopes.specs.Scopes.{Located, Scoping, child, inside, root}
use Rattle.nc_yang_scopes.specs.inner.Frames.{AreBehind, IsBehind}
use Rattle.nc_yang_scopes.proofs.Lists.{get_left, get_right, get_within}
use Rattle.nc_yang_scopes.proofs.Numbered.{child_outer, child_text, length_roots}
use Rattle.nc_yang_scopes.proofs.Places.{located_at, located_none}
use Rattle.trials_modules.proofs.Numbered.{End, layers, numbered, whole}

-- ---- what stands in a layer names the statement in which it stands
record StandsAt (number : ℕ) (layer : List Entry) (e : Entry) : Type 0 where
  place : ℕ
  parent : Entry
  outer : e.outer ≡ Some (number + place)
  there : slice_get layer place ≡ Some parent
  text : e.text ≡ parent.text

one_later : (number : ℕ) (x : Entry) (layer : List Entry) (e : Entry) → StandsAt (number + 1) layer e → StandsAt number (x ∷ layer) e
one_later number x layer e h = record {
  place = suc h.place;
  parent = h.parent;
  outer = h.outer ∙ (let same : number + 1 + h.place ≡ number + suc h.place = omega arith in ap Some same);
  there = h.there;
  text = h.text;
}

in_layer : (number : ℕ) (layer : List Entry) (k : ℕ) (e : Entry) → slice_get (opened number layer) k ≡ Some e → StandsAt number layer e
in_layer number [] k e is = absurd (cc)
in_layer number (x ∷ layer) k e is = elim (cases_lt k (length (children number x))) [
  | inl first ↦
      let own = sym (get_left (children number x) (opened (number + 1) layer) k first) ∙ is in
      record {
        place = 0;
        parent = x;
        outer = child_outer number x k e own ∙ (let same : number ≡ number + 0 = omega arith in ap Some same);
        there = refl;
        text = child_text number x k e own;
      }
  | inr past ↦
      let at : length (children number x) + (k - length (children number x)) ≡ k = omega (arith, past) in
      let behind = sym (get_right (children number x) (opened (number + 1) layer) (length (children number x)) (k - length (children number x)) refl)
      ∙ ap (slice_get (children number x ++ opened (number + 1) layer)) at ∙ is in
      one_later number x layer e (in_layer (number + 1) layer (k - length (children number x)) e behind)
]

-- the first of layers comes first
begins : (more number : ℕ) (layer : List Entry) → (following : List Entry) × (layers more number layer ≡ layer ++ following)
begins zero number layer = ([], sym (append-nil layer))
begins (suc more) number layer = (layers more (number + length layer) (opened number layer), refl)

-- ---- so in all layers each stands in one of a lower number
module _ (entries : List Entry) where
  abbrev IsPlaced : ℕ → Entry → Type 0
  IsPlaced number e = IfSome e.outer (IsBehind entries number e)

  abbrev ArePlaced : (count : ℕ) → Type 0
  ArePlaced count = (number : ℕ) (e : Entry) → number < count → slice_get entries number ≡ Some e → IsPlaced number e

  placed_in : (number : ℕ) (e : Entry) (o : ℕ) (parent : Entry) → e.outer ≡ Some o → o < number → slice_get entries o ≡ Some parent → e.text ≡ parent.text → IsPlaced number e
  placed_in number e o parent outer less there text =
      subst (λ z. IfSome z (IsBehind entries number e)) (sym outer) (less, ap (option_map (λ (x : Entry). x.text)) there ∙ ap Some (sym text))

  next_placed : (front layer rest : List Entry) (number : ℕ) → entries ≡ front ++ layer ++ rest → length front ≡ number →
      (following : List Entry) → rest ≡ opened number layer ++ following → ArePlaced (length (front ++ layer)) → ArePlaced (length (front ++ layer ++ opened number layer))
  next_placed front layer rest number e long following is placed k x within there = elim (cases_lt k (length (front ++ layer))) [
    | inl before ↦ placed k x before there
    | inr past ↦
        let ahead = length-append front layer in
        let total = length-append (front ++ layer) (opened number layer) in
        let at : length (front ++ layer) + (k - length (front ++ layer)) ≡ k = omega (arith, past) in
        let less : k - length (front ++ layer) < length (opened number layer) = omega (arith, within, total, past) in
        let here : slice_get (opened number layer) (k - length (front ++ layer)) ≡ Some x
        = sym (get_left (opened number layer) following (k - length (front ++ layer)) less)
        ∙ ap (λ z. slice_get z (k - length (front ++ layer))) (sym is)
        ∙ sym (get_right (front ++ layer) rest (length (front ++ layer)) (k - length (front ++ layer)) refl)
        ∙ ap (slice_get (front ++ layer ++ rest)) at ∙ ap (λ z. slice_get z k) (sym e) ∙ there in
        let h = in_layer number layer (k - length (front ++ layer)) x here in
        let inside_layer = get_within layer h.place h.parent h.there in
        let wide : number + h.place < length (front ++ layer) = omega (arith, ahead, long, inside_layer) in
        let parent : slice_get entries (number + h.place) ≡ Some h.parent
        = ap (λ z. slice_get z (number + h.place)) e
        ∙ get_left (front ++ layer) rest (number + h.place) wide
        ∙ get_right front layer number h.place long ∙ h.there in
        placed_in k x (number + h.place) h.parent h.outer (omega (arith, wide, past)) parent h.text
  ]

  layers_placed : (more number : ℕ) (front layer : List Entry) → End more number layer → entries ≡ front ++ layers more number layer → length front ≡ number →
      ArePlaced (length (front ++ layer)) → ArePlaced (length entries)
  layers_placed zero number front layer ends e long placed = λ k x within there. placed k x (subst (λ z. k < length z) e within) there
  layers_placed (suc more) number front layer ends e long placed =
      let same : entries ≡ (front ++ layer) ++ layers more (number + length layer) (opened number layer)
      = e ∙ sym (append_assoc front layer (layers more (number + length layer) (opened number layer))) in
      let longer : length (front ++ layer) ≡ number + length layer = length-append front layer ∙ ap (λ z. z + length layer) long in
      let begin = begins more (number + length layer) (opened number layer) in
      layers_placed more (number + length layer) (front ++ layer) (opened number layer) ends same longer
      (next_placed front layer (layers more (number + length layer) (opened number layer)) number same long begin.0 begin.1 placed)

roots_outer : (number : ℕ) (texts : List Statement) (i : ℕ) (e : Entry) → slice_get (roots number texts) i ≡ Some e → e.outer ≡ None
roots_outer number [] i e is = absurd (cc)
roots_outer number (s ∷ texts) zero e is = sym (let same : (record { statement = s; text = number; outer = None }) ≡ e = cc in ap (λ (x : Entry). x.outer) same)
roots_outer number (s ∷ texts) (suc i) e is = roots_outer (number + 1) texts i e is

roots_at : (number : ℕ) (ss : List Statement) (i : ℕ) (s : Statement) → slice_get ss i ≡ Some s →
    slice_get (roots number ss) i ≡ Some (record { statement = s; text = number + i; outer = None })
roots_at number [] i s is = absurd (cc)
roots_at number (x ∷ ss) zero s is =
    let same : x ≡ s = cc in
    let at : number ≡ number + 0 = omega arith in
    λ j. Some (record { statement = same j; text = at j; outer = None })
roots_at number (x ∷ ss) (suc i) s is =
    let at : number + 1 + i ≡ number + suc i = omega arith in
    roots_at (number + 1) ss i s is ∙ (λ j. Some (record { statement = s; text = at j; outer = None }))

opened_has : (number : ℕ) (layer : List Entry) (d : ℕ) (x : Entry) (i : ℕ) (c : Entry) → slice_get layer d ≡ Some x → slice_get (children (number + d) x) i ≡ Some c →
    (j : ℕ) × (slice_get (opened number layer) j ≡ Some c)
opened_has number [] d x i c is in_it = absurd (cc)
opened_has number (y ∷ layer) zero x i c is in_it =
    let same : y ≡ x = cc in
    let at : number ≡ number + 0 = omega arith in
    let own : slice_get (children number y) i ≡ Some c = (λ j. slice_get (children (at j) (same j)) i) ∙ in_it in
    (i, get_left (children number y) (opened (number + 1) layer) i (get_within (children number y) i c own) ∙ own)
opened_has number (y ∷ layer) (suc d) x i c is in_it =
    let at : number + 1 + d ≡ number + suc d = omega arith in
    let r = opened_has (number + 1) layer d x i c is (ap (λ n. slice_get (children n x) i) at ∙ in_it) in
    (length (children number y) + r.0, get_right (children number y) (opened (number + 1) layer) (length (children number y)) r.0 refl ∙ r.1)

-- ---- statements with numbers
abbrev pub HasNumber : Scoping → Located → Type 0
HasNumber scoping l = (n : ℕ) × (slice_get scoping.located n ≡ Some l)

module _ (texts : List Statement) (more : ℕ) (ends : End more 0 (roots 0 texts)) where
  abbrev entries : List Entry
  entries = layers more 0 (roots 0 texts)

  are_whole : entries ≡ roots 0 texts ++ opened 0 entries
  are_whole = whole more 0 (roots 0 texts) ends

  are_behind : AreBehind entries
  are_behind number e is =
      layers_placed entries more 0 [] (roots 0 texts) ends refl refl
      (λ k x within there.
      let own = sym (get_left (roots 0 texts) (opened 0 entries) k within) ∙ ap (λ z. slice_get z k) (sym are_whole) ∙ there in
      subst (λ z. IfSome z (IsBehind entries k x)) (sym (roots_outer 0 texts k x own)) tt)
      number e (get_within entries number e is) is

  pub root_number : (text : ℕ) (top : Located) → root texts text ≡ Some top → HasNumber (numbered texts more) top
  root_number text top is = by (slice_get texts text) refl is
    where
      lay : Statement → Located
      lay s = record { statement = s; place = record { text = text; blocks = [] } }

      by : (o : Option Statement) → slice_get texts text ≡ o → option_map (λ (s : Statement). let it : Located = record { statement = s; place = record { text = text; blocks = [] } } in it) o ≡ Some top →
          HasNumber (numbered texts more) top
      by None e f = absurd (cc)
      by (Some s) e f =
          let at : 0 + text ≡ text = omega arith in
          let here = roots_at 0 texts text s e ∙ (λ j. Some (record { statement = s; text = at j; outer = None })) in
          let entry : Entry = record { statement = s; text = text; outer = None } in
          let there : slice_get entries text ≡ Some entry
          = ap (λ z. slice_get z text) are_whole ∙ get_left (roots 0 texts) (opened 0 entries) text (get_within (roots 0 texts) text entry here) ∙ here in
          (text, located_at entries are_behind text entry there ∙ f)

  child_of : (n : ℕ) (entry : Entry) (i : ℕ) (c : Entry) → slice_get entries n ≡ Some entry → slice_get (children n entry) i ≡ Some c → (k : ℕ) × (slice_get entries k ≡ Some c)
  child_of n entry i c is in_it =
      let at : n ≡ 0 + n = omega arith in
      let r = opened_has 0 entries n entry i c is (ap (λ m. slice_get (children m entry) i) (sym at) ∙ in_it) in
      (length texts + r.0, ap (λ z. slice_get z (length texts + r.0)) are_whole ∙ get_right (roots 0 texts) (opened 0 entries) (length texts) r.0 (length_roots 0 texts) ∙ r.1)

  pub child_number : (l c : Located) (place : ℕ) → HasNumber (numbered texts more) l → child place l ≡ Some c → HasNumber (numbered texts more) c
  child_number l c place (n, is) in_it = by_entry (slice_get entries n) refl
    where
      under : Statement → Located
      under s = record { statement = s; place = inside l }

      by_child : (entry : Entry) → slice_get entries n ≡ Some entry → (l_is : l ≡ record { statement = entry.statement; place = record { text = entry.text; blocks = blocks_in (located entries) entry.outer } }) →
          (o : Option Statement) → slice_get (below l.statement) place ≡ o → option_map (λ (s : Statement). let it : Located = record { statement = s; place = inside l } in it) o ≡ Some c →
          HasNumber (numbered texts more) c
      by_child entry there l_is None e f = absurd (cc)
      by_child entry there l_is (Some s) e f =
          let made : Entry = record { statement = s; text = entry.text; outer = Some n } in
          let at_child : slice_get (children n entry) place ≡ Some made
          = slice_get-map (λ (t : Statement). let it : Entry = record { statement = t; text = entry.text; outer = Some n } in it) (below entry.statement) place
          ∙ ap (option_map (λ (t : Statement). let it : Entry = record { statement = t; text = entry.text; outer = Some n } in it))
          (ap (λ (z : Located). slice_get (below z.statement) place) (sym l_is) ∙ e) in
          let k = child_of n entry place made there at_child in (
            k.0,
            located_at entries are_behind k.0 made k.1
                ∙ (λ j. Some (record { statement = s; place = record { text = (sym l_is j).place.text; blocks = option_map_or (λ (z : Located). (inside z).blocks) (is j) [] } }))
                ∙ f,
          )

      by_entry : (o : Option Entry) → slice_get entries n ≡ o → HasNumber (numbered texts more) c
      by_entry None e = absurd (let none = located_none entries n e in cc)
      by_entry (Some entry) e =
          let here = located_at entries are_behind n entry e in
          by_child entry e (let same = sym is ∙ here in let it : l ≡ record { statement = entry.statement; place = record { text = entry.text; blocks = blocks_in (located entries) entry.outer } } = cc in it)
          (slice_get (below l.statement) place) refl in_it

  -- all that stand in the texts, but for what is passed over
  pub number_of : (l u : Located) → HasNumber (numbered texts more) l → StandsIn l u → HasNumber (numbered texts more) u
  number_of l u has (itself _) = has
  number_of l u has (inside_it _ c _ place is_open is d) = number_of c u (child_number l c place has is) d

  -- the entry of a statement
  pub record HasEntry (l : Located) : Type 0 where
    pub number : ℕ
    pub entry : Entry
    pub there : slice_get entries number ≡ Some entry
    pub is : entry.statement ≡ l.statement

  pub entry_at : (l : Located) → HasNumber (numbered texts more) l → HasEntry l
  entry_at l (n, is) = by (slice_get entries n) refl
    where
      by : (o : Option Entry) → slice_get entries n ≡ o → HasEntry l
      by None e = absurd (let none = located_none entries n e in cc)
      by (Some entry) e =
          let here = sym (located_at entries are_behind n entry e) ∙ is in
          let same : record { statement = entry.statement; place = record { text = entry.text; blocks = blocks_in (located entries) entry.outer } } ≡ l = cc in
          record { number = n; entry = entry; there = e; is = ap (λ (z : Located). z.statement) same }
