-- The elements of a level that name a data node are found by its name.
use Rattle.std.proofs.Common.{◌≡◌, ◌&&◌, ◌||◌, ◌+◌, ◌<◌, ◌≤◌, ℕ, Bool, true, false, List, [], ◌∷◌, ◌++◌, None, Some, length, take, get_or, refl, sym, ap, ◌∙◌, Bor}
use Rattle.std.specs.Prelude.{Option, map, slice_get}
use Rattle.std.specs.List.{list_any}
use Rattle.std.specs.Option.{option_map_or}
use Rattle.std.proofs.lemmas.List.Folds.{list_any-append, list_any_more}
use Rattle.std.proofs.lemmas.Option.{slice_get-get_or}
use Rattle.nc_names.specs.Same.{is_same_text}
use Rattle.nc_message.specs.declared.tree.Elem.{Elem}
use Rattle.nc_schema.specs.Tables.{Tables}
use Rattle.nc_schema.specs.declared.node.Node.{Node}
use Rattle.nc_protocol.specs.Filter.{is_of_name}
use Rattle.nc_filter.specs.inner.Keys.{key, name_key}
use Rattle.nc_filter.specs.inner.Names.{AddsNamed, AddsNamedOf, AreNamed, AreNames, at_elem, in_slots}
use Rattle.nc_filter.specs.inner.Picks.{is_named}
use Rattle.nc_filter.specs.inner.Runs.{Slots, adds_key, in_slot}
use Rattle.nc_filter.proofs.ClassLemmas.{map_join}
use Rattle.nc_filter.proofs.KeyLemmas.{name_keys}
use Rattle.nc_filter.proofs.TableLemmas.{map_taken, none_at}
use Rattle.nc_filter.proofs.Unions.{any_nothing, any_or, any_same, or_assoc, or_false}

pub name_put : (level : List (Bor Elem)) (before now : Slots) (i : ℕ) (elem : Bor Elem) → i < length level → elem ≡ get_or level i elem → adds_key before now (name_key elem.now) i →
    AreNames before level (take i level) → AreNames now level (take (i + 1) level)
name_put level before now i elem within is puts so_far wanted test =
    puts wanted (at_elem level test)
    ∙ (λ k. so_far wanted test k || (is_same_text (name_key elem.now) wanted && option_map_or (λ (elem : Bor Elem). test elem.now) (there k) false))
    ∙ ap (λ b. list_any f (map (λ elem. elem.now) (take i level)) || b) (sym (or_false (f elem.now)))
    ∙ sym (list_any-append f (map (λ elem. elem.now) (take i level)) (elem.now ∷ []))
    ∙ ap (list_any f) (sym (map_taken (λ (elem : Bor Elem). elem.now) level i elem within is))
  where
    f : Elem → Bool
    f elem = is_same_text (name_key elem) wanted && test elem

    there : slice_get level i ≡ Some elem
    there = slice_get-get_or level i elem within ∙ ap Some (sym is)

module _ (tables : Tables) (node : ℕ) (level : List (Bor Elem)) where
  abbrev those : (Elem → Bool) → Elem → Bool
  those test elem = is_named tables node elem && test elem

  pub elem_put : (number : ℕ) (elem : Bor Elem) (before now : List (Bor Elem)) → number < length level → elem ≡ get_or level number elem → true ≡ is_named tables node elem.now →
      now ≡ before ++ elem ∷ [] → AddsNamed tables node level number before now
  elem_put number elem before now within is named put test =
      ap (λ (some : List (Bor Elem)). list_any test (map (λ elem. elem.now) some)) put
      ∙ ap (list_any test) (map_join before (elem ∷ []))
      ∙ list_any-append test (map (λ elem. elem.now) before) (elem.now ∷ [])
      ∙ ap (λ b. list_any test (map (λ elem. elem.now) before) || b)
      (or_false (test elem.now) ∙ ap (λ b. b && test elem.now) named
      ∙ ap (λ (o : Option (Bor Elem)). option_map_or (λ (elem : Bor Elem). those test elem.now) o false) (sym (slice_get-get_or level number elem within ∙ ap Some (sym is))))

  pub elem_not : (number : ℕ) (elem : Bor Elem) (before : List (Bor Elem)) → number < length level → elem ≡ get_or level number elem → false ≡ is_named tables node elem.now →
      AddsNamed tables node level number before before
  elem_not number elem before within is named test =
      sym (or_false (list_any test (map (λ elem. elem.now) before)))
      ∙ ap (λ b. list_any test (map (λ elem. elem.now) before) || b)
      (ap (λ b. b && test elem.now) named
      ∙ ap (λ (o : Option (Bor Elem)). option_map_or (λ (elem : Bor Elem). those test elem.now) o false) (sym (slice_get-get_or level number elem within ∙ ap Some (sym is))))

  pub elem_past : (number : ℕ) (before : List (Bor Elem)) → length level ≤ number → AddsNamed tables node level number before before
  elem_past number before past test =
      sym (or_false (list_any test (map (λ elem. elem.now) before)))
      ∙ ap (λ (o : Option (Bor Elem)). list_any test (map (λ elem. elem.now) before) || option_map_or (λ (elem : Bor Elem). those test elem.now) o false) (sym (none_at level number past))

  pub elems_more : (numbers : List ℕ) (i number d : ℕ) (out before now : List (Bor Elem)) → i < length numbers → number ≡ get_or numbers i d → AddsNamed tables node level number before now →
      AddsNamedOf tables node level (take i numbers) out before → AddsNamedOf tables node level (take (i + 1) numbers) out now
  elems_more numbers i number d out before now within is adds so_far test =
      adds test
      ∙ (λ k. so_far test k || at_elem level (those test) (is k))
      ∙ or_assoc (list_any test (map (λ elem. elem.now) out)) (list_any (at_elem level (those test)) (take i numbers)) (at_elem level (those test) (get_or numbers i d))
      ∙ ap (λ b. list_any test (map (λ elem. elem.now) out) || b) (sym (list_any_more (at_elem level (those test)) numbers i d within))

  pub slots_two : (items : Slots) (space name : List ℕ) (out mid now : List (Bor Elem)) → AddsNamedOf tables node level (in_slot items (key space name [])) out mid →
      AddsNamedOf tables node level (in_slot items (key [] name [])) mid now → AddsNamedOf tables node level (in_slots items space name) out now
  slots_two items space name out mid now first second test =
      second test
      ∙ ap (λ b. b || list_any (at_elem level (those test)) (in_slot items (key [] name []))) (first test)
      ∙ or_assoc (list_any test (map (λ elem. elem.now) out)) (list_any (at_elem level (those test)) (in_slot items (key space name []))) (list_any (at_elem level (those test)) (in_slot items (key [] name [])))
      ∙ ap (λ b. list_any test (map (λ elem. elem.now) out) || b) (sym (list_any-append (at_elem level (those test)) (in_slot items (key space name [])) (in_slot items (key [] name []))))

  pub slots_one : (items : Slots) (space name : List ℕ) (out now : List (Bor Elem)) → space ≡ [] → AddsNamedOf tables node level (in_slot items (key space name [])) out now →
      AddsNamedOf tables node level (in_slots items space name) out now
  slots_one items space name out now none first test =
      first test
      ∙ ap (λ b. list_any test (map (λ elem. elem.now) out) || b)
      (sym (twice (list_any (at_elem level (those test)) (in_slot items (key space name []))))
      ∙ ap (λ (some : List ℕ). list_any (at_elem level (those test)) (in_slot items (key space name [])) || list_any (at_elem level (those test)) (in_slot items (key some name []))) none
      ∙ sym (list_any-append (at_elem level (those test)) (in_slot items (key space name [])) (in_slot items (key [] name []))))
    where
      twice : (b : Bool) → (b || b) ≡ b
      twice true = refl
      twice false = refl

  pub named_is : (items : Slots) (found : List (Bor Elem)) (named : Node) → Some named ≡ slice_get tables.nodes node → AddsNamedOf tables node level (in_slots items named.name.space named.name.name) [] found →
      AreNames items level level → AreNamed tables node (map (λ elem. elem.now) level) (map (λ elem. elem.now) found)
  named_is items found named is adds names test =
      adds test
      ∙ list_any-append (at_elem level (those test)) (in_slot items whole) (in_slot items local)
      ∙ (λ i. names whole (those test) i || names local (those test) i)
      ∙ sym (any_or (λ elem. is_same_text (name_key elem) whole && those test elem) (λ elem. is_same_text (name_key elem) local && those test elem) (map (λ elem. elem.now) level))
      ∙ any_same (λ elem. (is_same_text (name_key elem) whole && those test elem) || (is_same_text (name_key elem) local && those test elem)) (those test) (map (λ elem. elem.now) level)
      (λ elem. by elem (is_of_name elem named) refl ∙ ap (λ (o : Option Node). option_map_or (is_of_name elem) o false && test elem) is)
    where
      whole : List ℕ
      whole = key named.name.space named.name.name []

      local : List ℕ
      local = key [] named.name.name []

      turned : (a b t : Bool) → (a || b) ≡ true → ((a && t) || (b && t)) ≡ t
      turned true true true e = refl
      turned true true false e = refl
      turned true false t e = or_false t
      turned false true t e = refl
      turned false false t e = let clash : false ≡ true = e in cc

      none : (a b : Bool) → ((a && false) || (b && false)) ≡ false
      none true true = refl
      none true false = refl
      none false true = refl
      none false false = refl

      by : (elem : Elem) (b : Bool) → is_of_name elem named ≡ b →
          ((is_same_text (name_key elem) whole && those test elem) || (is_same_text (name_key elem) local && those test elem)) ≡ (is_of_name elem named && test elem)
      by elem true e =
          (λ i. (is_same_text (name_key elem) whole && (this i && test elem)) || (is_same_text (name_key elem) local && (this i && test elem)))
          ∙ turned (is_same_text (name_key elem) whole) (is_same_text (name_key elem) local) (test elem) (name_keys elem named e)
          ∙ sym (ap (λ b. b && test elem) e)
        where
          this : is_named tables node elem ≡ true
          this = sym (ap (λ (o : Option Node). option_map_or (is_of_name elem) o false) is) ∙ e
      by elem false e =
          (λ i. (is_same_text (name_key elem) whole && (this i && test elem)) || (is_same_text (name_key elem) local && (this i && test elem)))
          ∙ none (is_same_text (name_key elem) whole) (is_same_text (name_key elem) local)
          ∙ sym (ap (λ b. b && test elem) e)
        where
          this : is_named tables node elem ≡ false
          this = sym (ap (λ (o : Option Node). option_map_or (is_of_name elem) o false) is) ∙ e

  pub named_none : None ≡ slice_get tables.nodes node → AreNamed tables node (map (λ elem. elem.now) level) []
  named_none none test =
      sym (any_same (those test) (λ elem. false) (map (λ elem. elem.now) level) (λ elem. sym (ap (λ (o : Option Node). option_map_or (is_of_name elem) o false && test elem) none))
      ∙ any_nothing (map (λ elem. elem.now) level))
