-- The canonical text of a value is read as itself, where the names of the modules in it are bound (RFC 7950 9.1).
use Rattle.std.proofs.Common.{◌≡◌, ◌⊎◌, ◌&&◌, ◌==◌, cond, ℕ, zero, suc, Bool, true, false, List, [], ◌∷◌, ◌++◌, length, Option, Some, None, refl, sym, ap, ◌∙◌, inl, inr, arith, append_assoc}
use Rattle.std.proofs.lemmas.List.{append-nil}
use Rattle.std.proofs.lemmas.List.Elements.{Contains-push_cases}
use Rattle.std.specs.Cmp.Lexicographic.{bytes_decides}
use Rattle.std.specs.List.{Contains, list_all, list_any}
use Rattle.std.specs.Option.{option_map_or}
use Rattle.std.specs.Prelude.{option_and_then, slice_get}
use Rattle.nc_names.specs.declared.name.Bound.{Bound}
use Rattle.nc_names.specs.Ends.{trimmed}
use Rattle.nc_names.specs.Same.{is_same_text}
use Rattle.nc_schema.specs.Bindings.{module_bounds}
use Rattle.nc_schema.specs.PathWords.{◌>>=◌}
use Rattle.nc_schema.specs.Proper.{IsProperSchema, IsProperType}
use Rattle.nc_schema.specs.Tables.{Tables}
use Rattle.nc_schema.specs.Values.{Givers, Gives, agrees, fits_paths, instance_text, node_instance_text, node_text, text_in_type, type_of, type_text, union_text}
use Rattle.nc_schema.specs.declared.value_type.ValueType.{ValueType}
use Rattle.nc_schema.specs.declared.value_type.ValueType.TheVariants.{Whole, Decimal, Chars, Boolean, Enumeration, Bits, Binary, Empty, Union, Identity, Leafref, Instance, NodeInstance}
use Rattle.nc_protocol.proofs.ListLemmas.{contains_at, contains_behind, none_passes}
use Rattle.nc_protocol.proofs.Parts.{all_at}
use Rattle.nc_protocol.specs.ModuleNames.{holds_names, may_hold_names, value_bounds, with_names}
use Rattle.nc_print.proofs.BitsAgain.{bits_again}
use Rattle.nc_print.proofs.DecimalAgain.{decimal_again}
use Rattle.nc_print.proofs.IdentityAgain.{identity_again, knows_trimmed, same_identity}
use Rattle.nc_print.proofs.NamesKnown.{Knows, modules_know, names_know}
use Rattle.nc_print.proofs.PathsKnown.{bind_is}
use Rattle.nc_print.proofs.SimpleAgain.{binary_again, boolean_again, empty_again, one_of_again, passed, string_again, whole_again}
use Rattle.nc_print.proofs.TrimAgain.{left_true, right_true}

-- what gives the canonical texts of keys gives each of them again, and alike by all bindings that know the names in it
pub record KeysAgain (tables : Tables) (keys : List Bound → Gives) : Type 0 where
  pub again : (number : ℕ) (bounds : List Bound) (given text : List ℕ) → keys bounds number given ≡ Some text → keys (module_bounds tables) number text ≡ Some text
  pub same : (number : ℕ) (bounds : List Bound) (text : List ℕ) → Knows tables bounds text → keys bounds number text ≡ keys (module_bounds tables) number text
  pub fits : (number : ℕ) (bounds : List Bound) (given text : List ℕ) → keys bounds number given ≡ Some text → fits_paths tables number text ≡ true

-- so it is with the texts of paths
pub record PathsAgain (tables : Tables) (keys : List Bound → Gives) : Type 0 where
  pub again : (bounds : List Bound) (given text : List ℕ) → instance_text tables keys bounds given ≡ Some text → instance_text tables keys (module_bounds tables) (trimmed text) ≡ Some text
  pub same : (bounds : List Bound) (text : List ℕ) → Knows tables bounds text → instance_text tables keys bounds text ≡ instance_text tables keys (module_bounds tables) text
  pub nodes_again : (bounds : List Bound) (given text : List ℕ) → node_instance_text tables keys bounds given ≡ Some text → node_instance_text tables keys (module_bounds tables) (trimmed text) ≡ Some text
  pub nodes_same : (bounds : List Bound) (text : List ℕ) → Knows tables bounds text → node_instance_text tables keys bounds text ≡ node_instance_text tables keys (module_bounds tables) text

-- ---- unions
module _ (gives : List Bound → Gives) (names : List Bound) where
  union_same : (bounds : List Bound) (earlier members : List ℕ) (text : List ℕ) → ((member : ℕ) → Contains members member → gives bounds member text ≡ gives names member text) →
      union_text gives names bounds earlier members text ≡ union_text gives names names earlier members text
  union_same bounds earlier [] text each = refl
  union_same bounds earlier (member ∷ members) text each =
      (λ i. elim (each member (0, omega arith, refl) i) as (λ _. Option (List ℕ)) [
        | None ↦ union_same bounds (earlier ++ member ∷ []) members text (λ other has. each other (contains_behind member members other has)) i
        | Some found ↦ cond (list_all (λ other. agrees found (gives names other found)) earlier) (Some found) None
      ])

  -- members that admit nothing agree
  all_agree : (text : List ℕ) (earlier : List ℕ) → ((other : ℕ) → Contains earlier other → gives names other text ≡ None) → list_all (λ other. agrees text (gives names other text)) earlier ≡ true
  all_agree text [] each = refl
  all_agree text (one ∷ earlier) each =
      (λ i. agrees text (each one (0, omega arith, refl) i) && all_agree text earlier (λ other has. each other (contains_behind one earlier other has)) i)

  module _ (text : List ℕ) where
    -- a text that a member gives, and with which those before it agree, is that of the union
    union_back : (earlier before : List ℕ) (member : ℕ) (after : List ℕ) → ((other : ℕ) → Contains earlier other → gives names other text ≡ None) →
        list_all (λ other. agrees text (gives names other text)) before ≡ true → gives names member text ≡ Some text →
        union_text gives names names earlier (before ++ member ∷ after) text ≡ Some text
    union_back earlier [] member after none agree is =
        (λ i. elim (is i) as (λ _. Option (List ℕ)) [
          | None ↦ union_text gives names names (earlier ++ member ∷ []) after text
          | Some found ↦ cond (list_all (λ other. agrees found (gives names other found)) earlier) (Some found) None
        ])
        ∙ ap (λ b. cond b (Some text) None) (all_agree text earlier none)
    union_back earlier (one ∷ before) member after none agree is =
        by (gives names one text) refl (λ earlier none. union_back earlier before member after none (right_true (agrees text (gives names one text)) (list_all (λ other. agrees text (gives names other text)) before) agree) is)
      where
        by : (o : Option (List ℕ)) → gives names one text ≡ o → ((earlier : List ℕ) → ((other : ℕ) → Contains earlier other → gives names other text ≡ None) → union_text gives names names earlier (before ++ member ∷ after) text ≡ Some text) →
            union_text gives names names earlier (one ∷ (before ++ member ∷ after)) text ≡ Some text
        by None gone rest =
            (λ i. elim (gone i) as (λ _. Option (List ℕ)) [
              | None ↦ union_text gives names names (earlier ++ one ∷ []) (before ++ member ∷ after) text
              | Some found ↦ cond (list_all (λ other. agrees found (gives names other found)) earlier) (Some found) None
            ])
            ∙ rest (earlier ++ one ∷ []) more
          where
            more : (other : ℕ) → Contains (earlier ++ one ∷ []) other → gives names other text ≡ None
            more other has = go (Contains-push_cases earlier one other has)
              where
                go : Contains earlier other ⊎ (one ≡ other) → gives names other text ≡ None
                go (inl there) = none other there
                go (inr same) = ap (λ m. gives names m text) (sym same) ∙ gone
        by (Some found) there rest =
            let agreed : is_same_text text found ≡ true = ap (agrees text) (sym there) ∙ left_true (agrees text (gives names one text)) (list_all (λ other. agrees text (gives names other text)) before) agree in
            let same : found ≡ text = sym ((bytes_decides text found).0 agreed) in
            (λ i. elim ((there ∙ ap Some same) i) as (λ _. Option (List ℕ)) [
              | None ↦ union_text gives names names (earlier ++ one ∷ []) (before ++ member ∷ after) text
              | Some found ↦ cond (list_all (λ other. agrees found (gives names other found)) earlier) (Some found) None
            ])
            ∙ ap (λ b. cond b (Some text) None) (all_agree text earlier none)

    -- the member by which a text was given
    pub record IsGiven (members earlier : List ℕ) : Type 0 where
      pub before : List ℕ
      pub member : ℕ
      pub after : List ℕ
      pub whole : members ≡ before ++ member ∷ after
      pub agree : list_all (λ other. agrees text (gives names other text)) (earlier ++ before) ≡ true
      pub gave : (bounds : List Bound) × (given : List ℕ) × (gives bounds member given ≡ Some text)

    union_given : (bounds : List Bound) (earlier members : List ℕ) (given : List ℕ) → union_text gives names bounds earlier members given ≡ Some text → IsGiven members earlier
    union_given bounds earlier [] given e = absurd (let none : None ≡ Some text = e in cc)
    union_given bounds earlier (member ∷ members) given e = by (gives bounds member given) refl e (union_given bounds (earlier ++ member ∷ []) members given)
      where
        by : (o : Option (List ℕ)) → gives bounds member given ≡ o →
            (elim o as (λ _. Option (List ℕ)) [
              | None ↦ union_text gives names bounds (earlier ++ member ∷ []) members given
              | Some found ↦ cond (list_all (λ other. agrees found (gives names other found)) earlier) (Some found) None
            ]) ≡ Some text → (union_text gives names bounds (earlier ++ member ∷ []) members given ≡ Some text → IsGiven members (earlier ++ member ∷ [])) → IsGiven (member ∷ members) earlier
        by None is f rest =
            let inner = rest f in
            record {
              before = member ∷ inner.before;
              member = inner.member;
              after = inner.after;
              whole = ap (λ ms. member ∷ ms) inner.whole;
              agree = ap (list_all (λ other. agrees text (gives names other text))) (sym (append_assoc earlier (member ∷ []) inner.before)) ∙ inner.agree;
              gave = inner.gave;
            }
        by (Some found) is f rest =
            let both = passed (list_all (λ other. agrees found (gives names other found)) earlier) found text f in
            record {
              before = [];
              member = member;
              after = members;
              whole = refl;
              agree = ap (list_all (λ other. agrees text (gives names other text))) (append-nil earlier) ∙ (λ i. list_all (λ other. agrees (sym both.1 i) (gives names other (sym both.1 i))) earlier) ∙ both.0;
              gave = (bounds, given, is ∙ ap Some both.1);
            }

    pub union_again : ((bounds : List Bound) (member : ℕ) (given : List ℕ) → gives bounds member given ≡ Some text → gives names member text ≡ Some text) →
        (bounds : List Bound) (members : List ℕ) (given : List ℕ) → union_text gives names bounds [] members given ≡ Some text → union_text gives names names [] members text ≡ Some text
    union_again each bounds members given e =
        let is = union_given bounds [] members given e in
        ap (λ ms. union_text gives names names [] ms text) is.whole
        ∙ union_back [] is.before is.member is.after (λ other has. absurd (omega (arith, has.1))) is.agree (each is.gave.0 is.member is.gave.1 is.gave.2)

-- ---- types
module _ (tables : Tables) (schema : IsProperSchema tables) (keys : List Bound → Gives) (paths : PathsAgain tables keys) where
  abbrev all_names : List Bound
  all_names = module_bounds tables

  module _ (types : List Bound → Gives) where
    abbrev givers : Givers
    givers = record { keys = keys; types = types }

    type_again : ((bounds : List Bound) (member : ℕ) (given text : List ℕ) → types bounds member given ≡ Some text → types (module_bounds tables) member text ≡ Some text) →
        (type : ValueType) → IsProperType tables type → (bounds : List Bound) (given text : List ℕ) → text_in_type tables givers type bounds given ≡ Some text →
        text_in_type tables givers type (module_bounds tables) text ≡ Some text
    type_again each (Whole among) proper bounds given text e = whole_again among (trimmed given) text e
    type_again each (Decimal digits among) proper bounds given text e = decimal_again digits among (trimmed given) text e
    type_again each (Chars lengths starless numbers) proper bounds given text e = string_again tables.patterns lengths starless numbers given text e
    type_again each Boolean proper bounds given text e = boolean_again given text e
    type_again each (Enumeration names) proper bounds given text e = one_of_again names given text e
    type_again each (Bits names) proper bounds given text e = bits_again names (trimmed given) text e
    type_again each (Binary lengths) proper bounds given text e = binary_again lengths (trimmed given) text e
    type_again each Empty proper bounds given text e = empty_again (trimmed given) text e
    type_again each (Union members) proper bounds given text e = union_again types (module_bounds tables) text (λ bs member from. each bs member from text) bounds members given e
    type_again each (Identity among) proper bounds given text e = identity_again tables schema among proper bounds (trimmed given) text e
    type_again each (Leafref target above required) proper bounds given text e =
        let found = bind_is (type_of tables target) (λ number. types bounds number given) text e in
        ap (option_and_then (λ number. types (module_bounds tables) number text)) found.1 ∙ each bounds found.0 given text found.2
    type_again each (Instance required) proper bounds given text e = paths.again bounds (trimmed given) text e
    type_again each NodeInstance proper bounds given text e = paths.nodes_again bounds (trimmed given) text e

    type_same : (bounds : List Bound) (text : List ℕ) → Knows tables bounds text → ((member : ℕ) → types bounds member text ≡ types (module_bounds tables) member text) →
        (type : ValueType) → text_in_type tables givers type bounds text ≡ text_in_type tables givers type (module_bounds tables) text
    type_same bounds text knows each (Whole among) = refl
    type_same bounds text knows each (Decimal digits among) = refl
    type_same bounds text knows each (Chars lengths starless numbers) = refl
    type_same bounds text knows each Boolean = refl
    type_same bounds text knows each (Enumeration names) = refl
    type_same bounds text knows each (Bits names) = refl
    type_same bounds text knows each (Binary lengths) = refl
    type_same bounds text knows each Empty = refl
    type_same bounds text knows each (Union members) = union_same types (module_bounds tables) bounds [] members text (λ member has. each member)
    type_same bounds text knows each (Identity among) =
        same_identity tables bounds among (trimmed text) (knows_trimmed tables bounds text knows) (modules_know tables schema (trimmed text))
    type_same bounds text knows each (Leafref target above required) = (λ i. option_and_then (λ number. each number i) (type_of tables target))
    type_same bounds text knows each (Instance required) = paths.same bounds (trimmed text) (knows_trimmed tables bounds text knows)
    type_same bounds text knows each NodeInstance = paths.nodes_same bounds (trimmed text) (knows_trimmed tables bounds text knows)

    -- a type without names is read alike by any bindings
    type_free : (holds : ℕ → Bool) (bounds : List Bound) (text : List ℕ) → ((member : ℕ) → holds member ≡ false → types bounds member text ≡ types (module_bounds tables) member text) →
        (type : ValueType) → may_hold_names tables holds type ≡ false → text_in_type tables givers type bounds text ≡ text_in_type tables givers type (module_bounds tables) text
    type_free holds bounds text each (Whole among) none = refl
    type_free holds bounds text each (Decimal digits among) none = refl
    type_free holds bounds text each (Chars lengths starless numbers) none = refl
    type_free holds bounds text each Boolean none = refl
    type_free holds bounds text each (Enumeration names) none = refl
    type_free holds bounds text each (Bits names) none = refl
    type_free holds bounds text each (Binary lengths) none = refl
    type_free holds bounds text each Empty none = refl
    type_free holds bounds text each (Union members) none = union_same types (module_bounds tables) bounds [] members text (λ member has. each member (none_passes holds members member none has))
    type_free holds bounds text each (Identity among) none = absurd (let clash : true ≡ false = none in cc)
    type_free holds bounds text each (Leafref target above required) none = by (type_of tables target) none
      where
        by : (o : Option ℕ) → option_map_or holds o false ≡ false → option_and_then (λ number. types bounds number text) o ≡ option_and_then (λ number. types (module_bounds tables) number text) o
        by None free = refl
        by (Some number) free = each number free
    type_free holds bounds text each (Instance required) none = absurd (let clash : true ≡ false = none in cc)
    type_free holds bounds text each NodeInstance none = absurd (let clash : true ≡ false = none in cc)

  -- ---- types by their numbers
  proper_at : (number : ℕ) (type : ValueType) → slice_get tables.types number ≡ Some type → IsProperType tables type
  proper_at number type is = all_at (IsProperType tables) tables.types type schema.types.types (contains_at tables.types number type is)

  types_again : (most : ℕ) (chain : List ℕ) (bounds : List Bound) (number : ℕ) (given text : List ℕ) → type_text tables keys most chain bounds number given ≡ Some text →
      type_text tables keys most chain (module_bounds tables) number text ≡ Some text
  types_again zero chain bounds number given text e = absurd (let none : None ≡ Some text = e in cc)
  types_again (suc most) chain bounds number given text e = by (list_any (λ asked. asked == number) chain) e (types_again most (number ∷ chain))
    where
      inner : List Bound → Gives
      inner = type_text tables keys most (number ∷ chain)

      by : (b : Bool) → cond b None (option_and_then (λ type. text_in_type tables (record { keys = keys; types = type_text tables keys most (number ∷ chain) }) type bounds given) (slice_get tables.types number)) ≡ Some text →
          ((bs : List Bound) (member : ℕ) (from to : List ℕ) → type_text tables keys most (number ∷ chain) bs member from ≡ Some to → type_text tables keys most (number ∷ chain) (module_bounds tables) member to ≡ Some to) →
          cond b None (option_and_then (λ type. text_in_type tables (record { keys = keys; types = type_text tables keys most (number ∷ chain) }) type (module_bounds tables) text) (slice_get tables.types number)) ≡ Some text
      by true f each = absurd (let none : None ≡ Some text = f in cc)
      by false f each =
          let found = bind_is (slice_get tables.types number) (λ type. text_in_type tables (record { keys = keys; types = type_text tables keys most (number ∷ chain) }) type bounds given) text f in
          ap (option_and_then (λ type. text_in_type tables (record { keys = keys; types = type_text tables keys most (number ∷ chain) }) type (module_bounds tables) text)) found.1
          ∙ type_again (type_text tables keys most (number ∷ chain)) each found.0 (proper_at number found.0 found.1) bounds given text found.2

  types_same : (most : ℕ) (chain : List ℕ) (bounds : List Bound) (number : ℕ) (text : List ℕ) → Knows tables bounds text →
      type_text tables keys most chain bounds number text ≡ type_text tables keys most chain (module_bounds tables) number text
  types_same zero chain bounds number text knows = refl
  types_same (suc most) chain bounds number text knows =
      (λ i. cond (list_any (λ asked. asked == number) chain) None (option_and_then (λ type.
      type_same (type_text tables keys most (number ∷ chain)) bounds text knows (λ member. types_same most (number ∷ chain) bounds member text knows) type i) (slice_get tables.types number)))

  types_free : (most : ℕ) (chain : List ℕ) (bounds : List Bound) (number : ℕ) (text : List ℕ) → holds_names tables most number ≡ false →
      type_text tables keys most chain bounds number text ≡ type_text tables keys most chain (module_bounds tables) number text
  types_free zero chain bounds number text none = refl
  types_free (suc most) chain bounds number text none =
      ap (cond (list_any (λ asked. asked == number) chain) None) (by (slice_get tables.types number) none (λ member free. types_free most (number ∷ chain) bounds member text free))
    where
      by : (o : Option ValueType) → option_map_or (may_hold_names tables (holds_names tables most)) o false ≡ false →
          ((member : ℕ) → holds_names tables most member ≡ false → type_text tables keys most (number ∷ chain) bounds member text ≡ type_text tables keys most (number ∷ chain) (module_bounds tables) member text) →
          option_and_then (λ type. text_in_type tables (record { keys = keys; types = type_text tables keys most (number ∷ chain) }) type bounds text) o
          ≡ option_and_then (λ type. text_in_type tables (record { keys = keys; types = type_text tables keys most (number ∷ chain) }) type (module_bounds tables) text) o
      by None free each = refl
      by (Some type) free each = type_free (type_text tables keys most (number ∷ chain)) (holds_names tables most) bounds text each type free

  -- ---- data nodes
  node_again : (bounds : List Bound) (number : ℕ) (given text : List ℕ) → node_text tables keys bounds number given ≡ Some text → node_text tables keys (module_bounds tables) number text ≡ Some text
  node_again bounds number given text e =
      let type = bind_is (type_of tables number) _ text e in
      let value = bind_is (type_text tables keys (length tables.types) [] bounds type.0 given) _ text type.2 in
      let both = passed (fits_paths tables number value.0) value.0 text value.2 in
      let again = types_again (length tables.types) [] bounds type.0 given text (value.1 ∙ ap Some both.1) in
      (λ i. type.1 i >>= (λ t. type_text tables keys (length tables.types) [] (module_bounds tables) t text >>= (λ v. cond (fits_paths tables number v) (Some v) None)))
      ∙ ap (λ o. o >>= (λ v. cond (fits_paths tables number v) (Some v) None)) again
      ∙ ap (λ b. cond b (Some text) None) (ap (fits_paths tables number) (sym both.1) ∙ both.0)

  node_same : (bounds : List Bound) (number : ℕ) (text : List ℕ) → Knows tables bounds text → node_text tables keys bounds number text ≡ node_text tables keys (module_bounds tables) number text
  node_same bounds number text knows =
      (λ i. type_of tables number >>= (λ t. types_same (length tables.types) [] bounds t text knows i >>= (λ v. cond (fits_paths tables number v) (Some v) None)))

  node_fits : (bounds : List Bound) (number : ℕ) (given text : List ℕ) → node_text tables keys bounds number given ≡ Some text → fits_paths tables number text ≡ true
  node_fits bounds number given text e =
      let type = bind_is (type_of tables number) _ text e in
      let value = bind_is (type_text tables keys (length tables.types) [] bounds type.0 given) _ text type.2 in
      let both = passed (fits_paths tables number value.0) value.0 text value.2 in
      ap (fits_paths tables number) (sym both.1) ∙ both.0

  pub node_keys : KeysAgain tables (node_text tables keys)
  node_keys = record {
    again = λ number bounds given text. node_again bounds number given text;
    same = λ number bounds text. node_same bounds number text;
    fits = λ number bounds given text. node_fits bounds number given text;
  }

  -- by the bindings that are printed with a value
  pub node_printed : (number : ℕ) (text : List ℕ) → node_text tables keys (value_bounds tables number text) number text ≡ node_text tables keys (module_bounds tables) number text
  node_printed number text = by (type_of tables number) refl
    where
      rest : Option ℕ → List Bound → Option (List ℕ)
      rest o bounds = o >>= (λ t. type_text tables keys (length tables.types) [] bounds t text >>= (λ v. cond (fits_paths tables number v) (Some v) None))

      by : (o : Option ℕ) → type_of tables number ≡ o → node_text tables keys (value_bounds tables number text) number text ≡ node_text tables keys (module_bounds tables) number text
      by None is = (λ i. is i >>= (λ t. type_text tables keys (length tables.types) [] (value_bounds tables number text) t text >>= (λ v. cond (fits_paths tables number v) (Some v) None)))
          ∙ (λ i. sym is i >>= (λ t. type_text tables keys (length tables.types) [] (module_bounds tables) t text >>= (λ v. cond (fits_paths tables number v) (Some v) None)))
      by (Some type) is = go (holds_names tables (length tables.types) type) refl
        where
          bounds_are : (b : Bool) → holds_names tables (length tables.types) type ≡ b → value_bounds tables number text ≡ cond b (with_names tables [] text) []
          bounds_are b e = ap (λ o. cond (option_map_or (holds_names tables (length tables.types)) o false) (with_names tables [] text) []) is ∙ ap (λ t. cond t (with_names tables [] text) []) e

          go : (b : Bool) → holds_names tables (length tables.types) type ≡ b → node_text tables keys (value_bounds tables number text) number text ≡ node_text tables keys (module_bounds tables) number text
          go true e = ap (λ bs. node_text tables keys bs number text) (bounds_are true e) ∙ node_same (with_names tables [] text) number text (names_know tables schema text)
          go false e =
              ap (λ bs. node_text tables keys bs number text) (bounds_are false e)
              ∙ (λ i. is i >>= (λ t. type_text tables keys (length tables.types) [] [] t text >>= (λ v. cond (fits_paths tables number v) (Some v) None)))
              ∙ ap (λ o. o >>= (λ v. cond (fits_paths tables number v) (Some v) None)) (types_free (length tables.types) [] [] type text e)
              ∙ (λ i. sym is i >>= (λ t. type_text tables keys (length tables.types) [] (module_bounds tables) t text >>= (λ v. cond (fits_paths tables number v) (Some v) None)))
