-- The nodes that name the entries of a list or a leaf-list, by the names that are written for them.
use Rattle.std.proofs.Common.{◌≡◌, ◌≢◌, ◌&&◌, ◌||◌, ◌==◌, ◌<◌, not, cond, ℕ, zero, suc, true, false, List, [], ◌∷◌, ◌++◌, Option, Some, None, refl, sym, ap, subst, ◌∙◌, arith}
use Rattle.std.proofs.lemmas.Bool.{or_right}
use Rattle.std.proofs.lemmas.Bool.Decides.{Decides-eqb}
use Rattle.std.specs.List.{AllPairs, Contains, list_any}
use Rattle.std.specs.Option.{option_map_or}
use Rattle.std.specs.Prelude.{option_map, slice_get}
use Rattle.nc_names.specs.declared.name.Module.{Module}
use Rattle.nc_names.specs.Identifiers.{IsIdentifier}
use Rattle.nc_names.specs.Same.{is_same_name}
use Rattle.nc_names.specs.Signs.{colon}
use Rattle.nc_names.proofs.SameLemmas.{name_decide}
use Rattle.nc_schema.specs.Bindings.{module_bounds, module_of}
use Rattle.nc_schema.specs.InstancePaths.{has_name, is_of_key, key_nodes, keys_of_kind, qualified}
use Rattle.nc_schema.specs.Order.{keys_above}
use Rattle.nc_schema.specs.PathTexts.{module_name, prefixed_name}
use Rattle.nc_schema.specs.PathWords.{◌>>=◌}
use Rattle.nc_schema.specs.Proper.{IsKeyIn, IsProperModule, IsProperSchema, StandsIn}
use Rattle.nc_schema.specs.Tables.{Tables}
use Rattle.nc_schema.specs.Values.{is_key_above, stands_in_paths}
use Rattle.nc_schema.specs.declared.node.Kind.{Kind}
use Rattle.nc_schema.specs.declared.node.Kind.TheVariants.{Container, Leaf, LeafList, List as ListKind}
use Rattle.nc_schema.specs.declared.node.Node.{Node}
use Rattle.nc_schema.specs.declared.written.WrittenName.{WrittenName}
use Rattle.nc_schema.proofs.ProperLemmas.{HasProperNodes, proper_nodes}
use Rattle.nc_protocol.proofs.BoolLemmas.{is_false}
use Rattle.nc_protocol.proofs.ListLemmas.{contains_at}
use Rattle.nc_protocol.proofs.Parts.{all_at}
use Rattle.nc_protocol.proofs.SiblingLemmas.{some_and}
use Rattle.nc_print.proofs.BitsAgain.{any_has}
use Rattle.nc_print.proofs.IdentityAgain.{module_back, module_space}

-- the name that is written for a node
abbrev pub name_for : Tables → ℕ → WrittenName
name_for tables number =
    option_map_or (λ node. record { prefix = module_name tables node.module; name = node.name.name }) (slice_get tables.nodes number) (record { prefix = []; name = [] })

-- that of a key of an entry of a node; none for the value of a leaf-list entry
abbrev pub key_for : Tables → ℕ → ℕ → Option WrittenName
key_for tables number key = cond (key == number) None (Some (name_for tables key))

-- a node with the module of its name
pub record IsWritten (tables : Tables) (number : ℕ) (node : Node) : Type 0 where
  pub prefix : List ℕ
  pub named : name_for tables number ≡ record { prefix = prefix; name = node.name.name }
  pub text : prefixed_name tables number ≡ prefix ++ colon ∷ node.name.name
  pub prefix_is : IsIdentifier prefix
  pub name_is : IsIdentifier node.name.name
  pub back : qualified tables (module_bounds tables) (record { prefix = prefix; name = node.name.name }) ≡ Some node.name

module _ (tables : Tables) (schema : IsProperSchema tables) where
  abbrev proper : HasProperNodes tables
  proper = proper_nodes tables schema

  pub written_is : (number : ℕ) (node : Node) → slice_get tables.nodes number ≡ Some node → IsWritten tables number node
  written_is number node is =
      let found = some_and (slice_get tables.modules node.module) (λ (m : Module). m.space ≡ node.name.space) (schema.places.names number node is).space in
      let has = contains_at tables.modules node.module found.0 found.1 in
      let name_is : module_name tables node.module ≡ found.0.name = ap (λ o. option_map_or (λ (m : Module). m.name) o []) found.1 in
      record {
        prefix = found.0.name;
        named = ap (λ o. option_map_or (λ (n : Node). record { prefix = module_name tables n.module; name = n.name.name }) o (record { prefix = []; name = [] })) is ∙ (λ i. record { prefix = name_is i; name = node.name.name });
        text = ap (λ o. option_map_or (λ (n : Node). module_name tables n.module ++ colon ∷ n.name.name) o []) is ∙ ap (λ p. p ++ colon ∷ node.name.name) name_is;
        prefix_is = (all_at IsProperModule tables.modules found.0 schema.modules.modules has).name;
        name_is = (schema.places.names number node is).name;
        back = ap (λ o. option_map (λ (m : Module). record { space = m.space; name = node.name.name }) (o >>= module_of tables)) (module_space tables.modules found.0 schema.modules.modules_apart has)
            ∙ ap (option_map (λ (m : Module). record { space = m.space; name = node.name.name })) (module_back tables.modules found.0 found.0.space schema.modules.modules_apart has refl)
            ∙ (λ i. Some (record { space = found.2 i; name = node.name.name }));
      }

  -- ---- the keys of a node
  pub record AreKeys (number : ℕ) (keys : List ℕ) : Type 0 where
    pub there : (key : ℕ) → Contains keys key → (node : Node) × (slice_get tables.nodes key ≡ Some node)
    pub own : (key : ℕ) → Contains keys key → is_of_key tables (module_bounds tables) number key (key_for tables number key) ≡ true
    pub other : (key another : ℕ) → Contains keys key → Contains keys another → key ≢ another → is_of_key tables (module_bounds tables) number another (key_for tables number key) ≡ false
    pub apart : AllPairs (λ key later. key ≢ later) keys
    pub paths : (key : ℕ) → Contains keys key → stands_in_paths tables key ≡ true

  -- a key that is another node than its list
  module _ (number : ℕ) (node : Node) (is : slice_get tables.nodes number ≡ Some node) where
    key_in : (key : ℕ) → Contains node.keys key → (found : Node) × (slice_get tables.nodes key ≡ Some found) × IsKeyIn number found
    key_in key has = some_and (slice_get tables.nodes key) (IsKeyIn number) (proper.keys number key node is has)

    pub not_itself : (key : ℕ) → Contains node.keys key → (key == number) ≡ false
    not_itself key has =
        let found = key_in key has in
        is_false (key == number) (λ e. by found.0 found.1 found.2.parent ((Decides-eqb key number).0 e))
      where
        by : (found : Node) → slice_get tables.nodes key ≡ Some found → found.parent ≡ Some number → key ≡ number → ⊥
        by found found_is parent same =
            let stands = schema.places.parents key found found_is in
            let less : number < key = (subst (λ (p : Option ℕ). StandsIn tables key p) parent stands).0 in
            omega (arith, less, same)

    written_key : (key : ℕ) (has : Contains node.keys key) (another : ℕ) (there : Contains node.keys another) →
        is_of_key tables (module_bounds tables) number another (key_for tables number key) ≡ is_same_name (key_in another there).0.name (key_in key has).0.name
    written_key key has another there =
        let found = key_in key has in
        let beside = key_in another there in
        let written = written_is key found.0 found.1 in
        ap (λ b. is_of_key tables (module_bounds tables) number another (cond b None (Some (name_for tables key)))) (not_itself key has)
        ∙ (λ i. not (not_itself another there i) && option_map_or (has_name tables another) (qualified tables (module_bounds tables) (written.named i)) false)
        ∙ ap (λ o. option_map_or (has_name tables another) o false) written.back
        ∙ ap (λ o. option_map_or (λ (n : Node). is_same_name n.name found.0.name) o false) beside.1

    key_above : (key : ℕ) → Contains node.keys key → stands_in_paths tables key ≡ true
    key_above key has =
        let found = key_in key has in
        let keys_are : keys_above tables found.0.parent ≡ node.keys = ap (keys_above tables) found.2.parent ∙ ap (λ o. option_map_or (λ (n : Node). n.keys) o []) is in
        let above : is_key_above tables key ≡ true =
        ap (λ o. option_map_or (λ (n : Node). list_any (λ k. k == key) (keys_above tables n.parent)) o false) found.1
        ∙ ap (list_any (λ k. k == key)) keys_are ∙ any_has (λ k. k == key) node.keys key has ((Decides-eqb key key).1 refl) in
        ap (λ b. b || list_any (λ k. k == key) (key_nodes tables key)) above

    list_keys : AreKeys number node.keys
    list_keys = record {
      there = λ key has. (let found = key_in key has in (found.0, found.1));
      own = λ key has. written_key key has key has ∙ (name_decide (key_in key has).0.name (key_in key has).0.name).1 refl;
      other = λ key another has there differ. written_key key has another there
          ∙ is_false (is_same_name (key_in another there).0.name (key_in key has).0.name) (λ e.
          differ (sym (schema.places.siblings_apart another (key_in another there).0 (key_in another there).1 key (key_in key has).0 (key_in key has).1
          ((key_in another there).2.parent ∙ sym (key_in key has).2.parent) ((name_decide (key_in another there).0.name (key_in key has).0.name).0 e))));
      apart = proper.keys_apart number node is;
      paths = key_above;
    }

    no_keys : AreKeys number []
    no_keys = record {
      there = λ key has. absurd (omega (arith, has.1));
      own = λ key has. absurd (omega (arith, has.1));
      other = λ key another has there differ. absurd (omega (arith, has.1));
      apart = λ i j d less within. absurd (omega (arith, within));
      paths = λ key has. absurd (omega (arith, has.1));
    }

    only : (key : ℕ) → Contains (number ∷ []) key → number ≡ key
    only key (zero, within, here) = here
    only key (suc k, within, here) = absurd (omega (arith, within))

    -- the value of a leaf-list entry
    entry_keys : key_nodes tables number ≡ number ∷ [] → AreKeys number (number ∷ [])
    entry_keys are = record {
      there = λ key has. (node, ap (slice_get tables.nodes) (sym (only key has)) ∙ is);
      own = λ key has. subst (λ (k : ℕ). is_of_key tables (module_bounds tables) number k (key_for tables number k) ≡ true) (only key has)
          (ap (λ b. is_of_key tables (module_bounds tables) number number (cond b None (Some (name_for tables number)))) ((Decides-eqb number number).1 refl) ∙ (Decides-eqb number number).1 refl);
      other = λ key another has there differ. absurd (differ (sym (only key has) ∙ only another there));
      apart = λ i j d less within. absurd (omega (arith, less, within));
      paths = λ key has. subst (λ (k : ℕ). stands_in_paths tables k ≡ true) (only key has)
          (or_right (is_key_above tables number) (list_any (λ k. k == number) (key_nodes tables number))
          (ap (list_any (λ k. k == number)) are ∙ any_has (λ k. k == number) (number ∷ []) number (0, omega arith, refl) ((Decides-eqb number number).1 refl)));
    }

    pub are_keys : AreKeys number (key_nodes tables number)
    are_keys = subst (AreKeys number) (sym keys_are) (by node.kind refl)
      where
        keys_are : key_nodes tables number ≡ keys_of_kind node.kind number node.keys
        keys_are = ap (λ o. option_map_or (λ (n : Node). keys_of_kind n.kind number n.keys) o []) is

        by : (kind : Kind) → node.kind ≡ kind → AreKeys number (keys_of_kind node.kind number node.keys)
        by (Container presence) kind = subst (λ (k : Kind). AreKeys number (keys_of_kind k number node.keys)) (sym kind) no_keys
        by Leaf kind = subst (λ (k : Kind). AreKeys number (keys_of_kind k number node.keys)) (sym kind) no_keys
        by LeafList kind = subst (λ (k : Kind). AreKeys number (keys_of_kind k number node.keys)) (sym kind) (entry_keys (keys_are ∙ ap (λ k. keys_of_kind k number node.keys) kind))
        by ListKind kind = subst (λ (k : Kind). AreKeys number (keys_of_kind k number node.keys)) (sym kind) list_keys
