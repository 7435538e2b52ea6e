-- The sample's data nodes one by one, with their numbers, the types of its leafs and their defaults: none of them has one.
use Rattle.std.proofs.Common.{◌≡◌, ℕ, true, false, List, [], ◌∷◌, ◌++◌, refl, sym, ap, ◌∙◌}
use Rattle.std.specs.Prelude.{Some, None, is_some, slice_get, unwrap_or}
use Rattle.std.specs.Str.{chars}
use Rattle.std.proofs.Math.Utf8.{encode}
use denote.Hole.Carrier.{hidden, out, roll, shown}
use Rattle.nc_names.specs.declared.name.QName.{QName}
use Rattle.nc_schema.specs.InstancePaths.{leafref_end}
use Rattle.nc_schema.specs.Kinds.{has_value}
use Rattle.nc_schema.specs.Tables.{Tables}
use Rattle.nc_schema.specs.declared.node.Node.{Node}
use Rattle.nc_schema.specs.declared.value_type.ValueType.{ValueType}
use Rattle.nc_schema.specs.declared.value_type.ValueType.TheVariants.{Chars as String, Leafref as LeafrefType, Whole}
use Rattle.nc_yang_words.specs.declared.statement.Statement.TheBlock.{shown-the_row-Statement-0}
use Rattle.nc_yang_words.specs.declared.statement.Statement.TheViews.{out-Statement, roll-Statement}
use Rattle.nc_yang_statements.specs.Arguments.{is_true_text}
use Rattle.nc_yang_statements.specs.BuiltIns.{built_in_of, built_in_word, built_ins}
use Rattle.nc_yang_statements.specs.Keywords.{keyword_of, keywords, word_of}
use Rattle.nc_yang_statements.specs.declared.built_in.BuiltIn.TheVariants.{Chars, LeafRef, Uint16}
use Rattle.nc_yang_statements.specs.declared.keyword.Keyword.TheVariants.{Path, TypeName}
use Rattle.nc_yang_scopes.specs.Parts.{part_of}
use Rattle.nc_yang_scopes.specs.Scopes.{Located}
use Rattle.nc_yang_nodes.specs.Denials.{is_word_of}
use Rattle.nc_yang_nodes.specs.Roles.{FeatureTest}
use Rattle.nc_yang_data.specs.Drafts.{is_user_text}
use Rattle.nc_yang_types.specs.Entries.{integers, lengths}
use Rattle.nc_yang_types.specs.Meanings.{Entry, Meaning, Means, Refers, by_itself}
use Rattle.nc_yang_types.specs.Places.{base_of}
use Rattle.nc_yang_leafs.specs.Conditions.{holds}
use Rattle.nc_yang_leafs.specs.Sources.{own_of}
use Rattle.nc_yang_leafs.specs.Typings.{IsEntry, NameEach}
use Rattle.nc_yang.specs.Access.{access_yang}
use Rattle.nc_yang.specs.Schemas.{Defines}
use Rattle.nc_yang.proofs.Worked.{file, have, texts_of, top_of}
use Rattle.trials_modules.proofs.Given.{some_there}
use Rattle.trials_modules.proofs.Drawn.{defined_by, tables_of}
use Rattle.trials_modules.proofs.Sample.{access_nodes, host, nodes_are, port, port_name, sample, sample_gives, sample_is_text, sample_nodes, sample_seen, steps, tag, top, up}
use Rattle.trials_modules.proofs.Typed.{HasLeaf, holder_worked, leaf_worked, leads_in, leafref_is, string_is}

-- the statement of the data node of a number, and its `type` statement
abbrev stated : FeatureTest → ℕ → Located
stated on number = unwrap_or (defined_by (sample_seen on).nodes number) (top_of sample)

abbrev typed : FeatureTest → ℕ → Located
typed on number = unwrap_or (part_of TypeName (stated on number)) (top_of sample)

abbrev path : FeatureTest → Located
path on = unwrap_or (part_of Path (typed on 27)) (top_of sample)

-- what `type string`, `type uint16` and the leafref mean
host_means : (on : FeatureTest) → Means (holds (texts_of sample) on) (texts_of sample) (typed on 23) (Entry (String lengths false []) [] [])
unfolding sample_seen access_yang chars encode out-Statement out roll-Statement roll shown-the_row-Statement-0 shown hidden keyword_of keywords word_of is_word_of built_in_of built_ins built_in_word
host_means on = by_itself (typed on 23) Chars (Entry (String lengths false []) [] []) refl refl refl

name_means : (on : FeatureTest) → Means (holds (texts_of sample) on) (texts_of sample) (typed on 25) (Entry (String lengths false []) [] [])
unfolding sample_seen access_yang chars encode out-Statement out roll-Statement roll shown-the_row-Statement-0 shown hidden keyword_of keywords word_of is_word_of built_in_of built_ins built_in_word
name_means on = by_itself (typed on 25) Chars (Entry (String lengths false []) [] []) refl refl refl

tag_means : (on : FeatureTest) → Means (holds (texts_of sample) on) (texts_of sample) (typed on 26) (Entry (Whole (integers Uint16)) [] [])
unfolding sample_seen access_yang chars encode out-Statement out roll-Statement roll shown-the_row-Statement-0 shown hidden keyword_of keywords word_of is_word_of built_in_of built_ins built_in_word
tag_means on = by_itself (typed on 26) Uint16 (Entry (Whole (integers Uint16)) [] []) refl refl refl

up_means : (on : FeatureTest) → Means (holds (texts_of sample) on) (texts_of sample) (typed on 27) (Refers (path on) true)
unfolding sample_seen access_yang chars encode out-Statement out roll-Statement roll shown-the_row-Statement-0 shown hidden keyword_of keywords word_of is_word_of built_in_of built_ins built_in_word
up_means on = by_itself (typed on 27) LeafRef (Refers (path on) true) refl refl refl

-- the path of the leafref leads up to `top` and down to the names of ports
up_leads : (on : FeatureTest) → leads_in (texts_of sample) (tables_of (texts_of sample) on (sample_seen on)) 27 (path on) ≡ Some (record { target = 25; above = Some 22 })
unfolding sample_seen access_yang chars encode out-Statement out roll-Statement roll shown-the_row-Statement-0 shown hidden keyword_of keywords word_of is_word_of is_true_text is_user_text leafref_end
up_leads on = refl

-- ---- their statements are there, and those of their types
top_there : (on : FeatureTest) → is_some (defined_by (sample_seen on).nodes 22) ≡ true
unfolding sample_seen access_yang chars encode out-Statement out roll-Statement roll shown-the_row-Statement-0 shown hidden keyword_of keywords word_of is_word_of
top_there on = refl

top_alone : (on : FeatureTest) → own_of top.kind (stated on 22) ≡ []
unfolding sample_seen access_yang chars encode out-Statement out roll-Statement roll shown-the_row-Statement-0 shown hidden keyword_of keywords word_of is_word_of
top_alone on = refl

host_there : (on : FeatureTest) → is_some (defined_by (sample_seen on).nodes 23) ≡ true
unfolding sample_seen access_yang chars encode out-Statement out roll-Statement roll shown-the_row-Statement-0 shown hidden keyword_of keywords word_of is_word_of
host_there on = refl

host_alone : (on : FeatureTest) → own_of host.kind (stated on 23) ≡ []
unfolding sample_seen access_yang chars encode out-Statement out roll-Statement roll shown-the_row-Statement-0 shown hidden keyword_of keywords word_of is_word_of
host_alone on = refl

host_typed : (on : FeatureTest) → is_some (part_of TypeName (stated on 23)) ≡ true
unfolding sample_seen access_yang chars encode out-Statement out roll-Statement roll shown-the_row-Statement-0 shown hidden keyword_of keywords word_of is_word_of
host_typed on = refl

host_based : (on : FeatureTest) → base_of (texts_of sample) (typed on 23) ≡ None
unfolding sample_seen access_yang chars encode out-Statement out roll-Statement roll shown-the_row-Statement-0 shown hidden keyword_of keywords word_of is_word_of built_in_of built_ins built_in_word
host_based on = refl

port_there : (on : FeatureTest) → is_some (defined_by (sample_seen on).nodes 24) ≡ true
unfolding sample_seen access_yang chars encode out-Statement out roll-Statement roll shown-the_row-Statement-0 shown hidden keyword_of keywords word_of is_word_of
port_there on = refl

port_alone : (on : FeatureTest) → own_of port.kind (stated on 24) ≡ []
unfolding sample_seen access_yang chars encode out-Statement out roll-Statement roll shown-the_row-Statement-0 shown hidden keyword_of keywords word_of is_word_of
port_alone on = refl

name_there : (on : FeatureTest) → is_some (defined_by (sample_seen on).nodes 25) ≡ true
unfolding sample_seen access_yang chars encode out-Statement out roll-Statement roll shown-the_row-Statement-0 shown hidden keyword_of keywords word_of is_word_of
name_there on = refl

name_alone : (on : FeatureTest) → own_of port_name.kind (stated on 25) ≡ []
unfolding sample_seen access_yang chars encode out-Statement out roll-Statement roll shown-the_row-Statement-0 shown hidden keyword_of keywords word_of is_word_of
name_alone on = refl

name_typed : (on : FeatureTest) → is_some (part_of TypeName (stated on 25)) ≡ true
unfolding sample_seen access_yang chars encode out-Statement out roll-Statement roll shown-the_row-Statement-0 shown hidden keyword_of keywords word_of is_word_of
name_typed on = refl

name_based : (on : FeatureTest) → base_of (texts_of sample) (typed on 25) ≡ None
unfolding sample_seen access_yang chars encode out-Statement out roll-Statement roll shown-the_row-Statement-0 shown hidden keyword_of keywords word_of is_word_of built_in_of built_ins built_in_word
name_based on = refl

tag_there : (on : FeatureTest) → is_some (defined_by (sample_seen on).nodes 26) ≡ true
unfolding sample_seen access_yang chars encode out-Statement out roll-Statement roll shown-the_row-Statement-0 shown hidden keyword_of keywords word_of is_word_of
tag_there on = refl

tag_alone : (on : FeatureTest) → own_of tag.kind (stated on 26) ≡ []
unfolding sample_seen access_yang chars encode out-Statement out roll-Statement roll shown-the_row-Statement-0 shown hidden keyword_of keywords word_of is_word_of
tag_alone on = refl

tag_typed : (on : FeatureTest) → is_some (part_of TypeName (stated on 26)) ≡ true
unfolding sample_seen access_yang chars encode out-Statement out roll-Statement roll shown-the_row-Statement-0 shown hidden keyword_of keywords word_of is_word_of
tag_typed on = refl

tag_based : (on : FeatureTest) → base_of (texts_of sample) (typed on 26) ≡ None
unfolding sample_seen access_yang chars encode out-Statement out roll-Statement roll shown-the_row-Statement-0 shown hidden keyword_of keywords word_of is_word_of built_in_of built_ins built_in_word
tag_based on = refl

up_there : (on : FeatureTest) → is_some (defined_by (sample_seen on).nodes 27) ≡ true
unfolding sample_seen access_yang chars encode out-Statement out roll-Statement roll shown-the_row-Statement-0 shown hidden keyword_of keywords word_of is_word_of
up_there on = refl

up_alone : (on : FeatureTest) → own_of up.kind (stated on 27) ≡ []
unfolding sample_seen access_yang chars encode out-Statement out roll-Statement roll shown-the_row-Statement-0 shown hidden keyword_of keywords word_of is_word_of
up_alone on = refl

up_typed : (on : FeatureTest) → is_some (part_of TypeName (stated on 27)) ≡ true
unfolding sample_seen access_yang chars encode out-Statement out roll-Statement roll shown-the_row-Statement-0 shown hidden keyword_of keywords word_of is_word_of
up_typed on = refl

up_based : (on : FeatureTest) → base_of (texts_of sample) (typed on 27) ≡ None
unfolding sample_seen access_yang chars encode out-Statement out roll-Statement roll shown-the_row-Statement-0 shown hidden keyword_of keywords word_of is_word_of built_in_of built_ins built_in_word
up_based on = refl

-- ---- whatever schema it has
pub record HasSample (tables : Tables) : Type 0 where
  pub top_is : slice_get tables.nodes 22 ≡ Some top
  pub host_is : HasLeaf tables 23 host (String lengths false [])
  pub port_is : slice_get tables.nodes 24 ≡ Some port
  pub name_is : HasLeaf tables 25 port_name (String lengths false [])
  pub tag_is : HasLeaf tables 26 tag (Whole (integers Uint16))
  pub up_is : HasLeaf tables 27 up (LeafrefType 25 (Some 22) true)

module _ (lines : List (List ℕ)) (tables : Tables) (d : Defines (file sample ∷ []) lines tables) where
  -- the node of a number, and its statement
  node_there : (number : ℕ) (node : Node) → slice_get (access_nodes ++ sample_nodes) number ≡ Some node →
      slice_get (tables_of (texts_of sample) d.on (sample_seen d.on)).nodes number ≡ Some node
  node_there number node is = ap (λ (ns : List Node). slice_get ns number) (nodes_are d.on) ∙ is

  stated_there : (number : ℕ) → is_some (defined_by (sample_seen d.on).nodes number) ≡ true →
      defined_by (sample_seen d.on).nodes number ≡ Some (stated d.on number)
  stated_there number is = some_there (defined_by (sample_seen d.on).nodes number) (top_of sample) is

  holder : (number : ℕ) (node : Node) → slice_get (access_nodes ++ sample_nodes) number ≡ Some node → is_some (defined_by (sample_seen d.on).nodes number) ≡ true →
      node.kind_of_value ≡ 0 → node.defaults ≡ [] → has_value node.kind ≡ false → own_of node.kind (stated d.on number) ≡ [] →
      slice_get tables.nodes number ≡ Some node
  holder number node is there =
      holder_worked (file sample ∷ []) (texts_of sample) (have sample sample_is_text) steps sample_seen sample_gives lines tables d number node (stated d.on number)
      (node_there number node is) (stated_there number there)

  leaf : (number : ℕ) (node : Node) (m : Meaning) (entry : ValueType) → slice_get (access_nodes ++ sample_nodes) number ≡ Some node → is_some (defined_by (sample_seen d.on).nodes number) ≡ true →
      node.defaults ≡ [] → has_value node.kind ≡ true → own_of node.kind (stated d.on number) ≡ [] → is_some (part_of TypeName (stated d.on number)) ≡ true →
      base_of (texts_of sample) (typed d.on number) ≡ None → Means (holds (texts_of sample) d.on) (texts_of sample) (typed d.on number) m →
      ((derived : List Located → List QName → Type 0) (patterns : List (List ℕ)) (e : ValueType) →
      IsEntry derived (NameEach patterns) (leads_in (texts_of sample) (tables_of (texts_of sample) d.on (sample_seen d.on)) number) m e → e ≡ entry) →
      HasLeaf tables number node entry
  leaf number node m entry is there empty valued none_own part based means only =
      leaf_worked (file sample ∷ []) (texts_of sample) (have sample sample_is_text) steps sample_seen sample_gives lines tables d number node (stated d.on number)
      (node_there number node is) (stated_there number there) (typed d.on number) m entry empty valued none_own
      (some_there (part_of TypeName (stated d.on number)) (top_of sample) part) based means only

  string : (number : ℕ) → (derived : List Located → List QName → Type 0) (patterns : List (List ℕ)) (e : ValueType) →
      IsEntry derived (NameEach patterns) (leads_in (texts_of sample) (tables_of (texts_of sample) d.on (sample_seen d.on)) number) (Entry (String lengths false []) [] []) e →
      e ≡ String lengths false []
  string number derived patterns e h =
      string_is derived patterns (leads_in (texts_of sample) (tables_of (texts_of sample) d.on (sample_seen d.on)) number) lengths e h

  leafref : (derived : List Located → List QName → Type 0) (patterns : List (List ℕ)) (e : ValueType) →
      IsEntry derived (NameEach patterns) (leads_in (texts_of sample) (tables_of (texts_of sample) d.on (sample_seen d.on)) 27) (Refers (path d.on) true) e →
      e ≡ LeafrefType 25 (Some 22) true
  leafref derived patterns e h =
      leafref_is derived (NameEach patterns) (leads_in (texts_of sample) (tables_of (texts_of sample) d.on (sample_seen d.on)) 27) (path d.on) true
      (record { target = 25; above = Some 22 }) e (up_leads d.on) h

  pub sample_has : HasSample tables
  sample_has = record {
    top_is = holder 22 top refl (top_there d.on) refl refl refl (top_alone d.on);
    host_is =
        leaf 23 host (Entry (String lengths false []) [] []) (String lengths false []) refl (host_there d.on) refl refl (host_alone d.on) (host_typed d.on) (host_based d.on)
        (host_means d.on) (string 23);
    port_is = holder 24 port refl (port_there d.on) refl refl refl (port_alone d.on);
    name_is =
        leaf 25 port_name (Entry (String lengths false []) [] []) (String lengths false []) refl (name_there d.on) refl refl (name_alone d.on) (name_typed d.on) (name_based d.on)
        (name_means d.on) (string 25);
    tag_is =
        leaf 26 tag (Entry (Whole (integers Uint16)) [] []) (Whole (integers Uint16)) refl (tag_there d.on) refl refl (tag_alone d.on) (tag_typed d.on) (tag_based d.on)
        (tag_means d.on) (λ derived patterns e h. sym h);
    up_is =
        leaf 27 up (Refers (path d.on) true) (LeafrefType 25 (Some 22) true) refl (up_there d.on) refl refl (up_alone d.on) (up_typed d.on) (up_based d.on) (up_means d.on) leafref;
  }
