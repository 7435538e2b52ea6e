-- Modules that break a rule on data nodes or on types in their place have no schema, whatever features lines name: one
-- whose grouping is used twice in one place, and one with a leafref that leads nowhere.
use Rattle.std.proofs.Common.{◌≡◌, ◌+◌, ℕ, true, List, [], ◌∷◌, ◌++◌, length, map, refl, sym, ◌∙◌}
use Rattle.std.specs.Prelude.{Some, None, codes, is_some, slice_get, unwrap_or}
use Rattle.std.specs.Option.{option_map_or}
use Rattle.std.specs.Str.{chars, is_utf8}
use Rattle.std.proofs.Math.Utf8.{encode}
use denote.Hole.Carrier.{hidden, out, roll, shown}
use Rattle.nc_schema.specs.InstancePaths.{leafref_end}
use Rattle.nc_schema.specs.PathWords.{written_name}
use Rattle.nc_schema.specs.Tables.{Tables}
use Rattle.nc_schema.specs.declared.node.Kind.TheVariants.{Leaf}
use Rattle.nc_yang_words.specs.declared.statement.Statement.{Statement}
use Rattle.nc_yang_words.specs.declared.statement.Statement.TheBlock.{shown-the_row-Statement-0}
use Rattle.nc_yang_words.specs.declared.statement.Statement.TheViews.{out-Statement, roll-Statement}
use Rattle.nc_yang_statements.specs.Arguments.{is_true_text}
use Rattle.nc_yang_statements.specs.BuiltIns.{built_in_of, built_in_word, built_ins}
use Rattle.nc_yang_statements.specs.Keywords.{keyword_of, keywords, word_of}
use Rattle.nc_yang_statements.specs.declared.built_in.BuiltIn.TheVariants.{LeafRef}
use Rattle.nc_yang_statements.specs.declared.fault.ModuleWhy.TheVariants.{Twice}
use Rattle.nc_yang_statements.specs.declared.keyword.Keyword.TheVariants.{Path, TypeName}
use Rattle.nc_yang_scopes.specs.Parts.{part_of}
use Rattle.nc_yang_scopes.specs.Scopes.{Located, Scoping}
use Rattle.nc_yang_scopes.specs.declared.naming.TextFault.{TextFault}
use Rattle.nc_yang_nodes.specs.Alike.{SeenNode, seen_node}
use Rattle.nc_yang_nodes.specs.Denials.{is_word_of}
use Rattle.nc_yang_nodes.specs.Roles.{FeatureTest}
use Rattle.nc_yang_nodes.specs.declared.planned.Plan.{Plan}
use Rattle.nc_yang_nodes.specs.declared.planned.Planned.{Planned}
use Rattle.nc_yang_data.specs.Data.{drafts}
use Rattle.nc_yang_data.specs.Drafts.{is_user_text}
use Rattle.nc_yang_data.specs.Leafs.{CaseTest, names_case}
use Rattle.nc_yang_data.specs.Places.{faults_from, in_text, node_faults}
use Rattle.nc_yang_types.specs.Meanings.{Means, Refers, by_itself}
use Rattle.nc_yang_leafs.specs.Conditions.{holds}
use Rattle.nc_yang.specs.Access.{HaveStatements, access_yang}
use Rattle.nc_yang.specs.Schemas.{Defines}
use Rattle.nc_yang.specs.declared.text.ModuleText.{ModuleText}
use Rattle.nc_yang.proofs.Worked.{IsText, file, have, module_of, texts_of, top_of}
use Rattle.trials_modules.proofs.Given.{Seen, given_in, seen, some_there, unseen}
use Rattle.trials_modules.proofs.Drawn.{case_named, defined_by, drafts_are, drafts_of, named_is, tables_of}
use Rattle.trials_modules.proofs.Whole.{seen_is, texts_are}
use Rattle.trials_modules.proofs.Sample.{data_node, steps}
use Rattle.trials_modules.proofs.Typed.{leads_in, leafref_worked}

-- ---- the rules that data nodes break by their statements, by what is seen of them
abbrev faults_of : List Statement → Tables → CaseTest → ℕ → List SeenNode → List TextFault
faults_of texts tables named number [] = []
faults_of texts tables named number (s ∷ ss) =
    option_map_or (λ (l : Located). map (in_text l.place.text) (node_faults texts tables named l.place.text number l.statement)) s.statement []
    ++ faults_of texts tables named (number + 1) ss

abbrev pub faults_seen : List Statement → FeatureTest → Seen → List TextFault
faults_seen texts on s = faults_of texts (drafts_of texts s.nodes) (case_named texts on s.choices) 0 s.nodes

faults_are : (scoping : Scoping) (tables : Tables) (named : CaseTest) (number : ℕ) (ps : List Planned) →
    faults_from scoping tables named number ps ≡ faults_of scoping.texts tables named number (map (seen_node scoping) ps)
faults_are scoping tables named number [] = refl
faults_are scoping tables named number (p ∷ ps) = λ i.
    option_map_or (λ (l : Located). map (in_text l.place.text) (node_faults scoping.texts tables named l.place.text number l.statement)) (slice_get scoping.located p.statement) []
    ++ faults_are scoping tables named (number + 1) ps i

pub own_faults : (scoping : Scoping) (on : FeatureTest) (plan : Plan) →
    faults_from scoping (drafts scoping plan) (names_case scoping on plan) 0 plan.nodes ≡ faults_seen scoping.texts on (seen scoping plan)
own_faults scoping on plan =
    (λ i. faults_from scoping (drafts_are scoping on plan i) (named_is scoping on plan i) 0 plan.nodes)
    ∙ faults_are scoping (drafts_of scoping.texts (seen scoping plan).nodes) (case_named scoping.texts on (seen scoping plan).choices) 0 plan.nodes

first_none : {A : Type 0} (xs ys : List A) → xs ++ ys ≡ [] → xs ≡ []
first_none [] ys e = refl
first_none (x ∷ xs) ys e = absurd (cc)

module _ (modules : List ModuleText) (texts : List Statement) (has : HaveStatements modules texts) (steps : ℕ) (s : FeatureTest → Seen)
    (gives : (on : FeatureTest) → given_in texts on steps (length texts) ≡ Some (s on))
    (lines : List (List ℕ)) (tables : Tables) (d : Defines modules lines tables) where
  -- where a schema is defined, none is broken
  pub none_broken : faults_seen texts d.on (s d.on) ≡ []
  none_broken =
      sym (own_faults d.scoping d.on d.gives.plan
      ∙ (λ i. faults_seen (texts_are modules texts has steps s gives lines tables d i) d.on (seen_is modules texts has steps s gives lines tables d i)))
      ∙ first_none (faults_from d.scoping (drafts d.scoping d.gives.plan) (names_case d.scoping d.on d.gives.plan) 0 d.gives.plan.nodes) _
      d.gives.is.is.keeps

-- ---- a grouping that is used twice in one place: its leaf is there twice
abbrev pub doubled : List ℕ
doubled = module_of
    (codes "  grouping one {"
    ∷ codes "    leaf name { type string; }"
    ∷ codes "  }"
    ∷ codes "  container top {"
    ∷ codes "    uses one;"
    ∷ codes "    uses one;"
    ∷ codes "  }"
    ∷ [])

doubled_is_text : IsText doubled
unfolding is_utf8 chars encode
doubled_is_text = record { utf8 = refl; reads = refl; short = refl }

abbrev doubled_seen : FeatureTest → Seen
doubled_seen on = unwrap_or (given_in (texts_of doubled) on steps 2) unseen

doubled_ends : (on : FeatureTest) → is_some (given_in (texts_of doubled) on steps 2) ≡ true
unfolding access_yang chars encode out-Statement out roll-Statement roll shown-the_row-Statement-0 shown hidden keyword_of keywords word_of is_word_of
doubled_ends on = refl

doubled_gives : (on : FeatureTest) → given_in (texts_of doubled) on steps 2 ≡ Some (doubled_seen on)
doubled_gives on = some_there (given_in (texts_of doubled) on steps 2) unseen (doubled_ends on)

-- the second is at the line of the leaf's statement
doubled_faults : (on : FeatureTest) → faults_seen (texts_of doubled) on (doubled_seen on) ≡ record { text = 1; fault = record { line = 5; why = Twice } } ∷ []
unfolding access_yang chars encode out-Statement out roll-Statement roll shown-the_row-Statement-0 shown hidden keyword_of keywords word_of is_word_of is_true_text is_user_text
doubled_faults on = refl

pub doubled_has_none : (lines : List (List ℕ)) (tables : Tables) → Defines (file doubled ∷ []) lines tables → ⊥
doubled_has_none lines tables d =
    let none = none_broken (file doubled ∷ []) (texts_of doubled) (have doubled doubled_is_text) steps doubled_seen doubled_gives lines tables d in
    let some = doubled_faults d.on in
    absurd (cc)

-- ---- a leafref that leads to no leaf
abbrev pub lost : List ℕ
lost = module_of (codes "  leaf up { type leafref { path '/m:down'; } }" ∷ [])

lost_is_text : IsText lost
unfolding is_utf8 chars encode
lost_is_text = record { utf8 = refl; reads = refl; short = refl }

abbrev lost_seen : FeatureTest → Seen
lost_seen on = unwrap_or (given_in (texts_of lost) on steps 2) unseen

lost_ends : (on : FeatureTest) → is_some (given_in (texts_of lost) on steps 2) ≡ true
unfolding access_yang chars encode out-Statement out roll-Statement roll shown-the_row-Statement-0 shown hidden keyword_of keywords word_of is_word_of
lost_ends on = refl

lost_gives : (on : FeatureTest) → given_in (texts_of lost) on steps 2 ≡ Some (lost_seen on)
lost_gives on = some_there (given_in (texts_of lost) on steps 2) unseen (lost_ends on)

-- its leaf, the type of that, and the path
abbrev up : FeatureTest → Located
up on = unwrap_or (defined_by (lost_seen on).nodes 22) (top_of lost)

abbrev its_type : FeatureTest → Located
its_type on = unwrap_or (part_of TypeName (up on)) (top_of lost)

abbrev its_path : FeatureTest → Located
its_path on = unwrap_or (part_of Path (its_type on)) (top_of lost)

lost_means : (on : FeatureTest) → Means (holds (texts_of lost) on) (texts_of lost) (its_type on) (Refers (its_path on) true)
unfolding access_yang chars encode out-Statement out roll-Statement roll shown-the_row-Statement-0 shown hidden keyword_of keywords word_of is_word_of built_in_of built_ins built_in_word
lost_means on = by_itself (its_type on) LeafRef (Refers (its_path on) true) refl refl refl

lost_leads : (on : FeatureTest) → leads_in (texts_of lost) (tables_of (texts_of lost) on (lost_seen on)) 22 (its_path on) ≡ None
unfolding access_yang chars encode out-Statement out roll-Statement roll shown-the_row-Statement-0 shown hidden keyword_of keywords word_of is_word_of is_true_text is_user_text leafref_end written_name
lost_leads on = refl

pub lost_has_none : (lines : List (List ℕ)) (tables : Tables) → Defines (file lost ∷ []) lines tables → ⊥
unfolding access_yang chars encode out-Statement out roll-Statement roll shown-the_row-Statement-0 shown hidden keyword_of keywords word_of is_word_of is_true_text is_user_text
lost_has_none lines tables d =
    leafref_worked (file lost ∷ []) (texts_of lost) (have lost lost_is_text) steps lost_seen lost_gives lines tables d 22
    (data_node (codes "urn:m") (codes "up") 1 None Leaf) (up d.on) refl refl (its_type d.on) (its_path d.on) true refl refl (lost_means d.on) (lost_leads d.on)
