-- No rule of data nodes and types is that a pattern was refused.
use Rattle.std.proofs.Common.{◌≡◌, ◌++◌, ◌+◌, ◌&&◌, ◌||◌, ℕ, ℤ, true, false, not, cond, List, [], ◌∷◌, Option, Some, None, refl}
use Rattle.std.specs.Prelude.{Ok, Err, is_some, map, nat_lt, slice_get}
use Rattle.std.specs.Option.{option_map_or}
use Rattle.std.specs.List.{All, flat_map}
use Rattle.std.proofs.lemmas.List.Elements.{All-append, All-map, All-nil}
use Rattle.nc_names.specs.Identifiers.{is_identifier}
use Rattle.nc_patterns.specs.Reading.{Reading, tokens}
use Rattle.nc_patterns.specs.declared.fault.ReadFault.TheVariants.{BadArgument as BadToken, Memory as NoMemory, Unsupported as UnsupportedToken}
use Rattle.nc_schema.specs.Children.{is_same_number}
use Rattle.nc_schema.specs.Tables.{Tables}
use Rattle.nc_schema.specs.declared.node.Choice.{Choice}
use Rattle.nc_schema.specs.declared.node.Node.{Node}
use Rattle.nc_schema.specs.declared.value_type.Between.{Between}
use Rattle.nc_schema.specs.declared.value_type.ValueType.{ValueType}
use Rattle.nc_schema.specs.declared.value_type.ValueType.TheVariants.{Whole, Decimal, Chars as String, Binary as Octets, Enumeration as Names, Bits as Set}
use Rattle.nc_yang_words.specs.declared.statement.Statement.{Statement}
use Rattle.nc_yang_statements.specs.declared.built_in.BuiltIn.{BuiltIn}
use Rattle.nc_yang_statements.specs.declared.built_in.BuiltIn.TheVariants.{Binary, Bits, Boolean, Decimal64, Empty, Enumeration, IdentityRef, InstanceIdentifier, LeafRef, Chars, Union}
use Rattle.nc_yang_statements.specs.declared.fault.ModuleWhy.TheVariants.{BadArgument, Missing, Twice, UnknownName, UnknownStatement}
use Rattle.nc_yang_statements.specs.declared.keyword.Keyword.{Keyword}
use Rattle.nc_yang_statements.specs.declared.keyword.Keyword.TheVariants.{FractionDigits, IfFeature, Key, Length, List as ListWord, Pattern, Range, Unique}
use Rattle.nc_yang_statements.specs.Keywords.{is_closed, is_same_keyword}
use Rattle.nc_yang_statements.specs.Rules.{at, at_if}
use Rattle.nc_yang_statements.specs.Statements.{below, kind, line, name, part}
use Rattle.nc_yang_scopes.specs.Scopes.{Located, Scoping}
use Rattle.nc_yang_nodes.specs.Roles.{FeatureTest}
use Rattle.nc_yang_nodes.specs.declared.planned.Plan.{Plan}
use Rattle.nc_yang_nodes.specs.declared.planned.Planned.{Planned}
use Rattle.nc_yang_nodes.specs.declared.planned.PlannedChoice.{PlannedChoice}
use Rattle.nc_yang_data.specs.Conditions.{all_conditions, conditions, conditions_in, key_conditions}
use Rattle.nc_yang_data.specs.Data.{data_faults, data_tables, drafts}
use Rattle.nc_yang_data.specs.Defaults.{asking_faults, asks, carrier, choice_faults, choices_from, default_faults, fault_at, forbidden, forbidden_above, is_by_default, node_faults as asking_node, nodes_from, placed_faults}
use Rattle.nc_yang_data.specs.Leafs.{CaseTest, leafs_by, names_case}
use Rattle.nc_yang_data.specs.Lists.{has_again, has_none, key_faults, keyless, list_faults, not_unique, unique_fault}
use Rattle.nc_yang_data.specs.Places.{faults_at, faults_from, in_text, is_astray, is_twin, node_faults}
use Rattle.nc_yang_data.specs.Siblings.{choice_called, choice_twin, choices_from as twins_from, clash, name_at, name_faults, node_twin, nodes_from as clashes_from, parent_of, twice_at}
use Rattle.nc_yang_data.specs.declared.naming.Naming.TheVariants.{Keys, Uniques}
use Rattle.nc_yang_types.specs.Entries.{decimals, digits_of, ill_digits, ill_digits_by, integers, lengths, misnarrowed, misread, misread_by, misread_units, misused, narrowed_faults, own_faults}
use Rattle.nc_yang_types.specs.Members.{at_number, has_name, ill_choice, ill_choices, ill_listed, is_member, is_unfit, misnumbered, number_in, numbered, numbering, number_word, renamed, renumbered, unlike, why_unfit, with_number}
use Rattle.nc_yang_types.specs.Parts.{foreign, foreign_over, lacking, lacking_part, misshapen, narrows, needs, takes, why_foreign, why_foreign_over}
use Rattle.nc_yang_types.specs.Patterns.{ill_patterns, why_ill, why_unread}
use Rattle.nc_yang_types.specs.Ranges.{restriction}
use Rattle.nc_yang_types.specs.declared.bound.Counted.{Counted}
use Rattle.nc_yang_types.specs.declared.member.Named.{Named}
use Rattle.nc_yang_types.specs.declared.bound.Counted.TheVariants.{Lengths, Units}
use Rattle.nc_yang.proofs.TextReasons.{OfRule, OfTextRule, WhyOfRule, all_flat, all_one, by_option, either, is_of_rule, of_at, of_at_if}

-- keys and `unique` leafs
of_keys : (s : Statement) (o : Option (List ℕ)) → All OfRule (key_faults s o)
of_keys s None = of_at_if true s UnknownName refl
of_keys s (Some keys) =
    All-append OfRule (at_if (has_none keys) s BadArgument) (at_if (has_again [] keys) s Twice) (of_at_if (has_none keys) s BadArgument refl) (of_at_if (has_again [] keys) s Twice refl)

module _ (texts : List Statement) (tables : Tables) (named : CaseTest) (text number : ℕ) where
  of_unique : (s : Statement) → All OfRule (unique_fault texts tables named text number s)
  of_unique s =
      either (All OfRule) (is_same_keyword Unique (kind s))
      (option_map_or (λ leafs. at_if (has_none leafs) s BadArgument) (leafs_by Uniques texts tables named text number (name s)) (at_if true s UnknownName)) []
      (by_option (All OfRule) (λ leafs. at_if (has_none leafs) s BadArgument) (leafs_by Uniques texts tables named text number (name s)) (at_if true s UnknownName)
      (λ leafs. of_at_if (has_none leafs) s BadArgument refl) (of_at_if true s UnknownName refl))
      (All-nil OfRule)

  of_list : (list : Statement) → All OfRule (list_faults texts tables named text number list)
  of_list list =
      All-append OfRule (keyless texts tables named text number list) (not_unique texts tables named text number list)
      (by_option (All OfRule) (λ s. key_faults s (leafs_by Keys texts tables named text number (name s))) (part Key (below list)) (at_if true list Missing)
      (λ s. of_keys s (leafs_by Keys texts tables named text number (name s))) (of_at_if true list Missing refl))
      (all_flat OfRule (unique_fault texts tables named text number) of_unique (below list))

  of_node : (s : Statement) → All OfRule (node_faults texts tables named text number s)
  of_node s =
      All-append OfRule (at_if (is_twin tables number) s Twice ++ at_if (is_astray tables number) s UnknownStatement ++ at_if (not (is_identifier (name s))) s BadArgument)
      (cond (is_same_keyword ListWord (kind s)) (list_faults texts tables named text number s) [])
      (All-append OfRule (at_if (is_twin tables number) s Twice ++ at_if (is_astray tables number) s UnknownStatement) (at_if (not (is_identifier (name s))) s BadArgument)
      (All-append OfRule (at_if (is_twin tables number) s Twice) (at_if (is_astray tables number) s UnknownStatement) (of_at_if (is_twin tables number) s Twice refl)
      (of_at_if (is_astray tables number) s UnknownStatement refl))
      (of_at_if (not (is_identifier (name s))) s BadArgument refl))
      (either (All OfRule) (is_same_keyword ListWord (kind s)) (list_faults texts tables named text number s) [] (of_list s) (All-nil OfRule))

-- data nodes and choices in their places
module _ (scoping : Scoping) (tables : Tables) (named : CaseTest) where
  of_faults_at : (number statement : ℕ) → All OfTextRule (faults_at scoping tables named number statement)
  of_faults_at number statement =
      by_option (All OfTextRule) (λ (l : Located). map (in_text l.place.text) (node_faults scoping.texts tables named l.place.text number l.statement)) (slice_get scoping.located statement) []
      (λ l. All-map OfTextRule (in_text l.place.text) (node_faults scoping.texts tables named l.place.text number l.statement) (of_node scoping.texts tables named l.place.text number l.statement))
      (All-nil OfTextRule)

  of_faults_from : (number : ℕ) (ps : List Planned) → All OfTextRule (faults_from scoping tables named number ps)
  of_faults_from number [] = All-nil OfTextRule
  of_faults_from number (p ∷ ps) =
      All-append OfTextRule (faults_at scoping tables named number p.statement) (faults_from scoping tables named (number + 1) ps) (of_faults_at number p.statement) (of_faults_from (number + 1) ps)

module _ (scoping : Scoping) (tables : Tables) where
  of_fault_at : (number : ℕ) → All OfTextRule (fault_at scoping number)
  of_fault_at number =
      by_option (All OfTextRule) (λ (l : Located). record { text = l.place.text; fault = record { line = line l.statement; why = BadArgument } } ∷ []) (slice_get scoping.located number) []
      (λ l. all_one OfTextRule (record { text = l.place.text; fault = record { line = line l.statement; why = BadArgument } }) refl) (All-nil OfTextRule)

  of_forbidden : (plan : Plan) (number : ℕ) → All OfTextRule (forbidden scoping tables plan number)
  of_forbidden plan number =
      either (All OfTextRule) (option_map_or (λ (node : Node). is_by_default tables node.cases) (slice_get tables.nodes number) false)
      (option_map_or (λ (p : Planned). fault_at scoping p.statement) (slice_get plan.nodes number) []) []
      (by_option (All OfTextRule) (λ (p : Planned). fault_at scoping p.statement) (slice_get plan.nodes number) [] (λ p. of_fault_at p.statement) (All-nil OfTextRule))
      (All-nil OfTextRule)

  of_nodes : (plan : Plan) (number : ℕ) (ps : List Planned) → All OfTextRule (nodes_from scoping tables plan number ps)
  of_nodes plan number [] = All-nil OfTextRule
  of_nodes plan number (p ∷ ps) =
      All-append OfTextRule (asking_node scoping tables plan number) (nodes_from scoping tables plan (number + 1) ps)
      (either (All OfTextRule) (option_map_or asks (slice_get tables.nodes number) false) (forbidden_above scoping tables plan number) [] (of_forbidden plan _) (All-nil OfTextRule))
      (of_nodes plan (number + 1) ps)

  of_placed : (plan : Plan) (statement : ℕ) (choice : Choice) → All OfTextRule (placed_faults scoping tables plan statement choice)
  of_placed plan statement choice =
      by_option (All OfTextRule) (forbidden_above scoping tables plan) (carrier tables choice.parent choice.within)
      (cond (is_by_default tables choice.within) (fault_at scoping statement) []) (λ number. of_forbidden plan _)
      (either (All OfTextRule) (is_by_default tables choice.within) (fault_at scoping statement) [] (of_fault_at statement) (All-nil OfTextRule))

  of_choice : (plan : Plan) (number : ℕ) (p : PlannedChoice) → All OfTextRule (choice_faults scoping tables plan number p)
  of_choice plan number p =
      by_option (All OfTextRule) (asking_faults scoping tables plan p.statement) (slice_get tables.choices number) []
      (λ choice. either (All OfTextRule) choice.mandatory (placed_faults scoping tables plan p.statement choice) [] (of_placed plan p.statement choice) (All-nil OfTextRule))
      (All-nil OfTextRule)

  of_choices : (plan : Plan) (number : ℕ) (ps : List PlannedChoice) → All OfTextRule (choices_from scoping tables plan number ps)
  of_choices plan number [] = All-nil OfTextRule
  of_choices plan number (p ∷ ps) =
      All-append OfTextRule (choice_faults scoping tables plan number p) (choices_from scoping tables plan (number + 1) ps) (of_choice plan number p) (of_choices plan (number + 1) ps)

-- names of choices
module _ (scoping : Scoping) (choices : List PlannedChoice) where
  of_twice : (number : ℕ) → All OfTextRule (twice_at scoping number)
  of_twice number =
      by_option (All OfTextRule) (λ (l : Located). record { text = l.place.text; fault = record { line = line l.statement; why = Twice } } ∷ []) (slice_get scoping.located number) []
      (λ l. all_one OfTextRule (record { text = l.place.text; fault = record { line = line l.statement; why = Twice } }) refl) (All-nil OfTextRule)

  of_twin : (number : ℕ) (c : PlannedChoice) → All OfTextRule (choice_twin scoping choices number c)
  of_twin number c =
      either (All OfTextRule) (is_same_number (choice_called scoping choices (parent_of c.module c.parent c.within) (name_at scoping c.statement)) (Some number))
      [] (twice_at scoping c.statement) (All-nil OfTextRule) (of_twice c.statement)

  of_twins : (number : ℕ) (cs : List PlannedChoice) → All OfTextRule (twins_from scoping choices number cs)
  of_twins number [] = All-nil OfTextRule
  of_twins number (c ∷ cs) =
      All-append OfTextRule (choice_twin scoping choices number c) (twins_from scoping choices (number + 1) cs) (of_twin number c) (of_twins (number + 1) cs)

  of_clash : (number : ℕ) (p : Planned) (c : PlannedChoice) → All OfTextRule (clash scoping number p c)
  of_clash number p c =
      either (All OfTextRule) (nat_lt number c.nodes_before) (twice_at scoping c.statement) (twice_at scoping p.statement) (of_twice c.statement) (of_twice p.statement)

  of_node_twin : (number : ℕ) (p : Planned) → All OfTextRule (node_twin scoping choices number p)
  of_node_twin number p =
      by_option (All OfTextRule) (λ k. option_map_or (clash scoping number p) (slice_get choices k) [])
      (choice_called scoping choices (parent_of p.module p.parent p.cases) (name_at scoping p.statement)) []
      (λ k. by_option (All OfTextRule) (clash scoping number p) (slice_get choices k) [] (of_clash number p) (All-nil OfTextRule))
      (All-nil OfTextRule)

  of_clashes : (number : ℕ) (ps : List Planned) → All OfTextRule (clashes_from scoping choices number ps)
  of_clashes number [] = All-nil OfTextRule
  of_clashes number (p ∷ ps) =
      All-append OfTextRule (node_twin scoping choices number p) (clashes_from scoping choices (number + 1) ps) (of_node_twin number p) (of_clashes (number + 1) ps)

of_names : (scoping : Scoping) (plan : Plan) → All OfTextRule (name_faults scoping plan)
of_names scoping plan =
    All-append OfTextRule (twins_from scoping plan.choices 0 plan.choices) (clashes_from scoping plan.choices 0 plan.nodes)
    (of_twins scoping plan.choices 0 plan.choices) (of_clashes scoping plan.choices 0 plan.nodes)

-- conditions of keys
module _ (scoping : Scoping) (plan : Plan) where
  of_conditions : (text : ℕ) (leaf : Statement) → All OfTextRule (conditions text leaf)
  of_conditions text leaf =
      by_option (All OfTextRule) (λ s. record { text = text; fault = record { line = line s; why = BadArgument } } ∷ []) (part IfFeature (below leaf)) []
      (λ s. all_one OfTextRule (record { text = text; fault = record { line = line s; why = BadArgument } }) refl) (All-nil OfTextRule)

  of_key : (key : ℕ) → All OfTextRule (key_conditions scoping plan key)
  of_key key =
      by_option (All OfTextRule) (λ (p : Planned). option_map_or (λ (l : Located). conditions l.place.text l.statement) (slice_get scoping.located p.statement) []) (slice_get plan.nodes key) []
      (λ p. by_option (All OfTextRule) (λ (l : Located). conditions l.place.text l.statement) (slice_get scoping.located p.statement) [] (λ l. of_conditions l.place.text l.statement) (All-nil OfTextRule))
      (All-nil OfTextRule)

  of_key_conditions : (nodes : List Node) → All OfTextRule (all_conditions scoping plan nodes)
  of_key_conditions nodes = all_flat OfTextRule (conditions_in scoping plan) (λ node. all_flat OfTextRule (key_conditions scoping plan) of_key node.keys) nodes

pub of_data : (scoping : Scoping) (on : FeatureTest) (plan : Plan) → All OfTextRule (data_faults scoping on plan)
of_data scoping on plan =
    let tables = data_tables scoping on plan in
    All-append OfTextRule (faults_from scoping (drafts scoping plan) (names_case scoping on plan) 0 plan.nodes)
    (name_faults scoping plan ++ (default_faults scoping tables plan ++ all_conditions scoping plan tables.nodes))
    (of_faults_from scoping (drafts scoping plan) (names_case scoping on plan) 0 plan.nodes)
    (All-append OfTextRule (name_faults scoping plan) (default_faults scoping tables plan ++ all_conditions scoping plan tables.nodes) (of_names scoping plan)
    (All-append OfTextRule (default_faults scoping tables plan) (all_conditions scoping plan tables.nodes)
    (All-append OfTextRule (nodes_from scoping tables plan 0 plan.nodes) (choices_from scoping tables plan 0 plan.choices) (of_nodes scoping tables plan 0 plan.nodes)
    (of_choices scoping tables plan 0 plan.choices))
    (of_key_conditions scoping plan tables.nodes)))

-- `type` statements
of_misread : (counted : Counted) (base : List Between) (o : Option Statement) → All OfRule (misread_by counted base o)
of_misread counted base None = All-nil OfRule
of_misread counted base (Some given) = of_at_if (not (is_some (restriction counted base (name given)))) given BadArgument refl

of_part : (counted : Counted) (keyword : Keyword) (base : List Between) (ss : List Statement) → All OfRule (misread counted keyword base ss)
of_part counted keyword base ss = of_misread counted base (part keyword ss)

of_digits : (o : Option Statement) → All OfRule (ill_digits_by o)
of_digits None = All-nil OfRule
of_digits (Some given) = of_at_if _ given BadArgument refl

of_units : (o : Option ℕ) (ss : List Statement) → All OfRule (misread_units o ss)
of_units None ss = All-nil OfRule
of_units (Some digits) ss = of_part (Units digits) Range decimals ss

of_renamed : (listed : _) (before ss : List Statement) → All OfRule (renamed listed before ss)
of_renamed listed before [] = All-nil OfRule
of_renamed listed before (s ∷ ss) =
    All-append OfRule (at_if (is_member listed s && has_name listed (name s) before) s Twice) (renamed listed (before ++ s ∷ []) ss)
    (of_at_if (is_member listed s && has_name listed (name s) before) s Twice refl) (of_renamed listed (before ++ s ∷ []) ss)

of_unfit : (given : Option Statement) (number : Option ℤ) → is_of_rule (why_unfit given number) ≡ true
of_unfit given (Some n) = refl
of_unfit (Some given) None = refl
of_unfit None None = refl

of_misnumbered : (listed : _) (before : List ℤ) (ps : List (Statement × Option ℤ)) → All OfRule (misnumbered listed before ps)
of_misnumbered listed before [] = All-nil OfRule
of_misnumbered listed before (p ∷ ps) =
    let given = part (number_word listed) (below p.0) in
    All-append OfRule (at_number listed p.0 (is_unfit before p.1) (why_unfit given p.1)) (misnumbered listed (with_number before p.1) ps)
    (of_at_if (is_unfit before p.1) (numbering listed p.0 given) (why_unfit given p.1) (of_unfit given p.1)) (of_misnumbered listed (with_number before p.1) ps)

of_listed : (listed : _) (ss : List Statement) → All OfRule (ill_listed listed ss)
of_listed listed ss =
    All-append OfRule (renamed listed [] ss) (misnumbered listed [] (numbered listed None ss)) (of_renamed listed [] ss) (of_misnumbered listed [] (numbered listed None ss))

of_misused : (one : BuiltIn) (ss : List Statement) → All OfRule (misused one ss)
of_misused Binary ss = of_part Lengths Length lengths ss
of_misused Bits ss = search (of_listed)
of_misused Boolean ss = All-nil OfRule
of_misused Decimal64 ss = All-append OfRule (ill_digits ss) (misread_units (digits_of ss) ss) (of_digits (part FractionDigits ss)) (of_units (digits_of ss) ss)
of_misused Empty ss = All-nil OfRule
of_misused Enumeration ss = search (of_listed)
of_misused IdentityRef ss = All-nil OfRule
of_misused InstanceIdentifier ss = All-nil OfRule
of_misused LeafRef ss = All-nil OfRule
of_misused Chars ss = of_part Lengths Length lengths ss
of_misused Union ss = All-nil OfRule
of_misused one ss = of_part (Units 0) Range (integers one) ss

of_unread : (r : Reading) → WhyOfRule (why_unread r)
of_unread (Ok spelled) = tt
of_unread (Err (UnsupportedToken place)) = refl
of_unread (Err (BadToken place)) = refl
of_unread (Err NoMemory) = refl

of_patterns : (ss : List Statement) → All OfRule (ill_patterns ss)
of_patterns ss =
    all_flat OfRule (λ s. at (why_ill s) s) (λ s. of_at (why_ill s) s (either WhyOfRule (is_same_keyword Pattern (kind s)) (why_unread (tokens (name s))) None (of_unread (tokens (name s))) tt)) ss

of_lacking : (o : Option Keyword) (s : Statement) → All OfRule (lacking_part o s)
of_lacking None s = All-nil OfRule
of_lacking (Some keyword) s = of_at_if _ s Missing refl

of_misshapen : (one : BuiltIn) (s : Statement) → All OfRule (misshapen one s)
of_misshapen one s =
    All-append OfRule (foreign one (below s)) (lacking one s)
    (all_flat OfRule (λ t. at (why_foreign one (kind t)) t)
    (λ t. of_at (why_foreign one (kind t)) t (either WhyOfRule (is_closed (kind t) || takes one (kind t)) None (Some UnknownStatement) tt refl)) (below s))
    (of_lacking (needs one) s)

pub of_own : (one : BuiltIn) (s : Statement) → All OfRule (own_faults one s)
of_own one s =
    All-append OfRule (misshapen one s) (ill_patterns (below s) ++ misused one (below s)) (of_misshapen one s)
    (All-append OfRule (ill_patterns (below s)) (misused one (below s)) (of_patterns (below s)) (of_misused one (below s)))

of_foreign_over : (base : ValueType) (ss : List Statement) → All OfRule (foreign_over base ss)
of_foreign_over base ss =
    all_flat OfRule (λ t. at (why_foreign_over base (kind t)) t)
    (λ t. of_at (why_foreign_over base (kind t)) t
    (either WhyOfRule (is_closed (kind t) || narrows base (kind t)) None (Some UnknownStatement) tt refl)) ss

of_renumbered : (number : ℤ) (given : Option Statement) → All OfRule (renumbered number given)
of_renumbered number None = All-nil OfRule
of_renumbered number (Some given) = of_at_if _ given BadArgument refl

of_unlike : (listed : _) (number : Option ℤ) (s : Statement) → All OfRule (unlike listed number s)
of_unlike listed None s = of_at_if true s BadArgument refl
of_unlike listed (Some number) s = of_renumbered number (part (number_word listed) (below s))

of_chosen : (listed : _) (names : List Named) (ss : List Statement) → All OfRule (ill_choices listed names ss)
of_chosen listed names ss =
    All-append OfRule (renamed listed [] ss) (flat_map (ill_choice listed names) ss) (of_renamed listed [] ss)
    (all_flat OfRule (ill_choice listed names)
    (λ s. either (All OfRule) (is_member listed s) (unlike listed (number_in names (name s)) s) [] (of_unlike listed (number_in names (name s)) s) (All-nil OfRule)) ss)

of_misnarrowed : (base : ValueType) (names : List Named) (ss : List Statement) → All OfRule (misnarrowed base names ss)
of_misnarrowed (Whole among) names ss = of_part (Units 0) Range among ss
of_misnarrowed (Decimal digits among) names ss = of_part (Units digits) Range among ss
of_misnarrowed (String among starless patterns) names ss = of_part Lengths Length among ss
of_misnarrowed (Octets among) names ss = of_part Lengths Length among ss
of_misnarrowed (Names taken) names ss = search (of_chosen)
of_misnarrowed (Set taken) names ss = search (of_chosen)
of_misnarrowed base names ss = All-nil OfRule

pub of_narrowed : (base : ValueType) (names : List Named) (ss : List Statement) → All OfRule (narrowed_faults base names ss)
of_narrowed base names ss =
    All-append OfRule (foreign_over base ss) (ill_patterns ss ++ misnarrowed base names ss) (of_foreign_over base ss)
    (All-append OfRule (ill_patterns ss) (misnarrowed base names ss) (of_patterns ss) (of_misnarrowed base names ss))
