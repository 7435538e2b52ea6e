-- No rule of modules is that a pattern was refused.
use Rattle.std.proofs.Common.{◌≡◌, ℕ, Bool, true, false, cond, List, inl, inr, refl, sym, ap, subst}
use Rattle.std.specs.Prelude.{Option, Some, None, option_map, Result, Ok, Err, IfErr, MatchResult}
use Rattle.std.proofs.lemmas.List.Elements.{All-contains}
use Rattle.nc_patterns.specs.Makers.{Rose}
use Rattle.nc_schema.specs.Tables.{Tables}
use Rattle.nc_yang_words.specs.declared.statement.Statement.{Statement}
use Rattle.nc_yang_statements.specs.declared.fault.Fault.{Fault}
use Rattle.nc_yang_statements.specs.declared.fault.ModuleWhy.{ModuleWhy}
use Rattle.nc_yang_statements.specs.declared.fault.ModuleWhy.TheVariants.{PatternRefused}
use Rattle.nc_yang_statements.specs.Statements.{below}
use Rattle.nc_yang_scopes.specs.Scopes.{Located, Scoping}
use Rattle.nc_yang_scopes.specs.declared.naming.TextFault.{TextFault}
use Rattle.nc_yang.specs.Texts.{OnModule}
use Rattle.nc_yang.specs.declared.fault.CompileFault.{CompileFault}
use Rattle.nc_yang.specs.declared.fault.CompileFault.TheVariants.{Module, Memory as NoMemory}
use Rattle.nc_yang.specs.declared.text.ModuleText.{ModuleText}
use Rattle.nc_yang_nodes.specs.Roles.{FeatureTest}
use Rattle.nc_yang_nodes.specs.declared.planned.Plan.{Plan}
use Rattle.nc_yang_data.specs.Data.{data_faults, data_tables}
use Rattle.nc_yang_types.specs.Entries.{narrowed_faults, own_faults}
use Rattle.nc_yang_types.specs.Faults.{BreaksOne}
use Rattle.nc_yang_types.specs.Meanings.{Breaks as BreaksParts, in_itself, names_of, over_base, shape}
use Rattle.nc_yang_leafs.specs.Bases.{type_of}
use Rattle.nc_yang_leafs.specs.Patterns.{Refusals, without_patterns}
use Rattle.nc_yang_leafs.specs.Defaults.{IsBroken}
use Rattle.nc_yang.specs.Access.{in_file}
use Rattle.nc_yang.specs.Depths.{reads_too_many, too_many_at}
use Rattle.nc_yang.specs.Schemas.{Breaks, BreaksBare, BreaksPlan, BreaksSchema, BreaksTypedefs, GivesNone, IsCompiled, by_pattern, by_types, circle, deep, default, ill_typed, in_place, in_plan, in_schema, leafref, of_typedef, past, suits_none, text, unadmitted, unread}
use Rattle.nc_yang.specs.Typedefs.{typedef_plan, typedef_tables}
use Rattle.nc_yang.specs.declared.texts.Compilation.{Compilation}
use Rattle.nc_yang.proofs.TextReasons.{OfRule, OfTextRule, is_of_rule, no_refusal, of_text, of_unread}
use Rattle.nc_yang.proofs.TypeReasons.{of_data, of_narrowed, of_own}

of_parts : (on : ℕ → List ℕ → Bool) (texts : List Statement) (l : Located) (fault : Fault) → BreaksParts on texts l fault → OfRule fault
of_parts on texts _ _ (in_itself l one fault built here) = All-contains OfRule (own_faults one l.statement) fault (of_own one l.statement) here
of_parts on texts _ _ (over_base l base n fault is means here) = All-contains OfRule (narrowed_faults (shape n) (names_of n) (below l.statement)) fault (of_narrowed (shape n) (names_of n) (below l.statement)) here

-- or by what a member of it means, or by a default beside it
of_one : (on : ℕ → List ℕ → Bool) (texts : List Statement) (l : Located) (fault : Fault) → BreaksOne on texts l fault → OfRule fault
of_one on texts l fault (inl breaks) = of_parts on texts l fault breaks
of_one on texts l fault (inr (inl refers)) = subst OfRule (sym refers.at) refl
of_one on texts l fault (inr (inr (inl defaults))) = subst OfRule (sym defaults.at) refl
of_one on texts l fault (inr (inr (inr taken))) = subst OfRule (sym taken.at) refl

-- a value that is read through too many types
of_depth : (b : Bool) (o : Option Located) (found : TextFault) → cond b (option_map too_many_at o) None ≡ Some found → OfTextRule found
of_depth false o found e = absurd (cc)
of_depth true None found e = absurd (cc)
of_depth true (Some l) found e = let same : too_many_at l ≡ found = cc in subst OfTextRule same refl

-- a default without a value, or with that of one before it
of_default : (earlier : List (List ℕ)) (value : Option (List ℕ)) (why : ModuleWhy) → IsBroken earlier value why → is_of_rule why ≡ true
of_default earlier None why is = ap is_of_rule is
of_default earlier (Some value) why is = ap is_of_rule is.1

of_bare : (scoping : Scoping) (on : FeatureTest) (plan : Plan) (given : Tables) (found : TextFault) → BreaksBare scoping on plan given found → OfTextRule found
of_bare scoping on plan given _ (circle found breaks) = subst OfTextRule (sym breaks.at) refl
of_bare scoping on plan given _ (leafref found breaks) = subst OfTextRule (sym breaks.at) refl
of_bare scoping on plan given _ (deep found typed straight types breaks) = of_depth (reads_too_many (without_patterns typed) breaks.0) (type_of scoping plan breaks.0) found breaks.1
of_bare scoping on plan given _ (default found typed straight types breaks) = subst OfTextRule (sym breaks.fault_is) (of_default breaks.breaks.stops.earlier _ breaks.breaks.stops.why breaks.breaks.stops.broken)

of_plan : (scoping : Scoping) (on : FeatureTest) (plan : Plan) (found : TextFault) → BreaksPlan scoping on plan found → OfTextRule found
of_plan scoping on plan _ (in_place found here) = All-contains OfTextRule (data_faults scoping on plan) found (of_data scoping on plan) here
of_plan scoping on plan _ (by_types found kept breaks) = of_bare scoping on plan (data_tables scoping on plan) found breaks
of_plan scoping on plan _ (by_pattern found typed is breaks) = subst OfTextRule (sym breaks.fault_is) (of_default breaks.breaks.stops.earlier _ breaks.breaks.stops.why breaks.breaks.stops.broken)

of_typedefs : (scoping : Scoping) (on : FeatureTest) (found : TextFault) → BreaksTypedefs scoping on found → OfTextRule found
of_typedefs scoping on _ (suits_none numbers found are breaks) = of_bare scoping on (typedef_plan numbers) (typedef_tables scoping on numbers) found breaks
of_typedefs scoping on _ (unadmitted numbers typed found suited breaks) = subst OfTextRule (sym breaks.fault_is) (of_default breaks.breaks.stops.earlier _ breaks.breaks.stops.why breaks.breaks.stops.broken)

of_schema : (scoping : Scoping) (on : FeatureTest) (found : TextFault) → BreaksSchema scoping on found → OfTextRule found
of_schema scoping on _ (ill_typed found breaks) = of_one _ scoping.texts breaks.breaks.statement found.fault breaks.breaks.breaks
of_schema scoping on _ (of_typedef found types breaks) = of_typedefs scoping on found breaks
of_schema scoping on _ (past found first) = subst OfTextRule (sym first.at) refl
of_schema scoping on _ (in_plan plan found types planned breaks) = of_plan scoping on plan found breaks

of_modules : (modules : List ModuleText) (lines : List (List ℕ)) (file : ℕ) (fault : Fault) → Breaks modules lines file fault → OfRule fault
of_modules modules lines _ _ (unread file fault is) = of_unread modules file fault is
of_modules modules lines _ _ (text texts file fault read breaks) = of_text texts (in_file file fault) breaks
of_modules modules lines _ _ (in_schema scoping on file fault begun breaks) = of_schema scoping on (in_file file fault) breaks

-- a broken rule is another reason
pub never_refused : (modules : List ModuleText) (lines : List (List ℕ)) (file : ℕ) (fault : Fault) → Breaks modules lines file fault → fault.why ≡ PatternRefused → ⊥
never_refused modules lines file fault breaks = no_refusal fault (of_modules modules lines file fault breaks)

-- so where it is the reason, the count of refusals rose
pub rose_where_refused : (modules : List ModuleText) (lines : List (List ℕ)) (refusals : Refusals) (file : ℕ) (fault : Fault) → GivesNone modules lines refusals file fault → fault.why ≡ PatternRefused →
    Rose refusals.before refusals.now
rose_where_refused modules lines refusals file fault (inl breaks) is = absurd (never_refused modules lines file fault breaks is)
rose_where_refused modules lines refusals file fault (inr refuses) is = elim refuses.refuses.refused [ inl used ↦ used.refuses.rose | inr judged ↦ judged.refuses.rose ]

pub rose_of : (modules : List ModuleText) (lines : List (List ℕ)) (refusals : Refusals) (result : Result Compilation CompileFault) →
    MatchResult result (IsCompiled modules lines) (OnModule (GivesNone modules lines refusals)) → IfErr result (OnModule (λ file fault. fault.why ≡ PatternRefused → Rose refusals.before refusals.now))
rose_of modules lines refusals (Ok it) h = tt
rose_of modules lines refusals (Err (Module file line why)) h = rose_where_refused modules lines refusals file (record { line = line; why = why }) h
rose_of modules lines refusals (Err NoMemory) h = tt
