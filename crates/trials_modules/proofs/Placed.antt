-- The plan of the module that is worked whole, after ietf-netconf-acm; and a module that breaks a rule on a data node in its
-- place, which is asked after those on texts and types: the whole of why it has no schema.
use Rattle.std.proofs.Common.{◌≡◌, ◌+◌, ℕ, Bool, true, List, [], ◌∷◌, length, refl, sym, ap, subst, ◌∙◌, lit≤}
use Rattle.std.specs.Prelude.{◌≤◌, Contains, Some, codes, is_some, unwrap_or}
use Rattle.std.specs.List.{list_all}
use Rattle.std.specs.Str.{chars, is_utf8}
use Rattle.std.proofs.lemmas.List.Elements.{Contains-append_left}
use Rattle.std.proofs.Math.Utf8.{encode}
use denote.Hole.Carrier.{hidden, out, roll, shown}
use Rattle.nc_yang_order.proofs.Lists.{contains_at}
use Rattle.nc_yang_words.specs.declared.statement.Statement.TheBlock.{shown-the_row-Statement-0}
use Rattle.nc_yang_words.specs.declared.statement.Statement.TheViews.{out-Statement, roll-Statement}
use Rattle.nc_patterns.specs.Reading.{allowed, front_at, may_end, next, reading as pattern_reading}
use Rattle.nc_patterns.specs.Tokens.{inside as inside_class, member as class_member, one_character, outside, with_range}
use Rattle.nc_yang_statements.specs.Arguments.{is_false_text, is_order, is_true_text, is_unbounded, is_version}
use Rattle.nc_yang_statements.specs.BuiltIns.{built_in_of, built_in_word, built_ins}
use Rattle.nc_yang_statements.specs.Keywords.{keyword_of, keywords, word_of}
use Rattle.nc_yang_statements.specs.Statements.{kind}
use Rattle.nc_yang_statements.specs.declared.fault.Fault.{Fault}
use Rattle.nc_yang_statements.specs.declared.fault.ModuleWhy.TheVariants.{UnknownName}
use Rattle.nc_yang_scopes.specs.Numbers.{Entry, roots}
use Rattle.nc_yang_scopes.specs.Scopes.{Located}
use Rattle.nc_yang_scopes.specs.Spaces.{spaces}
use Rattle.nc_yang_nodes.specs.Denials.{is_word_of}
use Rattle.nc_yang_nodes.specs.Plans.{IsPlan, most_nodes}
use Rattle.nc_yang_nodes.specs.declared.planned.Plan.{Plan}
use Rattle.nc_yang_data.specs.Data.{drafts}
use Rattle.nc_yang_data.specs.Drafts.{is_user_text}
use Rattle.nc_yang_data.specs.Leafs.{names_case}
use Rattle.nc_yang_data.specs.Places.{faults_from}
use Rattle.nc_yang_types.specs.Faults.{KeepsTypes}
use Rattle.nc_yang_types.specs.Ranges.{is_max, is_min}
use Rattle.nc_yang_leafs.specs.Conditions.{holds}
use Rattle.nc_yang.specs.Access.{access_yang, in_file}
use Rattle.nc_yang.specs.Schemas.{Breaks, in_place, in_plan, in_schema}
use Rattle.nc_yang.proofs.Worked.{IsText, file, module_of, root_of, texts_of}
use Rattle.trials_modules.proofs.Given.{Seen, given_in, some_there, unseen}
use Rattle.trials_modules.proofs.Kept.{all_at, are_all, top_at}
use Rattle.trials_modules.proofs.KeptTypes.{is_typed, keeps_types}
use Rattle.trials_modules.proofs.Numbered.{End, layers}
use Rattle.trials_modules.proofs.Reached.{HasNumber, entry_at}
use Rattle.trials_modules.proofs.Laid.{Laid, is_no_use, is_shallow, plan_exists}
use Rattle.trials_modules.proofs.Faulty.{faults_seen, own_faults}
use Rattle.trials_modules.proofs.Sample.{sample, sample_gives, sample_seen, steps}
use Rattle.trials_modules.proofs.Begun.{IsKept, begun, both_typed, levels, off, scoping_of}

-- ---- a module after ietf-netconf-acm has a plan, by these computations
abbrev uses_none : Entry → Bool
uses_none e = is_no_use (kind e.statement)

pub record IsLaid (bytes : List ℕ) (s : Seen) : Type 0 where
  pub ends : End levels 0 (roots 0 (texts_of bytes))
  pub plain : list_all uses_none (layers levels 0 (roots 0 (texts_of bytes))) ≡ true
  pub gives : given_in (texts_of bytes) off steps 2 ≡ Some s
  pub few : length s.nodes + length s.choices ≤ most_nodes
  pub shallow : list_all is_shallow s.nodes ≡ true

pub no_uses : (bytes : List ℕ) (s : Seen) → IsLaid bytes s → (l : Located) → HasNumber (scoping_of bytes) l → is_no_use (kind l.statement) ≡ true
no_uses bytes s is l has =
    let e = entry_at (texts_of bytes) levels is.ends l has in
    subst (λ z. is_no_use (kind z) ≡ true) e.is
    (all_at uses_none (layers levels 0 (roots 0 (texts_of bytes))) e.number e.entry is.plain e.there)

pub laid : (bytes : List ℕ) (s : Seen) (is : IsLaid bytes s) → Laid (texts_of bytes) levels is.ends off (no_uses bytes s is) s
laid bytes s is = plan_exists (texts_of bytes) levels is.ends off (no_uses bytes s is) steps s is.gives is.few is.shallow

-- there is a plan
pub record IsPlanned (bytes : List ℕ) : Type 0 where
  pub plan : Plan
  pub is : IsPlan (scoping_of bytes) off plan

-- ---- the module that is worked whole
sample_is_laid : IsLaid sample (sample_seen off)
unfolding sample_seen access_yang chars encode out-Statement out roll-Statement roll shown-the_row-Statement-0 shown hidden keyword_of keywords word_of is_word_of
sample_is_laid = record { ends = refl; plain = refl; gives = sample_gives off; few = lit≤ tt; shallow = refl }

pub sample_plan : IsPlanned sample
sample_plan =
    let it = laid sample (sample_seen off) sample_is_laid in
    record { plan = it.plan; is = it.is }

-- ---- a key that the list does not have
abbrev pub keyless : List ℕ
keyless = module_of
    (codes "  list item {"
    ∷ codes "    key name;"
    ∷ codes "    leaf other { type string; }"
    ∷ codes "  }"
    ∷ [])

keyless_is_text : IsText keyless
unfolding is_utf8 chars encode
keyless_is_text = record { utf8 = refl; reads = refl; short = refl }

keyless_is_kept : IsKept keyless
unfolding access_yang chars encode out-Statement out roll-Statement roll shown-the_row-Statement-0 shown hidden keyword_of keywords word_of built_in_of built_ins built_in_word spaces is_true_text is_false_text is_unbounded is_order is_version
keyless_is_kept = record { access = refl; own = refl; apart = refl; revised = refl; ends = refl }

access_typed : are_all (is_typed (holds (texts_of keyless) off) (texts_of keyless)) levels (top_at 0 (root_of access_yang)) ≡ true
unfolding access_yang chars encode out-Statement out roll-Statement roll shown-the_row-Statement-0 shown hidden keyword_of keywords word_of built_in_of built_ins built_in_word is_true_text is_max is_min pattern_reading next allowed front_at may_end outside inside_class with_range class_member one_character
access_typed = refl

own_typed : are_all (is_typed (holds (texts_of keyless) off) (texts_of keyless)) levels (top_at 1 (root_of keyless)) ≡ true
unfolding access_yang chars encode out-Statement out roll-Statement roll shown-the_row-Statement-0 shown hidden keyword_of keywords word_of built_in_of built_ins built_in_word is_true_text is_max is_min pattern_reading next allowed front_at may_end outside inside_class with_range class_member one_character
own_typed = refl

types_keep : KeepsTypes (holds (texts_of keyless) off) (texts_of keyless)
types_keep = keeps_types (holds (texts_of keyless) off) (texts_of keyless) levels (both_typed keyless access_typed own_typed)

abbrev keyless_seen : Seen
keyless_seen = unwrap_or (given_in (texts_of keyless) off steps 2) unseen

keyless_ends : is_some (given_in (texts_of keyless) off steps 2) ≡ true
unfolding access_yang chars encode out-Statement out roll-Statement roll shown-the_row-Statement-0 shown hidden keyword_of keywords word_of is_word_of
keyless_ends = refl

keyless_is_laid : IsLaid keyless keyless_seen
unfolding access_yang chars encode out-Statement out roll-Statement roll shown-the_row-Statement-0 shown hidden keyword_of keywords word_of is_word_of
keyless_is_laid = record {
  ends = refl;
  plain = refl;
  gives = some_there (given_in (texts_of keyless) off steps 2) unseen keyless_ends;
  few = lit≤ tt;
  shallow = refl;
}

abbrev fault : Fault
fault = record { line = 5; why = UnknownName }

keyless_faults : faults_seen (texts_of keyless) off keyless_seen ≡ in_file 0 fault ∷ []
unfolding access_yang chars encode out-Statement out roll-Statement roll shown-the_row-Statement-0 shown hidden keyword_of keywords word_of is_word_of is_true_text is_user_text
keyless_faults = refl

-- it has no schema, and this is why
pub ill_placed : Breaks (file keyless ∷ []) [] 0 fault
ill_placed =
    let it = laid keyless keyless_seen keyless_is_laid in
    let own = own_faults (scoping_of keyless) off it.plan ∙ ap (faults_seen (texts_of keyless) off) it.seen_so ∙ keyless_faults in
    in_schema (scoping_of keyless) off 0 fault (begun keyless keyless_is_text keyless_is_kept)
    (in_plan it.plan (in_file 0 fault) types_keep it.is
    (in_place (in_file 0 fault)
    (Contains-append_left (faults_from (scoping_of keyless) (drafts (scoping_of keyless) it.plan) (names_case (scoping_of keyless) off it.plan) 0 it.plan.nodes) _ (in_file 0 fault)
    (subst (λ fs. Contains fs (in_file 0 fault)) (sym own) (contains_at (in_file 0 fault ∷ []) 0 (in_file 0 fault) refl)))))
