-- Rules that all texts keep, or one breaks.
use Rattle.std.proofs.Common.{◌≡◌, ◌<◌, ℕ, false, List, [], ◌∷◌, Option, Some, None, length, slice_get, get_or, refl, subst, sym, ◌∙◌}
use Rattle.std.specs.List.{All}
use Rattle.std.specs.Option.{MatchOption}
use Rattle.std.specs.Result.{IfOk}
use Rattle.std.specs.Prelude.{Result, Ok, Err}
use Rattle.nc_names.specs.declared.memory.Memory.{Memory}
use Rattle.std.proofs.lemmas.Option.{get_or_from_slice_get, slice_get_within}
use Rattle.nc_yang_words.specs.declared.statement.Statement.{Statement}
use Rattle.nc_yang_statements.proofs.Firsts.{first_contains, first_lacks}
use Rattle.nc_yang_statements.specs.Rules.{KeepsRules, first}
use Rattle.nc_yang_scopes.specs.Modules.{twins}
use Rattle.nc_yang_scopes.specs.Names.{BreaksNames, KeepsNames}
use Rattle.nc_yang_scopes.specs.Spaces.{KeepsSpaces}
use Rattle.nc_yang_scopes.specs.States.{KeepsState}
use Rattle.nc_yang_scopes.specs.declared.naming.TextFault.{TextFault}
use Rattle.nc_yang_scopes.specs.Loops.{BreaksLoops, KeepsLoops}
use Rattle.nc_yang_scopes.specs.Revisions.{unrevised}
use Rattle.nc_yang.specs.Rules.{BreaksText, KeepsTexts, alone, configured, looping, misnamed, renamed, twin, unrevised_import}
use Rattle.nc_yang.specs.inner.Named.{KeepsNamed}

pub twin_found : (texts : List Statement) (o : Option TextFault) (found : TextFault) → o ≡ Some found →
    o ≡ first (twins texts) → BreaksText texts found
twin_found texts o found e f = twin found (first_contains (twins texts) found (sym f ∙ e))

at_each : (P : Statement → Type 0) (texts : List Statement) (text : ℕ) (root : Statement) → All P texts →
    slice_get texts text ≡ Some root → P root
at_each P texts text root all e =
    subst P (get_or_from_slice_get texts text root root e) (all text root (slice_get_within texts text root e))

pub misnamed_found : (texts : List Statement) (found : TextFault) → BreaksNames texts found.text found.fault → BreaksText texts found
misnamed_found texts found broken = misnamed found.text found.fault broken

pub unrevised_found : (texts : List Statement) (found : TextFault) → Some found ≡ first (unrevised texts) → BreaksText texts found
unrevised_found texts found e = unrevised_import found (first_contains (unrevised texts) found (sym e))

kept : (texts : List Statement) → All KeepsRules texts → first (twins texts) ≡ None → All KeepsSpaces texts →
    All (KeepsState false) texts → KeepsNamed texts → KeepsTexts texts
kept texts rules apart spaces states named _ (alone text root fault e broken) = at_each KeepsRules texts text root rules e fault broken
kept texts rules apart spaces states named _ (renamed text root fault e broken) = at_each KeepsSpaces texts text root spaces e fault broken
kept texts rules apart spaces states named _ (configured text root fault e broken) = at_each (KeepsState false) texts text root states e fault broken
kept texts rules apart spaces states named _ (twin found broken) = first_lacks (twins texts) found apart broken
kept texts rules apart spaces states named _ (misnamed text fault broken) = named.names text fault broken
kept texts rules apart spaces states named _ (looping text fault broken) = named.loops text fault broken
kept texts rules apart spaces states named _ (unrevised_import found broken) = first_lacks (unrevised texts) found named.revisions broken

-- what is left where the other names are kept
by_loops : (texts : List Statement) (o : Option TextFault) → KeepsNames texts → first (unrevised texts) ≡ None →
    MatchOption o (KeepsLoops texts) (λ found. BreaksLoops texts found.text found.fault) →
    MatchOption o (KeepsNamed texts) (BreaksText texts)
by_loops texts (Some found) names revisions loops = looping found.text found.fault loops
by_loops texts None names revisions loops = record { names = names; revisions = revisions; loops = loops }

-- what is left where the other rules are kept
by_names : (texts seen : List Statement) (o : Option TextFault) → seen ≡ texts → All KeepsRules texts →
    first (twins texts) ≡ None → All KeepsSpaces texts → All (KeepsState false) texts → MatchOption o (KeepsNamed seen) (BreaksText seen) →
    MatchOption o (KeepsTexts texts) (BreaksText texts)
by_names texts seen (Some found) e rules apart spaces states named = subst (λ ts. BreaksText ts found) e named
by_names texts seen None e rules apart spaces states named = kept texts rules apart spaces states (subst KeepsNamed e named)

pub by_loops_in : (texts : List Statement) (r : Result (Option TextFault) Memory) → KeepsNames texts → first (unrevised texts) ≡ None →
    IfOk r (λ o. MatchOption o (KeepsLoops texts) (λ found. BreaksLoops texts found.text found.fault)) →
    IfOk r (λ o. MatchOption o (KeepsNamed texts) (BreaksText texts))
by_loops_in texts (Ok o) names revisions loops = by_loops texts o names revisions loops
by_loops_in texts (Err memory) names revisions loops = tt

pub by_names_in : (texts seen : List Statement) (r : Result (Option TextFault) Memory) → seen ≡ texts → All KeepsRules texts →
    first (twins texts) ≡ None → All KeepsSpaces texts → All (KeepsState false) texts → IfOk r (λ o. MatchOption o (KeepsNamed seen) (BreaksText seen)) →
    IfOk r (λ o. MatchOption o (KeepsTexts texts) (BreaksText texts))
by_names_in texts seen (Ok o) e rules apart spaces states named = by_names texts seen o e rules apart spaces states named
by_names_in texts seen (Err memory) e rules apart spaces states named = tt
