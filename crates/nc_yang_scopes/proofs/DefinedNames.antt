-- What statements of numbers name.
use Rattle.std.proofs.Common.{◌≡◌, ℕ, List, [], refl, sym, ap, subst, ◌∙◌}
use Rattle.std.specs.Prelude.{Bool, true, false, Option, Some, None, slice_get, option_map, option_and_then}
use Rattle.std.specs.Option.{option_map_or}
use Rattle.nc_yang_words.specs.declared.statement.Statement.{Statement}
use Rattle.nc_yang_statements.specs.Keywords.{is_closed, is_same_keyword}
use Rattle.nc_yang_statements.specs.Statements.{below, kind}
use Rattle.nc_yang_statements.proofs.Tags.{same_keyword}
use Rattle.nc_yang_scopes.specs.Scopes.{Located, Scoping, inside as inside_of, root}
use Rattle.nc_yang_scopes.specs.Names.{StandsIn, inside, itself}
use Rattle.nc_yang_scopes.specs.inner.Naming.{HasNumber}
use Rattle.nc_yang_scopes.proofs.Misnaming.{located_there}
use Rattle.nc_yang_scopes.specs.declared.kinds.Defined.{Defined}
use Rattle.nc_yang_scopes.specs.declared.kinds.Defined.TheVariants.{Features, Groupings, Identities, Modules, Typedefs}
use Rattle.nc_yang_scopes.specs.Loops.{defining, named, naming}
use Rattle.nc_yang_scopes.specs.inner.Links.{IsDefined, IsMarked, IsNone, Means, NamesNone, NamesOne, is_in_closed, is_of}
use Rattle.nc_yang_scopes.proofs.Marking.{of_keyword}

-- what stands in a statement is of its text
abbrev put : Located → Statement → Located
put l t = record { statement = t; place = inside_of l }

child_put : (l c : Located) (o : Option Statement) → option_map (put l) o ≡ Some c → c.place.text ≡ l.place.text
child_put l c None e = absurd (cc)
child_put l c (Some t) e = let same : put l t ≡ c = cc in ap (λ (z : Located). z.place.text) (sym same)

same_text : (l s : Located) → StandsIn l s → s.place.text ≡ l.place.text
same_text l s (itself k) = refl
same_text l s (inside k c i place is_open one d) = same_text c s d ∙ child_put l c (slice_get (below l.statement) place) one

root_text : (texts : List Statement) (text : ℕ) (top : Located) → root texts text ≡ Some top → top.place.text ≡ text
root_text texts text top is = by (slice_get texts text) is
  where
    lay : Statement → Located
    lay s = record { statement = s; place = record { text = text; blocks = [] } }

    by : (o : Option Statement) → option_map lay o ≡ Some top → top.place.text ≡ text
    by None e = absurd (cc)
    by (Some s) e = let same : lay s ≡ top = cc in ap (λ (z : Located). z.place.text) (sym same)

-- no definition is passed over
defining_open : (sort : Defined) → is_closed (defining sort) ≡ false
defining_open Modules = refl
defining_open Typedefs = refl
defining_open Groupings = refl
defining_open Identities = refl
defining_open Features = refl

-- a text with something in it is not passed over, nor is a definition
stands_open : (sort : Defined) (top l : Located) → StandsIn top l → is_same_keyword (defining sort) (kind l.statement) ≡ true → is_closed (kind top.statement) ≡ false
stands_open sort top l (itself k) keyword = ap is_closed (sym (same_keyword (defining sort) (kind l.statement) keyword)) ∙ defining_open sort
stands_open sort top l (inside k c i place is_open one d) keyword = is_open

pub closed_none : (scoping : Scoping) (sort : Defined) (n : ℕ) → is_in_closed scoping n ≡ true → IsNone scoping sort n
closed_none scoping sort n shut l here d =
    let text : l.place.text ≡ d.text = same_text d.top l d.stands ∙ root_text scoping.texts d.text d.top d.is_top in
    let is : is_in_closed scoping n ≡ is_closed (kind d.top.statement) =
    ap (λ o. option_map_or (λ (t : Located). is_closed (kind t.statement)) (option_and_then (λ (k : Located). root scoping.texts k.place.text) o) false) here
    ∙ ap (λ t. option_map_or (λ (t : Located). is_closed (kind t.statement)) (root scoping.texts t) false) text
    ∙ ap (λ o. option_map_or (λ (t : Located). is_closed (kind t.statement)) o false) d.is_top in
    let opened = stands_open sort d.top l d.stands d.keyword in
    cc

-- what the number is that was found
found_is : (scoping : Scoping) (sort : Defined) (n : ℕ) (result : Option ℕ) (s there : Located) → Means scoping n result (named scoping.texts sort) → slice_get scoping.located n ≡ Some s →
    named scoping.texts sort s ≡ Some there → option_and_then (slice_get scoping.located) result ≡ Some there
found_is scoping sort n result s there means here named_is = means ∙ ap (option_and_then (named scoping.texts sort)) here ∙ named_is

pub no_definition : (scoping : Scoping) (sort : Defined) (n m : ℕ) → Means scoping n (Some m) (named scoping.texts sort) → IsNone scoping sort m → NamesNone scoping sort n
no_definition scoping sort n m means none s there here keyword named_is d = none there (found_is scoping sort n (Some m) s there means here named_is) d

pub one_definition : (scoping : Scoping) (sort : Defined) (marks : List Bool) (n m target : ℕ) (s : Statement) → HasNumber scoping n s → is_of scoping (naming sort) n ≡ true →
    Means scoping n (Some m) (named scoping.texts sort) → (target ≡ m) × IsMarked marks m → IsDefined scoping sort m →
    NamesOne scoping sort marks n (record { reference = n; target = target })
one_definition scoping sort marks n m target s number keyword means found defined =
    let at = located_there scoping n s number in
    record {
      statement = at.0;
      there = defined.definition;
      is = at.1;
      keyword = sym (of_keyword scoping (naming sort) n at.0 at.1) ∙ keyword;
      means = sym (ap (option_and_then (named scoping.texts sort)) at.1) ∙ sym means ∙ defined.is;
      is_there = ap (slice_get scoping.located) found.0 ∙ defined.is;
      marked = subst (IsMarked marks) (sym found.0) found.1;
      reference = refl;
    }
