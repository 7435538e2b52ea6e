-- Texts one after another.
use Rattle.std.proofs.Common.{◌≡◌, ◌<◌, ◌+◌, ◌++◌, ℕ, List, [], ◌∷◌, length, map, take, drop, Some, None, slice_get, refl, sym, ap, ◌∙◌, append_assoc}
use Rattle.std.proofs.lemmas.List.{length-append, map-append}
use Rattle.nc_names.specs.declared.name.Module.{Module}
use Rattle.nc_schema.specs.Tables.{Tables, no_tables}
use Rattle.nc_schema.specs.declared.node.Node.{Node}
use Rattle.nc_yang_words.specs.declared.statement.Statement.{Statement}
use Rattle.nc_yang_statements.specs.Rules.{first}
use Rattle.nc_yang_scopes.specs.Prefixes.{namespace_at, namespace_in}
use Rattle.nc_yang_scopes.proofs.Lists.{take_next}
use Rattle.nc_yang_nodes.specs.Roles.{FeatureTest}
use Rattle.nc_yang_nodes.proofs.ListLemmas.{drop_next, got}
use Rattle.nc_yang_data.specs.Modules.{module_of, modules_from}

-- the namespace of one text more
pub space_more : (texts : List Statement) (text : ℕ) (before : List (List ℕ)) (space : List ℕ) → text < length texts →
    before ≡ map namespace_in (take text texts) → space ≡ namespace_at texts text →
    before ++ space ∷ [] ≡ map namespace_in (take (text + 1) texts)
space_more texts text before space within e f =
    let s = got texts text within in
    rw (e, f, s.1, take_next texts text s.0 s.1) (sym (map-append namespace_in (take text texts) (s.0 ∷ [])))

-- the module of one text more
pub module_more : (on : FeatureTest) (texts : List Statement) (text : ℕ) (whole before now : List Module) (root : Statement) →
    slice_get texts text ≡ Some root → now ≡ before ++ module_of on text root ∷ [] →
    whole ≡ before ++ modules_from on text (drop text texts) → whole ≡ now ++ modules_from on (text + 1) (drop (text + 1) texts)
module_more on texts text whole before now root is new old =
    old ∙ ap (λ roots. before ++ modules_from on text roots) (drop_next texts text root is)
    ∙ sym (append_assoc before (module_of on text root ∷ []) (modules_from on (text + 1) (drop (text + 1) texts)))
    ∙ ap (λ ms. ms ++ modules_from on (text + 1) (drop (text + 1) texts)) (sym new)

longer : {A : Type 0} (xs : List A) (x : A) → length (xs ++ x ∷ []) ≡ length xs + 1
longer xs x = simp length-append

pub one_longer : {A : Type 0} (before : List A) (x : A) (now : List A) → now ≡ before ++ x ∷ [] → length now ≡ length before + 1
one_longer before x now e = ap length e ∙ longer before x

-- the other tables stay
pub others_kept : (start before now : Tables) (ms : List Module) → now ≡ record before { modules = ms } → before ≡ record start { modules = before.modules } →
    now ≡ record start { modules = now.modules }
others_kept start before now ms e f =
    e ∙ ap (λ (t : Tables). record t { modules = ms }) f ∙ ap (λ (list : List Module). record start { modules = list }) (sym (ap (λ (t : Tables). t.modules) e))

pub others_empty : (before now : Tables) (ns : List Node) → now ≡ record before { nodes = ns } → before ≡ record no_tables { nodes = before.nodes } →
    now ≡ record no_tables { nodes = now.nodes }
others_empty before now ns e f =
    e ∙ ap (λ (t : Tables). record t { nodes = ns }) f ∙ ap (λ (list : List Node). record no_tables { nodes = list }) (sym (ap (λ (t : Tables). t.nodes) e))

-- without a first there is none
pub none_first : {A : Type 0} (xs : List A) → first xs ≡ None → xs ≡ []
none_first [] e = refl
none_first (x ∷ xs) e = absurd (cc)
