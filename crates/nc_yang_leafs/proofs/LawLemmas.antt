-- What follows from the definitions.
use Rattle.std.proofs.Common.{◌≡◌, ◌<◌, ◌≤◌, ◌&&◌, cond, ℕ, zero, suc, Bool, true, false, List, [], ◌∷◌, length, map, get_or, refl, sym, ap, ◌∙◌, subst, arith}
use Rattle.std.specs.Prelude.{Option, Some, None, IsTrue}
use Rattle.std.specs.List.{All}
use Rattle.nc_schema.specs.declared.node.Kind.{Kind}
use Rattle.nc_schema.specs.declared.node.Kind.TheVariants.{Container, Leaf, LeafList, List as ListKind}
use Rattle.nc_schema.specs.Kinds.{is_leaf}
use Rattle.nc_schema.specs.Proper.{HasItsDefaults}
use Rattle.nc_schema.specs.Tables.{Tables}
use Rattle.nc_schema.specs.Values.{IsCanonical, canonical}
use Rattle.nc_yang_words.specs.declared.statement.Statement.{Statement}
use Rattle.nc_yang_statements.specs.Statements.{name}
use Rattle.nc_yang_statements.specs.declared.keyword.Keyword.TheVariants.{Default}
use Rattle.nc_yang_scopes.specs.Prefixes.{prefixes_in}
use Rattle.nc_yang_scopes.specs.Scopes.{Located, Scoping}
use Rattle.nc_yang_scopes.specs.declared.naming.TextFault.{TextFault}
use Rattle.nc_yang_nodes.specs.declared.planned.Plan.{Plan}
use Rattle.nc_yang_nodes.specs.Expansion.{list_of}
use Rattle.nc_yang_scopes.specs.Parts.{part_of}
use Rattle.nc_yang_leafs.specs.Defaults.{AreDefaultsOf, BreaksDefault, HasDefaults}
use Rattle.nc_yang_leafs.specs.Readings.{has_whole, is_other_base, value_of}
use Rattle.nc_yang_leafs.specs.Sources.{AreSources, Defined, brought, nothing, own, own_of}
use Rattle.nc_yang_leafs.proofs.ListLemmas.{map_some_same}
use Rattle.nc_yang_leafs.proofs.NodeLemmas.{good_not_bad}
use Rattle.nc_yang_leafs.proofs.SourceLemmas.{one_sources}

pub keep_rules : (scoping : Scoping) (plan : Plan) (typed tables : Tables) (fault : TextFault) → HasDefaults scoping plan typed tables → BreaksDefault scoping plan typed fault → ⊥
keep_rules scoping plan typed tables fault good bad = let h = good.nodes bad.at bad.is in good_not_bad scoping.texts typed bad.at h.values bad.default h.are bad.breaks

pub are_fixed : (texts : List Statement) (tables : Tables) (d : Defined) (one other : List (List ℕ)) → AreDefaultsOf texts tables d one → AreDefaultsOf texts tables d other → one ≡ other
are_fixed texts tables d one other a b =
    let same : a.sources ≡ b.sources = one_sources texts d a.sources b.sources a.are b.are in
    map_some_same one other (sym a.read.read ∙ ap (map (value_of texts tables d.number)) same ∙ b.read.read)

each_read : {A : Type 0} (f : A → Option (List ℕ)) (P : List ℕ → Type 0) (values : List (List ℕ)) (sources : List A) → map f sources ≡ map Some values → ((s : A) (v : List ℕ) → f s ≡ Some v → P v) →
    (k : ℕ) (d : List ℕ) → k < length values → P (get_or values k d)
each_read f P [] ss e found k d less = absurd (omega arith)
each_read f P (v ∷ vs) [] e found k d less = absurd (cc)
each_read f P (v ∷ vs) (s ∷ ss) e found zero d less = found s v (cc)
each_read f P (v ∷ vs) (s ∷ ss) e found (suc k) d less = each_read f P vs ss (cc) found k d (omega arith)

if_some : (b : Bool) (o : Option (List ℕ)) (v : List ℕ) → cond b None o ≡ Some v → o ≡ Some v
if_some true o v e = absurd (cc)
if_some false o v e = e

pub are_canonical : (texts : List Statement) (tables : Tables) (d : Defined) (values : List (List ℕ)) → AreDefaultsOf texts tables d values → All (IsCanonical tables d.number) values
are_canonical texts tables d values a =
    each_read (value_of texts tables d.number) (IsCanonical tables d.number) values a.sources a.read.read (λ s v e.
    (name s.statement, prefixes_in texts s.place.text, if_some (has_whole tables d.number && is_other_base (name s.statement)) (canonical tables d.number (name s.statement) (prefixes_in texts s.place.text)) v e))

same_count : {A : Type 0} (f : A → Option (List ℕ)) (sources : List A) (values : List (List ℕ)) → map f sources ≡ map Some values → length values ≡ length sources
same_count f [] [] e = refl
same_count f [] (v ∷ vs) e = absurd (cc)
same_count f (s ∷ ss) [] e = absurd (cc)
same_count f (s ∷ ss) (v ∷ vs) e = ap suc (same_count f ss vs (cc))

list_short : (o : Option Located) → length (list_of o) ≤ 1
list_short None = omega arith
list_short (Some l) = omega arith

own_short : (kind_of : Kind) (l : Located) → IsTrue (is_leaf kind_of) → length (own_of kind_of l) ≤ 1
own_short Leaf l is = list_short (part_of Default l)
own_short LeafList l is = absurd (cc)
own_short ListKind l is = absurd (cc)
own_short (Container presence) l is = absurd (cc)

sources_short : (texts : List Statement) (d : Defined) (sources : List Located) → AreSources texts d sources → IsTrue (is_leaf d.node.kind) → length sources ≤ 1
sources_short texts d _ (own f m e) is = subst (λ z. length z ≤ 1) e (own_short d.node.kind d.statement is)
sources_short texts d _ (brought x none b) is = omega arith
sources_short texts d _ (nothing none lost) is = omega arith

pub has_one : (texts : List Statement) (tables : Tables) (d : Defined) (values : List (List ℕ)) → AreDefaultsOf texts tables d values → HasItsDefaults (record d.node { defaults = values })
has_one texts tables d values a = λ is.
    let count = same_count (value_of texts tables d.number) a.sources values a.read.read in
    let short = sources_short texts d a.sources a.are is in
    omega (arith, count, short)
