-- A text is read in one way.
use Rattle.std.proofs.Common.{◌≡◌, ◌<◌, ◌≤◌, ℕ, zero, suc, true, false, List, [], ◌∷◌, length, slice_get, Some, None, refl, subst, arith}
use Rattle.std.specs.Str.{chars}
use Rattle.nc_yang_words.proofs.Exact.{never_both, one_tree}
use Rattle.nc_yang_words.specs.declared.statement.Statement.{Statement}
use Rattle.nc_yang_statements.specs.declared.fault.Fault.{Fault}
use Rattle.nc_yang.specs.TextLaws.{ReadOneWay, ReadOrFaulty}
use Rattle.nc_yang.specs.Texts.{AreEachRead, AreRead, HasNoStatements, IsUnread, Spells, bad_words, empty, long, many, not_utf8}
use Rattle.nc_yang.specs.declared.text.ModuleText.{ModuleText}

has_none : (text : ModuleText) (root : Statement) (fault : Fault) → Spells text root → HasNoStatements text fault → ⊥
has_none text root _ is (not_utf8 e) = (let utf8 = is.utf8 in absurd (cc))
has_none text root _ is (bad_words line e fault) = never_both (chars text.bytes) root line is.spells fault

none_at : (texts : List ModuleText) (roots : List Statement) (file : ℕ) (text : ModuleText) (fault : Fault) →
    AreEachRead texts roots → slice_get texts file ≡ Some text → HasNoStatements text fault → ⊥
none_at [] roots file text fault each there has = absurd (cc)
none_at (t ∷ ts) [] file text fault each there has = each
none_at (t ∷ ts) (r ∷ rs) zero text fault each there has =
    has_none t r fault each.0 (subst (λ x. HasNoStatements x fault) (let e : text ≡ t = cc in e) has)
none_at (t ∷ ts) (r ∷ rs) (suc file) text fault each there has = none_at ts rs file text fault each.1 there has

pub read_or_faulty : ReadOrFaulty
read_or_faulty texts roots _ _ read (many more) = let few = read.few in absurd (omega (arith, few, more))
read_or_faulty texts roots _ _ read (long file first) = let short = read.short in absurd (cc)
read_or_faulty texts roots _ _ read (empty file text fault there has) = none_at texts roots file text fault read.each there has

same_each : (texts : List ModuleText) (roots others : List Statement) → AreEachRead texts roots → AreEachRead texts others → roots ≡ others
same_each [] [] [] one two = refl
same_each [] [] (o ∷ os) one two = absurd two
same_each [] (r ∷ rs) others one two = absurd one
same_each (t ∷ ts) [] others one two = absurd one
same_each (t ∷ ts) (r ∷ rs) [] one two = absurd two
same_each (t ∷ ts) (r ∷ rs) (o ∷ os) one two =
    let first : r ≡ o = one_tree (chars t.bytes) r o one.0.spells two.0.spells in
    let rest : rs ≡ os = same_each ts rs os one.1 two.1 in cc

pub read_one_way : ReadOneWay
read_one_way texts roots others one two = same_each texts roots others one.each two.each
