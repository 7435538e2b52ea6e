-- The statements of modules, after those of ietf-netconf-acm, are read in one way.
use Rattle.std.proofs.Common.{◌≡◌, ℕ, List, ◌∷◌, sym, ◌∙◌}
use Rattle.std.specs.Str.{chars}
use Rattle.nc_yang_words.proofs.Exact.{one_tree}
use Rattle.nc_yang_words.specs.declared.statement.Statement.{Statement}
use Rattle.nc_yang_statements.specs.declared.fault.Fault.{Fault}
use Rattle.nc_yang.specs.Texts.{IsUnread}
use Rattle.nc_yang.specs.declared.text.ModuleText.{ModuleText}
use Rattle.nc_yang.proofs.OneWay.{read_one_way, read_or_faulty}
use Rattle.nc_yang.specs.Access.{HaveStatements, access_yang}

pub have_one_way : (modules : List ModuleText) (one other : List Statement) → HaveStatements modules one → HaveStatements modules other → one ≡ other
have_one_way modules one other a b =
    let first : a.access ≡ b.access = one_tree (chars access_yang) a.access b.access a.spells b.spells in
    let rest : a.roots ≡ b.roots = read_one_way modules a.roots b.roots a.read b.read in
    a.are ∙ (λ i. first i ∷ rest i) ∙ sym b.are

pub have_or_faulty : (modules : List ModuleText) (texts : List Statement) (file : ℕ) (fault : Fault) → HaveStatements modules texts → IsUnread modules file fault → ⊥
have_or_faulty modules texts file fault has unread = read_or_faulty modules has.roots file fault has.read unread
