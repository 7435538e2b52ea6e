use Rattle.std.proofs.Common.{List, Bor, sym, subst}
use Rattle.std.specs.Prelude.{map}
use Rattle.nc_message.specs.declared.tree.Elem.{Elem}
use Rattle.nc_filter.specs.inner.Names.{AreNamed}
use Rattle.nc_filter.proofs.NameLemmas.{named_is, named_none}
use Rattle.nc_filter.proofs.names.Level.named.Goals as goal

pub returns-in_ok-named_by-in-Some : goal.returns-in_ok-named_by-in-Some
returns-in_ok-named_by-in-Some c = λ names.
    named_is c.args.schema.now c.args.number c.args.self.now.elems c.args.self.now.items c.in_ok-named_by-in-Some.field-0 c.in-Some.node.now c.in-Some.ensures c.in_ok-named_by-in-Some.ensures names

pub returns-in-None : goal.returns-in-None
returns-in-None c = λ names.
    subst (λ (elems : List (Bor Elem)). AreNamed c.args.schema.now c.args.number (map (λ elem. elem.now) c.args.self.now.elems) (map (λ elem. elem.now) elems)) (sym c.new.ensures)
    (named_none c.args.schema.now c.args.number c.args.self.now.elems c.in-None.ensures)
