use Rattle.std.proofs.Common.{◌≡◌, true, not, cond, subst}
use Rattle.std.specs.BTreeSet.{contains}
use Rattle.std.specs.Ordering.{is_eq}
use Rattle.nc_names.specs.declared.name.QName.{QName}
use Rattle.nc_message_read.proofs.Sets.{name_added, name_cmp}
use Rattle.nc_message_read.proofs.apart.add_name.Goals as goal

pub returns : goal.returns
returns c =
    let old = c.args.names.now in
    let new = c.insert.new.self in
    let added = c.in_ok-added.added in
    name_added c.args.marked.now old new c.args.attr.now.name added
    (subst (λ (n : QName). added ≡ not (contains name_cmp old n)) c.in_ok-key.ensures c.in_ok-added.ensures.added)
    (subst (λ (n : QName). (other : QName) → contains name_cmp new other ≡ cond (is_eq (name_cmp n other)) true (contains name_cmp old other))
    c.in_ok-key.ensures c.in_ok-added.ensures.updates.0)
