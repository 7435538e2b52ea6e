use Rattle.std.proofs.Common.{sym, ◌∙◌}
use Rattle.nc_yang_leafs.proofs.firsts.share_names.Goals as goal

pub returns : goal.returns
returns g c = λ e. record {
  bases = c.in-Some.bases.now;
  others = c.in-Some-bases_of.others.now;
  first_is = c.in-Some.ensures;
  own_is = c.in-Some-bases_of.ensures;
  alike = c.are_alike.ensures e;
  unmarked = sym c.is_marked.ensures ∙ c.if-is_marked.false;
}
