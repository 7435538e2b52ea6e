use Rattle.std.proofs.Common.{sym, subst}
use Rattle.nc_yang_leafs.specs.Marks.{AreMarks}
use Rattle.nc_yang_leafs.proofs.FirstLemmas.{are_firsts}
use Rattle.nc_yang_leafs.proofs.GiveLemmas.{if_ok_on}
use Rattle.nc_yang_leafs.proofs.typing.types_of.Goals as goal

pub all_types-requires-clause-firsts : goal.all_types-requires-clause-firsts
all_types-requires-clause-firsts g c =
    are_firsts (g.D.Derives.derived c.args.identities.now) (g.D.Derives.located c.args.identities.now) c.args.scopes.now.located c.args.meanings.now.plans c.as_slice-marked.result.now
    c.in_ok-firsts.firsts c.as_slice-shared.result.now c.requires.located c.as_slice-shared.ensures c.in_ok-firsts.ensures

pub returns-clause-ok : goal.returns-clause-ok
returns-clause-ok g c =
    if_ok_on c.all_types.result (λ it have. λ on are whole. have on (record {
      are = are;
      marked = subst (AreMarks c.args.meanings.now) (sym c.as_slice-marked.ensures) c.in_ok-marks.ensures;
      whole = whole;
    })) c.all_types.ensures.ok
