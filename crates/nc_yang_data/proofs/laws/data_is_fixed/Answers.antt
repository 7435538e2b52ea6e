use Rattle.nc_yang_nodes.proofs.Alike.{plans_alike}
use Rattle.nc_yang_data.proofs.AlikeLemmas.{faults_alike, tables_alike}
use Rattle.nc_yang_data.proofs.laws.data_is_fixed.Goals as goal

pub returns : goal.returns
returns c = λ scoping on one other is also.
    let same = plans_alike scoping on one other is also in
    (tables_alike scoping on one other same, faults_alike scoping on one other same)
