use Rattle.nc_yang.proofs.OneWay.{read_or_faulty, read_one_way}
use Rattle.nc_yang.proofs.text_laws.read_one_way.Goals as goal

pub returns-clause-whole : goal.returns-clause-whole
returns-clause-whole c = read_or_faulty

pub returns-clause-one : goal.returns-clause-one
returns-clause-one c = read_one_way
