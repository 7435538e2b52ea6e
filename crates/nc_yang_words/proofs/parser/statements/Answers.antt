use Rattle.std.specs.Str.{chars}
use Rattle.nc_yang_words.proofs.Exact.{spells_of, fault_of}
use Rattle.nc_yang_words.proofs.parser.statements.Goals as goal

pub returns-clause-spells : goal.returns-clause-spells
returns-clause-spells c = spells_of c.read_text.result (chars c.args.text.now) c.read_text.ensures

pub returns-clause-fault : goal.returns-clause-fault
returns-clause-fault c = fault_of c.read_text.result (chars c.args.text.now) c.read_text.ensures
