use Rattle.std.proofs.Common.{arith}
use Rattle.nc_record.proofs.Written.{all_texts, short_here, texts_here, written_here}
use Rattle.nc_record.proofs.body.push_rows.Goals as goal

pub push_row-requires : goal.push_row-requires
push_row-requires c = short_here c.args.rows.now c.loop-row.row-index c.row-item.result c.loop-row-test.true c.row-item.is c.requires

pub loop-row-preserved : goal.loop-row-preserved
loop-row-preserved c = record {
  written = written_here c.args.rows.now c.loop-row.row-index c.row-item.result c.loop-row-test.true c.row-item.is c.args.body.now c.loop-row.body c.push_row.new.body c.loop-row.invariant.written c.in_ok-push_row.ensures.written;
  texts = texts_here c.args.rows.now c.loop-row.row-index c.row-item.result c.loop-row-test.true c.row-item.is c.loop-row.invariant.texts c.push_row.ensures.text;
}

pub returns-clause-texts : goal.returns-clause-texts
returns-clause-texts c = all_texts c.args.rows.now c.loop-row.row-index c.loop-row-test.false c.loop-row.invariant.texts
