use Rattle.std.proofs.Common.{◌∙◌, ap}
use Rattle.nc_schema.specs.Record.{record_body}
use Rattle.nc_store.specs.Keeping.{Storing}
use Rattle.nc_store.proofs.Settling.{way_seen}
use Rattle.nc_store.proofs.Spelling.{written_record}
use Rattle.nc_store.proofs.store.StoreKeeper.prepare.Goals as goal

pub returns : goal.returns
returns g c = record {
  rows_is = c.in_ok-rows.ensures;
  record_is = record {
    spelled = written_record c.args.self.now.setup.tables c.args.new.now c.requires.valid.0 c.requires.valid.1 c.requires.small c.in_ok-body.ensures.texts;
    way_is = way_seen c.args.self.now.live c.live.result c.args.self.now.setup.header c.as_slice.result.now (record_body c.args.new.now) c.as_slice-2.result.now c.in_ok-way.way
        c.live.ensures (c.as_slice.ensures ∙ ap (λ (s : Storing g.row.D.Denot). s.setup.header) c.self.view_is) (c.as_slice-2.ensures ∙ c.in_ok-body.ensures.body) c.in_ok-way.ensures;
  };
}
