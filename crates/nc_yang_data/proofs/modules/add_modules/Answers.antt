use Rattle.std.proofs.Common.{◌++◌, ◌∷◌, [], ap, arith}
use Rattle.nc_schema.specs.Tables.{Tables}
use Rattle.nc_yang_nodes.proofs.ListLemmas.{got}
use Rattle.nc_yang_nodes.specs.FeaturesOn.{is_on}
use Rattle.nc_yang_data.specs.Modules.{module_of, modules_from}
use Rattle.nc_yang_data.proofs.TextLemmas.{module_more, one_longer, others_kept}
use Rattle.nc_yang_data.proofs.modules.add_modules.Goals as goal

pub loop-text-preserved : goal.loop-text-preserved
loop-text-preserved c =
    let less = c.loop-text-test.true in
    let size = c.texts-text-end.ensures in
    let s = got c.args.scopes.now.texts c.loop-text.text (omega (arith, less, size)) in
    let added = c.in_ok-add_module.ensures s.0 s.1 in
    let grown = ap (λ (t : Tables). t.modules) added in
    let longer = one_longer c.loop-text.schema.modules (module_of (is_on c.args.features.now) c.loop-text.text s.0) c.add_module.new.schema.modules grown in
    let count = c.loop-text.invariant.count in
    record {
      count = omega (arith, longer, count);
      others = others_kept c.args.schema.now c.loop-text.schema c.add_module.new.schema
          (c.loop-text.schema.modules ++ module_of (is_on c.args.features.now) c.loop-text.text s.0 ∷ []) added c.loop-text.invariant.others;
      left = module_more (is_on c.args.features.now) c.args.scopes.now.texts c.loop-text.text
          (c.args.schema.now.modules ++ modules_from (is_on c.args.features.now) 0 c.args.scopes.now.texts) c.loop-text.schema.modules
          c.add_module.new.schema.modules s.0 s.1 grown c.loop-text.invariant.left;
    }
