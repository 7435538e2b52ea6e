use Rattle.std.proofs.Common.{◌≡◌, ◌∙◌, ◌<◌, ◌≤◌, ◌^◌, ap, sym, subst, ℕ, List, length, arith}
use Rattle.std.specs.List.{flat_map}
use Rattle.nc_device.specs.Header.{line}
use Rattle.nc_device.proofs.Headers.{all_short, many, put_together}
use Rattle.nc_device.proofs.header.header_of.Goals as goal

pub returns : goal.returns
returns c =
    let text : c.as_slice.result.now ≡ flat_map line c.in_ok-names.names = c.as_slice.ensures ∙ c.in_ok-text.ensures in
    record {
      names = c.in_ok-names.names;
      in_order = c.in_ok-names.ensures;
      is = record {
        is = put_together c.args.modules.now c.as_slice-texts.result.now (flat_map line c.in_ok-names.names) c.as_slice.result.now c.new-header.result c.push_count.new.header c.push_texts.new.header c.push_lines.new.header
            c.new-header.ensures c.in_ok-push_count.ensures c.in_ok-push_texts.ensures c.in_ok-push_lines.ensures.written c.as_slice-texts.ensures text;
        few = let long = many c.args.modules.now in let few = c.requires.few in omega (arith, long, few);
        small = all_short c.args.modules.now c.requires.small;
        fits = subst (λ (l : List ℕ). length l < 2 ^ 64) text c.in_ok-push_lines.ensures.fits;
      };
    }
