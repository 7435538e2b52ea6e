use Rattle.std.proofs.Common.{◌≡◌, ◌<◌, ◌∷◌, [], suc, length, true, Some, subst, sym, arith}
use Rattle.nc_names.specs.Signs.{is_white}
use Rattle.nc_message.specs.Names.{begins_name}
use Rattle.nc_message.specs.Pieces.{first_passes, attribute, attributes}
use Rattle.nc_message_read.proofs.Goes.{Goes, goes_more, attributes_more}
use Rattle.nc_message_read.proofs.reader.Reader.attributes.Goals as goal

pub loop-attrs-preserved : goal.loop-attrs-preserved
loop-attrs-preserved c =
    let begin = c.args.self.now.rest.now in
    let text = c.loop-attrs.self.rest.now in
    let left = c.white.new.self.rest.now in
    let next = c.attribute.new.self.rest.now in
    let a = c.in-Some.attr in
    let read : attribute left ≡ Some (a, next) = c.in-Some.ensures.read in
    let shorter = c.in-Some.ensures.within in
    let named : first_passes begins_name left ≡ true = cc (c.is_at_name.ensures, c.if-not-is_at_name.false) in
    let parted : first_passes is_white text ≡ true = cc (c.is_at_white-parted.ensures, c.if-not-parted.false) in
    let less : length next < length text = omega (arith, shorter, c.white.ensures.within) in
    let g = goes_more attributes (suc (length begin)) begin c.loop-attrs.attrs (a ∷ []) text next c.loop-attrs.invariant.0
    (λ n fits. attributes_more text left next a c.white.ensures.read named parted read n) less in (
      subst (λ l. Goes attributes (suc (length begin)) begin l next) (sym c.in_ok-push.ensures.ok) g,
      omega (arith, less, c.loop-attrs.invariant.1),
    )
