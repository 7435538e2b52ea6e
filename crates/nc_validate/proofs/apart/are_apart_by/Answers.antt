use Rattle.std.proofs.Common.{◌∙◌, ℕ, List, Bor, ap, sym}
use Rattle.std.specs.Prelude.{None}
use Rattle.nc_defaults.specs.Within.{places_in}
use Rattle.nc_validate.specs.inner.Apart.{rise_from}
use Rattle.nc_validate.specs.inner.Tuples.{texts}
use Rattle.nc_validate.proofs.ApartLemmas.{sorted_once}
use Rattle.nc_validate.proofs.apart.are_apart_by.Goals as goal

pub returns : goal.returns
returns c = λ yes.
    let args = c.args in
    sorted_once args.children.now args.leaf (places_in args.config.now args.entries.now) c.in_ok-values.values c.in_order-sorted.result
    c.in_ok-values.ensures c.in_order-sorted.ensures
    (ap (λ (vs : List (Bor (List ℕ))). rise_from None (texts vs)) (sym c.as_slice.ensures) ∙ sym c.rise.ensures ∙ yes)
