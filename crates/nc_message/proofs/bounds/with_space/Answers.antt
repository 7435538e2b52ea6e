use Rattle.std.proofs.Common.{◌≡◌, ◌∙◌, sym, ap, Some, None, cond}
use Rattle.std.specs.BTreeMap.{get}
use Rattle.std.specs.Ordering.{nat_cmp}
use Rattle.std.specs.Cmp.Lexicographic.{slice_cmp}
use Rattle.std.proofs.lemmas.Map.Text.{is_eq-slice_cmp}
use Rattle.nc_names.specs.Same.{is_same_text}
use Rattle.nc_names.specs.Bindings.{space_of}
use Rattle.nc_message.proofs.Looking.{bound_before, bound_now, none_of}
use Rattle.nc_message.proofs.bounds.with_space.Goals as goal

pub returns-then-contains_key : goal.returns-then-contains_key
returns-then-contains_key c = λ own table other.
    table other ∙ bound_before c.args.prefix c.args.space own (get (slice_cmp nat_cmp) c.args.spaces c.args.prefix)
    (sym (table c.args.prefix)) (sym c.contains_key.ensures ∙ c.if-contains_key.true) other

pub returns : goal.returns
returns c = λ own table other.
    let none : space_of c.args.prefix own ≡ None =
    sym (table c.args.prefix)
    ∙ none_of (get (slice_cmp nat_cmp) c.args.spaces c.args.prefix)
    (sym c.contains_key.ensures ∙ c.if-contains_key.false) in
    c.in_ok-insert.ensures.updates.0 other
    ∙ ap (λ t. cond t (Some c.args.space) (get (slice_cmp nat_cmp) c.args.spaces other))
    (is_eq-slice_cmp c.args.prefix other)
    ∙ ap (λ o. cond (is_same_text c.args.prefix other) (Some c.args.space) o) (table other)
    ∙ sym (bound_now c.args.prefix c.args.space own none other)
