-- A name, and what stands after it.
use Rattle.std.proofs.Common.{◌≡◌, ◌-◌, ◌∙◌, None, Some, length, sym, ap, subst, arith}
use Rattle.std.specs.Option.{option_copied}
use Rattle.nc_path_places.specs.inner.Counted.{reading_of}
use Rattle.nc_path_places.specs.inner.LeafrefNames.{far_way, goes_down}
use Rattle.nc_path_places.specs.inner.Leafrefs.{Down}
use Rattle.nc_paths.specs.Parts.{IsNext}
use Rattle.nc_path_places.proofs.HereLemmas.{halts_left}
use Rattle.nc_path_places.proofs.LeafrefPlaces.{no_way_halts, short_halts, slash_halts, step_leads, step_less}
use Rattle.nc_path_places.proofs.leafref_place.name_step.Goals as goal

pub returns-in_default-clause-here : goal.returns-in_default-clause-here
returns-in_default-clause-here c =
    let ways = c.args.ways.now in
    let s = reading_of ways.names in
    let text = c.args.text.now in
    let most = length ways.names.schema.now.nodes in
    let far : c.far_way-far.result ≡ far_way s ways.own.now ways.marks c.args.above text most =
    c.far_way-far.ensures ∙ ap (λ t. far_way s ways.own.now ways.marks c.args.above t most) c.as_bytes.ensures.value in
    halts_left (Down s ways.own.now c.args.above) text (length text - far_way s ways.own.now ways.marks c.args.above text most) c.saturating_sub.result (omega (arith, far))
    (no_way_halts s ways.own.now ways.marks c.requires.ways.marks c.args.above text c.next_part.result.0.now (option_copied c.next_part.result.1) c.next_part.ensures.next
    c.requires.goes (sym c.in_ok-number.ensures ∙ c.in_default.is))

pub returns-in_default-more-clause-here : goal.returns-in_default-more-clause-here
returns-in_default-more-clause-here c =
    let ways = c.args.ways.now in
    let text = c.args.text.now in
    let part = c.next_part.result.0.now in
    let next : IsNext text part None = subst (λ o. IsNext text part (option_copied o)) c.in_default-more.is c.next_part.ensures.next in
    short_halts (reading_of ways.names) ways.own.now ways.marks c.requires.ways.marks c.args.above text part None next c.in-Some.number (sym c.in_ok-number.ensures ∙ c.in-Some.is) next.1

pub returns-then-goes_down-clause-ok : goal.returns-then-goes_down-clause-ok
returns-then-goes_down-clause-ok c =
    let ways = c.args.ways.now in
    let s = reading_of ways.names in
    let text = c.args.text.now in
    let part = c.next_part.result.0.now in
    let rest = c.in-Some-more.rest.now in
    let next : IsNext text part (Some rest) = subst (λ o. IsNext text part (option_copied o)) c.in-Some-more.is c.next_part.ensures.next in
    let found = sym c.in_ok-number.ensures ∙ c.in-Some.is in
    record {
      leads = step_leads s ways.own.now ways.marks c.requires.ways.marks c.args.above text part (Some rest) next c.in-Some.number found rest next;
      goes = sym (c.goes_down.ensures ∙ ap (λ m. goes_down m (Some c.in-Some.number)) c.as_slice.ensures) ∙ c.if-goes_down.true;
      less = step_less s ways.own.now ways.marks c.requires.ways.marks c.args.above text part (Some rest) next c.in-Some.number found rest next;
    }

pub returns-else-goes_down-clause-here : goal.returns-else-goes_down-clause-here
returns-else-goes_down-clause-here c =
    let ways = c.args.ways.now in
    let s = reading_of ways.names in
    let text = c.args.text.now in
    let part = c.next_part.result.0.now in
    let rest = c.in-Some-more.rest.now in
    let next : IsNext text part (Some rest) = subst (λ o. IsNext text part (option_copied o)) c.in-Some-more.is c.next_part.ensures.next in
    let found = sym c.in_ok-number.ensures ∙ c.in-Some.is in
    halts_left (Down s ways.own.now c.args.above) text (length text - length part) c.saturating_sub-else-goes_down.result c.saturating_sub-else-goes_down.ensures
    (slash_halts s ways.own.now ways.marks c.requires.ways.marks c.args.above text part (Some rest) next c.in-Some.number found rest next
    (sym (c.goes_down.ensures ∙ ap (λ m. goes_down m (Some c.in-Some.number)) c.as_slice.ensures) ∙ c.if-goes_down.false))
