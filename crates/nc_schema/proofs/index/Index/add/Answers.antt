use Rattle.std.proofs.Common.{rules, ◌≡◌, ◌<◌, ◌++◌, ◌∷◌, [], Some, length, ap, sym, ◌∙◌}
use Rattle.std.proofs.lemmas.Option.{slice_get-get_or}
use Rattle.nc_names.specs.Same.{is_same_name}
use Rattle.nc_schema.specs.inner.Index.{number_of, with_entry}
use Rattle.nc_schema.specs.declared.index.Index.{Index}
use Rattle.nc_schema.proofs.IndexLemmas.{index_at_top, index_below, knows_nothing, above_is}
use Rattle.nc_schema.proofs.index.Index.add.Goals as goal
use Rattle.nc_schema.proofs.index.Index.add.Goals.{in-None+in_ok-enter-in-None, in-Some+in_ok-enter-in-Some}

pub returns : goal.returns
returns c = λ nodes is.
    let old = c.args.self.now in
    let node = c.args.node.now in
    let count : c.len-number.result ≡ length nodes = search (rules, is.many) in
    let empty = knows_nothing c.new.result c.new.ensures.empty in
    elim c.match-node.branch [
      | in-None+in_ok-enter-in-None w ↦
          index_at_top nodes node old _ c.new.result empty is w.in-None.is
          (λ name. ap (λ (i : Index). number_of i.top name) w.self-is ∙ w.in_ok-enter-in-None.ensures name ∙ ap (with_entry (number_of old.top name) (is_same_name node.name name)) count)
          (c.in_ok-push.ensures.items ∙ ap (λ (i : Index). i.below.items ++ c.new.result ∷ []) w.self-is)
      | in-Some+in_ok-enter-in-Some w ↦
          let above = w.in-Some.above in
          let before = w.index_mut.result.now in
          let within : above < length old.below.items = above_is node.parent above (length old.below.items) w.in-Some.is c.requires.above in
          index_below nodes node old _ c.new.result empty is above before w.enter-in-Some.new.names w.in-Some.is
          (slice_get-get_or old.below.items above before within ∙ ap Some (sym w.index_mut.ensures.value))
          (λ name. w.in_ok-enter-in-Some.ensures name ∙ ap (with_entry (number_of before name) (is_same_name node.name name)) count)
          (ap (λ (i : Index). i.top) w.self-is)
          (c.in_ok-push.ensures.items ∙ ap (λ (i : Index). i.below.items ++ c.new.result ∷ []) w.self-is)
    ]
