use Rattle.std.proofs.Common.{rules, ◌≡◌, ◌∙◌, List, ℕ, Ok, ap, subst, sym}
use Rattle.std.proofs.lemmas.Result.{err_from_is_err_and}
use Rattle.std.specs.Io.KnownBytes.{prepend_known}
use Rattle.nc_peer.specs.Faults.{counts}
use Rattle.nc_peer.specs.inner.Underway.{ReadsNames}
use Rattle.nc_peer.proofs.LineLemmas.{taken_more, stopped, unread, whole}
use Rattle.nc_peer.proofs.reading.read_names.Goals as goal

pub returns-in-Err : goal.returns-in-Err
returns-in-Err g c =
    let left = g.S.Source.left in
    let old = c.args.source.now in
    let old_told = counts (g.S.Source.ends old) (g.S.Source.faults old) in
    let new = c.next_byte.new.source in
    let new_told = counts (g.S.Source.ends new) (g.S.Source.faults new) in
    let bytes = c.loop-line.line.bytes in
    let byte = c.in_ok-byte.byte in
    let taken =
    taken_more (left old) (left c.loop-line.source)
    (left new) bytes byte c.loop-line.invariant.taken c.in_ok-byte.ensures.bytes in
    record {
      names = stopped (left old) (left new) byte c.take.new.self.names c.take.new.self.word old_told new_told
          c.in-Err.fault taken c.loop-line.invariant.line (c.in_ok-byte.ensures.same ∙ c.loop-line.invariant.same)
          c.in-Err.ensures.takes;
    }

pub returns-in_err-byte : goal.returns-in_err-byte
returns-in_err-byte g c =
    let left = g.S.Source.left in
    let old = c.args.source.now in
    let old_told = counts (g.S.Source.ends old) (g.S.Source.faults old) in
    let between = c.loop-line.source in
    let between_told = counts (g.S.Source.ends between) (g.S.Source.faults between) in
    let new = c.next_byte.new.source in
    let new_told = counts (g.S.Source.ends new) (g.S.Source.faults new) in
    let fault = c.in_err-byte.field-0.0 in
    let p = err_from_is_err_and c.from_residual.result c.from_residual.ensures.1 in
    let taken : left old ≡ prepend_known c.loop-line.line.bytes (left new) =
    c.loop-line.invariant.taken ∙ ap (λ k. prepend_known c.loop-line.line.bytes k) (sym c.in_err-byte.ensures.bytes) in
    rw (p.1, p.2)
    (record {
      names = unread (left old) (left new) old_told between_told new_told fault taken
          c.loop-line.invariant.line c.loop-line.invariant.same c.in_err-byte.ensures.stops;
    })

pub returns-in-Ok-true : goal.returns-in-Ok-true
returns-in-Ok-true g c =
    let left = g.S.Source.left in
    let old = c.args.source.now in
    let old_told = counts (g.S.Source.ends old) (g.S.Source.faults old) in
    let new = c.next_byte.new.source in
    let new_told = counts (g.S.Source.ends new) (g.S.Source.faults new) in
    let byte = c.in_ok-byte.byte in
    let taken =
    taken_more (left old) (left c.loop-line.source)
    (left new) c.loop-line.line.bytes byte c.loop-line.invariant.taken c.in_ok-byte.ensures.bytes in
    let it =
    whole (left old) (left new) c.take.new.self.word byte c.take.new.self.names old_told new_told
    taken c.loop-line.invariant.line (c.in_ok-byte.ensures.same ∙ c.loop-line.invariant.same) c.in-Ok-true.field-0
    (search rules) c.in-Ok-true.ensures.takes in
    record {
      names = subst (λ (ns : List (List ℕ)). ReadsNames (left old) (left new) old_told new_told (Ok ns))
          (sym c.into_names.ensures) it;
    }
