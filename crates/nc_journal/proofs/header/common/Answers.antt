use Rattle.std.proofs.Common.{◌≡◌, ℕ, ◌+◌, ◌<◌, ◌≤◌, List, [], length, take, get_or, refl, sym, ◌∙◌, ap, subst, arith}
use Rattle.std.specs.List.{flat_map}
use Rattle.nc_journal.specs.Files.{At}
use Rattle.nc_journal.specs.Header.{counted, IsHeader, HasHeader}
use Rattle.nc_journal.proofs.Looking.{looks_none, looks_then}
use Rattle.nc_journal.proofs.Headers.{header_len, our_count, our_text, their_text, counted_within, counted_once, before-more, length-counted, HasShared, none_shared, more_shared, shared_ends, shared_differs}
use Rattle.nc_journal.proofs.header.common.Goals as goal

pub short_number_of-requires : goal.short_number_of-requires
short_number_of-requires g c = omega (arith, header_len c.requires.ours.0 c.requires.ours.1 c.args.header.now c.requires.ours.2)

pub loop-done-init : goal.loop-done-init
loop-done-init g c = (
  omega arith,
  looks_none g.D.Disk.seen g.D.Disk.may_leave g.D.Disk.moment g.D.Disk.left_since g.met.D.Disk.only_now c.args.disk.now,
  λ ours features is. refl,
  λ file told ours features is theirs count. none_shared ours theirs.modules,
  refl,
)

pub counted_in-text-requires : goal.counted_in-text-requires
counted_in-text-requires g c =
    let inv = c.loop-done.invariant in
    let ours = c.requires.ours.0 in
    let is = c.requires.ours.2 in
    let count = our_count ours c.requires.ours.1 c.args.header.now c.short_number_of.result is (omega arith) c.short_number_of.ensures in
    let within : c.loop-done.done < length ours = omega (arith, c.loop-done-test.true, count) in (
      get_or ours c.loop-done.done [],
      is.small c.loop-done.done [] within,
      our_text ours c.requires.ours.1 c.args.header.now c.loop-done.done c.loop-done.from is within
          (inv.2 ours c.requires.ours.1 is),
    )

pub matches-requires : goal.matches-requires
matches-requires g c =
    let inv = c.loop-done.invariant in
    let ours = c.requires.ours.0 in
    let is = c.requires.ours.2 in
    let count = our_count ours c.requires.ours.1 c.args.header.now c.short_number_of.result is (omega arith) c.short_number_of.ensures in
    let within : c.loop-done.done < length ours = omega (arith, c.loop-done-test.true, count) in
    let text = get_or ours c.loop-done.done [] in
    let on = our_text ours c.requires.ours.1 c.args.header.now c.loop-done.done c.loop-done.from is within
    (inv.2 ours c.requires.ours.1 is) in
    let piece = c.counted_in-text.ensures text (is.small c.loop-done.done [] within) on in
    omega (arith, ap length piece, length-counted text, counted_within c.loop-done.from text c.args.header.now on, c.requires.room)

pub overflow_add-place : goal.overflow_add-place
overflow_add-place g c =
    let inv = c.loop-done.invariant in
    let ours = c.requires.ours.0 in
    let is = c.requires.ours.2 in
    let count = our_count ours c.requires.ours.1 c.args.header.now c.short_number_of.result is (omega arith) c.short_number_of.ensures in
    let within : c.loop-done.done < length ours = omega (arith, c.loop-done-test.true, count) in
    let text = get_or ours c.loop-done.done [] in
    let on = our_text ours c.requires.ours.1 c.args.header.now c.loop-done.done c.loop-done.from is within
    (inv.2 ours c.requires.ours.1 is) in
    let piece = c.counted_in-text.ensures text (is.small c.loop-done.done [] within) on in
    omega (arith, ap length piece, length-counted text, counted_within c.loop-done.from text c.args.header.now on, c.requires.room)

pub overflow_add-from : goal.overflow_add-from
overflow_add-from g c =
    let inv = c.loop-done.invariant in
    let ours = c.requires.ours.0 in
    let is = c.requires.ours.2 in
    let count = our_count ours c.requires.ours.1 c.args.header.now c.short_number_of.result is (omega arith) c.short_number_of.ensures in
    let within : c.loop-done.done < length ours = omega (arith, c.loop-done-test.true, count) in
    let text = get_or ours c.loop-done.done [] in
    let on = our_text ours c.requires.ours.1 c.args.header.now c.loop-done.done c.loop-done.from is within
    (inv.2 ours c.requires.ours.1 is) in
    let piece = c.counted_in-text.ensures text (is.small c.loop-done.done [] within) on in
    omega (arith, ap length piece, length-counted text, counted_within c.loop-done.from text c.args.header.now on, c.requires.room)

pub returns-then-not-branch-clause-differs : goal.returns-then-not-branch-clause-differs
returns-then-not-branch-clause-differs g c = λ file told ours features is theirs count.
    let inv = c.loop-done.invariant in
    let shared = inv.3 file told ours features is theirs count in
    let our_count_is = our_count ours features c.args.header.now c.short_number_of.result is (omega arith) c.short_number_of.ensures in
    let our_within : c.loop-done.done < length ours = omega (arith, c.loop-done-test.true, our_count_is) in
    let their_within : c.loop-done.done < length theirs.modules = omega (arith, c.loop-done-test.true, count) in
    let from_is = inv.2 ours features is in
    let on = our_text ours features c.args.header.now c.loop-done.done c.loop-done.from is our_within from_is in
    let piece = c.counted_in-text.ensures (get_or ours c.loop-done.done []) (is.small c.loop-done.done [] our_within) on in
    let their_from = from_is ∙ ap (λ (l : List (List ℕ)). 4 + length (flat_map counted l)) shared.same in
    let their_on = their_text c.args.place file theirs c.loop-done.done c.loop-done.from their_within their_from in
    shared_differs ours theirs.modules c.loop-done.done shared (λ same.
    c.in_ok-matches.ensures.other c.if-not-branch.true file (inv.1.same ∙ told)
    (subst (λ (l : List ℕ). At (c.args.place + c.loop-done.from) l file)
    (ap (λ (t : List ℕ). counted t) (sym same) ∙ sym piece) their_on))

pub loop-done-preserved : goal.loop-done-preserved
loop-done-preserved g c =
    let inv = c.loop-done.invariant in (
      omega (arith, c.loop-done-test.true),
      looks_then g.D.Disk.seen g.D.Disk.may_leave g.D.Disk.moment g.D.Disk.left_since g.met.D.Disk.only_now c.args.disk.now
          c.loop-done.disk c.matches.new.disk inv.1 c.matches.ensures.only_reads,
      λ ours features is.
          let our_count_is = our_count ours features c.args.header.now c.short_number_of.result is (omega arith) c.short_number_of.ensures in
          let our_within : c.loop-done.done < length ours = omega (arith, c.loop-done-test.true, our_count_is) in
          let on = our_text ours features c.args.header.now c.loop-done.done c.loop-done.from is our_within (inv.2 ours features is) in
          let piece = c.counted_in-text.ensures (get_or ours c.loop-done.done []) (is.small c.loop-done.done [] our_within) on in
          omega (
            arith,
            ap length piece,
            length-counted (get_or ours c.loop-done.done []),
            before-more ours c.loop-done.done our_within,
            inv.2 ours features is,
          ),
      λ file told ours features is theirs count.
          let shared = inv.3 file told ours features is theirs count in
          let our_count_is = our_count ours features c.args.header.now c.short_number_of.result is (omega arith) c.short_number_of.ensures in
          let our_within : c.loop-done.done < length ours = omega (arith, c.loop-done-test.true, our_count_is) in
          let their_within : c.loop-done.done < length theirs.modules = omega (arith, c.loop-done-test.true, count) in
          let from_is = inv.2 ours features is in
          let on = our_text ours features c.args.header.now c.loop-done.done c.loop-done.from is our_within from_is in
          let piece = c.counted_in-text.ensures (get_or ours c.loop-done.done []) (is.small c.loop-done.done [] our_within) on in
          let their_from = from_is ∙ ap (λ (l : List (List ℕ)). 4 + length (flat_map counted l)) shared.same in
          let their_on = their_text c.args.place file theirs c.loop-done.done c.loop-done.from their_within their_from in
          let our_on : At (c.args.place + c.loop-done.from) (counted (get_or ours c.loop-done.done [])) file =
          subst (λ (l : List ℕ). At (c.args.place + c.loop-done.from) l file) piece
          (c.in_ok-matches.ensures.same c.if-not-branch.false file (inv.1.same ∙ told)) in
          more_shared ours theirs.modules c.loop-done.done shared our_within their_within
          (counted_once (c.args.place + c.loop-done.from) (get_or ours c.loop-done.done [])
          (get_or theirs.modules c.loop-done.done []) file (is.small c.loop-done.done [] our_within)
          (theirs.is.small c.loop-done.done [] their_within) our_on their_on),
      c.in_ok-matches.ensures.cause.same ∙ inv.4,
    )

pub returns-clause-differs : goal.returns-clause-differs
returns-clause-differs g c = λ file told ours features is theirs count.
    let inv = c.loop-done.invariant in
    let our_count_is = our_count ours features c.args.header.now c.short_number_of.result is (omega arith) c.short_number_of.ensures in
    shared_ends ours theirs.modules c.loop-done.done (inv.3 file told ours features is theirs count)
    (λ our_within their_within. omega (arith, c.loop-done-test.false, our_count_is, count))
