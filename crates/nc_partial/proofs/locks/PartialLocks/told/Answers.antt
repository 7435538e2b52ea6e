use Rattle.std.proofs.Common.{◌≡◌, List, Option, None, Some, ap, subst, sym, ◌∙◌, length}
use Rattle.nc_names.specs.declared.path.Path.{Path}
use Rattle.nc_model.specs.State.{locks_of}
use Rattle.nc_partial.specs.declared.entry.Covered.{Covered}
use Rattle.nc_partial.specs.declared.entry.Entry.{Entry}
use Rattle.nc_partial.specs.inner.Entries.{of_others, shares_some}
use Rattle.nc_partial.specs.inner.Lowest.{IsLowest}
use Rattle.nc_partial.proofs.GivenLemmas.{many_told, next_told, spent_told, taken_told}
use Rattle.nc_partial.proofs.locks.PartialLocks.told.Goals as goal

-- what is found, in the index and for the nodes as they are kept
as_kept : (session : _) (nodes asked : List Path) (index entries : List Entry) (found : Option Covered) → asked ≡ nodes → entries ≡ index →
    IsLowest (of_others session (shares_some asked)) entries found → IsLowest (of_others session (shares_some nodes)) index found
as_kept session nodes asked index entries found same kept lowest =
    subst (λ (xs : List Entry). IsLowest (of_others session (shares_some nodes)) xs found) kept
    (subst (λ (xs : List Path). IsLowest (of_others session (shares_some xs)) entries found) same lowest)

pub returns-in-Some : goal.returns-in-Some
returns-in-Some c =
    taken_told c.self.inside.locks.items c.self.inside.last c.self.inside.index.items c.self.invariant c.args.self.now c.self.view_is c.args.session c.args.nodes.now
    c.in-Some.covered
    (as_kept c.args.session c.args.nodes.now c.as_slice-2.result.now c.self.inside.index.items c.as_slice.result.now (Some c.in-Some.covered)
    c.as_slice-2.ensures c.as_slice.ensures.value c.in-Some.ensures)

pub returns-then-count_of-eq-MOST_LOCKS : goal.returns-then-count_of-eq-MOST_LOCKS
returns-then-count_of-eq-MOST_LOCKS c =
    many_told c.self.inside.locks.items c.self.inside.last c.self.inside.index.items c.self.invariant c.args.self.now c.self.view_is c.args.session c.args.nodes.now
    (as_kept c.args.session c.args.nodes.now c.as_slice-2.result.now c.self.inside.index.items c.as_slice.result.now None
    c.as_slice-2.ensures c.as_slice.ensures.value c.in_default.ensures)
    (ap (λ locks. length (locks_of c.args.session locks)) (sym c.as_slice-3.ensures.value) ∙ sym c.count_of.ensures ∙ c.if-count_of-eq-MOST_LOCKS.true)

pub returns-then-self : goal.returns-then-self
returns-then-self c =
    spent_told c.self.inside.locks.items c.self.inside.last c.self.inside.index.items c.self.invariant c.args.self.now c.self.view_is c.args.session c.args.nodes.now
    (as_kept c.args.session c.args.nodes.now c.as_slice-2.result.now c.self.inside.index.items c.as_slice.result.now None
    c.as_slice-2.ensures c.as_slice.ensures.value c.in_default.ensures)
    (λ full. c.if-count_of-eq-MOST_LOCKS.false (c.count_of.ensures ∙ ap (λ locks. length (locks_of c.args.session locks)) c.as_slice-3.ensures.value ∙ full))
    c.if-self.true

pub returns : goal.returns
returns c =
    next_told c.self.inside.locks.items c.self.inside.last c.self.inside.index.items c.self.invariant c.args.self.now c.self.view_is c.args.session c.args.nodes.now
    (as_kept c.args.session c.args.nodes.now c.as_slice-2.result.now c.self.inside.index.items c.as_slice.result.now None
    c.as_slice-2.ensures c.as_slice.ensures.value c.in_default.ensures)
    (λ full. c.if-count_of-eq-MOST_LOCKS.false (c.count_of.ensures ∙ ap (λ locks. length (locks_of c.args.session locks)) c.as_slice-3.ensures.value ∙ full))
    c.if-self.false
