use Rattle.std.proofs.Common.{◌≡◌, ℕ, ◌+◌, ◌≤◌, Bool, false, List, [], ◌∷◌, ◌++◌, length, Option, Some, is_some, Result, Ok, Err, OnOk, refl, sym, ◌∙◌, ap, subst, arith}
use Rattle.nc_outside.specs.Disks.{Told, Torn, CutTo, LeavesOnly, IsSettled, written_at}
use Rattle.nc_outside.proofs.DiskFiles.{told_before}
use Rattle.nc_journal.specs.Format.{blank}
use Rattle.nc_journal.specs.Files.{IsNew}
use Rattle.nc_journal.specs.Images.{IsClean}
use Rattle.nc_journal.proofs.Standing.{only_then}
use Rattle.nc_journal.specs.Opening.{StartsNew, still_new, made}
use Rattle.nc_journal.proofs.NewFiles.{cut_new, first_new, behind_new, whole_clean, last_new, write_rest, settled_moments, on_ok_also}
use Rattle.nc_journal.proofs.making.make.Goals as goal

pub returns-in_err-clear-clause-moments : goal.returns-in_err-clear-clause-moments
returns-in_err-clear-clause-moments g c = λ file told header rest new.
    let was = c.requires file told in
    (settled_moments g.D.Disk.seen g.D.Disk.may_leave g.D.Disk.moment g.D.Disk.left_since c.args.disk.now c.clear.new.disk file (CutTo 0) (StartsNew header) was.0 c.clear.ensures.passes (λ f step. still_new (cut_new header file f new step)))

pub returns-in_err-put-clause-moments : goal.returns-in_err-put-clause-moments
returns-in_err-put-clause-moments g c = λ file told header rest new.
    let was = c.requires file told in
    let cleared = c.in_ok-clear.ensures.done file was.0 was.1 in
    (only_then g.D.Disk.moment g.D.Disk.left_since c.args.disk.now c.clear.new.disk c.put.new.disk (StartsNew header) (settled_moments g.D.Disk.seen g.D.Disk.may_leave g.D.Disk.moment g.D.Disk.left_since c.args.disk.now c.clear.new.disk file (CutTo 0) (StartsNew header) was.0 c.clear.ensures.passes (λ f step. still_new (cut_new header file f new step))) (settled_moments g.D.Disk.seen g.D.Disk.may_leave g.D.Disk.moment g.D.Disk.left_since c.clear.new.disk c.put.new.disk [] (Torn 0 1) (StartsNew header) cleared c.put.ensures.passes (λ f step. still_new (first_new header f step))))

pub returns-in_err-put-2-clause-moments : goal.returns-in_err-put-2-clause-moments
returns-in_err-put-2-clause-moments g c = λ file told header rest new.
    let was = c.requires file told in
    let cleared = c.in_ok-clear.ensures.done file was.0 was.1 in
    let first = c.in_ok-put.ensures.done [] cleared.told in
    (only_then g.D.Disk.moment g.D.Disk.left_since c.args.disk.now c.put.new.disk c.put-2.new.disk (StartsNew header) (only_then g.D.Disk.moment g.D.Disk.left_since c.args.disk.now c.clear.new.disk c.put.new.disk (StartsNew header) (settled_moments g.D.Disk.seen g.D.Disk.may_leave g.D.Disk.moment g.D.Disk.left_since c.args.disk.now c.clear.new.disk file (CutTo 0) (StartsNew header) was.0 c.clear.ensures.passes (λ f step. still_new (cut_new header file f new step))) (settled_moments g.D.Disk.seen g.D.Disk.may_leave g.D.Disk.moment g.D.Disk.left_since c.clear.new.disk c.put.new.disk [] (Torn 0 1) (StartsNew header) cleared c.put.ensures.passes (λ f step. still_new (first_new header f step)))) (settled_moments g.D.Disk.seen g.D.Disk.may_leave g.D.Disk.moment g.D.Disk.left_since c.put.new.disk c.put-2.new.disk (0 ∷ []) (Torn 1 (length c.args.rest.now)) (StartsNew header) first c.put-2.ensures.passes (λ f step. still_new (behind_new header f (length c.args.rest.now) step))))

pub returns-clause-moments : goal.returns-clause-moments
returns-clause-moments g c = λ file told header rest new.
    let was = c.requires file told in
    let cleared = c.in_ok-clear.ensures.done file was.0 was.1 in
    let first = c.in_ok-put.ensures.done [] cleared.told in
    let both = c.in_ok-put-2.ensures.done (0 ∷ []) first.told in
    let whole : IsSettled g.D.Disk.seen g.D.Disk.may_leave c.put-2.new.disk (0 ∷ blank header) =
    subst (IsSettled g.D.Disk.seen g.D.Disk.may_leave c.put-2.new.disk) (write_rest c.args.rest.now ∙ ap (λ (l : List ℕ). 0 ∷ l) rest) both in
    (only_then g.D.Disk.moment g.D.Disk.left_since c.args.disk.now c.put-2.new.disk c.put-3.new.disk (StartsNew header) (only_then g.D.Disk.moment g.D.Disk.left_since c.args.disk.now c.put.new.disk c.put-2.new.disk (StartsNew header) (only_then g.D.Disk.moment g.D.Disk.left_since c.args.disk.now c.clear.new.disk c.put.new.disk (StartsNew header) (settled_moments g.D.Disk.seen g.D.Disk.may_leave g.D.Disk.moment g.D.Disk.left_since c.args.disk.now c.clear.new.disk file (CutTo 0) (StartsNew header) was.0 c.clear.ensures.passes (λ f step. still_new (cut_new header file f new step))) (settled_moments g.D.Disk.seen g.D.Disk.may_leave g.D.Disk.moment g.D.Disk.left_since c.clear.new.disk c.put.new.disk [] (Torn 0 1) (StartsNew header) cleared c.put.ensures.passes (λ f step. still_new (first_new header f step)))) (settled_moments g.D.Disk.seen g.D.Disk.may_leave g.D.Disk.moment g.D.Disk.left_since c.put.new.disk c.put-2.new.disk (0 ∷ []) (Torn 1 (length c.args.rest.now)) (StartsNew header) first c.put-2.ensures.passes (λ f step. still_new (behind_new header f (length c.args.rest.now) step)))) (settled_moments g.D.Disk.seen g.D.Disk.may_leave g.D.Disk.moment g.D.Disk.left_since c.put-2.new.disk c.put-3.new.disk (0 ∷ blank header) (Torn 0 1) (StartsNew header) whole c.put-3.ensures.passes (λ f step. last_new header f step)))

pub put-requires-2 : goal.put-requires-2
put-requires-2 g c = λ file told.
    let mid = told_before _ _ c.put.ensures.tells file told in
    let start = told_before _ _ c.clear.ensures.tells mid.0 mid.1 in
    let was = c.requires start.0 start.1 in
    let cleared = c.in_ok-clear.ensures.done start.0 was.0 was.1 in
    let first = c.in_ok-put.ensures.done [] cleared.told in
    let same : Some file ≡ Some (0 ∷ []) = sym told ∙ first.told in
    let bytes : file ≡ 0 ∷ [] = cc in
    omega (arith, ap length bytes)

pub returns-clause-done : goal.returns-clause-done
returns-clause-done g c = on_ok_also c.put-3.result _ _ c.put-3.ensures.done (λ done file told header rest f left.
    let was = c.requires file told in
    let cleared = c.in_ok-clear.ensures.done file was.0 was.1 in
    let first = c.in_ok-put.ensures.done [] cleared.told in
    let both = c.in_ok-put-2.ensures.done (0 ∷ []) first.told in
    let whole : IsSettled g.D.Disk.seen g.D.Disk.may_leave c.put-2.new.disk (0 ∷ blank header) =
    subst (IsSettled g.D.Disk.seen g.D.Disk.may_leave c.put-2.new.disk) (write_rest c.args.rest.now ∙ ap (λ (l : List ℕ). 0 ∷ l) rest) both in
    let last = done (0 ∷ blank header) whole.told in
    subst (IsClean header false 26 []) (sym (last.durable f left)) (whole_clean header))
