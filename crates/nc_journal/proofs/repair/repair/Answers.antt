use Rattle.std.proofs.Common.{◌≡◌, ◌≢◌, ℕ, List, [], ◌∷◌, length, slice_get, Option, Some, is_some, Result, OnOk, refl, sym, ◌∙◌, ap, subst, arith}
use Rattle.std.proofs.lemmas.Option.{slice_get_within}
use Rattle.nc_journal.specs.Format.{chooser}
use Rattle.nc_journal.proofs.NewFiles.{on_ok_also}
use Rattle.nc_journal.proofs.Repairs.{chooser_is_torn, gate_is_torn, none_is_torn, chooser_repair_moments, chooser_repair_done, gate_repair_moments, gate_repair_done, no_repair_moments, no_repair_done}
use Rattle.nc_outside.specs.Disks.{IsSettled, written_at}
use Rattle.nc_journal.specs.Format.{gate_place}
use Rattle.nc_journal.proofs.Resting.{both_put, chooser_put, closed_is, first_slot, gate_closed, rests, settled_clean}
use Rattle.nc_journal.proofs.Looking.{get_at}
use Rattle.nc_journal.specs.Files.{At}
use Rattle.nc_journal.proofs.repair.repair.Goals as goal

pub put-requires : goal.put-requires
put-requires g c = λ file told. omega (arith, slice_get_within file 9 c.args.byte (c.requires.chooser file told))

pub put-requires-then-gate_byte-ne0-2 : goal.put-requires-then-gate_byte-ne0-2
put-requires-then-gate_byte-ne0-2 g c = λ file told. omega (arith, slice_get_within file c.args.gate c.args.gate_byte (c.requires.gate file told))

pub returns-then-byte-wanted-clause-done : goal.returns-then-byte-wanted-clause-done
returns-then-byte-wanted-clause-done g c = on_ok_also c.put.result _ _ c.put.ensures.done (λ done file told settled header place bodies doubt held gate_is.
    let differs : c.args.byte ≢ chooser c.args.second = subst (λ w. c.args.byte ≢ w) c.chooser_of-wanted.ensures c.if-byte-wanted.true in
    let t = chooser_is_torn header c.args.second place bodies doubt file c.args.byte held (c.requires.chooser file told) differs in
    chooser_repair_done g.D.Disk.seen g.D.Disk.may_leave g.D.Disk.moment g.D.Disk.left_since c.args.disk.now c.put.new.disk header c.args.second place bodies doubt file settled t (done file told))

pub returns-then-byte-wanted-clause-moments : goal.returns-then-byte-wanted-clause-moments
returns-then-byte-wanted-clause-moments g c = λ file told settled header place bodies doubt held gate_is.
    let differs : c.args.byte ≢ chooser c.args.second = subst (λ w. c.args.byte ≢ w) c.chooser_of-wanted.ensures c.if-byte-wanted.true in
    let t = chooser_is_torn header c.args.second place bodies doubt file c.args.byte held (c.requires.chooser file told) differs in
    chooser_repair_moments g.D.Disk.seen g.D.Disk.may_leave g.D.Disk.moment g.D.Disk.left_since c.args.disk.now c.put.new.disk header c.args.second place bodies doubt file settled t c.put.ensures.passes

pub returns-then-gate_byte-ne0-2-clause-done : goal.returns-then-gate_byte-ne0-2-clause-done
returns-then-gate_byte-ne0-2-clause-done g c = on_ok_also c.put-then-gate_byte-ne0-2.result _ _ c.put-then-gate_byte-ne0-2.ensures.done (λ done file told settled header place bodies doubt held gate_is.
    let same : c.args.byte ≡ chooser c.args.second = c.if-byte-wanted.false ∙ c.chooser_of-wanted.ensures in
    let t = gate_is_torn header c.args.second place bodies doubt file c.args.byte c.args.gate c.args.gate_byte held (c.requires.chooser file told) same gate_is (c.requires.gate file told) c.if-gate_byte-ne0-2.true in
    gate_repair_done g.D.Disk.seen g.D.Disk.may_leave g.D.Disk.moment g.D.Disk.left_since c.args.disk.now c.put-then-gate_byte-ne0-2.new.disk header c.args.second place bodies doubt file settled c.args.gate gate_is t (done file told))

pub returns-then-gate_byte-ne0-2-clause-moments : goal.returns-then-gate_byte-ne0-2-clause-moments
returns-then-gate_byte-ne0-2-clause-moments g c = λ file told settled header place bodies doubt held gate_is.
    let same : c.args.byte ≡ chooser c.args.second = c.if-byte-wanted.false ∙ c.chooser_of-wanted.ensures in
    let t = gate_is_torn header c.args.second place bodies doubt file c.args.byte c.args.gate c.args.gate_byte held (c.requires.chooser file told) same gate_is (c.requires.gate file told) c.if-gate_byte-ne0-2.true in
    gate_repair_moments g.D.Disk.seen g.D.Disk.may_leave g.D.Disk.moment g.D.Disk.left_since c.args.disk.now c.put-then-gate_byte-ne0-2.new.disk header c.args.second place bodies doubt file settled c.args.gate gate_is t c.put-then-gate_byte-ne0-2.ensures.passes

pub returns-clause-done : goal.returns-clause-done
returns-clause-done g c = λ file told settled header place bodies doubt held gate_is.
    let same : c.args.byte ≡ chooser c.args.second = c.if-byte-wanted.false ∙ c.chooser_of-wanted.ensures in
    let t = none_is_torn header c.args.second place bodies doubt file c.args.byte c.args.gate c.args.gate_byte held (c.requires.chooser file told) same gate_is (c.requires.gate file told) c.if-gate_byte-ne0-2.false in
    no_repair_done g.D.Disk.seen g.D.Disk.may_leave g.D.Disk.moment g.D.Disk.left_since c.args.disk.now c.args.disk.now header c.args.second place bodies doubt file settled t

pub returns-clause-moments : goal.returns-clause-moments
returns-clause-moments g c = λ file told settled header place bodies doubt held gate_is.
    let same : c.args.byte ≡ chooser c.args.second = c.if-byte-wanted.false ∙ c.chooser_of-wanted.ensures in
    let t = none_is_torn header c.args.second place bodies doubt file c.args.byte c.args.gate c.args.gate_byte held (c.requires.chooser file told) same gate_is (c.requires.gate file told) c.if-gate_byte-ne0-2.false in
    no_repair_moments g.D.Disk.seen g.D.Disk.may_leave g.D.Disk.moment g.D.Disk.left_since c.args.disk.now c.args.disk.now header c.args.second place bodies doubt file settled g.met.D.Disk.only_now t

pub put_both-requires-clause-chooser : goal.put_both-requires-clause-chooser
put_both-requires-clause-chooser g c = λ file told. omega (arith, slice_get_within file 9 c.args.byte (c.requires.chooser file told))

pub put_both-requires-clause-gate : goal.put_both-requires-clause-gate
put_both-requires-clause-gate g c = λ file told. omega (arith, slice_get_within file c.args.gate c.args.gate_byte (c.requires.gate file told))

pub returns-then-gate_byte-ne0-clause-done : goal.returns-then-gate_byte-ne0-clause-done
returns-then-gate_byte-ne0-clause-done g c = on_ok_also c.put_both.result _ _ c.put_both.ensures.done (λ done file told settled header place bodies doubt held gate_is.
    let differs : c.args.byte ≢ chooser c.args.second = subst (λ w. c.args.byte ≢ w) c.chooser_of-wanted.ensures c.if-byte-wanted.true in
    let t = chooser_is_torn header c.args.second place bodies doubt file c.args.byte held (c.requires.chooser file told) differs in
    absurd (closed_is (gate_place header bodies place) c.args.gate c.args.gate_byte file t.both.closed gate_is (c.requires.gate file told) c.if-gate_byte-ne0.true))

pub returns-then-gate_byte-ne0-clause-moments : goal.returns-then-gate_byte-ne0-clause-moments
returns-then-gate_byte-ne0-clause-moments g c = λ file told settled header place bodies doubt held gate_is.
    let differs : c.args.byte ≢ chooser c.args.second = subst (λ w. c.args.byte ≢ w) c.chooser_of-wanted.ensures c.if-byte-wanted.true in
    let t = chooser_is_torn header c.args.second place bodies doubt file c.args.byte held (c.requires.chooser file told) differs in
    absurd (closed_is (gate_place header bodies place) c.args.gate c.args.gate_byte file t.both.closed gate_is (c.requires.gate file told) c.if-gate_byte-ne0.true)

pub returns-then-gate_byte-ne0-clause-clean : goal.returns-then-gate_byte-ne0-clause-clean
returns-then-gate_byte-ne0-clause-clean g c = on_ok_also c.put_both.result _ _ c.put_both.ensures.done (λ done file told settled header place bodies names gate_is second_is.
    let differs : c.args.byte ≢ chooser c.args.second = subst (λ w. c.args.byte ≢ w) c.chooser_of-wanted.ensures c.if-byte-wanted.true in
    let gate_in = slice_get_within file c.args.gate c.args.gate_byte (c.requires.gate file told) in
    let low = slice_get_within file 9 c.args.byte (c.requires.chooser file told) in
    settled_clean g.D.Disk.seen g.D.Disk.may_leave c.put_both.new.disk header c.args.second place bodies (written_at 9 (0 ∷ []) (written_at (gate_place header bodies place) (0 ∷ []) file))
    (subst (λ k. IsSettled g.D.Disk.seen g.D.Disk.may_leave c.put_both.new.disk (written_at 9 (0 ∷ []) (written_at k (0 ∷ []) file))) gate_is (done file told))
    (both_put header c.args.second place bodies file names (first_slot c.args.second c.args.byte second_is differs) (omega arith) (omega (arith, gate_in, gate_is))))

pub returns-then-byte-wanted-clause-clean : goal.returns-then-byte-wanted-clause-clean
returns-then-byte-wanted-clause-clean g c = on_ok_also c.put.result _ _ c.put.ensures.done (λ done file told settled header place bodies names gate_is second_is.
    let differs : c.args.byte ≢ chooser c.args.second = subst (λ w. c.args.byte ≢ w) c.chooser_of-wanted.ensures c.if-byte-wanted.true in
    let low = slice_get_within file 9 c.args.byte (c.requires.chooser file told) in
    let closed : slice_get file c.args.gate ≡ Some 0 = c.requires.gate file told ∙ ap Some c.if-gate_byte-ne0.false in
    settled_clean g.D.Disk.seen g.D.Disk.may_leave c.put.new.disk header c.args.second place bodies (written_at 9 (0 ∷ []) file) (done file told)
    (chooser_put header c.args.second place bodies file names (subst (λ k. At k (0 ∷ []) file) gate_is (get_at c.args.gate 0 file closed)) (first_slot c.args.second c.args.byte second_is differs) (omega arith)))

pub returns-then-gate_byte-ne0-2-clause-clean : goal.returns-then-gate_byte-ne0-2-clause-clean
returns-then-gate_byte-ne0-2-clause-clean g c = on_ok_also c.put-then-gate_byte-ne0-2.result _ _ c.put-then-gate_byte-ne0-2.ensures.done (λ done file told settled header place bodies names gate_is second_is.
    let same : c.args.byte ≡ chooser c.args.second = c.if-byte-wanted.false ∙ c.chooser_of-wanted.ensures in
    let gate_in = slice_get_within file c.args.gate c.args.gate_byte (c.requires.gate file told) in
    settled_clean g.D.Disk.seen g.D.Disk.may_leave c.put-then-gate_byte-ne0-2.new.disk header c.args.second place bodies (written_at (gate_place header bodies place) (0 ∷ []) file)
    (subst (λ k. IsSettled g.D.Disk.seen g.D.Disk.may_leave c.put-then-gate_byte-ne0-2.new.disk (written_at k (0 ∷ []) file)) gate_is (done file told))
    (gate_closed header c.args.second place bodies file names c.args.byte (c.requires.chooser file told) same (omega (arith, gate_in, gate_is))))

pub returns-clause-clean : goal.returns-clause-clean
returns-clause-clean g c = λ file told settled header place bodies names gate_is second_is.
    let same : c.args.byte ≡ chooser c.args.second = c.if-byte-wanted.false ∙ c.chooser_of-wanted.ensures in
    let closed : slice_get file c.args.gate ≡ Some 0 = c.requires.gate file told ∙ ap Some c.if-gate_byte-ne0-2.false in
    settled_clean g.D.Disk.seen g.D.Disk.may_leave c.args.disk.now header c.args.second place bodies file settled
    (rests header c.args.second place bodies file names c.args.byte c.args.gate (c.requires.chooser file told) same gate_is closed)
