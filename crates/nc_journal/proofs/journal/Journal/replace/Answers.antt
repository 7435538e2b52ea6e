use Rattle.std.proofs.Common.{◌≡◌, ◌⊎◌, ⊎_elim, ℕ, ◌+◌, ◌-◌, ◌<◌, ◌≤◌, ◌^◌, Bool, not, List, [], ◌∷◌, ◌++◌, length, All, Contains, Option, Some, None, is_some, refl, sym, ◌∙◌, ap, subst, arith, length-append}
use Rattle.nc_outside.specs.Disks.{Told, Torn, Then, Passes, IsSettled, written_at, LeavesOnly}
use Rattle.nc_outside.proofs.DiskFiles.{told_before}
use Rattle.nc_journal.specs.Format.{area, gate_place, chooser, chooser_place, slot_place, number, areas_begin}
use Rattle.nc_journal.specs.Files.{HoldsAmong}
use Rattle.nc_journal.specs.Growing.{AreWithin, free_place}
use Rattle.nc_journal.specs.Images.{IsClean, HasOpenChooser}
use Rattle.nc_journal.specs.Journal.{Stands, at_rest, chooser_open, IsPlaced, allowed}
use Rattle.nc_journal.specs.declared.journal.Undo.{Undo}
use Rattle.nc_journal.proofs.Numbers.{length-number, count_below, slot_last}
use Rattle.nc_journal.proofs.Changing.{changes_made}
use Rattle.nc_journal.proofs.Standing.{among_more, among_new, among_old, only_as, only_then, rest_of}
use Rattle.nc_journal.proofs.Replacing.{IsFree, free_within, slot_within, area_kept, area_moments, area_within, area_done, chooser_kept, chooser_moments, chooser_fits, chooser_done}
use Rattle.nc_journal.proofs.Growing.{place_same, place_behind, gate_behind, one_within, two_within}
use Rattle.nc_journal.proofs.journal.Journal.replace.Goals as goal

pub returns-in-Err-clause-changes : goal.returns-in-Err-clause-changes
returns-in-Err-clause-changes g c = λ header bodies doubt others stands is small counts. record {
  keeps = (
      c.in-Err.ensures.kept header bodies doubt stands
      );
  alone = λ kept file left. absurd (cc);
  moments = (
      let all = others ∷ allowed bodies doubt in
      (only_as g.D.Disk.moment g.D.Disk.left_since c.args.self.now.disk c.resolve.new.self.disk (HoldsAmong header (allowed bodies doubt)) (HoldsAmong header all) (λ f it. among_more (allowed bodies doubt) others header f it) (c.resolve.ensures.moments header bodies doubt stands))
      );
}

pub put_two-requires-clause-first : goal.put_two-requires-clause-first
put_two-requires-clause-first g c = λ file told.
    let was = told_before _ _ c.resolve.ensures.tells file told in
    let s = c.requires.2 was.0 was.1 in
    let rest = c.in-Ok.ensures.done c.requires.0 s.bodies s.doubt s.stands in
    free_within g.D.Disk.seen g.D.Disk.may_leave g.D.Disk.moment g.D.Disk.left_since g.met.D.Disk.seen_is_left c.requires.0 c.resolve.new.self s.bodies rest (length c.args.area.now) c.free_place-place.result c.free_place-place.ensures.free file told

pub put_two-requires-clause-second : goal.put_two-requires-clause-second
put_two-requires-clause-second g c = λ file told.
    let was = told_before _ _ c.resolve.ensures.tells file told in
    let s = c.requires.2 was.0 was.1 in
    let rest = c.in-Ok.ensures.done c.requires.0 s.bodies s.doubt s.stands in
    omega (arith, c.slot_of-slot.ensures, slot_within g.D.Disk.seen g.D.Disk.may_leave g.D.Disk.moment g.D.Disk.left_since g.met.D.Disk.seen_is_left c.requires.0 c.resolve.new.self s.bodies rest (not c.resolve.new.self.second) file told)

pub returns-in-Err-put_two-clause-changes : goal.returns-in-Err-put_two-clause-changes
returns-in-Err-put_two-clause-changes g c = λ header bodies doubt others stands is small counts. record {
  keeps = (
      let rest = c.in-Ok.ensures.done header bodies doubt stands in
      let passes : Passes g.D.Disk.may_leave g.D.Disk.moment g.D.Disk.left_since (Then (Torn c.free_place-place.result (length c.args.area.now)) (Torn (slot_place (not c.resolve.new.self.second)) (length c.number_of-named.result))) c.resolve.new.self.disk c.put_two.new.disk =
      subst (λ k. Passes g.D.Disk.may_leave g.D.Disk.moment g.D.Disk.left_since (Then (Torn c.free_place-place.result (length c.args.area.now)) (Torn k (length c.number_of-named.result))) c.resolve.new.self.disk c.put_two.new.disk) c.slot_of-slot.ensures c.put_two.ensures.passes in
      let width : length c.number_of-named.result ≡ 8 = ap length c.number_of-named.ensures ∙ length-number c.free_place-place.result in
      area_kept g.D.Disk.seen g.D.Disk.may_leave g.D.Disk.moment g.D.Disk.left_since g.met.D.Disk.seen_is_left header c.resolve.new.self bodies rest c.free_place-place.result (length c.args.area.now) (length c.number_of-named.result) c.free_place-place.ensures.free width c.put_two.new.disk passes _ refl refl (record { second = refl; start = refl; gate = refl; records = refl }) c.put_two.ensures.tells
      );
  alone = λ kept file left. absurd (cc);
  moments = (
      let rest = c.in-Ok.ensures.done header bodies doubt stands in
      let all = others ∷ allowed bodies doubt in
      let passes : Passes g.D.Disk.may_leave g.D.Disk.moment g.D.Disk.left_since (Then (Torn c.free_place-place.result (length c.args.area.now)) (Torn (slot_place (not c.resolve.new.self.second)) (length c.number_of-named.result))) c.resolve.new.self.disk c.put_two.new.disk =
      subst (λ k. Passes g.D.Disk.may_leave g.D.Disk.moment g.D.Disk.left_since (Then (Torn c.free_place-place.result (length c.args.area.now)) (Torn k (length c.number_of-named.result))) c.resolve.new.self.disk c.put_two.new.disk) c.slot_of-slot.ensures c.put_two.ensures.passes in
      let width : length c.number_of-named.result ≡ 8 = ap length c.number_of-named.ensures ∙ length-number c.free_place-place.result in
      (only_then g.D.Disk.moment g.D.Disk.left_since c.args.self.now.disk c.resolve.new.self.disk c.put_two.new.disk (HoldsAmong header all)
      (only_as g.D.Disk.moment g.D.Disk.left_since c.args.self.now.disk c.resolve.new.self.disk (HoldsAmong header (allowed bodies doubt)) (HoldsAmong header all) (λ f it. among_more (allowed bodies doubt) others header f it) (c.resolve.ensures.moments header bodies doubt stands))
      (area_moments g.D.Disk.seen g.D.Disk.may_leave g.D.Disk.moment g.D.Disk.left_since g.met.D.Disk.seen_is_left header c.resolve.new.self bodies rest c.free_place-place.result (length c.args.area.now) (length c.number_of-named.result) c.free_place-place.ensures.free width c.put_two.new.disk passes all (among_old bodies doubt others)))
      );
}

pub put-requires : goal.put-requires
put-requires g c = λ file told.
    let mid = told_before _ _ c.put_two.ensures.tells file told in
    let was = told_before _ _ c.resolve.ensures.tells mid.0 mid.1 in
    let s = c.requires.2 was.0 was.1 in
    let rest = c.in-Ok.ensures.done c.requires.0 s.bodies s.doubt s.stands in
    let passes : Passes g.D.Disk.may_leave g.D.Disk.moment g.D.Disk.left_since (Then (Torn c.free_place-place.result (length c.args.area.now)) (Torn (slot_place (not c.resolve.new.self.second)) (length c.number_of-named.result))) c.resolve.new.self.disk c.put_two.new.disk =
    subst (λ k. Passes g.D.Disk.may_leave g.D.Disk.moment g.D.Disk.left_since (Then (Torn c.free_place-place.result (length c.args.area.now)) (Torn k (length c.number_of-named.result))) c.resolve.new.self.disk c.put_two.new.disk) c.slot_of-slot.ensures c.put_two.ensures.passes in
    let width : length c.number_of-named.result ≡ 8 = ap length c.number_of-named.ensures ∙ length-number c.free_place-place.result in
    area_within g.D.Disk.seen g.D.Disk.may_leave g.D.Disk.moment g.D.Disk.left_since g.met.D.Disk.seen_is_left c.requires.0 c.resolve.new.self s.bodies rest c.free_place-place.result (length c.args.area.now) (length c.number_of-named.result) c.free_place-place.ensures.free width c.put_two.new.disk passes file told

pub returns-in-Err-put-clause-changes : goal.returns-in-Err-put-clause-changes
returns-in-Err-put-clause-changes g c = λ header bodies doubt others stands is small counts. record {
  keeps = (
      let rest = c.in-Ok.ensures.done header bodies doubt stands in
      let width : length c.number_of-named.result ≡ 8 = ap length c.number_of-named.ensures ∙ length-number c.free_place-place.result in
      let settled : Told (g.D.Disk.seen c.resolve.new.self.disk) (λ file. IsSettled g.D.Disk.seen g.D.Disk.may_leave c.put_two.new.disk (written_at (slot_place (not c.resolve.new.self.second)) c.number_of-named.result (written_at c.free_place-place.result c.args.area.now file))) =
      subst (λ k. Told (g.D.Disk.seen c.resolve.new.self.disk) (λ file. IsSettled g.D.Disk.seen g.D.Disk.may_leave c.put_two.new.disk (written_at k c.number_of-named.result (written_at c.free_place-place.result c.args.area.now file)))) c.slot_of-slot.ensures c.in-Ok-put_two.ensures.done in
      let fits : c.free_place-place.result < 2 ^ 64 = omega (arith, c.in-Ok-put_two.ensures.fits) in
      let open_mid = area_done g.D.Disk.seen g.D.Disk.may_leave g.D.Disk.moment g.D.Disk.left_since g.met.D.Disk.seen_is_left header c.resolve.new.self bodies rest c.free_place-place.result (length c.args.area.now) (length c.number_of-named.result) c.free_place-place.ensures.free width others c.args.area.now c.number_of-named.result is c.number_of-named.ensures refl fits small c.put_two.new.disk settled in
      let it = rest_of g.D.Disk.seen g.D.Disk.may_leave g.D.Disk.moment g.D.Disk.left_since g.met.D.Disk.seen_is_left header c.resolve.new.self bodies rest in
      let byte : c.chooser_of-byte.result ≡ chooser c.resolve.new.self.second = c.chooser_of-byte.ensures in
      chooser_open c.free_place-place.result others (record { told = c.put.ensures.tells ∙ c.put_two.ensures.tells ∙ it.0.told; gate = it.0.gate; count = it.0.count })
      (ap (λ b. let u : Undo = record { at = 9; byte = b } in Some u) byte) refl
      (chooser_kept g.D.Disk.seen g.D.Disk.may_leave g.D.Disk.moment g.D.Disk.left_since g.met.D.Disk.seen_is_left header c.resolve.new.self.second c.resolve.new.self.start bodies c.free_place-place.result others c.put_two.new.disk c.put.new.disk open_mid c.put.ensures.passes)
      );
  alone = λ kept file left. absurd (cc);
  moments = (
      let rest = c.in-Ok.ensures.done header bodies doubt stands in
      let all = others ∷ allowed bodies doubt in
      let passes : Passes g.D.Disk.may_leave g.D.Disk.moment g.D.Disk.left_since (Then (Torn c.free_place-place.result (length c.args.area.now)) (Torn (slot_place (not c.resolve.new.self.second)) (length c.number_of-named.result))) c.resolve.new.self.disk c.put_two.new.disk =
      subst (λ k. Passes g.D.Disk.may_leave g.D.Disk.moment g.D.Disk.left_since (Then (Torn c.free_place-place.result (length c.args.area.now)) (Torn k (length c.number_of-named.result))) c.resolve.new.self.disk c.put_two.new.disk) c.slot_of-slot.ensures c.put_two.ensures.passes in
      let width : length c.number_of-named.result ≡ 8 = ap length c.number_of-named.ensures ∙ length-number c.free_place-place.result in
      let settled : Told (g.D.Disk.seen c.resolve.new.self.disk) (λ file. IsSettled g.D.Disk.seen g.D.Disk.may_leave c.put_two.new.disk (written_at (slot_place (not c.resolve.new.self.second)) c.number_of-named.result (written_at c.free_place-place.result c.args.area.now file))) =
      subst (λ k. Told (g.D.Disk.seen c.resolve.new.self.disk) (λ file. IsSettled g.D.Disk.seen g.D.Disk.may_leave c.put_two.new.disk (written_at k c.number_of-named.result (written_at c.free_place-place.result c.args.area.now file)))) c.slot_of-slot.ensures c.in-Ok-put_two.ensures.done in
      let fits : c.free_place-place.result < 2 ^ 64 = omega (arith, c.in-Ok-put_two.ensures.fits) in
      let open_mid = area_done g.D.Disk.seen g.D.Disk.may_leave g.D.Disk.moment g.D.Disk.left_since g.met.D.Disk.seen_is_left header c.resolve.new.self bodies rest c.free_place-place.result (length c.args.area.now) (length c.number_of-named.result) c.free_place-place.ensures.free width others c.args.area.now c.number_of-named.result is c.number_of-named.ensures refl fits small c.put_two.new.disk settled in
      only_then g.D.Disk.moment g.D.Disk.left_since c.args.self.now.disk c.put_two.new.disk c.put.new.disk (HoldsAmong header all)
      (only_then g.D.Disk.moment g.D.Disk.left_since c.args.self.now.disk c.resolve.new.self.disk c.put_two.new.disk (HoldsAmong header all)
      (only_as g.D.Disk.moment g.D.Disk.left_since c.args.self.now.disk c.resolve.new.self.disk (HoldsAmong header (allowed bodies doubt)) (HoldsAmong header all) (λ f it. among_more (allowed bodies doubt) others header f it) (c.resolve.ensures.moments header bodies doubt stands))
      (area_moments g.D.Disk.seen g.D.Disk.may_leave g.D.Disk.moment g.D.Disk.left_since g.met.D.Disk.seen_is_left header c.resolve.new.self bodies rest c.free_place-place.result (length c.args.area.now) (length c.number_of-named.result) c.free_place-place.ensures.free width c.put_two.new.disk passes all (among_old bodies doubt others)))
      (chooser_moments g.D.Disk.seen g.D.Disk.may_leave g.D.Disk.moment g.D.Disk.left_since g.met.D.Disk.seen_is_left header c.resolve.new.self.second c.resolve.new.self.start bodies c.free_place-place.result others c.put_two.new.disk c.put.new.disk open_mid c.put.ensures.passes all (among_old bodies doubt others) (among_new (allowed bodies doubt) others))
      );
}

pub invariant_of-self-2 : goal.invariant_of-self-2
invariant_of-self-2 g c = record { fits = omega (arith, c.in-Ok-put_two.ensures.fits) }

pub returns-clause-changes : goal.returns-clause-changes
returns-clause-changes g c = λ header bodies doubt others stands is small counts.
    changes_made g.D.Disk.seen g.D.Disk.may_leave g.D.Disk.moment g.D.Disk.left_since g.met.D.Disk.seen_is_left
    (record { header = header; bodies = bodies; doubt = doubt; next = others }) _ _
    (
    let rest = c.in-Ok.ensures.done header bodies doubt stands in
    let width : length c.number_of-named.result ≡ 8 = ap length c.number_of-named.ensures ∙ length-number c.free_place-place.result in
    let settled : Told (g.D.Disk.seen c.resolve.new.self.disk) (λ file. IsSettled g.D.Disk.seen g.D.Disk.may_leave c.put_two.new.disk (written_at (slot_place (not c.resolve.new.self.second)) c.number_of-named.result (written_at c.free_place-place.result c.args.area.now file))) =
    subst (λ k. Told (g.D.Disk.seen c.resolve.new.self.disk) (λ file. IsSettled g.D.Disk.seen g.D.Disk.may_leave c.put_two.new.disk (written_at k c.number_of-named.result (written_at c.free_place-place.result c.args.area.now file)))) c.slot_of-slot.ensures c.in-Ok-put_two.ensures.done in
    let fits : c.free_place-place.result < 2 ^ 64 = omega (arith, c.in-Ok-put_two.ensures.fits) in
    let open_mid = area_done g.D.Disk.seen g.D.Disk.may_leave g.D.Disk.moment g.D.Disk.left_since g.met.D.Disk.seen_is_left header c.resolve.new.self bodies rest c.free_place-place.result (length c.args.area.now) (length c.number_of-named.result) c.free_place-place.ensures.free width others c.args.area.now c.number_of-named.result is c.number_of-named.ensures refl fits small c.put_two.new.disk settled in
    let it = rest_of g.D.Disk.seen g.D.Disk.may_leave g.D.Disk.moment g.D.Disk.left_since g.met.D.Disk.seen_is_left header c.resolve.new.self bodies rest in
    at_rest
    (record {
      told = c.put.ensures.tells ∙ c.put_two.ensures.tells ∙ it.0.told;
      gate = omega (arith, ap length is, length-append (area header others) (0 ∷ []));
      count = counts;
    })
    it.1 refl
    (chooser_done g.D.Disk.seen g.D.Disk.may_leave g.D.Disk.moment g.D.Disk.left_since g.met.D.Disk.seen_is_left header c.resolve.new.self.second c.resolve.new.self.start bodies c.free_place-place.result others c.put_two.new.disk c.put.new.disk open_mid
    (c.put_two.ensures.tells ∙ it.0.told) c.chooser_of-turned.result c.chooser_of-turned.ensures c.in-Ok-put.ensures.done)
    )
    (
    let rest = c.in-Ok.ensures.done header bodies doubt stands in
    let all = others ∷ allowed bodies doubt in
    let passes : Passes g.D.Disk.may_leave g.D.Disk.moment g.D.Disk.left_since (Then (Torn c.free_place-place.result (length c.args.area.now)) (Torn (slot_place (not c.resolve.new.self.second)) (length c.number_of-named.result))) c.resolve.new.self.disk c.put_two.new.disk =
    subst (λ k. Passes g.D.Disk.may_leave g.D.Disk.moment g.D.Disk.left_since (Then (Torn c.free_place-place.result (length c.args.area.now)) (Torn k (length c.number_of-named.result))) c.resolve.new.self.disk c.put_two.new.disk) c.slot_of-slot.ensures c.put_two.ensures.passes in
    let width : length c.number_of-named.result ≡ 8 = ap length c.number_of-named.ensures ∙ length-number c.free_place-place.result in
    let settled : Told (g.D.Disk.seen c.resolve.new.self.disk) (λ file. IsSettled g.D.Disk.seen g.D.Disk.may_leave c.put_two.new.disk (written_at (slot_place (not c.resolve.new.self.second)) c.number_of-named.result (written_at c.free_place-place.result c.args.area.now file))) =
    subst (λ k. Told (g.D.Disk.seen c.resolve.new.self.disk) (λ file. IsSettled g.D.Disk.seen g.D.Disk.may_leave c.put_two.new.disk (written_at k c.number_of-named.result (written_at c.free_place-place.result c.args.area.now file)))) c.slot_of-slot.ensures c.in-Ok-put_two.ensures.done in
    let fits : c.free_place-place.result < 2 ^ 64 = omega (arith, c.in-Ok-put_two.ensures.fits) in
    let open_mid = area_done g.D.Disk.seen g.D.Disk.may_leave g.D.Disk.moment g.D.Disk.left_since g.met.D.Disk.seen_is_left header c.resolve.new.self bodies rest c.free_place-place.result (length c.args.area.now) (length c.number_of-named.result) c.free_place-place.ensures.free width others c.args.area.now c.number_of-named.result is c.number_of-named.ensures refl fits small c.put_two.new.disk settled in
    only_then g.D.Disk.moment g.D.Disk.left_since c.args.self.now.disk c.put_two.new.disk c.put.new.disk (HoldsAmong header all)
    (only_then g.D.Disk.moment g.D.Disk.left_since c.args.self.now.disk c.resolve.new.self.disk c.put_two.new.disk (HoldsAmong header all)
    (only_as g.D.Disk.moment g.D.Disk.left_since c.args.self.now.disk c.resolve.new.self.disk (HoldsAmong header (allowed bodies doubt)) (HoldsAmong header all) (λ f it. among_more (allowed bodies doubt) others header f it) (c.resolve.ensures.moments header bodies doubt stands))
    (area_moments g.D.Disk.seen g.D.Disk.may_leave g.D.Disk.moment g.D.Disk.left_since g.met.D.Disk.seen_is_left header c.resolve.new.self bodies rest c.free_place-place.result (length c.args.area.now) (length c.number_of-named.result) c.free_place-place.ensures.free width c.put_two.new.disk passes all (among_old bodies doubt others)))
    (chooser_moments g.D.Disk.seen g.D.Disk.may_leave g.D.Disk.moment g.D.Disk.left_since g.met.D.Disk.seen_is_left header c.resolve.new.self.second c.resolve.new.self.start bodies c.free_place-place.result others c.put_two.new.disk c.put.new.disk open_mid c.put.ensures.passes all (among_old bodies doubt others) (among_new (allowed bodies doubt) others))
    )

pub returns-in-Err-clause-sound : goal.returns-in-Err-clause-sound
returns-in-Err-clause-sound g c = λ header others is small counts sound file told.
    let was = told_before _ _ (c.resolve.ensures.tells) file told in
    let s = sound was.0 was.1 in
    record { bodies = s.bodies; doubt = s.doubt; stands = (returns-in-Err-clause-changes g c header s.bodies s.doubt others s.stands is small counts).keeps }

pub returns-in-Err-put_two-clause-sound : goal.returns-in-Err-put_two-clause-sound
returns-in-Err-put_two-clause-sound g c = λ header others is small counts sound file told.
    let was = told_before _ _ (c.put_two.ensures.tells ∙ c.resolve.ensures.tells) file told in
    let s = sound was.0 was.1 in
    record { bodies = s.bodies; doubt = None; stands = (returns-in-Err-put_two-clause-changes g c header s.bodies s.doubt others s.stands is small counts).keeps }

pub returns-in-Err-put-clause-sound : goal.returns-in-Err-put-clause-sound
returns-in-Err-put-clause-sound g c = λ header others is small counts sound file told.
    let was = told_before _ _ (c.put.ensures.tells ∙ c.put_two.ensures.tells ∙ c.resolve.ensures.tells) file told in
    let s = sound was.0 was.1 in
    record { bodies = s.bodies; doubt = Some others; stands = (returns-in-Err-put-clause-changes g c header s.bodies s.doubt others s.stands is small counts).keeps }

pub returns-clause-sound : goal.returns-clause-sound
returns-clause-sound g c = λ header others is small counts sound file told.
    let was = told_before _ _ (c.put.ensures.tells ∙ c.put_two.ensures.tells ∙ c.resolve.ensures.tells) file told in
    let s = sound was.0 was.1 in
    record { bodies = others; doubt = None; stands = (returns-clause-changes g c header s.bodies s.doubt others s.stands is small counts).keeps }

pub returns-in-Err-clause-grown : goal.returns-in-Err-clause-grown
returns-in-Err-clause-grown g c = λ file told. record {
  start_is = c.resolve.ensures.placed.start;
  within = λ limit le before. c.resolve.ensures.within file told limit before;
}

pub returns-in-Err-put_two-clause-grown : goal.returns-in-Err-put_two-clause-grown
returns-in-Err-put_two-clause-grown g c = λ file told. record {
  start_is = c.resolve.ensures.placed.start;
  within = λ limit le before.
      let at_rest_now = c.in-Ok.ensures.done c.requires.0 (c.requires.2 file told).bodies (c.requires.2 file told).doubt (c.requires.2 file told).stands in
      let there = c.free_place-place.ensures.place ∙ place_same c.resolve.new.self.start c.args.self.now.start c.resolve.new.self.gate c.args.self.now.gate (length c.args.area.now) c.resolve.ensures.placed.start c.resolve.ensures.placed.gate in
      let front = place_behind c.resolve.new.self.start c.resolve.new.self.gate (length c.args.area.now) (gate_behind g.D.Disk.seen g.D.Disk.may_leave g.D.Disk.moment g.D.Disk.left_since g.met.D.Disk.seen_is_left c.requires.0 c.resolve.new.self (c.requires.2 file told).bodies at_rest_now) in
      let width : length c.number_of-named.result ≡ 8 = ap length c.number_of-named.ensures ∙ length-number c.free_place-place.result in
      two_within g.D.Disk.seen g.D.Disk.may_leave g.D.Disk.moment g.D.Disk.left_since g.met.D.Disk.seen_is_left c.free_place-place.result (length c.args.area.now) c.slot_of-slot.result (length c.number_of-named.result) limit c.resolve.new.self.disk c.put_two.new.disk
      (omega (arith, le, there)) (omega (arith, le, there, front, c.free_place-place.ensures.place, width, c.slot_of-slot.ensures, slot_last (not c.resolve.new.self.second)))
      c.put_two.ensures.passes (c.resolve.ensures.within file told limit before);
}

pub returns-in-Err-put-clause-grown : goal.returns-in-Err-put-clause-grown
returns-in-Err-put-clause-grown g c = λ file told. record {
  start_is = c.resolve.ensures.placed.start;
  within = λ limit le before.
      let at_rest_now = c.in-Ok.ensures.done c.requires.0 (c.requires.2 file told).bodies (c.requires.2 file told).doubt (c.requires.2 file told).stands in
      let there = c.free_place-place.ensures.place ∙ place_same c.resolve.new.self.start c.args.self.now.start c.resolve.new.self.gate c.args.self.now.gate (length c.args.area.now) c.resolve.ensures.placed.start c.resolve.ensures.placed.gate in
      let front = place_behind c.resolve.new.self.start c.resolve.new.self.gate (length c.args.area.now) (gate_behind g.D.Disk.seen g.D.Disk.may_leave g.D.Disk.moment g.D.Disk.left_since g.met.D.Disk.seen_is_left c.requires.0 c.resolve.new.self (c.requires.2 file told).bodies at_rest_now) in
      let width : length c.number_of-named.result ≡ 8 = ap length c.number_of-named.ensures ∙ length-number c.free_place-place.result in
      let two : AreWithin g.D.Disk.may_leave limit c.put_two.new.disk = two_within g.D.Disk.seen g.D.Disk.may_leave g.D.Disk.moment g.D.Disk.left_since g.met.D.Disk.seen_is_left c.free_place-place.result (length c.args.area.now) c.slot_of-slot.result (length c.number_of-named.result) limit c.resolve.new.self.disk c.put_two.new.disk
      (omega (arith, le, there)) (omega (arith, le, there, front, c.free_place-place.ensures.place, width, c.slot_of-slot.ensures, slot_last (not c.resolve.new.self.second)))
      c.put_two.ensures.passes (c.resolve.ensures.within file told limit before) in
      one_within g.D.Disk.seen g.D.Disk.may_leave g.D.Disk.moment g.D.Disk.left_since g.met.D.Disk.seen_is_left 9 1 limit c.put_two.new.disk c.put.new.disk (omega (arith, le, there, front, c.free_place-place.ensures.place)) c.put.ensures.passes two;
}

pub returns-clause-grown : goal.returns-clause-grown
returns-clause-grown g c = λ file told. record {
  start_is = c.free_place-place.ensures.place ∙ place_same c.resolve.new.self.start c.args.self.now.start c.resolve.new.self.gate c.args.self.now.gate (length c.args.area.now) c.resolve.ensures.placed.start c.resolve.ensures.placed.gate;
  within = λ limit le before.
      let at_rest_now = c.in-Ok.ensures.done c.requires.0 (c.requires.2 file told).bodies (c.requires.2 file told).doubt (c.requires.2 file told).stands in
      let there = c.free_place-place.ensures.place ∙ place_same c.resolve.new.self.start c.args.self.now.start c.resolve.new.self.gate c.args.self.now.gate (length c.args.area.now) c.resolve.ensures.placed.start c.resolve.ensures.placed.gate in
      let front = place_behind c.resolve.new.self.start c.resolve.new.self.gate (length c.args.area.now) (gate_behind g.D.Disk.seen g.D.Disk.may_leave g.D.Disk.moment g.D.Disk.left_since g.met.D.Disk.seen_is_left c.requires.0 c.resolve.new.self (c.requires.2 file told).bodies at_rest_now) in
      let width : length c.number_of-named.result ≡ 8 = ap length c.number_of-named.ensures ∙ length-number c.free_place-place.result in
      let two : AreWithin g.D.Disk.may_leave limit c.put_two.new.disk = two_within g.D.Disk.seen g.D.Disk.may_leave g.D.Disk.moment g.D.Disk.left_since g.met.D.Disk.seen_is_left c.free_place-place.result (length c.args.area.now) c.slot_of-slot.result (length c.number_of-named.result) limit c.resolve.new.self.disk c.put_two.new.disk
      (omega (arith, le, there)) (omega (arith, le, there, front, c.free_place-place.ensures.place, width, c.slot_of-slot.ensures, slot_last (not c.resolve.new.self.second)))
      c.put_two.ensures.passes (c.resolve.ensures.within file told limit before) in
      one_within g.D.Disk.seen g.D.Disk.may_leave g.D.Disk.moment g.D.Disk.left_since g.met.D.Disk.seen_is_left 9 1 limit c.put_two.new.disk c.put.new.disk (omega (arith, le, there, front, c.free_place-place.ensures.place)) c.put.ensures.passes two;
}
