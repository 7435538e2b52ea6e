use Rattle.std.proofs.Common.{◌≡◌, ℕ, ◌+◌, ◌≤◌, List, [], ◌∷◌, ◌++◌, length, Contains, Option, Some, None, is_some, refl, sym, ◌∙◌, ap, subst, arith, length-append}
use Rattle.nc_outside.specs.Disks.{LeavesOnly}
use Rattle.nc_outside.proofs.DiskFiles.{told_before}
use Rattle.nc_journal.specs.Format.{framed, gate_place}
use Rattle.nc_journal.specs.Files.{HoldsAmong}
use Rattle.nc_journal.specs.Images.{IsClean, HasOpenGate}
use Rattle.nc_journal.specs.Journal.{Stands, at_rest, gate_open, IsPlaced, allowed}
use Rattle.nc_journal.proofs.Numbers.{length-framed, gate-push, count_within}
use Rattle.nc_journal.proofs.Changing.{changes_made}
use Rattle.nc_journal.proofs.Standing.{among_first, among_more, among_new, among_old, only_as, only_then, rest_of, rest_within, placed_again, stage_kept, stage_moments, stage_done, gate_kept, gate_moments, gate_within, gate_done}
use Rattle.nc_journal.proofs.Growing.{one_within}
use Rattle.nc_journal.proofs.journal.Journal.append.Goals as goal

pub returns-in-Err-clause-changes : goal.returns-in-Err-clause-changes
returns-in-Err-clause-changes g c = λ header bodies doubt body stands is small. record {
  keeps = (
      c.in-Err.ensures.kept header bodies doubt stands
      );
  alone = λ kept file left. absurd (cc);
  moments = (
      only_as g.D.Disk.moment g.D.Disk.left_since c.args.self.now.disk c.resolve.new.self.disk (HoldsAmong header (allowed bodies doubt)) (HoldsAmong header ((bodies ++ body ∷ []) ∷ allowed bodies doubt))
      (λ f it. among_more (allowed bodies doubt) (bodies ++ body ∷ []) header f it) (c.resolve.ensures.moments header bodies doubt stands)
      );
}

pub put-requires : goal.put-requires
put-requires g c = λ file told.
    let was = told_before _ _ c.resolve.ensures.tells file told in
    let s = c.requires.sound.1 was.0 was.1 in
    rest_within g.D.Disk.seen g.D.Disk.may_leave g.D.Disk.moment g.D.Disk.left_since g.met.D.Disk.seen_is_left
    c.requires.sound.0 c.resolve.new.self s.bodies (c.in-Ok.ensures.done c.requires.sound.0 s.bodies s.doubt s.stands) file told

pub returns-in-Err-put-clause-changes : goal.returns-in-Err-put-clause-changes
returns-in-Err-put-clause-changes g c = λ header bodies doubt body stands is small. record {
  keeps = (
      stage_kept g.D.Disk.seen g.D.Disk.may_leave g.D.Disk.moment g.D.Disk.left_since g.met.D.Disk.seen_is_left
      header c.resolve.new.self bodies (c.in-Ok.ensures.done header bodies doubt stands) (length c.args.framed.now) c.put.new.disk c.put.ensures.passes
      _ refl refl (record { second = refl; start = refl; gate = refl; records = refl }) c.put.ensures.tells
      );
  alone = λ kept file left. absurd (cc);
  moments = (
      only_then g.D.Disk.moment g.D.Disk.left_since c.args.self.now.disk c.resolve.new.self.disk c.put.new.disk (HoldsAmong header ((bodies ++ body ∷ []) ∷ allowed bodies doubt))
      (only_as g.D.Disk.moment g.D.Disk.left_since c.args.self.now.disk c.resolve.new.self.disk (HoldsAmong header (allowed bodies doubt)) (HoldsAmong header ((bodies ++ body ∷ []) ∷ allowed bodies doubt))
      (λ f it. among_more (allowed bodies doubt) (bodies ++ body ∷ []) header f it) (c.resolve.ensures.moments header bodies doubt stands))
      (stage_moments g.D.Disk.seen g.D.Disk.may_leave g.D.Disk.moment g.D.Disk.left_since g.met.D.Disk.seen_is_left
      header c.resolve.new.self bodies (c.in-Ok.ensures.done header bodies doubt stands) (length c.args.framed.now) c.put.new.disk c.put.ensures.passes
      ((bodies ++ body ∷ []) ∷ allowed bodies doubt) (among_old bodies doubt (bodies ++ body ∷ [])))
      );
}

pub put-requires-2 : goal.put-requires-2
put-requires-2 g c = λ file told.
    let mid = told_before _ _ c.put.ensures.tells file told in
    let was = told_before _ _ c.resolve.ensures.tells mid.0 mid.1 in
    let s = c.requires.sound.1 was.0 was.1 in
    let rest = c.in-Ok.ensures.done c.requires.sound.0 s.bodies s.doubt s.stands in
    let placed = (rest_of g.D.Disk.seen g.D.Disk.may_leave g.D.Disk.moment g.D.Disk.left_since g.met.D.Disk.seen_is_left c.requires.sound.0 c.resolve.new.self s.bodies rest).0 in
    let body = c.requires.framed in
    gate_within g.D.Disk.seen g.D.Disk.may_leave g.D.Disk.moment g.D.Disk.left_since g.met.D.Disk.seen_is_left
    c.requires.sound.0 c.resolve.new.self.second c.resolve.new.self.start c.resolve.new.self.gate s.bodies body.0 placed.gate c.put.new.disk c.put.new.disk
    (stage_done g.D.Disk.seen g.D.Disk.may_leave g.D.Disk.moment g.D.Disk.left_since g.met.D.Disk.seen_is_left
    c.requires.sound.0 c.resolve.new.self s.bodies rest body.0 c.args.framed.now body.1 body.2 c.put.new.disk c.in-Ok-put.ensures.done)
    file told

pub returns-in-Err-put-2-clause-changes : goal.returns-in-Err-put-2-clause-changes
returns-in-Err-put-2-clause-changes g c = λ header bodies doubt body stands is small. record {
  keeps = (
      let rest = c.in-Ok.ensures.done header bodies doubt stands in
      let placed = (rest_of g.D.Disk.seen g.D.Disk.may_leave g.D.Disk.moment g.D.Disk.left_since g.met.D.Disk.seen_is_left header c.resolve.new.self bodies rest).0 in
      let staged = stage_done g.D.Disk.seen g.D.Disk.may_leave g.D.Disk.moment g.D.Disk.left_since g.met.D.Disk.seen_is_left
      header c.resolve.new.self bodies rest body c.args.framed.now is small c.put.new.disk c.in-Ok-put.ensures.done in
      gate_open body
      (record { told = c.put-2.ensures.tells ∙ c.put.ensures.tells ∙ placed.told; gate = placed.gate; count = placed.count }) refl refl
      (gate_kept g.D.Disk.seen g.D.Disk.may_leave g.D.Disk.moment g.D.Disk.left_since g.met.D.Disk.seen_is_left
      header c.resolve.new.self.second c.resolve.new.self.start c.resolve.new.self.gate bodies body placed.gate c.put.new.disk c.put-2.new.disk staged c.put-2.ensures.passes)
      );
  alone = λ kept file left. absurd (cc);
  moments = (
      let rest = c.in-Ok.ensures.done header bodies doubt stands in
      let placed = (rest_of g.D.Disk.seen g.D.Disk.may_leave g.D.Disk.moment g.D.Disk.left_since g.met.D.Disk.seen_is_left header c.resolve.new.self bodies rest).0 in
      let staged = stage_done g.D.Disk.seen g.D.Disk.may_leave g.D.Disk.moment g.D.Disk.left_since g.met.D.Disk.seen_is_left
      header c.resolve.new.self bodies rest body c.args.framed.now is small c.put.new.disk c.in-Ok-put.ensures.done in
      let all = (bodies ++ body ∷ []) ∷ allowed bodies doubt in
      only_then g.D.Disk.moment g.D.Disk.left_since c.args.self.now.disk c.put.new.disk c.put-2.new.disk (HoldsAmong header all)
      (only_then g.D.Disk.moment g.D.Disk.left_since c.args.self.now.disk c.resolve.new.self.disk c.put.new.disk (HoldsAmong header all)
      (only_as g.D.Disk.moment g.D.Disk.left_since c.args.self.now.disk c.resolve.new.self.disk (HoldsAmong header (allowed bodies doubt)) (HoldsAmong header all)
      (λ f it. among_more (allowed bodies doubt) (bodies ++ body ∷ []) header f it) (c.resolve.ensures.moments header bodies doubt stands))
      (stage_moments g.D.Disk.seen g.D.Disk.may_leave g.D.Disk.moment g.D.Disk.left_since g.met.D.Disk.seen_is_left
      header c.resolve.new.self bodies rest (length c.args.framed.now) c.put.new.disk c.put.ensures.passes all (among_old bodies doubt (bodies ++ body ∷ []))))
      (gate_moments g.D.Disk.seen g.D.Disk.may_leave g.D.Disk.moment g.D.Disk.left_since g.met.D.Disk.seen_is_left
      header c.resolve.new.self.second c.resolve.new.self.start c.resolve.new.self.gate bodies body placed.gate c.put.new.disk c.put-2.new.disk staged c.put-2.ensures.passes
      all (among_old bodies doubt (bodies ++ body ∷ [])) (among_new (allowed bodies doubt) (bodies ++ body ∷ [])))
      );
}

pub returns-clause-changes : goal.returns-clause-changes
returns-clause-changes g c = λ header bodies doubt body stands is small.
    changes_made g.D.Disk.seen g.D.Disk.may_leave g.D.Disk.moment g.D.Disk.left_since g.met.D.Disk.seen_is_left
    (record { header = header; bodies = bodies; doubt = doubt; next = bodies ++ body ∷ [] }) _ _
    (
    let rest = c.in-Ok.ensures.done header bodies doubt stands in
    let it = rest_of g.D.Disk.seen g.D.Disk.may_leave g.D.Disk.moment g.D.Disk.left_since g.met.D.Disk.seen_is_left header c.resolve.new.self bodies rest in
    let staged = stage_done g.D.Disk.seen g.D.Disk.may_leave g.D.Disk.moment g.D.Disk.left_since g.met.D.Disk.seen_is_left
    header c.resolve.new.self bodies rest body c.args.framed.now is small c.put.new.disk c.in-Ok-put.ensures.done in
    at_rest
    (record {
      told = c.put-2.ensures.tells ∙ c.put.ensures.tells ∙ it.0.told;
      gate = omega (arith, it.0.gate, gate-push header bodies body c.resolve.new.self.start, ap length is, length-framed body);
      count = omega (arith, it.0.count, length-append bodies (body ∷ []), count_within header bodies, it.0.gate, c.resolve.new.self.fits);
    })
    it.1 refl
    (gate_done g.D.Disk.seen g.D.Disk.may_leave g.D.Disk.moment g.D.Disk.left_since g.met.D.Disk.seen_is_left
    header c.resolve.new.self.second c.resolve.new.self.start c.resolve.new.self.gate bodies body it.0.gate c.put.new.disk c.put-2.new.disk staged
    (c.put.ensures.tells ∙ it.0.told) c.in-Ok-put-2.ensures.done)
    )
    (
    let rest = c.in-Ok.ensures.done header bodies doubt stands in
    let placed = (rest_of g.D.Disk.seen g.D.Disk.may_leave g.D.Disk.moment g.D.Disk.left_since g.met.D.Disk.seen_is_left header c.resolve.new.self bodies rest).0 in
    let staged = stage_done g.D.Disk.seen g.D.Disk.may_leave g.D.Disk.moment g.D.Disk.left_since g.met.D.Disk.seen_is_left
    header c.resolve.new.self bodies rest body c.args.framed.now is small c.put.new.disk c.in-Ok-put.ensures.done in
    let all = (bodies ++ body ∷ []) ∷ allowed bodies doubt in
    only_then g.D.Disk.moment g.D.Disk.left_since c.args.self.now.disk c.put.new.disk c.put-2.new.disk (HoldsAmong header all)
    (only_then g.D.Disk.moment g.D.Disk.left_since c.args.self.now.disk c.resolve.new.self.disk c.put.new.disk (HoldsAmong header all)
    (only_as g.D.Disk.moment g.D.Disk.left_since c.args.self.now.disk c.resolve.new.self.disk (HoldsAmong header (allowed bodies doubt)) (HoldsAmong header all)
    (λ f it. among_more (allowed bodies doubt) (bodies ++ body ∷ []) header f it) (c.resolve.ensures.moments header bodies doubt stands))
    (stage_moments g.D.Disk.seen g.D.Disk.may_leave g.D.Disk.moment g.D.Disk.left_since g.met.D.Disk.seen_is_left
    header c.resolve.new.self bodies rest (length c.args.framed.now) c.put.new.disk c.put.ensures.passes all (among_old bodies doubt (bodies ++ body ∷ []))))
    (gate_moments g.D.Disk.seen g.D.Disk.may_leave g.D.Disk.moment g.D.Disk.left_since g.met.D.Disk.seen_is_left
    header c.resolve.new.self.second c.resolve.new.self.start c.resolve.new.self.gate bodies body placed.gate c.put.new.disk c.put-2.new.disk staged c.put-2.ensures.passes
    all (among_old bodies doubt (bodies ++ body ∷ [])) (among_new (allowed bodies doubt) (bodies ++ body ∷ [])))
    )

pub returns-in-Err-clause-sound : goal.returns-in-Err-clause-sound
returns-in-Err-clause-sound g c = λ header sound file told.
    let was = told_before _ _ (c.resolve.ensures.tells) file told in
    let s = sound was.0 was.1 in
    let body = c.requires.framed in
    record { bodies = s.bodies; doubt = s.doubt; stands = (returns-in-Err-clause-changes g c header s.bodies s.doubt body.0 s.stands body.1 body.2).keeps }

pub returns-in-Err-put-clause-sound : goal.returns-in-Err-put-clause-sound
returns-in-Err-put-clause-sound g c = λ header sound file told.
    let was = told_before _ _ (c.put.ensures.tells ∙ c.resolve.ensures.tells) file told in
    let s = sound was.0 was.1 in
    let body = c.requires.framed in
    record { bodies = s.bodies; doubt = None; stands = (returns-in-Err-put-clause-changes g c header s.bodies s.doubt body.0 s.stands body.1 body.2).keeps }

pub returns-in-Err-put-2-clause-sound : goal.returns-in-Err-put-2-clause-sound
returns-in-Err-put-2-clause-sound g c = λ header sound file told.
    let was = told_before _ _ (c.put-2.ensures.tells ∙ c.put.ensures.tells ∙ c.resolve.ensures.tells) file told in
    let s = sound was.0 was.1 in
    let body = c.requires.framed in
    record { bodies = s.bodies; doubt = Some (s.bodies ++ body.0 ∷ []); stands = (returns-in-Err-put-2-clause-changes g c header s.bodies s.doubt body.0 s.stands body.1 body.2).keeps }

pub returns-clause-sound : goal.returns-clause-sound
returns-clause-sound g c = λ header sound file told.
    let was = told_before _ _ (c.put-2.ensures.tells ∙ c.put.ensures.tells ∙ c.resolve.ensures.tells) file told in
    let s = sound was.0 was.1 in
    let body = c.requires.framed in
    record { bodies = s.bodies ++ body.0 ∷ []; doubt = None; stands = (returns-clause-changes g c header s.bodies s.doubt body.0 s.stands body.1 body.2).keeps }

pub returns-in-Err-clause-grown : goal.returns-in-Err-clause-grown
returns-in-Err-clause-grown g c = λ file told. record {
  start_is = c.resolve.ensures.placed.start;
  within = λ limit le before. c.resolve.ensures.within file told limit before;
}

pub returns-in-Err-put-clause-grown : goal.returns-in-Err-put-clause-grown
returns-in-Err-put-clause-grown g c = λ file told. record {
  start_is = c.resolve.ensures.placed.start;
  within = λ limit le before.
      one_within g.D.Disk.seen g.D.Disk.may_leave g.D.Disk.moment g.D.Disk.left_since g.met.D.Disk.seen_is_left (c.resolve.new.self.gate + 1) (length c.args.framed.now) limit c.resolve.new.self.disk c.put.new.disk
      (omega (arith, le, c.resolve.ensures.placed.gate)) c.put.ensures.passes (c.resolve.ensures.within file told limit before);
}

pub returns-in-Err-put-2-clause-grown : goal.returns-in-Err-put-2-clause-grown
returns-in-Err-put-2-clause-grown g c = λ file told. record {
  start_is = c.resolve.ensures.placed.start;
  within = λ limit le before.
      one_within g.D.Disk.seen g.D.Disk.may_leave g.D.Disk.moment g.D.Disk.left_since g.met.D.Disk.seen_is_left c.resolve.new.self.gate 1 limit c.put.new.disk c.put-2.new.disk
      (omega (arith, le, c.resolve.ensures.placed.gate)) c.put-2.ensures.passes
      (one_within g.D.Disk.seen g.D.Disk.may_leave g.D.Disk.moment g.D.Disk.left_since g.met.D.Disk.seen_is_left (c.resolve.new.self.gate + 1) (length c.args.framed.now) limit c.resolve.new.self.disk c.put.new.disk
      (omega (arith, le, c.resolve.ensures.placed.gate)) c.put.ensures.passes (c.resolve.ensures.within file told limit before));
}

pub returns-clause-grown : goal.returns-clause-grown
returns-clause-grown g c = λ file told. record {
  start_is = c.resolve.ensures.placed.start;
  within = λ limit le before.
      one_within g.D.Disk.seen g.D.Disk.may_leave g.D.Disk.moment g.D.Disk.left_since g.met.D.Disk.seen_is_left c.resolve.new.self.gate 1 limit c.put.new.disk c.put-2.new.disk
      (omega (arith, le, c.resolve.ensures.placed.gate)) c.put-2.ensures.passes
      (one_within g.D.Disk.seen g.D.Disk.may_leave g.D.Disk.moment g.D.Disk.left_since g.met.D.Disk.seen_is_left (c.resolve.new.self.gate + 1) (length c.args.framed.now) limit c.resolve.new.self.disk c.put.new.disk
      (omega (arith, le, c.resolve.ensures.placed.gate)) c.put.ensures.passes (c.resolve.ensures.within file told limit before));
}
