use Rattle.std.proofs.Common.{◌≡◌, ℕ, ◌+◌, ◌<◌, ◌≤◌, List, length, map, nat_eq, Option, Some, Result, refl, sym, ◌∙◌, ap, subst, arith}
use Rattle.std.proofs.lemmas.Result.{err_from_is_err_and}
use Rattle.nc_journal.specs.Files.{At}
use Rattle.nc_journal.proofs.Areas.{area_of}
use Rattle.nc_journal.specs.Opening.{IsArea, IsFront}
use Rattle.nc_journal.proofs.Once.{fronts_once}
use Rattle.nc_journal.proofs.FaultLemmas.{refused_on, refused_here, stuck_refused}
use Rattle.nc_journal.specs.Refusing.{short_header}
use Rattle.nc_journal.proofs.Headers.{header_within}
use Rattle.nc_journal.proofs.whole.read_whole.Goals as goal
use Rattle.nc_journal.specs.declared.front.Front.{Front}
use Rattle.nc_journal.specs.declared.walk.Walked.{Walked}

pub returns-in_err-front-clause-why : goal.returns-in_err-front-clause-why
returns-in_err-front-clause-why g c =
    let p = err_from_is_err_and c.from_residual.result c.from_residual.ensures.1 in
    refused_on Front _ c.from_residual.result c.in_err-front.field-0.0 p.0 _ _ p.1 p.2 c.in_err-front.ensures.why (λ f why file told long old.
    why file told long c.args.header.now old)

pub returns-in_err-at-clause-why : goal.returns-in_err-at-clause-why
returns-in_err-at-clause-why g c =
    let p = err_from_is_err_and c.from_residual-in_err-at.result c.from_residual-in_err-at.ensures.1 in
    refused_on ℕ _ c.from_residual-in_err-at.result c.in_err-at.field-0.0 p.0 _ _ p.1 p.2 c.in_err-at.ensures.none (λ f why file told long old.
    let front = c.in_ok-front.ensures.sound file told long in
    refused_here c.args.header.now c.args.size f file why.0
    (short_header c.in_ok-front.front.byte c.in_ok-front.front.place
    (subst (λ s. IsFront file c.in_ok-front.front.byte s c.in_ok-front.front.place) front.second_is front)
    (why.1 file (c.is_ours.ensures.only_reads.same ∙ c.front_of.ensures.only_reads.same ∙ told) long) (sym long)))

pub returns-then-not-branch-clause-why : goal.returns-then-not-branch-clause-why
returns-then-not-branch-clause-why g c = λ file told long old.
    let front = c.in_ok-front.ensures.sound file told long in
    let one = c.front_of.ensures.only_reads.same ∙ told in
    let other = c.in_ok-at.ensures.other file (c.is_ours.ensures.only_reads.same ∙ one) long in
    record {
      byte = c.in_ok-front.front.byte;
      place = c.in_ok-front.front.place;
      front = subst (λ s. IsFront file c.in_ok-front.front.byte s c.in_ok-front.front.place) front.second_is front;
      ours = other.ours;
      our_features = other.our_features;
      is_ours = other.is_ours;
      theirs = other.theirs.modules;
      their_features = other.theirs.features;
      other = other.theirs.header;
      is_theirs = other.theirs.is;
      stands = other.theirs.stands;
      not_ours = λ same. c.in_ok-is_ours.ensures.other c.if-not-branch.true file one long
          (omega (arith, ap length same, (header_within c.in_ok-front.front.place file other.theirs).1))
          (subst (λ (l : List ℕ). At c.in_ok-front.front.place l file) same other.theirs.stands);
      differs = other.differs;
    }

pub returns-in_err-walked-clause-why : goal.returns-in_err-walked-clause-why
returns-in_err-walked-clause-why g c =
    let p = err_from_is_err_and c.from_residual-in_err-walked.result c.from_residual-in_err-walked.ensures.1 in
    refused_on Walked _ c.from_residual-in_err-walked.result c.in_err-walked.field-0.0 p.0 _ _ p.1 p.2 c.in_err-walked.ensures.why (λ f why file told long old.
    let front = c.in_ok-front.ensures.sound file told long in
    let one = c.front_of.ensures.only_reads.same ∙ told in
    stuck_refused c.args.header.now c.in_ok-front.front.byte c.in_ok-front.front.place f file
    (subst (λ s. IsFront file c.in_ok-front.front.byte s c.in_ok-front.front.place) front.second_is front)
    (why file (c.is_ours.ensures.only_reads.same ∙ one) long c.args.header.now c.in_ok-front.front.place refl
    ((c.in_ok-is_ours.ensures.ours c.if-not-branch.false).1 file one)))

pub returns-clause-read : goal.returns-clause-read
returns-clause-read g c = λ file told long.
    let front = c.in_ok-front.ensures.sound file told long in
    let one = c.front_of.ensures.only_reads.same ∙ told in
    record {
      byte = c.in_ok-front.front.byte;
      place = c.in_ok-front.front.place;
      gate = c.in_ok-walked.walked.byte;
      front = subst (λ s. IsFront file c.in_ok-front.front.byte s c.in_ok-front.front.place) front.second_is front;
      live = c.in_ok-walked.ensures.sound file (c.is_ours.ensures.only_reads.same ∙ one) c.args.header.now c.in_ok-front.front.place refl
          ((c.in_ok-is_ours.ensures.ours c.if-not-branch.false).1 file one);
    }

pub returns-clause-held : goal.returns-clause-held
returns-clause-held g c = λ file told long bodies doubt holds.
    let held = c.in_ok-front.ensures.held file told long c.args.header.now bodies doubt holds in
    let area = area_of c.args.header.now c.in_ok-front.front.second c.in_ok-front.front.place bodies doubt file held in
    let read = c.in_ok-walked.ensures.read file (c.is_ours.ensures.only_reads.same ∙ c.front_of.ensures.only_reads.same ∙ told) long c.args.header.now c.in_ok-front.front.place bodies area.0 area.1 refl in
    (held, read.0, read.1)

pub returns-clause-names : goal.returns-clause-names
returns-clause-names g c = λ file told long.
    let front = c.in_ok-front.ensures.sound file told long in
    let one = c.front_of.ensures.only_reads.same ∙ told in
    let two = c.is_ours.ensures.only_reads.same ∙ one in
    let live = c.in_ok-walked.ensures.sound file two c.args.header.now c.in_ok-front.front.place refl ((c.in_ok-is_ours.ensures.ours c.if-not-branch.false).1 file one) in
    let walked = c.in_ok-walked.ensures.read file two long c.args.header.now c.in_ok-front.front.place _ c.in_ok-walked.walked.byte live refl in (
      record { opened = front.opened; slot = front.slot; behind = front.low; fits = front.fits; area = live.area; small = live.small },
      walked.1,
      front.second_is,
    )
