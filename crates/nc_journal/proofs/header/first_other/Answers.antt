use Rattle.std.proofs.Common.{◌≡◌, ℕ, length, sym, ◌∙◌}
use Rattle.std.proofs.lemmas.Result.{err_from_is_err_and}
use Rattle.nc_journal.proofs.FaultLemmas.{refused_on}
use Rattle.nc_journal.proofs.header.first_other.Goals as goal

pub returns-in_err-count-clause-none : goal.returns-in_err-count-clause-none
returns-in_err-count-clause-none g c =
    let p = err_from_is_err_and c.from_residual.result c.from_residual.ensures.1 in
    refused_on ℕ _ c.from_residual.result c.in_err-count.field-0.0 p.0 _ _ p.1 p.2 c.in_err-count.ensures.none (λ f why. why)

pub returns-clause-other : goal.returns-clause-other
returns-clause-other g c = λ file told long.
    let read = c.in_ok-count.ensures.sound file told long in
    record {
      ours = c.requires.ours.0;
      our_features = c.requires.ours.1;
      is_ours = c.requires.ours.2;
      theirs = read.has;
      differs = c.in_ok-common.ensures.differs file (c.modules_of.ensures.only_reads.same ∙ told)
          c.requires.ours.0 c.requires.ours.1 c.requires.ours.2 read.has read.count_is;
    }
