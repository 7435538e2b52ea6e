use Rattle.std.proofs.Common.{rules, ◌≡◌, ◌<◌, ◌≤◌, ◌+◌, ℕ, List, length, take, subst, sym, ◌∙◌}
use Rattle.std.specs.Result.{MatchResult}
use Rattle.std.proofs.lemmas.Result.{err_from_is_err_and}
use Rattle.nc_yang.specs.Texts.{AreRead, IsUnread, OnModule, AreEachRead}
use Rattle.nc_yang.proofs.TextReading.{too_many, too_long, unread, each_more_at, each_whole}
use Rattle.nc_yang.proofs.read.read_texts.Goals as goal

pub returns-then-texts-gt-MODULE_LIMIT : goal.returns-then-texts-gt-MODULE_LIMIT
returns-then-texts-gt-MODULE_LIMIT c = too_many c.args.texts.now c.past.result c.past.ensures c.if-texts-gt-MODULE_LIMIT.true

pub returns-in-Some : goal.returns-in-Some
returns-in-Some c = too_long c.args.texts.now c.in-Some.file c.past-in-Some.result c.past-in-Some.ensures (sym c.first_long.ensures ∙ c.in-Some.is)

pub loop-file-preserved : goal.loop-file-preserved
loop-file-preserved c =
    subst (AreEachRead (take (c.loop-file.file + 1) c.args.texts.now)) (sym c.in_ok-push.ensures.ok)
    (each_more_at c.args.texts.now c.loop-file.roots c.loop-file.file c.index-texts-file.result c.in_ok-read_text.field-0
    c.loop-file-test.true c.index-texts-file.is c.loop-file.invariant c.in_ok-read_text.ensures)

pub returns-in_err-read_text : goal.returns-in_err-read_text
returns-in_err-read_text c =
    let p = err_from_is_err_and c.from_residual.result c.from_residual.ensures.1 in
    subst (λ r. MatchResult r (AreRead c.args.texts.now) (OnModule (IsUnread c.args.texts.now))) (sym p.1)
    (subst (OnModule (IsUnread c.args.texts.now)) (sym p.2)
    (unread c.args.texts.now c.loop-file.file c.index-texts-file.result c.in_err-read_text.field-0.0 c.loop-file-test.true c.index-texts-file.is c.in_err-read_text.ensures))

pub returns : goal.returns
returns c = record { few = c.if-texts-gt-MODULE_LIMIT.false; short = sym c.first_long.ensures ∙ c.in_default.is; each = each_whole c.args.texts.now c.loop-file.roots c.loop-file.file c.loop-file-test.false c.loop-file.invariant }
