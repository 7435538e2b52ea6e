use Rattle.std.proofs.Common.{◌∙◌, sym, refl}
use Rattle.std.specs.Prelude.{◌==◌}
use Rattle.std.proofs.lemmas.Bool.{false_from_ne_true}
use Rattle.std.proofs.lemmas.Bool.Decides.{Decides-eqb}
use Rattle.nc_message_read.proofs.Resolving.{reference_step, line_step, plain_step}
use Rattle.nc_message_read.proofs.text.push_first.Goals as goal

pub returns-then-begins_reference-clause-read : goal.returns-then-begins_reference-clause-read
returns-then-begins_reference-clause-read c =
    reference_step c.args.refers c.args.in_value c.args.first c.in-Some.count c.in-Some.sign c.args.more.now c.tail.result.now c.args.out.now c.push_sign.new.out
    (sym c.begins_reference.ensures ∙ c.if-begins_reference.true) (sym c.reference.ensures.read ∙ c.in-Some.is) c.tail.ensures c.in_ok-push_sign.ensures

pub returns-then-first-eq13-clause-read : goal.returns-then-first-eq13-clause-read
returns-then-first-eq13-clause-read c =
    line_step c.args.refers c.args.in_value c.args.first c.plain.result c.args.more.now c.after_line_feed.result.now c.args.out.now c.push.new.self
    (sym c.begins_reference.ensures ∙ c.if-begins_reference.false) ((Decides-eqb c.args.first 13).1 c.if-first-eq13.true) c.plain.ensures c.after_line_feed.ensures.rest c.in_ok-push.ensures.ok

pub returns-clause-read : goal.returns-clause-read
returns-clause-read c =
    plain_step c.args.refers c.args.in_value c.args.first c.plain-2.result c.args.more.now c.args.more.now c.args.out.now c.push-2.new.self
    (sym c.begins_reference.ensures ∙ c.if-begins_reference.false) (false_from_ne_true (c.args.first == 13) (λ e. c.if-first-eq13.false ((Decides-eqb c.args.first 13).0 e))) c.plain-2.ensures refl c.in_ok-push-2.ensures.ok
