use Rattle.std.proofs.Common.{arith, rules, ◌++◌, true, encode_utf8, ap, ◌∙◌, append_assoc}
use Rattle.std.proofs.lemmas.Grind.{common_steps}
use Rattle.nc_yang_words.specs.Signs.{utf8}
use Rattle.nc_yang_words.proofs.Doubles.{moved}
use Rattle.nc_yang_words.proofs.double.Double.take.Goals as goal
use Rattle.nc_yang_words.proofs.double.Double.take.Goals.{else-sign-eq13-via-then-sign-eq13+else-breaks, else-sign-eq13-via-else-sign-eq13}

pub returns-then-self : goal.returns-then-self
returns-then-self c = λ count after e.
    let d = c.args.self.now in
    moved d c.end_line.new.self (encode_utf8 c.in-Some.meant) count c.args.sign after (search rules) (search rules)

pub returns-then-sign-eq92 : goal.returns-then-sign-eq92
returns-then-sign-eq92 c = λ count after e.
    let d = c.args.self.now in
    moved d (record c.keep-then-sign-eq92.new.self { escaped = true }) (utf8 d.held.items) count c.args.sign after (search rules) (search rules)

pub returns-then-sign-eq10 : goal.returns-then-sign-eq10
returns-then-sign-eq10 c = λ count after e.
    let d = c.args.self.now in
    moved d c.end_line-then-sign-eq10.new.self (encode_utf8 c.args.sign) count c.args.sign after (search rules) (search rules)

pub returns-then-breaks : goal.returns-then-breaks
returns-then-breaks c = λ count after e.
    let d = c.args.self.now in
    moved d c.end_line-then-breaks.new.self (encode_utf8 c.args.sign) count c.args.sign after (search rules) (search rules)

pub returns : goal.returns
returns c = λ count after e.
    let d = c.args.self.now in
    moved d (record c.keep-2.new.self { text = c.push.new.self }) (utf8 d.held.items ++ encode_utf8 c.args.sign) count c.args.sign after
    (c.in_ok-push.ensures.ok ∙ (ap (λ t. t ++ encode_utf8 c.args.sign) c.in_ok-keep-3.ensures.text ∙ append_assoc d.text (utf8 d.held.items) (encode_utf8 c.args.sign)))
    (elim c.else-sign-eq13.branch [
      | else-sign-eq13-via-then-sign-eq13+else-breaks w ↦ search rules
      | else-sign-eq13-via-else-sign-eq13 w ↦ grind (arith, common_steps)
    ])
