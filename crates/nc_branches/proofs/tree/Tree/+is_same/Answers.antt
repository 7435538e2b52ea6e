use Rattle.std.proofs.Common.{◌≡◌, ◌∙◌, false, true, ap, sym, rules}
use Rattle.std.proofs.lemmas.Bool.Decides.{not_from_Decides}
use Rattle.nc_branches.proofs.SameRows.{below_differs, left_differs, own_differs, right_decides}
use Rattle.nc_branches.specs.declared.tree.Fork.{Fork}
use Rattle.nc_branches.proofs.tree.Tree.+is_same.Goals as goal

pub returns-then-not-has_own_of : goal.returns-then-not-has_own_of
returns-then-not-has_own_of t c =
    let like : c.is_like.result ≡ true = search rules in
    let differ : c.has_own_of.result ≡ false = search rules in
    own_differs c.args.self.now c.args.other.now c.in-Some.one.now c.in-Some-fork.two.now c.in-Some.ensures c.in-Some-fork.ensures (c.is_like.ensures like)
    (not_from_Decides c.has_own_of.result c.has_own_of.ensures differ)

pub returns-then-not-is_same : goal.returns-then-not-is_same
returns-then-not-is_same t c =
    let like : c.is_like.result ≡ true = search rules in
    let differ : c.is_same.result ≡ false = search rules in
    let one = ap (λ (f : Fork). f.left.rows) c.one.view_is in
    let two = ap (λ (f : Fork). f.left.rows) c.two.view_is in
    left_differs c.args.self.now c.args.other.now c.in-Some.one.now c.in-Some-fork.two.now c.in-Some.ensures c.in-Some-fork.ensures (c.is_like.ensures like)
    (λ same. not_from_Decides c.is_same.result c.is_same.ensures differ (one ∙ same ∙ sym two))

pub returns-then-not-is_same-2 : goal.returns-then-not-is_same-2
returns-then-not-is_same-2 t c =
    let like : c.is_like.result ≡ true = search rules in
    let differ : c.is_same-2.result ≡ false = search rules in
    let one = ap (λ (f : Fork). f.twig.below.rows) c.one.view_is in
    let two = ap (λ (f : Fork). f.twig.below.rows) c.two.view_is in
    below_differs c.args.self.now c.args.other.now c.in-Some.one.now c.in-Some-fork.two.now c.in-Some.ensures c.in-Some-fork.ensures (c.is_like.ensures like)
    (λ same. not_from_Decides c.is_same-2.result c.is_same-2.ensures differ (one ∙ same ∙ sym two))

pub returns : goal.returns
returns t c =
    let like : c.is_like.result ≡ true = search rules in
    let own : c.has_own_of.result ≡ true = search rules in
    let left : c.is_same.result ≡ true = search rules in
    let below : c.is_same-2.result ≡ true = search rules in
    let left_one = ap (λ (f : Fork). f.left.rows) c.one.view_is in
    let left_two = ap (λ (f : Fork). f.left.rows) c.two.view_is in
    let below_one = ap (λ (f : Fork). f.twig.below.rows) c.one.view_is in
    let below_two = ap (λ (f : Fork). f.twig.below.rows) c.two.view_is in
    let right_one = ap (λ (f : Fork). f.right.rows) c.one.view_is in
    let right_two = ap (λ (f : Fork). f.right.rows) c.two.view_is in
    right_decides c.args.self.now c.args.other.now c.in-Some.one.now c.in-Some-fork.two.now c.in-Some.ensures c.in-Some-fork.ensures (c.is_like.ensures like)
    (c.has_own_of.ensures.0 own) (sym left_one ∙ c.is_same.ensures.0 left ∙ left_two) (sym below_one ∙ c.is_same-2.ensures.0 below ∙ below_two)
    c.is_same-3.result (λ e. sym right_one ∙ c.is_same-3.ensures.0 e ∙ right_two, λ same. c.is_same-3.ensures.1 (right_one ∙ same ∙ sym right_two))
