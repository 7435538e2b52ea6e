use Rattle.std.proofs.Common.{◌≡◌, ℕ, zero, suc, ◌<◌, ◌≤◌, List, [], ◌∷◌, length, All, refl, ◌∙◌, arith}
use Rattle.nc_names.specs.Limits.{body_limit}
use Rattle.trials_journal.proofs.steps.swap.Goals as goal

one_all : (body : List ℕ) → length body ≤ body_limit → All (λ (b : List ℕ). length b ≤ body_limit) (body ∷ [])
one_all body small zero d within = small
one_all body small (suc k) d within = absurd (omega arith)

pub replace-requires : goal.replace-requires
replace-requires g c = (
  c.args.header.now,
  c.args.body.now ∷ [],
  c.requires.sound,
  c.as_slice.ensures ∙ c.in_ok-bytes.ensures,
  one_all c.args.body.now c.requires.small,
  refl,
)

pub returns : goal.returns
returns g c =
    c.replace.ensures.sound c.args.header.now (c.args.body.now ∷ []) (c.as_slice.ensures ∙ c.in_ok-bytes.ensures)
    (one_all c.args.body.now c.requires.small) refl c.requires.sound
