-- Two lists of bindings are the same exactly where they are equal.
use Rattle.std.proofs.Common.{◌≡◌, List}
use Rattle.std.specs.Prelude.{Decides}
use Rattle.std.specs.Cmp.Lexicographic.{bytes_decides, pointwise, pointwise_decides}
use Rattle.nc_names.proofs.SameLemmas.{both_true, first_true, second_true}
use Rattle.nc_names.specs.Same.{is_same_text}
use Rattle.nc_names.specs.declared.name.Bound.{Bound}
use Rattle.nc_message.specs.Bindings.{is_same_bound}

bound_decide : (a b : Bound) → Decides (is_same_bound a b) (a ≡ b)
bound_decide a b =
    let prefixes = bytes_decides a.prefix b.prefix in
    let spaces = bytes_decides a.space b.space in (
      (λ e i. record {
        prefix = prefixes.0 (first_true (is_same_text a.prefix b.prefix) (is_same_text a.space b.space) e) i;
        space = spaces.0 (second_true (is_same_text a.prefix b.prefix) (is_same_text a.space b.space) e) i;
      }),
      (λ e. both_true (is_same_text a.prefix b.prefix) (is_same_text a.space b.space)
          (prefixes.1 (λ i. (e i).prefix)) (spaces.1 (λ i. (e i).space))),
    )

pub bounds_decide : (a b : List Bound) → Decides (pointwise is_same_bound a b) (a ≡ b)
bounds_decide = pointwise_decides bound_decide
