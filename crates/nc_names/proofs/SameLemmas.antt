-- Two names, steps, paths, values or rows are the same exactly where they are equal.
use Rattle.std.proofs.Common.{◌≡◌, ◌==◌, ◌&&◌, ℕ, Bool, true, false, List, refl, ◌≢◌, sym, ◌∙◌}
use Rattle.std.specs.Prelude.{Option, Some, None, Decides}
use Rattle.std.specs.Cmp.Lexicographic.{pointwise_decides, bytes_decides}
use Rattle.std.proofs.lemmas.Bool.Decides.{Decides-eqb}
use Rattle.nc_names.specs.declared.name.QName.{QName}
use Rattle.nc_names.specs.declared.path.Row.{Row}
use Rattle.nc_names.specs.declared.path.Step.{Step}
use Rattle.nc_names.specs.Same.{is_same_text, is_same_name, is_same_keys, is_same_step, is_same_path, is_same_value, is_same_row, is_same_rows}

pub first_true : (a b : Bool) → (a && b) ≡ true → a ≡ true
first_true true b e = refl
first_true false b e = e

pub second_true : (a b : Bool) → (a && b) ≡ true → b ≡ true
second_true true b e = e
second_true false b e = cc

pub both_true : (a b : Bool) → a ≡ true → b ≡ true → (a && b) ≡ true
both_true a b e f = cc

pub name_decide : (a b : QName) → Decides (is_same_name a b) (a ≡ b)
name_decide a b =
    let spaces = bytes_decides a.space b.space in
    let names = bytes_decides a.name b.name in (
      (λ e i. record {
        space = spaces.0 (first_true (is_same_text a.space b.space) (is_same_text a.name b.name) e) i;
        name = names.0 (second_true (is_same_text a.space b.space) (is_same_text a.name b.name) e) i;
      }),
      (λ e. both_true (is_same_text a.space b.space) (is_same_text a.name b.name)
          (spaces.1 (λ i. (e i).space)) (names.1 (λ i. (e i).name))),
    )

pub keys_decide : (a b : List (List ℕ)) → Decides (is_same_keys a b) (a ≡ b)
keys_decide = pointwise_decides bytes_decides

pub step_decide : (a b : Step) → Decides (is_same_step a b) (a ≡ b)
step_decide a b =
    let numbers = Decides-eqb a.node b.node in
    let keys = keys_decide a.keys b.keys in (
      (λ e i. record {
        node = numbers.0 (first_true (a.node == b.node) (is_same_keys a.keys b.keys) e) i;
        keys = keys.0 (second_true (a.node == b.node) (is_same_keys a.keys b.keys) e) i;
      }),
      (λ e. both_true (a.node == b.node) (is_same_keys a.keys b.keys)
          (numbers.1 (λ i. (e i).node)) (keys.1 (λ i. (e i).keys))),
    )

pub step_itself : (step : Step) → is_same_step step step ≡ true
step_itself step = (step_decide step step).1 refl

-- where the test fails, two steps differ
pub steps_differ : (a b : Step) → is_same_step a b ≡ false → a ≢ b
steps_differ a b other same = let is = (step_decide a b).1 same in let clash : true ≡ false = sym is ∙ other in cc

pub path_decide : (a b : List Step) → Decides (is_same_path a b) (a ≡ b)
path_decide = pointwise_decides step_decide

pub value_decide : (a b : Option (List ℕ)) → Decides (is_same_value a b) (a ≡ b)
value_decide None None = ((λ e. refl), (λ e. refl))
value_decide (Some x) (Some y) = ((λ e i. Some ((bytes_decides x y).0 e i)), (λ e. (bytes_decides x y).1 cc))
value_decide None (Some y) = ((λ e. cc), (λ e. cc))
value_decide (Some x) None = ((λ e. cc), (λ e. cc))

pub row_decide : (a b : Row) → Decides (is_same_row a b) (a ≡ b)
row_decide a b =
    let steps = path_decide a.path.steps b.path.steps in
    let values = value_decide a.value b.value in (
      (λ e i. record {
        path = record {
          steps = steps.0 (first_true (is_same_path a.path.steps b.path.steps) (is_same_value a.value b.value) e) i;
        };
        value = values.0 (second_true (is_same_path a.path.steps b.path.steps) (is_same_value a.value b.value) e) i;
      }),
      (λ e. both_true (is_same_path a.path.steps b.path.steps) (is_same_value a.value b.value)
          (steps.1 (λ i. (e i).path.steps)) (values.1 (λ i. (e i).value))),
    )

pub rows_decide : (a b : List Row) → Decides (is_same_rows a b) (a ≡ b)
rows_decide = pointwise_decides row_decide
