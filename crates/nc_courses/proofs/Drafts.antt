-- Rows that the candidate gets, unless they are its own.
use Rattle.std.proofs.Common.{◌≡◌, ◌↔◌, ◌∙◌, Bool, true, false, cond, not, List, Option, Some, None, refl, sym, ap, Bor}
use Rattle.std.specs.Prelude.{IsTrue, unwrap_or}
use Rattle.std.specs.Option.{option_copied}
use Rattle.nc_names.proofs.SameLemmas.{rows_decide}
use Rattle.nc_names.specs.Same.{is_same_rows}
use Rattle.nc_names.specs.declared.path.Row.{Row}
use Rattle.nc_names.specs.declared.path.Step.{Step}
use Rattle.nc_schema.specs.Blocks.{row_at}
use Rattle.nc_model.specs.State.{State, candidate_in_force}
use Rattle.nc_model.specs.Step.{with_candidate}

-- a candidate that is modified has its own rows after they are put in their own place
pub put_over : (s : State) (held rows : List Row) → Some held ≡ s.candidate → record s { candidate = Some rows } ≡ with_candidate s (Some rows)
put_over s held rows is = by (is_same_rows rows (candidate_in_force s)) refl
  where
    by : (b : Bool) → is_same_rows rows (candidate_in_force s) ≡ b → record s { candidate = Some rows } ≡ cond b s (record s { candidate = Some rows })
    by true e = λ i. record s { candidate = (ap Some ((rows_decide rows (candidate_in_force s)).0 e ∙ in_force) ∙ is) i }
      where
        in_force : candidate_in_force s ≡ held
        in_force = λ i. unwrap_or (sym is i) s.running
    by false e = refl

in_force_running : (s : State) → None ≡ s.candidate → candidate_in_force s ≡ s.running
in_force_running s is = λ i. unwrap_or (sym is i) s.running

-- one that is not modified is compared with running
pub put_on_running : (s : State) (rows : List Row) (same : Bool) → None ≡ s.candidate → same ≡ is_same_rows rows s.running → not same ≡ true →
    record s { candidate = Some rows } ≡ with_candidate s (Some rows)
put_on_running s rows true is was other = absurd (cc other)
put_on_running s rows false is was other =
    ap (λ b. cond b s (record s { candidate = Some rows })) (was ∙ ap (is_same_rows rows) (sym (in_force_running s is)))

pub left_on_running : (s : State) (rows : List Row) (same : Bool) → None ≡ s.candidate → same ≡ is_same_rows rows s.running → not same ≡ false →
    s ≡ with_candidate s (Some rows)
left_on_running s rows false is was other = absurd (cc other)
left_on_running s rows true is was other =
    ap (λ b. cond b s (record s { candidate = Some rows })) (was ∙ ap (is_same_rows rows) (sym (in_force_running s is)))

pub some_decides : {X : Type 0} (x y : X) (result : Bool) → (IsTrue result ↔ (x ≡ y)) → IsTrue result ↔ (Some x ≡ Some y)
some_decides x y result is = (λ e. ap Some (is.0 e), λ same. is.1 (ap (λ o. unwrap_or o x) same))

-- configurations that differ at a path differ
pub apart_at : (one two : List Row) (steps : List Step) (row other : Option (Bor Row)) (same : Bool) → option_copied row ≡ row_at one steps → option_copied other ≡ row_at two steps →
    (option_copied row ≡ option_copied other → IsTrue same) → same ≡ false → is_same_rows one two ≡ false
apart_at one two steps row other same first second all differ = by (is_same_rows one two) refl
  where
    by : (b : Bool) → is_same_rows one two ≡ b → b ≡ false
    by false e = refl
    by true e =
        let they : same ≡ true = all (first ∙ ap (λ (rows : List Row). row_at rows steps) ((rows_decide one two).0 e) ∙ sym second) in
        absurd (cc (they, differ))
