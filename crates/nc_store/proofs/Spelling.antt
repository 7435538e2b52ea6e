-- The configuration that bodies stand for, and what is found of it.
use Rattle.std.proofs.Common.{◌≡◌, ◌∙◌, ◌≤◌, ◌-◌, inl, inr, ℕ, List, [], ◌∷◌, ◌++◌, length, Option, Some, None, refl, sym, ap, subst, arith}
use Rattle.std.specs.Option.{option_map}
use Rattle.std.specs.Prelude.{slice_get}
use Rattle.nc_names.specs.Limits.{body_limit}
use Rattle.nc_names.specs.declared.path.Row.{Row}
use Rattle.nc_protocol.proofs.ListLemmas.{last_same}
use Rattle.nc_protocol.specs.Refusals.{violation_cause, violation_in}
use Rattle.nc_protocol.specs.declared.request.Cause.{Cause}
use Rattle.nc_record.proofs.Above.{Ends, at_end, ends}
use Rattle.nc_record.specs.Reading.{AreTexts, IsRead}
use Rattle.nc_schema.proofs.RecordLemmas.{size_is}
use Rattle.nc_schema.specs.Configuration.{IsConfiguration}
use Rattle.nc_schema.specs.Record.{record_body, record_size}
use Rattle.nc_schema.specs.Tables.{Tables}
use Rattle.nc_schema.specs.Violations.{IsValid, violations}
use Rattle.nc_store.specs.Reopening.{IsBase, IsValidRecord, last_record, no_record}
use Rattle.nc_store.specs.inner.Finding.{FindsBase, FindsRecord, FindsValid}

-- ---- valid configurations
no_first : {X Y : Type 0} (f : X → Y) (xs : List X) → option_map f (slice_get xs 0) ≡ None → xs ≡ []
no_first f [] is = refl
no_first f (x ∷ xs) is = cc is

pub is_valid : (tables : Tables) (rows : List Row) → violation_in tables rows ≡ None → IsValid tables rows
is_valid tables rows none = no_first violation_cause (violations tables rows) none

pub not_valid : (tables : Tables) (rows : List Row) (cause : Cause) → violation_in tables rows ≡ Some cause → ¬ IsValid tables rows
not_valid tables rows cause some valid =
    absurd (let none : violation_in tables rows ≡ None = ap (λ found. option_map violation_cause (slice_get found 0)) valid in cc)

-- ---- one body
pub record_found : (tables : Tables) (body : List ℕ) (rows : List Row) → IsRead tables body rows → ((other : List Row) → IsRead tables body other → other ≡ rows)
    → (found : Option (List Row)) → FindsValid tables rows found → FindsRecord tables body found
record_found tables body rows read one (Some found) (same, valid) =
    (record { read = subst (IsRead tables body) (sym same) read; valid = subst (IsValid tables) (sym same) valid }, λ other it. one other it.read ∙ sym same)
record_found tables body rows read one None none = λ other it. none (subst (IsValid tables) (one other it.read) it.valid)

pub none_found : (tables : Tables) (body : List ℕ) → ((rows : List Row) → ¬ IsRead tables body rows) → FindsRecord tables body None
none_found tables body none = λ rows it. none rows it.read

-- a configuration that is written
pub written_record : (tables : Tables) (rows : List Row) → IsConfiguration tables rows → IsValid tables rows → record_size rows ≤ body_limit → AreTexts rows → IsValidRecord tables (record_body rows) rows
written_record tables rows configuration valid small texts = record {
  read = record {
    within = let long = size_is rows in omega (arith, long, small);
    spells = record { configuration = configuration; body_is = refl };
    texts = texts;
  };
  valid = valid;
}

-- ---- bodies
push_some : (xs : List (List ℕ)) (x : List ℕ) → xs ++ x ∷ [] ≡ [] → ⊥
push_some [] x e = absurd (cc)
push_some (a ∷ xs) x e = absurd (cc)

pub last_split : {X : Type 0} (xs : List X) (x : X) → slice_get xs (length xs - 1) ≡ Some x → (front : List X) × (xs ≡ front ++ x ∷ [])
last_split {X} xs x is = by (ends xs)
  where
    by : Ends xs → (front : List X) × (xs ≡ front ++ x ∷ [])
    by (inl e) = absurd (let none : slice_get xs (length xs - 1) ≡ None = ap (λ l. slice_get l (length l - 1)) e in cc)
    by (inr (front, y, e)) =
        let at : slice_get xs (length xs - 1) ≡ Some y = ap (λ l. slice_get l (length l - 1)) e ∙ at_end front y in
        let same : y ≡ x = (let h : Some y ≡ Some x = sym at ∙ is in cc) in
        (front, e ∙ ap (λ z. front ++ z ∷ []) same)

pub none_last : {X : Type 0} (xs : List X) → slice_get xs (length xs - 1) ≡ None → xs ≡ []
none_last {X} xs is = by (ends xs)
  where
    by : Ends xs → xs ≡ []
    by (inl e) = e
    by (inr (front, y, e)) =
        absurd (let at : slice_get xs (length xs - 1) ≡ Some y = ap (λ l. slice_get l (length l - 1)) e ∙ at_end front y in cc)

pub base_found : (tables : Tables) (initial : List Row) (bodies front : List (List ℕ)) (body : List ℕ) → bodies ≡ front ++ body ∷ []
    → (found : Option (List Row)) → FindsRecord tables body found → FindsBase tables initial bodies found
base_found tables initial bodies front body is (Some rows) (it, one) = (last_record front body is it, other)
  where
    other : (also : List Row) → IsBase tables initial bodies also → also ≡ rows
    other also (no_record none same) = absurd (push_some front body (sym is ∙ none))
    other also (last_record earlier last is_too it_too) =
        one also (subst (λ b. IsValidRecord tables b also) (last_same earlier front last body (sym is_too ∙ is)) it_too)
base_found tables initial bodies front body is None none = absent
  where
    absent : (rows : List Row) → ¬ IsBase tables initial bodies rows
    absent rows (no_record empty same) = push_some front body (sym is ∙ empty)
    absent rows (last_record earlier last is_too it) =
        none rows (subst (λ b. IsValidRecord tables b rows) (last_same earlier front last body (sym is_too ∙ is)) it)

pub initial_found : (tables : Tables) (initial rows : List Row) (bodies : List (List ℕ)) → bodies ≡ [] → rows ≡ initial → FindsBase tables initial bodies (Some rows)
initial_found tables initial rows bodies empty same = (no_record empty same, other)
  where
    other : (also : List Row) → IsBase tables initial bodies also → also ≡ rows
    other also (no_record none is) = is ∙ sym same
    other also (last_record earlier body is it) = absurd (push_some earlier body (sym is ∙ empty))

-- where none is found, there is a last body, which spells none
pub none_last_record : (tables : Tables) (initial : List Row) (bodies : List (List ℕ)) → FindsBase tables initial bodies None
    → (front : List (List ℕ)) × (body : List ℕ) × (bodies ≡ front ++ body ∷ []) × ((rows : List Row) → ¬ IsValidRecord tables body rows)
none_last_record tables initial bodies none = by (ends bodies)
  where
    by : Ends bodies → (front : List (List ℕ)) × (body : List ℕ) × (bodies ≡ front ++ body ∷ []) × ((rows : List Row) → ¬ IsValidRecord tables body rows)
    by (inl e) = absurd (none initial (no_record e refl))
    by (inr (front, body, e)) = (front, body, e, λ rows it. none rows (last_record front body e it))
