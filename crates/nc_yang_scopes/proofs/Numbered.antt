-- Statements under numbers.
use Rattle.std.proofs.Common.{inl, inr, ◌≡◌, ◌<◌, ◌≤◌, ◌+◌, ◌-◌, ◌⊎◌, ℕ, zero, suc, List, [], ◌∷◌, ◌++◌, length, take, map, refl, sym, ap, subst, ◌∙◌, arith, add-zero, append-nil, append_assoc, length-append}
use Rattle.std.specs.Prelude.{Option, Some, None, slice_get, option_map, IfSome}
use Rattle.std.proofs.lemmas.Bool.{cases_lt}
use Rattle.std.proofs.lemmas.List.{take-append-le, length-take-le}
use Rattle.nc_yang_words.specs.declared.statement.Statement.{Statement}
use Rattle.nc_yang_statements.specs.Statements.{below}
use Rattle.nc_yang_scopes.specs.Numbers.{Entry, roots, children, opened}
use Rattle.nc_yang_scopes.specs.inner.Frames.{first_in, AreBehind, IsBehind, IsPart}
use Rattle.nc_yang_scopes.proofs.Lists.{get_left, get_right, get_within, past_end, take_next}

opened_push : (number : ℕ) (entries : List Entry) (entry : Entry) (at : ℕ) → number + length entries ≡ at →
    opened number (entries ++ entry ∷ []) ≡ opened number entries ++ children at entry
opened_push number [] entry at is = let e : number ≡ at = omega arith in append-nil (children number entry) ∙ ap (λ n. children n entry) e
opened_push number (first ∷ entries) entry at is =
    ap (λ more. children number first ++ more) (opened_push (number + 1) entries entry at (omega arith))
    ∙ sym (append_assoc (children number first) (opened (number + 1) entries) (children at entry))

pub length_roots : (number : ℕ) (texts : List Statement) → length (roots number texts) ≡ length texts
length_roots number [] = refl
length_roots number (s ∷ texts) = ap suc (length_roots (number + 1) texts)

root_outer : (number : ℕ) (texts : List Statement) (i : ℕ) (entry : Entry) → slice_get (roots number texts) i ≡ Some entry → entry.outer ≡ None
root_outer number [] i entry is = absurd (cc)
root_outer number (s ∷ texts) zero entry is = sym (let same : (record { statement = s; text = number; outer = None }) ≡ entry = cc in ap (λ (e : Entry). e.outer) same)
root_outer number (s ∷ texts) (suc i) entry is = root_outer (number + 1) texts i entry is

pub child_outer : (number : ℕ) (entry : Entry) (i : ℕ) (child : Entry) → slice_get (children number entry) i ≡ Some child → child.outer ≡ Some number
child_outer number entry i child is = by (below entry.statement) i is
  where
    by : (ss : List Statement) (i : ℕ) → slice_get (map (λ s. record { statement = s; text = entry.text; outer = Some number }) ss) i ≡ Some child → child.outer ≡ Some number
    by [] i is = absurd (cc)
    by (s ∷ ss) zero is = sym (let same : (record { statement = s; text = entry.text; outer = Some number }) ≡ child = cc in ap (λ (e : Entry). e.outer) same)
    by (s ∷ ss) (suc i) is = by ss i is

pub child_text : (number : ℕ) (entry : Entry) (i : ℕ) (child : Entry) → slice_get (children number entry) i ≡ Some child → child.text ≡ entry.text
child_text number entry i child is = by (below entry.statement) i is
  where
    by : (ss : List Statement) (i : ℕ) → slice_get (map (λ s. record { statement = s; text = entry.text; outer = Some number }) ss) i ≡ Some child → child.text ≡ entry.text
    by [] i is = absurd (cc)
    by (s ∷ ss) zero is = sym (let same : (record { statement = s; text = entry.text; outer = Some number }) ≡ child = cc in ap (λ (e : Entry). e.text) same)
    by (s ∷ ss) (suc i) is = by ss i is

pub part_begins : (texts : List Statement) → IsPart texts (roots 0 texts) [] 0
part_begins texts = record {
  within = omega arith;
  whole = sym (append-nil (roots 0 texts));
  counted = refl;
  firsts_are = λ number less. absurd (omega arith);
  later = λ number less. absurd (omega arith);
  behind = λ number entry is. subst (λ o. IfSome o (IsBehind (roots 0 texts) number entry)) (sym (root_outer 0 texts number entry is)) tt;
}

-- one statement more whose own have numbers
module _ (texts : List Statement) (entries : List Entry) (firsts : List ℕ) (count : ℕ) (entry : Entry) (here : slice_get entries count ≡ Some entry) (part : IsPart texts entries firsts count) where
  abbrev more : List Entry
  more = entries ++ children count entry

  less : count < length entries
  less = get_within entries count entry here

  taken : (number : ℕ) → number ≤ count → take number more ≡ take number entries
  taken number le = take-append-le number entries (children count entry) (omega (arith, less))

  length_is : length entries ≡ first_in texts entries count
  length_is = ap length part.whole ∙ length-append (roots 0 texts) (opened 0 (take count entries)) ∙ ap (λ n. n + length (opened 0 (take count entries))) (length_roots 0 texts)

  opened_more : opened 0 (take (count + 1) more) ≡ opened 0 (take count entries) ++ children count entry
  opened_more =
      ap (opened 0) (take-append-le (count + 1) entries (children count entry) (omega (arith, less)) ∙ take_next entries count entry here)
      ∙ opened_push 0 (take count entries) entry count (omega (arith, length-take-le count entries (omega (arith, less))))

  behind_kept : (number : ℕ) (child : Entry) (outer : Option ℕ) → number < length entries → IfSome outer (IsBehind entries number child) → IfSome outer (IsBehind more number child)
  behind_kept number child None left h = tt
  behind_kept number child (Some o) left h =
      (h.0, ap (option_map (λ (e : Entry). e.text)) (get_left entries (children count entry) o (omega (arith, h.0))) ∙ h.1)

  behind_more : AreBehind more
  behind_more number child is = by (cases_lt number (length entries))
    where
      by : (number < length entries) ⊎ (length entries ≤ number) → IfSome child.outer (IsBehind more number child)
      by (inl left) = behind_kept number child child.outer left (part.behind number child (sym (get_left entries (children count entry) number left) ∙ is))
      by (inr right) =
          let at : number ≡ length entries + (number - length entries) = omega arith in
          let there : slice_get (children count entry) (number - length entries) ≡ Some child = sym (get_right entries (children count entry) (length entries) (number - length entries) refl) ∙ sym (ap (slice_get more) at) ∙ is in
          let above : slice_get more count ≡ Some entry = get_left entries (children count entry) count less ∙ here in
          subst (λ o. IfSome o (IsBehind more number child)) (sym (child_outer count entry (number - length entries) child there))
          (omega (arith, less), ap (option_map (λ (e : Entry). e.text)) above ∙ ap Some (sym (child_text count entry (number - length entries) child there)))

  firsts_more : (number : ℕ) → number < count + 1 → slice_get (firsts ++ length entries ∷ []) number ≡ Some (first_in texts more number)
  firsts_more number lt = by (cases_lt number count)
    where
      same : number ≤ count → first_in texts entries number ≡ first_in texts more number
      same le = ap (λ es. length texts + length (opened 0 es)) (sym (taken number le))

      by : (number < count) ⊎ (count ≤ number) → slice_get (firsts ++ length entries ∷ []) number ≡ Some (first_in texts more number)
      by (inl left) = get_left firsts (length entries ∷ []) number (omega (arith, part.counted)) ∙ part.firsts_are number left ∙ ap Some (same (omega arith))
      by (inr right) =
          let at : number ≡ count + 0 = omega arith in
          ap (slice_get (firsts ++ length entries ∷ [])) at ∙ get_right firsts (length entries ∷ []) count 0 part.counted
          ∙ ap Some (length_is ∙ ap (first_in texts entries) (sym (at ∙ add-zero count)) ∙ same (omega arith))

  later_more : (number : ℕ) → number < count + 1 → number < first_in texts more number
  later_more number lt = by (cases_lt number count)
    where
      same : number ≤ count → first_in texts entries number ≡ first_in texts more number
      same le = ap (λ es. length texts + length (opened 0 es)) (sym (taken number le))

      by : (number < count) ⊎ (count ≤ number) → number < first_in texts more number
      by (inl left) = subst (λ n. number < n) (same (omega arith)) (part.later number left)
      by (inr right) =
          let at : count ≡ number = omega arith in
          subst (λ n. number < n) (length_is ∙ ap (first_in texts entries) at ∙ same (omega arith)) (omega (arith, less))

  pub part_grows : IsPart texts more (firsts ++ length entries ∷ []) (count + 1)
  part_grows = record {
    within = omega (arith, less, length-append entries (children count entry));
    whole = ap (λ es. es ++ children count entry) part.whole ∙ append_assoc (roots 0 texts) (opened 0 (take count entries)) (children count entry) ∙ ap (λ es. roots 0 texts ++ es) (sym opened_more);
    counted = length-append firsts (length entries ∷ []) ∙ ap (λ n. n + 1) part.counted;
    firsts_are = firsts_more;
    later = later_more;
    behind = behind_more;
  }

-- how the numbering goes on
pub begins_at : (texts : List Statement) (entries : List Entry) (firsts : List ℕ) → entries ≡ roots 0 texts → firsts ≡ [] → IsPart texts entries firsts 0
begins_at texts entries firsts e f =
    subst (λ es. IsPart texts es firsts 0) (sym e) (subst (λ fs. IsPart texts (roots 0 texts) fs 0) (sym f) (part_begins texts))

pub opens_at : (texts : List Statement) (entries : List Entry) (firsts : List ℕ) (count : ℕ) (entry : Entry) (now : List Entry) (firsts_now : List ℕ) → Some entry ≡ slice_get entries count →
    IsPart texts entries firsts count → (now ≡ entries ++ children count entry) × (firsts_now ≡ firsts ++ length entries ∷ []) → IsPart texts now firsts_now (count + 1)
opens_at texts entries firsts count entry now firsts_now here part h =
    subst (λ es. IsPart texts es firsts_now (count + 1)) (sym h.0)
    (subst (λ fs. IsPart texts (entries ++ children count entry) fs (count + 1)) (sym h.1) (part_grows texts entries firsts count entry (sym here) part))

pub ends_at : (texts : List Statement) (entries : List Entry) (firsts : List ℕ) (count : ℕ) → None ≡ slice_get entries count → IsPart texts entries firsts count → IsPart texts entries firsts (length entries)
ends_at texts entries firsts count none part =
    let all : count ≡ length entries = omega (arith, past_end entries count (sym none), part.within) in
    subst (IsPart texts entries firsts) all part
