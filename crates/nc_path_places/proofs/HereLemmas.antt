-- Where readers stop, as they answer it.
use Rattle.std.proofs.Common.{◌≡◌, ◌↔◌, ℕ, ◌<◌, Bool, true, false, eqb, IsTrue, List, [], ◌∷◌, Option, Some, None, Result, Ok, Err, IfOk, IfErr, length, Bor, refl, sym, ap, subst, ◌∙◌, arith}
use Rattle.std.proofs.lemmas.Bool.Decides.{Decides-eqb}
use Rattle.nc_names.specs.Ends.{after_white}
use Rattle.nc_names.specs.Signs.{equals, opening_bracket, closing_bracket}
use Rattle.nc_schema.specs.PathWords.{quoted_string, sign}
use Rattle.nc_path_places.specs.declared.halt.Halt.{Halt}
use Rattle.nc_path_places.specs.declared.halt.Halt.TheVariants.{Here, Memory}
use Rattle.nc_path_places.specs.inner.Candidates.{can_be_given, value_left}
use Rattle.nc_path_places.specs.inner.Counted.{OnHere, ReadsNumber}
use Rattle.nc_path_places.specs.inner.Going.{Reading, Keys, KeyNames, Steps, without}
use Rattle.nc_path_places.specs.inner.Halting.{Halts, Leads}
use Rattle.nc_path_places.specs.inner.Places.{KeyThen}
use Rattle.nc_path_places.proofs.Cuts.{halts_on, leads_on}
use Rattle.nc_path_places.proofs.PlaceLemmas.{closing_halts, equals_halts, no_slash_halts, one_predicate_on, value_halts}
use Rattle.nc_path_places.proofs.Spots.{key_leads, without_given}

pub halts_left : (L : List ℕ → Type 0) (text : List ℕ) (n left : ℕ) → left ≡ n → Halts L text n → Halts L text left
halts_left L text n left e halts = subst (Halts L text) (sym e) halts

pub on_led : (L M : List ℕ → Type 0) (text mid : List ℕ) (halt : Halt) → Leads L M text mid → OnHere halt (Halts M mid) → OnHere halt (Halts L text)
on_led L M text mid (Here left) led halts = halts_on L M text mid left led halts
on_led L M text mid Memory led halts = tt

-- the same of what a reader of the rest answers
pub ok_led : {A E : Type 0} (L M : List ℕ → Type 0) (text mid : List ℕ) (left : ℕ) (read : Result A E) → Leads L M text mid → IfOk read (λ done. Halts M mid left) → IfOk read (λ done. Halts L text left)
ok_led L M text mid left (Ok done) led halts = halts_on L M text mid left led halts
ok_led L M text mid left (Err e) led halts = tt

pub err_led : {A : Type 0} (L M : List ℕ → Type 0) (text mid : List ℕ) (read : Result A Halt) → Leads L M text mid → IfErr read (λ halt. OnHere halt (Halts M mid)) → IfErr read (λ halt. OnHere halt (Halts L text))
err_led L M text mid (Ok done) led halts = tt
err_led L M text mid (Err halt) led halts = on_led L M text mid halt led halts

pub reads_some : (o : Option (ℕ × Bor (List ℕ))) (x : ℕ × Bor (List ℕ)) (is : Option (ℕ × List ℕ)) → o ≡ Some x → ReadsNumber o is → is ≡ Some (x.0, x.1.now)
reads_some o x is e reads = subst (λ (p : Option (ℕ × Bor (List ℕ))). ReadsNumber p is) e reads

pub reads_none : (o : Option (ℕ × Bor (List ℕ))) (is : Option (ℕ × List ℕ)) → o ≡ None → ReadsNumber o is → is ≡ None
reads_none o is e reads = subst (λ (p : Option (ℕ × Bor (List ℕ))). ReadsNumber p is) e reads

empty_length : (xs : List ℕ) → xs ≡ [] → length xs ≡ 0
empty_length xs e = ap length e

pub empty_is : (b : Bool) (xs ys : List ℕ) → IsTrue b ↔ (xs ≡ []) → xs ≡ ys → b ≡ true → length ys ≡ 0
empty_is b xs ys is e holds = empty_length ys (sym e ∙ is.0 holds)

pub some_is : (b : Bool) (xs ys : List ℕ) → IsTrue b ↔ (xs ≡ []) → xs ≡ ys → b ≡ false → 0 < length ys
some_is b xs [] is e no_it = absurd (let holds : b ≡ true = is.1 e in let clash : true ≡ false = sym holds ∙ no_it in cc)
some_is b xs (y ∷ ys) is e no_it = omega arith

module _ (s : Reading) (number : ℕ) (left : List ℕ) (given : can_be_given s number left ≡ true) (text : List ℕ) (key : ℕ) (behind : List ℕ) (led : Leads (KeyNames s number left) (KeyThen s number left key) text behind) where
  pub equals_here : (halt : Halt) → OnHere halt (λ n. (sign equals (after_white behind) ≡ None) × (n ≡ length (after_white behind))) → OnHere halt (Halts (KeyNames s number left) text)
  equals_here (Here n) both = halts_left (KeyNames s number left) text (length (after_white behind)) n both.1 (equals_halts s number left given text key behind led both.0)
  equals_here Memory both = tt

  pub value_here : (after : List ℕ) (halt : Halt) → sign equals (after_white behind) ≡ Some after → OnHere halt (λ n. (quoted_string (after_white after) ≡ None) × (n ≡ value_left (after_white after))) → OnHere halt (Halts (KeyNames s number left) text)
  value_here after (Here n) e both = halts_left (KeyNames s number left) text (value_left (after_white after)) n both.1 (value_halts s number left given text key behind led after e both.0)
  value_here after Memory e both = tt

  pub closing_here : (after value last : List ℕ) (halt : Halt) → sign equals (after_white behind) ≡ Some after → quoted_string (after_white after) ≡ Some (value, last) → OnHere halt (λ n. (sign closing_bracket (after_white last) ≡ None) × (n ≡ length (after_white last))) → OnHere halt (Halts (KeyNames s number left) text)
  closing_here after value last (Here n) e f both = halts_left (KeyNames s number left) text (length (after_white last)) n both.1 (closing_halts s number left given text key behind led after value last e f both.0)
  closing_here after value last Memory e f both = tt

-- ---- one predicate more
pub predicate_here : (s : Reading) (number : ℕ) (all left slice : List ℕ) (whole text inside : List ℕ) (halt : Halt) → Leads (Keys s number all) (Keys s number left) whole text → slice ≡ left → sign opening_bracket text ≡ Some inside → OnHere halt (Halts (KeyNames s number slice) inside) → OnHere halt (Halts (Keys s number all) whole)
predicate_here s number all left slice whole text inside halt led same e halts =
    on_led (Keys s number all) (Keys s number left) whole text halt led
    (on_led (Keys s number left) (KeyNames s number left) text inside halt (key_leads s number left text inside e)
    (subst (λ (keys : List ℕ). OnHere halt (Halts (KeyNames s number keys) inside)) same halts))

pub predicate_more : (s : Reading) (number : ℕ) (all left slice other later : List ℕ) (whole text inside rest : List ℕ) (key : ℕ) → can_be_given s number left ≡ true → Leads (Keys s number all) (Keys s number left) whole text → slice ≡ left → other ≡ left → later ≡ without key other → sign opening_bracket text ≡ Some inside → Leads (KeyNames s number slice) (Keys s number (without key slice)) inside rest → Leads (Keys s number all) (Keys s number later) whole rest
predicate_more s number all left slice other later whole text inside rest key given led same same_other is e one =
    let moved : Leads (KeyNames s number left) (Keys s number (without key left)) inside rest = subst (λ (keys : List ℕ). Leads (KeyNames s number keys) (Keys s number (without key keys)) inside rest) same one in
    let lefts : without key left ≡ later = sym (is ∙ ap (without key) same_other) in
    subst (λ (keys : List ℕ). Leads (Keys s number all) (Keys s number keys) whole rest) lefts
    (leads_on (Keys s number all) (Keys s number left) (Keys s number (without key left)) whole text rest led (one_predicate_on s number left given text inside key rest e moved))

pub later_given : (s : Reading) (number : ℕ) (left other later : List ℕ) (key : ℕ) → can_be_given s number left ≡ true → other ≡ left → later ≡ without key other → can_be_given s number later ≡ true
later_given s number left other later key given same is = ap (can_be_given s number) (is ∙ ap (without key) same) ∙ without_given s number key left given

-- ---- the end
pub end_halts : (s : Reading) (above : Option ℕ) (whole text : List ℕ) → Leads (Steps s None) (Steps s above) whole text → eqb (length text) 0 ≡ true → Halts (Steps s None) whole 0
end_halts s above whole [] led e = halts_on (Steps s None) (Steps s above) whole [] 0 led (no_slash_halts s above [] refl)
end_halts s above whole (c ∷ cs) led e = absurd (omega (arith, (Decides-eqb (length (c ∷ cs)) 0).0 e))
