-- The connections of a script, each found by its number.
use Rattle.std.proofs.Common.{◌≡◌, ◌≢◌, ◌<◌, ℕ, suc, Bool, true, false, cond, List, [], ◌∷◌, ◌++◌, length, get_or, Option, None, Some, refl, sym, ap, subst, ◌∙◌, append_assoc, arith}
use Rattle.std.specs.List.{All, AllZip}
use Rattle.std.specs.Ordering.{MatchOrdering, is_eq, nat_cmp}
use Rattle.std.specs.declared.cmp.Ordering.{Ordering}
use Rattle.std.specs.declared.cmp.Ordering.TheVariants.{Less, Equal, Greater}
use Rattle.std.proofs.lemmas.Cmp.{ranked}
use Rattle.std.proofs.lemmas.List.{map-append}
use Rattle.std.proofs.lemmas.List.Elements.{All-append, All-cons, All-head, All-nil, All-push, All-tail}
use Rattle.std.proofs.Math.ListN.{set}
use Rattle.nc_script.specs.Connections.{Connection, IsClosed, IsNew}
use Rattle.nc_script.specs.inner.Boards.{FindsOpen, IsOpenAt, IsPlace, StandsAt, numbers}

-- ---- two lists, element by element
pub zip_push : {A B : Type 0} (R : A → B → Type 0) (xs : List A) (ys : List B) (x : A) (y : B) → AllZip R xs ys → R x y
    → AllZip R (xs ++ x ∷ []) (ys ++ y ∷ [])
zip_push R [] [] x y all is = (is, tt)
zip_push R [] (b ∷ ys) x y all is = absurd all
zip_push R (a ∷ xs) [] x y all is = absurd all
zip_push R (a ∷ xs) (b ∷ ys) x y all is = (all.0, zip_push R xs ys x y all.1 is)

pub zip_length : {A B : Type 0} (R : A → B → Type 0) (xs : List A) (ys : List B) → AllZip R xs ys → length xs ≡ length ys
zip_length R [] [] all = refl
zip_length R [] (b ∷ ys) all = absurd all
zip_length R (a ∷ xs) [] all = absurd all
zip_length R (a ∷ xs) (b ∷ ys) all = ap suc (zip_length R xs ys all.1)

pub record ZipAt {A B : Type 0} (R : A → B → Type 0) (xs : List A) (front : List B) (y : B) (behind : List B) : Type 0 where
  pub within : length front < length xs
  pub item : (d : A) → R (get_or xs (length front) d) y
  pub with : (x : A) (z : B) → R x z → AllZip R (set xs (length front) x) (front ++ z ∷ behind)

pub zip_at : {A B : Type 0} (R : A → B → Type 0) (xs : List A) (front : List B) (y : B) (behind : List B)
    → AllZip R xs (front ++ y ∷ behind) → ZipAt R xs front y behind
zip_at R [] [] y behind all = absurd all
zip_at R [] (f ∷ front) y behind all = absurd all
zip_at R (x ∷ xs) [] y behind all = record {
  within = omega arith;
  item = λ d. all.0;
  with = λ other z is. (is, all.1);
}
zip_at R (x ∷ xs) (f ∷ front) y behind all =
    let r = zip_at R xs front y behind all.1 in
    record {
      within = omega (arith, r.within);
      item = λ d. r.item d;
      with = λ other z is. (all.0, r.with other z is);
    }

-- ---- where a number stands
pub record Split (connections : List Connection) (front : List ℕ) (number : ℕ) (behind : List ℕ) : Type 0 where
  pub before : List Connection
  pub after : List Connection
  pub connection : Connection
  pub connections_are : connections ≡ before ++ connection ∷ after
  pub number_is : connection.number ≡ number
  pub before_are : numbers before ≡ front
  pub after_are : numbers after ≡ behind
  pub place : length before ≡ length front

pub split : (connections : List Connection) (front : List ℕ) (number : ℕ) (behind : List ℕ)
    → numbers connections ≡ front ++ number ∷ behind → Split connections front number behind
split [] [] number behind e = absurd (cc e)
split [] (f ∷ front) number behind e = absurd (cc e)
split (c ∷ connections) [] number behind e = record {
  before = [];
  after = connections;
  connection = c;
  connections_are = refl;
  number_is = cc e;
  before_are = refl;
  after_are = cc e;
  place = refl;
}
split (c ∷ connections) (f ∷ front) number behind e =
    let tails : numbers connections ≡ front ++ number ∷ behind = cc e in
    let head : c.number ≡ f = cc e in
    let r = split connections front number behind tails in
    record {
      before = c ∷ r.before;
      after = r.after;
      connection = r.connection;
      connections_are = ap (λ cs. c ∷ cs) r.connections_are;
      number_is = r.number_is;
      before_are = λ i. head i ∷ r.before_are i;
      after_are = r.after_are;
      place = ap suc r.place;
    }

-- ---- a connection that is not there, or that the script has ended
new_from : (number : ℕ) (connections : List Connection) → All (λ n. n ≢ number) (numbers connections) → IsNew number connections
new_from number [] all = All-nil (λ c. c.number ≢ number)
new_from number (c ∷ connections) all =
    All-cons (λ x. x.number ≢ number) c connections (All-head (λ n. n ≢ number) c.number (numbers connections) all)
    (new_from number connections (All-tail (λ n. n ≢ number) c.number (numbers connections) all))

pub is_new : (number : ℕ) (connections : List Connection) → IsPlace (numbers connections) number None → IsNew number connections
is_new number connections all = new_from number connections all

abbrev Over : ℕ → Connection → Type 0
Over number c = c.number ≡ number → c.is_over ≡ true

closed_from : (number : ℕ) (connections : List Connection) → All (λ n. n ≢ number) (numbers connections) → IsClosed number connections
closed_from number [] all = All-nil (Over number)
closed_from number (c ∷ connections) all =
    All-cons (Over number) c connections (λ is. absurd (All-head (λ n. n ≢ number) c.number (numbers connections) all is))
    (closed_from number connections (All-tail (λ n. n ≢ number) c.number (numbers connections) all))

pub closed_none : (number many : ℕ) (connections : List Connection) → IsPlace (numbers connections) number None
    → FindsOpen number connections many None
closed_none number many connections all = closed_from number connections all

closed_at : (number : ℕ) (connections : List Connection) (front behind : List ℕ) (s : Split connections front number behind)
    → All (λ n. n ≢ number) front → All (λ n. n ≢ number) behind → s.connection.is_over ≡ true → IsClosed number connections
closed_at number connections front behind s before after over =
    subst (λ cs. IsClosed number cs) (sym s.connections_are)
    (All-append (Over number) s.before (s.connection ∷ s.after)
    (closed_from number s.before (subst (All (λ n. n ≢ number)) (sym s.before_are) before))
    (All-cons (Over number) s.connection s.after (λ is. over)
    (closed_from number s.after (subst (All (λ n. n ≢ number)) (sym s.after_are) after))))

-- ---- the connection of a number, by its place
module _ {A : Type 0} (R : A → Connection → Type 0) (is_over : A → Bool) (over_is : (x : A) (c : Connection) → R x c → c.is_over ≡ is_over x)
    (xs : List A) (connections : List Connection) (each : AllZip R xs connections) (number place : ℕ)
    (at : StandsAt (numbers connections) number place) where
  there : Split connections at.front number at.behind
  there = split connections at.front number at.behind at.numbers_are

  zipped : ZipAt R xs there.before there.connection there.after
  zipped = zip_at R xs there.before there.connection there.after (subst (AllZip R xs) there.connections_are each)

  place_is : length there.before ≡ place
  place_is = there.place ∙ at.place_is

  pub place_within : place < length xs
  place_within = subst (λ n. n < length xs) place_is zipped.within

  pub closed_over : (d : A) → is_over (get_or xs place d) ≡ true → IsClosed number connections
  closed_over d over =
      closed_at number connections at.front at.behind there at.before at.after
      (over_is (get_or xs (length there.before) d) there.connection (zipped.item d)
      ∙ (ap (λ n. is_over (get_or xs n d)) place_is ∙ over))

  pub open_at : (d : A) → is_over (get_or xs place d) ≡ false → IsOpenAt number place connections
  open_at d unended = record {
    front = there.before;
    behind = there.after;
    connection = there.connection;
    connections_are = there.connections_are;
    place_is = place_is;
    number_is = there.number_is;
    unended =
        over_is (get_or xs (length there.before) d) there.connection (zipped.item d)
        ∙ (ap (λ n. is_over (get_or xs n d)) place_is ∙ unended);
  }

-- ---- one number more
same_or : (number other : ℕ) (o : Ordering) → MatchOrdering o (number < other) (number ≡ other) (other < number)
    → (is_eq o ≡ true → number ≡ other) × (is_eq o ≡ false → number ≢ other)
same_or number other Less is = (λ e. cc e, λ e same. omega (arith, is, same))
same_or number other Equal is = (λ e. is, λ e. cc e)
same_or number other Greater is = (λ e. cc e, λ e same. omega (arith, is, same))

ties : (number other : ℕ) → (is_eq (nat_cmp number other) ≡ true → number ≡ other) × (is_eq (nat_cmp number other) ≡ false → number ≢ other)
ties number other = same_or number other (nat_cmp number other) (ranked number other (nat_cmp number other) refl)

place_stays : (ns : List ℕ) (number other : ℕ) (found : Option ℕ) → number ≢ other → IsPlace ns other found
    → IsPlace (ns ++ number ∷ []) other found
place_stays ns number other None apart all = All-push (λ n. n ≢ other) ns number all apart
place_stays ns number other (Some place) apart at = record {
  front = at.front;
  behind = at.behind ++ number ∷ [];
  numbers_are = ap (λ xs. xs ++ number ∷ []) at.numbers_are ∙ append_assoc at.front (other ∷ at.behind) (number ∷ []);
  place_is = at.place_is;
  before = at.before;
  after = All-push (λ n. n ≢ other) at.behind number at.after apart;
}

place_new : (ns : List ℕ) (number : ℕ) → All (λ n. n ≢ number) ns → StandsAt (ns ++ number ∷ []) number (length ns)
place_new ns number all = record {
  front = ns;
  behind = [];
  numbers_are = refl;
  place_is = refl;
  before = all;
  after = All-nil (λ n. n ≢ number);
}

pub place_more : (ns : List ℕ) (number place : ℕ) (old new : ℕ → Option ℕ) → All (λ n. n ≢ number) ns → length ns ≡ place
    → ((q : ℕ) → IsPlace ns q (old q)) → ((q : ℕ) → new q ≡ cond (is_eq (nat_cmp number q)) (Some place) (old q))
    → (q : ℕ) → IsPlace (ns ++ number ∷ []) q (new q)
place_more ns number place old new none at places updates q =
    subst (IsPlace (ns ++ number ∷ []) q) (sym (updates q)) (by (is_eq (nat_cmp number q)) (ties number q))
  where
    by : (b : Bool) → ((b ≡ true → number ≡ q) × (b ≡ false → number ≢ q)) → IsPlace (ns ++ number ∷ []) q (cond b (Some place) (old q))
    by true same =
        subst (λ n. StandsAt (ns ++ number ∷ []) n place) (same.0 refl)
        (subst (λ p. StandsAt (ns ++ number ∷ []) number p) at (place_new ns number none))
    by false same = place_stays ns number q (old q) (same.1 refl) (places q)

pub numbers_more : (connections : List Connection) (c : Connection) → numbers (connections ++ c ∷ []) ≡ numbers connections ++ c.number ∷ []
numbers_more connections c = map-append (λ (x : Connection). x.number) connections (c ∷ [])

pub numbers_same : (front behind : List Connection) (old new : Connection) → new.number ≡ old.number
    → numbers (front ++ new ∷ behind) ≡ numbers (front ++ old ∷ behind)
numbers_same [] behind old new same = ap (λ n. n ∷ numbers behind) same
numbers_same (c ∷ front) behind old new same = ap (λ ns. c.number ∷ ns) (numbers_same front behind old new same)
