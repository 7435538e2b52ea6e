-- Numbers to which edges lead from a number, one or more of them.
use Rattle.std.proofs.Common.{inl, inr, ◌≡◌, ◌<◌, ◌≤◌, ◌⊎◌, ◌==◌, ℕ, Bool, true, List, [], ◌∷◌, ◌++◌, length, get_or, refl, sym, ap, subst, ◌∙◌, arith}
use Rattle.std.specs.Prelude.{Some, None, Result, Ok, Err, slice_get, unwrap_or, Contains, IfOk}
use Rattle.std.specs.List.{list_all}
use Rattle.std.proofs.lemmas.Bool.{cases_lt}
use Rattle.std.proofs.lemmas.Bool.Decides.{Decides-eqb}
use Rattle.std.proofs.lemmas.List.Elements.{Contains-append_cases}
use Rattle.std.proofs.lemmas.Option.{slice_get-get_or, slice_get_past}
use Rattle.nc_names.proofs.SameLemmas.{first_true, second_true}
use Rattle.nc_yang_order.proofs.Lists.{contains_none, contains_one}
use Rattle.nc_yang_order.specs.Orders.{EachAfter, Reaches, further, here, targets}
use Rattle.nc_yang_order.specs.Reaching.{IsLed, IsReached}
use Rattle.nc_yang_order.specs.declared.reach.Reach.{Reach}
use Rattle.nc_yang_scopes.proofs.LinkLists.{contains_cases}
use Rattle.nc_yang_types.specs.inner.Nested.{IsReachedFrom}

no_items : (xs : List ℕ) → (length xs == 0) ≡ true → xs ≡ []
no_items [] e = refl
no_items (x ∷ xs) e = let none : length (x ∷ xs) ≡ 0 = (Decides-eqb (length (x ∷ xs)) 0).0 e in absurd (omega (arith, none))

-- what a test of all says of each
all_pass : (test : ℕ → Bool) (xs : List ℕ) → list_all test xs ≡ true → (x : ℕ) → Contains xs x → test x ≡ true
all_pass test [] e x h = absurd (contains_none x h)
all_pass test (y ∷ ys) e x h = elim (contains_cases y ys x h) [
  | inl same ↦ ap test (sym same) ∙ first_true (test y) (list_all test ys) e
  | inr later ↦ all_pass test ys (second_true (test y) (list_all test ys) e) x later
]

module _ (graph : List (List ℕ)) where
  pub edge_within : (n t : ℕ) → Contains (targets graph n) t → n < length graph
  edge_within n t edge = by (cases_lt n (length graph))
    where
      by : (n < length graph) ⊎ (length graph ≤ n) → n < length graph
      by (inl less) = less
      by (inr past) = absurd (contains_none t (subst (λ ts. Contains ts t) (ap (λ o. unwrap_or o []) (slice_get_past graph n past)) edge))

  pub way_within : (n last : ℕ) → Reaches graph n last → last < length graph → n < length graph
  way_within _ _ (here n) less = less
  way_within _ _ (further n t last edge rest) less = edge_within n t edge

  onward : (n last t : ℕ) → Reaches graph n last → Contains (targets graph last) t → Reaches graph n t
  onward _ _ t (here n) edge = further n t t edge (here t)
  onward _ _ t (further n m last first rest) edge = further n m t first (onward m last t rest edge)

  -- ---- from one number
  module _ (number : ℕ) where
    one_edge : (t : ℕ) → Contains (targets graph number) t → Reaches graph number t
    one_edge t edge = further number t t edge (here t)

    pub reached_none : slice_get graph number ≡ None → IsReachedFrom graph number []
    reached_none none = record {
      only = λ last h. absurd (contains_none last h);
      all = λ t last edge rest less. absurd (contains_none t (subst (λ ts. Contains ts t) (ap (λ o. unwrap_or o []) none) edge));
    }

    module _ (row : List ℕ) (at : slice_get graph number ≡ Some row) where
      targets_are : targets graph number ≡ row
      targets_are = ap (λ o. unwrap_or o []) at

      edge_of : (t : ℕ) → Contains row t → Contains (targets graph number) t
      edge_of t h = subst (λ ts. Contains ts t) (sym targets_are) h

      -- where its targets are the last
      pub reached_last : list_all (λ n. length (targets graph n) == 0) row ≡ true → IsReachedFrom graph number row
      reached_last are_last = record { only = λ last h. one_edge last (edge_of last h); all = λ t last edge rest less. by t last (subst (λ ts. Contains ts t) targets_are edge) rest }
        where
          by : (t last : ℕ) → Contains row t → Reaches graph t last → Contains row last
          by _ _ h (here t) = h
          by _ _ h (further t m last edge rest) =
              let none = no_items (targets graph t) (all_pass (λ n. length (targets graph n) == 0) row are_last t h) in
              absurd (contains_none m (subst (λ ts. Contains ts m) none edge))

      -- or what a search finds from them
      module _ (reach : Reach) (reached : IsReached graph row reach) where
        led : (before : List ℕ) (n : ℕ) → ((m : ℕ) → Contains before m → Reaches graph number m) → IsLed graph row before n → Reaches graph number n
        led before n so_far (inl start) = one_edge n (edge_of n start)
        led before n so_far (inr (from, was, edge)) = onward number from n (so_far from was) edge

        all_led : (before found : List ℕ) → ((m : ℕ) → Contains before m → Reaches graph number m) → EachAfter (IsLed graph row) before found → (n : ℕ) → Contains found n → Reaches graph number n
        all_led before [] so_far each n h = absurd (contains_none n h)
        all_led before (x ∷ found) so_far each n h = elim (contains_cases x found n h) [
          | inl same ↦ subst (Reaches graph number) same first
          | inr later ↦ all_led (before ++ x ∷ []) found more each.1 n later
        ]
          where
            first : Reaches graph number x
            first = led before x so_far each.0

            more : (m : ℕ) → Contains (before ++ x ∷ []) m → Reaches graph number m
            more m within = elim (Contains-append_cases before (x ∷ []) m within) [
              | inl earlier ↦ so_far m earlier
              | inr now ↦ subst (Reaches graph number) (contains_one x m now) first
            ]

        follow : (t last : ℕ) → Contains reach.found t → Reaches graph t last → last < length graph → Contains reach.found last
        follow _ _ h (here t) less = h
        follow _ _ h (further t m last edge rest) less = follow m last (reached.followed t m h edge (way_within m last rest less)) rest less

        pub reached_found : IsReachedFrom graph number reach.found
        reached_found = record {
          only = all_led [] reach.found (λ m h. absurd (contains_none m h)) reached.led;
          all = λ t last edge rest less. follow t last (reached.started t (subst (λ ts. Contains ts t) targets_are edge) (way_within t last rest less)) rest less;
        }

    -- the same by what code has of them
    module _ (row : List ℕ) (within : number < length graph) (is : row ≡ get_or graph number row) (slice : List ℕ) (slice_is : slice ≡ row) where
      row_at : slice_get graph number ≡ Some row
      row_at = slice_get-get_or graph number row within ∙ ap Some (sym is)

      pub copied_last : list_all (λ n. length (targets graph n) == 0) row ≡ true → {E : Type 0} (result : Result (List ℕ) E) → IfOk result (λ it. it ≡ slice) → IfOk result (IsReachedFrom graph number)
      copied_last are_last (Ok it) same = subst (IsReachedFrom graph number) (sym (same ∙ slice_is)) (reached_last row row_at are_last)
      copied_last are_last (Err fault) same = tt

      pub found_from : (reach : Reach) (found : List ℕ) → IsReached graph slice reach → found ≡ reach.found → IsReachedFrom graph number found
      found_from reach found reached same =
          subst (IsReachedFrom graph number) (sym same) (reached_found row row_at reach (subst (λ starts. IsReached graph starts reach) slice_is reached))
