use Rattle.std.proofs.Common.{◌≡◌, ◌∷◌, [], subst, lit<, eqb}
use Rattle.std.specs.List.{slice_split}
use Rattle.std.specs.Option.{MatchOption}
use Rattle.nc_names.specs.Signs.{slash}
use Rattle.nc_yang_data.proofs.WordLemmas.{name_by}
use Rattle.nc_yang_data.proofs.words.next_name.Goals as goal

pub returns-in-Some : goal.returns-in-Some
returns-in-Some c =
    subst (λ r. MatchOption r (slice_split (λ c. eqb c slash) c.args.text.now ≡ c.args.text.now ∷ [])
    (λ x. slice_split (λ c. eqb c slash) c.args.text.now ≡ x.0.now ∷ slice_split (λ c. eqb c slash) x.1.now)) c.in-Some.is
    (name_by c.args.text.now c.split_once.result (c.split_once.ensures.byte (lit< tt) (λ w o h. h)))

pub returns-in-None : goal.returns-in-None
returns-in-None c =
    subst (λ r. MatchOption r (slice_split (λ c. eqb c slash) c.args.text.now ≡ c.args.text.now ∷ [])
    (λ x. slice_split (λ c. eqb c slash) c.args.text.now ≡ x.0.now ∷ slice_split (λ c. eqb c slash) x.1.now)) c.in-None.is
    (name_by c.args.text.now c.split_once.result (c.split_once.ensures.byte (lit< tt) (λ w o h. h)))
