-- Defaults that leafs and leaf-lists take over.
use Rattle.std.proofs.Common.{◌≡◌, ℕ, Bool, true, false, List, refl, sym, ap, subst, ◌∙◌}
use Rattle.std.specs.Prelude.{Option, Some, None, Result, Ok, Err, slice_get, option_map, option_and_then, IfOk, MatchOption}
use Rattle.nc_yang_words.specs.declared.statement.Statement.{Statement}
use Rattle.nc_yang_statements.specs.declared.fault.Fault.{Fault}
use Rattle.nc_yang_statements.specs.declared.fault.ModuleWhy.TheVariants.{BadArgument}
use Rattle.nc_yang_statements.specs.declared.keyword.Keyword.TheVariants.{TypeName}
use Rattle.nc_yang_statements.specs.Statements.{below, kind, line, name}
use Rattle.nc_yang_scopes.specs.Numbers.{IsNumber}
use Rattle.nc_yang_scopes.specs.Parts.{part_of}
use Rattle.nc_yang_scopes.specs.Scopes.{Located, Scoping}
use Rattle.nc_yang_scopes.specs.inner.Naming.{HasNumber}
use Rattle.nc_yang_scopes.proofs.PartLemmas.{statement_is}
use Rattle.nc_yang_types.specs.Defaults.{AreDefaults, Brings, IsDefault, default_at}
use Rattle.nc_yang_types.specs.Faults.{TakesConditional, TakesOver, takes_over}
use Rattle.nc_yang_types.specs.Plans.{AreMeanings}
use Rattle.nc_yang_types.specs.inner.Judging.{TellsTaken, TellsTaking}
use Rattle.nc_yang_types.specs.declared.planned.Meanings.{Meanings}
use Rattle.nc_yang_types.proofs.ConditionalLemmas.{means_some, type_there}
use Rattle.nc_yang_types.proofs.DefaultLemmas.{one_default}

-- what is told of the default that a type brings
module _ (scoping : Scoping) (meanings : Meanings) (defaults : List (Option ℕ)) (k : ℕ) where
  abbrev TellsAt : Bool → Option ℕ → Type 0
  TellsAt told o = MatchOption (option_and_then (slice_get scoping.located) o) (told ≡ false) (λ l. TellsTaking meanings k (name l.statement) told)

  pub untold_none : None ≡ default_at defaults k → TellsTaken scoping meanings defaults k false
  untold_none none = subst (TellsAt false) none refl

  pub untold_past : (d : ℕ) → Some d ≡ default_at defaults k → None ≡ option_map (λ (l : Located). l.statement) (slice_get scoping.located d) → TellsTaken scoping meanings defaults k false
  untold_past d is none = subst (TellsAt false) is (by (slice_get scoping.located d) none)
    where
      by : (o : Option Located) → None ≡ option_map (λ (l : Located). l.statement) o → MatchOption o (false ≡ false) (λ l. TellsTaking meanings k (name l.statement) false)
      by None e = refl
      by (Some l) e = absurd (cc)

  pub told_taken : {E : Type 0} (d : ℕ) → Some d ≡ default_at defaults k → (s : Statement) → Some s ≡ option_map (λ (l : Located). l.statement) (slice_get scoping.located d) → (text : List ℕ) → text ≡ name s →
      (result : Result Bool E) → IfOk result (TellsTaking meanings k text) → IfOk result (TellsTaken scoping meanings defaults k)
  told_taken d is s there text same (Err fault) tells = tt
  told_taken d is s there text same (Ok told) tells = subst (TellsAt told) is (by (slice_get scoping.located d) there)
    where
      by : (o : Option Located) → Some s ≡ option_map (λ (l : Located). l.statement) o → MatchOption o (told ≡ false) (λ l. TellsTaking meanings k (name l.statement) told)
      by None e = absurd (cc)
      by (Some l) e = let one : s ≡ l.statement = cc in subst (λ z. TellsTaking meanings k z told) (same ∙ ap name one) tells

module _ (scoping : Scoping) (meanings : Meanings) (n : ℕ) (s : Statement) (number : HasNumber scoping n s) (on : ℕ → List ℕ → Bool) (are : AreMeanings on scoping meanings) (l : Located) (here : slice_get scoping.located n ≡ Some l) where
  same : l.statement ≡ s
  same = statement_is scoping n s l number here

  takes_here : (b : Bool) → takes_over (kind s) (below s) ≡ b → takes_over (kind l.statement) (below l.statement) ≡ b
  takes_here b e = ap (λ z. takes_over (kind z) (below z)) same ∙ e

  pub takes_none : takes_over (kind s) (below s) ≡ false → (fault : Fault) → TakesOver on scoping.texts l fault → ⊥
  takes_none e fault h = let f = takes_here false e in let g = h.takes in cc (f, g)

  pub takes_untyped : IsNumber scoping.located None (part_of TypeName l) → (fault : Fault) → TakesOver on scoping.texts l fault → ⊥
  takes_untyped none fault h = let e : None ≡ Some (Some h.of_type) = none ∙ ap (option_map Some) h.is_type in cc

  module _ (k : ℕ) (typed : IsNumber scoping.located (Some k) (part_of TypeName l)) (defaults : List (Option ℕ)) (known : AreDefaults scoping defaults) (told : Bool) (tells : TellsTaken scoping meanings defaults k told) where
    abbrev its_type : (c : Located) × (part_of TypeName l ≡ Some c) × (slice_get scoping.located k ≡ Some c)
    its_type = type_there scoping meanings n s number on are l here k typed

    -- what is told of a default, where there is one
    abbrev TellsOf : Option Located → Type 0
    TellsOf o = MatchOption o (told ≡ false) (λ d. TellsTaking meanings k (name d.statement) told)

    -- the default that the type brings, which means something where it lists something
    brought : (text : List ℕ) → TakesConditional on scoping.texts its_type.0 text → IsDefault scoping its_type.0 (default_at defaults k)
    brought text takes = let m = means_some on scoping.texts its_type.0 text takes in known on k its_type.0 m.0 its_type.2 m.1

    found_at : (fault : Fault) → takes_over (kind s) (below s) ≡ true → fault ≡ record { line = line s; why = BadArgument } → (d : ℕ) → default_at defaults k ≡ Some d →
        (o : Option Located) → slice_get scoping.located d ≡ o → told ≡ true → TellsOf o → TakesOver on scoping.texts l fault
    found_at fault takes fault_is d is None none so f = absurd (cc (so, f))
    found_at fault takes fault_is d is (Some default) there so f =
        let conditional = (f scoping on are its_type.0 its_type.2).0 so in
        let b : IsDefault scoping its_type.0 (Some d) = subst (IsDefault scoping its_type.0) is (brought (name default.statement) conditional) in
        let both : Some b.0 ≡ Some default = sym b.1 ∙ there in
        let one : b.0 ≡ default = cc in
        record {
          takes = takes_here true takes;
          of_type = its_type.0;
          is_type = its_type.1;
          default = default;
          brings = subst (Brings scoping.texts its_type.0) one b.2;
          conditional = conditional;
          at = fault_is ∙ ap (λ z. record { line = line z; why = BadArgument }) (sym same);
        }

    pub taken_found : (fault : Fault) → takes_over (kind s) (below s) ≡ true → told ≡ true → fault ≡ record { line = line s; why = BadArgument } → TakesOver on scoping.texts l fault
    taken_found fault takes so fault_is = by (default_at defaults k) refl tells
      where
        by : (o : Option ℕ) → default_at defaults k ≡ o → TellsOf (option_and_then (slice_get scoping.located) o) → TakesOver on scoping.texts l fault
        by None e f = absurd (cc (so, f))
        by (Some d) e f = found_at fault takes fault_is d e (slice_get scoping.located d) refl so f

    pub taken_not : told ≡ false → (fault : Fault) → TakesOver on scoping.texts l fault → ⊥
    taken_not none fault h =
        let two : Some h.of_type ≡ Some its_type.0 = sym h.is_type ∙ its_type.1 in
        let same_type : h.of_type ≡ its_type.0 = cc in
        let conditional : TakesConditional on scoping.texts its_type.0 (name h.default.statement) = subst (λ z. TakesConditional on scoping.texts z (name h.default.statement)) same_type h.conditional in
        let brings : Brings scoping.texts its_type.0 h.default = subst (λ z. Brings scoping.texts z h.default) same_type h.brings in
        by h.default conditional brings (default_at defaults k) refl (brought (name h.default.statement) conditional)
      where
        by : (default : Located) → TakesConditional on scoping.texts its_type.0 (name default.statement) → Brings scoping.texts its_type.0 default →
            (o : Option ℕ) → default_at defaults k ≡ o → IsDefault scoping its_type.0 o → ⊥
        by default conditional brings None e b = b default brings
        by default conditional brings (Some d) e b =
            let one : b.0 ≡ default = one_default scoping.texts its_type.0 b.0 default b.2 brings in
            let of_one : TellsOf (Some b.0) = subst TellsOf b.1 (subst (λ o. TellsOf (option_and_then (slice_get scoping.located) o)) e tells) in
            let of_it : TellsOf (Some default) = subst (λ (z : Located). TellsOf (Some z)) one of_one in
            let so : told ≡ true = (of_it scoping on are its_type.0 its_type.2).1 conditional in
            cc (so, none)
