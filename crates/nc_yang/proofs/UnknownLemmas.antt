-- Lines that name no feature of modules, by the statements of these.
use Rattle.std.proofs.Common.{◌≡◌, ℕ, true, false, List, subst}
use Rattle.std.specs.Prelude.{Option, Some, None, slice_get, IsSomeAnd, MatchOption}
use Rattle.std.specs.List.{All}
use Rattle.nc_yang_words.specs.declared.statement.Statement.{Statement}
use Rattle.nc_yang.specs.declared.text.ModuleText.{ModuleText}
use Rattle.nc_yang.specs.Access.{HaveStatements}
use Rattle.nc_yang.specs.Features.{IsFirstOther, IsFirstUnknown, NamesFeature, is_feature}
use Rattle.nc_yang.proofs.Reading.{have_one_way}

some_map : {A : Type 0} (P Q : A → Type 0) (found : Option A) → ((x : A) → P x → Q x) → IsSomeAnd found P → IsSomeAnd found Q
some_map P Q None further is = is
some_map P Q (Some x) further is = further x is

pub known : (modules : List ModuleText) (lines : List (List ℕ)) (texts : List Statement) (found : Option ℕ) → HaveStatements modules texts
    → MatchOption found (All (λ line. is_feature texts line ≡ true) lines) (IsFirstOther texts lines)
    → MatchOption found (All (NamesFeature modules) lines) (IsFirstUnknown modules lines)
known modules lines texts None have all = λ k d less. record { texts = texts; have = have; names = all k d less }
known modules lines texts (Some place) have first = record {
  before = λ k d less. record { texts = texts; have = have; names = first.before k d less };
  unknown = some_map (λ line. is_feature texts line ≡ false) (λ line. NamesFeature modules line → ⊥) (slice_get lines place) other first.other;
}
  where
    other : (line : List ℕ) → is_feature texts line ≡ false → NamesFeature modules line → ⊥
    other line none names =
        let same = have_one_way modules names.texts texts names.have have in
        let there : is_feature texts line ≡ true = subst (λ ts. is_feature ts line ≡ true) same names.names in
        cc
