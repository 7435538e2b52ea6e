-- Tables with one statement more.
use Rattle.std.proofs.Common.{◌≡◌, ◌<◌, ◌+◌, ℕ, cond, List, length, take, get_or, sym, ap, ◌∙◌, arith}
use Rattle.std.specs.Prelude.{Some, None, slice_get}
use Rattle.std.specs.List.{position_from}
use Rattle.std.proofs.lemmas.Option.{slice_get-get_or}
use Rattle.nc_names.specs.Same.{is_same_text}
use Rattle.nc_yang_words.specs.declared.statement.Statement.{Statement}
use Rattle.nc_yang_statements.specs.declared.keyword.Keyword.{Keyword}
use Rattle.nc_yang_statements.specs.Statements.{name}
use Rattle.nc_yang_scopes.specs.declared.table.Table.{Table}
use Rattle.nc_yang_scopes.specs.Numbers.{Entry}
use Rattle.nc_yang_scopes.specs.inner.Frames.{IsTable, is_known}
use Rattle.nc_yang_scopes.specs.inner.Names.{IsModules}
use Rattle.nc_yang_scopes.specs.Tables.{KeepsOneMore, either, number_at}
use Rattle.nc_yang_scopes.proofs.Lists.{past_end, position_next}

pub modules_more : (texts : List Statement) (text : ℕ) (s : Statement) (word : List ℕ) (old new : Table) → text < length texts → s ≡ get_or texts text s → word ≡ name s →
    KeepsOneMore old 0 word text new → IsModules (take text texts) old → IsModules (take (text + 1) texts) new
modules_more texts text s word old new within is named keeps so_far other =
    keeps 0 other
    ∙ ap (λ o. either o (cond (is_same_text word other) (Some text) None)) (so_far other)
    ∙ ap (λ w. either (position_from (λ t. is_same_text (name t) other) 0 (take text texts)) (cond (is_same_text w other) (Some text) None)) named
    ∙ sym (position_next (λ t. is_same_text (name t) other) texts text s (slice_get-get_or texts text s within ∙ ap Some (sym is)))

pub table_more : (keyword : Keyword) (entries : List Entry) (number : ℕ) (entry : Entry) (old new : Table) → Some entry ≡ slice_get entries number →
    ((block : ℕ) (word : List ℕ) → number_at new block word ≡ either (number_at old block word) (cond (is_known keyword block word entry) (Some number) None)) →
    IsTable keyword (take number entries) old → IsTable keyword (take (number + 1) entries) new
table_more keyword entries number entry old new here keeps so_far block word =
    keeps block word
    ∙ ap (λ o. either o (cond (is_known keyword block word entry) (Some number) None)) (so_far block word)
    ∙ sym (position_next (is_known keyword block word) entries number entry (sym here))

-- there is a statement of each number below their count
pub table_within : (keyword : Keyword) (entries : List Entry) (number : ℕ) (table : Table) → number < length entries → None ≡ slice_get entries number → IsTable keyword (take (number + 1) entries) table
table_within keyword entries number table within none = absurd (omega (arith, past_end entries number (sym none)))
