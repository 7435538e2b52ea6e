-- What a body that is read tells of its rows.
use Rattle.std.proofs.Common.{◌≡◌, ◌⊎◌, ◌∙◌, ◌<◌, ◌≤◌, ◌^◌, ◌+◌, ◌++◌, ap, sym, subst, refl, inl, inr, ℕ, Bool, true, false, List, [], ◌∷◌, length, drop, get_or, map, Option, Some, None, Result, Ok, Err, arith}
use Rattle.std.specs.Prelude.{slice_get, IsSomeAnd, IsUtf8, IsTrue, nat_le}
use Rattle.std.specs.List.{All, Contains, flat_map, last_or}
use Rattle.std.specs.Option.{option_map_or}
use Rattle.std.proofs.lemmas.Option.{slice_get_within}
use Rattle.std.proofs.lemmas.Bool.{le-leb, leb-true}
use Rattle.nc_names.specs.Limits.{body_limit}
use Rattle.nc_names.specs.declared.path.Row.{Row}
use Rattle.nc_names.specs.declared.path.Step.{Step}
use Rattle.nc_schema.proofs.RecordLemmas.{size_is}
use Rattle.nc_schema.specs.Configuration.{IsConfiguration}
use Rattle.nc_schema.specs.Paths.{HasAllKeys, IsPathOf}
use Rattle.nc_schema.specs.Record.{last_node, record_body, record_size, row_record, value_bytes}
use Rattle.nc_schema.specs.Tables.{Tables}
use Rattle.nc_schema.specs.declared.node.Node.{Node}
use Rattle.nc_protocol.proofs.ListLemmas.{contains_here}
use Rattle.nc_record.proofs.Above.{Ends, ends, has_keys, some_is}
use Rattle.nc_record.proofs.NextRow.{last_is}
use Rattle.nc_record.proofs.Sizes.{short_values}
use Rattle.nc_record.specs.Reading.{AreTexts, IsRead}
use Rattle.nc_record.specs.declared.fault.RecordFault.{RecordFault}
use Rattle.nc_record.specs.inner.Given.{FitsRecord, Gives}

-- a path leads to a data node of the schema
known_node : (tables : Tables) (row : Row) → IsPathOf tables row.path → last_node row < length tables.nodes
known_node tables row path = by (ends row.path.steps)
  where
    by : Ends row.path.steps → last_node row < length tables.nodes
    by (inl e) = absurd (path.names.steps e)
    by (inr (above, step, e)) =
        let f = some_is (λ (node : Node). HasAllKeys node step) (slice_get tables.nodes step.node) (has_keys tables row.path path step (subst (λ z. Contains z step) (sym e) (contains_here above [] step))) in
        let within = slice_get_within tables.nodes step.node f.0 f.1 in
        let at : last_node row ≡ step.node = ap (λ o. option_map_or (λ (s : Step). s.node) o 0) (ap (last_or None) e ∙ last_is above step None) in
        omega (arith, within, at)

pub small_size : (tables : Tables) (body : List ℕ) (rows : List Row) → IsRead tables body rows → record_size rows ≤ body_limit
small_size tables body rows it =
    let size = size_is rows in let long = ap length it.spells.body_is in let within = it.within in omega (arith, size, long, within)

pub all_fit : (tables : Tables) (body : List ℕ) (rows : List Row) (nodes : ℕ) → nodes ≡ length tables.nodes → IsRead tables body rows → All (FitsRecord nodes) rows
all_fit tables body rows nodes is it = λ k d less.
    let known = known_node tables (get_or rows k d) (it.spells.configuration.tree.paths k d less) in
    record {
      node = omega (arith, known, is);
      short = short_values rows (small_size tables body rows it) k d less;
      text = it.texts k d less;
    }

pub records_are : (tables : Tables) (body : List ℕ) (rows : List Row) → IsRead tables body rows → drop 5 body ≡ flat_map row_record rows
records_are tables body rows it = ap (drop 5) it.spells.body_is

-- a configuration that is written as the body
pub is_read : (tables : Tables) (body : List ℕ) (rows : List Row) → IsConfiguration tables rows → record_body rows ≡ body → record_size rows ≤ body_limit → AreTexts rows → IsRead tables body rows
is_read tables body rows configuration same small texts = record {
  within = let size = size_is rows in let long = ap length same in omega (arith, size, long, small);
  spells = record { configuration = configuration; body_is = sym same };
  texts = texts;
}

-- what is given is the same
pub gives_same : {A : Type 0} (one two : A) (result : Result A RecordFault) → one ≡ two → Gives (λ it. it ≡ one) result → Gives (λ it. it ≡ two) result
gives_same one two result same gives = subst (λ z. Gives (λ it. it ≡ z) result) same gives

-- the one configuration that may be meant is past the limit, or has another body
pub not_within : (tables : Tables) (body : List ℕ) (config rows : List Row) → config ≡ rows → nat_le (record_size config) body_limit ≡ false → ¬ IsRead tables body rows
not_within tables body config rows same past it =
    let small : record_size config ≤ body_limit = subst (λ r. record_size r ≤ body_limit) (sym same) (small_size tables body rows it) in
    let clash : false ≡ true = sym past ∙ le-leb (record_size config) body_limit small in
    absurd (cc)

pub not_body : (tables : Tables) (body : List ℕ) (config rows : List Row) (b : Bool) → config ≡ rows → (record_body config ≡ body → IsTrue b) → b ≡ false → ¬ IsRead tables body rows
not_body tables body config rows b same says other it =
    let clash : IsTrue b = says (ap record_body same ∙ sym it.spells.body_is) in
    absurd (cc)

pub within_limit : (rows : List Row) → nat_le (record_size rows) body_limit ≡ true → record_size rows ≤ body_limit
within_limit rows is = leb-true (record_size rows) body_limit is
