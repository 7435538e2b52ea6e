-- Rows that are printed and read back.
use Rattle.std.proofs.Common.{◌≡◌, ◌∙◌, ap, sym, subst, refl, List, Result, Ok, Err}
use Rattle.nc_names.specs.declared.path.Row.{Row}
use Rattle.nc_message.specs.declared.tree.Elem.{Elem}
use Rattle.nc_schema.specs.Configuration.{IsConfiguration}
use Rattle.nc_schema.specs.Proper.{IsProperSchema}
use Rattle.nc_schema.specs.Tables.{Tables}
use Rattle.nc_protocol.specs.Laws.{InlineIsConfiguration}
use Rattle.nc_protocol.specs.Payload.{rows_of}
use Rattle.nc_protocol.specs.Printed.{printed}
use Rattle.nc_protocol.specs.declared.request.Cause.{Cause}
use Rattle.nc_print.specs.Laws.{PrintedRowsAreReadBack}
use Rattle.nc_payload.specs.inner.Reads.{Answers}
use Rattle.nc_payload.specs.declared.payload.PayloadFault.{PayloadFault}
use Rattle.nc_payload.specs.declared.payload.PayloadFault.TheVariants.{Bad}

answered : {A : Type 0} (defined : Result A Cause) (it : A) → Answers defined (Ok it) → defined ≡ Ok it
answered (Ok other) it same = ap Ok (sym same)
answered (Err cause) it wrong = absurd wrong

pub back_is : (tables : Tables) (elem : Elem) (rows : List Row) → InlineIsConfiguration → IsProperSchema tables → Answers (rows_of tables elem) (Ok rows) → IsConfiguration tables rows
back_is tables elem rows law proper answers = law tables elem rows proper (answered (rows_of tables elem) rows answers)

ok_same : (one two : List Row) (result : Result (List Row) Cause) → result ≡ Ok one → result ≡ Ok two → one ≡ two
ok_same one two result a b = let same = sym a ∙ b in cc

pub back_same : (tables : Tables) (elem : Elem) (given rows : List Row) → PrintedRowsAreReadBack → IsProperSchema tables → elem.parts ≡ printed tables given → Answers (rows_of tables elem) (Ok rows) →
    IsConfiguration tables given → rows ≡ given
back_same tables elem given rows law proper parts answers configuration =
    ok_same rows given (rows_of tables elem) (answered (rows_of tables elem) rows answers) (law tables given elem proper configuration parts)

pub back_bad : (tables : Tables) (elem : Elem) (given : List Row) (cause : Cause) → PrintedRowsAreReadBack → IsProperSchema tables → elem.parts ≡ printed tables given → Answers (rows_of tables elem) (Err (Bad cause)) →
    ¬ IsConfiguration tables given
back_bad tables elem given cause law proper parts answers configuration =
    by (rows_of tables elem) (law tables given elem proper configuration parts) answers
  where
    by : (defined : Result (List Row) Cause) → defined ≡ Ok given → Answers defined (Err (Bad cause)) → ⊥
    by (Ok rows) is wrong = absurd (cc)
    by (Err other) is wrong = absurd (cc)
