use Rattle.nc_refs.proofs.NamedLemmas.{both_ok, named_here}
use Rattle.nc_refs.proofs.named.names_one.Goals as goal

pub returns-in-Some : goal.returns-in-Some
returns-in-Some c = λ rows all.
    both_ok c.is_one.result c.is_one.ensures.text (c.is_one.ensures.exists rows all)
    (λ named there. named_here c.args.schema.now rows c.args.text.now c.in-Some.path.steps there named)
