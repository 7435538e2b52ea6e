use Rattle.std.proofs.Common.{◌≡◌, drop}
use Rattle.std.specs.Prelude.{find, unwrap_or}
use Rattle.nc_names.specs.Same.{is_same_text}
use Rattle.nc_yang_statements.specs.Keywords.{keyword_of, word_of, other_keyword}
use Rattle.nc_yang_statements.proofs.keyword.keyword_of.Given as goal

abbrev pub invariant-loop-keyword : goal.invariant-loop-keyword
invariant-loop-keyword l =
    keyword_of l.word ≡ unwrap_or (find (λ k. is_same_text (word_of k) l.word) (drop l.keyword-index l.keyword-items)) (other_keyword l.word)
