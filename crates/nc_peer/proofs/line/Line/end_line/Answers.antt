use Rattle.std.proofs.Common.{◌≡◌, ◌<◌, length, length-append, arith, List, ℕ, [], ◌∷◌, ◌++◌, sym, ap, subst, ◌∙◌}
use Rattle.nc_peer.specs.Lines.{IsName, IsPeerLine, line_feed}
use Rattle.nc_peer.proofs.LineLemmas.{line_ends}
use Rattle.nc_peer.proofs.line.Line.end_line.Goals as goal

pub returns-clause-takes : goal.returns-clause-takes
returns-clause-takes c =
    let here = rw c.if-not-added.false at c.in_ok-added.ensures in
    let e : c.as_slice.result.now ≡ c.args.self.now.word = c.as_slice.ensures in
    let w : IsName c.args.self.now.word = subst IsName e here.0 in
    let n : c.add_name.new.names ≡ c.args.self.now.names ++ c.args.self.now.word ∷ [] =
    here.1 ∙ ap (λ x. c.args.self.now.names ++ x ∷ []) e in
    let P : List (List ℕ) → Type 0 = λ ns. IsPeerLine ns (c.args.self.now.bytes ++ line_feed ∷ []) × (0 < length ns) in
    subst P (sym n) (line_ends c.requires w, omega (arith, length-append c.args.self.now.names (c.args.self.now.word ∷ [])))
