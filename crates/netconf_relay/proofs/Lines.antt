-- The line of names: the first, then a space and the next for each of the others, and a line feed.
use Rattle.std.proofs.Common.{◌≡◌, ◌<◌, ◌≤◌, ◌+◌, All, arith, length, subst, ℕ, List, [], ◌∷◌, ◌++◌, map, sym, ap, ◌∙◌}
use Rattle.std.specs.List.{flat_map}
use Rattle.std.proofs.lemmas.List.{get_or-map, length-map}
use Rattle.std.proofs.lemmas.List.Elements.{All-map}
use mathlib.Core.List.{append_assoc, append-nil}
use Rattle.nc_peer.specs.Lines.{IsName, IsPeerLine, line_of, line_feed, peer_limit, space}

pub line_is : {T : Type 0} (f : T → List ℕ) (first : T) (names : List T) →
    line_of (map f (first ∷ names)) ≡ (f first ++ flat_map (λ name. space ∷ f name) names) ++ line_feed ∷ []
line_is f first [] = ap (λ (x : List ℕ). x ++ line_feed ∷ []) (sym (append-nil (f first)))
line_is f first (next ∷ names) =
    let others = flat_map (λ name. space ∷ f name) names in
    ap (λ (x : List ℕ). f first ++ space ∷ x) (line_is f next names)
    ∙ sym (append_assoc (f first) (space ∷ (f next ++ others)) (line_feed ∷ []))

-- the names of a line are names
pub named : {T : Type 0} (f : T → List ℕ) (names : List T) (bytes : List ℕ) → All (λ name. IsName (f name)) names →
    bytes ≡ line_of (map f names) → length bytes ≤ peer_limit + 1 → IsPeerLine (map f names) bytes
named f names bytes all is short = record { line = is; named = All-map IsName f names all; short = short }

pub unnamed : {T : Type 0} (f : T → List ℕ) (names : List T) (bytes : List ℕ) → (All (λ name. IsName (f name)) names → ⊥) →
    IsPeerLine (map f names) bytes → ⊥
unnamed f names bytes some line =
    some (λ k d within. subst IsName (get_or-map f names k d (f d) within)
    (line.named k (f d) (omega (arith, within, length-map names f))))

pub too_long : {T : Type 0} (f : T → List ℕ) (names : List T) (bytes out : List ℕ) → out ≡ line_of (map f names) →
    peer_limit + 1 < length out → IsPeerLine (map f names) bytes → ⊥
too_long f names bytes out is long line =
    let same : length bytes ≡ length out = ap length (line.line ∙ sym is) in absurd (omega (arith, long, line.short, same))

-- the first name, then the others, then the end of the line
pub written : {T : Type 0} (f : T → List ℕ) (first : T) (others names : List T) (old one two now bytes : List ℕ) →
    names ≡ first ∷ others → bytes ≡ f first → one ≡ old ++ bytes →
    two ≡ one ++ flat_map (λ name. space ∷ f name) others → now ≡ two ++ line_feed ∷ [] → now ≡ old ++ line_of (map f names)
written f first others names old one two now bytes names_is bytes_is one_is two_is now_is =
    let more = flat_map (λ name. space ∷ f name) others in
    let end = line_feed ∷ [] in
    let all : now ≡ ((old ++ f first) ++ more) ++ end =
    now_is ∙ ap (λ (x : List ℕ). x ++ end) (two_is ∙ ap (λ (x : List ℕ). x ++ more) (one_is ∙ ap (λ (x : List ℕ). old ++ x) bytes_is)) in
    all ∙ ap (λ (x : List ℕ). x ++ end) (append_assoc old (f first) more) ∙ append_assoc old (f first ++ more) end
    ∙ ap (λ (x : List ℕ). old ++ x) (sym (line_is f first others)) ∙ ap (λ ns. old ++ line_of (map f ns)) (sym names_is)
