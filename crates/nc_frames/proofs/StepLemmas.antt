-- The reading of chunks byte by byte, on lists.
use Rattle.std.proofs.Common.{◌≡◌, ℕ, suc, ◌+◌, List, [], ◌∷◌, ◌++◌, length, Some, None, refl, ap, ◌∙◌, arith}
use Rattle.std.specs.Option.{option_and_then}
use Rattle.std.proofs.lemmas.List.{append_assoc, append-nil}
use Rattle.nc_frames.specs.declared.header.Header.{Header}
use Rattle.nc_frames.specs.inner.Steps.{Reading, run, step, stepped, header_step}

-- reading two pieces one after the other
pub run-append : (xs ys : List ℕ) (s : Reading) → run (xs ++ ys) s ≡ option_and_then (run ys) (run xs s)
unfolding run
run-append [] ys s = refl
run-append (x ∷ xs) ys s = elim (step s x) as (λ o. option_and_then (λ t. run (xs ++ ys) t) o ≡ option_and_then (run ys) (option_and_then (λ t. run xs t) o)) [ None ↦ refl | Some t ↦ run-append xs ys t ]

pub run-append-some : (xs ys : List ℕ) (s t : Reading) → run xs s ≡ Some t → run (xs ++ ys) s ≡ run ys t
run-append-some xs ys s t e = run-append xs ys s ∙ ap (λ o. option_and_then (run ys) o) e

pub run-one : (b : ℕ) (s : Reading) → run (b ∷ []) s ≡ step s b
unfolding run
run-one b s = elim (step s b) as (λ o. option_and_then (λ t. run [] t) o ≡ o) [ None ↦ refl | Some t ↦ refl ]

-- octets of a chunk
pub run-octets : (os : List ℕ) (h : Header) (left more : ℕ) (m : List ℕ) → left ≡ length os + more → run os (record { header = h; left = left; message = m }) ≡ Some (record { header = h; left = more; message = m ++ os })
unfolding run step
run-octets [] h left more m e =
    let same : left ≡ more = omega arith in
    rw (same, append-nil m) refl
run-octets (o ∷ os) h left more m e =
    let is : left ≡ suc (length os + more) = omega arith in
    rw is (run-octets os h (length os + more) more (m ++ o ∷ []) refl ∙ ap (λ l. Some (record { header = h; left = more; message = l })) (append_assoc m (o ∷ []) os))

-- a byte of a header
pub run-header : (b : ℕ) (h : Header) (m : List ℕ) → run (b ∷ []) (record { header = h; left = 0; message = m }) ≡ stepped (header_step h (length m) b) m
unfolding step
run-header b h m = run-one b (record { header = h; left = 0; message = m })
