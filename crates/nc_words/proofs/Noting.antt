-- Texts that are written one after another.
use Rattle.std.proofs.Common.{◌≡◌, ℕ, List, [], ◌++◌, Result, Ok, Err, OnOk, refl, sym, ap, subst, ◌∙◌}
use Rattle.std.specs.Prelude.{IsErrAnd}
use Rattle.std.specs.Io.KnownBytes.{append_known}
use Rattle.nc_names.specs.Counts.{Rose}
use Rattle.nc_outside.specs.Causes.{HasCause, TookPart}
use Rattle.nc_outside.specs.declared.fault.Failed.{Failed}
use Rattle.nc_outside.proofs.Known.{append_nothing, append_twice, took_front, took_more}
use Rattle.nc_words.specs.Notes.{Noted, Told, Whole, Part}
use Rattle.nc_words.specs.Writings.{Wrote}

pub wrote_all : (text : List ℕ) (before now : Told) (result : Result (Unit {0}) Failed)
    → OnOk result (now.taken ≡ append_known before.taken text) → TookPart before.taken now.taken text
    → HasCause before.failed now.failed result → Wrote text before now result
wrote_all text before now (Ok u) ok part cause = (ok, cause.same)
wrote_all text before now (Err fault) ok part cause = (part, cause.failed)

-- the first of two texts was not written whole
pub wrote_front : (xs text ys : List ℕ) (before now : Told) (fault : Failed) (P : Failed → Type 0) (result : Result (Unit {0}) Failed)
    → text ≡ xs → Wrote text before now (Err fault) → IsErrAnd result P → Wrote (xs ++ ys) before now result
wrote_front xs text ys before now fault P (Ok u) same wrote is = absurd is
wrote_front xs text ys before now fault P (Err other) same (part, rose) is =
    (took_front ys (subst (λ t. TookPart before.taken now.taken t) same part), rose)

-- the first of two texts was written, and then the second, or a part of it
pub wrote_more : (xs text ys : List ℕ) (before middle now : Told) (u : Unit {0}) (result : Result (Unit {0}) Failed)
    → text ≡ xs → Wrote text before middle (Ok u) → Wrote ys middle now result → Wrote (xs ++ ys) before now result
wrote_more xs text ys before middle now u (Ok w) same (taken, failed) (more, kept) =
    (more ∙ ap (λ k. append_known k ys) (taken ∙ ap (λ t. append_known before.taken t) same) ∙ append_twice before.taken xs ys, kept ∙ failed)
wrote_more xs text ys before middle now u (Err fault) same (taken, failed) (part, rose) =
    (took_more xs (taken ∙ ap (λ t. append_known before.taken t) same) part, subst (λ n. Rose n now.failed) failed rose)

-- a text is another word for one that was written
pub wrote_same : (xs text : List ℕ) (before now : Told) (result : Result (Unit {0}) Failed) → text ≡ xs
    → Wrote text before now result → Wrote xs before now result
wrote_same xs text before now result same wrote = subst (λ t. Wrote t before now result) same wrote

pub wrote_nothing : (before : Told) (u : Unit {0}) → Wrote [] before before (Ok u)
wrote_nothing before u = (sym (append_nothing before.taken), refl)

pub wrote_is_noted : (text : List ℕ) (before now : Told) (result : Result (Unit {0}) Failed)
    → Wrote text before now result → Noted text before now
wrote_is_noted text before now (Ok u) (taken, failed) = Whole taken failed
wrote_is_noted text before now (Err fault) (part, rose) = Part part rose
