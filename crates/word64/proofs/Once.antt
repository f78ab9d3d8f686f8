-- What it is that a promise is met by one outcome alone, for any function; and that each promise of this crate is. Assumes nothing.
use mathlib.Core.Path.{◌≡◌, refl, sym, ◌∙◌}
use contract.Lifetimes.{Lfts}
use denote.Triple.Clauses.{Ended, Lasts, AtExit, at_exit}
use denote.Triple.Entry.{Args, Res}
use Rattle.word64.specs.contracts as promises
use Rattle.word64.proofs.fits
use Rattle.word64.proofs.bytes_for
use Rattle.word64.proofs.wide
use Rattle.word64.proofs.window
use Rattle.word64.proofs.low_bits
use Rattle.word64.proofs.lower
use Rattle.word64.proofs.behind

-- what a function promises: of its arguments, its answer, and its parameters as they stand at exit
abbrev pub Promise : Ended → Type 1
Promise f = (κs : Lfts f.signature.lifetimes) → Args f.signature κs → Res f.signature κs → AtExit f κs → Type 0

-- No two outcomes of the same call meet the promise. An outcome is the answer, and what stands at exit in everything that was lent by `&mut`.
-- Of a function f this is `OneOutcome promises.f.ended f.Reads.Post`, where `promises` is its crate's `specs.contracts`. Both are made of the function as it is written, its parameters and every clause of
-- its `ensures`: a promise that changes is held to it again.
abbrev pub OneOutcome : (f : Ended) → Promise f → Type 0
OneOutcome f Post =
    (κs : Lfts f.signature.lifetimes) (args : Args f.signature κs) (r t : Res f.signature κs) (u v : Lasts f κs args)
    → Post κs args r (at_exit f κs args u) → Post κs args t (at_exit f κs args v) → (r ≡ t) × (u ≡ v)

-- The same of a promise that tells what the outside did: no two outcomes meet it at which the outside did the same.
abbrev pub OneOutcomeGiven : (f : Ended) (Post : Promise f)
    {Outside : (κs : Lfts f.signature.lifetimes) → Args f.signature κs → Type 0}
    → ((κs : Lfts f.signature.lifetimes) (args : Args f.signature κs) (r : Res f.signature κs) (s : AtExit f κs)
    → Post κs args r s → Outside κs args) → Type 0
OneOutcomeGiven f Post outside =
    (κs : Lfts f.signature.lifetimes) (args : Args f.signature κs) (r t : Res f.signature κs) (u v : Lasts f κs args)
    → (p : Post κs args r (at_exit f κs args u)) (q : Post κs args t (at_exit f κs args v))
    → outside κs args r (at_exit f κs args u) p ≡ outside κs args t (at_exit f κs args v) q → (r ≡ t) × (u ≡ v)

pub fits_once : OneOutcome promises.fits.ended fits.Reads.Post
fits_once κs args r t u v p q = (p ∙ sym q, refl)

pub bytes_for_once : OneOutcome promises.bytes_for.ended bytes_for.Reads.Post
bytes_for_once κs args r t u v p q = (p ∙ sym q, refl)

pub wide_once : OneOutcome promises.wide.ended wide.Reads.Post
wide_once κs args r t u v p q = (p ∙ sym q, refl)

pub window_once : OneOutcome promises.window.ended window.Reads.Post
window_once κs args r t u v p q = (p ∙ sym q, refl)

pub low_bits_once : OneOutcome promises.low_bits.ended low_bits.Reads.Post
low_bits_once κs args r t u v p q = (p ∙ sym q, refl)

pub lower_once : OneOutcome promises.lower.ended lower.Reads.Post
lower_once κs args r t u v p q = (p ∙ sym q, refl)

pub behind_once : OneOutcome promises.behind.ended behind.Reads.Post
behind_once κs args r t u v p q = (p ∙ sym q, refl)
