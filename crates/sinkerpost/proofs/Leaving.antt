-- What C's answer says of what is lent: 0 that the normal form stands in front of what was there, and any other number that nothing has changed.
-- Of the check, which is lent no output, what was accepted or refused. For any terms. Assumes nothing.
use Rattle.std.specs.Prelude.{Err}
use mathlib.Core.List.{List}
use mathlib.Core.Logic.{◌≢◌}
use mathlib.Core.Path.{◌≡◌, refl, sym, ◌∙◌}
use Prim.Native.Nat.{ℕ}
use native.Mathlib.Omega.{arith}
use lib.ListN.{length}
use Rattle.bits.specs.Bits.{bytes_of, bytes_for}
use Rattle.format.specs.Normal.{normal}
use Rattle.format.specs.Refusals.{code_of}
use Rattle.format.specs.Rules.{Terms}
use Rattle.format.specs.Telegrams.{Entry, Result, bits}
use Rattle.format.specs.Telegrams.Result.{accepted, refused}
use Rattle.format.specs.declared.Refusal.{Refusal}
use Rattle.format.proofs.Numbers.{number_in}
use Rattle.states.specs.Reader.{checked, answer_of}
use Rattle.states.specs.Writer.{size_of, bytes_over}
use Rattle.states.specs.Normaliser.{normalise_into}
use Rattle.states.proofs.Answers.{Sound, Unsound, check_judges}
use Rattle.states.proofs.Leaving.{Stores, normal_stored}
use Rattle.sinkerpost.specs.Codes.{check_code, Normalise}

-- ---- the check

module _ (p : Terms) (s : List ℕ) (n : ℕ) (answer : ℕ) (h : answer ≡ check_code p s n) where
  pub check_accepts : answer ≡ 0 → (es : List Entry) × Sound p s n es
  check_accepts z = by (checked p s n) refl (sym h ∙ z)
    where
      by : (x : Result) → checked p s n ≡ x → code_of (answer_of x) ≡ 0 → (es : List Entry) × Sound p s n es
      by (accepted es) e c = (es, ((check_judges p s n).accepts es).0 e)
      by (refused r) e c = let i = number_in r.kind in absurd (omega arith)

  pub check_refuses : answer ≢ 0 → (r : Refusal) × Unsound p s n r × (answer ≡ code_of (Err r))
  check_refuses d = by (checked p s n) refl h
    where
      by : (x : Result) → checked p s n ≡ x → answer ≡ code_of (answer_of x) → (r : Refusal) × Unsound p s n r × (answer ≡ code_of (Err r))
      by (accepted es) e c = absurd (d c)
      by (refused r) e c = (r, ((check_judges p s n).refuses r).0 e, c)

-- ---- the normaliser

module _ {p : Terms} {s : List ℕ} {n : ℕ} {before after : List ℕ} {answer : ℕ} (h : Normalise p s n before answer after) where
  pub normalise_keeps : answer ≢ 0 → after ≡ before
  normalise_keeps d = by (normalise_into p s n (length before)) h.answers h.contents
    where
      by : (x : Result) → answer ≡ code_of (size_of x) → after ≡ bytes_over x before → after ≡ before
      by (accepted fs) a c = absurd (d a)
      by (refused r) a c = c

  pub normalise_stores : answer ≡ 0 → Stores (Sound p s n) (λ es. bytes_of (bits (normal es))) (bytes_for n) 104 before after
  normalise_stores z = by (normalise_into p s n (length before)) refl (sym h.answers ∙ z) h.contents
    where
      by : (x : Result) → normalise_into p s n (length before) ≡ x → code_of (size_of x) ≡ 0 → after ≡ bytes_over x before
          → Stores (Sound p s n) (λ es. bytes_of (bits (normal es))) (bytes_for n) 104 before after
      by (accepted fs) e a c = (normal_stored p s n fs e c).1
      by (refused r) e a c = let i = number_in r.kind in absurd (omega arith)
