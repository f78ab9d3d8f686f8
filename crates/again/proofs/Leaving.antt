-- "A refusal .. changes no output": a refusal of `rewritten` or `reread` leaves both buffers as they were, from the promise of each alone. For any terms.
-- Assumes nothing.
use Rattle.std.specs.Prelude.{Err}
use mathlib.Core.List.{List}
use mathlib.Core.Path.{◌≡◌, ap, ◌∙◌}
use Prim.Native.Nat.{ℕ}
use lib.ListN.{length}
use Rattle.format.specs.Rules.{Terms}
use Rattle.format.specs.Telegrams.{Result}
use Rattle.format.specs.declared.Refusal.{Refusal}
use Rattle.format.proofs.Numbers.{answer_is}
use Rattle.states.specs.Reader.{answered, values_over}
use Rattle.states.specs.Writer.{bytes_over}
use Rattle.states.proofs.Checking.{was_refused}
use Rattle.again.specs.Again.{restored, rewrite_into, Rewritten, reread_into, Reread}
use Rattle.format.specs.Refusals.{Answer}

module _ {p : Terms} {s : List ℕ} {n : ℕ} {run out run_after out_after : List ℕ} {a : Answer} (h : Rewritten p s n run out a run_after out_after) where
  pub rewritten_keeps : {r : Refusal} → a ≡ Err r → (run_after ≡ run) × (out_after ≡ out)
  rewritten_keeps {r} e =
      let x = rewrite_into p s n (length run) (length out) in
      let f = was_refused (λ es. n) x a r (answer_is a (answered (λ es. n) x) h.answers) e in
      (h.values ∙ ap (λ (y : Result). values_over y run) f, h.telegram ∙ ap (λ (y : Result). restored s y out) f)

module _ {p : Terms} {vs out run out_after run_after : List ℕ} {a : Answer} (h : Reread p vs out run a out_after run_after) where
  pub reread_keeps : {r : Refusal} → a ≡ Err r → (out_after ≡ out) × (run_after ≡ run)
  reread_keeps {r} e =
      let x = reread_into p vs (length out) (length run) in
      let f = was_refused (λ es. length vs) x a r (answer_is a (answered (λ es. length vs) x) h.answers) e in
      (h.telegram ∙ ap (λ (y : Result). bytes_over y out) f, h.values ∙ ap (λ (y : Result). restored vs y run) f)
