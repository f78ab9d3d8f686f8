-- A rule of directions that is made stricter: what the new rule accepts, the old one did; and what the old one accepted, the new one
-- accepts too, or it has a pair and is refused at the Q_DIR that makes its first. For any two such rules, in reading and in writing.
-- Assumes nothing.
use mathlib.Core.Bool.{Bool, true, false, ◌&&◌, ◌||◌, or-true}
use mathlib.Core.List.{List, [], ◌∷◌, ◌++◌, append_assoc, append-nil}
use mathlib.Core.Logic.{◌⊎◌, inl, inr, ⊎_elim}
use mathlib.Core.Path.{◌≡◌, refl, sym, ap, ◌∙◌, subst}
use Prim.Native.Nat.{ℕ, ◌≤◌}
use native.Mathlib.Omega.{arith}
use lib.Dec.{eqb}
use lib.ListN.{length}
use Rattle.format.specs.Rules.{State, Terms, Earlier, begun, among, collides_by, field_place}
use Rattle.format.specs.Telegrams.{Entry, entry, Taken, read, write, all, bits, values, bit_count, Telegram}
use Rattle.format.specs.Telegrams.Result.{refused}
use Rattle.format.specs.declared.Kind.TheVariants.{Repeated}
use Rattle.format.specs.declared.Refusal.{Refusal}
use Rattle.laws.proofs.Sources.{Source, from_bits_lem, from_values_lem}
use Rattle.laws.proofs.Round.{all_append}
use Rattle.laws.proofs.Demand2.{below_bits, room}
use Rattle.laws.proofs.Points.{Pointed}
use Rattle.laws.proofs.Points.Points.{breaking}
use Rattle.laws.proofs.Offending.{offends}
use Rattle.laws.proofs.JustPointed.{read_refuses, write_refuses}
use Rattle.laws.proofs.Pairs.{Pair, Implies}
use Rattle.laws.proofs.Recalled.{sends_stands}
use Rattle.laws.proofs.Collided.{Weaker, collides_is, breaks_repeated}
use Rattle.laws.proofs.Apart.{repeated_pair, telegram_apart}
use Rattle.laws.proofs.Tens.{directing, AtFirst, first_made, first_grown}
use Rattle.laws.proofs.Stricter.{Halted, run_weaker, accepted_or_halted}

-- entries that have a pair, and the refusal as 10 at the first: reading and writing give it
pub record Turned (collide : ℕ → ℕ → Bool) (es : List Entry) : Type 0 where
  pub refusal : Refusal
  pub there : AtFirst collide es refusal
  pub read_now : read (directing collide) (bits es) ≡ refused refusal
  pub written_now : write (directing collide) (values es) ≡ refused refusal

-- ---- where a run halts

module _ (collide : ℕ → ℕ → Bool) where
  -- the first pair is made there
  pub halted_first : {es : List Entry} (h : Halted (directing collide) es)
      → AtFirst collide es (record { kind = Repeated; place = bit_count h.sent })
  halted_first h =
      subst (λ (l : List Entry). AtFirst collide l (record { kind = Repeated; place = bit_count h.sent })) (sym h.parts)
      (first_grown (first_made collide h.sends (repeated_pair field_place collide h.sends h.repeats)) h.left)

  -- and the refusal points at it, whatever else is left of the source
  pub halted_pointed : {source : State → List ℕ → Taken} {part : Entry → List ℕ} {Good : State → List ℕ → Type 0} → Source source part Good
      → {whole : List ℕ} {es : List Entry} (h : Halted (directing collide) es) (xs : List ℕ) → whole ≡ all part es ++ xs
      → Pointed (directing collide) source part whole (record { kind = Repeated; place = bit_count h.sent })
  halted_pointed {part = part} law {es = es} h xs i =
      let e = entry h.state h.value in
      let k = breaks_repeated (directing collide) h.state h.value h.repeats in
      let o = offends (directing collide) h.state h.value Repeated (sends_stands h.sends) k in
      let f : all part es ≡ all part h.sent ++ all part (e ∷ h.left) =
      ap (all part) (h.parts ∙ append_assoc h.sent (e ∷ []) h.left) ∙ all_append part h.sent (e ∷ h.left) in
      record {
        sent = h.sent;
        state = h.state;
        left = part e ++ (all part h.left ++ xs);
        sends = h.sends;
        front = i ∙ ap (λ (l : List ℕ). l ++ xs) f ∙ append_assoc (all part h.sent) _ xs
            ∙ ap (λ (l : List ℕ). all part h.sent ++ l) (append_assoc (part e) (all part h.left) xs);
        points = breaking (law.gives h.state h.value (all part h.left ++ xs) h.fits) h.repeats o;
      }

  -- so what halts is refused there, in reading and in writing
  halted_turned : {es : List Entry} → Halted (directing collide) es → length (bits es) ≤ 830 → Turned collide es
  halted_turned {es} h n =
      record {
        refusal = record { kind = Repeated; place = bit_count h.sent };
        there = halted_first h;
        read_now = (read_refuses (collides_by collide) (bits es) (below_bits es) n _).1 (halted_pointed from_bits_lem h [] (sym (append-nil (bits es))));
        written_now = (write_refuses (collides_by collide) (values es) _).1 (halted_pointed from_values_lem h [] (sym (append-nil (values es))));
      }

-- ---- two rules of directions, of which the second is the stricter

module _ (weak strong : ℕ → ℕ → Bool) (implies : Implies weak strong) where
  -- the terms before, and now
  abbrev old : Terms
  old = directing weak

  abbrev new : Terms
  new = directing strong

  -- a packet that is met by the weak rule is met by the strong one
  one_implies : (i d : ℕ) (e : Earlier) (l : List Earlier) (a b : Bool) → weak d e.dir ≡ b
      → (among weak i d l ≡ true → among strong i d l ≡ true) → (a && b || among weak i d l) ≡ true → (a && strong d e.dir || among strong i d l) ≡ true
  one_implies i d e l true true k on h = rw (implies d e.dir k)
  one_implies i d e l true false k on h = rw (on h) (or-true (strong d e.dir))
  one_implies i d e l false b k on h = on h

  -- of all packets before
  among_implies : (i d : ℕ) (l : List Earlier) → among weak i d l ≡ true → among strong i d l ≡ true
  unfolding among
  among_implies i d [] h = h
  among_implies i d (e ∷ l) h = one_implies i d e l (eqb i e.id) (weak d e.dir) refl (among_implies i d l) h

  -- so what collides by the weak rule collides by the strong one
  pub weaker : Weaker old new
  weaker c v h =
      let w = (collides_is weak c v).0 h in
      (collides_is strong c v).1 (w.0, among_implies c.id v c.earlier w.1)

  -- ---- telegrams

  -- what is accepted now was accepted before
  pub still_accepted : {es : List Entry} → Telegram new es → Telegram old es
  still_accepted t = run_weaker old new weaker t

  -- What was accepted is accepted and has no pair; or it is refused, as "10, in its old order, at the later packet of any such pair". Of
  -- several pairs that is the one whose later packet comes first.
  pub mended : {es : List Entry} → Telegram old es → (Telegram new es × (Pair strong es → ⊥)) ⊎ Turned strong es
  unfolding begun
  mended t =
      let n = room old t in
      ⊎_elim (λ r. inl (r, telegram_apart field_place strong r)) (λ h. inr (halted_turned strong h (omega arith)))
      (accepted_or_halted old new weaker t)
