-- Demand 3, of the bytes that the normaliser leaves, by its promise alone; and of `renormalised`, by its own. For any terms. Assumes nothing.
use Rattle.std.specs.Prelude.{Ok, Err}
use mathlib.Core.List.{List}
use mathlib.Core.Logic.{◌↔◌}
use mathlib.Core.Path.{◌≡◌, refl, sym, ap, ◌∙◌}
use Prim.Native.Nat.{ℕ, ◌≤◌}
use lib.ListN.{length, take}
use Rattle.bits.specs.Bits.{bytes_of, bytes_for}
use Rattle.format.specs.Normal.{says, normal}
use Rattle.format.specs.Rules.{Terms}
use Rattle.format.specs.Telegrams.{Entry, Result, bits}
use Rattle.format.specs.Telegrams.Result.{accepted}
use Rattle.format.specs.declared.Refusal.{Refusal}
use Rattle.format.proofs.Numbers.{answer_is}
use Rattle.laws.proofs.Demand3.{normal_says, normal_again, same_says}
use Rattle.states.specs.Reader.{checked, answered}
use Rattle.states.specs.Writer.{bytes_over}
use Rattle.states.specs.Normaliser.{Normalise}
use Rattle.states.proofs.Accepting.{one_telegram}
use Rattle.states.proofs.Checking.{was_refused}
use Rattle.states.proofs.Rooms.{with_room}
use Rattle.normals.specs.Normals.{renormalise_into, Renormalised, Ready}
use Rattle.normals.proofs.Forms.{form, original, form_telegram, form_is, form_accepted, gives, front, ready, given_size}
use Rattle.format.specs.Refusals.{Answer}

-- the ceil(n/8) bytes in front
abbrev pub left : ℕ → List ℕ → List ℕ
left n after = take (bytes_for n) after

-- "A normal form is itself accepted, has as many bits as its original and says the same, and normalising it again changes nothing": what is left for
-- the telegram s of n bits, whatever else is lent for the second normal form
pub record NormalLeft (p : Terms) (s : List ℕ) (n : ℕ) (after : List ℕ) : Type 0 where
  pub entries : List Entry
  pub normals : List Entry
  pub accepts : checked p s n ≡ accepted entries
  pub accepts_left : checked p (left n after) n ≡ accepted normals
  pub says_same : says normals ≡ says entries
  pub unchanged : (y : List ℕ) → 104 ≤ length y → (b : Answer) (y_after : List ℕ) → Normalise p (left n after) n y b y_after
      → (b ≡ Ok n) × (left n y_after ≡ left n after)

module _ (p : Terms) (s : List ℕ) (n : ℕ) (x x_after : List ℕ) {a : Answer} (h : Normalise p s n x a x_after) {k : ℕ} (e : a ≡ Ok k) where
  abbrev ground : Ready p s n x
  ground = ready p s n x x_after h e

  pub left_is : left n x_after ≡ bytes_of (bits (form p s n x ground))
  left_is = front p s n x ground x_after h (bytes_for n) refl

  abbrev again_ready : (y : List ℕ) → 104 ≤ length y → Ready p (left n x_after) n y
  again_ready y r = record { entries = form p s n x ground; accepts = rw left_is (form_accepted p s n x ground); room = r }

  pub normal_left : (k ≡ n) × NormalLeft p s n x_after
  normal_left = (
    given_size p s n x x_after h e,
    record {
      entries = ground.entries;
      normals = form p s n x ground;
      accepts = ground.accepts;
      accepts_left = rw left_is (form_accepted p s n x ground);
      says_same = normal_says p (original p s n x ground).telegram;
      unchanged = λ y r b y_after i. (
        gives p (left n x_after) n y (again_ready y r) y_after i,
        front p (left n x_after) n y (again_ready y r) y_after i (bytes_for n) refl
            ∙ ap (λ (es : List Entry). bytes_of (bits es)) (normal_again p (original p s n x ground).telegram) ∙ sym left_is,
      );
    },
  )

-- "Take two accepted telegrams. They say the same .. exactly when their normal forms have the same bits": exactly when the same bytes are left
pub says_just_where : (p : Terms) (s : List ℕ) (n : ℕ) (t : List ℕ) (m : ℕ) (x y x_after y_after : List ℕ) {a b : Answer} {k l : ℕ}
    (h : Normalise p s n x a x_after) (e : a ≡ Ok k) (i : Normalise p t m y b y_after) (f : b ≡ Ok l)
    → (es fs : List Entry) → checked p s n ≡ accepted es → checked p t m ≡ accepted fs
    → (says es ≡ says fs) ↔ (left n x_after ≡ left m y_after)
says_just_where p s n t m x y x_after y_after h e i f es fs c d =
    let g = ready p s n x x_after h e in
    let j = ready p t m y y_after i f in
    let ge = g.accepts in
    let je = j.accepts in
    let u : g.entries ≡ es = cc in
    let v : j.entries ≡ fs = cc in
    let w = same_says p (original p s n x g).telegram (original p t m y j).telegram in
    let q = left_is p s n x x_after h e in
    let r = left_is p t m y y_after i f in
    rw (← u, ← v) (
      λ z. q ∙ ap bytes_of (w.0 z) ∙ sym r,
      λ z. w.1 (ap bits (one_telegram p _ _ (form_telegram p s n x g) (form_telegram p t m y j) (sym q ∙ z ∙ r))),
    )

-- ---- of `renormalised`

-- "A refusal .. changes no output"
pub renormalised_keeps : {p : Terms} {s : List ℕ} {n : ℕ} {x y x_after y_after : List ℕ} {a : Answer} {r : Refusal}
    → Renormalised p s n x y a x_after y_after → a ≡ Err r → (x_after ≡ x) × (y_after ≡ y)
renormalised_keeps {p} {s} {n} {x} {y} {a = a} {r = r} h e =
    let z = renormalise_into p s n (length x) (length y) in
    let f = was_refused (λ es. n) z a r (answer_is a (answered (λ es. n) z) h.answers) e in
    (h.once ∙ ap (λ (w : Result). bytes_over w x) f, h.twice ∙ ap (λ (w : Result). bytes_over w y) f)

module _ (p : Terms) where
  -- "normalising it again changes nothing": the answer is n, and both lent slices begin with the same bytes
  pub renormalised_unchanged : (s : List ℕ) (n : ℕ) (x y : List ℕ) (es : List Entry) → checked p s n ≡ accepted es → 104 ≤ length x
      → 104 ≤ length y → (answer : Answer) (x_after y_after : List ℕ) → Renormalised p s n x y answer x_after y_after
      → (answer ≡ Ok n) × (x_after ≡ bytes_over (accepted (normal es)) x) × (y_after ≡ bytes_over (accepted (normal es)) y)
  renormalised_unchanged s n x y es c rx ry answer x_after y_after h =
      let g : Ready p s n x = record { entries = es; accepts = c; room = rx } in
      let f = with_room 104 (length y) _ ry ∙ form_is p s n x g in (
        answer_is answer (Ok n) (h.answers ∙ rw f),
        h.once ∙ rw f,
        h.twice ∙ rw f,
      )
