-- "23 M_DUP naming no balise or one with other packets, at the lowest such N_PIG": the copies pass just where no telegram is so, and else the lowest N_PIG of one is found. Assumes nothing.
use mathlib.Core.Bool.{Bool, true, false, cond}
use mathlib.Core.List.{List, [], ◌∷◌, ◌++◌, append_assoc}
use mathlib.Core.Logic.{◌↔◌}
use mathlib.Core.Option.{Option, some, none}
use mathlib.Core.Path.{◌≡◌, refl, sym, ap, ◌∙◌, subst}
use Prim.Native.Nat.{ℕ, suc, ◌+◌, ◌<◌}
use native.Mathlib.Omega.{arith}
use borrow.Author.Tests.{eqb-true}
use lib.Dec.{eqb}
use lib.ListN.{length, length-append}
use Rattle.bits.specs.Bits.{same}
use Rattle.format.specs.Fields.{N_PIG, M_DUP}
use Rattle.format.specs.Rules.{Terms}
use Rattle.format.specs.Telegrams.{Entry}
use Rattle.group.specs.Groups.{held, body, copy_of, first, names_right, grouped, miscopied}
use Rattle.group_laws.proofs.Passing.{Telegrams, line_from}
use Rattle.group_laws.proofs.Enough.{AllTelegrams}
use Rattle.group_laws.proofs.Listing.{In}
use Rattle.group_laws.proofs.Counted.{previous_of}
use Rattle.bits.proofs.Same.{same_true, same_self}
use Rattle.group_laws.proofs.Unlinked.{previous_is}
use Rattle.group_laws.proofs.InLine.{all_in_line, only_in_line, at_its_pig}
use Rattle.group_laws.proofs.Answer.{Last, last_of}
use Rattle.group_laws.proofs.Answer.Last.{nobody, someone}

-- ---- in words

-- M_DUP 1 or 2 names the next or the previous balise, and none with its packets stands there
pub data Wrong (ts : Telegrams) (t : List Entry) : Type 0 where
  next : held M_DUP t ≡ 1 → ((u : List Entry) → In u ts → held N_PIG u ≡ suc (held N_PIG t) → body u ≡ body t → ⊥) → Wrong ts t
  previous : held M_DUP t ≡ 2 → ((u : List Entry) → In u ts → held N_PIG t ≡ suc (held N_PIG u) → body u ≡ body t → ⊥) → Wrong ts t

pub record LowestWrong (ts : Telegrams) (k : ℕ) : Type 0 where
  pub telegram : List Entry
  pub came : In telegram ts
  pub pig : held N_PIG telegram ≡ k
  pub wrong : Wrong ts telegram
  pub lowest : (u : List Entry) → In u ts → held N_PIG u < k → Wrong ts u → ⊥

-- ---- by places in a list

abbrev Rights : Option (List Entry) → Telegrams → List Entry → Telegrams → Bool
Rights u xs t ys = names_right (previous_of u xs) t (first ys)

-- up to a place each is right
abbrev RightBelow : Option (List Entry) → Telegrams → ℕ → Type 0
RightBelow u l n = (xs : Telegrams) (t : List Entry) (ys : Telegrams) → l ≡ xs ++ t ∷ ys → length xs < n → Rights u xs t ys ≡ true

record WrongAt (j : ℕ) (u : Option (List Entry)) (l : Telegrams) (k : ℕ) : Type 0 where
  before : Telegrams
  telegram : List Entry
  after : Telegrams
  is : l ≡ before ++ telegram ∷ after
  number : k ≡ j + length before
  wrong : Rights u before telegram after ≡ false
  right : RightBelow u l (length before)

right_on : (u : Option (List Entry)) (t : List Entry) (l : Telegrams) (n : ℕ) → names_right u t (first l) ≡ true → RightBelow (some t) l n → RightBelow u (t ∷ l) (suc n)
right_on u t l n h r [] v ys e k =
    let i : t ≡ v = cc in
    let m : l ≡ ys = cc in
    subst (λ (x : List Entry). names_right u x (first ys) ≡ true) i (subst (λ (x : Telegrams). names_right u t (first x) ≡ true) m h)
right_on u t l n h r (x ∷ xs) v ys e k =
    let i : t ≡ x = cc in
    subst (λ (y : List Entry). names_right (previous_of (some y) xs) v (first ys) ≡ true) i (r xs v ys (cc) (omega arith))

wrong_at : (j : ℕ) (u : Option (List Entry)) (l : Telegrams) (k : ℕ) → miscopied j u l ≡ some k → WrongAt j u l k
unfolding miscopied
wrong_at j u [] k h = let z : ◌≡◌ {A = ℕ} 0 1 = cc in absurd (omega arith)
wrong_at j u (t ∷ l) k h = by_test (names_right u t (first l)) refl h (λ g. wrong_at (suc j) (some t) l k g)
  where
    by_test : (b : Bool) → names_right u t (first l) ≡ b → cond b (miscopied (suc j) (some t) l) (some j) ≡ some k
        → (miscopied (suc j) (some t) l ≡ some k → WrongAt (suc j) (some t) l k) → WrongAt j u (t ∷ l) k
    by_test true e g on =
        let r = on g in
        let n = r.number in
        record {
          before = t ∷ r.before;
          telegram = r.telegram;
          after = r.after;
          is = ap (λ (x : Telegrams). t ∷ x) r.is;
          number = omega arith;
          wrong = r.wrong;
          right = right_on u t l (length r.before) e r.right;
        }
    by_test false e g on =
        let n : j ≡ k = cc in
        record { before = []; telegram = t; after = l; is = refl; number = omega arith; wrong = e; right = λ xs v ys f m. absurd (omega arith) }

at_wrong : (j : ℕ) (u : Option (List Entry)) (l xs : Telegrams) (t : List Entry) (ys : Telegrams) → l ≡ xs ++ t ∷ ys → Rights u xs t ys ≡ false → RightBelow u l (length xs)
    → miscopied j u l ≡ some (j + length xs)
unfolding miscopied
at_wrong j u [] [] t ys e w r = let z : ◌≡◌ {A = ℕ} 0 1 = cc in absurd (omega arith)
at_wrong j u [] (x ∷ xs) t ys e w r = let z : ◌≡◌ {A = ℕ} 0 1 = cc in absurd (omega arith)
at_wrong j u (v ∷ l) [] t ys e w r =
    let i : v ≡ t = cc in
    let m : l ≡ ys = cc in
    let n : j + 0 ≡ j = omega arith in
    rw (i, m, w, n)
at_wrong j u (v ∷ l) (x ∷ xs) t ys e w r =
    let i : v ≡ x = cc in
    let f : l ≡ xs ++ t ∷ ys = cc in
    let n : suc j + length xs ≡ j + suc (length xs) = omega arith in
    let on = at_wrong (suc j) (some v) l xs t ys f (subst (λ (y : List Entry). Rights (some y) xs t ys ≡ false) (sym i) w)
    (λ a b c g k. r (v ∷ a) b c (ap (λ (y : Telegrams). v ∷ y) g) (omega arith)) in
    rw (r [] v l refl (omega arith)) (on ∙ ap some n)

all_right : (j : ℕ) (u : Option (List Entry)) (l : Telegrams) → miscopied j u l ≡ none → RightBelow u l (length l)
unfolding miscopied
all_right j u [] h = λ xs t ys e n. absurd (omega arith)
all_right j u (t ∷ l) h = by_test (names_right u t (first l)) refl h (λ g. all_right (suc j) (some t) l g)
  where
    by_test : (b : Bool) → names_right u t (first l) ≡ b → cond b (miscopied (suc j) (some t) l) (some j) ≡ none
        → (miscopied (suc j) (some t) l ≡ none → RightBelow (some t) l (length l)) → RightBelow u (t ∷ l) (suc (length l))
    by_test true e g on = right_on u t l (length l) e (on g)
    by_test false e g on = let z : ◌≡◌ {A = ℕ} 0 1 = cc in absurd (omega arith)

-- ---- what stands beside one

other_body : (u t : List Entry) → (body u ≡ body t → ⊥) → same (body u) (body t) ≡ false
other_body u t n = by_test (same (body u) (body t)) refl
  where
    by_test : (b : Bool) → same (body u) (body t) ≡ b → b ≡ false
    by_test true e = absurd (n (same_true (body u) (body t) e))
    by_test false e = refl

pub two_tests : (b : Bool) → b ≡ true → b ≡ false → ⊥
two_tests b h k = let e : true ≡ false = sym h ∙ k in let z : ◌≡◌ {A = ℕ} 0 1 = cc in omega arith

same_body : (u t : List Entry) → body u ≡ body t → same (body u) (body t) ≡ false → ⊥
same_body u t e k = two_tests (same (body u) (body t)) (ap (same (body u)) (sym e) ∙ same_self (body u)) k

next_is : (l xs : Telegrams) (t : List Entry) (ys zs : Telegrams) (u : List Entry) (vs : Telegrams) → l ≡ xs ++ t ∷ ys → l ≡ zs ++ u ∷ vs → length zs ≡ suc (length xs) → ys ≡ u ∷ vs
next_is l [] t ys [] u vs e f n = absurd (omega arith)
next_is l [] t ys (z ∷ []) u vs e f n = cc
next_is l [] t ys (z ∷ y ∷ zs) u vs e f n = absurd (omega arith)
next_is l (x ∷ xs) t ys [] u vs e f n = absurd (omega arith)
next_is l (x ∷ xs) t ys (z ∷ zs) u vs e f n = next_is (xs ++ t ∷ ys) xs t ys zs u vs refl (cc) (omega arith)

-- ---- of a group

module _ (p : Terms) (ts : Telegrams) (h : AllTelegrams p ts) (g : grouped ts ≡ true) where
  abbrev line : Telegrams
  line = line_from ts

  wrong_of : (t : List Entry) (j : In t line) → Rights none j.before t j.after ≡ false → Wrong ts t
  wrong_of t j w = by_tests (eqb (held M_DUP t) 1) (eqb (held M_DUP t) 2) refl refl w
    where
      by_tests : (a b : Bool) → eqb (held M_DUP t) 1 ≡ a → eqb (held M_DUP t) 2 ≡ b
          → cond a (copy_of (first j.after) t) (cond b (copy_of (previous_of none j.before) t) true) ≡ false → Wrong ts t
      by_tests true b c d f =
          next (eqb-true (held M_DUP t) 1 c)
          (λ u i n e.
          let q = all_in_line p ts h g u i in
          let x = at_its_pig p ts h g u q in
          let y = at_its_pig p ts h g t j in
          let m = next_is line j.before t j.after q.before u q.after j.is q.is (omega arith) in
          same_body u t e (ap (λ (v : Telegrams). copy_of (first v) t) (sym m) ∙ f))
      by_tests false true c d f =
          previous (eqb-true (held M_DUP t) 2 d)
          (λ u i n e.
          let q = all_in_line p ts h g u i in
          let x = at_its_pig p ts h g u q in
          let y = at_its_pig p ts h g t j in
          let m = previous_is none line q.before u q.after j.before t j.after q.is j.is (omega arith) in
          same_body u t e (ap (λ (v : Option (List Entry)). copy_of v t) (sym m) ∙ f))
      by_tests false false c d f = let z : ◌≡◌ {A = ℕ} 0 1 = cc in absurd (omega arith)

  of_wrong : (t : List Entry) (j : In t line) → Wrong ts t → Rights none j.before t j.after ≡ false
  of_wrong t j (next d n) = rw d (by_first j.after refl)
    where
      by_first : (ys : Telegrams) → j.after ≡ ys → copy_of (first j.after) t ≡ false
      by_first [] e = ap (λ (v : Telegrams). copy_of (first v) t) e
      by_first (u ∷ ys) e =
          let i : In u line = record { before = j.before ++ (t ∷ []); after = ys; is = j.is ∙ ap (λ (v : Telegrams). j.before ++ t ∷ v) e ∙ sym (append_assoc j.before (t ∷ []) (u ∷ ys)) } in
          let x = at_its_pig p ts h g u i in
          let y = at_its_pig p ts h g t j in
          let m = length-append j.before (t ∷ []) in
          ap (λ (v : Telegrams). copy_of (first v) t) e ∙ other_body u t (n u (only_in_line p ts h g u i) (omega arith))
  of_wrong t j (previous d n) = rw d (by_last (last_of none j.before))
    where
      by_last : Last none j.before → copy_of (previous_of none j.before) t ≡ false
      by_last (nobody a f) = ap (λ (v : Option (List Entry)). copy_of v t) f
      by_last (someone ys u a f) =
          let i : In u line = record { before = ys; after = t ∷ j.after; is = j.is ∙ ap (λ (v : Telegrams). v ++ t ∷ j.after) a ∙ append_assoc ys (u ∷ []) (t ∷ j.after) } in
          let x = at_its_pig p ts h g u i in
          let y = at_its_pig p ts h g t j in
          let m = ap length a ∙ length-append ys (u ∷ []) in
          ap (λ (v : Option (List Entry)). copy_of v t) f ∙ other_body u t (n u (only_in_line p ts h g u i) (omega arith))

  found_lowest : (k : ℕ) → miscopied 0 none line ≡ some k → LowestWrong ts k
  found_lowest k e =
      let r = wrong_at 0 none line k e in
      let t = r.telegram in
      let j : In t line = record { before = r.before; after = r.after; is = r.is } in
      let y = at_its_pig p ts h g t j in
      let n = r.number in
      record {
        telegram = t;
        came = only_in_line p ts h g t j;
        pig = omega arith;
        wrong = wrong_of t j r.wrong;
        lowest = λ u i m w.
            let q = all_in_line p ts h g u i in
            let x = at_its_pig p ts h g u q in
            two_tests (Rights none q.before u q.after) (r.right q.before u q.after q.is (omega arith)) (of_wrong u q w);
      }

  lowest_found : (k : ℕ) → LowestWrong ts k → miscopied 0 none line ≡ some k
  lowest_found k o =
      let t = o.telegram in
      let j = all_in_line p ts h g t o.came in
      let y = at_its_pig p ts h g t j in
      let n = o.pig in
      let m : 0 + length j.before ≡ k = omega arith in
      at_wrong 0 none line j.before t j.after j.is (of_wrong t j o.wrong) (λ xs v ys e l. by_test xs v ys e (omega arith) (Rights none xs v ys) refl) ∙ ap some m
    where
      by_test : (xs : Telegrams) (v : List Entry) (ys : Telegrams) → line ≡ xs ++ v ∷ ys → length xs < k → (b : Bool) → Rights none xs v ys ≡ b → b ≡ true
      by_test xs v ys e l true f = refl
      by_test xs v ys e l false f =
          let i : In v line = record { before = xs; after = ys; is = e } in
          let x = at_its_pig p ts h g v i in
          absurd (o.lowest v (only_in_line p ts h g v i) (omega arith) (wrong_of v i f))

  -- "at the lowest such N_PIG"
  pub misnamed_at : (k : ℕ) → (miscopied 0 none line ≡ some k) ↔ LowestWrong ts k
  misnamed_at k = (found_lowest k, lowest_found k)

  -- and nowhere just where no telegram is so
  pub misnamed_nowhere : (miscopied 0 none line ≡ none) ↔ ((t : List Entry) → In t ts → Wrong ts t → ⊥)
  misnamed_nowhere = (
    λ e t i w.
        let j = all_in_line p ts h g t i in
        let n = ap length j.is ∙ length-append j.before (t ∷ j.after) in
        two_tests (Rights none j.before t j.after) (all_right 0 none line e j.before t j.after j.is (omega arith)) (of_wrong t j w),
    λ n. by_test n (miscopied 0 none line) refl,
  )
    where
      by_test : ((t : List Entry) → In t ts → Wrong ts t → ⊥) → (o : Option ℕ) → miscopied 0 none line ≡ o → o ≡ none
      by_test n none e = refl
      by_test n (some k) e = let r = found_lowest k e in absurd (n r.telegram r.came r.wrong)
