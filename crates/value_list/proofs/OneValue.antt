-- The value that begins at a position of a text. Assumes nothing.
use Rattle.std.specs.Prelude.{Some, None}
use mathlib.Core.Path.{◌≡◌, refl, sym, ap, ◌∙◌}
use mathlib.Core.List.{List, ◌∷◌}
use mathlib.Core.Option.{Option, some, none}
use Prim.Native.Nat.{ℕ, suc, ◌+◌, ◌≤◌, ◌<◌}
use native.Mathlib.Numerals.{add-one}
use native.Mathlib.Omega.{arith}
use borrow.Author.Tests.{eq-eqb, ne_eqb}
use lib.ListN.{length, drop, get_or, drop_of_length-le}
use lib.Seq.{drop-cons}
use Rattle.std.proofs.lemmas.Option.{some_pair_parts}
use Rattle.pieces.specs.Numbers.{Found, found, digits_from, bounded, read_at}
use Rattle.value_list.specs.Values.{behind, value_in}

-- ---- what is told of a number that was found, or not

pub not_read : (a : ℕ) (x : Option Found) → None ≡ read_at a x → x ≡ none
not_read a none e = refl
not_read a (some x) e = cc

-- a number was read from a to end
pub record Took (a : ℕ) (x : Option Found) (v end : ℕ) : Type 0 where
  pub count : ℕ
  pub is : x ≡ some (found v count)
  pub ends : end ≡ a + count

pub took : (a : ℕ) (x : Option Found) (v end : ℕ) → Some (v, end) ≡ read_at a x → Took a x v end
took a none v end e = let z : ◌≡◌ {A = ℕ} 0 1 = cc in absurd (omega arith)
took a (some x) v end e =
    let (s, t) = some_pair_parts v x.value end (a + x.count) e in
    record { count = x.count; is = ap (λ (y : ℕ). some (found y x.count)) (sym s); ends = t }

-- ---- one law for each answer

module _ (text : List ℕ) (at : ℕ) where
  pub value_past : length text ≤ at → None ≡ read_at at (value_in (drop at text))
  unfolding value_in
  value_past h = rw (drop_of_length-le text {i = at} h)

  module _ (h : at < length text) where
    here : drop at text ≡ get_or text at 0 ∷ drop (at + 1) text
    here = drop-cons text at 0 h ∙ ap (λ (n : ℕ). get_or text at 0 ∷ drop n text) (sym (add-one at))

    pub value_spaceless : (get_or text at 0 ≡ 32 → ⊥) → None ≡ read_at at (value_in (drop at text))
    unfolding value_in
    value_spaceless n = rw (here, ne_eqb (get_or text at 0) 32 n)

    module _ (s : get_or text at 0 ≡ 32) where
      past_space : value_in (drop at text) ≡ behind (bounded (digits_from 0 0 (drop (at + 1) text)))
      unfolding value_in
      past_space = rw (here, eq-eqb (get_or text at 0) 32 s)

      pub value_numberless : None ≡ read_at (at + 1) (bounded (digits_from 0 0 (drop (at + 1) text))) → None ≡ read_at at (value_in (drop at text))
      value_numberless e =
          sym (ap (read_at at) (past_space ∙ ap behind (not_read (at + 1) (bounded (digits_from 0 0 (drop (at + 1) text))) e)))

      module _ (v end : ℕ) (r : Some (v, end) ≡ read_at (at + 1) (bounded (digits_from 0 0 (drop (at + 1) text)))) where
        t : Took (at + 1) (bounded (digits_from 0 0 (drop (at + 1) text))) v end
        t = took (at + 1) (bounded (digits_from 0 0 (drop (at + 1) text))) v end r

        pub value_digitless : end ≡ at + 1 → None ≡ read_at at (value_in (drop at text))
        value_digitless e =
            let z : t.count ≡ 0 = omega (arith, t.ends) in
            sym (ap (read_at at) (past_space ∙ ap behind t.is) ∙ rw (eq-eqb t.count 0 z))

        pub value_whole : (end ≡ at + 1 → ⊥) → Some (v, end) ≡ read_at at (value_in (drop at text))
        value_whole n =
            let z : t.count ≡ 0 → ⊥ = λ e. n (omega (arith, t.ends)) in
            let ends : end ≡ at + suc t.count = omega (arith, t.ends) in
            sym (ap (read_at at) (past_space ∙ ap behind t.is) ∙ rw (ne_eqb t.count 0 z) (ap (λ (e : ℕ). Some (v, e)) (sym ends)))
