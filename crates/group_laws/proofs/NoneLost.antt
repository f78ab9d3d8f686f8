-- "such copies count once, at the lowest N_PIG", of an accepted group: each telegram that arrived has its packets in one that counts, itself or one that it is a copy of by M_DUP, bit for bit. Assumes nothing.
use mathlib.Core.Bool.{Bool, true, false, ◌||◌}
use mathlib.Core.List.{List, [], ◌∷◌, ◌++◌, append_assoc}
use mathlib.Core.Logic.{◌⊎◌, inl, inr}
use mathlib.Core.Option.{Option, some, none}
use mathlib.Core.Path.{◌≡◌, refl, sym, ap, ◌∙◌, subst}
use Prim.Native.Nat.{ℕ, zero, suc, ◌≤◌}
use native.Mathlib.Omega.{arith}
use borrow.Author.Tests.{eqb-true}
use lib.Dec.{eqb}
use lib.ListN.{length, length-append}
use Rattle.format.specs.Fields.{N_PIG, M_DUP}
use Rattle.format.specs.Rules.{Terms}
use Rattle.format.specs.Telegrams.{Entry}
use Rattle.group.specs.Groups.{Member, Balise, arrived, parts, held, body, first, grouped, miscopied, linked, group}
use Rattle.group.specs.Groups.Arrived.{all}
use Rattle.group.specs.Groups.Message.{lists}
use Rattle.group_laws.proofs.Passing.{Telegrams, Gives, line_from, group_passes}
use Rattle.group_laws.proofs.Enough.{AllTelegrams, arrived_telegrams}
use Rattle.group_laws.proofs.Listing.{In}
use Rattle.group_laws.proofs.Counted.{CountsAt, previous_of, every_counted}
use Rattle.group_laws.proofs.CountOnce.{linked_same, looks_on, not_wrong}
use Rattle.group_laws.proofs.Unlinked.{counted_free}
use Rattle.group_laws.proofs.InLine.{all_in_line, only_in_line, at_its_pig}
use Rattle.group_laws.proofs.Answer.{Counting, Shown, Answered, answered, Last, last_of}
use Rattle.group_laws.proofs.Answer.Last.{nobody, someone}

-- ---- in words

-- "M_DUP 1 or 2 names the next or the previous balise": t stands behind w, and one of the two names the other
abbrev pub Beside : List Entry → List Entry → Type 0
Beside w t = (held N_PIG t ≡ suc (held N_PIG w)) × ((held M_DUP w ≡ 1) ⊎ (held M_DUP t ≡ 2))

-- from u one leads to t by such pairs, all of them of the group
pub data Copies (ts : Telegrams) (u : List Entry) : List Entry → Type 0 where
  itself : Copies ts u u
  behind : {w : List Entry} (t : List Entry) → Copies ts u w → In t ts → Beside w t → Copies ts u t

-- what counts in the place of a telegram: itself, or one that it is a copy of
pub record Kept (ts : Telegrams) (t : List Entry) : Type 0 where
  pub telegram : List Entry
  pub came : In telegram ts
  pub counts : Counting ts telegram
  pub lowest : held N_PIG telegram ≤ held N_PIG t
  pub same : body telegram ≡ body t
  pub copies : Copies ts telegram t

-- ---- two that stand beside each other

beside_same : (k : ℕ) (u : Option (List Entry)) (ts : Telegrams) → miscopied k u ts ≡ none → (xs : Telegrams) (w t : List Entry) (ys : Telegrams) → ts ≡ xs ++ w ∷ t ∷ ys
    → linked (some w) t ≡ true → body w ≡ body t
beside_same k u [] h [] w t ys e l = let z : ◌≡◌ {A = ℕ} 0 1 = cc in absurd (omega arith)
beside_same k u [] h (x ∷ xs) w t ys e l = let z : ◌≡◌ {A = ℕ} 0 1 = cc in absurd (omega arith)
beside_same k u (v ∷ []) h [] w t ys e l = let z = ap length e in absurd (omega arith)
beside_same k u (v ∷ x ∷ ts) h [] w t ys e l =
    let i : v ≡ w = cc in
    let j : x ≡ t = cc in
    let a = not_wrong k u v (x ∷ ts) h in
    let b = not_wrong (suc k) (some v) x ts a.1 in
    sym (ap body i) ∙ linked_same v x (first ts) (looks_on u v (x ∷ ts) a.0 x ts refl) b.0 (ap (λ (y : List Entry). linked (some y) x) i ∙ ap (linked (some w)) j ∙ l) ∙ ap body j
beside_same k u (v ∷ ts) h (x ∷ xs) w t ys e l = beside_same (suc k) (some v) ts (not_wrong k u v ts h).1 xs w t ys (cc) l

beside_of : (w t : List Entry) → linked (some w) t ≡ true → (held M_DUP w ≡ 1) ⊎ (held M_DUP t ≡ 2)
beside_of w t h = by_tests (eqb (held M_DUP w) 1) (eqb (held M_DUP t) 2) refl refl h
  where
    by_tests : (a b : Bool) → eqb (held M_DUP w) 1 ≡ a → eqb (held M_DUP t) 2 ≡ b → (a || b) ≡ true → (held M_DUP w ≡ 1) ⊎ (held M_DUP t ≡ 2)
    by_tests true b i j k = inl (eqb-true (held M_DUP w) 1 i)
    by_tests false true i j k = inr (eqb-true (held M_DUP t) 2 j)
    by_tests false false i j k = let z : ◌≡◌ {A = ℕ} 0 1 = cc in absurd (omega arith)

-- what stands at one place of a list is one
same_place : (xs ys : Telegrams) (t u : List Entry) (vs ws : Telegrams) → xs ++ t ∷ vs ≡ ys ++ u ∷ ws → length xs ≡ length ys → t ≡ u
same_place [] [] t u vs ws e n = cc
same_place [] (y ∷ ys) t u vs ws e n = absurd (omega arith)
same_place (x ∷ xs) [] t u vs ws e n = absurd (omega arith)
same_place (x ∷ xs) (y ∷ ys) t u vs ws e n = same_place xs ys t u vs ws (cc) (omega arith)

-- ---- along the line

module _ (p : Terms) (ts : Telegrams) (h : AllTelegrams p ts) (g : grouped ts ≡ true) (c : miscopied 0 none (line_from ts) ≡ none) where
  abbrev line : Telegrams
  line = line_from ts

  free_counts : (t : List Entry) (j : In t line) → linked (previous_of none j.before) t ≡ false → Counting ts t
  free_counts t j f u i e =
      let b : Balise = record { pig = held N_PIG t; telegram = t } in
      let n = at_its_pig p ts h g t j in
      let q = all_in_line p ts h g u i in
      let r = at_its_pig p ts h g u q in
      let a : CountsAt 0 none line b = record { before = j.before; after = j.after; is = j.is; pig = omega arith; free = f } in
      counted_free line b (every_counted 0 none line b a) q.before u q.after q.is (omega arith)

  own : (t : List Entry) (j : In t line) → linked (previous_of none j.before) t ≡ false → Kept ts t
  own t j f = record { telegram = t; came = only_in_line p ts h g t j; counts = free_counts t j f; lowest = omega arith; same = refl; copies = itself }

  kept_at : (n : ℕ) (t : List Entry) (j : In t line) → length j.before ≡ n → Kept ts t
  kept_at zero t j e = by_last (last_of none j.before)
    where
      by_last : Last none j.before → Kept ts t
      by_last (nobody a f) = own t j (ap (λ (o : Option (List Entry)). linked o t) f)
      by_last (someone ys w a f) = let m = ap length a ∙ length-append ys (w ∷ []) in absurd (omega arith)
  kept_at (suc n) t j e = by_last (last_of none j.before) (λ w i m. kept_at n w i m)
    where
      by_last : Last none j.before → ((w : List Entry) (i : In w line) → length i.before ≡ n → Kept ts w) → Kept ts t
      by_last (nobody a f) on = own t j (ap (λ (o : Option (List Entry)). linked o t) f)
      by_last (someone ys w a f) on = by_test (linked (some w) t) refl
        where
          is : line ≡ ys ++ w ∷ t ∷ j.after
          is = j.is ∙ ap (λ (l : Telegrams). l ++ t ∷ j.after) a ∙ append_assoc ys (w ∷ []) (t ∷ j.after)

          by_test : (b : Bool) → linked (some w) t ≡ b → Kept ts t
          by_test false l = own t j (ap (λ (o : Option (List Entry)). linked o t) f ∙ l)
          by_test true l =
              let i : In w line = record { before = ys; after = t ∷ j.after; is = is } in
              let m = ap length a ∙ length-append ys (w ∷ []) in
              let k = on w i (omega arith) in
              let x = at_its_pig p ts h g w i in
              let y = at_its_pig p ts h g t j in
              let z = k.lowest in
              record {
                telegram = k.telegram;
                came = k.came;
                counts = k.counts;
                lowest = omega arith;
                same = k.same ∙ beside_same 0 none line c ys w t j.after is l;
                copies = behind t k.copies (only_in_line p ts h g t j) (omega arith, beside_of w t l);
              }

  pub line_kept : (t : List Entry) → In t ts → Kept ts t
  line_kept t i = let j = all_in_line p ts h g t i in kept_at (length j.before) t j refl

-- ---- of a group's answer

module _ (p : Terms) (s ns : List ℕ) (room : ℕ) (ms : List Member) (e : group p s ns room ≡ lists ms) (ts : Telegrams) (a : arrived p 0 (parts s ns) ≡ all ts) where
  pub passed_tests : Gives ts ms
  passed_tests =
      let w = group_passes p s ns room ms e in
      let q : w.telegrams ≡ ts = let r = sym w.arrives ∙ a in cc in
      subst (λ (l : Telegrams). Gives l ms) q w.gives

  pub all_telegrams : AllTelegrams p ts
  all_telegrams = arrived_telegrams p 0 (parts s ns) ts a

  pub answer_of : Answered ts ms
  answer_of =
      let w = answered p s ns room ms e in
      let q : w.0 ≡ ts = let r = sym w.1.0 ∙ a in cc in
      subst (λ (l : Telegrams). Answered l ms) q w.1.1

  -- of each telegram that arrived, one that counts holds the packets
  pub none_lost : (t : List Entry) → In t ts → Kept ts t
  none_lost t i = line_kept p ts all_telegrams passed_tests.whole passed_tests.copies t i

  -- "each once": a telegram is known by its N_PIG
  pub one_of_pig : (t u : List Entry) → In t ts → In u ts → held N_PIG t ≡ held N_PIG u → t ≡ u
  one_of_pig t u i j n =
      let v = all_in_line p ts all_telegrams passed_tests.whole t i in
      let w = all_in_line p ts all_telegrams passed_tests.whole u j in
      let x = at_its_pig p ts all_telegrams passed_tests.whole t v in
      let y = at_its_pig p ts all_telegrams passed_tests.whole u w in
      same_place v.before w.before t u v.after w.after (sym v.is ∙ w.is) (omega arith)

  -- "such copies count once, at the lowest N_PIG": a balise of which a packet is listed is no copy of the one before it, by the M_DUP of neither
  pub no_copy_listed : (o : Member) → In o ms → (t u : List Entry) → In t ts → In u ts → held N_PIG u ≡ o.pig → Beside t u → ⊥
  no_copy_listed o l t u i j n b = by_side b.1
    where
      shown : Shown ts o
      shown = answer_of.only o l

      same : u ≡ shown.telegram
      same = one_of_pig u shown.telegram j shown.came (n ∙ ap (λ (x : Member). x.pig) shown.is)

      free : (held M_DUP t ≡ 1 → ⊥) × (held M_DUP shown.telegram ≡ 2 → ⊥)
      free = shown.counts t i (ap (held N_PIG) (sym same) ∙ b.0)

      by_side : (held M_DUP t ≡ 1) ⊎ (held M_DUP u ≡ 2) → ⊥
      by_side (inl d) = free.0 d
      by_side (inr d) = free.1 (ap (held M_DUP) (sym same) ∙ d)

  -- so no two balises of which packets are listed are copies
  pub no_two_copies : (m o : Member) → In m ms → In o ms → (t u : List Entry) → In t ts → In u ts → held N_PIG t ≡ m.pig → held N_PIG u ≡ o.pig → Beside t u → ⊥
  no_two_copies m o k l t u i j c n b = no_copy_listed o l t u i j n b

  copies_in : {u w : List Entry} → In u ts → Copies ts u w → In w ts
  copies_in i itself = i
  copies_in i (behind t c j b) = j

  -- one that counts is no copy of one before it
  not_behind : (u w : List Entry) → Counting ts u → In w ts → Beside w u → ⊥
  not_behind u w c i b = by_side b.1
    where
      by_side : (held M_DUP w ≡ 1) ⊎ (held M_DUP u ≡ 2) → ⊥
      by_side (inl d) = (c w i b.0).0 d
      by_side (inr d) = (c w i b.0).1 d

  one_chain : {u v : List Entry} → In u ts → Counting ts u → In v ts → Counting ts v → {t w : List Entry} → Copies ts u t → Copies ts v w → t ≡ w → u ≡ v
  one_chain i c j d itself itself e = e
  one_chain {u} {v} i c j d itself (behind {w = w} t l k b) e = absurd (not_behind u w c (copies_in j l) (subst (Beside w) (sym e) b))
  one_chain {u} {v} i c j d (behind {w = w} t l k b) itself e = absurd (not_behind v w d (copies_in i l) (subst (Beside w) e b))
  one_chain i c j d (behind {w = w} t l k b) (behind {w = x} r m n f) e =
      let y = ap (held N_PIG) e in
      let p = b.0 in
      let q = f.0 in
      one_chain i c j d l m (one_of_pig w x (copies_in i l) (copies_in j m) (omega arith))

  -- "such copies count once": of the telegrams that one is a copy of, one alone counts
  pub one_kept : (t : List Entry) (a b : Kept ts t) → a.telegram ≡ b.telegram
  one_kept t a b = one_chain a.came a.counts b.came b.counts a.copies b.copies refl
