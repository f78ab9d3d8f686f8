-- The answer of an accepted group in words: the packets of all balises that count and no others, each once, by N_PIG and then by number. Assumes nothing.
use mathlib.Core.Bool.{true, false}
use mathlib.Core.List.{List, [], ◌∷◌, ◌++◌, append_assoc}
use mathlib.Core.Option.{Option, some, none}
use mathlib.Core.Path.{◌≡◌, refl, sym, ap, ◌∙◌, subst}
use Prim.Native.Nat.{ℕ, suc}
use native.Mathlib.Omega.{arith}
use borrow.Author.Tests.{ne_eqb}
use lib.ListN.{length, length-append}
use Rattle.format.specs.Among.{PacketIn}
use Rattle.format.specs.Fields.{N_PIG, M_DUP}
use Rattle.format.specs.Rules.{Terms}
use Rattle.format.specs.Telegrams.{Entry}
use Rattle.group.specs.Groups.{Member, Balise, arrived, parts, held, grouped, linked, counting, packets_of, listed, group}
use Rattle.group.specs.Groups.Arrived.{all}
use Rattle.group.specs.Groups.Message.{lists}
use Rattle.group_laws.proofs.Passing.{Telegrams, line_from, group_passes}
use Rattle.group_laws.proofs.Enough.{AllTelegrams, arrived_telegrams}
use Rattle.group_laws.proofs.Listing.{In, member_of, every_listed, only_listed}
use Rattle.group_laws.proofs.Sorting.{Sorted, listed_sorted}
use Rattle.group_laws.proofs.Counted.{CountsAt, previous_of, every_counted, only_these, all_these}
use Rattle.group_laws.proofs.Unlinked.{counted_free}
use Rattle.group_laws.proofs.InLine.{telegram_in_lem, all_in_line, only_in_line, at_its_pig}

-- ---- in words

-- "such copies count once, at the lowest N_PIG": a balise counts where the one before it does not name it, nor it that one
abbrev pub Counting : Telegrams → List Entry → Type 0
Counting ts t = (u : List Entry) → In u ts → held N_PIG t ≡ suc (held N_PIG u) → (held M_DUP u ≡ 1 → ⊥) × (held M_DUP t ≡ 2 → ⊥)

-- a packet of a balise that counts: with its balise's N_PIG, its number in its telegram, its NID_PACKET, its Q_DIR, and the bit where that begins
pub record Shown (ts : Telegrams) (m : Member) : Type 0 where
  pub telegram : List Entry
  pub came : In telegram ts
  pub counts : Counting ts telegram
  pub id : ℕ
  pub dir : ℕ
  pub packet : PacketIn telegram id dir
  pub is : m ≡ member_of (held N_PIG telegram) packet

-- they are listed, and nothing else is, in order and each once
pub record Answered (ts : Telegrams) (ms : List Member) : Type 0 where
  pub every : (m : Member) → Shown ts m → In m ms
  pub only : (m : Member) → In m ms → Shown ts m
  pub sorted : Sorted ms

-- ---- the one before

pub data Last (u : Option (List Entry)) (xs : Telegrams) : Type 0 where
  nobody : xs ≡ [] → previous_of u xs ≡ u → Last u xs
  someone : (ys : Telegrams) (w : List Entry) → xs ≡ ys ++ (w ∷ []) → previous_of u xs ≡ some w → Last u xs

pub last_of : (u : Option (List Entry)) (xs : Telegrams) → Last u xs
last_of u [] = nobody refl refl
last_of u (x ∷ xs) = by_rest (last_of (some x) xs)
  where
    by_rest : Last (some x) xs → Last u (x ∷ xs)
    by_rest (nobody e f) = someone [] x (ap (λ (l : Telegrams). x ∷ l) e) f
    by_rest (someone ys w e f) = someone (x ∷ ys) w (ap (λ (l : Telegrams). x ∷ l) e) f

free_of : (w t : List Entry) → (held M_DUP w ≡ 1 → ⊥) → (held M_DUP t ≡ 2 → ⊥) → linked (some w) t ≡ false
free_of w t a b = rw (ne_eqb (held M_DUP w) 1 a, ne_eqb (held M_DUP t) 2 b)

-- ---- of a group

module _ (p : Terms) (ts : Telegrams) (h : AllTelegrams p ts) (g : grouped ts ≡ true) where
  abbrev line : Telegrams
  line = line_from ts

  counts_free : (t : List Entry) (j : In t line) → Counting ts t → linked (previous_of none j.before) t ≡ false
  counts_free t j c = by_last (last_of none j.before)
    where
      by_last : Last none j.before → linked (previous_of none j.before) t ≡ false
      by_last (nobody e f) = ap (λ (o : Option (List Entry)). linked o t) f
      by_last (someone ys w e f) =
          let i : In w line = record { before = ys; after = t ∷ j.after; is = j.is ∙ ap (λ (l : Telegrams). l ++ t ∷ j.after) e ∙ append_assoc ys (w ∷ []) (t ∷ j.after) } in
          let a = at_its_pig p ts h g w i in
          let b = at_its_pig p ts h g t j in
          let n = ap length e ∙ length-append ys (w ∷ []) in
          let d = c w (only_in_line p ts h g w i) (omega arith) in
          ap (λ (o : Option (List Entry)). linked o t) f ∙ free_of w t d.0 d.1

  pub line_every : (m : Member) → Shown ts m → In m (listed (counting 0 none line))
  line_every m d =
      let t = d.telegram in
      let j = all_in_line p ts h g t d.came in
      let n = at_its_pig p ts h g t j in
      let b : Balise = record { pig = held N_PIG t; telegram = t } in
      let c : CountsAt 0 none line b = record { before = j.before; after = j.after; is = j.is; pig = omega arith; free = counts_free t j d.counts } in
      all_these line b c m (subst (λ (x : Member). In x (packets_of b)) (sym d.is) (every_listed (telegram_in_lem p ts t h d.came) (held N_PIG t) d.packet))

  pub line_only : (m : Member) → In m (listed (counting 0 none line)) → Shown ts m
  line_only m i =
      let c = only_these line m i in
      let b = c.balise in
      let t = b.telegram in
      let j : In t line = record { before = c.counts.before; after = c.counts.after; is = c.counts.is } in
      let came = only_in_line p ts h g t j in
      let n = at_its_pig p ts h g t j in
      let k = c.counts.pig in
      let same : b.pig ≡ held N_PIG t = omega arith in
      let o = only_listed (telegram_in_lem p ts t h came) b.pig m c.packet in
      record {
        telegram = t;
        came = came;
        counts = λ u l e.
            let q = all_in_line p ts h g u l in
            let r = at_its_pig p ts h g u q in
            counted_free line b (every_counted 0 none line b c.counts) q.before u q.after q.is (omega arith);
        id = o.0;
        dir = o.1.0;
        packet = o.1.1.0;
        is = o.1.1.1 ∙ ap (λ (x : ℕ). member_of x o.1.1.0) same;
      }

-- the telegrams that an accepted group reads as, and its answer
pub answered : (p : Terms) (s ns : List ℕ) (room : ℕ) (ms : List Member) → group p s ns room ≡ lists ms
    → (ts : Telegrams) × ((arrived p 0 (parts s ns) ≡ all ts) × Answered ts ms)
answered p s ns room ms e =
    let w = group_passes p s ns room ms e in
    let ts = w.telegrams in
    let h = arrived_telegrams p 0 (parts s ns) ts w.arrives in
    let g = w.gives.whole in
    let i = w.gives.packets in (
      ts,
      (
        w.arrives,
        record {
          every = λ m d. subst (In m) (sym i) (line_every p ts h g m d);
          only = λ m j. line_only p ts h g m (subst (In m) i j);
          sorted = subst Sorted (sym i) (listed_sorted 0 none (line_from ts));
        },
      ),
    )
