-- Texts put one behind the other: a chain of calls is a chain of `joins-then`. Assumes nothing.
use mathlib.Core.Path.{◌≡◌, refl, sym, ap, ◌∙◌, subst}
use mathlib.Core.Bool.{Bool, true, false, cond, ◌&&◌, ◌||◌, or-false, or-true}
use mathlib.Core.List.{List, [], ◌∷◌, ◌++◌}
use Prim.Native.Nat.{ℕ, ◌+◌, ◌≤◌, ◌<◌, min}
use native.Mathlib.Numerals.{add-one}
use native.Mathlib.Omega.{arith}
use borrow.Author.Tests.{lt-ltb, le-ltb, eq-eqb, ne_eqb}
use lib.Dec.{eqb, ltb}
use lib.ListN.{length, take, get_or, set, length-set}
use lib.Seq.{take-suc, take_all}
use Rattle.queue.specs.Waiting.{Waits, waiting, alone, put, queued, overflows, lost_by, Joins, Flushed}
use Rattle.queue.specs.declared.Queue.{Queue}

-- ---- one character

module _ (c n : ℕ) (bytes : List ℕ) where
  pub put_behind : n < length bytes → put c (waiting n bytes) ≡ waiting (n + 1) (set bytes n c)
  unfolding put
  put_behind h = rw (lt-ltb n (length bytes) h)

  put_alone : length bytes ≤ n → put c (waiting n bytes) ≡ alone c bytes
  unfolding put
  put_alone h = rw (le-ltb n (length bytes) h)

alone_none : (c : ℕ) (bytes : List ℕ) → length bytes ≡ 0 → alone c bytes ≡ waiting 0 bytes
alone_none c [] e = refl
alone_none c (b ∷ bytes) e = absurd (omega arith)

alone_some : (c : ℕ) (bytes : List ℕ) → (length bytes ≡ 0 → ⊥) → alone c bytes ≡ waiting 1 (set bytes 0 c)
alone_some c [] e = absurd (e refl)
alone_some c (b ∷ bytes) e = refl

pub queued_one : (c : ℕ) (w : Waits) → queued (c ∷ []) w ≡ put c w
unfolding queued
queued_one c w = refl

-- behind those that wait; into an array of no bytes; at the front of one that was full
module _ (c n : ℕ) (bytes : List ℕ) where
  one_behind : n < length bytes → waiting (n + 1) (set bytes n c) ≡ queued (c ∷ []) (waiting n bytes)
  one_behind h = sym (queued_one c (waiting n bytes) ∙ put_behind c n bytes h)

  one_nowhere : length bytes ≡ 0 → waiting 0 bytes ≡ queued (c ∷ []) (waiting n bytes)
  one_nowhere e = sym (queued_one c (waiting n bytes) ∙ put_alone c n bytes (omega arith) ∙ alone_none c bytes e)

  one_in_front : length bytes ≤ n → (length bytes ≡ 0 → ⊥) → waiting 1 (set bytes 0 c) ≡ queued (c ∷ []) (waiting n bytes)
  one_in_front h e = sym (queued_one c (waiting n bytes) ∙ put_alone c n bytes h ∙ alone_some c bytes e)

-- ---- a text

pub queued_append : (a b : List ℕ) (w : Waits) → queued (a ++ b) w ≡ queued b (queued a w)
unfolding queued
queued_append [] b w = refl
queued_append (c ∷ a) b w = queued_append a b (put c w)

length_put : (c : ℕ) (w : Waits) → length (put c w).bytes ≡ length w.bytes
unfolding put
length_put c w = by (ltb w.count (length w.bytes)) w.bytes
  where
    by : (b : Bool) (bytes : List ℕ)
        → length (cond b (waiting (w.count + 1) (set bytes w.count c)) (alone c bytes)).bytes ≡ length bytes
    by true bytes = length-set bytes w.count c
    by false [] = refl
    by false (x ∷ bytes) = refl

length_queued : (text : List ℕ) (w : Waits) → length (queued text w).bytes ≡ length w.bytes
unfolding queued
length_queued [] w = refl
length_queued (c ∷ text) w = length_queued text (put c w) ∙ length_put c w

overflows_append : (a b : List ℕ) (w : Waits) → overflows (a ++ b) w ≡ (overflows a w || overflows b (queued a w))
unfolding overflows queued
overflows_append [] b w = refl
overflows_append (c ∷ a) b w = by (ltb w.count (length w.bytes)) _ _ _ (overflows_append a b (put c w))
  where
    by : (t x y z : Bool) → x ≡ (y || z) → cond t x true ≡ (cond t y true || z)
    by true x y z e = e
    by false x y z e = refl

-- ---- what a call promises, and what two promise

pub joins_nothing : (q : Queue) (before : List ℕ) → Joins [] q before q before
unfolding queued overflows
joins_nothing q before = record { waits = refl; failed = false; loses = sym (or-false q.lost) }

pub joins_length : {text before after : List ℕ} {q r : Queue} → Joins text q before r after → length after ≡ length before
joins_length {text} {before} {after} {q} {r} h =
    ap (λ (w : Waits). length w.bytes) h.waits ∙ length_queued text (waiting q.waiting before)

-- whether the first text or the second finds the array full, an array of no bytes, and whether a write of each failed
lost_twice : (lost x y none f g : Bool) → (lost || x && (none || f) || y && (none || g)) ≡ (lost || (x || y) && (none || (x && f || y && g)))
lost_twice true x y none f g = refl
lost_twice false false false none f g = refl
lost_twice false false true none f g = refl
lost_twice false true y true f g = refl
lost_twice false true false false f g = refl
lost_twice false true true false f g = refl

pub joins_then : {a b before between after : List ℕ} {q r s : Queue} → Joins a q before r between → Joins b r between s after
    → Joins (a ++ b) q before s after
joins_then {a} {b} {before} {between} {after} {q} {r} {s} h g =
    let w : Waits = waiting q.waiting before in
    let x : Bool = overflows a w in
    let y : Bool = overflows b (queued a w) in
    let none : Bool = eqb (length before) 0 in
    record {
      waits = g.waits ∙ ap (queued b) h.waits ∙ sym (queued_append a b w);
      failed = x && h.failed || y && g.failed;
      loses =
          g.loses
          ∙ ap (λ (l : Bool). l || overflows b (waiting r.waiting between) && (eqb (length between) 0 || g.failed)) h.loses
          ∙ ap (λ (v : Waits). lost_by a q before h.failed || overflows b v && (eqb (length v.bytes) 0 || g.failed)) h.waits
          ∙ ap (λ (n : ℕ). lost_by a q before h.failed || y && (eqb n 0 || g.failed)) (length_queued a w)
          ∙ lost_twice q.lost x y none h.failed g.failed
          ∙ ap (λ (o : Bool). q.lost || o && (none || (x && h.failed || y && g.failed))) (sym (overflows_append a b w));
    }

-- ---- one character: behind those that wait; into an array of no bytes; at the front of one that was full

overflows_none : (c n : ℕ) (bytes : List ℕ) → n < length bytes → overflows (c ∷ []) (waiting n bytes) ≡ false
unfolding overflows
overflows_none c n bytes h = rw (lt-ltb n (length bytes) h)

overflows_one : (c n : ℕ) (bytes : List ℕ) → length bytes ≤ n → overflows (c ∷ []) (waiting n bytes) ≡ true
unfolding overflows
overflows_one c n bytes h = rw (le-ltb n (length bytes) h)

module _ (c : ℕ) (q : Queue) (before : List ℕ) where
  pub joins_behind : q.waiting < length before → Joins (c ∷ []) q before (record { waiting = q.waiting + 1; lost = q.lost }) (set before q.waiting c)
  joins_behind h =
      record {
        waits = one_behind c q.waiting before h;
        failed = false;
        loses = rw (overflows_none c q.waiting before h) (sym (or-false q.lost));
      }

  pub joins_nowhere : length before ≡ 0 → Joins (c ∷ []) q before (record { waiting = 0; lost = true }) before
  joins_nowhere e =
      record {
        waits = one_nowhere c q.waiting before e;
        failed = false;
        loses = rw (overflows_one c q.waiting before (omega arith), eq-eqb (length before) 0 e) (sym (or-true q.lost));
      }

  pub joins_in_front : {r : Queue} → length before ≤ q.waiting → (length before ≡ 0 → ⊥) → Flushed q before r
      → Joins (c ∷ []) q before (record { waiting = 1; lost = r.lost }) (set before 0 c)
  joins_in_front {r} h e w =
      let some : eqb (min q.waiting (length before)) 0 ≡ false = ne_eqb (min q.waiting (length before)) 0 (λ z. e (omega arith)) in
      record {
        waits = one_in_front c q.waiting before h e;
        failed = w.failed;
        loses =
            w.loses
            ∙ rw (some, overflows_one c q.waiting before h, ne_eqb (length before) 0 e);
      }

-- ---- all that waits

module _ (q : Queue) (bytes : List ℕ) where
  pub flushed_none : min q.waiting (length bytes) ≡ 0 → Flushed q bytes (record { waiting = 0; lost = q.lost })
  flushed_none e = record { waits = refl; failed = false; loses = rw (eq-eqb (min q.waiting (length bytes)) 0 e) }

  pub flushed_some : (min q.waiting (length bytes) ≡ 0 → ⊥) → (failed : Bool) {lost : Bool} → lost ≡ (q.lost || failed)
      → Flushed q bytes (record { waiting = 0; lost = lost })
  flushed_some e failed k = record { waits = refl; failed = failed; loses = rw (ne_eqb (min q.waiting (length bytes)) 0 e) k }

-- ---- the loop of `say`

pub joins_more : {before between after : List ℕ} {q r s : Queue} (piece : List ℕ) (i : ℕ) → i < length piece
    → Joins (take i piece) q before r between → Joins (get_or piece i 0 ∷ []) r between s after → Joins (take (i + 1) piece) q before s after
joins_more {before} {between} {after} {q} {r} {s} piece i h g p =
    subst (λ (t : List ℕ). Joins t q before s after) (sym (ap (λ (n : ℕ). take n piece) (add-one i) ∙ take-suc piece i 0 h)) (joins_then g p)

pub joins_all : {before after : List ℕ} {q r : Queue} (piece : List ℕ) (i : ℕ) → length piece ≤ i → Joins (take i piece) q before r after
    → Joins piece q before r after
joins_all {before} {after} {q} {r} piece i h g = subst (λ (t : List ℕ). Joins t q before r after) (take_all i piece h) g

-- ---- the same text, said otherwise

pub joins_as : {text other before after : List ℕ} {q r : Queue} → text ≡ other → Joins text q before r after → Joins other q before r after
joins_as {text} {other} {before} {after} {q} {r} e g = subst (λ (t : List ℕ). Joins t q before r after) e g
