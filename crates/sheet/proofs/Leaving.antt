-- What export, import and `judge` leave in what is lent, each from its promise alone: a refusal, whose number is not 0, leaves it as it was;
-- otherwise the sheet, or the bytes, of one telegram stand in front of what was there. The first two for any terms. Assumes nothing.
use Rattle.std.specs.Prelude.{Ok}
use mathlib.Core.Bool.{Bool, true, false, cond}
use mathlib.Core.List.{List}
use mathlib.Core.Logic.{◌≢◌}
use mathlib.Core.Option.{Option, some, none}
use mathlib.Core.Path.{◌≡◌, refl, sym, ap, ◌∙◌, subst}
use Prim.Native.Nat.{ℕ, ◌*◌, ◌≤◌}
use native.Mathlib.Omega.{arith}
use borrow.Author.Tests.{leb-true}
use lib.Dec.{leb}
use lib.ListN.{length, length-append}
use Rattle.bits.specs.Bits.{bytes_of, bytes_for}
use Rattle.format.specs.Rules.{Terms, paper}
use Rattle.format.specs.Telegrams.{Entry, Result, Telegram, all, bits, bit_count, values, write}
use Rattle.format.specs.Telegrams.Result.{accepted, refused}
use Rattle.format.specs.declared.Kind.TheVariants.{Room}
use Rattle.laws.proofs.Demand2.{write_is}
use Rattle.laws.proofs.Listed.{telegram_listed}
use Rattle.states.specs.Labels.{numbers}
use Rattle.states.specs.Reader.{early, checked}
use Rattle.states.proofs.Accepting.{bytes_long}
use Rattle.states.proofs.Answers.{Sound, check_judges}
use Rattle.states.proofs.Leaving.{Stores, Listed, stored, few_values, few_bytes}
use Rattle.states.proofs.Rooms.{had_room}
use Rattle.sheet.specs.Rows.{heading, row_text, sheet_text}
use Rattle.sheet.specs.Sheets.{number_of, exported, length_of, sheet_over, Imported, other_name, named, judged, import_into, size_of, bytes_over, Export, Import}
use Rattle.sheet.specs.Sheets.Imported.{taken, refused_by, refused_at}
use Rattle.sheet.specs.Steps.{columns_into, Judged}
use Rattle.sheet.proofs.Back.{only_sheets}
use Rattle.sheet.proofs.Columns.{entries_of_lem, rows_few}
use Rattle.sheet.proofs.Gathering.{length_heading}
use Rattle.sheet.proofs.Making.{below_numbers}
use Rattle.sheet.proofs.Numbers.{export_answer, import_answer, judge_answer}
use Rattle.sheet.proofs.ThereAndBack.{written, held}
use Rattle.sheet.specs.Replies.{Reply}

-- ---- export

-- every sheet has room in what export asks for
sheet_few : (p : Terms) {es : List Entry} → Telegram p es → length (sheet_text es) ≤ 65536
unfolding sheet_text
sheet_few p {es} t =
    let k = telegram_listed p t in
    let rows : length (all row_text es) ≤ 43 * length (values es) =
    subst (λ (l : List Entry). length (all row_text l) ≤ 43 * length (values es)) (entries_of_lem es k) (rows_few (numbers es) (values es) (below_numbers es k)) in
    omega (arith, rows, length-append heading (all row_text es), length_heading, few_values p t)

module _ {p : Terms} {s : List ℕ} {n : ℕ} {before after : List ℕ} {reply : Reply} (h : Export p s n before reply after) where
  pub export_keeps : number_of reply ≢ 0 → after ≡ before
  export_keeps d = by (exported p s n (length before)) (export_answer h) h.contents
    where
      by : (r : Result) → reply ≡ length_of r → after ≡ sheet_over r before → after ≡ before
      by (accepted es) is c = absurd (d (ap number_of is))
      by (refused x) is c = c

  pub export_stores : {m : ℕ} → reply ≡ Ok m → Stores (Sound p s n) sheet_text m 65536 before after
  unfolding exported
  export_stores {m} e =
      let w = written p s n (length before) m (sym e ∙ export_answer h) in
      let g = had_room 65536 (length before) (checked p s n) w.entries w.is in
      let j = ((check_judges p s n).accepts w.entries).0 g.1 in
      stored (Sound p s n) sheet_text w.entries j (sym w.long) (rw w.long (sheet_few p j.telegram)) g.0
      (h.contents ∙ ap (λ (x : Result). sheet_over x before) w.is)

-- ---- import

-- a refusal of either kind changes nothing
kept : (i : Imported) {reply : Reply} {before after : List ℕ} → reply ≡ size_of i → after ≡ bytes_over i before → number_of reply ≢ 0
    → after ≡ before
kept (taken es) is c d = absurd (d (ap number_of is))
kept (refused_by r) is c d = c
kept (refused_at k) is c d = c

module _ {p : Terms} {text before after : List ℕ} {reply : Reply} (h : Import p text before reply after) where
  pub import_keeps : number_of reply ≢ 0 → after ≡ before
  import_keeps d = kept (import_into p text (length before)) (import_answer h) h.contents d

  -- the telegram whose sheet the text is
  pub import_stores : {n : ℕ} → reply ≡ Ok n
      → Stores (λ es. Telegram p es × (text ≡ sheet_text es) × (n ≡ bit_count es)) (λ es. bytes_of (bits es)) (bytes_for n) 104 before after
  import_stores {n} e =
      let w = held p text (length before) n (sym e ∙ import_answer h) in
      let t = only_sheets p text w.entries w.is in
      stored (λ es. Telegram p es × (text ≡ sheet_text es) × (n ≡ bit_count es)) (λ es. bytes_of (bits es)) w.entries (t.0, t.1, w.size)
      (bytes_long p w.entries t.0 n w.size) (few_bytes p w.entries t.0 n w.size) w.enough
      (h.contents ∙ ap (λ (i : Imported). bytes_over i before) w.into)

-- ---- `judge`

-- the telegram with these values, of n bits, whose fields have the rows' numbers as far as both go
abbrev pub Named : List ℕ → List ℕ → ℕ → List Entry → Type 0
Named ks vs n es = Listed paper vs n es × (other_name 0 ks (numbers es) ≡ none)

module _ {ks vs before after : List ℕ} {reply : Reply} (h : Judged ks vs before reply after) where
  pub judge_keeps : number_of reply ≢ 0 → after ≡ before
  judge_keeps d = kept (columns_into paper ks vs (length before)) (judge_answer h) h.contents d

  module _ (n : ℕ) where
    abbrev Left : Type 0
    Left = Stores (Named ks vs n) (λ es. bytes_of (bits es)) (bytes_for n) 104 before after

    by_name : 104 ≤ length before → (es : List Entry) → write paper vs ≡ accepted es → (o : Option ℕ) → other_name 0 ks (numbers es) ≡ o
        → Ok n ≡ size_of (named o es) → after ≡ bytes_over (named o es) before → Left
    by_name l es w none q z c =
        let size : n ≡ bit_count es = cc in
        let t = write_is paper vs es w in
        stored (Named ks vs n) (λ es. bytes_of (bits es)) es ((t.0, t.1, size), q) (bytes_long paper es t.0 n size)
        (few_bytes paper es t.0 n size) l c
    by_name l es w (some k) q z c = let i : ◌≡◌ {A = ℕ} 0 1 = cc in absurd (omega arith)

    by_result : 104 ≤ length before → (r : Result) → write paper vs ≡ r → Ok n ≡ size_of (judged ks r) → after ≡ bytes_over (judged ks r) before → Left
    by_result l (accepted es) w z c = by_name l es w (other_name 0 ks (numbers es)) refl z c
    by_result l (refused x) w z c = let i : ◌≡◌ {A = ℕ} 0 1 = cc in absurd (omega arith)

    by_room : (b : Bool) → leb 104 (length before) ≡ b
        → Ok n ≡ size_of (cond b (judged ks (write paper vs)) (refused_by (early Room)))
        → after ≡ bytes_over (cond b (judged ks (write paper vs)) (refused_by (early Room))) before → Left
    by_room true q z c = by_result (leb-true 104 (length before) q) (write paper vs) refl z c
    by_room false q z c = let i : ◌≡◌ {A = ℕ} 0 1 = cc in absurd (omega arith)

  pub judge_stores : {n : ℕ} → reply ≡ Ok n → Stores (Named ks vs n) (λ es. bytes_of (bits es)) (bytes_for n) 104 before after
  unfolding columns_into
  judge_stores {n} e = by_room n (leb 104 (length before)) refl (sym e ∙ judge_answer h) h.contents
