-- The same by what the two functions promise alone: what is exported and imported again is the same telegram, byte for byte, and what is
-- imported and exported again is the same sheet. For any terms. Assumes nothing.
use Rattle.std.specs.Prelude.{Ok}
use mathlib.Core.Path.{◌≡◌, refl, sym, ap, ◌∙◌}
use mathlib.Core.Bool.{Bool, true, false, cond}
use mathlib.Core.List.{List, ◌++◌}
use Prim.Native.Nat.{ℕ, ◌≤◌}
use native.Mathlib.Omega.{arith}
use borrow.Author.Tests.{le-leb, leb-true}
use lib.Dec.{leb}
use lib.ListN.{length, take, drop}
use lib.Seq.{take_at}
use Rattle.bits.specs.Bits.{bytes_of, bytes_for, Below}
use Rattle.format.specs.Rules.{Terms}
use Rattle.format.specs.Telegrams.{Entry, Result, bits, bit_count}
use Rattle.format.specs.Telegrams.Result.{accepted, refused}
use Rattle.format.specs.declared.Kind.TheVariants.{Room}
use Rattle.laws.proofs.Demand2.{length_bits}
use Rattle.states.specs.Reader.{early, checked}
use Rattle.states.proofs.Accepting.{sent, same_bytes, bytes_long}
use Rattle.states.proofs.Answers.{Sound, check_judges}
use Rattle.states.proofs.Rooms.{had_room}
use Rattle.sheet.specs.Rows.{sheet_text}
use Rattle.sheet.specs.Sheets.{Imported, exported, length_of, sheet_over, imported, import_into, size_of, bytes_over, Export, Import}
use Rattle.sheet.specs.Sheets.Imported.{taken, refused_by, refused_at}
use Rattle.sheet.proofs.Numbers.{export_answer, import_answer}
use Rattle.sheet.proofs.Back.{sheet_back, only_sheets, telegram_back}
use Rattle.sheet.specs.Replies.{Reply}

-- ---- what a reply says of what was done

pub record Written (p : Terms) (s : List ℕ) (n room m : ℕ) : Type 0 where
  pub entries : List Entry
  pub is : exported p s n room ≡ accepted entries
  pub long : m ≡ length (sheet_text entries)

pub written : (p : Terms) (s : List ℕ) (n room m : ℕ) → Ok m ≡ length_of (exported p s n room) → Written p s n room m
written p s n room m e = by (exported p s n room) refl e
  where
    by : (r : Result) → exported p s n room ≡ r → Ok m ≡ length_of r → Written p s n room m
    by (accepted es) q z = record { entries = es; is = q; long = cc }
    by (refused x) q z = let w : ◌≡◌ {A = ℕ} 0 1 = cc in absurd (omega arith)

pub record Held (p : Terms) (text : List ℕ) (room n : ℕ) : Type 0 where
  pub entries : List Entry
  pub enough : 104 ≤ room
  pub into : import_into p text room ≡ taken entries
  pub is : imported p text ≡ taken entries
  pub size : n ≡ bit_count entries

pub held : (p : Terms) (text : List ℕ) (room n : ℕ) → Ok n ≡ size_of (import_into p text room) → Held p text room n
unfolding import_into
held p text room n e = by_room (leb 104 room) (imported p text) refl refl e
  where
    by_room : (b : Bool) (i : Imported) → leb 104 room ≡ b → imported p text ≡ i
        → Ok n ≡ size_of (cond b i (refused_by (early Room))) → Held p text room n
    by_room true (taken es) q r z = record { entries = es; enough = leb-true 104 room q; into = rw (q, r); is = r; size = cc }
    by_room true (refused_by x) q r z = let w : ◌≡◌ {A = ℕ} 0 1 = cc in absurd (omega arith)
    by_room true (refused_at k) q r z = let w : ◌≡◌ {A = ℕ} 0 1 = cc in absurd (omega arith)
    by_room false i q r z = let w : ◌≡◌ {A = ℕ} 0 1 = cc in absurd (omega arith)

module _ (p : Terms) where
  -- exported is checked, where there is room
  exported_checked : (s : List ℕ) (n room : ℕ) (es : List Entry) → exported p s n room ≡ accepted es → checked p s n ≡ accepted es
  unfolding exported
  exported_checked s n room es e = (had_room 65536 room (checked p s n) es e).1

  -- "Export gives the one sheet of an accepted telegram; import of that sheet gives the telegram again"
  pub import_exported : {s text after out back : List ℕ} {n m : ℕ} {reply : Reply} → Below 256 s → Export p s n text (Ok m) after
      → Import p (take m after) out reply back → 104 ≤ length out → (reply ≡ Ok n) × (back ≡ s ++ drop (length s) out)
  unfolding import_into
  import_exported {s} {text} {after} {out} {back} {n} {m} {reply} b x i h =
      let w = written p s n (length text) m (export_answer x) in
      let a : Sound p s n w.entries = ((check_judges p s n).accepts w.entries).0 (exported_checked s n (length text) w.entries w.is) in
      let sheet : take m after ≡ sheet_text w.entries =
      ap (take m) (x.contents ∙ ap (λ (r : Result). sheet_over r text) w.is)
      ∙ take_at (sheet_text w.entries) (drop (length (sheet_text w.entries)) text) m (sym w.long) in
      let again : import_into p (take m after) (length out) ≡ taken w.entries =
      rw (le-leb 104 (length out) h) (ap (imported p) sheet ∙ sheet_back p a.telegram) in
      let size : bit_count w.entries ≡ n = sym (length_bits w.entries) ∙ sent p s n w.entries a in
      let bytes : bytes_of (bits w.entries) ≡ s = same_bytes p s n w.entries a b in (
        import_answer i ∙ ap size_of again ∙ ap Ok size,
        i.contents ∙ ap (λ (r : Imported). bytes_over r out) again ∙ ap (λ (l : List ℕ). l ++ drop (length l) out) bytes,
      )

  -- and the other way round
  pub export_imported : {text out after run back : List ℕ} {n : ℕ} {reply : Reply} → Import p text out (Ok n) after
      → Export p (take (bytes_for n) after) n run reply back → 65536 ≤ length run → (reply ≡ Ok (length text)) × (back ≡ text ++ drop (length text) run)
  export_imported {text} {out} {after} {run} {back} {n} {reply} i x h =
      let w = held p text (length out) n (import_answer i) in
      let t = only_sheets p text w.entries w.is in
      let bytes : take (bytes_for n) after ≡ bytes_of (bits w.entries) =
      ap (take (bytes_for n)) (i.contents ∙ ap (λ (r : Imported). bytes_over r out) w.into)
      ∙ take_at (bytes_of (bits w.entries)) (drop (length (bytes_of (bits w.entries))) out) (bytes_for n) (bytes_long p w.entries t.0 n w.size) in
      let b = telegram_back p text w.entries (length run) h w.is in
      let again : exported p (take (bytes_for n) after) n (length run) ≡ accepted w.entries =
      ap (λ (l : List ℕ). exported p l n (length run)) bytes
      ∙ ap (λ (k : ℕ). exported p (bytes_of (bits w.entries)) k (length run)) w.size ∙ b.0 in (
        export_answer x ∙ ap length_of again ∙ ap (λ (l : List ℕ). Ok (length l)) b.1,
        x.contents ∙ ap (λ (r : Result). sheet_over r run) again ∙ ap (λ (l : List ℕ). l ++ drop (length l) run) b.1,
      )
