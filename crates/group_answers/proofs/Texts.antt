-- The text of an answer, by what the message replies and by what a line is. Assumes nothing.
use Rattle.std.specs.Prelude.{Ok, Err}
use mathlib.Core.Path.{◌≡◌, refl, sym, ap, ap₂, ◌∙◌}
use mathlib.Core.List.{List, [], ◌∷◌, ◌++◌, map}
use mathlib.Core.Option.{none}
use Prim.Native.Nat.{ℕ, ◌≤◌, min}
use native.Mathlib.Omega.{arith}
use borrow.Author.Tests.{le-leb}
use lib.ListN.{length, take, drop}
use Rattle.format.specs.Rules.{paper}
use Rattle.pieces.specs.Numbers.{decimal}
use Rattle.queue_text.specs.Texts.{newline, ok_word}
use Rattle.answer_text.specs.Texts.{no_question}
use Rattle.group.specs.Groups.{Member, Message, cause_number, group, packets_needed, reply_of, over, group_in, Replied}
use Rattle.group.specs.Groups.Message.{lists, refuses}
use Rattle.group.specs.declared.Fault.{Fault}
use Rattle.group_text.specs.Texts.{packet_text, packet_texts, packets_text, fault_text}
use Rattle.group_words.specs.Lines as lines
use Rattle.group_words.proofs.Callers.{Gathered}
use Rattle.group_answers.specs.Lines.{member_texts, message_text, text_of, answer_to}
use Rattle.group.specs.Replies.{Reply}

-- ---- by what the message replies

-- packets that stand in front of two runs
members : (ms : List Member) (x y : List ℕ)
    → packet_texts (length ms) (map (λ (m : Member). m.pig) ms ++ x) (map (λ (m : Member). m.number) ms ++ y) ≡ member_texts ms
unfolding packet_texts member_texts
members [] x y = refl
members (m ∷ ms) x y = ap (λ (l : List ℕ). packet_text m.pig m.number ++ l) (members ms x y)

packets_by : (pigs numbers : List ℕ) (g : Message) (n : ℕ) → reply_of g ≡ Ok n
    → packets_text n (over (λ (m : Member). m.pig) g pigs) (over (λ (m : Member). m.number) g numbers) ≡ message_text g
unfolding message_text
packets_by pigs numbers (lists ms) n e =
    let many : length ms ≡ n = cc in
    rw (← many) (ap (λ (l : List ℕ). ok_word ++ decimal (length ms) ++ l ++ newline) (members ms (drop (length ms) pigs) (drop (length ms) numbers)))
packets_by pigs numbers (refuses f) n e = let z : ◌≡◌ {A = ℕ} 0 1 = cc in absurd (omega arith)

fault_by : (g : Message) (f : Fault) → reply_of g ≡ Err f → fault_text (cause_number f.cause) f.which f.place ≡ message_text g
unfolding message_text
fault_by (lists ms) f e = let z : ◌≡◌ {A = ℕ} 0 1 = cc in absurd (omega arith)
fault_by (refuses g) f e = let s : g ≡ f = cc in rw s

-- "a program .. lends enough": more room changes nothing
enough : (s ns : List ℕ) (room : ℕ) → packets_needed ≤ room → group paper s ns room ≡ group paper s ns packets_needed
unfolding group
enough s ns room h = rw (le-leb packets_needed room h)

module _ {s ns pigs numbers pigs' numbers' : List ℕ} {reply : Reply} (r : Replied paper s ns pigs numbers reply pigs' numbers')
    (l : packets_needed ≤ length pigs) (m : packets_needed ≤ length numbers) where
  is : group_in paper s ns pigs numbers ≡ group paper s ns packets_needed
  is = enough s ns (min (length pigs) (length numbers)) (omega arith)

  pub packets_are : (n : ℕ) → reply ≡ Ok n → packets_text n pigs' numbers' ≡ message_text (group paper s ns packets_needed)
  packets_are n e =
      ap₂ (packets_text n) r.pigs_then r.numbers_then
      ∙ packets_by pigs numbers (group_in paper s ns pigs numbers) n (sym r.answers ∙ e)
      ∙ ap message_text is

  -- its number is that of its cause
  pub fault_is : (f : Fault) (number : ℕ) → reply ≡ Err f → number ≡ cause_number f.cause
      → fault_text number f.which f.place ≡ message_text (group paper s ns packets_needed)
  fault_is f number e k =
      ap (λ (n : ℕ). fault_text n f.which f.place) k
      ∙ fault_by (group_in paper s ns pigs numbers) f (sym r.answers ∙ e)
      ∙ ap message_text is

-- ---- by what the line is

pub answer_group : {line after counts : List ℕ} {count total : ℕ} → Gathered line after counts count total
    → message_text (group paper (take total after) (take count counts) packets_needed) ≡ answer_to line
unfolding answer_to
answer_group g =
    ap₂ (λ (s ns : List ℕ). message_text (group paper s ns packets_needed)) g.bytes g.ns ∙ sym (ap text_of g.are)

pub answer_none : (line : List ℕ) → lines.line_group line ≡ none → no_question ≡ answer_to line
unfolding answer_to
answer_none line e = sym (ap text_of e)
