-- What the message of a group answers where it is called from C. Definitions alone.
use Rattle.std.specs.Prelude.{List, ◌≡◌, ℕ, ◌+◌, ◌-◌, ◌*◌, ◌^◌, min, Ok, Err}
use Rattle.format.specs.Rules.{Terms}
use Rattle.group.specs.Groups.{Member, cause_number, reply_of, over, group_in}
use Rattle.group.specs.Replies.{Reply}

-- How many packets; or 2^49 times the refusal's number plus which, and 1,024 times that plus the place. Which is cut there: no memory holds the list
-- of so many telegrams. A place is at most 830.
abbrev pub group_code : Reply → ℕ
group_code (Ok n) = n
group_code (Err f) = (cause_number f.cause * 2 ^ 49 + min f.which (2 ^ 49 - 1)) * 1024 + min f.place 1023

pub record GroupAnswer (p : Terms) (s ns pigs numbers : List ℕ) (answer : ℕ) (pigs' numbers' : List ℕ) : Type 0 where
  pub answers : answer ≡ group_code (reply_of (group_in p s ns pigs numbers))
  pub pigs_then : pigs' ≡ over (λ (m : Member). m.pig) (group_in p s ns pigs numbers) pigs
  pub numbers_then : numbers' ≡ over (λ (m : Member). m.number) (group_in p s ns pigs numbers) numbers
