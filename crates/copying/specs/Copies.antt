-- What a copy leaves. Definitions alone.
use Rattle.std.specs.Prelude.{cond, List, ◌++◌, ℕ, leb, length, drop}

-- s in front of what was behind its length; nothing of it where there is no room for all
abbrev pub copied_to : List ℕ → List ℕ → List ℕ
copied_to s out = cond (leb (length s) (length out)) (s ++ drop (length s) out) out
