-- docs/RULES.md, "Data sheets", asked for as "names as in [the rules] (the end mark is `END`)". The name of a field by its number. Definitions alone.
use Rattle.std.specs.Prelude.{cond, List, [], ◌∷◌, ℕ, ◌-◌, eqb, get_or}
use Rattle.format.specs.Fields.{Field, fields}
use Rattle.sheet.specs.Rows.{text_of}

-- the name of that one of these fields that has the number; a number that none has, has no name
abbrev pub name_in : ℕ → List Field → List ℕ
name_in n [] = []
name_in n (f ∷ fs) = cond (eqb n f.number) (text_of f.name) (name_in n fs)

unfoldable pub name_text : ℕ → List ℕ
unfolding fields
name_text n = name_in n fields

-- where the name ends in a label that ends before e: `name,7,` or `name,15,`
abbrev pub name_end : List ℕ → ℕ → ℕ
name_end labels e = cond (eqb (get_or labels (e - 3) 0) 44) (e - 3) (e - 4)
