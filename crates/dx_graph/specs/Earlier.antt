-- Lists in which an element refers to earlier ones by their numbers.
use Rattle.std.specs.Prelude.{List, [], ◌∷◌, ◌++◌}

-- what the elements mean, each by what those before it mean
abbrev pub by_earlier : {X Y : Type 0} → (List Y → X → Y) → List Y → List X → List Y
by_earlier meaning found [] = found
by_earlier meaning found (x ∷ rest) = by_earlier meaning (found ++ meaning found x ∷ []) rest
