use Rattle.std.proofs.Common.{◌≡◌, ◌∙◌, ◌∷◌, ◌++◌, [], List, ℕ, Option, Some, None, inl, inr, ◌⊎◌, subst, sym, ap}
use Rattle.dx_io.specs.Devices.{Grows, GrowsInto}
use Rattle.dx_getting.proofs.file.read.Goals as goal

one_or_none : (old new : Option (List (List ℕ))) (x : List ℕ) → GrowsInto old new (x ∷ []) → Grows old new [] ⊎ Grows old new (x ∷ [])
one_or_none old new x ([], rest, whole, g) = inl g
one_or_none old new x (y ∷ [], rest, whole, g) = let same : x ≡ y = cc in inr (subst (λ z. Grows old new (z ∷ [])) (sym same) g)
one_or_none old new x (y ∷ z ∷ front, rest, whole, g) = cc

pub returns-clause-asks : goal.returns-clause-asks
returns-clause-asks g c =
    let a : GrowsInto (g.F.Files.asked c.args.files.now) (g.F.Files.asked c.read.new.self) (c.in_ok-name.name ∷ []) = rw c.in-Err-Memory.field-0-is at c.in-Err-Memory.ensures.asks in
    subst (λ n. Grows (g.F.Files.asked c.args.files.now) (g.F.Files.asked c.read.new.self) [] ⊎ Grows (g.F.Files.asked c.args.files.now) (g.F.Files.asked c.read.new.self) (n ∷ [])) c.in_ok-name.ensures
    (one_or_none (g.F.Files.asked c.args.files.now) (g.F.Files.asked c.read.new.self) c.in_ok-name.name a)
