-- What a block of items gives: the values of its items up to the first one that has a fault, and that fault.
use Rattle.std.specs.Prelude.{ℕ, ◌+◌, Bool, true, false, not, List, [], ◌∷◌, ◌++◌, map, Option, Some, None, Ok, Err, if◌then◌else◌, ℤ}
use Rattle.dx_expr_grammar.specs.declared.tree.Binary.{Binary}
use Rattle.dx_expr_grammar.specs.declared.tree.Binary.TheVariants as binary
use Rattle.dx_expr_grammar.specs.declared.tree.Expression.{Expression}
use Rattle.dx_expr.specs.declared.fault.ItemFault.{ItemFault}
use Rattle.dx_expr.specs.Value.{Inputs, Outcome, Values, value_of, is_zero, truth, the_value, ◌>>=◌}

-- values, and the fault at which they end
pub record Run (A : Type 0) : Type 0 where
  pub values : List A
  pub fault : Option ItemFault

abbrev pub run_of : {A : Type 0} → List A → Option ItemFault → Run A
run_of values fault = record { values = values; fault = fault }

-- these values before those of a run
abbrev pub behind : {A : Type 0} → List A → Run A → Run A
behind vs run = record { values = vs ++ run.values; fault = run.fault }

-- a value before those of a run
abbrev pub fronted : {A : Type 0} → A → Run A → Run A
fronted v run = record { values = v ∷ run.values; fault = run.fault }

-- a value, where there is one, before those of a run, which isn't reached otherwise
abbrev pub before : {A : Type 0} → Outcome A → Run A → Run A
before (Ok v) run = fronted v run
before (Err fault) run = record { values = []; fault = Some fault }

-- the values up to the first fault, and that fault
abbrev pub up_to : {A : Type 0} → List (Outcome A) → Run A
up_to [] = record { values = []; fault = None }
up_to (o ∷ rest) = before o (up_to rest)

-- the value of an item of an expression that is a single value
abbrev pub single : Outcome Values → Outcome ℤ
single o = o >>= λ vs. Ok (the_value vs)

-- what a block of items gives of an expression that is a single value
abbrev pub block_of : Inputs → Expression → List ℕ → Run ℤ
block_of inputs e items = up_to (map (λ item. single (value_of inputs item e)) items)

-- ---- two operands

-- an operator on the values of both sides, in order
abbrev pub beside : {A B C : Type 0} → (A → B → Outcome C) → List A → List B → List (Outcome C)
beside h [] ys = []
beside h (x ∷ xs) [] = []
beside h (x ∷ xs) (y ∷ ys) = h x y ∷ beside h xs ys

-- the first of two faults that is there
abbrev pub or_else : Option ItemFault → Option ItemFault → Option ItemFault
or_else (Some fault) other = Some fault
or_else None other = other

-- a run, with a fault behind its values where it has none
abbrev pub ended : {A : Type 0} → Run A → Option ItemFault → Run A
ended run fault = record { values = run.values; fault = or_else run.fault fault }

-- an operator on two runs, of which the right one goes no further than the left one
abbrev pub both : {A B C : Type 0} → (A → B → Outcome C) → Run A → Run B → Run C
both h a b = ended (up_to (beside h a.values b.values)) (or_else b.fault a.fault)

-- ---- a condition

-- the items whose value passes a test
abbrev pub picked : (ℤ → Bool) → List ℤ → List ℕ → List ℕ
picked p [] items = []
picked p (c ∷ cs) [] = []
picked p (c ∷ cs) (item ∷ items) = if p c then item ∷ picked p cs items else picked p cs items

-- it isn't zero, or it is, as is wanted
abbrev pub passes : Bool → ℤ → Bool
passes true c = not (is_zero c)
passes false c = is_zero c

-- the operator that looks at its right side where the left one passes
abbrev pub looking_where : Bool → Binary
looking_where true = binary.And
looking_where false = binary.Or

-- the next value of a run, and what follows it
abbrev pub next : {A : Type 0} → List A → Option ItemFault → (List A → Run A) → Run A
next [] fault more = record { values = []; fault = fault }
next (v ∷ vs) fault more = fronted v (more vs)

-- The values of two runs in the order of the conditions' values: of the one where it isn't zero, of the other where it is.
abbrev pub merged : {A : Type 0} → List ℤ → Option ItemFault → List A → Option ItemFault → List A → Option ItemFault → Run A
merged [] end one one_fault other other_fault = record { values = []; fault = end }
merged (c ∷ cs) end one one_fault other other_fault =
    if is_zero c
    then next other other_fault (λ rest. merged cs end one one_fault rest other_fault)
    else next one one_fault (λ rest. merged cs end rest one_fault other other_fault)

-- 1 or 0, as a value is true or not
abbrev pub decision : ℤ → ℤ
decision v = truth (not (is_zero v))

abbrev pub decided : ℤ → Outcome ℤ
decided v = Ok (decision v)

-- ---- loops

-- a step at each place and the value that stands there, from a place on
abbrev pub steps : (ℕ → ℤ → Outcome ℤ) → ℕ → List ℤ → List (Outcome ℤ)
steps f place [] = []
steps f place (v ∷ vs) = f place v ∷ steps f (place + 1) vs
