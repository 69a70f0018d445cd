-- The closed terms that tags name.
use Rattle.std.specs.Prelude.{◌≡◌, ℕ, zero, suc, ◌<◌, List, [], ◌∷◌, ◌++◌, length, Some, slice_get}
use Rattle.dx_ast.specs.Lawful.{IsLawfulConst}
use Rattle.dx_tags.specs.declared.term.Term.{Term}
use Rattle.dx_tags.specs.declared.term.Term.TheVariants.{Constant, Held, Call, File}
use Rattle.dx_ast.specs.declared.constants.Const.{Const}
use Rattle.dx_ast.specs.declared.constants.Const.TheVariants.{Null}
use Rattle.dx_base.specs.declared.function.Module.{Module}
use Rattle.dx_tags.specs.declared.term.ValueTag.{ValueTag}

-- a constant, a held value, or a result of a call term
mutual
  pub data ValueTerm : Type 0 where
    ConstantTerm : Const → ValueTerm
    HeldTerm : ℕ → ValueTerm
    ResultTerm : (result : ℕ) → CallTerm → ValueTerm
    FileTerm : List ℕ → ValueTerm
    deriving Discrete as ValueTerm-discrete

  pub data CallTerm : Type 0 where
    CallOf : Module → ValueTerms → CallTerm
    deriving Discrete as CallTerm-discrete

  pub data ValueTerms : Type 0 where
    NoTerm : ValueTerms
    AndTerm : ValueTerm → ValueTerms → ValueTerms

-- what a tag names
pub data Head : Type 0 where
  ConstantHead : Const → Head
  HeldHead : ℕ → Head
  CallHead : CallTerm → Head
  FileHead : List ℕ → Head

abbrev pub head_at : List Head → ℕ → Head
head_at [] n = ConstantHead Null
head_at (h ∷ hs) zero = h
head_at (h ∷ hs) (suc n) = head_at hs n

abbrev pub result_of_head : Head → ℕ → ValueTerm
result_of_head (ConstantHead c) result = ConstantTerm c
result_of_head (HeldHead n) result = HeldTerm n
result_of_head (CallHead c) result = ResultTerm result c
result_of_head (FileHead b) result = FileTerm b

abbrev pub value_term : List Head → ValueTag → ValueTerm
value_term hs t = result_of_head (head_at hs t.tag) t.result

abbrev pub value_terms : List Head → List ValueTag → ValueTerms
value_terms hs [] = NoTerm
value_terms hs (t ∷ ts) = AndTerm (value_term hs t) (value_terms hs ts)

abbrev pub head_of : List Head → Term → Head
head_of hs (Constant c) = ConstantHead c
head_of hs (Held n) = HeldHead n
head_of hs (Call m ts) = CallHead (CallOf m (value_terms hs ts))
head_of hs (File b) = FileHead b

abbrev pub heads_after : List Head → List Term → List Head
heads_after hs [] = hs
heads_after hs (t ∷ ts) = heads_after (hs ++ head_of hs t ∷ []) ts

-- what each tag names, from the first
abbrev pub heads_of : List Term → List Head
heads_of ts = heads_after [] ts

-- the tags within are earlier ones, with result 0 where they name no call
abbrev pub IsResultOf : Head → ℕ → Type 0
IsResultOf (ConstantHead c) result = result ≡ 0
IsResultOf (HeldHead n) result = result ≡ 0
IsResultOf (CallHead c) result = Unit {0}
IsResultOf (FileHead b) result = result ≡ 0

abbrev pub AreEarlier : List Head → ℕ → List ValueTag → Type 0
AreEarlier hs n [] = Unit {0}
AreEarlier hs n (t ∷ ts) = ((t.tag < n) × IsResultOf (head_at hs t.tag) t.result) × AreEarlier hs n ts

-- a constant is one that a script can have
abbrev pub IsFormed : List Head → ℕ → Term → Type 0
IsFormed hs n (Constant c) = ∥ IsLawfulConst c ∥₁
IsFormed hs n (Held k) = Unit {0}
IsFormed hs n (Call m ts) = AreEarlier hs n ts
IsFormed hs n (File b) = Unit {0}

-- each term has earlier tags alone, the first of the list having number n
abbrev pub AreFormed : List Head → ℕ → List Term → Type 0
AreFormed hs n [] = Unit {0}
AreFormed hs n (t ∷ ts) = IsFormed hs n t × AreFormed hs (suc n) ts

abbrev pub AllFormed : List Term → Type 0
AllFormed terms = AreFormed (heads_of terms) 0 terms

-- no term stands at two places
abbrev pub AreDistinct : List Term → Type 0
AreDistinct ts = (i j : ℕ) (t : Term) → slice_get ts i ≡ Some t → slice_get ts j ≡ Some t → i ≡ j

-- two tags name two closed terms
abbrev pub NamesExactly : List Term → Type 0
NamesExactly ts = (i j : ℕ) → i < length ts → j < length ts → head_at (heads_of ts) i ≡ head_at (heads_of ts) j → i ≡ j

-- a term that stands for a held value has a number below this
abbrev pub IsHeldBelow : ℕ → Term → Type 0
IsHeldBelow n (Constant c) = Unit {0}
IsHeldBelow n (Held k) = k < n
IsHeldBelow n (Call m ts) = Unit {0}
IsHeldBelow n (File b) = Unit {0}

-- so has each of these that stands for one
abbrev pub HeldBelow : ℕ → List Term → Type 0
HeldBelow n [] = Unit {0}
HeldBelow n (t ∷ ts) = IsHeldBelow n t × HeldBelow n ts

-- none of these stands for a held value
abbrev pub NoneHeld : List Term → Type 0
NoneHeld ts = HeldBelow 0 ts

-- a list of terms, and behind it any others
abbrev pub HasMore : List Term → List Term → Type 0
HasMore old new = (more : List Term) × (new ≡ old ++ more)

-- a list of terms goes on as another, with constants, calls and files
abbrev pub GoesOn : List Term → List Term → Type 0
GoesOn old new = (more : List Term) × (new ≡ old ++ more) × NoneHeld more

-- the tag of a value that is there
pub record Fits (terms : List Term) (t : ValueTag) : Type 0 where
  pub within : t.tag < length terms
  pub result : IsResultOf (head_at (heads_of terms) t.tag) t.result

-- a tag names this head
pub record NamesHead (terms : List Term) (tag : ℕ) (h : Head) : Type 0 where
  pub within : tag < length terms
  pub head : head_at (heads_of terms) tag ≡ h
