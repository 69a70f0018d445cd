-- Closed terms that the tests find the same are the same.
use Rattle.std.proofs.Common.{◌≡◌, ℕ, List, [], ◌∷◌, Bool, true, false, refl, sym, ap, ap₂, ◌∙◌, true≢false}
use Rattle.std.specs.Prelude.{◌&&◌, ◌==◌, bytes_eq}
use Rattle.std.specs.Cmp.{first_so, second_so, signed_Decides, unsigned_Decides}
use Rattle.std.specs.Cmp.Lexicographic.{pointwise, pointwise_decides, bytes_decides}
use Rattle.dx_ast.specs.declared.constants.Const.{Const}
use Rattle.dx_ast.specs.declared.constants.Const.TheVariants.{Null, Int, Text, Vector, Ints, Vectors, Texts}
use Rattle.dx_base.specs.declared.function.Module.{Module}
use Rattle.dx_base.specs.declared.function.Module.TheVariants.{Import, Select, Extract, Replace, Mark, Unmark, Slab, Compute, Statistics, Histogram, Collect, CollectNamed, CollectSeries, Inquire}
use Rattle.dx_ast.specs.contracts.constants.ConstPartialEq.TheImpl as const
use Rattle.dx_base.specs.contracts.function.ModulePartialEq.TheImpl as modules
use Rattle.dx_tags.specs.Closed.{ValueTerm, ConstantTerm, HeldTerm, ResultTerm, FileTerm, CallTerm, CallOf, ValueTerms, NoTerm, AndTerm}
use Rattle.dx_links.specs.Getting.{same_value, same_call, same_values}

both_true : (p q : Bool) → p ≡ true → q ≡ true → (p && q) ≡ true
both_true p q e f = rw (e, f) refl

const_is : (a b : Const) → const.ghosts.eq a b ≡ true → a ≡ b
const_is Null Null h = refl
const_is (Int x) (Int y) h = ap Int ((signed_Decides x y).0 h)
const_is (Text x) (Text y) h = ap Text ((bytes_decides x y).0 h)
const_is (Vector x) (Vector y) h = ap Vector ((pointwise_decides signed_Decides x y).0 h)
const_is (Ints x) (Ints y) h = ap Ints ((pointwise_decides signed_Decides x y).0 h)
const_is (Vectors w x) (Vectors v y) h = ap₂ Vectors ((unsigned_Decides w v).0 (first_so (w == v) _ h)) ((pointwise_decides signed_Decides x y).0 (second_so (w == v) _ h))
const_is (Texts x) (Texts y) h = ap Texts ((pointwise_decides bytes_decides x y).0 h)
const_is a b h = absurd (true≢false (sym h))

const_itself : (a : Const) → const.ghosts.eq a a ≡ true
const_itself Null = refl
const_itself (Int x) = (signed_Decides x x).1 refl
const_itself (Text x) = (bytes_decides x x).1 refl
const_itself (Vector x) = (pointwise_decides signed_Decides x x).1 refl
const_itself (Ints x) = (pointwise_decides signed_Decides x x).1 refl
const_itself (Vectors w x) = both_true (w == w) _ ((unsigned_Decides w w).1 refl) ((pointwise_decides signed_Decides x x).1 refl)
const_itself (Texts x) = (pointwise_decides bytes_decides x x).1 refl

module_is : (a b : Module) → modules.ghosts.eq a b ≡ true → a ≡ b
module_is Import Import h = refl
module_is Select Select h = refl
module_is Extract Extract h = refl
module_is Replace Replace h = refl
module_is Mark Mark h = refl
module_is Unmark Unmark h = refl
module_is Slab Slab h = refl
module_is Compute Compute h = refl
module_is Statistics Statistics h = refl
module_is Histogram Histogram h = refl
module_is Collect Collect h = refl
module_is CollectNamed CollectNamed h = refl
module_is CollectSeries CollectSeries h = refl
module_is Inquire Inquire h = refl
module_is a b h = absurd (true≢false (sym h))

module_itself : (m : Module) → modules.ghosts.eq m m ≡ true
module_itself Import = refl
module_itself Select = refl
module_itself Extract = refl
module_itself Replace = refl
module_itself Mark = refl
module_itself Unmark = refl
module_itself Slab = refl
module_itself Compute = refl
module_itself Statistics = refl
module_itself Histogram = refl
module_itself Collect = refl
module_itself CollectNamed = refl
module_itself CollectSeries = refl
module_itself Inquire = refl

mutual
  pub value_is : (t u : ValueTerm) → same_value t u ≡ true → t ≡ u
  value_is (ConstantTerm c) (ConstantTerm d) h = ap ConstantTerm (const_is c d h)
  value_is (HeldTerm n) (HeldTerm k) h = ap HeldTerm ((unsigned_Decides n k).0 h)
  value_is (ResultTerm r c) (ResultTerm s d) h = ap₂ ResultTerm ((unsigned_Decides r s).0 (first_so (r == s) (same_call c d) h)) (call_is c d (second_so (r == s) (same_call c d) h))
  value_is (FileTerm b) (FileTerm d) h = ap FileTerm ((bytes_decides b d).0 h)
  value_is t u h = absurd (true≢false (sym h))

  pub call_is : (c d : CallTerm) → same_call c d ≡ true → c ≡ d
  call_is (CallOf m ts) (CallOf n us) h = ap₂ CallOf (module_is m n (first_so (modules.ghosts.eq m n) (same_values ts us) h)) (values_are ts us (second_so (modules.ghosts.eq m n) (same_values ts us) h))

  pub values_are : (ts us : ValueTerms) → same_values ts us ≡ true → ts ≡ us
  values_are NoTerm NoTerm h = refl
  values_are (AndTerm t ts) (AndTerm u us) h = ap₂ AndTerm (value_is t u (first_so (same_value t u) (same_values ts us) h)) (values_are ts us (second_so (same_value t u) (same_values ts us) h))
  values_are ts us h = absurd (true≢false (sym h))

mutual
  pub value_itself : (t : ValueTerm) → same_value t t ≡ true
  value_itself (ConstantTerm c) = const_itself c
  value_itself (HeldTerm n) = (unsigned_Decides n n).1 refl
  value_itself (ResultTerm r c) = both_true (r == r) (same_call c c) ((unsigned_Decides r r).1 refl) (call_itself c)
  value_itself (FileTerm b) = (bytes_decides b b).1 refl

  pub call_itself : (c : CallTerm) → same_call c c ≡ true
  call_itself (CallOf m ts) = both_true (modules.ghosts.eq m m) (same_values ts ts) (module_itself m) (values_themselves ts)

  pub values_themselves : (ts : ValueTerms) → same_values ts ts ≡ true
  values_themselves NoTerm = refl
  values_themselves (AndTerm t ts) = both_true (same_value t t) (same_values ts ts) (value_itself t) (values_themselves ts)

pub call_true : (c d : CallTerm) → c ≡ d → same_call c d ≡ true
call_true c d e = ap (λ x. same_call c x) (sym e) ∙ call_itself c

pub value_true : (t u : ValueTerm) → t ≡ u → same_value t u ≡ true
value_true t u e = ap (λ x. same_value t x) (sym e) ∙ value_itself t

-- two tests that hold together are the same
pub same_test : (a b : Bool) → (a ≡ true → b ≡ true) → (b ≡ true → a ≡ true) → a ≡ b
same_test true b f g = sym (f refl)
same_test false true f g = g refl
same_test false false f g = refl
