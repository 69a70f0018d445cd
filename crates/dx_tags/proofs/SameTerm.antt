-- Terms that the derived test finds the same are the same.
use Rattle.std.proofs.Common.{◌≡◌, ℕ, true, false, refl, sym, ap, ap₂, ◌∙◌}
use Rattle.std.specs.Bool.{Decides}
use Rattle.std.specs.Cmp.{first_so, second_so, signed_Decides, unsigned_Decides}
use Rattle.std.specs.Cmp.Lexicographic.{pointwise, pointwise_decides, bytes_decides}
use Rattle.std.proofs.Common.{true≢false}
use Rattle.std.proofs.Common.{List, [], ◌∷◌, ◌++◌, ◌<◌, ◌⊎◌, inl, inr, Some, arith}
use Rattle.std.specs.Prelude.{slice_get, ◌&&◌, ◌==◌, Bool, if◌then◌else◌}
use Rattle.std.specs.List.{IsDistinct, list_any}
use Rattle.indexmap.specs.IndexSet.{insert_key}
use Rattle.std.proofs.lemmas.Map.Keys.{apart_from_distinct}
use Rattle.std.proofs.lemmas.Option.{get_or_from_slice_get, slice_get_within}
use Rattle.dx_tags.specs.declared.term.Term.{Term}
use Rattle.dx_tags.specs.declared.term.Term.TheVariants.{Constant, Held, Call, File}
use Rattle.dx_tags.specs.declared.term.ValueTag.{ValueTag}
use Rattle.dx_ast.specs.declared.constants.Const.{Const}
use Rattle.dx_ast.specs.declared.constants.Const.TheVariants.{Null, Int, Text, Vector, Ints, Vectors, Texts}
use Rattle.dx_base.specs.declared.function.Module.{Module}
use Rattle.dx_base.specs.declared.function.Module.TheVariants.{Import, Select, Extract, Replace, Mark, Unmark, Slab, Compute, Statistics, Histogram, Collect, CollectNamed, CollectSeries, Inquire}
use Rattle.dx_tags.specs.contracts.term.TermPartialEq.TheImpl as term
use Rattle.dx_tags.specs.contracts.term.ValueTagPartialEq.TheImpl as value_tag
use Rattle.dx_ast.specs.contracts.constants.ConstPartialEq.TheImpl as const
use Rattle.dx_base.specs.contracts.function.ModulePartialEq.TheImpl as modules

both_true : (p q : Bool) → p ≡ true → q ≡ true → (p && q) ≡ true
both_true p q e f = rw (e, f) refl

-- ---- lists

same_tag_itself : (a : ValueTag) → value_tag.ghosts.eq a a ≡ true
same_tag_itself a = both_true (a.tag == a.tag) (a.result == a.result) ((unsigned_Decides a.tag a.tag).1 refl) ((unsigned_Decides a.result a.result).1 refl)

same_tag_decides : (a b : ValueTag) → Decides (value_tag.ghosts.eq a b) (a ≡ b)
same_tag_decides a b = (
  λ h i. record { tag = (unsigned_Decides a.tag b.tag).0 (first_so (a.tag == b.tag) (a.result == b.result) h) i; result = (unsigned_Decides a.result b.result).0 (second_so (a.tag == b.tag) (a.result == b.result) h) i },
  λ e. rw (← e) (same_tag_itself a),
)

tags_decide : (xs ys : List ValueTag) → Decides (pointwise value_tag.ghosts.eq xs ys) (xs ≡ ys)
tags_decide xs ys = pointwise_decides same_tag_decides xs ys

-- ---- terms

same_const : (a b : Const) → const.ghosts.eq a b ≡ true → a ≡ b
same_const Null Null h = refl
same_const (Int x) (Int y) h = ap Int ((signed_Decides x y).0 h)
same_const (Text x) (Text y) h = ap Text ((bytes_decides x y).0 h)
same_const (Vector x) (Vector y) h = ap Vector ((pointwise_decides signed_Decides x y).0 h)
same_const (Ints x) (Ints y) h = ap Ints ((pointwise_decides signed_Decides x y).0 h)
same_const (Vectors w x) (Vectors v y) h = ap₂ Vectors ((unsigned_Decides w v).0 (first_so (w == v) _ h)) ((pointwise_decides signed_Decides x y).0 (second_so (w == v) _ h))
same_const (Texts x) (Texts y) h = ap Texts ((pointwise_decides bytes_decides x y).0 h)
same_const a b h = absurd (true≢false (sym h))

const_itself : (a : Const) → const.ghosts.eq a a ≡ true
const_itself Null = refl
const_itself (Int x) = (signed_Decides x x).1 refl
const_itself (Text x) = (bytes_decides x x).1 refl
const_itself (Vector x) = (pointwise_decides signed_Decides x x).1 refl
const_itself (Ints x) = (pointwise_decides signed_Decides x x).1 refl
const_itself (Vectors w x) = both_true (w == w) _ ((unsigned_Decides w w).1 refl) ((pointwise_decides signed_Decides x x).1 refl)
const_itself (Texts x) = (pointwise_decides bytes_decides x x).1 refl

same_module : (a b : Module) → modules.ghosts.eq a b ≡ true → a ≡ b
same_module Import Import h = refl
same_module Select Select h = refl
same_module Extract Extract h = refl
same_module Replace Replace h = refl
same_module Mark Mark h = refl
same_module Unmark Unmark h = refl
same_module Slab Slab h = refl
same_module Compute Compute h = refl
same_module Statistics Statistics h = refl
same_module Histogram Histogram h = refl
same_module Collect Collect h = refl
same_module CollectNamed CollectNamed h = refl
same_module CollectSeries CollectSeries h = refl
same_module Inquire Inquire h = refl
same_module a b h = absurd (true≢false (sym h))

module_itself : (m : Module) → modules.ghosts.eq m m ≡ true
module_itself Import = refl
module_itself Select = refl
module_itself Extract = refl
module_itself Replace = refl
module_itself Mark = refl
module_itself Unmark = refl
module_itself Slab = refl
module_itself Compute = refl
module_itself Statistics = refl
module_itself Histogram = refl
module_itself Collect = refl
module_itself CollectNamed = refl
module_itself CollectSeries = refl
module_itself Inquire = refl

pub same_term : (a b : Term) → term.ghosts.eq a b ≡ true → a ≡ b
same_term (Constant a) (Constant b) h = ap Constant (same_const a b h)
same_term (Held x) (Held y) h = ap Held ((unsigned_Decides x y).0 h)
same_term (Call m xs) (Call n ys) h = ap₂ Call (same_module m n (first_so (modules.ghosts.eq m n) (pointwise value_tag.ghosts.eq xs ys) h)) ((tags_decide xs ys).0 (second_so (modules.ghosts.eq m n) (pointwise value_tag.ghosts.eq xs ys) h))
same_term (File x) (File y) h = ap File ((bytes_decides x y).0 h)
same_term a b h = absurd (true≢false (sym h))

term_itself : (t : Term) → term.ghosts.eq t t ≡ true
term_itself (Constant a) = const_itself a
term_itself (Held x) = (unsigned_Decides x x).1 refl
term_itself (File x) = (bytes_decides x x).1 refl
term_itself (Call m xs) = both_true (modules.ghosts.eq m m) (pointwise value_tag.ghosts.eq xs xs) (module_itself m) ((tags_decide xs xs).1 refl)

not_before : (ks : List Term) (i j : ℕ) (t : Term) → IsDistinct term.ghosts.eq ks → slice_get ks i ≡ Some t → slice_get ks j ≡ Some t → i < j → ⊥
not_before ks i j t h a b lt =
    let apart = apart_from_distinct term.ghosts.eq ks i j t h lt (slice_get_within ks j t b) in
    let at_i = get_or_from_slice_get ks i t t a in
    let at_j = get_or_from_slice_get ks j t t b in
    true≢false (sym (term_itself t) ∙ ap₂ term.ghosts.eq (sym at_i) (sym at_j) ∙ apart)

-- a term stands at one place alone
pub one_place : (ks : List Term) (i j : ℕ) (t : Term) → IsDistinct term.ghosts.eq ks → slice_get ks i ≡ Some t → slice_get ks j ≡ Some t → i ≡ j
one_place ks i j t h a b =
    let no1 : ¬ (i < j) = not_before ks i j t h a b in
    let no2 : ¬ (j < i) = not_before ks j i t h b a in
    omega arith

inserted_by : (b : Bool) (ks new : List Term) (t : Term) → new ≡ (if b then ks else ks ++ t ∷ []) → (new ≡ ks) ⊎ (new ≡ ks ++ t ∷ [])
inserted_by true ks new t e = inl e
inserted_by false ks new t e = inr e

-- where a term is put in, the terms stay or it comes last
pub inserted : (ks new : List Term) (t : Term) (fields : List Term) → fields ≡ ks → new ≡ insert_key term.ghosts.eq fields t → (new ≡ ks) ⊎ (new ≡ ks ++ t ∷ [])
inserted ks new t fields is e = inserted_by (list_any (term.ghosts.eq t) ks) ks new t (e ∙ ap (λ xs. insert_key term.ghosts.eq xs t) is)
