-- What the steps of a run answer, from what their parts answer.
use Rattle.std.proofs.Common.{◌≡◌, ℕ, zero, suc, ◌+◌, ◌-◌, ◌*◌, ◌/◌, ◌<◌, ◌≤◌, Bool, true, false, List, [], ◌∷◌, ◌++◌, Option, Some, None, Result, Ok, Err, length, refl, sym, ap, subst, ◌∙◌, append_assoc, length-append, arith}
use Rattle.std.proofs.Math.Nat.{mul-suc, suc-mul, mul_comm, div-le_of_le-mul, mul-div_left, add-mul-mod_self_right, mod-eq_of_lt}
use Rattle.std.specs.Prelude.{IsOk, map, IfSome, option_map, if◌then◌else◌, ◌%◌, ◌&&◌, nat_le}
use Rattle.std.specs.List.{list_all, range_with_len}
use Rattle.std.proofs.lemmas.Bool.Decides.{nat_tests}
use Rattle.std.specs.Cmp.Derive.{both_true}
use Rattle.dx_base.specs.Answers.{IsEither, refused}
use Rattle.dx_base.specs.Array.{ArrayData, Class, plain, constant, regular, grid_positions, grid_connections, product, cells, items, items_of}
use Rattle.dx_base.specs.ArrayLimits.{is_shape, has_grid, has_shape, has_room, has_lengths, is_in_type, value_count, value_count_of, max_items, max_values, IsLawfulArray}
use Rattle.dx_base.specs.Elem.{in_range}
use Rattle.dx_base.specs.declared.elem.ElemType.TheVariants.{Int}
use Rattle.dx_base.specs.declared.code.Code.{Code}
use Rattle.dx_base.specs.declared.fail.Fail.{Fail}
use Rattle.dx_base.specs.declared.fail.Fail.TheVariants as fails
use Rattle.dx_base.specs.Object.{Tree}
use Rattle.dx_base.specs.ObjectLimits.{is_field}
use Rattle.dx_arrays.specs.Makes.{refusal, Makes}
use Rattle.dx_arrays.specs.declared.array.ArrayError.{ArrayError}
use Rattle.dx_arrays.proofs.InType.{plain_in_type}
use Rattle.dx_objects.specs.declared.run_fail.RunFail.{RunFail}
use Rattle.dx_objects.specs.declared.run_fail.RunFail.TheVariants as fail
use Rattle.dx_objects.specs.Runs as runs
use Rattle.dx_objects.specs.Runs.{Answer}
use Rattle.dx_expr_grammar.specs.declared.tree.Expression.{Expression}
use Rattle.dx_expr.specs.declared.fault.ItemFault.{ItemFault}
use Rattle.dx_expr.specs.Shape.{Shape, shape_of}
use Rattle.dx_expr.specs.Value as value
use Rattle.dx_expr.specs.Value.{Inputs, Outcome, Values, value_of, joined, size}
use Rattle.dx_expr.proofs.Lengths as lengths
use Rattle.dx_expr_eval.specs.Items.{all_values, faultless}
use Rattle.dx_expr_eval.proofs.Joining.{range_next}
use Rattle.dx_compute_meaning.specs.Answered.{Answered, ◌>>=◌, collected}
use Rattle.dx_compute_meaning.specs.Arrays.{Arrays, given, fault_code, or_code, int_array, array_of, computed, item_count, item_counts}
use Rattle.dx_compute_meaning.specs.Operands.{Operands, are_all}
use Rattle.dx_compute_meaning.specs.Compute.{as_field, or_next, first_field}
use Rattle.dx_compute_meaning.specs.Shown.{code_in, IsTooLarge, Computes, behind}
use Rattle.dx_compute_meaning.proofs.Shapes.{size_is}

-- ---- a plain array of ints

and_of : (a b : Bool) → (a && b) ≡ true → (a ≡ true) × (b ≡ true)
and_of true true h = (refl, refl)
and_of true false h = absurd cc
and_of false b h = absurd cc

and_both : (a b : Bool) → a ≡ true → b ≡ true → (a && b) ≡ true
and_both a b p q = rw (p, q) refl

some_times : (n m : ℕ) → 0 < n → 0 < m → 0 < n * m
some_times (suc n) (suc m) h g = let e : suc n * suc m ≡ suc n * m + suc n = mul-suc (suc n) m in omega (arith, e)
some_times zero m h g = absurd (omega (arith, h))
some_times (suc n) zero h g = absurd (omega (arith, g))

product_some : (es : List ℕ) → list_all (λ e. nat_le 1 e && nat_le e 256) es ≡ true → 0 < product es
product_some [] h = omega arith
product_some (e ∷ es) h =
    let parts = and_of (nat_le 1 e && nat_le e 256) (list_all (λ e. nat_le 1 e && nat_le e 256) es) h in
    let one : 0 < e = grind (arith, nat_tests, (and_of (nat_le 1 e) (nat_le e 256) parts.0).0) in
    some_times e (product es) one (product_some es parts.1)

pub shape_some : (es : List ℕ) → is_shape es ≡ true → 0 < product es
shape_some es h = product_some es (and_of (nat_le (length es) 2) (list_all (λ e. nat_le 1 e && nat_le e 256) es) h).1

room : (n w : ℕ) → n ≤ max_items * w → n ≤ max_values → (nat_le n (max_items * w) && nat_le n max_values) ≡ true
room n w few less = and_both (nat_le n (max_items * w)) (nat_le n max_values) (grind (arith, nat_tests, few)) (grind (arith, nat_tests, less))

pub not_refused : (es : List ℕ) (vs : Values) → is_shape es ≡ true → length vs ≤ max_items * product es → length vs ≤ max_values → length vs % product es ≡ 0 → list_all (in_range Int) vs ≡ true → refusal (int_array es vs) ≡ None
not_refused es vs shape few less whole ints =
    let shaped : has_shape (int_array es vs) ≡ true = both_true shape refl in
    let roomy : has_room (int_array es vs) ≡ true = room (length vs) (product es) few less in
    let lengths : has_lengths (int_array es vs) ≡ true = rw whole refl in
    let typed : is_in_type (int_array es vs) ≡ true = sym (plain_in_type Int es vs (shape_some es shape) whole) ∙ ints in
    rw (shaped, roomy, lengths, typed) refl

pub is_made : (a : ArrayData) (r : Result ArrayData ArrayError) → refusal a ≡ None → Makes a r → IsOk r
is_made a (Ok made) h m = refl
is_made a (Err e) h m = cc

-- ---- how many values there are

values_made : (o rest : Outcome Values) (vs : Values) → (value.◌>>=◌ o (λ x. value.◌>>=◌ rest (λ xs. Ok (x ++ xs)))) ≡ Ok vs → (x : Values) × (xs : Values) × (o ≡ Ok x) × (rest ≡ Ok xs) × (x ++ xs ≡ vs)
values_made (Ok x) (Ok xs) vs h = (x, xs, refl, refl, let e : x ++ xs ≡ vs = cc in e)
values_made (Ok x) (Err f) vs h = absurd cc
values_made (Err f) rest vs h = absurd cc

count_from : (inputs : Inputs) (x : Expression) (s : Shape) → shape_of inputs.shape x ≡ Some s → (from n : ℕ) (vs : Values) → joined (map (λ item. value_of inputs item x) (range_with_len from n)) ≡ Ok vs → length vs ≡ n * size s
count_from inputs x s is from zero vs h = let e : [] ≡ vs = cc in let z : 0 * size s ≡ 0 = omega arith in sym (ap length e) ∙ sym z
count_from inputs x s is from (suc n) vs h =
    let parts = values_made (value_of inputs from x) (joined (map (λ item. value_of inputs item x) (range_with_len (from + 1) n))) vs h in
    let one = lengths.value_count inputs from x s parts.0 is parts.2 in
    let more = count_from inputs x s is (from + 1) n parts.1 parts.3 in
    omega (arith, one, more, length-append parts.0 parts.1, ap length parts.4, suc-mul n (size s))

pub count_all : (inputs : Inputs) (x : Expression) (s : Shape) (n : ℕ) (vs : Values) → shape_of inputs.shape x ≡ Some s → all_values inputs x n ≡ Ok vs → length vs ≡ n * product s
count_all inputs x s n vs is h = count_from inputs x s is 0 n vs h ∙ ap (λ m. n * m) (size_is s)

-- ---- the array of an expression

-- more values than an object holds, none of which has a fault
pub too_many : (e : Expression) (arrays : Arrays) (n : ℕ) (s : Shape) → shape_of (given arrays).shape e ≡ Some s → 67108848 < n * product s → faultless (all_values (given arrays) e n) ≡ Ok tt → IsTooLarge (array_of e arrays n s)
too_many e arrays n s is many h = by (all_values (given arrays) e n) refl h
  where
    by : (o : Outcome Values) → all_values (given arrays) e n ≡ o → faultless o ≡ Ok tt → IsTooLarge (or_code o >>= λ vs. Ok (int_array s vs))
    by (Ok vs) is_values h = let c = count_all (given arrays) e s n vs is is_values in omega (arith, c, many)
    by (Err f) is_fault h = absurd cc

-- a fault of the values is that of the array
pub array_faulty : (e : Expression) (arrays : Arrays) (n : ℕ) (s : Shape) (f : ItemFault) → all_values (given arrays) e n ≡ Err f → array_of e arrays n s ≡ Err (fault_code f)
array_faulty e arrays n s f h = ap (λ o. or_code o >>= λ vs. Ok (int_array s vs)) h

pub array_kept : (e : Expression) (arrays : Arrays) (n : ℕ) (s : Shape) (vs : Values) → all_values (given arrays) e n ≡ Ok vs → array_of e arrays n s ≡ Ok (int_array s vs)
array_kept e arrays n s vs h = ap (λ o. or_code o >>= λ vs. Ok (int_array s vs)) h

-- what fails hands on its code, or want of memory
computes_by : (there : Answered ArrayData) (r : RunFail) (o : Option Code) → code_in r ≡ o → IfSome o (λ c. there ≡ Err c) → Computes there (Err r)
computes_by there (fail.Code c) None is h = absurd cc
computes_by there (fail.Code c) (Some d) is h = let same : c ≡ d = cc in h ∙ ap (λ k. Err k) (sym same)
computes_by there fail.Memory o is h = tt

pub computes_fail : (there : Answered ArrayData) (r : RunFail) (f : Fail ItemFault) → code_in r ≡ option_map fault_code (refused f) → IfSome (refused f) (λ x. there ≡ Err (fault_code x)) → Computes there (Err r)
computes_fail there r (fails.Refused x) is h = computes_by there r (Some (fault_code x)) is h
computes_fail there r fails.Memory is h = computes_by there r None is tt

pub faults_by : (there : Outcome (Unit {0})) (o : Outcome Values) (f : Fail ItemFault) → there ≡ faultless o → IfSome (refused f) (λ x. there ≡ Err x) → IfSome (refused f) (λ x. o ≡ Err x)
faults_by there o (fails.Refused x) is h = by o (sym is ∙ h)
  where
    by : (o : Outcome Values) → faultless o ≡ Err x → o ≡ Err x
    by (Ok vs) h = absurd cc
    by (Err y) h = let same : y ≡ x = cc in ap (λ k. Err k) same
faults_by there o fails.Memory is h = tt

pub array_faults : (e : Expression) (arrays : Arrays) (n : ℕ) (s : Shape) (f : Fail ItemFault) → IfSome (refused f) (λ x. all_values (given arrays) e n ≡ Err x) → IfSome (refused f) (λ x. array_of e arrays n s ≡ Err (fault_code x))
array_faults e arrays n s (fails.Refused x) h = array_faulty e arrays n s x h
array_faults e arrays n s fails.Memory h = tt

-- where all fit, the computed array is that of the shape
pub computed_is : (e : Expression) (arrays : Arrays) (n : ℕ) (s : Shape) → n ≡ item_count arrays → are_all n (item_counts arrays) ≡ true → shape_of (given arrays).shape e ≡ Some s → computed e arrays ≡ array_of e arrays n s
computed_is e arrays n s same alike is =
    let fit : are_all (item_count arrays) (item_counts arrays) ≡ true = ap (λ k. are_all k (item_counts arrays)) (sym same) ∙ alike in
    rw (fit, is, same) refl

-- ---- codes that are handed on

pub refused_first : {A B : Type 0} (there : Answered A) (f : A → Answered B) (c : Code) → there ≡ Err c → (there >>= f) ≡ Err c
refused_first there f c h = ap (λ o. o >>= f) h

pub answered_first : {A B : Type 0} (there : Answered A) (f : A → Answered B) (a : A) → there ≡ Ok a → (there >>= f) ≡ f a
answered_first there f a h = ap (λ o. o >>= f) h

-- ---- fields

as_field_is : (v : Option Tree) (t : Tree) → as_field v ≡ Some t → is_field t ≡ true
as_field_is None t h = absurd cc
as_field_is (Some u) t h = by (is_field u) refl h
  where
    by : (b : Bool) → is_field u ≡ b → (if b then Some u else None) ≡ Some t → is_field t ≡ true
    by true is h = let same : u ≡ t = cc in ap is_field (sym same) ∙ is
    by false is h = absurd cc

pub first_field_is : (vs : Operands) (t : Tree) → first_field vs ≡ Some t → is_field t ≡ true
first_field_is [] t h = absurd cc
first_field_is (v ∷ vs) t h = by (as_field v) refl (first_field_is vs t) h
  where
    by : (o : Option Tree) → as_field v ≡ o → (first_field vs ≡ Some t → is_field t ≡ true) → or_next o (first_field vs) ≡ Some t → is_field t ≡ true
    by None is ih h = ih h
    by (Some u) is ih h = as_field_is v t (is ∙ h)

-- ---- members

-- answers one after the other
pub collected_next : {A : Type 0} (f : ℕ → Answered A) (found : List A) (k n : ℕ) → k < n → (a : A) → f k ≡ Ok a →
    behind found (collected (map f (range_with_len k (n - k)))) ≡ behind (found ++ a ∷ []) (collected (map f (range_with_len (k + 1) (n - (k + 1)))))
collected_next f found k n h a is = rw (range_next k n h, is) (by (collected (map f (range_with_len (k + 1) (n - (k + 1))))))
  where
    by : (rest : Answered (List _)) → behind found (rest >>= λ xs. Ok (a ∷ xs)) ≡ behind (found ++ a ∷ []) rest
    by (Ok xs) = ap (λ l. Ok l) (sym (append_assoc found (a ∷ []) xs))
    by (Err c) = refl

pub collected_fails : {A : Type 0} (f : ℕ → Answered A) (found : List A) (k n : ℕ) → k < n → (c : Code) → f k ≡ Err c → behind found (collected (map f (range_with_len k (n - k)))) ≡ Err c
collected_fails f found k n h c is = rw (range_next k n h, is) refl

-- ---- an array that can be made

le_by : (n m : ℕ) → nat_le n m ≡ true → n ≤ m
le_by n m h = grind (arith, nat_tests, h)

few_times : (n w : ℕ) → 0 < w → n * w ≤ max_items * w → n ≤ max_items
few_times n w some h =
    let same : n * w / w ≡ n = mul-div_left n some in
    let e : max_items * w ≡ w * max_items = mul_comm max_items w in
    let less : n * w / w ≤ max_items = div-le_of_le-mul w (omega (arith, h, e)) in
    omega (arith, same, less)

few_by : (w : ℕ) (c : Class) → 0 < w → value_count_of (items_of w c) w c ≤ max_items * w → items_of w c ≤ max_items
few_by w (plain vs) some h = div-le_of_le-mul w (let e : max_items * w ≡ w * max_items = mul_comm max_items w in omega (arith, h, e))
few_by w (constant n v) some h = few_times n w some h
few_by w (regular n o d) some h = few_times n w some h
few_by w (grid_positions cs o ds) some h = few_times (product cs) w some h
few_by w (grid_connections cs) some h = few_times (product (cells cs)) w some h

pub items_few : (a : ArrayData) → IsLawfulArray a → items a ≤ max_items
items_few a h =
    let shape = (and_of (is_shape a.extents) (has_grid a.class) h.shape).0 in
    let few = (and_of (nat_le (value_count a) (max_items * product a.extents)) (nat_le (value_count a) max_values) h.room).0 in
    few_by (product a.extents) a.class (shape_some a.extents shape) (le_by (value_count a) (max_items * product a.extents) few)

pub lawful_shape : (a : ArrayData) → IsLawfulArray a → is_shape a.extents ≡ true
lawful_shape a h = (and_of (is_shape a.extents) (has_grid a.class) h.shape).0

-- the values of whole items
pub whole_items : (l n : ℕ) (es : List ℕ) → is_shape es ≡ true → l ≡ n * size es → l % product es ≡ 0
whole_items l n es shape h =
    let same : l ≡ 0 + n * product es = h ∙ ap (λ m. n * m) (size_is es) ∙ (let e : n * product es ≡ 0 + n * product es = omega arith in e) in
    let small : 0 % product es ≡ 0 = mod-eq_of_lt (shape_some es shape) in
    ap (λ k. k % product es) same ∙ add-mul-mod_self_right 0 n (product es) ∙ small

-- ---- what a call answers where a part of it is refused

pub either_err : {A E R : Type 0} (refusal : E → Option R) (P : A → Type 0) (Q : R → Type 0) (e : E) (r : Result A E) → r ≡ Err e → IfSome (refusal e) Q → IsEither refusal P Q r
either_err refusal P Q e r is h = subst (λ r. IsEither refusal P Q r) (sym is) h

pub some_to : {R : Type 0} (P Q : R → Type 0) (o : Option R) → ((x : R) → P x → Q x) → IfSome o P → IfSome o Q
some_to P Q None step h = tt
some_to P Q (Some x) step h = step x h

gives_by : (a : Answer) (e : RunFail) → IfSome (code_in e) (λ c. a ≡ Err c) → runs.Gives a (Err e)
gives_by a (fail.Code c) h = h
gives_by a fail.Memory h = tt

pub gives_err : (a : Answer) (e : RunFail) (r : Result runs.Values RunFail) → r ≡ Err e → IfSome (code_in e) (λ c. a ≡ Err c) → runs.Gives a r
gives_err a e r is h = subst (λ r. runs.Gives a r) (sym is) (gives_by a e h)
