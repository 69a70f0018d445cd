-- The laws of constants.
use Rattle.std.proofs.Common.{◌≡◌, ℤ, false, List, [], ◌∷◌, refl}
use Rattle.std.specs.Prelude.{codes}
use Rattle.std.specs.Str.{bytes_eq}
use Rattle.dx_base.specs.declared.token.Place.{Place}
use Rattle.dx_grammar.specs.Rule.{nothing, ◌∣◌, ◌>>=◌, snoc}
use Rattle.dx_grammar.proofs.Read.{Any, Opens, Same}
use Rattle.dx_grammar.proofs.Compose as compose
use Rattle.dx_grammar.proofs.Compose.{Fills}
use Rattle.dx_grammar.proofs.Words.{same_refl, same_sym, same_trans, same_then, same_unit, same_right, same_swap, same_group}
use Rattle.dx_ast.specs.declared.constants.Const.{Const}
use Rattle.dx_ast.specs.declared.constants.Const.TheVariants as const
use Rattle.dx_ast.specs.Classes.{Text}
use Rattle.dx_ast.specs.Values.{Found, list_of, with_element}
use Rattle.dx_ast.specs.Grammar as grammar
use Rattle.dx_ast.specs.Grammar.{Rule}
use Rattle.dx_script_grammar.specs.Reading as reading
use Rattle.dx_script_grammar.specs.Reading.{sees}
use Rattle.dx_script_laws.proofs.Tokens.{Reads, done, check, next, after, either, first, second, both, nothing_more, anything, fills, fills_first, fills_second, fills_both, until, more_opens, in_other_words, int, text, sign, key, sees_near, key_near, int_near, text_near, sign_has, sign_lacks, sign_int, sign_text, sign_name, sign_key, sign_frame, int_lacks, int_int, int_name, int_key, int_frame, text_lacks, text_int, text_text, text_name, text_key, text_frame, key_has, key_lacks, key_name, key_frame}

-- [ ',' ]
pub comma : Reads grammar.comma reading.comma (λ u. sees (codes ",") u ≡ false)
unfolding reading.comma
comma = either (sees_near (codes ",")) (first (sign_has (codes ","))) (next (sign (codes ",")) (λ _. done)) nothing_more done

comma_lacks : (c : Text) → bytes_eq (codes ",") c ≡ false → Opens grammar.comma (λ u. sees c u ≡ false) (λ u. sees c u ≡ false)
comma_lacks c e = both (first (sign_lacks (codes ",") c e)) nothing_more

-- ---- vectors

pub number : (found : List ℤ) → Reads (grammar.number found) (reading.number found) Any
unfolding reading.number
number found = after comma (λ _. first (int_lacks (codes ","))) (λ _. next int (λ n. check _ _))

pub number_fills : (found : List ℤ) → Fills (grammar.number found)
number_fills found = fills_second (λ _. fills_first fills)

pub vector : Reads grammar.vector reading.vector Any
unfolding reading.vector
vector =
    next (sign (codes "[")) (λ p. next int (λ n.
    after (until {add = snoc} (codes "]") number number_fills (λ found. second (comma_lacks (codes "]") refl) (λ _. first (int_lacks (codes "]")))) (n.1 ∷ []))
    (λ ns. first (sign_has (codes "]"))) (λ ns. next (sign (codes "]")) (λ _. done))))

-- ---- elements

abbrev Other : Rule (Place × Const)
Other = (do t ← grammar.text; nothing (t.0, const.Text t.1)) ∣ (do v ← grammar.vector; nothing (v.0, const.Vector v.1))

other_element : Reads Other reading.other_element Any
unfolding reading.other_element
other_element = either text_near (first text_text) (next text (λ t. done)) (first (first (sign_text (codes "[")))) (next vector (λ v. done))

other_int : Opens Other Any (λ u. reading.sees_int u ≡ false)
other_int = both (first text_int) (first (first (sign_int (codes "["))))

other_lacks : (c : Text) → bytes_eq (codes "[") c ≡ false → Opens Other Any (λ u. sees c u ≡ false)
other_lacks c e = both (first (text_lacks c)) (first (first (sign_lacks (codes "[") c e)))

pub element : Reads grammar.element reading.element Any
unfolding reading.element
element = either int_near (first int_int) (next int (λ n. done)) other_int other_element

element_lacks : (c : Text) → bytes_eq (codes "[") c ≡ false → Opens grammar.element Any (λ u. sees c u ≡ false)
element_lacks c e = both (first (int_lacks c)) (other_lacks c e)

element_fills : Fills grammar.element
element_fills = fills_both (fills_first fills) (fills_both (fills_first fills) (fills_first (fills_first fills)))

pub next_element : (found : Found) → Reads (grammar.next_element found) (reading.next_element found) Any
unfolding reading.next_element
next_element found = after comma (λ _. first (element_lacks (codes ",") refl)) (λ _. next element (λ e. check _ _))

next_lacks : (c : Text) → bytes_eq (codes "[") c ≡ false → bytes_eq (codes ",") c ≡ false → (found : Found) → Opens (grammar.next_element found) Any (λ u. sees c u ≡ false)
next_lacks c e h found = second (comma_lacks c h) (λ _. first (element_lacks c e))

pub next_fills : (found : Found) → Fills (grammar.next_element found)
next_fills found = fills_second (λ _. fills_first element_fills)

pub elements_after : (e : Const) → Reads (grammar.elements_after e) (reading.elements_after e) Any
unfolding reading.elements_after
elements_after e = after (until {add = with_element} (codes "}") next_element next_fills (next_lacks (codes "}") refl refl) (1, list_of e)) (λ found. first (sign_has (codes "}"))) (λ found. next (sign (codes "}")) (λ _. done))

-- the elements, or the bracket that closes them
rest_lacks : (c : Text) → bytes_eq (codes "[") c ≡ false → bytes_eq (codes ",") c ≡ false → bytes_eq (codes "}") c ≡ false → (e : Const) → Opens (grammar.elements_after e) Any (λ u. sees c u ≡ false)
rest_lacks c e h g x = second (more_opens {add = with_element} (λ found. anything) (λ u h. tt) (λ u h. h) (next_lacks c e h) (1, list_of x)) (λ found. first (sign_lacks (codes "}") c g))

-- ---- ranges and lists

pub step : (last : Place) → Reads (grammar.step last) (reading.step last) (λ u. sees (codes ":") u ≡ false)
unfolding reading.step
step last = either (sees_near (codes ":")) (first (sign_has (codes ":"))) (next (sign (codes ":")) (λ _. next int (λ d. check _ _))) nothing_more done

pub range_after : (a : ℤ) → Reads (grammar.range_after a) (reading.range_after a) Any
unfolding reading.range_after
range_after a = next (sign (codes "..")) (λ _. next int (λ b. after (step b.0) (λ d. first (sign_lacks (codes "}") (codes ":") refl)) (λ d. next (sign (codes "}")) (λ _. check _ _))))

after_int : (n : ℤ) → Reads (grammar.range_after n ∣ grammar.elements_after (const.Int n)) (reading.after_int n) Any
unfolding reading.after_int
after_int n = either (sees_near (codes "..")) (first (sign_has (codes ".."))) (range_after n) (rest_lacks (codes "..") refl refl refl (const.Int n)) (elements_after (const.Int n))

-- the grammar's words, by what comes first
as_read : Same ((grammar.int >>= λ n. grammar.range_after n.1 ∣ grammar.elements_after (const.Int n.1)) ∣ (Other >>= λ e. grammar.elements_after e.1)) (grammar.elements ∣ grammar.ranging)
as_read =
    let A : Rule (Place × Const) = (do n ← grammar.int; nothing (n.0, const.Int n.1)) in
    let E : Place × Const → Rule Const = λ e. grammar.elements_after e.1 in
    let I : Rule Const = grammar.int >>= λ n. grammar.elements_after (const.Int n.1) in
    let O : Rule Const = Other >>= E in
    let R : Rule Const = grammar.ranging in
    let ints : Same I (A >>= E) = same_trans I (grammar.int >>= λ n. nothing (n.0, const.Int n.1) >>= E) (A >>= E)
    (same_then grammar.int grammar.int (λ n. grammar.elements_after (const.Int n.1)) (λ n. nothing (n.0, const.Int n.1) >>= E) (same_refl grammar.int) (λ n. same_sym (nothing (n.0, const.Int n.1) >>= E) (E (n.0, const.Int n.1)) (same_unit (n.0, const.Int n.1) E)))
    (compose.same_assoc grammar.int (λ n. nothing (n.0, const.Int n.1)) E) in
    let all : Same (I ∣ O) grammar.elements = same_trans (I ∣ O) ((A >>= E) ∣ O) grammar.elements (compose.same_either I (A >>= E) O O ints (same_refl O)) (same_sym grammar.elements ((A >>= E) ∣ O) (same_right A Other E)) in
    let split : Same (grammar.int >>= λ n. grammar.range_after n.1 ∣ grammar.elements_after (const.Int n.1)) (R ∣ I) = compose.same_left grammar.int (λ n. grammar.range_after n.1) (λ n. grammar.elements_after (const.Int n.1)) in
    let turned : Same ((R ∣ I) ∣ O) ((I ∣ O) ∣ R) = same_trans ((R ∣ I) ∣ O) (R ∣ (I ∣ O)) ((I ∣ O) ∣ R) (same_group R I O) (same_swap R (I ∣ O)) in
    same_trans ((grammar.int >>= λ n. grammar.range_after n.1 ∣ grammar.elements_after (const.Int n.1)) ∣ O) ((R ∣ I) ∣ O) (grammar.elements ∣ R) (compose.same_either (grammar.int >>= λ n. grammar.range_after n.1 ∣ grammar.elements_after (const.Int n.1)) (R ∣ I) O O split (same_refl O))
    (same_trans ((R ∣ I) ∣ O) ((I ∣ O) ∣ R) (grammar.elements ∣ R) turned (compose.same_either (I ∣ O) grammar.elements R R all (same_refl R)))

pub list : Reads grammar.list reading.list Any
unfolding reading.list
list = next (sign (codes "{")) (λ _. either (sees_near (codes "}")) (first (sign_has (codes "}"))) (next (sign (codes "}")) (λ _. done)) (both (first (element_lacks (codes "}") refl)) (first (int_lacks (codes "}"))))
    (in_other_words as_read (either int_near (first int_int) (next int (λ n. after_int n.1)) (first other_int) (next other_element (λ e. elements_after e.1)))))

pub constant : Reads grammar.constant reading.constant Any
unfolding reading.constant
constant =
    either (key_near (codes "NULL")) (first (key_has (codes "NULL"))) (next (key (codes "NULL")) (λ _. done)) (both (first (int_key (codes "NULL"))) (both (first (text_key (codes "NULL"))) (both (first (first (sign_key (codes "[") (codes "NULL")))) (first (sign_key (codes "{") (codes "NULL"))))))
    (either int_near (first int_int) (next int (λ n. done)) (both (first text_int) (both (first (first (sign_int (codes "[")))) (first (sign_int (codes "{")))))
    (either text_near (first text_text) (next text (λ t. done)) (both (first (first (sign_text (codes "[")))) (first (sign_text (codes "{"))))
    (either (sees_near (codes "[")) (first (first (sign_has (codes "[")))) (next vector (λ v. done)) (first (sign_lacks (codes "{") (codes "[") refl)) list)))

pub constant_lacks : (c : Text) → bytes_eq (codes "[") c ≡ false → bytes_eq (codes "{") c ≡ false → Opens grammar.constant Any (λ u. sees c u ≡ false)
constant_lacks c e h = both (first (key_lacks (codes "NULL") c)) (both (first (int_lacks c)) (both (first (text_lacks c)) (both (first (first (sign_lacks (codes "[") c e))) (first (sign_lacks (codes "{") c h)))))

pub constant_name : Opens grammar.constant Any (λ u. reading.sees_name u ≡ false)
constant_name = both (first (key_name (codes "NULL") refl)) (both (first int_name) (both (first text_name) (both (first (first (sign_name (codes "[")))) (first (sign_name (codes "{"))))))

pub constant_frame : Opens grammar.constant Any (λ u. reading.sees_frame u ≡ false)
constant_frame = both (first (key_frame (codes "NULL"))) (both (first int_frame) (both (first text_frame) (both (first (first (sign_frame (codes "[")))) (first (sign_frame (codes "{"))))))
