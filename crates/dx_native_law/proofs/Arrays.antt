-- The clauses of arrays stand where their words are shown.
use Rattle.std.proofs.Common.{◌≡◌, ◌==◌, ℕ, zero, suc, ◌+◌, ◌*◌, ◌<◌, ◌≤◌, ◌^◌, ◌⊎◌, inl, inr, Bool, true, false, cond, List, [], ◌∷◌, ◌++◌, length, map, Option, Some, None, ℤ, pos, negsuc, refl, sym, ap, ◌∙◌, subst, append_assoc, append-nil, arith}
use Rattle.std.specs.Prelude.{bytes_eq, codes, int_lt, is_some, ◌||◌}
use Rattle.dx_base.specs.declared.elem.ElemType.{ElemType}
use Rattle.dx_base.specs.declared.elem.ElemType.TheVariants.{Byte, UByte, Short, UShort, Int, UInt}
use Rattle.dx_base.specs.Array.{ArrayData, Class, plain, constant, regular, grid_positions, grid_connections, product}
use Rattle.dx_base.specs.Elem.{lowest, highest}
use Rattle.dx_base.specs.Number as base_number
use Rattle.dx_places.specs.Grammar.{At, Grammar, chosen}
use Rattle.dx_native_lex.specs.Scan.{Found, lexed, number_of, is_float}
use Rattle.std.proofs.lemmas.Bool.Decides.{nat_tests}
use Rattle.dx_base.specs.declared.code.NativeKind.TheVariants as fault
use Rattle.dx_native_lex.specs.Token.{NativeGrammar, error, one, key as key_token, key_in, none_of, misfit, class_of, sees, number as number_token}
use Rattle.dx_native_lex.specs.declared.fault.NativeError.{NativeError}
use Rattle.dx_native_grammar.specs.Grammar.{bounded, natural as natural_number, int as int_number, counted, elem_type, type_key, type_word, type_rest, type_at, signed_at, unsigned_at, category, shape, ranked, shape_of, items, head, order, form, data_follows, data_values, values, made, plain_array, constant_array, regular_array, more_counts, counts, delta, deltas, grid_points, grid_cells}
use Rattle.dx_native_grammar.specs.Words.{items_fault, has_items_room, magnitude, no_type, type_misfit, data_elsewhere, is_elsewhere, sees_number, is_number_word, array_fault, room_fault, array_of, points_of, cells_of, int_low, int_high}
use Rattle.dx_native_grammar.specs.declared.clause.Head.{Head}
use Rattle.dx_native_grammar.specs.declared.clause.TypeWord.{TypeWord}
use Rattle.dx_native_grammar.specs.declared.clause.TypeWord.TheVariants as word
use Rattle.dx_native_text.specs.Lines.{Word, bare, in_quotes}
use Rattle.dx_native_text.specs.Arrays.{type_words, shape_words, head_words, data_words, rows, origin_line, delta_line}
use Rattle.dx_native_law.proofs.LaidLines.{key, natural, number}
use Rattle.dx_native_law.proofs.Runs.{Runs, found_of, tail_of}
use Rattle.dx_native_law.proofs.Numbers.{IsSmall}
use Rattle.dx_native_law.proofs.Stands.{first_of_two, second_of_two, is_word, sees_word, key_stands, number_stands, number_at, natural_stands, numbers_stand, naturals_stand, IsNatural, AreIn, AreNatural, IsBetween}

-- ---- one token

pub one_is : {A : Type 0} (fault_of : Found → NativeError) (word quote : ℕ → List ℕ → Option A) (w : List ℕ) (a : A) (ws : List Word) (s e : At) (h : Runs s (bare w ∷ ws) e)
    → word h.it.0 w ≡ Some a → (one fault_of word quote).is s a h.it.1
one_is fault_of word quote w a ws s e h c = (ap (class_of word quote) h.it.2 ∙ c, ap (λ (f : Found). f.after) h.it.2)

-- ---- the head

elem_stands : (t : ElemType) (ws : List Word) (s e : At) → Runs s (key (codes "type") ∷ (type_words t ++ ws)) e → (m : At) × elem_type.is s t m × Runs m ws e
unfolding elem_type type_key type_word type_rest
elem_stands Byte ws s e h =
    let a = tail_of h in
    let b = tail_of a in
    (b.it.1, (h.it.1, tt, one_is no_type (key_in (codes "type")) none_of (codes "type") tt _ s e h refl, (a.it.1, word.Signed, one_is type_misfit type_at none_of (codes "signed") word.Signed _ h.it.1 e a refl, one_is misfit signed_at none_of (codes "byte") Byte ws a.it.1 e b refl)), tail_of b)
elem_stands UByte ws s e h =
    let a = tail_of h in
    let b = tail_of a in
    (b.it.1, (h.it.1, tt, one_is no_type (key_in (codes "type")) none_of (codes "type") tt _ s e h refl, (a.it.1, word.Unsigned, one_is type_misfit type_at none_of (codes "unsigned") word.Unsigned _ h.it.1 e a refl, one_is misfit unsigned_at none_of (codes "byte") UByte ws a.it.1 e b refl)), tail_of b)
elem_stands Short ws s e h =
    let a = tail_of h in
    (a.it.1, (h.it.1, tt, one_is no_type (key_in (codes "type")) none_of (codes "type") tt _ s e h refl, (a.it.1, word.Whole Short, one_is type_misfit type_at none_of (codes "short") (word.Whole Short) ws h.it.1 e a refl, (refl, refl))), tail_of a)
elem_stands UShort ws s e h =
    let a = tail_of h in
    let b = tail_of a in
    (b.it.1, (h.it.1, tt, one_is no_type (key_in (codes "type")) none_of (codes "type") tt _ s e h refl, (a.it.1, word.Unsigned, one_is type_misfit type_at none_of (codes "unsigned") word.Unsigned _ h.it.1 e a refl, one_is misfit unsigned_at none_of (codes "short") UShort ws a.it.1 e b refl)), tail_of b)
elem_stands Int ws s e h =
    let a = tail_of h in
    (a.it.1, (h.it.1, tt, one_is no_type (key_in (codes "type")) none_of (codes "type") tt _ s e h refl, (a.it.1, word.Whole Int, one_is type_misfit type_at none_of (codes "int") (word.Whole Int) ws h.it.1 e a refl, (refl, refl))), tail_of a)
elem_stands UInt ws s e h =
    let a = tail_of h in
    let b = tail_of a in
    (b.it.1, (h.it.1, tt, one_is no_type (key_in (codes "type")) none_of (codes "type") tt _ s e h refl, (a.it.1, word.Unsigned, one_is type_misfit type_at none_of (codes "unsigned") word.Unsigned _ h.it.1 e a refl, one_is misfit unsigned_at none_of (codes "int") UInt ws a.it.1 e b refl)), tail_of b)

category_stands : (ws : List Word) (s e : At) → Runs s (key (codes "rank") ∷ ws) e → category.is s tt s
unfolding category
category_stands ws s e h = second_of_two _ _ (sees (codes "category") s) (sees_word (codes "category") (key (codes "rank")) ws s e h) (refl, refl)

-- a list of extents
pub record IsShape (es : List ℕ) : Type 0 where
  pub rank : IsNatural 0 2 (length es)
  pub extents : AreNatural 1 256 es

shape_by : (es : List ℕ) (ws : List Word) (s e : At) → AreNatural 1 256 es → Runs s (shape_words es ++ ws) e → (m : At) × (shape_of (length es)).is s es m × Runs m ws e
unfolding shape_of
shape_by [] ws s e h r = (s, (refl, refl), r)
shape_by (x ∷ es) ws s e h r =
    let k = key_stands (codes "shape") (map natural (x ∷ es) ++ ws) s e refl r in
    let n = naturals_stand 1 256 (x ∷ es) [] ws k.0 e h k.2 in
    (n.0, (k.0, tt, k.1, n.1), n.2)

shape_stands : (es : List ℕ) (ws : List Word) (s e : At) → IsShape es → Runs s (key (codes "rank") ∷ natural (length es) ∷ (shape_words es ++ ws)) e → (m : At) × shape.is s es m × Runs m ws e
unfolding shape ranked
shape_stands es ws s e h r =
    let k = key_stands (codes "rank") (natural (length es) ∷ (shape_words es ++ ws)) s e refl r in
    let n = natural_stands 0 2 (length es) (shape_words es ++ ws) k.0 e h.rank.small h.rank.between k.2 in
    let x = shape_by es ws n.0 e h.extents n.2 in
    (x.0, first_of_two _ _ (sees (codes "rank") s) (sees_word (codes "rank") (key (codes "rank")) _ s e r) (k.0, tt, k.1, (n.0, length es, n.1, x.1)), x.2)

not_negative : (n : ℕ) → int_lt (pos n) (pos 0) ≡ false
not_negative n = grind (arith, nat_tests)

items_stands : (w n : ℕ) (ws : List Word) (s e : At) → n < 10000000000 → has_items_room w n ≡ true → Runs s (key (codes "items") ∷ natural n ∷ ws) e → (m : At) × (items w).is s n m × Runs m ws e
unfolding items
items_stands w n ws s e small room r =
    let k = key_stands (codes "items") (natural n ∷ ws) s e refl r in
    let v = number_stands (pos n) ws k.0 e small k.2 in
    let fine : items_fault w (number_at (pos n) v.0) ≡ None = ap (λ t. cond t (Some (error fault.ValueRange v.0)) (cond (has_items_room w n) None (Some (error fault.TooManyItems v.0)))) (not_negative n) ∙ ap (λ t. cond t None (Some (error fault.TooManyItems v.0))) room in
    (v.1, (k.0, tt, k.1, (v.1, number_at (pos n) v.0, v.2, (v.1, tt, (fine, refl), (refl, refl)))), v.3)

pub record IsHead (es : List ℕ) (n : ℕ) : Type 0 where
  pub shape : IsShape es
  pub small : n < 10000000000
  pub room : has_items_room (product es) n ≡ true

abbrev head_of : ElemType → List ℕ → ℕ → Head
head_of t es n = record { elem = t; extents = es; items = n }

head_stands : (t : ElemType) (es : List ℕ) (n : ℕ) (ws : List Word) (s e : At) → IsHead es n → Runs s (head_words t es n ws) e → (m : At) × head.is s (head_of t es n) m × Runs m ws e
unfolding head
head_stands t es n ws s e h r =
    let a = elem_stands t (key (codes "rank") ∷ natural (length es) ∷ (shape_words es ++ key (codes "items") ∷ natural n ∷ ws)) s e r in
    let c = category_stands _ a.0 e a.2 in
    let x = shape_stands es (key (codes "items") ∷ natural n ∷ ws) a.0 e h.shape a.2 in
    let i = items_stands (product es) n ws x.0 e h.small h.room x.2 in
    (i.0, (a.0, t, a.1, (a.0, tt, c, (x.0, es, x.1, (i.0, n, i.1, (refl, refl))))), i.2)

-- ---- data

order_stands : (ws : List Word) (s e : At) → Runs s (key (codes "data") ∷ ws) e → order.is s true s
unfolding order
order_stands ws s e h =
    second_of_two _ _ (sees (codes "msb") s) (sees_word (codes "msb") (key (codes "data")) ws s e h)
    (second_of_two _ _ (sees (codes "lsb") s) (sees_word (codes "lsb") (key (codes "data")) ws s e h) (refl, refl))

form_stands : (ws : List Word) (s e : At) → Runs s (key (codes "data") ∷ ws) e → form.is s false s
unfolding form
form_stands ws s e h =
    second_of_two _ _ (sees (codes "text") s) (sees_word (codes "text") (key (codes "data")) ws s e h)
    (second_of_two _ _ (sees (codes "ascii") s) (sees_word (codes "ascii") (key (codes "data")) ws s e h)
    (second_of_two _ _ (sees (codes "binary") s) (sees_word (codes "binary") (key (codes "data")) ws s e h)
    (second_of_two _ _ (sees (codes "ieee") s) (sees_word (codes "ieee") (key (codes "data")) ws s e h) (refl, refl))))

no_number : number_of (codes "follows") ≡ None
unfolding number_of base_number.number_of base_number.number_behind
no_number = refl

follows_here : (ws : List Word) (s e : At) → Runs s (key (codes "follows") ∷ ws) e → data_elsewhere s ≡ None
follows_here ws s e h =
    ap (λ (f : Found). cond (is_elsewhere f.kind f.content) (Some (error fault.OtherFile f.at)) None) h.it.2 ∙ ap (λ (o : Option ℤ). cond (is_some o) (Some (error fault.OtherFile h.it.0)) None) no_number

data_stands : (ws : List Word) (s e : At) → Runs s (key (codes "data") ∷ key (codes "follows") ∷ ws) e → (m : At) × data_follows.is s tt m × Runs m ws e
unfolding data_follows
data_stands ws s e h =
    let d = key_stands (codes "data") (key (codes "follows") ∷ ws) s e refl h in
    let f = key_stands (codes "follows") ws d.0 e refl d.2 in
    (f.0, (d.0, tt, d.1, (d.0, d.0, (refl, refl), (d.0, tt, (follows_here ws d.0 e d.2, refl), f.1))), f.2)

values_stand : (t : ElemType) (vs : List ℤ) (ws : List Word) (s e : At) → AreIn (lowest t) (highest t) vs → Runs s (key (codes "data") ∷ key (codes "follows") ∷ (map number vs ++ ws)) e
    → (m : At) × (values t (length vs)).is s vs m × Runs m ws e
unfolding values
values_stand t vs ws s e h r =
    let d = data_stands (map number vs ++ ws) s e r in
    let v = numbers_stand (lowest t) (highest t) vs [] ws d.0 e h d.2 in
    (v.0, (s, true, order_stands _ s e r, (s, false, form_stands _ s e r, (d.0, tt, d.1, v.1))), v.2)

-- ---- arrays

pub made_stands : (place : ℕ) (a : ArrayData) (s : At) → array_fault place a ≡ None → (made place a).is s a s
unfolding made
made_stands place a s fine = (s, tt, (fine, refl), (refl, refl))

pub plain_stands : (place : ℕ) (t : ElemType) (es : List ℕ) (n : ℕ) (vs : List ℤ) (ws : List Word) (s e : At) → IsHead es n → length vs ≡ n * product es → AreIn (lowest t) (highest t) vs
    → array_fault place (record { elem = t; extents = es; class = plain vs }) ≡ None
    → Runs s (key (codes "array") ∷ head_words t es n (key (codes "data") ∷ key (codes "follows") ∷ (map number vs ++ ws))) e
    → (m : At) × (plain_array place).is s (record { elem = t; extents = es; class = plain vs }) m × Runs m ws e
unfolding plain_array
plain_stands place t es n vs ws s e h many within fine r =
    let k = key_stands (codes "array") _ s e refl r in
    let d = head_stands t es n (key (codes "data") ∷ key (codes "follows") ∷ (map number vs ++ ws)) k.0 e h k.2 in
    let v = values_stand t vs ws d.0 e within d.2 in
    (v.0, (k.0, tt, k.1, (d.0, head_of t es n, d.1, (v.0, vs, subst (λ (k : ℕ). (values t k).is d.0 vs v.0) many v.1, made_stands place (record { elem = t; extents = es; class = plain vs }) v.0 fine))), v.2)

pub constant_stands : (place : ℕ) (t : ElemType) (es : List ℕ) (n : ℕ) (vs : List ℤ) (ws : List Word) (s e : At) → IsHead es n → length vs ≡ product es → AreIn (lowest t) (highest t) vs
    → array_fault place (record { elem = t; extents = es; class = constant n vs }) ≡ None
    → Runs s (key (codes "constantarray") ∷ head_words t es n (key (codes "data") ∷ key (codes "follows") ∷ (map number vs ++ ws))) e
    → (m : At) × (constant_array place).is s (record { elem = t; extents = es; class = constant n vs }) m × Runs m ws e
unfolding constant_array
constant_stands place t es n vs ws s e h many within fine r =
    let k = key_stands (codes "constantarray") _ s e refl r in
    let d = head_stands t es n (key (codes "data") ∷ key (codes "follows") ∷ (map number vs ++ ws)) k.0 e h k.2 in
    let v = values_stand t vs ws d.0 e within d.2 in
    (v.0, (k.0, tt, k.1, (d.0, head_of t es n, d.1, (v.0, vs, subst (λ (k : ℕ). (values t k).is d.0 vs v.0) many v.1, made_stands place (record { elem = t; extents = es; class = constant n vs }) v.0 fine))), v.2)

-- ints behind a key word
pub ints_stand : (zs : List ℤ) (n : ℕ) (found : List ℤ) (ws : List Word) (s e : At) → length zs ≡ n → AreIn int_low int_high zs → Runs s (map number zs ++ ws) e
    → (m : At) × (counted int_number n found).is s (found ++ zs) m × Runs m ws e
ints_stand zs n found ws s e many within r =
    let v = numbers_stand int_low int_high zs found ws s e within r in
    (v.0, subst (λ (k : ℕ). (counted int_number k found).is s (found ++ zs) v.0) many v.1, v.2)

pub regular_stands : (place : ℕ) (t : ElemType) (es : List ℕ) (n : ℕ) (o d : List ℤ) (ws : List Word) (s e : At) → IsHead es n → length o ≡ product es → length d ≡ product es
    → AreIn int_low int_high o → AreIn int_low int_high d → array_fault place (record { elem = t; extents = es; class = regular n o d }) ≡ None
    → Runs s (key (codes "regulararray") ∷ head_words t es n (key (codes "origin") ∷ (map number o ++ key (codes "delta") ∷ (map number d ++ ws)))) e
    → (m : At) × (regular_array place).is s (record { elem = t; extents = es; class = regular n o d }) m × Runs m ws e
unfolding regular_array
regular_stands place t es n o d ws s e h many_o many_d in_o in_d fine r =
    let k = key_stands (codes "regulararray") _ s e refl r in
    let x = head_stands t es n (key (codes "origin") ∷ (map number o ++ key (codes "delta") ∷ (map number d ++ ws))) k.0 e h k.2 in
    let ko = key_stands (codes "origin") _ x.0 e refl x.2 in
    let vo = ints_stand o (product es) [] (key (codes "delta") ∷ (map number d ++ ws)) ko.0 e many_o in_o ko.2 in
    let kd = key_stands (codes "delta") _ vo.0 e refl vo.2 in
    let vd = ints_stand d (product es) [] ws kd.0 e many_d in_d kd.2 in
    (vd.0, (k.0, tt, k.1, (x.0, head_of t es n, x.1, (ko.0, tt, ko.1, (vo.0, o, vo.1, (kd.0, tt, kd.1, (vd.0, d, vd.1, made_stands place (record { elem = t; extents = es; class = regular n o d }) vd.0 fine)))))), vd.2)
