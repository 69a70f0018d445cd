-- Reading what was written of an object gives the object.
use Rattle.std.proofs.Common.{◌≡◌, ℕ, zero, suc, ◌+◌, ◌-◌, ◌<◌, ◌≤◌, ◌^◌, ◌⊎◌, inl, inr, Bool, true, false, cond, List, [], ◌∷◌, ◌++◌, length, length-append, map, append_assoc, append-nil, Option, Some, None, Result, Ok, Err, ℤ, refl, sym, ap, ◌∙◌, subst, arith}
use Rattle.std.specs.Prelude.{slice_get}
use Rattle.std.proofs.lemmas.List.{length-map}
use Rattle.dx_base.specs.Object.{Tree, PartList, array, text, field, group, composite, series, no_parts, part, levels}
use Rattle.dx_base.specs.ObjectLimits.{is_array, is_field, fits, max_levels}
use Rattle.dx_base.specs.declared.code.NativeKind.TheVariants as fault
use Rattle.dx_native_lex.specs.Token.{error}
use Rattle.dx_native_lex.specs.declared.fault.NativeError.{NativeError}
use Rattle.dx_native_lex.specs.declared.token.Named.{Named}
use Rattle.dx_native_grammar.specs.declared.clause.Body.TheVariants as body
use Rattle.dx_native_grammar.specs.declared.clause.Clause.{Clause}
use Rattle.dx_native_grammar.specs.declared.clause.Content.{Content}
use Rattle.dx_native_grammar.specs.declared.clause.ListClass.{ListClass}
use Rattle.dx_native_grammar.specs.declared.clause.ListClass.TheVariants as listing
use Rattle.dx_native_grammar.specs.Grammar.{File}
use Rattle.dx_native_grammar.specs.Meaning.{place_of, unknown, unfit, is_array_body, is_field_body, has_body, reference_fault, component_fault, part_fault, parts_fault, given_fault, attributes_fault, body_fault, content_fault, clauses_fault, default_fault, references_fault, earlier, tree_at, last_place, default_place, name_place, object_or, object_at, unless_fault, meant}
use Rattle.dx_native_grammar.specs.Native.{IsNative, beginning}
use Rattle.dx_native_text.specs.Inline.{Inline, as_text, as_number, inline_of}
use Rattle.dx_native_text.specs.Text.{unless_inline, many, parts_many, values_many, lines_of, end_line, text_of}
use Rattle.dx_native_law.proofs.Erased.{unplaced, erased_clause}
use Rattle.dx_native_law.proofs.Tokens.{AreLines}
use Rattle.dx_native_law.proofs.Listings.{name_of, given_of, attributes_of}
use Rattle.dx_native_law.proofs.Parts.{erased_as, erased_parts}
use Rattle.dx_native_law.proofs.Objects.{own, listed_content, if_clauses, clauses_of, part_clauses, value_clauses, IsGood, text_is_file}
use Rattle.dx_native_law.proofs.Means.{World, IsNamed, place, some_many, length_of, length_if, length_parts, length_values, numbered, get_there, shift, within, if_here, object_means}
use Rattle.dx_native_law.proofs.Same.{tree_same, clauses_none, both_none, first_none, second_none}

-- ---- references of what is written

-- the components of fields are arrays, all the way down
abbrev pub AreArrays : PartList → Type 0
AreArrays no_parts = Unit {0}
AreArrays (part n p t ps) = (is_array t ≡ true) × AreArrays ps

-- the members of composite groups are fields
abbrev pub AreFields : PartList → Type 0
AreFields no_parts = Unit {0}
AreFields (part n p t ps) = (is_field t ≡ true) × AreFields ps

abbrev mutual
  pub HasArrays : Tree → Type 0
  HasArrays (array a xs) = AllArrays xs
  HasArrays (text b xs) = AllArrays xs
  HasArrays (field ps xs) = AreArrays ps × AllArrays ps × AllArrays xs
  HasArrays (group ps xs) = AllArrays ps × AllArrays xs
  HasArrays (composite ps xs) = AreFields ps × AllArrays ps × AllArrays xs
  HasArrays (series ps xs) = AllArrays ps × AllArrays xs

  pub AllArrays : PartList → Type 0
  AllArrays no_parts = Unit {0}
  AllArrays (part n p t ps) = HasArrays t × AllArrays ps

known : (all : List Clause) → World all → (j at : ℕ) → 0 < j → j ≤ length all → unknown (place_of all (name_of j)) at ≡ None
known all w j at some l = ap (λ o. unknown o at) (place j all w.numbered some l w.small)

-- an array stands at its place
array_there : (all : List Clause) (t : Tree) (k : ℕ) (before rest : List Clause) → is_array t ≡ true → all ≡ before ++ (clauses_of t k ++ rest) → suc (length before) ≡ k → has_body is_array_body (slice_get all (k + many t - 1 - 1)) ≡ true
array_there all (array a xs) k before rest h e p =
    let n = k + values_many xs in
    let want : Content = record { body = body.Array a; attributes = attributes_of xs k } in
    let front = before ++ value_clauses xs k in
    let here : all ≡ front ++ own n want ∷ rest = e ∙ shift before (value_clauses xs k) (own n want ∷ []) rest in
    let v = length_values xs k in
    let i : k + suc (values_many xs) - 1 - 1 ≡ length front = omega (arith, v, p, length-append before (value_clauses xs k)) in
    ap (λ (i : ℕ). has_body is_array_body (slice_get all i)) i ∙ ap (λ (l : List Clause). has_body is_array_body (slice_get l (length front))) here ∙ ap (has_body is_array_body) (get_there front (own n want) rest)
array_there all (text b xs) k before rest h e p = absurd cc
array_there all (field ps xs) k before rest h e p = absurd cc
array_there all (group ps xs) k before rest h e p = absurd cc
array_there all (composite ps xs) k before rest h e p = absurd cc
array_there all (series ps xs) k before rest h e p = absurd cc

-- and a field
field_there : (all : List Clause) (t : Tree) (k : ℕ) (before rest : List Clause) → is_field t ≡ true → all ≡ before ++ (clauses_of t k ++ rest) → suc (length before) ≡ k → has_body is_field_body (slice_get all (k + many t - 1 - 1)) ≡ true
field_there all (field ps xs) k before rest h e p =
    let j = k + parts_many ps in
    let n = k + (parts_many ps + values_many xs) in
    let want = listed_content listing.Field ps k xs j in
    let mid = before ++ part_clauses ps k in
    let front = mid ++ value_clauses xs j in
    let a = length_parts ps k in
    let b = length_values xs j in
    let at_mid : all ≡ mid ++ ((value_clauses xs j ++ own n want ∷ []) ++ rest) = e ∙ shift before (part_clauses ps k) (value_clauses xs j ++ own n want ∷ []) rest in
    let here : all ≡ front ++ own n want ∷ rest = at_mid ∙ shift mid (value_clauses xs j) (own n want ∷ []) rest in
    let i : k + suc (parts_many ps + values_many xs) - 1 - 1 ≡ length front = omega (arith, a, b, p, length-append before (part_clauses ps k), length-append mid (value_clauses xs j)) in
    ap (λ (i : ℕ). has_body is_field_body (slice_get all i)) i ∙ ap (λ (l : List Clause). has_body is_field_body (slice_get l (length front))) here ∙ ap (has_body is_field_body) (get_there front (own n want) rest)
field_there all (array a xs) k before rest h e p = absurd cc
field_there all (text b xs) k before rest h e p = absurd cc
field_there all (group ps xs) k before rest h e p = absurd cc
field_there all (composite ps xs) k before rest h e p = absurd cc
field_there all (series ps xs) k before rest h e p = absurd cc

abbrev IfField : ListClass → PartList → Type 0
IfField listing.Field ps = AreArrays ps
IfField listing.Group ps = Unit {0}
IfField listing.Composite ps = AreFields ps
IfField listing.Series ps = Unit {0}

later : (K : ListClass) (n : Option (List ℕ)) (p : ℤ) (t : Tree) (ps : PartList) → IfField K (part n p t ps) → IfField K ps
later listing.Field n p t ps h = h.1
later listing.Group n p t ps h = tt
later listing.Composite n p t ps h = h.1
later listing.Series n p t ps h = tt

part_known : (all : List Clause) → World all → (K : ListClass) (n : Option (List ℕ)) (p : ℤ) (t : Tree) (ps : PartList) (k : ℕ) (before rest : List Clause) → all ≡ before ++ (clauses_of t k ++ rest) → suc (length before) ≡ k
    → IfField K (part n p t ps) → k + many t - 1 ≤ length all → part_fault all K (unplaced (name_of (k + many t - 1))) ≡ None
part_known all w listing.Field n p t ps k before rest e q h l =
    let some = some_many t in
    let j = k + many t - 1 in
    ap (λ o. unfit is_array_body all o 0) (place j all w.numbered (omega arith) l w.small)
    ∙ ap (λ b. cond {A = Option NativeError} b None (Some (error fault.BadPart 0))) (array_there all t k before rest h.0 e q)
part_known all w listing.Group n p t ps k before rest e q h l = let some = some_many t in known all w (k + many t - 1) 0 (omega arith) l
part_known all w listing.Composite n p t ps k before rest e q h l =
    let some = some_many t in
    let j = k + many t - 1 in
    ap (λ o. unfit is_field_body all o 0) (place j all w.numbered (omega arith) l w.small)
    ∙ ap (λ b. cond {A = Option NativeError} b None (Some (error fault.BadPart 0))) (field_there all t k before rest h.0 e q)
part_known all w listing.Series n p t ps k before rest e q h l = let some = some_many t in known all w (k + many t - 1) 0 (omega arith) l

parts_known : (all : List Clause) → World all → (K : ListClass) (ps : PartList) (k : ℕ) (before rest : List Clause) → all ≡ before ++ (part_clauses ps k ++ rest) → suc (length before) ≡ k → IfField K ps → parts_fault all K (erased_parts ps k) ≡ None
parts_known all w K no_parts k before rest e p h = refl
parts_known all w K (part n q t ps) k before rest e p h =
    let after = k + many t in
    let tail = part_clauses ps after ++ rest in
    let here : all ≡ before ++ (clauses_of t k ++ tail) = e ∙ ap (λ x. before ++ x) (append_assoc (clauses_of t k) (part_clauses ps after) rest) in
    let one = length_of t k in
    let fits = within all before (clauses_of t k) tail (many t) here one in
    let some = some_many t in
    both_none (part_fault all K (unplaced (name_of (k + many t - 1)))) (parts_fault all K (erased_parts ps after)) (part_known all w K n q t ps k before tail here p h (omega (arith, fits)))
    (parts_known all w K ps after (before ++ clauses_of t k) rest (e ∙ shift before (clauses_of t k) (part_clauses ps after) rest) (omega (arith, one, length-append before (clauses_of t k))) (later K n q t ps h))

given_known : (all : List Clause) (v : Option Inline) (j : ℕ) → (v ≡ None → unknown (place_of all (name_of j)) 0 ≡ None) → given_fault all (given_of v j) ≡ None
given_known all None j next = next refl
given_known all (Some (as_text b)) j next = refl
given_known all (Some (as_number z)) j next = refl

attributes_known : (all : List Clause) → World all → (xs : PartList) (k : ℕ) (before rest : List Clause) → all ≡ before ++ (value_clauses xs k ++ rest) → suc (length before) ≡ k → attributes_fault all (attributes_of xs k) ≡ None
attributes_known all w no_parts k before rest e p = refl
attributes_known all w (part None q t xs) k before rest e p = refl
attributes_known all w (part (Some n) q t xs) k before rest e p =
    let v = inline_of t in
    let after = k + unless_inline v (many t) in
    let j = k + many t - 1 in
    let tail = value_clauses xs after ++ rest in
    let here : all ≡ before ++ (if_clauses v (clauses_of t k) ++ tail) = e ∙ ap (λ x. before ++ x) (append_assoc (if_clauses v (clauses_of t k)) (value_clauses xs after) rest) in
    let one = length_if v t k (length_of t k) in
    let whole = length_of t k in
    let some = some_many t in
    both_none (given_fault all (given_of v j)) (attributes_fault all (attributes_of xs after))
    (given_known all v j (λ none.
    let there = if_here v (clauses_of t k) tail all before none here in
    let fits = within all before (clauses_of t k) tail (many t) there whole in
    known all w j 0 (omega arith) (omega (arith, fits))))
    (attributes_known all w xs after (before ++ if_clauses v (clauses_of t k)) rest (e ∙ shift before (if_clauses v (clauses_of t k)) (value_clauses xs after) rest) (omega (arith, one, length-append before (if_clauses v (clauses_of t k)))))

clauses_append : (all as_ bs : List Clause) → clauses_fault all as_ ≡ None → clauses_fault all bs ≡ None → clauses_fault all (as_ ++ bs) ≡ None
clauses_append all [] bs h g = g
clauses_append all (c ∷ as_) bs h g = both_none (content_fault all c.content) (clauses_fault all (as_ ++ bs)) (first_none (content_fault all c.content) (clauses_fault all as_) h) (clauses_append all as_ bs (second_none (content_fault all c.content) (clauses_fault all as_) h) g)

own_known : (all : List Clause) (n : ℕ) (want : Content) → body_fault all want.body ≡ None → attributes_fault all want.attributes ≡ None → clauses_fault all (own n want ∷ []) ≡ None
own_known all n want h g = both_none (content_fault all want) None (both_none (body_fault all want.body) (attributes_fault all want.attributes) h g) refl

if_known : (all : List Clause) (v : Option Inline) (cs : List Clause) → (v ≡ None → clauses_fault all cs ≡ None) → clauses_fault all (if_clauses v cs) ≡ None
if_known all None cs next = next refl
if_known all (Some v) cs next = refl

mutual
  tree_known : (all : List Clause) → World all → (t : Tree) (k : ℕ) (before rest : List Clause) → all ≡ before ++ (clauses_of t k ++ rest) → suc (length before) ≡ k → HasArrays t → clauses_fault all (clauses_of t k) ≡ None
  tree_known all w (array a xs) k before rest e p h =
      let n = k + values_many xs in
      let want : Content = record { body = body.Array a; attributes = attributes_of xs k } in
      let there = e ∙ ap (λ x. before ++ x) (append_assoc (value_clauses xs k) (own n want ∷ []) rest) in
      clauses_append all (value_clauses xs k) (own n want ∷ []) (values_known all w xs k before (own n want ∷ rest) there p h) (own_known all n want refl (attributes_known all w xs k before (own n want ∷ rest) there p))
  tree_known all w (text b xs) k before rest e p h =
      let n = k + values_many xs in
      let want : Content = record { body = body.Text b; attributes = attributes_of xs k } in
      let there = e ∙ ap (λ x. before ++ x) (append_assoc (value_clauses xs k) (own n want ∷ []) rest) in
      clauses_append all (value_clauses xs k) (own n want ∷ []) (values_known all w xs k before (own n want ∷ rest) there p h) (own_known all n want refl (attributes_known all w xs k before (own n want ∷ rest) there p))
  tree_known all w (field ps xs) k before rest e p h =
      let j = k + parts_many ps in
      let n = k + (parts_many ps + values_many xs) in
      let want = listed_content listing.Field ps k xs j in
      let behind = value_clauses xs j ++ own n want ∷ [] in
      let mid = before ++ part_clauses ps k in
      let a = length_parts ps k in
      let q : suc (length mid) ≡ j = omega (arith, a, p, length-append before (part_clauses ps k)) in
      let there = e ∙ ap (λ x. before ++ x) (append_assoc (part_clauses ps k) behind rest) in
      let at_mid = e ∙ shift before (part_clauses ps k) behind rest ∙ ap (λ x. mid ++ x) (append_assoc (value_clauses xs j) (own n want ∷ []) rest) in
      clauses_append all (part_clauses ps k) behind (all_known all w ps k before (behind ++ rest) there p h.1)
      (clauses_append all (value_clauses xs j) (own n want ∷ []) (values_known all w xs j mid (own n want ∷ rest) at_mid q h.2)
      (own_known all n want (parts_known all w listing.Field ps k before (behind ++ rest) there p h.0) (attributes_known all w xs j mid (own n want ∷ rest) at_mid q)))
  tree_known all w (group ps xs) k before rest e p h =
      let j = k + parts_many ps in
      let n = k + (parts_many ps + values_many xs) in
      let want = listed_content listing.Group ps k xs j in
      let behind = value_clauses xs j ++ own n want ∷ [] in
      let mid = before ++ part_clauses ps k in
      let a = length_parts ps k in
      let q : suc (length mid) ≡ j = omega (arith, a, p, length-append before (part_clauses ps k)) in
      let there = e ∙ ap (λ x. before ++ x) (append_assoc (part_clauses ps k) behind rest) in
      let at_mid = e ∙ shift before (part_clauses ps k) behind rest ∙ ap (λ x. mid ++ x) (append_assoc (value_clauses xs j) (own n want ∷ []) rest) in
      clauses_append all (part_clauses ps k) behind (all_known all w ps k before (behind ++ rest) there p h.0)
      (clauses_append all (value_clauses xs j) (own n want ∷ []) (values_known all w xs j mid (own n want ∷ rest) at_mid q h.1)
      (own_known all n want (parts_known all w listing.Group ps k before (behind ++ rest) there p tt) (attributes_known all w xs j mid (own n want ∷ rest) at_mid q)))
  tree_known all w (composite ps xs) k before rest e p h =
      let j = k + parts_many ps in
      let n = k + (parts_many ps + values_many xs) in
      let want = listed_content listing.Composite ps k xs j in
      let behind = value_clauses xs j ++ own n want ∷ [] in
      let mid = before ++ part_clauses ps k in
      let a = length_parts ps k in
      let q : suc (length mid) ≡ j = omega (arith, a, p, length-append before (part_clauses ps k)) in
      let there = e ∙ ap (λ x. before ++ x) (append_assoc (part_clauses ps k) behind rest) in
      let at_mid = e ∙ shift before (part_clauses ps k) behind rest ∙ ap (λ x. mid ++ x) (append_assoc (value_clauses xs j) (own n want ∷ []) rest) in
      clauses_append all (part_clauses ps k) behind (all_known all w ps k before (behind ++ rest) there p h.1)
      (clauses_append all (value_clauses xs j) (own n want ∷ []) (values_known all w xs j mid (own n want ∷ rest) at_mid q h.2)
      (own_known all n want (parts_known all w listing.Composite ps k before (behind ++ rest) there p h.0) (attributes_known all w xs j mid (own n want ∷ rest) at_mid q)))
  tree_known all w (series ps xs) k before rest e p h =
      let j = k + parts_many ps in
      let n = k + (parts_many ps + values_many xs) in
      let want = listed_content listing.Series ps k xs j in
      let behind = value_clauses xs j ++ own n want ∷ [] in
      let mid = before ++ part_clauses ps k in
      let a = length_parts ps k in
      let q : suc (length mid) ≡ j = omega (arith, a, p, length-append before (part_clauses ps k)) in
      let there = e ∙ ap (λ x. before ++ x) (append_assoc (part_clauses ps k) behind rest) in
      let at_mid = e ∙ shift before (part_clauses ps k) behind rest ∙ ap (λ x. mid ++ x) (append_assoc (value_clauses xs j) (own n want ∷ []) rest) in
      clauses_append all (part_clauses ps k) behind (all_known all w ps k before (behind ++ rest) there p h.0)
      (clauses_append all (value_clauses xs j) (own n want ∷ []) (values_known all w xs j mid (own n want ∷ rest) at_mid q h.1)
      (own_known all n want (parts_known all w listing.Series ps k before (behind ++ rest) there p tt) (attributes_known all w xs j mid (own n want ∷ rest) at_mid q)))

  all_known : (all : List Clause) → World all → (ps : PartList) (k : ℕ) (before rest : List Clause) → all ≡ before ++ (part_clauses ps k ++ rest) → suc (length before) ≡ k → AllArrays ps → clauses_fault all (part_clauses ps k) ≡ None
  all_known all w no_parts k before rest e p h = refl
  all_known all w (part n q t ps) k before rest e p h =
      let after = k + many t in
      let one = length_of t k in
      clauses_append all (clauses_of t k) (part_clauses ps after)
      (tree_known all w t k before (part_clauses ps after ++ rest) (e ∙ ap (λ x. before ++ x) (append_assoc (clauses_of t k) (part_clauses ps after) rest)) p h.0)
      (all_known all w ps after (before ++ clauses_of t k) rest (e ∙ shift before (clauses_of t k) (part_clauses ps after) rest) (omega (arith, one, length-append before (clauses_of t k))) h.1)

  values_known : (all : List Clause) → World all → (xs : PartList) (k : ℕ) (before rest : List Clause) → all ≡ before ++ (value_clauses xs k ++ rest) → suc (length before) ≡ k → AllArrays xs → clauses_fault all (value_clauses xs k) ≡ None
  values_known all w no_parts k before rest e p h = refl
  values_known all w (part n q t xs) k before rest e p h =
      let v = inline_of t in
      let after = k + unless_inline v (many t) in
      let tail = value_clauses xs after ++ rest in
      let here : all ≡ before ++ (if_clauses v (clauses_of t k) ++ tail) = e ∙ ap (λ x. before ++ x) (append_assoc (if_clauses v (clauses_of t k)) (value_clauses xs after) rest) in
      let one = length_if v t k (length_of t k) in
      clauses_append all (if_clauses v (clauses_of t k)) (value_clauses xs after)
      (if_known all v (clauses_of t k) (λ none. tree_known all w t k before tail (if_here v (clauses_of t k) tail all before none here) p h.0))
      (values_known all w xs after (before ++ if_clauses v (clauses_of t k)) rest (e ∙ shift before (if_clauses v (clauses_of t k)) (value_clauses xs after) rest) (omega (arith, one, length-append before (if_clauses v (clauses_of t k)))) h.1)

-- ---- the law

last_is : (cs : List Clause) → 0 < length cs → last_place cs ≡ Some (length cs - 1)
last_is [] h = absurd (omega arith)
last_is (c ∷ cs) h = let e : length cs ≡ suc (length cs) - 1 = omega arith in ap (λ (n : ℕ). Some n) e

-- an object that can be written and read again
pub record IsWritten (t : Tree) : Type 0 where
  pub good : IsGood t 1
  pub lines : AreLines (lines_of t 1 ++ end_line ∷ [])
  pub named : IsNamed t
  pub arrays : HasArrays t
  pub few : many t < 2 ^ 64
  pub levels : levels t ≤ max_levels
  pub fits : fits t ≡ true

clauses_mean : (t : Tree) → IsWritten t → (f : File) → map erased_clause f.clauses ≡ clauses_of t 1 → f.default ≡ None → (len : ℕ) → meant f None len ≡ Ok t
unfolding meant
clauses_mean t h f same none len =
    let all = clauses_of t 1 in
    let n = length_of t 1 in
    let some = some_many t in
    let w : World all = record { numbered = numbered t 1; small = let few = h.few in omega (arith, n, few) } in
    let no_fault : clauses_fault all all ≡ None = tree_known all w t 1 [] [] (sym (append-nil all)) refl h.arrays in
    let here : clauses_fault f.clauses f.clauses ≡ None = clauses_none f.clauses f.clauses (ap (λ (l : List Clause). clauses_fault l l) same ∙ no_fault) in
    let fine : references_fault f ≡ None = both_none (clauses_fault f.clauses f.clauses) (default_fault f.clauses f.default) here (ap (default_fault f.clauses) none) in
    let count : length f.clauses ≡ many t = sym (length-map f.clauses erased_clause) ∙ ap length same ∙ n in
    let last : default_place f.clauses f.default ≡ Some (many t - 1) = ap (default_place f.clauses) none ∙ last_is f.clauses (omega (arith, count)) ∙ ap (λ (n : ℕ). Some (n - 1)) count in
    let tree : tree_at f.clauses max_levels (many t - 1) ≡ Some t =
    sym (tree_same f.clauses max_levels (many t - 1)) ∙ ap (λ (l : List Clause). tree_at l max_levels (many t - 1)) same ∙ object_means t max_levels h.few h.levels h.named in
    ap (λ o. unless_fault o (object_at f.clauses len (default_place f.clauses f.default))) fine
    ∙ ap (object_at f.clauses len) last
    ∙ ap (λ (o : Option Tree). object_or o (name_place (slice_get f.clauses (many t - 1)))) tree
    ∙ ap (λ b. cond {A = Result Tree NativeError} b (Ok t) (Err (error fault.TooLarge (name_place (slice_get f.clauses (many t - 1)))))) h.fits

-- reading what was written of an object, with no name asked for, gives the object again
pub read_again : (t : Tree) → IsWritten t → IsNative (text_of t) None (Ok t)
read_again t h =
    let r = text_is_file t h.good h.lines in
    inr (r.0, r.1, r.2, sym (clauses_mean t h r.0 r.3 r.4 (length (text_of t))))
