-- From inputs of which all origins and deltas are ints the modules make such results.
use Rattle.std.proofs.Common.{◌≡◌, ℕ, zero, suc, ℤ, pos, negsuc, List, [], ◌∷◌, Option, Some, None, Ok, Err, Bool, true, false, ◌&&◌, refl, subst}
use Rattle.std.specs.Prelude.{if◌then◌else◌, bytes_eq}
use Rattle.std.specs.List.{list_all}
use Rattle.std.proofs.lemmas.Bool.{and_parts}
use Rattle.std.specs.Cmp.Derive.{both_true}
use Rattle.dx_base.specs.declared.code.Code.{Code}
use Rattle.dx_base.specs.declared.code.Code.TheVariants.{BadArgument, TooLarge, NoMember, NoComponent}
use Rattle.dx_base.specs.Object.{Tree, PartList, array, text, field, group, composite, series, no_parts, part, parts, attributes, append}
use Rattle.dx_base.specs.ObjectLimits.{fits, differ, is_field}
use Rattle.dx_base.specs.ObjectMembers.{placed, composite_or_group}
use Rattle.dx_base.specs.ObjectNames.{same_name, find, component, member, put, without, with_component, without_component}
use Rattle.dx_base.specs.ObjectNumbers.{steps_by_ints, all_step_by_ints, as_number}
use Rattle.dx_objects.specs.Kinds.{text_of}
use Rattle.dx_objects.specs.Runs.{Values}
use Rattle.dx_objects.specs.Values.{value_at}
use Rattle.dx_object_laws.proofs.PutLaws.{by_bool}
use Rattle.dx_steps.specs.Steps.{value_steps, all_step, KeepsSteps}
use Rattle.dx_steps.proofs.ValueLaws.{at_steps, input_steps}
use Rattle.dx_steps.proofs.PartLaws.{parts_steps, attributes_steps, find_steps, put_steps, placed_steps, with_steps, either_steps}
use Rattle.dx_select.specs.Answered.{Answered, ◌>>=◌, or_refused, needed, in_limits, one_result}
use Rattle.dx_select.specs.Inputs.{data_name, saved_name, field_in, text_in, name_or_data}
use Rattle.dx_select.specs.Select.{at_place, at_number, chosen_by, chosen, unless_used, has_members, can_choose, selected, select_answer}
use Rattle.dx_select.specs.Extract.{extracted, all_extracted, extract_answer}
use Rattle.dx_select.specs.Replace.{taken_from, with_part, replaced, replace_answer}
use Rattle.dx_select.specs.Mark.{with_saved, with_data, restored, marked, unless_saved, unmarked, remade, mark_answer, unmark_answer}
use Rattle.dx_select.specs.Collect as collect
use Rattle.dx_select.specs.Collect.{members, place, pair, paired, named_group, collect_answer, collect_named_answer, collect_series_answer}
use Rattle.dx_select.specs.declared.collect.Beside.{Beside}
use Rattle.dx_select.specs.declared.collect.Beside.TheVariants.{Name, Position}
use Rattle.dx_select.proofs.Answering.{bound}

-- ---- what an answer tells

given : {A : Type 0} (code : Code) (o : Option A) (a : A) → or_refused code o ≡ Ok a → o ≡ Some a
given code None a e = absurd (cc e)
given code (Some b) a e = cc

chosen_branch : {A : Type 0} (b : Bool) (code : Code) (x : Answered A) (a : A) → (if b then x else Err code) ≡ Ok a → x ≡ Ok a
chosen_branch true code x a e = e
chosen_branch false code x a e = absurd (cc e)

limited : (t u : Tree) → in_limits t ≡ Ok u → t ≡ u
limited t u e = let is : Ok t ≡ Ok u = chosen_branch (fits t) TooLarge (Ok t) u e in cc

one_steps : (there : Answered Tree) (results : Values) → one_result there ≡ Ok results → ((t : Tree) → there ≡ Ok t → steps_by_ints t ≡ true) → all_step results ≡ true
one_steps (Ok t) results e h = let same : Some t ∷ [] ≡ results = cc in rw (← same, h t refl) refl
one_steps (Err code) results e h = absurd (cc e)

-- ---- parts

component_steps : (n : List ℕ) (whole t : Tree) → steps_by_ints whole ≡ true → component n whole ≡ Some t → steps_by_ints t ≡ true
component_steps n (array a xs) t h e = absurd (cc e)
component_steps n (text b xs) t h e = absurd (cc e)
component_steps n (field ps xs) t h e = find_steps n ps t (parts_steps (field ps xs) h) e
component_steps n (group ps xs) t h e = absurd (cc e)
component_steps n (composite ps xs) t h e = absurd (cc e)
component_steps n (series ps xs) t h e = absurd (cc e)

member_steps : (n : List ℕ) (whole t : Tree) → steps_by_ints whole ≡ true → member n whole ≡ Some t → steps_by_ints t ≡ true
member_steps n (array a xs) t h e = absurd (cc e)
member_steps n (text b xs) t h e = absurd (cc e)
member_steps n (field ps xs) t h e = absurd (cc e)
member_steps n (group ps xs) t h e = find_steps n ps t (parts_steps (group ps xs) h) e
member_steps n (composite ps xs) t h e = find_steps n ps t (parts_steps (composite ps xs) h) e
member_steps n (series ps xs) t h e = absurd (cc e)

place_steps : (ps : PartList) (i : ℕ) (t : Tree) → all_step_by_ints ps ≡ true → at_place ps i ≡ Some t → steps_by_ints t ≡ true
place_steps no_parts i t h e = absurd (cc e)
place_steps (part n p u ps) zero t h e = let same : u ≡ t = cc in rw (← same) ((and_parts (steps_by_ints u) (all_step_by_ints ps) h).0)
place_steps (part n p u ps) (suc i) t h e = place_steps ps i t ((and_parts (steps_by_ints u) (all_step_by_ints ps) h).1) e

without_steps : (n : List ℕ) (ps : PartList) → all_step_by_ints ps ≡ true → all_step_by_ints (without n ps) ≡ true
without_steps n no_parts h = refl
without_steps n (part m p u ps) h =
    let hs = and_parts (steps_by_ints u) (all_step_by_ints ps) h in
    by_bool (same_name n m) _
    (λ e. rw e hs.1)
    (λ e. rw e (both_true hs.0 (without_steps n ps hs.1)))

append_steps : (ps qs : PartList) → all_step_by_ints ps ≡ true → all_step_by_ints qs ≡ true → all_step_by_ints (append ps qs) ≡ true
append_steps no_parts qs h k = k
append_steps (part n p t ps) qs h k =
    let hs = and_parts (steps_by_ints t) (all_step_by_ints ps) h in
    both_true hs.0 (append_steps ps qs hs.1 k)

-- ---- Select

number_steps : (n : ℤ) (ps : PartList) (t : Tree) → all_step_by_ints ps ≡ true → at_number n ps ≡ Some t → steps_by_ints t ≡ true
number_steps (pos i) ps t h e = place_steps ps i t h e
number_steps (negsuc i) ps t h e = absurd (cc e)

by_steps : (n : Option ℤ) (b : Option (List ℕ)) (whole t : Tree) → steps_by_ints whole ≡ true → chosen_by n b whole ≡ Some t → steps_by_ints t ≡ true
by_steps (Some n) b whole t h e = number_steps n (parts whole) t (parts_steps whole h) e
by_steps None (Some b) whole t h e = member_steps b whole t h e
by_steps None None whole t h e = absurd (cc e)

chosen_steps : (which : Option Tree) (whole t : Tree) → steps_by_ints whole ≡ true → chosen which whole ≡ Some t → steps_by_ints t ≡ true
chosen_steps None whole t h e = place_steps (parts whole) 0 t (parts_steps whole h) e
chosen_steps (Some w) whole t h e = by_steps (as_number w) (text_of w) whole t h e

unused : (except : Option Tree) (there : Answered Tree) (t : Tree) → unless_used except there ≡ Ok t → there ≡ Ok t
unused None there t e = e
unused (Some x) there t e = absurd (cc e)

selected_steps : (v which except : Option Tree) (t : Tree) → value_steps v ≡ true → selected v which except ≡ Ok t → steps_by_ints t ≡ true
selected_steps None which except t h e = absurd (cc e)
selected_steps (Some whole) which except t h e =
    let used = chosen_branch (has_members whole && can_choose which) BadArgument (unless_used except (or_refused NoMember (chosen which whole))) t e in
    let found = unused except (or_refused NoMember (chosen which whole)) t used in
    chosen_steps which whole t h (given NoMember (chosen which whole) t found)

pub select_steps : KeepsSteps select_answer
select_steps inputs results h e =
    one_steps (selected (value_at inputs 0) (value_at inputs 1) (value_at inputs 2)) results e
    (λ t is. selected_steps (value_at inputs 0) (value_at inputs 1) (value_at inputs 2) t (at_steps inputs 0 h) is)

-- ---- Extract

mutual
  extracted_steps : (n : List ℕ) (whole t : Tree) → steps_by_ints whole ≡ true → extracted n whole ≡ Ok t → steps_by_ints t ≡ true
  extracted_steps n (array a xs) t h e = absurd (cc e)
  extracted_steps n (text b xs) t h e = absurd (cc e)
  extracted_steps n (field ps xs) t h e = find_steps n ps t (parts_steps (field ps xs) h) (given NoComponent (find n ps) t e)
  extracted_steps n (group ps xs) t h e =
      let ts = bound (all_extracted n ps) (λ ts. Ok (group (placed ps ts) xs)) t e in
      let same : group (placed ps ts.0) xs ≡ t = cc (ts.2) in
      let hs = and_parts (all_step_by_ints ps) (all_step_by_ints xs) h in
      subst (λ u. steps_by_ints u ≡ true) same (both_true (placed_steps ps ts.0 hs.0 (all_extracted_steps n ps ts.0 hs.0 ts.1)) hs.1)
  extracted_steps n (composite ps xs) t h e =
      let ts = bound (all_extracted n ps) (λ ts. Ok (composite_or_group (placed ps ts) xs)) t e in
      let same : composite_or_group (placed ps ts.0) xs ≡ t = cc (ts.2) in
      let hs = and_parts (all_step_by_ints ps) (all_step_by_ints xs) h in
      subst (λ u. steps_by_ints u ≡ true) same (either_steps (placed ps ts.0) xs (placed_steps ps ts.0 hs.0 (all_extracted_steps n ps ts.0 hs.0 ts.1)) hs.1)
  extracted_steps n (series ps xs) t h e =
      let ts = bound (all_extracted n ps) (λ ts. Ok (series (placed ps ts) xs)) t e in
      let same : series (placed ps ts.0) xs ≡ t = cc (ts.2) in
      let hs = and_parts (all_step_by_ints ps) (all_step_by_ints xs) h in
      subst (λ u. steps_by_ints u ≡ true) same (both_true (placed_steps ps ts.0 hs.0 (all_extracted_steps n ps ts.0 hs.0 ts.1)) hs.1)

  all_extracted_steps : (n : List ℕ) (ps : PartList) (ts : List Tree) → all_step_by_ints ps ≡ true → all_extracted n ps ≡ Ok ts → list_all steps_by_ints ts ≡ true
  all_extracted_steps n no_parts ts h e = let same : [] ≡ ts = cc in subst (λ us. list_all steps_by_ints us ≡ true) same refl
  all_extracted_steps n (part m p t ps) ts h e =
      let hs = and_parts (steps_by_ints t) (all_step_by_ints ps) h in
      let u = bound (extracted n t) (λ u. all_extracted n ps >>= λ us. Ok (u ∷ us)) ts e in
      let us = bound (all_extracted n ps) (λ us. Ok (u.0 ∷ us)) ts u.2 in
      let same : u.0 ∷ us.0 ≡ ts = cc (us.2) in
      subst (λ vs. list_all steps_by_ints vs ≡ true) same (both_true (extracted_steps n t u.0 hs.0 u.1) (all_extracted_steps n ps us.0 hs.1 us.1))

pub extract_steps : KeepsSteps extract_answer
extract_steps inputs results h e =
    one_steps (needed (value_at inputs 0) >>= λ t. needed (name_or_data (value_at inputs 1)) >>= λ n. extracted n t) results e
    (λ t is.
    let whole = bound (needed (value_at inputs 0)) (λ t. needed (name_or_data (value_at inputs 1)) >>= λ n. extracted n t) t is in
    let name = bound (needed (name_or_data (value_at inputs 1))) (λ n. extracted n whole.0) t whole.2 in
    extracted_steps name.0 whole.0 t (input_steps inputs 0 whole.0 h (given BadArgument (value_at inputs 0) whole.0 whole.1)) name.2)

-- ---- Replace

field_steps : (v : Option Tree) (whole : Tree) → value_steps v ≡ true → needed (field_in v) ≡ Ok whole → steps_by_ints whole ≡ true
field_steps None whole h e = absurd (cc e)
field_steps (Some t) whole h e =
    by_bool (is_field t) _
    (λ f. let is : Ok t ≡ Ok whole = rw f at e in let same : t ≡ whole = cc in rw (← same) h)
    (λ f. absurd (let is : needed None ≡ Ok whole = rw f at e in cc is))

taken_steps : (source : Tree) (n : List ℕ) (c : Tree) → steps_by_ints source ≡ true → taken_from source n ≡ Ok c → steps_by_ints c ≡ true
taken_steps (array a xs) n c h e = let same : array a xs ≡ c = cc in subst (λ u. steps_by_ints u ≡ true) same h
taken_steps (text b xs) n c h e = absurd (cc e)
taken_steps (field ps xs) n c h e = find_steps n ps c (parts_steps (field ps xs) h) (given NoComponent (find n ps) c e)
taken_steps (group ps xs) n c h e = absurd (cc e)
taken_steps (composite ps xs) n c h e = absurd (cc e)
taken_steps (series ps xs) n c h e = absurd (cc e)

taken_away_steps : (n : List ℕ) (whole u : Tree) → steps_by_ints whole ≡ true → without_component n whole ≡ Some u → steps_by_ints u ≡ true
taken_away_steps n (array a xs) u h e = absurd (cc e)
taken_away_steps n (text b xs) u h e = absurd (cc e)
taken_away_steps n (field ps xs) u h e =
    let hs = and_parts (all_step_by_ints ps) (all_step_by_ints xs) h in
    let same : field (without n ps) xs ≡ u = cc in
    subst (λ t. steps_by_ints t ≡ true) same (both_true (without_steps n ps hs.0) hs.1)
taken_away_steps n (group ps xs) u h e = absurd (cc e)
taken_away_steps n (composite ps xs) u h e = absurd (cc e)
taken_away_steps n (series ps xs) u h e = absurd (cc e)

replaced_steps : (source : Option Tree) (m n : List ℕ) (whole t : Tree) → value_steps source ≡ true → steps_by_ints whole ≡ true → replaced source m n whole ≡ Ok t → steps_by_ints t ≡ true
replaced_steps None m n whole t k h e =
    let c = bound (or_refused NoComponent (component n whole)) (λ c. needed (without_component n whole)) t e in
    taken_away_steps n whole t h (given BadArgument (without_component n whole) t c.2)
replaced_steps (Some source) m n whole t k h e =
    let c = bound (taken_from source m) (λ c. with_part n c whole) t e in
    let u = bound (needed (with_component n c.0 whole)) in_limits t c.2 in
    let same : u.0 ≡ t = limited u.0 t u.2 in
    subst (λ x. steps_by_ints x ≡ true) same (with_steps n c.0 whole u.0 (taken_steps source m c.0 k c.1) h (given BadArgument (with_component n c.0 whole) u.0 u.1))

pub replace_steps : KeepsSteps replace_answer
replace_steps inputs results h e =
    one_steps (needed (field_in (value_at inputs 1)) >>= λ whole. needed (name_or_data (value_at inputs 2)) >>= λ m. needed (name_or_data (value_at inputs 3)) >>= λ n. replaced (value_at inputs 0) m n whole) results e
    (λ t is.
    let whole = bound (needed (field_in (value_at inputs 1))) (λ whole. needed (name_or_data (value_at inputs 2)) >>= λ m. needed (name_or_data (value_at inputs 3)) >>= λ n. replaced (value_at inputs 0) m n whole) t is in
    let m = bound (needed (name_or_data (value_at inputs 2))) (λ m. needed (name_or_data (value_at inputs 3)) >>= λ n. replaced (value_at inputs 0) m n whole.0) t whole.2 in
    let n = bound (needed (name_or_data (value_at inputs 3))) (λ n. replaced (value_at inputs 0) m.0 n whole.0) t m.2 in
    replaced_steps (value_at inputs 0) m.0 n.0 whole.0 t (at_steps inputs 0 h) (field_steps (value_at inputs 1) whole.0 (at_steps inputs 1 h) whole.1) n.2)

-- ---- Mark and Unmark

saved_steps : (found : Option Tree) (ps : PartList) → value_steps found ≡ true → all_step_by_ints ps ≡ true → all_step_by_ints (with_saved found ps) ≡ true
saved_steps None ps k h = h
saved_steps (Some t) ps k h = put_steps saved_name t ps k h

found_steps : (found : Option Tree) → ((t : Tree) → found ≡ Some t → steps_by_ints t ≡ true) → value_steps found ≡ true
found_steps None h = refl
found_steps (Some t) h = h t refl

marked_steps : (n : List ℕ) (whole : Tree) (ps : PartList) → steps_by_ints whole ≡ true → marked n whole ≡ Ok ps → all_step_by_ints ps ≡ true
marked_steps n whole ps h e =
    let c = bound (or_refused NoComponent (component n whole)) (λ c. Ok (put data_name c (with_saved (component data_name whole) (parts whole)))) ps e in
    let same : put data_name c.0 (with_saved (component data_name whole) (parts whole)) ≡ ps = cc (c.2) in
    subst (λ qs. all_step_by_ints qs ≡ true) same
    (put_steps data_name c.0 (with_saved (component data_name whole) (parts whole)) (component_steps n whole c.0 h (given NoComponent (component n whole) c.0 c.1))
    (saved_steps (component data_name whole) (parts whole) (found_steps (component data_name whole) (λ t is. component_steps data_name whole t h is)) (parts_steps whole h)))

not_saved : (found : Option Tree) (there : Answered PartList) (ps : PartList) → unless_saved found there ≡ Ok ps → there ≡ Ok ps
not_saved None there ps e = e
not_saved (Some t) there ps e = absurd (cc e)

data_steps : (n : List ℕ) (found : Option Tree) (ps : PartList) → value_steps found ≡ true → all_step_by_ints ps ≡ true → all_step_by_ints (with_data n found ps) ≡ true
data_steps n (Some t) ps k h = without_steps saved_name (put data_name t ps) (put_steps data_name t ps k h)
data_steps n None ps k h = by_bool (bytes_eq n data_name) _ (λ e. rw e h) (λ e. rw e (without_steps data_name ps h))

unmarked_steps : (n : List ℕ) (whole : Tree) (ps : PartList) → steps_by_ints whole ≡ true → unmarked n whole ≡ Ok ps → all_step_by_ints ps ≡ true
unmarked_steps n whole ps h e =
    let c = bound (or_refused NoComponent (component data_name whole)) (λ c. Ok (restored n (put n c (parts whole)))) ps e in
    let same : restored n (put n c.0 (parts whole)) ≡ ps = cc (c.2) in
    let put_in = put_steps n c.0 (parts whole) (component_steps data_name whole c.0 h (given NoComponent (component data_name whole) c.0 c.1)) (parts_steps whole h) in
    subst (λ qs. all_step_by_ints qs ≡ true) same
    (data_steps n (find saved_name (put n c.0 (parts whole))) (put n c.0 (parts whole)) (found_steps (find saved_name (put n c.0 (parts whole))) (λ t is. find_steps saved_name (put n c.0 (parts whole)) t put_in is)) put_in)

remade_steps : (whole : Tree) (ps : PartList) (t : Tree) → steps_by_ints whole ≡ true → all_step_by_ints ps ≡ true → remade whole ps ≡ Ok t → steps_by_ints t ≡ true
remade_steps whole ps t h k e = subst (λ u. steps_by_ints u ≡ true) (limited (field ps (attributes whole)) t e) (both_true k (attributes_steps whole h))

pub mark_steps : KeepsSteps mark_answer
mark_steps inputs results h e =
    one_steps (needed (field_in (value_at inputs 0)) >>= λ whole. needed (text_in (value_at inputs 1)) >>= λ n. unless_saved (component saved_name whole) (marked n whole) >>= λ ps. remade whole ps) results e
    (λ t is.
    let whole = bound (needed (field_in (value_at inputs 0))) (λ whole. needed (text_in (value_at inputs 1)) >>= λ n. unless_saved (component saved_name whole) (marked n whole) >>= λ ps. remade whole ps) t is in
    let n = bound (needed (text_in (value_at inputs 1))) (λ n. unless_saved (component saved_name whole.0) (marked n whole.0) >>= λ ps. remade whole.0 ps) t whole.2 in
    let ps = bound (unless_saved (component saved_name whole.0) (marked n.0 whole.0)) (λ ps. remade whole.0 ps) t n.2 in
    let steps = field_steps (value_at inputs 0) whole.0 (at_steps inputs 0 h) whole.1 in
    remade_steps whole.0 ps.0 t steps (marked_steps n.0 whole.0 ps.0 steps (not_saved (component saved_name whole.0) (marked n.0 whole.0) ps.0 ps.1)) ps.2)

pub unmark_steps : KeepsSteps unmark_answer
unmark_steps inputs results h e =
    one_steps (needed (field_in (value_at inputs 0)) >>= λ whole. needed (text_in (value_at inputs 1)) >>= λ n. unmarked n whole >>= λ ps. remade whole ps) results e
    (λ t is.
    let whole = bound (needed (field_in (value_at inputs 0))) (λ whole. needed (text_in (value_at inputs 1)) >>= λ n. unmarked n whole >>= λ ps. remade whole ps) t is in
    let n = bound (needed (text_in (value_at inputs 1))) (λ n. unmarked n whole.0 >>= λ ps. remade whole.0 ps) t whole.2 in
    let ps = bound (unmarked n.0 whole.0) (λ ps. remade whole.0 ps) t n.2 in
    let steps = field_steps (value_at inputs 0) whole.0 (at_steps inputs 0 h) whole.1 in
    remade_steps whole.0 ps.0 t steps (unmarked_steps n.0 whole.0 ps.0 steps ps.1) ps.2)

-- ---- Collect

one_member_steps : (v : Option Tree) → value_steps v ≡ true → all_step_by_ints (collect.member v) ≡ true
one_member_steps None h = refl
one_member_steps (Some t) h = both_true h refl

members_steps : (vs : Values) → all_step vs ≡ true → all_step_by_ints (members vs) ≡ true
members_steps [] h = refl
members_steps (v ∷ vs) h =
    let hs = and_parts (value_steps v) (all_step vs) h in
    append_steps (collect.member v) (members vs) (one_member_steps v hs.0) (members_steps vs hs.1)

pub collect_steps : KeepsSteps collect_answer
collect_steps inputs results h e =
    one_steps (in_limits (group (members inputs) no_parts)) results e
    (λ t is. subst (λ u. steps_by_ints u ≡ true) (limited (group (members inputs) no_parts) t is) (both_true (members_steps inputs h) refl))

pair_steps : (b : Beside) (o v : Option Tree) (ps : PartList) → value_steps o ≡ true → pair b o v ≡ Ok ps → all_step_by_ints ps ≡ true
pair_steps b None v ps h e = let same : no_parts ≡ ps = cc in subst (λ qs. all_step_by_ints qs ≡ true) same refl
pair_steps b (Some t) v ps h e =
    let at = bound (place b v) (λ at. Ok (part at.0 at.1 t no_parts)) ps e in
    let same : part at.0.0 at.0.1 t no_parts ≡ ps = cc (at.2) in
    subst (λ qs. all_step_by_ints qs ≡ true) same (both_true h refl)

paired_steps : (b : Beside) (vs : Values) (ps : PartList) → all_step vs ≡ true → paired b vs ≡ Ok ps → all_step_by_ints ps ≡ true
paired_steps b [] ps h e = let same : no_parts ≡ ps = cc in subst (λ qs. all_step_by_ints qs ≡ true) same refl
paired_steps b (o ∷ []) ps h e = pair_steps b o None ps ((and_parts (value_steps o) (all_step []) h).0) e
paired_steps b (o ∷ v ∷ vs) ps h e =
    let hs = and_parts (value_steps o) (all_step (v ∷ vs)) h in
    let ks = and_parts (value_steps v) (all_step vs) hs.1 in
    let first = bound (pair b o v) (λ qs. paired b vs >>= λ rs. Ok (append qs rs)) ps e in
    let rest = bound (paired b vs) (λ rs. Ok (append first.0 rs)) ps first.2 in
    let same : append first.0 rest.0 ≡ ps = cc (rest.2) in
    subst (λ qs. all_step_by_ints qs ≡ true) same (append_steps first.0 rest.0 (pair_steps b o v first.0 hs.0 first.1) (paired_steps b vs rest.0 ks.1 rest.1))

pub collect_named_steps : KeepsSteps collect_named_answer
collect_named_steps inputs results h e =
    one_steps (paired Name inputs >>= λ ps. named_group ps) results e
    (λ t is.
    let ps = bound (paired Name inputs) (λ ps. named_group ps) t is in
    let there = chosen_branch (differ ps.0) BadArgument (in_limits (group ps.0 no_parts)) t ps.2 in
    subst (λ u. steps_by_ints u ≡ true) (limited (group ps.0 no_parts) t there) (both_true (paired_steps Name inputs ps.0 h ps.1) refl))

pub collect_series_steps : KeepsSteps collect_series_answer
collect_series_steps inputs results h e =
    one_steps (paired Position inputs >>= λ ps. in_limits (series ps no_parts)) results e
    (λ t is.
    let ps = bound (paired Position inputs) (λ ps. in_limits (series ps no_parts)) t is in
    subst (λ u. steps_by_ints u ≡ true) (limited (series ps.0 no_parts) t ps.2) (both_true (paired_steps Position inputs ps.0 h ps.1) refl))
