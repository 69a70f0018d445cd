-- The definitions with a mark, one after the other in the order of their places.
use Rattle.std.proofs.Common.{◌≡◌, ◌⊎◌, inl, inr, ⊎_elim, ℕ, zero, suc, ◌+◌, ◌<◌, ◌≤◌, List, [], ◌∷◌, length, get_or, Option, Some, None, Bool, true, false, refl, sym, ap, ap₂, subst, ◌∙◌, arith}
use Rattle.std.specs.Prelude.{is_some, slice_get, slice_index_or, slice_set, ◌||◌}
use Rattle.std.specs.Ordering.{nat_cmp, eq_by_cmp}
use Rattle.std.specs.Set.{is_member}
use Rattle.std.specs.List.Sorted.{IsStrictlySortedBy}
use Rattle.std.specs.Cmp.{unsigned_tied}
use Rattle.std.proofs.lemmas.Bool.Decides.{Decides-eqb}
use Rattle.std.proofs.lemmas.Cmp.{eq_by_cmp_equiv, nat_cmp_total}
use Rattle.std.proofs.lemmas.List.{length-map, length-replicate, get_or-set_same}
use Rattle.std.proofs.Math.ListN.{get_or-map}
use Rattle.std.proofs.lemmas.Map.Keys.{below_from_sorted}
use Rattle.std.proofs.lemmas.Map.Made.{All-is_member}
use Rattle.dx_macros.specs.declared.dictionary.Dictionary.{Dictionary}
use Rattle.dx_ast.specs.Syntax.{Stmt}
use Rattle.dx_macros.specs.Dictionary.{top_text}
use Rattle.dx_definitions.specs.TopTexts.{TopText, definition}
use Rattle.dx_macros.specs.Walk.{Goes, walk_text, walk_of, walk_by, walk_begins, reader_at, reader_of, read_in, definitions_read, fault_of_text, first_fault}
use Rattle.dx_macros.proofs.BudgetLaw.{goes_of, none_marked}
use Rattle.dx_texts.proofs.Marks.{text_marks, reader_marks}
use Rattle.dx_macros.specs.DictionaryView.{dictionary_of}
use Rattle.dx_base.specs.Places.{Marks, flags}
use Rattle.dx_expansion.specs.Driving.{AreWalked, HaveResults, SameWorld, Learned}
use Rattle.dx_texts.specs.Expanding.{dictionary_in}
use Rattle.dx_texts.specs.Marks.{Memo, Grown, IsWalked, WalkedWithin, top_reader, TopWalked, definition_walk}
use Rattle.dx_graph.specs.declared.operand.Results.{Results}
use Rattle.dx_texts.specs.declared.text.World.{World}

-- ---- the places of a list

-- the places tell which elements there are
abbrev pub ArePositionsOf : List ℕ → Marks → Type 0
ArePositionsOf places marks = (position : ℕ) → is_member (eq_by_cmp nat_cmp) places position ≡ is_some (slice_index_or marks position None)

found_by : (b : Bool) (q k : ℕ) (ks : List ℕ) → eq_by_cmp nat_cmp q k ≡ b → (b || is_member (eq_by_cmp nat_cmp) ks q) ≡ true →
    (is_member (eq_by_cmp nat_cmp) ks q ≡ true → (m : ℕ) × (m < length ks) × (get_or ks m 0 ≡ q)) → (m : ℕ) × (m < length (k ∷ ks)) × (get_or (k ∷ ks) m 0 ≡ q)
found_by true q k ks e h go = (0, omega arith, sym ((Decides-eqb q k).0 (sym (unsigned_tied q k) ∙ e)))
found_by false q k ks e h go = let x = go h in (suc x.0, omega (arith, x.1), x.2)

member_at : (ks : List ℕ) (q : ℕ) → is_member (eq_by_cmp nat_cmp) ks q ≡ true → (m : ℕ) × (m < length ks) × (get_or ks m 0 ≡ q)
member_at [] q h = cc
member_at (k ∷ ks) q h = found_by (eq_by_cmp nat_cmp q k) q k ks refl h (member_at ks q)

at_member : (ks : List ℕ) (m : ℕ) → m < length ks → is_member (eq_by_cmp nat_cmp) ks (get_or ks m 0) ≡ true
at_member ks m h = All-is_member (eq_by_cmp_equiv nat_cmp_total) ks m 0 h

less_or_not : (m n : ℕ) → (m < n) ⊎ (n ≤ m)
less_or_not m zero = inr (omega arith)
less_or_not zero (suc n) = inl (omega arith)
less_or_not (suc m) (suc n) = ⊎_elim (λ h. inl (omega (arith, h))) (λ h. inr (omega (arith, h))) (less_or_not m n)

-- in a sorted list what is less stands before
before_in : (ks : List ℕ) (m n : ℕ) → IsStrictlySortedBy nat_cmp ks → m < length ks → get_or ks m 0 < get_or ks n 0 → m < n
before_in ks m n sorted h less = ⊎_elim (λ lt. lt) (λ ge. ⊎_elim (λ same. absurd (omega (arith, less, ap (λ (k : ℕ). get_or ks k 0) same))) (λ gt. absurd (omega (arith, less, below_from_sorted ks n m 0 sorted gt h))) (same_or n m ge)) (less_or_not m n)
  where
    same_or : (n m : ℕ) → n ≤ m → (m ≡ n) ⊎ (n < m)
    same_or zero zero h = inl refl
    same_or zero (suc m) h = inr (omega arith)
    same_or (suc n) zero h = absurd (omega arith)
    same_or (suc n) (suc m) h = ⊎_elim (λ e. inl (ap suc e)) (λ lt. inr (omega (arith, lt))) (same_or n m (omega (arith, h)))

pub flag_is : (marks : Marks) (i : ℕ) → slice_index_or (flags marks) i false ≡ is_some (slice_index_or marks i None)
flag_is marks i = get_or-map is_some marks i None

-- an element that is there is within the list
pub within : (marks : Marks) (i : ℕ) → is_some (slice_index_or marks i None) ≡ true → i < length marks
within [] i h = cc
within (x ∷ marks) zero h = omega arith
within (x ∷ marks) (suc i) h = omega (arith, within marks i h)

-- ---- what is remembered

-- the definitions at the first places have their results
abbrev pub AreDone : Memo → List ℕ → ℕ → Type 0
AreDone memo places count = (m : ℕ) → m < count → is_some (slice_index_or memo (get_or places m 0) None) ≡ true

still_known : (memo : Memo) (i j : ℕ) (r : Results) → is_some (slice_index_or memo j None) ≡ true → is_some (slice_index_or (slice_set memo i (Some r)) j None) ≡ true
still_known [] i j r h = cc
still_known (x ∷ memo) zero zero r h = refl
still_known (x ∷ memo) zero (suc j) r h = h
still_known (x ∷ memo) (suc i) zero r h = h
still_known (x ∷ memo) (suc i) (suc j) r h = still_known memo i j r h

now_known : (memo : Memo) (i : ℕ) (r : Results) → i < length memo → is_some (slice_index_or (slice_set memo i (Some r)) i None) ≡ true
now_known memo i r h = ap is_some (get_or-set_same memo i (Some r) None h)

pub one_done : (old new : Memo) (places : List ℕ) (n i : ℕ) → Learned i old new → i < length old → i ≡ get_or places n 0 → AreDone old places n → AreDone new places (n + 1)
one_done old new places n i learned lt is done m h =
    let memo : Memo = slice_set old i (Some learned.0) in
    let at : is_some (slice_index_or memo (get_or places m 0) None) ≡ true =
    ⊎_elim (λ less. still_known old i (get_or places m 0) learned.0 (done m less))
    (λ ge. let same : m ≡ n = omega (arith, h, ge) in subst (λ (k : ℕ). is_some (slice_index_or memo k None) ≡ true) (is ∙ sym (ap (λ (k : ℕ). get_or places k 0) same)) (now_known old i learned.0 lt)) (less_or_not m n) in
    subst (λ (x : Memo). is_some (slice_index_or x (get_or places m 0) None) ≡ true) (sym learned.1) at

pub all_done : (memo : Memo) (marks : Marks) (places : List ℕ) (n : ℕ) → ArePositionsOf places marks → length places ≤ n → AreDone memo places n → HaveResults memo (flags marks)
all_done memo marks places n are le done i h =
    let x = member_at places i (are i ∙ sym (flag_is marks i) ∙ h) in
    subst (λ (k : ℕ). is_some (slice_index_or memo k None) ≡ true) x.2 (done x.0 (omega (arith, x.1, le)))

-- ---- the next definition

pub marked_at : (marks : Marks) (places : List ℕ) (n i : ℕ) → ArePositionsOf places marks → n < length places → i ≡ get_or places n 0 → is_some (slice_index_or marks i None) ≡ true
marked_at marks places n i are lt is = sym (are i) ∙ ap (is_member (eq_by_cmp nat_cmp) places) is ∙ at_member places n lt

pub next_below : (marks : Marks) (places : List ℕ) (n i : ℕ) → ArePositionsOf places marks → n < length places → i ≡ get_or places n 0 → i < length marks
next_below marks places n i are lt is = within marks i (marked_at marks places n i are lt is)

-- what the next definition reads has its results
next_walked_here : (w : World) (memo : Memo) (marks : Marks) (places : List ℕ) (n i : ℕ) → AreWalked w (flags marks) → IsStrictlySortedBy nat_cmp places → ArePositionsOf places marks →
    n < length places → i ≡ get_or places n 0 → AreDone memo places n → IsWalked memo i (definition_walk (dictionary_in w).macros (dictionary_in w).definitions i)
next_walked_here w memo marks places n i walked sorted are lt is done =
    let b = walked.walk in
    let flag : (j : ℕ) → slice_index_or b.read j false ≡ is_some (slice_index_or marks j None) = λ j. ap (λ xs. slice_index_or xs j false) walked.is ∙ flag_is marks j in
    let here = marked_at marks places n i are lt is in
    let x : WalkedWithin (dictionary_in w).macros (dictionary_in w).definitions b i = walked.all i (flag i ∙ here) in
    let below : i < length marks = within marks i here in
    record {
      from = x.from;
      to = x.to;
      goes = x.goes;
      count = omega (arith, below, x.count, ap length walked.is, length-map marks is_some);
      known = λ j less m.
          let at = member_at places j (are j ∙ sym (flag j) ∙ x.within j m) in
          let before : at.0 < n = before_in places at.0 n sorted at.1 (omega (arith, at.2, is, less)) in
          subst (λ (k : ℕ). is_some (slice_index_or memo k None) ≡ true) at.2 (done at.0 before);
    }

pub next_walked : (w v : World) (marks : Marks) (places : List ℕ) (n i : ℕ) → SameWorld w v → AreWalked w (flags marks) → IsStrictlySortedBy nat_cmp places → ArePositionsOf places marks →
    n < length places → i ≡ get_or places n 0 → AreDone v.memo places n → TopWalked v i (definition (dictionary_in v).definitions i)
next_walked w v marks places n i same walked sorted are lt is done =
    let at : Dictionary → Type 0 = λ d. IsWalked v.memo i (definition_walk (dictionary_of d).macros (dictionary_of d).definitions i) in
    subst at (sym same.dictionary) (next_walked_here w v.memo marks places n i walked sorted are lt is done)

-- ---- the walk of a statement

all_of_text : (w : World) (o : Option TopText) (marks : List Bool) → fault_of_text (dictionary_in w) o ≡ None → marks ≡ read_in (walk_by (dictionary_in w) o) → AreWalked w marks
all_of_text w None marks e is =
    let d = dictionary_in w in
    record {
      walk = walk_begins d;
      is = sym is;
      count = ap length is ∙ length-replicate (length d.definitions) false;
      all = λ i m. absurd (none_marked (length d.definitions) i m);
    }
all_of_text w (Some t) marks e is =
    let d = dictionary_in w in
    let g = goes_of (walk_of d t) e in
    let read : marks ≡ g.0.read = is ∙ ap read_in g.1 in
    let grown : Grown d.macros d.definitions (walk_begins d) g.0 = text_marks d.macros d.definitions (reader_of d) (reader_marks d.macros d.definitions (length d.definitions)) t (walk_begins d) g.0 g.1 in
    record {
      walk = g.0;
      is = sym read;
      count = ap length read ∙ grown.count ∙ length-replicate (length d.definitions) false;
      all = λ i m. ⊎_elim (λ h. absurd (none_marked (length d.definitions) i h)) (λ x. x) (grown.fresh i m);
    }

-- the marks of a walk without a fault
pub all_walked : (w : World) (s : Stmt) (marks : List Bool) → first_fault (dictionary_in w) s ≡ None → marks ≡ definitions_read (dictionary_in w) s → AreWalked w marks
all_walked w s marks e is = all_of_text w (top_text s) marks e is

text_walked : (w : World) (memo : Memo) (o : Option TopText) (t : TopText) (position : ℕ) (marks : List Bool) → position ≡ length (dictionary_in w).definitions → fault_of_text (dictionary_in w) o ≡ None →
    marks ≡ read_in (walk_by (dictionary_in w) o) → HaveResults memo marks → o ≡ Some t → IsWalked memo position (walk_text (dictionary_in w).macros (top_reader w position) t)
text_walked w memo None t position marks here e is have some = cc
text_walked w memo (Some x) t position marks here e is have some =
    let d = dictionary_in w in
    let same : x ≡ t = cc in
    let g = goes_of (walk_of d x) e in
    let read : marks ≡ g.0.read = is ∙ ap read_in g.1 in
    let goes : walk_text d.macros (top_reader w position) t (walk_begins d) ≡ Goes g.0 = ap₂ (λ (p : ℕ) (y : TopText). walk_text d.macros (top_reader w p) y (walk_begins d)) here (sym same) ∙ g.1 in
    record {
      from = walk_begins d;
      to = g.0;
      goes = goes;
      count = omega (arith, here, length-replicate (length d.definitions) false);
      known = λ i less m. have i (ap (λ xs. slice_index_or xs i false) read ∙ m);
    }

-- the statement reads no definition without results
pub last_walked : (w v : World) (s : Stmt) (t : TopText) (position : ℕ) (marks : List Bool) → SameWorld w v → position ≡ length (dictionary_in w).definitions → first_fault (dictionary_in w) s ≡ None →
    marks ≡ definitions_read (dictionary_in w) s → HaveResults v.memo marks → top_text s ≡ Some t → TopWalked v position t
last_walked w v s t position marks same here e is have some =
    let at : Dictionary → Type 0 = λ d. IsWalked v.memo position (walk_text (dictionary_of d).macros (reader_at (dictionary_of d).macros (dictionary_of d).definitions position) t) in
    subst at (sym same.dictionary) (text_walked w v.memo (top_text s) t position marks here e is have some)

-- what is known of a dictionary holds of the same dictionary
pub of_dictionary : (d e : Dictionary) (s : Stmt) → e ≡ d → first_fault (dictionary_of d) s ≡ None → first_fault (dictionary_of e) s ≡ None
of_dictionary d e s same none = ap (λ (x : Dictionary). first_fault (dictionary_of x) s) same ∙ none

pub reads_of : (d e : Dictionary) (s : Stmt) (marks : List Bool) → e ≡ d → marks ≡ definitions_read (dictionary_of d) s → marks ≡ definitions_read (dictionary_of e) s
reads_of d e s marks same is = is ∙ sym (ap (λ (x : Dictionary). definitions_read (dictionary_of x) s) same)

-- an element that is got by its number
pub got : (xs : List ℕ) (n x : ℕ) → slice_get xs n ≡ Some x → x ≡ get_or xs n 0
got [] n x e = cc
got (y ∷ xs) zero x e = cc
got (y ∷ xs) (suc n) x e = got xs n x e
