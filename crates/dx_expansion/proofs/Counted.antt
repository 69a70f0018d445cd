-- The definitions with a mark and the statement have numbers for all their nodes, since the walk has counted their calls.
use Rattle.std.proofs.Common.{◌≡◌, ℕ, suc, ◌+◌, ◌<◌, ◌≤◌, List, length, get_or, Option, Some, None, Bool, refl, sym, ap, subst, ◌∙◌, arith}
use Rattle.std.specs.Ordering.{nat_cmp}
use Rattle.std.specs.List.Sorted.{IsStrictlySortedBy}
use Rattle.std.proofs.lemmas.Map.Keys.{below_from_sorted}
use Rattle.dx_ast.specs.Limits.{max_walk_calls}
use Rattle.dx_ast.specs.Syntax.{Stmt}
use Rattle.dx_base.specs.Places.{Marks, flags}
use Rattle.dx_counting.specs.Counting.{count_text, count_marked, count_in, count_all}
use Rattle.dx_counting.proofs.Counted.{all_counted}
use Rattle.dx_counting.proofs.Marking.{marked_further, marked_itself, none_marked}
use Rattle.dx_definitions.specs.TopTexts.{TopText, definition}
use Rattle.dx_macros.specs.Dictionary.{Dictionary, top_text}
use Rattle.dx_macros.specs.DictionaryView.{dictionary_of}
use Rattle.dx_macros.specs.Walk.{walk_by, walk_of, read_in, definitions_read, fault_of_text, first_fault}
use Rattle.dx_macros.specs.declared.dictionary.Dictionary.{Dictionary as CodeDictionary}
use Rattle.dx_macros.proofs.BudgetLaw.{goes_of}
use Rattle.dx_expansion.specs.Driving.{SameWorld}
use Rattle.dx_texts.specs.Expanding.{dictionary_in}
use Rattle.dx_texts.specs.declared.text.World.{World}
use Rattle.dx_expansion.proofs.Marked.{ArePositionsOf, marked_at, flag_is, next_below}

-- the calls of the marked definitions before a position
abbrev pub calls_before : Dictionary → List Bool → ℕ → ℕ
calls_before d marks i = count_marked d.macros d.definitions marks i

abbrev pub definition_calls : Dictionary → ℕ → ℕ
definition_calls d i = count_text d.macros (definition d.definitions i)

-- the nodes of the definitions at the first positions are no more than the calls before any position behind them
abbrev pub AreCounted : Dictionary → List Bool → (places : List ℕ) → (count : ℕ) → (old now : ℕ) → Type 0
AreCounted d marks places count old now = (i : ℕ) → ((m : ℕ) → m < count → get_or places m 0 < i) → now ≤ old + calls_before d marks i

pub none_counted : (d : Dictionary) (marks : List Bool) (places : List ℕ) (old : ℕ) → AreCounted d marks places 0 old old
none_counted d marks places old i behind = omega arith

module _ (d : Dictionary) (marks : Marks) (places : List ℕ) (old now n i : ℕ) (sorted : IsStrictlySortedBy nat_cmp places) (are : ArePositionsOf places marks) (lt : n < length places) (is : i ≡ get_or places n 0)
    (counted : AreCounted d (flags marks) places n old now) where
  -- before the next definition
  before_next : now ≤ old + calls_before d (flags marks) i
  before_next = counted i (λ m less. omega (arith, below_from_sorted places m n 0 sorted less lt, is))

  with_next : calls_before d (flags marks) (suc i) ≡ calls_before d (flags marks) i + definition_calls d i
  with_next = marked_itself d.macros d.definitions (flags marks) i (flag_is marks i ∙ marked_at marks places n i are lt is)

  pub next_few : length marks ≡ length d.definitions → old + calls_before d (flags marks) (length d.definitions) ≤ max_walk_calls → now + definition_calls d i ≤ max_walk_calls
  next_few count few =
      let below : i < length marks = next_below marks places n i are lt is in
      let all : calls_before d (flags marks) (suc i) ≤ calls_before d (flags marks) (length d.definitions) = marked_further d.macros d.definitions (flags marks) (suc i) (length d.definitions) (omega (arith, below, count)) in
      omega (arith, before_next, with_next, all, few)

  pub next_counted : (next : ℕ) → next ≤ now + definition_calls d i → AreCounted d (flags marks) places (n + 1) old next
  next_counted next adds j behind =
      let here : i < j = omega (arith, behind n (omega arith), is) in
      let all : calls_before d (flags marks) (suc i) ≤ calls_before d (flags marks) j = marked_further d.macros d.definitions (flags marks) (suc i) j (omega (arith, here)) in
      omega (arith, before_next, with_next, all, adds)

pub all_are_counted : (d : Dictionary) (marks : Marks) (places : List ℕ) (old now n : ℕ) → ArePositionsOf places marks → n ≡ length places → length marks ≡ length d.definitions →
    AreCounted d (flags marks) places n old now → now ≤ old + calls_before d (flags marks) (length d.definitions)
all_are_counted d marks places old now n are end count counted =
    counted (length d.definitions) (λ m less. omega (arith, next_below marks places m (get_or places m 0) are (omega (arith, less, end)) refl, count))

-- ---- the same in worlds with one dictionary

pub same_calls : (w v : World) (i : ℕ) → SameWorld w v → definition_calls (dictionary_in v) i ≡ definition_calls (dictionary_in w) i
same_calls w v i same = ap (λ (d : CodeDictionary). definition_calls (dictionary_of d) i) same.dictionary

pub same_text_calls : (w v : World) (t : Option TopText) → SameWorld w v → count_in (dictionary_in v).macros t ≡ count_in (dictionary_in w).macros t
same_text_calls w v t same = ap (λ (d : CodeDictionary). count_in (dictionary_of d).macros t) same.dictionary

-- ---- the walk of a statement

all_few_of : (d : Dictionary) (t : Option TopText) (marks : List Bool) → fault_of_text d t ≡ None → marks ≡ read_in (walk_by d t) → count_all d t marks ≤ max_walk_calls
all_few_of d None marks e is =
    let none : calls_before d marks (length d.definitions) ≡ 0 = ap (λ (xs : List Bool). calls_before d xs (length d.definitions)) is ∙ none_marked d.macros d.definitions (length d.definitions) (length d.definitions) in
    omega (arith, none)
all_few_of d (Some t) marks e is =
    let g = goes_of (walk_of d t) e in
    subst (λ (xs : List Bool). count_all d (Some t) xs ≤ max_walk_calls) (sym (is ∙ ap read_in g.1)) (all_counted d t g.0 g.1).1

-- the calls of a statement without a fault and of the definitions that it reads
pub all_few : (d : Dictionary) (s : Stmt) (marks : List Bool) → first_fault d s ≡ None → marks ≡ definitions_read d s → count_all d (top_text s) marks ≤ max_walk_calls
all_few d s marks e is = all_few_of d (top_text s) marks e is
