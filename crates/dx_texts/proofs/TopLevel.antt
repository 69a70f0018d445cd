-- What a name means at a position of the top level.
use Rattle.std.proofs.Common.{◌≡◌, ℕ, zero, suc, ◌<◌, List, Some, None, Bool, true, false, refl, ap, subst, ◌∙◌, arith}
use Rattle.std.specs.Prelude.{if◌then◌else◌}
use Rattle.dx_ast.specs.declared.sequencing.Frames.{Frames}
use Rattle.dx_ast.specs.Classes.{Text}
use Rattle.dx_base.specs.NameLists.{has}
use Rattle.dx_macros.specs.Dictionary.{Macros}
use Rattle.dx_definitions.specs.TopTexts.{TopText, definition}
use Rattle.dx_definitions.specs.TopTexts.{last_named}
use Rattle.dx_macros.specs.Expansion.{Scope, null_tree, scope_within, expand_within}
use Rattle.dx_texts.specs.Expanding.{dictionary_in, top_scope, top_results, last_target}
use Rattle.dx_texts.specs.declared.text.World.{World}
use Rattle.dx_texts.proofs.Scopes.{not_assigned, assigned_named}

-- ---- the last definition of a name

has_by : (b : Bool) (p i : ℕ) (defs : List TopText) (n : Text) → has (definition defs p).targets n ≡ b → (last_named defs p n ≡ Some i → has (definition defs i).targets n ≡ true) →
    (if b then Some p else last_named defs p n) ≡ Some i → has (definition defs i).targets n ≡ true
has_by true p i defs n h go e = let same : p ≡ i = cc in subst (λ (j : ℕ). has (definition defs j).targets n ≡ true) same h
has_by false p i defs n h go e = go e

pub has_named : (p i : ℕ) (defs : List TopText) (n : Text) → last_named defs p n ≡ Some i → has (definition defs i).targets n ≡ true
has_named zero i defs n e = cc
has_named (suc p) i defs n e = has_by (has (definition defs p).targets n) p i defs n refl (has_named p i defs n) e

below_by : (b : Bool) (p i : ℕ) (defs : List TopText) (n : Text) → (last_named defs p n ≡ Some i → i < p) → (if b then Some p else last_named defs p n) ≡ Some i → i < suc p
below_by true p i defs n go e = let same : p ≡ i = cc in omega arith
below_by false p i defs n go e = let h = go e in omega (arith, h)

pub named_below : (p i : ℕ) (defs : List TopText) (n : Text) → last_named defs p n ≡ Some i → i < p
named_below zero i defs n e = cc
named_below (suc p) i defs n e = below_by (has (definition defs p).targets n) p i defs n (named_below p i defs n) e

-- ---- scopes of the top level

module _ (steps : ℕ) (macros : Macros) (frames : Frames) (defs : List TopText) (n : Text) where
  abbrev scope_at : ℕ → Scope
  scope_at i = scope_within steps macros frames defs i

  none_by : (b : Bool) (i : ℕ) → has (definition defs i).targets n ≡ b → (last_named defs i n ≡ None → scope_at i n ≡ null_tree) → (if b then Some i else last_named defs i n) ≡ None → scope_at (suc i) n ≡ null_tree
  none_by true i h go e = cc
  none_by false i h go e = not_assigned (definition defs i).targets 0 _ (scope_at i) n h ∙ go e

  pub scope_none : (p : ℕ) → last_named defs p n ≡ None → scope_at p n ≡ null_tree
  scope_none zero e = refl
  scope_none (suc i) e = none_by (has (definition defs i).targets n) i refl (scope_none i) e

  some_by : (b : Bool) (p i : ℕ) → has (definition defs p).targets n ≡ b → (last_named defs p n ≡ Some i → scope_at p n ≡ scope_at (suc i) n) → (if b then Some p else last_named defs p n) ≡ Some i → scope_at (suc p) n ≡ scope_at (suc i) n
  some_by true p i h go e = let same : p ≡ i = cc in ap (λ (j : ℕ). scope_at (suc j) n) same
  some_by false p i h go e = not_assigned (definition defs p).targets 0 _ (scope_at p) n h ∙ go e

  pub scope_some : (p i : ℕ) → last_named defs p n ≡ Some i → scope_at p n ≡ scope_at (suc i) n
  scope_some zero i e = cc
  scope_some (suc p) i e = some_by (has (definition defs p).targets n) p i refl (scope_some p i) e

  -- a name means what its last definition before the position gave it
  pub scope_named : (p i : ℕ) → last_named defs p n ≡ Some i → scope_at p n ≡ (expand_within steps macros frames (scope_at i) (definition defs i)).result (last_target (definition defs i).targets 0 0 n)
  scope_named p i e = scope_some p i e ∙ assigned_named (definition defs i).targets 0 0 (expand_within steps macros frames (scope_at i) (definition defs i)).result (scope_at i) n (has_named p i defs n e)

-- ---- the same of the code's world

pub unbound : (w : World) (position : ℕ) (n : Text) → last_named (dictionary_in w).definitions position n ≡ None → top_scope w position n ≡ null_tree
unfolding top_scope
unbound w position n e = scope_none 64 (dictionary_in w).macros w.frames (dictionary_in w).definitions n position e

pub bound_at : (w : World) (position i : ℕ) (n : Text) → last_named (dictionary_in w).definitions position n ≡ Some i → top_scope w position n ≡ top_results w i (last_target (definition (dictionary_in w).definitions i).targets 0 0 n)
unfolding top_scope top_results
bound_at w position i n e = scope_named 64 (dictionary_in w).macros w.frames (dictionary_in w).definitions n position i e
