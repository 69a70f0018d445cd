-- The texts of the top level, and what an expansion remembers of them.
use Rattle.std.specs.Prelude.{◌≡◌, ℕ, List, [], Option, Some, None, Bool, true, false, is_some, length, slice_index_or, slice_set}
use Rattle.dx_ast.specs.Limits.{max_macro_steps}
use Rattle.dx_macros.specs.Site.{Spot}
use Rattle.dx_macros.specs.Tree.{CallTree}
use Rattle.dx_definitions.specs.TopTexts.{TopText}
use Rattle.dx_macros.specs.Walk.{Walk}
use Rattle.dx_macros.specs.Expansion.{Expanded, under_top, expand_within, effects_among}
use Rattle.dx_graph.specs.GraphView.{graph_of}
use Rattle.dx_texts.specs.Expanding.{Setting, Remembers, dictionary_in, top_scope}
use Rattle.dx_texts.specs.Marks.{Memo, IsMarked, WalkedWithin}
use Rattle.dx_graph.specs.declared.graph.Graph.{Graph}
use Rattle.dx_graph.specs.declared.operand.Results.{Results}
use Rattle.dx_texts.specs.declared.text.World.{World}

-- ---- a text of the top level

abbrev pub top_setting : World → ℕ → Spot → Setting
top_setting w position spot = record { under = under_top max_macro_steps (dictionary_in w).macros w.frames (top_scope w position); spot = spot; scope = top_scope w position }

-- what a text comes to at a position
abbrev pub top_expanded : World → ℕ → TopText → Expanded
top_expanded w position t = expand_within max_macro_steps (dictionary_in w).macros w.frames (top_scope w position) t

abbrev pub effects_in : Option TopText → World → ℕ → List CallTree
effects_in None w position = []
effects_in (Some t) w position = effects_among (top_expanded w position t).kept

-- ---- the definitions that are read

-- the marks of a walk: each definition that has one was walked
pub record AreWalked (w : World) (marks : List Bool) : Type 0 where
  pub walk : Walk
  pub is : walk.read ≡ marks
  pub count : length marks ≡ length (dictionary_in w).definitions
  pub all : (i : ℕ) → IsMarked walk i → WalkedWithin (dictionary_in w).macros (dictionary_in w).definitions walk i

-- each definition with a mark has its results
abbrev pub HaveResults : Memo → List Bool → Type 0
HaveResults memo marks = (i : ℕ) → slice_index_or marks i false ≡ true → is_some (slice_index_or memo i None) ≡ true

-- ---- what is remembered

-- only what is remembered may differ
pub record SameWorld (old new : World) : Type 0 where
  pub dictionary : new.dictionary.now ≡ old.dictionary.now
  pub frames : new.frames ≡ old.frames
  pub places : length new.memo ≡ length old.memo

-- between two texts: the results that are remembered are those of the graph, which has no effects
pub record Rests (w : World) (g : Graph) : Type 0 where
  pub memo : Remembers (graph_of g).nodes w
  pub places : length w.memo ≡ length (dictionary_in w).definitions
  pub effects : (graph_of g).effects ≡ []

-- the definition at a position got its results
abbrev pub Learned : ℕ → Memo → Memo → Type 0
Learned i old new = (r : Results) × (new ≡ slice_set old i (Some r))
