-- The texts of the top level, one after the other.
use Rattle.std.proofs.Common.{◌≡◌, ◌⊎◌, inl, inr, ℕ, zero, suc, ◌<◌, List, [], ◌∷◌, ◌++◌, length, get_or, map, take, Option, Some, None, Vec, refl, sym, ap, ap₂, subst, ◌∙◌, arith, All}
use Rattle.std.specs.Prelude.{slice_set, slice_index_or, replicate}
use Rattle.std.proofs.Math.Logic.{∥∥₁_map}
use Rattle.std.proofs.lemmas.List.{length-map, length-replicate, get_or-set_same, get_or-set_other}
use Rattle.std.proofs.lemmas.Bool.{cases_eq}
use Rattle.std.specs.Str.{bytes_eq}
use Rattle.std.specs.declared.alloc.Global.{Global}
use Rattle.std.specs.HashMap.{HashMap, IsEmpty}
use Rattle.std.specs.Map.{lookup}
use Rattle.dx_base.specs.NameTable.{under_name}
use Rattle.dx_ast.specs.Classes.{Text as Name}
use Rattle.dx_ast.specs.declared.statements.Assign.{Assign}
use Rattle.dx_ast.specs.Lawful.{IsName, IsLawfulExpr}
use Rattle.dx_ast.specs.Syntax as syntax
use Rattle.dx_ast.specs.Plain.{plain_expr}
use Rattle.dx_macros.specs.Site.{Spot}
use Rattle.dx_definitions.specs.TopTexts.{TopText, definition}
use Rattle.dx_macros.specs.DictionaryView.{dictionary_of}
use Rattle.dx_macros.specs.Shown.{AreLawfulDefinitions}
use Rattle.dx_definitions.specs.Index.{text_of}
use Rattle.dx_ast.specs.declared.sequencing.Frames.{Frames}
use Rattle.dx_macros.specs.Tree.{Tree, CallTree}
use Rattle.dx_macros.specs.Expansion.{Scope, only, Expanded, top_spot, scope_within, expand_within, kept_of, effects_among}
use Rattle.dx_macros.specs.declared.dictionary.Dictionary.{Dictionary}
use Rattle.dx_graph.specs.Graph as plain
use Rattle.dx_graph.specs.Graph.{Node}
use Rattle.dx_graph.specs.Unfolding.{unfolded}
use Rattle.dx_graph.specs.GraphView.{graph_of}
use Rattle.dx_graph.specs.Operands.{Means, Gives, meaning, scope_with}
use Rattle.dx_texts.specs.Expanding.{Setting, Expands, Remembers, Starts, expr_in, dictionary_in, top_scope, top_results}
use Rattle.dx_expansion.specs.Driving.{top_setting, top_expanded, effects_in, SameWorld, Rests}
use Rattle.dx_texts.specs.Marks.{Memo}
use Rattle.dx_graph.specs.declared.graph.Graph.{Graph}
use Rattle.dx_graph.specs.declared.operand.Operand.{Operand}
use Rattle.dx_graph.specs.declared.operand.Results.{Results}
use Rattle.dx_graph.specs.declared.operand.Results.TheVariants as results
use Rattle.dx_texts.specs.declared.text.World.{World}
use Rattle.dx_texts.proofs.Standing.{remembers_later}

-- ---- a text without own names

none_own : {S : Type 0} (own : HashMap (Vec ℕ Global) Operand S) → IsEmpty own → (n : Name) → under_name own n ≡ None
none_own own e n = ap (λ (es : List (Vec ℕ Global × Operand)). lookup (λ (key : Vec ℕ Global). bytes_eq n key.items) es) e

pub scope_none : {S : Type 0} (nodes : List Node) (own : HashMap (Vec ℕ Global) Operand S) (top : Scope) → IsEmpty own → scope_with nodes (under_name own) top ≡ top
scope_none nodes own top e =
    let each : (n : Name) → scope_with nodes (under_name own) top n ≡ top n = λ n. ap (λ (o : Option Operand). meaning nodes o (top n)) (none_own own e n) in
    λ i n. each n i

-- what a text comes to in the setting of the top level
pub at_top : (w : World) (position : ℕ) (t : TopText) (s : Setting) (spot : Spot) (before : List Name) (old mid new : Graph) (r : Results) → before ≡ [] → s ≡ top_setting w position spot → spot ≡ top_spot t.targets →
    graph_of mid ≡ graph_of old → Expands (expr_in s before t.value) mid new r → Expands (top_expanded w position t) old new r
at_top w position t s spot before old mid new r none is here same h =
    let e : expr_in s before t.value ≡ top_expanded w position t = ap₂ (λ (x : Setting) (names : List Name). expr_in x names t.value) (is ∙ ap (top_setting w position) here) none in
    record {
      gives = subst (λ (x : Expanded). Gives (graph_of new).nodes r x.result) e h.gives;
      effects = h.effects ∙ ap₂ (λ (g : plain.Graph) (x : Expanded). unfolded g ++ effects_among x.kept) same e;
    }

-- ---- definitions

defined_lawful : (ds : List Assign) (i : ℕ) → i < length ds → AreLawfulDefinitions ds → IsLawfulExpr (definition (map text_of ds) i).value
defined_lawful [] i h all = absurd (omega arith)
defined_lawful (a ∷ ds) zero h all = (all 0 a (omega arith)).value
defined_lawful (a ∷ ds) (suc i) h all = defined_lawful ds i (omega (arith, h)) (λ k d lt. all (suc k) d (omega (arith, lt)))

pub value_lawful : (d : Dictionary) (i : ℕ) (a : Assign) → i < length (dictionary_of d).definitions → text_of a ≡ definition (dictionary_of d).definitions i → ∥ IsLawfulExpr (plain_expr a.value) ∥₁
value_lawful d i a h e =
    let below : i < length d.definitions.items = omega (arith, h, length-map d.definitions.items text_of) in
    ∥∥₁_map d.lawful_definitions (λ all. subst (λ (t : TopText). IsLawfulExpr t.value) (sym e) (defined_lawful d.definitions.items i below all))

defined_names : (ds : List Assign) (i : ℕ) → i < length ds → AreLawfulDefinitions ds → All IsName (definition (map text_of ds) i).targets
defined_names [] i h all = absurd (omega arith)
defined_names (a ∷ ds) zero h all = (all 0 a (omega arith)).names
defined_names (a ∷ ds) (suc i) h all = defined_names ds i (omega (arith, h)) (λ k d lt. all (suc k) d (omega (arith, lt)))

pub names_lawful : (d : Dictionary) (i : ℕ) (a : Assign) → i < length (dictionary_of d).definitions → text_of a ≡ definition (dictionary_of d).definitions i → ∥ All IsName a.targets ∥₁
names_lawful d i a h e =
    let below : i < length d.definitions.items = omega (arith, h, length-map d.definitions.items text_of) in
    ∥∥₁_map d.lawful_definitions (λ all. subst (λ (t : TopText). All IsName t.targets) (sym e) (defined_names d.definitions.items i below all))

pub defined : (w : World) (i : ℕ) (a : Assign) (old new : Graph) (r : Results) → text_of a ≡ definition (dictionary_in w).definitions i → Expands (top_expanded w i (text_of a)) old new r → Gives (graph_of new).nodes r (top_results w i)
unfolding top_results
defined w i a old new r e h = subst (λ (t : TopText). Gives (graph_of new).nodes r (top_expanded w i t).result) e h.gives

-- a definition that only names another
pub renamed : (w : World) (i : ℕ) (a : Assign) (n : Name) (o : Operand) (nodes : List Node) → text_of a ≡ definition (dictionary_in w).definitions i → plain_expr a.value ≡ syntax.Name n → Means nodes o (top_scope w i n) → Gives nodes (results.One o) (top_results w i)
unfolding top_results
renamed w i a n o nodes e is m =
    let At : TopText → Type 0 = λ t. Gives nodes (results.One o) (top_expanded w i t).result in
    let plainly : At (record { targets = a.targets; value = syntax.Name n }) = record { fits = m.fits; trees = ap only m.tree } in
    subst At e (subst (λ (v : syntax.Expr). At (record { targets = a.targets; value = v })) (sym is) plainly)

-- ---- what is remembered

abbrev results_at : Dictionary → Frames → ℕ → ℕ → Tree
results_at d f i =
    let plain = dictionary_of d in
    (expand_within 64 plain.macros f (scope_within 64 plain.macros f plain.definitions i) (definition plain.definitions i)).result

-- the results of a definition don't depend on what is remembered
pub results_same : (w v : World) → SameWorld w v → (i : ℕ) → top_results v i ≡ top_results w i
unfolding top_results top_scope
results_same w v same i = ap₂ (λ (d : Dictionary) (f : Frames). results_at d f i) same.dictionary same.frames

same_some : (x y : Results) (o : Option Results) → o ≡ Some x → o ≡ Some y → x ≡ y
same_some x y o e f = cc

found_by : (memo : Memo) (i j : ℕ) (r x : Results) → i < length memo → slice_index_or (slice_set memo i (Some r)) j None ≡ Some x → (j ≡ i) ⊎ (j ≡ i → ⊥) → ((j ≡ i) × (x ≡ r)) ⊎ (slice_index_or memo j None ≡ Some x)
found_by memo i j r x h e (inl same) = inl (same, same_some x r _ e (ap (λ (k : ℕ). get_or (slice_set memo i (Some r)) k None) same ∙ get_or-set_same memo i (Some r) None h))
found_by memo i j r x h e (inr other) = inr (sym (get_or-set_other memo i j (Some r) None other) ∙ e)

found : (memo : Memo) (i j : ℕ) (r x : Results) → i < length memo → slice_index_or (slice_set memo i (Some r)) j None ≡ Some x → ((j ≡ i) × (x ≡ r)) ⊎ (slice_index_or memo j None ≡ Some x)
found memo i j r x h e = found_by memo i j r x h e (cases_eq j i)

remembered_by : (w : World) (nodes : List Node) (i j : ℕ) (r x : Results) → Remembers nodes w → Gives nodes r (top_results w i) → ((j ≡ i) × (x ≡ r)) ⊎ (slice_index_or w.memo j None ≡ Some x) →
    Gives nodes x (top_results w j)
remembered_by w nodes i j r x all h (inl same) = subst (λ (y : Results). Gives nodes y (top_results w j)) (sym same.1) (subst (λ (k : ℕ). Gives nodes r (top_results w k)) (sym same.0) h)
remembered_by w nodes i j r x all h (inr e) = all j x e

pub remembers_set : (w v : World) (nodes : List Node) (i : ℕ) (r : Results) → SameWorld w v → i < length w.memo → v.memo ≡ slice_set w.memo i (Some r) →
    Remembers nodes w → Gives nodes r (top_results w i) → Remembers nodes v
remembers_set w v nodes i r same below set all h j x e =
    subst (λ (f : ℕ → Tree). Gives nodes x f) (sym (results_same w v same j))
    (remembered_by w nodes i j r x all h (found w.memo i j r x below (ap (λ (memo : Memo). slice_index_or memo j None) (sym set) ∙ e)))

-- after a definition got its results
pub rests_learned : (w v : World) (old mid new : Graph) (i : ℕ) (r : Results) → SameWorld w v → i < length w.memo → v.memo ≡ slice_set w.memo i (Some r) → Rests w old →
    Starts (graph_of old).nodes (graph_of mid).nodes → Gives (graph_of mid).nodes r (top_results w i) → graph_of new ≡ plain.with_effects (take 0 (graph_of mid).effects) (graph_of mid) → Rests v new
rests_learned w v old mid new i r same below set rests grows gives cleared = record {
  memo = subst (λ (ns : List Node). Remembers ns v) (sym (ap (λ (g : plain.Graph). g.nodes) cleared))
      (remembers_set w v (graph_of mid).nodes i r same below set (remembers_later w (graph_of old).nodes (graph_of mid).nodes grows rests.memo) gives);
  places = same.places ∙ rests.places ∙ sym (ap (λ (d : Dictionary). length (dictionary_of d).definitions) same.dictionary);
  effects = ap (λ (g : plain.Graph). g.effects) cleared;
}

pub same_on : (u v w : World) → SameWorld u v → SameWorld v w → SameWorld u w
same_on u v w a b = record {
  dictionary = b.dictionary ∙ a.dictionary;
  frames = b.frames ∙ a.frames;
  places = b.places ∙ a.places;
}

-- ---- the last text

abbrev effects_at : Option TopText → Dictionary → Frames → ℕ → List CallTree
effects_at None d f position = []
effects_at (Some t) d f position =
    let plain = dictionary_of d in
    effects_among (expand_within 64 plain.macros f (scope_within 64 plain.macros f plain.definitions position) t).kept

shown_at : (t : Option TopText) (w : World) (position : ℕ) → effects_in t w position ≡ effects_at t w.dictionary.now w.frames position
unfolding top_scope
shown_at None w position = refl
shown_at (Some t) w position = refl

plain_at : (t : Option TopText) (d : Dictionary) (f : Frames) → effects_at t d f (length (dictionary_of d).definitions) ≡ effects_among (kept_of 64 (dictionary_of d) f t)
plain_at None d f = refl
plain_at (Some t) d f = refl

pub last_effects : (w v : World) (position : ℕ) (t : Option TopText) → SameWorld w v → position ≡ length (dictionary_in w).definitions → effects_in t v position ≡ effects_among (kept_of 64 (dictionary_in w) w.frames t)
last_effects w v position t same here =
    shown_at t v position
    ∙ ap₂ (λ (d : Dictionary) (f : Frames). effects_at t d f position) same.dictionary same.frames
    ∙ ap (effects_at t w.dictionary.now w.frames) here
    ∙ plain_at t w.dictionary.now w.frames

-- ---- where nothing is expanded yet

abbrev no_results : ℕ → Memo
no_results n = replicate n None

none_kept : (n i : ℕ) (r : Results) → slice_index_or (no_results n) i None ≡ Some r → ⊥
none_kept zero i r e = cc
none_kept (suc n) zero r e = cc
none_kept (suc n) (suc i) r e = none_kept n i r e

pub first_rests : (w : World) (g : Graph) (d : Dictionary) → w.dictionary.now ≡ d → w.memo ≡ replicate (length (dictionary_of d).definitions) None → graph_of g ≡ plain.no_nodes → Rests w g
first_rests w g d same memo empty = record {
  memo = λ i r h. absurd (none_kept (length (dictionary_of d).definitions) i r (subst (λ (m : Memo). slice_index_or m i None ≡ Some r) memo h));
  places = ap length memo ∙ length-replicate (length (dictionary_of d).definitions) None ∙ sym (ap (λ (x : Dictionary). length (dictionary_of x).definitions) same);
  effects = ap (λ (x : plain.Graph). x.effects) empty;
}
