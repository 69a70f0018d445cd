-- Looking by all values comes to what the meaning says.
use Rattle.std.proofs.Common.{◌≡◌, ℕ, zero, suc, ℤ, pos, negsuc, List, [], ◌∷◌, Option, Some, None, Bool, true, false, refl, sym, ap, ◌∙◌, subst}
use Rattle.std.specs.Prelude.{Result, Ok, Err, option_map, if◌then◌else◌, ◌==◌}
use Rattle.dx_base.specs.Object.{Tree as Object}
use Rattle.dx_base.specs.ObjectNumbers.{as_number}
use Rattle.dx_base.specs.declared.code.Code.{Code}
use Rattle.dx_base.specs.declared.function.Function.{Function}
use Rattle.dx_base.specs.declared.function.Function.TheVariants as function
use Rattle.dx_base.specs.declared.function.Module.{Module}
use Rattle.dx_base.specs.declared.function.Module.TheVariants as computing
use Rattle.dx_base.specs.declared.function.Effect.{Effect}
use Rattle.dx_base.specs.declared.function.Effect.TheVariants as effect
use Rattle.dx_ast.specs.declared.constants.Const.TheVariants as const
use Rattle.dx_macros.specs.Site.{Step}
use Rattle.dx_macros.specs.Tree.{Place, Tree, ConstantTree, ResultTree, TreeCall, Trees, NoTree, AndTree}
use Rattle.dx_objects.specs.Kinds.{text_of}
use Rattle.dx_objects.specs.Runs.{Values, Answer}
use Rattle.dx_links.specs.declared.key.Key.{Key}
use Rattle.dx_links.specs.declared.key.Key.TheVariants as key
use Rattle.dx_links.specs.Denotes.{Around, denotes, denoted_beside, all_denote}
use Rattle.dx_tags.specs.Closed.{ValueTerm, ConstantTerm, HeldTerm, ResultTerm, FileTerm, CallOf, ValueTerms, NoTerm, AndTerm}
use Rattle.dx_meaning.specs.Outcome.{Value, Use, Decided, Val, ErrAt, Off, HaltAt, Outcome}
use Rattle.dx_meaning.specs.Picking.{Pick, PickThis, PickInput, PickOff, PickFault, Shelf, numbered, switch_number, switch_pick, routed, route_number, route_pick, link_name, held_or, get_pick, key_in, pick, selector_at}
use Rattle.dx_meaning.specs.Meaning.{World, outcome, outcomes, outcome_at, together, decided_beside, selected_with, with_name, arguments, answered, module_rule, module_outcome, after_selector, picked, values_in, selector_rule, effect_rule, by_rule}
use Rattle.dx_meaning.specs.Scan.{Sight, IsOff, Stops, Needs, Scanned, Forms, Ends, scanned_beside, all_scanned, null_term, scanned_at, with_file, call_scanned, written_for, written_under as scanned_under, picked_scanned, terms_in, valued, selected, selector_scanned, effect_scanned, module_scanned, rule_scanned, scan, scan_each}
use Rattle.dx_meaning.specs.Term.{Names, around, term_at, written_under, written_as, written_by, own_file_of, picked_term, selected_term, terms_with, selector_term, effect_term, term_rule, term_of, terms_of, LinksDenote, Agrees}
use Rattle.dx_meaning.proofs.Terms.{is_file_term, tree_right}
use Rattle.dx_performing.specs.Course.{IsRefused, value_or_none, with_values, came}
use Rattle.dx_performing.specs.Meant.{IsFull, IsHalted, Means, ScansAreMeant, CameSo, EffectsComeSo}

-- ---- the arguments of a call

halted_behind : (a : Around) (site : List Step) (code : Code) (t : ValueTerm) (r : Scanned ValueTerms) → IsHalted a site code r → IsHalted a site code (scanned_beside (Forms t) r)
halted_behind a site code t (Forms ts) h = absurd h
halted_behind a site code t (Ends IsOff) h = absurd h
halted_behind a site code t (Ends (Stops place c)) h = h
halted_behind a site code t (Ends (Needs place u)) h = h

halted_first : (a : Around) (site : List Step) (code : Code) (x : Scanned ValueTerm) (r : Scanned ValueTerms) → IsHalted a site code x → IsHalted a site code (scanned_beside x r)
halted_first a site code (Forms t) r h = absurd h
halted_first a site code (Ends IsOff) r h = absurd h
halted_first a site code (Ends (Stops place c)) r h = h
halted_first a site code (Ends (Needs place u)) r h = h

beside_means : (a : Around) (d : Decided Value) (e : Decided Values) (t : ValueTerm) (ts : ValueTerms) (x : Scanned ValueTerm) (r : Scanned ValueTerms) → Means a d t x → Means a e ts r → Means a (decided_beside d e) (AndTerm t ts) (scanned_beside x r)
beside_means a Off e t ts x r p q = rw p refl
beside_means a (HaltAt s c) e t ts x r p q = halted_first a s c x r p
beside_means a (ErrAt s c) Off t ts x r p q = rw (p, q) refl
beside_means a (ErrAt s c) (HaltAt s' c') t ts x r p q = rw p (halted_behind a s' c' t r q)
beside_means a (ErrAt s c) (ErrAt s' c') t ts x r p q = rw (p, q) refl
beside_means a (ErrAt s c) (Val vs) t ts x r p q = rw (p, q) refl
beside_means a (Val v) Off t ts x r p q = rw (p, q) refl
beside_means a (Val v) (HaltAt s c) t ts x r p q = rw p (halted_behind a s c t r q)
beside_means a (Val v) (ErrAt s c) t ts x r p q = rw (p, q) refl
beside_means a (Val v) (Val vs) t ts x r p q = rw (p, q) refl

-- ---- a call of a module

answered_means : (a : Around) (site : List Step) (result : ℕ) (answer : Answer) (t : ValueTerm) (x : Scanned ValueTerm) → x ≡ Forms t → Means a (answered site result answer) t x
answered_means a site result (Ok values) t x e = e
answered_means a site result (Err code) t x e = e

halted_call : (a : Around) (site : List Step) (code : Code) (m : Module) (file : Option (List ℕ)) (result : ℕ) (r : Scanned ValueTerms) → IsHalted a site code r → IsHalted a site code (call_scanned m file result r)
halted_call a site code m file result (Forms ts) h = absurd h
halted_call a site code m file result (Ends IsOff) h = absurd h
halted_call a site code m file result (Ends (Stops place c)) h = h
halted_call a site code m file result (Ends (Needs place u)) h = h

called_means : (w : World) (a : Around) (m : Module) (p : Place) (result : ℕ) (file : Option (List ℕ)) (d : Decided Values) (us vs : List Use) (ts : ValueTerms) (r : Scanned ValueTerms) → Means a d ts r →
    Means a (module_rule w m p.site result d us vs).decided (ResultTerm result (CallOf m (with_file ts file))) (call_scanned m file result r)
called_means w a m p result file Off us vs ts r h = rw h refl
called_means w a m p result file (HaltAt s c) us vs ts r h = halted_call a s c m file result r h
called_means w a m p result file (ErrAt s c) us vs ts r h = rw h refl
called_means w a m p result file (Val values) us vs ts r h =
    answered_means a p.site result _ (ResultTerm result (CallOf m (with_file ts file))) (call_scanned m file result r) (ap (call_scanned m file result) h)

-- ---- what is picked

abbrev PickAlike : Pick Value → Pick ValueTerm → Type 0
PickAlike (PickThis v) (PickThis t) = Unit {0}
PickAlike (PickInput k) (PickInput l) = k ≡ l
PickAlike PickOff PickOff = Unit {0}
PickAlike PickFault PickFault = Unit {0}
PickAlike a b = ⊥

numbered_alike : (k : ℤ) → PickAlike (numbered None k) (numbered null_term k)
numbered_alike (pos zero) = tt
numbered_alike (pos (suc k)) = refl
numbered_alike (negsuc k) = tt

switch_number_alike : (o : Option ℤ) → PickAlike (switch_number None o) (switch_number null_term o)
switch_number_alike (Some k) = numbered_alike k
switch_number_alike None = tt

switch_alike : (v : Value) → PickAlike (switch_pick None v) (switch_pick null_term v)
switch_alike None = tt
switch_alike (Some t) = switch_number_alike (as_number t)

routed_alike : (result : ℕ) (k : ℤ) → PickAlike (routed result k) (routed result k)
routed_alike result (pos k) = go (k == suc result)
  where
    go : (b : Bool) → PickAlike (if b then PickInput 1 else PickOff) (if b then PickInput 1 else PickOff)
    go true = refl
    go false = tt
routed_alike result (negsuc k) = tt

route_number_alike : (result : ℕ) (o : Option ℤ) → PickAlike (route_number result o) (route_number result o)
route_number_alike result (Some k) = routed_alike result k
route_number_alike result None = tt

route_alike : (result : ℕ) (v : Value) → PickAlike (route_pick result v) (route_pick result v)
route_alike result None = tt
route_alike result (Some t) = route_number_alike result (as_number t)

held_alike : (t : ValueTerm) (o : Option Object) → PickAlike (held_or (option_map (λ v. Some v) o)) (held_or (option_map (λ (v : Object). t) o))
held_alike t (Some v) = tt
held_alike t None = refl

get_alike : (w : World) (n : Names) (to_key : List ℕ → Key) (result : ℕ) (name : Option (List ℕ)) → PickAlike (get_pick (values_in w) to_key result name) (get_pick (terms_with w n) to_key result name)
get_alike w n to_key result None = tt
get_alike w n to_key zero (Some name) = held_alike (n.term (to_key name)) (w.link (to_key name))
get_alike w n to_key (suc k) (Some name) = tt

-- ---- rules

told_none : (o : Option Value) (r : Result Value Code) (code : Code) → o ≡ value_or_none r → r ≡ Err code → o ≡ None
told_none o r code e f = e ∙ ap value_or_none f

told_some : (o : Option Value) (r : Result Value Code) (v : Value) → o ≡ value_or_none r → r ≡ Ok v → o ≡ Some v
told_some o r v e f = e ∙ ap value_or_none f

-- the inputs of a call, by the meaning and by looking
pub record Inputs (a : Around) (os : List (Outcome Value)) (ts : ValueTerms) (xs : List (Scanned ValueTerm)) : Type 0 where
  pub all : Means a (together os).decided ts (all_scanned xs)
  pub at : (k : ℕ) → Means a (outcome_at os k).decided (term_at ts k) (scanned_at xs k)
  pub agrees : (k : ℕ) → Agrees (outcome_at os k).decided (denotes a (term_at ts k))

module _ (w : World) (n : Names) (s : Sight) (l : LinksDenote w n) (full : IsFull w n s) where
  abbrev a : Around
  a = around w n

  same_shelf : terms_in s ≡ terms_with w n
  same_shelf = λ i. record { null = null_term; text = λ name. ConstantTerm (const.Text name); held = λ k. full.linked k i }

  same_file : (v : Value) → written_for s v ≡ written_as w v
  same_file None = refl
  same_file (Some t) = under (text_of t)
    where
      under : (o : Option (List ℕ)) → scanned_under s o ≡ written_under w o
      under None = refl
      under (Some name) = full.written name

  -- a selector ends alike, or its value goes on
  halted_selected : (f : Function) (p : Place) (result : ℕ) (xs : List (Scanned ValueTerm)) (site : List Step) (code : Code) (x : Scanned ValueTerm) → IsHalted a site code x → IsHalted a site code (selected s f p result xs x)
  halted_selected f p result xs site code (Forms t) h = absurd h
  halted_selected f p result xs site code (Ends IsOff) h = absurd h
  halted_selected f p result xs site code (Ends (Stops place c)) h = h
  halted_selected f p result xs site code (Ends (Needs place u)) h = h

  refused_selected : (f : Function) (p : Place) (result : ℕ) (xs : List (Scanned ValueTerm)) (site : List Step) (code : Code) (t : ValueTerm) (x : Scanned ValueTerm) → x ≡ Forms t → denotes a t ≡ Err code → IsHalted a site code (selected s f p result xs x)
  refused_selected f p result xs site code t x e d = rw (e, told_none (s.told t) (denotes a t) code (full.told t) d) d

  value_selected : (f : Function) (p : Place) (result : ℕ) (xs : List (Scanned ValueTerm)) (v : Value) (t : ValueTerm) (x : Scanned ValueTerm) → x ≡ Forms t → denotes a t ≡ Ok v → selected s f p result xs x ≡ valued s f p result xs v
  value_selected f p result xs v t x e d = rw (e, told_some (s.told t) (denotes a t) v (full.told t) d) refl

  selected_means : (f : Function) (p : Place) (result : ℕ) (xs : List (Scanned ValueTerm)) (d : Decided Value) (us vs : List Use) (t : ValueTerm) (x : Scanned ValueTerm) → Agrees d (denotes a t) → Means a d t x →
      (go : Value → Outcome Value) (go_term : Value → ValueTerm) → ((v : Value) → Means a (go v).decided (go_term v) (valued s f p result xs v)) →
      Means a (after_selector (selected_with d us vs).decided (selected_with d us vs).control_uses go).decided (selected_term d go_term) (selected s f p result xs x)
  selected_means f p result xs Off us vs t x g h go go_term k = rw h refl
  selected_means f p result xs (HaltAt site code) us vs t x g h go go_term k = halted_selected f p result xs site code x h
  selected_means f p result xs (ErrAt site code) us vs t x g h go go_term k = refused_selected f p result xs site code t x h g
  selected_means f p result xs (Val v) us vs t x g h go go_term k = subst (Means a (go v).decided (go_term v)) (sym (value_selected f p result xs v t x h g)) (k v)

  -- an Import whose name is the first of these
  import_means : (p : Place) (result : ℕ) (xs : List (Scanned ValueTerm)) (d : Decided Value) (us vs : List Use) (e : Decided Values) (cu du : List Use) (t : ValueTerm) (ts : ValueTerms) (x : Scanned ValueTerm) → Agrees d (denotes a t) → Means a d t x → Means a e ts (all_scanned xs) →
      Means a (module_rule w computing.Import p.site result (decided_beside (selected_with d us vs).decided e) cu du).decided (ResultTerm result (CallOf computing.Import (with_file (AndTerm t ts) (written_by w d)))) (selected s (function.Module computing.Import) p result (x ∷ xs) x)
  import_means p result xs Off us vs e cu du t ts x g h k = rw h refl
  import_means p result xs (HaltAt site code) us vs e cu du t ts x g h k = halted_selected (function.Module computing.Import) p result (x ∷ xs) site code x h
  import_means p result xs (ErrAt site code) us vs e cu du t ts x g h k = refused_selected (function.Module computing.Import) p result (x ∷ xs) site code t x h g
  import_means p result xs (Val v) us vs e cu du t ts x g h k =
      subst (Means a (module_rule w computing.Import p.site result (decided_beside (Val v) e) cu du).decided (ResultTerm result (CallOf computing.Import (with_file (AndTerm t ts) (written_as w v)))))
      (sym (value_selected (function.Module computing.Import) p result (x ∷ xs) v t x h g ∙ ap (λ file. call_scanned computing.Import file result (all_scanned (x ∷ xs))) (same_file v)))
      (called_means w a computing.Import p result (written_as w v) (decided_beside (Val v) e) cu du (AndTerm t ts) (all_scanned (x ∷ xs)) (beside_means a (Val v) e t ts x (all_scanned xs) h k))

  picked_means : (p : Place) (os : List (Outcome Value)) (ts : ValueTerms) (xs : List (Scanned ValueTerm)) → Inputs a os ts xs → (b : Pick Value) (c : Pick ValueTerm) → PickAlike b c → Means a (picked p.site os b).decided (picked_term ts c) (picked_scanned p xs c)
  picked_means p os ts xs i (PickThis v) (PickThis t) r = refl
  picked_means p os ts xs i (PickInput k) (PickInput m) r = subst (λ j. Means a (outcome_at os k).decided (term_at ts j) (scanned_at xs j)) r (i.at k)
  picked_means p os ts xs i PickOff PickOff r = refl
  picked_means p os ts xs i PickFault PickFault r = (refl, refl)
  picked_means p os ts xs i (PickThis v) (PickInput m) r = absurd r
  picked_means p os ts xs i (PickThis v) PickOff r = absurd r
  picked_means p os ts xs i (PickThis v) PickFault r = absurd r
  picked_means p os ts xs i (PickInput k) (PickThis t) r = absurd r
  picked_means p os ts xs i (PickInput k) PickOff r = absurd r
  picked_means p os ts xs i (PickInput k) PickFault r = absurd r
  picked_means p os ts xs i PickOff (PickThis t) r = absurd r
  picked_means p os ts xs i PickOff (PickInput m) r = absurd r
  picked_means p os ts xs i PickOff PickFault r = absurd r
  picked_means p os ts xs i PickFault (PickThis t) r = absurd r
  picked_means p os ts xs i PickFault (PickInput m) r = absurd r
  picked_means p os ts xs i PickFault PickOff r = absurd r

  -- by the terms that are at hand
  shelf_means : (p : Place) (os : List (Outcome Value)) (ts : ValueTerms) (xs : List (Scanned ValueTerm)) → Inputs a os ts xs → (b : Pick Value) (c : Shelf ValueTerm → Pick ValueTerm) → PickAlike b (c (terms_with w n)) →
      Means a (picked p.site os b).decided (picked_term ts (c (terms_with w n))) (picked_scanned p xs (c (terms_in s)))
  shelf_means p os ts xs i b c r = rw same_shelf (picked_means p os ts xs i b (c (terms_with w n)) r)

  picking_means : (f : Function) (p : Place) (result : ℕ) (os : List (Outcome Value)) (ts : ValueTerms) (xs : List (Scanned ValueTerm)) → Inputs a os ts xs →
      ((v : Value) → Means a (picked p.site os (pick (values_in w) f p result v)).decided (picked_term ts (pick (terms_with w n) f p result v)) (valued s f p result xs v)) →
      Means a (selector_rule w f p result os).decided (selector_term w n f p result os ts) (selector_scanned s f p result xs)
  picking_means f p result os ts xs i h =
      let o = outcome_at os (selector_at f) in
      selected_means f p result xs o.decided o.control_uses o.data_uses (term_at ts (selector_at f)) (scanned_at xs (selector_at f)) (i.agrees (selector_at f)) (i.at (selector_at f))
      (λ v. picked p.site os (pick (values_in w) f p result v)) (λ v. picked_term ts (pick (terms_with w n) f p result v)) h

  effect_means : (e : Effect) (os : List (Outcome Value)) (ts : ValueTerms) (xs : List (Scanned ValueTerm)) → Inputs a os ts xs → Means a (effect_rule e os).decided (effect_term e ts) (effect_scanned e xs)
  effect_means effect.SetLocal os ts xs i = i.at 1
  effect_means effect.SetGlobal os ts xs i = i.at 1
  effect_means effect.Print os ts xs i = refl
  effect_means effect.Echo os ts xs i = refl
  effect_means effect.Export os ts xs i = refl

  plain_means : (m : Module) (p : Place) (result : ℕ) (os : List (Outcome Value)) (ts : ValueTerms) (xs : List (Scanned ValueTerm)) → Inputs a os ts xs →
      Means a (module_outcome w m p.site result (together os)).decided (ResultTerm result (CallOf m (with_file ts None))) (call_scanned m None result (all_scanned xs))
  plain_means m p result os ts xs i = called_means w a m p result None (together os).decided (together os).control_uses (together os).data_uses ts (all_scanned xs) i.all

  -- all but an Import, whose inputs are taken apart
  module_means : (m : Module) (p : Place) (result : ℕ) (os : List (Outcome Value)) (ts : ValueTerms) (xs : List (Scanned ValueTerm)) → Inputs a os ts xs →
      Means a (module_outcome w computing.Import p.site result (together (arguments computing.Import os))).decided (ResultTerm result (CallOf computing.Import (with_file ts (own_file_of w computing.Import os)))) (module_scanned s computing.Import p result xs) →
      Means a (module_outcome w m p.site result (together (arguments m os))).decided (ResultTerm result (CallOf m (with_file ts (own_file_of w m os)))) (module_scanned s m p result xs)
  module_means computing.Import p result os ts xs i h = h
  module_means computing.Select p result os ts xs i h = plain_means computing.Select p result os ts xs i
  module_means computing.Extract p result os ts xs i h = plain_means computing.Extract p result os ts xs i
  module_means computing.Replace p result os ts xs i h = plain_means computing.Replace p result os ts xs i
  module_means computing.Mark p result os ts xs i h = plain_means computing.Mark p result os ts xs i
  module_means computing.Unmark p result os ts xs i h = plain_means computing.Unmark p result os ts xs i
  module_means computing.Slab p result os ts xs i h = plain_means computing.Slab p result os ts xs i
  module_means computing.Compute p result os ts xs i h = plain_means computing.Compute p result os ts xs i
  module_means computing.Statistics p result os ts xs i h = plain_means computing.Statistics p result os ts xs i
  module_means computing.Histogram p result os ts xs i h = plain_means computing.Histogram p result os ts xs i
  module_means computing.Collect p result os ts xs i h = plain_means computing.Collect p result os ts xs i
  module_means computing.CollectNamed p result os ts xs i h = plain_means computing.CollectNamed p result os ts xs i
  module_means computing.CollectSeries p result os ts xs i h = plain_means computing.CollectSeries p result os ts xs i
  module_means computing.Inquire p result os ts xs i h = plain_means computing.Inquire p result os ts xs i

  rule_means : (f : Function) (p : Place) (result : ℕ) (os : List (Outcome Value)) (ts : ValueTerms) (xs : List (Scanned ValueTerm)) → Inputs a os ts xs →
      Means a (module_outcome w computing.Import p.site result (together (arguments computing.Import os))).decided (ResultTerm result (CallOf computing.Import (with_file ts (own_file_of w computing.Import os)))) (module_scanned s computing.Import p result xs) →
      Means a (by_rule w f p result os).decided (term_rule w n f p result os ts) (rule_scanned s f p result xs)
  rule_means (function.Module m) p result os ts xs i h = module_means m p result os ts xs i h
  rule_means (function.Effect e) p result os ts xs i h = effect_means e os ts xs i
  rule_means function.Switch p result os ts xs i h = picking_means function.Switch p result os ts xs i (λ v. shelf_means p os ts xs i (pick (values_in w) function.Switch p result v) (λ shelf. pick shelf function.Switch p result v) (switch_alike v))
  rule_means function.Route p result os ts xs i h = picking_means function.Route p result os ts xs i (λ v. shelf_means p os ts xs i (pick (values_in w) function.Route p result v) (λ shelf. pick shelf function.Route p result v) (route_alike result v))
  rule_means function.GetLocal p result os ts xs i h = picking_means function.GetLocal p result os ts xs i (λ v. shelf_means p os ts xs i (pick (values_in w) function.GetLocal p result v) (λ shelf. pick shelf function.GetLocal p result v) (get_alike w n (key_in p) result (link_name p v)))
  rule_means function.GetGlobal p result os ts xs i h = picking_means function.GetGlobal p result os ts xs i (λ v. shelf_means p os ts xs i (pick (values_in w) function.GetGlobal p result v) (λ shelf. pick shelf function.GetGlobal p result v) (get_alike w n key.Global result (link_name p v)))

  -- an Import with no name
  no_name : (p : Place) (result : ℕ) → Means a (module_outcome w computing.Import p.site result (together [])).decided (ResultTerm result (CallOf computing.Import NoTerm)) (module_scanned s computing.Import p result [])
  no_name p result =
      subst (Means a (module_outcome w computing.Import p.site result (together [])).decided (ResultTerm result (CallOf computing.Import NoTerm)))
      (sym (value_selected (function.Module computing.Import) p result [] None null_term (Forms null_term) refl refl))
      (called_means w a computing.Import p result None (Val []) [] [] NoTerm (Forms NoTerm) refl)

  -- ---- trees

  mutual
    pub tree_means : (t : Tree) → Means a (outcome w t).decided (term_of w n t) (scan s t)
    tree_means (ConstantTree c) = refl
    tree_means (ResultTree result (TreeCall f p args)) =
        rule_means f p result (outcomes w args) (terms_of w n args) (scan_each s args) (record { all = all_means args; at = at_means args; agrees = at_agrees args }) (name_means p result args)

    pub all_means : (ts : Trees) → Means a (together (outcomes w ts)).decided (terms_of w n ts) (all_scanned (scan_each s ts))
    all_means NoTree = refl
    all_means (AndTree t ts) = beside_means a (outcome w t).decided (together (outcomes w ts)).decided (term_of w n t) (terms_of w n ts) (scan s t) (all_scanned (scan_each s ts)) (tree_means t) (all_means ts)

    at_means : (ts : Trees) → (k : ℕ) → Means a (outcome_at (outcomes w ts) k).decided (term_at (terms_of w n ts) k) (scanned_at (scan_each s ts) k)
    at_means NoTree k = refl
    at_means (AndTree t ts) zero = tree_means t
    at_means (AndTree t ts) (suc k) = at_means ts k

    at_agrees : (ts : Trees) → (k : ℕ) → Agrees (outcome_at (outcomes w ts) k).decided (denotes a (term_at (terms_of w n ts) k))
    at_agrees NoTree k = refl
    at_agrees (AndTree t ts) zero = (tree_right w n l t).0
    at_agrees (AndTree t ts) (suc k) = at_agrees ts k

    name_means : (p : Place) (result : ℕ) (ts : Trees) → Means a (module_outcome w computing.Import p.site result (together (arguments computing.Import (outcomes w ts)))).decided (ResultTerm result (CallOf computing.Import (with_file (terms_of w n ts) (own_file_of w computing.Import (outcomes w ts))))) (module_scanned s computing.Import p result (scan_each s ts))
    name_means p result NoTree = no_name p result
    name_means p result (AndTree t ts) =
        let o = outcome w t in
        let all = together (with_name (outcomes w (AndTree t ts))) in
        import_means p result (scan_each s ts) o.decided o.control_uses o.data_uses (together (outcomes w ts)).decided all.control_uses all.data_uses (term_of w n t) (terms_of w n ts) (scan s t) (tree_right w n l t).0 (tree_means t) (all_means ts)

  -- ---- an effect

  besides_agree : (d : Decided Value) (e : Decided Values) (x : Result Value Code) (y : Answer) → Agrees d x → Agrees e y → Agrees (decided_beside d e) (denoted_beside x y)
  besides_agree Off e x y p q = tt
  besides_agree (HaltAt u c) e x y p q = tt
  besides_agree (ErrAt u c) Off x y p q = tt
  besides_agree (ErrAt u c) (HaltAt u' c') x y p q = tt
  besides_agree (ErrAt u c) (ErrAt u' c') x y p q = rw p refl
  besides_agree (ErrAt u c) (Val vs) x y p q = rw p refl
  besides_agree (Val v) Off x y p q = tt
  besides_agree (Val v) (HaltAt u c) x y p q = tt
  besides_agree (Val v) (ErrAt u c) x y p q = rw (p, q) refl
  besides_agree (Val v) (Val vs) x y p q = rw (p, q) refl

  pub no_file_first : (t : ValueTerm) (ts : ValueTerms) → is_file_term t ≡ false → all_denote a (AndTerm t ts) ≡ denoted_beside (denotes a t) (all_denote a ts)
  no_file_first (ConstantTerm c) ts e = refl
  no_file_first (HeldTerm k) ts e = refl
  no_file_first (ResultTerm r c) ts e = refl
  no_file_first (FileTerm b) ts e = cc

  pub all_agree : (ts : Trees) → Agrees (together (outcomes w ts)).decided (all_denote a (terms_of w n ts))
  all_agree NoTree = refl
  all_agree (AndTree t ts) =
      subst (Agrees (decided_beside (outcome w t).decided (together (outcomes w ts)).decided)) (sym (no_file_first (term_of w n t) (terms_of w n ts) (tree_right w n l t).1))
      (besides_agree (outcome w t).decided (together (outcomes w ts)).decided (denotes a (term_of w n t)) (all_denote a (terms_of w n ts)) (tree_right w n l t).0 (all_agree ts))

  halted_came : (site : List Step) (code : Code) (x : Scanned ValueTerms) → IsHalted a site code x → came a x ≡ IsRefused
  halted_came site code (Forms ts) h = absurd h
  halted_came site code (Ends IsOff) h = absurd h
  halted_came site code (Ends (Stops place c)) h = refl
  halted_came site code (Ends (Needs place t)) h = refl

  came_so : (d : Decided Values) (ts : ValueTerms) (x : Scanned ValueTerms) → Agrees d (all_denote a ts) → Means a d ts x → CameSo d ts (came a x)
  came_so (Val vs) ts x g h = ap (came a) h ∙ ap (with_values ts) g
  came_so (ErrAt site code) ts x g h = ap (came a) h ∙ ap (with_values ts) g
  came_so Off ts x g h = ap (came a) h
  came_so (HaltAt site code) ts x g h = halted_came site code x h

  pub effect_comes : (args : Trees) → CameSo (together (outcomes w args)).decided (terms_of w n args) (came a (all_scanned (scan_each s args)))
  effect_comes args = came_so (together (outcomes w args)).decided (terms_of w n args) (all_scanned (scan_each s args)) (all_agree args) (all_means args)

pub scans_are_meant : ScansAreMeant
scans_are_meant w n s l full t = tree_means w n s l full t

pub effects_come_so : EffectsComeSo
effects_come_so w n s l full args = effect_comes w n s l full args
