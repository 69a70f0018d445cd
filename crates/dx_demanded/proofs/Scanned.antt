-- What looking forms: each call has what was put under the name that it reads, and so have those of the selectors that looking meets.
use Rattle.std.proofs.Common.{◌≡◌, ℕ, zero, suc, ℤ, pos, negsuc, List, [], ◌∷◌, ◌++◌, Option, Some, None, Bool, true, false, refl, sym, ap, ◌∙◌, subst, true≢false}
use Rattle.std.specs.Prelude.{Result, Ok, Err, if◌then◌else◌, ◌==◌}
use Rattle.dx_base.specs.Object as object
use Rattle.dx_base.specs.ObjectNumbers.{as_number}
use Rattle.dx_base.specs.declared.function.Function.{Function}
use Rattle.dx_base.specs.declared.function.Function.TheVariants as function
use Rattle.dx_base.specs.declared.function.Module.{Module}
use Rattle.dx_base.specs.declared.function.Module.TheVariants as computing
use Rattle.dx_base.specs.declared.function.Effect.{Effect}
use Rattle.dx_base.specs.declared.function.Effect.TheVariants as effect
use Rattle.dx_macros.specs.Tree.{Place, Tree, ConstantTree, ResultTree, TreeCall, Trees, NoTree, AndTree}
use Rattle.dx_objects.specs.Runs.{Values, Answer}
use Rattle.dx_links.specs.declared.key.Key.{Key}
use Rattle.dx_links.specs.declared.key.Key.TheVariants as key
use Rattle.dx_links.specs.Denotes.{Around, own_file, denotes, denoted_beside, all_denote}
use Rattle.dx_links.specs.Getting.{has_value}
use Rattle.dx_tags.specs.Closed.{ValueTerm, ConstantTerm, HeldTerm, ResultTerm, FileTerm, ValueTerms, NoTerm, AndTerm}
use Rattle.dx_tags.specs.Files.{FileMap, content_of}
use Rattle.dx_machine.specs.Machine.{name_read}
use Rattle.dx_meaning.specs.Outcome.{Value}
use Rattle.dx_meaning.specs.Picking.{Pick, PickThis, PickInput, PickOff, PickFault, numbered, switch_number, switch_pick, routed, route_number, route_pick, link_name, held_or, get_pick, key_in, pick, selector_at}
use Rattle.dx_meaning.specs.Scan.{Sight, Scanned, Forms, Ends, scanned_beside, all_scanned, null_term, scanned_at, with_file, call_scanned, written_for, picked_scanned, terms_in, valued, told_scanned, selected, selector_scanned, effect_scanned, module_scanned, rule_scanned, scan, scan_each}
use Rattle.dx_meaning.proofs.Terms.{is_file_term}
use Rattle.dx_performing.specs.Course.{as_terms}
use Rattle.dx_performing.specs.Selectors.{selectors_at, selectors_beside, all_selectors, rest_selectors, told_selectors, got_selectors, selector_first, picked_selectors, picking_selectors, module_selectors, effect_selectors, rule_selectors, selectors, selectors_each, selectors_all}
use Rattle.dx_demanded.specs.Reads.{put_under}
use Rattle.dx_demanded.proofs.Owned.{Owns, AllOwn}

-- ---- files behind arguments

no_file_denotes : (a : Around) (t : ValueTerm) (ts : ValueTerms) → is_file_term t ≡ false → all_denote a (AndTerm t ts) ≡ denoted_beside (denotes a t) (all_denote a ts)
no_file_denotes a (ConstantTerm c) ts e = refl
no_file_denotes a (HeldTerm n) ts e = refl
no_file_denotes a (ResultTerm r c) ts e = refl
no_file_denotes a (FileTerm b) ts e = cc

no_file_own : (t : ValueTerm) (ts : ValueTerms) → is_file_term t ≡ false → own_file (AndTerm t ts) ≡ own_file ts
no_file_own (ConstantTerm c) ts e = refl
no_file_own (HeldTerm n) ts e = refl
no_file_own (ResultTerm r c) ts e = refl
no_file_own (FileTerm b) ts e = cc

-- a term of a link is never got
link_owns : (a : Around) (links : List ValueTerm) (written : FileMap) (t : ValueTerm) → has_value links t ≡ true → Owns a links written t
link_owns a links written (ConstantTerm c) h = tt
link_owns a links written (HeldTerm n) h = tt
link_owns a links written (FileTerm bytes) h = tt
link_owns a links written (ResultTerm r c) h = λ no. absurd (true≢false (sym h ∙ no))

-- what is seen of links are their terms, which are no files; what was put is seen; and what is told is denoted
pub record Sees (a : Around) (links : List ValueTerm) (written : FileMap) (s : Sight) : Type 0 where
  pub linked : (key : Key) (t : ValueTerm) → s.linked key ≡ Some t → (is_file_term t ≡ false) × (has_value links t ≡ true)
  pub put : (name : List ℕ) → s.written name ≡ content_of name written
  pub told : (t : ValueTerm) (v : Value) → s.told t ≡ Some v → denotes a t ≡ Ok v

module _ (a : Around) (links : List ValueTerm) (written : FileMap) where
  -- no file, and each call within has what was put
  abbrev IsFine : ValueTerm → Type 0
  IsFine t = (is_file_term t ≡ false) × Owns a links written t

  abbrev AreFine : ValueTerms → Type 0
  AreFine NoTerm = Unit {0}
  AreFine (AndTerm t ts) = IsFine t × AreFine ts

  abbrev FormsFine : Scanned ValueTerm → Type 0
  FormsFine (Forms t) = IsFine t
  FormsFine (Ends e) = Unit {0}

  abbrev AllFormFine : Scanned ValueTerms → Type 0
  AllFormFine (Forms ts) = AreFine ts
  AllFormFine (Ends e) = Unit {0}

  abbrev EachFormsFine : List (Scanned ValueTerm) → Type 0
  EachFormsFine [] = Unit {0}
  EachFormsFine (x ∷ xs) = FormsFine x × EachFormsFine xs

  abbrev PicksFine : Pick ValueTerm → Type 0
  PicksFine (PickThis t) = IsFine t
  PicksFine (PickInput n) = Unit {0}
  PicksFine PickOff = Unit {0}
  PicksFine PickFault = Unit {0}

  -- ---- arguments

  fine_own : (ts : ValueTerms) → AreFine ts → AllOwn a links written ts
  fine_own NoTerm h = tt
  fine_own (AndTerm t ts) h = (h.0.1, fine_own ts h.1)

  own_behind : (ts : ValueTerms) (file : Option (List ℕ)) → AreFine ts → own_file (with_file ts file) ≡ file
  own_behind NoTerm None h = refl
  own_behind NoTerm (Some b) h = refl
  own_behind (AndTerm t ts) file h = no_file_own t (with_file ts file) h.0.0 ∙ own_behind ts file h.1

  denoted_before : (ts : ValueTerms) (file : Option (List ℕ)) → AreFine ts → all_denote a (with_file ts file) ≡ all_denote a ts
  denoted_before NoTerm None h = refl
  denoted_before NoTerm (Some b) h = refl
  denoted_before (AndTerm t ts) file h =
      no_file_denotes a t (with_file ts file) h.0.0
      ∙ ap (denoted_beside (denotes a t)) (denoted_before ts file h.1)
      ∙ sym (no_file_denotes a t ts h.0.0)

  own_with_file : (ts : ValueTerms) (file : Option (List ℕ)) → AreFine ts → AllOwn a links written (with_file ts file)
  own_with_file NoTerm None h = tt
  own_with_file NoTerm (Some b) h = (tt, tt)
  own_with_file (AndTerm t ts) file h = (h.0.1, own_with_file ts file h.1)

  beside_fine : (x : Scanned ValueTerm) (r : Scanned ValueTerms) → FormsFine x → AllFormFine r → AllFormFine (scanned_beside x r)
  beside_fine (Ends e) r p q = tt
  beside_fine (Forms t) (Ends e) p q = tt
  beside_fine (Forms t) (Forms ts) p q = (p, q)

  all_fine : (xs : List (Scanned ValueTerm)) → EachFormsFine xs → AllFormFine (all_scanned xs)
  all_fine [] h = tt
  all_fine (x ∷ xs) h = beside_fine x (all_scanned xs) h.0 (all_fine xs h.1)

  at_fine : (xs : List (Scanned ValueTerm)) (n : ℕ) → EachFormsFine xs → FormsFine (scanned_at xs n)
  at_fine [] n h = (refl, tt)
  at_fine (x ∷ xs) zero h = h.0
  at_fine (x ∷ xs) (suc n) h = at_fine xs n h.1

  -- ---- a call of a module

  -- with a file that is what was put, whatever its arguments denote
  call_fine : (m : Module) (file : Option (List ℕ)) (result : ℕ) (r : Scanned ValueTerms) → AllFormFine r
      → ((ts : ValueTerms) (values : Values) → r ≡ Forms ts → all_denote a ts ≡ Ok values → file ≡ put_under written (name_read m values)) → FormsFine (call_scanned m file result r)
  call_fine m file result (Ends e) h f = tt
  call_fine m file result (Forms ts) h f =
      (refl, λ no. (λ values e. own_behind ts file h ∙ f ts values refl (sym (denoted_before ts file h) ∙ e), own_with_file ts file h))

  -- ---- what is picked

  module _ (s : Sight) (sees : Sees a links written s) where
    numbered_fine : (k : ℤ) → PicksFine (numbered null_term k)
    numbered_fine (pos zero) = (refl, tt)
    numbered_fine (pos (suc k)) = tt
    numbered_fine (negsuc k) = (refl, tt)

    switch_number_fine : (o : Option ℤ) → PicksFine (switch_number null_term o)
    switch_number_fine (Some k) = numbered_fine k
    switch_number_fine None = tt

    switch_fine : (v : Value) → PicksFine (switch_pick null_term v)
    switch_fine None = (refl, tt)
    switch_fine (Some t) = switch_number_fine (as_number t)

    routed_fine : (result : ℕ) (k : ℤ) → PicksFine (routed result k)
    routed_fine result (pos k) = go (k == suc result)
      where
        go : (b : Bool) → PicksFine (if b then PickInput 1 else PickOff)
        go true = tt
        go false = tt
    routed_fine result (negsuc k) = tt

    route_number_fine : (result : ℕ) (o : Option ℤ) → PicksFine (route_number result o)
    route_number_fine result (Some k) = routed_fine result k
    route_number_fine result None = tt

    route_fine : (result : ℕ) (v : Value) → PicksFine (route_pick result v)
    route_fine result None = tt
    route_fine result (Some t) = route_number_fine result (as_number t)

    held_fine : (name : Key) (o : Option ValueTerm) → s.linked name ≡ o → PicksFine (held_or o)
    held_fine name (Some t) e = let l = sees.linked name t e in (l.0, link_owns a links written t l.1)
    held_fine name None e = tt

    get_fine : (to_key : List ℕ → Key) (result : ℕ) (name : Option (List ℕ)) → PicksFine (get_pick (terms_in s) to_key result name)
    get_fine to_key result None = tt
    get_fine to_key zero (Some name) = held_fine (to_key name) (s.linked (to_key name)) refl
    get_fine to_key (suc n) (Some name) = (refl, tt)

    picked_fine : (p : Place) (xs : List (Scanned ValueTerm)) → EachFormsFine xs → (k : Pick ValueTerm) → PicksFine k → FormsFine (picked_scanned p xs k)
    picked_fine p xs h (PickThis t) f = f
    picked_fine p xs h (PickInput n) f = at_fine xs n h
    picked_fine p xs h PickOff f = tt
    picked_fine p xs h PickFault f = tt

    -- ---- a call that looks at a selector

    told_fine : (f : Function) (p : Place) (result : ℕ) (xs : List (Scanned ValueTerm)) (t : ValueTerm) → ((v : Value) → denotes a t ≡ Ok v → FormsFine (valued s f p result xs v)) → (o : Option Value) → s.told t ≡ o → FormsFine (told_scanned s f p result xs t o)
    told_fine f p result xs t h (Some v) e = h v (sees.told t v e)
    told_fine f p result xs t h None e = tt

    selected_fine : (f : Function) (p : Place) (result : ℕ) (xs : List (Scanned ValueTerm)) (x : Scanned ValueTerm) → ((t : ValueTerm) (v : Value) → x ≡ Forms t → denotes a t ≡ Ok v → FormsFine (valued s f p result xs v)) → FormsFine (selected s f p result xs x)
    selected_fine f p result xs (Forms t) h = told_fine f p result xs t (λ v. h t v refl) (s.told t) refl
    selected_fine f p result xs (Ends e) h = tt

    selector_fine : (f : Function) (p : Place) (result : ℕ) (xs : List (Scanned ValueTerm)) → ((v : Value) → FormsFine (valued s f p result xs v)) → FormsFine (selector_scanned s f p result xs)
    selector_fine f p result xs h = selected_fine f p result xs (scanned_at xs (selector_at f)) (λ t v e d. h v)

    -- ---- an Import

    -- what is seen under the name that a value is
    first_named : (v : Value) (vs : Values) → written_for s v ≡ put_under written (name_read computing.Import (v ∷ vs))
    first_named None vs = refl
    first_named (Some (object.array d xs)) vs = refl
    first_named (Some (object.text name xs)) vs = sees.put name
    first_named (Some (object.field ps xs)) vs = refl
    first_named (Some (object.group ps xs)) vs = refl
    first_named (Some (object.composite ps xs)) vs = refl
    first_named (Some (object.series ps xs)) vs = refl

    beside_named : (v : Value) (r : Answer) (values : Values) → denoted_beside (Ok v) r ≡ Ok values → written_for s v ≡ put_under written (name_read computing.Import values)
    beside_named v (Err code) values e = cc
    beside_named v (Ok vs) values e = let same : v ∷ vs ≡ values = cc in subst (λ ws. written_for s v ≡ put_under written (name_read computing.Import ws)) same (first_named v vs)

    -- the first of its inputs is the name
    import_named : (xs : List (Scanned ValueTerm)) → EachFormsFine xs → (t : ValueTerm) (v : Value) → scanned_at xs 0 ≡ Forms t → denotes a t ≡ Ok v → (ts : ValueTerms) (values : Values) → all_scanned xs ≡ Forms ts → all_denote a ts ≡ Ok values →
        written_for s v ≡ put_under written (name_read computing.Import values)
    import_named [] h t v e d ts values f g =
        let none : null_term ≡ t = cc in
        let empty : NoTerm ≡ ts = cc in
        let denoted : denotes a null_term ≡ Ok v = ap (denotes a) none ∙ d in
        let all : all_denote a NoTerm ≡ Ok values = ap (all_denote a) empty ∙ g in
        let value : None ≡ v = cc in
        let values_none : [] ≡ values = cc in
        subst (λ (w : Value). written_for s w ≡ put_under written (name_read computing.Import values)) value
        (subst (λ (ws : Values). None ≡ put_under written (name_read computing.Import ws)) values_none refl)
    import_named (Ends x ∷ xs) h t v e d ts values f g = cc
    import_named (Forms u ∷ xs) h t v e d ts values f g = by (all_scanned xs) f
      where
        by : (r : Scanned ValueTerms) → scanned_beside (Forms u) r ≡ Forms ts → written_for s v ≡ put_under written (name_read computing.Import values)
        by (Ends x) q = cc
        by (Forms us) q =
            let first : u ≡ t = cc in
            let whole : AndTerm u us ≡ ts = cc in
            let denoted : denotes a u ≡ Ok v = ap (denotes a) first ∙ d in
            beside_named v (all_denote a us) values
            (ap (λ (r : Result Value _). denoted_beside r (all_denote a us)) (sym denoted) ∙ sym (no_file_denotes a u us h.0.0) ∙ ap (all_denote a) whole ∙ g)

    import_fine : (p : Place) (result : ℕ) (xs : List (Scanned ValueTerm)) → EachFormsFine xs → FormsFine (selector_scanned s (function.Module computing.Import) p result xs)
    import_fine p result xs h =
        selected_fine (function.Module computing.Import) p result xs (scanned_at xs 0)
        (λ t v e d. call_fine computing.Import (written_for s v) result (all_scanned xs) (all_fine xs h) (import_named xs h t v e d))

    -- ---- rules

    module _ (xs : List (Scanned ValueTerm)) (h : EachFormsFine xs) where
      module_fine : (m : Module) (p : Place) (result : ℕ) → FormsFine (module_scanned s m p result xs)
      module_fine computing.Import p result = import_fine p result xs h
      module_fine m p result = call_fine m None result (all_scanned xs) (all_fine xs h) (λ ts values e d. refl)

      effect_fine : (e : Effect) → FormsFine (effect_scanned e xs)
      effect_fine effect.SetLocal = at_fine xs 1 h
      effect_fine effect.SetGlobal = at_fine xs 1 h
      effect_fine effect.Print = (refl, tt)
      effect_fine effect.Echo = (refl, tt)
      effect_fine effect.Export = (refl, tt)

      rule_fine : (f : Function) (p : Place) (result : ℕ) → FormsFine (rule_scanned s f p result xs)
      rule_fine (function.Module m) p result = module_fine m p result
      rule_fine (function.Effect e) p result = effect_fine e
      rule_fine function.Switch p result = selector_fine function.Switch p result xs (λ v. picked_fine p xs h (pick (terms_in s) function.Switch p result v) (switch_fine v))
      rule_fine function.Route p result = selector_fine function.Route p result xs (λ v. picked_fine p xs h (pick (terms_in s) function.Route p result v) (route_fine result v))
      rule_fine function.GetLocal p result = selector_fine function.GetLocal p result xs (λ v. picked_fine p xs h (pick (terms_in s) function.GetLocal p result v) (get_fine (key_in p) result (link_name p v)))
      rule_fine function.GetGlobal p result = selector_fine function.GetGlobal p result xs (λ v. picked_fine p xs h (pick (terms_in s) function.GetGlobal p result v) (get_fine key.Global result (link_name p v)))

    mutual
      pub scan_fine : (t : Tree) → FormsFine (scan s t)
      scan_fine (ConstantTree c) = (refl, tt)
      scan_fine (ResultTree result (TreeCall f p args)) = rule_fine (scan_each s args) (each_fine args) f p result

      pub each_fine : (ts : Trees) → EachFormsFine (scan_each s ts)
      each_fine NoTree = tt
      each_fine (AndTree t ts) = (scan_fine t, each_fine ts)

    -- ---- the arguments of an effect

    pub arguments_own : (args : Trees) (ts : ValueTerms) → all_scanned (scan_each s args) ≡ Forms ts → AllOwn a links written ts
    arguments_own args ts e = by (all_scanned (scan_each s args)) e (all_fine (scan_each s args) (each_fine args))
      where
        by : (r : Scanned ValueTerms) → r ≡ Forms ts → AllFormFine r → AllOwn a links written ts
        by (Ends x) q f = cc
        by (Forms us) q f = let same : us ≡ ts = cc in subst (AllOwn a links written) same (fine_own us f)

    -- ---- selectors

    abbrev ListOwns : List ValueTerm → Type 0
    ListOwns [] = Unit {0}
    ListOwns (t ∷ ts) = Owns a links written t × ListOwns ts

    abbrev ListsOwn : List (List ValueTerm) → Type 0
    ListsOwn [] = Unit {0}
    ListsOwn (ts ∷ each) = ListOwns ts × ListsOwn each

    list_append : (ts us : List ValueTerm) → ListOwns ts → ListOwns us → ListOwns (ts ++ us)
    list_append [] us p q = q
    list_append (t ∷ ts) us p q = (p.0, list_append ts us p.1 q)

    list_at : (each : List (List ValueTerm)) (n : ℕ) → ListsOwn each → ListOwns (selectors_at each n)
    list_at [] n h = tt
    list_at (ts ∷ each) zero h = h.0
    list_at (ts ∷ each) (suc n) h = list_at each n h.1

    list_beside : (x : Scanned ValueTerm) (ts us : List ValueTerm) → ListOwns ts → ListOwns us → ListOwns (selectors_beside x ts us)
    list_beside (Forms t) ts us p q = list_append ts us p q
    list_beside (Ends e) ts us p q = p

    list_all : (xs : List (Scanned ValueTerm)) (each : List (List ValueTerm)) → ListsOwn each → ListOwns (all_selectors xs each)
    list_all [] each h = tt
    list_all (x ∷ xs) [] h = tt
    list_all (x ∷ xs) (ts ∷ each) h = list_beside x ts (all_selectors xs each) h.0 (list_all xs each h.1)

    list_rest : (xs : List (Scanned ValueTerm)) (each : List (List ValueTerm)) → ListsOwn each → ListOwns (rest_selectors xs each)
    list_rest [] each h = tt
    list_rest (x ∷ xs) [] h = tt
    list_rest (x ∷ xs) (ts ∷ each) h = list_all xs each h.1

    list_told : (o : Option Value) (go : Value → List ValueTerm) → ((v : Value) → ListOwns (go v)) → ListOwns (told_selectors o go)
    list_told (Some v) go f = f v
    list_told None go f = tt

    list_got : (x : Scanned ValueTerm) (go : Value → List ValueTerm) → FormsFine x → ((v : Value) → ListOwns (go v)) → ListOwns (got_selectors s x go)
    list_got (Forms t) go h f = (h.1, list_told (s.told t) go f)
    list_got (Ends e) go h f = tt

    list_picked : (each : List (List ValueTerm)) → ListsOwn each → (k : Pick ValueTerm) → ListOwns (picked_selectors each k)
    list_picked each h (PickThis t) = tt
    list_picked each h (PickInput n) = list_at each n h
    list_picked each h PickOff = tt
    list_picked each h PickFault = tt

    module _ (xs : List (Scanned ValueTerm)) (each : List (List ValueTerm)) (x : EachFormsFine xs) (h : ListsOwn each) where
      list_first : (f : Function) (go : Value → List ValueTerm) → ((v : Value) → ListOwns (go v)) → ListOwns (selector_first s f xs each go)
      list_first f go k = list_append (selectors_at each (selector_at f)) (got_selectors s (scanned_at xs (selector_at f)) go) (list_at each (selector_at f) h) (list_got (scanned_at xs (selector_at f)) go (at_fine xs (selector_at f) x) k)

      list_module : (m : Module) → ListOwns (module_selectors s m xs each)
      list_module computing.Import = list_first (function.Module computing.Import) (λ v. rest_selectors xs each) (λ v. list_rest xs each h)
      list_module m = list_all xs each h

      list_effect : (e : Effect) → ListOwns (effect_selectors e each)
      list_effect effect.SetLocal = list_at each 1 h
      list_effect effect.SetGlobal = list_at each 1 h
      list_effect effect.Print = tt
      list_effect effect.Echo = tt
      list_effect effect.Export = tt

      list_picking : (f : Function) (p : Place) (result : ℕ) → ListOwns (picking_selectors s f p result xs each)
      list_picking f p result = list_first f (λ v. picked_selectors each (pick (terms_in s) f p result v)) (λ v. list_picked each h (pick (terms_in s) f p result v))

      list_rule : (f : Function) (p : Place) (result : ℕ) → ListOwns (rule_selectors s f p result xs each)
      list_rule (function.Module m) p result = list_module m
      list_rule (function.Effect e) p result = list_effect e
      list_rule function.Switch p result = list_picking function.Switch p result
      list_rule function.Route p result = list_picking function.Route p result
      list_rule function.GetLocal p result = list_picking function.GetLocal p result
      list_rule function.GetGlobal p result = list_picking function.GetGlobal p result

    mutual
      list_tree : (t : Tree) → ListOwns (selectors s t)
      list_tree (ConstantTree c) = tt
      list_tree (ResultTree result (TreeCall f p args)) = list_rule (scan_each s args) (selectors_each s args) (each_fine args) (list_trees args) f p result

      list_trees : (ts : Trees) → ListsOwn (selectors_each s ts)
      list_trees NoTree = tt
      list_trees (AndTree t ts) = (list_tree t, list_trees ts)

    as_terms_own : (ts : List ValueTerm) → ListOwns ts → AllOwn a links written (as_terms ts)
    as_terms_own [] h = tt
    as_terms_own (t ∷ ts) h = (h.0, as_terms_own ts h.1)

    pub selectors_own : (args : Trees) → AllOwn a links written (as_terms (selectors_all s args))
    selectors_own args = as_terms_own (selectors_all s args) (list_all (scan_each s args) (selectors_each s args) (list_trees args))
