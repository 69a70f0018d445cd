-- The selectors that looking meets by what is told are the first that it meets by more.
use Rattle.std.proofs.Common.{◌≡◌, ℕ, zero, suc, List, [], ◌∷◌, ◌++◌, Option, Some, None, refl, sym, ap, ap₂, ◌∙◌, append_assoc, append-nil}
use Rattle.dx_base.specs.declared.function.Function.{Function}
use Rattle.dx_base.specs.declared.function.Function.TheVariants as function
use Rattle.dx_base.specs.declared.function.Module.{Module}
use Rattle.dx_base.specs.declared.function.Module.TheVariants as computing
use Rattle.dx_base.specs.declared.function.Effect.{Effect}
use Rattle.dx_base.specs.declared.function.Effect.TheVariants as effect
use Rattle.dx_macros.specs.Tree.{Place, Tree, ConstantTree, ResultTree, TreeCall, Trees, NoTree, AndTree}
use Rattle.dx_tags.specs.Closed.{ValueTerm, ValueTerms}
use Rattle.dx_meaning.specs.Outcome.{Value}
use Rattle.dx_meaning.specs.Picking.{Pick, PickThis, PickInput, PickOff, PickFault, pick, selector_at}
use Rattle.dx_meaning.specs.Scan.{Sight, IsOff, Stops, Needs, Scanned, Forms, Ends, scanned_beside, all_scanned, scanned_at, call_scanned, written_for, picked_scanned, terms_in, valued, told_scanned, selected, selector_scanned, effect_scanned, module_scanned, rule_scanned, scan, scan_each}
use Rattle.dx_meaning.specs.More.{More, Keeps}
use Rattle.dx_meaning.proofs.Keeping.{EachKeeps, scan_keeps, each_keeps, at_keeps, same_terms}
use Rattle.dx_performing.specs.Selectors.{selectors_at, selectors_beside, all_selectors, rest_selectors, told_selectors, got_selectors, selector_first, picked_selectors, picking_selectors, module_selectors, effect_selectors, rule_selectors, selectors, selectors_each, selectors_all}
use Rattle.dx_performing.specs.Resuming.{AreTold, IsBegun, GoesOn}

-- ---- lists of selectors

told-append : (s : Sight) (a b : List ValueTerm) → AreTold s a → AreTold s b → AreTold s (a ++ b)
told-append s [] b p q = q
told-append s (t ∷ a) b p q = (p.0, told-append s a b p.1 q)

-- ahead of what goes on, what is the same
then_goes_on : {A : Type 0} (s : Sight) (r : Scanned A) (a a' b b' : List ValueTerm) → a' ≡ a → AreTold s a → GoesOn s r b b' → GoesOn s r (a ++ b) (a' ++ b')
then_goes_on s (Forms x) a a' b b' e t g = (ap₂ (λ x y. x ++ y) e g.0, told-append s a b t g.1)
then_goes_on s (Ends IsOff) a a' b b' e t g = (ap₂ (λ x y. x ++ y) e g.0, told-append s a b t g.1)
then_goes_on s (Ends (Stops site code)) a a' b b' e t g = (ap₂ (λ x y. x ++ y) e g.0, told-append s a b t g.1)
then_goes_on s (Ends (Needs site u)) a a' b b' e t g = record {
  before = a ++ g.before;
  after = g.after;
  told = told-append s a g.before t g.told;
  ends = ap (λ x. a ++ x) g.ends ∙ sym (append_assoc a g.before (u ∷ []));
  more = ap₂ (λ x y. x ++ y) e g.more ∙ sym (append_assoc a g.before (u ∷ g.after));
}

-- behind a selector that isn't told nothing counts
begun_more : (s : Sight) (u : ValueTerm) (a a' more : List ValueTerm) → IsBegun s u a a' → IsBegun s u a (a' ++ more)
begun_more s u a a' more g = record {
  before = g.before;
  after = g.after ++ more;
  told = g.told;
  ends = g.ends;
  more = ap (λ x. x ++ more) g.more ∙ append_assoc g.before (u ∷ g.after) more;
}

begun_by : (s : Sight) (u : ValueTerm) (a a' b b' : List ValueTerm) → a ≡ b → a' ≡ b' → IsBegun s u b b' → IsBegun s u a a'
begun_by s u a a' b b' e f g = record { before = g.before; after = g.after; told = g.told; ends = e ∙ g.ends; more = f ∙ g.more }

-- ---- several inputs

with_more : (x : Scanned ValueTerm) (ts rest : List ValueTerm) → (more : List ValueTerm) × (selectors_beside x ts rest ≡ ts ++ more)
with_more (Forms t) ts rest = (rest, refl)
with_more (Ends e) ts rest = ([], sym (append-nil ts))

beside_formed : (s : Sight) (t : ValueTerm) (r : Scanned ValueTerms) (a a' : List ValueTerm) → GoesOn s r a a' → GoesOn s (scanned_beside (Forms t) r) a a'
beside_formed s t (Forms ts) a a' g = g
beside_formed s t (Ends IsOff) a a' g = g
beside_formed s t (Ends (Stops site code)) a a' g = g
beside_formed s t (Ends (Needs site u)) a a' g = g

beside_goes_on : (s : Sight) (x x' : Scanned ValueTerm) (r : Scanned ValueTerms) (ts ts' more more' : List ValueTerm) → Keeps x x' → GoesOn s x ts ts' → GoesOn s r more more' → GoesOn s (scanned_beside x r) (selectors_beside x ts more) (selectors_beside x' ts' more')
beside_goes_on s (Forms t) x' r ts ts' more more' k g h = rw k (beside_formed s t r (ts ++ more) (ts' ++ more') (then_goes_on s r ts ts' more more' g.0 g.1 h))
beside_goes_on s (Ends IsOff) x' r ts ts' more more' k g h = rw k g
beside_goes_on s (Ends (Stops site code)) x' r ts ts' more more' k g h = rw k g
beside_goes_on s (Ends (Needs site u)) x' r ts ts' more more' k g h =
    let m = with_more x' ts' more' in
    begun_by s u ts (selectors_beside x' ts' more') ts (ts' ++ m.0) refl m.1 (begun_more s u ts ts' m.0 g)

-- ---- a call of a module

called_goes_on : (s : Sight) (m : Module) (file : Option (List ℕ)) (result : ℕ) (r : Scanned ValueTerms) (a a' : List ValueTerm) → GoesOn s r a a' → GoesOn s (call_scanned m file result r) a a'
called_goes_on s m file result (Forms ts) a a' g = g
called_goes_on s m file result (Ends IsOff) a a' g = g
called_goes_on s m file result (Ends (Stops site code)) a a' g = g
called_goes_on s m file result (Ends (Needs site u)) a a' g = g

-- ---- a selector

selected_goes_on : (s s' : Sight) → More s s' → (f : Function) (p : Place) (result : ℕ) (xs : List (Scanned ValueTerm)) (x x' : Scanned ValueTerm) (a a' : List ValueTerm) (go go' : Value → List ValueTerm) → Keeps x x' → GoesOn s x a a' →
    ((t : ValueTerm) (v : Value) → x ≡ Forms t → GoesOn s (valued s f p result xs v) (go v) (go' v)) → GoesOn s (selected s f p result xs x) (a ++ got_selectors s x go) (a' ++ got_selectors s' x' go')
selected_goes_on s s' m f p result xs (Forms t) x' a a' go go' k g h = rw k (cases (s.told t) refl)
  where
    cases : (o : Option Value) → s.told t ≡ o → GoesOn s (told_scanned s f p result xs t (s.told t)) (a ++ t ∷ told_selectors (s.told t) go) (a' ++ t ∷ told_selectors (s'.told t) go')
    cases None e = rw e (record { before = a; after = told_selectors (s'.told t) go'; told = g.1; ends = refl; more = ap (λ y. y ++ t ∷ told_selectors (s'.told t) go') g.0 })
    cases (Some v) e = rw (e, m.told t v e) (then_goes_on s (valued s f p result xs v) a a' (t ∷ go v) (t ∷ go' v) g.0 g.1
        (then_goes_on s (valued s f p result xs v) (t ∷ []) (t ∷ []) (go v) (go' v) refl ((v, e), tt) (h t v refl)))
selected_goes_on s s' m f p result xs (Ends IsOff) x' a a' go go' k g h = rw k (ap (λ y. y ++ []) g.0, told-append s a [] g.1 tt)
selected_goes_on s s' m f p result xs (Ends (Stops site code)) x' a a' go go' k g h = rw k (ap (λ y. y ++ []) g.0, told-append s a [] g.1 tt)
selected_goes_on s s' m f p result xs (Ends (Needs site u)) x' a a' go go' k g h =
    begun_by s u (a ++ []) (a' ++ got_selectors s' x' go') a (a' ++ got_selectors s' x' go') (append-nil a) refl (begun_more s u a a' (got_selectors s' x' go') g)

-- ---- rules

-- the inputs of a call, by less and by more that is told
pub record Inputs (s : Sight) (xs xs' : List (Scanned ValueTerm)) (each each' : List (List ValueTerm)) : Type 0 where
  pub keeps : EachKeeps xs xs'
  pub all : GoesOn s (all_scanned xs) (all_selectors xs each) (all_selectors xs' each')
  pub rest : (t : ValueTerm) → scanned_at xs 0 ≡ Forms t → GoesOn s (all_scanned xs) (rest_selectors xs each) (rest_selectors xs' each')
  pub at : (n : ℕ) → GoesOn s (scanned_at xs n) (selectors_at each n) (selectors_at each' n)

module _ (s s' : Sight) (m : More s s') (xs xs' : List (Scanned ValueTerm)) (each each' : List (List ValueTerm)) (i : Inputs s xs xs' each each') where
  picked_goes_on : (p : Place) (k : Pick ValueTerm) → GoesOn s (picked_scanned p xs k) (picked_selectors each k) (picked_selectors each' k)
  picked_goes_on p (PickThis t) = (refl, tt)
  picked_goes_on p (PickInput n) = i.at n
  picked_goes_on p PickOff = (refl, tt)
  picked_goes_on p PickFault = (refl, tt)

  selector_goes_on : (f : Function) (p : Place) (result : ℕ) (go go' : Value → List ValueTerm) → ((t : ValueTerm) (v : Value) → scanned_at xs (selector_at f) ≡ Forms t → GoesOn s (valued s f p result xs v) (go v) (go' v)) →
      GoesOn s (selector_scanned s f p result xs) (selector_first s f xs each go) (selector_first s' f xs' each' go')
  selector_goes_on f p result go go' h =
      selected_goes_on s s' m f p result xs (scanned_at xs (selector_at f)) (scanned_at xs' (selector_at f)) (selectors_at each (selector_at f)) (selectors_at each' (selector_at f)) go go'
      (at_keeps xs xs' i.keeps (selector_at f)) (i.at (selector_at f)) h

  picks : (f : Function) (p : Place) (result : ℕ) → (v : Value) → GoesOn s (picked_scanned p xs (pick (terms_in s) f p result v)) (picked_selectors each (pick (terms_in s) f p result v)) (picked_selectors each' (pick (terms_in s') f p result v))
  picks f p result v = rw (same_terms s s' m) (picked_goes_on p (pick (terms_in s) f p result v))

  import_goes_on : (p : Place) (result : ℕ) → GoesOn s (module_scanned s computing.Import p result xs) (module_selectors s computing.Import xs each) (module_selectors s' computing.Import xs' each')
  import_goes_on p result =
      selector_goes_on (function.Module computing.Import) p result (λ v. rest_selectors xs each) (λ v. rest_selectors xs' each')
      (λ t v e. called_goes_on s computing.Import (written_for s v) result (all_scanned xs) (rest_selectors xs each) (rest_selectors xs' each') (i.rest t e))

  plain_goes_on : (mo : Module) (result : ℕ) → GoesOn s (call_scanned mo None result (all_scanned xs)) (all_selectors xs each) (all_selectors xs' each')
  plain_goes_on mo result = called_goes_on s mo None result (all_scanned xs) (all_selectors xs each) (all_selectors xs' each') i.all

  module_goes_on : (mo : Module) (p : Place) (result : ℕ) → GoesOn s (module_scanned s mo p result xs) (module_selectors s mo xs each) (module_selectors s' mo xs' each')
  module_goes_on computing.Import p result = import_goes_on p result
  module_goes_on computing.Select p result = plain_goes_on computing.Select result
  module_goes_on computing.Extract p result = plain_goes_on computing.Extract result
  module_goes_on computing.Replace p result = plain_goes_on computing.Replace result
  module_goes_on computing.Mark p result = plain_goes_on computing.Mark result
  module_goes_on computing.Unmark p result = plain_goes_on computing.Unmark result
  module_goes_on computing.Slab p result = plain_goes_on computing.Slab result
  module_goes_on computing.Compute p result = plain_goes_on computing.Compute result
  module_goes_on computing.Statistics p result = plain_goes_on computing.Statistics result
  module_goes_on computing.Histogram p result = plain_goes_on computing.Histogram result
  module_goes_on computing.Collect p result = plain_goes_on computing.Collect result
  module_goes_on computing.CollectNamed p result = plain_goes_on computing.CollectNamed result
  module_goes_on computing.CollectSeries p result = plain_goes_on computing.CollectSeries result
  module_goes_on computing.Inquire p result = plain_goes_on computing.Inquire result

  effect_goes_on : (e : Effect) → GoesOn s (effect_scanned e xs) (effect_selectors e each) (effect_selectors e each')
  effect_goes_on effect.SetLocal = i.at 1
  effect_goes_on effect.SetGlobal = i.at 1
  effect_goes_on effect.Print = (refl, tt)
  effect_goes_on effect.Echo = (refl, tt)
  effect_goes_on effect.Export = (refl, tt)

  picking_goes_on : (f : Function) (p : Place) (result : ℕ) → ((v : Value) → GoesOn s (valued s f p result xs v) (picked_selectors each (pick (terms_in s) f p result v)) (picked_selectors each' (pick (terms_in s') f p result v))) →
      GoesOn s (selector_scanned s f p result xs) (picking_selectors s f p result xs each) (picking_selectors s' f p result xs' each')
  picking_goes_on f p result h =
      selector_goes_on f p result (λ v. picked_selectors each (pick (terms_in s) f p result v)) (λ v. picked_selectors each' (pick (terms_in s') f p result v)) (λ t v e. h v)

  pub rule_goes_on : (f : Function) (p : Place) (result : ℕ) → GoesOn s (rule_scanned s f p result xs) (rule_selectors s f p result xs each) (rule_selectors s' f p result xs' each')
  rule_goes_on (function.Module mo) p result = module_goes_on mo p result
  rule_goes_on (function.Effect e) p result = effect_goes_on e
  rule_goes_on function.Switch p result = picking_goes_on function.Switch p result (picks function.Switch p result)
  rule_goes_on function.Route p result = picking_goes_on function.Route p result (picks function.Route p result)
  rule_goes_on function.GetLocal p result = picking_goes_on function.GetLocal p result (picks function.GetLocal p result)
  rule_goes_on function.GetGlobal p result = picking_goes_on function.GetGlobal p result (picks function.GetGlobal p result)

-- ---- trees

formed_first : (s : Sight) (x : Scanned ValueTerm) (t : ValueTerm) (r : Scanned ValueTerms) (a a' : List ValueTerm) → x ≡ Forms t → GoesOn s r a a' → GoesOn s (scanned_beside x r) a a'
formed_first s x t r a a' e g = rw e (beside_formed s t r a a' g)

mutual
  pub tree_goes_on : (s s' : Sight) → More s s' → (t : Tree) → GoesOn s (scan s t) (selectors s t) (selectors s' t)
  tree_goes_on s s' m (ConstantTree c) = (refl, tt)
  tree_goes_on s s' m (ResultTree result (TreeCall f p args)) =
      rule_goes_on s s' m (scan_each s args) (scan_each s' args) (selectors_each s args) (selectors_each s' args)
      (record { keeps = each_keeps s s' m args; all = all_go_on s s' m args; rest = rest_goes_on s s' m args; at = at_goes_on s s' m args }) f p result

  pub all_go_on : (s s' : Sight) → More s s' → (ts : Trees) → GoesOn s (all_scanned (scan_each s ts)) (selectors_all s ts) (selectors_all s' ts)
  all_go_on s s' m NoTree = (refl, tt)
  all_go_on s s' m (AndTree t ts) =
      beside_goes_on s (scan s t) (scan s' t) (all_scanned (scan_each s ts)) (selectors s t) (selectors s' t) (selectors_all s ts) (selectors_all s' ts) (scan_keeps s s' m t) (tree_goes_on s s' m t) (all_go_on s s' m ts)

  rest_goes_on : (s s' : Sight) → More s s' → (ts : Trees) → (t : ValueTerm) → scanned_at (scan_each s ts) 0 ≡ Forms t → GoesOn s (all_scanned (scan_each s ts)) (rest_selectors (scan_each s ts) (selectors_each s ts)) (rest_selectors (scan_each s' ts) (selectors_each s' ts))
  rest_goes_on s s' m NoTree t e = (refl, tt)
  rest_goes_on s s' m (AndTree u ts) t e = formed_first s (scan s u) t (all_scanned (scan_each s ts)) (selectors_all s ts) (selectors_all s' ts) e (all_go_on s s' m ts)

  at_goes_on : (s s' : Sight) → More s s' → (ts : Trees) → (n : ℕ) → GoesOn s (scanned_at (scan_each s ts) n) (selectors_at (selectors_each s ts) n) (selectors_at (selectors_each s' ts) n)
  at_goes_on s s' m NoTree n = (refl, tt)
  at_goes_on s s' m (AndTree t ts) zero = tree_goes_on s s' m t
  at_goes_on s s' m (AndTree t ts) (suc n) = at_goes_on s s' m ts n
