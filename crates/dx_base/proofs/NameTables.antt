-- A table keyed by names, after a change under one name.
use Rattle.std.proofs.Common.{◌≡◌, ℕ, List, Bool, true, false, Option, Vec, sym, ap, subst, ◌∙◌}
use mathlib.Core.Logic.{⊎_elim}
use Rattle.std.specs.Str.{bytes_eq}
use Rattle.std.specs.declared.alloc.Global.{Global}
use Rattle.std.specs.HashMap.{HashMap, UpdatesBy}
use Rattle.std.specs.Map.{lookup, IsKeyTest, AreApart, KeepsOthers}
use Rattle.std.proofs.lemmas.Bool.{cases_Bool, cond-true, cond-false}
use Rattle.std.proofs.lemmas.Cmp.{nat_list_eq_equiv}
use Rattle.std.proofs.lemmas.Slice.Eq.{bytes_eq-Decides}
use Rattle.dx_base.specs.NameTable.{under_name, changed_at}

apart : (bs cs ks : List ℕ) → bytes_eq bs cs ≡ false → bytes_eq bs ks ≡ true → bytes_eq cs ks ≡ false
apart bs cs ks n y = nat_list_eq_equiv.symm cs ks ∙ sym (nat_list_eq_equiv.congr bs ks cs y) ∙ n

abbrev pub same_key : Vec ℕ Global → Vec ℕ Global → Bool
same_key x y = bytes_eq x.items y.items

other_entries : {X : Type 0} (test : Vec ℕ Global → Bool) (old new : List (Vec ℕ Global × X)) → KeepsOthers same_key test old new → (other : Vec ℕ Global → Bool) → IsKeyTest same_key other → AreApart test other → lookup other new ≡ lookup other old
unfolding KeepsOthers
other_entries test old new h = h

under_each : {X S : Type 0} (old new : HashMap (Vec ℕ Global) X S) (name : List ℕ) (value : Option X) → UpdatesBy same_key (λ (key : Vec ℕ Global). bytes_eq name key.items) old new value
    → (other : List ℕ) → under_name new other ≡ changed_at (under_name old) name value other
under_each old new name value h other =
    ⊎_elim
    (λ y. subst (λ l. under_name new l ≡ value) ((bytes_eq-Decides name other).0 y) h.1 ∙ sym (cond-true (bytes_eq name other) value (under_name old other) y))
    (λ e. other_entries _ _ _ h.3 _ (λ x y. nat_list_eq_equiv.congr other x.items y.items) (λ k. apart name other k.items e) ∙ sym (cond-false (bytes_eq name other) value (under_name old other) e))
    (cases_Bool (bytes_eq name other))

-- a change under the name of a key changes what stands under that name alone
pub under_changed : {X S : Type 0} (old new : HashMap (Vec ℕ Global) X S) (name : List ℕ) (value : Option X) (key : Vec ℕ Global) → key.items ≡ name → UpdatesBy same_key (same_key key) old new value
    → under_name new ≡ changed_at (under_name old) name value
under_changed old new name value key e h =
    let each : (other : List ℕ) → under_name new other ≡ changed_at (under_name old) name value other = λ other. under_each old new key.items value h other ∙ ap (λ bs. changed_at (under_name old) bs value other) e in
    λ i other. each other i
