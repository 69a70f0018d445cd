-- When two rules say the same: a calculus to write a rule as it is read.
use Rattle.std.proofs.Common.{List, [], ◌++◌, ◌⊎◌, inl, inr, refl, sym, ap, subst, ◌∙◌}
use Rattle.dx_grammar.specs.Rule.{Rule, nothing, ◌∣◌}
use Rattle.dx_grammar.specs.Rule as rule
use Rattle.dx_grammar.proofs.Read.{Same}
use Rattle.dx_grammar.proofs.Compose.{same_assoc}

pub same_refl : {T F A : Type 0} (X : Rule T F A) → Same X X
same_refl X = record { there = λ ts a d. d; back = λ ts a d. d; forbids_there = λ ts f d. d; forbids_back = λ ts f d. d }

pub same_sym : {T F A : Type 0} (X Y : Rule T F A) → Same X Y → Same Y X
same_sym X Y s = record { there = s.back; back = s.there; forbids_there = s.forbids_back; forbids_back = s.forbids_there }

pub same_trans : {T F A : Type 0} (X Y Z : Rule T F A) → Same X Y → Same Y Z → Same X Z
same_trans X Y Z s r = record {
  there = λ ts a d. r.there ts a (s.there ts a d);
  back = λ ts a d. s.back ts a (r.back ts a d);
  forbids_there = λ ts f d. r.forbids_there ts f (s.forbids_there ts f d);
  forbids_back = λ ts f d. s.forbids_back ts f (r.forbids_back ts f d);
}

then_is : {T F A B : Type 0} (X W : Rule T F A) (Y Z : A → Rule T F B) → ((ts : List T) (a : A) → X.is ts a → W.is ts a) → ((a : A) (ts : List T) (b : B) → (Y a).is ts b → (Z a).is ts b)
    → (ts : List T) (b : B) → (rule.◌>>=◌ X Y).is ts b → (rule.◌>>=◌ W Z).is ts b
then_is X W Y Z p q ts b (x, y, a, e, d, h) = (x, y, a, e, p x a d, q a y b h)

then_no : {T F A B : Type 0} (X W : Rule T F A) (Y Z : A → Rule T F B) → ((ts : List T) (a : A) → X.is ts a → W.is ts a) → ((ts : List T) (f : F) → X.forbids ts f → W.forbids ts f)
    → ((a : A) (ts : List T) (f : F) → (Y a).forbids ts f → (Z a).forbids ts f) → (ts : List T) (f : F) → (rule.◌>>=◌ X Y).forbids ts f → (rule.◌>>=◌ W Z).forbids ts f
then_no X W Y Z p r q ts f (inl d) = inl (r ts f d)
then_no X W Y Z p r q ts f (inr (x, y, a, e, d, h)) = inr (x, y, a, e, p x a d, q a y f h)

pub same_then : {T F A B : Type 0} (X W : Rule T F A) (Y Z : A → Rule T F B) → Same X W → ((a : A) → Same (Y a) (Z a)) → Same (rule.◌>>=◌ X Y) (rule.◌>>=◌ W Z)
same_then X W Y Z s r = record {
  there = then_is X W Y Z s.there (λ a. (r a).there);
  back = then_is W X Z Y s.back (λ a. (r a).back);
  forbids_there = then_no X W Y Z s.there s.forbids_there (λ a. (r a).forbids_there);
  forbids_back = then_no W X Z Y s.back s.forbids_back (λ a. (r a).forbids_back);
}

-- the end of a rule that gives its value over to the next
pub same_unit : {T F A B : Type 0} (a : A) (Y : A → Rule T F B) → Same (rule.◌>>=◌ (nothing a) Y) (Y a)
same_unit {T} {F} {A} {B} a Y = record { there = there; back = λ ts b d. ([], ts, a, refl, (refl, refl), d); forbids_there = no_there; forbids_back = λ ts f d. inr ([], ts, a, refl, (refl, refl), d) }
  where
    there : (ts : List T) (b : B) → (rule.◌>>=◌ (nothing a) Y).is ts b → (Y a).is ts b
    there ts b (x, y, v, e, d, h) = subst (λ l. (Y a).is l b) (sym (e ∙ ap (λ l. l ++ y) d.0)) (subst (λ v. (Y v).is y b) (sym d.1) h)

    no_there : (ts : List T) (f : F) → (rule.◌>>=◌ (nothing a) Y).forbids ts f → (Y a).forbids ts f
    no_there ts f (inl d) = elim d [ ]
    no_there ts f (inr (x, y, v, e, d, h)) = subst (λ l. (Y a).forbids l f) (sym (e ∙ ap (λ l. l ++ y) d.0)) (subst (λ v. (Y v).forbids y f) (sym d.1) h)

-- a value that is made and given over
pub same_map : {T F A B C : Type 0} (X : Rule T F A) (g : A → B) (Y : B → Rule T F C) → Same (rule.◌>>=◌ (rule.◌>>=◌ X (λ a. nothing (g a))) Y) (rule.◌>>=◌ X (λ a. Y (g a)))
same_map X g Y = same_trans (rule.◌>>=◌ (rule.◌>>=◌ X (λ a. nothing (g a))) Y) (rule.◌>>=◌ X (λ a. rule.◌>>=◌ (nothing (g a)) Y)) (rule.◌>>=◌ X (λ a. Y (g a)))
    (same_sym (rule.◌>>=◌ X (λ a. rule.◌>>=◌ (nothing (g a)) Y)) (rule.◌>>=◌ (rule.◌>>=◌ X (λ a. nothing (g a))) Y) (same_assoc X (λ a. nothing (g a)) Y))
    (same_then X X (λ a. rule.◌>>=◌ (nothing (g a)) Y) (λ a. Y (g a)) (same_refl X) (λ a. same_unit (g a) Y))

-- the same end for both
pub same_right : {T F A B : Type 0} (X Z : Rule T F A) (Y : A → Rule T F B) → Same (rule.◌>>=◌ (X ∣ Z) Y) (rule.◌>>=◌ X Y ∣ rule.◌>>=◌ Z Y)
same_right {T} {F} {A} {B} X Z Y = record { there = there; back = back; forbids_there = no_there; forbids_back = no_back }
  where
    there : (ts : List T) (b : B) → (rule.◌>>=◌ (X ∣ Z) Y).is ts b → (rule.◌>>=◌ X Y ∣ rule.◌>>=◌ Z Y).is ts b
    there ts b (x, y, a, e, inl d, h) = inl (x, y, a, e, d, h)
    there ts b (x, y, a, e, inr d, h) = inr (x, y, a, e, d, h)

    back : (ts : List T) (b : B) → (rule.◌>>=◌ X Y ∣ rule.◌>>=◌ Z Y).is ts b → (rule.◌>>=◌ (X ∣ Z) Y).is ts b
    back ts b (inl (x, y, a, e, d, h)) = (x, y, a, e, inl d, h)
    back ts b (inr (x, y, a, e, d, h)) = (x, y, a, e, inr d, h)

    no_there : (ts : List T) (f : F) → (rule.◌>>=◌ (X ∣ Z) Y).forbids ts f → (rule.◌>>=◌ X Y ∣ rule.◌>>=◌ Z Y).forbids ts f
    no_there ts f (inl (inl d)) = inl (inl d)
    no_there ts f (inl (inr d)) = inr (inl d)
    no_there ts f (inr (x, y, a, e, inl d, h)) = inl (inr (x, y, a, e, d, h))
    no_there ts f (inr (x, y, a, e, inr d, h)) = inr (inr (x, y, a, e, d, h))

    no_back : (ts : List T) (f : F) → (rule.◌>>=◌ X Y ∣ rule.◌>>=◌ Z Y).forbids ts f → (rule.◌>>=◌ (X ∣ Z) Y).forbids ts f
    no_back ts f (inl (inl d)) = inl (inl d)
    no_back ts f (inl (inr (x, y, a, e, d, h))) = inr (x, y, a, e, inl d, h)
    no_back ts f (inr (inl d)) = inl (inr d)
    no_back ts f (inr (inr (x, y, a, e, d, h))) = inr (x, y, a, e, inr d, h)

swap : {A B : Type 0} → A ⊎ B → B ⊎ A
swap (inl a) = inr a
swap (inr b) = inl b

pub same_swap : {T F A : Type 0} (X Y : Rule T F A) → Same (X ∣ Y) (Y ∣ X)
same_swap X Y = record { there = λ ts a d. swap d; back = λ ts a d. swap d; forbids_there = λ ts f d. swap d; forbids_back = λ ts f d. swap d }

group : {A B C : Type 0} → (A ⊎ B) ⊎ C → A ⊎ (B ⊎ C)
group (inl (inl a)) = inl a
group (inl (inr b)) = inr (inl b)
group (inr c) = inr (inr c)

ungroup : {A B C : Type 0} → A ⊎ (B ⊎ C) → (A ⊎ B) ⊎ C
ungroup (inl a) = inl (inl a)
ungroup (inr (inl b)) = inl (inr b)
ungroup (inr (inr c)) = inr c

pub same_group : {T F A : Type 0} (X Y Z : Rule T F A) → Same ((X ∣ Y) ∣ Z) (X ∣ (Y ∣ Z))
same_group X Y Z = record { there = λ ts a d. group d; back = λ ts a d. ungroup d; forbids_there = λ ts f d. group d; forbids_back = λ ts f d. ungroup d }
