-- The laws of single steps, with every argument written out: one for each way to make a rule.
use Rattle.std.proofs.Common.{◌≡◌, ◌<◌, Bool, true, false, not, cond, List, [], ◌∷◌, ◌++◌, length, inl, inr, Option, Some, None, Ok, Err, refl, sym, ap, subst, ◌∙◌, append_assoc, length-append, arith}
use Rattle.dx_grammar.specs.Stream.{Stream, Outcome, Parser, and_then, ◌>>=◌, pure, fail, passes, own, own_from, advanced, taken, one_from, choose, looks, looks_from}
use Rattle.dx_grammar.specs.Stream as stream
use Rattle.dx_grammar.specs.Rule.{Rule, Begins, nothing, refused, one, unless, ◌∣◌}
use Rattle.dx_grammar.specs.Rule as rule
use Rattle.dx_grammar.proofs.Read.{before, before-append, Alike, AlikeBy, Any, Took, Refused, Reads, Opens, Same, ok_is, err_is, begins_first, begins_same, goes_on, stops, split, took_then, refused_then, refused_first, took_rule, refused_rule, took_same, refused_same, took_look, refused_look}

-- ---- what a rule opens with

pub opens_any : {T F A : Type 0} (X : Rule T F A) (Stop : Stream T F → Type 0) → Opens X Stop Any
opens_any X Stop = record { is = λ ts a d u stop. tt; forbids = λ ts f d u. tt }

pub opens_nothing : {T F A : Type 0} (a : A) (Stop Q : Stream T F → Type 0) → ((u : Stream T F) → Stop u → Q u) → Opens (nothing a) Stop Q
opens_nothing a Stop Q sub = record { is = λ ts b d u stop. subst (λ l. Q (before l u)) (sym d.0) (sub u stop); forbids = λ ts f d u. elim d [ ] }

pub opens_one : {T F A : Type 0} (class : T → Option A) (Stop Q : Stream T F → Type 0) → ((t : T) (a : A) → class t ≡ Some a → (u : Stream T F) → Q (before (t ∷ []) u)) → Opens (one class) Stop Q
opens_one class Stop Q each = record { is = λ ts a d u stop. subst (λ l. Q (before l u)) (sym d.1) (each d.0 a d.2 u); forbids = λ ts f d u. elim d [ ] }

pub opens_then : {T F A B : Type 0} (X : Rule T F A) (Y : A → Rule T F B) (Mid Stop Q : Stream T F → Type 0) → Opens X Mid Q → ((a : A) → Opens (Y a) Stop Mid) → Opens (rule.◌>>=◌ X Y) Stop Q
opens_then {T} {F} {A} {B} X Y Mid Stop Q x y = record {
  is = λ ts b d u stop. subst (λ (s : Stream T F). Q s) (sym (ap (λ l. before l u) d.3 ∙ before-append d.0 d.1 u)) (x.is d.0 d.2 d.4 (before d.1 u) ((y d.2).is d.1 b d.5 u stop));
  forbids = λ ts f d u. by_part ts f u d;
}
  where
    by_part : (ts : List T) (f : F) (u : Stream T F) → (rule.◌>>=◌ X Y).forbids ts f → Q (before ts u)
    by_part ts f u (inl d) = x.forbids ts f d u
    by_part ts f u (inr d) = subst (λ (s : Stream T F). Q s) (sym (ap (λ l. before l u) d.3 ∙ before-append d.0 d.1 u)) (x.is d.0 d.2 d.4 (before d.1 u) ((y d.2).forbids d.1 f d.5 u))

-- X takes a token whatever it is
pub opens_first : {T F A B : Type 0} (X : Rule T F A) (Y : A → Rule T F B) (Stop Q : Stream T F → Type 0) → Opens X Any Q → Opens (rule.◌>>=◌ X Y) Stop Q
opens_first X Y Stop Q x = opens_then X Y Any Stop Q x (λ a. opens_any (Y a) Stop)

pub opens_either : {T F A : Type 0} (X Y : Rule T F A) (Stop Q : Stream T F → Type 0) → Opens X Stop Q → Opens Y Stop Q → Opens (X ∣ Y) Stop Q
opens_either {T} {F} {A} X Y Stop Q x y = record { is = λ ts a d u stop. either ts a u stop d; forbids = λ ts f d u. neither ts f u d }
  where
    either : (ts : List T) (a : A) (u : Stream T F) → Stop u → (X ∣ Y).is ts a → Q (before ts u)
    either ts a u stop (inl d) = x.is ts a d u stop
    either ts a u stop (inr d) = y.is ts a d u stop

    neither : (ts : List T) (f : F) (u : Stream T F) → (X ∣ Y).forbids ts f → Q (before ts u)
    neither ts f u (inl d) = x.forbids ts f d u
    neither ts f u (inr d) = y.forbids ts f d u

pub opens_same : {T F A : Type 0} (X Y : Rule T F A) (Stop Q : Stream T F → Type 0) → Same X Y → Opens X Stop Q → Opens Y Stop Q
opens_same X Y Stop Q same x = record { is = λ ts a d u stop. x.is ts a (same.back ts a d) u stop; forbids = λ ts f d u. x.forbids ts f (same.forbids_back ts f d) u }

-- ---- rules that say the same

pub same_either : {T F A : Type 0} (X Y Z W : Rule T F A) → Same X Y → Same Z W → Same (X ∣ Z) (Y ∣ W)
same_either {T} {F} {A} X Y Z W p q = record {
  there = λ ts a d. is X Y Z W p.there q.there ts a d;
  back = λ ts a d. is Y X W Z p.back q.back ts a d;
  forbids_there = λ ts f d. no X Y Z W p.forbids_there q.forbids_there ts f d;
  forbids_back = λ ts f d. no Y X W Z p.forbids_back q.forbids_back ts f d;
}
  where
    is : (X Y Z W : Rule T F A) → ((ts : List T) (a : A) → X.is ts a → Y.is ts a) → ((ts : List T) (a : A) → Z.is ts a → W.is ts a) → (ts : List T) (a : A) → (X ∣ Z).is ts a → (Y ∣ W).is ts a
    is X Y Z W p q ts a (inl d) = inl (p ts a d)
    is X Y Z W p q ts a (inr d) = inr (q ts a d)

    no : (X Y Z W : Rule T F A) → ((ts : List T) (f : F) → X.forbids ts f → Y.forbids ts f) → ((ts : List T) (f : F) → Z.forbids ts f → W.forbids ts f) → (ts : List T) (f : F) → (X ∣ Z).forbids ts f → (Y ∣ W).forbids ts f
    no X Y Z W p q ts f (inl d) = inl (p ts f d)
    no X Y Z W p q ts f (inr d) = inr (q ts f d)

-- a beginning that both have is taken out
pub same_left : {T F A B : Type 0} (X : Rule T F A) (Y Z : A → Rule T F B) → Same (rule.◌>>=◌ X (λ a. Y a ∣ Z a)) (rule.◌>>=◌ X Y ∣ rule.◌>>=◌ X Z)
same_left {T} {F} {A} {B} X Y Z = record { there = there; back = back; forbids_there = no_there; forbids_back = no_back }
  where
    there : (ts : List T) (b : B) → (rule.◌>>=◌ X (λ a. Y a ∣ Z a)).is ts b → (rule.◌>>=◌ X Y ∣ rule.◌>>=◌ X Z).is ts b
    there ts b (x, y, a, e, d, inl h) = inl (x, y, a, e, d, h)
    there ts b (x, y, a, e, d, inr h) = inr (x, y, a, e, d, h)

    back : (ts : List T) (b : B) → (rule.◌>>=◌ X Y ∣ rule.◌>>=◌ X Z).is ts b → (rule.◌>>=◌ X (λ a. Y a ∣ Z a)).is ts b
    back ts b (inl (x, y, a, e, d, h)) = (x, y, a, e, d, inl h)
    back ts b (inr (x, y, a, e, d, h)) = (x, y, a, e, d, inr h)

    no_there : (ts : List T) (f : F) → (rule.◌>>=◌ X (λ a. Y a ∣ Z a)).forbids ts f → (rule.◌>>=◌ X Y ∣ rule.◌>>=◌ X Z).forbids ts f
    no_there ts f (inl d) = inl (inl d)
    no_there ts f (inr (x, y, a, e, d, inl h)) = inl (inr (x, y, a, e, d, h))
    no_there ts f (inr (x, y, a, e, d, inr h)) = inr (inr (x, y, a, e, d, h))

    no_back : (ts : List T) (f : F) → (rule.◌>>=◌ X Y ∣ rule.◌>>=◌ X Z).forbids ts f → (rule.◌>>=◌ X (λ a. Y a ∣ Z a)).forbids ts f
    no_back ts f (inl (inl d)) = inl d
    no_back ts f (inr (inl d)) = inl d
    no_back ts f (inl (inr (x, y, a, e, d, h))) = inr (x, y, a, e, d, inl h)
    no_back ts f (inr (inr (x, y, a, e, d, h))) = inr (x, y, a, e, d, inr h)

-- brackets don't matter
pub same_assoc : {T F A B C : Type 0} (X : Rule T F A) (Y : A → Rule T F B) (Z : B → Rule T F C) → Same (rule.◌>>=◌ X (λ a. rule.◌>>=◌ (Y a) Z)) (rule.◌>>=◌ (rule.◌>>=◌ X Y) Z)
same_assoc {T} {F} {A} {B} {C} X Y Z = record { there = there; back = back; forbids_there = no_there; forbids_back = no_back }
  where
    there : (ts : List T) (c : C) → (rule.◌>>=◌ X (λ a. rule.◌>>=◌ (Y a) Z)).is ts c → (rule.◌>>=◌ (rule.◌>>=◌ X Y) Z).is ts c
    there ts c (x, r, a, e, dx, (y, z, b, e2, dy, dz)) = (x ++ y, z, b, e ∙ ap (λ l. x ++ l) e2 ∙ sym (append_assoc x y z), (x, y, a, refl, dx, dy), dz)

    back : (ts : List T) (c : C) → (rule.◌>>=◌ (rule.◌>>=◌ X Y) Z).is ts c → (rule.◌>>=◌ X (λ a. rule.◌>>=◌ (Y a) Z)).is ts c
    back ts c (r, z, b, e, (x, y, a, e2, dx, dy), dz) = (x, y ++ z, a, e ∙ ap (λ l. l ++ z) e2 ∙ append_assoc x y z, dx, (y, z, b, refl, dy, dz))

    no_there : (ts : List T) (f : F) → (rule.◌>>=◌ X (λ a. rule.◌>>=◌ (Y a) Z)).forbids ts f → (rule.◌>>=◌ (rule.◌>>=◌ X Y) Z).forbids ts f
    no_there ts f (inl d) = inl (inl d)
    no_there ts f (inr (x, r, a, e, dx, inl d)) = inl (inr (x, r, a, e, dx, d))
    no_there ts f (inr (x, r, a, e, dx, inr (y, z, b, e2, dy, dz))) = inr (x ++ y, z, b, e ∙ ap (λ l. x ++ l) e2 ∙ sym (append_assoc x y z), (x, y, a, refl, dx, dy), dz)

    no_back : (ts : List T) (f : F) → (rule.◌>>=◌ (rule.◌>>=◌ X Y) Z).forbids ts f → (rule.◌>>=◌ X (λ a. rule.◌>>=◌ (Y a) Z)).forbids ts f
    no_back ts f (inl (inl d)) = inl d
    no_back ts f (inl (inr (x, r, a, e, dx, d))) = inr (x, r, a, e, dx, inl d)
    no_back ts f (inr (r, z, b, e, (x, y, a, e2, dx, dy), dz)) = inr (x, y ++ z, a, e ∙ ap (λ l. l ++ z) e2 ∙ append_assoc x y z, dx, inr (y, z, b, refl, dy, dz))

-- ---- reading

module _ {T F : Type 0} (misfit : T → F) where
  pub reads_nothing : {A : Type 0} (a : A) (Stop : Stream T F → Type 0) → Reads misfit (nothing a) (pure a) Stop
  reads_nothing {A} a Stop = record {
    some = inl ([], a, (refl, refl));
    took = λ s b s' e. subst (λ (p : A × Stream T F). Took (nothing a) (pure a) s p.0 p.1) (ok_is (a, s) (b, s') e) (record { front = []; parts = refl; derived = (refl, refl); local = λ u same. refl });
    refused = λ s f s' e. absurd cc;
    takes = λ ts b d u stop. ap (λ l. Ok (a, before l u)) d.0 ∙ ap (λ v. Ok (v, u)) d.1;
    forbids = λ ts f d u. elim d [ ];
  }

  pub reads_refused : {A : Type 0} (f : F) (Stop : Stream T F → Type 0) → Reads misfit (refused {A = A} f) (fail f) Stop
  reads_refused {A} f Stop = record {
    some = inr ([], f, (refl, refl));
    took = λ s b s' e. absurd cc;
    refused = λ s g s' e. subst (λ (p : F × Stream T F). Refused misfit (refused {A = A} f) (fail f) s p.0 p.1) (err_is (f, s) (g, s') e) (record { front = []; parts = refl; begins = inr ([], f, (refl, refl)); fault = inr (refl, refl); local = λ u same. refl });
    takes = λ ts b d u stop. elim d [ ];
    forbids = λ ts g d u. ap (λ l. Err (f, before l u)) d.0 ∙ ap (λ h. Err (h, u)) d.1;
  }

  -- a check of a value
  pub reads_unless : {A : Type 0} (fault : Option F) (a : A) (Stop : Stream T F → Type 0) → Reads misfit (unless fault a) (passes fault a) Stop
  reads_unless None a Stop = reads_nothing a Stop
  reads_unless (Some f) a Stop = reads_refused f Stop

  pub reads_then : {A B : Type 0} (X : Rule T F A) (Y : A → Rule T F B) (P : Parser T F A) (f : A → Parser T F B) (Mid Stop : Stream T F → Type 0)
      → Reads misfit X P Mid → ((a : A) → Reads misfit (Y a) (f a) Stop) → ((a : A) → Opens (Y a) Stop Mid) → Reads misfit (rule.◌>>=◌ X Y) (P >>= f) Stop
  reads_then {A} {B} X Y P f Mid Stop p q opens = record {
    some = begins_first X Y [] p.some (λ a. (q a).some);
    took = λ s b s' e. after s (P s) refl b s' e;
    refused = λ s g s' e. fails s (P s) refl g s' e;
    takes = λ ts b d u stop.
        split (P >>= f) ts d.0 d.1 u d.3
        ∙ goes_on P f (before d.0 (before d.1 u)) (before d.1 u) d.2 (p.takes d.0 d.2 d.4 (before d.1 u) ((opens d.2).is d.1 b d.5 u stop))
        ∙ (q d.2).takes d.1 b d.5 u stop;
    forbids = λ ts g d u. forbids ts g u d;
  }
    where
      after : (s : Stream T F) (r : Outcome T F A) → P s ≡ r → (b : B) (s' : Stream T F) → and_then r f ≡ Ok (b, s') → Took (rule.◌>>=◌ X Y) (P >>= f) s b s'
      after s (Ok (a, m)) e b s' h = took_then misfit X Y P f s m s' a b (p.took s a m e) ((q a).took m b s' h)
      after s (Err d) e b s' h = absurd cc

      fails : (s : Stream T F) (r : Outcome T F A) → P s ≡ r → (g : F) (s' : Stream T F) → and_then r f ≡ Err (g, s') → Refused misfit (rule.◌>>=◌ X Y) (P >>= f) s g s'
      fails s (Ok (a, m)) e g s' h = refused_then misfit X Y P f s m s' a g (p.took s a m e) ((q a).refused m g s' h)
      fails s (Err d) e g s' h = let is : P s ≡ Err (g, s') = e ∙ ap (λ x. Err x) (err_is {X = B × Stream T F} d (g, s') h) in refused_first misfit X Y P f s s' g (p.refused s g s' is) (λ a. (q a).some)

      forbids : (ts : List T) (g : F) (u : Stream T F) → (rule.◌>>=◌ X Y).forbids ts g → (P >>= f) (before ts u) ≡ Err (g, u)
      forbids ts g u (inl d) = stops P f (before ts u) u g (p.forbids ts g d u)
      forbids ts g u (inr (x, y, a, e, d, h)) =
          split (P >>= f) ts x y u e ∙ goes_on P f (before x (before y u)) (before y u) a (p.takes x a d (before y u) ((opens a).forbids y g h u)) ∙ (q a).forbids y g h u

  -- after X, which ends by itself
  pub reads_next : {A B : Type 0} (X : Rule T F A) (Y : A → Rule T F B) (P : Parser T F A) (f : A → Parser T F B) (Stop : Stream T F → Type 0)
      → Reads misfit X P Any → ((a : A) → Reads misfit (Y a) (f a) Stop) → Reads misfit (rule.◌>>=◌ X Y) (P >>= f) Stop
  reads_next X Y P f Stop p q = reads_then X Y P f Any Stop p q (λ a. opens_any (Y a) Stop)

  -- the rule in other words
  pub reads_rule : {A : Type 0} (X Y : Rule T F A) (P : Parser T F A) (Stop : Stream T F → Type 0) → Same X Y → Reads misfit X P Stop → Reads misfit Y P Stop
  reads_rule X Y P Stop same p = record {
    some = begins_same X Y [] same.there same.forbids_there p.some;
    took = λ s a s' e. took_rule misfit X Y P s a s' same.there (p.took s a s' e);
    refused = λ s g s' e. refused_rule misfit X Y P s g s' same.there same.forbids_there (p.refused s g s' e);
    takes = λ ts a d u stop. p.takes ts a (same.back ts a d) u stop;
    forbids = λ ts f d u. p.forbids ts f (same.forbids_back ts f d) u;
  }

  -- the parser in other words
  pub reads_same : {A : Type 0} (X : Rule T F A) (P Q : Parser T F A) (Stop : Stream T F → Type 0) → ((s : Stream T F) → P s ≡ Q s) → Reads misfit X P Stop → Reads misfit X Q Stop
  reads_same X P Q Stop same p = record {
    some = p.some;
    took = λ s a s' e. took_same misfit X P Q s a s' same (p.took s a s' (same s ∙ e));
    refused = λ s g s' e. refused_same misfit X P Q s g s' same (p.refused s g s' (same s ∙ e));
    takes = λ ts a d u stop. sym (same (before ts u)) ∙ p.takes ts a d u stop;
    forbids = λ ts f d u. sym (same (before ts u)) ∙ p.forbids ts f d u;
  }

  -- fewer may follow
  pub reads_stop : {A : Type 0} (X : Rule T F A) (P : Parser T F A) (Stop Less : Stream T F → Type 0) → ((u : Stream T F) → Less u → Stop u) → Reads misfit X P Stop → Reads misfit X P Less
  reads_stop X P Stop Less sub p = record { some = p.some; took = p.took; refused = p.refused; takes = λ ts a d u stop. p.takes ts a d u (sub u stop); forbids = p.forbids }

  abbrev either_by : {A : Type 0} → Parser T F A → Parser T F A → Bool → Parser T F A
  either_by P Q b s = cond b (P s) (Q s)

  -- a choice by the next token
  pub reads_either : {A : Type 0} (X Y : Rule T F A) (P Q : Parser T F A) (look : Stream T F → Bool) (Stop : Stream T F → Type 0) → ((s u : Stream T F) → Alike s u → look s ≡ look u)
      → Reads misfit X P Stop → Reads misfit Y Q Stop → Opens X Stop (λ u. look u ≡ true) → Opens Y Stop (λ u. look u ≡ false) → Reads misfit (X ∣ Y) (choose look P Q) Stop
  reads_either {A} X Y P Q look Stop near p q yes_open no_open = record {
    some = begins_same X (X ∣ Y) [] (λ ts a d. inl d) (λ ts f d. inl d) p.some;
    took = λ s a s' e. took s a s' (look s) refl e;
    refused = λ s g s' e. fails s g s' (look s) refl e;
    takes = λ ts a d u stop. takes ts a u stop d;
    forbids = λ ts f d u. forbids ts f u d;
  }
    where
      took : (s : Stream T F) (a : A) (s' : Stream T F) (b : Bool) → look s ≡ b → either_by P Q b s ≡ Ok (a, s') → Took (X ∣ Y) (choose look P Q) s a s'
      took s a s' true e h = took_look misfit (X ∣ Y) look (either_by P Q) s a s' near true e (took_rule misfit X (X ∣ Y) P s a s' (λ ts a d. inl d) (p.took s a s' h))
      took s a s' false e h = took_look misfit (X ∣ Y) look (either_by P Q) s a s' near false e (took_rule misfit Y (X ∣ Y) Q s a s' (λ ts a d. inr d) (q.took s a s' h))

      fails : (s : Stream T F) (g : F) (s' : Stream T F) (b : Bool) → look s ≡ b → either_by P Q b s ≡ Err (g, s') → Refused misfit (X ∣ Y) (choose look P Q) s g s'
      fails s g s' true e h = refused_look misfit (X ∣ Y) look (either_by P Q) s g s' near true e (refused_rule misfit X (X ∣ Y) P s g s' (λ ts a d. inl d) (λ ts f d. inl d) (p.refused s g s' h))
      fails s g s' false e h = refused_look misfit (X ∣ Y) look (either_by P Q) s g s' near false e (refused_rule misfit Y (X ∣ Y) Q s g s' (λ ts a d. inr d) (λ ts f d. inr d) (q.refused s g s' h))

      takes : (ts : List T) (a : A) (u : Stream T F) → Stop u → (X ∣ Y).is ts a → choose look P Q (before ts u) ≡ Ok (a, u)
      takes ts a u stop (inl d) = ap (λ b. either_by P Q b (before ts u)) (yes_open.is ts a d u stop) ∙ p.takes ts a d u stop
      takes ts a u stop (inr d) = ap (λ b. either_by P Q b (before ts u)) (no_open.is ts a d u stop) ∙ q.takes ts a d u stop

      forbids : (ts : List T) (f : F) (u : Stream T F) → (X ∣ Y).forbids ts f → choose look P Q (before ts u) ≡ Err (f, u)
      forbids ts f u (inl d) = ap (λ b. either_by P Q b (before ts u)) (yes_open.forbids ts f d u) ∙ p.forbids ts f d u
      forbids ts f u (inr d) = ap (λ b. either_by P Q b (before ts u)) (no_open.forbids ts f d u) ∙ q.forbids ts f d u

  -- ---- one token

  one_took : {A : Type 0} (class : T → Option A) (s : Stream T F) (t : T) (rest : List T) → s.tokens ≡ t ∷ rest → (o : Option A) → class t ≡ o → (a : A) (s' : Stream T F)
      → taken misfit o t rest s ≡ Ok (a, s') → Took (one class) (stream.one misfit class) s a s'
  one_took {A} class s t rest e (Some b) is a s' h =
      subst (λ (p : A × Stream T F). Took (one class) (stream.one misfit class) s p.0 p.1) (ok_is (b, advanced rest s) (a, s') h)
      (record { front = t ∷ []; parts = ap (λ ts. record s { tokens = ts }) e; derived = (t, refl, is); local = λ u same. ap (λ o. taken misfit o t u.tokens (before (t ∷ []) u)) is })
  one_took class s t rest e None is a s' h = absurd cc

  one_took_by : {A : Type 0} (class : T → Option A) (s : Stream T F) (l : List T) → s.tokens ≡ l → (a : A) (s' : Stream T F)
      → one_from misfit class l s ≡ Ok (a, s') → Took (one class) (stream.one misfit class) s a s'
  one_took_by class s [] e a s' h = absurd cc
  one_took_by class s (t ∷ rest) e a s' h = one_took class s t rest e (class t) refl a s' h

  at_stop : {A : Type 0} (class : T → Option A) (s u : Stream T F) (l : List T) → u.tokens ≡ l → AlikeBy [] l s u → one_from misfit class l u ≡ Err (s.stop, u)
  at_stop class s u [] e same = ap (λ f. Err (f, u)) (sym same.0)
  at_stop class s u (v ∷ us) e same = elim same [ ]

  at_token : {A : Type 0} (class : T → Option A) (t : T) (ts : List T) (s u : Stream T F) (l : List T) → class t ≡ None → AlikeBy (t ∷ ts) l s u → one_from misfit class l u ≡ Err (misfit t, u)
  at_token class t ts s u [] is same = elim same [ ]
  at_token class t ts s u (v ∷ us) is same = ap (λ o. taken misfit o v us u) (ap class (sym same) ∙ is) ∙ ap (λ x. Err (misfit x, u)) (sym same)

  one_refused_by : {A : Type 0} (class : T → Option A) → Begins (one {F = F} class) [] → (s : Stream T F) (l : List T) → s.tokens ≡ l → (f : F) (s' : Stream T F)
      → one_from misfit class l s ≡ Err (f, s') → Refused misfit (one class) (stream.one misfit class) s f s'
  one_refused_by {A} class some s [] e f s' h =
      subst (λ (p : F × Stream T F). Refused misfit (one class) (stream.one misfit class) s p.0 p.1) (err_is {X = A × Stream T F} (s.stop, s) (f, s') h)
      (record {
        front = [];
        parts = refl;
        begins = some;
        fault = inl (ap (λ l. own_from misfit l s.stop) (sym e));
        local = λ u same. at_stop class s u u.tokens refl (subst (λ l. AlikeBy l u.tokens s u) e same);
      })
  one_refused_by {A} class some s (t ∷ rest) e f s' h = by_class (class t) refl h
    where
      by_class : (c : Option A) → class t ≡ c → taken misfit c t rest s ≡ Err (f, s') → Refused misfit (one class) (stream.one misfit class) s f s'
      by_class (Some b) is h = absurd cc
      by_class None is h = subst (λ (p : F × Stream T F). Refused misfit (one class) (stream.one misfit class) s p.0 p.1) (err_is {X = A × Stream T F} (misfit t, s) (f, s') h)
          (record {
            front = [];
            parts = refl;
            begins = some;
            fault = inl (ap (λ l. own_from misfit l s.stop) (sym e));
            local = λ u same. at_token class t rest s u u.tokens is (subst (λ l. AlikeBy l u.tokens s u) e same);
          })

  pub reads_one : {A : Type 0} (class : T → Option A) (t : T) (a : A) → class t ≡ Some a → Reads misfit (one class) (stream.one misfit class) Any
  reads_one {A} class t a is = record {
    some = inl (t ∷ [], a, (t, refl, is));
    took = λ s a s' h. one_took_by class s s.tokens refl a s' h;
    refused = λ s f s' h. one_refused_by class (inl (t ∷ [], a, (t, refl, is))) s s.tokens refl f s' h;
    takes = λ ts a d u stop. ap (λ l. stream.one misfit class (before l u)) d.1 ∙ ap (λ o. taken misfit o d.0 u.tokens (before (d.0 ∷ []) u)) d.2;
    forbids = λ ts f d u. elim d [ ];
  }

-- ---- what the next token is like

looks_near_by : {T F : Type 0} (like : T → Bool) (a b : List T) (s u : Stream T F) → AlikeBy a b s u → looks_from like a ≡ looks_from like b
looks_near_by like [] [] s u same = refl
looks_near_by like [] (v ∷ us) s u same = elim same [ ]
looks_near_by like (t ∷ ts) [] s u same = elim same [ ]
looks_near_by like (t ∷ ts) (v ∷ us) s u same = ap like same

pub looks_near : {T F : Type 0} (like : T → Bool) (s u : Stream T F) → Alike s u → looks like s ≡ looks like u
looks_near like s u same = looks_near_by like s.tokens u.tokens s u same

pub opens_not : {T F A : Type 0} (X : Rule T F A) (Stop : Stream T F → Type 0) (look : Stream T F → Bool) (b : Bool) → Opens X Stop (λ u. look u ≡ b) → Opens X Stop (λ u. not (look u) ≡ not b)
opens_not X Stop look b x = record { is = λ ts a d u stop. ap not (x.is ts a d u stop); forbids = λ ts f d u. ap not (x.forbids ts f d u) }

pub opens_both : {T F A : Type 0} (X : Rule T F A) (Stop Q R : Stream T F → Type 0) → Opens X Stop Q → Opens X Stop R → Opens X Stop (λ u. Q u × R u)
opens_both X Stop Q R x y = record { is = λ ts a d u stop. (x.is ts a d u stop, y.is ts a d u stop); forbids = λ ts f d u. (x.forbids ts f d u, y.forbids ts f d u) }

-- fewer may follow
pub opens_stop : {T F A : Type 0} (X : Rule T F A) (Stop Less Q : Stream T F → Type 0) → ((u : Stream T F) → Less u → Stop u) → Opens X Stop Q → Opens X Less Q
opens_stop X Stop Less Q sub x = record { is = λ ts a d u stop. x.is ts a d u (sub u stop); forbids = x.forbids }

-- ---- rules that take at least one token

pub record Fills {T F A : Type 0} (X : Rule T F A) : Type 0 where
  pub is : (ts : List T) (a : A) → X.is ts a → 0 < length ts

pub fills_one : {T F A : Type 0} (class : T → Option A) → Fills (one {F = F} class)
fills_one class = record { is = λ ts a d. let e : length ts ≡ 1 = ap length d.1 in omega arith }

pub fills_first : {T F A B : Type 0} (X : Rule T F A) (Y : A → Rule T F B) → Fills X → Fills (rule.◌>>=◌ X Y)
fills_first X Y x = record { is = λ ts b d. let h = x.is d.0 d.2 d.4 in omega (arith, ap length d.3, length-append d.0 d.1) }

pub fills_second : {T F A B : Type 0} (X : Rule T F A) (Y : A → Rule T F B) → ((a : A) → Fills (Y a)) → Fills (rule.◌>>=◌ X Y)
fills_second X Y y = record { is = λ ts b d. let h = (y d.2).is d.1 b d.5 in omega (arith, ap length d.3, length-append d.0 d.1) }

pub fills_either : {T F A : Type 0} (X Y : Rule T F A) → Fills X → Fills Y → Fills (X ∣ Y)
fills_either {T} {F} {A} X Y x y = record { is = λ ts a d. by ts a d }
  where
    by : (ts : List T) (a : A) → (X ∣ Y).is ts a → 0 < length ts
    by ts a (inl d) = x.is ts a d
    by ts a (inr d) = y.is ts a d
