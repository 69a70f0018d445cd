-- When a parser reads a rule: what it took is in the rule; where it refuses, the tokens before begin something of the
-- rule; neither depends on anything after the next token; what is in the rule is read; what it forbids is refused so.
-- X, Y and Z are rules, P and Q parsers, ts tokens, s and u streams, a and b values, f and g faults.
use Rattle.std.proofs.Common.{◌≡◌, List, [], ◌∷◌, ◌++◌, ◌⊎◌, inl, inr, Result, Ok, Err, refl, sym, ap, subst, ◌∙◌, append_assoc}
use Rattle.dx_grammar.specs.Stream.{Stream, Parser, and_then, ◌>>=◌, own, own_from}
use Rattle.dx_grammar.specs.Rule.{Rule, Begins}
use Rattle.dx_grammar.specs.Rule as rule

-- the stream with these tokens before it
abbrev pub before : {T F : Type 0} → List T → Stream T F → Stream T F
before front s = record s { tokens = front ++ s.tokens }

abbrev pub AlikeBy : {T F : Type 0} → List T → List T → Stream T F → Stream T F → Type 0
AlikeBy [] [] s u = (s.stop ≡ u.stop) × (s.whole ≡ u.whole)
AlikeBy [] (v ∷ us) s u = ⊥
AlikeBy (t ∷ ts) [] s u = ⊥
AlikeBy (t ∷ ts) (v ∷ us) s u = t ≡ v

-- the next token is the same, or both end in the same way
abbrev pub Alike : {T F : Type 0} → Stream T F → Stream T F → Type 0
Alike s u = AlikeBy s.tokens u.tokens s u

-- what follows doesn't matter
abbrev pub Any : {T F : Type 0} → Stream T F → Type 0
Any u = Unit {0}

pub record Took {T F A : Type 0} (X : Rule T F A) (P : Stream T F → Result (A × Stream T F) (F × Stream T F)) (s : Stream T F) (a : A) (s' : Stream T F) : Type 0 where
  pub front : List T
  pub parts : s ≡ before front s'
  pub derived : X.is front a
  pub local : (u : Stream T F) → Alike s' u → P (before front u) ≡ Ok (a, u)

pub record Refused {T F A : Type 0} (misfit : T → F) (X : Rule T F A) (P : Stream T F → Result (A × Stream T F) (F × Stream T F)) (s : Stream T F) (f : F) (s' : Stream T F) : Type 0 where
  pub front : List T
  pub parts : s ≡ before front s'
  pub begins : Begins X front
  pub fault : (f ≡ own misfit s') ⊎ X.forbids front f
  pub local : (u : Stream T F) → Alike s' u → P (before front u) ≡ Err (f, u)

-- P reads X wherever what follows is in Stop
pub record Reads {T F A : Type 0} (misfit : T → F) (X : Rule T F A) (P : Stream T F → Result (A × Stream T F) (F × Stream T F)) (Stop : Stream T F → Type 0) : Type 0 where
  pub some : Begins X []
  pub took : (s : Stream T F) (a : A) (s' : Stream T F) → P s ≡ Ok (a, s') → Took X P s a s'
  pub refused : (s : Stream T F) (f : F) (s' : Stream T F) → P s ≡ Err (f, s') → Refused misfit X P s f s'
  pub takes : (ts : List T) (a : A) → X.is ts a → (u : Stream T F) → Stop u → P (before ts u) ≡ Ok (a, u)
  pub forbids : (ts : List T) (f : F) → X.forbids ts f → (u : Stream T F) → P (before ts u) ≡ Err (f, u)

-- whatever X reads or refuses by name begins so
pub record Opens {T F A : Type 0} (X : Rule T F A) (Stop Q : Stream T F → Type 0) : Type 0 where
  pub is : (ts : List T) (a : A) → X.is ts a → (u : Stream T F) → Stop u → Q (before ts u)
  pub forbids : (ts : List T) (f : F) → X.forbids ts f → (u : Stream T F) → Q (before ts u)

-- Y says what X says
pub record Same {T F A : Type 0} (X Y : Rule T F A) : Type 0 where
  pub there : (ts : List T) (a : A) → X.is ts a → Y.is ts a
  pub back : (ts : List T) (a : A) → Y.is ts a → X.is ts a
  pub forbids_there : (ts : List T) (f : F) → X.forbids ts f → Y.forbids ts f
  pub forbids_back : (ts : List T) (f : F) → Y.forbids ts f → X.forbids ts f

-- ---- streams

pub before-append : {T F : Type 0} (x y : List T) (s : Stream T F) → before (x ++ y) s ≡ before x (before y s)
before-append x y s = ap (λ ts. record s { tokens = ts }) (append_assoc x y s.tokens)

pub alike_refl : {T F : Type 0} (ts : List T) (s : Stream T F) → AlikeBy ts ts s s
alike_refl [] s = (refl, refl)
alike_refl (t ∷ ts) s = refl

pub alike_before : {T F : Type 0} (x : List T) (s u : Stream T F) → Alike s u → Alike (before x s) (before x u)
alike_before [] s u same = same
alike_before (t ∷ x) s u same = refl

alike_sym_by : {T F : Type 0} (a b : List T) (s u : Stream T F) → AlikeBy a b s u → AlikeBy b a u s
alike_sym_by [] [] s u same = (sym same.0, sym same.1)
alike_sym_by [] (v ∷ us) s u same = same
alike_sym_by (t ∷ ts) [] s u same = same
alike_sym_by (t ∷ ts) (v ∷ us) s u same = sym same

own_near_by : {T F : Type 0} (misfit : T → F) (a b : List T) (s u : Stream T F) → AlikeBy a b s u → own_from misfit a s.stop ≡ own_from misfit b u.stop
own_near_by misfit [] [] s u same = same.0
own_near_by misfit [] (v ∷ us) s u same = elim same [ ]
own_near_by misfit (t ∷ ts) [] s u same = elim same [ ]
own_near_by misfit (t ∷ ts) (v ∷ us) s u same = ap misfit same

pub own_near : {T F : Type 0} (misfit : T → F) (s u : Stream T F) → Alike s u → own misfit s ≡ own misfit u
own_near misfit s u same = own_near_by misfit s.tokens u.tokens s u same

-- ---- outcomes

pub ok_is : {X Y : Type 0} (x y : X) → (let r : Result X Y = Ok x in r) ≡ Ok y → x ≡ y
ok_is x y e = cc

pub err_is : {X Y : Type 0} (x y : Y) → (let r : Result X Y = Err x in r) ≡ Err y → x ≡ y
err_is x y e = cc

pub not_both : {X Y : Type 0} (r : Result X Y) (x : X) (y : Y) → r ≡ Ok x → r ≡ Err y → ⊥
not_both r x y e h = cc

-- ---- beginnings

pub begins_first : {T F A B : Type 0} (X : Rule T F A) (Y : A → Rule T F B) (front : List T) → Begins X front → ((a : A) → Begins (Y a) []) → Begins (rule.◌>>=◌ X Y) front
begins_first X Y front (inl (more, a, d)) some = after (some a)
  where
    after : Begins (Y a) [] → Begins (rule.◌>>=◌ X Y) front
    after (inl (rest, b, e)) = inl (more ++ rest, b, (front ++ more, rest, a, sym (append_assoc front more rest), d, e))
    after (inr (rest, f, e)) = inr (more ++ rest, f, inr (front ++ more, rest, a, sym (append_assoc front more rest), d, e))
begins_first X Y front (inr (more, f, d)) some = inr (more, f, inl d)

pub begins_second : {T F A B : Type 0} (X : Rule T F A) (Y : A → Rule T F B) (x y : List T) (a : A) → X.is x a → Begins (Y a) y → Begins (rule.◌>>=◌ X Y) (x ++ y)
begins_second X Y x y a d (inl (rest, b, e)) = inl (rest, b, (x, y ++ rest, a, append_assoc x y rest, d, e))
begins_second X Y x y a d (inr (rest, f, e)) = inr (rest, f, inr (x, y ++ rest, a, append_assoc x y rest, d, e))

pub begins_same : {T F A : Type 0} (X Y : Rule T F A) (front : List T) → ((ts : List T) (a : A) → X.is ts a → Y.is ts a) → ((ts : List T) (f : F) → X.forbids ts f → Y.forbids ts f) → Begins X front → Begins Y front
begins_same X Y front there forbids (inl (more, a, d)) = inl (more, a, there (front ++ more) a d)
begins_same X Y front there forbids (inr (more, f, d)) = inr (more, f, forbids (front ++ more) f d)

-- a beginning of a beginning
pub begins_less : {T F A : Type 0} (X : Rule T F A) (x y : List T) → Begins X (x ++ y) → Begins X x
begins_less X x y (inl (more, a, d)) = inl (y ++ more, a, subst (λ l. X.is l a) (append_assoc x y more) d)
begins_less X x y (inr (more, f, d)) = inr (y ++ more, f, subst (λ l. X.forbids l f) (append_assoc x y more) d)

-- ---- steps

-- the front is taken, and the rest goes on
pub goes_on : {T F A B : Type 0} (P : Parser T F A) (f : A → Parser T F B) (s m : Stream T F) (a : A) → P s ≡ Ok (a, m) → (P >>= f) s ≡ f a m
goes_on P f s m a e = ap (λ r. and_then r f) e

pub stops : {T F A B : Type 0} (P : Parser T F A) (f : A → Parser T F B) (s m : Stream T F) (g : F) → P s ≡ Err (g, m) → (P >>= f) s ≡ Err (g, m)
stops P f s m g e = ap (λ r. and_then r f) e

pub split : {T F X : Type 0} (P : Stream T F → X) (ts x y : List T) (u : Stream T F) → ts ≡ x ++ y → P (before ts u) ≡ P (before x (before y u))
split P ts x y u e = ap (λ l. P (before l u)) e ∙ ap P (before-append x y u)

module _ {T F : Type 0} (misfit : T → F) where
  pub took_then : {A B : Type 0} (X : Rule T F A) (Y : A → Rule T F B) (P : Parser T F A) (f : A → Parser T F B) (s m s' : Stream T F) (a : A) (b : B)
      → Took X P s a m → Took (Y a) (f a) m b s' → Took (rule.◌>>=◌ X Y) (P >>= f) s b s'
  took_then X Y P f s m s' a b t1 t2 = record {
    front = t1.front ++ t2.front;
    parts = t1.parts ∙ ap (before t1.front) t2.parts ∙ sym (before-append t1.front t2.front s');
    derived = (t1.front, t2.front, a, refl, t1.derived, t2.derived);
    local = λ u same.
        let next : Alike m (before t2.front u) = subst (λ (x : Stream T F). Alike x (before t2.front u)) (sym t2.parts) (alike_before t2.front s' u same) in
        ap (λ x. and_then (P x) f) (before-append t1.front t2.front u) ∙ ap (λ r. and_then r f) (t1.local (before t2.front u) next) ∙ t2.local u same;
  }

  second_fault : {A B : Type 0} (X : Rule T F A) (Y : A → Rule T F B) (x y : List T) (s' : Stream T F) (a : A) (g : F) → X.is x a
      → (g ≡ own misfit s') ⊎ (Y a).forbids y g → (g ≡ own misfit s') ⊎ (rule.◌>>=◌ X Y).forbids (x ++ y) g
  second_fault X Y x y s' a g d (inl e) = inl e
  second_fault X Y x y s' a g d (inr h) = inr (inr (x, y, a, refl, d, h))

  pub refused_then : {A B : Type 0} (X : Rule T F A) (Y : A → Rule T F B) (P : Parser T F A) (f : A → Parser T F B) (s m s' : Stream T F) (a : A) (g : F)
      → Took X P s a m → Refused misfit (Y a) (f a) m g s' → Refused misfit (rule.◌>>=◌ X Y) (P >>= f) s g s'
  refused_then X Y P f s m s' a g t1 t2 = record {
    front = t1.front ++ t2.front;
    parts = t1.parts ∙ ap (before t1.front) t2.parts ∙ sym (before-append t1.front t2.front s');
    begins = begins_second X Y t1.front t2.front a t1.derived t2.begins;
    fault = second_fault X Y t1.front t2.front s' a g t1.derived t2.fault;
    local = λ u same.
        let next : Alike m (before t2.front u) = subst (λ (x : Stream T F). Alike x (before t2.front u)) (sym t2.parts) (alike_before t2.front s' u same) in
        ap (λ x. and_then (P x) f) (before-append t1.front t2.front u) ∙ ap (λ r. and_then r f) (t1.local (before t2.front u) next) ∙ t2.local u same;
  }

  first_fault : {A B : Type 0} (X : Rule T F A) (Y : A → Rule T F B) (x : List T) (s' : Stream T F) (g : F)
      → (g ≡ own misfit s') ⊎ X.forbids x g → (g ≡ own misfit s') ⊎ (rule.◌>>=◌ X Y).forbids x g
  first_fault X Y x s' g (inl e) = inl e
  first_fault X Y x s' g (inr h) = inr (inl h)

  pub refused_first : {A B : Type 0} (X : Rule T F A) (Y : A → Rule T F B) (P : Parser T F A) (f : A → Parser T F B) (s s' : Stream T F) (g : F)
      → Refused misfit X P s g s' → ((a : A) → Begins (Y a) []) → Refused misfit (rule.◌>>=◌ X Y) (P >>= f) s g s'
  refused_first X Y P f s s' g r some = record {
    front = r.front;
    parts = r.parts;
    begins = begins_first X Y r.front r.begins some;
    fault = first_fault X Y r.front s' g r.fault;
    local = λ u same. ap (λ r. and_then r f) (r.local u same);
  }

  -- a larger rule
  pub took_rule : {A : Type 0} (X Y : Rule T F A) (P : Parser T F A) (s : Stream T F) (a : A) (s' : Stream T F) → ((ts : List T) (a : A) → X.is ts a → Y.is ts a) → Took X P s a s' → Took Y P s a s'
  took_rule X Y P s a s' wider t = record { front = t.front; parts = t.parts; derived = wider t.front a t.derived; local = t.local }

  same_fault : {A : Type 0} (X Y : Rule T F A) (x : List T) (s' : Stream T F) (g : F) → ((ts : List T) (f : F) → X.forbids ts f → Y.forbids ts f) → (g ≡ own misfit s') ⊎ X.forbids x g → (g ≡ own misfit s') ⊎ Y.forbids x g
  same_fault X Y x s' g wider (inl e) = inl e
  same_fault X Y x s' g wider (inr h) = inr (wider x g h)

  pub refused_rule : {A : Type 0} (X Y : Rule T F A) (P : Parser T F A) (s : Stream T F) (g : F) (s' : Stream T F) → ((ts : List T) (a : A) → X.is ts a → Y.is ts a)
      → ((ts : List T) (f : F) → X.forbids ts f → Y.forbids ts f) → Refused misfit X P s g s' → Refused misfit Y P s g s'
  refused_rule X Y P s g s' wider forbids r = record { front = r.front; parts = r.parts; begins = begins_same X Y r.front wider forbids r.begins; fault = same_fault X Y r.front s' g forbids r.fault; local = r.local }

  -- an equal parser
  pub took_same : {A : Type 0} (X : Rule T F A) (P Q : Parser T F A) (s : Stream T F) (a : A) (s' : Stream T F) → ((s : Stream T F) → P s ≡ Q s) → Took X P s a s' → Took X Q s a s'
  took_same X P Q s a s' same t = record { front = t.front; parts = t.parts; derived = t.derived; local = λ u h. sym (same (before t.front u)) ∙ t.local u h }

  pub refused_same : {A : Type 0} (X : Rule T F A) (P Q : Parser T F A) (s : Stream T F) (g : F) (s' : Stream T F) → ((s : Stream T F) → P s ≡ Q s) → Refused misfit X P s g s' → Refused misfit X Q s g s'
  refused_same X P Q s g s' same r = record { front = r.front; parts = r.parts; begins = r.begins; fault = r.fault; local = λ u h. sym (same (before r.front u)) ∙ r.local u h }

  -- a choice by the next token
  pub took_look : {A K : Type 0} (X : Rule T F A) (look : Stream T F → K) (h : K → Parser T F A) (s : Stream T F) (a : A) (s' : Stream T F) → ((s u : Stream T F) → Alike s u → look s ≡ look u)
      → (k : K) → look s ≡ k → Took X (h k) s a s' → Took X (λ s. h (look s) s) s a s'
  took_look X look h s a s' near k is t = record {
    front = t.front;
    parts = t.parts;
    derived = t.derived;
    local = λ u same.
        let seen : look (before t.front u) ≡ k = sym (ap look t.parts ∙ near (before t.front s') (before t.front u) (alike_before t.front s' u same)) ∙ is in
        ap (λ k. h k (before t.front u)) seen ∙ t.local u same;
  }

  pub refused_look : {A K : Type 0} (X : Rule T F A) (look : Stream T F → K) (h : K → Parser T F A) (s : Stream T F) (g : F) (s' : Stream T F) → ((s u : Stream T F) → Alike s u → look s ≡ look u)
      → (k : K) → look s ≡ k → Refused misfit X (h k) s g s' → Refused misfit X (λ s. h (look s) s) s g s'
  refused_look X look h s g s' near k is r = record {
    front = r.front;
    parts = r.parts;
    begins = r.begins;
    fault = r.fault;
    local = λ u same.
        let seen : look (before r.front u) ≡ k = sym (ap look r.parts ∙ near (before r.front s') (before r.front u) (alike_before r.front s' u same)) ∙ is in
        ap (λ k. h k (before r.front u)) seen ∙ r.local u same;
  }
