-- Grammars over the bytes of a text, read from the left by what stands next. A grammar says what stands between two
-- places, with which fault a text is refused that goes on from a place, and how both are found; and that these agree.
use Rattle.std.specs.Prelude.{◌≡◌, ℕ, zero, suc, ◌+◌, ◌≤◌, ◌<◌, min, Bool, true, false, cond, List, length, Option, Some, None, Result, Ok, Err, ◌⊎◌, refl}
use Rattle.std.proofs.Common.{ap, ◌∙◌, inl, inr, arith}

-- a place in a text: how many bytes are before it, and those after it
pub record At : Type 0 where
  pub offset : ℕ
  pub rest : List ℕ

abbrev pub left : At → ℕ
left s = length s.rest

abbrev pub Outcome : Type 0 → Type 0 → Type 0
Outcome F A = Result (A × At) F

abbrev pub and_then : {F A B : Type 0} → Outcome F A → (A → At → Outcome F B) → Outcome F B
and_then (Ok p) f = f p.0 p.1
and_then (Err e) f = Err e

-- reading finds what stands there, and the fault; nothing else stands there, and there is no other fault
pub record IsRead {F A : Type 0} (is : At → A → At → Type 0) (fails : At → F → Type 0) (least : ℕ) (read : At → Result (A × At) F) : Type 0 where
  pub found : (s : At) (a : A) (e : At) → read s ≡ Ok (a, e) → is s a e
  pub fault : (s : At) (f : F) → read s ≡ Err f → fails s f
  pub only : (s : At) (a : A) (e : At) → is s a e → read s ≡ Ok (a, e)
  pub only_fault : (s : At) (f : F) → fails s f → read s ≡ Err f
  pub less : (s : At) (a : A) (e : At) → read s ≡ Ok (a, e) → left e + least ≤ left s

pub record Grammar (F A : Type 0) : Type 1 where
  -- from the one place to the other stands this value
  pub is : At → A → At → Type 0
  -- what begins at the place is refused so
  pub fails : At → F → Type 0
  -- as it is found
  pub read : At → Result (A × At) F
  -- the fewest bytes of it
  pub least : ℕ
  pub law : IsRead is fails least read

-- ---- lemmas

abbrev done : {F X : Type 0} → X → Result X F
done x = Ok x

pub ok_is : {F X : Type 0} (x y : X) → done {F = F} x ≡ done y → x ≡ y
ok_is x y e = cc

abbrev failed : {F X : Type 0} → F → Result X F
failed f = Err f

pub err_is : {F X : Type 0} (f g : F) → failed {X = X} f ≡ failed g → f ≡ g
err_is f g e = cc

-- ---- nothing

abbrev pub Nothing : {A : Type 0} → A → At → A → At → Type 0
Nothing a s b e = (a ≡ b) × (s ≡ e)

abbrev pub Never : {F : Type 0} → At → F → Type 0
Never s f = ⊥

pub nothing_law : {F A : Type 0} (a : A) → IsRead {F = F} (Nothing a) Never 0 (λ s. Ok (a, s))
nothing_law {F} {A} a = record {
  found = λ s b e h. let p = ok_is {F = F} (a, s) (b, e) h in (ap (λ (q : A × At). q.0) p, ap (λ (q : A × At). q.1) p);
  fault = λ s f h. absurd cc;
  only = λ s b e h. let p = h.0 in let q = h.1 in ap (λ b. Ok (b, s)) p ∙ ap (λ e. Ok (b, e)) q;
  only_fault = λ s f h. absurd h;
  less = λ s b e h. let p = ap (λ (q : A × At). left q.1) (ok_is {F = F} (a, s) (b, e) h) in omega arith;
}

-- no bytes, and this value
abbrev pub nothing : {F A : Type 0} → A → Grammar F A
nothing {F} {A} a = record { is = Nothing a; fails = Never; read = λ s. Ok (a, s); least = 0; law = nothing_law {F = F} a }

-- ---- the place

abbrev pub Here : At → At → At → Type 0
Here s a e = (s ≡ a) × (s ≡ e)

pub here_law : {F : Type 0} → IsRead {F = F} Here Never 0 (λ s. Ok (s, s))
here_law {F} = record {
  found = λ s b e h. let p = ok_is {F = F} (s, s) (b, e) h in (ap (λ (q : At × At). q.0) p, ap (λ (q : At × At). q.1) p);
  fault = λ s f h. absurd cc;
  only = λ s b e h. let p = h.0 in let q = h.1 in ap (λ b. Ok (b, s)) p ∙ ap (λ e. Ok (b, e)) q;
  only_fault = λ s f h. absurd h;
  less = λ s b e h. let p = ap (λ (q : At × At). left q.1) (ok_is {F = F} (s, s) (b, e) h) in omega arith;
}

abbrev pub here : {F : Type 0} → Grammar F At
here {F} = record { is = Here; fails = Never; read = λ s. Ok (s, s); least = 0; law = here_law {F = F} }

-- ---- a condition

abbrev pub Allowed : {F : Type 0} → Option F → At → Unit {0} → At → Type 0
Allowed o s u e = (o ≡ None) × (s ≡ e)

abbrev pub Refused : {F : Type 0} → Option F → At → F → Type 0
Refused o s f = o ≡ Some f

abbrev pub allow_by : {F : Type 0} → Option F → At → Outcome F (Unit {0})
allow_by None s = Ok (tt, s)
allow_by (Some f) s = Err f

allow_found : {F : Type 0} (o : Option F) (s : At) (a : Unit {0}) (e : At) → allow_by o s ≡ Ok (a, e) → Allowed o s a e
allow_found {F} None s a e h = (refl, ap (λ (q : Unit {0} × At). q.1) (ok_is {F = F} (tt, s) (a, e) h))
allow_found (Some f) s a e h = absurd cc

allow_fault : {F : Type 0} (o : Option F) (s : At) (f : F) → allow_by o s ≡ Err f → Refused o s f
allow_fault None s f h = absurd cc
allow_fault {F} (Some g) s f h = ap (λ f. Some f) (err_is {X = Unit {0} × At} g f h)

pub allow_law : {F : Type 0} (o : Option F) → IsRead (Allowed o) (Refused o) 0 (allow_by o)
allow_law {F} o = record {
  found = allow_found o;
  fault = allow_fault o;
  only = λ s a e h. ap (λ o. allow_by o s) h.0 ∙ ap (λ e. Ok (a, e)) h.1;
  only_fault = λ s f h. ap (λ o. allow_by o s) h;
  less = λ s a e h. let p = ap left (allow_found o s a e h).1 in omega arith;
}

-- no bytes, and no fault
abbrev pub unless : {F : Type 0} → Option F → Grammar F (Unit {0})
unless o = record { is = Allowed o; fails = Refused o; read = allow_by o; least = 0; law = allow_law o }

-- ---- a refusal

abbrev pub None_stands : {A : Type 0} → At → A → At → Type 0
None_stands s a e = ⊥

pub refused_law : {F A : Type 0} (fault : At → F) → IsRead {F = F} {A = A} None_stands (λ s f. fault s ≡ f) 1 (λ s. Err (fault s))
refused_law {F} {A} fault = record {
  found = λ s a e h. absurd cc;
  fault = λ s f h. err_is {X = A × At} (fault s) f h;
  only = λ s a e h. absurd h;
  only_fault = λ s f h. ap (λ f. Err f) h;
  less = λ s a e h. absurd cc;
}

-- nothing stands here
abbrev pub refused : {F A : Type 0} → (At → F) → Grammar F A
refused {F} {A} fault = record { is = None_stands; fails = λ s f. fault s ≡ f; read = λ s. Err (fault s); least = 1; law = refused_law {A = A} fault }

-- ---- one after the other

abbrev pub Then : {F A B : Type 0} → Grammar F A → (A → Grammar F B) → At → B → At → Type 0
Then X f s b e = (m : At) × (a : _) × X.is s a m × (f a).is m b e

abbrev pub FailsThen : {F A B : Type 0} → Grammar F A → (A → Grammar F B) → At → F → Type 0
FailsThen X f s d = X.fails s d ⊎ ((m : At) × (a : _) × X.is s a m × (f a).fails m d)

abbrev pub read_then : {F A B : Type 0} → Grammar F A → (A → Grammar F B) → At → Outcome F B
read_then X f s = and_then (X.read s) (λ a m. (f a).read m)

then_found : {F A B : Type 0} (X : Grammar F A) (f : A → Grammar F B) (s : At) (r : Outcome F A) → X.read s ≡ r → (b : B) (e : At) → and_then r (λ a m. (f a).read m) ≡ Ok (b, e) → Then X f s b e
then_found X f s (Ok (a, m)) h b e g = (m, a, X.law.found s a m h, (f a).law.found m b e g)
then_found X f s (Err d) h b e g = absurd cc

then_fault : {F A B : Type 0} (X : Grammar F A) (f : A → Grammar F B) (s : At) (r : Outcome F A) → X.read s ≡ r → (d : F) → and_then r (λ a m. (f a).read m) ≡ Err d → FailsThen X f s d
then_fault X f s (Ok (a, m)) h d g = inr (m, a, X.law.found s a m h, (f a).law.fault m d g)
then_fault {F} {A} {B} X f s (Err c) h d g = inl (X.law.fault s d (h ∙ ap (λ c. Err c) (err_is {X = B × At} c d g)))

then_only_fault : {F A B : Type 0} (X : Grammar F A) (f : A → Grammar F B) (s : At) (d : F) → FailsThen X f s d → read_then X f s ≡ Err d
then_only_fault X f s d (inl h) = ap (λ r. and_then r (λ a m. (f a).read m)) (X.law.only_fault s d h)
then_only_fault X f s d (inr (m, a, h, g)) = ap (λ r. and_then r (λ a m. (f a).read m)) (X.law.only s a m h) ∙ (f a).law.only_fault m d g

then_less : {F A B : Type 0} (X : Grammar F A) (f : A → Grammar F B) (s : At) (r : Outcome F A) → X.read s ≡ r → (b : B) (e : At) → and_then r (λ a m. (f a).read m) ≡ Ok (b, e) → left e + X.least ≤ left s
then_less X f s (Ok (a, m)) h b e g = let x = X.law.less s a m h in let y = (f a).law.less m b e g in omega arith
then_less X f s (Err d) h b e g = absurd cc

pub then_law : {F A B : Type 0} (X : Grammar F A) (f : A → Grammar F B) → IsRead (Then X f) (FailsThen X f) X.least (read_then X f)
then_law X f = record {
  found = λ s b e h. then_found X f s (X.read s) refl b e h;
  fault = λ s d h. then_fault X f s (X.read s) refl d h;
  only = λ s b e h. ap (λ r. and_then r (λ a m. (f a).read m)) (X.law.only s h.1 h.0 h.2) ∙ (f h.1).law.only h.0 b e h.3;
  only_fault = then_only_fault X f;
  less = λ s b e h. then_less X f s (X.read s) refl b e h;
}

infixl 10 ◌>>=◌
abbrev pub ◌>>=◌ : {F A B : Type 0} → Grammar F A → (A → Grammar F B) → Grammar F B
X >>= f = record { is = Then X f; fails = FailsThen X f; read = read_then X f; least = X.least; law = then_law X f }

infixl 10 ◌>>◌
abbrev pub ◌>>◌ : {F A B : Type 0} → Grammar F A → Grammar F B → Grammar F B
X >> Y = X >>= (λ _. Y)

-- ---- a choice by what stands next

abbrev pub chosen : Bool → Type 0 → Type 0 → Type 0
chosen true P Q = P
chosen false P Q = Q

pub chosen_of : {X : Type 0} (P Q : X → Type 0) (b : Bool) (x y z : X) → cond b x y ≡ z → (x ≡ z → P z) → (y ≡ z → Q z) → chosen b (P z) (Q z)
chosen_of P Q true x y z e p q = p e
chosen_of P Q false x y z e p q = q e

pub cond_of : {X P Q : Type 0} (b : Bool) (x y z : X) → chosen b P Q → (P → x ≡ z) → (Q → y ≡ z) → cond b x y ≡ z
cond_of true x y z h p q = p h
cond_of false x y z h p q = q h

either_less : {X : Type 0} (b : Bool) (x y z : X) (m n l k : ℕ) → cond b x y ≡ z → (x ≡ z → l + m ≤ k) → (y ≡ z → l + n ≤ k) → l + min m n ≤ k
either_less true x y z m n l k e p q = let h = p e in omega arith
either_less false x y z m n l k e p q = let h = q e in omega arith

pub given_law : {F A : Type 0} (test : At → Bool) (X Y : Grammar F A)
    → IsRead (λ s a e. chosen (test s) (X.is s a e) (Y.is s a e)) (λ s f. chosen (test s) (X.fails s f) (Y.fails s f)) (min X.least Y.least) (λ s. cond (test s) (X.read s) (Y.read s))
given_law {F} {A} test X Y = record {
  found = λ s a e h. chosen_of (λ (z : Outcome F A). X.is s a e) (λ z. Y.is s a e) (test s) (X.read s) (Y.read s) (Ok (a, e)) h (X.law.found s a e) (Y.law.found s a e);
  fault = λ s f h. chosen_of (λ (z : Outcome F A). X.fails s f) (λ z. Y.fails s f) (test s) (X.read s) (Y.read s) (Err f) h (X.law.fault s f) (Y.law.fault s f);
  only = λ s a e h. cond_of (test s) (X.read s) (Y.read s) (Ok (a, e)) h (X.law.only s a e) (Y.law.only s a e);
  only_fault = λ s f h. cond_of (test s) (X.read s) (Y.read s) (Err f) h (X.law.only_fault s f) (Y.law.only_fault s f);
  less = λ s a e h. either_less (test s) (X.read s) (Y.read s) (Ok (a, e)) X.least Y.least (left e) (left s) h (X.law.less s a e) (Y.law.less s a e);
}

-- the first where the test holds of the place, else the second
abbrev pub given : {F A : Type 0} → (At → Bool) → Grammar F A → Grammar F A → Grammar F A
given test X Y = record {
  is = λ s a e. chosen (test s) (X.is s a e) (Y.is s a e);
  fails = λ s f. chosen (test s) (X.fails s f) (Y.fails s f);
  read = λ s. cond (test s) (X.read s) (Y.read s);
  least = min X.least Y.least;
  law = given_law test X Y;
}

-- ---- a loop

-- the turns go on from a to b
abbrev pub Goes : {F A : Type 0} → (A → At → Bool) → (A → Grammar F A) → ℕ → A → At → A → At → Type 0
Goes test X zero a s b e = (test a s ≡ false) × (a ≡ b) × (s ≡ e)
Goes test X (suc n) a s b e = (test a s ≡ true) × (m : At) × (c : _) × (X a).is s c m × Goes test X n c m b e

-- after this many turns the next one is refused
abbrev pub Breaks : {F A : Type 0} → (A → At → Bool) → (A → Grammar F A) → ℕ → A → At → F → Type 0
Breaks test X zero a s f = (test a s ≡ true) × (X a).fails s f
Breaks test X (suc n) a s f = (test a s ≡ true) × (m : At) × (c : _) × (X a).is s c m × Breaks test X n c m f

unfoldable pub loop_by : {F A : Type 0} → (A → At → Bool) → (A → Grammar F A) → ℕ → A → At → Outcome F A
loop_by test X zero a s = Ok (a, s)
loop_by test X (suc n) a s = cond (test a s) (and_then ((X a).read s) (loop_by test X n)) (Ok (a, s))

module _ {F A : Type 0} (test : A → At → Bool) (X : A → Grammar F A) (some : (a : A) → 1 ≤ (X a).least) where
  found_turn : (n : ℕ) → ((a : A) (s : At) → left s < n → (b : A) (e : At) → loop_by test X n a s ≡ Ok (b, e) → (k : ℕ) × Goes test X k a s b e)
      → (a : A) (s : At) → left s < suc n → (t : Bool) → test a s ≡ t → (r : Outcome F A) → (X a).read s ≡ r → (b : A) (e : At)
      → cond t (and_then r (loop_by test X n)) (Ok (a, s)) ≡ Ok (b, e) → (k : ℕ) × Goes test X k a s b e
  found_turn n next a s l true t (Ok (c, m)) h b e g =
      let x = (X a).law.less s c m h in
      let one = some a in
      let fewer : left m < n = omega arith in
      let rest = next c m fewer b e g in
      (suc rest.0, (t, m, c, (X a).law.found s c m h, rest.1))
  found_turn n next a s l true t (Err d) h b e g = absurd cc
  found_turn n next a s l false t r h b e g =
      let p = ok_is {F = F} (a, s) (b, e) g in
      (0, (t, ap (λ (q : A × At). q.0) p, ap (λ (q : A × At). q.1) p))

  loop_found : (n : ℕ) (a : A) (s : At) → left s < n → (b : A) (e : At) → loop_by test X n a s ≡ Ok (b, e) → (k : ℕ) × Goes test X k a s b e
  unfolding loop_by
  loop_found zero a s l b e h = absurd (omega arith)
  loop_found (suc n) a s l b e h = found_turn n (loop_found n) a s l (test a s) refl ((X a).read s) refl b e h

  fault_turn : (n : ℕ) → ((a : A) (s : At) → left s < n → (f : F) → loop_by test X n a s ≡ Err f → (k : ℕ) × Breaks test X k a s f)
      → (a : A) (s : At) → left s < suc n → (t : Bool) → test a s ≡ t → (r : Outcome F A) → (X a).read s ≡ r → (f : F)
      → cond t (and_then r (loop_by test X n)) (Ok (a, s)) ≡ Err f → (k : ℕ) × Breaks test X k a s f
  fault_turn n next a s l true t (Ok (c, m)) h f g =
      let x = (X a).law.less s c m h in
      let one = some a in
      let fewer : left m < n = omega arith in
      let rest = next c m fewer f g in
      (suc rest.0, (t, m, c, (X a).law.found s c m h, rest.1))
  fault_turn n next a s l true t (Err d) h f g = (0, (t, (X a).law.fault s f (h ∙ ap (λ c. Err c) (err_is {X = A × At} d f g))))
  fault_turn n next a s l false t r h f g = absurd cc

  loop_fault : (n : ℕ) (a : A) (s : At) → left s < n → (f : F) → loop_by test X n a s ≡ Err f → (k : ℕ) × Breaks test X k a s f
  unfolding loop_by
  loop_fault zero a s l f h = absurd (omega arith)
  loop_fault (suc n) a s l f h = fault_turn n (loop_fault n) a s l (test a s) refl ((X a).read s) refl f h

  loop_only : (k n : ℕ) (a : A) (s : At) → left s < n → (b : A) (e : At) → Goes test X k a s b e → loop_by test X n a s ≡ Ok (b, e)
  unfolding loop_by
  loop_only k zero a s l b e h = absurd (omega arith)
  loop_only zero (suc n) a s l b e h =
      let p = h.1 in
      let q = h.2 in
      ap (λ t. cond t (and_then ((X a).read s) (loop_by test X n)) (Ok (a, s))) h.0 ∙ ap (λ b. Ok (b, s)) p ∙ ap (λ e. Ok (b, e)) q
  loop_only (suc k) (suc n) a s l b e h =
      let read = (X a).law.only s h.2 h.1 h.3 in
      let x = (X a).law.less s h.2 h.1 read in
      let one = some a in
      let fewer : left h.1 < n = omega arith in
      ap (λ t. cond t (and_then ((X a).read s) (loop_by test X n)) (Ok (a, s))) h.0 ∙ ap (λ r. and_then r (loop_by test X n)) read ∙ loop_only k n h.2 h.1 fewer b e h.4

  loop_only_fault : (k n : ℕ) (a : A) (s : At) → left s < n → (f : F) → Breaks test X k a s f → loop_by test X n a s ≡ Err f
  unfolding loop_by
  loop_only_fault k zero a s l f h = absurd (omega arith)
  loop_only_fault zero (suc n) a s l f h =
      ap (λ t. cond t (and_then ((X a).read s) (loop_by test X n)) (Ok (a, s))) h.0 ∙ ap (λ r. and_then r (loop_by test X n)) ((X a).law.only_fault s f h.1)
  loop_only_fault (suc k) (suc n) a s l f h =
      let read = (X a).law.only s h.2 h.1 h.3 in
      let x = (X a).law.less s h.2 h.1 read in
      let one = some a in
      let fewer : left h.1 < n = omega arith in
      ap (λ t. cond t (and_then ((X a).read s) (loop_by test X n)) (Ok (a, s))) h.0 ∙ ap (λ r. and_then r (loop_by test X n)) read ∙ loop_only_fault k n h.2 h.1 fewer f h.4

  goes_less : (k : ℕ) (a : A) (s : At) (b : A) (e : At) → Goes test X k a s b e → left e ≤ left s
  goes_less zero a s b e h = let p = ap left h.2 in omega arith
  goes_less (suc k) a s b e h =
      let x = (X a).law.less s h.2 h.1 ((X a).law.only s h.2 h.1 h.3) in
      let rest = goes_less k h.2 h.1 b e h.4 in
      omega arith

  pub loop_law : (a : A) → IsRead (λ s b e. (k : ℕ) × Goes test X k a s b e) (λ s f. (k : ℕ) × Breaks test X k a s f) 0 (λ s. loop_by test X (suc (left s)) a s)
  loop_law a = record {
    found = λ s b e h. loop_found (suc (left s)) a s (omega arith) b e h;
    fault = λ s f h. loop_fault (suc (left s)) a s (omega arith) f h;
    only = λ s b e h. loop_only h.0 (suc (left s)) a s (omega arith) b e h.1;
    only_fault = λ s f h. loop_only_fault h.0 (suc (left s)) a s (omega arith) f h.1;
    less = λ s b e h. let g = loop_found (suc (left s)) a s (omega arith) b e h in let l = goes_less g.0 a s b e g.1 in omega arith;
  }

  -- one turn after the other while the test holds, from a state on
  abbrev pub loop : A → Grammar F A
  loop a = record {
    is = λ s b e. (k : ℕ) × Goes test X k a s b e;
    fails = λ s f. (k : ℕ) × Breaks test X k a s f;
    read = λ s. loop_by test X (suc (left s)) a s;
    least = 0;
    law = loop_law a;
  }

  -- the number of turns doesn't matter
  enough_turn : (n m : ℕ) → ((a : A) (s : At) → left s < n → left s < m → loop_by test X n a s ≡ loop_by test X m a s)
      → (a : A) (s : At) → left s < suc n → left s < suc m → (r : Outcome F A) → (X a).read s ≡ r → and_then r (loop_by test X n) ≡ and_then r (loop_by test X m)
  enough_turn n m next a s l g (Ok (c, e)) h =
      let x = (X a).law.less s c e h in
      let one = some a in
      next c e (omega arith) (omega arith)
  enough_turn n m next a s l g (Err d) h = refl

  enough : (n m : ℕ) (a : A) (s : At) → left s < n → left s < m → loop_by test X n a s ≡ loop_by test X m a s
  unfolding loop_by
  enough zero m a s l g = absurd (omega arith)
  enough (suc n) zero a s l g = absurd (omega arith)
  enough (suc n) (suc m) a s l g = ap (λ r. cond (test a s) r (Ok (a, s))) (enough_turn n m (enough n m) a s l g ((X a).read s) refl)

  after_turn : (n : ℕ) (a : A) (s : At) → left s ≤ n → (r : Outcome F A) → (X a).read s ≡ r → and_then r (loop_by test X n) ≡ and_then r (λ c m. loop_by test X (suc (left m)) c m)
  after_turn n a s l (Ok (c, m)) h =
      let x = (X a).law.less s c m h in
      let one = some a in
      enough n (suc (left m)) c m (omega arith) (omega arith)
  after_turn n a s l (Err d) h = refl

  -- what one turn does
  pub loop_next : (a : A) (s : At) → (loop a).read s ≡ cond (test a s) (and_then ((X a).read s) (λ c m. (loop c).read m)) (Ok (a, s))
  unfolding loop_by
  loop_next a s = ap (λ r. cond (test a s) r (Ok (a, s))) (after_turn (left s) a s (omega arith) ((X a).read s) refl)
