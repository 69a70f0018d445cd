-- Rules that say at least what others say: what each way to make a rule keeps of that.
use Rattle.std.proofs.Common.{List, [], ◌∷◌, inl, inr, sym, append-nil}
use Rattle.dx_grammar.specs.Rule.{Rule, Run, nothing, ◌∣◌, more, with_all}
use Rattle.dx_grammar.specs.Rule as rule

-- Y says at least what X says
pub record Wider {T F A : Type 0} (X Y : Rule T F A) : Type 0 where
  pub is : (ts : List T) (a : A) → X.is ts a → Y.is ts a
  pub forbids : (ts : List T) (f : F) → X.forbids ts f → Y.forbids ts f

pub wider_refl : {T F A : Type 0} {X : Rule T F A} → Wider X X
wider_refl = record { is = λ ts a d. d; forbids = λ ts f d. d }

pub wider_trans : {T F A : Type 0} {X Y Z : Rule T F A} → Wider X Y → Wider Y Z → Wider X Z
wider_trans x y = record { is = λ ts a d. y.is ts a (x.is ts a d); forbids = λ ts f d. y.forbids ts f (x.forbids ts f d) }

pub wider_then : {T F A B : Type 0} {X W : Rule T F A} {Y Z : A → Rule T F B} → Wider X W → ((a : A) → Wider (Y a) (Z a)) → Wider (rule.◌>>=◌ X Y) (rule.◌>>=◌ W Z)
wider_then {T} {F} {A} {B} {X} {W} {Y} {Z} x y = record { is = λ ts b d. is ts b d; forbids = λ ts f d. no ts f d }
  where
    is : (ts : List T) (b : B) → (rule.◌>>=◌ X Y).is ts b → (rule.◌>>=◌ W Z).is ts b
    is ts b (p, q, a, e, d, h) = (p, q, a, e, x.is p a d, (y a).is q b h)

    no : (ts : List T) (f : F) → (rule.◌>>=◌ X Y).forbids ts f → (rule.◌>>=◌ W Z).forbids ts f
    no ts f (inl d) = inl (x.forbids ts f d)
    no ts f (inr (p, q, a, e, d, h)) = inr (p, q, a, e, x.is p a d, (y a).forbids q f h)

pub wider_either : {T F A : Type 0} {X Y Z W : Rule T F A} → Wider X Y → Wider Z W → Wider (X ∣ Z) (Y ∣ W)
wider_either {T} {F} {A} {X} {Y} {Z} {W} x z = record { is = λ ts a d. is ts a d; forbids = λ ts f d. no ts f d }
  where
    is : (ts : List T) (a : A) → (X ∣ Z).is ts a → (Y ∣ W).is ts a
    is ts a (inl d) = inl (x.is ts a d)
    is ts a (inr d) = inr (z.is ts a d)

    no : (ts : List T) (f : F) → (X ∣ Z).forbids ts f → (Y ∣ W).forbids ts f
    no ts f (inl d) = inl (x.forbids ts f d)
    no ts f (inr d) = inr (z.forbids ts f d)

pub wider_left : {T F A : Type 0} {X Y : Rule T F A} → Wider X (X ∣ Y)
wider_left = record { is = λ ts a d. inl d; forbids = λ ts f d. inl d }

pub wider_right : {T F A : Type 0} {X Y : Rule T F A} → Wider Y (X ∣ Y)
wider_right = record { is = λ ts a d. inr d; forbids = λ ts f d. inr d }

module _ {T F A S : Type 0} (X Y : S → Rule T F A) (add : S → A → S) (each : (found : S) → Wider (X found) (Y found)) where
  run_wider : (new : List A) (found : S) (ts : List T) → Run X add found ts new → Run Y add found ts new
  run_wider [] found ts e = e
  run_wider (a ∷ new) found ts (x, y, e, d, run) = (x, y, e, (each found).is x a d, run_wider new (add found a) y run)

  more_wider : (found : S) → Wider (more X add found) (more Y add found)
  more_wider found = record {
    is = λ ts all d. (d.0, d.1, run_wider d.0 found ts d.2);
    forbids = λ ts f d. (d.0, d.1, d.2, d.3, run_wider d.0 found d.1 d.4, (each (with_all add found d.0)).forbids d.2 f d.5);
  }

pub wider_more : {T F A S : Type 0} {X Y : S → Rule T F A} {add : S → A → S} → ((found : S) → Wider (X found) (Y found)) → (found : S) → Wider (more X add found) (more Y add found)
wider_more {T} {F} {A} {S} {X} {Y} {add} each found = more_wider X Y add each found

-- a rule alone, of which nothing more need come
pub wider_alone : {T F A : Type 0} (X : Rule T F A) (Y : A → Rule T F A) → ((a : A) → (Y a).is [] a) → Wider X (rule.◌>>=◌ X Y)
wider_alone X Y more = record { is = λ ts a d. (ts, [], a, sym (append-nil ts), d, more a); forbids = λ ts f d. inl d }
