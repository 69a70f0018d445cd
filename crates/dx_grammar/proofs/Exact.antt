-- What reads a rule reads texts of it exactly, to their first error.
use Rattle.std.proofs.Common.{◌≡◌, Bool, true, false, cond, List, [], ◌∷◌, ◌++◌, ◌⊎◌, inl, inr, Ok, Err, refl, sym, ap, subst, ◌∙◌, append_assoc, append-nil}
use Rattle.dx_grammar.specs.Stream.{Stream, Outcome, Parser, and_then, ◌>>◌, pure, own, own_from, end, end_from, text}
use Rattle.dx_grammar.specs.Rule.{Rule, Begins}
use Rattle.dx_grammar.specs.FirstError.{IsText, Ends, FirstError}
use Rattle.dx_grammar.proofs.Read.{before, Alike, AlikeBy, alike_refl, Reads, ok_is, err_is, not_both, begins_less, goes_on}

-- ---- one fault at most

two_parts : {T : Type 0} (x y v w : List T) → x ++ y ≡ v ++ w → ((x ≡ v) × (y ≡ w)) ⊎ (((t : T) × (z : List T) × (v ≡ x ++ t ∷ z) × (y ≡ t ∷ (z ++ w))) ⊎ ((t : T) × (z : List T) × (x ≡ v ++ t ∷ z) × (w ≡ t ∷ (z ++ y))))
two_parts [] y [] w e = inl (refl, e)
two_parts [] y (t ∷ z) w e = inr (inl (t, z, refl, e))
two_parts (t ∷ z) y [] w e = inr (inr (t, z, refl, sym e))
two_parts {T} (a ∷ x) y (b ∷ v) w e = both (two_parts x y v w rest)
  where
    heads : a ≡ b
    heads = cc

    rest : x ++ y ≡ v ++ w
    rest = cc

    both : ((x ≡ v) × (y ≡ w)) ⊎ (((t : T) × (z : List T) × (v ≡ x ++ t ∷ z) × (y ≡ t ∷ (z ++ w))) ⊎ ((t : T) × (z : List T) × (x ≡ v ++ t ∷ z) × (w ≡ t ∷ (z ++ y))))
        → ((a ∷ x ≡ b ∷ v) × (y ≡ w)) ⊎ (((t : T) × (z : List T) × (b ∷ v ≡ (a ∷ x) ++ t ∷ z) × (y ≡ t ∷ (z ++ w))) ⊎ ((t : T) × (z : List T) × (a ∷ x ≡ (b ∷ v) ++ t ∷ z) × (w ≡ t ∷ (z ++ y))))
    both (inl (p, q)) = inl ((let h = heads in cc), q)
    both (inr (inl (t, z, p, q))) = inr (inl (t, z, (let h = heads in cc), q))
    both (inr (inr (t, z, p, q))) = inr (inr (t, z, (let h = heads in cc), q))

module _ {T F A : Type 0} (misfit : T → F) (X : Rule T F A) where
  past_end : (front rest more : List T) (t : T) (z : List T) → Ends X front rest → rest ≡ t ∷ more → Begins X (front ++ t ∷ z) → ⊥
  past_end front [] more t z ends e begins = absurd cc
  past_end front (v ∷ rest) more t z ends e begins =
      let same : v ≡ t = cc in
      ends (subst (λ x. Begins X (front ++ x ∷ [])) (sym same) (begins_less X (front ++ t ∷ []) z (subst (λ l. Begins X l) (sym (append_assoc front (t ∷ []) z)) begins)))

  one_fault : (s : Stream T F) (f g : F) (x : FirstError misfit X s f) (y : FirstError misfit X s g) → x.front ≡ y.front → x.rest ≡ y.rest → (f ≡ own_from misfit x.rest s.stop) ⊎ X.forbids x.front f → (g ≡ own_from misfit y.rest s.stop) ⊎ X.forbids y.front g → f ≡ g
  one_fault s f g x y same rest (inl e) (inl h) = e ∙ ap (λ l. own_from misfit l s.stop) rest ∙ sym h
  one_fault s f g x y same rest (inl e) (inr h) = sym (x.only g (subst (λ l. X.forbids l g) (sym same) h))
  one_fault s f g x y same rest (inr h) q = y.only f (subst (λ l. X.forbids l f) same h)

  -- a text has one first error
  pub determined : (s : Stream T F) (f g : F) → FirstError misfit X s f → FirstError misfit X s g → f ≡ g
  determined s f g x y = by (two_parts x.front x.rest y.front y.rest (sym x.parts ∙ y.parts))
    where
      by : ((x.front ≡ y.front) × (x.rest ≡ y.rest)) ⊎ (((t : T) × (z : List T) × (y.front ≡ x.front ++ t ∷ z) × (x.rest ≡ t ∷ (z ++ y.rest))) ⊎ ((t : T) × (z : List T) × (x.front ≡ y.front ++ t ∷ z) × (y.rest ≡ t ∷ (z ++ x.rest)))) → f ≡ g
      by (inl (same, rest)) = one_fault s f g x y same rest x.fault y.fault
      by (inr (inl (t, z, longer, e))) = absurd (past_end x.front x.rest (z ++ y.rest) t z x.ends e (subst (λ l. Begins X l) longer y.begins))
      by (inr (inr (t, z, longer, e))) = absurd (past_end y.front y.rest (z ++ x.rest) t z y.ends e (subst (λ l. Begins X l) longer x.begins))

-- ---- the end of the text

module _ {T F A : Type 0} (misfit : T → F) where
  end_found : (l : List T) (m s' : Stream T F) (w : Bool) (b a : A) → m.tokens ≡ l → m.whole ≡ w → and_then (end_from misfit l m) (λ _. pure b) ≡ Ok (a, s') → (m.tokens ≡ []) × (m.whole ≡ true) × (b ≡ a)
  end_found [] m s' true b a e is h = (e, is, ap (λ (p : A × Stream T F). p.0) (ok_is {Y = F × Stream T F} (b, m) (a, s') (ap (λ w. and_then (cond w (Ok (tt {0}, m)) (Err (m.stop, m))) (λ _. pure b)) (sym is) ∙ h)))
  end_found [] m s' false b a e is h = let now = ap (λ w. and_then (cond w (Ok (tt {0}, m)) (Err (m.stop, m))) (λ _. pure b)) (sym is) ∙ h in absurd cc
  end_found (t ∷ l) m s' w b a e is h = absurd cc

  end_refused : (l : List T) (m s' : Stream T F) (w : Bool) (b : A) (f : F) → m.whole ≡ w → and_then (end_from misfit l m) (λ _. pure b) ≡ Err (f, s') → f ≡ own_from misfit l m.stop
  end_refused [] m s' true b f is h = let now = ap (λ w. and_then (cond w (Ok (tt {0}, m)) (Err (m.stop, m))) (λ _. pure b)) (sym is) ∙ h in absurd cc
  end_refused [] m s' false b f is h = sym (ap (λ (p : F × Stream T F). p.0) (err_is {X = A × Stream T F} (m.stop, m) (f, s') (ap (λ w. and_then (cond w (Ok (tt {0}, m)) (Err (m.stop, m))) (λ _. pure b)) (sym is) ∙ h)))
  end_refused (t ∷ l) m s' w b f is h = sym (ap (λ (p : F × Stream T F). p.0) (err_is {X = A × Stream T F} (misfit t, m) (f, s') h))

-- ---- the theorem

-- the stream that is read to its end
abbrev pub emptied : {T F : Type 0} → Stream T F → Stream T F
emptied s = record s { tokens = [] }

abbrev left : {T F A : Type 0} → Outcome T F A → Stream T F
left (Ok p) = p.1
left (Err e) = e.1

module _ {T F A : Type 0} (misfit : T → F) (X : Rule T F A) (P : Parser T F A) (Stop : Stream T F → Type 0) (reads : Reads misfit X P Stop) (ending : (u : Stream T F) → u.tokens ≡ [] → Stop u) where
  to_end : (s : Stream T F) → before s.tokens (emptied s) ≡ s
  to_end s = ap (λ l. record s { tokens = l }) (append-nil s.tokens)

  -- what is in the rule is read, as that
  pub only : (s : Stream T F) (a : A) → IsText X s a → text misfit P s ≡ Ok (a, emptied s)
  only s a d =
      ap (text misfit P) (sym (to_end s))
      ∙ goes_on P (λ a. end misfit >> pure a) (before s.tokens (emptied s)) (emptied s) a (reads.takes s.tokens a d.derived (emptied s) (ending (emptied s) refl))
      ∙ ap (λ w. and_then (cond w (Ok (tt {0}, emptied s)) (Err (s.stop, emptied s))) (λ _. pure a)) d.whole

  -- what is read is in the rule
  pub sound : (s : Stream T F) (a : A) (s' : Stream T F) → text misfit P s ≡ Ok (a, s') → IsText X s a
  sound s a s' h = by (P s) refl h
    where
      by : (r : Outcome T F A) → P s ≡ r → and_then r (λ a. end misfit >> pure a) ≡ Ok (a, s') → IsText X s a
      by (Ok (b, m)) e g =
          let t = reads.took s b m e in
          let z = end_found misfit m.tokens m s' m.whole b a refl refl g in
          let all : t.front ≡ s.tokens = sym (append-nil t.front) ∙ ap (λ l. t.front ++ l) (sym z.0) ∙ sym (ap (λ (x : Stream T F). x.tokens) t.parts) in
          record { whole = ap (λ (x : Stream T F). x.whole) t.parts ∙ z.1; derived = subst (λ v. X.is s.tokens v) z.2 (subst (λ l. X.is l b) all t.derived) }
      by (Err d) e g = absurd cc

  alike_next : (l : List T) (m : Stream T F) (v : T) (tail more : List T) → m.tokens ≡ l → l ≡ v ∷ tail → Alike m (before (v ∷ more) (emptied m))
  alike_next l m v tail more e e2 = subst (λ k. AlikeBy k ((v ∷ more) ++ []) m (before (v ∷ more) (emptied m))) (sym (e ∙ e2)) refl

  -- where it always stops after these tokens, nothing goes on
  ends_by : (front : List T) (m : Stream T F) → ((u : Stream T F) → Alike m u → left (P (before front u)) ≡ u) → (l : List T) → m.tokens ≡ l → Ends X front l
  ends_by front m local [] e = tt
  ends_by front m local (v ∷ tail) e = λ begins. by begins
    where
      parts : (more : List T) → before ((front ++ v ∷ []) ++ more) (emptied m) ≡ before front (before (v ∷ more) (emptied m))
      parts more = ap (λ l. record m { tokens = l }) (append_assoc (front ++ v ∷ []) more [] ∙ append_assoc front (v ∷ []) (more ++ []))

      never : (more : List T) → left (P (before ((front ++ v ∷ []) ++ more) (emptied m))) ≡ emptied m → ⊥
      never more is =
          let both : before (v ∷ more) (emptied m) ≡ emptied m = sym (local (before (v ∷ more) (emptied m)) (alike_next (v ∷ tail) m v tail more e refl)) ∙ ap (λ x. left (P x)) (sym (parts more)) ∙ is in
          let tokens : v ∷ (more ++ []) ≡ [] = ap (λ (x : Stream T F). x.tokens) both in
          cc

      by : Begins X (front ++ v ∷ []) → ⊥
      by (inl (more, a, d)) = never more (ap left (reads.takes ((front ++ v ∷ []) ++ more) a d (emptied m) (ending (emptied m) refl)))
      by (inr (more, g, d)) = never more (ap left (reads.forbids ((front ++ v ∷ []) ++ more) g d (emptied m)))

  same_stop : (s m : Stream T F) (front : List T) (f : F) → s ≡ before front m → (f ≡ own misfit m) ⊎ X.forbids front f → (f ≡ own_from misfit m.tokens s.stop) ⊎ X.forbids front f
  same_stop s m front f e (inl h) = inl (h ∙ ap (λ x. own_from misfit m.tokens x) (sym (ap (λ (x : Stream T F). x.stop) e)))
  same_stop s m front f e (inr h) = inr h

  -- what is refused is refused at its first error
  pub exact : (s : Stream T F) (f : F) (s' : Stream T F) → text misfit P s ≡ Err (f, s') → FirstError misfit X s f
  exact s f s' h = by (P s) refl h
    where
      none : (a : A) → IsText X s a → ⊥
      none a d = not_both (text misfit P s) (a, emptied s) (f, s') (only s a d) h

      by : (r : Outcome T F A) → P s ≡ r → and_then r (λ a. end misfit >> pure a) ≡ Err (f, s') → FirstError misfit X s f
      by (Ok (b, m)) e g =
          let t = reads.took s b m e in
          record {
            front = t.front;
            rest = m.tokens;
            parts = ap (λ (x : Stream T F). x.tokens) t.parts;
            begins = inl ([], b, subst (λ l. X.is l b) (sym (append-nil t.front)) t.derived);
            ends = ends_by t.front m (λ u same. ap left (t.local u same)) m.tokens refl;
            fault = same_stop s m t.front f t.parts (inl (end_refused misfit m.tokens m s' m.whole b f refl g));
            only = λ k d. absurd (not_both (P s) (b, m) (k, m) e (ap P t.parts ∙ reads.forbids t.front k d m));
            none = none;
          }
      by (Err d) e g =
          let is : P s ≡ Err (f, s') = e ∙ ap (λ x. Err x) (err_is {X = A × Stream T F} d (f, s') g) in
          let r = reads.refused s f s' is in
          record {
            front = r.front;
            rest = s'.tokens;
            parts = ap (λ (x : Stream T F). x.tokens) r.parts;
            begins = r.begins;
            ends = ends_by r.front s' (λ u same. ap left (r.local u same)) s'.tokens refl;
            fault = same_stop s s' r.front f r.parts r.fault;
            only = λ k d. ap (λ (p : F × Stream T F). p.0) (err_is {X = A × Stream T F} (k, s') (f, s') (sym (reads.forbids r.front k d s') ∙ r.local s' (alike_refl s'.tokens s')));
            none = none;
          }
