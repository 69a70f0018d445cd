-- The law of loops: a loop reads any number of items, and no bound on its turns is needed, since each takes a token.
use Rattle.std.proofs.Common.{◌≡◌, ℕ, zero, suc, ◌<◌, Bool, true, false, cond, List, [], ◌∷◌, ◌++◌, length, inl, inr, Ok, Err, refl, sym, ap, subst, ◌∙◌, append_assoc, length-append, arith}
use Rattle.dx_grammar.specs.Stream.{Stream, Outcome, Parser, and_then, ◌>>=◌, pure, choose, turns, while}
use Rattle.dx_grammar.specs.Rule.{Rule, Begins, Run, more, with_all}
use Rattle.dx_grammar.specs.Rule as rule
use Rattle.dx_grammar.proofs.Read.{before, before-append, Alike, Took, Refused, Reads, Opens, ok_is, err_is, goes_on, stops, took_then, refused_then, refused_first, took_rule, refused_rule, took_same, refused_same, took_look, refused_look}

-- the loop has nothing more to do, and what was read last is at its end
abbrev pub Past : {T F : Type 0} → (Stream T F → Bool) → (Stream T F → Type 0) → Stream T F → Type 0
Past look Mid u = (look u ≡ false) × Mid u

-- what a parser leaves is shorter
abbrev pub Shrinks : {T F A : Type 0} → Parser T F A → Type 0
Shrinks {T} {F} {A} P = (s : Stream T F) (a : A) (s' : Stream T F) → P s ≡ Ok (a, s') → length s'.tokens < length s.tokens

pub shrinks : {T F A : Type 0} (misfit : T → F) (X : Rule T F A) (P : Parser T F A) (Stop : Stream T F → Type 0) → Reads misfit X P Stop → ((ts : List T) (a : A) → X.is ts a → 0 < length ts) → Shrinks P
shrinks {T} {F} misfit X P Stop reads fills s a s' e =
    let t = reads.took s a s' e in
    let some = fills t.front a t.derived in
    let parts : s.tokens ≡ t.front ++ s'.tokens = ap (λ (x : Stream T F). x.tokens) t.parts in
    omega (arith, ap length parts, length-append t.front s'.tokens)

-- ---- a turn of the loop

module _ {T F A S : Type 0} (P : S → Parser T F A) (add : S → A → S) (look : Stream T F → Bool) (less : (found : S) → Shrinks (P found)) where
  same_after : (n m : ℕ) (found : S) (r : Outcome T F A)
      → ((a : A) (s' : Stream T F) → r ≡ Ok (a, s') → turns look P add n (add found a) s' ≡ turns look P add m (add found a) s')
      → and_then r (λ a. turns look P add n (add found a)) ≡ and_then r (λ a. turns look P add m (add found a))
  same_after n m found (Ok (a, s')) same = same a s' refl
  same_after n m found (Err d) same = refl

  turns_same : (n m : ℕ) (found : S) (s : Stream T F) → length s.tokens < n → length s.tokens < m → turns look P add n found s ≡ turns look P add m found s
  unfolding turns
  turns_same zero m found s h g = absurd (omega arith)
  turns_same (suc n) zero found s h g = absurd (omega arith)
  turns_same (suc n) (suc m) found s h g =
      ap (λ r. cond (look s) r (Ok (found, s))) (same_after n m found (P found s) (λ a s' e. let l = less found s a s' e in turns_same n m (add found a) s' (omega arith) (omega arith)))

  while_after : (n : ℕ) (found : S) (r : Outcome T F A) → ((a : A) (s' : Stream T F) → r ≡ Ok (a, s') → length s'.tokens < n)
      → and_then r (λ a. turns look P add n (add found a)) ≡ and_then r (λ a. while look P add (add found a))
  unfolding while
  while_after n found (Ok (a, s')) short = let l = short a s' refl in turns_same n (suc (length s'.tokens)) (add found a) s' l (omega arith)
  while_after n found (Err d) short = refl

  pub while_next : (found : S) (s : Stream T F) → while look P add found s ≡ choose look (P found >>= λ a. while look P add (add found a)) (pure found) s
  unfolding while turns
  while_next found s = ap (λ r. cond (look s) r (Ok (found, s))) (while_after (length s.tokens) found (P found s) (λ a s' e. less found s a s' e))

-- ---- what they open with

module _ {T F A S : Type 0} (X : S → Rule T F A) (add : S → A → S) (Mid : Stream T F → Type 0) (follows : (found : S) → Opens (X found) Mid Mid) where
  -- an item is at its end, also where other items follow
  pub run_mid : (new : List A) (found : S) (ts : List T) → Run X add found ts new → (u : Stream T F) → Mid u → Mid (before ts u)
  run_mid [] found ts e u mid = subst (λ l. Mid (before l u)) (sym e) mid
  run_mid (a ∷ new) found ts (x, y, e, d, run) u mid =
      subst (λ (s : Stream T F). Mid s) (sym (ap (λ l. before l u) e ∙ before-append x y u)) ((follows found).is x a d (before y u) (run_mid new (add found a) y run u mid))

  -- what they open with: an item, or what comes after them
  pub opens_more : (found : S) (Stop Q : Stream T F → Type 0) → ((u : Stream T F) → Stop u → Mid u) → ((u : Stream T F) → Stop u → Q u) → ((found : S) → Opens (X found) Mid Q) → Opens (more X add found) Stop Q
  opens_more found Stop Q mid none item = record { is = λ ts all d u stop. is d.0 found ts d.2 u stop; forbids = λ ts f d u. no d.0 found d.1 d.2 ts f d.3 d.4 d.5 u }
    where
      is : (new : List A) (found : S) (ts : List T) → Run X add found ts new → (u : Stream T F) → Stop u → Q (before ts u)
      is [] found ts e u stop = subst (λ l. Q (before l u)) (sym e) (none u stop)
      is (a ∷ new) found ts (x, y, e, d, run) u stop = subst (λ (s : Stream T F). Q s) (sym (ap (λ l. before l u) e ∙ before-append x y u)) ((item found).is x a d (before y u) (run_mid new (add found a) y run u (mid u stop)))

      no : (new : List A) (found : S) (x y ts : List T) (f : F) → ts ≡ x ++ y → Run X add found x new → (X (with_all add found new)).forbids y f → (u : Stream T F) → Q (before ts u)
      no [] found x y ts f e e2 g u = subst (λ (s : Stream T F). Q s) (sym (ap (λ l. before l u) e ∙ ap (λ l. before (l ++ y) u) e2)) ((item found).forbids y f g u)
      no (a ∷ new) found x y ts f e (p, q, e2, d, run) g u =
          let next = before y u in
          let m : Mid (before q next) = run_mid new (add found a) q run next ((follows (with_all add (add found a) new)).forbids y f g u) in
          subst (λ (s : Stream T F). Q s) (sym (ap (λ l. before l u) e ∙ before-append x y u ∙ ap (λ l. before l next) e2 ∙ before-append p q next)) ((item found).is p a d (before q next) m)

-- ---- the law

module _ {T F A S : Type 0} (misfit : T → F) (X : S → Rule T F A) (P : S → Parser T F A) (add : S → A → S) (look : Stream T F → Bool) (Mid : Stream T F → Type 0)
    (near : (s u : Stream T F) → Alike s u → look s ≡ look u)
    (each : (found : S) → Reads misfit (X found) (P found) Mid)
    (fills : (found : S) (ts : List T) (a : A) → (X found).is ts a → 0 < length ts)
    (opens : (found : S) → Opens (X found) Mid (λ u. look u ≡ true))
    (follows : (found : S) → Opens (X found) Mid Mid) where
  abbrev turn : S → Parser T F S
  turn found = P found >>= λ a. while look P add (add found a)

  abbrev by : S → Bool → Parser T F S
  by found b s = cond b (turn found s) (Ok (found, s))

  less : (found : S) → Shrinks (P found)
  less found = shrinks misfit (X found) (P found) Mid (each found) (fills found)

  pub while_turns : (found : S) (s : Stream T F) → while look P add found s ≡ choose look (turn found) (pure found) s
  while_turns found s = while_next P add look less found s

  join : (found : S) (ts : List T) (all : S) → (rule.◌>>=◌ (X found) (λ a. more X add (add found a))).is ts all → (more X add found).is ts all
  join found ts all (x, y, a, e, d, (new, same, run)) = (a ∷ new, same, (x, y, e, d, run))

  join_no : (found : S) (ts : List T) (f : F) → (rule.◌>>=◌ (X found) (λ a. more X add (add found a))).forbids ts f → (more X add found).forbids ts f
  join_no found ts f (inl d) = ([], [], ts, refl, refl, d)
  join_no found ts f (inr (x, y, a, e, d, (new, p, q, e2, run, g))) =
      (a ∷ new, x ++ p, q, e ∙ ap (λ l. x ++ l) e2 ∙ sym (append_assoc x p q), (x, p, refl, d, run), g)

  some_more : (found : S) → Begins (more X add found) []
  some_more found = inl ([], found, ([], refl, refl))

  shorter : (n : ℕ) (s m : Stream T F) → length s.tokens < suc n → length m.tokens < length s.tokens → length m.tokens < n
  shorter n s m h g = omega arith

  took_turn : (found : S) (s s' : Stream T F) (all : S) (r : Outcome T F A) → P found s ≡ r → and_then r (λ a. while look P add (add found a)) ≡ Ok (all, s')
      → ((a : A) (m : Stream T F) → P found s ≡ Ok (a, m) → while look P add (add found a) m ≡ Ok (all, s') → Took (more X add (add found a)) (while look P add (add found a)) m all s')
      → Took (more X add found) (turn found) s all s'
  took_turn found s s' all (Ok (a, m)) e h later =
      took_rule misfit (rule.◌>>=◌ (X found) (λ a. more X add (add found a))) (more X add found) (turn found) s all s' (join found)
      (took_then misfit (X found) (λ a. more X add (add found a)) (P found) (λ a. while look P add (add found a)) s m s' a all ((each found).took s a m e) (later a m e h))
  took_turn found s s' all (Err d) e h later = absurd cc

  took_none : (found : S) (s s' : Stream T F) (all : S) → (let r : Outcome T F S = Ok (found, s) in r) ≡ Ok (all, s') → Took (more X add found) (pure found) s all s'
  took_none found s s' all h = subst (λ (p : S × Stream T F). Took (more X add found) (pure found) s p.0 p.1) (ok_is (found, s) (all, s') h) (record { front = []; parts = refl; derived = ([], refl, refl); local = λ u same. refl })

  took_by : (n : ℕ) (found : S) (s : Stream T F) → length s.tokens < n → (all : S) (s' : Stream T F) → while look P add found s ≡ Ok (all, s') → Took (more X add found) (while look P add found) s all s'
  took_by zero found s short all s' e = absurd (omega arith)
  took_by (suc n) found s short all s' e = took_same misfit (more X add found) (choose look (turn found) (pure found)) (while look P add found) s all s' (λ s. sym (while_turns found s)) (look_by (look s) refl (sym (while_turns found s) ∙ e)
      (λ a m h g. took_by n (add found a) m (shorter n s m short (less found s a m h)) all s' g))
    where
      look_by : (b : Bool) → look s ≡ b → by found b s ≡ Ok (all, s')
          → ((a : A) (m : Stream T F) → P found s ≡ Ok (a, m) → while look P add (add found a) m ≡ Ok (all, s') → Took (more X add (add found a)) (while look P add (add found a)) m all s')
          → Took (more X add found) (choose look (turn found) (pure found)) s all s'
      look_by true is h later = took_look misfit (more X add found) look (by found) s all s' near true is (took_turn found s s' all (P found s) refl h later)
      look_by false is h later = took_look misfit (more X add found) look (by found) s all s' near false is (took_none found s s' all h)

  refused_turn : (found : S) (s s' : Stream T F) (f : F) (r : Outcome T F A) → P found s ≡ r → and_then r (λ a. while look P add (add found a)) ≡ Err (f, s')
      → ((a : A) (m : Stream T F) → P found s ≡ Ok (a, m) → while look P add (add found a) m ≡ Err (f, s') → Refused misfit (more X add (add found a)) (while look P add (add found a)) m f s')
      → Refused misfit (more X add found) (turn found) s f s'
  refused_turn found s s' f (Ok (a, m)) e h later =
      refused_rule misfit (rule.◌>>=◌ (X found) (λ a. more X add (add found a))) (more X add found) (turn found) s f s' (join found) (join_no found)
      (refused_then misfit (X found) (λ a. more X add (add found a)) (P found) (λ a. while look P add (add found a)) s m s' a f ((each found).took s a m e) (later a m e h))
  refused_turn found s s' f (Err d) e h later =
      let is : P found s ≡ Err (f, s') = e ∙ ap (λ x. Err x) (err_is {X = S × Stream T F} d (f, s') h) in
      refused_rule misfit (rule.◌>>=◌ (X found) (λ a. more X add (add found a))) (more X add found) (turn found) s f s' (join found) (join_no found)
      (refused_first misfit (X found) (λ a. more X add (add found a)) (P found) (λ a. while look P add (add found a)) s s' f ((each found).refused s f s' is) (λ a. some_more (add found a)))

  refused_by : (n : ℕ) (found : S) (s : Stream T F) → length s.tokens < n → (f : F) (s' : Stream T F) → while look P add found s ≡ Err (f, s') → Refused misfit (more X add found) (while look P add found) s f s'
  refused_by zero found s short f s' e = absurd (omega arith)
  refused_by (suc n) found s short f s' e = refused_same misfit (more X add found) (choose look (turn found) (pure found)) (while look P add found) s f s' (λ s. sym (while_turns found s)) (look_by (look s) refl (sym (while_turns found s) ∙ e)
      (λ a m h g. refused_by n (add found a) m (shorter n s m short (less found s a m h)) f s' g))
    where
      look_by : (b : Bool) → look s ≡ b → by found b s ≡ Err (f, s')
          → ((a : A) (m : Stream T F) → P found s ≡ Ok (a, m) → while look P add (add found a) m ≡ Err (f, s') → Refused misfit (more X add (add found a)) (while look P add (add found a)) m f s')
          → Refused misfit (more X add found) (choose look (turn found) (pure found)) s f s'
      look_by true is h later = refused_look misfit (more X add found) look (by found) s f s' near true is (refused_turn found s s' f (P found s) refl h later)
      look_by false is h later = absurd cc

  run_takes : (new : List A) (found : S) (ts : List T) → Run X add found ts new → (u : Stream T F) → Past look Mid u → while look P add found (before ts u) ≡ Ok (with_all add found new, u)
  run_takes [] found ts e u stop =
      ap (λ l. while look P add found (before l u)) e ∙ while_turns found u ∙ ap (λ b. by found b u) stop.0
  run_takes (a ∷ new) found ts (x, y, e, d, run) u stop =
      let mid : Mid (before y u) = run_mid X add Mid follows new (add found a) y run u stop.1 in
      ap (while look P add found) (ap (λ l. before l u) e ∙ before-append x y u)
      ∙ while_turns found (before x (before y u))
      ∙ ap (λ b. by found b (before x (before y u))) ((opens found).is x a d (before y u) mid)
      ∙ goes_on (P found) (λ a. while look P add (add found a)) (before x (before y u)) (before y u) a ((each found).takes x a d (before y u) mid)
      ∙ run_takes new (add found a) y run u stop

  run_forbids : (new : List A) (found : S) (x y : List T) (f : F) → Run X add found x new → (X (with_all add found new)).forbids y f → (u : Stream T F) → while look P add found (before x (before y u)) ≡ Err (f, u)
  run_forbids [] found x y f e g u =
      ap (λ l. while look P add found (before l (before y u))) e
      ∙ while_turns found (before y u)
      ∙ ap (λ b. by found b (before y u)) ((opens found).forbids y f g u)
      ∙ stops (P found) (λ a. while look P add (add found a)) (before y u) u f ((each found).forbids y f g u)
  run_forbids (a ∷ new) found x y f (p, q, e, d, run) g u =
      let next = before y u in
      let mid : Mid (before q next) = run_mid X add Mid follows new (add found a) q run next ((follows (with_all add (add found a) new)).forbids y f g u) in
      ap (while look P add found) (ap (λ l. before l next) e ∙ before-append p q next)
      ∙ while_turns found (before p (before q next))
      ∙ ap (λ b. by found b (before p (before q next))) ((opens found).is p a d (before q next) mid)
      ∙ goes_on (P found) (λ a. while look P add (add found a)) (before p (before q next)) (before q next) a ((each found).takes p a d (before q next) mid)
      ∙ run_forbids new (add found a) q y f run g u

  pub reads_more : (found : S) → Reads misfit (more X add found) (while look P add found) (Past look Mid)
  reads_more found = record {
    some = some_more found;
    took = λ s all s' e. took_by (suc (length s.tokens)) found s (omega arith) all s' e;
    refused = λ s f s' e. refused_by (suc (length s.tokens)) found s (omega arith) f s' e;
    takes = λ ts all d u stop. run_takes d.0 found ts d.2 u stop ∙ ap (λ l. Ok (l, u)) d.1;
    forbids = λ ts f d u. ap (while look P add found) (ap (λ l. before l u) d.3 ∙ before-append d.1 d.2 u) ∙ run_forbids d.0 found d.1 d.2 f d.4 d.5 u;
  }
