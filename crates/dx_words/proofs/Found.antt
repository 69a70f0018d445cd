-- What the parser finds in a word of two dashes and more.
use Rattle.std.proofs.Common.{◌≡◌, refl, ℕ, suc, ◌+◌, ◌&&◌, List, [], ◌∷◌, ◌++◌, Option, Some, None, true, false, Bool, ap, sym, subst, ◌∙◌, codes, is_some, take, drop, length, arith, not, cond}
use Rattle.std.specs.Prelude.{if◌then◌else◌, ◌==◌, ◌||◌, nat_eq, map, find, option_map, String, string_bytes, Result, Ok, Err, IsErrOf, OnErr}
use Rattle.dx_words.specs.declared.words.WordsFail.{WordsFail}
use Rattle.dx_words.specs.declared.words.WordsFail.TheVariants.{Refused}
use Rattle.std.specs.Str.{bytes_eq}
use Rattle.std.specs.List.{starts_with, list_any, prefix_len}
use Rattle.std.specs.declared.alloc.Global.{Global}
use Rattle.std.specs.Cmp.{unsigned_Decides}
use Rattle.std.specs.Cmp.Lexicographic.{bytes_decides}
use Rattle.std.proofs.lemmas.Bool.{false_from_ne_true, false≢true}
use Rattle.std.proofs.lemmas.List.{take-append-drop}
use Rattle.clap.specs.Walk.{Text, Rule, Row, Walk, idle, nothing_held, walk_from, after_flag, after_step, long_met, arg_by_long, finished, settled, one_of, first_of, has_row}
use Rattle.clap.specs.Simple.{built, entered, matches_of, is_simple}
use Rattle.clap.specs.Faults.{fault_of, is_simple_and_free, long_fault, step_fault, settle_fault, defaults_fault, check_fault, entered_fault}
use Rattle.clap.specs.Kinds.{Kinds, or_else}
use Rattle.clap.specs.Lexer.{name_and_value}
use Rattle.clap.proofs.OnLiterals.{clap_on_literals}
use Rattle.dx_words.specs.Command.{options, is_long}
use Rattle.clap.specs.Walk.{rows_of, row_of}
use Rattle.clap.specs.Facts.{Entry}
use Rattle.clap.specs.Matches.{matched_of, one_text, first_value}
use Rattle.clap.specs.declared.parser.matches.Found.{Found}
use Rattle.clap.proofs.WalkLemmas.{one_text-rows, first_value-rows}
use Rattle.dx_words.specs.Command.{named_of}
use Rattle.dx_words.specs.Line.{Said, trace, links, memory, workload, said, text, texts}

pub simple : is_simple options ≡ true
simple = refl

pub free : is_simple_and_free options ≡ true
free = refl

abbrev rules : List Rule
rules = (built options).top.rules

-- ---- the parse of one word, by the argument of its name

-- what stands behind the two dashes, before and behind the `=`
abbrev name_of : ℕ → List ℕ → Text
name_of x xs = (name_and_value (x ∷ xs)).0

abbrev value_of : ℕ → List ℕ → Option Text
value_of x xs = (name_and_value (x ∷ xs)).1

-- where the walk over the word ends
unfoldable ended : Text → Option Rule → Option Text → Walk
unfolding clap_on_literals
ended w o v =
    let met = long_met rules o v nothing_held in
    let done = after_flag rules idle w met.0 met.1 in
    after_step rules w (walk_from nothing_held) done.0 done.1

abbrev rows_by : Text → Option Rule → Option Text → List Row
rows_by w o v = finished rules (ended w o v).held

abbrev fault_by : Text → Option Rule → Option Text → Kinds
fault_by w o v =
    let met = long_met rules o v nothing_held in
    let done = after_flag rules idle w met.0 met.1 in
    or_else (or_else (or_else (long_fault rules false o v nothing_held) (step_fault (built options).top 1 done.0 done.1)) [])
    (or_else (entered_fault (built options) (ended w o v).stopped)
    (or_else (settle_fault rules false (ended w o v).held)
    (or_else (defaults_fault (settled rules (ended w o v).held).rows rules)
    (check_fault (built options).top (finished rules (ended w o v).held) (is_some (entered (built options) (ended w o v).stopped))))))

rows_are : (x : ℕ) (xs : List ℕ) → matches_of options ((45 ∷ 45 ∷ x ∷ xs) ∷ []) ≡ rows_by (45 ∷ 45 ∷ x ∷ xs) (arg_by_long rules (name_of x xs)) (value_of x xs)
unfolding ended clap_on_literals
rows_are x xs = refl

fault_is : (x : ℕ) (xs : List ℕ) → fault_of options ((45 ∷ 45 ∷ x ∷ xs) ∷ []) ≡ fault_by (45 ∷ 45 ∷ x ∷ xs) (arg_by_long rules (name_of x xs)) (value_of x xs)
unfolding ended clap_on_literals
fault_is x xs = refl

-- ---- what is found

-- the option, by the rows of what was found
abbrev pub Shows : List Row → Said → Type 0
Shows rows trace = one_of (codes "trace") rows ≡ Some (codes "true")
Shows rows links = (one_of (codes "trace") rows ≡ Some (codes "false")) × (one_of (codes "links") rows ≡ Some (codes "true"))
Shows rows (memory v) = (one_of (codes "trace") rows ≡ Some (codes "false")) × (one_of (codes "links") rows ≡ Some (codes "false"))
    × (has_row (codes "memory") rows ≡ true) × (first_of (codes "memory") rows ≡ v)
Shows rows (workload v) = (one_of (codes "trace") rows ≡ Some (codes "false")) × (one_of (codes "links") rows ≡ Some (codes "false"))
    × (has_row (codes "memory") rows ≡ false) × (first_of (codes "workload") rows ≡ v)

-- the option and no fault, or a fault where there is no option
abbrev pub Finds : Kinds → List Row → Option Said → Type 0
Finds faults rows None = faults ≡ [] → ⊥
Finds faults rows (Some s) = (faults ≡ []) × Shows rows s

some_fault : {X : Type 0} (x : X) (xs : List X) → x ∷ xs ≡ [] → ⊥
some_fault x xs e = cc

-- ---- a word as the name and the value

abbrev rejoined : Text → Option Text → Text
rejoined n None = n
rejoined n (Some v) = n ++ 61 ∷ v

parted : (t : Text) → t ≡ rejoined (name_and_value t).0 (name_and_value t).1
parted [] = refl
parted (x ∷ xs) = go (x == 61) (list_any (λ y. y == 61) xs) (prefix_len (λ y. not (y == 61)) xs) (unsigned_Decides x 61).0 (parted xs)
  where
    go : (b has : Bool) (n : ℕ) → (b ≡ true → x ≡ 61) → xs ≡ rejoined (take n xs) (if has then Some (drop (n + 1) xs) else None)
        → x ∷ xs ≡ rejoined (take (cond (not b) (1 + n) 0) (x ∷ xs)) (if b || has then Some (drop (cond (not b) (1 + n) 0 + 1) (x ∷ xs)) else None)
    go true has n e h = ap (λ y. y ∷ xs) (e refl)
    go false true n e h =
        let one : 1 + n ≡ suc n = omega arith in
        let two : suc n + 1 ≡ suc (n + 1) = omega arith in
        rw (one, two) (ap (λ t. x ∷ t) h)
    go false false n e h =
        let one : 1 + n ≡ suc n = omega arith in
        rw one (ap (λ t. x ∷ t) h)

-- ---- the option of a word

abbrev flagged : Said → Option Text → Option Said
flagged s None = Some s
flagged s (Some v) = None

-- the option of a name, by which of the names it is
abbrev chosen : (t k m w : Bool) → Option Text → Option Said
chosen true k m w v = flagged trace v
chosen false true m w v = flagged links v
chosen false false true w v = Some (memory v)
chosen false false false true v = Some (workload v)
chosen false false false false v = None

trace_said : (v : Option Text) → said (45 ∷ 45 ∷ rejoined (codes "trace") v) ≡ flagged trace v
trace_said None = refl
trace_said (Some v) = refl

links_said : (v : Option Text) → said (45 ∷ 45 ∷ rejoined (codes "links") v) ≡ flagged links v
links_said None = refl
links_said (Some v) = refl

memory_said : (v : Option Text) → said (45 ∷ 45 ∷ rejoined (codes "memory") v) ≡ Some (memory v)
memory_said None = refl
memory_said (Some v) = refl

workload_said : (v : Option Text) → said (45 ∷ 45 ∷ rejoined (codes "workload") v) ≡ Some (workload v)
workload_said None = refl
workload_said (Some v) = refl

trace_finds : (w : Text) (v : Option Text) → Finds (fault_by w (arg_by_long rules (codes "trace")) v) (rows_by w (arg_by_long rules (codes "trace")) v) (flagged trace v)
unfolding ended clap_on_literals
trace_finds w None = (refl, refl)
trace_finds w (Some v) = some_fault _ _

links_finds : (w : Text) (v : Option Text) → Finds (fault_by w (arg_by_long rules (codes "links")) v) (rows_by w (arg_by_long rules (codes "links")) v) (flagged links v)
unfolding ended clap_on_literals
links_finds w None = (refl, (refl, refl))
links_finds w (Some v) = some_fault _ _

memory_finds : (w : Text) (v : Option Text) → Finds (fault_by w (arg_by_long rules (codes "memory")) v) (rows_by w (arg_by_long rules (codes "memory")) v) (Some (memory v))
unfolding ended clap_on_literals
memory_finds w None = (refl, (refl, refl, refl, refl))
memory_finds w (Some v) = (refl, (refl, refl, refl, refl))

workload_finds : (w : Text) (v : Option Text) → Finds (fault_by w (arg_by_long rules (codes "workload")) v) (rows_by w (arg_by_long rules (codes "workload")) v) (Some (workload v))
unfolding ended clap_on_literals
workload_finds w None = (refl, (refl, refl, refl, refl))
workload_finds w (Some v) = (refl, (refl, refl, refl, refl))

nothing_finds : (w : Text) (v : Option Text) → Finds (fault_by w None v) (rows_by w None v) None
unfolding ended clap_on_literals
nothing_finds w v = some_fault _ _

-- ---- the parse finds the option

-- of a word with this behind its dashes
abbrev AtWord : ℕ → List ℕ → Type 0
AtWord x xs = Finds (fault_by (45 ∷ 45 ∷ x ∷ xs) (arg_by_long rules (name_of x xs)) (value_of x xs)) (rows_by (45 ∷ 45 ∷ x ∷ xs) (arg_by_long rules (name_of x xs)) (value_of x xs)) (said (45 ∷ 45 ∷ x ∷ xs))

module _ (x : ℕ) (xs : List ℕ) where
  said_parted : (n : Text) → n ≡ name_of x xs → said (45 ∷ 45 ∷ x ∷ xs) ≡ said (45 ∷ 45 ∷ rejoined n (value_of x xs))
  said_parted n e = ap (λ t. said (45 ∷ 45 ∷ t)) (parted (x ∷ xs)) ∙ ap (λ m. said (45 ∷ 45 ∷ rejoined m (value_of x xs))) (sym e)

  at_name : (n : Text) (s : Option Said) → bytes_eq n (name_of x xs) ≡ true → said (45 ∷ 45 ∷ rejoined n (value_of x xs)) ≡ s
      → Finds (fault_by (45 ∷ 45 ∷ x ∷ xs) (arg_by_long rules n) (value_of x xs)) (rows_by (45 ∷ 45 ∷ x ∷ xs) (arg_by_long rules n) (value_of x xs)) s → AtWord x xs
  at_name n s e is finds =
      let same : n ≡ name_of x xs = (bytes_decides n (name_of x xs)).0 e in
      let as_said = subst (λ o. Finds (fault_by (45 ∷ 45 ∷ x ∷ xs) (arg_by_long rules n) (value_of x xs)) (rows_by (45 ∷ 45 ∷ x ∷ xs) (arg_by_long rules n) (value_of x xs)) o) (sym (said_parted n same ∙ is)) finds in
      subst (λ m. Finds (fault_by (45 ∷ 45 ∷ x ∷ xs) (arg_by_long rules m) (value_of x xs)) (rows_by (45 ∷ 45 ∷ x ∷ xs) (arg_by_long rules m) (value_of x xs)) (said (45 ∷ 45 ∷ x ∷ xs))) same as_said

  -- a word that isn't one of these whole words, since its name isn't
  other_word : (n : Text) → bytes_eq n (name_of x xs) ≡ false → bytes_eq n (name_and_value n).0 ≡ true → bytes_eq (45 ∷ 45 ∷ x ∷ xs) (45 ∷ 45 ∷ n) ≡ false
  other_word n e own = false_from_ne_true _ (λ h.
      let same : x ∷ xs ≡ n = ap (drop 2) ((bytes_decides (45 ∷ 45 ∷ x ∷ xs) (45 ∷ 45 ∷ n)).0 h) in
      false≢true (sym e ∙ ap (λ t. bytes_eq n (name_and_value t).0) same ∙ own))

  -- and one that doesn't begin so
  other_front : (n : Text) (k : ℕ) → length (codes "--" ++ n ++ codes "=") ≡ k → bytes_eq n (name_of x xs) ≡ false → ((rest : Text) → bytes_eq n (name_and_value (drop 2 (codes "--" ++ n ++ codes "=" ++ rest))).0 ≡ true)
      → starts_with nat_eq (45 ∷ 45 ∷ x ∷ xs) (codes "--" ++ n ++ codes "=") ≡ false
  other_front n k l e own = false_from_ne_true _ (λ h.
      let front = codes "--" ++ n ++ codes "=" in
      let word : Text = 45 ∷ 45 ∷ x ∷ xs in
      let same : front ≡ take (length front) word = (bytes_decides front (take (length front) word)).0 h in
      let whole : word ≡ front ++ drop (length front) word = sym (take-append-drop (length front) word) ∙ ap (λ f. f ++ drop (length front) word) (sym same) in
      false≢true (sym e ∙ ap (λ t. bytes_eq n (name_and_value (drop 2 t)).0) whole ∙ own (drop (length front) word)))

  at_no_name : bytes_eq (codes "trace") (name_of x xs) ≡ false → bytes_eq (codes "links") (name_of x xs) ≡ false → bytes_eq (codes "memory") (name_of x xs) ≡ false → bytes_eq (codes "workload") (name_of x xs) ≡ false → AtWord x xs
  at_no_name t k m w =
      let none : arg_by_long rules (name_of x xs) ≡ None = rw (t, k, m, w) refl in
      let t_word : bytes_eq (45 ∷ 45 ∷ x ∷ xs) (codes "--trace") ≡ false = other_word (codes "trace") t refl in
      let k_word : bytes_eq (45 ∷ 45 ∷ x ∷ xs) (codes "--links") ≡ false = other_word (codes "links") k refl in
      let m_word : bytes_eq (45 ∷ 45 ∷ x ∷ xs) (codes "--memory") ≡ false = other_word (codes "memory") m refl in
      let w_word : bytes_eq (45 ∷ 45 ∷ x ∷ xs) (codes "--workload") ≡ false = other_word (codes "workload") w refl in
      let m_front : starts_with nat_eq (45 ∷ 45 ∷ x ∷ xs) (codes "--memory=") ≡ false = other_front (codes "memory") 9 refl m (λ rest. refl) in
      let w_front : starts_with nat_eq (45 ∷ 45 ∷ x ∷ xs) (codes "--workload=") ≡ false = other_front (codes "workload") 11 refl w (λ rest. refl) in
      let is : said (45 ∷ 45 ∷ x ∷ xs) ≡ None = rw (t_word, k_word, m_word, w_word, m_front, w_front) refl in
      let found = subst (λ o. Finds (fault_by (45 ∷ 45 ∷ x ∷ xs) o (value_of x xs)) (rows_by (45 ∷ 45 ∷ x ∷ xs) o (value_of x xs)) None) (sym none) (nothing_finds (45 ∷ 45 ∷ x ∷ xs) (value_of x xs)) in
      subst (λ s. Finds (fault_by (45 ∷ 45 ∷ x ∷ xs) (arg_by_long rules (name_of x xs)) (value_of x xs)) (rows_by (45 ∷ 45 ∷ x ∷ xs) (arg_by_long rules (name_of x xs)) (value_of x xs)) s) (sym is) found

  at_word : AtWord x xs
  at_word = go (bytes_eq (codes "trace") (name_of x xs)) refl (bytes_eq (codes "links") (name_of x xs)) refl (bytes_eq (codes "memory") (name_of x xs)) refl (bytes_eq (codes "workload") (name_of x xs)) refl
    where
      go : (t : Bool) → bytes_eq (codes "trace") (name_of x xs) ≡ t → (k : Bool) → bytes_eq (codes "links") (name_of x xs) ≡ k → (m : Bool) → bytes_eq (codes "memory") (name_of x xs) ≡ m → (w : Bool) → bytes_eq (codes "workload") (name_of x xs) ≡ w → AtWord x xs
      go true t k ke m me w we = at_name (codes "trace") (flagged trace (value_of x xs)) t (trace_said (value_of x xs)) (trace_finds _ (value_of x xs))
      go false t true k m me w we = at_name (codes "links") (flagged links (value_of x xs)) k (links_said (value_of x xs)) (links_finds _ (value_of x xs))
      go false t false k true m w we = at_name (codes "memory") (Some (memory (value_of x xs))) m (memory_said (value_of x xs)) (memory_finds _ (value_of x xs))
      go false t false k false m true w = at_name (codes "workload") (Some (workload (value_of x xs))) w (workload_said (value_of x xs)) (workload_finds _ (value_of x xs))
      go false t false k false m false w = at_no_name t k m w

finds_dashed : (x : ℕ) (xs : List ℕ) → Finds (fault_of options ((45 ∷ 45 ∷ x ∷ xs) ∷ [])) (matches_of options ((45 ∷ 45 ∷ x ∷ xs) ∷ [])) (said (45 ∷ 45 ∷ x ∷ xs))
finds_dashed x xs =
    subst (λ f. Finds f (matches_of options ((45 ∷ 45 ∷ x ∷ xs) ∷ [])) (said (45 ∷ 45 ∷ x ∷ xs))) (sym (fault_is x xs))
    (subst (λ r. Finds (fault_by (45 ∷ 45 ∷ x ∷ xs) (arg_by_long rules (name_of x xs)) (value_of x xs)) r (said (45 ∷ 45 ∷ x ∷ xs))) (sym (rows_are x xs)) (at_word x xs))

finds_long : (w : Text) → is_long w ≡ true → Finds (fault_of options (w ∷ [])) (matches_of options (w ∷ [])) (said w)
finds_long [] h = cc
finds_long (a ∷ []) h = cc
finds_long (a ∷ b ∷ []) h = cc
finds_long (a ∷ b ∷ x ∷ xs) h =
    let first : a ≡ 45 = (unsigned_Decides a 45).0 (and_left (a == 45) (b == 45) h) in
    let second : b ≡ 45 = (unsigned_Decides b 45).0 (and_right (a == 45) (b == 45) h) in
    subst (λ p. Finds (fault_of options ((p ∷ b ∷ x ∷ xs) ∷ [])) (matches_of options ((p ∷ b ∷ x ∷ xs) ∷ [])) (said (p ∷ b ∷ x ∷ xs))) (sym first)
    (subst (λ p. Finds (fault_of options ((45 ∷ p ∷ x ∷ xs) ∷ [])) (matches_of options ((45 ∷ p ∷ x ∷ xs) ∷ [])) (said (45 ∷ p ∷ x ∷ xs))) (sym second) (finds_dashed x xs))
  where
    and_left : (p q : Bool) → (p && q) ≡ true → p ≡ true
    and_left true q e = refl
    and_left false q e = e

    and_right : (p q : Bool) → (p && q) ≡ true → q ≡ true
    and_right true q e = e
    and_right false q e = cc

-- of one word in the code
pub finds : (ws : List (String Global)) (f : Found) → length ws ≡ 1 → is_long (text ws) ≡ true → rows_of f ≡ matches_of options (texts ws) → Finds (fault_of options (texts ws)) (rows_of f) (said (text ws))
finds [] f one h rows = absurd (omega (arith, one))
finds (w ∷ []) f one h rows = subst (λ r. Finds (fault_of options (string_bytes w ∷ [])) r (said (string_bytes w))) (sym rows) (finds_long (string_bytes w) h)
finds (w ∷ v ∷ ws) f one h rows = absurd (omega (arith, one))

pub refuses : (ws : List (String Global)) → length ws ≡ 1 → is_long (text ws) ≡ true → (fault_of options (texts ws) ≡ [] → ⊥) → named_of (said (text ws)) ≡ None
refuses [] one h clean = absurd (omega (arith, one))
refuses (w ∷ []) one h clean = go (said (string_bytes w)) (finds_long (string_bytes w) h)
  where
    go : (o : Option Said) → Finds (fault_of options (string_bytes w ∷ [])) (matches_of options (string_bytes w ∷ [])) o → named_of o ≡ None
    go None f = refl
    go (Some s) f = absurd (clean f.0)
refuses (w ∷ v ∷ ws) one h clean = absurd (omega (arith, one))

pub not_long : (w : Text) → is_long w ≡ false → said w ≡ None
not_long w h =
    rw (no_word (codes "--trace") refl, no_word (codes "--links") refl, no_word (codes "--memory") refl, no_word (codes "--workload") refl, no_front (codes "--memory=") (λ r. refl), no_front (codes "--workload=") (λ r. refl)) refl
  where
    no_word : (v : Text) → is_long v ≡ true → bytes_eq w v ≡ false
    no_word v e = false_from_ne_true _ (λ same. false≢true (sym h ∙ ap is_long ((bytes_decides w v).0 same) ∙ e))

    no_front : (v : Text) → ((rest : Text) → is_long (v ++ rest) ≡ true) → starts_with nat_eq w v ≡ false
    no_front v e = false_from_ne_true _ (λ same.
        let whole : w ≡ v ++ drop (length v) w = sym (take-append-drop (length v) w) ∙ ap (λ f. f ++ drop (length v) w) (sym ((bytes_decides v (take (length v) w)).0 same)) in
        false≢true (sym h ∙ ap is_long whole ∙ e (drop (length v) w)))

-- ---- what the getters answer

-- a flag, by the text of its row
abbrev pub Says : Bool → Option Text → Type 0
Says f o = (o ≡ Some (codes "true") → f ≡ true) × (o ≡ Some (codes "false") → f ≡ false)

contained : (f : Found) (id : Text) → is_some (matched_of f id) ≡ has_row id (rows_of f)
contained f id = go f.entries.items
  where
    go : (es : List Entry) → is_some (option_map (λ e. e.1) (find (λ e. bytes_eq e.0.now id) es)) ≡ has_row id (map row_of es)
    go [] = refl
    go (e ∷ es) = by (bytes_eq e.0.now id) (go es)
      where
        by : (b : Bool) → is_some (option_map (λ e. e.1) (find (λ e. bytes_eq e.0.now id) es)) ≡ has_row id (map row_of es)
            → is_some (option_map (λ e. e.1) (cond b (Some e) (find (λ e. bytes_eq e.0.now id) es))) ≡ (b || has_row id (map row_of es))
        by true h = refl
        by false h = h

module _ (f : Found) (faults : Kinds) (o : Option Said) (h : Finds faults (rows_of f) o) (none : faults ≡ []) where
  pub is_trace : (b : Bool) → Says b (one_text f (codes "trace")) → b ≡ true → o ≡ Some trace
  is_trace b says e = go o h
    where
      go : (o : Option Said) → Finds faults (rows_of f) o → o ≡ Some trace
      go None n = absurd (n none)
      go (Some trace) s = refl
      go (Some links) s = absurd (false≢true (sym (says.1 (one_text-rows f (codes "trace") ∙ s.1.0)) ∙ e))
      go (Some (memory v)) s = absurd (false≢true (sym (says.1 (one_text-rows f (codes "trace") ∙ s.1.0)) ∙ e))
      go (Some (workload v)) s = absurd (false≢true (sym (says.1 (one_text-rows f (codes "trace") ∙ s.1.0)) ∙ e))

  pub is_links : (b d : Bool) → Says b (one_text f (codes "trace")) → b ≡ false → Says d (one_text f (codes "links")) → d ≡ true → o ≡ Some links
  is_links b d trace_says e says g = go o h
    where
      go : (o : Option Said) → Finds faults (rows_of f) o → o ≡ Some links
      go None n = absurd (n none)
      go (Some trace) s = absurd (false≢true (sym e ∙ trace_says.0 (one_text-rows f (codes "trace") ∙ s.1)))
      go (Some links) s = refl
      go (Some (memory v)) s = absurd (false≢true (sym (says.1 (one_text-rows f (codes "links") ∙ s.1.1)) ∙ g))
      go (Some (workload v)) s = absurd (false≢true (sym (says.1 (one_text-rows f (codes "links") ∙ s.1.1)) ∙ g))

  pub is_memory : (b d : Bool) → Says b (one_text f (codes "trace")) → b ≡ false → Says d (one_text f (codes "links")) → d ≡ false → is_some (matched_of f (codes "memory")) ≡ true → o ≡ Some (memory (first_value f (codes "memory")))
  is_memory b d trace_says e says g has = go o h
    where
      go : (o : Option Said) → Finds faults (rows_of f) o → o ≡ Some (memory (first_value f (codes "memory")))
      go None n = absurd (n none)
      go (Some trace) s = absurd (false≢true (sym e ∙ trace_says.0 (one_text-rows f (codes "trace") ∙ s.1)))
      go (Some links) s = absurd (false≢true (sym g ∙ says.0 (one_text-rows f (codes "links") ∙ s.1.1)))
      go (Some (memory v)) s = ap (λ x. Some (memory x)) (sym (first_value-rows f (codes "memory") ∙ s.1.3))
      go (Some (workload v)) s = absurd (false≢true (sym s.1.2 ∙ sym (contained f (codes "memory")) ∙ has))

  pub is_workload : (b d : Bool) → Says b (one_text f (codes "trace")) → b ≡ false → Says d (one_text f (codes "links")) → d ≡ false → is_some (matched_of f (codes "memory")) ≡ false → o ≡ Some (workload (first_value f (codes "workload")))
  is_workload b d trace_says e says g has = go o h
    where
      go : (o : Option Said) → Finds faults (rows_of f) o → o ≡ Some (workload (first_value f (codes "workload")))
      go None n = absurd (n none)
      go (Some trace) s = absurd (false≢true (sym e ∙ trace_says.0 (one_text-rows f (codes "trace") ∙ s.1)))
      go (Some links) s = absurd (false≢true (sym g ∙ says.0 (one_text-rows f (codes "links") ∙ s.1.1)))
      go (Some (memory v)) s = absurd (false≢true (sym has ∙ contained f (codes "memory") ∙ s.1.2))
      go (Some (workload v)) s = ap (λ x. Some (workload x)) (sym (first_value-rows f (codes "workload") ∙ s.1.3))

-- a refusal is an error
pub on_refused : {T : Type 0} {P : Type 0} (r : Result T WordsFail) → IsErrOf r Refused → OnErr r P → P
on_refused (Ok t) e h = cc
on_refused (Err f) e h = h
