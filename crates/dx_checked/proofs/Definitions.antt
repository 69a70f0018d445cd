-- Definitions that are known, and what follows for an assignment over them.
use Rattle.std.proofs.Common.{◌≡◌, ◌∙◌, ◌++◌, ℕ, zero, suc, ◌<◌, ◌≤◌, ◌+◌, List, [], ◌∷◌, length, Option, Some, None, Bool, true, false, refl, ap, subst, arith}
use Rattle.std.specs.Prelude.{slice_index_or, slice_set, replicate, is_some, IfSome}
use Rattle.dx_ast.specs.Classes.{Text}
use Rattle.dx_base.specs.NameLists.{has}
use Rattle.dx_definitions.specs.TopTexts.{TopText, definition}
use Rattle.dx_macros.specs.Dictionary.{Macros, Dictionary, with_definition}
use Rattle.dx_macros.specs.Site.{first_target}
use Rattle.dx_macros.specs.Walk.{Walk, Walked, Goes, pick, Reader, walk_text, read_definition, reader_at, walk_begins, walk_of, fault_in}
use Rattle.dx_checked.specs.Own.{counted, GoesOn, Fits, NamesFit, Reaches}
use Rattle.dx_checked.specs.Known.{DefinitionFits, FirstFit, total, IsKnown}
use Rattle.dx_checked.specs.declared.known.Known.{Known}
use Rattle.dx_checked.proofs.Parts.{nothing}

-- ---- more that is known

pub learned : (macros : Macros) (k : ℕ) (ts : List TopText) (ns : List ℕ) (n : ℕ) → k < length ts → FirstFit macros k ts ns → DefinitionFits macros (definition ts k) n → FirstFit macros (suc k) ts (ns ++ n ∷ [])
learned macros zero [] ns n h f d = absurd (omega (arith, h))
learned macros zero (t ∷ ts) [] n h f d = (d, tt)
learned macros zero (t ∷ ts) (x ∷ ns) n h f d = absurd f
learned macros (suc k) [] ns n h f d = absurd (omega (arith, h))
learned macros (suc k) (t ∷ ts) [] n h f d = absurd f
learned macros (suc k) (t ∷ ts) (x ∷ ns) n h f d = (f.0, learned macros k ts ns n (omega (arith, h)) f.1 d)

pub total_more : (ns : List ℕ) (n : ℕ) → total (ns ++ n ∷ []) ≡ total ns + n
total_more [] n = omega arith
total_more (x ∷ ns) n = let h = total_more ns n in omega (arith, h)

-- definitions that join change nothing of the first ones
pub kept : (macros : Macros) (k : ℕ) (ts more : List TopText) (ns : List ℕ) → FirstFit macros k ts ns → FirstFit macros k (ts ++ more) ns
kept macros zero ts more [] f = tt
kept macros zero ts more (n ∷ ns) f = absurd f
kept macros (suc k) [] more ns f = absurd f
kept macros (suc k) (t ∷ ts) more [] f = absurd f
kept macros (suc k) (t ∷ ts) more (n ∷ ns) f = (f.0, kept macros k ts more ns f.1)

-- a definition that joins behind the others leaves what is known
pub known_behind : (d : Dictionary) (known : Known) (t : TopText) → IsKnown d known → IsKnown (with_definition t d) known
known_behind d known t is = record { own = is.own; fit = kept d.macros known.definitions d.definitions (t ∷ []) is.own is.fit; calls = is.calls; bound = is.bound }

-- ---- what is counted ahead

-- the calls of the definitions that aren't marked
pub ahead_of : List ℕ → List Bool → ℕ
ahead_of [] read = 0
ahead_of (n ∷ ns) [] = 0
ahead_of (n ∷ ns) (true ∷ read) = ahead_of ns read
ahead_of (n ∷ ns) (false ∷ read) = n + ahead_of ns read

-- a definition that is marked isn't counted ahead any more
pub marking : (macros : Macros) (k i : ℕ) (ts : List TopText) (ns : List ℕ) → i < k → FirstFit macros k ts ns →
    (n : ℕ) × DefinitionFits macros (definition ts i) n × ((read : List Bool) → length read ≡ k → slice_index_or read i false ≡ false → ahead_of ns (slice_set read i true) + n ≡ ahead_of ns read)
unfolding ahead_of
marking macros zero i ts ns h f = absurd (omega (arith, h))
marking macros (suc k) i [] ns h f = absurd f
marking macros (suc k) i (t ∷ ts) [] h f = absurd f
marking macros (suc k) zero (t ∷ ts) (n ∷ ns) h f = (n, f.0, by)
  where
    by : (read : List Bool) → length read ≡ suc k → slice_index_or read zero false ≡ false → ahead_of (n ∷ ns) (slice_set read zero true) + n ≡ ahead_of (n ∷ ns) read
    by [] len e = cc
    by (true ∷ read) len e = cc
    by (false ∷ read) len e = omega arith
marking macros (suc k) (suc i) (t ∷ ts) (n ∷ ns) h f = let m = marking macros k i ts ns (omega (arith, h)) f.1 in (m.0, m.1, by m.0 m.2)
  where
    by : (x : ℕ) → ((read : List Bool) → length read ≡ k → slice_index_or read i false ≡ false → ahead_of ns (slice_set read i true) + x ≡ ahead_of ns read) → (read : List Bool) → length read ≡ suc k → slice_index_or read (suc i) false ≡ false → ahead_of (n ∷ ns) (slice_set read (suc i) true) + x ≡ ahead_of (n ∷ ns) read
    by x inner [] len e = cc
    by x inner (true ∷ read) len e = inner read (omega (arith, len)) e
    by x inner (false ∷ read) len e = let same = inner read (omega (arith, len)) e in omega (arith, same)

pub nothing_read : (macros : Macros) (k : ℕ) (ts : List TopText) (ns : List ℕ) → FirstFit macros k ts ns → ahead_of ns (replicate k false) ≡ total ns
unfolding ahead_of
nothing_read macros zero ts [] f = refl
nothing_read macros zero ts (n ∷ ns) f = absurd f
nothing_read macros (suc k) [] ns f = absurd f
nothing_read macros (suc k) (t ∷ ts) [] f = absurd f
nothing_read macros (suc k) (t ∷ ts) (n ∷ ns) f = ap (λ m. n + m) (nothing_read macros k ts ns f.1)

same_length : (xs : List Bool) (i : ℕ) (b : Bool) → length (slice_set xs i b) ≡ length xs
same_length [] i b = refl
same_length (x ∷ xs) zero b = refl
same_length (x ∷ xs) (suc i) b = ap suc (same_length xs i b)

length_replicate : (k : ℕ) → length (replicate k false) ≡ k
length_replicate zero = refl
length_replicate (suc k) = ap suc (length_replicate k)

-- ---- names

module _ (macros : Macros) (k : ℕ) (ts : List TopText) (ns : List ℕ) (fit : FirstFit macros k ts ns) where
  read_by : (i : ℕ) → i < k → (read : Reader) → NamesFit (ahead_of ns) k read → (w : Walk) → length w.read ≡ k → counted (ahead_of ns) w + 0 ≤ 65536 → (b : Bool) → slice_index_or w.read i false ≡ b →
      GoesOn (ahead_of ns) 0 w (pick b Goes (λ w1. walk_text macros read (definition ts i) (record { calls = w1.calls; read = slice_set w1.read i true })) w)
  read_by i h read reads w len room true e = nothing (ahead_of ns) k w len room
  read_by i h read reads w len room false e =
      let m = marking macros k i ts ns h fit in
      let t = definition ts i in
      let w1 : Walk = record { calls = w.calls; read = slice_set w.read i true } in
      let paid = m.2 w.read len e in
      let a = m.1 (ahead_of ns) k read read reads reads (first_target t.targets) [] w1 (same_length w.read i true ∙ len) (omega (arith, paid, room)) in
      (a.0, a.1, a.2 ∙ same_length w.read i true, (let le = a.3 in omega (arith, le, paid)))

  name_by : (i : ℕ) → i < k → NamesFit (ahead_of ns) k (reader_at macros ts i) → (name : Text) (b : Bool) → Fits (ahead_of ns) k 0 (pick b (read_definition macros (reader_at macros ts i) i (definition ts i)) (reader_at macros ts i name))
  name_by i h before name true w len room = read_by i h (reader_at macros ts i) before w len room (slice_index_or w.read i false) refl
  name_by i h before name false w len room = before name w len room

  pub readers_fit : (i : ℕ) → i ≤ k → NamesFit (ahead_of ns) k (reader_at macros ts i)
  readers_fit zero h name = nothing (ahead_of ns) k
  readers_fit (suc i) h name = name_by i (omega (arith, h)) (readers_fit i (omega (arith, h))) name (has (definition ts i).targets name)

-- ---- an assignment

goes_none : (a : Walked) (w : Walk) → a ≡ Goes w → fault_in a ≡ None
goes_none a w e = ap fault_in e

-- over definitions all of which are known, with calls of its own that have no fault and for which there is room
pub no_fault : (d : Dictionary) (known : Known) (t : TopText) (n : ℕ) → IsKnown d known → known.definitions ≡ length d.definitions → Reaches known.calls n (DefinitionFits d.macros t) → fault_in (walk_of d t) ≡ None
no_fault d known t n is all own =
    let k = length d.definitions in
    let fit = subst (λ (m : ℕ). FirstFit d.macros m d.definitions is.own) all is.fit in
    let reads = readers_fit d.macros k d.definitions is.own fit k (omega arith) in
    let none = nothing_read d.macros k d.definitions is.own fit in
    let reached = own.1 in
    let bound = own.2 in
    let so_far = is.calls in
    let a = own.3 (ahead_of is.own) k (reader_at d.macros d.definitions k) (reader_at d.macros d.definitions k) reads reads (first_target t.targets) [] (walk_begins d) (length_replicate k) (omega (arith, none, reached, bound, so_far)) in
    goes_none (walk_of d t) a.0 a.1

-- the same where the number of its calls was found
pub no_fault_by : (d : Dictionary) (known : Known) (t : TopText) (found : Option ℕ) → IsKnown d known → known.definitions ≡ length d.definitions → IfSome found (λ n. Reaches known.calls n (DefinitionFits d.macros t)) → is_some found ≡ true → fault_in (walk_of d t) ≡ None
no_fault_by d known t None is all own h = cc
no_fault_by d known t (Some n) is all own h = no_fault d known t n is all own
