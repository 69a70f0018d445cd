-- A term needs runs that end as it denotes.
use Rattle.std.proofs.Common.{◌≡◌, ℕ, List, [], ◌∷◌, Bool, true, false, Option, Some, None, refl, sym, ap, subst}
use Rattle.std.specs.Prelude.{Result, Ok, Err}
use Rattle.dx_base.specs.declared.code.Code.{Code}
use Rattle.dx_base.specs.declared.function.Module.{Module}
use Rattle.dx_ast.specs.Value.{value_of}
use Rattle.dx_objects.specs.Runs.{Values, Answer}
use Rattle.dx_tags.specs.Closed.{ValueTerm, ConstantTerm, HeldTerm, ResultTerm, FileTerm, CallTerm, CallOf, ValueTerms, NoTerm, AndTerm}
use Rattle.dx_links.specs.Denotes.{Around, own_file, file_of, denotes, denoted_result, denoted_call, denoted_beside, results_of, all_denote}
use Rattle.dx_links.specs.Getting.{has_value}
use Rattle.dx_machine.specs.Machine.{Task, task_of}
use Rattle.dx_machine.specs.Agree.{Demanded, Runs, Refuses, more_of, then_of, answered, run_demanded, unless, demanded, call_demanded, all_demanded}
use Rattle.dx_meaning.specs.Outcome.{Value}
use Rattle.dx_meaning.specs.Scan.{with_file}

-- all is run, or a call refuses with the code
abbrev pub EndsAs : {A : Type 0} → Around → Result A Code → Demanded → Type 0
EndsAs a (Ok v) (Runs ts) = Unit {0}
EndsAs a (Ok v) (Refuses ts c code) = ⊥
EndsAs a (Err code) (Runs ts) = ⊥
EndsAs a (Err code) (Refuses ts c code') = (code' ≡ code) × (results_of a c ≡ Err code)

more_ends : {A : Type 0} (a : Around) (r : Result A Code) (ts : List Task) (d : Demanded) → EndsAs a r d → EndsAs a r (more_of ts d)
more_ends a (Ok v) ts (Runs us) h = tt
more_ends a (Ok v) ts (Refuses us c code) h = h
more_ends a (Err code) ts (Runs us) h = h
more_ends a (Err code) ts (Refuses us c code') h = h

-- one behind another
beside_ends : (a : Around) (r : Result Value Code) (rest : Answer) (d e : Demanded) → EndsAs a r d → EndsAs a rest e → EndsAs a (denoted_beside r rest) (then_of d e)
beside_ends a (Err code) rest (Refuses ts c code') e h k = h
beside_ends a (Err code) rest (Runs ts) e h k = absurd h
beside_ends a (Ok v) rest (Refuses ts c code') e h k = absurd h
beside_ends a (Ok v) (Err code) (Runs ts) e h k = more_ends {A = Values} a (Err code) ts e k
beside_ends a (Ok v) (Ok vs) (Runs ts) e h k = more_ends {A = Values} a (Ok (v ∷ vs)) ts e (same e k)
  where
    same : (e : Demanded) → EndsAs {A = Values} a (Ok vs) e → EndsAs {A = Values} a (Ok (v ∷ vs)) e
    same (Runs us) q = q
    same (Refuses us c code) q = q

answered_ends : (a : Around) (c : CallTerm) (task : Task) (r : Answer) → results_of a c ≡ r → EndsAs a r (answered c task r)
answered_ends a c task (Ok values) e = tt
answered_ends a c task (Err code) e = (refl, e)

-- a call behind its arguments
called_ends : (a : Around) (m : Module) (ts : ValueTerms) (all : Answer) (d : Demanded) → all_denote a ts ≡ all → EndsAs a all d → EndsAs a (denoted_call a m (own_file ts) all) (then_of d (run_demanded a m ts all))
called_ends a m ts (Err code) (Refuses us c code') e h = h
called_ends a m ts (Err code) (Runs us) e h = absurd h
called_ends a m ts (Ok values) (Refuses us c code') e h = absurd h
called_ends a m ts (Ok values) (Runs us) e h =
    more_ends a (a.answer m values (file_of a m values (own_file ts))) us (answered (CallOf m ts) (task_of m ts values) (a.answer m values (file_of a m values (own_file ts))))
    (answered_ends a (CallOf m ts) (task_of m ts values) (a.answer m values (file_of a m values (own_file ts))) (ap (denoted_call a m (own_file ts)) e))

pub result_ends : (a : Around) (result : ℕ) (r : Answer) (d : Demanded) → EndsAs a r d → EndsAs a (denoted_result result r) d
result_ends a result (Ok values) (Runs ts) h = tt
result_ends a result (Ok values) (Refuses ts c code) h = h
result_ends a result (Err code) (Runs ts) h = h
result_ends a result (Err code) (Refuses ts c code') h = h

-- each of these terms denotes a value
abbrev pub AreValued : Around → List ValueTerm → Type 0
AreValued a links = (t : ValueTerm) → has_value links t ≡ true → (v : Value) × (denotes a t ≡ Ok v)

unless_ends : (a : Around) (b : Bool) (r : Result Value Code) (d : Demanded) → (b ≡ true → (v : Value) × (r ≡ Ok v)) → EndsAs a r d → EndsAs a r (unless b d)
unless_ends a true r d f h = let v = f refl in subst (λ q. EndsAs a q (Runs [])) (sym v.1) tt
unless_ends a false r d f h = h

mutual
  pub term_ends : (a : Around) (links : List ValueTerm) → AreValued a links → (t : ValueTerm) → EndsAs a (denotes a t) (demanded a links t)
  term_ends a links f (ConstantTerm c) = tt
  term_ends a links f (HeldTerm n) = tt
  term_ends a links f (FileTerm b) = tt
  term_ends a links f (ResultTerm r c) = unless_ends a (has_value links (ResultTerm r c)) (denotes a (ResultTerm r c)) (call_demanded a links c) (f (ResultTerm r c)) (result_ends a r (results_of a c) (call_demanded a links c) (call_ends a links f c))

  pub call_ends : (a : Around) (links : List ValueTerm) → AreValued a links → (c : CallTerm) → EndsAs a (results_of a c) (call_demanded a links c)
  call_ends a links f (CallOf m ts) = called_ends a m ts (all_denote a ts) (all_demanded a links ts) refl (terms_end a links f ts)

  pub terms_end : (a : Around) (links : List ValueTerm) → AreValued a links → (ts : ValueTerms) → EndsAs a (all_denote a ts) (all_demanded a links ts)
  terms_end a links f NoTerm = tt
  terms_end a links f (AndTerm (FileTerm b) ts) = more_ends a (all_denote a ts) [] (all_demanded a links ts) (terms_end a links f ts)
  terms_end a links f (AndTerm (ConstantTerm c) ts) = beside_ends a (Ok (value_of c)) (all_denote a ts) (Runs []) (all_demanded a links ts) tt (terms_end a links f ts)
  terms_end a links f (AndTerm (HeldTerm n) ts) = beside_ends a (Ok (a.held n)) (all_denote a ts) (Runs []) (all_demanded a links ts) tt (terms_end a links f ts)
  terms_end a links f (AndTerm (ResultTerm r c) ts) =
      beside_ends a (denotes a (ResultTerm r c)) (all_denote a ts) (demanded a links (ResultTerm r c)) (all_demanded a links ts)
      (unless_ends a (has_value links (ResultTerm r c)) (denotes a (ResultTerm r c)) (call_demanded a links c) (f (ResultTerm r c)) (result_ends a r (results_of a c) (call_demanded a links c) (call_ends a links f c)))
      (terms_end a links f ts)

-- ---- files need nothing

pub file_needs_none : (a : Around) (links : List ValueTerm) (ts : ValueTerms) (file : Option (List ℕ)) → all_demanded a links (with_file ts file) ≡ all_demanded a links ts
file_needs_none a links NoTerm None = refl
file_needs_none a links NoTerm (Some b) = refl
file_needs_none a links (AndTerm t ts) file = ap (then_of (demanded a links t)) (file_needs_none a links ts file)

pub file_denotes_none : (a : Around) (ts : ValueTerms) (file : Option (List ℕ)) → all_denote a (with_file ts file) ≡ all_denote a ts
file_denotes_none a NoTerm None = refl
file_denotes_none a NoTerm (Some b) = refl
file_denotes_none a (AndTerm (FileTerm b) ts) file = file_denotes_none a ts file
file_denotes_none a (AndTerm (ConstantTerm c) ts) file = ap (denoted_beside (Ok (value_of c))) (file_denotes_none a ts file)
file_denotes_none a (AndTerm (HeldTerm n) ts) file = ap (denoted_beside (Ok (a.held n))) (file_denotes_none a ts file)
file_denotes_none a (AndTerm (ResultTerm r c) ts) file = ap (denoted_beside (denoted_result r (results_of a c))) (file_denotes_none a ts file)

-- a link's term needs nothing
pub link_needs_none : (a : Around) (links : List ValueTerm) (t : ValueTerm) → has_value links t ≡ true → demanded a links t ≡ Runs []
link_needs_none a links (ConstantTerm c) e = refl
link_needs_none a links (HeldTerm n) e = refl
link_needs_none a links (FileTerm b) e = refl
link_needs_none a links (ResultTerm r c) e = ap (λ b. unless b (call_demanded a links c)) e
