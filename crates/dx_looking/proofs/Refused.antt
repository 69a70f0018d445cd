-- A getting that is refused has the code that its term denotes.
use Rattle.std.proofs.Common.{◌≡◌, ℕ, Bool, true, false, List, [], ◌∷◌, Option, None, refl, sym, ap, ◌∙◌, subst}
use Rattle.std.specs.Prelude.{Result, Ok, Err}
use Rattle.dx_base.specs.Object.{Tree}
use Rattle.dx_base.specs.declared.code.Code.{Code}
use Rattle.dx_base.specs.declared.function.Module.{Module}
use Rattle.dx_objects.specs.Runs.{Answer}
use Rattle.dx_objects.specs.Values.{value_at}
use Rattle.dx_ast.specs.Value.{value_of}
use Rattle.dx_tags.specs.Closed.{ValueTerm, ConstantTerm, HeldTerm, ResultTerm, FileTerm, CallTerm, CallOf, ValueTerms, NoTerm, AndTerm}
use Rattle.dx_links.specs.Denotes.{Around, denotes, results_of, own_file, file_of, all_denote, denoted_result, denoted_beside, denoted_call}
use Rattle.dx_links.specs.Getting.{has_value}
use Rattle.dx_machine.specs.Machine.{Frame, State, Stopped, Task, task_of, get}
use Rattle.dx_machine.specs.Sound.{HaveAttributes, IsSound}
use Rattle.dx_machine.specs.Agree.{Demanded, Runs, Refuses, more_of, then_of, answered, run_demanded, unless, demanded, call_demanded, all_demanded, Agrees}
use Rattle.dx_machine.proofs.Agreeing.{getting_agrees}

abbrev Says : {A : Type 0} → Demanded → Result A Code → Type 0
Says {A} (Runs ts) r = (v : A) × (r ≡ Ok v)
Says (Refuses ts c code) r = r ≡ Err code

says_more : {A : Type 0} (before : List Task) (d : Demanded) (r : Result A Code) → Says d r → Says (more_of before d) r
says_more before (Runs ts) r h = h
says_more before (Refuses ts c code) r h = h

-- the links' terms denote values
abbrev pub LinksHave : Around → List ValueTerm → Type 0
LinksHave a links = (t : ValueTerm) → has_value links t ≡ true → (v : Option Tree) × (denotes a t ≡ Ok v)

answered_says : (c : CallTerm) (task : Task) (r : Answer) → Says (answered c task r) r
answered_says c task (Ok results) = (results, refl)
answered_says c task (Err code) = refl

run_says : (a : Around) (m : Module) (ts : ValueTerms) (d : Demanded) (all : Answer) → Says d all → Says (then_of d (run_demanded a m ts all)) (denoted_call a m (own_file ts) all)
run_says a m ts (Runs us) all h =
    let e = h.1 in
    rw e (says_more us (answered (CallOf m ts) (task_of m ts h.0) (a.answer m h.0 (file_of a m h.0 (own_file ts)))) (a.answer m h.0 (file_of a m h.0 (own_file ts)))
    (answered_says (CallOf m ts) (task_of m ts h.0) (a.answer m h.0 (file_of a m h.0 (own_file ts)))))
run_says a m ts (Refuses us c code) all h = rw h refl

result_says : (result : ℕ) (d : Demanded) (r : Answer) → Says d r → Says d (denoted_result result r)
result_says result (Runs ts) r h = rw h.1 (value_at h.0 result, refl)
result_says result (Refuses ts c code) r h = rw h refl

unless_says : {A : Type 0} (b : Bool) (d : Demanded) (r : Result A Code) → (b ≡ true → (v : A) × (r ≡ Ok v)) → Says d r → Says (unless b d) r
unless_says true d r h k = h refl
unless_says false d r h k = k

beside_says : (d e : Demanded) (v : Result (Option Tree) Code) (rest : Answer) → Says d v → Says e rest → Says (then_of d e) (denoted_beside v rest)
beside_says (Runs ts) (Runs us) v rest h k = rw (h.1, k.1) (h.0 ∷ k.0, refl)
beside_says (Runs ts) (Refuses us c code) v rest h k = rw (h.1, k) refl
beside_says (Refuses ts c code) e v rest h k = rw h refl

mutual
  value_says : (a : Around) (links : List ValueTerm) → LinksHave a links → (t : ValueTerm) → Says (demanded a links t) (denotes a t)
  value_says a links l (ConstantTerm c) = (value_of c, refl)
  value_says a links l (HeldTerm n) = (a.held n, refl)
  value_says a links l (FileTerm b) = (None, refl)
  value_says a links l (ResultTerm result c) =
      unless_says (has_value links (ResultTerm result c)) (call_demanded a links c) (denotes a (ResultTerm result c)) (l (ResultTerm result c)) (result_says result (call_demanded a links c) (results_of a c) (call_says a links l c))

  call_says : (a : Around) (links : List ValueTerm) → LinksHave a links → (c : CallTerm) → Says (call_demanded a links c) (results_of a c)
  call_says a links l (CallOf m ts) = run_says a m ts (all_demanded a links ts) (all_denote a ts) (all_says a links l ts)

  all_says : (a : Around) (links : List ValueTerm) → LinksHave a links → (ts : ValueTerms) → Says (all_demanded a links ts) (all_denote a ts)
  all_says a links l NoTerm = ([], refl)
  all_says a links l (AndTerm (FileTerm b) ts) = says_more [] (all_demanded a links ts) (all_denote a ts) (all_says a links l ts)
  all_says a links l (AndTerm (ConstantTerm c) ts) = beside_says (Runs []) (all_demanded a links ts) (Ok (value_of c)) (all_denote a ts) (value_of c, refl) (all_says a links l ts)
  all_says a links l (AndTerm (HeldTerm n) ts) = beside_says (Runs []) (all_demanded a links ts) (Ok (a.held n)) (all_denote a ts) (a.held n, refl) (all_says a links l ts)
  all_says a links l (AndTerm (ResultTerm result c) ts) =
      beside_says (demanded a links (ResultTerm result c)) (all_demanded a links ts) (denotes a (ResultTerm result c)) (all_denote a ts) (value_says a links l (ResultTerm result c)) (all_says a links l ts)

refused_code : (s : State) (d : Demanded) (c : CallTerm) (code : Code) (s' : State) (r : Result (Option Tree) Code) → Agrees s d (Stopped c code s') → Says d r → r ≡ Err code
refused_code s (Runs ts) c code s' r h k = absurd h
refused_code s (Refuses ts d code') c code s' r h k = k ∙ ap Err (sym h.1)

pub refused_denotes : (k : Frame) (t : ValueTerm) (s : State) → HaveAttributes k.formed → IsSound k.around k.budget s → LinksHave k.around k.links → (c : CallTerm) (code : Code) (s' : State) → get k t s ≡ Stopped c code s' → denotes k.around t ≡ Err code
refused_denotes k t s att sound l c code s' e =
    refused_code s (demanded k.around k.links t) c code s' (denotes k.around t) (subst (Agrees s (demanded k.around k.links t)) e (getting_agrees k t s att sound)) (value_says k.around k.links l t)
