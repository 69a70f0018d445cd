-- Of what was cut short a front is there.
use Rattle.std.proofs.Common.{◌≡◌, ℕ, List, ◌++◌, Bool, Option, sym, ap, subst, ◌∙◌, append_assoc}
use Rattle.dx_io.specs.Devices.{Grows, GrowsInto}
use Rattle.dx_io.proofs.Growing.{grows_on_into}
use Rattle.dx_machine.specs.Machine.{tasks_of}
use Rattle.dx_engine.specs.Executing.{Devices}
use Rattle.dx_engine.proofs.Fronts.{front_later}
use Rattle.dx_shown.specs.Made.{Coursed}
use Rattle.dx_shown.specs.Session.{Shown}
use Rattle.dx_shown.specs.Listed.{of_executions, all_exports, all_tasks}
use Rattle.dx_telling.specs.Shown.{shown_texts}
use Rattle.dx_telling.specs.declared.listings.Listings.{Listings}
use Rattle.dx_telling.proofs.Texts.{texts_of_append}
use Rattle.dx_sessions.specs.Does.{IsFront, IsCutShort}
use Rattle.dx_sessions.proofs.Folding.{executions_append, adds_front_on}

-- a front of the second part of three
second_part : {A : Type 0} (told between now : Option (List A)) (a b c : List A) → Grows told between a → GrowsInto between now b → GrowsInto told now (a ++ (b ++ c))
second_part told between now a b c first (front, rest, split, grown) =
    grows_on_into told between now a (b ++ c) first (front, rest ++ c, ap (λ xs. xs ++ c) split ∙ append_assoc front rest c, grown)

-- what is listed of three parts
three : {A : Type 0} (f : Coursed → List A) (a b c : List (Shown Coursed)) → of_executions f (a ++ (b ++ c)) ≡ of_executions f a ++ (of_executions f b ++ of_executions f c)
three f a b c = executions_append f a (b ++ c) ∙ ap (λ xs. of_executions f a ++ xs) (executions_append f b c)

pub front_of_cut : (ahead : Bool) (l : Listings) (shown : List (Shown Coursed)) (was now : Devices) → IsCutShort ahead l shown was now → IsFront ahead l shown was now
front_of_cut ahead l shown was now cut =
    let a = cut.before in
    let b = cut.next in
    let c = cut.rest in
    let texts : shown_texts l (a ++ (b ++ c)) ≡ shown_texts l a ++ (shown_texts l b ++ shown_texts l c) =
    texts_of_append l a (b ++ c) ∙ ap (λ (xs : List ℕ). shown_texts l a ++ xs) (texts_of_append l b c) in
    let some : IsFront ahead l (a ++ (b ++ c)) was now =
    record {
      printed = subst (GrowsInto was.written now.written) (sym texts) (second_part was.written cut.between.written now.written (shown_texts l a) (shown_texts l b) (shown_texts l c) cut.whole.printed cut.front.printed);
      puts = subst (GrowsInto was.puts now.puts) (sym (three (λ (x : Coursed). x.execution.exports) a b c)) (second_part was.puts cut.between.puts now.puts (all_exports a) (all_exports b) (all_exports c) cut.whole.puts cut.front.puts);
      told = front_later ahead was.told now.told (all_tasks a ++ all_tasks b) (all_tasks c) (all_tasks (a ++ (b ++ c))) (adds_front_on ahead was.told cut.between.told now.told (all_tasks a) (all_tasks b) cut.whole.told cut.front.told)
          (three (λ (x : Coursed). tasks_of x.events) a b c ∙ sym (append_assoc (all_tasks a) (all_tasks b) (all_tasks c)));
    } in
    subst (λ (xs : List (Shown Coursed)). IsFront ahead l xs was now) (sym cut.all) some
