-- Laws of what sessions print.
use Rattle.std.proofs.Common.{◌≡◌, ◌∙◌, ◌++◌, ◌∷◌, [], ℕ, List, Bool, false, refl, sym, ap, append_assoc}
use Rattle.dx_machine.specs.Machine.{Event}
use Rattle.dx_performing.specs.Execution.{Execution, Current}
use Rattle.dx_shown.specs.Made.{Coursed}
use Rattle.dx_shown.specs.Session.{Shown, Executes}
use Rattle.dx_telling.specs.Behind.{error_text, trace_text, links_text, if_asked}
use Rattle.dx_telling.specs.Shown.{text_of, shown_texts}
use Rattle.dx_telling.specs.declared.listings.Listings.{Listings}

-- what is shown first is printed first
pub texts_of_append : (asked : Listings) (xs ys : List (Shown Coursed)) → shown_texts asked (xs ++ ys) ≡ shown_texts asked xs ++ shown_texts asked ys
texts_of_append asked [] ys = refl
texts_of_append asked (x ∷ xs) ys =
    ap (λ (rest : List ℕ). text_of asked x ++ rest) (texts_of_append asked xs ys)
    ∙ sym (append_assoc (text_of asked x) (shown_texts asked xs) (shown_texts asked ys))

abbrev text_by : Listings → Execution → List ℕ → Current → List ℕ
text_by asked x trace behind = x.printed ++ (error_text x.error ++ trace ++ if_asked asked.links (links_text behind.links))

-- where no trace is asked for, it makes no difference what happened
pub untraced : (asked : Listings) (c d : Coursed) → asked.trace ≡ false → c.execution ≡ d.execution → c.behind ≡ d.behind →
    text_of asked (Executes c) ≡ text_of asked (Executes d)
untraced asked c d off same behind =
    let of : List Event → List ℕ = λ es. if_asked asked.trace (trace_text es) in
    let none : (es : List Event) → of es ≡ [] = λ es. ap (λ (b : Bool). if_asked b (trace_text es)) off in
    ap (λ (x : Execution). text_by asked x (of c.events) c.behind) same
    ∙ ap (λ (b : Current). text_by asked d.execution (of c.events) b) behind
    ∙ ap (λ (t : List ℕ). text_by asked d.execution t d.behind) (none c.events ∙ sym (none d.events))
