-- What was formed first keeps its site and its attribute.
use Rattle.std.proofs.Common.{◌≡◌, List, [], ◌∷◌, ◌++◌, Bool, true, false, refl, sym, ap, ◌∙◌, subst, append_assoc, append-nil}
use Rattle.std.specs.Prelude.{map, ◌||◌, if◌then◌else◌}
use Rattle.dx_tags.specs.Closed.{CallTerm}
use Rattle.dx_links.specs.Getting.{same_call}
use Rattle.dx_machine.specs.Machine.{FormedCall, site_of, attribute_of}
use Rattle.dx_machine.specs.Covered.{is_formed}
use Rattle.dx_meaning.specs.Met.{Called}
use Rattle.dx_meaning.specs.Forming.{Formed, FormsValue, FormsCall, Formings, is_called, forming, after}
use Rattle.dx_performing.specs.Course.{formed_call, formed_calls}
use Rattle.dx_performing.specs.Alike.{SameCalls}
use Rattle.dx_resuming.specs.Staying.{FormedStays}

-- ---- what stands behind changes nothing

cases : {P : Type 0} (b : Bool) → (b ≡ true → P) → (b ≡ false → P) → P
cases true f g = f refl
cases false f g = g refl

pub site_behind : (fs gs : List FormedCall) (c : CallTerm) → is_formed fs c ≡ true → site_of (fs ++ gs) c ≡ site_of fs c
site_behind [] gs c h = cc
site_behind (f ∷ fs) gs c h = cases (same_call f.call c) (λ e. rw e refl) (λ e. rw e (site_behind fs gs c (subst (λ b. (b || is_formed fs c) ≡ true) e h)))

pub attribute_behind : (fs gs : List FormedCall) (c : CallTerm) → is_formed fs c ≡ true → attribute_of (fs ++ gs) c ≡ attribute_of fs c
attribute_behind [] gs c h = cc
attribute_behind (f ∷ fs) gs c h = cases (same_call f.call c) (λ e. rw e refl) (λ e. rw e (attribute_behind fs gs c (subst (λ b. (b || is_formed fs c) ≡ true) e h)))

pub same_behind : (fs gs : List FormedCall) → SameCalls fs (fs ++ gs)
same_behind fs gs = record { sites = site_behind fs gs; attributes = attribute_behind fs gs }

-- ---- what is formed goes last

abbrev pub GoesOn : List Called → List Called → Type 0
GoesOn cs ds = (more : List Called) × (ds ≡ cs ++ more)

goes_on_same : (cs : List Called) → GoesOn cs cs
goes_on_same cs = ([], sym (append-nil cs))

goes_on_then : (a b c : List Called) → GoesOn a b → GoesOn b c → GoesOn a c
goes_on_then a b c g h = (g.0 ++ h.0, h.1 ∙ ap (λ xs. xs ++ h.0) g.1 ∙ append_assoc a g.0 h.0)

called_goes_on : (b : Bool) (c : Called) (cs : List Called) → GoesOn cs (if b then cs else cs ++ c ∷ [])
called_goes_on true c cs = goes_on_same cs
called_goes_on false c cs = (c ∷ [], refl)

forming_goes_on : (f : Formed) (was : Formings) → GoesOn was.calls (forming f was).calls
forming_goes_on (FormsValue t) was = goes_on_same was.calls
forming_goes_on (FormsCall c) was = called_goes_on (is_called was.calls c.call) c was.calls

pub after_goes_on : (fs : List Formed) (was : Formings) → GoesOn was.calls (after fs was).calls
after_goes_on [] was = goes_on_same was.calls
after_goes_on (f ∷ fs) was = goes_on_then was.calls (forming f was).calls (after fs (forming f was)).calls (forming_goes_on f was) (after_goes_on fs (forming f was))

map_behind : {A B : Type 0} (f : A → B) (xs ys : List A) → map f (xs ++ ys) ≡ map f xs ++ map f ys
map_behind f [] ys = refl
map_behind f (x ∷ xs) ys = ap (λ zs. f x ∷ zs) (map_behind f xs ys)

pub formed_stays : FormedStays
formed_stays fs was =
    let g = after_goes_on fs was in
    subst (SameCalls (formed_calls was)) (sym (ap (map formed_call) g.1 ∙ map_behind formed_call was.calls g.0)) (same_behind (formed_calls was) (map formed_call g.0))
